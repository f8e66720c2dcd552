-- `summary::put_column` meets its contract: what is left to put, after what was put, is the whole. Assumes nothing.
use Rattle.std.proofs.Common.{◌≡◌, ◌+◌, length, length-take, arith, rules}
use Rattle.summary.proofs.Column.{party_room, party_next, party_all}
use Rattle.summary.proofs.put_column.Goals as goal

pub put_party-at-requires : goal.put_party-at-requires
put_party-at-requires c =
    let args = c.args in
    let turn = c.loop-p in
    let few = length-take (args.sites + 1) args.column in
    let room = party_room args.sites args.column args.text.now args.place turn.text turn.at turn.p turn.invariant (omega (arith, few)) in
    omega (arith, room, c.requires.1)

pub loop-p-preserved : goal.loop-p-preserved
loop-p-preserved c =
    let args = c.args in
    let turn = c.loop-p in
    let few = length-take (args.sites + 1) args.column in
    party_next args.sites args.column args.text.now args.place turn.text turn.at turn.p turn.invariant (omega (arith, few)) _ _ c.put_party-at.ensures

pub returns : goal.returns
returns c =
    let args = c.args in
    let turn = c.loop-p in
    let long : length args.column ≡ 33 = search rules in
    let done = length-take (args.sites + 1) args.column in
    party_all args.sites args.column args.text.now args.place turn.text turn.at turn.p turn.invariant (omega (arith, long, done, c.requires.0))
