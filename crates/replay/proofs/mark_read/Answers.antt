-- `replay::mark_read` meets its contract: what is kept is what the frames leave. Assumes nothing.
use Rattle.std.proofs.Common.{◌≡◌, ℕ, ◌+◌, ◌-◌, ◌≤◌, List, length, take, drop, arith, sym, ap, subst, ◌∙◌, length-take-le, drop_at}
use lib.Seq.{take-add}
use Rattle.frame.specs.Frame.{FramesThen}
use Rattle.replay.proofs.mark_read.Goals as goal

-- what is kept is what was left after the frames
rest_kept : (input kept-input : List ℕ) (used end kept : ℕ) → used ≤ end → end ≤ length input → kept ≡ end - used
    → take kept kept-input ≡ take kept (drop used input) → drop used (take end input) ≡ take kept kept-input
rest_kept input kept-input used end kept u h e k =
    ap (λ n. drop used (take n input)) (let z : end ≡ used + kept = omega arith in z)
    ∙ ap (drop used) (take-add used kept input)
    ∙ drop_at (take used input) (take kept (drop used input)) used (length-take-le used input (omega arith))
    ∙ sym k

pub returns-clause-ok : goal.returns-clause-ok
returns-clause-ok g c =
    let input = c.args.input.now in
    let end = c.args.end in
    let used = c.in_ok-used.used in
    let keep = c.keep_rest in
    let read : length (take end input) ≡ end = length-take-le end input (omega arith) in
    let within : used ≤ end = omega (arith, c.in_ok-used.ensures.0) in
    let rest = rest_kept input keep.new.input used end keep.result within (omega arith) keep.ensures.0 keep.ensures.1 in
    let then : FramesThen (take end input) (take keep.result keep.new.input) =
    subst (λ l. FramesThen (take end input) l) rest c.in_ok-used.ensures.1 in
    let long : length (take keep.result keep.new.input) ≡ keep.result = length-take-le keep.result keep.new.input (omega (arith, keep.ensures.0)) in
    (omega (arith, then.none.few), then)
