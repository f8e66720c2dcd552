-- `Store::with_log` meets its contract: a place past the last log changes nothing, and neither does a log that is as it was. Assumes nothing.
use mathlib.Core.Path.{ap₂}
use Rattle.std.proofs.Common.{rules, ◌≡◌, sym, ap, ◌∙◌, set, List, true, false, not, ◌&&◌}
use Rattle.std.proofs.lemmas.Grind.{common_steps}
use lib.Seq.{set-get_or}
use denote.Enum.Bare.{sameb, same_true}
use Rattle.number.proofs.Laws.{and_left, and_right}
use Rattle.store.specs.Types.{LogRecord, LogPair}
use Rattle.store.specs.contracts.LogRecord.{the_type}
use Rattle.store.proofs.Store.with_log.Goals as goal
use Rattle.store.proofs.Store.with_log.Goals.{else-i-lt-LOGS-via-then-i-lt-LOGS+else-ne, else-i-lt-LOGS-via-else-i-lt-LOGS}

same_record : (r s : LogRecord) → sameb the_type r s ≡ true → r ≡ s
same_record r s e = same_true the_type (search rules) _ _ e

same_log : (l m : LogPair) → not (sameb the_type l.first m.first && sameb the_type l.last m.last) ≡ false → l ≡ m
same_log l m e =
    let q : sameb the_type l.first m.first && sameb the_type l.last m.last ≡ true = grind rules in
    let a = same_record l.first m.first (and_left _ _ q) in
    let b = same_record l.last m.last (and_right (sameb the_type l.first m.first) _ q) in
    ap₂ (λ (f g : LogRecord). record { first = f; last = g }) a b

pub returns-else-i-lt-LOGS : goal.returns-else-i-lt-LOGS
returns-else-i-lt-LOGS c =
    elim c.else-i-lt-LOGS.branch [
      | else-i-lt-LOGS-via-then-i-lt-LOGS+else-ne w ↦
          ap (λ (x : List LogPair). record { logs = x }) (sym (ap (set c.args.self.logs c.args.i) (sym (same_log _ c.args.l (sym w.ne.ensures ∙ w.if-ne.false))) ∙ set-get_or c.args.self.logs c.args.i _))
      | else-i-lt-LOGS-via-else-i-lt-LOGS w ↦ (let h = w.if-i-lt-LOGS.false in let n = c.well_formed in search (rules, common_steps))
    ]
