-- What the report of one schedule says: its two parts, its calls, and how many they can be. Assumes nothing.
use mathlib.Core.Path.{◌≡◌, refl, sym, ap, ap₂, subst, ◌∙◌}
use mathlib.Core.Bool.{Bool, true, false, cond, ◌&&◌}
use mathlib.Core.List.{List, [], ◌∷◌}
use Prim.Native.Nat.{ℕ, suc, ◌+◌, ◌*◌, ◌-◌, ◌≤◌, ◌<◌}
use native.Mathlib.Omega.{arith}
use lib.Dec.{eqb, leb}
use lib.ListN.{length, take, length-append}
use lib.Seq.{take_at, drop_at, take_all}
use borrow.Author.Tests.{eq-eqb, ne_eqb, leb-true}
use Rattle.number.specs.Table.{tabulate}
use Rattle.number.proofs.Laws.{and_left}
use Rattle.store.specs.Log.{places}
use Rattle.kind.specs.Kind.{body_length}
use Rattle.kind.specs.Step.{step_kind, in_range, AllInRange}
use Rattle.kind.proofs.Numbers.{header_widths}
use Rattle.schedule.specs.Record.{step_record, longest}
use Rattle.schedule.specs.Schedule.{Accepted, read_schedule, steps_bytes}
use Rattle.schedule.proofs.Laws.{header_is, header_size}
use Rattle.schedule.proofs.Records.{front_length}
use Rattle.schedule.proofs.Reading.{Whole, SaysWhole, read_says, header_more}
use Rattle.rules.specs.Step.{step, is_due}
use Rattle.rules.specs.OneParty.{makes_call}
use Rattle.rules.specs.Run.{after, is_store_call_of, calls_made}
use Rattle.tail.specs.Tail.{tail_of}
use Rattle.passes.specs.Pass.{fresh_of, step_bytes}
use Rattle.passes.proofs.Passed.{bytes_length}
use Rattle.passes.proofs.Begun.{run_places}
use Rattle.form.specs.Form.{form_of, tail_bytes, count_at}
use Rattle.form.proofs.Lengths.{tail_size_lem}
use Rattle.form.proofs.Fits.{form_fits, has_fields}
use Rattle.marker.specs.Report.{tail_size}
use Rattle.marker.proofs.TailBytes.{run_few}
use Rattle.marker.proofs.Counts.{counts_hold}
use Rattle.figures.specs.Types.{Step, Release}
use Rattle.figures.specs.Class.{Schedule, bytes_of, ScheduleInRange}
use Rattle.figures.specs.Sums.{sum}
use Rattle.figures.specs.Figures.{report_of, steps_reported, tail_reported, calls_of, calls_in}
use Rattle.figures.specs.Promises.{due_calls, CallsByRules}
use Rattle.figures.proofs.Sums.{table_same, sum_add, sum_none, sum_at}

module _ (s : Schedule) where
  abbrev end : Release
  end = after (fresh_of s.header) s.steps

  abbrev bytes : List ℕ
  bytes = step_bytes (fresh_of s.header) s.steps

  abbrev tail : List ℕ
  tail = tail_bytes (form_of s.header.kind) (tail_of end)

  -- its two parts

  tail_long : length tail ≡ tail_size s.header
  tail_long = tail_size_lem (form_of s.header.kind) (tail_of end) (form_fits s.header.kind).0 (has_fields end (run_places s.header s.steps))

  pub report_long : length (report_of s) ≡ length s.steps + tail_size s.header
  report_long = omega (arith, length-append bytes tail, bytes_length (fresh_of s.header) s.steps, tail_long)

  before_tail : length bytes ≡ length (report_of s) - tail_size s.header
  before_tail = omega (arith, report_long, bytes_length (fresh_of s.header) s.steps)

  pub steps_are : steps_reported s ≡ step_bytes (fresh_of s.header) s.steps
  steps_are = take_at bytes tail (length (report_of s) - tail_size s.header) before_tail

  pub tail_is : tail_reported s ≡ tail_bytes (form_of s.header.kind) (tail_of (after (fresh_of s.header) s.steps))
  tail_is =
      ap (take (tail_size s.header)) (drop_at bytes tail (length (report_of s) - tail_size s.header) before_tail)
      ∙ take_all (tail_size s.header) tail (omega (arith, tail_long))

-- Its calls are those that the rules count

steps_short : (s : Schedule) → length (bytes_of s) ≤ longest → length (steps_bytes s.steps) ≤ longest
steps_short s fits = omega (arith, header_more s.header (steps_bytes s.steps))

calls_of_party : (s : Schedule) → ScheduleInRange s → length (bytes_of s) ≤ longest → (p : ℕ) → p ≤ places → calls_of s p ≡ calls_made p (fresh_of s.header) s.steps
calls_of_party s q fits p small =
    ap (λ l. count_at (form_of s.header.kind) l p) (tail_is s)
    ∙ counts_hold s.header s.steps q.0 q.1 (run_few s.header s.steps (steps_short s fits)) p small

-- A step that makes a call adds one to the count of its party, and nothing to others

abbrev adds : Step → Bool → ℕ → ℕ
adds s due p = cond (is_store_call_of p s && due) 1 0

one_party : (k q : ℕ) (due : Bool) → q < k → sum (tabulate k (λ p. cond (eqb q p && due) 1 0)) ≡ cond due 1 0
one_party k q due small =
    sum_at k (λ p. cond (eqb q p && due) 1 0) q small (λ p ne. ap (λ b. cond (b && due) 1 0) (ne_eqb q p (λ e. ne (sym e))))
    ∙ ap (λ b. cond (b && due) 1 0) (eq-eqb q q refl)

no_party : (k : ℕ) → sum (tabulate k (λ p. 0)) ≡ 0
no_party k = sum_none k (λ p. 0) (λ p. refl)

of_call : (k n q : ℕ) (due b : Bool) → n < k → leb q n && b ≡ true → sum (tabulate k (λ p. cond (eqb q p && due) 1 0)) ≡ cond due 1 0
of_call k n q due b room r = one_party k q due (omega (arith, leb-true q n (and_left (leb q n) b r)))

step_adds : (k n : ℕ) (s : Step) (due : Bool) → n < k → in_range n s ≡ true → sum (tabulate k (adds s due)) ≡ cond (makes_call s && due) 1 0
step_adds k n Step.Start due room r = no_party k
step_adds k n (Step.Deliver m q) due room r = no_party k
step_adds k n (Step.Copy m q) due room r = no_party k
step_adds k n (Step.Lose m q) due room r = no_party k
step_adds k n (Step.Call q j) due room r = of_call k n q due _ room r
step_adds k n (Step.CallLost q j) due room r = of_call k n q due _ room r
step_adds k n (Step.Timeout q) due room r = no_party k
step_adds k n (Step.Crash q) due room r = no_party k
step_adds k n (Step.Restart q) due room r = no_party k

made_all : (k n : ℕ) (r : Release) (steps : List Step) → n < k → AllInRange n steps → sum (tabulate k (λ p. calls_made p r steps)) ≡ due_calls r steps
made_all k n r [] room q = no_party k
made_all k n r (s ∷ ss) room q =
    sum_add k (adds s (is_due r s)) (λ p. calls_made p (step r s).next ss) ∙ ap₂ (λ a b. a + b) (step_adds k n s (is_due r s) room q.0) (made_all k n (step r s).next ss room q.1)

pub calls_by_rules : CallsByRules
calls_by_rules =
    record {
      party = calls_of_party;
      all = λ s q fits.
          ap sum (table_same (suc places) (calls_of s) (λ p. calls_made p (fresh_of s.header) s.steps) (λ p l. calls_of_party s q fits p (omega arith)))
          ∙ made_all (suc places) s.header.n (fresh_of s.header) s.steps (omega (arith, (header_size s.header q.0).1)) q.1;
    }

-- and its record has three bytes

three : (s : Step) (due : Bool) → 3 * cond (makes_call s && due) 1 0 ≤ 1 + body_length (step_kind s)
three Step.Start due = omega arith
three (Step.Deliver m q) due = omega arith
three (Step.Copy m q) due = omega arith
three (Step.Lose m q) due = omega arith
three (Step.Call q j) true = omega arith
three (Step.Call q j) false = omega arith
three (Step.CallLost q j) true = omega arith
three (Step.CallLost q j) false = omega arith
three (Step.Timeout q) due = omega arith
three (Step.Crash q) due = omega arith
three (Step.Restart q) due = omega arith

due_most : (r : Release) (steps : List Step) → 3 * due_calls r steps ≤ length (steps_bytes steps)
due_most r [] = omega arith
due_most r (s ∷ ss) = omega (arith, three s (is_due r s), due_most (step r s).next ss, front_length (step_record s) (steps_bytes ss))

-- A schedule that is read by itself

pub read_whole : (part : List ℕ) (s : Schedule) → read_schedule part ≡ Accepted s.header s.steps → Whole part s.header s.steps
read_whole part s e = subst (SaysWhole part) e (read_says part)

-- its header has three bytes at least, and each of its calls
pub schedule_most : (part : List ℕ) (s : Schedule) → read_schedule part ≡ Accepted s.header s.steps → 3 * (1 + calls_in s) ≤ length part
schedule_most part s e =
    let x = read_whole part s e in
    let w = header_widths s.header.kind (header_is s.header x.header) in
    omega (
      arith,
      w.0,
      w.1,
      x.long,
      header_more s.header (steps_bytes s.steps),
      calls_by_rules.all s (x.header, x.ranged) (omega (arith, x.long, x.short)),
      due_most (fresh_of s.header) s.steps,
    )
