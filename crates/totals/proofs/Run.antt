-- A schedule that was validated and run: its calls, of each party and of all, and its step bytes are those of its report. Assumes nothing.
use mathlib.Core.Path.{◌≡◌, refl, sym, ap, ap₂, ◌∙◌}
use mathlib.Core.Bool.{Bool, false}
use mathlib.Core.List.{List, [], ◌∷◌}
use Prim.Native.Nat.{ℕ, suc, ◌+◌, ◌≤◌, ◌<◌}
use native.Mathlib.Omega.{arith}
use lib.ListN.{length, get_or, take, drop, length-drop}
use lib.Seq.{sets, sets-eq, take_at, take_all}
use Rattle.std.specs.Prelude.{Ok}
use Rattle.number.specs.Table.{tabulate}
use Rattle.number.proofs.Table.{length_tabulate, get_d_tabulate, tabulate_list}
use Rattle.store.specs.Log.{places}
use Rattle.schedule.specs.Record.{header_record, record_length, longest}
use Rattle.schedule.specs.Schedule.{read_schedule, steps_bytes, Accepted}
use Rattle.schedule.proofs.Reading.{header_more, steps_few}
use Rattle.rules.specs.Run.{after}
use Rattle.state.specs.Fields.{fields, counts_from, release_in}
use Rattle.state.proofs.Parts.{counts_last}
use Rattle.passes.specs.Pass.{validated, reading_from, steps_of, fresh_of, step_bytes, Leaves}
use Rattle.passes.proofs.Passed.{counted, passed, bytes_length}
use Rattle.passes.proofs.Begun.{fresh_back, run_places, run_counted}
use Rattle.figures.specs.Class.{Schedule}
use Rattle.figures.specs.Sums.{sum}
use Rattle.figures.specs.Figures.{steps_reported, said_in, reports, calls_of, calls_in as callsReported}
use Rattle.figures.specs.Promises.{due_calls}
use Rattle.figures.proofs.Sums.{table_same, each_le_sum}
use Rattle.figures.proofs.Single.{steps_are, calls_by_rules, read_whole, schedule_most}
use Rattle.totals.specs.Types.{Store, Step, Context, Outcome, Release, Totals}
use Rattle.totals.specs.Adding.{one_added, schedule_of, schedule_added, calls_added, Entries}

module _ (part : List ℕ) (c : Context) (m : ℕ) (v : validated (read_schedule part) ≡ Ok (c, m)) where
  abbrev s : Schedule
  s = schedule_of c part

  abbrev end : Release
  end = after (fresh_of c.header) s.steps

  pub accepted : read_schedule part ≡ Accepted c.header (steps_of (read_schedule part))
  accepted = (counted (read_schedule part) c m v).accepted

  pub few_steps : m ≤ longest
  few_steps = let x = read_whole part s accepted in omega (arith, (counted (read_schedule part) c m v).long, steps_few s.steps, header_more c.header (steps_bytes s.steps), x.long, x.short)

  calls_few : callsReported s ≤ longest
  calls_few = omega (arith, schedule_most part s accepted, (read_whole part s accepted).short)

  -- what the second pass leaves, from the fresh release
  module _ {before : List ℕ} {store : Store} {l report : List ℕ}
      (left : Leaves (release_in (fields (fresh_of c.header)) (fresh_of c.header).store) (steps_of (reading_from part c.header (record_length (header_record c.header)))) before store l report) where
    same_run : Leaves (fresh_of c.header) s.steps before store l report
    same_run = rw (← fresh_back c.header, ← (passed part c m v).after_header) left

    pub run_bytes : report ≡ sets before 0 (steps_reported (schedule_of c part))
    run_bytes = same_run.bytes ∙ ap (sets before 0) (sym (steps_are s))

    -- the last numbers are the counts

    counts_left : drop counts_from l ≡ end.calls
    counts_left = ap (drop counts_from) same_run.numbers ∙ counts_last end (run_places c.header s.steps)

    pub numbers_long : counts_from + suc places ≤ length l
    numbers_long = omega (arith, ap length counts_left, length-drop counts_from l, (run_places c.header s.steps).calls)

    abbrev calls : List ℕ
    calls = take (suc places) (drop counts_from l)

    calls_are : calls ≡ tabulate (suc places) (calls_of s)
    calls_are =
        let x = read_whole part s accepted in
        let long = (run_places c.header s.steps).calls in
        let same : (p : ℕ) → p < suc places → calls_of s p ≡ get_or end.calls p 0 = λ p g.
        calls_by_rules.party s (x.header, x.ranged) (omega (arith, x.long, x.short)) p (omega arith) ∙ sym (run_counted c.header s.steps p g) in
        ap (take (suc places)) counts_left ∙ take_all (suc places) end.calls (omega (arith, long)) ∙ sym (tabulate_list (suc places) (calls_of s) end.calls 0 long same)

    pub run_sum : sum calls ≡ callsReported (schedule_of c part)
    run_sum = ap sum calls_are

    pub run_entries : Entries calls
    run_entries =
        record {
          parties = ap length calls_are ∙ length_tabulate (suc places) (calls_of s);
          few = λ p. omega (arith, each_le_sum calls p, run_sum, calls_few);
        }

    pub run_added : (column : List ℕ) → calls_added column (λ p. get_or calls p 0) ≡ calls_added column (calls_of (schedule_of c part))
    run_added column =
        table_same (suc places) (λ p. get_or column p 0 + get_or calls p 0) (λ p. get_or column p 0 + calls_of s p)
        (λ p g. ap (λ k. get_or column p 0 + k) (ap (λ (k : List ℕ). get_or k p 0) calls_are ∙ get_d_tabulate (suc places) (calls_of s) p 0 g))

  -- the step bytes stand at the front of a buffer that has room
  pub bytes_front : (before after : List ℕ) → longest ≤ length before → after ≡ sets before 0 (steps_reported (schedule_of c part)) → take m after ≡ steps_reported (schedule_of c part)
  bytes_front before after room e =
      let bytes : List ℕ = steps_reported s in
      let long : length bytes ≡ m = ap length (steps_are s) ∙ bytes_length (fresh_of c.header) s.steps ∙ (counted (read_schedule part) c m v).long in
      ap (take m) (e ∙ sets-eq bytes before 0 (omega (arith, long, few_steps))) ∙ take_at bytes (drop (0 + length bytes) before) m long

  -- what is added of it
  pub added_is : (t : Totals) (bytes : List ℕ) (commit abort : Bool) (calls : ℕ) → bytes ≡ steps_reported (schedule_of c part) → commit ≡ said_in Outcome.Commit bytes
      → abort ≡ said_in Outcome.Abort bytes → calls ≡ callsReported (schedule_of c part)
      → one_added t c.header.n commit abort calls ≡ schedule_added t (schedule_of c part)
  added_is t bytes commit abort calls b x y k =
      ap₂ (λ (p q : Bool). one_added t c.header.n p q calls) (x ∙ ap (said_in Outcome.Commit) b) (y ∙ ap (said_in Outcome.Abort) b)
      ∙ ap (one_added t c.header.n (reports Outcome.Commit s) (reports Outcome.Abort s)) k

  -- of a header alone

  no_steps : m ≡ 0 → s.steps ≡ []
  no_steps e = go s.steps ((counted (read_schedule part) c m v).long ∙ e)
    where
      go : (l : List Step) → length l ≡ 0 → l ≡ []
      go [] h = refl
      go (x ∷ l) h = absurd (omega arith)

  none_said : (o : Outcome) → m ≡ 0 → reports o s ≡ false
  unfolding said_in
  none_said o e = ap (said_in o) (steps_are s) ∙ ap (λ (l : List Step). said_in o (step_bytes (fresh_of c.header) l)) (no_steps e)

  none_called : m ≡ 0 → callsReported s ≡ 0
  none_called e =
      let x = read_whole part s accepted in
      calls_by_rules.all s (x.header, x.ranged) (omega (arith, x.long, x.short)) ∙ ap (due_calls (fresh_of c.header)) (no_steps e)

  pub none_added : (t : Totals) → m ≡ 0 → one_added t c.header.n false false 0 ≡ schedule_added t (schedule_of c part)
  none_added t e =
      sym (ap₂ (λ (p q : Bool). one_added t c.header.n p q (callsReported s)) (none_said Outcome.Commit e) (none_said Outcome.Abort e)
      ∙ ap (one_added t c.header.n false false) (none_called e))

  -- no entry of the column changes
  pub none_counted : (column : List ℕ) → length column ≡ suc places → m ≡ 0 → column ≡ calls_added column (calls_of (schedule_of c part))
  none_counted column long e =
      let each : (p : ℕ) → p < suc places → calls_of s p ≡ 0 = λ p g.
      omega (arith, none_called e, get_d_tabulate (suc places) (calls_of s) p 0 g, each_le_sum (tabulate (suc places) (calls_of s)) p) in
      sym (tabulate_list (suc places) (λ p. get_or column p 0 + calls_of s p) column 0 long (λ p g. omega (arith, each p g)))
