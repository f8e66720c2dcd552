-- Totals and the column as the code adds them up, one schedule after another; they are those of `figures`, proved in proofs/Counting.antt. Assumes nothing.
use Rattle.std.specs.Prelude.{◌≡◌, Bool, cond, not, ◌&&◌, List, ℕ, suc, ◌+◌, ◌≤◌, eqb, ltb, length, get_or}
use Rattle.number.specs.Table.{tabulate}
use Rattle.store.specs.Log.{places}
use Rattle.schedule.specs.Record.{longest}
use Rattle.schedule.specs.Schedule.{read_schedule}
use Rattle.passes.specs.Pass.{steps_of}
use Rattle.figures.specs.Class.{Schedule}
use Rattle.figures.specs.Sums.{larger}
use Rattle.figures.specs.Figures.{reports, calls_in, sites_of}
use Rattle.totals.specs.Types.{Context, Outcome, Totals}

abbrev pub one_more : ℕ → Bool → ℕ
one_more k b = k + cond b 1 0

-- the first schedule has the largest number so far, whatever it is
abbrev pub first_after : Totals → ℕ → ℕ
first_after t calls = cond (eqb t.schedules 0) 1 (cond (ltb t.largest calls) (t.schedules + 1) t.first)

-- one schedule more, by its n, its decisions and its calls
abbrev pub one_added : Totals → ℕ → Bool → Bool → ℕ → Totals
one_added t n commit abort calls =
    record {
      schedules = t.schedules + 1;
      commit = one_more t.commit commit;
      abort = one_more t.abort abort;
      neither = one_more t.neither (not commit && not abort);
      largest = larger t.largest calls;
      first = first_after t calls;
      sites = larger t.sites n;
    }

-- the schedule that was read of some bytes
abbrev pub schedule_of : Context → List ℕ → Schedule
schedule_of c part = record { header = c.header; steps = steps_of (read_schedule part) }

abbrev pub schedule_added : Totals → Schedule → Totals
schedule_added t s = one_added t (sites_of s) (reports Outcome.Commit s) (reports Outcome.Abort s) (calls_in s)

-- the calls of each party, added to its entry
abbrev pub calls_added : List ℕ → (ℕ → ℕ) → List ℕ
calls_added column calls = tabulate (suc places) (λ p. get_or column p 0 + calls p)

-- no total is more than the bytes of the longest file
pub record Room (t : Totals) : Type 0 where
  pub schedules : t.schedules ≤ longest
  pub commit : t.commit ≤ longest
  pub abort : t.abort ≤ longest
  pub neither : t.neither ≤ longest

-- a number of calls for each party, none of them more
pub record Entries (calls : List ℕ) : Type 0 where
  pub parties : length calls ≡ suc places
  pub few : (p : ℕ) → get_or calls p 0 ≤ longest
