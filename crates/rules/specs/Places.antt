-- How many places a release has makes no difference: a run reports the same, and the releases differ by empty places only. Proved in
-- proofs/Places.antt. Assumes nothing.
use Rattle.std.specs.Prelude.{◌≡◌, List, ◌++◌, map, ℕ, ◌+◌, ◌≤◌, replicate}
use Rattle.store.specs.Log.{empty}
use Rattle.kind.specs.Step.{AllInRange}
use Rattle.rules.specs.State.{waiting, fresh}
use Rattle.rules.specs.Report.{step_byte}
use Rattle.rules.specs.Run.{reports, after}
use Rattle.rules.specs.Types.{Release, Step}

-- k empty places more, for participants, logs and counts
abbrev pub widened : ℕ → Release → Release
widened k r =
    record {
      n = r.n;
      votes = r.votes;
      coordinator = r.coordinator;
      messages = r.messages;
      sites = r.sites ++ replicate k waiting;
      store = record { logs = r.store.logs ++ replicate k empty };
      calls = r.calls ++ replicate k 0;
    }

-- any two numbers of places that have room for n
abbrev pub PlacesSame : Type 0
PlacesSame =
    (places k n votes : ℕ) → n ≤ places → (steps : List Step) → AllInRange n steps
    → (map step_byte (reports (fresh (places + k) n votes) steps) ≡ map step_byte (reports (fresh places n votes) steps))
    × (after (fresh (places + k) n votes) steps ≡ widened k (after (fresh places n votes) steps))
