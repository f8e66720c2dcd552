-- Request 2026-03: kind 01 still means at most eight participants and a tail of 59 bytes; 0B has up to 32 and a tail of 320. The same steps under
-- both headers give the same step bytes, and the wide tail holds the narrow tail's numbers. Proved in proofs/Headers.antt. Assumes nothing.
use Rattle.std.specs.Prelude.{◌≡◌, true, List, ◌∷◌, ℕ, ◌+◌, ◌≤◌, length, Ok}
use Rattle.kind.specs.Step.{AllInRange}
use Rattle.schedule.specs.Record.{header_in_range, longest}
use Rattle.schedule.specs.Schedule.{steps_bytes, schedule_bytes}
use Rattle.form.specs.Form.{narrow, wide, tail_at}
use Rattle.marker.specs.Types.{Kind, Step, Header}
use Rattle.marker.specs.Report.{steps_left, tail_left}
use Rattle.marker.specs.Run.{run_answers, run_leaves}

abbrev pub narrow_header : ℕ → ℕ → Header
narrow_header n votes = record { kind = Kind.Header; n = n; votes = votes }

abbrev pub wide_header : ℕ → ℕ → Header
wide_header n votes = record { kind = Kind.WideHeader; n = n; votes = votes }

pub record HeadersAgree (n votes : ℕ) (steps : List Step) (report : List ℕ) : Type 0 where
  -- the schedules: n and the mask in a byte each; under 0B three more bytes of the mask, the high ones
  pub narrow_bytes : schedule_bytes (narrow_header n votes) steps ≡ 0x01 ∷ n ∷ votes ∷ steps_bytes steps
  pub wide_bytes : schedule_bytes (wide_header n votes) steps ≡ 0x0B ∷ n ∷ votes ∷ 0 ∷ 0 ∷ 0 ∷ steps_bytes steps
  -- both are accepted
  pub narrow_written : run_answers (length report) (schedule_bytes (narrow_header n votes) steps) ≡ Ok (length steps + 59)
  pub wide_written : run_answers (length report) (schedule_bytes (wide_header n votes) steps) ≡ Ok (length steps + 320)
  -- the step bytes that they leave, and the fields of their tails
  pub steps_same : steps_left (narrow_header n votes) (run_leaves report (schedule_bytes (narrow_header n votes) steps)) (length steps + 59)
      ≡ steps_left (wide_header n votes) (run_leaves report (schedule_bytes (wide_header n votes) steps)) (length steps + 320)
  pub tail_same : tail_at narrow (tail_left (narrow_header n votes) (run_leaves report (schedule_bytes (narrow_header n votes) steps)) (length steps + 59))
      ≡ tail_at wide (tail_left (wide_header n votes) (run_leaves report (schedule_bytes (wide_header n votes) steps)) (length steps + 320))

-- for every header 01 in range and steps in range under it, where the longer schedule and the longer report have room
abbrev pub SameUnderBoth : Type 0
SameUnderBoth =
    (n votes : ℕ) (steps : List Step) → header_in_range (narrow_header n votes) ≡ true → AllInRange n steps
    → length (schedule_bytes (wide_header n votes) steps) ≤ longest → (report : List ℕ) → length steps + 320 ≤ length report → HeadersAgree n votes steps report
