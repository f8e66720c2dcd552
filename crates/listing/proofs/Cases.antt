-- Worked listings: schedules of document 01 beside the text that program `mark` prints. One theorem covers the table. Assumes nothing.
use mathlib.Core.Path.{◌≡◌, refl}
use mathlib.Core.List.{List, [], ◌∷◌, map}
use Prim.Native.Nat.{ℕ}
use Prim.Native.String.{String}
use Rattle.text.specs.Text.{ascii, decimal}
use Rattle.text.specs.Put.{each}
use Rattle.schedule.specs.Schedule.{steps_from}
use Rattle.rules.specs.Step.{participant_to, coordinator_to, participant_calls, coordinator_calls}
use Rattle.listing.specs.Listing.{step_lines, listing}

record ListingCase : Type 0 where
  schedule : List ℕ
  reads : String

abbrev case : List ℕ → String → ListingCase
case schedule reads = record { schedule = schedule; reads = reads }

abbrev cases : List ListingCase
cases =
    -- P1
    case (1 ∷ 2 ∷ 3 ∷ 2 ∷ 3 ∷ 1 ∷ 1 ∷ 6 ∷ 1 ∷ 1 ∷ 8 ∷ 1 ∷ 6 ∷ 1 ∷ 2 ∷ 6 ∷ 1 ∷ 1 ∷ 3 ∷ 1 ∷ 2 ∷ 6 ∷ 2 ∷ 2 ∷ [])
    "1 moved\n2 moved\n3 moved\n4 moved\n5 abort closed\n6 moved\n7 moved\n8 abort\ncalls 0 3 1\nlogs ya aa\n"
    -- P2
    ∷ case (1 ∷ 1 ∷ 1 ∷ 2 ∷ 3 ∷ 1 ∷ 1 ∷ 6 ∷ 1 ∷ 1 ∷ 8 ∷ 1 ∷ 6 ∷ 1 ∷ 1 ∷ [])
    "1 moved\n2 moved\n3 moved\n4 commit\n5 moved\ncalls 0 2\nlogs yc\n"
    -- P3
    ∷ case (1 ∷ 2 ∷ 3 ∷ 9 ∷ 1 ∷ 10 ∷ 1 ∷ 6 ∷ 1 ∷ 1 ∷ []) "1 moved\n2 moved\n3 abort\ncalls 0 1 0\nlogs aa --\n"
    -- the coordinator closes a log, its answer lost, and hears the abort in a second call
    ∷ case (1 ∷ 1 ∷ 1 ∷ 2 ∷ 8 ∷ 0 ∷ 7 ∷ 0 ∷ 1 ∷ 6 ∷ 0 ∷ 1 ∷ []) "1 moved\n2 moved\n3 moved closed\n4 abort\ncalls 2 0\nlogs aa\n"
    -- P7, P8, P12 and P13
    ∷ case [] "refused 1 at 0\n"
    ∷ case (1 ∷ 8 ∷ 255 ∷ []) "calls 0 0 0 0 0 0 0 0 0\nlogs -- -- -- -- -- -- -- --\n"
    ∷ case (1 ∷ 1 ∷ 1 ∷ 6 ∷ 1 ∷ []) "refused 3 at 3\n"
    ∷ case (1 ∷ 1 ∷ 1 ∷ 8 ∷ 0 ∷ []) "1 idle\ncalls 0 0\nlogs --\n"
    ∷ []

cases_hold : map (λ c. listing c.schedule) cases ≡ map (λ c. ascii c.reads) cases
unfolding decimal each steps_from participant_to coordinator_to participant_calls coordinator_calls step_lines
cases_hold = refl
