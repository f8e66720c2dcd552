-- A text of `longest_text` bytes has room for every listing, as a program with such a buffer needs. Assumes nothing.
use mathlib.Core.Path.{ap}
use mathlib.Core.List.{List}
use Prim.Native.Nat.{ℕ, suc, ◌≤◌, ◌<◌}
use native.Mathlib.Omega.{arith}
use lib.ListN.{length, get_or, length-append}
use Rattle.number.specs.Refusal.{refusal_number}
use Rattle.store.specs.Log.{places}
use Rattle.text.specs.Text.{refusal_line}
use Rattle.schedule.specs.Record.{longest}
use Rattle.schedule.specs.Schedule.{Reading, Accepted, Refused, read_schedule, steps_bytes}
use Rattle.schedule.proofs.Laws.{header_size}
use Rattle.schedule.proofs.Reading.{SaysWhole, read_says, header_more, steps_few}
use Rattle.rules.specs.Run.{reports, after}
use Rattle.rules.proofs.Room.{after_room}
use Rattle.passes.specs.Pass.{fresh_of, step_bytes}
use Rattle.passes.proofs.Passed.{bytes_length}
use Rattle.passes.proofs.Begun.{calls_most, run_calls}
use Rattle.tail.proofs.TailRange.{n_in_range}
use Rattle.form.specs.Form.{wide, tail_at}
use Rattle.start.specs.Start.{most_calls, start_release, read_from}
use Rattle.start.proofs.Taken.{ranged, few_calls}
use Rattle.start.proofs.Kept.{RestSays, says}
use Rattle.listing.specs.Types.{Kind, Step, Header, Release, Refusal}
use Rattle.listing.specs.Listing.{step_lines, end_lines, reading_text, listing, listing_from, longest_text, ListingFits}
use Rattle.lines.proofs.LineLaws.{lines_few}
use Rattle.listing.proofs.Laws.{lines_reports, end_few, refusal_few}

-- a run over no more steps than the longest schedule has bytes

run_fits : (start : Header → Release) (h : Header) (steps : List Step) → (after (start h) steps).n ≤ places
    → ((p : ℕ) → get_or (after (start h) steps).calls p 0 < 100000)
    → length steps ≤ longest → length (reading_text start (Accepted h steps)) ≤ longest_text
run_fits start h steps small few short =
    let lines = lines_few 1 (step_bytes (start h) steps) (omega (arith, bytes_length (start h) steps)) in
    let last = end_few (after (start h) steps) small few in
    omega (
      arith,
      length-append (step_lines 1 (reports (start h) steps)) (end_lines (after (start h) steps)),
      ap length (lines_reports 1 (reports (start h) steps)),
      bytes_length (start h) steps,
    )

refusal_fits : (k : Refusal) (place : ℕ) → place ≤ longest → length (refusal_line (refusal_number k) place) ≤ longest_text
refusal_fits k place near = omega (arith, refusal_few k place (omega arith))

whole_fits : (schedule : List ℕ) → length (listing schedule) ≤ longest_text
whole_fits schedule = go (read_schedule schedule) (read_says schedule)
  where
    go : (x : Reading) → SaysWhole schedule x → length (reading_text fresh_of x) ≤ longest_text
    go (Accepted h steps) y =
        run_fits fresh_of h steps (rw (after_room (fresh_of h) steps).same_n (header_size h y.header).1)
        (λ p. omega (arith, run_calls h steps p, y.long, header_more h (steps_bytes steps), y.short))
        (omega (arith, y.long, steps_few steps, header_more h (steps_bytes steps), y.short))
    go (Refused k place) y = refusal_fits k place y.near

from_fits : (tail bytes : List ℕ) → length (listing_from tail bytes) ≤ longest_text
from_fits tail bytes = go (read_from tail bytes) (says tail bytes)
  where
    go : (x : Reading) → RestSays tail bytes x → length (reading_text (λ _. start_release tail) x) ≤ longest_text
    go (Accepted h steps) y =
        let n_few = n_in_range Kind.WideHeader (suc most_calls) (tail_at wide tail) (ranged Kind.WideHeader tail y.tail_taken) in
        run_fits (λ _. start_release tail) h steps
        (omega (arith, (after_room (start_release tail) steps).same_n, n_few.1))
        (λ p. omega (arith, calls_most (start_release tail) steps p, few_calls Kind.WideHeader tail y.tail_taken p, y.long, y.short))
        (omega (arith, y.long, steps_few steps, y.short))
    go (Refused k place) y = refusal_fits k place y.near

pub listing_fits : ListingFits
listing_fits = record { whole = whole_fits; from = from_fits }
