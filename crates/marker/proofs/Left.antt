-- What a run that is accepted leaves in the report: its steps' bytes, then its tail, then what was there. Assumes nothing.
use mathlib.Core.Path.{◌≡◌, refl, sym, ap, ◌∙◌}
use mathlib.Core.Bool.{cond}
use mathlib.Core.List.{List, ◌++◌, append_assoc}
use Prim.Native.Nat.{ℕ, ◌+◌, ◌-◌, ◌≤◌}
use native.Mathlib.Omega.{arith}
use lib.ListN.{length, take, drop, length-append}
use lib.Seq.{sets, sets-eq, take_at, drop_at}
use borrow.Author.Tests.{le-ltb}
use Rattle.std.specs.Prelude.{Ok}
use Rattle.schedule.specs.Schedule.{Reading, Accepted, Refused}
use Rattle.writer.proofs.Laws.{room_done}
use Rattle.rules.specs.Run.{after}
use Rattle.state.specs.Fields.{HasPlaces}
use Rattle.tail.specs.Tail.{tail_of}
use Rattle.passes.specs.Pass.{step_bytes}
use Rattle.passes.proofs.Passed.{bytes_length}
use Rattle.passes.proofs.Begun.{after_places}
use Rattle.form.specs.Form.{form_of, tail_bytes}
use Rattle.form.proofs.Lengths.{tail_size_lem}
use Rattle.form.proofs.Fits.{form_fits, has_fields}
use Rattle.marker.specs.Types.{Step, Header, Release}
use Rattle.marker.specs.Report.{report_bytes, tail_size, steps_left, tail_left}
use Rattle.marker.specs.Run.{reading_answer, reading_leaves}

pub record Ran (report : List ℕ) (x : Reading) (written : ℕ) : Type 0 where
  pub header : Header
  pub steps : List Step
  pub accepted : x ≡ Accepted header steps
  pub length_written : written ≡ length steps + tail_size header
  pub room : length steps + tail_size header ≤ length report

pub ran : (report : List ℕ) (x : Reading) (written : ℕ) → reading_answer (length report) x ≡ Ok written → Ran report x written
ran report (Accepted h steps) written d =
    let x = room_done (length report) (length steps + tail_size h) written d in
    record { header = h; steps = steps; accepted = refl; length_written = x.0; room = x.1 }
ran report (Refused k p) written d = let z : ◌≡◌ {A = ℕ} 0 1 = cc in absurd (omega arith)

module _ (start : Header → Release) (report : List ℕ) {x : Reading} {h : Header} {steps : List Step} (e : x ≡ Accepted h steps) (has : HasPlaces (start h)) (room : length steps + tail_size h ≤ length report) where
  abbrev bytes : List ℕ
  bytes = step_bytes (start h) steps

  abbrev tail : List ℕ
  tail = tail_bytes (form_of h.kind) (tail_of (after (start h) steps))

  pub answers : reading_answer (length report) x ≡ Ok (length steps + tail_size h)
  answers = simp (e, le-ltb (length report) (length steps + tail_size h) room)

  abbrev rest : List ℕ
  rest = drop (0 + length (bytes ++ tail)) report

  tail_length_lem : length tail ≡ tail_size h
  tail_length_lem = tail_size_lem (form_of h.kind) (tail_of (after (start h) steps)) (form_fits h.kind).0 (has_fields (after (start h) steps) (after_places (start h) has steps))

  report_length : length (bytes ++ tail) ≡ length steps + tail_size h
  report_length = omega (arith, length-append bytes tail, bytes_length (start h) steps, tail_length_lem)

  leaves : reading_leaves start report x ≡ bytes ++ (tail ++ rest)
  leaves =
      ap (reading_leaves start report) e
      ∙ ap (λ b. cond b report (sets report 0 (report_bytes h.kind (start h) steps))) (le-ltb (length report) (length steps + tail_size h) room)
      ∙ sets-eq (bytes ++ tail) report 0 (omega (arith, report_length))
      ∙ append_assoc bytes tail rest

  less : length bytes ≡ length steps + tail_size h - tail_size h
  less = omega (arith, bytes_length (start h) steps)

  pub steps_left_lem : steps_left h (reading_leaves start report x) (length steps + tail_size h) ≡ step_bytes (start h) steps
  steps_left_lem = ap (take (length steps + tail_size h - tail_size h)) leaves ∙ take_at bytes (tail ++ rest) (length steps + tail_size h - tail_size h) less

  pub tail_is_left : tail_left h (reading_leaves start report x) (length steps + tail_size h) ≡ tail_bytes (form_of h.kind) (tail_of (after (start h) steps))
  tail_is_left =
      ap (λ l. take (tail_size h) (drop (length steps + tail_size h - tail_size h) l)) leaves
      ∙ ap (take (tail_size h)) (drop_at bytes (tail ++ rest) (length steps + tail_size h - tail_size h) less)
      ∙ take_at tail rest (tail_size h) tail_length_lem

  pub report_left : take (length steps + tail_size h) (reading_leaves start report x) ≡ report_bytes h.kind (start h) steps
  report_left =
      ap (take (length steps + tail_size h)) (leaves ∙ sym (append_assoc bytes tail rest))
      ∙ take_at (bytes ++ tail) rest (length steps + tail_size h) report_length

-- so a run that was done gave them

module _ (start : Header → Release) (report : List ℕ) {x : Reading} {h : Header} {steps : List Step} (e : x ≡ Accepted h steps) (has : HasPlaces (start h)) (written : ℕ) (d : reading_answer (length report) x ≡ Ok written) where
  room_there : (written ≡ length steps + tail_size h) × (length steps + tail_size h ≤ length report)
  room_there = room_done (length report) (length steps + tail_size h) written (sym (ap (reading_answer (length report)) e) ∙ d)

  pub steps_given : steps_left h (reading_leaves start report x) written ≡ step_bytes (start h) steps
  steps_given = rw room_there.0 (steps_left_lem start report e has room_there.1)

  pub tail_given : tail_left h (reading_leaves start report x) written ≡ tail_bytes (form_of h.kind) (tail_of (after (start h) steps))
  tail_given = rw room_there.0 (tail_is_left start report e has room_there.1)
