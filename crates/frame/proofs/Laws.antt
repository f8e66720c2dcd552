-- What a run tells of a schedule's line, where the report has room for every report. Assumes nothing.
use mathlib.Core.Path.{◌≡◌, refl, ap, ◌∙◌}
use mathlib.Core.List.{List, ◌++◌}
use Prim.Native.Nat.{ℕ, ◌+◌, ◌^◌, ◌≤◌, ◌<◌}
use native.Mathlib.Omega.{arith}
use lib.ListN.{length, length-append}
use Rattle.std.specs.Prelude.{Result, Ok, Err}
use Rattle.number.specs.declared.Refused.{Refused as RefusedBy}
use Rattle.number.specs.Refusal.{refusal_number, with_number}
use Rattle.text.specs.Text.{ascii, hexadecimal, refusal_line}
use Rattle.text.proofs.Laws.{hexadecimal_length, decimal_length, refusal_length}
use Rattle.schedule.specs.Schedule.{Reading, Accepted, Refused, read_schedule}
use Rattle.schedule.proofs.Reading.{SaysWhole, read_says, steps_few}
use Rattle.schedule.proofs.RoundTrip.{few_bytes}
use Rattle.state.proofs.Filling.{fresh_places}
use Rattle.passes.specs.Pass.{fresh_of, step_bytes}
use Rattle.passes.proofs.Passed.{bytes_length}
use Rattle.passes.proofs.Begun.{after_places}
use Rattle.rules.specs.Run.{after}
use Rattle.tail.specs.Tail.{tail_of}
use Rattle.form.specs.Form.{form_of, tail_bytes}
use Rattle.form.proofs.Lengths.{tail_size_lem}
use Rattle.form.proofs.Fits.{form_fits, form_most, has_fields}
use Rattle.marker.specs.Report.{report_bytes, tail_size}
use Rattle.marker.specs.Run.{reading_answer, reading_leaves, run_answers, run_leaves}
use Rattle.marker.proofs.Left.{ran, answers, report_left}
use Rattle.frame.specs.Types.{Step, Header}
use Rattle.frame.specs.Frame.{answer_line, WroteWithin, reading_line, line_of, longest_report, longest_line}

steps_most : (s : List ℕ) (h : Header) (steps : List Step) → read_schedule s ≡ Accepted h steps → length steps + tail_size h ≤ longest_report
steps_most s h steps e =
    omega (arith, few_bytes s h steps e, steps_few steps, form_most h.kind)

-- What a run answers and leaves gives its line

module _ (s report : List ℕ) (room : longest_report ≤ length report) where
  done_line : (x : Reading) → read_schedule s ≡ x → answer_line (with_number (reading_answer (length report) x)) (reading_leaves fresh_of report x) ≡ reading_line x
  done_line (Accepted h steps) e =
      let fits : length steps + tail_size h ≤ length report = omega (arith, steps_most s h steps e) in
      let has = fresh_places h.n h.votes in
      ap (λ (y : Result ℕ RefusedBy). answer_line (with_number y) (reading_leaves fresh_of report (Accepted h steps)))
      (answers fresh_of report {h = h} {steps = steps} refl has fits)
      ∙ ap (λ l. hexadecimal l ++ ascii "\n") (report_left fresh_of report {h = h} {steps = steps} refl has fits)
  done_line (Refused k place) e = refl

  pub run_line : answer_line (with_number (run_answers (length report) s)) (run_leaves report s) ≡ line_of s
  run_line = done_line (read_schedule s) refl

-- what it wrote is in the report
pub run_within : (s report left : List ℕ) → length left ≡ length report → WroteWithin (with_number (run_answers (length report) s)) left
run_within s report left same = go (run_answers (length report) s) refl
  where
    go : (x : Result ℕ RefusedBy) → run_answers (length report) s ≡ x → WroteWithin (with_number x) left
    go (Ok end) e = let x = ran report (read_schedule s) end e in omega (arith, x.length_written, x.room)
    go (Err r) e = tt

pub refusal_most : (k at : ℕ) → k < 10 ^ 10 → at < 10 ^ 20 → length (refusal_line k at) ≤ longest_line
refusal_most k at p q =
    omega (arith, refusal_length k at, decimal_length 10 k (omega arith) p, decimal_length 20 at (omega arith) q)

-- no line is longer than that of the longest report
pub line_most : (s : List ℕ) → length (line_of s) ≤ longest_line
line_most s = go (read_schedule s) refl (read_says s)
  where
    go : (x : Reading) → read_schedule s ≡ x → SaysWhole s x → length (reading_line x) ≤ longest_line
    go (Accepted h steps) e y =
        let has = after_places (fresh_of h) (fresh_places h.n h.votes) steps in
        let report : List ℕ = report_bytes h.kind (fresh_of h) steps in
        omega (
          arith,
          steps_most s h steps e,
          length-append (hexadecimal report) (ascii "\n"),
          hexadecimal_length report,
          length-append (step_bytes (fresh_of h) steps) (tail_bytes (form_of h.kind) (tail_of (after (fresh_of h) steps))),
          bytes_length (fresh_of h) steps,
          tail_size_lem (form_of h.kind) (tail_of (after (fresh_of h) steps)) (form_fits h.kind).0 (has_fields (after (fresh_of h) steps) has),
        )
    go (Refused k place) e y = refusal_most (refusal_number k) place (omega (arith, y.number)) (omega (arith, y.near))
