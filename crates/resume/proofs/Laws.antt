-- What a run from a tail answers and leaves gives the line with the tail after it. Assumes nothing.
use mathlib.Core.Path.{◌≡◌, refl, sym, ap, ◌∙◌}
use mathlib.Core.List.{List, [], ◌++◌}
use Prim.Native.Nat.{ℕ, ◌+◌, ◌-◌, ◌*◌, ◌≤◌}
use native.Mathlib.Omega.{arith}
use lib.ListN.{length, take, drop, length-append}
use Rattle.std.specs.Prelude.{Result, Ok, Err}
use Rattle.number.specs.declared.Refused as number
use Rattle.text.specs.Text.{ascii, hexadecimal}
use Rattle.text.specs.Put.{Put}
use Rattle.text.proofs.Laws.{hexadecimal_length}
use Rattle.schedule.specs.Schedule.{Reading, Accepted, Refused}
use Rattle.schedule.specs.declared.Header.{Header}
use Rattle.kind.specs.declared.Kind.{Kind}
use Rattle.schedule.proofs.Reading.{steps_few}
use Rattle.rules.specs.Run.{after}
use Rattle.tail.specs.Tail.{tail_of}
use Rattle.passes.proofs.Begun.{after_places}
use Rattle.form.specs.Form.{form_of, wide, tail_bytes, tail_length}
use Rattle.form.proofs.Lengths.{tail_size_lem}
use Rattle.form.proofs.Fits.{form_fits, has_fields}
use Rattle.start.specs.Start.{start_release, read_from}
use Rattle.start.proofs.Taken.{start_places}
use Rattle.start.proofs.Kept.{rest_bytes_kept}
use Rattle.marker.specs.Report.{tail_size}
use Rattle.marker.specs.Run.{reading_answer, run_from_answers, run_from_leaves}
use Rattle.marker.proofs.Left.{ran, answers, tail_given}
use Rattle.frame.specs.Frame.{longest_report}
use Rattle.resume.specs.Resume.{tail_text, tail_line}

module _ (tail bytes report : List ℕ) where
  -- a run that is done: its last 320 bytes are the tail that the line has
  pub record TailThere (end : ℕ) (left : List ℕ) : Type 0 where
    pub start : tail_length wide ≤ end
    pub within : end ≤ length report
    pub digits : length (hexadecimal (take (end - (end - tail_length wide)) (drop (end - tail_length wide) left))) ≡ 2 * tail_length wide
    pub said : tail_text tail (read_from tail bytes)
        ≡ ascii "tail " ++ (hexadecimal (take (end - (end - tail_length wide)) (drop (end - tail_length wide) left)) ++ ascii "\n")

  pub tail_there : (end : ℕ) → run_from_answers (length report) tail bytes ≡ Ok end → TailThere end (run_from_leaves report tail bytes)
  tail_there end d =
      let x = ran report (read_from tail bytes) end d in
      let y = rest_bytes_kept tail bytes x.header x.steps x.accepted in
      let kind : x.header.kind ≡ Kind.WideHeader = ap (λ (h : Header). h.kind) y.under in
      let size : tail_size x.header ≡ tail_length wide = ap (λ k. tail_length (form_of k)) kind in
      let has = start_places Kind.WideHeader tail in
      let end-release = after (start_release tail) x.steps in
      let places = after_places (start_release tail) has x.steps in
      let enough : tail_length wide ≤ end = omega (arith, x.length_written, size) in
      let part : end - (end - tail_length wide) ≡ tail_length wide = omega arith in
      let given = tail_given (λ _. start_release tail) report x.accepted has end d in
      let left : List ℕ = run_from_leaves report tail bytes in
      let there : take (end - (end - tail_length wide)) (drop (end - tail_length wide) left) ≡ tail_bytes wide (tail_of end-release) =
      ap (λ k. take k (drop (end - tail_length wide) left)) part
      ∙ sym (ap (λ k. take k (drop (end - k) left)) size)
      ∙ given
      ∙ ap (λ k. tail_bytes (form_of k) (tail_of end-release)) kind in
      record {
        start = enough;
        within = omega (arith, x.length_written, x.room);
        digits =
            ap (λ l. length (hexadecimal l)) there
            ∙ hexadecimal_length (tail_bytes wide (tail_of end-release))
            ∙ ap (λ k. 2 * k) (tail_size_lem wide (tail_of end-release) (form_fits Kind.WideHeader).0 (has_fields end-release places));
        said = ap (tail_text tail) x.accepted ∙ ap (λ l. ascii "tail " ++ (hexadecimal l ++ ascii "\n")) (sym there);
      }

  -- one that is refused, though there is room for every report, has no such line
  pub no_tail : longest_report ≤ length report → (k : number.Refused) → run_from_answers (length report) tail bytes ≡ Err k
      → tail_text tail (read_from tail bytes) ≡ []
  no_tail room k d = go (read_from tail bytes) refl d
    where
      go : (x : Reading) → read_from tail bytes ≡ x → reading_answer (length report) x ≡ Err k → tail_text tail (read_from tail bytes) ≡ []
      go (Accepted h steps) e d =
          let y = rest_bytes_kept tail bytes h steps e in
          let size : tail_size h ≡ tail_length wide = ap (λ (a : Header). tail_length (form_of a.kind)) y.under in
          let enough : length steps + tail_size h ≤ length report = omega (arith, size, steps_few steps, y.long, y.short) in
          let has = start_places Kind.WideHeader tail in
          let written = answers (λ _. start_release tail) report {x = Accepted h steps} {h = h} {steps = steps} refl has enough in
          let done : ◌≡◌ {A = Result ℕ number.Refused} (Ok (length steps + tail_size h)) (Err k) = sym written ∙ d in
          let z : ◌≡◌ {A = ℕ} 0 1 = cc (done) in
          absurd (omega arith)
      go (Refused j at) e d = ap (tail_text tail) e

-- no such line is longer than this
pub tail_most : (tail : List ℕ) (x : Reading) → length (tail_text tail x) ≤ tail_line
tail_most tail (Accepted h steps) =
    let r = after (start_release tail) steps in
    let bytes : List ℕ = tail_bytes wide (tail_of r) in
    let places = after_places (start_release tail) (start_places Kind.WideHeader tail) steps in
    omega (
      arith,
      length-append (ascii "tail ") (hexadecimal bytes ++ ascii "\n"),
      length-append (hexadecimal bytes) (ascii "\n"),
      hexadecimal_length bytes,
      tail_size_lem wide (tail_of r) (form_fits Kind.WideHeader).0 (has_fields r places),
    )
tail_most tail (Refused k place) = omega arith

-- nothing is put
pub put_none : (text : List ℕ) (place : ℕ) → Put text place [] place text
put_none text place = record { ends = omega arith; leaves = refl }
