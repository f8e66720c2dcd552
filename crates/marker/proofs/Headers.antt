-- The same steps under both headers: one release, one run, and a tail that fits both forms. Assumes nothing.
use mathlib.Core.Path.{◌≡◌, refl, sym, ap, ap₂, ◌∙◌}
use mathlib.Core.Bool.{true}
use mathlib.Core.List.{List, [], ◌∷◌, ◌++◌}
use Prim.Native.Nat.{ℕ, ◌+◌, ◌/◌, ◌%◌, ◌≤◌, ◌<◌}
use native.Mathlib.Omega.{arith}
use lib.ListN.{length}
use lib.Pow.{pow_mono}
use Rattle.number.specs.Low.{low_bytes}
use Rattle.mask.proofs.Laws.{within_lt}
use Rattle.kind.specs.Step.{AllInRange}
use Rattle.schedule.specs.Record.{header_in_range, longest}
use Rattle.schedule.specs.Schedule.{steps_bytes, schedule_bytes}
use Rattle.schedule.proofs.Laws.{header_room, header_under, header_votes}
use Rattle.schedule.proofs.Reading.{header_more}
use Rattle.schedule.proofs.RoundTrip.{steps_kept}
use Rattle.rules.specs.Run.{after}
use Rattle.state.specs.Fields.{HasPlaces}
use Rattle.state.proofs.Filling.{fresh_places}
use Rattle.tail.specs.Tail.{tail_of}
use Rattle.passes.specs.Pass.{fresh_of}
use Rattle.form.specs.Form.{form_of, tail_at}
use Rattle.form.proofs.Kept.{tail_kept}
use Rattle.marker.specs.Types.{Kind, Step, Header}
use Rattle.marker.specs.Report.{tail_size, tail_left}
use Rattle.marker.specs.Run.{run_leaves}
use Rattle.marker.specs.Headers.{narrow_header, wide_header, SameUnderBoth}
use Rattle.marker.proofs.Left.{answers, steps_left_lem, tail_is_left}
use Rattle.marker.proofs.TailBytes.{run_few, run_fits}

-- the fields of the tail that a run leaves are those of the release that it reaches
fields_left : (h : Header) (steps : List Step) (report : List ℕ) → header_in_range h ≡ true → AllInRange h.n steps → length (schedule_bytes h steps) ≤ longest
    → length steps + tail_size h ≤ length report
    → tail_at (form_of h.kind) (tail_left h (run_leaves report (schedule_bytes h steps)) (length steps + tail_size h)) ≡ tail_of (after (fresh_of h) steps)
fields_left h steps report g q fits room =
    let e = steps_kept h steps g q fits in
    let few = run_few h steps (omega (arith, header_more h (steps_bytes steps))) in
    ap (tail_at (form_of h.kind)) (tail_is_left fresh_of report e (fresh_places h.n h.votes) room)
    ∙ tail_kept (form_of h.kind) (tail_of (after (fresh_of h) steps)) (run_fits h steps g q few)

-- a number of one byte has zeros in the others
one_byte : (x : ℕ) → x < 256 → low_bytes 1 x ≡ x ∷ []
one_byte x h = let e : x % 256 ≡ x = omega arith in rw e refl

four_bytes_lem : (x : ℕ) → x < 256 → low_bytes 4 x ≡ x ∷ 0 ∷ 0 ∷ 0 ∷ []
four_bytes_lem x h =
    let a : x % 256 ≡ x = omega arith in
    let b : x / 256 ≡ 0 = omega arith in
    rw (a, b) refl

pub same_under_both : SameUnderBoth
same_under_both n votes steps g q fits report room =
    record {
      narrow_bytes = ap₂ (λ (a b : List ℕ). 0x01 ∷ (a ++ b ++ steps_bytes steps)) (one_byte n n_small) (one_byte votes votes_small);
      wide_bytes = ap₂ (λ (a b : List ℕ). 0x0B ∷ (a ++ b ++ steps_bytes steps)) (one_byte n n_small) (four_bytes_lem votes votes_small);
      narrow_written = answers fresh_of report (steps_kept h steps g q narrow_fits) has enough;
      wide_written = answers fresh_of report (steps_kept w steps wide_range q fits) has room;
      steps_same = steps_left_lem fresh_of report (steps_kept h steps g q narrow_fits) has enough ∙ sym (steps_left_lem fresh_of report (steps_kept w steps wide_range q fits) has room);
      tail_same = fields_left h steps report g q narrow_fits enough ∙ sym (fields_left w steps report wide_range q fits room);
    }
  where
    h : Header
    h = narrow_header n votes

    w : Header
    w = wide_header n votes

    size : (1 ≤ n) × (n ≤ 8)
    size = header_room h g

    n_small : n < 256
    n_small = omega (arith, size.1)

    votes_small : votes < 256
    votes_small = omega (arith, within_lt n votes (header_votes h g), pow_mono {i = n} {j = 8} size.1)

    wide_range : header_in_range w ≡ true
    wide_range = header_under Kind.WideHeader h (omega arith) g

    has : HasPlaces (fresh_of h)
    has = fresh_places n votes

    narrow_fits : length (schedule_bytes h steps) ≤ longest
    narrow_fits = omega (arith, header_more h (steps_bytes steps), header_more w (steps_bytes steps))

    enough : length steps + tail_size h ≤ length report
    enough = omega arith
