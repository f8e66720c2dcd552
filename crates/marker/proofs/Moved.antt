-- Runs in progress move over: the statements of specs/Moved.antt. A tail that runs gave holds the release that all steps before it lead to.
-- Assumes nothing.
use mathlib.Core.Path.{◌≡◌, refl, sym, ap, ap₂, subst, subst₂, ◌∙◌}
use mathlib.Core.Bool.{true}
use mathlib.Core.List.{List, [], ◌∷◌, ◌++◌}
use Prim.Native.Nat.{ℕ, suc, ◌≤◌, ◌<◌}
use native.Mathlib.Omega.{arith}
use native.Mathlib.Decide.{dec_lt}
use lib.ListN.{length, get_or, take, length-replicate, get_or-eq_default}
use Rattle.std.specs.Prelude.{None}
use Rattle.store.specs.Log.{places, empty}
use Rattle.kind.specs.Step.{AllInRange}
use Rattle.schedule.specs.Record.{header_in_range, longest}
use Rattle.schedule.specs.Schedule.{Accepted, steps_bytes}
use Rattle.schedule.proofs.Laws.{header_under}
use Rattle.schedule.proofs.RoundTrip.{steps_kept, read_in_range, few_bytes}
use Rattle.writer.proofs.Laws.{room_done}
use Rattle.rules.specs.Report.{step_byte}
use Rattle.rules.specs.Step.{step}
use Rattle.rules.specs.Run.{after, Countable, calls_made}
use Rattle.rules.proofs.Agreement.{after_append, range_append}
use Rattle.rules.proofs.Counts.{calls_counted}
use Rattle.rules.proofs.OneParty.{header_kept}
use Rattle.rules.proofs.Room.{after_room}
use Rattle.state.proofs.Filling.{fresh_places}
use Rattle.tail.specs.Tail.{tail_of, release_of, header_of, tail_in_range}
use Rattle.tail.proofs.Follows.{tail_numbers}
use Rattle.passes.specs.Pass.{fresh_of, step_bytes}
use Rattle.passes.proofs.Begun.{calls_most, no_calls_lem, run_places, run_calls}
use Rattle.form.specs.Form.{form_of, narrow, wide, tail_bytes, tail_length, tail_at}
use Rattle.form.proofs.Kept.{tail_kept}
use Rattle.form.proofs.Lengths.{tail_size_lem}
use Rattle.form.proofs.Fits.{form_fits, has_fields}
use Rattle.start.specs.Start.{most_calls, tail_refusal, start_header, start_release, read_from}
use Rattle.start.specs.Move.{moved_bytes, move_leaves}
use Rattle.start.proofs.Taken.{taken, few_calls, start_places}
use Rattle.start.proofs.Answered.{move_done, taken_answer}
use Rattle.start.proofs.Moved.{moved_left}
use Rattle.start.proofs.Kept.{rest_steps_kept, rest_bytes_kept}
use Rattle.marker.specs.Types.{Kind, LogPair, Step, Header, Release}
use Rattle.marker.specs.Headers.{narrow_header, wide_header}
use Rattle.marker.specs.Demand.{ReportHolds}
use Rattle.marker.specs.Moved.{RunGave, MoveGave, RunFromGave, MoveAgrees, NarrowGoesOn, Given, by_run, by_move, by_run_from, AllGivenHold}
use Rattle.marker.proofs.Left.{answers, steps_left_lem, tail_is_left, steps_given, tail_given}
use Rattle.marker.proofs.TailBytes.{run_few, run_ranged, run_fits}
use Rattle.marker.proofs.Demand.{run_holds}

-- the bytes of steps after others
bytes_append : (r : Release) (xs ys : List Step) → step_bytes r (xs ++ ys) ≡ step_bytes r xs ++ step_bytes (after r xs) ys
bytes_append r [] ys = refl
bytes_append r (x ∷ xs) ys = ap (λ l. step_byte (step r x) ∷ l) (bytes_append (step r x).next xs ys)

-- The tail of a release that a run reaches

module _ (h : Header) (steps : List Step) (g : header_in_range h ≡ true) (q : AllInRange h.n steps) (few : Countable (after (fresh_of h) steps).calls) where
  abbrev reached : Release
  reached = after (fresh_of h) steps

  abbrev reached_tail : List ℕ
  reached_tail = tail_bytes (form_of h.kind) (tail_of reached)

  tail_back : tail_at (form_of h.kind) reached_tail ≡ tail_of reached
  tail_back = tail_kept (form_of h.kind) (tail_of reached) (run_fits h steps g q few)

  -- nothing refuses it while no count is over 54,000
  tail_taken : ((p : ℕ) → get_or reached.calls p 0 < suc most_calls) → tail_refusal h.kind reached_tail ≡ None
  tail_taken some =
      taken h.kind reached_tail (tail_size_lem (form_of h.kind) (tail_of reached) (form_fits h.kind).0 (has_fields reached (run_places h steps)))
      (ap (tail_in_range h.kind (suc most_calls)) tail_back ∙ run_ranged h steps g q (suc most_calls) some)

  -- it holds the release, and the header
  release_back : release_of (tail_at (form_of h.kind) reached_tail) ≡ reached
  release_back =
      ap release_of tail_back
      ∙ tail_numbers.decoded reached (run_places h steps).sites ((after_room (fresh_of h) steps).logs ∙ length-replicate {A = LogPair} places empty)

  header_back : header_of h.kind (tail_at (form_of h.kind) reached_tail) ≡ h
  header_back =
      let same = header_kept (fresh_of h) steps in
      ap (header_of h.kind) tail_back ∙ ap₂ (λ n votes. record { kind = h.kind; n = n; votes = votes }) same.0 same.1

-- What a tail that runs gave holds

record Held (n votes : ℕ) (steps : List Step) (bytes tail : List ℕ) : Type 0 where
  header : header_in_range (wide_header n votes) ≡ true
  ranged : AllInRange n steps
  said : bytes ≡ step_bytes (fresh_of (wide_header n votes)) steps
  holds : tail ≡ tail_bytes wide (tail_of (after (fresh_of (wide_header n votes)) steps))
  few : Countable (after (fresh_of (wide_header n votes)) steps).calls

-- a run

module _ {h : Header} {steps : List Step} {bytes tail : List ℕ} (x : RunGave h steps bytes tail) where
  run_range : (header_in_range h ≡ true) × AllInRange h.n steps × (length x.schedule ≤ longest)
  run_range = read_in_range x.schedule h steps x.read

  run_bytes : length (steps_bytes steps) ≤ longest
  run_bytes = few_bytes x.schedule h steps x.read

  run_said : bytes ≡ step_bytes (fresh_of h) steps
  run_said = x.bytes_left ∙ steps_given fresh_of x.report x.read (fresh_places h.n h.votes) x.written x.done

  run_tail : tail ≡ tail_bytes (form_of h.kind) (tail_of (after (fresh_of h) steps))
  run_tail = x.tail_is_left ∙ tail_given fresh_of x.report x.read (fresh_places h.n h.votes) x.written x.done

-- a move

module _ {n votes : ℕ} {steps : List Step} {bytes tail : List ℕ} (x : RunGave (narrow_header n votes) steps bytes tail) where
  abbrev narrow_reached : Release
  narrow_reached = after (fresh_of (narrow_header n votes)) steps

  narrow_few : Countable narrow_reached.calls
  narrow_few = run_few (narrow_header n votes) steps (run_bytes x)

  narrow_taken : tail_refusal Kind.Header tail ≡ None
  narrow_taken =
      ap (tail_refusal Kind.Header) (run_tail x)
      ∙ tail_taken (narrow_header n votes) steps (run_range x).0 (run_range x).1 narrow_few (λ p. omega (arith, run_calls (narrow_header n votes) steps p, run_bytes x))

  narrow_moved : moved_bytes tail ≡ tail_bytes wide (tail_of narrow_reached)
  narrow_moved = ap (tail_bytes wide) (ap (tail_at narrow) (run_tail x) ∙ tail_back (narrow_header n votes) steps (run_range x).0 (run_range x).1 narrow_few)

  moved_held : (moved : List ℕ) → moved ≡ moved_bytes tail → Held n votes steps bytes moved
  moved_held moved e =
      record {
        header = header_under Kind.WideHeader (narrow_header n votes) (omega arith) (run_range x).0;
        ranged = (run_range x).1;
        said = run_said x;
        holds = e ∙ narrow_moved;
        few = narrow_few;
      }

move_held : {n votes : ℕ} {steps : List Step} {bytes narrow_tail tail : List ℕ} → RunGave (narrow_header n votes) steps bytes narrow_tail → MoveGave narrow_tail tail
    → Held n votes steps bytes tail
move_held {narrow_tail = given} {tail = moved} x y =
    let answer = sym (taken_answer y.buffer given (narrow_taken x)) in
    let room = room_done (length y.buffer) (tail_length wide) y.written (sym answer ∙ y.done) in
    moved_held x moved (y.tail_is_left ∙ ap (λ k. take k (move_leaves y.buffer given)) room.0 ∙ moved_left y.buffer given (narrow_taken x) room.1)

-- a run from a tail

module _ {n votes : ℕ} {steps : List Step} {bytes tail : List ℕ} (a : Held n votes steps bytes tail) where
  abbrev w : Header
  w = wide_header n votes

  held_release : start_release tail ≡ after (fresh_of w) steps
  held_release = ap (λ l. release_of (tail_at wide l)) a.holds ∙ release_back w steps a.header a.ranged a.few

  held_header : start_header tail ≡ w
  held_header = ap (λ l. header_of Kind.WideHeader (tail_at wide l)) a.holds ∙ header_back w steps a.header a.ranged a.few

  held_taken : ((p : ℕ) → get_or (after (fresh_of w) steps).calls p 0 < suc most_calls) → tail_refusal Kind.WideHeader tail ≡ None
  held_taken some = ap (tail_refusal Kind.WideHeader) a.holds ∙ tail_taken w steps a.header a.ranged a.few some

  held_read : tail_refusal Kind.WideHeader tail ≡ None → (rest : List Step) → AllInRange n rest → length (steps_bytes rest) ≤ longest
      → read_from tail (steps_bytes rest) ≡ Accepted w rest
  held_read e rest q fits =
      rest_steps_kept tail rest e (subst (λ (h : Header). AllInRange h.n rest) (sym held_header) q) fits ∙ ap (λ (h : Header). Accepted h rest) held_header

  module _ {more : List Step} {later end : List ℕ} (x : RunFromGave tail more later end) where
    abbrev joined : after (fresh_of w) (steps ++ more) ≡ after (start_release tail) more
    joined = after_append (fresh_of w) steps more ∙ ap (λ (r : Release). after r more) (sym held_release)

    further : Held n votes (steps ++ more) (bytes ++ later) end
    further =
        let y = rest_bytes_kept tail x.rest (start_header tail) more x.read in
        let has = start_places Kind.WideHeader tail in
        let more_range : AllInRange n more = subst (λ (h : Header). AllInRange h.n more) held_header y.ranged in
        let later_said : later ≡ step_bytes (start_release tail) more = x.bytes_left ∙ steps_given (λ _. start_release tail) x.report x.read has x.written x.done in
        let end_holds : end ≡ tail_bytes wide (tail_of (after (start_release tail) more)) = x.tail_is_left ∙ tail_given (λ _. start_release tail) x.report x.read has x.written x.done in
        record {
          header = a.header;
          ranged = range_append n steps more a.ranged more_range;
          said =
              ap₂ (λ (k l : List ℕ). k ++ l) a.said (later_said ∙ ap (λ (r : Release). step_bytes r more) held_release)
              ∙ sym (bytes_append (fresh_of w) steps more);
          holds = end_holds ∙ ap (λ (r : Release). tail_bytes wide (tail_of r)) (sym joined);
          few =
              λ p. omega (
                arith,
                ap (λ (r : Release). get_or r.calls p 0) joined,
                calls_most (start_release tail) more p,
                few_calls Kind.WideHeader tail y.tail_taken p,
                y.long,
                y.short,
              );
        }

-- So every tail that runs gave is held

held : {n votes : ℕ} {steps : List Step} {bytes tail : List ℕ} → Given n votes steps bytes tail → Held n votes steps bytes tail
held {n = n} {votes = votes} (by_run {steps = steps} x) =
    record {
      header = (run_range x).0;
      ranged = (run_range x).1;
      said = run_said x;
      holds = run_tail x;
      few = run_few (wide_header n votes) steps (run_bytes x);
    }
held (by_move x y) = move_held x y
held (by_run_from a x) = further (held a) x

-- a party's count is that of its due calls
counts_made : (h : Header) (steps : List Step) (p : ℕ) → p ≤ places → get_or (after (fresh_of h) steps).calls p 0 ≡ calls_made p (fresh_of h) steps
counts_made h steps p small = omega (arith, calls_counted (fresh_of h) steps p (omega arith), no_calls_lem h p)

no_party : (h : Header) (steps : List Step) (p : ℕ) → places < p → get_or (after (fresh_of h) steps).calls p 0 ≡ 0
no_party h steps p far = get_or-eq_default (after (fresh_of h) steps).calls 0 {n = p} (omega (arith, (run_places h steps).calls))

pub all_given_hold : AllGivenHold
all_given_hold n votes steps bytes tail x =
    record {
      header = a.header;
      ranged = a.ranged;
      holds = subst₂ (ReportHolds w₀ steps) (sym a.said) (sym a.holds) (run_holds w₀ steps a.header a.ranged a.few);
      whole = λ fits report room.
          let e = steps_kept w₀ steps a.header a.ranged fits in
          let has = fresh_places n votes in (
            answers fresh_of report e has room,
            steps_left_lem fresh_of report e has room ∙ sym a.said,
            tail_is_left fresh_of report e has room ∙ sym a.holds,
          );
      goes_on = λ few. held_read a (held_taken a (λ p. count p few (dec_lt places p)));
    }
  where
    w₀ : Header
    w₀ = wide_header n votes

    a : Held n votes steps bytes tail
    a = held x

    count : (p : ℕ) → ((p : ℕ) → p ≤ places → calls_made p (fresh_of w₀) steps ≤ most_calls) → Dec (places < p) → get_or (after (fresh_of w₀) steps).calls p 0 < suc most_calls
    count p few (yes far) = omega (arith, no_party w₀ steps p far)
    count p few (no near) = omega (arith, counts_made w₀ steps p (omega arith), few p (omega arith))

pub move_agrees : MoveAgrees
move_agrees n votes first rest first-bytes narrow_tail wide_tail rest-bytes end x y z fits =
    (all_given_hold n votes (first ++ rest) (first-bytes ++ rest-bytes) end (by_run_from (by_move x y) z)).whole fits

pub narrow_goes_on : NarrowGoesOn
narrow_goes_on n votes first bytes narrow_tail x =
    record {
      moved = moved_bytes narrow_tail;
      move_done = λ buffer room. (sym (move_done buffer narrow_tail (narrow_taken x) room).0, moved_left buffer narrow_tail (narrow_taken x) room);
      rest_read = read;
      rest_done = λ rest q fits report room. answers (λ _. start_release (moved_bytes narrow_tail)) report (read rest q fits) (start_places Kind.WideHeader (moved_bytes narrow_tail)) room;
    }
  where
    a : Held n votes first bytes (moved_bytes narrow_tail)
    a = moved_held x (moved_bytes narrow_tail) refl

    read : (rest : List Step) → AllInRange n rest → length (steps_bytes rest) ≤ longest → read_from (moved_bytes narrow_tail) (steps_bytes rest) ≡ Accepted (wide_header n votes) rest
    read = held_read a (held_taken a (λ p. omega (arith, run_calls (wide_header n votes) first p, run_bytes x)))
