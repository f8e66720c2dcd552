-- The tail of a release that a run reaches is in range, and fits the form of its header's kind. Assumes nothing.
use mathlib.Core.Path.{◌≡◌}
use mathlib.Core.Bool.{true}
use mathlib.Core.List.{List}
use Prim.Native.Nat.{ℕ, ◌≤◌, ◌<◌}
use native.Mathlib.Omega.{arith}
use lib.ListN.{length, get_or}
use Rattle.store.specs.Log.{places}
use Rattle.kind.specs.Step.{AllInRange}
use Rattle.schedule.specs.Record.{header_in_range, longest}
use Rattle.schedule.specs.Schedule.{steps_bytes}
use Rattle.schedule.proofs.Laws.{header_room, header_size, header_votes}
use Rattle.rules.specs.Run.{after, count_limit, Countable}
use Rattle.rules.proofs.Reached.{reached_in_range}
use Rattle.rules.proofs.Room.{after_room}
use Rattle.tail.specs.Tail.{tail_of, tail_in_range}
use Rattle.tail.proofs.Follows.{tail_in_range_lem}
use Rattle.passes.specs.Pass.{fresh_of}
use Rattle.passes.proofs.Begun.{run_places, run_calls}
use Rattle.form.specs.Form.{form_of}
use Rattle.form.specs.Kept.{FitsForm}
use Rattle.form.proofs.Fits.{has_fields, range_fits}
use Rattle.marker.specs.Types.{Step, Header, Release}

-- no count of a run is near its limit
pub run_few : (h : Header) (steps : List Step) → length (steps_bytes steps) ≤ longest → Countable (after (fresh_of h) steps).calls
run_few h steps short p = omega (arith, run_calls h steps p)

module _ (h : Header) (steps : List Step) (q : header_in_range h ≡ true) (a : AllInRange h.n steps) where
  abbrev reached : Release
  reached = after (fresh_of h) steps

  pub run_ranged : (limit : ℕ) → ((p : ℕ) → get_or reached.calls p 0 < limit) → tail_in_range h.kind limit (tail_of reached) ≡ true
  run_ranged limit few =
      let n = header_room h q in
      tail_in_range_lem h.kind limit reached (rw (after_room (fresh_of h) steps).same_n n.1)
      (reached_in_range places h.n h.votes n.0 (header_size h q).1 (header_votes h q) steps a) few

  pub run_fits : Countable reached.calls → FitsForm (form_of h.kind) (tail_of reached)
  run_fits few =
      range_fits h.kind count_limit (tail_of reached) (omega arith) (omega arith) (has_fields reached (run_places h steps)) (run_ranged count_limit few)
