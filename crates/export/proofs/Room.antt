-- The state that a single step hands over, where it was taken, is the tail of a release. Assumes nothing.
use mathlib.Core.Path.{◌≡◌, refl, sym, ap, subst, ◌∙◌}
use mathlib.Core.Bool.{Bool, true, false, ◌&&◌}
use mathlib.Core.List.{List, [], ◌∷◌}
use Prim.Native.Nat.{ℕ, suc}
use native.Mathlib.Omega.{arith}
use Rattle.number.proofs.Table.{length_tabulate}
use Rattle.store.specs.Log.{places}
use Rattle.kind.specs.Step.{step_of, numbers_in_range}
use Rattle.rules.specs.State.{types}
use Rattle.rules.specs.Report.{moves}
use Rattle.rules.specs.Step.{step}
use Rattle.rules.specs.Run.{count_limit}
use Rattle.rules.proofs.Room.{after_room}
use Rattle.state.specs.Fields.{HasPlaces}
use Rattle.tail.specs.Tail.{tail_of, release_of, site_of, pair_of, fields_at, tail_in_range}
use Rattle.tail.specs.Single.{single_step}
use Rattle.tail.proofs.Follows.{tail_numbers}
use Rattle.form.specs.Form.{wide, message_at, count_at, tail_at}
use Rattle.export.specs.Types.{Kind, Release, Tail}
use Rattle.export.specs.State.{HandsTail}

module _ (bytes : List ℕ) (kind a b : ℕ) where
  abbrev given : Tail
  given = tail_at wide bytes

  abbrev next : Release
  next = (step (release_of given) (step_of kind a b)).next

  next_places : HasPlaces next
  next_places =
      let room = after_room (release_of given) (step_of kind a b ∷ []) in
      record {
        sites = room.sites ∙ length_tabulate places (λ i. site_of (fields_at given i));
        messages = room.messages ∙ length_tabulate types (message_at wide.width bytes);
        calls = room.calls ∙ length_tabulate (suc places) (count_at wide bytes);
      }

  next_back : release_of (tail_of next) ≡ next
  next_back =
      let room = after_room (release_of given) (step_of kind a b ∷ []) in
      tail_numbers.decoded next next_places.sites (room.logs ∙ length_tabulate places (λ i. pair_of (fields_at given i)))

  pub hands_tail : HandsTail (single_step given kind a b)
  hands_tail = ranged (tail_in_range Kind.WideHeader count_limit given && numbers_in_range given.n kind a b) refl
    where
      due : (x : Bool) → moves (step (release_of given) (step_of kind a b)).outcome ≡ x → tail_in_range Kind.WideHeader count_limit given && numbers_in_range given.n kind a b ≡ true → HandsTail (single_step given kind a b)
      due true q p = rw (p, q) (λ _. (subst HasPlaces (sym next_back) next_places, ap tail_of next_back))
      due false q p = rw (p, q) (λ e. absurd (omega arith))

      ranged : (x : Bool) → tail_in_range Kind.WideHeader count_limit given && numbers_in_range given.n kind a b ≡ x → HandsTail (single_step given kind a b)
      ranged true p = due (moves (step (release_of given) (step_of kind a b)).outcome) refl p
      ranged false p = rw p (λ e. absurd (omega arith))
