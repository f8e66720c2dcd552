-- A run keeps n, and how many places a release has for participants, logs, messages and counts. Assumes nothing.
use mathlib.Core.Path.{◌≡◌, refl, ◌∙◌}
use mathlib.Core.List.{List, [], ◌∷◌}
use Prim.Native.Nat.{ℕ, suc, ◌+◌}
use lib.ListN.{length, get_or, length-set}
use Rattle.std.specs.Prelude.{Option}
use Rattle.mask.specs.Mask.{full}
use Rattle.coordinator.specs.Coordinator
use Rattle.rules.specs.State.{message_place}
use Rattle.rules.specs.Step.{with_mask, send, take_out, send_all, with_participant, with_coordinator, called, participant_to, coordinator_to, coordinator_goes, receive, step}
use Rattle.rules.specs.Run.{after}
use Rattle.rules.specs.Types.{LogPair, Participant, Message, Coordinator, Transition, Step, Release, Report}
use Rattle.rules.proofs.Causes.{Cause, idles, starts, delivers, copies, loses, answered, lost, coordinator_answered_lem, coordinator_lost, times_out, crashes, restarts, coordinator_times_out, coordinator_crashes, coordinator_restarts, cause}

pub record SameRoom (r t : Release) : Type 0 where
  pub same_n : t.n ≡ r.n
  pub sites : length t.sites ≡ length r.sites
  pub logs : length t.store.logs ≡ length r.store.logs
  pub messages : length t.messages ≡ length r.messages
  pub calls : length t.calls ≡ length r.calls

room_refl : (r : Release) → SameRoom r r
room_refl r = record { same_n = refl; sites = refl; logs = refl; messages = refl; calls = refl }

-- a mask in the place of another
masked : (m : Message) (x : ℕ) (r : Release) → SameRoom r (with_mask m x r)
masked m x r = record { same_n = refl; sites = refl; logs = refl; messages = length-set r.messages (message_place m) x; calls = refl }

placed : (i : ℕ) (p : Participant) (r : Release) → SameRoom r (with_participant i p r)
placed i p r = record { same_n = refl; sites = length-set r.sites i (record { participant = p }); logs = refl; messages = refl; calls = refl }

led : (c : Coordinator) (r : Release) → SameRoom r (with_coordinator c r)
led c r = record { same_n = refl; sites = refl; logs = refl; messages = refl; calls = refl }

room_then : (r s t : Release) → SameRoom r s → SameRoom s t → SameRoom r t
room_then r s t a b =
    record { same_n = b.same_n ∙ a.same_n; sites = b.sites ∙ a.sites; logs = b.logs ∙ a.logs; messages = b.messages ∙ a.messages; calls = b.calls ∙ a.calls }

to_room : (i : ℕ) (p : Participant) (s : Option Message) (r : Release) → SameRoom r (participant_to i p s r).next
unfolding participant_to
to_room i p Option.None r = placed i p r
to_room i p (Option.Some m) r = room_then r (send m i r) _ (masked m _ r) (placed i p (send m i r))

coordinator_room : (c : Coordinator) (s : Option Message) (r : Release) → SameRoom r (coordinator_to c s r).next
unfolding coordinator_to
coordinator_room c Option.None r = led c r
coordinator_room c (Option.Some m) r = room_then r (send_all m r) _ (masked m _ r) (led c (send_all m r))

goes_room : (t : Transition Coordinator) (r : Release) → SameRoom r (coordinator_goes t r).next
goes_room Option.None r = room_refl r
goes_room (Option.Some (c, s)) r = coordinator_room c s r

receive_room : (m : Message) (i : ℕ) (r : Release) → SameRoom r (receive m i r).next
receive_room Message.Request i r = to_room i _ Option.None r
receive_room Message.ReplyYes i r = goes_room (Coordinator.on_reply_yes (full r.n) i r.coordinator) r
receive_room Message.ReplyAbort i r = goes_room (Coordinator.on_reply_abort r.coordinator) r
receive_room Message.Commit i r = to_room i _ Option.None r
receive_room Message.Abort i r = to_room i _ Option.None r

called_room : (p j : ℕ) (l : LogPair) (r : Release) → SameRoom r (called p j l r)
called_room p j l r =
    record { same_n = refl; sites = refl; logs = length-set r.store.logs j l; messages = refl; calls = length-set r.calls p (get_or r.calls p 0 + 1) }

pub caused_room : (r : Release) {s : Step} {t : Report} → Cause r s t → SameRoom r t.next
caused_room r idles = room_refl r
caused_room r (starts {c} {x} q) = coordinator_room c x r
caused_room r (delivers {m} {i} b) = room_then r (take_out m i r) _ (masked m _ r) (receive_room m i (take_out m i r))
caused_room r (copies {m} {i} b) = receive_room m i r
caused_room r (loses {m}) = masked m _ r
caused_room r (answered {i} {j} {l} {p} {x} a) = room_then r (called (suc i) j l.log r) _ (called_room (suc i) j l.log r) (to_room i p x (called (suc i) j l.log r))
caused_room r (lost {i} {j} {l} a) = called_room (suc i) j l.log r
caused_room r (coordinator_answered_lem {j} {l} {c} {x} a) = room_then r (called 0 j l.log r) _ (called_room 0 j l.log r) (coordinator_room c x (called 0 j l.log r))
caused_room r (coordinator_lost {j} {l} a) = called_room 0 j l.log r
caused_room r (times_out {i} {p} {x} q) = to_room i p x r
caused_room r (crashes {i} {p} {x} q) = to_room i p x r
caused_room r (restarts {i} {p} {x} q) = to_room i p x r
caused_room r (coordinator_times_out {c} {x} q) = coordinator_room c x r
caused_room r (coordinator_crashes {c} {x} q) = coordinator_room c x r
caused_room r (coordinator_restarts {c} {x} q) = coordinator_room c x r

-- over a list
pub after_room : (r : Release) (ss : List Step) → SameRoom r (after r ss)
after_room r [] = room_refl r
after_room r (s ∷ ss) = room_then r (step r s).next _ (caused_room r (cause r s)) (after_room (step r s).next ss)
