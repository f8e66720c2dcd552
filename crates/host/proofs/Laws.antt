-- What numbers in range give the host's step: places that a mask has, and a next state whose numbers fit their bytes. Assumes nothing.
use mathlib.Core.Path.{◌≡◌, refl, sym, ap}
use mathlib.Core.Bool.{Bool, true, false}
use Prim.Native.Nat.{ℕ, ◌-◌, ◌^◌, ◌≤◌, ◌<◌}
use native.Mathlib.Omega.{arith}
use lib.Pow.{pow_mono}
use borrow.Author.Tests.{le-leb}
use Rattle.std.specs.Prelude.{cond, Option, Some, None}
use Rattle.number.proofs.Laws.{and_left, and_right, and_true}
use Rattle.mask.specs.Mask.{full}
use Rattle.kind.specs.Kind.{room}
use Rattle.participant.specs.Participant
use Rattle.rules.proofs.Cases.{crash_cases, restart_cases}
use Rattle.rules.proofs.Ranges.{ParticipantInRange, participant_held, Guard, Guarded, pending_guarded, ToInRange, request_range, decision_range, timeout_range, answer_range}
use Rattle.kind.specs.Step.{number_in_range}
use Rattle.kind.proofs.Numbers.{between}
use Rattle.event.specs.Event.{event_of, is_event, is_written, event_in_range}
use Rattle.host.specs.Types.{Kind, Call, Message, Participant, Transition, Event}
use Rattle.host.specs.Host.{answers, on_event, among_in_range, among, host_in_range, host_transition, heard_width}

-- an event among n is one among more
event_more : (n m : ℕ) → n ≤ m → (e : Event) → event_in_range n e ≡ true → event_in_range m e ≡ true
event_more n m more (Event.Request vote) q = refl
event_more n m more (Event.Decided d) q = refl
event_more n m more Event.Timeout q = refl
event_more n m more Event.Crash q = refl
event_more n m more Event.Restart q = refl
event_more n m more (Event.Answer log r) q =
    let b = between 1 log n (and_left (number_in_range 1 log n) (is_written r) q) in
    and_true _ _ (and_true _ _ (le-leb 1 log b.0) (le-leb log m (omega (arith, b.1)))) (and_right (number_in_range 1 log n) (is_written r) q)

-- the facts of numbers in range

pub record Given (n own s h e d r : ℕ) : Type 0 where
  pub size : n ≤ room Kind.WideHeader
  pub first : 1 ≤ own
  pub last : own ≤ n
  pub participant : Participant.in_range (full n) (own - 1) (Participant.of_numbers s h) ≡ true
  pub event : event_in_range n (event_of e d r) ≡ true
  pub event_small : event_in_range (room Kind.WideHeader) (event_of e d r) ≡ true

pub given : (n own s h e d r : ℕ) → host_in_range n own s h e d r ≡ true → Given n own s h e d r
given n own s h e d r q =
    let a = and_right (number_in_range 1 n (room Kind.WideHeader)) _ q in
    let b = and_right (number_in_range 1 own n) _ a in
    let o = between 1 own n (and_left (number_in_range 1 own n) _ a) in
    let most = (between 1 n (room Kind.WideHeader) (and_left (number_in_range 1 n (room Kind.WideHeader)) _ q)).1 in
    let event = and_right (is_event e d r) _ (and_right (Participant.numbers_in_range (full n) (own - 1) s h) _ b) in
    record {
      size = most;
      first = o.0;
      last = o.1;
      participant = and_right (Participant.is_participant s h) _ (and_left (Participant.numbers_in_range (full n) (own - 1) s h) _ b);
      event = event;
      event_small = event_more n (room Kind.WideHeader) most (event_of e d r) event;
    }

-- an event leads to a heard mask in range

answers_range : (n i : ℕ) (p : Participant) (j : ℕ) (t : Transition Participant) (c : Option Call) → Guarded i p j c → (Guard i p j → ToInRange n i t) → ToInRange n i (answers c t)
answers_range n i p j t None g f = tt
answers_range n i p j t (Some (Call.LogOnce r)) g f = f g
answers_range n i p j t (Some (Call.Log r)) g f = f g

event_range : (n i : ℕ) → i < n → (p : Participant) → ParticipantInRange n i p → (e : Event) → event_in_range n e ≡ true → ToInRange n i (on_event (full n) i p e)
event_range n i l p k (Event.Request vote) q = request_range n i l vote p k
event_range n i l p k (Event.Decided d) q = decision_range n i l d p k
event_range n i l p k Event.Timeout q = timeout_range n i l p k
event_range n i l p k Event.Crash q = crash_cases (λ p t. ToInRange n i t) (λ p. tt) tt p
event_range n i l p k Event.Restart q = restart_cases (λ p t. ToInRange n i t) tt (λ p. tt) p
event_range n i l p k (Event.Answer log r) q =
    let b = between 1 log n (and_left (number_in_range 1 log n) (is_written r) q) in
    answers_range n i p (log - 1) (Participant.on_answer (full n) i p (log - 1) r) (Participant.pending i p (log - 1)) (pending_guarded i p (log - 1))
    (λ g. answer_range n i l p (log - 1) r (omega (arith, b.0, b.1)) g k)

heard_below : (n i : ℕ) (p : Participant) → n ≤ room Kind.WideHeader → ParticipantInRange n i p → Participant.heard_of p < 256 ^ heard_width
heard_below n i Participant.Waiting l k = omega arith
heard_below n i Participant.VotingYes l k = omega arith
heard_below n i Participant.Closing l k = omega arith
heard_below n i Participant.Uncertain l k = omega arith
heard_below n i (Participant.Terminating h) l k = omega (arith, k.below, pow_mono {i = n} {j = room Kind.WideHeader} l)
heard_below n i Participant.RecordingCommit l k = omega arith
heard_below n i Participant.RecordingAbort l k = omega arith
heard_below n i Participant.DoneCommit l k = omega arith
heard_below n i Participant.DoneAbort l k = omega arith
heard_below n i Participant.Down l k = omega arith

-- so the next one has room in its four bytes
pub heard_fits : (n own s h e d r : ℕ) (p : Participant) (m : Option Message) → host_in_range n own s h e d r ≡ true → host_transition n own s h e d r ≡ Some (p, m)
    → Participant.heard_of p < 256 ^ heard_width
heard_fits n own s h e d r p m q t =
    let g = given n own s h e d r q in
    let x = event_range n (own - 1) (omega (arith, g.first, g.last)) (Participant.of_numbers s h) (participant_held n (own - 1) (Participant.of_numbers s h) g.participant) (event_of e d r) g.event in
    heard_below n (own - 1) p g.size (rw t at x)

-- what is read is there only where the test holds

pub there : {T : Type 0} (b : Bool) (x y : T) → cond b (Some x) None ≡ Some y → (b ≡ true) × (x ≡ y)
there true x y e = (refl, cc)
there false x y e = let z : ◌≡◌ {A = ℕ} 0 1 = cc in absurd (omega arith)

pub not_there : {T : Type 0} (b : Bool) (x : T) → cond b (Some x) None ≡ None → b ≡ false
not_there false x e = refl
not_there true x e = let z : ◌≡◌ {A = ℕ} 0 1 = cc in absurd (omega arith)

pub record WasRead (n own s h e d r : ℕ) (p : Participant) (x : Event) : Type 0 where
  pub among : among_in_range n own s h e d r ≡ true
  pub participant : p ≡ Participant.of_numbers s h
  pub event : x ≡ event_of e d r

pub was_read : (n own s h e d r : ℕ) (p : Participant) (x : Event) → among n own s h e d r ≡ Some (p, x) → WasRead n own s h e d r p x
was_read n own s h e d r p x f =
    let t = there {T = Participant × Event} (among_in_range n own s h e d r) (Participant.of_numbers s h, event_of e d r) (p, x) f in
    record {
      among = t.0;
      participant = sym (ap (λ (y : Participant × Event). y.0) t.1);
      event = sym (ap (λ (y : Participant × Event). y.1) t.1);
    }
