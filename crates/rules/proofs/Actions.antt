-- What each kind of step changes, and what stays, by the definitions of the step alone. Assumes nothing.
use mathlib.Core.Path.{◌≡◌, refl, sym, ap, ◌∙◌}
use mathlib.Core.Logic.{◌≢◌, ◌⊎◌, inl, inr}
use mathlib.Core.Bool.{Bool, true, false, cond, true≢false}
use mathlib.Core.List.{List, [], ◌∷◌}
use Prim.Native.Nat.{ℕ, zero, suc, ◌+◌, ◌≤◌, ◌<◌}
use native.Mathlib.Omega.{arith}
use lib.ListN.{length, get_or, set}
use lib.Seq.{get_or-set_same, get_or-set_other}
use Rattle.std.specs.Prelude.{Option}
use Rattle.mask.specs.Mask.{has, insert, remove, full}
use Rattle.mask.proofs.Laws.{has_zero, has_insert_same, has_insert_other, has_remove_same, has_remove_other, has_full, has_beyond, full_lt}
use Rattle.store.specs.Log.{empty, perform}
use Rattle.message.specs.Message.{to}
use Rattle.participant.specs.Participant
use Rattle.coordinator.specs.Coordinator
use Rattle.rules.specs.State.{participant_at, participant_of, log_of, message_place, mask_at, mask_of, in_flight, waiting}
use Rattle.rules.specs.Report.{moves, step_byte}
use Rattle.rules.specs.Step.{take_out, idle, called, participant_to, participant_goes, coordinator_to, coordinator_goes, receive, participant_answered, participant_performed, participant_calls, coordinator_answered, coordinator_performed, coordinator_calls, calls, step}
use Rattle.rules.specs.Actions.{NotDueStays, SameButMessages, OthersInFlight, Lost, CopyLikeDelivery, MessagesAsWritten, pending_call, CallMade, CallAsWritten, CallsAsWritten, ParticipantGoesTo, CoordinatorGoesTo, GoAsRuled, RestartsAsWritten}
use Rattle.rules.specs.OneParty.{OthersStay}
use Rattle.rules.specs.Types.{Logged, Message, Participant, Closing, Down, Transition, Coordinator, Site, Release, Step, Start, Deliver, Copy, Lose, Timeout, Crash, Restart, Report}
use Rattle.rules.proofs.Cases.{crash_cases, restart_cases, reply_yes_cases, reply_abort_cases, coordinator_crash_cases, coordinator_restart_cases, enters_cases}
use Rattle.rules.proofs.Due.{participant_due, coordinator_due, coordinator_leads, coordinator_goes_moves, enters_leads}
use Rattle.rules.proofs.Messages.{same_message}

-- A party that goes to a state, and sends: the others stay, and so do logs and counts

pub record Only (p : ℕ) (r t : Release) : Type 0 where
  pub others : OthersStay p r t
  pub store : t.store ≡ r.store
  pub calls : t.calls ≡ r.calls

pub only_none : (p : ℕ) (r : Release) → Only p r r
only_none p r = record { others = record { same_n = refl; same_votes = refl; coordinator = λ ne. refl; participants = λ i ne. refl }; store = refl; calls = refl }

pub placed : (i : ℕ) (p : Participant) (r : Release) → i < length r.sites → participant_at (set r.sites i (record { participant = p })) i ≡ p
placed i p r l = ap (λ (x : Site). x.participant) (get_or-set_same r.sites i (record { participant = p }) waiting l)

others_placed : (i : ℕ) (p : Participant) (r : Release) (k : ℕ) → suc i ≢ suc k → participant_at (set r.sites i (record { participant = p })) k ≡ participant_of r k
others_placed i p r k ne = ap (λ (x : Site). x.participant) (get_or-set_other r.sites i k (record { participant = p }) waiting (λ e. ne (ap suc (sym e))))

pub participant_only : (i : ℕ) (p : Participant) (s : Option Message) (r : Release) → Only (suc i) r (participant_to i p s r).next
unfolding participant_to
participant_only i p Option.None r =
    record { others = record { same_n = refl; same_votes = refl; coordinator = λ ne. refl; participants = others_placed i p r }; store = refl; calls = refl }
participant_only i p (Option.Some m) r =
    record { others = record { same_n = refl; same_votes = refl; coordinator = λ ne. refl; participants = others_placed i p r }; store = refl; calls = refl }

pub coordinator_only : (c : Coordinator) (s : Option Message) (r : Release) → Only 0 r (coordinator_to c s r).next
unfolding coordinator_to
coordinator_only c Option.None r =
    record { others = record { same_n = refl; same_votes = refl; coordinator = λ ne. absurd (ne refl); participants = λ k ne. refl }; store = refl; calls = refl }
coordinator_only c (Option.Some m) r =
    record { others = record { same_n = refl; same_votes = refl; coordinator = λ ne. absurd (ne refl); participants = λ k ne. refl }; store = refl; calls = refl }

-- Messages. The masks stand in a list: the one of a message's type at place a; place b is the one that a broadcast fills

gone : (l : List ℕ) (a i : ℕ) → has i (get_or (set l a (remove i (get_or l a 0))) a 0) ≡ false
gone [] a i = has_zero i
gone (x ∷ l) zero i = has_remove_same i x
gone (x ∷ l) (suc a) i = gone l a i

-- place a changes by f; a member of another place, or one that f keeps, stays
others_kept : (f : ℕ → ℕ) (k : ℕ) (l : List ℕ) (a c : ℕ) → (c ≢ a) ⊎ ((x : ℕ) → has k (f x) ≡ has k x)
    → has k (get_or (set l a (f (get_or l a 0))) c 0) ≡ has k (get_or l c 0)
others_kept f k [] a c h = refl
others_kept f k (x ∷ l) zero zero (inl h) = absurd (h refl)
others_kept f k (x ∷ l) zero zero (inr h) = h x
others_kept f k (x ∷ l) zero (suc c) h = refl
others_kept f k (x ∷ l) (suc a) zero h = refl
others_kept f k (x ∷ l) (suc a) (suc c) (inl h) = others_kept f k l a c (inl (λ e. h (ap suc e)))
others_kept f k (x ∷ l) (suc a) (suc c) (inr h) = others_kept f k l a c (inr h)

others_filled : (f : ℕ → ℕ) (k : ℕ) (l : List ℕ) (a b c v : ℕ) → (c ≢ a) ⊎ ((x : ℕ) → has k (f x) ≡ has k x)
    → has k (get_or (set (set l a (f (get_or l a 0))) b v) c 0) ≡ has k (get_or (set l b v) c 0)
others_filled f k [] a b c v h = refl
others_filled f k (x ∷ l) zero zero c v h = refl
others_filled f k (x ∷ l) zero (suc b) zero v (inl h) = absurd (h refl)
others_filled f k (x ∷ l) zero (suc b) zero v (inr h) = h x
others_filled f k (x ∷ l) zero (suc b) (suc c) v h = refl
others_filled f k (x ∷ l) (suc a) zero zero v h = refl
others_filled f k (x ∷ l) (suc a) zero (suc c) v (inl h) = others_kept f k l a c (inl (λ e. h (ap suc e)))
others_filled f k (x ∷ l) (suc a) zero (suc c) v (inr h) = others_kept f k l a c (inr h)
others_filled f k (x ∷ l) (suc a) (suc b) zero v h = refl
others_filled f k (x ∷ l) (suc a) (suc b) (suc c) v (inl h) = others_filled f k l a b c v (inl (λ e. h (ap suc e)))
others_filled f k (x ∷ l) (suc a) (suc b) (suc c) v (inr h) = others_filled f k l a b c v (inr h)

-- messages that differ stand at places that differ
apart : {P : Type 0} (x m : Message) (k i : ℕ) → (x ≢ m) ⊎ (k ≢ i) → (k ≢ i → P) → (message_place x ≢ message_place m) ⊎ P
apart x m k i (inl h) f = inl (λ e. h (same_message x m e))
apart x m k i (inr h) f = inr (f h)

-- Where the rules lead, and what is sent

abbrev is_sent : Option Message → Bool
is_sent Option.None = false
is_sent (Option.Some m) = true

abbrev message_or : Message → Option Message → Message
message_or k Option.None = k
message_or k (Option.Some m) = m

pub participant_goes_to : (i : ℕ) (p : Participant) (x : Option Message) (r : Release) → ParticipantGoesTo i p x r (participant_to i p x r).next
unfolding participant_to
participant_goes_to i p Option.None r =
    record {
      state = λ l. placed i p r l;
      sent = λ m q. absurd (true≢false (sym (ap is_sent q)));
      others = λ m q. absurd (true≢false (sym (ap is_sent q)));
      nothing = λ q. refl;
    }
participant_goes_to i p (Option.Some m) r =
    record {
      state = λ l. placed i p r l;
      sent = λ k q l. rw (sym (ap (message_or m) q)) (sent (rw (sym (ap (message_or m) q)) at l));
      others = λ k q. rw (sym (ap (message_or m) q)) others;
      nothing = λ q. absurd (true≢false (ap is_sent q));
    }
  where
    sent : message_place m < length r.messages → in_flight (participant_to i p (Option.Some m) r).next m i ≡ true
    sent l = ap (has i) (get_or-set_same r.messages (message_place m) _ 0 l) ∙ has_insert_same i (mask_of r m)

    others : OthersInFlight m i r (participant_to i p (Option.Some m) r).next
    others x k ne = others_kept (insert i) k r.messages (message_place m) (message_place x) (apart x m k i ne (λ d y. has_insert_other i k y d))

coordinator_goes_to : (c : Coordinator) (x : Option Message) (r : Release) → CoordinatorGoesTo c x r (coordinator_to c x r).next
unfolding coordinator_to
coordinator_goes_to c Option.None r =
    record {
      state = refl;
      sent = λ m q. absurd (true≢false (sym (ap is_sent q)));
      nobody_else = λ m q. absurd (true≢false (sym (ap is_sent q)));
      others = λ m k q. absurd (true≢false (sym (ap is_sent q)));
      nothing = λ q. refl;
    }
coordinator_goes_to c (Option.Some m) r =
    record {
      state = refl;
      sent = λ k q l. rw (sym (ap (message_or m) q)) (sent (rw (sym (ap (message_or m) q)) at l));
      nobody_else = λ k q l. rw (sym (ap (message_or m) q)) (beyond (rw (sym (ap (message_or m) q)) at l));
      others = λ k x q ne. get_or-set_other r.messages (message_place m) (message_place x) _ 0 (λ e. ne (same_message x m e ∙ ap (message_or m) q));
      nothing = λ q. absurd (true≢false (ap is_sent q));
    }
  where
    sent : message_place m < length r.messages → (i : ℕ) → i < r.n → in_flight (coordinator_to c (Option.Some m) r).next m i ≡ true
    sent l i h = ap (has i) (get_or-set_same r.messages (message_place m) _ 0 l) ∙ has_full i r.n h

    beyond : message_place m < length r.messages → (i : ℕ) → r.n ≤ i → in_flight (coordinator_to c (Option.Some m) r).next m i ≡ false
    beyond l i h = ap (has i) (get_or-set_same r.messages (message_place m) _ 0 l) ∙ has_beyond r.n i (full r.n) h (full_lt r.n)

goes_to : (i : ℕ) (t : Transition Participant) (p : Participant) (x : Option Message) (r : Release) → t ≡ Option.Some (p, x) → ParticipantGoesTo i p x r (participant_goes i t r).next
goes_to i t p x r q = rw q (participant_goes_to i p x r)

coordinator_goes_lem : (t : Transition Coordinator) (c : Coordinator) (x : Option Message) (r : Release) → t ≡ Option.Some (c, x) → CoordinatorGoesTo c x r (coordinator_goes t r).next
coordinator_goes_lem t c x r q = rw q (coordinator_goes_to c x r)

-- a call that was made changes no message
participant_after_call : (i q j : ℕ) (l : Logged) (p : Participant) (x : Option Message) (r t : Release) → ParticipantGoesTo i p x (called q j l.log r) t → ParticipantGoesTo i p x r t
participant_after_call i q j l p x r t g = record { state = g.state; sent = g.sent; others = g.others; nothing = g.nothing }

coordinator_after_call : (q j : ℕ) (l : Logged) (c : Coordinator) (x : Option Message) (r t : Release) → CoordinatorGoesTo c x (called q j l.log r) t → CoordinatorGoesTo c x r t
coordinator_after_call q j l c x r t g = record { state = g.state; sent = g.sent; nobody_else = g.nobody_else; others = g.others; nothing = g.nothing }

answer_goes : (r : Release) (i j : ℕ) (l : Logged) (p : Participant) (x : Option Message) → perform (Participant.pending i (participant_of r i) j) (log_of r j) ≡ Option.Some l
    → Participant.on_answer (full r.n) i (participant_of r i) j l.answer ≡ Option.Some (p, x) → ParticipantGoesTo i p x r (participant_calls true i j r).next
unfolding participant_calls
answer_goes r i j l p x d a = rw d (rw a (participant_after_call i (suc i) j l p x r _ (participant_goes_to i p x (called (suc i) j l.log r))))

coordinator_answer_goes : (r : Release) (j : ℕ) (l : Logged) (c : Coordinator) (x : Option Message) → perform (Coordinator.pending r.coordinator j) (log_of r j) ≡ Option.Some l
    → Coordinator.on_answer (full r.n) r.coordinator j l.answer ≡ Option.Some (c, x) → CoordinatorGoesTo c x r (coordinator_calls true j r).next
unfolding coordinator_calls
coordinator_answer_goes r j l c x d a = rw d (rw a (coordinator_after_call 0 j l c x r _ (coordinator_goes_to c x (called 0 j l.log r))))

pub go_as_ruled : GoAsRuled
go_as_ruled r =
    record {
      start = λ c x q. coordinator_goes_lem (Coordinator.on_start r.coordinator) c x r q;
      request = λ i h. rw h (participant_goes_to i _ Option.None r);
      reply_yes = λ i c x h q. rw h (coordinator_goes_lem (Coordinator.on_reply_yes (full r.n) i r.coordinator) c x r q);
      reply_abort = λ i c x h q. rw h (coordinator_goes_lem (Coordinator.on_reply_abort r.coordinator) c x r q);
      commit = λ i h. rw h (participant_goes_to i _ Option.None r);
      abort = λ i h. rw h (participant_goes_to i _ Option.None r);
      answer = answer_goes r;
      coordinator_answer = coordinator_answer_goes r;
      timeout = λ i p x q. goes_to i (Participant.on_timeout (full r.n) i (participant_of r i)) p x r q;
      coordinator_timeout = λ c x q. coordinator_goes_lem (Coordinator.on_timeout r.coordinator) c x r q;
    }

-- A message lost, delivered, and delivered as a copy

module _ (r : Release) (m : Message) (i : ℕ) (h : in_flight r m i ≡ true) where
  flight : (t : Report) (P : Report → Type 0) → P t → P (cond (in_flight r m i) t (idle r))
  flight t P p = rw h p

  lost : Lost m i r (step r (Lose m (suc i)))
  lost =
      flight _ (Lost m i r)
      (record {
        gone = gone r.messages (message_place m) i;
        others = λ x k ne. others_kept (remove i) k r.messages (message_place m) (message_place x) (apart x m k i ne (λ d y. has_remove_other i k y d));
        all_else = record { same_n = refl; same_votes = refl; coordinator = refl; sites = refl; store = refl; calls = refl };
        reported = refl;
      })

  -- what a delivery leaves, with the message taken out before
  abbrev CopyLike : (Release → Report) → Type 0
  CopyLike f = CopyLikeDelivery m i (f (take_out m i r)) (f r)

  taken_others : OthersInFlight m i (take_out m i r) r
  taken_others x k ne = sym (others_kept (remove i) k r.messages (message_place m) (message_place x) (apart x m k i ne (λ d y. has_remove_other i k y d)))

  -- where nothing is sent
  silent_like : (f : Release → Report) → ((t : Release) → (f t).next.messages ≡ t.messages) → SameButMessages (f (take_out m i r)).next (f r).next
      → step_byte (f r) ≡ step_byte (f (take_out m i r)) → CopyLike f
  silent_like f same else b =
      record {
        taken = ap (λ l. has i (mask_at l m)) (same (take_out m i r)) ∙ gone r.messages (message_place m) i;
        is_in_flight = ap (λ l. has i (mask_at l m)) (same r) ∙ h;
        others = λ x k ne. ap (λ l. has k (mask_at l x)) (same r) ∙ taken_others x k ne ∙ sym (ap (λ l. has k (mask_at l x)) (same (take_out m i r)));
        all_else = else;
        reported = b;
      }

  -- a participant goes to a state
  participant_like : (p : Participant) → CopyLike (participant_to i p Option.None)
  unfolding participant_to
  participant_like p =
      silent_like (participant_to i p Option.None) (λ t. refl)
      (record { same_n = refl; same_votes = refl; coordinator = refl; sites = refl; store = refl; calls = refl }) refl

  -- the coordinator goes to a state, with nothing sent, or with another message sent to all

  coordinator_like : (c : Coordinator) → CopyLike (coordinator_goes (to c))
  unfolding coordinator_to
  coordinator_like c =
      silent_like (coordinator_goes (to c)) (λ t. refl)
      (record { same_n = refl; same_votes = refl; coordinator = refl; sites = refl; store = refl; calls = refl }) refl

  broadcast_like : (c : Coordinator) (b : Message) → m ≢ b → CopyLike (coordinator_goes (Option.Some (c, (Option.Some b))))
  unfolding coordinator_to
  broadcast_like c b ne =
      record {
        taken = ap (has i) (other (set r.messages (message_place m) _) _) ∙ gone r.messages (message_place m) i;
        is_in_flight = ap (has i) (other r.messages _) ∙ h;
        others = λ x k ne. sym (others_filled (remove i) k r.messages (message_place m) (message_place b) (message_place x) _ (apart x m k i ne (λ d y. has_remove_other i k y d)));
        all_else = record { same_n = refl; same_votes = refl; coordinator = refl; sites = refl; store = refl; calls = refl };
        reported = refl;
      }
    where
      other : (l : List ℕ) (v : ℕ) → get_or (set l (message_place b) v) (message_place m) 0 ≡ get_or l (message_place m) 0
      other l v = get_or-set_other l (message_place b) (message_place m) v 0 (λ e. ne (same_message m b e))

  enters_like : (c : Coordinator) → m ≢ Message.Commit → m ≢ Message.Abort → CopyLike (coordinator_goes (Coordinator.enters c))
  enters_like c no-commit no_Abort =
      enters_cases (λ t. CopyLike (coordinator_goes t)) c (coordinator_like c) (λ q. broadcast_like Coordinator.Commit Message.Commit no-commit)
      (λ q. broadcast_like Coordinator.Abort Message.Abort no_Abort)

  copied : CopyLike (receive m i) → CopyLikeDelivery m i (step r (Deliver m (suc i))) (step r (Copy m (suc i)))
  copied l = flight _ (λ t. CopyLikeDelivery m i t (step r (Copy m (suc i)))) (flight _ (λ t. CopyLikeDelivery m i (receive m i (take_out m i r)) t) l)

receive_like : (r : Release) (m : Message) (i : ℕ) (h : in_flight r m i ≡ true) → CopyLike r m i h (receive m i)
receive_like r Message.Request i h = participant_like r Message.Request i h _
receive_like r Message.ReplyYes i h =
    reply_yes_cases (λ c t. CopyLike r Message.ReplyYes i h (coordinator_goes t)) (full r.n) i
    (λ g. enters_like r Message.ReplyYes i h (Coordinator.unless_full (full r.n) (insert i g) (Coordinator.Waiting (insert i g))) (λ e. omega (arith, ap message_place e)) (λ e. omega (arith, ap message_place e)))
    (λ c. coordinator_like r Message.ReplyYes i h c) r.coordinator
receive_like r Message.ReplyAbort i h =
    reply_abort_cases (λ c t. CopyLike r Message.ReplyAbort i h (coordinator_goes t))
    (λ g. enters_like r Message.ReplyAbort i h Coordinator.Abort (λ e. omega (arith, ap message_place e)) (λ e. omega (arith, ap message_place e))) (λ c. coordinator_like r Message.ReplyAbort i h c) r.coordinator
receive_like r Message.Commit i h = participant_like r Message.Commit i h _
receive_like r Message.Abort i h = participant_like r Message.Abort i h _

pub messages_as_written : MessagesAsWritten
messages_as_written r m i h = (lost r m i h, copied r m i h (receive_like r m i h))

-- The calls of a party: what holds of each way they end, with the answer heard and with it lost, holds of them

module _ (P : (Bool → Report) → Type 0) (r : Release) where
  pub participant_calls_lem : (i j : ℕ) → P (λ heard. participant_performed heard i j Option.None r) → ((x : Logged) → P (λ heard. participant_answered heard i j x Option.None r))
      → ((x : Logged) (p : Participant) (s : Option Message) → perform (Participant.pending i (participant_of r i) j) (log_of r j) ≡ Option.Some x → P (λ heard. participant_answered heard i j x (Option.Some (p, s)) r))
      → P (λ heard. participant_calls heard i j r)
  unfolding participant_calls
  participant_calls_lem i j refused not-due due = performed (perform (Participant.pending i (participant_of r i) j) (log_of r j)) refl
    where
      answered : (x : Logged) (t : Transition Participant) → perform (Participant.pending i (participant_of r i) j) (log_of r j) ≡ Option.Some x → P (λ heard. participant_answered heard i j x t r)
      answered x Option.None q = not-due x
      answered x (Option.Some (p, s)) q = due x p s q

      performed : (y : Option Logged) → perform (Participant.pending i (participant_of r i) j) (log_of r j) ≡ y → P (λ heard. participant_performed heard i j y r)
      performed Option.None q = refused
      performed (Option.Some x) q = answered x (Participant.on_answer (full r.n) i (participant_of r i) j x.answer) q

  pub coordinator_calls_lem : (j : ℕ) → P (λ heard. coordinator_performed heard j Option.None r) → ((x : Logged) → P (λ heard. coordinator_answered heard j x Option.None r))
      → ((x : Logged) (c : Coordinator) (s : Option Message) → perform (Coordinator.pending r.coordinator j) (log_of r j) ≡ Option.Some x → P (λ heard. coordinator_answered heard j x (Option.Some (c, s)) r))
      → P (λ heard. coordinator_calls heard j r)
  unfolding coordinator_calls
  coordinator_calls_lem j refused not-due due = performed (perform (Coordinator.pending r.coordinator j) (log_of r j)) refl
    where
      answered : (x : Logged) (t : Transition Coordinator) → perform (Coordinator.pending r.coordinator j) (log_of r j) ≡ Option.Some x → P (λ heard. coordinator_answered heard j x t r)
      answered x Option.None q = not-due x
      answered x (Option.Some (c, s)) q = due x c s q

      performed : (y : Option Logged) → perform (Coordinator.pending r.coordinator j) (log_of r j) ≡ y → P (λ heard. coordinator_performed heard j y r)
      performed Option.None q = refused
      performed (Option.Some x) q = answered x (Coordinator.on_answer (full r.n) r.coordinator j x.answer) q

-- Store calls

called_made : (r : Release) (p j : ℕ) (x : Logged) → perform (pending_call r p j) (log_of r j) ≡ Option.Some x → CallMade r p (suc j) (called p j x.log r)
called_made r p j x q =
    record {
      place = j;
      on = refl;
      left = x;
      performed = q;
      log = λ l. get_or-set_same r.store.logs j x.log empty l;
      logs = λ k ne. get_or-set_other r.store.logs j k x.log empty ne;
      count = λ l. get_or-set_same r.calls p (get_or r.calls p 0 + 1) 0 l;
      counts = λ o ne. get_or-set_other r.calls p o (get_or r.calls p 0 + 1) 0 ne;
    }

no_call : (r : Release) (p q : ℕ) (t : Report) → moves t.outcome ≡ false → CallAsWritten r p q t t
no_call r p q t h =
    record {
      due_alike = refl;
      store = refl;
      calls = refl;
      closed = refl;
      made = λ d. absurd (true≢false (sym d ∙ h));
      answer_lost = λ d. absurd (true≢false (sym d ∙ h));
    }

abbrev CallLike : Release → ℕ → ℕ → (Bool → Report) → Type 0
CallLike r p q f = CallAsWritten r p q (f true) (f false)

pub calls_as_written : CallsAsWritten
calls_as_written r zero zero = no_call r 0 0 (idle r) refl
calls_as_written r (suc i) zero = no_call r (suc i) 0 (idle r) refl
calls_as_written r zero (suc j) =
    coordinator_calls_lem (CallLike r 0 (suc j)) r j (no_call r 0 (suc j) (coordinator_performed true j Option.None r) refl) (λ x. no_call r 0 (suc j) (coordinator_answered true j x Option.None r) refl)
    (λ x c s q.
    record {
      due_alike = coordinator_due c s (called 0 j x.log r);
      store = (coordinator_only c s (called 0 j x.log r)).store;
      calls = (coordinator_only c s (called 0 j x.log r)).calls;
      closed = refl;
      made = λ d. called_made r 0 j x q;
      answer_lost = λ d. record { same_n = refl; same_votes = refl; coordinator = refl; sites = refl; messages = refl; reported = refl };
    })
calls_as_written r (suc i) (suc j) =
    participant_calls_lem (CallLike r (suc i) (suc j)) r i j (no_call r (suc i) (suc j) (participant_performed true i j Option.None r) refl) (λ x. no_call r (suc i) (suc j) (participant_answered true i j x Option.None r) refl)
    (λ x p s q.
    record {
      due_alike = participant_due i p s (called (suc i) j x.log r);
      store = (participant_only i p s (called (suc i) j x.log r)).store;
      calls = (participant_only i p s (called (suc i) j x.log r)).calls;
      closed = refl;
      made = λ d. called_made r (suc i) j x q;
      answer_lost = λ d. record { same_n = refl; same_votes = refl; coordinator = refl; sites = refl; messages = refl; reported = refl };
    })

-- Crashes and restarts

crashed : (r : Release) (i : ℕ) → i < length r.sites → participant_of (step r (Crash (suc i))).next i ≡ Down
crashed r i l =
    crash_cases (λ p t. participant_of r i ≡ p → participant_of (participant_goes i t r).next i ≡ Down) (λ p q. (participant_goes_to i Down Option.None r).state l) (λ q. q) (participant_of r i) refl

coordinator_crashed : (r : Release) → (step r (Crash 0)).next.coordinator ≡ Coordinator.Down
coordinator_crashed r =
    coordinator_crash_cases (λ c t. r.coordinator ≡ c → (coordinator_goes t r).next.coordinator ≡ Coordinator.Down) (λ c q. (coordinator_goes_to Coordinator.Down Option.None r).state) (λ q. q)
    r.coordinator refl

restarted : (r : Release) (i : ℕ) → i < length r.sites → moves (step r (Restart (suc i))).outcome ≡ true → participant_of (step r (Restart (suc i))).next i ≡ Closing
restarted r i l =
    restart_cases (λ p t. moves (participant_goes i t r).outcome ≡ true → participant_of (participant_goes i t r).next i ≡ Closing) (λ d. (participant_goes_to i Closing Option.None r).state l)
    (λ p d. absurd (true≢false (sym d))) (participant_of r i)

coordinator_restarted : (r : Release) → moves (step r (Restart 0)).outcome ≡ true → (step r (Restart 0)).next.coordinator ≡ Coordinator.Retired
coordinator_restarted r =
    coordinator_restart_cases (λ t. moves (coordinator_goes t r).outcome ≡ true → (coordinator_goes t r).next.coordinator ≡ Coordinator.Retired)
    (λ d. (coordinator_goes_to Coordinator.Retired Option.None r).state) (λ d. absurd (true≢false (sym d))) r.coordinator

-- nothing is sent, and nothing taken

crash_silent : (r : Release) (p : ℕ) → (step r (Crash p)).next.messages ≡ r.messages
crash_silent r zero = coordinator_crash_cases (λ c t. (coordinator_goes t r).next.messages ≡ r.messages) (λ c. (coordinator_goes_to Coordinator.Down Option.None r).nothing refl) refl r.coordinator
crash_silent r (suc i) = crash_cases (λ p t. (participant_goes i t r).next.messages ≡ r.messages) (λ p. (participant_goes_to i Down Option.None r).nothing refl) refl (participant_of r i)

restart_silent : (r : Release) (p : ℕ) → (step r (Restart p)).next.messages ≡ r.messages
restart_silent r zero = coordinator_restart_cases (λ t. (coordinator_goes t r).next.messages ≡ r.messages) ((coordinator_goes_to Coordinator.Retired Option.None r).nothing refl) refl r.coordinator
restart_silent r (suc i) = restart_cases (λ p t. (participant_goes i t r).next.messages ≡ r.messages) ((participant_goes_to i Closing Option.None r).nothing refl) (λ p. refl) (participant_of r i)

pub restarts_as_written : RestartsAsWritten
restarts_as_written r =
    record {
      crash = crashed r;
      restart = restarted r;
      coordinator_crash = coordinator_crashed r;
      coordinator_restart = coordinator_restarted r;
      crash_messages = crash_silent r;
      restart_messages = restart_silent r;
    }

-- A step not due

-- a delivery is always due
pub receive_moves : (m : Message) (i : ℕ) (r : Release) → moves (receive m i r).outcome ≡ true
receive_moves Message.Request i r = participant_due i _ Option.None r
receive_moves Message.ReplyYes i r =
    coordinator_goes_moves (Coordinator.on_reply_yes (full r.n) i r.coordinator) r
    ∙ reply_yes_cases (λ c t. coordinator_leads t ≡ true) (full r.n) i
    (λ h. enters_leads (Coordinator.unless_full (full r.n) (insert i h) (Coordinator.Waiting (insert i h)))) (λ c. refl) r.coordinator
receive_moves Message.ReplyAbort i r =
    coordinator_goes_moves (Coordinator.on_reply_abort r.coordinator) r ∙ reply_abort_cases (λ c t. coordinator_leads t ≡ true) (λ h. refl) (λ c. refl) r.coordinator
receive_moves Message.Commit i r = participant_due i _ Option.None r
receive_moves Message.Abort i r = participant_due i _ Option.None r

abbrev Stays : Release → Report → Type 0
Stays r t = moves t.outcome ≡ false → t ≡ idle r

due_stays : (r : Release) (t : Report) → moves t.outcome ≡ true → Stays r t
due_stays r t d q = absurd (true≢false (sym d ∙ q))

goes_stays : (i : ℕ) (t : Transition Participant) (r : Release) → Stays r (participant_goes i t r)
goes_stays i Option.None r = λ q. refl
goes_stays i (Option.Some (p, s)) r = due_stays r _ (participant_due i p s r)

coordinator_stays : (t : Transition Coordinator) (r : Release) → Stays r (coordinator_goes t r)
coordinator_stays Option.None r = λ q. refl
coordinator_stays (Option.Some (c, s)) r = due_stays r _ (coordinator_due c s r)

flight_stays : (b : Bool) (t : Report) (r : Release) → moves t.outcome ≡ true → Stays r (cond b t (idle r))
flight_stays true t r d = due_stays r t d
flight_stays false t r d = λ q. refl

abbrev CallStays : Release → (Bool → Report) → Type 0
CallStays r f = Stays r (f true) × Stays r (f false)

call_stays : (r : Release) (p q : ℕ) → CallStays r (λ heard. calls heard p q r)
call_stays r zero zero = (λ q. refl, λ q. refl)
call_stays r (suc i) zero = (λ q. refl, λ q. refl)
call_stays r zero (suc j) =
    coordinator_calls_lem (CallStays r) r j (λ q. refl, λ q. refl) (λ x. (λ q. refl, λ q. refl))
    (λ x c s q. (due_stays r _ (coordinator_due c s (called 0 j x.log r)), due_stays r _ refl))
call_stays r (suc i) (suc j) =
    participant_calls_lem (CallStays r) r i j (λ q. refl, λ q. refl) (λ x. (λ q. refl, λ q. refl))
    (λ x p s q. (due_stays r _ (participant_due i p s (called (suc i) j x.log r)), due_stays r _ refl))

pub not_due_stays : NotDueStays
not_due_stays r Start = coordinator_stays (Coordinator.on_start r.coordinator) r
not_due_stays r (Deliver m zero) = λ q. refl
not_due_stays r (Deliver m (suc i)) = flight_stays (in_flight r m i) _ r (receive_moves m i (take_out m i r))
not_due_stays r (Copy m zero) = λ q. refl
not_due_stays r (Copy m (suc i)) = flight_stays (in_flight r m i) _ r (receive_moves m i r)
not_due_stays r (Lose m zero) = λ q. refl
not_due_stays r (Lose m (suc i)) = flight_stays (in_flight r m i) _ r refl
not_due_stays r (Step.Call p q) = (call_stays r p q).0
not_due_stays r (Step.CallLost p q) = (call_stays r p q).1
not_due_stays r (Timeout zero) = coordinator_stays (Coordinator.on_timeout r.coordinator) r
not_due_stays r (Timeout (suc i)) = goes_stays i (Participant.on_timeout (full r.n) i (participant_of r i)) r
not_due_stays r (Crash zero) = coordinator_stays (Coordinator.on_crash r.coordinator) r
not_due_stays r (Crash (suc i)) = goes_stays i (Participant.on_crash (participant_of r i)) r
not_due_stays r (Restart zero) = coordinator_stays (Coordinator.on_restart r.coordinator) r
not_due_stays r (Restart (suc i)) = goes_stays i (Participant.on_restart (participant_of r i)) r
