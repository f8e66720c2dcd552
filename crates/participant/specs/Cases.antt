-- The rules of a participant as a table, in document 01's numbers: what each rule leads to from every state. Demand 3 does not refuse every wrong rule: it
-- holds of one whose timeout in 4 keeps the heard mask. One theorem covers the table, proved in proofs/Cases.antt. Assumes nothing.
use Rattle.std.specs.Prelude.{◌≡◌, true, false, cond, List, [], ◌∷◌, map, ℕ, eqb, Option, Some, None}
use Rattle.mask.specs.Mask.{full}
use Rattle.store.specs.Log.{record_of}
use Rattle.message.specs.Message.{Transition, to, sent_number}
use Rattle.participant.specs.Types.{Call, Decision, Participant}
use Rattle.participant.specs.Participant.{state_number, heard_of, of_numbers, on_request, on_decision, pending, on_answer, on_timeout, on_crash, on_restart}

-- some participants, a rule, and where it leads each of them
pub record Case : Type 0 where
  pub from : List Participant
  pub rule : Participant → Transition Participant
  pub must : List (List ℕ)

abbrev pub case : List Participant → (Participant → Transition Participant) → List (List ℕ) → Case
case from rule must = record { from = from; rule = rule; must = must }

-- states 0 to 9, in 4 with this heard mask
abbrev pub states : ℕ → List Participant
states h = map (λ s. of_numbers s h) (0 ∷ 1 ∷ 2 ∷ 3 ∷ 4 ∷ 5 ∷ 6 ∷ 7 ∷ 8 ∷ 9 ∷ [])

-- the next state, its heard mask, and the message type sent or 0; nothing where the rule is not due
abbrev pub leads : Transition Participant → List ℕ
leads None = []
leads (Some (p, m)) = state_number p ∷ heard_of p ∷ sent_number m ∷ []

-- participant 2 of 4: the answer, by its number, of its own log or, in 4, of log 3
abbrev pub answer : ℕ → Participant → Transition Participant
answer k p = on_answer (full 4) 1 p (cond (eqb (state_number p) 4) 2 1) (record_of k)

-- words of the table: not due; to a state; to 4 with a heard mask; to a state, with a message sent

abbrev pub none : List ℕ
none = []

abbrev pub goes : ℕ → List ℕ
goes s = s ∷ 0 ∷ 0 ∷ []

abbrev pub terminates : ℕ → List ℕ
terminates h = 4 ∷ h ∷ 0 ∷ []

abbrev pub replies : ℕ → ℕ → List ℕ
replies m s = s ∷ 0 ∷ m ∷ []

-- participant 2 of 4; in 4 it has heard participant 1, or 1 and 4
abbrev pub cases : List Case
cases =
    -- Vote request in 0: to 1 if its vote is yes, else to 2. Any other delivery has no effect
    case (states 1) (λ p. to (on_request true p))
    (goes 1 ∷ goes 1 ∷ goes 2 ∷ goes 3 ∷ terminates 1 ∷ goes 5 ∷ goes 6 ∷ goes 7 ∷ goes 8 ∷ goes 9 ∷ [])
    ∷ case (states 1) (λ p. to (on_request false p))
    (goes 2 ∷ goes 1 ∷ goes 2 ∷ goes 3 ∷ terminates 1 ∷ goes 5 ∷ goes 6 ∷ goes 7 ∷ goes 8 ∷ goes 9 ∷ [])
    -- Decision in 3, and by request 2026-02 in 4: to 5 or 6
    ∷ case (states 1) (λ p. to (on_decision Decision.Commit p))
    (goes 0 ∷ goes 1 ∷ goes 2 ∷ goes 5 ∷ goes 5 ∷ goes 5 ∷ goes 6 ∷ goes 7 ∷ goes 8 ∷ goes 9 ∷ [])
    ∷ case (states 1) (λ p. to (on_decision Decision.Abort p))
    (goes 0 ∷ goes 1 ∷ goes 2 ∷ goes 6 ∷ goes 6 ∷ goes 5 ∷ goes 6 ∷ goes 7 ∷ goes 8 ∷ goes 9 ∷ [])
    -- In 1. Answer yes: send reply yes, to 3. Answer abort: send reply abort, to 8. In 2. Answer abort: send reply abort, to 8. Yes: to 4, nothing
    -- heard. Commit: to 7. In 4. Abort: to 6. Commit: to 5. Yes: heard. In 5 or 6 the answer leads to 7 or 8
    ∷ case (states 1) (answer 0) (none ∷ none ∷ none ∷ none ∷ none ∷ none ∷ none ∷ none ∷ none ∷ none ∷ [])
    ∷ case (states 1) (answer 1) (none ∷ replies 2 3 ∷ terminates 0 ∷ none ∷ terminates 5 ∷ none ∷ none ∷ none ∷ none ∷ none ∷ [])
    ∷ case (states 1) (answer 2) (none ∷ replies 3 8 ∷ replies 3 8 ∷ none ∷ goes 6 ∷ none ∷ goes 8 ∷ none ∷ none ∷ none ∷ [])
    ∷ case (states 1) (answer 3) (none ∷ none ∷ goes 7 ∷ none ∷ goes 5 ∷ goes 7 ∷ none ∷ none ∷ none ∷ none ∷ [])
    -- When nothing is left to hear in 4, it goes to 5 in the same step. With n = 1 that is on entering 4
    ∷ case (states 9) (answer 1) (none ∷ replies 2 3 ∷ terminates 0 ∷ none ∷ goes 5 ∷ none ∷ none ∷ none ∷ none ∷ none ∷ [])
    ∷ case (of_numbers 2 0 ∷ []) (λ p. on_answer (full 1) 0 p 0 (record_of 1)) (goes 5 ∷ [])
    ∷ case (of_numbers 3 0 ∷ []) (on_timeout (full 1) 0) (goes 5 ∷ [])
    -- Timeout: 0 to 2; 3 to 4; in 4 the heard mask is cleared
    ∷ case (states 1) (on_timeout (full 4) 1) (goes 2 ∷ none ∷ none ∷ terminates 0 ∷ terminates 0 ∷ none ∷ none ∷ none ∷ none ∷ none ∷ [])
    -- Crash: to 9, memory lost. Restart: to 2
    ∷ case (states 1) on_crash (goes 9 ∷ goes 9 ∷ goes 9 ∷ goes 9 ∷ goes 9 ∷ goes 9 ∷ goes 9 ∷ goes 9 ∷ goes 9 ∷ none ∷ [])
    ∷ case (states 1) on_restart (none ∷ none ∷ none ∷ none ∷ none ∷ none ∷ none ∷ none ∷ none ∷ goes 2 ∷ [])
    ∷ []

-- The calls pending on logs 1 to 4, by the number of their record

abbrev pub calls_on : Participant → List (Option Call)
calls_on p = map (pending 1 p) (0 ∷ 1 ∷ 2 ∷ 3 ∷ [])

abbrev pub once : ℕ → Option Call
once k = Some (Call.LogOnce (record_of k))

abbrev pub log : ℕ → Option Call
log k = Some (Call.Log (record_of k))

-- on its own log alone
abbrev pub own : Option Call → List (Option Call)
own c = None ∷ c ∷ None ∷ None ∷ []

-- Own call in 1 is LogOnce(yes), in 2 LogOnce(abort), in 5 or 6 Log of that decision. Call on another, unheard log in 4 is LogOnce(abort)
abbrev pub calls : List (List (Option Call))
calls =
    own None ∷ own (once 1) ∷ own (once 2) ∷ own None ∷ (None ∷ None ∷ once 2 ∷ once 2 ∷ []) ∷ own (log 3) ∷ own (log 2) ∷ own None
    ∷ own None ∷ own None ∷ []

pub record CasesHold : Type 0 where
  pub transitions : map (λ c. map (λ p. leads (c.rule p)) c.from) cases ≡ map (λ c. c.must) cases
  pub pending_calls : map calls_on (states 1) ≡ calls
