-- The rules of the coordinator as a table, in document 01's numbers: what each rule leads to from every state. Demand 3 does not refuse every wrong rule: it
-- holds of one that takes a reply abort in 2. One theorem covers the table, proved in proofs/Cases.antt. Assumes nothing.
use Rattle.std.specs.Prelude.{◌≡◌, List, [], ◌∷◌, map, ℕ, Option, Some, None}
use Rattle.mask.specs.Mask.{full}
use Rattle.store.specs.Log.{record_of}
use Rattle.message.specs.Message.{Transition, sent_number}
use Rattle.coordinator.specs.Types.{Call, Coordinator}
use Rattle.coordinator.specs.Coordinator.{state_number, heard_of, of_numbers, on_start, on_reply_yes, on_reply_abort, on_timeout, pending, on_answer, on_crash, on_restart}

-- in 1 and 2 this heard mask, a rule, and where it leads from states 0 to 6
pub record Case : Type 0 where
  pub heard : ℕ
  pub rule : Coordinator → Transition Coordinator
  pub must : List (List ℕ)

abbrev pub case : ℕ → (Coordinator → Transition Coordinator) → List (List ℕ) → Case
case heard rule must = record { heard = heard; rule = rule; must = must }

abbrev pub states : ℕ → List Coordinator
states h = map (λ s. of_numbers s h) (0 ∷ 1 ∷ 2 ∷ 3 ∷ 4 ∷ 5 ∷ 6 ∷ [])

-- the next state, its heard mask, and the message type sent to all or 0; nothing where the rule is not due
abbrev pub leads : Transition Coordinator → List ℕ
leads None = []
leads (Some (c, m)) = state_number c ∷ heard_of c ∷ sent_number m ∷ []

-- of three participants: the answer, by its number, of log 2
abbrev pub answer : ℕ → Coordinator → Transition Coordinator
answer k c = on_answer (full 3) c 1 (record_of k)

-- words of the table: not due; to a state; to 1 or 2 with a heard mask; to a state, with a message sent to all

abbrev pub none : List ℕ
none = []

abbrev pub goes : ℕ → List ℕ
goes s = s ∷ 0 ∷ 0 ∷ []

abbrev pub hears : ℕ → ℕ → List ℕ
hears s h = s ∷ h ∷ 0 ∷ []

abbrev pub sends : ℕ → ℕ → List ℕ
sends m s = s ∷ 0 ∷ m ∷ []

-- of three participants it has heard 1, or 1 and 3
abbrev pub cases : List Case
cases =
    -- Start in 0 sends all requests, to 1
    case 1 on_start (sends 1 1 ∷ none ∷ none ∷ none ∷ none ∷ none ∷ none ∷ [])
    -- In 1, a yes reply is heard, all heard gives 3; an abort reply gives 4. Replies in other states have no effect
    ∷ case 1 (on_reply_yes (full 3) 1) (goes 0 ∷ hears 1 3 ∷ hears 2 1 ∷ goes 3 ∷ goes 4 ∷ goes 5 ∷ goes 6 ∷ [])
    ∷ case 5 (on_reply_yes (full 3) 1) (goes 0 ∷ sends 4 3 ∷ hears 2 5 ∷ goes 3 ∷ goes 4 ∷ goes 5 ∷ goes 6 ∷ [])
    ∷ case 1 on_reply_abort (goes 0 ∷ sends 5 4 ∷ hears 2 1 ∷ goes 3 ∷ goes 4 ∷ goes 5 ∷ goes 6 ∷ [])
    -- Timeout in 1 leads to 2, nothing heard; in 2 it clears the mask
    ∷ case 1 on_timeout (none ∷ hears 2 0 ∷ hears 2 0 ∷ none ∷ none ∷ none ∷ none ∷ [])
    -- Its calls in 2 go by the participant's rules for 4, over all n logs, ending in 3 or 4. Entering 3 or 4 sends that decision to all
    ∷ case 1 (answer 0) (none ∷ none ∷ none ∷ none ∷ none ∷ none ∷ none ∷ [])
    ∷ case 1 (answer 1) (none ∷ none ∷ hears 2 3 ∷ none ∷ none ∷ none ∷ none ∷ [])
    ∷ case 5 (answer 1) (none ∷ none ∷ sends 4 3 ∷ none ∷ none ∷ none ∷ none ∷ [])
    ∷ case 1 (answer 2) (none ∷ none ∷ sends 5 4 ∷ none ∷ none ∷ none ∷ none ∷ [])
    ∷ case 1 (answer 3) (none ∷ none ∷ sends 4 3 ∷ none ∷ none ∷ none ∷ none ∷ [])
    -- Crash leads to 5, restart from there to 6
    ∷ case 1 on_crash (goes 5 ∷ goes 5 ∷ goes 5 ∷ goes 5 ∷ goes 5 ∷ none ∷ goes 5 ∷ [])
    ∷ case 1 on_restart (none ∷ none ∷ none ∷ none ∷ none ∷ goes 6 ∷ none ∷ [])
    ∷ []

-- The calls pending on logs 1 to 3, by the number of their record: LogOnce(abort) in 2, on those unheard

abbrev pub calls_on : Coordinator → List (Option Call)
calls_on c = map (pending c) (0 ∷ 1 ∷ 2 ∷ [])

abbrev pub once : ℕ → Option Call
once k = Some (Call.LogOnce (record_of k))

abbrev pub no_calls : List (Option Call)
no_calls = None ∷ None ∷ None ∷ []

abbrev pub calls : List (List (Option Call))
calls = no_calls ∷ no_calls ∷ (None ∷ once 2 ∷ once 2 ∷ []) ∷ no_calls ∷ no_calls ∷ no_calls ∷ no_calls ∷ []

pub record CasesHold : Type 0 where
  pub transitions : map (λ c. map (λ p. leads (c.rule p)) (states c.heard)) cases ≡ map (λ c. c.must) cases
  pub pending_calls : map calls_on (states 1) ≡ calls
