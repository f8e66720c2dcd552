-- Request 2026-08, every short exercise: the sheet of all schedules under header 01 with exactly k steps, each due when its turn comes, in ascending
-- order of their bytes, each exactly once. Assumes nothing.
use Rattle.std.specs.Prelude.{Bool, cond, ◌&&◌, ℕ, zero, suc, leb, Result, Err}
use mathlib.Core.List.{List, [], ◌∷◌, map, flatten}
use Rattle.number.specs.Refusal.{Handed, refused}
use Rattle.number.specs.Table.{tabulate}
use Rattle.schedule.specs.Record.{header_in_range}
use Rattle.schedule.specs.Schedule.{schedule_bytes}
use Rattle.writer.specs.Writer.{text_answer, text_left, written_hands}
use Rattle.rules.specs.Step.{step, is_due}
use Rattle.passes.specs.Pass.{fresh_of}
use Rattle.exercises.specs.Types.{Refusal, Refused, Message, Kind, Step, Header, Release}

-- all steps that the reader yields under n, in the order of their bytes: kind by kind

abbrev pub messages : List Message
messages = Message.Request ∷ Message.ReplyYes ∷ Message.ReplyAbort ∷ Message.Commit ∷ Message.Abort ∷ []

-- a type and a participant; a party and a log; a party

abbrev pub by_message : (Message → ℕ → Step) → ℕ → List Step
by_message f n = flatten (map (λ m. tabulate n (λ i. f m (suc i))) messages)

abbrev pub by_call : (ℕ → ℕ → Step) → ℕ → List Step
by_call f n = flatten (tabulate (suc n) (λ p. tabulate n (λ j. f p (suc j))))

abbrev pub by_party : (ℕ → Step) → ℕ → List Step
by_party f n = tabulate (suc n) f

abbrev pub kinds : ℕ → List (List Step)
kinds n =
    (Step.Start ∷ [])
    ∷ by_message Step.Deliver n
    ∷ by_message Step.Copy n
    ∷ by_message Step.Lose n
    ∷ by_call Step.Call n
    ∷ by_call Step.CallLost n
    ∷ by_party Step.Timeout n
    ∷ by_party Step.Crash n
    ∷ by_party Step.Restart n
    ∷ []

abbrev pub candidates : ℕ → List Step
candidates n = flatten (kinds n)

-- the lists of k of these steps, each due when its turn comes: a due step, and then each list of one step fewer from the state that it leaves

abbrev pub if_due : Release → Step → List (List Step) → List (List Step)
if_due r s lists = cond (is_due r s) (map (λ ss. s ∷ ss) lists) []

unfoldable pub due_lists : List Step → ℕ → Release → List (List Step)
due_lists steps zero r = [] ∷ []
due_lists steps (suc k) r = flatten (map (λ s. if_due r s (due_lists steps k (step r s).next)) steps)

-- the schedules of a sheet, each as its bytes; and "the schedules' bytes one after another"

abbrev pub sheet : Header → ℕ → List (List ℕ)
sheet h k = map (schedule_bytes h) (due_lists (candidates h.n) k (fresh_of h))

abbrev pub sheet_bytes : Header → ℕ → List ℕ
sheet_bytes h k = flatten (sheet h k)

-- "for n of 1 or 2, a vote mask and k from 0 to 3", under header kind 01

abbrev pub header_for : ℕ → ℕ → Header
header_for n votes = record { kind = Kind.Header; n = n; votes = votes }

abbrev pub most_sites : ℕ
most_sites = 2

abbrev pub most_steps : ℕ
most_steps = 3

abbrev pub in_bounds : ℕ → ℕ → ℕ → Bool
in_bounds n votes k = header_in_range (header_for n votes) && (leb n most_sites && leb k most_steps)

-- Order: 5, which hands back 0; 6 with the length needed. Else the length written
abbrev pub sheet_answers : ℕ → ℕ → ℕ → ℕ → Result ℕ Refused
sheet_answers room n votes k = cond (in_bounds n votes k) (text_answer room (sheet_bytes (header_for n votes) k)) (Err (refused Refusal.OutOfRange 0))

-- what the answer hands over
abbrev pub sheet_hands : ℕ → ℕ → ℕ → ℕ → Handed
sheet_hands room n votes k = written_hands (sheet_answers room n votes k)

-- what is left in the buffer: as it was after a refusal, and beyond what is written
abbrev pub sheet_leaves : List ℕ → ℕ → ℕ → ℕ → List ℕ
sheet_leaves buffer n votes k = cond (in_bounds n votes k) (text_left buffer (sheet_bytes (header_for n votes) k)) buffer
