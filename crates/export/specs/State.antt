-- The single step on the bytes of a tail under header 0B, which holds a state with any n. Assumes nothing.
use Rattle.std.specs.Prelude.{◌≡◌, cond, List, ℕ, eqb, ltb, length}
use Rattle.std.proofs.lemmas.List.Edits.{sets}
use Rattle.number.specs.Refusal.{accepted, refusal_number}
use Rattle.state.specs.Fields.{HasPlaces}
use Rattle.tail.specs.Tail.{tail_of, release_of}
use Rattle.tail.specs.Single.{StepHanded, single_step}
use Rattle.form.specs.Form.{wide, tail_bytes, tail_length, tail_at}
use Rattle.export.specs.Types.{Refusal}
use Rattle.export.specs.Packed.{four_bytes}

-- the refusal's number or 0, and the report byte

abbrev pub stepped_packed : StepHanded → ℕ
stepped_packed s = four_bytes s.number s.byte 0 0

-- the next state's bytes; a refusal leaves them as they were
abbrev pub stepped_leaves : List ℕ → StepHanded → List ℕ
stepped_leaves bytes s = cond (eqb s.number accepted) (sets bytes 0 (tail_bytes wide s.state)) bytes

-- the state after a step that was taken is the tail of a release
abbrev pub HandsTail : StepHanded → Type 0
HandsTail s = s.number ≡ accepted → HasPlaces (release_of s.state) × (tail_of (release_of s.state) ≡ s.state)

-- fewer bytes than a tail has are refused and left alone

abbrev pub state_answers : List ℕ → ℕ → ℕ → ℕ → ℕ
state_answers bytes kind a b = cond (ltb (length bytes) (tail_length wide)) (refusal_number Refusal.TooShort) (stepped_packed (single_step (tail_at wide bytes) kind a b))

abbrev pub state_leaves : List ℕ → ℕ → ℕ → ℕ → List ℕ
state_leaves bytes kind a b = cond (ltb (length bytes) (tail_length wide)) bytes (stepped_leaves bytes (single_step (tail_at wide bytes) kind a b))
