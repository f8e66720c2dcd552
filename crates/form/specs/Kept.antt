-- Nothing is lost between the fields of a tail and its bytes, in any form. Proved in proofs/Kept.antt and proofs/Fits.antt. Assumes nothing.
use Rattle.std.specs.Prelude.{◌≡◌, true, ℕ, suc, ◌^◌, ◌≤◌, ◌<◌, length, get_or}
use Rattle.store.specs.Log.{places}
use Rattle.rules.specs.State.{types}
use Rattle.tail.specs.Tail.{zeros, tail_in_range}
use Rattle.form.specs.Types.{Kind, ParticipantFields, Tail, Form}
use Rattle.form.specs.Form.{form_of, narrow, wide, number_width, count_width, tail_bytes, tail_length, tail_at}

-- a tail has a mask for each type of message, fields for each place, and a count for each party
pub record HasFields (t : Tail) : Type 0 where
  pub messages : length t.messages ≡ types
  pub participants : length t.participants ≡ places
  pub calls : length t.calls ≡ suc places

-- every number fits its bytes, and what the form has no bytes for is zero

pub record FieldsFit (w : ℕ) (p : ParticipantFields) : Type 0 where
  pub state : p.state < 256 ^ number_width
  pub heard : p.heard < 256 ^ w
  pub first : p.first < 256 ^ number_width
  pub last : p.last < 256 ^ number_width

pub record FitsForm (f : Form) (t : Tail) : Type 0 where
  pub has_fields : HasFields t
  pub within : f.places ≤ places
  pub n : t.n < 256 ^ number_width
  pub votes : t.votes < 256 ^ f.width
  pub state : t.state < 256 ^ number_width
  pub heard : t.heard < 256 ^ f.width
  pub messages : (k : ℕ) → k < types → get_or t.messages k 0 < 256 ^ f.width
  pub participants : (i : ℕ) → i < f.places → FieldsFit f.width (get_or t.participants i zeros)
  pub participants_beyond : (i : ℕ) → f.places ≤ i → get_or t.participants i zeros ≡ zeros
  pub calls : (p : ℕ) → p ≤ f.places → get_or t.calls p 0 < 256 ^ count_width
  pub calls_beyond : (p : ℕ) → f.places < p → get_or t.calls p 0 ≡ 0

-- the fields of a tail that fits the form are read back from its bytes
abbrev pub TailKept : Type 0
TailKept = (f : Form) (t : Tail) → FitsForm f t → tail_at f (tail_bytes f t) ≡ t

-- and every tail in range under a header, with counts that fit theirs, fits the form of that header's kind
abbrev pub RangeFits : Type 0
RangeFits = (k : Kind) (limit : ℕ) (t : Tail) → 0 < limit → limit ≤ 256 ^ count_width → HasFields t → tail_in_range k limit t ≡ true → FitsForm (form_of k) t

-- document 01's tail under header 01
abbrev pub NarrowTail : Type 0
NarrowTail = (narrow ≡ record { places = 8; width = 1 }) × (tail_length narrow ≡ 59)

-- request 2026-03's tail under header 0B, and no tail is longer
abbrev pub WideTail : Type 0
WideTail = (wide ≡ record { places = 32; width = 4 }) × (tail_length wide ≡ 320) × ((k : Kind) → tail_length (form_of k) ≤ tail_length wide)
