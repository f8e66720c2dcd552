-- What program `resume` reads and prints. It reads a tail in a frame, two bytes length, low first, then its bytes; and after it steps that go on from
-- there. It prints their listing and then, where they are not refused, a line with the tail after them, from which a further run can go on.
-- Assumes nothing.
use Rattle.std.specs.Prelude.{◌≡◌, List, [], ◌++◌, ℕ, suc, ◌+◌, ◌*◌}
use Rattle.text.specs.Text.{ascii, hexadecimal}
use Rattle.schedule.specs.Schedule.{Reading, Accepted, Refused}
use Rattle.rules.specs.Run.{after}
use Rattle.tail.specs.Tail.{tail_of}
use Rattle.form.specs.Form.{wide, tail_bytes, tail_length}
use Rattle.start.specs.Start.{start_release, read_from}
use Rattle.frame.specs.Frame.{frame_of}
use Rattle.listing.specs.Listing.{listing_from, longest_text}

-- `tail`, a space, and the tail in lower-case hexadecimal
abbrev pub tail_text : List ℕ → Reading → List ℕ
tail_text tail (Accepted h steps) = ascii "tail " ++ (hexadecimal (tail_bytes wide (tail_of (after (start_release tail) steps))) ++ ascii "\n")
tail_text tail (Refused k place) = []

abbrev pub resumed_text : List ℕ → List ℕ → List ℕ
resumed_text tail bytes = listing_from tail bytes ++ tail_text tail (read_from tail bytes)

-- a text is that of an input
pub record Resumes (input text : List ℕ) : Type 0 where
  pub tail : List ℕ
  pub bytes : List ℕ
  pub split : input ≡ frame_of tail ++ bytes
  pub said : text ≡ resumed_text tail bytes

-- the longest line with a tail, and the longest text
abbrev pub tail_line : ℕ
tail_line = 5 + suc (2 * tail_length wide)

abbrev pub longest_resumed : ℕ
longest_resumed = longest_text + tail_line
