-- What program `replay` reads and writes: schedules in frames, and a line for each. Assumes nothing.
use Rattle.std.specs.Prelude.{◌≡◌, ◌⊎◌, List, [], ◌∷◌, ◌++◌, ℕ, ◌+◌, ◌*◌, ◌/◌, ◌%◌, ◌≤◌, ◌<◌, length, take, drop, Option, Some, None, Result, Ok, Err}
use Rattle.number.specs.Refusal.{refusal_number}
use Rattle.text.specs.Text.{ascii, hexadecimal, refusal_line}
use Rattle.text.specs.Put.{Put, each}
use Rattle.schedule.specs.Record.{longest}
use Rattle.schedule.specs.Schedule.{Reading, Accepted, Refused, read_schedule}
use Rattle.form.specs.Form.{wide, tail_length}
use Rattle.passes.specs.Pass.{fresh_of}
use Rattle.marker.specs.Report.{report_bytes}
use Rattle.marker.specs.Run.{run_leaves}
use Rattle.frame.specs.Types.{Numbered}

-- a schedule in its frame: two bytes length, low first, then its bytes
abbrev pub frame_of : List ℕ → List ℕ
frame_of schedule = length schedule % 256 ∷ length schedule / 256 ∷ schedule

-- one line: what an entry wrote into a lent buffer, in lower-case hexadecimal, or `refused K at B`, whatever number K is
abbrev pub answer_line : Result ℕ Numbered → List ℕ → List ℕ
answer_line (Ok end) left = hexadecimal (take end left) ++ ascii "\n"
answer_line (Err r) left = refusal_line r.number r.value

-- what it wrote is in the buffer
abbrev pub WroteWithin : Result ℕ Numbered → List ℕ → Type 0
WroteWithin (Ok end) left = end ≤ length left
WroteWithin (Err r) left = Unit {0}

-- of a run: its report

abbrev pub reading_line : Reading → List ℕ
reading_line (Accepted h steps) = hexadecimal (report_bytes h.kind (fresh_of h) steps) ++ ascii "\n"
reading_line (Refused k place) = refusal_line (refusal_number k) place

abbrev pub line_of : List ℕ → List ℕ
line_of schedule = reading_line (read_schedule schedule)

-- the most bytes that a report, a line and a frame have

abbrev pub longest_report : ℕ
longest_report = longest + tail_length wide

abbrev pub longest_line : ℕ
longest_line = 2 * longest_report + 1

abbrev pub longest_frame : ℕ
longest_frame = 65537

-- What some bytes begin with: the frame of a schedule of this length; or no whole frame, and then they are fewer than the longest frame has

pub record WholeFrame (bytes : List ℕ) (size : ℕ) : Type 0 where
  pub schedule : List ℕ
  pub rest : List ℕ
  pub long : length schedule ≡ size
  pub split : bytes ≡ frame_of schedule ++ rest

pub record NoFrame (bytes : List ℕ) : Type 0 where
  pub none : (schedule rest : List ℕ) → bytes ≡ frame_of schedule ++ rest → ⊥
  pub few : length bytes < longest_frame

abbrev pub BeginsWith : Option ℕ → List ℕ → Type 0
BeginsWith (Some size) bytes = WholeFrame bytes size
BeginsWith None bytes = NoFrame bytes

-- Many schedules: their frames, and their lines, one after the other

abbrev pub frames_of : List (List ℕ) → List ℕ
frames_of schedules = each frame_of schedules

abbrev pub lines_of : List (List ℕ) → List ℕ
lines_of schedules = each line_of schedules

-- some bytes are frames, and a text has just the lines of their schedules. The frames determine the text: proved in proofs/Frames.antt

pub record LinesOf (frames text : List ℕ) : Type 0 where
  pub schedules : List (List ℕ)
  pub framed : frames ≡ frames_of schedules
  pub lined : text ≡ lines_of schedules

abbrev pub LinesDetermined : Type 0
LinesDetermined = (frames text text' : List ℕ) → LinesOf frames text → LinesOf frames text' → text ≡ text'

-- some bytes are whole frames, and then a rest that begins with none
pub record FramesThen (bytes rest : List ℕ) : Type 0 where
  pub schedules : List (List ℕ)
  pub split : bytes ≡ frames_of schedules ++ rest
  pub none : NoFrame rest

-- what the runs of some schedules, one after the other, leave in the lent report
unfoldable pub reports_left : List ℕ → List (List ℕ) → List ℕ
reports_left report [] = report
reports_left report (schedule ∷ schedules) = reports_left (run_leaves report schedule) schedules

-- each of some schedules has room for a line of any length, after the lines of those before it, in a text of this length
abbrev pub EachHasRoom : ℕ → List (List ℕ) → Type 0
EachHasRoom size schedules = (before after : List (List ℕ)) (schedule : List ℕ) → schedules ≡ before ++ (schedule ∷ after)
    → length (lines_of before) + longest_line ≤ size

-- With this input, text and report, the first `used` bytes of the input are marked: they are the frames of some schedules, each taken while there
-- was room; their lines are put at the front of the text, up to `filled`, and the report is as their runs leave it. What is left begins with no
-- whole frame, or the text has no room for a further line of any length. All of it is determined: proved in proofs/Frames.antt

pub record MarkedUpTo (input text₀ report₀ : List ℕ) (used filled : ℕ) (text report : List ℕ) : Type 0 where
  pub schedules : List (List ℕ)
  pub taken : used ≤ length input
  pub fits : filled ≤ length text
  pub framed : take used input ≡ frames_of schedules
  pub lined : Put text₀ 0 (lines_of schedules) filled text
  pub leaves : report ≡ reports_left report₀ schedules
  pub room : EachHasRoom (length text₀) schedules
  pub stops : NoFrame (drop used input) ⊎ (length text₀ < filled + longest_line)

abbrev pub MarkedDetermined : Type 0
MarkedDetermined = (input text₀ report₀ : List ℕ) (used filled : ℕ) (text report : List ℕ) (used' filled' : ℕ) (text' report' : List ℕ)
    → MarkedUpTo input text₀ report₀ used filled text report → MarkedUpTo input text₀ report₀ used' filled' text' report'
    → (used ≡ used') × (filled ≡ filled') × (text ≡ text') × (report ≡ report')
