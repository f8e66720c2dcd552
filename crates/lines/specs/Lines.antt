-- The parts of a listing's lines: what follows a step's number, a count, a log. Assumes nothing.
use Rattle.std.specs.Prelude.{Bool, true, false, List, [], ◌∷◌, ◌++◌, ℕ, suc}
use Rattle.text.specs.Text.{ascii, decimal}
use Rattle.rules.specs.Report.{outcome_in, closed_in}
use Rattle.lines.specs.Types.{LogRecord, LogPair, Outcome, Report}

-- idle, moved, commit or abort; after a space `closed`, by request 2026-01

abbrev pub outcome_text : Outcome → List ℕ
outcome_text Outcome.Idle = ascii " idle"
outcome_text Outcome.Moved = ascii " moved"
outcome_text Outcome.Commit = ascii " commit"
outcome_text Outcome.Abort = ascii " abort"

abbrev pub closed_text : Bool → List ℕ
closed_text true = ascii " closed\n"
closed_text false = ascii "\n"

abbrev pub report_text : Report → List ℕ
report_text t = outcome_text t.outcome ++ closed_text t.closed

-- a count
abbrev pub count_text : ℕ → List ℕ
count_text k = ascii " " ++ decimal k

-- first and last record of a log as `-`, `y`, `a`, `c`

abbrev pub record_text : LogRecord → List ℕ
record_text LogRecord.None = ascii "-"
record_text LogRecord.Yes = ascii "y"
record_text LogRecord.Abort = ascii "a"
record_text LogRecord.Commit = ascii "c"

abbrev pub log_text : LogPair → List ℕ
log_text l = ascii " " ++ (record_text l.first ++ record_text l.last)

-- A line a step by the report's bytes, as the code has them

abbrev pub byte_text : ℕ → List ℕ
byte_text b = outcome_text (outcome_in b) ++ closed_text (closed_in b)

unfoldable pub byte_lines : ℕ → List ℕ → List ℕ
byte_lines k [] = []
byte_lines k (b ∷ bytes) = decimal k ++ (byte_text b ++ byte_lines (suc k) bytes)
