-- The report of steps from a release on: one byte a step, then the tail in the form of a header's kind. Assumes nothing.
use Rattle.std.specs.Prelude.{List, ◌++◌, ℕ, ◌-◌, take, drop}
use Rattle.rules.specs.Run.{after}
use Rattle.tail.specs.Tail.{tail_of}
use Rattle.passes.specs.Pass.{step_bytes}
use Rattle.form.specs.Form.{form_of, tail_bytes, tail_length}
use Rattle.marker.specs.Types.{Kind, Step, Header, Release}

-- the whole report
abbrev pub report_bytes : Kind → Release → List Step → List ℕ
report_bytes k r steps = step_bytes r steps ++ tail_bytes (form_of k) (tail_of (after r steps))

-- how many bytes the tail has
abbrev pub tail_size : Header → ℕ
tail_size h = tail_length (form_of h.kind)

-- in a lent buffer after a run that wrote so many bytes: the steps' bytes, and the tail

abbrev pub steps_left : Header → List ℕ → ℕ → List ℕ
steps_left h left written = take (written - tail_size h) left

abbrev pub tail_left : Header → List ℕ → ℕ → List ℕ
tail_left h left written = take (tail_size h) (drop (written - tail_size h) left)
