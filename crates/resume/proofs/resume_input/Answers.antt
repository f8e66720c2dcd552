-- `resume::resume_input` meets its contract: what it writes is the text of the tail in the first frame and the steps after it. Assumes nothing.
use Rattle.std.proofs.Common.{ℕ, ◌+◌, List, ap₂, ◌∙◌}
use Rattle.passes.proofs.Reading.{tail_part}
use Rattle.frame.proofs.Frames.{schedule_there, rest_there}
use Rattle.resume.specs.Resume.{resumed_text}
use Rattle.resume.proofs.resume_input.Goals as goal

pub write_resumed-requires : goal.write_resumed-requires
write_resumed-requires g c =
    let input = c.args.input.now in
    let size = c.in-Some.size in
    let whole = c.in-Some.ensures in
    let tail = schedule_there input 0 size whole in
    let rest = tail_part input (2 + size) ∙ rest_there input 0 size whole in
    record {
      tail = whole.schedule;
      bytes = whole.rest;
      split = whole.split;
      said = c.put_resumed-end.ensures.1 ∙ ap₂ (λ (x y : List ℕ). resumed_text x y) tail rest;
    }
