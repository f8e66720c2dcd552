use Rattle.std.proofs.Common.{◌≡◌, ◌+◌, ◌*◌, ◌≤◌, length}
use Rattle.lines.specs.Lines.{byte_lines}
use Rattle.lines.proofs.LineLaws.{lines_from}
use Rattle.lines.proofs.lines_length.Given as goal

-- the lines counted and those left are all lines; the bound keeps the sum from wrapping
abbrev pub invariant-loop-i : goal.invariant-loop-i
invariant-loop-i l = record {
  few : l.total ≤ 20 * l.i;
  counted : l.total + length (lines_from l.bytes l.i) ≡ length (byte_lines 1 l.bytes);
}
