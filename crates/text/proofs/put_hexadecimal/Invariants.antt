use Rattle.std.proofs.Common.{◌≡◌, ◌+◌, ◌*◌, length, drop}
use Rattle.std.proofs.lemmas.List.Edits.{sets}
use Rattle.text.specs.Text.{hexadecimal}
use Rattle.text.proofs.put_hexadecimal.Given as goal

-- what is left, put from here on, gives what the whole gives
abbrev pub invariant-loop-b : goal.invariant-loop-b
invariant-loop-b l = record {
  place : l.at ≡ l.place + 2 * l.b-index;
  same : length l.text ≡ length l.initial.text;
  rest : sets l.text l.at (hexadecimal (drop l.b-index l.bytes)) ≡ sets l.initial.text l.place (hexadecimal l.bytes);
}
