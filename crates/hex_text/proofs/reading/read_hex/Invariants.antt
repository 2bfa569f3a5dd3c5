use Rattle.std.proofs.Common.{◌≡◌, ◌<◌, None, drop}
use Rattle.std.specs.Prelude.{IfSome}
use Rattle.hex_text.specs.HexSteps.{read_of}
use Rattle.hex_text.proofs.Steps.{in_all}
use Rattle.hex_text.proofs.reading.read_hex.Given as goal

abbrev pub invariant-loop-at : goal.invariant-loop-at
invariant-loop-at l = record {
  so_far : read_of None l.text ≡ in_all l.at l.bytes.items (read_of l.high (drop l.at l.text));
  small : IfSome l.high (λ digit. digit < 16);
}
