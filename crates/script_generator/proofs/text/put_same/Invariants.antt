use Rattle.std.proofs.Common.{◌≡◌, ◌*◌, take, length, replicate}
use Rattle.hex.specs.Hex.{encode_lower}
use Rattle.script_generator.proofs.text.put_same.Given as goal

abbrev pub invariant-loop-i : goal.invariant-loop-i
invariant-loop-i l = record {
  digits : take (2 * l.i) l.digits ≡ encode_lower (replicate l.i l.octet);
  size : length l.digits ≡ 2800;
}
