use Rattle.std.proofs.Common.{◌≡◌, take}
use Rattle.l2_bits.specs.Bits.{number, bits_of}
use Rattle.l2_bits.proofs.reader.from_octets.Given as goal

abbrev pub invariant-loop-octet : goal.invariant-loop-octet
invariant-loop-octet l = l.whole ≡ number (bits_of (take l.octet-index l.octets))
