use Rattle.std.proofs.Common.{◌≡◌, ◌++◌, length}
use Rattle.rlc_pdu.specs.Units.{units_octets, AreLis}
use Rattle.rlc_pdu.proofs.writing.put_units.Given as goal

abbrev pub invariant-loop-rest : goal.invariant-loop-rest
invariant-loop-rest l = (l.out ++ units_octets 0 l.rest ≡ l.initial.out ++ units_octets 0 l.lis) × AreLis l.rest

abbrev pub decreases-loop-rest : goal.decreases-loop-rest
decreases-loop-rest l = length l.rest
