use Rattle.std.proofs.Common.{◌≡◌, ◌++◌, drop}
use Rattle.rlc_pdu.specs.Status.{nacks_bits}
use Rattle.rlc_pdu.proofs.status.put_entries.Given as goal

abbrev pub invariant-loop-at : goal.invariant-loop-at
invariant-loop-at l = l.out ++ nacks_bits (drop l.at l.nacks) ≡ l.initial.out ++ nacks_bits l.nacks
