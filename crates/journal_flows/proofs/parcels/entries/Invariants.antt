use Rattle.std.proofs.Common.{◌≡◌, ◌++◌, length, map}
use Rattle.rlc_pdu.specs.Views.{nacks_of}
use Rattle.journal_flows.specs.NumberedPdus.{entry_from}
use Rattle.journal_flows.proofs.parcels.entries.Given as goal

abbrev pub invariant-loop-nack : goal.invariant-loop-nack
invariant-loop-nack l =
    l.found ++ map (entry_from l.front) (nacks_of l.nacks) ≡ map (entry_from l.fn.front) (nacks_of l.fn.nacks)

abbrev pub decreases-loop-nack : goal.decreases-loop-nack
decreases-loop-nack l = length (nacks_of l.nacks)
