use Rattle.std.proofs.Common.{◌≡◌, ◌+◌, length}
use Rattle.rlc_pdu.specs.Status.{nacks_size}
use Rattle.rlc_pdu.specs.Views.{nacks_of}
use Rattle.journal_form.proofs.rlc.used_bits.Given as goal

abbrev pub invariant-loop-nack : goal.invariant-loop-nack
invariant-loop-nack l =
    l.bits + nacks_size (nacks_of l.entries) ≡ 15 + nacks_size (nacks_of l.fn.entries)

abbrev pub decreases-loop-nack : goal.decreases-loop-nack
decreases-loop-nack l = length (nacks_of l.entries)
