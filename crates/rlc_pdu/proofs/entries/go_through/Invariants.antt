use Rattle.std.proofs.Common.{◌≡◌, ◌-◌, ◌*◌, ◌≤◌, length, drop, None}
use Rattle.std.specs.Prelude.{IfSome}
use Rattle.l2_bits.specs.Bits.{bits_of}
use Rattle.rlc_pdu.specs.Entries.{entries, gone_through}
use Rattle.rlc_pdu.proofs.entries.go_through.Given as goal

abbrev pub invariant-loop-follows : goal.invariant-loop-follows
invariant-loop-follows l =
    (gone_through l.backwards l.next (entries 0 l.follows (drop l.next (bits_of l.octets)))
    ≡ gone_through None l.at (entries 0 l.more (drop l.at (bits_of l.octets))))
    × (l.next ≤ 8 * length l.octets)
    × IfSome l.backwards (λ b. b ≤ 8 * length l.octets)

abbrev pub decreases-loop-follows : goal.decreases-loop-follows
decreases-loop-follows l = 8 * length l.octets - l.next
