use Rattle.std.proofs.Common.{◌≡◌, ◌≤◌, ◌+◌, ◌*◌, ◌++◌, [], map, length, false}
use Rattle.mac_pdu.specs.Writing.{items_of, writing}
use Rattle.l2_c.specs.Mac.{are_fit, item_seen}
use Rattle.l2_c.proofs.mac_writing.collect.Given as goal

abbrev pub invariant-loop-rest : goal.invariant-loop-rest
invariant-loop-rest l =
    (l.builder.direction ≡ l.direction)
    × (are_fit l.direction false l.items ≡ are_fit l.direction l.behind l.rest)
    × (items_of l.builder ++ map item_seen l.rest ≡ map item_seen l.items)
    × (l.behind ≡ false → l.builder.sdus ≡ [])
    × (length (writing (items_of l.builder)) + 32770 * length l.rest ≤ 32770 * length l.items)

abbrev pub decreases-loop-rest : goal.decreases-loop-rest
decreases-loop-rest l = length l.rest
