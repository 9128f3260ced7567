use Rattle.std.proofs.Common.{◌≡◌, ◌≤◌, ◌++◌, map, take, length}
use Rattle.std.specs.Prelude.{Ok}
use Rattle.mac_pdu.specs.Grammar.{MacPdu}
use Rattle.mac_pdu.specs.Reading.{reading}
use Rattle.l2_c.specs.Mac.{way, item_seen}
use Rattle.l2_c.proofs.mac_reading.zubhanit_mac_read.Given as goal

abbrev pub invariant-loop-item : goal.invariant-loop-item
invariant-loop-item l =
    (l.at ≤ length l.items) × (length l.items ≡ length l.fn.items)
    × (reading (way l.fn.direction) l.fn.block ≡ Ok (map item_seen (take l.at l.items) ++ l.reader))
    × MacPdu (way l.fn.direction) (map item_seen (take l.at l.items) ++ l.reader) l.fn.block

abbrev pub decreases-loop-item : goal.decreases-loop-item
decreases-loop-item l = length l.reader
