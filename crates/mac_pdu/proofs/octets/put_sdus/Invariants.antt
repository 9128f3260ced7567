use Rattle.std.proofs.Common.{◌≡◌, ◌++◌, take, map}
use Rattle.std.specs.List.{flat_map}
use Rattle.mac_pdu.specs.Writing.{payload}
use Rattle.mac_pdu.specs.Items.{sdu_item}
use Rattle.mac_pdu.proofs.octets.put_sdus.Given as goal

abbrev pub invariant-loop-sdu : goal.invariant-loop-sdu
invariant-loop-sdu l = l.out ≡ l.initial.out ++ flat_map payload (map sdu_item (take l.sdu-index l.sdus))
