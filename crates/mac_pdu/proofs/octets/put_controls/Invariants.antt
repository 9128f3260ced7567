use Rattle.std.proofs.Common.{◌≡◌, ◌++◌, take, map}
use Rattle.std.specs.List.{flat_map}
use Rattle.mac_pdu.specs.Items.{element}
use Rattle.mac_pdu.specs.Writing.{payload}
use Rattle.mac_pdu.proofs.octets.put_controls.Given as goal

abbrev pub invariant-loop-control : goal.invariant-loop-control
invariant-loop-control l = l.out ≡ l.initial.out ++ flat_map payload (map element (take l.control-index l.controls))
