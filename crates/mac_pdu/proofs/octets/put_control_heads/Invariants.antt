use Rattle.std.proofs.Common.{◌≡◌, ◌++◌, take, map}
use Rattle.std.specs.List.{flat_map}
use Rattle.mac_pdu.specs.Items.{element}
use Rattle.mac_pdu.specs.Writing.{inner}
use Rattle.mac_pdu.proofs.octets.put_control_heads.Given as goal

abbrev pub invariant-loop-control : goal.invariant-loop-control
invariant-loop-control l = l.out ≡ l.initial.out ++ flat_map inner (map element (take l.control-index l.controls))
