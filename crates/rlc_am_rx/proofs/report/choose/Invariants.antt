use Rattle.std.proofs.Common.{◌≡◌, ◌+◌, ◌++◌, ◌≤◌, length, drop, map}
use Rattle.std.specs.List.{All}
use Rattle.rlc_pdu.specs.Pdus.{IsNack}
use Rattle.rlc_am_rx.specs.Status.{nack_of, fitting, room_in}
use Rattle.rlc_am_rx.proofs.report.choose.Given as goal

abbrev pub invariant-loop-missing : goal.invariant-loop-missing
invariant-loop-missing l = record {
  within : l.count ≤ l.missing-index;
  count : l.count + length (fitting l.room (drop l.missing-index l.all)) ≡ length (fitting (room_in l.size) l.all);
  nacks : l.nacks ++ map nack_of (fitting l.room (drop l.missing-index l.all))
      ≡ map nack_of (fitting (room_in l.size) l.all);
  sound : All IsNack l.nacks;
}
