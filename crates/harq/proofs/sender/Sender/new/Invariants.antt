use Rattle.std.proofs.Common.{◌≡◌, replicate}
use Rattle.harq.specs.Sending.{empty}
use Rattle.harq.proofs.sender.Sender.new.Given as goal

abbrev pub invariant-loop-i : goal.invariant-loop-i
invariant-loop-i l = l.processes.items ≡ replicate l._i empty
