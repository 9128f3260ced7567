use Rattle.std.proofs.Common.{◌≡◌, replicate}
use Rattle.harq.specs.Receiving.{blank}
use Rattle.harq.proofs.receiver.Receiver.new.Given as goal

abbrev pub invariant-loop-i : goal.invariant-loop-i
invariant-loop-i l = l.processes.items ≡ replicate l._i blank
