use Rattle.std.proofs.Common.{◌≡◌, length}
use Rattle.journal_flows.specs.UmKept.{settled}
use Rattle.journal_flows.proofs.um_sender.UmSender.settle.Given as goal

abbrev pub invariant-sdus : goal.invariant-sdus
invariant-sdus l =
    settled l.self.next l.self.ended l.self.into l.self.left
    ≡ settled l.fn.self.next l.fn.self.ended l.fn.self.into l.fn.self.left

abbrev pub decreases-sdus : goal.decreases-sdus
decreases-sdus l = length l.self.left
