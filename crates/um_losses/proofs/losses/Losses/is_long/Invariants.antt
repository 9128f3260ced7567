use Rattle.std.proofs.Common.{◌≡◌, drop}
use Rattle.um_losses.specs.Losses.{is_long}
use Rattle.um_losses.proofs.losses.Losses.is_long.Given as goal

abbrev pub invariant-loop-flow : goal.invariant-loop-flow
invariant-loop-flow l = is_long l.direction l.lcid (drop l.flow-index l.self.flows)
    ≡ is_long l.direction l.lcid l.self.flows
