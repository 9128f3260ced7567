use Rattle.std.proofs.Common.{◌≡◌, ◌++◌, map, take, drop}
use Rattle.um_losses.specs.Losses.{changed_one}
use Rattle.um_losses.proofs.losses.change_all.Given as goal

abbrev pub invariant-loop-flow : goal.invariant-loop-flow
invariant-loop-flow l = take l.flow-index l.flows ++ map (changed_one l.change) (drop l.flow-index l.flows)
    ≡ map (changed_one l.change) l.fn.flows
