use Rattle.std.proofs.Common.{◌≡◌, ◌++◌}
use Rattle.std.specs.List.{concat}
use Rattle.um_losses.specs.Tags.{tags}
use Rattle.um_losses.proofs.tags.tags_of.Given as goal

abbrev pub invariant-loop-left : goal.invariant-loop-left
invariant-loop-left l = l.field ++ concat (tags l.tag l.step l.left) ≡ concat (tags l.fn.tag l.fn.step l.fn.count)

abbrev pub decreases-loop-left : goal.decreases-loop-left
decreases-loop-left l = l.left
