use Rattle.std.proofs.Common.{◌∙◌, ap}
use Rattle.cell_run.specs.Terminals.{down_wish}
use Rattle.cell_run.proofs.Wishing.{wishes-next}
use Rattle.cell_run.proofs.terminals.down_wishes.Goals as goal

pub loop-at-preserved : goal.loop-at-preserved
loop-at-preserved c =
    wishes-next down_wish c.args.terminals.now _ c.loop-at.at c.loop-at.wishes c.down_wish.result
    c.loop-at-test.true c.requires c.loop-at.invariant (c.down_wish.ensures ∙ ap down_wish c.index-terminals-at.is)
