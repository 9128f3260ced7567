use Rattle.std.proofs.Common.{◌∙◌, ap}
use Rattle.cell_sched.specs.Wishes.{wish_of}
use Rattle.cell_run.proofs.Stepping.{told-levels}
use Rattle.cell_run.proofs.terminal.Terminal.up_wish.Goals as goal

pub returns : goal.returns
returns c =
    rw (← c.self.view_is) (c.wish.ensures
    ∙ ap wish_of (told-levels c.self.inside.run c.told.result c.told.ensures.levels c.told.ensures.none))
