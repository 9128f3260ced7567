use Rattle.std.proofs.Common.{◌∙◌, ◌+◌, ◌-◌, ◌^◌, ℕ, ap, min}
use Rattle.cell_sched.specs.declared.levels.TheConstants.{LEAST_WISH}
use Rattle.cell_run.proofs.Stepping.{left-behind}
use Rattle.cell_run.proofs.terminal.Terminal.down_wish.Goals as goal

pub returns : goal.returns
returns c =
    rw (← c.self.view_is) (c.saturating_add.ensures
    ∙ ap (λ (n : ℕ). min (n + LEAST_WISH) (2 ^ 64 - 1))
    (left-behind c.self.inside.run c.left_down.result c.left_down.ensures.octets c.left_down.ensures.none))
