use Rattle.std.proofs.Common.{◌∙◌, sym}
use Rattle.cell_run.proofs.Endings.{acts-ended, acts-gone}
use Rattle.cell_run.proofs.player.CellPlayer.run_line.Goals as goal

pub returns-in-Ok-clause-line : goal.returns-in-Ok-clause-line
returns-in-Ok-clause-line g c =
    acts-ended c.args.line.now c.args.self.now.cell c.act.new.self _ _ _ c.in-Ok.field-0
    (sym c.is_end.ensures ∙ c.if-is_end.true) c.in-Ok.ensures.line

pub returns-in-Ok-2-clause-line : goal.returns-in-Ok-2-clause-line
returns-in-Ok-2-clause-line g c =
    acts-gone c.args.line.now c.args.self.now.cell c.act.new.self _ _ _ c.in-Ok-2.field-0
    (sym c.is_end.ensures ∙ c.if-is_end.false) c.in-Ok-2.ensures.line
