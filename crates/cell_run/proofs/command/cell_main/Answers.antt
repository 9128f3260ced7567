use Rattle.cell_run.specs.Cells.{cell_of}
use Rattle.line_player.proofs.Rows.{runs-ended}
use Rattle.cell_run.proofs.command.cell_main.Goals as goal

pub returns-clause-run : goal.returns-clause-run
returns-clause-run g c is = runs-ended cell_of _ _ _ _ c.play-ending.ensures.played c.tell_ending.ensures
