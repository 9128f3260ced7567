use Rattle.std.specs.Prelude.{[], Some}
use Rattle.l2_commands.specs.Journals.{sums_of}
use Rattle.line_player.proofs.Rows.{runs-ended}
use Rattle.l2_commands.proofs.commands.generate.Goals as goal

pub returns : goal.returns
returns g c = (Some [], runs-ended sums_of _ _ _ _ c.sum_script-ending.ensures.played c.tell_ending.ensures)
