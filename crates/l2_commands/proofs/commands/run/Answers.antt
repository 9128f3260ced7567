use Rattle.air_run.specs.Journal.{journal_of}
use Rattle.line_player.proofs.Rows.{runs-ended}
use Rattle.l2_commands.proofs.commands.run.Goals as goal

pub returns : goal.returns
returns g c = runs-ended journal_of _ _ _ _ c.play_script-ending.ensures c.tell_ending.ensures
