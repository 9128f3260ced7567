use Rattle.l2_commands.specs.Journals.{blocks_of}
use Rattle.line_player.proofs.Rows.{runs-ended}
use Rattle.l2_commands.proofs.commands.decode.Goals as goal

pub returns : goal.returns
returns g c = runs-ended blocks_of _ _ _ _ c.show_blocks-ending.ensures c.tell_ending.ensures
