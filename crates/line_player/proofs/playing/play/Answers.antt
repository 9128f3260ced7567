use Rattle.line_player.specs.Journal.{journal_by}
use Rattle.l2_io.proofs.Written.{risen_from}
use Rattle.line_player.proofs.Parting.{unplayed}
use Rattle.line_player.proofs.Gathering.{ends, never-risen, puts-by}
use Rattle.line_player.proofs.playing.play.Goals as goal

pub returns-in_default-clause-played : goal.returns-in_default-clause-played
returns-in_default-clause-played g c = unplayed (journal_by g.P.Player.machine) _ _ _ _

pub returns-clause-played : goal.returns-clause-played
returns-clause-played g c =
    let over = c.play_end.ensures.over in
    ends g.P.Player.machine (journal_by g.P.Player.machine) _ _ _ _ _ _ _ _ _ _ _
    over.1 _ c.in_default-play_lines.ensures.played never-risen over.2
    (puts-by _ _ _ _ _ _ _ (risen_from _ _ _ c.play_lines.ensures.out_count) over.3)
