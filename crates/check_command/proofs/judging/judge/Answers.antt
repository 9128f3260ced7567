use Rattle.line_player.specs.Streams.{input}
use Rattle.check_command.proofs.Closing.{unread, closes-unsound}
use Rattle.check_command.proofs.judging.judge.Goals as goal

pub returns-in_default : goal.returns-in_default
returns-in_default g c = unread (input g.S.Source c.args.source.now)

pub returns : goal.returns
returns g c =
    let all = c.in_default-read_lines.ensures in
    rw c.verdict_by.ensures (closes-unsound _ _ _ c.in-Err.fault all (c.in-Err.ensures.end all.records all.fed))
