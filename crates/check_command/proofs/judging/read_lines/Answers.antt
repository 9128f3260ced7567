use Rattle.line_player.specs.Streams.{input}
use Rattle.check_command.proofs.Turning.{begins}
use Rattle.check_command.proofs.judging.read_lines.Goals as goal

pub loop-number-init : goal.loop-number-init
loop-number-init g c = record {
  taken = rw c.requires.kept (begins (input g.S.Source c.args.source.now) c.args.checker.now c.requires.fresh);
  longest = c.requires.longest;
  open_ = c.requires.open;
}
