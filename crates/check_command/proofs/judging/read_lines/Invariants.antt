use Rattle.std.proofs.Common.{◌≡◌}
use Rattle.l2_io.specs.declared.lines.Stand.TheVariants.{Open}
use Rattle.line_player.specs.Streams.{input}
use Rattle.check_command.specs.Reading.{HasTaken}
use Rattle.check_command.proofs.judging.read_lines.Given as goal

abbrev pub invariant-loop-number : goal.invariant-loop-number
invariant-loop-number g l = record {
  taken : HasTaken (input g.S.Source l.initial.source) (input g.S.Source l.source) l.lines.kept l.checker l.number;
  longest : l.lines.longest ≡ 32768;
  open_ : l.lines.stand ≡ Open;
}
