use Rattle.std.proofs.Common.{◌≡◌, ◌≤◌}
use Rattle.std.specs.Prelude.{Some}
use Rattle.l2_io.specs.declared.lines.Stand.TheVariants.{Open}
use Rattle.line_player.specs.Journal.{journal_by}
use Rattle.line_player.specs.Plays.{HasGathered}
use Rattle.line_player.proofs.playing.play_lines.Given as goal

abbrev pub invariant-loop-number : goal.invariant-loop-number
invariant-loop-number g l = record {
  gathers : HasGathered g.P.Player.text_of g.P.Player.machine (journal_by g.P.Player.machine)
      (g.S.Source.left l.initial.source) (g.S.Source.left l.source)
      (g.K.Sink.written l.initial.out) (g.K.Sink.written l.out) l.gathered.octets
      (Some (g.P.Player.state l.player)) l.number
      l.lines.kept;
  few : l.number ≤ 1000001;
  longest : l.lines.longest ≡ 20000;
  open_ : l.lines.stand ≡ Open;
  source_count : g.S.Source.faults l.initial.source ≤ g.S.Source.faults l.source;
  out_count : g.K.Sink.faults l.initial.out ≤ g.K.Sink.faults l.out;
}
