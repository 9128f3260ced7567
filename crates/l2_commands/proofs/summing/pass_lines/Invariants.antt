use Rattle.std.proofs.Common.{ℕ, List, ◌≤◌}
use Rattle.air_run.specs.Journal.{script}
use Rattle.script_generator.specs.Lines.{SayAll}
use Rattle.line_player.specs.Plays.{state_of}
use Rattle.l2_commands.proofs.Passing.{IsLeft}
use Rattle.l2_commands.proofs.summing.pass_lines.Given as goal

abbrev pub invariant-loop-number : goal.invariant-loop-number
invariant-loop-number l = record {
  goes : (octets : List ℕ) → SayAll octets l.fn.lines → IsLeft octets (state_of script l.run) l.number l.lines;
  few : l.number ≤ 1000001;
}
