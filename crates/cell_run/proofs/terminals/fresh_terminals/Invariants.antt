use Rattle.std.proofs.Common.{◌≡◌, replicate}
use Rattle.cell_run.specs.Terminals.{fresh_terminal}
use Rattle.cell_run.proofs.terminals.fresh_terminals.Given as goal

abbrev pub invariant-loop-done : goal.invariant-loop-done
invariant-loop-done l = l.terminals.items ≡ replicate l.done fresh_terminal
