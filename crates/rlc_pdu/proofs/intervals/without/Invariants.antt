use Rattle.std.proofs.Common.{◌≡◌, ◌++◌, drop}
use Rattle.rlc_pdu.specs.Runs.{removed}
use Rattle.rlc_pdu.proofs.intervals.without.Given as goal

abbrev pub invariant-loop-one : goal.invariant-loop-one
invariant-loop-one l = l.out.items ++ removed (drop l.one-index l.runs) l.from l.to ≡ removed l.runs l.from l.to
