use Rattle.std.proofs.Common.{◌≡◌, ◌++◌, drop}
use Rattle.rlc_pdu.specs.Runs.{merged, added}
use Rattle.rlc_pdu.proofs.intervals.merge.Given as goal

abbrev pub invariant-loop-one : goal.invariant-loop-one
invariant-loop-one l = l.out.items ++ merged l.moving (drop l.one-index l.runs) ≡ added l.runs l.from l.to
