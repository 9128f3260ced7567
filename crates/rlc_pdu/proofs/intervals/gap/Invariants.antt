use Rattle.std.proofs.Common.{◌≡◌, drop}
use Rattle.rlc_pdu.specs.Runs.{gap_in}
use Rattle.rlc_pdu.proofs.intervals.gap.Given as goal

abbrev pub invariant-loop-one : goal.invariant-loop-one
invariant-loop-one l = gap_in (drop l.one-index l.runs) l.at l.size ≡ gap_in l.runs l.from l.size
