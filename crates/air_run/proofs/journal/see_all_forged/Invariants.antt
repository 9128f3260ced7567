use Rattle.std.proofs.Common.{◌≡◌, length}
use Rattle.air_run.specs.Written.{all_forged}
use Rattle.air_run.proofs.journal.see_all_forged.Given as goal

abbrev pub invariant-loop-one : goal.invariant-loop-one
invariant-loop-one l = all_forged l.side l.records l.losses ≡ all_forged l.side l.initial.records l.initial.losses

abbrev pub decreases-loop-one : goal.decreases-loop-one
decreases-loop-one l = length l.records
