use Rattle.std.proofs.Common.{◌≡◌, length}
use Rattle.air_run.specs.Written.{told}
use Rattle.air_run.proofs.journal.Journal.put_all.Given as goal

abbrev pub invariant-loop-one : goal.invariant-loop-one
invariant-loop-one l = (told l.records l.self ≡ told l.initial.records l.initial.self) × (l.link ≡ l.initial.link)

abbrev pub decreases-loop-one : goal.decreases-loop-one
decreases-loop-one l = length l.records
