use Rattle.std.proofs.Common.{◌≡◌, drop}
use Rattle.journal_form.specs.SameRecords.{same_nacks}
use Rattle.journal_form.proofs.shown.same_nacks.Given as goal

abbrev pub invariant-loop-at : goal.invariant-loop-at
invariant-loop-at l = same_nacks (drop l.at l.nacks) (drop l.at l.own_nacks) ≡ same_nacks l.nacks l.own_nacks
