use Rattle.std.proofs.Common.{refl, subst, sym}
use Rattle.journal_check.specs.Checks.{TellsRecords}
use Rattle.journal_check.specs.Grouped.{no_records}
use Rattle.journal_check.proofs.Feeding.{none_fed}
use Rattle.journal_check.proofs.Standing.{tells_nothing}
use Rattle.journal_check.proofs.checker.Checker.new.Goals as goal

pub returns : goal.returns
returns c =
    none_fed _ (subst (TellsRecords no_records) (sym c.new.ensures) tells_nothing) c.new-2.ensures refl refl
