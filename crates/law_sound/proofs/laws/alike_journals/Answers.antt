use Rattle.law_sound.proofs.AlikeJournals.{alike_journals, journals_are_alike}
use Rattle.law_sound.proofs.laws.alike_journals.Goals as goal

pub returns-clause-steps : goal.returns-clause-steps
returns-clause-steps c = alike_journals

pub returns-clause-gathered : goal.returns-clause-gathered
returns-clause-gathered c = journals_are_alike
