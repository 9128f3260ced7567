use Rattle.law_sound.proofs.KnownBearers.{bearers_stay_known}
use Rattle.law_sound.proofs.NamedForm.{new_blocks_have_form}
use Rattle.law_sound.proofs.NamedNumbers.{other_records_write_none, calls_are_numbered}
use Rattle.law_sound.proofs.NamedSteps.{new_blocks_are_told_of}
use Rattle.law_sound.proofs.laws.new_blocks_are_told_of.Goals as goal

pub returns-clause-others : goal.returns-clause-others
returns-clause-others c = other_records_write_none

pub returns-clause-numbers : goal.returns-clause-numbers
returns-clause-numbers c = calls_are_numbered

pub returns-clause-form : goal.returns-clause-form
returns-clause-form c = new_blocks_have_form

pub returns-clause-known : goal.returns-clause-known
returns-clause-known c = bearers_stay_known

pub returns-clause-named : goal.returns-clause-named
returns-clause-named c = new_blocks_are_told_of
