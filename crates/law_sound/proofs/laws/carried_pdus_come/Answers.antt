use Rattle.law_sound.proofs.CarriedBlocks.{parcels_bring, carried_pdus_come}
use Rattle.law_sound.proofs.laws.carried_pdus_come.Goals as goal

pub returns-clause-parcels : goal.returns-clause-parcels
returns-clause-parcels c = parcels_bring

pub returns-clause-blocks : goal.returns-clause-blocks
returns-clause-blocks c = carried_pdus_come
