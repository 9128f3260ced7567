use Rattle.law_um.proofs.UmWriting.{pdus_keep_pieces}
use Rattle.law_um.proofs.laws.pdus_keep_pieces.Goals as goal

pub returns : goal.returns
returns c = pdus_keep_pieces
