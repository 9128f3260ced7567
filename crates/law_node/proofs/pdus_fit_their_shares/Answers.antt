use Rattle.law_node.proofs.Fitting.{pdus_fit}
use Rattle.law_node.proofs.pdus_fit_their_shares.Goals as goal

pub returns : goal.returns
returns c = pdus_fit
