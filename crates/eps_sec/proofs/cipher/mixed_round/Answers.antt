use Rattle.eps_sec.proofs.WordLemmas.{mixed_round_is}
use Rattle.eps_sec.proofs.cipher.mixed_round.Goals as goal

pub returns : goal.returns
returns c = mixed_round_is c.args.s.now _ _ _ _ c.mixed.ensures c.mixed-2.ensures c.mixed-3.ensures c.mixed-4.ensures
