use Rattle.eps_sec.proofs.WordLemmas.{last_round_is}
use Rattle.eps_sec.proofs.cipher.last_round.Goals as goal

pub returns : goal.returns
returns c =
    last_round_is c.args.s.now _ _ _ _ c.substituted.ensures c.substituted-2.ensures c.substituted-3.ensures
    c.substituted-4.ensures
