use Rattle.eps_sec.proofs.WordLemmas.{add_key_is}
use Rattle.eps_sec.proofs.cipher.add_key.Goals as goal

pub returns : goal.returns
returns c = add_key_is c.args.k.now c.args.s.now
