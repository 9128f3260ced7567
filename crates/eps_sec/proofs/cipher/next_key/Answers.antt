use Rattle.eps_sec.proofs.WordLemmas.{next_key_is}
use Rattle.eps_sec.proofs.cipher.next_key.Goals as goal

pub returns : goal.returns
returns c = λ n e. next_key_is c.args.k.now _ c.args.power n c.turned.ensures e
