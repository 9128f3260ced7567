use Rattle.std.proofs.Common.{refl}
use Rattle.eps_sec.specs.Words.{state}
use Rattle.eps_sec.proofs.CipherLemmas.{rounds_first}
use Rattle.eps_sec.proofs.cipher.encrypt_words.Goals as goal

pub returns : goal.returns
returns c = c.encrypt_from.ensures (state c.args.block.now) (rounds_first c.args.schedule.now _ _ refl)
