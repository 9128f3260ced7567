use Rattle.eps_sec.proofs.WordLemmas.{words_are}
use Rattle.eps_sec.proofs.cipher.words_of.Goals as goal

pub returns : goal.returns
returns c =
    words_are c.args.block.now _ _ _ _ c.told-block c.fits-block c.from_be_bytes.ensures c.from_be_bytes-2.ensures
    c.from_be_bytes-3.ensures c.from_be_bytes-4.ensures
