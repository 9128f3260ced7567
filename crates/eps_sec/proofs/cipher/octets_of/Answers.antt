use Rattle.eps_sec.specs.Words.{column}
use Rattle.eps_sec.proofs.WordLemmas.{octets_are}
use Rattle.eps_sec.proofs.cipher.octets_of.Goals as goal

pub returns : goal.returns
unfolding column
returns c =
    octets_are c.args.words.now c.to_be_bytes.result c.to_be_bytes-2.result c.to_be_bytes-3.result
    c.to_be_bytes-4.result c.to_be_bytes.ensures c.to_be_bytes-2.ensures c.to_be_bytes-3.ensures
    c.to_be_bytes-4.ensures
