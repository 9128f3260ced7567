use Rattle.std.proofs.Common.{◌∙◌, ap, arith, slice_index}
use Rattle.std.specs.Int.Bits.{bit_xor}
use Rattle.eps_sec.specs.Aes.{aes}
use Rattle.eps_sec.specs.Modes.{stream_octet}
use Rattle.eps_sec.proofs.StreamLemmas.{done-more, stream_octet_is}
use Rattle.eps_sec.proofs.ciphering.add_block.Goals as goal

pub loop-k-preserved : goal.loop-k-preserved
loop-k-preserved c =
    let key = c.args.schedule.now in
    let first = c.args.first in
    let k = c.loop-k.k in
    done-more (stream_octet key first) k _ c.args.text.now c.loop-k.text (omega arith) c.loop-k.invariant
    (ap (bit_xor (slice_index c.loop-k.text k))
    (stream_octet_is key c.octets_of-block.result first 0 k k
    (c.octets_of-block.ensures ∙ c.encrypt_words.ensures
    ∙ ap (aes key) (c.words_of.ensures ∙ c.counter_block.ensures)) (omega arith) (omega arith)))
