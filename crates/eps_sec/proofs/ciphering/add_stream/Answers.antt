use Rattle.std.proofs.Common.{◌≡◌, ◌+◌, ◌-◌, ◌*◌, ◌/◌, ◌∙◌, length, slice_index, refl, ap, arith, rules}
use Rattle.std.specs.Int.Bits.{bit_xor}
use Rattle.eps_sec.specs.Words.{state}
use Rattle.eps_sec.specs.Modes.{stream_octet}
use Rattle.eps_sec.proofs.LaneLemmas.{state-length}
use Rattle.eps_sec.proofs.StreamLemmas.{done-more, block-more, stream_octet_is}
use Rattle.eps_sec.proofs.ciphering.add_stream.Goals as goal

pub loop-k-preserved : goal.loop-k-preserved
loop-k-preserved c =
    let key = c.args.schedule.now in
    let first = c.args.first in
    let k = c.loop-k.k in
    let whole = length c.args.text.now / 16 in
    done-more (stream_octet key first) k _ c.args.text.now c.loop-k.text (omega arith) c.loop-k.invariant
    (ap (bit_xor (slice_index c.loop-k.text k))
    (stream_octet_is key c.octets_of-block.result first whole (k - 16 * whole) k
    (c.octets_of-block.ensures ∙ c.stream_words.ensures) (omega arith) (omega arith)))

pub loop-i-preserved : goal.loop-i-preserved
loop-i-preserved c =
    let key = c.args.schedule.now in
    let first = c.args.first in
    let i = c.loop-i.i in
    let block = state c.stream_words-stream.result in
    let next : 16 * (i + 1) ≡ 16 * i + 16 = omega arith in
    record {
      text =
          rw (next, c.add_words.ensures)
          (block-more (stream_octet key first) (16 * i) c.args.text.now c.loop-i.text block (omega arith)
          c.loop-i.invariant.text (state-length c.stream_words-stream.result)
          (λ j low. stream_octet_is key block first i j (16 * i + j) c.stream_words-stream.ensures refl low));
      front = search rules;
    }
