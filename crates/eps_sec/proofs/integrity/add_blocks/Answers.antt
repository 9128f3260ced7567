use Rattle.std.proofs.Common.{slice_index, arith, refl, rules}
use Rattle.std.specs.Int.Bits.{bit_xor}
use Rattle.eps_sec.specs.Aes.{add_round_key}
use Rattle.eps_sec.proofs.CodeLemmas.{wrote, all_written}
use Rattle.eps_sec.proofs.integrity.add_blocks.Goals as goal

pub loop-j-preserved : goal.loop-j-preserved
loop-j-preserved c = record {
  len = search rules;
  places = wrote (λ k. bit_xor (slice_index c.args.s.now k) (slice_index c.args.k.now k)) c.loop-j.sum c.loop-j.j _
      (omega arith) refl c.loop-j.invariant.places;
}

pub returns : goal.returns
unfolding add_round_key
returns c =
    all_written (λ k. bit_xor (slice_index c.args.s.now k) (slice_index c.args.k.now k)) c.loop-j.sum
    c.loop-j.invariant.len (λ k lt. c.loop-j.invariant.places k (omega arith))
