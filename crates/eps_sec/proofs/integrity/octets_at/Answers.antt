use Rattle.std.proofs.Common.{◌+◌, slice_index, arith, refl, rules}
use Rattle.eps_sec.proofs.CodeLemmas.{wrote}
use Rattle.eps_sec.proofs.integrity.octets_at.Goals as goal

pub loop-j-preserved : goal.loop-j-preserved
loop-j-preserved c = record {
  len = search rules;
  places = wrote (λ k. slice_index c.args.body.now (c.args.start + k)) c.loop-j.block c.loop-j.j _ (omega arith) refl
      c.loop-j.invariant.places;
}
