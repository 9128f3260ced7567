use Rattle.std.proofs.Common.{◌+◌, ◌++◌, slice_index, arith, rules}
use Rattle.eps_sec.proofs.CodeLemmas.{wrote}
use Rattle.eps_sec.proofs.integrity.octets_across.Goals as goal

pub loop-j-preserved : goal.loop-j-preserved
loop-j-preserved c = record {
  len = search rules;
  places = wrote (λ k. slice_index (c.args.head.now ++ c.args.body.now ++ c.args.tail.now) (c.args.start + k))
      c.loop-j.block c.loop-j.j _ (omega arith) c.octet.ensures c.loop-j.invariant.places;
}
