use Rattle.std.proofs.Common.{arith, rules, refl}
use Rattle.script_generator.proofs.Repeating.{same-more, none-yet}
use Rattle.script_generator.proofs.text.put_same.Goals as goal

pub loop-i-preserved : goal.loop-i-preserved
loop-i-preserved c = record {
  digits = same-more c.loop-i.digits c.pair_of-pair.result c.args.octet c.loop-i.i
      (omega (arith, c.loop-i.invariant.size)) c.pair_of-pair.ensures c.loop-i.invariant.digits;
  size = search rules;
}

pub loop-i-init : goal.loop-i-init
loop-i-init c = record { digits = none-yet c.args.octet; size = refl }
