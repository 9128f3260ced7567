use Rattle.std.proofs.Common.{◌≡◌, ◌+◌, ◌^◌, ◌%◌, ap, arith, subst, sym, Some}
use Rattle.l2_num.specs.Numbers.{ahead, IsRecovered}
use Rattle.l2_num.proofs.NumberLemmas.{ahead-recovered, IsRecovered-ahead}
use Rattle.l2_num.proofs.recover.Goals as goal

pub returns-then-ahead-width-clause-sound : goal.returns-then-ahead-width-clause-sound
returns-then-ahead-width-clause-sound c =
    let far : c.distance-ahead.result ≡ ahead c.args.sn (c.args.next % 2 ^ c.args.bits) (2 ^ c.args.bits) =
    rw c.power-size.ensures.value at c.distance-ahead.ensures.value in
    subst (λ d. IsRecovered c.args.next c.args.sn c.args.bits c.args.width (c.args.next + d)) (sym far)
    (IsRecovered-ahead c.args.next c.args.sn c.args.bits c.args.width c.requires.sn (omega arith))

pub returns-then-ahead-width-clause-complete : goal.returns-then-ahead-width-clause-complete
returns-then-ahead-width-clause-complete c = λ n h.
    let far : c.distance-ahead.result ≡ ahead c.args.sn (c.args.next % 2 ^ c.args.bits) (2 ^ c.args.bits) =
    rw c.power-size.ensures.value at c.distance-ahead.ensures.value in
    ap Some (omega (arith, h.from, ahead-recovered c.args.next c.args.sn c.args.bits c.args.width n c.requires.width h))

pub returns-else-ahead-width-clause-complete : goal.returns-else-ahead-width-clause-complete
returns-else-ahead-width-clause-complete c = λ n h.
    let far : c.distance-ahead.result ≡ ahead c.args.sn (c.args.next % 2 ^ c.args.bits) (2 ^ c.args.bits) =
    rw c.power-size.ensures.value at c.distance-ahead.ensures.value in
    absurd
    (omega (
      arith,
      h.from,
      h.below,
      ahead-recovered c.args.next c.args.sn c.args.bits c.args.width n c.requires.width h,
    ))
