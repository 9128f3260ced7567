use Rattle.std.proofs.Common.{◌+◌, ◌-◌, ◌*◌, ◌∙◌, ap, arith, drop, drop-cons, get_or, suc}
use Rattle.text_digits.specs.Numerals.{value_behind}
use Rattle.air_text.proofs.Numbers.{value_behind_grows}
use Rattle.air_text.proofs.fields.value.Goals as goal

pub returns-then-so_far-from : goal.returns-then-so_far-from
returns-then-so_far-from c =
    let text = c.args.text.now in
    let i = c.loop-x.x-index in
    let rest = c.loop-x.invariant.rest ∙ ap (value_behind c.loop-x.so_far) (drop-cons text i 0 (omega arith)) in
    omega (arith, rest, value_behind_grows (c.loop-x.so_far * 10 + (get_or text i 0 - 48)) (drop (suc i) text))
