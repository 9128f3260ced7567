use Rattle.std.proofs.Common.{◌+◌, ◌-◌, ◌*◌, ◌∙◌, ap, arith, drop, drop-cons, get_or, suc}
use Rattle.text_digits.specs.Numerals.{value_behind}
use Rattle.air_text.proofs.Numbers.{value_behind_grows}
use Rattle.journal_text.proofs.fields.long_value.Goals as goal

pub returns-then-so_far : goal.returns-then-so_far
returns-then-so_far c =
    let text = c.args.text.now in
    let i = c.loop-x.x-index in
    let rest = c.loop-x.invariant.rest ∙ ap (value_behind c.loop-x.so_far) (drop-cons text i 0 (omega arith)) in
    omega (arith, rest, value_behind_grows (c.loop-x.so_far * 10 + (get_or text i 0 - 48)) (drop (suc i) text))

pub returns-then-digit-so_far : goal.returns-then-digit-so_far
returns-then-digit-so_far c =
    let text = c.args.text.now in
    let i = c.loop-x.x-index in
    let rest = c.loop-x.invariant.rest ∙ ap (value_behind c.loop-x.so_far) (drop-cons text i 0 (omega arith)) in
    omega (arith, rest, value_behind_grows (c.loop-x.so_far * 10 + (get_or text i 0 - 48)) (drop (suc i) text))
