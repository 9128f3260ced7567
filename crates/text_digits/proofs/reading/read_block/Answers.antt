use Rattle.std.proofs.Common.{◌∙◌, ap, map, arith}
use Rattle.std.proofs.lemmas.List.{take_all}
use Rattle.text_digits.specs.Pairs.{value}
use Rattle.text_digits.proofs.PairLaws.{block-good, block-bad}
use Rattle.text_digits.proofs.reading.read_block.Goals as goal

pub returns-then-are_digits : goal.returns-then-are_digits
returns-then-are_digits c =
    let values = c.values-values.ensures
    ∙ ap (map (value c.args.letters)) (take_all 64 c.args.digits.now (omega (arith, c.requires))) in
    block-good c.args.letters c.args.digits.now _ _ _ c.type_inv.digits (omega (arith, c.requires)) values
    c.are_digits.ensures
    c.if-are_digits.true c.joined.ensures

pub returns-else-are_digits : goal.returns-else-are_digits
returns-else-are_digits c =
    let values = c.values-values.ensures
    ∙ ap (map (value c.args.letters)) (take_all 64 c.args.digits.now (omega (arith, c.requires))) in
    block-bad c.args.letters c.args.digits.now _ _ c.type_inv.digits (omega (arith, c.requires)) values
    c.are_digits.ensures
    c.if-are_digits.false
