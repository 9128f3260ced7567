use Rattle.std.proofs.Common.{refl, ◌∙◌, arith}
use Rattle.std.proofs.lemmas.List.{take_all}
use Rattle.text_digits.proofs.Written.{by-turns, turns}
use Rattle.text_digits.proofs.hexadecimal.block_digits.Goals as goal

pub returns : goal.returns
returns c =
    let whole = take_all 64 c.args.block.now (omega (arith, c.requires)) in
    c.lanes.ensures ∙ by-turns 64 c.args.block.now c.high_digits.result c.low_digits.result (turns 64 0 32)
    (turns 64 32 32) c.requires (rw whole at c.high_digits.ensures) (rw whole at c.low_digits.ensures) refl refl
    refl
