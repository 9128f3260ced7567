use Rattle.std.proofs.Common.{◌≡◌, ◌≢◌, ◌+◌, ◌*◌, ◌++◌, length, ap, ◌∙◌, arith, length-append}
use Rattle.std.proofs.lemmas.List.{append-nil}
use Rattle.eps_sec.specs.Modes.{double_block, subkey_1, subkey_2}
use Rattle.eps_sec.proofs.CodeLemmas.{whole_last, cut_last}
use Rattle.eps_sec.proofs.integrity.last_block.Goals as goal

pub returns-then-head-body : goal.returns-then-head-body
unfolding subkey_1
returns-then-head-body c =
    let m = c.args.head.now ++ c.args.body.now in
    let len : length m ≡ 16 * (c.args.last + 1) = omega (arith, length-append c.args.head.now c.args.body.now) in
    whole_last c.args.schedule.now m _ _ _ c.args.last c.requires.number len
    (c.double_block-subkey_1.ensures ∙ ap double_block c.encrypt_block.ensures)
    (rw append-nil at c.block_of.ensures) c.add_blocks.ensures

pub returns-else-head-body : goal.returns-else-head-body
unfolding subkey_1 subkey_2
returns-else-head-body c =
    let m = c.args.head.now ++ c.args.body.now in
    let len : length m ≢ 16 * (c.args.last + 1) = omega (arith, length-append c.args.head.now c.args.body.now) in
    cut_last c.args.schedule.now m _ _ _ c.args.last c.requires.number len
    (c.double_block-subkey_2.ensures
    ∙ ap double_block (c.double_block-subkey_1.ensures ∙ ap double_block c.encrypt_block.ensures))
    c.block_of-else-head-body.ensures c.add_blocks-else-head-body.ensures
