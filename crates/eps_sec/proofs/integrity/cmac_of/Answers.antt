use Rattle.std.proofs.Common.{◌≡◌, ℕ, ◌-◌, ◌/◌, ◌++◌, ap, ◌∙◌, sym, refl, arith, length-append}
use Rattle.std.proofs.lemmas.List.{append-nil}
use Rattle.eps_sec.specs.Modes.{chain, last_number}
use Rattle.eps_sec.proofs.CodeLemmas.{chain_more, cmac_is}
use Rattle.eps_sec.proofs.integrity.cmac_of.Goals as goal

pub loop-i-init : goal.loop-i-init
unfolding chain
loop-i-init c = refl

pub loop-i-preserved : goal.loop-i-preserved
loop-i-preserved c =
    let m = c.args.head.now ++ c.args.body.now in
    chain_more c.args.schedule.now m _ _ _ c.loop-i.i (rw append-nil at c.block_of.ensures) c.loop-i.invariant
    (rw c.add_blocks.ensures at c.encrypt_block-sum.ensures)

pub returns : goal.returns
returns c =
    let m = c.args.head.now ++ c.args.body.now in
    let last : c.loop-i.i ≡ c.saturating_sub-last.result / 16 = omega arith in
    let number : c.loop-i.i ≡ last_number m =
    last ∙ ap (λ (n : ℕ). n / 16) (c.saturating_sub-last.ensures
    ∙ ap (λ (n : ℕ). n - 1) (sym (length-append c.args.head.now c.args.body.now))) in
    cmac_is c.args.schedule.now m _ _ _ c.loop-i.i number c.last_block-end.ensures c.loop-i.invariant
    (rw c.add_blocks-2.ensures at c.encrypt_block.ensures)
