use Rattle.std.proofs.Common.{◌≡◌, ◌≢◌, ◌+◌, ◌%◌, ◌^◌, slice_index, ap, arith, List, ℕ}
use Rattle.std.proofs.lemmas.Bool.{eqb-false}
use Rattle.eps_sec.specs.Modes.{counter_block}
use Rattle.eps_sec.proofs.FrontLemmas.{same_head}
use Rattle.eps_sec.proofs.ciphering.has_carry.Goals as goal

pub returns-clause-head : goal.returns-clause-head
unfolding counter_block
returns-clause-head c = λ e.
    let now = (c.args.first + c.args.i) % 2 ^ 128 in
    let last : slice_index c.counter_block.result 15 ≡ now % 2 ^ 8 =
    ap (λ (l : List ℕ). slice_index l 15) c.counter_block.ensures in
    let differ : slice_index c.counter_block.result 15 ≢ 255 =
    eqb-false (slice_index c.counter_block.result 15) 255 e in
    same_head ((c.args.first + (c.args.i + 1)) % 2 ^ 128) now (omega (arith, last, differ))
