use Rattle.std.proofs.Common.{arith}
use Rattle.l2_num.proofs.NumberLemmas.{ahead-seen, ahead-under}
use Rattle.l2_num.proofs.ahead.Goals as goal

pub returns-else-base-x-clause-difference : goal.returns-else-base-x-clause-difference
returns-else-base-x-clause-difference c = λ low n h.
    omega (
      arith,
      ahead-seen low n c.args.size c.args.base c.args.x h,
      ahead-under c.args.x c.args.base c.args.size (omega arith) (omega arith),
    )
