use Rattle.std.proofs.Common.{◌∙◌, ap, take, length}
use Rattle.l2_io.proofs.Pieces.{drop-given}
use Rattle.l2_io.proofs.give.give.Goals as goal

pub returns-clause-given : goal.returns-clause-given
returns-clause-given c =
    let n = c.min-count.result in
    drop-given c.args.from.now c.copy_from_slice.new.self _ c.args.at n
    (c.copy_from_slice.ensures.after ∙ c.split_at-2.ensures.front ∙ ap (take n) c.split_at.ensures.back)
    (ap length c.copy_from_slice.ensures.after ∙ c.split_at-2.ensures.front_len)
