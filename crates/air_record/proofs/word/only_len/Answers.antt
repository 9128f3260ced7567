use Rattle.std.proofs.Common.{sym, ◌∙◌, append-nil}
use Rattle.std.specs.Fmt.{decimal}
use Rattle.air_record.proofs.Gets.{only_get}
use Rattle.air_record.proofs.word.only_len.Goals as goal

pub returns : goal.returns
returns c =
    let only = only_get c.args.lens.now c.in-Some.first.now (sym c.in-Some.ensures)
    (sym c.len.ensures ∙ c.if-len-ne1.false) in
    rw only (append-nil (decimal c.in-Some.first.now))
