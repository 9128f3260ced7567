use Rattle.std.proofs.Common.{◌∙◌, sym}
use Rattle.journal_form.specs.SameRecords.{same_nack}
use Rattle.journal_form.proofs.Lists.{goes_on, differs}
use Rattle.journal_form.proofs.shown.same_nacks.Goals as goal

pub returns-then-not-same_nack : goal.returns-then-not-same_nack
returns-then-not-same_nack c =
    differs same_nack c.args.nacks.now c.args.own_nacks.now c.loop-at.at c.nack_at.result c.nack_at-in-loop-at.result
    c.nack_at.ensures c.nack_at-in-loop-at.ensures c.loop-at.invariant
    (sym c.same_nack.ensures ∙ c.if-not-same_nack.true)

pub loop-at-preserved : goal.loop-at-preserved
loop-at-preserved c =
    goes_on same_nack c.args.nacks.now c.args.own_nacks.now c.loop-at.at c.nack_at.result c.nack_at-in-loop-at.result
    c.nack_at.ensures c.nack_at-in-loop-at.ensures c.loop-at.invariant
    (sym c.same_nack.ensures ∙ c.if-not-same_nack.false)
