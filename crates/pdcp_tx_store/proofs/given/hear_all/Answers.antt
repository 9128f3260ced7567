use Rattle.std.proofs.Common.{rules, ◌+◌, ◌∙◌, ap}
use Rattle.pdcp_tx_store.specs.Given.{heard}
use Rattle.pdcp_tx_store.proofs.GivenSteps.{mapped_step, mapped_from}
use Rattle.pdcp_tx_store.proofs.given.hear_all.Goals as goal

pub loop-at-preserved : goal.loop-at-preserved
loop-at-preserved c =
    ap (mapped_from (heard c.args.from c.args.bitmap.now) (c.loop-at.at + 1)) c.hear_at.ensures
    ∙ (mapped_step (heard c.args.from c.args.bitmap.now) c.loop-at.entries.items c.loop-at.at (search rules)
    ∙ c.loop-at.invariant)
