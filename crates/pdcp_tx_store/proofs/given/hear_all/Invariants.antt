use Rattle.std.proofs.Common.{◌≡◌, ◌-◌, length}
use Rattle.pdcp_tx_store.specs.Given.{heard}
use Rattle.pdcp_tx_store.proofs.GivenSteps.{mapped_from}
use Rattle.pdcp_tx_store.proofs.given.hear_all.Given as goal

abbrev pub invariant-loop-at : goal.invariant-loop-at
invariant-loop-at l = mapped_from (heard l.from l.bitmap) l.at l.entries.items
    ≡ mapped_from (heard l.from l.bitmap) 0 l.fn.entries.items

abbrev pub decreases-loop-at : goal.decreases-loop-at
decreases-loop-at l = length l.entries.items - l.at
