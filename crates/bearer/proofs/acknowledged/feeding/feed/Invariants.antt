use Rattle.std.proofs.Common.{◌≡◌, length}
use Rattle.pdcp_tx.specs.State.{offers}
use Rattle.bearer.specs.Acknowledged.State.{work}
use Rattle.bearer.specs.Acknowledged.Taking.{feeds}
use Rattle.bearer.proofs.acknowledged.feeding.feed.Given as goal

abbrev pub invariant-feeding : goal.invariant-feeding
invariant-feeding l = feeds (offers l.pdcp.tx) l.size l.held (work l.pdcp l.tx.state l.events)
    ≡ feeds (offers l.fn.pdcp.tx) l.size l.held (work l.fn.pdcp l.fn.tx.state l.fn.events)

abbrev pub decreases-feeding : goal.decreases-feeding
decreases-feeding l = length (offers l.pdcp.tx)
