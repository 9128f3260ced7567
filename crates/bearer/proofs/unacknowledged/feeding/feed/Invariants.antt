use Rattle.std.proofs.Common.{◌≡◌, length}
use Rattle.pdcp_tx.specs.State.{offers}
use Rattle.bearer.specs.Unacknowledged.Taking.{feeds}
use Rattle.bearer.proofs.unacknowledged.feeding.feed.Given as goal

abbrev pub invariant-feeding : goal.invariant-feeding
invariant-feeding l =
    feeds (offers l.pdcp.tx) l.size l.held (record { pdcp = l.pdcp; tx = l.tx.state; events = l.events })
    ≡ feeds (offers l.fn.pdcp.tx) l.size l.held (record { pdcp = l.fn.pdcp; tx = l.fn.tx.state; events = l.fn.events })

abbrev pub decreases-feeding : goal.decreases-feeding
decreases-feeding l = length (offers l.pdcp.tx)
