-- How far above the first unconfirmed COUNT a sender goes (TS 36.323 5.9).
use Rattle.std.specs.Prelude.{◌≡◌, ◌+◌, false, true}
use Rattle.pdcp_tx.specs.Pdus.{width}
use Rattle.pdcp_tx.specs.State.{State, low}
use Rattle.pdcp_tx.specs.Runs.{Call, after}

-- once RLC has acknowledged the own status report, the bound lies half the sequence numbers above
-- the first unconfirmed COUNT
abbrev pub IsBounded : State → Type 0
IsBounded s = s.reporting ≡ false → s.bound ≡ low s + width s.kind

-- a call before and after which it isn't acknowledged leaves the bound where it is
abbrev pub StandsStill : State → Call → Type 0
StandsStill s c = s.reporting ≡ true → (after s c).reporting ≡ true → (after s c).bound ≡ s.bound
