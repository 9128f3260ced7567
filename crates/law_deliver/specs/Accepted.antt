-- What PDCP doesn't refuse (TS 36.323 5.1.1).
use Rattle.std.specs.Prelude.{◌≡◌, None}
use Rattle.pdcp_tx.specs.State.{State as Sending, refusal}
use Rattle.law_bearer.specs.AnyBearer.Calls.{Call, Submit, Take, Arrive, Expire, Tick, SetDiscard}

-- a call of a bearer with such a sender
abbrev pub IsAccepted : Sending → Call → Type 0
IsAccepted s (Submit sdu) = refusal s sdu ≡ None
IsAccepted s (Take share held) = Unit {0}
IsAccepted s (Arrive pdu) = Unit {0}
IsAccepted s (Expire clock) = Unit {0}
IsAccepted s Tick = Unit {0}
IsAccepted s (SetDiscard ttis) = Unit {0}
