-- What a call of a sender gives RLC (TS 36.323 5.1.1, 5.1.2.1.1).
use Rattle.std.specs.Prelude.{List, [], ◌∷◌, Option, Some, None}
use Rattle.pdcp_tx.specs.declared.sender.Next.{Next}
use Rattle.pdcp_tx.specs.State.{State, taking}
use Rattle.pdcp_tx.specs.Runs.{Call, Submit, Take, Confirm, Report, Owe, Tick, Late}

abbrev pub nexts_of : Option Next → List Next
nexts_of None = []
nexts_of (Some pdu) = pdu ∷ []

abbrev pub pdus_given : State → Call → List Next
pdus_given s (Submit sdu) = []
pdus_given s Take = nexts_of (taking s)
pdus_given s (Confirm place) = []
pdus_given s (Report fms bitmap) = []
pdus_given s (Owe report) = []
pdus_given s Tick = []
pdus_given s Late = []
