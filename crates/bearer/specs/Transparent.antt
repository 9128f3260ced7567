-- The transparent bearer at one end: each SDU is a PDU of RLC (TS 36.322 5.1.1); PDCP is left out.
use Rattle.std.specs.Prelude.{ℕ, ◌==◌, if◌then◌else◌, List, [], ◌∷◌, length, None}
use Rattle.bearer_types.specs.declared.Event.{Event}
use Rattle.bearer_types.specs.declared.Event.TheVariants as events
use Rattle.l2_types.specs.declared.How.TheVariants as how
use Rattle.l2_types.specs.declared.Waits.TheVariants as waits
use Rattle.rlc_pdu.specs.declared.Taken.{Taken}
use Rattle.rlc_pdu.specs.declared.Taken.TheVariants.{Piece, Idle, Small, Shut, Held, Stopped}
use Rattle.rlc_pdu.specs.declared.RlcWhy.TheVariants.{Short}

-- it has no COUNT and no number
abbrev pub data_told : ℕ → Taken → List Event
data_told lcid (Piece number first polled octets) =
    events.Take lcid None (length octets) ∷ events.Send lcid how.Tm 0 ∷ []
data_told lcid Idle = []
data_told lcid Small = events.Wait lcid waits.Small ∷ []
data_told lcid Shut = events.Wait lcid waits.Shut ∷ []
data_told lcid Held = events.Wait lcid waits.Held ∷ []
data_told lcid Stopped = events.Wait lcid waits.Stopped ∷ []

-- a PDU without octets can't be read
abbrev pub arrived_told : ℕ → List ℕ → List Event
arrived_told lcid pdu = if length pdu == 0
    then events.BadRlc lcid (record { at = 0; why = Short }) ∷ [] else events.Up lcid pdu ∷ []
