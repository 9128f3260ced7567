-- How RLC's answers are told (docs/formats/JOURNAL.md).
use Rattle.std.specs.Prelude.{ℕ, Bool, if◌then◌else◌, List, [], ◌∷◌, ◌++◌, Option, Some, None}
use Rattle.bearer_types.specs.declared.Event.{Event}
use Rattle.bearer_types.specs.declared.Event.TheVariants as events
use Rattle.l2_types.specs.declared.Clock.{Clock}
use Rattle.l2_types.specs.declared.Clock.TheVariants.{Reorder}
use Rattle.l2_types.specs.declared.Lost.TheVariants as lost
use Rattle.rlc_pdu.specs.declared.Landed.{Landed}
use Rattle.rlc_pdu.specs.declared.Landed.TheVariants.{Kept, Repeat, Outside, Clash}
use Rattle.rlc_pdu.specs.declared.Turned.{Turned}
use Rattle.rlc_pdu.specs.declared.Taken.{Taken}
use Rattle.rlc_pdu.specs.declared.Taken.TheVariants.{Piece, Idle, Small, Shut, Held, Stopped}

-- an arrival stops the reordering timer, and then starts it
abbrev pub turned_told : ℕ → Turned → List Event
turned_told lcid t = (if t.stopped then events.Stop lcid Reorder ∷ [] else [])
    ++ (if t.started then events.Start lcid Reorder ∷ [] else [])

-- a data PDU is kept, or dropped
abbrev pub landed_told : ℕ → Landed → Turned → List Event
landed_told lcid Kept t = turned_told lcid t
landed_told lcid Repeat t = events.Drop lcid lost.Repeat ∷ []
landed_told lcid Outside t = events.Drop lcid lost.Outside ∷ []
landed_told lcid Clash t = events.Drop lcid lost.Clash ∷ []

-- a timer expires, and starts again or not
abbrev pub expired_told : ℕ → Clock → Bool → List Event
expired_told lcid clock again =
    events.Expired lcid clock ∷ (if again then events.Start lcid clock ∷ [] else [])

-- the PDU of a sender's answer, and its number
abbrev pub pdus_of : Taken → List (List ℕ)
pdus_of (Piece number fresh polled octets) = octets ∷ []
pdus_of Idle = []
pdus_of Small = []
pdus_of Shut = []
pdus_of Held = []
pdus_of Stopped = []

abbrev pub number_of : Taken → Option ℕ
number_of (Piece number fresh polled octets) = Some number
number_of Idle = None
number_of Small = None
number_of Shut = None
number_of Held = None
number_of Stopped = None
