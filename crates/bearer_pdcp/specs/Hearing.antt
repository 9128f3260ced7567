-- RLC hands up a PDU: what it tells, and what it leaves.
use Rattle.std.specs.Prelude.{ℕ, Bool, true, false, ◌&&◌, if◌then◌else◌, List, [], ◌∷◌, map}
use Rattle.std.specs.Prelude.{is_some}
use Rattle.bearer_types.specs.declared.Event.{Event}
use Rattle.bearer_types.specs.declared.Event.TheVariants as events
use Rattle.l2_types.specs.declared.Lost.TheVariants as lost
use Rattle.pdcp_pdu.specs.Kinds.{is_am}
use Rattle.pdcp_rx.specs.declared.Cause.{Cause}
use Rattle.pdcp_rx.specs.declared.Cause.TheVariants.{Arrived, Reestablished}
use Rattle.pdcp_rx.specs.declared.Got.{Got}
use Rattle.pdcp_rx.specs.declared.Got.TheVariants as got_as
use Rattle.pdcp_rx.specs.State.{got, arrived}
use Rattle.pdcp_tx.specs.State.{fms_count, reported}
use Rattle.bearer_pdcp.specs.Ends.{Ends}

abbrev pub is_arrived : Cause → Bool
is_arrived Arrived = true
is_arrived Reestablished = false

-- a status report is for the sender where it arrived on an acknowledged data bearer (TS 36.323
-- 5.3.2)
abbrev pub is_for_sender : Ends → Cause → Bool
is_for_sender e cause = is_am e.kind && is_arrived cause

-- it is applied where a COUNT fits its FMS too
abbrev pub is_applied : Ends → Cause → ℕ → Bool
is_applied e cause fms = is_for_sender e cause && is_some (fms_count e.tx.kind e.tx.base fms)

-- SDUs are handed up
abbrev pub ups : ℕ → List (List ℕ) → List Event
ups lcid sdus = map (λ sdu. events.Up lcid sdu) sdus

abbrev pub handed : Ends → Ends
handed e = record e { rx = record e.rx { ready = [] } }

-- what the receiver's answer tells
abbrev pub got_told : Got → Cause → Ends → List Event
got_told got_as.Up cause e = ups e.lcid e.rx.ready
got_told got_as.Stored cause e = ups e.lcid e.rx.ready
got_told got_as.Old cause e = events.Drop e.lcid lost.Old ∷ []
got_told got_as.OutOfRange cause e = events.Drop e.lcid lost.Range ∷ []
got_told (got_as.Integrity found wanted) cause e = events.Integrity e.lcid found wanted ∷ []
got_told (got_as.Report fms bitmap) cause e =
    if is_applied e cause fms then [] else events.Drop e.lcid lost.Report ∷ []
got_told (got_as.Unreadable fault) cause e = events.BadPdcp e.lcid fault ∷ []

abbrev pub got_left : Got → Cause → Ends → Ends
got_left got_as.Up cause e = handed e
got_left got_as.Stored cause e = handed e
got_left got_as.Old cause e = e
got_left got_as.OutOfRange cause e = e
got_left (got_as.Integrity found wanted) cause e = e
got_left (got_as.Report fms bitmap) cause e =
    if is_for_sender e cause then record e { tx = reported e.tx fms bitmap } else e
got_left (got_as.Unreadable fault) cause e = e

abbrev pub got_applied : Got → Cause → Ends → Bool
got_applied got_as.Up cause e = false
got_applied got_as.Stored cause e = false
got_applied got_as.Old cause e = false
got_applied got_as.OutOfRange cause e = false
got_applied (got_as.Integrity found wanted) cause e = false
got_applied (got_as.Report fms bitmap) cause e = is_applied e cause fms
got_applied (got_as.Unreadable fault) cause e = false

abbrev pub with_arrived : List ℕ → Cause → Ends → Ends
with_arrived pdu cause e = record e { rx = arrived e.rx pdu cause }

-- a PDU of RLC: what it tells, what it leaves, and whether it is a report that is applied
unfoldable pub heard_told : List ℕ → Cause → Ends → List Event
heard_told pdu cause e = got_told (got e.rx pdu cause) cause (with_arrived pdu cause e)

unfoldable pub after_hearing : List ℕ → Cause → Ends → Ends
after_hearing pdu cause e = got_left (got e.rx pdu cause) cause (with_arrived pdu cause e)

unfoldable pub applies : List ℕ → Cause → Ends → Bool
applies pdu cause e = got_applied (got e.rx pdu cause) cause (with_arrived pdu cause e)
