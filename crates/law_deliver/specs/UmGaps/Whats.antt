-- What the steps of two ends are to the losses of an unacknowledged flow, from a side to the other:
-- the PDUs that its sender writes, those that arrive, and where the reordering timer of its
-- receiver expires (TS 36.322 5.1.2).
use Rattle.std.specs.Prelude.{ℕ, ◌%◌, ◌==◌, if◌then◌else◌, List, [], ◌∷◌, ◌++◌, length, Option}
use Rattle.std.specs.Prelude.{Some, None, Result, Ok, Err, slice_get}
use Rattle.std.specs.List.{flat_map}
use Rattle.bearer_types.specs.declared.event.Event.{Event}
use Rattle.bearer_types.specs.declared.event.Event.TheVariants as events
use Rattle.law_deliver.specs.AmChannel.Lives.{AirStep, InLife, Moves, lives_on}
use Rattle.law_deliver.specs.AmFlow.Air.{Block, Station, Air, Act, Calls, Comes, Goes, AtNb, AtUe}
use Rattle.law_deliver.specs.AmFlow.Air.{Passes}
use Rattle.promises.specs.Pdus.{carried}
use Rattle.harq.specs.declared.sender.Visit.{Visit}
use Rattle.harq.specs.declared.sender.Visit.TheVariants.{New, Resend, Silent}
use Rattle.l2_node.specs.Building.{visit, visited}
use Rattle.l2_node.specs.End.{End}
use Rattle.bearer_types.specs.Sides.{sent_by}
use Rattle.l2_node.specs.Writing.{new_block}
use Rattle.l2_types.specs.declared.event.Clock.{Clock}
use Rattle.l2_types.specs.declared.event.Clock.TheVariants.{Poll, Reorder, Prohibit}
use Rattle.l2_types.specs.declared.side.Side.{Side}
use Rattle.l2_types.specs.declared.side.Side.TheVariants.{Nb, Ue}
use Rattle.mac_pdu.specs.declared.item.Direction.{Direction}
use Rattle.law_node.specs.Calls.{Turn, Call, Visits, Receive, Move}
use Rattle.law_node.specs.Telling.{told_of}
use Rattle.rlc_pdu.specs.declared.fault.RlcRefusal.{RlcRefusal}
use Rattle.rlc_pdu.specs.Pdus.{UmdPdu}
use Rattle.rlc_pdu.specs.Reading.{umd_at}
use Rattle.um_losses.specs.declared.pdu.Pdu.{Pdu}
use Rattle.um_losses.specs.declared.flow.Happening.{Happening}
use Rattle.um_losses.specs.declared.flow.Happening.TheVariants.{BlockRenewed, PduWritten}
use Rattle.um_losses.specs.declared.flow.Happening.TheVariants.{BlockArrived, TimerExpired}
use Rattle.um_losses.specs.declared.flow.Happening.TheVariants.{LifeRestarted}

-- a PDU as records show it
abbrev pub fields : UmdPdu → Pdu
fields p = record { sn = p.sn; fi = p.fi; elements = length p.elements }

-- ---- at the side that sends

abbrev pub as_written : ℕ → Result UmdPdu RlcRefusal → List Happening
as_written process (Ok pdu) = PduWritten process (fields pdu) ∷ []
as_written process (Err refused) = []

-- a new block of a process carries PDUs of the channel
abbrev pub written : ℕ → ℕ → List (List ℕ) → List Happening
written bits process [] = []
written bits process (pdu ∷ pdus) =
    as_written process (umd_at bits pdu) ++ written bits process pdus

abbrev pub built : ℕ → ℕ → Direction → Visit → Turn → End → List Happening
built l bits d New t e =
    BlockRenewed (t.tti % 8) ∷ written bits (t.tti % 8) (carried l d (new_block e t.grant))
built l bits d (Resend rv) t e = []
built l bits d Silent t e = []

abbrev pub sent_in : Side → ℕ → ℕ → End → Call → List Happening
sent_in side l bits e (Visits t) =
    built l bits (sent_by side) (visit t.tti t.order e) t (visited t.tti t.order e)
sent_in side l bits e c = []

abbrev pub sends : Side → ℕ → ℕ → End → Act → List Happening
sends side l bits e (Calls c) = sent_in side l bits e c
sends side l bits e (Comes k) = []
sends side l bits e (Goes k) = []

-- ---- at the side that hears

abbrev pub timed_out : Clock → List Happening
timed_out Poll = []
timed_out Reorder = TimerExpired ∷ []
timed_out Prohibit = []

abbrev pub expiry_in : ℕ → Event → List Happening
expiry_in l (events.Expired lcid clock) = if lcid == l then timed_out clock else []
expiry_in l event = []

-- the reordering timer of the channel expires, as the end tells
abbrev pub expiries : ℕ → List Event → List Happening
expiries l told = flat_map (expiry_in l) told

abbrev pub brought : ℕ → End → Option Block → List Happening
brought l e None = []
brought l e (Some b) = BlockArrived b.process ∷ expiries l (told_of e (Receive b.octets))

abbrev pub hears : ℕ → Station → End → Act → List Happening
hears l other e (Calls c) = expiries l (told_of e c)
hears l other e (Comes k) = brought l e (slice_get other.blocks k)
hears l other e (Goes k) = []

-- ---- from a side to the other

abbrev pub whats_in : Side → ℕ → ℕ → Air → AirStep → List Happening
whats_in Nb l bits a (InLife (AtNb x)) = sends Nb l bits a.nb.end x
whats_in Nb l bits a (InLife (AtUe x)) = hears l a.nb a.ue.end x
whats_in Nb l bits a (InLife Passes) = []
whats_in Nb l bits a (Moves keys) = LifeRestarted ∷ expiries l (told_of a.ue.end (Move keys))
whats_in Ue l bits a (InLife (AtNb x)) = hears l a.ue a.nb.end x
whats_in Ue l bits a (InLife (AtUe x)) = sends Ue l bits a.ue.end x
whats_in Ue l bits a (InLife Passes) = []
whats_in Ue l bits a (Moves keys) = LifeRestarted ∷ expiries l (told_of a.nb.end (Move keys))

abbrev pub whats : Side → ℕ → ℕ → List AirStep → Air → List Happening
whats side l bits [] a = []
whats side l bits (x ∷ xs) a = whats_in side l bits a x ++ whats side l bits xs (lives_on a x)
