-- Within a group no life of an unacknowledged flow ends: what it handed up in the lives before stays.
use Rattle.std.proofs.Common.{◌≡◌, ℕ, Bool, true, false, List, [], ◌∷◌, length, Option, Some, None, refl, ap, ◌∙◌}
use Rattle.std.proofs.Common.{if◌then◌else◌}
use Rattle.std.specs.Prelude.{slice_index_or}
use Rattle.l2_types.specs.declared.event.Clock.TheVariants.{Poll, Reorder, Prohibit}
use Rattle.l2_types.specs.declared.event.How.{How}
use Rattle.l2_types.specs.declared.event.How.TheVariants as hows
use Rattle.l2_types.specs.declared.side.Side.{Side}
use Rattle.l2_types.specs.declared.side.Side.TheVariants.{Nb, Ue}
use Rattle.mac_pdu.specs.declared.builder.Sdu.{Sdu}
use Rattle.mac_pdu.specs.declared.item.Direction.{Direction}
use Rattle.mac_pdu.specs.Reading.{reading}
use Rattle.pdcp_pdu.specs.declared.pdu.PdcpKind.TheVariants as pdcp
use Rattle.bearer_types.specs.declared.event.Event.{Event}
use Rattle.bearer_types.specs.declared.event.Event.TheVariants as events
use Rattle.bearer_types.specs.Sides.{other, sender_of}
use Rattle.air_record.specs.declared.record.Record.{Record}
use Rattle.air_record.specs.declared.record.Record.TheVariants as records
use Rattle.air_text.specs.Groups.{Group}
use Rattle.pdu_show.specs.declared.kinds.Layout.{Layout}
use Rattle.pdu_show.specs.declared.kinds.Layout.TheVariants as layouts
use Rattle.promises.specs.Records.{is_got}
use Rattle.journal_account.specs.FlowEvents.{FlowEvent, ReorderStarted, ReorderExpired}
use Rattle.journal_um.specs.declared.pieces.JoinedSdu.{JoinedSdu}
use Rattle.journal_um.specs.UmEvents.{UmEvent}
use Rattle.journal_um.specs.UmEvents as um
use Rattle.journal_um.specs.UmSdus.{handed_before}
use Rattle.journal_flows.specs.declared.parcels.Parcel.{Parcel}
use Rattle.journal_flows.specs.declared.parcels.Parcel.TheVariants.{Octets, Pieces, Report}
use Rattle.journal_flows.specs.declared.sending.Named.{Named}
use Rattle.journal_flows.specs.UmPdus.{AtSender, AtReceiver, LifeEnded, come_in}
use Rattle.journal_flows.specs.NumberedPdus.{AnyEvent, Acked, Unacked, Told, written_as, come_as}
use Rattle.journal_flows.specs.Gathering.{Journal, Sending, Loaded, MayTake, all_told, told_by, taken_as, report_as}
use Rattle.journal_flows.specs.Gathering.{reorder_as, names, sending_of, with_sending, with_flows, behind_event}
use Rattle.journal_flows.specs.Gathering.{parcel_of, loads_parcel, loads, sdus_read, holds, behind_new, resends}
use Rattle.journal_flows.specs.Gathering.{all_come, sent_last, behind_landing}
use Rattle.journal_flows.specs.Gathering.{behind_record, behind_records}
use Rattle.journal_flows.specs.FlowsTold.{Histories, histories, with_told, is_at}

-- ---- one event

abbrev IsLiving : AnyEvent → Type 0
IsLiving (Unacked LifeEnded) = ⊥
IsLiving e = Unit {0}

abbrev AreLiving : List Told → Type 0
AreLiving [] = Unit {0}
AreLiving (t ∷ ts) = IsLiving t.event × AreLiving ts

abbrev pub before : ℕ → Side → ℕ → Histories → List JoinedSdu
before w side l h = handed_before w (come_in (h.unacked side l))

one_keeps : (w : ℕ) (side : Side) (l : ℕ) (t : Told) → IsLiving t.event → (h : Histories)
    → before w side l (with_told t h) ≡ before w side l h
one_keeps w side l t living h = by t.event living
  where
    by : (e : AnyEvent) → IsLiving e
        → before w side l (with_told (record { side = t.side; lcid = t.lcid; event = e }) h) ≡ before w side l h
    by (Acked e) i = refl
    by (Unacked (AtSender e)) i = at (is_at t.side t.lcid side l)
      where
        at : (b : Bool)
            → handed_before w (come_in (if b then AtSender e ∷ h.unacked side l else h.unacked side l))
            ≡ before w side l h
        at true = refl
        at false = refl
    by (Unacked (AtReceiver e)) i = at (is_at t.side t.lcid side l)
      where
        at : (b : Bool)
            → handed_before w (come_in (if b then AtReceiver e ∷ h.unacked side l else h.unacked side l))
            ≡ before w side l h
        at true = refl
        at false = refl
    by (Unacked LifeEnded) i = absurd i

all_keep : (w : ℕ) (side : Side) (l : ℕ) (ts : List Told) → AreLiving ts → (h : Histories)
    → before w side l (all_told histories ts h) ≡ before w side l h
all_keep w side l [] i h = refl
all_keep w side l (t ∷ ts) i h =
    all_keep w side l ts i.1 (with_told t h) ∙ one_keeps w side l t i.0 h

-- ---- what records tell

taken_live : (layout : Option Layout) (side : Side) (lcid : ℕ) (count : Option ℕ) (len : ℕ)
    → AreLiving (taken_as layout side lcid count len)
taken_live None side lcid count len = tt
taken_live (Some layouts.Tm) side lcid count len = tt
taken_live (Some (layouts.Um bits pdcp.Srb)) side lcid count len = tt
taken_live (Some (layouts.Um bits (pdcp.Um n))) side lcid count len = (tt, tt)
taken_live (Some (layouts.Um bits (pdcp.Am n))) side lcid count len = tt
taken_live (Some (layouts.Am pdcp.Srb)) side lcid count len = (tt, tt)
taken_live (Some (layouts.Am (pdcp.Um n))) side lcid count len = (tt, tt)
taken_live (Some (layouts.Am (pdcp.Am n))) side lcid count len = (tt, tt)

report_live : (layout : Option Layout) (side : Side) (lcid len : ℕ) → AreLiving (report_as layout side lcid len)
report_live None side lcid len = tt
report_live (Some layouts.Tm) side lcid len = tt
report_live (Some (layouts.Um bits kind)) side lcid len = tt
report_live (Some (layouts.Am pdcp.Srb)) side lcid len = tt
report_live (Some (layouts.Am (pdcp.Um n))) side lcid len = tt
report_live (Some (layouts.Am (pdcp.Am n))) side lcid len = (tt, tt)

reorder_live : (layout : Option Layout) (side : Side) (lcid : ℕ) (e : FlowEvent) (u : UmEvent)
    → AreLiving (reorder_as layout side lcid e u)
reorder_live None side lcid e u = (tt, tt)
reorder_live (Some layouts.Tm) side lcid e u = (tt, tt)
reorder_live (Some (layouts.Um bits kind)) side lcid e u = (tt, tt)
reorder_live (Some (layouts.Am kind)) side lcid e u = (tt, tt)

told_live : (kinds : List (Option Layout)) (more : Bool) (side : Side) (event : Event)
    → AreLiving (told_by kinds more side event)
told_live kinds more side (events.Take lcid count len) =
    taken_live (slice_index_or kinds lcid None) side lcid count len
told_live kinds more side (events.Report lcid fms bitmap) =
    report_live (slice_index_or kinds lcid None) side lcid (length bitmap)
told_live kinds more side (events.Start lcid Poll) = tt
told_live kinds more side (events.Start lcid Reorder) = reorder_live (slice_index_or kinds lcid None)
    (other side) lcid ReorderStarted um.ReorderStarted
told_live kinds more side (events.Start lcid Prohibit) = tt
told_live kinds more side (events.Expired lcid Poll) = (tt, tt)
told_live kinds more side (events.Expired lcid Reorder) = reorder_live (slice_index_or kinds lcid None)
    (other side) lcid ReorderExpired um.ReorderExpired
told_live kinds more side (events.Expired lcid Prohibit) = tt
told_live kinds more side (events.Send lcid how sn) = tt
told_live kinds more side (events.Wait lcid why) = tt
told_live kinds more side (events.Stop lcid clock) = tt
told_live kinds more side (events.Up lcid octets) = tt
told_live kinds more side (events.Fail lcid sn) = tt
told_live kinds more side (events.Drop lcid why) = tt
told_live kinds more side (events.Integrity lcid found wanted) = tt
told_live kinds more side (events.BadMac fault) = tt
told_live kinds more side (events.BadRlc lcid fault) = tt
told_live kinds more side (events.BadPdcp lcid fault) = tt
told_live kinds more side (events.Discard lcid len) = tt

written_live : (from : Side) (how : How) (p : Parcel) → AreLiving (written_as from how p)
written_live from hows.Tm p = tt
written_live from hows.New (Octets lcid n start end) = (tt, tt)
written_live from hows.New (Pieces lcid n size pieces) = (tt, tt)
written_live from hows.New (Report lcid ack entries) = tt
written_live from hows.Re (Octets lcid n start end) = (tt, tt)
written_live from hows.Re (Pieces lcid n size pieces) = tt
written_live from hows.Re (Report lcid ack entries) = tt
written_live from hows.Status p = tt

come_live : (from : Side) (p : Parcel) → AreLiving (come_as from p)
come_live from (Octets lcid n start end) = (tt, tt)
come_live from (Pieces lcid n size pieces) = (tt, tt)
come_live from (Report lcid ack entries) = (tt, tt)

-- ---- a record

load_keeps : (w : ℕ) (side : Side) (l : ℕ) (from : Side) (how : How) (p : Option Parcel) (b : Loaded Histories)
    → before w side l (loads_parcel histories from how p b).flows ≡ before w side l b.flows
load_keeps w side l from how None b = refl
load_keeps w side l from how (Some p) b =
    all_keep w side l (written_as from how p) (written_live from how p) b.flows

loads_keep : (w : ℕ) (side : Side) (l : ℕ) (kinds : List (Option Layout)) (from : Side) (sent : List Named)
    (sdus : List Sdu) (b : Loaded Histories)
    → before w side l (loads histories kinds from sent sdus b).flows ≡ before w side l b.flows
loads_keep w side l kinds from [] sdus b = refl
loads_keep w side l kinds from (s ∷ sent) [] b = refl
loads_keep w side l kinds from (s ∷ sent) (d ∷ sdus) b =
    loads_keep w side l kinds from sent sdus
    (loads_parcel histories from s.how (parcel_of histories kinds b.flows from s d.octets) b)
    ∙ load_keeps w side l from s.how (parcel_of histories kinds b.flows from s d.octets) b

come_keeps : (w : ℕ) (side : Side) (l : ℕ) (from : Side) (ps : List Parcel) (h : Histories)
    → before w side l (all_come histories from ps h) ≡ before w side l h
come_keeps w side l from [] h = refl
come_keeps w side l from (p ∷ ps) h =
    come_keeps w side l from ps (all_told histories (come_as from p) h)
    ∙ all_keep w side l (come_as from p) (come_live from p) h

sending_keeps : (s : Side) (x : Sending) (j : Journal Histories) → (with_sending s x j).flows ≡ j.flows
sending_keeps Nb x j = refl
sending_keeps Ue x j = refl

event_keeps : (w : ℕ) (side : Side) (l : ℕ) (kinds : List (Option Layout)) (more : Bool) (s : Side) (event : Event)
    (j : Journal Histories)
    → before w side l (behind_event histories kinds more s event j).flows ≡ before w side l j.flows
event_keeps w side l kinds more s (events.Send lcid how sn) j =
    ap (λ (h : Histories). before w side l h)
    (sending_keeps s (names (record { lcid = lcid; how = how }) (sending_of s j)) j)
event_keeps w side l kinds more s (events.Take lcid count len) j = all_keep w side l
    (told_by kinds more s (events.Take lcid count len)) (told_live kinds more s (events.Take lcid count len)) j.flows
event_keeps w side l kinds more s (events.Report lcid fms bitmap) j = all_keep w side l
    (told_by kinds more s (events.Report lcid fms bitmap)) (told_live kinds more s (events.Report lcid fms bitmap))
    j.flows
event_keeps w side l kinds more s (events.Start lcid clock) j = all_keep w side l
    (told_by kinds more s (events.Start lcid clock)) (told_live kinds more s (events.Start lcid clock)) j.flows
event_keeps w side l kinds more s (events.Expired lcid clock) j = all_keep w side l
    (told_by kinds more s (events.Expired lcid clock)) (told_live kinds more s (events.Expired lcid clock)) j.flows
event_keeps w side l kinds more s (events.Wait lcid why) j = refl
event_keeps w side l kinds more s (events.Stop lcid clock) j = refl
event_keeps w side l kinds more s (events.Up lcid octets) j = refl
event_keeps w side l kinds more s (events.Fail lcid sn) j = refl
event_keeps w side l kinds more s (events.Drop lcid why) j = refl
event_keeps w side l kinds more s (events.Integrity lcid found wanted) j = refl
event_keeps w side l kinds more s (events.BadMac fault) j = refl
event_keeps w side l kinds more s (events.BadRlc lcid fault) j = refl
event_keeps w side l kinds more s (events.BadPdcp lcid fault) j = refl
event_keeps w side l kinds more s (events.Discard lcid len) j = refl

new_keeps : (w : ℕ) (side : Side) (l : ℕ) (kinds : List (Option Layout)) (d : Direction) (process : ℕ)
    (octets : List ℕ) (j : Journal Histories)
    → before w side l (behind_new histories kinds d process octets j).flows ≡ before w side l j.flows
new_keeps w side l kinds d process octets j =
    let from = sender_of d in
    let b = loads histories kinds from (sending_of from j).named (sdus_read (reading d octets))
    (record { flows = j.flows; parcels = [] }) in
    ap (λ (h : Histories). before w side l h)
    (sending_keeps from (holds process b.parcels (sending_of from j)) (with_flows b.flows j))
    ∙ loads_keep w side l kinds from (sending_of from j).named (sdus_read (reading d octets))
    (record { flows = j.flows; parcels = [] })

air_keeps : (w : ℕ) (side : Side) (l : ℕ) (got : Bool) (d : Direction) (j : Journal Histories)
    → before w side l (if got then behind_landing histories d j else j).flows ≡ before w side l j.flows
air_keeps w side l true d j = come_keeps w side l (sender_of d) (sent_last (sending_of (sender_of d) j)) j.flows
air_keeps w side l false d j = refl

record_keeps : (w : ℕ) (side : Side) (l : ℕ) (kinds : List (Option Layout)) (more : Bool) (one : Record)
    (j : Journal Histories)
    → before w side l (behind_record histories kinds more one j).flows ≡ before w side l j.flows
record_keeps w side l kinds more (records.Of s event) j = event_keeps w side l kinds more s event j
record_keeps w side l kinds more (records.Block d process true version octets) j =
    new_keeps w side l kinds d process octets j
record_keeps w side l kinds more (records.Block d process false version octets) j =
    ap (λ (h : Histories). before w side l h)
    (sending_keeps (sender_of d) (resends process (sending_of (sender_of d) j)) j)
record_keeps w side l kinds more (records.Air d what heard) j = air_keeps w side l (is_got what) d j
record_keeps w side l kinds more one j = refl

pub records_keep : (w : ℕ) (side : Side) (l : ℕ) (may_take : MayTake) (past : List Group)
    (kinds : List (Option Layout)) (behind told : List Record) (j : Journal Histories)
    → before w side l (behind_records histories may_take past kinds behind told j).flows ≡ before w side l j.flows
records_keep w side l may_take past kinds behind [] j = refl
records_keep w side l may_take past kinds behind (one ∷ told) j =
    records_keep w side l may_take past kinds (one ∷ behind) told
    (behind_record histories kinds (may_take past behind one) one j)
    ∙ record_keeps w side l kinds (may_take past behind one) one j
