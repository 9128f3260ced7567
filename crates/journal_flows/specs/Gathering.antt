-- How the events of acknowledged and unacknowledged flows are gathered from the records of a
-- journal (docs/formats/JOURNAL.md; TS 36.321 5.3.2, 5.4.2, TS 36.322 5.1.2, 5.1.3, 5.2, 5.4).
-- `send` records are bound to the PDUs of the next new block of their side; a block that is got
-- lands the PDUs of the block that its process holds. What is gathered of flows is their histories,
-- or the accounts that a program keeps: the steps are the same.
use Rattle.std.specs.Prelude.{ℕ, ◌+◌, ◌==◌, Bool, true, false, if◌then◌else◌, List, [], ◌∷◌}
use Rattle.std.specs.Prelude.{◌++◌, length, replicate, Option, Some, None, Result, Ok, Err}
use Rattle.std.specs.Prelude.{slice_index_or, slice_set, unwrap_or}
use Rattle.l2_types.specs.declared.event.Clock.TheVariants.{Poll, Reorder}
use Rattle.l2_types.specs.declared.event.How.{How}
use Rattle.l2_types.specs.declared.side.Side.{Side}
use Rattle.l2_types.specs.declared.side.Side.TheVariants.{Nb, Ue}
use Rattle.mac_pdu.specs.declared.builder.Sdu.{Sdu}
use Rattle.mac_pdu.specs.declared.fault.MacRefusal.{MacRefusal}
use Rattle.mac_pdu.specs.declared.item.Direction.{Direction}
use Rattle.mac_pdu.specs.Items.{MacItem}
use Rattle.mac_pdu.specs.Reading.{reading}
use Rattle.rlc_pdu.specs.Reading.{am_at, umd_at}
use Rattle.pdcp_pdu.specs.declared.pdu.PdcpKind.TheVariants as pdcp
use Rattle.bearer_types.specs.declared.config.BearerConfig.{BearerConfig}
use Rattle.bearer_types.specs.declared.event.Event.{Event}
use Rattle.bearer_types.specs.declared.event.Event.TheVariants as events
use Rattle.bearer_types.specs.Sides.{other, sender_of}
use Rattle.air_record.specs.declared.line.Line.{Line}
use Rattle.air_record.specs.declared.line.Line.TheVariants as lines
use Rattle.air_record.specs.declared.record.Record.{Record}
use Rattle.air_record.specs.declared.record.Record.TheVariants as records
use Rattle.air_text.specs.Groups.{Group}
use Rattle.pdu_show.specs.declared.kinds.Layout.{Layout}
use Rattle.pdu_show.specs.declared.kinds.Layout.TheVariants as layouts
use Rattle.promises.specs.Blocks.{kinds}
use Rattle.promises.specs.Records.{is_got}
use Rattle.journal_account.specs.FlowEvents.{FlowEvent, SduTaken, ReorderStarted, ReorderExpired}
use Rattle.journal_account.specs.FlowEvents.{PollExpired}
use Rattle.journal_lives.specs.LifeEvents.{PduGiven}
use Rattle.journal_um.specs.UmEvents.{UmEvent}
use Rattle.journal_um.specs.UmEvents as um
use Rattle.promises.specs.RightForm.{sdus_in}
use Rattle.journal_flows.specs.declared.parcels.Parcel.{Parcel}
use Rattle.journal_flows.specs.declared.sending.Named.{Named}
use Rattle.journal_flows.specs.UmPdus.{AtSender, AtReceiver, um_parcel_by}
use Rattle.journal_flows.specs.NumberedPdus.{Told, told, told_in, um_told, parcel_by, written_as}
use Rattle.journal_flows.specs.NumberedPdus.{come_as}

-- what gathers the events of flows: by the side that sends and the channel, in the life that runs,
-- VT(S) and VR(R) of an acknowledged flow, and of an unacknowledged one the number that is written
-- next and the place of its first SDU; and what an event does, a bearer that begins, and the end of
-- a life of each
pub record Gatherer (F : Type 0) : Type 0 where
  pub next : Side → ℕ → F → ℕ
  pub front : Side → ℕ → F → ℕ
  pub um_next : Side → ℕ → F → ℕ
  pub um_place : Side → ℕ → F → ℕ
  pub tells : Told → F → F
  pub begins : BearerConfig → F → F
  pub ends : F → F

abbrev pub all_told : {F : Type 0} → Gatherer F → List Told → F → F
all_told g [] flows = flows
all_told g (t ∷ ts) flows = all_told g ts (g.tells t flows)

-- ---- what is gathered

-- of a side that sends: what its `send` records name behind its last new block, the PDUs that each
-- of the 8 HARQ processes holds, and the process of the block that was sent last
pub record Sending : Type 0 where
  pub named : List Named
  pub held : List (Option (List Parcel))
  pub process : ℕ

abbrev pub nothing_sent : Sending
nothing_sent = record { named = []; held = replicate 8 None; process = 0 }

pub record Journal (F : Type 0) : Type 0 where
  pub flows : F
  pub nb : Sending
  pub ue : Sending

abbrev pub sending_of : {F : Type 0} → Side → Journal F → Sending
sending_of Nb j = j.nb
sending_of Ue j = j.ue

abbrev pub with_flows : {F : Type 0} → F → Journal F → Journal F
with_flows flows j = record { flows = flows; nb = j.nb; ue = j.ue }

abbrev pub with_sending : {F : Type 0} → Side → Sending → Journal F → Journal F
with_sending Nb s j = record { flows = j.flows; nb = s; ue = j.ue }
with_sending Ue s j = record { flows = j.flows; nb = j.nb; ue = s }

-- ---- an event of an end

-- the PDU of PDCP that RLC takes: its SDU with a header of 2 octets, of 1 with numbers of 7 bits,
-- or of 1 and a MAC-I of 4 on a signalling bearer, whose COUNTs begin anew in each life (TS 36.323
-- 6.2.2, 6.2.3)
abbrev pub taken_as : Option Layout → Side → ℕ → Option ℕ → ℕ → List Told
taken_as (Some (layouts.Am pdcp.Srb)) side lcid count len =
    told side lcid (PduGiven None (len + 5))
taken_as (Some (layouts.Am kind)) side lcid count len =
    told side lcid (PduGiven count (len + 2))
taken_as (Some (layouts.Um rlc_bits (pdcp.Um bits))) side lcid count len =
    um_told side lcid (AtSender (SduTaken (len + (if bits == 7 then 1 else 2))))
taken_as layout side lcid count len = []

-- a status report has a header of 2 octets, or of 3 where numbers have 15 bits (TS 36.323 6.2.6)
abbrev pub report_as : Option Layout → Side → ℕ → ℕ → List Told
report_as (Some (layouts.Am (pdcp.Am bits))) side lcid len =
    told side lcid (PduGiven None ((if bits == 12 then 2 else 3) + len))
report_as layout side lcid len = []

-- what t-Reordering tells, by the kind of its bearer
abbrev pub reorder_as : Option Layout → Side → ℕ → FlowEvent → UmEvent → List Told
reorder_as (Some (layouts.Um rlc_bits kind)) side lcid e um = um_told side lcid (AtReceiver um)
reorder_as layout side lcid e um = told_in side lcid e

-- t-Reordering is of the flow that comes, t-PollRetransmit of the one that goes; `more`: an SDU may
-- be taken as that expires
abbrev pub told_by : List (Option Layout) → Bool → Side → Event → List Told
told_by kinds more side (events.Take lcid count len) =
    taken_as (slice_index_or kinds lcid None) side lcid count len
told_by kinds more side (events.Report lcid fms bitmap) =
    report_as (slice_index_or kinds lcid None) side lcid (length bitmap)
told_by kinds more side (events.Start lcid Reorder) =
    reorder_as (slice_index_or kinds lcid None) (other side) lcid ReorderStarted um.ReorderStarted
told_by kinds more side (events.Expired lcid Reorder) =
    reorder_as (slice_index_or kinds lcid None) (other side) lcid ReorderExpired um.ReorderExpired
told_by kinds more side (events.Expired lcid Poll) = told_in side lcid (PollExpired more)
told_by kinds more side event = []

abbrev pub names : Named → Sending → Sending
names s x = record { named = x.named ++ s ∷ []; held = x.held; process = x.process }

abbrev pub behind_event : {F : Type 0} → Gatherer F → List (Option Layout) → Bool → Side → Event
    → Journal F → Journal F
behind_event g kinds more side (events.Send lcid how sn) j =
    with_sending side (names (record { lcid = lcid; how = how }) (sending_of side j)) j
behind_event g kinds more side event j =
    with_flows (all_told g (told_by kinds more side event) j.flows) j

-- ---- a new block: PDU by PDU, each by what those before it told

pub record Loaded (F : Type 0) : Type 0 where
  pub flows : F
  pub parcels : List Parcel

abbrev pub parcel_in : {F : Type 0} → Gatherer F → Option Layout → F → Side → Named → List ℕ
    → Option Parcel
parcel_in g (Some (layouts.Am kind)) flows from s octets =
    parcel_by (g.next from s.lcid flows) (g.front (other from) s.lcid flows) s.lcid s.how
    (am_at octets)
parcel_in g (Some (layouts.Um rlc_bits kind)) flows from s octets =
    um_parcel_by (g.um_next from s.lcid flows) (g.um_place from s.lcid flows) s.lcid s.how
    (umd_at rlc_bits octets)
parcel_in g layout flows from s octets = None

abbrev pub parcel_of : {F : Type 0} → Gatherer F → List (Option Layout) → F → Side → Named
    → List ℕ → Option Parcel
parcel_of g kinds flows from s octets =
    parcel_in g (slice_index_or kinds s.lcid None) flows from s octets

abbrev pub loads_parcel : {F : Type 0} → Gatherer F → Side → How → Option Parcel → Loaded F
    → Loaded F
loads_parcel g from how None b = b
loads_parcel g from how (Some p) b = record {
  flows = all_told g (written_as from how p) b.flows;
  parcels = b.parcels ++ p ∷ [];
}

abbrev pub loads : {F : Type 0} → Gatherer F → List (Option Layout) → Side → List Named
    → List Sdu → Loaded F → Loaded F
loads g kinds from (s ∷ sent) (d ∷ sdus) b =
    loads g kinds from sent sdus
    (loads_parcel g from s.how (parcel_of g kinds b.flows from s d.octets) b)
loads g kinds from sent sdus b = b

abbrev pub sdus_read : Result (List MacItem) MacRefusal → List Sdu
sdus_read (Ok items) = sdus_in items
sdus_read (Err refusal) = []

abbrev pub holds : ℕ → List Parcel → Sending → Sending
holds process parcels x =
    record { named = []; held = slice_set x.held process (Some parcels); process = process }

abbrev pub with_loaded : {F : Type 0} → Side → ℕ → Loaded F → Journal F → Journal F
with_loaded from process b j =
    with_sending from (holds process b.parcels (sending_of from j)) (with_flows b.flows j)

abbrev pub behind_new : {F : Type 0} → Gatherer F → List (Option Layout) → Direction → ℕ → List ℕ
    → Journal F → Journal F
behind_new g kinds direction process octets j =
    let from = sender_of direction in
    with_loaded from process
    (loads g kinds from (sending_of from j).named (sdus_read (reading direction octets))
    (record { flows = j.flows; parcels = [] })) j

-- ---- a block that is sent again, and one that is got

abbrev pub resends : ℕ → Sending → Sending
resends process x = record { named = x.named; held = x.held; process = process }

abbrev pub behind_again : {F : Type 0} → Direction → ℕ → Journal F → Journal F
behind_again direction process j =
    let from = sender_of direction in
    with_sending from (resends process (sending_of from j)) j

abbrev pub all_come : {F : Type 0} → Gatherer F → Side → List Parcel → F → F
all_come g from [] flows = flows
all_come g from (p ∷ ps) flows = all_come g from ps (all_told g (come_as from p) flows)

abbrev pub sent_last : Sending → List Parcel
sent_last x = unwrap_or (slice_index_or x.held x.process None) []

abbrev pub behind_landing : {F : Type 0} → Gatherer F → Direction → Journal F → Journal F
behind_landing g direction j =
    let from = sender_of direction in
    with_flows (all_come g from (sent_last (sending_of from j)) j.flows) j

-- ---- a record

abbrev pub behind_record : {F : Type 0} → Gatherer F → List (Option Layout) → Bool → Record
    → Journal F → Journal F
behind_record g kinds more (records.Of side event) j = behind_event g kinds more side event j
behind_record g kinds more (records.Block direction process true version octets) j =
    behind_new g kinds direction process octets j
behind_record g kinds more (records.Block direction process false version octets) j =
    behind_again direction process j
behind_record g kinds more (records.Air direction what heard) j =
    if is_got what then behind_landing g direction j else j
behind_record g kinds more one j = j

-- ---- a line, as its group begins and as it ends

abbrev pub behind_line : {F : Type 0} → Gatherer F → Line → Journal F → Journal F
behind_line g (lines.Bearer config options) j = with_flows (g.begins config j.flows) j
behind_line g line j = j

abbrev pub is_handover : Line → Bool
is_handover (lines.Handover user rrc integrity) = true
is_handover line = false

-- a handover ends a life of each flow, and renews the processes
abbrev pub behind_end : {F : Type 0} → Gatherer F → Bool → Journal F → Journal F
behind_end g true j = record { flows = g.ends j.flows; nb = nothing_sent; ue = nothing_sent }
behind_end g false j = j

-- ---- groups, of which the newest stands first

-- an SDU may be taken as t-PollRetransmit expires by a record: behind groups, and behind records of
-- the group that follows, of which the latest stands first
abbrev pub MayTake : Type 0
MayTake = List Group → List Record → Record → Bool

abbrev pub behind_records : {F : Type 0} → Gatherer F → MayTake → List Group
    → List (Option Layout) → List Record → List Record → Journal F → Journal F
behind_records g may_take past kinds' before [] j = j
behind_records g may_take past kinds' before (one ∷ told) j =
    behind_records g may_take past kinds' (one ∷ before) told
    (behind_record g kinds' (may_take past before one) one j)

-- behind the records of the newest group, and behind its end
abbrev pub within : {F : Type 0} → Gatherer F → MayTake → Group → List Group → Journal F
    → Journal F
within g may_take now past j =
    behind_records g may_take past (kinds (now ∷ past)) [] now.events (behind_line g now.line j)

abbrev pub behind : {F : Type 0} → Gatherer F → F → MayTake → List Group → Journal F
behind g none may_take [] = record { flows = none; nb = nothing_sent; ue = nothing_sent }
behind g none may_take (now ∷ past) =
    behind_end g (is_handover now.line) (within g may_take now past (behind g none may_take past))
