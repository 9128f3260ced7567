-- When the PDUs that a journal sends are right, whoever made it (TS 36.322 5.1.1.1, 5.1.2.1.1,
-- 5.1.3.1.1, 5.2.1, TS 36.323 5.1.1, 5.6, 5.7; docs/formats/JOURNAL.md). RLC takes the SDUs of each
-- bearer in their order; each new PDU carries the next octets of the PDUs that PDCP gives RLC of
-- them, and each that is sent again carries octets of its number, which isn't acknowledged. Framing
-- info, LIs, SNs and LSFs say where these octets stand. How large a PDU is isn't judged.
use Rattle.std.specs.Prelude.{◌≡◌, ℕ, ◌+◌, ◌<◌, ◌≤◌, ◌^◌, ◌%◌, ◌↔◌, Bool, true, IsTrue, List, []}
use Rattle.std.specs.Prelude.{◌∷◌, length, Option, Some, None, IfSome, Result, Ok}
use Rattle.std.specs.Prelude.{slice_index_or, is_none}
use Rattle.std.specs.List.{concat}
use Rattle.l2_types.specs.declared.event.How.{How}
use Rattle.l2_types.specs.declared.event.How.TheVariants as hows
use Rattle.l2_types.specs.declared.limits.TheConstants.{GREATEST_SDU}
use Rattle.l2_types.specs.declared.side.Side.{Side}
use Rattle.mac_pdu.specs.declared.builder.Sdu.{Sdu}
use Rattle.mac_pdu.specs.declared.item.Direction.{Direction}
use Rattle.mac_pdu.specs.Reading.{reading}
use Rattle.rlc_pdu.specs.declared.constants.TheConstants.{AM_MODULUS}
use Rattle.rlc_pdu.specs.declared.fault.RlcRefusal.{RlcRefusal}
use Rattle.rlc_pdu.specs.declared.pdu.Segment.{Segment}
use Rattle.rlc_pdu.specs.Pdus.{UmdPdu, AmdPdu, AcknowledgedPdu, Payload}
use Rattle.rlc_pdu.specs.Reading.{am_at, umd_at}
use Rattle.rlc_am_rx_window.specs.Piece.{so_of}
use Rattle.pdcp_pdu.specs.declared.pdu.PdcpKind.TheVariants as pdcp
use Rattle.bearer_types.specs.declared.event.Event.{Event}
use Rattle.bearer_types.specs.declared.event.Event.TheVariants as events
use Rattle.bearer_types.specs.Sides.{sender_of}
use Rattle.air_record.specs.declared.record.Record.{Record}
use Rattle.air_record.specs.declared.record.Record.TheVariants as records
use Rattle.air_text.specs.Groups.{Group}
use Rattle.pdu_show.specs.declared.kinds.Layout.{Layout}
use Rattle.pdu_show.specs.declared.kinds.Layout.TheVariants as layouts
use Rattle.law_words.specs.Passing.{last_with}
use Rattle.journal_stream.specs.OctetEvents.{OctetEvent, fields, AreNext, AreOf}
use Rattle.journal_flows.specs.Gathering.{sdus_read}
use Rattle.journal_given.specs.Supplies as given
use Rattle.journal_given.specs.Giving.{Giving, all_given}
use Rattle.journal_given.specs.Giving as giving
use Rattle.journal_sent.specs.declared.checker.NamedPdu.{NamedPdu}
use Rattle.journal_sent.specs.SentPdus.{Stream, histories}
use Rattle.journal_sent.specs.SentFlows.{SentFlow, Cover, is_data, marks_in, is_open_in}
use Rattle.journal_sent.specs.SentFlows.{flow_judges}
use Rattle.journal_sent.specs.Sending.{Flows, Sending, flow_at, changed_on, flows_of, is_known}
use Rattle.journal_sent.specs.Sending.{has_bearer, lcid_in, sdu_of, named_of, acked_at, after_line}
use Rattle.journal_sent.specs.Sending.{settled, after_record, all_sending}

-- the octets of a life, and their marks, by what happened to them
abbrev pub Sent : Type 0
Sent = Stream (List OctetEvent)

abbrev pub field_of : ℕ → List OctetEvent → List ℕ
field_of n es = slice_index_or (fields es) n []

-- ---- a new PDU

-- it is no segment, and carries the octets that come next
pub record NewIsSent (plain : Bool) (field : List ℕ) (s : Sent) : Type 0 where
  pub whole : plain ≡ true
  pub next : AreNext s.octets field

-- its SN is that of the next number, and its framing info and LIs say which of the octets begin and
-- end SDUs
pub record NewIsShaped (modulus sn : ℕ) (marks : List ℕ) (s : Sent) : Type 0 where
  pub number : sn ≡ length (fields s.octets) % modulus
  pub next : AreNext s.marks marks

-- ---- a PDU that is sent again, or a segment of one: of the last number that has its SN, where
-- that isn't acknowledged

-- what is no segment is all of the field
abbrev pub IsWhole : Option Segment → List ℕ → List ℕ → Type 0
IsWhole None own field = length own ≡ length field
IsWhole (Some s) own field = Unit {0}

pub record NumberIsSent (is_open : ℕ → Bool) (n sn : ℕ) (segment : Option Segment)
    (field : List ℕ) (s : Sent) : Type 0 where
  pub written : n < length (fields s.octets)
  pub number : n % AM_MODULUS ≡ sn
  pub unacked : is_open n ≡ true
  pub stand : AreOf s.octets n (so_of segment) field
  pub whole : IsWhole segment (field_of n s.octets) field

-- a segment's LSF says whether it ends the field
abbrev pub IsLastBy : Option Segment → ℕ → ℕ → Type 0
IsLastBy None end size = Unit {0}
IsLastBy (Some s) end size = s.last ≡ true ↔ size ≡ end

pub record NumberIsShaped (is_open : ℕ → Bool) (n : ℕ) (segment : Option Segment)
    (field marks : List ℕ) (s : Sent) : Type 0 where
  pub unacked : is_open n ≡ true
  pub stand : AreOf s.marks n (so_of segment) marks
  pub last : IsLastBy segment (so_of segment + length field) (length (field_of n s.octets))

-- ---- a PDU of a new block, by the layout of its flow; `acked`: which numbers are acknowledged.
-- One that can't be read isn't judged

abbrev pub Flow : Type 0
Flow = SentFlow (List OctetEvent)

abbrev pub last_of : AmdPdu → Flow → ℕ
last_of pdu f = last_with pdu.sn (length (fields f.stream.octets))

abbrev pub UmdIsSent : How → Result UmdPdu RlcRefusal → Flow → Type 0
UmdIsSent hows.New (Ok pdu) f = NewIsSent true (concat pdu.elements) f.stream
UmdIsSent how read f = Unit {0}

abbrev pub AmdIsSent : (ℕ → Bool) → How → Result AcknowledgedPdu RlcRefusal → Flow → Type 0
AmdIsSent acked hows.New (Ok (Payload pdu)) f =
    NewIsSent (is_none pdu.segment) (concat pdu.elements) f.stream
AmdIsSent acked hows.Re (Ok (Payload pdu)) f =
    NumberIsSent (is_open_in f.floor acked) (last_of pdu f) pdu.sn pdu.segment
    (concat pdu.elements) f.stream
AmdIsSent acked how read f = Unit {0}

-- a transparent one is the SDU of the `take` just before its `send` (5.1.1.1)
abbrev pub SentAs : Layout → (ℕ → Bool) → How → Option (List ℕ) → List ℕ → Flow → Type 0
SentAs layouts.Tm acked how passed octets f = passed ≡ Some octets
SentAs (layouts.Um rlc_bits kind) acked how passed octets f =
    UmdIsSent how (umd_at rlc_bits octets) f
SentAs (layouts.Am kind) acked how passed octets f = AmdIsSent acked how (am_at octets) f

abbrev pub PduIsSent : (ℕ → Bool) → How → Option (List ℕ) → List ℕ → Flow → Type 0
PduIsSent acked how passed octets f = SentAs f.layout acked how passed octets f

abbrev pub UmdIsShaped : ℕ → How → Result UmdPdu RlcRefusal → Flow → Type 0
UmdIsShaped rlc_bits hows.New (Ok pdu) f =
    NewIsShaped (2 ^ rlc_bits) pdu.sn (marks_in pdu.fi pdu.elements) f.stream
UmdIsShaped rlc_bits how read f = Unit {0}

abbrev pub AmdIsShaped : (ℕ → Bool) → How → Result AcknowledgedPdu RlcRefusal → Flow → Type 0
AmdIsShaped acked hows.New (Ok (Payload pdu)) f =
    NewIsShaped AM_MODULUS pdu.sn (marks_in pdu.fi pdu.elements) f.stream
AmdIsShaped acked hows.Re (Ok (Payload pdu)) f =
    NumberIsShaped (is_open_in f.floor acked) (last_of pdu f) pdu.segment (concat pdu.elements)
    (marks_in pdu.fi pdu.elements) f.stream
AmdIsShaped acked how read f = Unit {0}

-- a transparent one has no header
abbrev pub ShapedAs : Layout → (ℕ → Bool) → How → List ℕ → Flow → Type 0
ShapedAs layouts.Tm acked how octets f = Unit {0}
ShapedAs (layouts.Um rlc_bits kind) acked how octets f =
    UmdIsShaped rlc_bits how (umd_at rlc_bits octets) f
ShapedAs (layouts.Am kind) acked how octets f = AmdIsShaped acked how (am_at octets) f

abbrev pub PduIsShaped : (ℕ → Bool) → How → Option (List ℕ) → List ℕ → Flow → Type 0
PduIsShaped acked how passed octets f = ShapedAs f.layout acked how octets f

-- ---- a new block: its PDUs are those that `send` records name, in their order, on their own
-- channels; `acked`: which numbers of a channel are acknowledged

abbrev pub AllSent : Type 0
AllSent = Sending (List OctetEvent)

abbrev pub Given : Type 0
Given = Giving given.History

abbrev pub PduTest : Type 1
PduTest = (ℕ → Bool) → How → Option (List ℕ) → List ℕ → Flow → Type 0

-- the flow of a PDU behind it
abbrev pub behind_pdu : (ℕ → Bool) → NamedPdu → Sdu → Flow → Flow
behind_pdu acked n d f = (flow_judges histories acked n.how n.sdu d.octets f).flow

abbrev pub EachPdu : PduTest → (ℕ → ℕ → Bool) → List NamedPdu → List Sdu
    → Flows (List OctetEvent) → Type 0
EachPdu right acked (n ∷ named) (d ∷ sdus) fs =
    IfSome (flow_at d.lcid fs) (right (acked d.lcid) n.how n.sdu d.octets)
    × EachPdu right acked named sdus (changed_on d.lcid (behind_pdu (acked d.lcid) n d) fs)
EachPdu right acked named sdus fs = Unit {0}

abbrev pub InBlock : PduTest → Direction → List ℕ → Given → AllSent → Type 0
InBlock right direction octets j s =
    let from = sender_of direction in
    EachPdu right (λ (lcid : ℕ). acked_at from lcid j) (named_of from s)
    (sdus_read (reading direction octets)) (flows_of from s)

-- ---- RLC takes an SDU (TS 36.322 5.1.1.1, 5.1.2.1.1, TS 36.323 5.1.1)

-- PDCP takes SDUs of so many octets (TS 36.323 4.3.1)
abbrev pub IsSdu : List ℕ → Type 0
IsSdu sdu = (1 ≤ length sdu) × (length sdu ≤ GREATEST_SDU)

-- the COUNTs of a life are 0, 1, 2, ..; a transparent bearer has none
abbrev pub IsCountOf : Option Cover → ℕ → Option ℕ → Type 0
IsCountOf None taken count = count ≡ None
IsCountOf (Some c) taken count = count ≡ Some taken

-- the first that waits
pub record FirstIsTaken (count : Option ℕ) (len : ℕ) (f : Flow) : Type 0 where
  pub sdu : List ℕ
  pub rest : List (List ℕ)
  pub first : f.waiting ≡ sdu ∷ rest
  pub size : IsSdu sdu
  pub len_is : length sdu ≡ len
  pub count_is : IsCountOf f.cover f.given count

-- of acknowledged data, which PDU is taken is judged beside (journal_given, `TakesAreRight`)
abbrev pub TakenAs : Layout → Option ℕ → ℕ → Option (List ℕ) → Flow → Type 0
TakenAs (layouts.Am (pdcp.Am bits)) count len sdu f = IfSome sdu IsSdu
TakenAs layout count len sdu f = FirstIsTaken count len f

-- an SDU that is discarded waits (TS 36.322 5.3, TS 36.323 5.4)
abbrev pub DiscardedOf : Layout → Flow → Type 0
DiscardedOf (layouts.Am (pdcp.Am bits)) f = Unit {0}
DiscardedOf layout f = 0 < length f.waiting

-- ---- a record, by what its line and those before it told

abbrev pub IsRightEvent : Side → Event → Given → AllSent → Type 0
IsRightEvent side (events.Take lcid count len) j s = IfSome (flow_at lcid (flows_of side s))
    (λ f. TakenAs f.layout count len (sdu_of given.histories side lcid count j) f)
IsRightEvent side (events.Report lcid fms bitmap) j s =
    IfSome (flow_at lcid (flows_of side s)) (λ f. IsTrue (is_data f.layout))
IsRightEvent side (events.Discard lcid len) j s =
    IfSome (flow_at lcid (flows_of side s)) (λ f. DiscardedOf f.layout f)
IsRightEvent side event j s = Unit {0}

-- records of a flow stand behind the line of its bearer
abbrev pub RecordIsSent : Record → Given → AllSent → Type 0
RecordIsSent (records.Of side event) j s =
    IsTrue (is_known (lcid_in event) s) × IsRightEvent side event j s
RecordIsSent (records.Block direction process true version octets) j s =
    InBlock PduIsSent direction octets j s
RecordIsSent (records.Looped lcid octets) j s = IsTrue (has_bearer lcid s)
RecordIsSent (records.Refused side lcid why) j s = IsTrue (has_bearer lcid s)
RecordIsSent one j s = Unit {0}

abbrev pub RecordIsShaped : Record → Given → AllSent → Type 0
RecordIsShaped (records.Block direction process true version octets) j s =
    InBlock PduIsShaped direction octets j s
RecordIsShaped one j s = Unit {0}

-- ---- a journal, record by record and group by group, beside what PDCP gives; the newest group
-- stands first

abbrev pub RecordTest : Type 1
RecordTest = Record → Given → AllSent → Type 0

abbrev pub EachRecord : RecordTest → List Record → Given → AllSent → Type 0
EachRecord right [] j s = Unit {0}
EachRecord right (one ∷ told) j s =
    right one (giving.settled given.histories one j) (settled one s)
    × EachRecord right told (giving.after_record given.histories one j)
    (after_record histories given.histories one (giving.settled given.histories one j) s)

abbrev pub EachGroup : RecordTest → List Group → Type 0
EachGroup right [] = Unit {0}
EachGroup right (now ∷ past) =
    EachRecord right now.events
    (giving.after_line given.histories now.line (all_given given.histories past))
    (after_line histories now.line (all_sending histories given.histories past))
    × EachGroup right past

abbrev pub SentIsRight : List Group → Type 0
SentIsRight = EachGroup RecordIsSent

abbrev pub ShapesAreRight : List Group → Type 0
ShapesAreRight = EachGroup RecordIsShaped
