-- What is gathered from a journal beside two ends over the air: on an acknowledged channel the
-- history of each flow, and what the HARQ processes hold, are those of the moment, and the records
-- of a step take them to the moment behind it (docs/formats/JOURNAL.md; TS 36.321 5.3.2, 5.4.2, TS
-- 36.322 5.1.3, 5.2).
use Rattle.std.specs.Prelude.{◌≡◌, ℕ, ◌%◌, ◌==◌, ◌&&◌, if◌then◌else◌, Bool, true, false, List}
use Rattle.std.specs.Prelude.{[], ◌∷◌, map, length, Option, Some, None, slice_get, slice_index_or}
use Rattle.std.specs.List.{AllByRecursion, filter, flat_map}
use Rattle.air_record.specs.declared.line.Line.{Line}
use Rattle.air_record.specs.declared.line.Line.TheVariants as lines
use Rattle.air_record.specs.declared.record.Record.{Record}
use Rattle.air_record.specs.declared.record.Record.TheVariants as records
use Rattle.bearer.specs.Acknowledged.State.{State, has_more}
use Rattle.bearer_types.specs.declared.event.Event.{Event}
use Rattle.bearer_types.specs.declared.event.Event.TheVariants as events
use Rattle.bearer_types.specs.declared.config.BearerConfig.{BearerConfig}
use Rattle.bearer_types.specs.Sides.{other, heard_by, sent_by}
use Rattle.l2_node.specs.Building.{visited}
use Rattle.l2_node.specs.End.{End}
use Rattle.l2_node.specs.Writing.{new_block}
use Rattle.l2_types.specs.declared.event.Clock.TheVariants.{Poll, Reorder}
use Rattle.l2_types.specs.declared.side.Side.{Side}
use Rattle.l2_types.specs.declared.side.Side.TheVariants.{Nb, Ue}
use Rattle.pdcp_pdu.specs.declared.pdu.PdcpKind.{PdcpKind}
use Rattle.pdu_show.specs.declared.kinds.Layout.{Layout}
use Rattle.pdu_show.specs.declared.kinds.Layout.TheVariants as layouts
use Rattle.promises.specs.Events.{is_on}
use Rattle.promises.specs.Names.{SentPdu}
use Rattle.promises.specs.Pdus.{carried}
use Rattle.promises.specs.Records.{is_got}
use Rattle.promises.specs.RightForm.{Carries}
use Rattle.promises.specs.SentNumbers.{AreNumbers}
use Rattle.journal_account.specs.FlowEvents.{FlowEvent, next_of}
use Rattle.journal_lives.specs.LifeEvents.{running}
use Rattle.journal_flows.specs.FlowsTold.{Histories, histories}
use Rattle.journal_flows.specs.Gathering.{Journal, Sending, sending_of, behind_record}
use Rattle.journal_flows.specs.Gathering.{behind_new, behind_landing, behind_line, behind_end}
use Rattle.law_deliver.specs.AmChannel.Lives.{Moves, lives_on}
use Rattle.law_deliver.specs.AmFlow.Air.{Block, Station, Air, Act, Comes, Step, Passes}
use Rattle.law_deliver.specs.AmFlow.Air.{happens, outset, IsDone}
use Rattle.law_deliver.specs.AmFlow.Carrying.{CarriedPdu, Carried, Builds, behind_step}
use Rattle.law_deliver.specs.AmFlow.Carrying.{carries_none}
use Rattle.law_deliver.specs.AmFlow.Links.{AreFlowsOn}
use Rattle.law_run.specs.TwoEnds.Along.{at_side}
use Rattle.law_run.specs.TwoEnds.ChannelLog.{told_in, written_in}
use Rattle.law_run.specs.TwoEnds.SenderLog.{BearerEntry}
use Rattle.law_sound.specs.GatherLaws.{HasCount}
use Rattle.law_sound.specs.HeldLaws.{AreHeldAs}
use Rattle.law_sound.specs.LoadLaws.{name_of}
use Rattle.law_sound.specs.LivedHistories.{AreLived, behind_down, behind_up, coming_in, logged_in}

-- ---- at a moment

-- of a side that sends
pub record HoldsAs (l : ℕ) (x : Sending) (blocks : List Block) (pdus : List (List CarriedPdu))
    : Type 0 where
  pub held : AreHeldAs l x blocks pdus
  pub processes : length x.held ≡ 8

pub record IsGatheredBeside (l : ℕ) (a : Air) (c : Carried) (down up : List FlowEvent)
    (j : Journal Histories) : Type 0 where
  pub down_is : running (j.flows.acked Nb l) ≡ down
  pub up_is : running (j.flows.acked Ue l) ≡ up
  pub by_nb : HoldsAs l j.nb a.nb.blocks c.nb
  pub by_ue : HoldsAs l j.ue a.ue.blocks c.ue

-- ---- a record that changes nothing of it

-- what happens at an end tells of a flow, and of one of a channel
abbrev pub tells : Event → Bool
tells (events.Take lcid count len) = true
tells (events.Report lcid fms bitmap) = true
tells (events.Start lcid Reorder) = true
tells (events.Expired lcid Reorder) = true
tells (events.Expired lcid Poll) = true
tells event = false

abbrev pub tells_flow : ℕ → Event → Bool
tells_flow l event = tells event && is_on l event

-- it tells of none, and no new block is sent, nor one got
abbrev pub LeavesFlows : ℕ → Record → Type 0
LeavesFlows l (records.Of side event) = tells_flow l event ≡ false
LeavesFlows l (records.Block direction process true rv octets) = ⊥
LeavesFlows l (records.Block direction process false rv octets) = Unit {0}
LeavesFlows l (records.Air direction what heard) = is_got what ≡ false
LeavesFlows l one = Unit {0}

abbrev pub OtherRecordsLeave : Type 0
OtherRecordsLeave =
    (kinds : List (Option Layout)) (more : Bool) (l : ℕ) (a : Air) (c : Carried)
    (down up : List FlowEvent) (one : Record) (j : Journal Histories) → LeavesFlows l one
    → IsGatheredBeside l a c down up j
    → IsGatheredBeside l a c down up (behind_record histories kinds more one j)

-- ---- what a side tells, with records between that tell nothing of the flows

-- `more`: an SDU may be taken as t-PollRetransmit expires by it
pub record ReadRecord : Type 0 where
  pub more : Bool
  pub one : Record

abbrev pub behind_all : List (Option Layout) → List ReadRecord → Journal Histories
    → Journal Histories
behind_all kinds [] j = j
behind_all kinds (x ∷ xs) j =
    behind_all kinds xs (behind_record histories kinds x.more x.one j)

abbrev pub flow_event : ℕ → Record → List Event
flow_event l (records.Of side event) = if tells_flow l event then event ∷ [] else []
flow_event l one = []

abbrev pub flow_events : ℕ → List ReadRecord → List Event
flow_events l xs = flat_map (λ (x : ReadRecord). flow_event l x.one) xs

-- as t-PollRetransmit expires
abbrev pub MayTakeAs : Bool → Bool → Event → Type 0
MayTakeAs more now (events.Expired lcid Poll) = now ≡ more
MayTakeAs more now event = Unit {0}

-- by a record of the side, where it tells of the channel's flows
abbrev pub IsToldAt : ℕ → Side → PdcpKind → Bool → Bool → Record → Type 0
IsToldAt l side kind more now (records.Of own event) = tells_flow l event ≡ true
    → (own ≡ side) × MayTakeAs more now event × HasCount kind event
IsToldAt l side kind more now one = LeavesFlows l one

-- they tell just what its bearer logs of the flows, which writes such PDUs
pub record AreRecordsOf (kinds : List (Option Layout)) (l : ℕ) (side : Side) (b : State)
    (log : List BearerEntry) (xs : List ReadRecord) (written : List (List ℕ)) : Type 0 where
  pub known : slice_index_or kinds l None ≡ Some (layouts.Am b.pdcp.kind)
  pub told : flow_events l xs ≡ filter tells (told_in log)
  pub writes : written_in log ≡ written
  pub each : AllByRecursion
      (λ (x : ReadRecord). IsToldAt l side b.pdcp.kind (has_more b.pdcp) x.more x.one) xs

-- ---- a step, of either end

abbrev pub station_of : Side → Air → Station
station_of Nb a = a.nb
station_of Ue a = a.ue

abbrev pub bearer_at : (side : Side) (l : ℕ) (nb ue : State) (a : Air) → AreFlowsOn l nb ue a
    → State
bearer_at Nb l nb ue a now = now.down.from_bearer
bearer_at Ue l nb ue a now = now.up.from_bearer

abbrev pub IsGatheredBehind : (l : ℕ) (a : Air) (s : Step) (c : Carried) (down up : List FlowEvent)
    → AreLived l a c down up → Journal Histories → Type 0
IsGatheredBehind l a s c down up h j =
    let now = h.air.by_air.flows in
    IsGatheredBeside l (happens a s) (behind_step l a s c)
    (behind_down l a s c now.down.from_bearer now.down.to_bearer down)
    (behind_up l a s c now.up.to_bearer now.up.from_bearer up) j

-- what is logged at a side as it acts
abbrev pub RecordsOfAct : (kinds : List (Option Layout)) (l : ℕ) (side : Side) (a : Air) (x : Act)
    (c : Carried) (down up : List FlowEvent) → AreLived l a c down up → List ReadRecord
    → List (List ℕ) → Type 0
RecordsOfAct kinds l side a x c down up h xs written =
    let b = bearer_at side l h.nb_bearer h.ue_bearer a h.air.by_air.flows in
    AreRecordsOf kinds l side b (logged_in l side a (at_side side x) b) xs written

-- ---- it builds no block, and none comes

abbrev pub ActsAreGathered : Type 0
ActsAreGathered =
    (kinds : List (Option Layout)) (l : ℕ) (side : Side) (a : Air) (x : Act) (c : Carried)
    (down up : List FlowEvent) (j : Journal Histories) (xs : List ReadRecord)
    → (h : AreLived l a c down up) → IsDone l (station_of side a) x
    → (Builds (station_of side a).end x → ⊥) → coming_in (other side) (at_side side x) c ≡ []
    → RecordsOfAct kinds l side a x c down up h xs [] → IsGatheredBeside l a c down up j
    → IsGatheredBehind l a (at_side side x) c down up h (behind_all kinds xs j)

-- and a TTI ends without records
abbrev pub TtisAreGathered : Type 0
TtisAreGathered =
    (l : ℕ) (a : Air) (c : Carried) (down up : List FlowEvent) (j : Journal Histories)
    → (h : AreLived l a c down up) → IsGatheredBeside l a c down up j
    → IsGatheredBehind l a Passes c down up h j

-- ---- a block comes: one that has the octets of the one that was sent last

pub record IsSentLast (x : Sending) (blocks : List Block) (block : Block) : Type 0 where
  pub last : Block
  pub place : ℕ
  pub there : slice_get blocks place ≡ Some last
  pub process : x.process ≡ last.process
  pub octets : last.octets ≡ block.octets

-- it is got, and then stands what its side tells
abbrev pub BlocksThatComeAreGathered : Type 0
BlocksThatComeAreGathered =
    (kinds : List (Option Layout)) (l : ℕ) (side : Side) (a : Air) (k : ℕ) (c : Carried)
    (down up : List FlowEvent) (j : Journal Histories) (xs : List ReadRecord) (block : Block)
    → (h : AreLived l a c down up) → slice_get (station_of (other side) a).blocks k ≡ Some block
    → IsSentLast (sending_of (other side) j) (station_of (other side) a).blocks block
    → RecordsOfAct kinds l side a (Comes k) c down up h xs [] → IsGatheredBeside l a c down up j
    → IsGatheredBehind l a (at_side side (Comes k)) c down up h
    (behind_all kinds xs (behind_landing histories (heard_by side) j))

-- ---- a new block is built

abbrev pub octets_of : (s : Station) (x : Act) → Builds s.end x → List ℕ
octets_of s x b = new_block (visited b.turn.tti b.turn.order s.end) b.turn.grant

-- `send` records behind the last new block name its PDUs, those of the channel by their numbers
pub record IsNamed (kinds : List (Option Layout)) (l : ℕ) (side : Side) (octets : List ℕ)
    (j : Journal Histories) : Type 0 where
  pub sent : List SentPdu
  pub named : (sending_of side j).named ≡ map name_of sent
  pub form : Carries (sent_by side) kinds sent octets
  pub numbers : AreNumbers l (next_of (running (j.flows.acked side l))) sent

-- what its side tells stands before it
abbrev pub NewBlocksAreGathered : Type 0
NewBlocksAreGathered =
    (kinds : List (Option Layout)) (l : ℕ) (side : Side) (a : Air) (x : Act) (c : Carried)
    (down up : List FlowEvent) (j : Journal Histories) (xs : List ReadRecord)
    → (h : AreLived l a c down up) → IsDone l (station_of side a) x
    → (b : Builds (station_of side a).end x)
    → RecordsOfAct kinds l side a x c down up h xs
    (carried l (sent_by side) (octets_of (station_of side a) x b))
    → IsNamed kinds l side (octets_of (station_of side a) x b) (behind_all kinds xs j)
    → IsGatheredBeside l a c down up j
    → IsGatheredBehind l a (at_side side x) c down up h
    (behind_new histories kinds (sent_by side) (b.turn.tti % 8)
    (octets_of (station_of side a) x b) (behind_all kinds xs j))

-- ---- lives: a bearer of the channel begins, or both ends move, and no block is under way

abbrev pub BearersBeginGathered : Type 0
BearersBeginGathered = (nb ue : End) (config : BearerConfig) (options : _) (j : Journal Histories)
    → length j.nb.held ≡ 8 → length j.ue.held ≡ 8
    → IsGatheredBeside config.channel.lcid (outset nb ue) carries_none [] []
    (behind_line histories (lines.Bearer config options) j)

abbrev pub MovesAreGathered : Type 0
MovesAreGathered = (l : ℕ) (a : Air) (keys : _) (j : Journal Histories)
    → IsGatheredBeside l (lives_on a (Moves keys)) carries_none [] [] (behind_end histories true j)

-- another line changes nothing
abbrev pub BeginsNone : ℕ → Line → Type 0
BeginsNone l (lines.Bearer config options) = (config.channel.lcid == l) ≡ false
BeginsNone l line = Unit {0}

abbrev pub OtherLinesLeave : Type 0
OtherLinesLeave = (l : ℕ) (a : Air) (c : Carried) (down up : List FlowEvent) (line : Line)
    (j : Journal Histories) → BeginsNone l line → IsGatheredBeside l a c down up j
    → IsGatheredBeside l a c down up (behind_line histories line j)
