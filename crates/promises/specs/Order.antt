-- Where the records of a line stand: what one end tells among what the other does, the blocks and
-- the test loop (TS 36.321 5.3, 5.4, TS 36.322 7.3, TS 36.509 5.4).
use Rattle.std.specs.Prelude.{ℕ, List, nat_lt, if◌then◌else◌, [], ◌∷◌, ◌==◌, Result, Ok, Err, ◌≡◌}
use Rattle.std.specs.Prelude.{map, Option, ◌%◌, false, true, Bool, Some, None}
use Rattle.std.specs.List.{list_any, AllByRecursion}
use Rattle.l2_types.specs.declared.channel.Channel.{Channel}
use Rattle.law_words.specs.Sequences.{◌then◌, SequencesOf, each, nothing, just, ◌or◌, maybe}
use Rattle.prioritise.specs.Channels.{has, put}
use Rattle.law_words.specs.BearerOrder.{in_a_block, of_a_channel, in_a_tti, at_the_end, is_srb}
use Rattle.law_words.specs.BearerOrder.{of_an_expiry}
use Rattle.bearer_types.specs.declared.event.Event.{Event}
use Rattle.mac_pdu.specs.Items.{MacItem, sdu}
use Rattle.bearer_types.specs.declared.event.Event.TheVariants.{BadMac, Drop}
use Rattle.mac_pdu.specs.declared.fault.MacRefusal.{MacRefusal}
use Rattle.mac_pdu.specs.declared.item.Direction.{Direction}
use Rattle.mac_pdu.specs.Reading.{reading}
use Rattle.air_record.specs.declared.record.Record.{Record}
use Rattle.l2_types.specs.declared.side.Side.{Side}
use Rattle.promises.specs.Events.{TellNoLoop}
use Rattle.l2_types.specs.declared.side.Side.TheVariants.{Ue, Nb}
use Rattle.pdu_show.specs.declared.kinds.Layout.{Layout}
use Rattle.promises.specs.Built.{block_told}
use Rattle.bearer_types.specs.Sides.{sent_by, heard_by, other}
use Rattle.air_record.specs.declared.record.Arrived.{Arrived}
use Rattle.l2_types.specs.declared.event.Clock.{Clock}
use Rattle.l2_types.specs.declared.event.Clock.TheVariants.{Reorder, Prohibit, Poll}
use Rattle.bearer_types.specs.Lcids.{all_lcids}
use Rattle.air_record.specs.declared.record.NoPlace.{NoPlace}
use Rattle.air_record.specs.declared.record.Record.TheVariants as records
use Rattle.l2_types.specs.declared.event.Lost.TheVariants as losts
use Rattle.air_record.specs.declared.record.Arrived.TheVariants as arriveds

-- ---- what an end tells in a call

-- the channels of its bearers, by priority number and then LCID (TS 36.321 5.4.3.1), and the LCIDs,
-- ascending
pub record Channels : Type 0 where
  pub by_priority : List Channel
  pub by_lcid : List ℕ

-- a channel more, in its place
abbrev pub with_lcid : ℕ → List ℕ → List ℕ
with_lcid lcid [] = lcid ∷ []
with_lcid lcid (n ∷ ns) = if nat_lt n lcid then n ∷ with_lcid lcid ns else lcid ∷ n ∷ ns

abbrev pub with_channel : Channel → Channels → Channels
with_channel d c =
    record {
      by_priority = if has d.lcid c.by_priority then c.by_priority else put d c.by_priority;
      by_lcid = with_lcid d.lcid c.by_lcid;
    }

-- as it builds a block
abbrev pub of_building : Channels → SequencesOf Event
of_building c = each (λ d. in_a_block d.lcid) c.by_priority

-- of a block that comes, which goes one way: PDU by PDU
abbrev pub of_an_item : Channels → MacItem → SequencesOf Event
of_an_item c (sdu lcid octets) = of_a_channel (list_any (λ n. n == lcid) c.by_lcid) lcid
of_an_item c item = nothing

abbrev pub of_items : Channels → Result (List MacItem) MacRefusal → SequencesOf Event
of_items c (Ok items) = each (of_an_item c) items
of_items c (Err refusal) = just (BadMac refusal)

abbrev pub of_hearing : Channels → Direction → List ℕ → SequencesOf Event
of_hearing c way octets = of_items c (reading way octets)

-- a block can be read, and each SDU in it is of one of these channels
abbrev pub IsFor : Channels → MacItem → Type 0
IsFor c (sdu lcid octets) = list_any (λ n. n == lcid) c.by_lcid ≡ true
IsFor c item = Unit {0}

abbrev pub CanBeRead : Channels → Result (List MacItem) MacRefusal → Type 0
CanBeRead c (Ok items) = AllByRecursion (IsFor c) items
CanBeRead c (Err refusal) = ⊥

-- as a TTI begins
abbrev pub of_timers : Channels → SequencesOf Event
of_timers c = each in_a_tti c.by_lcid

-- in a handover: signalling is dropped
abbrev pub of_leaving : Channels → SequencesOf Event
of_leaving c = each (λ lcid. at_the_end (is_srb lcid) lcid) c.by_lcid

-- ---- who tells

abbrev pub OfRecords : Type 1
OfRecords = SequencesOf Record

-- an end; what the test loop drops is told in the terminal's name, and is none of this
pub record EndTells (side : Side) (of : SequencesOf Event) (told : List Record) : Type 0 where
  pub events : List Event
  pub told_is : told ≡ map (records.Of side) events
  pub no_loop : TellNoLoop events
  pub in_order : of events

-- the test loop: of SDUs that it returns, and of those that find no place
abbrev pub IsOfLoop : Record → Type 0
IsOfLoop (records.Looped lcid octets) = Unit {0}
IsOfLoop (records.Of Ue (Drop lcid losts.Loop)) = Unit {0}
IsOfLoop one = ⊥

abbrev pub LoopTells : OfRecords
LoopTells told = AllByRecursion IsOfLoop told

-- ---- a block

abbrev pub IsNew : Side → ℕ → List (Option Layout) → List ℕ → OfRecords
IsNew side t kinds octets told = told ≡ block_told side t kinds octets

pub record IsAgain (side : Side) (t : ℕ) (octets : List ℕ) (told : List Record) : Type 0 where
  pub version : ℕ
  pub told_is : told ≡ records.Block (sent_by side) (t % 8) false version octets ∷ []

-- it goes out: a new one with what shows it, behind what its end tells as it builds it, or one that
-- is sent again
abbrev pub GoesOut : Side → ℕ → List (Option Layout) → Channels → List ℕ → OfRecords
GoesOut side t kinds c octets =
    EndTells side (of_building c) then IsNew side t kinds octets or IsAgain side t octets

-- a side tells of its PDUs where it got it
abbrev pub IsHeard : Side → Arrived → Channels → List ℕ → OfRecords
IsHeard side arriveds.Got c octets = EndTells side (of_hearing c (heard_by side) octets)
IsHeard side what c octets = nothing

-- the other end can read it, and has the channels of all that it carries
pub record PassesOver (side : Side) (t : ℕ) (kinds : List (Option Layout)) (c : Side → Channels)
    (told : List Record) : Type 0 where
  pub octets : List ℕ
  pub can_be_read : CanBeRead (c (other side)) (reading (heard_by (other side)) octets)
  pub what : Arrived
  pub feedback : Bool
  pub in_turn : (GoesOut side t kinds (c side) octets
      then just (records.Air (sent_by side) what (Some feedback))
      then IsHeard (other side) what (c (other side)) octets) told

-- a terminal that misses a grant may send nothing
abbrev pub Misses : Side → OfRecords
Misses Nb = nothing
Misses Ue = just (records.Air (sent_by Ue) arriveds.Nothing None)

-- where there is no grant nothing is told
abbrev pub MayPassOver : Side → ℕ → List (Option Layout) → (Side → Channels) → OfRecords
MayPassOver side t kinds c = nothing or Misses side or PassesOver side t kinds c

-- ---- a TTI

-- the downlink, what the loop returns of it, and the uplink
abbrev pub BothPassOver : ℕ → List (Option Layout) → (Side → Channels) → OfRecords
BothPassOver t kinds c = MayPassOver Nb t kinds c then LoopTells then MayPassOver Ue t kinds c

-- its number, whether the terminal sleeps, the timers of the base station and those of the
-- terminal, what the loop owes, and the blocks
abbrev pub TtiTells : ℕ → List (Option Layout) → (Side → Channels) → OfRecords
TtiTells t kinds c =
    just (records.Tti t) then maybe (just records.Sleep) then EndTells Nb (of_timers (c Nb))
    then EndTells Ue (of_timers (c Ue)) then LoopTells
    then BothPassOver t kinds c

-- in a drain nobody sleeps, no timer runs, and the loop owes nothing
abbrev pub DrainTtiTells : ℕ → List (Option Layout) → (Side → Channels) → OfRecords
DrainTtiTells t kinds c = just (records.Tti t) then BothPassOver t kinds c

-- ---- the other calls

-- a timer expires, and the loop returns what goes up
abbrev pub ExpiryTells : Side → ℕ → Clock → OfRecords
ExpiryTells side lcid clock = EndTells side (of_an_expiry lcid clock) then LoopTells

-- where it runs
abbrev pub TimerTells : Side → ℕ → Clock → OfRecords
TimerTells side lcid clock = maybe (ExpiryTells side lcid clock)

-- those of a drain, of each channel in turn: the base station's, then the terminal's
abbrev pub ReceiverTells : Side → ℕ → OfRecords
ReceiverTells side lcid = TimerTells side lcid Reorder then TimerTells side lcid Prohibit

abbrev pub ReceiversTell : OfRecords
ReceiversTell = each (ReceiverTells Nb) all_lcids then each (ReceiverTells Ue) all_lcids

abbrev pub SenderTells : Side → ℕ → OfRecords
SenderTells side lcid = TimerTells side lcid Poll

abbrev pub SendersTell : OfRecords
SendersTell = each (SenderTells Nb) all_lcids then each (SenderTells Ue) all_lcids

abbrev pub ForgeTells : Side → Channels → List ℕ → OfRecords
ForgeTells side c octets = EndTells side (of_hearing c (heard_by side) octets) then LoopTells

-- the base station leaves, then the terminal
abbrev pub HandoverTells : (Side → Channels) → OfRecords
HandoverTells c =
    EndTells Nb (of_leaving (c Nb)) then EndTells Ue (of_leaving (c Ue)) then LoopTells

pub record IsRefused (side : Side) (lcid : ℕ) (told : List Record) : Type 0 where
  pub why : NoPlace
  pub told_is : told ≡ records.Refused side lcid why ∷ []

abbrev pub SubmitTells : Side → ℕ → OfRecords
SubmitTells side lcid = maybe (IsRefused side lcid)
