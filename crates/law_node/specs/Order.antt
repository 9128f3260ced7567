-- In which order an end tells: the events of each of its calls, bearer by bearer and PDU by PDU (TS
-- 36.321 5.4.3.1).
use Rattle.std.specs.Prelude.{◌≡◌, ℕ, Bool, true, false, ◌≤◌, if◌then◌else◌, IfSome, Result, Ok}
use Rattle.std.specs.Prelude.{Err, List, [], ◌∷◌, map}
use Rattle.std.specs.List.{AllByRecursion}
use Rattle.law_words.specs.BearerOrder.{OfEvents, in_a_block, of_an_expiry, in_a_tti, at_the_end}
use Rattle.law_words.specs.Sequences.{nothing, just, each}
use Rattle.bearer_types.specs.declared.event.Event.TheVariants.{BadMac}
use Rattle.bearer.specs.Bearer.{Of, Life}
use Rattle.eps_sec.specs.declared.Keys.{Keys}
use Rattle.harq.specs.declared.sender.Order.{Order}
use Rattle.harq.specs.declared.sender.Visit.TheVariants.{New}
use Rattle.l2_node.specs.Building.{visit, building}
use Rattle.l2_node.specs.End.{End, fresh}
use Rattle.bearer_types.specs.Sides.{heard_by}
use Rattle.l2_node.specs.Finding.{has}
use Rattle.l2_node.specs.Hearing.{received, ticked, expiry}
use Rattle.l2_node.specs.Moving.{leaving}
use Rattle.l2_types.specs.declared.channel.Channel.{Channel}
use Rattle.l2_types.specs.declared.event.Clock.{Clock}
use Rattle.l2_types.specs.declared.side.Side.{Side}
use Rattle.mac_pdu.specs.declared.fault.MacRefusal.{MacRefusal}
use Rattle.mac_pdu.specs.Items.{MacItem, front, element, sdu, padding}
use Rattle.mac_pdu.specs.Reading.{reading}
use Rattle.prioritise.specs.Channels.{goes_before, has as has_channel, put}
use Rattle.prioritise.specs.Shares.{emptied}
use Rattle.law_node.specs.Calls.{Call, Add, Move, AreGiven, after, reached}
use Rattle.law_words.specs.BearerOrder.{of_a_channel, is_srb}

-- a new block: the bearers, in the order of the channels
abbrev pub BuildsInOrder : End → OfEvents
BuildsInOrder e = each (λ c. in_a_block c.lcid) e.buckets.channels

abbrev pub of_an_item : End → MacItem → OfEvents
of_an_item e (sdu lcid octets) = of_a_channel (has lcid e.bearers) lcid
of_an_item e front = nothing
of_an_item e (element control) = nothing
of_an_item e (padding size) = nothing

abbrev pub of_items : End → Result (List MacItem) MacRefusal → OfEvents
of_items e (Ok items) = each (of_an_item e) items
of_items e (Err refusal) = just (BadMac refusal)

abbrev pub HearsInOrder : End → List ℕ → OfEvents
HearsInOrder e block = of_items e (reading (heard_by e.side) block)

-- a TTI begins: the bearers, by ascending LCID
abbrev pub TicksInOrder : End → OfEvents
TicksInOrder e = each (λ b. in_a_tti b.channel.lcid) e.bearers

abbrev pub ExpiresInOrder : ℕ → Clock → OfEvents
ExpiresInOrder lcid clock = of_an_expiry lcid clock

abbrev pub StopsInOrder : End → OfEvents
StopsInOrder e = each (λ b. at_the_end (is_srb b.channel.lcid) b.channel.lcid) e.bearers

-- ---- the law

pub record IsToldInOrder (e : End) : Type 0 where
  pub building : (tti grant : ℕ) (order : Order) → visit tti order e ≡ New
      → BuildsInOrder e (building tti grant order e)
  pub receiving : (block : List ℕ) → HearsInOrder e block (received e block).events
  pub ticking : TicksInOrder e (ticked e).events
  pub expiring : (lcid : ℕ) (clock : Clock)
      → IfSome (expiry lcid clock e) (ExpiresInOrder lcid clock)
  pub moving : StopsInOrder e (leaving e)

-- of any end that has come by calls
abbrev pub TellsInItsOrder : Type 0
TellsInItsOrder = (side : Side) (maximum : ℕ) (reports : Bool) (calls : List Call)
    → AreGiven calls → IsToldInOrder (reached side maximum reports calls)

-- each stands before all behind it
module _ {X : Type 0} where
  abbrev pub AreOrdered : (X → X → Type 0) → List X → Type 0
  AreOrdered R [] = Unit {0}
  AreOrdered R (x ∷ xs) = AllByRecursion (R x) xs × AreOrdered R xs

-- the channels that bearers are configured with
abbrev pub channels : List (Of Life) → List Channel
channels bs = map (λ b. b.channel) bs

-- its channels stand by priority number and then LCID, its bearers by LCID
pub record StandsInOrder (e : End) : Type 0 where
  pub channels_are : AreOrdered (λ c d. goes_before c d ≡ true) e.buckets.channels
  pub bearers_are : AreOrdered (λ c d. c.lcid ≤ d.lcid) (channels e.bearers)

abbrev pub EndsStandInOrder : Type 0
EndsStandInOrder = (side : Side) (maximum : ℕ) (reports : Bool) (calls : List Call)
    → StandsInOrder (reached side maximum reports calls)

-- ---- the law: the channels that share grants are those of the bearers

-- a channel in its place, where its LCID has none
abbrev pub with_one : Channel → List Channel → List Channel
with_one c cs = if has_channel c.lcid cs then cs else put c cs

abbrev pub with_all : List Channel → List Channel → List Channel
with_all [] cs = cs
with_all (d ∷ ds) cs = with_all ds (with_one d cs)

-- a bearer that is added has an LCID that none has
abbrev pub IsNew : Call → List (Of Life) → Type 0
IsNew (Add c keys) bs = has_channel c.channel.lcid (channels bs) ≡ false
IsNew call bs = Unit {0}

abbrev pub AddNew : List Call → End → Type 0
AddNew [] e = Unit {0}
AddNew (c ∷ cs) e = IsNew c e.bearers × AddNew cs (after e c)

-- also behind a handover, with empty buckets
pub record SharesByBearers (e : End) : Type 0 where
  pub own : e.buckets.channels ≡ with_all (channels e.bearers) []
  pub moves : (keys : Keys) → (after e (Move keys)).buckets ≡ emptied e.buckets

abbrev pub EndsShareByBearers : Type 0
EndsShareByBearers = (side : Side) (maximum : ℕ) (reports : Bool) (calls : List Call)
    → AddNew calls (fresh side maximum reports)
    → SharesByBearers (reached side maximum reports calls)
