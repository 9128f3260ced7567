-- An end tells of what it writes, and of data that waits, only as it builds a block (TS 36.321
-- 5.4.3, TS 36.322 5.1).
use Rattle.std.specs.Prelude.{◌≡◌, ℕ, Bool, IfSome, List, [], map}
use Rattle.std.specs.List.{filter}
use Rattle.bearer_types.specs.declared.event.Event.{Event}
use Rattle.harq.specs.declared.sender.Order.{Order}
use Rattle.harq.specs.declared.sender.Visit.TheVariants.{New}
use Rattle.l2_node.specs.Building.{visited, visit, building}
use Rattle.l2_node.specs.End.{End}
use Rattle.l2_node.specs.Hearing.{received, ticked, expiry}
use Rattle.l2_node.specs.Moving.{leaving}
use Rattle.l2_types.specs.declared.event.Clock.{Clock}
use Rattle.l2_types.specs.declared.side.Side.{Side}
use Rattle.law_node.specs.Blocks.{all_sdus}
use Rattle.law_node.specs.Calls.{Call, AreGiven, reached}
use Rattle.promises.specs.Events.{is_of_writing}
use Rattle.promises.specs.Names.{sent_lcids}

abbrev pub TellNone : List Event → Type 0
TellNone events = filter is_of_writing events ≡ []

-- nor as a block comes, as a TTI begins, as a timer expires, as the end leaves its cell
pub record WritesNothing (e : End) : Type 0 where
  pub receiving : (block : List ℕ) → TellNone (received e block).events
  pub ticking : TellNone (ticked e).events
  pub expiring : (lcid : ℕ) (clock : Clock) → IfSome (expiry lcid clock e) TellNone
  pub moving : TellNone (leaving e)

abbrev pub WritesOnlyAsItBuilds : Type 0
WritesOnlyAsItBuilds = (e : End) → WritesNothing e

-- ---- a new block has the PDUs that its bearers tell of, channel by channel and in their order

-- of any end that builds one
abbrev pub TellsWhatItSends : Type 0
TellsWhatItSends = (side : Side) (maximum : ℕ) (reports : Bool) (calls : List Call)
    → AreGiven calls → (tti grant : ℕ) (order : Order)
    → visit tti order (reached side maximum reports calls) ≡ New
    → sent_lcids (building tti grant order (reached side maximum reports calls))
    ≡ map (λ s. s.lcid)
    (all_sdus (visited tti order (reached side maximum reports calls)) grant
    (visited tti order (reached side maximum reports calls)).buckets.channels)
