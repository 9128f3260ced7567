-- A PDU in a new block is the one that its `send` names, by what it is and its number (TS 36.322
-- 6.2.1), and the SDUs that are whole in it are PDUs of PDCP (TS 36.323 6.2).
use Rattle.std.specs.Prelude.{◌≡◌, ℕ, Bool, if◌then◌else◌, List, Option, Some, None}
use Rattle.bearer.specs.declared.flow.Flow.{Flow}
use Rattle.bearer.specs.declared.flow.Flow.TheVariants.{Tm, Um, Am}
use Rattle.harq.specs.declared.sender.Order.{Order}
use Rattle.harq.specs.declared.sender.Visit.TheVariants.{New}
use Rattle.l2_node.specs.Building.{visited, visit, building}
use Rattle.l2_node.specs.End.{End}
use Rattle.l2_node.specs.Finding.{has}
use Rattle.l2_types.specs.declared.side.Side.{Side}
use Rattle.law_node.specs.Blocks.{all_sdus}
use Rattle.law_node.specs.Calls.{Call, AreGiven, reached}
use Rattle.law_node.specs.Holding.{flow}
use Rattle.promises.specs.Names.{sent_pdus, Mode, Transparent, Unacknowledged, Acknowledged}
use Rattle.promises.specs.Names.{AreNamed}

-- ---- a PDU of a number, as senders write it and as it is read, on a bearer of a kind

abbrev pub mode : Flow → Mode
mode (Tm b) = Transparent
mode (Um b) = Unacknowledged b.bits b.pdcp.kind
mode (Am b) = Acknowledged b.pdcp.kind

-- the modes of an end's bearers, by their channels
abbrev pub modes_of : End → ℕ → Option Mode
modes_of e lcid = if has lcid e.bearers then Some (mode (flow lcid e)) else None

-- ---- the law: PDUs and what is told of them, each of its place, by the modes of the channels

-- of any end that builds a new block
abbrev pub NamesWhatItSends : Type 0
NamesWhatItSends = (side : Side) (maximum : ℕ) (reports : Bool) (calls : List Call)
    → AreGiven calls → (tti grant : ℕ) (order : Order)
    → visit tti order (reached side maximum reports calls) ≡ New
    → AreNamed (modes_of (visited tti order (reached side maximum reports calls)))
    (sent_pdus (building tti grant order (reached side maximum reports calls)))
    (all_sdus (visited tti order (reached side maximum reports calls)) grant
    (visited tti order (reached side maximum reports calls)).buckets.channels)
