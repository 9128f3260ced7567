-- What is shown of a new block behind it: of each PDU the record that its `send` names (TS 36.322
-- 6.2.1), and, where it is no segment, a record of each SDU that is whole in it (TS 36.323 6.2).
use Rattle.std.specs.Prelude.{◌≡◌, ℕ, ◌≤◌, Bool, Option, List}
use Rattle.harq.specs.declared.sender.Order.{Order}
use Rattle.harq.specs.declared.sender.Visit.TheVariants.{New}
use Rattle.l2_node.specs.Building.{visit, visited}
use Rattle.l2_types.specs.declared.side.Side.{Side}
use Rattle.law_node.specs.Calls.{Call as EndCall, AreGiven, reached}
use Rattle.law_node.specs.Names.{modes_of}
use Rattle.pdu_show.specs.declared.kinds.Layout.{Layout}
use Rattle.law_run.specs.AnyCalls.Ends.{built_told}
use Rattle.promises.specs.Shown.{AreKnown, IsShownBlock}
use Rattle.l2_types.specs.declared.limits.TheConstants.{GREATEST_GRANT}

-- ---- where the bearers of an end are known as what they are

abbrev pub BlocksAreShown : Type 0
BlocksAreShown = (side : Side) (maximum : ℕ) (reports : Bool) (calls : List EndCall)
    → AreGiven calls
    → (t grant : ℕ) (order : Order) (kinds : List (Option Layout)) → 1 ≤ grant
    → grant ≤ GREATEST_GRANT → visit t order (reached side maximum reports calls) ≡ New
    → AreKnown kinds (modes_of (visited t order (reached side maximum reports calls)))
    → IsShownBlock side t grant kinds
    (built_told New side t grant order kinds (reached side maximum reports calls))
