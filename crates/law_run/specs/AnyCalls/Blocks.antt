-- A new block, as the records tell it: what its end tells before it is what it has (TS 36.321
-- 5.4.3.1, 6.1.2).
use Rattle.std.specs.Prelude.{◌≡◌, ◌⊎◌, ℕ, ◌≤◌, Bool, Option, List, []}
use Rattle.air_record.specs.declared.record.Record.{Record}
use Rattle.harq.specs.declared.sender.Order.{Order}
use Rattle.l2_node.specs.Building.{IsEnough}
use Rattle.l2_types.specs.declared.side.Side.{Side}
use Rattle.law_node.specs.Calls.{Call as EndCall, AreGiven, reached}
use Rattle.pdu_show.specs.declared.kinds.Layout.{Layout}
use Rattle.law_run.specs.AnyCalls.Ends.{visit_told}
use Rattle.promises.specs.Built.{IsNewBlock}
use Rattle.l2_types.specs.declared.limits.TheConstants.{GREATEST_GRANT}

-- a visit builds a block, or nothing is told of one
abbrev pub MayBuild : Side → ℕ → ℕ → List (Option Layout) → List Record → Type 0
MayBuild side t grant kinds told = (told ≡ []) ⊎ IsNewBlock side t grant kinds told

-- at any end that has come so far by calls
abbrev pub BlocksAreTold : Type 0
BlocksAreTold = (side : Side) (maximum : ℕ) (reports : Bool) (calls : List EndCall) → AreGiven calls
    → (t grant : ℕ) (order : Order) (kinds : List (Option Layout)) → grant ≤ GREATEST_GRANT
    → IsEnough order grant
    → MayBuild side t grant kinds
    (visit_told side t grant order kinds (reached side maximum reports calls))
