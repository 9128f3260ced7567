-- A call of an end in which no block comes brings its bearer of a channel no PDU; and as this
-- writes into a new block, it tells nothing of t-Reordering (TS 36.321 5.3.3, 5.4.2, TS 36.322
-- 5.1.3.2).
use Rattle.std.specs.Prelude.{◌≡◌, ℕ, []}
use Rattle.std.specs.List.{AllByRecursion}
use Rattle.bearer.specs.Acknowledged.State.{State}
use Rattle.bearer.specs.declared.flow.Flow.TheVariants.{Am}
use Rattle.l2_node.specs.End.{End}
use Rattle.law_bearer.specs.AnyBearer.Calls.{Call as BearerCall, Arrive as Arrives}
use Rattle.law_node.specs.Calls.{Turn, Call, Visits, Receive}
use Rattle.law_deliver.specs.AmFlow.Channels.{calls_of}
use Rattle.law_deliver.specs.AmFlow.Reordering.{reordering_in}
use Rattle.law_deliver.specs.AmFlow.Ups.{tells_over}

-- no PDU comes in a call of a bearer
abbrev pub BringsNoPdu : BearerCall → Type 0
BringsNoPdu (Arrives pdu) = ⊥
BringsNoPdu call = Unit {0}

-- no block comes in a call of an end
abbrev pub BringsNoBlock : Call → Type 0
BringsNoBlock (Receive block) = ⊥
BringsNoBlock call = Unit {0}

abbrev pub CallsBringNoPdu : Type 0
CallsBringNoPdu =
    (l : ℕ) (e : End) (c : Call) → BringsNoBlock c → AllByRecursion BringsNoPdu (calls_of l e c)

-- where the bearer is acknowledged
abbrev pub TurnsTellNoReordering : Type 0
TurnsTellNoReordering = (l : ℕ) (e : End) (t : Turn) (b : State)
    → reordering_in (tells_over l (Am b) (calls_of l e (Visits t))) ≡ []
