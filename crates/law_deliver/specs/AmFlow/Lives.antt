-- A life of an acknowledged bearer begins as it is added, and as its end moves to another cell (TS
-- 36.323 5.2).
use Rattle.std.specs.Prelude.{◌≡◌, ℕ, Bool, true, List}
use Rattle.bearer.specs.declared.flow.Flow.TheVariants.{Am}
use Rattle.bearer.specs.Acknowledged.State.{State}
use Rattle.bearer_types.specs.Configs.{IsConfig}
use Rattle.bearer_types.specs.declared.config.BearerConfig.{BearerConfig}
use Rattle.eps_sec.specs.declared.Keys.{Keys}
use Rattle.l2_node.specs.Finding.{has}
use Rattle.l2_types.specs.declared.side.Side.{Side}
use Rattle.law_node.specs.Calls.{Call, Add, Move, AreGiven, after, reached}
use Rattle.law_node.specs.Holding.{flow}
use Rattle.law_deliver.specs.AmFlow.Air.{Begins}

abbrev pub AddsBegin : Type 0
AddsBegin =
    (side : Side) (maximum : ℕ) (reports : Bool) (past : List Call) (config : BearerConfig)
    (keys : Keys) (b : State) → AreGiven past → IsConfig config
    → flow config.channel.lcid (after (reached side maximum reports past) (Add config keys)) ≡ Am b
    → Begins side config.channel.lcid
    (after (reached side maximum reports past) (Add config keys)) b

abbrev pub MovesBegin : Type 0
MovesBegin =
    (side : Side) (maximum : ℕ) (reports : Bool) (past : List Call) (keys : Keys) (l : ℕ)
    (b : State) → AreGiven past → has l (reached side maximum reports past).bearers ≡ true
    → flow l (after (reached side maximum reports past) (Move keys)) ≡ Am b
    → Begins side l (after (reached side maximum reports past) (Move keys)) b
