-- Each bearer of an end goes on by calls of its own, in lives that begin as the end moves
-- (TS 36.322 4.2.1, TS 36.323 4.2): what `law_bearer` promises holds of it.
use Rattle.std.specs.Prelude.{◌≡◌, ℕ, ◌==◌, Bool, true, false, List, [], ◌∷◌, ◌++◌}
use Rattle.std.specs.List.{AllByRecursion}
use Rattle.bearer.specs.Bearer.{flow_of}
use Rattle.bearer.specs.declared.flow.Flow.{Flow}
use Rattle.law_bearer.specs.AnyBearer.Calls.{Step, run_bearer}
pub use Rattle.law_bearer.specs.AnyBearer.Ciphering.{restarts}
use Rattle.law_bearer.specs.AnyBearer.Stream.{all_taken, counts}
use Rattle.bearer_types.specs.declared.config.BearerConfig.{BearerConfig}
use Rattle.eps_sec.specs.declared.Keys.{Keys}
use Rattle.l2_node.specs.End.{End}
use Rattle.l2_node.specs.Finding.{has}
use Rattle.l2_types.specs.declared.side.Side.{Side}
use Rattle.law_node.specs.Calls.{Call, Add, Move, AreGiven, run_end, reached}
use Rattle.law_node.specs.Holding.{flow}
use Rattle.law_node.specs.Telling.{told_over}
use Rattle.promises.specs.Counts.{counts_on}

-- ---- the lives of bearers: under which keys one begins in a call of the end

abbrev pub keys_in : Call → List Keys
keys_in (Move keys) = keys ∷ []
keys_in _ = []

abbrev pub moves : List Call → List Keys
moves [] = []
moves (c ∷ cs) = keys_in c ++ moves cs

-- a bearer has come by steps of its own to what it is, while an end was called: a life began in
-- each move and under its keys, and SDUs were taken with these COUNTs
pub record Comes (f g : Flow) (calls : List Call) (told : List ℕ) : Type 0 where
  pub steps : List Step
  pub flow_is : g ≡ run_bearer steps f
  pub lives_are : restarts steps ≡ moves calls
  pub counts_are : counts (all_taken f steps) ≡ told

-- ---- through any calls of an end

-- a call that adds a bearer of a channel
abbrev pub adds : ℕ → Call → Bool
adds lcid (Add config keys) = config.channel.lcid == lcid
adds lcid _ = false

abbrev pub AddNone : ℕ → List Call → Type 0
AddNone lcid calls = AllByRecursion (λ c. adds lcid c ≡ false) calls

-- a bearer that is there goes on, and what is told of its channel is what its steps take
pub record GoesOn (lcid : ℕ) (calls : List Call) (e : End) : Type 0 where
  pub there : has lcid (run_end calls e).bearers ≡ true
  pub comes : Comes (flow lcid e) (flow lcid (run_end calls e)) calls
      (counts_on lcid (told_over calls e))

-- from any moment on
abbrev pub BearersGoOn : Type 0
BearersGoOn = (side : Side) (maximum : ℕ) (reports : Bool) (past calls : List Call) (lcid : ℕ)
    → AreGiven past → AreGiven calls
    → has lcid (reached side maximum reports past).bearers ≡ true → AddNone lcid calls
    → GoesOn lcid calls (reached side maximum reports past)

-- an end's bearer of a channel is the one that was added last, and began by its configuration,
-- under the keys of that call
pub record IsAdded (side : Side) (maximum : ℕ) (reports : Bool) (calls : List Call) (lcid : ℕ) :
    Type 0 where
  pub before : List Call
  pub config : BearerConfig
  pub keys : Keys
  pub since : List Call
  pub calls_are : calls ≡ before ++ (Add config keys ∷ since)
  pub channel_is : config.channel.lcid ≡ lcid
  pub last : AddNone lcid since
  pub comes :
      Comes (flow_of config.kind config keys side)
      (flow lcid (reached side maximum reports calls)) since
      (counts_on lcid
      (told_over since (reached side maximum reports (before ++ (Add config keys ∷ [])))))

-- each that is there
abbrev pub BearersAreAdded : Type 0
BearersAreAdded = (side : Side) (maximum : ℕ) (reports : Bool) (calls : List Call) (lcid : ℕ)
    → AreGiven calls
    → has lcid (reached side maximum reports calls).bearers ≡ true
    → IsAdded side maximum reports calls lcid
