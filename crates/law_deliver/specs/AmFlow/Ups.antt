-- What an end tells of a channel in its calls is what the calls of its bearer tell, so what goes up
-- on the channel is what these hand up (TS 36.322 5.1, TS 36.323 5.1.2).
use Rattle.std.specs.Prelude.{◌≡◌, ℕ, ◌==◌, if◌then◌else◌, Bool, true, false, List, [], ◌∷◌, ◌++◌}
use Rattle.std.specs.Prelude.{unwrap_or}
use Rattle.std.specs.List.{AllByRecursion, flat_map}
use Rattle.bearer.specs.declared.flow.Flow.{Flow}
use Rattle.bearer.specs.Hearing.{arriving, expiry, ticking}
use Rattle.bearer.specs.Lives.{stopping}
use Rattle.bearer.specs.Taking.{told}
use Rattle.law_bearer.specs.AnyBearer.Calls.{Call as BearerCall, Submit as Submits, Take as Takes}
use Rattle.law_bearer.specs.AnyBearer.Calls.{Arrive as Arrives, Expire as Expires, Tick as Ticks}
use Rattle.law_bearer.specs.AnyBearer.Calls.{SetDiscard as SetsDiscard, Restart, after as called}
use Rattle.law_bearer.specs.AnyBearer.Calls.{after_all, goes}
use Rattle.bearer_types.specs.declared.event.Event.{Event}
use Rattle.bearer_types.specs.declared.event.Event.TheVariants.{Up}
use Rattle.eps_sec.specs.declared.Keys.{Keys}
use Rattle.l2_node.specs.End.{End, fresh}
use Rattle.l2_node.specs.Finding.{has}
use Rattle.l2_types.specs.declared.side.Side.{Side}
use Rattle.law_node.specs.Bearers.{adds}
use Rattle.law_node.specs.Calls.{Call, Move, IsGiven, AreGiven, after, run_end, reached}
use Rattle.law_node.specs.Holding.{flow}
use Rattle.law_node.specs.Telling.{told_of, told_over}
use Rattle.law_deliver.specs.AmFlow.Channels.{GoesOnInLife, calls_of}
use Rattle.promises.specs.Events.{told_on, discards_on}

-- ---- what is told of a channel; of a block that can't be read it is told of none

-- the SDUs that go up on it
abbrev pub up_on : ℕ → Event → List (List ℕ)
up_on l (Up lcid sdu) = if lcid == l then sdu ∷ [] else []
up_on l event = []

abbrev pub ups_on : ℕ → List Event → List (List ℕ)
ups_on l events = flat_map (up_on l) events

-- ---- what comes of the calls of a bearer

module _ {X : Type 0} (of_call : ℕ → Flow → BearerCall → List X) where
  abbrev pub of_calls : ℕ → Flow → List BearerCall → List X
  of_calls l f [] = []
  of_calls l f (c ∷ cs) = of_call l f c ++ of_calls l (called f c) cs

-- what it tells; a timer that doesn't run tells nothing
abbrev pub tells_in : ℕ → Flow → BearerCall → List Event
tells_in l f (Submits sdu) = []
tells_in l f (Takes share held) = told l f share held
tells_in l f (Arrives pdu) = arriving l f pdu
tells_in l f (Expires clock) = unwrap_or (expiry f clock) []
tells_in l f Ticks = ticking f
tells_in l f (SetsDiscard ttis) = []

abbrev pub tells_over : ℕ → Flow → List BearerCall → List Event
tells_over = of_calls tells_in

-- what it hands up: nothing as it writes
abbrev pub goes_up_in : ℕ → Flow → BearerCall → List (List ℕ)
goes_up_in l f (Submits sdu) = []
goes_up_in l f (Takes share held) = []
goes_up_in l f (Arrives pdu) = ups_on l (arriving l f pdu)
goes_up_in l f (Expires clock) = ups_on l (unwrap_or (expiry f clock) [])
goes_up_in l f Ticks = ups_on l (ticking f)
goes_up_in l f (SetsDiscard ttis) = []

abbrev pub go_up_over : ℕ → Flow → List BearerCall → List (List ℕ)
go_up_over = of_calls goes_up_in

-- what it discards: only as a TTI begins
abbrev pub discarded_in : ℕ → Flow → BearerCall → List ℕ
discarded_in l f Ticks = discards_on l (ticking f)
discarded_in l f c = []

abbrev pub discarded_over : ℕ → Flow → List BearerCall → List ℕ
discarded_over = of_calls discarded_in

-- ---- the calls of a bearer in many calls of its end

abbrev pub calls_over : ℕ → List Call → End → List BearerCall
calls_over l [] e = []
calls_over l (c ∷ cs) e = calls_of l e c ++ calls_over l cs (after e c)

-- ---- the laws

-- as an end asks of its calls: where a bearer of the channel is added there is none
abbrev pub IsNew : ℕ → End → Call → Type 0
IsNew l e c = adds l c ≡ true → has l e.bearers ≡ false

abbrev pub AreNew : ℕ → List Call → End → Type 0
AreNew l [] e = Unit {0}
AreNew l (c ∷ cs) e = IsNew l e c × AreNew l cs (after e c)

-- in a call of a life
pub record TellsOf (l : ℕ) (e : End) (c : Call) : Type 0 where
  pub told_is : told_on l (told_of e c) ≡ tells_over l (flow l e) (calls_of l e c)
  pub ups_are : ups_on l (told_of e c) ≡ go_up_over l (flow l e) (calls_of l e c)
  pub discards_are : discards_on l (told_of e c) ≡ discarded_over l (flow l e) (calls_of l e c)

-- of any end that has a bearer of the channel
abbrev pub EndsTellWhatGoesUp : Type 0
EndsTellWhatGoesUp =
    (side : Side) (maximum : ℕ) (reports : Bool) (past : List Call) (c : Call) (l : ℕ)
    → AreGiven past → AreNew l past (fresh side maximum reports) → IsGiven c → GoesOnInLife l c
    → has l (reached side maximum reports past).bearers ≡ true
    → TellsOf l (reached side maximum reports past) c

-- in the calls of a life
pub record TellsOver (l : ℕ) (e : End) (cs : List Call) : Type 0 where
  pub there : has l (run_end cs e).bearers ≡ true
  pub bearer_is : flow l (run_end cs e) ≡ after_all (flow l e) (calls_over l cs e)
  pub told_is : told_on l (told_over cs e) ≡ tells_over l (flow l e) (calls_over l cs e)
  pub ups_are : ups_on l (told_over cs e) ≡ go_up_over l (flow l e) (calls_over l cs e)
  pub discards_are : discards_on l (told_over cs e)
      ≡ discarded_over l (flow l e) (calls_over l cs e)

abbrev pub EndsTellOver : Type 0
EndsTellOver = (side : Side) (maximum : ℕ) (reports : Bool) (past cs : List Call) (l : ℕ)
    → AreGiven past → AreNew l past (fresh side maximum reports) → AreGiven cs
    → AllByRecursion (GoesOnInLife l) cs
    → has l (reached side maximum reports past).bearers ≡ true
    → TellsOver l (reached side maximum reports past) cs

-- as a life ends, with which the next one begins
pub record TellsTheEnd (l : ℕ) (e : End) (keys : Keys) : Type 0 where
  pub there : has l (after e (Move keys)).bearers ≡ true
  pub bearer_is : flow l (after e (Move keys)) ≡ goes (flow l e) (Restart keys)
  pub told_is : told_on l (told_of e (Move keys)) ≡ stopping (flow l e)
  pub ups_are : ups_on l (told_of e (Move keys)) ≡ ups_on l (stopping (flow l e))
  pub discards_are : discards_on l (told_of e (Move keys)) ≡ []

abbrev pub MovesTellTheEnd : Type 0
MovesTellTheEnd =
    (side : Side) (maximum : ℕ) (reports : Bool) (past : List Call) (keys : Keys) (l : ℕ)
    → AreGiven past → AreNew l past (fresh side maximum reports)
    → has l (reached side maximum reports past).bearers ≡ true
    → TellsTheEnd l (reached side maximum reports past) keys
