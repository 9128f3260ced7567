-- An acknowledged bearer settles in each of its calls (TS 36.322 5.2.2): where nothing is left to
-- send or to take and something isn't acknowledged, its poll timer runs.
use Rattle.std.specs.Prelude.{◌≡◌, true, false, []}
use Rattle.l2_num.specs.Timers.{runs}
use Rattle.bearer.specs.Acknowledged.State.{State, has_more}
use Rattle.bearer.specs.declared.flow.Flow.{Flow}
use Rattle.bearer.specs.declared.flow.Flow.TheVariants.{Tm, Um, Am}
use Rattle.rlc_am_tx.specs.Machine.{settles}
use Rattle.law_rlc.specs.AmSender.Watched.{IsWatched}
use Rattle.law_bearer.specs.AnyBearer.Calls.{Call, after}
use Rattle.law_drain.specs.Bearer.{bearer_quiet}
use Rattle.law_drain.specs.Ends.{Stands}

-- the poll timer isn't still to be started
abbrev pub HasSettled : Flow → Type 0
HasSettled (Tm b) = Unit {0}
HasSettled (Um b) = Unit {0}
HasSettled (Am b) = settles b.tx (has_more b.pdcp) ≡ false

abbrev pub BearersSettle : Type 0
BearersSettle = (b : State) (c : Call) → Stands b → HasSettled (Am b) → HasSettled (after (Am b) c)

-- as a life begins nothing is sent yet
abbrev pub LivesBeginSettled : Type 0
LivesBeginSettled = (b : State) → b.tx.window.slots ≡ [] → HasSettled (Am b)

-- so where a STATUS, however late, stops the timer of none that waits for it, a quiet bearer's runs
abbrev pub QuietAwaitsPoll : Type 0
QuietAwaitsPoll = (b : State) → IsWatched b.tx → HasSettled (Am b) → bearer_quiet b ≡ 1
    → runs b.tx.polls.timer ≡ true
