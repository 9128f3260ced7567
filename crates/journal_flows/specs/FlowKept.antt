-- The account of an acknowledged flow, as it is kept (docs/laws/ACCOUNT.md).
use Rattle.std.specs.Prelude.{ℕ, if◌then◌else◌, List, ◌≡◌}
use Rattle.journal_account.specs.FlowArrivals.{next_in}
use Rattle.journal_account.specs.FlowEvents.{NumberWritten, OctetsResent, OctetsArrived}
use Rattle.journal_account.specs.FlowEvents.{ReorderStarted, ReorderExpired, PollExpired}
use Rattle.journal_lives.specs.FlowLives.{FlowLives, lives_with, lives_of}
use Rattle.journal_lives.specs.LifeEvents.{LifeEvent, PduGiven, InLife, LifeEnded, AreLives}
use Rattle.journal_flows.specs.declared.flow.Happening.{Happening}
use Rattle.journal_flows.specs.declared.flow.Happening.TheVariants as happenings
use Rattle.journal_flows.specs.Possible.{is_possible}

-- what happens, but for a STATUS, as an event
abbrev pub event_of : Happening → LifeEvent
event_of (happenings.PduGiven count size) = PduGiven count size
event_of (happenings.NumberWritten size) = InLife (NumberWritten size)
event_of (happenings.OctetsResent n from to) = InLife (OctetsResent n from to)
event_of (happenings.OctetsArrived n from to) = InLife (OctetsArrived n from to)
event_of happenings.ReorderStarted = InLife ReorderStarted
event_of happenings.ReorderExpired = InLife ReorderExpired
event_of (happenings.PollExpired more) = InLife (PollExpired more)
event_of happenings.LifeEnded = LifeEnded

abbrev pub kept_with : LifeEvent → FlowLives → FlowLives
kept_with e l = if is_possible (next_in l.account.arrivals) e then lives_with e l else l

-- it is always that of some history
pub record IsOfHistory (l : FlowLives) : Type 0 where
  pub most : ℕ
  pub first : ℕ
  pub history : List LifeEvent
  pub lives : AreLives history
  pub is : l ≡ lives_of most first history
