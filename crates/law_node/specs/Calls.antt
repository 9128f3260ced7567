-- One end of the link through any calls, from cell to cell (TS 36.321 4.2, 5.9).
use Rattle.std.specs.Prelude.{ℕ, ◌≤◌, Bool, Option, Some, None, List, [], ◌∷◌}
use Rattle.bearer_types.specs.Configs.{IsConfig}
use Rattle.bearer_types.specs.declared.config.BearerConfig.{BearerConfig}
use Rattle.eps_sec.specs.declared.Keys.{Keys}
use Rattle.harq.specs.declared.sender.Order.{Order}
use Rattle.harq.specs.declared.sender.Visit.{Visit}
use Rattle.harq.specs.declared.sender.Visit.TheVariants.{New, Resend, Silent}
use Rattle.harq.specs.Sending.{after_feedback}
use Rattle.harq.specs.Receiving.{after_assigned, after_grant, after_granted, after_pass}
use Rattle.l2_bits.specs.declared.fault.SubmitRefusal.{SubmitRefusal}
use Rattle.l2_types.specs.declared.event.Clock.{Clock}
use Rattle.l2_types.specs.declared.side.Side.{Side}
use Rattle.prioritise.specs.Shares.{ticked as grown}
use Rattle.l2_node.specs.Building.{IsEnough, visit, built}
use Rattle.l2_node.specs.End.{End, fresh, with_bearer, with_visits}
use Rattle.l2_node.specs.Hearing.{received, ticked, expired}
use Rattle.l2_node.specs.Moving.{left_cell, joined}
use Rattle.l2_node.specs.Submitting.{refusal, submitted, discarding}
use Rattle.l2_types.specs.declared.limits.TheConstants.{GREATEST_GRANT}

-- the visit of a sending process in a TTI: its grant, and the feedback that is read on what it
-- sends
pub record Turn : Type 0 where
  pub tti : ℕ
  pub grant : ℕ
  pub order : Order
  pub good : Bool

-- a call that changes the end; a refused one changes nothing
pub data Call : Type 0 where
  SetVisits : ℕ → Call
  SetReports : Bool → Call
  Add : BearerConfig → Keys → Call
  Submit : ℕ → List ℕ → Call
  SetDiscard : ℕ → ℕ → Call
  Tick : Call
  TickBuckets : Call
  Visits : Turn → Call
  Grants : ℕ → Call
  Granted : ℕ → Option Bool → Call
  Assigned : ℕ → Bool → Bool → Call
  Pass : ℕ → Call
  Receive : List ℕ → Call
  Expire : ℕ → Clock → Call
  Move : Keys → Call  -- to another cell, under its keys

-- feedback comes only on what is sent
abbrev pub answered : Visit → Turn → End → End
answered New t e = record e { sender = after_feedback e.sender t.tti t.good }
answered (Resend rv) t e = record e { sender = after_feedback e.sender t.tti t.good }
answered Silent t e = e

-- an SDU that is refused changes nothing
abbrev pub after_submit : Option SubmitRefusal → ℕ → List ℕ → End → End
after_submit None lcid sdu e = submitted lcid sdu e
after_submit (Some why) lcid sdu e = e

abbrev pub after : End → Call → End
after e (SetVisits maximum) = with_visits maximum e
after e (SetReports reports) = record e { reports = reports }
after e (Add c keys) = with_bearer c keys e
after e (Submit lcid sdu) =
    record e { bearers = (after_submit (refusal lcid sdu e) lcid sdu e).bearers }
after e (SetDiscard lcid ttis) = discarding lcid ttis e
after e Tick = record e { bearers = (ticked e).bearers }
after e TickBuckets = record e { buckets = grown e.buckets }
after e (Visits t) = answered (visit t.tti t.order e) t (built t.tti t.grant t.order e)
after e (Grants tti) = record e { receiver = after_grant e.receiver tti }
after e (Granted tti good) = record e { receiver = after_granted e.receiver tti good }
after e (Assigned tti ndi good) = record e { receiver = after_assigned e.receiver tti ndi good }
after e (Pass tti) = record e { receiver = after_pass e.receiver tti }
after e (Receive block) = record e { bearers = (received e block).bearers }
after e (Expire lcid clock) = expired lcid clock e
after e (Move keys) = joined (left_cell e) keys

abbrev pub run_end : List Call → End → End
run_end [] e = e
run_end (c ∷ cs) e = run_end cs (after e c)

-- an end after any calls
abbrev pub reached : Side → ℕ → Bool → List Call → End
reached side maximum reports calls = run_end calls (fresh side maximum reports)

-- what a call is given: some visits of a block, a configuration in its ranges, the grant of a
-- transport block
abbrev pub IsGiven : Call → Type 0
IsGiven (SetVisits maximum) = 1 ≤ maximum
IsGiven (SetReports reports) = Unit {0}
IsGiven (Add c keys) = IsConfig c
IsGiven (Submit lcid sdu) = Unit {0}
IsGiven (SetDiscard lcid ttis) = Unit {0}
IsGiven Tick = Unit {0}
IsGiven TickBuckets = Unit {0}
IsGiven (Visits t) = (t.grant ≤ GREATEST_GRANT) × IsEnough t.order t.grant
IsGiven (Grants tti) = Unit {0}
IsGiven (Granted tti good) = Unit {0}
IsGiven (Assigned tti ndi good) = Unit {0}
IsGiven (Pass tti) = Unit {0}
IsGiven (Receive block) = Unit {0}
IsGiven (Expire lcid clock) = Unit {0}
IsGiven (Move keys) = Unit {0}

abbrev pub AreGiven : List Call → Type 0
AreGiven [] = Unit {0}
AreGiven (c ∷ cs) = IsGiven c × AreGiven cs
