-- Timers (TS 36.322 7.3, TS 36.323 7.2): an expiry, and the beginning of a TTI.
use Rattle.std.specs.Prelude.{ℕ, Bool, if◌then◌else◌, List, [], ◌∷◌, ◌++◌, Option, Some, None}
use Rattle.std.specs.Prelude.{length, nat_lt}
use Rattle.bearer_types.specs.declared.Event.{Event}
use Rattle.bearer_types.specs.declared.Event.TheVariants as events
use Rattle.l2_num.specs.Timers.{ends}
use Rattle.l2_types.specs.declared.Clock.{Clock}
use Rattle.l2_types.specs.declared.Clock.TheVariants.{Poll, Reorder, Prohibit}
use Rattle.rlc_pdu.specs.declared.Expired.{Expired}
use Rattle.rlc_pdu.specs.declared.Expired.TheVariants.{Done, NotRunning}
use Rattle.rlc_am_tx.specs.declared.answers.PollExpired.{PollExpired}
use Rattle.rlc_am_tx.specs.declared.answers.PollExpired.TheVariants as polls
use Rattle.rlc_am_tx.specs.Machine.{after_tick as sender_ticked, expiry as poll_expiry}
use Rattle.rlc_am_tx.specs.Machine.{after_expiry as after_poll}
use Rattle.rlc_am_rx.specs.Machine.{after_reorder, reorder_answer, after_prohibit, prohibit_answer}
use Rattle.rlc_am_rx.specs.Machine.{reorder_ticked, prohibit_ticked, prohibit_ends}
use Rattle.bearer_pdcp.specs.Discarding.{after_tick as after_discards, tick_told}
use Rattle.bearer_pdcp.specs.Telling.{expired_told}
use Rattle.bearer.specs.Acknowledged.State.{State, has_more, Work, work, with_work}
use Rattle.bearer.specs.Acknowledged.Hearing.{settled_if}

-- ---- an expiry; none where the timer doesn't run

abbrev pub poll_told : ℕ → PollExpired → Option (List Event)
poll_told lcid polls.NotRunning = None
poll_told lcid polls.Done = Some (events.Expired lcid Poll ∷ [])
poll_told lcid (polls.Limit sn) = Some (events.Expired lcid Poll ∷ events.Fail lcid sn ∷ [])

abbrev pub timer_told : ℕ → Clock → Expired → Option (List Event)
timer_told lcid clock NotRunning = None
timer_told lcid clock (Done again) = Some (expired_told lcid clock again)

abbrev pub clock_told : Clock → State → Option (List Event)
clock_told Poll s = poll_told s.pdcp.lcid (poll_expiry s.tx (has_more s.pdcp))
clock_told Reorder s = timer_told s.pdcp.lcid Reorder (reorder_answer s.rx.mark s.rx)
clock_told Prohibit s = timer_told s.pdcp.lcid Prohibit (prohibit_answer s.rx)

abbrev pub clock_left : Clock → State → State
clock_left Poll s = record s { tx = after_poll s.tx (has_more s.pdcp) }
clock_left Reorder s = record s { rx = after_reorder s.rx.mark s.rx }
clock_left Prohibit s = record s { rx = after_prohibit s.rx }

unfoldable pub expiry : State → Clock → Option (List Event)
expiry s clock = clock_told clock s

unfoldable pub after_expiry : State → Clock → State
after_expiry s clock = clock_left clock s

-- ---- a TTI begins: the timers in this order, poll, reorder, prohibit, and then the discard timers

-- a bearer, and what it has told
pub record Ticking : Type 0 where
  pub bearer : State
  pub events : List Event

abbrev pub told_of : Option (List Event) → List Event
told_of None = []
told_of (Some told) = told

abbrev pub expires_if : Bool → Clock → Ticking → Ticking
expires_if ended clock t =
    if ended then record {
      bearer = after_expiry t.bearer clock;
      events = t.events ++ told_of (expiry t.bearer clock);
    } else t

abbrev pub counts : Clock → State → State
counts Poll s = record s { tx = sender_ticked s.tx }
counts Reorder s = record s { rx = reorder_ticked s.rx }
counts Prohibit s = record s { rx = prohibit_ticked s.rx }

abbrev pub has_ended : Clock → State → Bool
has_ended Poll s = ends s.tx.polls.timer
has_ended Reorder s = ends s.rx.reorder
has_ended Prohibit s = prohibit_ends s.rx.prohibit

abbrev pub ticks : Clock → Ticking → Ticking
ticks clock t =
    expires_if (has_ended clock t.bearer) clock (record t { bearer = counts clock t.bearer })

-- behind discards the sender settles
abbrev pub discard_work : State → List Event → Work
discard_work s told =
    settled_if (nat_lt 0 (length (tick_told s.pdcp)))
    (work (after_discards s.pdcp) s.tx (told ++ tick_told s.pdcp))

abbrev pub discards : Ticking → Ticking
discards t = record {
  bearer = with_work (discard_work t.bearer t.events) t.bearer;
  events = (discard_work t.bearer t.events).events;
}

unfoldable pub ticked : State → Ticking
ticked s =
    discards (ticks Prohibit (ticks Reorder (ticks Poll (record { bearer = s; events = [] }))))
