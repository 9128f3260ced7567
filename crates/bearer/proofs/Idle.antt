-- A timer that doesn't run expires without a trace.
use Rattle.std.proofs.Common.{◌≡◌, ℕ, Bool, true, false, if◌then◌else◌, Option, Some, None, refl, ap, length}
use Rattle.std.specs.Prelude.{option_map, is_some}
use Rattle.bearer.specs.Bearer.{Of, of, Life, alive}
use Rattle.bearer.specs.declared.flow.Flow.{Flow}
use Rattle.bearer.specs.declared.flow.Flow.TheVariants.{Tm, Um, Am}
use Rattle.bearer.specs.Hearing.{expiry as flow_expiry, expired as flow_expired}
use Rattle.bearer.specs.Acknowledged.State.{State as Acknowledged, has_more}
use Rattle.bearer.specs.Acknowledged.Timing.{poll_told, timer_told, expiry as am_expiry, after_expiry as am_expired}
use Rattle.bearer.specs.Unacknowledged.Hearing.{expiry_told, expiry_left, expiry as um_expiry}
use Rattle.bearer.specs.Unacknowledged.Hearing.{after_expiry as um_expired}
use Rattle.bearer.specs.Unacknowledged.State.{State as Unacknowledged}
use Rattle.l2_num.specs.Timers.{Clock as Timer, clock as timer, ceased}
use Rattle.l2_types.specs.declared.event.Clock.{Clock}
use Rattle.l2_types.specs.declared.event.Clock.TheVariants.{Poll, Reorder, Prohibit}
use Rattle.rlc_am_rx.specs.Machine.{after_reorder, reorder_answer}
use Rattle.rlc_am_rx.specs.State.{State as Receiver}
use Rattle.rlc_am_rx.specs.Status.{is_running}
use Rattle.rlc_am_tx.specs.Machine.{State as Sender, expiry_of, expiry as poll_expiry, after_expiry as after_poll}
use Rattle.rlc_am_tx.specs.declared.answers.PollExpired.TheVariants as polls
use Rattle.rlc_pdu.specs.declared.outcome.Expired.{Expired}
use Rattle.rlc_pdu.specs.declared.outcome.Expired.TheVariants.{Done, NotRunning}
use Rattle.rlc_um.specs.Receiver.{expiring}

-- ---- an unacknowledged bearer

um_by : (e : Expired) (b : Unacknowledged) → expiry_told e b ≡ None → expiry_left e b ≡ b
um_by NotRunning b none = refl
um_by (Done again) b none = cc

um_kept : (b : Unacknowledged) (clock : Clock) → um_expiry b clock ≡ None → um_expired b clock ≡ b
unfolding um_expiry um_expired
um_kept b Poll none = refl
um_kept b Reorder none = um_by (expiring b.rx) b none
um_kept b Prohibit none = refl

-- ---- an acknowledged bearer

poll_by : (runs : Bool) (limit : Option ℕ) (lcid : ℕ) (left s : Sender)
    → poll_told lcid (if runs then expiry_of limit else polls.NotRunning) ≡ None → (if runs then left else s) ≡ s
poll_by false limit lcid left s none = refl
poll_by true None lcid left s none = cc
poll_by true (Some sn) lcid left s none = cc

poll_kept : (lcid : ℕ) (s : Sender) (more : Bool) → poll_told lcid (poll_expiry s more) ≡ None → after_poll s more ≡ s
unfolding poll_expiry after_poll
poll_kept lcid s more none = poll_by _ _ lcid _ s none

reorder_by : (mark : Option ℕ) (lcid : ℕ) (s : Receiver) → timer_told lcid Reorder (reorder_answer mark s) ≡ None
    → after_reorder mark s ≡ s
reorder_by None lcid s none = refl
reorder_by (Some x) lcid s none = cc

running_by : (left : Option ℕ) (length lcid : ℕ)
    → timer_told lcid Prohibit (if is_some left then Done false else NotRunning) ≡ None
    → timer length None ≡ timer length left
running_by None length lcid none = refl
running_by (Some n) length lcid none = cc

prohibit_by : (prohibit : Option Timer) (lcid : ℕ)
    → timer_told lcid Prohibit (if is_running prohibit then Done false else NotRunning) ≡ None
    → option_map ceased prohibit ≡ prohibit
prohibit_by None lcid none = refl
prohibit_by (Some c) lcid none = ap (λ (t : Timer). Some t) (running_by c.left c.length lcid none)

am_kept : (b : Acknowledged) (clock : Clock) → am_expiry b clock ≡ None → am_expired b clock ≡ b
unfolding am_expiry am_expired
am_kept b Poll none = ap (λ (s : Sender). record b { tx = s }) (poll_kept b.pdcp.lcid b.tx (has_more b.pdcp) none)
am_kept b Reorder none = ap (λ (s : Receiver). record b { rx = s }) (reorder_by b.rx.mark b.pdcp.lcid b.rx none)
am_kept b Prohibit none =
    ap (λ (p : Option Timer). record b { rx = record b.rx { prohibit = p } })
    (prohibit_by b.rx.prohibit b.pdcp.lcid none)

-- ---- a bearer of any kind

flow_kept : (f : Flow) (clock : Clock) → flow_expiry f clock ≡ None → flow_expired f clock ≡ f
unfolding flow_expiry flow_expired
flow_kept (Tm b) clock none = refl
flow_kept (Um b) clock none = ap Um (um_kept b clock none)
flow_kept (Am b) clock none = ap Am (am_kept b clock none)

pub bearer_kept : (b : Of Life) (clock : Clock) → b.state.dead ≡ false → flow_expiry b.state.flow clock ≡ None
    → of b.channel (alive (flow_expired b.state.flow clock)) ≡ b
bearer_kept b clock live none = rw (flow_kept b.state.flow clock none, ← live) refl
