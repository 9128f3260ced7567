-- The sender of a bearer fails exactly in calls that tell so, once in a life, and sends no data PDU behind it.
use Rattle.std.proofs.Common.{◌≡◌, ℕ, ◌-◌, Bool, true, false, if◌then◌else◌, Option, Some, None, List, [], ◌∷◌, refl}
use Rattle.std.proofs.Common.{ap, sym, subst, ◌∙◌}
use Rattle.bearer.specs.declared.flow.Flow.{Flow}
use Rattle.bearer.specs.declared.flow.Flow.TheVariants.{Tm, Um, Am}
use Rattle.bearer.specs.Hearing.{arriving, arrived, expiry as flow_expiry, expired as flow_expired, ticking}
use Rattle.bearer.specs.Hearing.{ticked as flow_ticked, with_discard}
use Rattle.bearer.specs.Lives.{stopped, restarted}
use Rattle.bearer.specs.Submitting.{submitted}
use Rattle.bearer.specs.Taking.{told as flow_told, after as flow_taken}
use Rattle.bearer.specs.Acknowledged.Lives.{restarted as am_restarted}
use Rattle.bearer.specs.Acknowledged.Taking.{data_told}
use Rattle.bearer.specs.Acknowledged.Timing.{poll_told, told_of}
use Rattle.law_bearer.specs.AnyBearer.Calls.{Call as BearerCall, Submit, Take, Arrive, Expire, Tick, SetDiscard}
use Rattle.law_bearer.specs.AnyBearer.Calls.{Restart, after as called, after_all, goes}
use Rattle.bearer_types.specs.declared.event.Event.{Event}
use Rattle.law_deliver.specs.AmChannel.Drained.{has_failed}
use Rattle.eps_sec.specs.declared.Keys.{Keys}
use Rattle.law_deliver.specs.AmFlow.Ups.{tells_in, tells_over}
use Rattle.rlc_am_tx.specs.declared.answers.Heard.{Heard}
use Rattle.rlc_am_tx.specs.declared.answers.Heard.TheVariants as heard_as
use Rattle.rlc_am_tx.specs.declared.answers.PollExpired.{PollExpired}
use Rattle.rlc_am_tx.specs.declared.answers.PollExpired.TheVariants as polls
use Rattle.rlc_am_tx.specs.declared.turn.Turn.{Turn}
use Rattle.rlc_am_tx.specs.declared.turn.Turn.TheVariants as turns
use Rattle.rlc_am_tx.specs.Machine.{State as Sender, turn, after_turn, with_poll, is_wanted, sent_whole, sent_segment}
use Rattle.rlc_am_tx.specs.Machine.{answer as rlc_answer, answer_of, limit_in, sent_new, read, is_ignored, limit_of}
use Rattle.rlc_am_tx.specs.Machine.{stops, ended, heard_of, applied, applied_heard, after_status, heard, recalled_place}
use Rattle.rlc_am_tx.specs.Machine.{with_recalled, with_owed, expiry_limit, expiry_of, expiry as poll_expiry}
use Rattle.rlc_am_tx.specs.Machine.{after_expiry as after_poll, expired}
use Rattle.rlc_pdu.specs.declared.pdu.Nack.{Nack}
use Rattle.rlc_pdu.specs.Pdus.{StatusPdu}
use Rattle.rlc_um.specs.Transparent.{taken as tm_taken}
use Rattle.law_run.specs.TwoEnds.SenderLog.{read_told}
use Rattle.law_run.proofs.KeptByCalls.{Seen, poll_seen, IsKept, call_kept}
use Rattle.law_run.proofs.Quiet.{Runs, runs_still, runs_sending, runs_then, runs_as}
use Rattle.law_run.proofs.Still.{stopped_still, data_unfailing, transparent_unfailing, transparent_still}
use Rattle.law_run.proofs.Still.{um_taking_unfailing, um_arriving_still, um_expiry_still, um_ticking_still}

-- ---- RLC's sender

poll_keeps : (wanted : Bool) (s : Sender) → (with_poll wanted s).failed ≡ s.failed
poll_keeps wanted s = ap (λ (v : Seen). v.failed) (poll_seen wanted s)

turn_keeps : (t : Turn) (s : Sender) (size : ℕ) (more : Bool) → (after_turn t s size more).failed ≡ s.failed
unfolding after_turn
turn_keeps turns.Whole s size more = poll_keeps (is_wanted (sent_whole s) more) (sent_whole s)
turn_keeps turns.Part s size more = poll_keeps (is_wanted (sent_segment s size) more) (sent_segment s size)
turn_keeps turns.New s size more = poll_keeps (is_wanted (sent_new s size) more) (sent_new s size)
turn_keeps turns.Idle s size more = refl
turn_keeps turns.Stopped s size more = refl
turn_keeps turns.Small s size more = refl
turn_keeps turns.Shut s size more = refl
turn_keeps turns.Held s size more = refl

-- what it hears, or its timer's expiry, makes it fail once, or leaves it as it was
abbrev Fails : Bool → Bool → Type 0
Fails before after = (before ≡ false) × (after ≡ true)

abbrev HearsBy : Heard → Bool → Bool → Type 0
HearsBy (heard_as.Limit sn) before after = Fails before after
HearsBy (heard_as.Applied stopped) before after = after ≡ before
HearsBy heard_as.Ignored before after = after ≡ before

abbrev ExpiresBy : PollExpired → Bool → Bool → Type 0
ExpiresBy (polls.Limit sn) before after = Fails before after
ExpiresBy polls.Done before after = after ≡ before
ExpiresBy polls.NotRunning before after = after ≡ before

-- the limit comes to one that hasn't failed
limit_once : (failed : Bool) (base : ℕ) (place : Option ℕ) (sn : ℕ) → limit_in failed base place ≡ Some sn
    → failed ≡ false
limit_once failed base None sn e = absurd cc
limit_once true base (Some at) sn e = absurd cc
limit_once false base (Some at) sn e = refl

ended_hears : (limit : Option ℕ) (stopped : Bool) (s : Sender) → ((sn : ℕ) → limit ≡ Some sn → s.failed ≡ false)
    → HearsBy (heard_of limit stopped) s.failed (ended limit stopped s).failed
ended_hears (Some sn) stopped s once = (once sn refl, refl)
ended_hears None true s once = refl
ended_hears None false s once = refl

status_by : (ignored : Bool) (s : Sender) (below : ℕ) (nacks : List Nack)
    → HearsBy (if ignored then heard_as.Ignored else applied_heard s below nacks) s.failed
    (if ignored then s else applied s below nacks).failed
status_by true s below nacks = refl
status_by false s below nacks =
    ended_hears (limit_of s below nacks) (stops s below nacks) (read s below nacks)
    (limit_once s.failed s.window.base _)

status_hears : (s : Sender) (p : StatusPdu) → HearsBy (heard s p) s.failed (after_status s p).failed
unfolding heard after_status
status_hears s p = status_by (is_ignored s p.ack) s _ p.nacks

recalled_keeps : (place : Option ℕ) (s : Sender) → (with_recalled place s).failed ≡ s.failed
recalled_keeps None s = refl
recalled_keeps (Some at) s = refl

ended_expires : (limit : Option ℕ) (s : Sender) → ((sn : ℕ) → limit ≡ Some sn → s.failed ≡ false)
    → ExpiresBy (expiry_of limit) s.failed (ended limit false s).failed
ended_expires (Some sn) s once = (once sn refl, refl)
ended_expires None s once = refl

expires_as : (x : PollExpired) (a b c : Bool) → a ≡ b → ExpiresBy x a c → ExpiresBy x b c
expires_as x a b c e h = subst (λ (d : Bool). ExpiresBy x d c) e h

poll_by : (runs : Bool) (s : Sender) (more : Bool)
    → ExpiresBy (if runs then expiry_of (expiry_limit s more) else polls.NotRunning) s.failed
    (if runs then ended (expiry_limit s more) false (expired s more) else s).failed
poll_by true s more =
    let same = recalled_keeps (recalled_place s more) (with_owed s) in
    expires_as (expiry_of (expiry_limit s more)) (expired s more).failed s.failed _ same
    (ended_expires (expiry_limit s more) (expired s more)
    (λ sn e. same ∙ limit_once s.failed s.window.base _ sn e))
poll_by false s more = refl

poll_expires : (s : Sender) (more : Bool) → ExpiresBy (poll_expiry s more) s.failed (after_poll s more).failed
unfolding poll_expiry after_poll
poll_expires s more = poll_by _ s more

-- one that has failed has nothing to say but that it is stopped
piece_by : (idle failed : Bool) (t : Turn) (lcid : ℕ) (s : Sender) (size : ℕ) (more : Bool)
    → Runs failed
    (data_told lcid (answer_of (if idle then turns.Idle else if failed then turns.Stopped else t) s size more)) failed
unfolding answer_of
piece_by true failed t lcid s size more = runs_still failed [] refl
piece_by false true t lcid s size more = runs_still true _ refl
piece_by false false t lcid s size more = runs_sending _ (data_unfailing lcid (answer_of t s size more))

piece_runs : (lcid : ℕ) (s : Sender) (size : ℕ) (held : Option ℕ) (more : Bool)
    → Runs s.failed (data_told lcid (rlc_answer s size held more)) s.failed
unfolding turn
piece_runs lcid s size held more = piece_by _ s.failed _ lcid s size more

read_runs : (lcid : ℕ) (h : Heard) (before after : Bool) → HearsBy h before after
    → Runs before (read_told lcid h) after
read_runs lcid heard_as.Ignored before after e = runs_as before after before before _ refl e (runs_still before _ refl)
read_runs lcid (heard_as.Limit sn) before after e =
    runs_as before after false true _ e.0 e.1 (record { quiet = tt; after_is = refl })
read_runs lcid (heard_as.Applied stopped) before after e =
    runs_as before after before before _ refl e (runs_still before _ (stopped_still lcid stopped))

poll_runs : (lcid : ℕ) (x : PollExpired) (before after : Bool) → ExpiresBy x before after
    → Runs before (told_of (poll_told lcid x)) after
poll_runs lcid polls.NotRunning before after e =
    runs_as before after before before [] refl e (runs_still before [] refl)
poll_runs lcid polls.Done before after e = runs_as before after before before _ refl e (runs_still before _ refl)
poll_runs lcid (polls.Limit sn) before after e =
    runs_as before after false true _ e.0 e.1 (record { quiet = tt; after_is = refl })

abbrev SenderRuns : Seen → List Event → Seen → Type 0
SenderRuns v told w = Runs v.failed told w.failed

sender_runs : IsKept SenderRuns
sender_runs = record {
  still = λ v told quiet. runs_still v.failed told quiet;
  both = λ a b c xs ys p q. runs_then a.failed b.failed c.failed xs ys p q;
  sends = λ lcid s size held more.
      let t = turn s size held more in
      runs_as s.failed (after_turn t s size more).failed s.failed s.failed _ refl (turn_keeps t s size more)
      (piece_runs lcid s size held more);
  reads = λ lcid s p. read_runs lcid (heard s p) s.failed _ (status_hears s p);
  expires = λ lcid s more. poll_runs lcid (poll_expiry s more) s.failed _ (poll_expires s more);
}

-- ---- any call of a bearer

call_runs : (l : ℕ) (f : Flow) (c : BearerCall) → Runs (has_failed f) (tells_in l f c) (has_failed (called f c))
unfolding submitted flow_told flow_taken arriving arrived flow_expiry flow_expired ticking flow_ticked with_discard
call_runs l (Tm b) (Submit sdu) = runs_still false [] refl
call_runs l (Tm b) (Take share held) = runs_sending _ (transparent_unfailing l (tm_taken b (share - 3)))
call_runs l (Tm b) (Arrive pdu) = runs_still false _ (transparent_still l pdu)
call_runs l (Tm b) (Expire clock) = runs_still false [] refl
call_runs l (Tm b) Tick = runs_still false [] refl
call_runs l (Tm b) (SetDiscard ttis) = runs_still false [] refl
call_runs l (Um b) (Submit sdu) = runs_still false [] refl
call_runs l (Um b) (Take share held) = runs_sending _ (um_taking_unfailing b share held)
call_runs l (Um b) (Arrive pdu) = runs_still false _ (um_arriving_still b pdu)
call_runs l (Um b) (Expire clock) = runs_still false _ (um_expiry_still b clock)
call_runs l (Um b) Tick = runs_still false _ (um_ticking_still b)
call_runs l (Um b) (SetDiscard ttis) = runs_still false [] refl
call_runs l (Am b) c =
    let x = call_kept SenderRuns sender_runs l b c in
    subst (λ (f : Flow). Runs b.tx.failed (tells_in l (Am b) c) (has_failed f)) (sym x.flow_is) x.kept

pub calls_run : (l : ℕ) (f : Flow) (cs : List BearerCall)
    → Runs (has_failed f) (tells_over l f cs) (has_failed (after_all f cs))
calls_run l f [] = runs_still (has_failed f) [] refl
calls_run l f (c ∷ cs) =
    runs_then (has_failed f) (has_failed (called f c)) (has_failed (after_all (called f c) cs)) (tells_in l f c)
    (tells_over l (called f c) cs) (call_runs l f c) (calls_run l (called f c) cs)

-- a new life begins unfailed
pub life_unfailed : (f : Flow) (keys : Keys) → has_failed (goes f (Restart keys)) ≡ false
unfolding stopped restarted am_restarted
life_unfailed (Tm b) keys = refl
life_unfailed (Um b) keys = refl
life_unfailed (Am b) keys = refl
