-- The limit that a call tells is that of the history.
use Rattle.std.proofs.Common.{◌≡◌, ℕ, Bool, true, false, inl, inr, List, Option, Some, None, is_some, refl, ap, sym}
use Rattle.std.proofs.Common.{subst, ◌∙◌, if◌then◌else◌}
use Rattle.std.specs.Prelude.{MatchOption}
use Rattle.l2_num.specs.Timers.{runs}
use Rattle.rlc_pdu.specs.Pdus.{StatusPdu}
use Rattle.rlc_am_tx_window.specs.Window.{offset_of, spent_among}
use Rattle.rlc_am_tx.specs.declared.Heard.TheVariants as hears
use Rattle.rlc_am_tx.specs.declared.PollExpired.TheVariants as expires
use Rattle.rlc_am_tx.specs.Machine.{State, turn, is_ignored, applied_heard, heard, heard_of, stops, read_window}
use Rattle.rlc_am_tx.specs.Machine.{limit_in, expiry, expiry_of, expiry_limit, spent_at, expired, recalled_place}
use Rattle.rlc_am_tx.specs.Machine.{settles, settled_by}
use Rattle.journal_account.specs.FlowAccount.{account_of, left_to_send}
use Rattle.journal_account.specs.FlowEvents.{FlowEvent, PollExpired}
use Rattle.journal_account.specs.Waiting.{IsWithin, FailsAt}
use Rattle.journal_account.proofs.Accounts.{accounts_are_true}
use Rattle.law_rlc.specs.AmSender.Run.{Call, Offer, Take, Status, Tick, Expire, Settle, Confirm, after}
use Rattle.law_rlc.proofs.AmSender.Limits.{turn-failed}
use Rattle.law_account.specs.History.{IsTold, with_told, Follows, limit_told, IsLimitOf, CallsTellLimits}
use Rattle.law_account.specs.Limit.{limit_heard, limit_expired, sn_of}
use Rattle.law_account.proofs.History.{calls_follow, left_is}
use Rattle.law_account.proofs.Limit.{status_limited, expiry_limited, in_failed, none_limit}

-- a sender tells the limit as the account finds it, and once
pub record Tells (was is told : Option ℕ) : Type 0 where
  pub first : was ≡ None → told ≡ sn_of is
  pub once : is_some was ≡ true → told ≡ None

pub limit_of_history : (most : ℕ) (es now : List FlowEvent) (was is told : Option ℕ)
    → MatchOption was (IsWithin most es) (FailsAt most es) → MatchOption is (IsWithin most now) (FailsAt most now)
    → Tells was is told → IsLimitOf most es now told
limit_of_history most es now (Some m) is told b n t =
    subst (IsLimitOf most es now) (sym (t.once refl)) (inr (m, b))
limit_of_history most es now None None told b n t = subst (IsLimitOf most es now) (sym (t.first refl)) (inl n)
limit_of_history most es now None (Some m) told b n t =
    subst (IsLimitOf most es now) (sym (t.first refl)) (b, (m, n, refl))

-- ---- nothing is told

none_is : (o : Option ℕ) → false ≡ is_some o → sn_of o ≡ None
none_is o e = ap sn_of (none_limit o e)

pub quietly : (before now : Bool) (was is : Option ℕ) → before ≡ is_some was → now ≡ is_some is → now ≡ before
    → Tells was is None
quietly before now was is b n same = record {
  first = λ e. sym (none_is is (sym (ap is_some e) ∙ (sym b ∙ (sym same ∙ n))));
  once = λ e. refl;
}

-- ---- a call that may tell it

agreed : (before : Bool) (was is told : Option ℕ) → before ≡ is_some was → (before ≡ false → told ≡ sn_of is)
    → (before ≡ true → told ≡ None) → Tells was is told
agreed before was is told b first once = record {
  first = λ e. first (b ∙ ap is_some e);
  once = λ e. once (b ∙ e);
}

none_again : (failed : Bool) (base : ℕ) (o : Option ℕ) → failed ≡ true → limit_in failed base o ≡ None
none_again failed base o e = ap (λ (b : Bool). limit_in b base o) e ∙ in_failed base o

quiet_status : (s : State) (status : StatusPdu) → s.failed ≡ true → limit_heard (heard s status) ≡ None
unfolding heard
quiet_status s status e = by (is_ignored s status.ack)
  where
    below : ℕ
    below = offset_of s.window.base status.ack

    by : (b : Bool)
        → limit_heard (if b then hears.Ignored else applied_heard s below status.nacks) ≡ None
    by true = refl
    by false =
        ap (λ (l : Option ℕ). limit_heard (heard_of l (stops s below status.nacks)))
        (none_again s.failed s.window.base (spent_among s.window.base s.config.max_retx
        (read_window s below status.nacks).slots None status.nacks) e)

quiet_expiry : (s : State) (more : Bool) → s.failed ≡ true → limit_expired (expiry s more) ≡ None
unfolding expiry
quiet_expiry s more e = by (runs s.polls.timer)
  where
    by : (b : Bool)
        → limit_expired (if b then expiry_of (expiry_limit s more) else expires.NotRunning) ≡ None
    by true =
        ap (λ (l : Option ℕ). limit_expired (expiry_of l))
        (none_again s.failed s.window.base (spent_at (recalled_place s more) (expired s more)) e)
    by false = refl

idle_limit : (s : State) (more : Bool) → runs s.polls.timer ≡ false → limit_expired (expiry s more) ≡ None
unfolding expiry
idle_limit s more off = rw off refl

-- ---- any call

abbrev pub LimitBy : ℕ → List FlowEvent → Option ℕ
LimitBy most es = (account_of most es).sending.limit

settled_failed : (b : Bool) (s : State) → (settled_by b s).failed ≡ s.failed
settled_failed true s = refl
settled_failed false s = refl

-- one by which nothing fails
without_limit : (most : ℕ) (es : List FlowEvent) (s : State) (c : Call) (o : Option FlowEvent) → IsTold s c o
    → (after s c).failed ≡ s.failed → Follows most es s
    → Tells (LimitBy most es) (LimitBy most (with_told o es)) None
without_limit most es s c o told same h =
    quietly s.failed (after s c).failed (LimitBy most es) (LimitBy most (with_told o es)) h.limit.failed_is
    (calls_follow most es s c o told h).limit.failed_is same

tells : (es : List FlowEvent) (s : State) (c : Call) (o : Option FlowEvent) → IsTold s c o
    → Follows s.config.max_retx es s
    → Tells (LimitBy s.config.max_retx es) (LimitBy s.config.max_retx (with_told o es)) (limit_told s c)
tells es s (Offer sdu) o told h = without_limit s.config.max_retx es s (Offer sdu) o told refl h
tells es s (Take size held more) o told h =
    without_limit s.config.max_retx es s (Take size held more) o told
    (turn-failed (turn s size held more) s size more) h
tells es s (Status status) o told h =
    let f = (account_of s.config.max_retx es).sending in
    let agree = status_limited s f status told.0 told.1 told.2 h.window h.limit in
    subst (λ (p : Option FlowEvent). Tells (LimitBy s.config.max_retx es)
    (LimitBy s.config.max_retx (with_told p es)) (limit_heard (heard s status))) (sym told.3)
    (agreed s.failed (LimitBy s.config.max_retx es) _ (limit_heard (heard s status)) h.limit.failed_is agree.told_is
    (quiet_status s status))
tells es s Tick o told h = without_limit s.config.max_retx es s Tick o told refl h
tells es s (Expire more) o told h =
    subst (λ (p : Option FlowEvent). Tells (LimitBy s.config.max_retx es)
    (LimitBy s.config.max_retx (with_told p es)) (limit_expired (expiry s more))) (sym told)
    (by (runs s.polls.timer) refl)
  where
    by : (b : Bool) → runs s.polls.timer ≡ b → Tells (LimitBy s.config.max_retx es)
        (LimitBy s.config.max_retx (with_told (if b then Some (PollExpired more) else None) es))
        (limit_expired (expiry s more))
    by true e =
        let a = account_of s.config.max_retx es in
        let agree = expiry_limited s a.sending more (left_to_send more a) e (left_is more a s.queue.sdus h.queue)
        h.window h.limit in
        agreed s.failed (LimitBy s.config.max_retx es) _ (limit_expired (expiry s more)) h.limit.failed_is
        agree.told_is (quiet_expiry s more)
    by false e =
        subst (Tells (LimitBy s.config.max_retx es) (LimitBy s.config.max_retx es)) (sym (idle_limit s more e))
        (quietly s.failed s.failed (LimitBy s.config.max_retx es) (LimitBy s.config.max_retx es) h.limit.failed_is
        h.limit.failed_is refl)
tells es s (Settle more) o told h =
    without_limit s.config.max_retx es s (Settle more) o told (settled_failed (settles s more) s) h
tells es s Confirm o told h = without_limit s.config.max_retx es s Confirm o told refl h

pub tells_limit : (most : ℕ) (es : List FlowEvent) (s : State) (c : Call) (o : Option FlowEvent) → IsTold s c o
    → Follows most es s → Tells (LimitBy most es) (LimitBy most (with_told o es)) (limit_told s c)
tells_limit most es s c o told h =
    subst (λ (m : ℕ). Follows m es s → Tells (LimitBy m es) (LimitBy m (with_told o es)) (limit_told s c)) h.most_is
    (tells es s c o told) h

pub calls_tell_limits : CallsTellLimits
calls_tell_limits most es s c o told h =
    limit_of_history most es (with_told o es) (LimitBy most es) (LimitBy most (with_told o es)) (limit_told s c)
    (accounts_are_true most es h.history).sending.limit
    (accounts_are_true most (with_told o es) (calls_follow most es s c o told h).history).sending.limit
    (tells_limit most es s c o told h)
