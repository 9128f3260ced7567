-- Over any calls a sender follows the history, and tells one limit at most.
use Rattle.std.proofs.Common.{◌≡◌, inl, inr, ℕ, ◌%◌, Bool, true, false, List, [], ◌∷◌, ◌++◌, Option, Some, None}
use Rattle.std.proofs.Common.{refl, ap, sym, subst, ◌∙◌, nat_lt}
use Rattle.std.specs.Prelude.{MatchOption, option_to_list}
use Rattle.rlc_pdu.specs.declared.constants.TheConstants.{AM_MODULUS}
use Rattle.rlc_am_tx.specs.Machine.{State}
use Rattle.journal_account.specs.declared.entry.StatusEntry.{StatusEntry}
use Rattle.journal_account.specs.FlowAccount.{FlowAccount, account_of, sending_with, left_to_send}
use Rattle.journal_account.specs.FlowEvents.{FlowEvent, SduTaken, NumberWritten, OctetsResent, OctetsArrived}
use Rattle.journal_account.specs.FlowEvents.{ReorderStarted, ReorderExpired, StatusHeard, PollExpired}
use Rattle.journal_account.specs.FlowSending.{FlowSending, SentNumber, rested_in, or_over, applied_in, recalled_at}
use Rattle.journal_account.specs.FlowSending.{last_open, polled_in, is_quiet}
use Rattle.journal_account.specs.Waiting.{IsWithin, FailsAt}
use Rattle.journal_account.proofs.Accounts.{accounts_are_true}
use Rattle.law_account.specs.History.{Follows}
use Rattle.law_account.specs.HistoryRuns.{Deed, Calls, Hears, behind_deed, with_deed, limit_by, IsTrue, behind_deeds}
use Rattle.law_account.specs.HistoryRuns.{with_deeds, limits_by, AreTrue, AreLimitsOf, DeedsAreTold}
use Rattle.law_account.proofs.History.{calls_follow, arrivals_follow}
use Rattle.law_account.proofs.Telling.{LimitBy, Tells, tells_limit, quietly}

-- ---- a limit stays

kept_over : (o : Option ℕ) (n most base : ℕ) (hs : List SentNumber) → o ≡ Some n → or_over o most base hs ≡ Some n
kept_over None n most base hs e = cc
kept_over (Some m) n most base hs e = e

rested_limit : (b : Bool) (n from to : ℕ) (f : FlowSending) → (rested_in b n from to f).limit ≡ f.limit
rested_limit true n from to f = refl
rested_limit false n from to f = refl

applied_limit : (b : Bool) (ack n : ℕ) (entries : List StatusEntry) (f : FlowSending) → f.limit ≡ Some n
    → (applied_in b ack entries f).limit ≡ Some n
applied_limit true ack n entries f e = e
applied_limit false ack n entries f e = kept_over f.limit n f.most _ _ e

recalled_limit : (o : Option ℕ) (n : ℕ) (f : FlowSending) → f.limit ≡ Some n → (recalled_at o f).limit ≡ Some n
recalled_limit None n f e = e
recalled_limit (Some at) n f e = kept_over f.limit n f.most _ _ e

polled_limit : (b : Bool) (n : ℕ) (f : FlowSending) → f.limit ≡ Some n → (polled_in b f).limit ≡ Some n
polled_limit true n f e = recalled_limit (last_open 0 None f.numbers) n f e
polled_limit false n f e = e

event_limit : (e : FlowEvent) (a : FlowAccount) (n : ℕ) → a.sending.limit ≡ Some n → (sending_with e a).limit ≡ Some n
event_limit (SduTaken size) a n h = h
event_limit (NumberWritten size) a n h = h
event_limit (OctetsResent m from to) a n h = rested_limit (nat_lt m a.sending.base) m from to a.sending ∙ h
event_limit (OctetsArrived m from to) a n h = h
event_limit ReorderStarted a n h = h
event_limit ReorderExpired a n h = h
event_limit (StatusHeard ack entries) a n h = applied_limit (nat_lt ack a.sending.base) ack n entries a.sending h
event_limit (PollExpired more) a n h = polled_limit (is_quiet (left_to_send more a) a.sending) n a.sending h

deed_limit : (d : Deed) (most : ℕ) (es : List FlowEvent) (n : ℕ) → LimitBy most es ≡ Some n
    → LimitBy most (with_deed d es) ≡ Some n
deed_limit (Calls c None) most es n h = h
deed_limit (Calls c (Some e)) most es n h = event_limit e (account_of most es) n h
deed_limit (Hears e) most es n h = event_limit e (account_of most es) n h

deeds_limit : (ds : List Deed) (most : ℕ) (es : List FlowEvent) (n : ℕ) → LimitBy most es ≡ Some n
    → LimitBy most (with_deeds ds es) ≡ Some n
deeds_limit [] most es n h = h
deeds_limit (d ∷ ds) most es n h = deeds_limit ds most (with_deed d es) n (deed_limit d most es n h)

-- ---- what is told

abbrev pub due : Option ℕ → Option ℕ → List ℕ
due (Some m) is = []
due None None = []
due None (Some n) = n % AM_MODULUS ∷ []

first_due : (was mid told : Option ℕ) → Tells was mid told → option_to_list told ≡ due was mid
first_due (Some m) mid told t = ap option_to_list (t.once refl)
first_due None None told t = ap option_to_list (t.first refl)
first_due None (Some n) told t = ap option_to_list (t.first refl)

both_due : (was mid is : Option ℕ) → ((n : ℕ) → was ≡ Some n → mid ≡ Some n) → ((n : ℕ) → mid ≡ Some n → is ≡ Some n)
    → due was mid ++ due mid is ≡ due was is
both_due (Some m) None is h k = let no : None ≡ Some m = h m refl in absurd cc
both_due (Some m) (Some n) is h k = refl
both_due None None is h k = refl
both_due None (Some n) is h k = sym (ap (due None) (k n refl))

deed_follows : (most : ℕ) (d : Deed) (es : List FlowEvent) (s : State) → IsTrue es s d → Follows most es s
    → Follows most (with_deed d es) (behind_deed s d)
deed_follows most (Calls c o) es s t h = calls_follow most es s c o t h
deed_follows most (Hears e) es s t h = arrivals_follow most es s e t.0 t.1 h

deed_tells : (most : ℕ) (d : Deed) (es : List FlowEvent) (s : State) → IsTrue es s d → Follows most es s
    → Tells (LimitBy most es) (LimitBy most (with_deed d es)) (limit_by s d)
deed_tells most (Calls c o) es s t h = tells_limit most es s c o t h
deed_tells most (Hears e) es s t h =
    quietly s.failed s.failed (LimitBy most es) (LimitBy most (e ∷ es)) h.limit.failed_is
    (arrivals_follow most es s e t.0 t.1 h).limit.failed_is refl

pub deeds_follow : (most : ℕ) (ds : List Deed) (es : List FlowEvent) (s : State) → AreTrue ds es s
    → Follows most es s → Follows most (with_deeds ds es) (behind_deeds ds s)
deeds_follow most [] es s t h = h
deeds_follow most (d ∷ ds) es s t h =
    deeds_follow most ds (with_deed d es) (behind_deed s d) t.1 (deed_follows most d es s t.0 h)

-- by the limits that the account has before and behind
pub deeds_due : (most : ℕ) (ds : List Deed) (es : List FlowEvent) (s : State) → AreTrue ds es s
    → Follows most es s → limits_by ds s ≡ due (LimitBy most es) (LimitBy most (with_deeds ds es))
deeds_due most [] es s t h = sym (same (LimitBy most es))
  where
    same : (o : Option ℕ) → due o o ≡ []
    same None = refl
    same (Some n) = refl
deeds_due most (d ∷ ds) es s t h =
    let mid = with_deed d es in
    ap (λ (l : List ℕ). l ++ limits_by ds (behind_deed s d))
    (first_due (LimitBy most es) (LimitBy most mid) (limit_by s d) (deed_tells most d es s t.0 h))
    ∙ (ap (λ (l : List ℕ). due (LimitBy most es) (LimitBy most mid) ++ l)
    (deeds_due most ds mid (behind_deed s d) t.1 (deed_follows most d es s t.0 h))
    ∙ both_due (LimitBy most es) (LimitBy most mid) (LimitBy most (with_deeds ds mid))
    (λ n e. deed_limit d most es n e) (λ n e. deeds_limit ds most mid n e))

limits_of : (most : ℕ) (es now : List FlowEvent) (was is : Option ℕ)
    → MatchOption was (IsWithin most es) (FailsAt most es) → MatchOption is (IsWithin most now) (FailsAt most now)
    → AreLimitsOf most es now (due was is)
limits_of most es now (Some m) is b n = inr (m, b)
limits_of most es now None None b n = inl n
limits_of most es now None (Some m) b n = (b, (m, n, refl))

pub deeds_are_told : DeedsAreTold
deeds_are_told most ds es s t h =
    let follows = deeds_follow most ds es s t h in
    record {
      follows = follows;
      limits = subst (AreLimitsOf most es (with_deeds ds es)) (sym (deeds_due most ds es s t h))
          (limits_of most es (with_deeds ds es) (LimitBy most es) (LimitBy most (with_deeds ds es))
          (accounts_are_true most es h.history).sending.limit
          (accounts_are_true most (with_deeds ds es) follows.history).sending.limit);
    }
