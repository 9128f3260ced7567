-- Nothing but a STATUS confirms an SDU.
use Rattle.std.proofs.Common.{◌≡◌, ℕ, ◌+◌, Bool, true, false, if◌then◌else◌, ◌∷◌, Option, refl, ap, sym, ◌∙◌, arith}
use Rattle.journal_account.specs.Confirmed.{is_confirmed_sdu}
use Rattle.journal_account.specs.FlowEvents.{FlowEvent}
use Rattle.law_rlc.specs.AmSender.Run.{Call, Offer, Take, Status, Tick, Expire, Settle, Confirm}
use Rattle.law_rlc.specs.AmSender.Confirmed.{times, places}
use Rattle.law_account.specs.HistoryRuns.{Calls, Hears}
use Rattle.law_account.specs.History.{with_told}
use Rattle.law_account.proofs.History.{arrivals_follow}
use Rattle.law_rlc.specs.AmPair.Confirmed.{confirmations}
use Rattle.law_rlc.specs.AmPair.Flow.{sender}
use Rattle.law_given.specs.Confirming.{IsNoStatus, OnlyStatusesConfirm, ConfirmedStays}
use Rattle.law_rlc.proofs.AmPair.Confirming.{ConfirmsNone, call-places}
use Rattle.law_rlc.proofs.AmSender.Confirms.{confirms}
use Rattle.law_rlc.proofs.AmSender.Credits.{times-append}
use Rattle.law_given.proofs.Confirming.{all_confirmed, call_confirmed}
use Rattle.law_given.proofs.ConfirmingRuns.{quiet_sdus, quiet_fields, receiver_quiet}

no_status : (c : Call) (o : Option FlowEvent) → IsNoStatus (Calls c o) → ConfirmsNone c
no_status (Offer sdu) o n = tt
no_status (Take size held more) o n = tt
no_status (Status status) o n = absurd n
no_status Tick o n = tt
no_status (Expire more) o n = tt
no_status (Settle more) o n = tt
no_status Confirm o n = tt

abbrev pub one : Bool → ℕ
one b = if b then 1 else 0

pub same_one : (a b : Bool) → one a ≡ one b → a ≡ b
same_one true true e = refl
same_one true false e = cc
same_one false true e = cc
same_one false false e = refl

pub only_statuses_confirm : OnlyStatusesConfirm
only_statuses_confirm most f es (Calls c o) h follows told n k =
    same_one (is_confirmed_sdu (with_told o es) k) (is_confirmed_sdu es k)
    (sym (call_confirmed most f es c o h follows told k)
    ∙ (ap (times k) (call-places (confirmations f).state c (confirmations f).past (no_status c o n))
    ∙ all_confirmed most f es h follows k))
only_statuses_confirm most f es (Hears e) h follows (is, may) n k =
    same_one (is_confirmed_sdu (e ∷ es) k) (is_confirmed_sdu es k)
    (sym (all_confirmed most f (e ∷ es)
    (record {
      octets = h.octets;
      sdus = quiet_sdus e es (receiver_quiet e is) ∙ h.sdus;
      fields = quiet_fields e es (receiver_quiet e is) ∙ h.fields;
    })
    (arrivals_follow most es (sender f).state e is may follows) k)
    ∙ all_confirmed most f es h follows k)

-- ---- what is confirmed stays so

pub stays_one : (a b : Bool) (n later : ℕ) → n ≡ one a → n + later ≡ one b → a ≡ true → b ≡ true
stays_one a true n later e g is = refl
stays_one a false n later e g is = let some = ap one is in absurd (omega (arith, e, g, some))

pub confirmed_stays : ConfirmedStays
confirmed_stays most f es (Calls c o) h follows told k is =
    let w = confirmations f in
    let order = (confirms f.sending f.sent).order c in
    stays_one (is_confirmed_sdu es k) (is_confirmed_sdu (with_told o es) k) (times k (places w.state w.past))
    (times k order.0) (all_confirmed most f es h follows k)
    (sym (times-append k (places w.state w.past) order.0)
    ∙ (sym (ap (times k) order.1.0) ∙ call_confirmed most f es c o h follows told k)) is
confirmed_stays most f es (Hears e) h follows true' k is =
    only_statuses_confirm most f es (Hears e) h follows true' tt k ∙ is
