-- What happens at the flow's receiver in a step of a life makes nothing fail.
use Rattle.std.proofs.Common.{◌≡◌, ℕ, List, [], ◌∷◌, ◌++◌, Result, Ok, Err, refl, ap, sym, subst, ◌∙◌, append_assoc}
use Rattle.std.specs.List.{AllByRecursion}
use Rattle.journal_account.specs.FlowEvents.{FlowEvent, IsHistory, ReorderStarted, ReorderExpired}
use Rattle.journal_failure.specs.RightFailure.{AreFailsOf}
use Rattle.law_account.specs.History.{IsOfReceiver}
use Rattle.law_deliver.specs.AmFlow.Carrying.{CarriedPdu, Numbered, Reported}
use Rattle.law_deliver.specs.AmFlow.Reordering.{Reordering, Starts, Expires}
use Rattle.rlc_pdu.specs.declared.fault.RlcRefusal.{RlcRefusal}
use Rattle.rlc_pdu.specs.Pdus.{AcknowledgedPdu, Payload, Status as Control}
use Rattle.rlc_pdu.specs.Reading.{am_at}
use Rattle.law_sound.specs.CarriedLaws.{with_read, with_data, with_all_data}
use Rattle.law_sound.specs.HearingLaws.{with_reordering, octets_of}
use Rattle.law_sound.proofs.JoiningFails.{receivers_fail_none}

-- only events of the receiver are behind
pub record HearsOnly (es now : List FlowEvent) : Type 0 where
  pub more : List FlowEvent
  pub all : AllByRecursion IsOfReceiver more
  pub are : now ≡ more ++ es

none_behind : (es : List FlowEvent) → HearsOnly es es
none_behind es = record { more = []; all = tt; are = refl }

all_both : (xs ys : List FlowEvent) → AllByRecursion IsOfReceiver xs → AllByRecursion IsOfReceiver ys
    → AllByRecursion IsOfReceiver (xs ++ ys)
all_both [] ys h k = k
all_both (x ∷ xs) ys h k = (h.0, all_both xs ys h.1 k)

behind_both : (es mid now : List FlowEvent) → HearsOnly es mid → HearsOnly mid now → HearsOnly es now
behind_both es mid now h k = record {
  more = k.more ++ h.more;
  all = all_both k.more h.more k.all h.all;
  are = k.are ∙ (ap (λ (zs : List FlowEvent). k.more ++ zs) h.are ∙ sym (append_assoc k.more h.more es));
}

timer_hears : (rs : List Reordering) (es : List FlowEvent) → HearsOnly es (with_reordering rs es)
timer_hears [] es = none_behind es
timer_hears (Starts ∷ rs) es =
    behind_both es (ReorderStarted ∷ es) (with_reordering rs (ReorderStarted ∷ es))
    (record { more = ReorderStarted ∷ []; all = (tt, tt); are = refl }) (timer_hears rs (ReorderStarted ∷ es))
timer_hears (Expires ∷ rs) es =
    behind_both es (ReorderExpired ∷ es) (with_reordering rs (ReorderExpired ∷ es))
    (record { more = ReorderExpired ∷ []; all = (tt, tt); are = refl }) (timer_hears rs (ReorderExpired ∷ es))

data_hears : (p : CarriedPdu) (es : List FlowEvent) → HearsOnly es (with_data p es)
data_hears (Reported r) es = none_behind es
data_hears (Numbered c) es = by (am_at c.octets)
  where
    by : (r : Result AcknowledgedPdu RlcRefusal) → HearsOnly es (with_read c r es)
    by (Ok (Payload pdu)) = record { more = octets_of c pdu ∷ []; all = (tt, tt); are = refl }
    by (Ok (Control pdu)) = none_behind es
    by (Err refused) = none_behind es

pdus_hear : (ps : List CarriedPdu) (es : List FlowEvent) → HearsOnly es (with_all_data ps es)
pdus_hear [] es = none_behind es
pdus_hear (p ∷ ps) es =
    behind_both es (with_data p es) (with_all_data ps (with_data p es)) (data_hears p es)
    (pdus_hear ps (with_data p es))

-- of what comes, and of what is told of t-Reordering
pub heard_only : (rs : List Reordering) (ps : List CarriedPdu) (es : List FlowEvent)
    → HearsOnly es (with_reordering rs (with_all_data ps es))
heard_only rs ps es =
    behind_both es (with_all_data ps es) (with_reordering rs (with_all_data ps es)) (pdus_hear ps es)
    (timer_hears rs (with_all_data ps es))

pub heard_fail_none : (most : ℕ) (es now : List FlowEvent) → HearsOnly es now → IsHistory now
    → AreFailsOf most es now []
heard_fail_none most es now h history =
    subst (λ (xs : List FlowEvent). AreFailsOf most es xs []) (sym h.are)
    (receivers_fail_none most es h.more h.all (subst IsHistory h.are history))
