-- How far RLC is, and what a status report says, as a direction goes on.
use Rattle.std.proofs.Common.{◌≡◌, ℕ, Bool, true, false, if◌then◌else◌, nat_lt, List, [], ◌∷◌, length, Option}
use Rattle.std.proofs.Common.{Some, None, refl, ap, sym, ◌∙◌}
use Rattle.std.proofs.lemmas.List.{append-nil}
use Rattle.std.proofs.Math.Path.{fun_ext}
use Rattle.bearer_types.specs.declared.Event.{Event}
use Rattle.bearer_types.specs.declared.Event.TheVariants as events
use Rattle.bearer.specs.Acknowledged.State.{State}
use Rattle.journal_account.specs.Confirmed.{is_confirmed_sdu}
use Rattle.journal_account.specs.FlowEvents.{FlowEvent}
use Rattle.journal_takes.specs.TakeEvents.{PduTaken, ReportTaken}
use Rattle.journal_given.specs.Supplies.{Supply, History, histories, told, is_take, gives_other, gives, takes_pdu}
use Rattle.journal_given.specs.Supplies.{is_right_report, reports, takes_report}
use Rattle.law_bearer.specs.AnyBearer.Calls.{Call, Submit, Take, Arrive, Expire, Tick, SetDiscard}
use Rattle.law_bearer.specs.AmBearer.Calls.{tells}
use Rattle.law_rlc.specs.AmPair.Sdus.{offered, handed_up}
use Rattle.law_given.specs.Supplied.{Progress}
use Rattle.law_given.specs.SupplyLaws.{supplied_by, supplied_all, submitted_by, gathered, with_offered}
use Rattle.law_given.specs.Joined.{Direction, rlc}
use Rattle.law_given.specs.Beside.{GoesOnAs, progress}

-- ---- how far RLC is

pub progress-is : (d : Direction) (es : List FlowEvent) (p : Progress) → p.offered ≡ offered (rlc d)
    → ((k : ℕ) → p.is_confirmed k ≡ is_confirmed_sdu es k) → p.came ≡ nat_lt 0 (length (handed_up (rlc d)))
    → p ≡ progress d es
progress-is d es p q h came =
    ap (λ (l : List (List ℕ)). record p { offered = l }) q
    ∙ ap (λ (f : ℕ → Bool). record p { offered = offered (rlc d); is_confirmed = f }) (fun_ext h)
    ∙ ap (λ (b : Bool). record { offered = offered (rlc d); is_confirmed = is_confirmed_sdu es; came = b }) came

-- RLC was given more, and nothing that it was given has come or is confirmed anew
pub more-offered : (d e : Direction) (es es' : List FlowEvent) (offers : List (List ℕ)) → GoesOnAs d e offers [] []
    → ((k : ℕ) → is_confirmed_sdu es' k ≡ is_confirmed_sdu es k)
    → with_offered offers (progress d es) ≡ progress e es'
more-offered d e es es' offers g h =
    progress-is e es' (with_offered offers (progress d es)) (sym g.offered_is) (λ k. sym (h k))
    (ap (λ (l : List (List ℕ)). nat_lt 0 (length l)) (sym (g.handed_is ∙ append-nil (handed_up (rlc d)))))

pub offers-none : (d e : Direction) (ups : List (List ℕ)) (news : List ℕ) → GoesOnAs d e [] ups news
    → offered (rlc e) ≡ offered (rlc d)
offers-none d e ups news g = g.offered_is ∙ append-nil (offered (rlc d))

pub hands-none : (d e : Direction) (offers : List (List ℕ)) (news : List ℕ) → GoesOnAs d e offers [] news
    → handed_up (rlc e) ≡ handed_up (rlc d)
hands-none d e offers news g = g.handed_is ∙ append-nil (handed_up (rlc d))

pub nothing-new : (d e : Direction) (es es' : List FlowEvent) → GoesOnAs d e [] [] []
    → ((k : ℕ) → is_confirmed_sdu es' k ≡ is_confirmed_sdu es k) → progress d es ≡ progress e es'
nothing-new d e es es' g h =
    progress-is e es' (progress d es) (sym (offers-none d e [] [] g)) (λ k. sym (h k))
    (ap (λ (l : List (List ℕ)). nat_lt 0 (length l)) (sym (hands-none d e [] [] g)))

-- ---- what a status report says isn't changed by what a call tells

pdu-said : (count : Option ℕ) (len : ℕ) (s : Supply History) → (takes_pdu histories count len s).said ≡ s.said
pdu-said None len s = refl
pdu-said (Some count) len s = by (is_take histories (Some count) len s)
  where
    by : (b : Bool)
        → (if b then gives (Some count) (told histories (PduTaken count) s) else gives_other s).said ≡ s.said
    by true = refl
    by false = refl

report-said : (fms : ℕ) (bitmap : List ℕ) (s : Supply History) → (takes_report histories fms bitmap s).said ≡ s.said
report-said fms bitmap s = by (is_right_report histories fms bitmap s)
  where
    by : (b : Bool)
        → (if b then gives None (reports (told histories ReportTaken s)) else gives_other s).said ≡ s.said
    by true = refl
    by false = refl

one-said : (event : Event) (s : Supply History) → (supplied_by event s).said ≡ s.said
one-said (events.Take lcid count len) s = pdu-said count len s
one-said (events.Report lcid fms bitmap) s = report-said fms bitmap s
one-said (events.Discard lcid len) s = refl
one-said event s = refl

all-said : (told' : List Event) (s : Supply History) → (supplied_all told' s).said ≡ s.said
all-said [] s = refl
all-said (event ∷ told') s = all-said told' (supplied_by event s) ∙ one-said event s

submitted-said : (c : Call) (s : Supply History) → (submitted_by c s).said ≡ s.said
submitted-said (Submit sdu) s = refl
submitted-said (Take share held) s = refl
submitted-said (Arrive pdu) s = refl
submitted-said (Expire clock) s = refl
submitted-said Tick s = refl
submitted-said (SetDiscard ttis) s = refl

pub gathered-said : (b : State) (c : Call) (s : Supply History) → (gathered b c s).said ≡ s.said
gathered-said b c s = all-said (tells b c) (submitted_by c s) ∙ submitted-said c s
