-- Through a life a sender keeps the first COUNT that was unconfirmed as it began.
use Rattle.std.proofs.Common.{◌≡◌, ◌≤◌, ℕ, ◌+◌, ◌-◌, ◌^◌, List, [], ◌∷◌, refl, ap, sym, ◌∙◌, subst}
use Rattle.pdcp_rx.specs.Heard.{Heard, Bad, Told, Data, heard}
use Rattle.pdcp_tx.specs.Runs.{Take, Confirm, Report}
use Rattle.pdcp_tx.specs.State.{State as Sending}
use Rattle.bearer.specs.Acknowledged.State.{State}
use Rattle.bearer.specs.declared.flow.Flow.TheVariants.{Am}
use Rattle.law_bearer.specs.AmBearer.Calls.{deeds_of}
use Rattle.law_bearer.specs.AmBearer.Deeds.{Deed, Feeds, Sends, Confirms, Receives, HandsUp, Asks, Sets, does, does_all}
use Rattle.law_bearer.specs.AmBearer.Deeds.{after_heard, confirms_first, hands_first}
use Rattle.law_bearer.proofs.AmBearer.Calls.{calls_are_deeds}
use Rattle.law_given.specs.Landing.{WindowsStay}
use Rattle.law_given.proofs.JoinedReports.{call_alike}

heard-base : (h : Heard) (x : Sending) → (after_heard h x).base ≡ x.base
heard-base (Bad refusal) x = refl
heard-base (Told fms bitmap) x = (call_alike x (Report fms bitmap)).base
heard-base (Data sn body) x = refl

confirms-base : (places : List ℕ) (b : State) → (confirms_first places b).pdcp.tx.base ≡ b.pdcp.tx.base
confirms-base [] b = refl
confirms-base (place ∷ places) b = (call_alike b.pdcp.tx (Confirm place)).base

hands-base : (pdus : List (List ℕ)) (b : State) → (hands_first pdus b).pdcp.tx.base ≡ b.pdcp.tx.base
hands-base [] b = refl
hands-base (pdu ∷ pdus) b = heard-base (heard b.pdcp.rx.kind pdu) b.pdcp.tx

does-base : (b : State) (deed : Deed) → (does b deed).pdcp.tx.base ≡ b.pdcp.tx.base
does-base b Feeds = (call_alike b.pdcp.tx Take).base
does-base b (Sends c) = refl
does-base b Confirms = confirms-base b.tx.accounts.news b
does-base b (Receives c) = refl
does-base b HandsUp = hands-base b.rx.out.ready b
does-base b (Asks c) = (call_alike b.pdcp.tx c).base
does-base b (Sets ttis) = refl

all-base : (deeds : List Deed) (b : State) → (does_all deeds b).pdcp.tx.base ≡ b.pdcp.tx.base
all-base [] b = refl
all-base (deed ∷ deeds) b = all-base deeds (does b deed) ∙ does-base b deed

pub windows_stay : WindowsStay
windows_stay bits b d c said k idle e w =
    let x = calls_are_deeds bits b c k idle in
    let both : Am (does_all (deeds_of b c) b) ≡ Am d = sym x.left ∙ e in
    let same : does_all (deeds_of b c) b ≡ d = cc in
    let base : d.pdcp.tx.base ≡ b.pdcp.tx.base =
    sym (ap (λ (y : State). y.pdcp.tx.base) same) ∙ all-base (deeds_of b c) b in
    record {
      from = subst (λ (n : ℕ). n ≤ said.next) (sym base) w.from;
      to = subst (λ (n : ℕ). said.next ≤ n + 2 ^ (bits - 1)) (sym base) w.to;
    }
