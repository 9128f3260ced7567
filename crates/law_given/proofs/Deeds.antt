-- What the deeds of an acknowledged data bearer are to its PDCP sender.
use Rattle.std.proofs.Common.{◌≡◌, ℕ, List, [], ◌∷◌, Option, Some, None, refl, ap, sym, ◌∙◌}
use Rattle.pdcp_rx.specs.Heard.{Heard, Bad, Told, Data, heard}
use Rattle.pdcp_tx.specs.Runs.{Call as PdcpCall, Submit, Take, Confirm, Report, Owe, Tick, Late}
use Rattle.pdcp_tx.specs.State.{State as Sending, fms_count, submitted, took, confirmed, reported, reported_from}
use Rattle.pdcp_tx.specs.State.{ticked, after_late}
use Rattle.bearer.specs.Acknowledged.State.{State}
use Rattle.law_bearer.specs.AmBearer.Deeds.{Feeds, Sends, Receives, HandsUp, Confirms as HandsOver, Asks, Sets}
use Rattle.law_bearer.specs.AmBearer.Deeds.{confirms_first, hands_first, after_heard}
use Rattle.law_takes.specs.Histories.{Run, behind_all, ArePossible}
use Rattle.law_given.proofs.SupplySaid.{marks-tell}
use Rattle.law_given.specs.Deeds.{report_heard, pdu_heard, first_heard, first_confirmed, IsAsked, TakesAlike}
use Rattle.law_given.specs.Deeds.{DeedsTakeAlike}

-- ---- a PDU is heard

report-left : (r : Run) (s : Sending) (o : Option ℕ) (fms : ℕ) (bitmap : List ℕ) → r.sender ≡ s
    → fms_count s.kind s.base fms ≡ o
    → (behind_all r (report_heard o fms bitmap)).sender ≡ reported s fms bitmap
unfolding reported
report-left r s None fms bitmap e q = e ∙ sym (ap (λ (o : Option ℕ). reported_from o s bitmap) q)
report-left r s (Some from) fms bitmap e q =
    ap (λ (x : Sending). reported_from (fms_count x.kind x.base fms) x bitmap) e

pdu-left : (r : Run) (s : Sending) (h : Heard) → r.sender ≡ s
    → (behind_all r (pdu_heard h s)).sender ≡ after_heard h s
pdu-left r s (Bad refusal) e = e
pdu-left r s (Told fms bitmap) e = report-left r s (fms_count s.kind s.base fms) fms bitmap e refl
pdu-left r s (Data sn body) e = e

report-possible : (r : Run) (s : Sending) (o : Option ℕ) (fms : ℕ) (bitmap : List ℕ) → r.sender ≡ s
    → fms_count s.kind s.base fms ≡ o → ArePossible r (report_heard o fms bitmap)
report-possible r s None fms bitmap e q = tt
report-possible r s (Some from) fms bitmap e q =
    let read : fms_count r.sender.kind r.sender.base fms ≡ Some from =
    ap (λ (x : Sending). fms_count x.kind x.base fms) e ∙ q in
    (record { read = read; marked = λ count le lt. marks-tell bitmap from count le }, tt)

pdu-possible : (r : Run) (s : Sending) (h : Heard) → r.sender ≡ s → ArePossible r (pdu_heard h s)
pdu-possible r s (Bad refusal) e = tt
pdu-possible r s (Told fms bitmap) e = report-possible r s (fms_count s.kind s.base fms) fms bitmap e refl
pdu-possible r s (Data sn body) e = tt

-- ---- a deed

asked-alike : (r : Run) (b : State) (c : PdcpCall) → IsAsked c → r.sender ≡ b.pdcp.tx → TakesAlike r b (Asks c)
asked-alike r b (Submit sdu) w e = record { left = ap (λ (x : Sending). submitted x sdu) e; possible = (tt, tt) }
asked-alike r b Take w e = record { left = ap (λ (x : Sending). took x) e; possible = (tt, tt) }
asked-alike r b (Confirm place) w e =
    record { left = ap (λ (x : Sending). confirmed x place) e; possible = (tt, tt) }
asked-alike r b (Report fms bitmap) w e = record {
  left = pdu-left r b.pdcp.tx (Told fms bitmap) e;
  possible = pdu-possible r b.pdcp.tx (Told fms bitmap) e;
}
asked-alike r b (Owe report) w e = absurd w
asked-alike r b Tick w e = record { left = ap (λ (x : Sending). ticked x) e; possible = (tt, tt) }
asked-alike r b Late w e = record { left = ap (λ (x : Sending). after_late x) e; possible = (tt, tt) }

confirms-left : (r : Run) (b : State) (places : List ℕ) → r.sender ≡ b.pdcp.tx
    → (behind_all r (first_confirmed places)).sender ≡ (confirms_first places b).pdcp.tx
confirms-left r b [] e = e
confirms-left r b (place ∷ places) e = ap (λ (x : Sending). confirmed x place) e

confirms-possible : (r : Run) (places : List ℕ) → ArePossible r (first_confirmed places)
confirms-possible r [] = tt
confirms-possible r (place ∷ places) = (tt, tt)

hands-left : (r : Run) (b : State) (pdus : List (List ℕ)) → r.sender ≡ b.pdcp.tx
    → (behind_all r (first_heard pdus b.pdcp.rx b.pdcp.tx)).sender ≡ (hands_first pdus b).pdcp.tx
hands-left r b [] e = e
hands-left r b (pdu ∷ pdus) e = pdu-left r b.pdcp.tx (heard b.pdcp.rx.kind pdu) e

hands-possible : (r : Run) (b : State) (pdus : List (List ℕ)) → r.sender ≡ b.pdcp.tx
    → ArePossible r (first_heard pdus b.pdcp.rx b.pdcp.tx)
hands-possible r b [] e = tt
hands-possible r b (pdu ∷ pdus) e = pdu-possible r b.pdcp.tx (heard b.pdcp.rx.kind pdu) e

pub deeds_take_alike : DeedsTakeAlike
deeds_take_alike r b Feeds w e = record { left = ap (λ (x : Sending). took x) e; possible = (tt, tt) }
deeds_take_alike r b (Sends c) w e = record { left = e; possible = tt }
deeds_take_alike r b HandsOver w e = record {
  left = confirms-left r b b.tx.accounts.news e;
  possible = confirms-possible r b.tx.accounts.news;
}
deeds_take_alike r b (Receives c) w e = record { left = e; possible = tt }
deeds_take_alike r b HandsUp w e = record {
  left = hands-left r b b.rx.out.ready e;
  possible = hands-possible r b b.rx.out.ready e;
}
deeds_take_alike r b (Asks c) w e = asked-alike r b c w e
deeds_take_alike r b (Sets ttis) w e =
    record { left = ap (λ (x : Sending). record x { discard = Some ttis }) e; possible = (tt, tt) }
