-- RLC's sender: a STATUS comes to it, it hands over what is confirmed, and it settles.
use Rattle.std.proofs.Common.{◌≡◌, ℕ, Bool, false, List, [], ◌∷◌, ◌++◌, map, length, Option, Some, Result, Ok}
use Rattle.std.proofs.Common.{slice_get, append-nil, refl, ap, sym, subst, ◌∙◌}
use Rattle.pdcp_tx.specs.declared.sender.Next.{Next}
use Rattle.pdcp_tx.specs.Runs.{Confirm as ConfirmPlace, after}
use Rattle.pdcp_tx.specs.State.{State as Sending, confirmed}
use Rattle.rlc_pdu.specs.declared.RlcRefusal.{RlcRefusal}
use Rattle.rlc_pdu.specs.Pdus.{AcknowledgedPdu, StatusPdu, Status as Control}
use Rattle.rlc_pdu.specs.Reading.{am_at}
use Rattle.rlc_am_tx.specs.Machine.{State as Sender, after_status}
use Rattle.law_rlc.specs.AmSender.Run.{Status, Settle, Confirm, World as SenderWorld, after as sender_after}
use Rattle.law_rlc.specs.AmSender.Octets.{Octets}
use Rattle.law_rlc.specs.AmPair.Flow.{Report, Flow as Rlc, Step as RlcStep, Sends, StatusComes, sender, status_read}
use Rattle.law_rlc.specs.AmPair.Flow.{status_comes, happens as rlc_happens}
use Rattle.law_rlc.specs.AmPair.Given.{IsGiven}
use Rattle.law_rlc.specs.AmPair.Confirmed.{confirmed as confirmed_of}
use Rattle.law_rlc.specs.AmPair.Sdus.{offered, handed_up}
use Rattle.law_rlc.specs.AmPair.Arrives.{brings}
use Rattle.law_rlc.specs.AmPair.Steps.{takes_up, offers}
use Rattle.law_rlc.proofs.AmPair.Confirming.{IsSilent, step-confirms, status-confirms}
use Rattle.law_rlc.proofs.AmPair.Sound.{IsSound}
use Rattle.law_rlc.proofs.AmPair.Runs.{sender-more}
use Rattle.law_rlc.proofs.AmPair.Laws.{sound}
use Rattle.law_rlc.proofs.AmPair.ByPlace.{confirms-arrived}
use Rattle.law_rlc.proofs.AmPair.Later.{arrivals-same}
use Rattle.law_rlc.proofs.AmPair.Steps.{goes-up, step-offers}
use Rattle.law_rlc.specs.AmArrival.Arrival.{passed}
use Rattle.law_pdcp.specs.AmPair.Flow.{Flow as Pdcp, Sends as PdcpSends, run_am_pdcp}
use Rattle.law_deliver.proofs.AmFlow.Standing.{Stands, or_none}
use Rattle.law_deliver.proofs.AmFlow.Sending.{sent_one}
use Rattle.promises.specs.Given.{entries_passed}
use Rattle.law_deliver.proofs.AmDelivery.Accounts.{told_of, tells_passing}
use Rattle.law_deliver.proofs.AmDelivery.Joined.{Way, IsWay, rlc, pdcp}
use Rattle.law_deliver.proofs.AmDelivery.Meeting.{Standing, Meets, MeetsNow, none_changes, Extends}

-- ---- a step of RLC that brings no data, hands up nothing and offers nothing, and what it confirms

record IsQuiet (f : Rlc) (step : RlcStep) (news : List ℕ) : Type 0 where
  given : IsGiven f step
  brings_none : brings step ≡ false
  takes_none : takes_up step ≡ false
  offers_none : offers step ≡ []
  confirms : confirmed_of (rlc_happens f step) ≡ confirmed_of f ++ news

quietly : (w : Way) (step : RlcStep) (a : Standing) (tx : Sender) (news : List ℕ) → IsWay w
    → IsQuiet (rlc w) step news
    → Stands tx a.rx a.copies a.reports a.busy (rlc_happens (rlc w) step)
    → MeetsNow w a → Meets (rlc_happens (rlc w) step) (pdcp w) (record a { tx = tx })
quietly w step a tx news h q stands m =
    let f : Rlc = rlc w in
    let ok : IsSound f = sound w.sending w.receiving w.steps h.steps in
    record {
      stands = stands;
      sender_is = m.sender_is;
      receiver_is = m.receiver_is;
      stream_is = m.stream_is
          ∙ sym (step-offers f step ∙ ap (λ (l : List (List ℕ)). offered f ++ l) q.offers_none
          ∙ append-nil (offered f));
      passed_is = m.passed_is
          ∙ ap (λ (l : List (List ℕ)). length l) (sym ((goes-up f).stays step q.given q.takes_none));
      whole_is = λ k. m.whole_is k ∙ sym (arrivals-same f step k ok q.given q.brings_none);
    }

-- PDCP does nothing
of_rlc : (w : Way) (step : RlcStep) (a : Standing) (tx : Sender) (news : List ℕ) → IsWay w
    → IsQuiet (rlc w) step news
    → Stands tx a.rx a.copies a.reports a.busy (rlc_happens (rlc w) step)
    → MeetsNow w a → Extends w (record a { tx = tx }) [] (entries_passed (passed (step ∷ []) (rlc w))) [] news
of_rlc w step a tx news h q stands m = record {
  events = [];
  steps = step ∷ [];
  events_given = tt;
  steps_given = (q.given, tt);
  meets = quietly w step a tx news h q stands m;
  stays = none_changes (pdcp w);
  ups_are = sym (append-nil (pdcp w).up);
  tells = tells_passing (passed (step ∷ []) (rlc w)) (pdcp w) (pdcp w) (told_of w) refl refl (λ count. refl);
  handed_is = (goes-up (rlc w)).stays step q.given q.takes_none ∙ sym (append-nil (handed_up (rlc w)));
  confirmed_is = q.confirms;
}

-- one by which no STATUS comes
silently : (f : Rlc) (step : RlcStep) → IsGiven f step → brings step ≡ false → takes_up step ≡ false
    → offers step ≡ [] → IsSilent step → IsQuiet f step []
silently f step given brings_none takes_none offers_none silent = record {
  given = given;
  brings_none = brings_none;
  takes_none = takes_none;
  offers_none = offers_none;
  confirms = step-confirms f step silent ∙ sym (append-nil (confirmed_of f));
}

-- ---- it settles

pub settles : (w : Way) (more : Bool) (a : Standing) → IsWay w → MeetsNow w a
    → Extends w (record a { tx = sender_after a.tx (Settle more) }) [] [] [] []
settles w more a h m =
    let f : Rlc = rlc w in
    let tx : Sender = sender_after a.tx (Settle more) in
    of_rlc w (Sends (Settle more)) a tx [] h (silently f (Sends (Settle more)) tt refl refl refl tt)
    (subst (λ (b : Bool). Stands tx a.rx a.copies a.reports b (rlc_happens f (Sends (Settle more))))
    (sym (or_none a.busy))
    (sent_one f (Settle more) a.tx a.rx a.copies a.reports a.busy m.stands)) m

-- ---- a STATUS that stands at a place comes

status_is : (f : Rlc) (k : ℕ) (x : Report) (pdu : StatusPdu) → slice_get f.reports k ≡ Some x
    → am_at x.octets ≡ Ok (Control pdu)
    → rlc_happens f (StatusComes k) ≡ status_read f (Ok (Control pdu))
status_is f k x pdu at read = ap (λ (o : Option Report). status_comes f o) at
    ∙ ap (λ (o : Result AcknowledgedPdu RlcRefusal). status_read f o) read

status_stands : (f : Rlc) (pdu : StatusPdu) (a : Standing) → Stands a.tx a.rx a.copies a.reports a.busy f
    → Stands (sender_after a.tx (Status pdu)) a.rx a.copies a.reports a.busy (status_read f (Ok (Control pdu)))
status_stands f pdu a h = record {
  sender_is = ap (λ (w : SenderWorld Octets). w.state) (sender-more f (Status pdu))
      ∙ ap (λ (x : Sender). sender_after x (Status pdu)) h.sender_is;
  receiver_is = h.receiver_is;
  copies_are = h.copies_are;
  reports_are = h.reports_are;
  busy_is = h.busy_is;
}

pub status_arrives : (w : Way) (k : ℕ) (x : Report) (pdu : StatusPdu) (a : Standing) → IsWay w
    → slice_get (rlc w).reports k ≡ Some x → am_at x.octets ≡ Ok (Control pdu)
    → (sender (rlc w)).state.accounts.news ≡ [] → MeetsNow w a
    → Extends w (record a { tx = sender_after a.tx (Status pdu) }) [] [] []
    (after_status (sender (rlc w)).state pdu).accounts.news
status_arrives w k x pdu a h at read none m =
    let f : Rlc = rlc w in
    let tx : Sender = sender_after a.tx (Status pdu) in
    of_rlc w (StatusComes k) a tx (after_status (sender f).state pdu).accounts.news h
    (record {
      given = tt;
      brings_none = refl;
      takes_none = refl;
      offers_none = refl;
      confirms = ap confirmed_of (status_is f k x pdu at read) ∙ status-confirms f pdu none;
    })
    (subst (λ (f : Rlc). Stands tx a.rx a.copies a.reports a.busy f) (sym (status_is (rlc w) k x pdu at read))
    (status_stands (rlc w) pdu a m.stands)) m

-- ---- the first place that is newly confirmed

owed_stays : (s : Sending) (place : ℕ) → (after s (ConfirmPlace place)).owed ≡ s.owed
unfolding confirmed
owed_stays s place = refl

pub confirms : (w : Way) (place : ℕ) (places : List ℕ) (a : Standing) → IsWay w → a.tx.accounts.news ≡ place ∷ places
    → MeetsNow w a
    → Extends w (record a { tx = sender_after a.tx Confirm; sending = after a.sending (ConfirmPlace place) }) [] []
    [] []
confirms w place places a h q m =
    let f : Rlc = rlc w in
    let g : Pdcp = pdcp w in
    let step : RlcStep = Sends Confirm in
    let tx : Sender = sender_after a.tx Confirm in
    let first : slice_get (sender f).state.accounts.news 0 ≡ Some place =
    ap (λ (x : Sender). slice_get x.accounts.news 0) m.stands.sender_is ∙ ap (λ (l : List ℕ). slice_get l 0) q in
    let stands : Stands tx a.rx a.copies a.reports a.busy (rlc_happens f step) =
    subst (λ (b : Bool). Stands tx a.rx a.copies a.reports b (rlc_happens f step)) (sym (or_none a.busy))
    (sent_one f Confirm a.tx a.rx a.copies a.reports a.busy m.stands) in
    let n : Meets (rlc_happens f step) g (record a { tx = tx }) =
    quietly w step a tx [] h (silently f step tt refl refl refl tt) stands m in
    record {
      events = PdcpSends (ConfirmPlace place) ∷ [];
      steps = step ∷ [];
      events_given =
          (m.whole_is place ∙ (confirms-arrived f 0 place (sound w.sending w.receiving w.steps h.steps) first).0, tt);
      steps_given = (tt, tt);
      meets = record {
        stands = n.stands;
        sender_is = ap (λ (x : Sending). after x (ConfirmPlace place)) m.sender_is;
        receiver_is = n.receiver_is;
        stream_is = ap (map (λ (n : Next). n.octets)) (append-nil g.stream) ∙ n.stream_is;
        passed_is = n.passed_is;
        whole_is = n.whole_is;
      };
      stays = record {
        sdus = append-nil g.sdus;
        stream = append-nil g.stream;
        report = refl;
        owed = owed_stays g.sender place;
      };
      ups_are = sym (append-nil g.up);
      tells = tells_passing [] g (run_am_pdcp (PdcpSends (ConfirmPlace place) ∷ []) g) (told_of w) (append-nil g.stream)
          refl (λ count. refl);
      handed_is = (goes-up f).stays step tt refl ∙ sym (append-nil (handed_up f));
      confirmed_is = step-confirms f step tt ∙ sym (append-nil (confirmed_of f));
    }
