-- RLC hands up an SDU: PDCP receives it, and all that is ready behind it goes up.
use Rattle.std.proofs.Common.{◌≡◌, ℕ, ◌+◌, true, List, [], ◌∷◌, ◌++◌, map, length, take, drop, Option, Some, slice_get}
use Rattle.std.proofs.Common.{append-nil, append_assoc, length-append, refl, ap, sym, ◌∙◌, arith}
use Rattle.pdcp_tx.specs.declared.sender.Next.{Next}
use Rattle.pdcp_rx.specs.declared.got.Cause.TheVariants.{Arrived}
use Rattle.pdcp_rx.specs.State.{State as Receiving, arrived}
use Rattle.rlc_am_rx.specs.State.{State as Receiver}
use Rattle.law_rlc.specs.AmReceiver.Run.{Up, state_after}
use Rattle.law_rlc.specs.AmPair.Flow.{Flow as Rlc, Step as RlcStep, Receives, happens as rlc_happens}
use Rattle.law_rlc.specs.AmPair.Confirmed.{confirmed}
use Rattle.law_rlc.specs.AmPair.Sdus.{offered, handed_up, ready}
use Rattle.law_rlc.specs.AmPair.Arrives.{arrives, IsWholeAt, HasReady}
use Rattle.law_rlc.proofs.AmPair.Sound.{IsSound}
use Rattle.law_rlc.proofs.AmPair.Laws.{sound}
use Rattle.law_rlc.proofs.AmPair.ByPlace.{has-ready}
use Rattle.law_rlc.proofs.AmPair.Later.{arrivals-same}
use Rattle.law_rlc.proofs.AmPair.Steps.{goes-up}
use Rattle.law_pdcp.specs.AmPair.Flow.{Flow as Pdcp, Event, HandUp, Raise, passes, with_count, happens as pdcp_happens}
use Rattle.law_pdcp.specs.AmPair.Flow.{run_am_pdcp, AreGiven as AreGivenEvents}
use Rattle.law_bearer.specs.AmBearer.Deeds.{all_raised}
use Rattle.law_deliver.proofs.AmFlow.Standing.{at_place}
use Rattle.law_deliver.proofs.AmFlow.Hearing.{receives_one}
use Rattle.law_deliver.proofs.AmDelivery.Accounts.{told_of, tells_handed}
use Rattle.law_deliver.proofs.AmDelivery.Joined.{Way, IsWay, rlc, pdcp}
use Rattle.law_deliver.proofs.AmDelivery.Meeting.{Standing, MeetsNow, Extends}

-- ---- all that is ready goes up

abbrev pub raises : List (List ℕ) → List Event
raises [] = []
raises (sdu ∷ sdus) = Raise ∷ raises sdus

pub raises_given : (sdus : List (List ℕ)) (g : Pdcp) → AreGivenEvents g (raises sdus)
raises_given [] g = tt
raises_given (sdu ∷ sdus) g = (tt, raises_given sdus (pdcp_happens g Raise))

abbrev pub raised : List (List ℕ) → Pdcp → Pdcp
raised sdus g = record g { receiver = all_raised g.receiver; up = g.up ++ sdus }

pub all_raise : (sdus : List (List ℕ)) (g : Pdcp) → g.receiver.ready ≡ sdus
    → run_am_pdcp (raises sdus) g ≡ raised sdus g
all_raise [] g q =
    ap (λ (l : List (List ℕ)). record g { receiver = record g.receiver { ready = l } }) q
    ∙ ap (λ (l : List (List ℕ)). record g { receiver = all_raised g.receiver; up = l }) (sym (append-nil g.up))
all_raise (sdu ∷ sdus) g q =
    all_raise sdus (pdcp_happens g Raise) (ap (λ (l : List (List ℕ)). drop 1 l) q)
    ∙ ap (λ (l : List (List ℕ)). record g { receiver = all_raised g.receiver; up = l })
    (ap (λ (l : List (List ℕ)). (g.up ++ take 1 l) ++ sdus) q ∙ append_assoc g.up (sdu ∷ []) sdus)

-- ---- the next in sequence

-- the PDU of PDCP that is the first SDU that RLC has ready
pub record IsNext (w : Way) (sdu : List ℕ) : Type 0 where
  pub pdu : Next
  pub at : slice_get (pdcp w).stream (pdcp w).passed ≡ Some pdu
  pub octets : pdu.octets ≡ sdu
  pub whole : (pdcp w).whole (pdcp w).passed ≡ true

pub next_is : (w : Way) (a : Standing) (sdu : List ℕ) (sdus : List (List ℕ)) → IsWay w → a.rx.out.ready ≡ sdu ∷ sdus
    → MeetsNow w a → IsNext w sdu
next_is w a sdu sdus h q m =
    let f : Rlc = rlc w in
    let g : Pdcp = pdcp w in
    let n = length (handed_up f) in
    let has : HasReady f = has-ready f (sound w.sending w.receiving w.steps h.steps) in
    let held : ready f ≡ sdu ∷ sdus = has.held ∙ ap (λ (x : Receiver). x.out.ready) m.stands.receiver_is ∙ q in
    let first : slice_get (ready f) 0 ≡ Some sdu = ap (λ (l : List (List ℕ)). slice_get l 0) held in
    let here : IsWholeAt f (n + 0) sdu = has.places 0 sdu first in
    let place : n + 0 ≡ g.passed = nothing_more n ∙ sym m.passed_is in
    let given = ap (λ (l : List (List ℕ)). slice_get l g.passed) m.stream_is
    ∙ ap (λ (k : ℕ). slice_get (offered f) k) (sym place) ∙ here.is in
    let stands = at_place (λ (x : Next). x.octets) g.stream g.passed sdu given in
    record {
      pdu = stands.0;
      at = stands.1;
      octets = stands.2;
      whole = m.whole_is g.passed ∙ ap (arrives f) (sym place) ∙ here.arrived;
    }
  where
    nothing_more : (n : ℕ) → n + 0 ≡ n
    nothing_more n = omega arith

-- ---- it goes up

abbrev passed_by : Receiving → Next → Pdcp → Pdcp
passed_by r pdu g = record g { receiver = r; passed = g.passed + 1; handed = with_count pdu.count g.handed }

hands_up : (g : Pdcp) (pdu : Next) (r : Receiving) → slice_get g.stream g.passed ≡ Some pdu
    → arrived g.receiver pdu.octets Arrived ≡ r
    → run_am_pdcp (HandUp ∷ raises r.ready) g ≡ raised r.ready (passed_by r pdu g)
hands_up g pdu r at q =
    ap (λ (o : Option Next). run_am_pdcp (raises r.ready) (passes o g)) at
    ∙ ap (λ (x : Receiving). run_am_pdcp (raises r.ready) (passed_by x pdu g)) q
    ∙ all_raise r.ready (passed_by r pdu g) refl

pub goes_up_one : (w : Way) (a : Standing) (sdu : List ℕ) (sdus : List (List ℕ)) → IsWay w
    → a.rx.out.ready ≡ sdu ∷ sdus → IsNext w sdu
    → MeetsNow w a
    → Extends w (record a { rx = state_after a.rx Up; receiving = all_raised (arrived a.receiving sdu Arrived) })
    (arrived a.receiving sdu Arrived).ready [] (sdu ∷ []) []
goes_up_one w a sdu sdus h q next m =
    let f : Rlc = rlc w in
    let g : Pdcp = pdcp w in
    let step : RlcStep = Receives Up in
    let v : Receiving = arrived a.receiving sdu Arrived in
    let ok : IsSound f = sound w.sending w.receiving w.steps h.steps in
    let got_so : arrived g.receiver next.pdu.octets Arrived ≡ v =
    ap (λ (x : Receiving). arrived x next.pdu.octets Arrived) m.receiver_is
    ∙ ap (λ (l : List ℕ). arrived a.receiving l Arrived) next.octets in
    let same : run_am_pdcp (HandUp ∷ raises v.ready) g ≡ raised v.ready (passed_by v next.pdu g) =
    hands_up g next.pdu v next.at got_so in
    let held : ready f ≡ sdu ∷ sdus = (has-ready f ok).held ∙ ap (λ (x : Receiver). x.out.ready) m.stands.receiver_is
    ∙ q in
    let gone : handed_up (rlc_happens f step) ≡ handed_up f ++ sdu ∷ [] =
    (goes-up f).gone ∙ ap (λ (l : List (List ℕ)). handed_up f ++ take 1 l) held in
    record {
      events = HandUp ∷ raises v.ready;
      steps = step ∷ [];
      events_given = (next.whole, raises_given v.ready (pdcp_happens g HandUp));
      steps_given = (tt, tt);
      meets = record {
        stands = receives_one f Up a.tx a.rx a.copies a.reports a.busy m.stands;
        sender_is = ap (λ (x : Pdcp). x.sender) same ∙ m.sender_is;
        receiver_is = ap (λ (x : Pdcp). x.receiver) same;
        stream_is = ap (λ (x : Pdcp). map (λ (n : Next). n.octets) x.stream) same ∙ m.stream_is;
        passed_is = ap (λ (x : Pdcp). x.passed) same ∙ ap (λ (n : ℕ). n + 1) m.passed_is
            ∙ sym (ap (λ (l : List (List ℕ)). length l) gone ∙ length-append (handed_up f) (sdu ∷ []));
        whole_is = λ k. ap (λ (x : Pdcp). x.whole k) same ∙ m.whole_is k ∙ sym (arrivals-same f step k ok tt refl);
      };
      stays = record {
        sdus = ap (λ (x : Pdcp). x.sdus) same;
        stream = ap (λ (x : Pdcp). x.stream) same;
        report = ap (λ (x : Pdcp). x.report) same;
        owed = ap (λ (x : Pdcp). x.sender.owed) same;
      };
      ups_are = ap (λ (x : Pdcp). x.up) same;
      tells = tells_handed g (run_am_pdcp (HandUp ∷ raises v.ready) g) next.pdu (told_of w) next.at
          (ap (λ (x : Pdcp). x.stream) same) (ap (λ (x : Pdcp). x.passed) same)
          (λ count. ap (λ (x : Pdcp). x.handed count) same);
      handed_is = gone;
      confirmed_is = sym (append-nil (confirmed f));
    }
