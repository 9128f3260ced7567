-- What happens at an end is, to the flow of RLC that it hears, steps of the receiver; with what they bring up and the
-- data PDUs that come.
use Rattle.std.proofs.Common.{◌≡◌, ℕ, ◌-◌, Bool, true, false, if◌then◌else◌, List, [], ◌∷◌, ◌++◌, map, Option, Some}
use Rattle.std.proofs.Common.{Result, Ok, slice_get, append-nil, refl, ap, sym, subst, ◌∙◌}
use Rattle.std.specs.List.{AllByRecursion}
use Rattle.rlc_pdu.specs.declared.RlcRefusal.{RlcRefusal}
use Rattle.rlc_pdu.specs.Pdus.{AcknowledgedPdu, AmdPdu, Payload}
use Rattle.rlc_pdu.specs.Reading.{am_at}
use Rattle.rlc_am_tx.specs.Machine.{State as Sender}
use Rattle.rlc_am_rx.specs.State.{State as Receiver}
use Rattle.rlc_am_rx.specs.Machine.{written}
use Rattle.law_rlc.specs.AmReceiver.Run.{Call as ReceiverCall, Arrive as Hears, Up, Write, ExpireReorder}
use Rattle.law_rlc.specs.AmReceiver.Run.{ExpireProhibit, TickReorder, TickProhibit, World as ReceiverWorld, state_after}
use Rattle.law_rlc.specs.AmPair.Flow.{Copy, Report, Flow, Receives, Reports, DataComes, receiver, data_read, data_comes}
use Rattle.law_rlc.specs.AmPair.Flow.{happens}
use Rattle.law_rlc.specs.AmPair.Given.{IsReceiving}
use Rattle.law_words.specs.Passing.{Passing, Comes}
use Rattle.law_rlc.specs.AmArrival.Arrival.{coming}
use Rattle.law_rlc.specs.AmPair.Sdus.{handed_up, ready}
use Rattle.law_rlc.proofs.AmPair.ByPlace.{has-ready}
use Rattle.law_rlc.proofs.AmPair.Laws.{happens-sound}
use Rattle.law_rlc.proofs.AmPair.Runs.{receiver-more}
use Rattle.law_rlc.proofs.AmPair.Sound.{IsSound}
use Rattle.law_rlc.proofs.AmPair.Steps.{goes-up, step-offers}
use Rattle.bearer.specs.Acknowledged.State.{State}
use Rattle.bearer.specs.Acknowledged.Taking.{writes_status, status_pdu}
use Rattle.law_bearer.specs.AnyBearer.Calls.{Call, Submit, Take, Arrive, Expire, Tick, SetDiscard}
use Rattle.law_bearer.specs.AnyBearer.Acknowledged.{hears_on, data_heard, receiver_calls, IsOfReceiver, ReceiverGoes}
use Rattle.law_bearer.proofs.AnyBearer.ReceiverCalls.{receiver_goes_on}
use Rattle.law_deliver.specs.AmFlow.Pair.{BearerEnd, called, status_by, written_now, IsCalling}
use Rattle.law_deliver.proofs.AmFlow.Hearing.{is_reported, receives_one, reports_with}
use Rattle.law_deliver.proofs.AmFlow.Sending.{is_called}
use Rattle.law_deliver.proofs.AmFlow.Standing.{Stands}
use Rattle.law_deliver.proofs.SrbDelivery.Going.{total, Goes, stays, calm_goes, own_total, goes_then, goes_as}

-- ---- one call of the receiver

own_is : (c : ReceiverCall) → IsOfReceiver c → IsReceiving c
own_is (Hears pdu) own = own
own_is Up own = tt
own_is Write own = own
own_is ExpireReorder own = tt
own_is ExpireProhibit own = tt
own_is TickReorder own = tt
own_is TickProhibit own = tt

own_one : (f : Flow) (c : ReceiverCall) (tx : Sender) (rx : Receiver) (cs : List Copy) (rs : List Report) (b : Bool)
    → IsOfReceiver c → Stands tx rx cs rs b f → Goes f tx (state_after rx c) cs rs b [] [] []
own_one f c tx rx cs rs b own h = record {
  steps = Receives c ∷ [];
  given = (own_is c own, tt);
  stands = receives_one f c tx rx cs rs b h;
  offered_is = step-offers f (Receives c);
  total_is = own_total f c own ∙ sym (append-nil (total f));
  passed_is = refl;
}

own_all : (own : List ReceiverCall) (f : Flow) (tx : Sender) (rx : Receiver) (cs : List Copy) (rs : List Report)
    (b : Bool)
    → AllByRecursion IsOfReceiver own → Stands tx rx cs rs b f → Goes f tx (hears_on own rx) cs rs b [] [] []
own_all [] f tx rx cs rs b are h = stays f tx rx cs rs b h
own_all (c ∷ own) f tx rx cs rs b are h =
    goes_then f tx tx (state_after rx c) (hears_on own (state_after rx c)) cs cs rs rs b b [] [] [] [] [] []
    (own_one f c tx rx cs rs b are.0 h)
    (λ g k. own_all own g tx (state_after rx c) cs rs b are.1 k)

-- a call that brings nothing to the receiver and takes nothing from there
keeps_to_itself : (f : Flow) (tx : Sender) (rx ry : Receiver) (cs : List Copy) (rs : List Report) (b : Bool)
    → ReceiverGoes rx ry [] → Stands tx rx cs rs b f → Goes f tx ry cs rs b [] [] []
keeps_to_itself f tx rx ry cs rs b m h =
    subst (λ (r : Receiver). Goes f tx r cs rs b [] [] []) (sym m.left) (own_all m.own f tx rx cs rs b m.are_own h)

-- ---- a STATUS is written

reports_one : (f : Flow) (share : ℕ) (tx : Sender) (rx : Receiver) (cs : List Copy) (rs : List Report) (b : Bool)
    → Stands tx rx cs rs b f → Goes f tx (written rx) cs (written_now rx share (status_pdu rx share) ∷ rs) b [] [] []
reports_one f share tx rx cs rs b h =
    let octets = status_pdu rx share in
    calm_goes f (Reports (share - 3) octets) tx (written rx) cs (written_now rx share octets ∷ rs) b [] refl
    (is_reported f rx share h.receiver_is) (record { stays = refl; none = refl }) (record {
      sender_is = h.sender_is;
      receiver_is = ap (λ (w : ReceiverWorld). w.state) (receiver-more f Write) ∙ ap written h.receiver_is;
      copies_are = h.copies_are;
      reports_are = reports_with f share octets rx rs h.receiver_is h.reports_are;
      busy_is = h.busy_is;
    })

takes_by : (w : Bool) (f : Flow) (share : ℕ) (tx : Sender) (rx ry : Receiver) (cs : List Copy) (rs : List Report)
    (b : Bool)
    → ReceiverGoes rx ry (if w then Write ∷ [] else []) → Stands tx rx cs rs b f
    → Goes f tx ry cs (map (written_now rx share) (if w then status_pdu rx share ∷ [] else []) ++ rs) b [] [] []
takes_by true f share tx rx ry cs rs b m h =
    let ss : List Report = written_now rx share (status_pdu rx share) ∷ rs in
    subst (λ (r : Receiver). Goes f tx r cs ss b [] [] []) (sym m.left)
    (goes_then f tx tx (written rx) (hears_on m.own (written rx)) cs cs ss ss b b [] [] [] [] [] []
    (reports_one f share tx rx cs rs b h) (λ g k. own_all m.own g tx (written rx) cs ss b m.are_own k))
takes_by false f share tx rx ry cs rs b m h = keeps_to_itself f tx rx ry cs rs b m h

-- ---- any call

called_so : (b : State) (c : Call) → ReceiverGoes b.rx (called b c).rx (receiver_calls b c)
called_so b c = receiver_goes_on b (called b c) c (is_called b c)

quiet : (e : BearerEnd) (d : State) (f : Flow) (tx : Sender) (cs : List Copy) (b : Bool)
    → ReceiverGoes e.bearer.rx d.rx [] → Stands tx e.bearer.rx cs e.reports b f → Goes f tx d.rx cs e.reports b [] [] []
quiet e d f tx cs b m h = keeps_to_itself f tx e.bearer.rx d.rx cs e.reports b m h

pub calls_hear : (e : BearerEnd) (c : Call) (f : Flow) (tx : Sender) (cs : List Copy) (b : Bool) → IsCalling e c
    → Stands tx e.bearer.rx cs e.reports b f
    → Goes f tx (called e.bearer c).rx cs (status_by e.bearer c ++ e.reports) b [] [] []
calls_hear e (Submit sdu) f tx cs b g h =
    quiet e (called e.bearer (Submit sdu)) f tx cs b (called_so e.bearer (Submit sdu)) h
calls_hear e (Take share held) f tx cs b g h =
    takes_by (writes_status e.bearer.rx share) f share tx e.bearer.rx (called e.bearer (Take share held)).rx cs
    e.reports b (called_so e.bearer (Take share held)) h
calls_hear e (Arrive pdu) f tx cs b g h = absurd g
calls_hear e (Expire clock) f tx cs b g h =
    quiet e (called e.bearer (Expire clock)) f tx cs b (called_so e.bearer (Expire clock)) h
calls_hear e Tick f tx cs b g h = quiet e (called e.bearer Tick) f tx cs b (called_so e.bearer Tick) h
calls_hear e (SetDiscard ttis) f tx cs b g h =
    quiet e (called e.bearer (SetDiscard ttis)) f tx cs b (called_so e.bearer (SetDiscard ttis)) h

-- ---- a PDU comes

-- a STATUS is nothing to the receiver
pub status_hears : (e : BearerEnd) (octets : List ℕ) (f : Flow) (tx : Sender) (cs : List Copy) (b : Bool)
    → data_heard (am_at octets) ≡ [] → Stands tx e.bearer.rx cs e.reports b f
    → Goes f tx (called e.bearer (Arrive octets)).rx cs e.reports b [] [] []
status_hears e octets f tx cs b q h =
    let d = called e.bearer (Arrive octets) in
    keeps_to_itself f tx e.bearer.rx d.rx cs e.reports b
    (subst (λ (l : List ReceiverCall). ReceiverGoes e.bearer.rx d.rx l) q
    (receiver_goes_on e.bearer d (Arrive octets) (is_called e.bearer (Arrive octets)))) h

-- what it makes ready goes up, where nothing was
data_total : (f : Flow) (k : ℕ) (rx : Receiver) → IsSound f → (receiver f).state.out.ready ≡ []
    → (receiver (happens f (DataComes k))).state ≡ rx → total (happens f (DataComes k)) ≡ total f ++ rx.out.ready
data_total f k rx sound none is =
    let g = happens f (DataComes k) in
    let before : ready f ≡ [] = (has-ready f sound).held ∙ none in
    let now : ready g ≡ rx.out.ready = (has-ready g (happens-sound f (DataComes k) tt sound)).held
    ∙ ap (λ (r : Receiver). r.out.ready) is in
    ap (λ l. l ++ ready g) ((goes-up f).stays (DataComes k) tt refl) ∙ ap (λ l. handed_up f ++ l) now
    ∙ ap (λ l. l ++ rx.out.ready) (sym (append-nil (handed_up f)) ∙ ap (λ l. handed_up f ++ l) (sym before))

data_at : (f : Flow) (k : ℕ) (c : Copy) (pdu : AmdPdu) (tx : Sender) (rx : Receiver) (cs : List Copy)
    (rs : List Report)
    (b : Bool)
    → slice_get f.copies k ≡ Some c → am_at c.octets ≡ Ok (Payload pdu) → IsSound f → rx.out.ready ≡ []
    → Stands tx rx cs rs b f
    → Goes f tx (state_after rx (Hears pdu)) cs rs b [] (state_after rx (Hears pdu)).out.ready (Comes c.octets ∷ [])
data_at f k c pdu tx rx cs rs b q read sound none h =
    let r = state_after rx (Hears pdu) in
    let on : Stands tx r cs rs b (happens f (DataComes k)) =
    subst (λ (o : Option Copy). Stands tx r cs rs b (data_comes f o)) (sym q)
    (subst (λ (o : Result AcknowledgedPdu RlcRefusal). Stands tx r cs rs b (data_read f o)) (sym read)
    (receives_one f (Hears pdu) tx rx cs rs b h)) in
    record {
      steps = DataComes k ∷ [];
      given = (tt, tt);
      stands = on;
      offered_is = step-offers f (DataComes k);
      total_is = data_total f k r sound (ap (λ (x : Receiver). x.out.ready) h.receiver_is ∙ none) on.receiver_is;
      passed_is = ap (λ (o : Option Copy). coming o ++ []) q;
    }

-- a data PDU that stands at a place comes
pub data_hears : (e : BearerEnd) (f : Flow) (k : ℕ) (c : Copy) (pdu : AmdPdu) (tx : Sender) (cs : List Copy) (b : Bool)
    → slice_get f.copies k ≡ Some c → am_at c.octets ≡ Ok (Payload pdu) → IsSound f → e.bearer.rx.out.ready ≡ []
    → Stands tx e.bearer.rx cs e.reports b f
    → Goes f tx (called e.bearer (Arrive c.octets)).rx cs e.reports b [] (state_after e.bearer.rx (Hears pdu)).out.ready
    (Comes c.octets ∷ [])
data_hears e f k c pdu tx cs b q read sound none h =
    let d = called e.bearer (Arrive c.octets) in
    let m : ReceiverGoes e.bearer.rx d.rx (Hears pdu ∷ []) =
    subst (λ (o : Result AcknowledgedPdu RlcRefusal). ReceiverGoes e.bearer.rx d.rx (data_heard o)) read
    (receiver_goes_on e.bearer d (Arrive c.octets) (is_called e.bearer (Arrive c.octets))) in
    let r = state_after e.bearer.rx (Hears pdu) in
    let came : List Passing = Comes c.octets ∷ [] in
    subst (λ (x : Receiver). Goes f tx x cs e.reports b [] r.out.ready came) (sym m.left)
    (goes_as f tx (hears_on m.own r) cs e.reports b [] [] (r.out.ready ++ []) r.out.ready came came refl
    (append-nil r.out.ready) refl
    (goes_then f tx tx r (hears_on m.own r) cs cs e.reports e.reports b b [] [] r.out.ready [] came []
    (data_at f k c pdu tx e.bearer.rx cs e.reports b q read sound none h)
    (λ g k. own_all m.own g tx r cs e.reports b m.are_own k)))
