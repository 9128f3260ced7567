-- What happens at an end is, to the flow that it hears, steps of the receiver.
use Rattle.std.proofs.Common.{◌≡◌, ℕ, ◌-◌, ◌*◌, ◌/◌, ◌%◌, Bool, true, false, if◌then◌else◌, List, [], ◌∷◌, ◌++◌, map}
use Rattle.std.proofs.Common.{length, Option, Some, Result, Ok, slice_get, ap, sym, subst, ◌∙◌}
use Rattle.std.specs.List.{AllByRecursion}
use Rattle.rlc_pdu.specs.declared.RlcRefusal.{RlcRefusal}
use Rattle.rlc_pdu.specs.Pdus.{AcknowledgedPdu, AmdPdu, Payload}
use Rattle.rlc_pdu.specs.Reading.{am_at}
use Rattle.rlc_pdu.specs.Writing.{status_written}
use Rattle.rlc_am_tx.specs.Machine.{State as Sender}
use Rattle.rlc_am_rx.specs.State.{State as Receiver}
use Rattle.rlc_am_rx.specs.Machine.{written}
use Rattle.rlc_am_rx.specs.Status.{ack, nacks}
use Rattle.law_rlc.specs.AmReceiver.Run.{Call as ReceiverCall, Arrive as Hears, Up, Write, ExpireReorder}
use Rattle.law_rlc.specs.AmReceiver.Run.{ExpireProhibit, TickReorder, TickProhibit, World as ReceiverWorld, state_after}
use Rattle.law_rlc.specs.AmPair.Flow.{Copy, Report, Flow, Receives, Reports, DataComes, receiver, receives, reports}
use Rattle.law_rlc.specs.AmPair.Flow.{data_read}
use Rattle.law_rlc.specs.AmPair.Flow.{data_comes}
use Rattle.law_rlc.specs.AmPair.Given.{IsReceiving, IsReporting}
use Rattle.law_rlc.proofs.AmPair.Runs.{receiver-more}
use Rattle.bearer.specs.Acknowledged.State.{State}
use Rattle.bearer.specs.Acknowledged.Taking.{writes_status, status_pdu}
use Rattle.law_bearer.specs.AnyBearer.Calls.{Call, Submit, Take, Arrive, Expire, Tick, SetDiscard}
use Rattle.law_bearer.specs.AnyBearer.Acknowledged.{hears_on, data_heard, receiver_calls, IsOfReceiver, ReceiverGoes}
use Rattle.law_bearer.proofs.AnyBearer.ReceiverCalls.{receiver_goes_on}
use Rattle.law_node.proofs.Reading.{octets_again, octets_small, whole_octets_of}
use Rattle.law_deliver.specs.AmFlow.Pair.{called, status_by, written_now, IsCalling, BearerEnd}
use Rattle.law_deliver.proofs.AmFlow.Standing.{Stands, Goes, stays, steps_once, goes_on}
use Rattle.law_deliver.proofs.AmFlow.Sending.{is_called}

-- ---- one call of the receiver

pub receives_one : (f : Flow) (c : ReceiverCall) (tx : Sender) (rx : Receiver) (cs : List Copy) (rs : List Report)
    (b : Bool)
    → Stands tx rx cs rs b f → Stands tx (state_after rx c) cs rs b (receives f c)
receives_one f c tx rx cs rs b h = record {
  sender_is = h.sender_is;
  receiver_is = ap (λ (w : ReceiverWorld). w.state) (receiver-more f c)
      ∙ ap (λ (r : Receiver). state_after r c) h.receiver_is;
  copies_are = h.copies_are;
  reports_are = h.reports_are;
  busy_is = h.busy_is;
}

own_is : (c : ReceiverCall) → IsOfReceiver c → IsReceiving c
own_is (Hears pdu) own = own
own_is Up own = tt
own_is Write own = own
own_is ExpireReorder own = tt
own_is ExpireProhibit own = tt
own_is TickReorder own = tt
own_is TickProhibit own = tt

own_all : (own : List ReceiverCall) (f : Flow) (tx : Sender) (rx : Receiver) (cs : List Copy) (rs : List Report)
    (b : Bool)
    → AllByRecursion IsOfReceiver own → Stands tx rx cs rs b f → Goes f tx (hears_on own rx) cs rs b
own_all [] f tx rx cs rs b are h = stays f tx rx cs rs b h
own_all (c ∷ own) f tx rx cs rs b are h =
    goes_on f tx tx (state_after rx c) (hears_on own (state_after rx c)) cs cs rs rs b b
    (steps_once f (Receives c) tx (state_after rx c) cs rs b (own_is c are.0) (receives_one f c tx rx cs rs b h))
    (λ g k. own_all own g tx (state_after rx c) cs rs b are.1 k)

-- ---- a call that brings nothing to the receiver and takes nothing from there

pub keeps_to_itself : (f : Flow) (tx : Sender) (rx ry : Receiver) (cs : List Copy) (rs : List Report) (b : Bool)
    → ReceiverGoes rx ry [] → Stands tx rx cs rs b f → Goes f tx ry cs rs b
keeps_to_itself f tx rx ry cs rs b m h =
    subst (λ (r : Receiver). Goes f tx r cs rs b) (sym m.left) (own_all m.own f tx rx cs rs b m.are_own h)

-- ---- a STATUS is written

-- its octets have the bits that it writes
pub is_reported : (f : Flow) (r : Receiver) (share : ℕ) → (receiver f).state ≡ r
    → IsReporting f (share - 3) (status_pdu r share)
is_reported f r share q =
    let w : List Bool = status_written (ack r (share - 3) % 1024) (nacks r (share - 3)) in
    let n : length w ≡ 8 * (length w / 8) = whole_octets_of (ack r (share - 3) % 1024) (nacks r (share - 3)) in
    record {
      bytes = octets_small (length w / 8) w n;
      bits = octets_again (length w / 8) w n
          ∙ ap (λ (x : Receiver). status_written (ack x (share - 3) % 1024) (nacks x (share - 3))) (sym q);
    }

pub reports_with : (f : Flow) (share : ℕ) (octets : List ℕ) (rx : Receiver) (rs : List Report)
    → (receiver f).state ≡ rx → f.reports ≡ rs
    → (reports f (share - 3) octets).reports ≡ written_now rx share octets ∷ rs
reports_with f share octets rx rs q p =
    ap (λ (r : Receiver). written_now r share octets ∷ f.reports) q
    ∙ ap (λ (l : List Report). written_now rx share octets ∷ l) p

reports_one : (f : Flow) (share : ℕ) (tx : Sender) (rx : Receiver) (cs : List Copy) (rs : List Report) (b : Bool)
    → Stands tx rx cs rs b f → Goes f tx (written rx) cs (written_now rx share (status_pdu rx share) ∷ rs) b
reports_one f share tx rx cs rs b h =
    let octets = status_pdu rx share in
    steps_once f (Reports (share - 3) octets) tx (written rx) cs (written_now rx share octets ∷ rs) b
    (is_reported f rx share h.receiver_is) (record {
      sender_is = h.sender_is;
      receiver_is = ap (λ (w : ReceiverWorld). w.state) (receiver-more f Write) ∙ ap written h.receiver_is;
      copies_are = h.copies_are;
      reports_are = reports_with f share octets rx rs h.receiver_is h.reports_are;
      busy_is = h.busy_is;
    })

takes_by : (w : Bool) (f : Flow) (share : ℕ) (tx : Sender) (rx ry : Receiver) (cs : List Copy) (rs : List Report)
    (b : Bool)
    → ReceiverGoes rx ry (if w then Write ∷ [] else []) → Stands tx rx cs rs b f
    → Goes f tx ry cs (map (written_now rx share) (if w then status_pdu rx share ∷ [] else []) ++ rs) b
takes_by true f share tx rx ry cs rs b m h =
    let ss : List Report = written_now rx share (status_pdu rx share) ∷ rs in
    subst (λ (r : Receiver). Goes f tx r cs ss b) (sym m.left)
    (goes_on f tx tx (written rx) (hears_on m.own (written rx)) cs cs ss ss b b (reports_one f share tx rx cs rs b h)
    (λ g k. own_all m.own g tx (written rx) cs ss b m.are_own k))
takes_by false f share tx rx ry cs rs b m h = keeps_to_itself f tx rx ry cs rs b m h

-- ---- any call

called_so : (b : State) (c : Call) → ReceiverGoes b.rx (called b c).rx (receiver_calls b c)
called_so b c = receiver_goes_on b (called b c) c (is_called b c)

quiet : (e : BearerEnd) (d : State) (f : Flow) (tx : Sender) (cs : List Copy) (b : Bool)
    → ReceiverGoes e.bearer.rx d.rx [] → Stands tx e.bearer.rx cs e.reports b f → Goes f tx d.rx cs e.reports b
quiet e d f tx cs b m h = keeps_to_itself f tx e.bearer.rx d.rx cs e.reports b m h

pub calls_hear : (e : BearerEnd) (c : Call) (f : Flow) (tx : Sender) (cs : List Copy) (b : Bool) → IsCalling e c
    → Stands tx e.bearer.rx cs e.reports b f
    → Goes f tx (called e.bearer c).rx cs (status_by e.bearer c ++ e.reports) b
calls_hear e (Submit sdu) f tx cs b g h =
    quiet e (called e.bearer (Submit sdu)) f tx cs b (called_so e.bearer (Submit sdu)) h
calls_hear e (Take share held) f tx cs b g h =
    takes_by (writes_status e.bearer.rx share) f share tx e.bearer.rx (called e.bearer (Take share held)).rx cs
    e.reports b (called_so e.bearer (Take share held)) h
calls_hear e (Arrive pdu) f tx cs b g h = absurd g
calls_hear e (Expire clock) f tx cs b g h =
    quiet e (called e.bearer (Expire clock)) f tx cs b (called_so e.bearer (Expire clock)) h
calls_hear e Tick f tx cs b g h = quiet e (called e.bearer Tick) f tx cs b (called_so e.bearer Tick) h
calls_hear e (SetDiscard ttis) f tx cs b g h =
    quiet e (called e.bearer (SetDiscard ttis)) f tx cs b (called_so e.bearer (SetDiscard ttis)) h

-- ---- a PDU comes

-- a STATUS is nothing to the receiver
pub status_hears : (e : BearerEnd) (octets : List ℕ) (f : Flow) (tx : Sender) (cs : List Copy) (b : Bool)
    → data_heard (am_at octets) ≡ [] → Stands tx e.bearer.rx cs e.reports b f
    → Goes f tx (called e.bearer (Arrive octets)).rx cs e.reports b
status_hears e octets f tx cs b q h =
    let d = called e.bearer (Arrive octets) in
    keeps_to_itself f tx e.bearer.rx d.rx cs e.reports b
    (subst (λ (l : List ReceiverCall). ReceiverGoes e.bearer.rx d.rx l) q
    (receiver_goes_on e.bearer d (Arrive octets) (is_called e.bearer (Arrive octets)))) h

data_at : (f : Flow) (k : ℕ) (c : Copy) (pdu : AmdPdu) (tx : Sender) (rx : Receiver) (cs : List Copy)
    (rs : List Report)
    (b : Bool)
    → slice_get f.copies k ≡ Some c → am_at c.octets ≡ Ok (Payload pdu) → Stands tx rx cs rs b f
    → Goes f tx (state_after rx (Hears pdu)) cs rs b
data_at f k c pdu tx rx cs rs b q read h =
    let r = state_after rx (Hears pdu) in
    steps_once f (DataComes k) tx r cs rs b tt
    (subst (λ (o : Option Copy). Stands tx r cs rs b (data_comes f o)) (sym q)
    (subst (λ (o : Result AcknowledgedPdu RlcRefusal). Stands tx r cs rs b (data_read f o)) (sym read)
    (receives_one f (Hears pdu) tx rx cs rs b h)))

-- a data PDU that stands at a place comes
pub data_hears : (e : BearerEnd) (f : Flow) (k : ℕ) (c : Copy) (pdu : AmdPdu) (tx : Sender) (cs : List Copy) (b : Bool)
    → slice_get f.copies k ≡ Some c → am_at c.octets ≡ Ok (Payload pdu) → Stands tx e.bearer.rx cs e.reports b f
    → Goes f tx (called e.bearer (Arrive c.octets)).rx cs e.reports b
data_hears e f k c pdu tx cs b q read h =
    let d = called e.bearer (Arrive c.octets) in
    let m : ReceiverGoes e.bearer.rx d.rx (Hears pdu ∷ []) =
    subst (λ (o : Result AcknowledgedPdu RlcRefusal). ReceiverGoes e.bearer.rx d.rx (data_heard o)) read
    (receiver_goes_on e.bearer d (Arrive c.octets) (is_called e.bearer (Arrive c.octets))) in
    let r = state_after e.bearer.rx (Hears pdu) in
    subst (λ (x : Receiver). Goes f tx x cs e.reports b) (sym m.left)
    (goes_on f tx tx r (hears_on m.own r) cs cs e.reports e.reports b b
    (data_at f k c pdu tx e.bearer.rx cs e.reports b q read h)
    (λ g k. own_all m.own g tx r cs e.reports b m.are_own k))
