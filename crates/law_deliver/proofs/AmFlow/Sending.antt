-- What happens at an end is, to the flow that it sends on, steps of the sender.
use Rattle.std.proofs.Common.{◌≡◌, ℕ, Bool, true, false, ◌||◌, List, [], ◌∷◌, ◌++◌, map, Option, Some, Result, Ok}
use Rattle.std.proofs.Common.{slice_get, refl, ap, sym, subst, ◌∙◌}
use Rattle.std.specs.List.{AllByRecursion}
use Rattle.rlc_pdu.specs.declared.RlcRefusal.{RlcRefusal}
use Rattle.rlc_pdu.specs.Pdus.{AcknowledgedPdu, StatusPdu, Status as Control}
use Rattle.rlc_pdu.specs.Reading.{am_at}
use Rattle.rlc_am_tx.specs.Machine.{State as Sender, answer, after_take}
use Rattle.rlc_am_rx.specs.State.{State as Receiver}
use Rattle.law_rlc.specs.AmSender.Run.{Call as SenderCall, Offer, Take as Taking, Status, Tick as Ticks}
use Rattle.law_rlc.specs.AmSender.Run.{Expire as Expires, Settle, Confirm, World as SenderWorld, after as sender_after}
use Rattle.law_rlc.specs.AmSender.Octets.{Octets}
use Rattle.law_rlc.specs.AmPair.Flow.{Copy, Report, Flow, Sends, StatusComes, sender, copies_with, is_new}
use Rattle.law_rlc.specs.AmPair.Flow.{given as given_by, sends, status_read, status_comes}
use Rattle.law_rlc.specs.AmPair.Given.{IsHeld, IsSending}
use Rattle.law_rlc.proofs.AmPair.Runs.{sender-more}
use Rattle.bearer.specs.Acknowledged.State.{State}
use Rattle.bearer.specs.Acknowledged.Taking.{data_size}
use Rattle.bearer.specs.declared.flow.Flow.TheVariants.{Am}
use Rattle.bearer.specs.Submitting.{submitted}
use Rattle.bearer.specs.Taking.{after as taken_from}
use Rattle.bearer.specs.Hearing.{arrived as flow_arrived, expired, ticked, with_discard}
use Rattle.law_bearer.specs.AnyBearer.Calls.{Call, Submit, Take, Arrive, Expire, Tick, SetDiscard, after}
use Rattle.law_bearer.specs.AnyBearer.Sending.{sends_on}
use Rattle.law_bearer.specs.AnyBearer.Acknowledged.{offers_in, offered_to, has_more_behind, data_given, status_heard}
use Rattle.law_bearer.specs.AnyBearer.Acknowledged.{sender_calls, IsOfSender, SenderGoes}
use Rattle.law_bearer.proofs.AnyBearer.SenderCalls.{sends_then, sender_goes_on}
use Rattle.law_deliver.specs.AmFlow.Pair.{called, data_by, HasOctet, IsTaking, IsCalling, BearerEnd}
use Rattle.law_deliver.proofs.AmFlow.Standing.{Stands, Goes, stays, steps_once, goes_on, none_new}

-- ---- an acknowledged bearer stays one

pub is_called : (b : State) (c : Call) → after (Am b) c ≡ Am (called b c)
unfolding submitted taken_from flow_arrived expired ticked with_discard
is_called b (Submit sdu) = refl
is_called b (Take share held) = refl
is_called b (Arrive pdu) = refl
is_called b (Expire clock) = refl
is_called b Tick = refl
is_called b (SetDiscard ttis) = refl

-- ---- one call of the sender

pub sent_one : (f : Flow) (c : SenderCall) (tx : Sender) (rx : Receiver) (cs : List Copy) (rs : List Report)
    (b : Bool)
    → Stands tx rx cs rs b f
    → Stands (sender_after tx c) rx (copies_with (given_by tx c) cs) rs (b || is_new (given_by tx c)) (sends f c)
sent_one f c tx rx cs rs b h = record {
  sender_is = ap (λ (w : SenderWorld Octets). w.state) (sender-more f c)
      ∙ ap (λ (s : Sender). sender_after s c) h.sender_is;
  receiver_is = h.receiver_is;
  copies_are = ap (λ (l : List Copy). copies_with (given_by (sender f).state c) l) h.copies_are
      ∙ ap (λ (s : Sender). copies_with (given_by s c) cs) h.sender_is;
  reports_are = h.reports_are;
  busy_is = ap (λ (x : Bool). x || is_new (given_by (sender f).state c)) h.busy_is
      ∙ ap (λ (s : Sender). b || is_new (given_by s c)) h.sender_is;
}

sends_one : (f : Flow) (c : SenderCall) (tx : Sender) (rx : Receiver) (cs : List Copy) (rs : List Report) (b : Bool)
    → IsSending f c → Stands tx rx cs rs b f
    → Goes f (sender_after tx c) rx (copies_with (given_by tx c) cs) rs (b || is_new (given_by tx c))
sends_one f c tx rx cs rs b g h =
    steps_once f (Sends c) (sender_after tx c) rx (copies_with (given_by tx c) cs) rs (b || is_new (given_by tx c)) g
    (sent_one f c tx rx cs rs b h)

-- one that gives no PDU
gives_none : (f : Flow) (tx : Sender) (rx : Receiver) (cs : List Copy) (rs : List Report) (b : Bool)
    → Goes f tx rx cs rs (b || false) → Goes f tx rx cs rs b
gives_none f tx rx cs rs true h = h
gives_none f tx rx cs rs false h = h

own_one : (f : Flow) (c : SenderCall) (tx : Sender) (rx : Receiver) (cs : List Copy) (rs : List Report) (b : Bool)
    → IsOfSender c → Stands tx rx cs rs b f → Goes f (sender_after tx c) rx cs rs b
own_one f (Offer sdu) tx rx cs rs b own h = absurd own
own_one f (Taking size held more) tx rx cs rs b own h = absurd own
own_one f (Status pdu) tx rx cs rs b own h = absurd own
own_one f Ticks tx rx cs rs b own h =
    gives_none f (sender_after tx Ticks) rx cs rs b (sends_one f Ticks tx rx cs rs b tt h)
own_one f (Expires more) tx rx cs rs b own h =
    gives_none f (sender_after tx (Expires more)) rx cs rs b (sends_one f (Expires more) tx rx cs rs b tt h)
own_one f (Settle more) tx rx cs rs b own h =
    gives_none f (sender_after tx (Settle more)) rx cs rs b (sends_one f (Settle more) tx rx cs rs b tt h)
own_one f Confirm tx rx cs rs b own h =
    gives_none f (sender_after tx Confirm) rx cs rs b (sends_one f Confirm tx rx cs rs b tt h)

own_all : (own : List SenderCall) (f : Flow) (tx : Sender) (rx : Receiver) (cs : List Copy) (rs : List Report)
    (b : Bool)
    → AllByRecursion IsOfSender own → Stands tx rx cs rs b f → Goes f (sends_on own tx) rx cs rs b
own_all [] f tx rx cs rs b are h = stays f tx rx cs rs b h
own_all (c ∷ own) f tx rx cs rs b are h =
    goes_on f (sender_after tx c) (sends_on own (sender_after tx c)) rx rx cs cs rs rs b b
    (own_one f c tx rx cs rs b are.0 h)
    (λ g k. own_all own g (sender_after tx c) rx cs rs b are.1 k)

-- ---- a call that brings nothing to the sender and takes nothing from there

pub keeps_to_itself : (f : Flow) (tx ty : Sender) (rx : Receiver) (cs : List Copy) (rs : List Report) (b : Bool)
    → SenderGoes tx ty [] → Stands tx rx cs rs b f → Goes f ty rx cs rs b
keeps_to_itself f tx ty rx cs rs b m h =
    subst (λ (t : Sender). Goes f t rx cs rs b) (sym m.left) (own_all m.own f tx rx cs rs b m.are_own h)

-- ---- a take

pub offers_all : (sdus : List (List ℕ)) (f : Flow) (tx : Sender) (rx : Receiver) (cs : List Copy) (rs : List Report)
    (b : Bool)
    → AllByRecursion HasOctet sdus → Stands tx rx cs rs b f
    → Goes f (sends_on (map (λ sdu. Offer sdu) sdus) tx) rx cs rs b
offers_all [] f tx rx cs rs b some h = stays f tx rx cs rs b h
offers_all (sdu ∷ sdus) f tx rx cs rs b some h =
    let c : SenderCall = Offer sdu in
    goes_on f (sender_after tx c) (sends_on (map (λ sdu. Offer sdu) sdus) (sender_after tx c)) rx rx cs cs rs rs b b
    (gives_none f (sender_after tx c) rx cs rs b (sends_one f c tx rx cs rs b some.0 h))
    (λ g k. offers_all sdus g (sender_after tx c) rx cs rs b some.1 k)

takes_one : (e : BearerEnd) (share : ℕ) (held : Option ℕ) (f : Flow) (rx : Receiver) (rs : List Report)
    → IsTaking e share held → Stands (offered_to e.bearer share held) rx e.copies rs e.busy f
    → Goes f (after_take (offered_to e.bearer share held) (data_size e.bearer share) held
    (has_more_behind e.bearer share held)) rx (copies_with (data_given e.bearer share held) e.copies) rs
    (e.busy || is_new (data_given e.bearer share held))
takes_one e share held f rx rs t h =
    let size = data_size e.bearer share in
    let more = has_more_behind e.bearer share held in
    let s = offered_to e.bearer share held in
    sends_one f (Taking size held more) s rx e.copies rs e.busy
    (record {
      few = t.few;
      lowest = subst (λ (cs : List Copy). AllByRecursion (IsHeld held) cs) (sym h.copies_are) t.lowest;
      one = λ q. ap (λ (x : Sender). is_new (answer x size held more)) h.sender_is ∙ t.one (sym h.busy_is ∙ q);
    }) h

takes_all : (e : BearerEnd) (share : ℕ) (held : Option ℕ) (f : Flow) (rx : Receiver) (rs : List Report)
    → IsTaking e share held
    → SenderGoes e.bearer.tx (called e.bearer (Take share held)).tx (sender_calls e.bearer (Take share held))
    → Stands e.bearer.tx rx e.copies rs e.busy f
    → Goes f (called e.bearer (Take share held)).tx rx (copies_with (data_given e.bearer share held) e.copies) rs
    (e.busy || is_new (data_given e.bearer share held))
takes_all e share held f rx rs t m h =
    let b = e.bearer in
    let size = data_size b share in
    let more = has_more_behind b share held in
    let s = offered_to b share held in
    let u = after_take s size held more in
    let cs = copies_with (data_given b share held) e.copies in
    let busy = e.busy || is_new (data_given b share held) in
    let offers : List SenderCall = map (λ sdu. Offer sdu) (offers_in b share held) in
    let last : List SenderCall = Taking size held more ∷ [] in
    let left : (called b (Take share held)).tx ≡ sends_on m.own u =
    m.left ∙ ap (sends_on m.own) (sends_then b.tx offers last) in
    subst (λ (x : Sender). Goes f x rx cs rs busy) (sym left)
    (goes_on f u (sends_on m.own u) rx rx cs cs rs rs busy busy
    (goes_on f s u rx rx e.copies cs rs rs e.busy busy
    (offers_all (offers_in b share held) f b.tx rx e.copies rs e.busy t.some h)
    (λ g k. takes_one e share held g rx rs t k))
    (λ g k. own_all m.own g u rx cs rs busy m.are_own k))

-- ---- any call

-- what a call leaves of the sender, where it gives no PDU
quiet : (e : BearerEnd) (d : State) (f : Flow) (rx : Receiver) (rs : List Report) → SenderGoes e.bearer.tx d.tx []
    → Stands e.bearer.tx rx e.copies rs e.busy f → Goes f d.tx rx e.copies rs (e.busy || false)
quiet e d f rx rs m h =
    none_new f d.tx rx e.copies rs e.busy (keeps_to_itself f e.bearer.tx d.tx rx e.copies rs e.busy m h)

called_so : (b : State) (c : Call) → SenderGoes b.tx (called b c).tx (sender_calls b c)
called_so b c = sender_goes_on b (called b c) c (is_called b c)

pub calls_send : (e : BearerEnd) (c : Call) (f : Flow) (rx : Receiver) (rs : List Report) → IsCalling e c
    → Stands e.bearer.tx rx e.copies rs e.busy f
    → Goes f (called e.bearer c).tx rx (copies_with (data_by e.bearer c) e.copies) rs
    (e.busy || is_new (data_by e.bearer c))
calls_send e (Submit sdu) f rx rs g h =
    quiet e (called e.bearer (Submit sdu)) f rx rs (called_so e.bearer (Submit sdu)) h
calls_send e (Take share held) f rx rs g h = takes_all e share held f rx rs g (called_so e.bearer (Take share held)) h
calls_send e (Arrive pdu) f rx rs g h = absurd g
calls_send e (Expire clock) f rx rs g h =
    quiet e (called e.bearer (Expire clock)) f rx rs (called_so e.bearer (Expire clock)) h
calls_send e Tick f rx rs g h = quiet e (called e.bearer Tick) f rx rs (called_so e.bearer Tick) h
calls_send e (SetDiscard ttis) f rx rs g h =
    quiet e (called e.bearer (SetDiscard ttis)) f rx rs (called_so e.bearer (SetDiscard ttis)) h

-- ---- a PDU comes

-- a data PDU is nothing to the sender
pub data_sends : (e : BearerEnd) (octets : List ℕ) (f : Flow) (rx : Receiver) (rs : List Report)
    → status_heard (am_at octets) ≡ [] → Stands e.bearer.tx rx e.copies rs e.busy f
    → Goes f (called e.bearer (Arrive octets)).tx rx e.copies rs e.busy
data_sends e octets f rx rs q h =
    let d = called e.bearer (Arrive octets) in
    keeps_to_itself f e.bearer.tx d.tx rx e.copies rs e.busy
    (subst (λ (l : List SenderCall). SenderGoes e.bearer.tx d.tx l) q
    (sender_goes_on e.bearer d (Arrive octets) (is_called e.bearer (Arrive octets)))) h

status_at : (f : Flow) (k : ℕ) (r : Report) (pdu : StatusPdu) (tx : Sender) (rx : Receiver) (cs : List Copy)
    (rs : List Report) (b : Bool)
    → slice_get f.reports k ≡ Some r → am_at r.octets ≡ Ok (Control pdu) → Stands tx rx cs rs b f
    → Goes f (sender_after tx (Status pdu)) rx cs rs b
status_at f k r pdu tx rx cs rs b q read h =
    let g : Flow = record f { sent = f.sent ++ Status pdu ∷ [] } in
    let on : Stands (sender_after tx (Status pdu)) rx cs rs b g = record {
      sender_is = ap (λ (w : SenderWorld Octets). w.state) (sender-more f (Status pdu))
          ∙ ap (λ (s : Sender). sender_after s (Status pdu)) h.sender_is;
      receiver_is = h.receiver_is;
      copies_are = h.copies_are;
      reports_are = h.reports_are;
      busy_is = h.busy_is;
    } in
    steps_once f (StatusComes k) (sender_after tx (Status pdu)) rx cs rs b tt
    (subst (λ (o : Option Report). Stands (sender_after tx (Status pdu)) rx cs rs b (status_comes f o)) (sym q)
    (subst (λ (o : Result AcknowledgedPdu RlcRefusal). Stands (sender_after tx (Status pdu)) rx cs rs b
    (status_read f o)) (sym read) on))

-- a STATUS that stands at a place comes
pub status_sends : (e : BearerEnd) (f : Flow) (k : ℕ) (r : Report) (pdu : StatusPdu) (rx : Receiver)
    (rs : List Report)
    → slice_get f.reports k ≡ Some r → am_at r.octets ≡ Ok (Control pdu) → Stands e.bearer.tx rx e.copies rs e.busy f
    → Goes f (called e.bearer (Arrive r.octets)).tx rx e.copies rs e.busy
status_sends e f k r pdu rx rs q read h =
    let d = called e.bearer (Arrive r.octets) in
    let m : SenderGoes e.bearer.tx d.tx (Status pdu ∷ []) =
    subst (λ (o : Result AcknowledgedPdu RlcRefusal). SenderGoes e.bearer.tx d.tx (status_heard o)) read
    (sender_goes_on e.bearer d (Arrive r.octets) (is_called e.bearer (Arrive r.octets))) in
    let s = sender_after e.bearer.tx (Status pdu) in
    subst (λ (x : Sender). Goes f x rx e.copies rs e.busy) (sym m.left)
    (goes_on f s (sends_on m.own s) rx rx e.copies e.copies rs rs e.busy e.busy
    (status_at f k r pdu e.bearer.tx rx e.copies rs e.busy q read h)
    (λ g k. own_all m.own g s rx e.copies rs e.busy m.are_own k))
