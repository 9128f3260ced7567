-- A signalling bearer writes, beside what is kept of the flow that it sends while the PDUs of a journal are checked:
-- RLC takes SDUs that wait, one after the other, and its PDUs are right.
use Rattle.std.proofs.Common.{◌≡◌, ◌<◌, ℕ, ◌-◌, ◌%◌, Bool, true, false, if◌then◌else◌, List, [], ◌∷◌, ◌++◌, map, length}
use Rattle.std.proofs.Common.{Option, Some, None, refl, ap, sym, subst, ◌∙◌, arith}
use Rattle.bearer.specs.Acknowledged.State.{State, Work, work}
use Rattle.bearer.specs.Acknowledged.Taking.{writes_status, status_told, prohibit_told, has_prohibit, data_size}
use Rattle.bearer.specs.Acknowledged.Taking.{given_to, fed, feeds, feeding, poll_told, data_told, answer_of}
use Rattle.bearer.specs.Acknowledged.Taking.{taking as am_taking}
use Rattle.bearer.specs.Taking.{told, after as taken_from}
use Rattle.bearer.specs.declared.flow.Flow.{Flow as BearerFlow}
use Rattle.bearer.specs.declared.flow.Flow.TheVariants.{Am}
use Rattle.bearer_pdcp.specs.Ends.{Ends}
use Rattle.bearer_pdcp.specs.Taking.{taken, taking_told, after_taking as after_pdcp}
use Rattle.bearer_types.specs.declared.event.Event.{Event}
use Rattle.bearer_types.specs.declared.event.Event.TheVariants as events
use Rattle.l2_types.specs.declared.event.How.TheVariants as how
use Rattle.pdcp_pdu.specs.declared.PdcpKind.TheVariants as pdcp
use Rattle.pdcp_tx.specs.State.{Offer, offers}
use Rattle.pdu_show.specs.declared.kinds.Layout.{Layout}
use Rattle.pdu_show.specs.declared.kinds.Layout.TheVariants as layouts
use Rattle.rlc_am_rx.specs.State.{State as Receiver}
use Rattle.rlc_am_rx.specs.Status.{ack}
use Rattle.rlc_am_tx.specs.Machine.{State as Sender}
use Rattle.rlc_am_tx.specs.Need.{hungry}
use Rattle.rlc_pdu.specs.declared.constants.TheConstants.{AM_MODULUS}
use Rattle.rlc_pdu.specs.declared.outcome.Taken.{Taken}
use Rattle.rlc_pdu.specs.declared.outcome.Taken.TheVariants as taken_as
use Rattle.journal_sent.specs.RightSent.{Flow, Sent}
use Rattle.journal_sent.specs.SentFlows.{is_data}
use Rattle.law_bearer.specs.AnyBearer.Acknowledged.{offers_in, offered_to}
use Rattle.law_bearer.specs.AnyBearer.Calls.{Take}
use Rattle.law_bearer.specs.AnyBearer.Sending.{sends_on}
use Rattle.law_bearer.specs.AnyBearer.Stream.{am_offered}
use Rattle.law_bearer.proofs.AnyBearer.Acknowledged.{take_left}
use Rattle.law_bearer.proofs.AnyBearer.Flows.{is_offered}
use Rattle.law_deliver.specs.AmFlow.Pair.{called}
use Rattle.law_deliver.proofs.AmFlow.Sending.{is_called}
use Rattle.law_rlc.specs.AmSender.Run.{Offer as Offers, after as sender_after}
use Rattle.law_sent.specs.Channels.{SentPdu, AreRight, behind_all}
use Rattle.law_sound.proofs.QueueBeside.{IsQueueOf, IsSignalledBy, IsQueuedBy, AreRightHere, CanWrite, AckedBy}
use Rattle.law_sound.proofs.QueueBeside.{ArePdusOf, WritesSo, queue_over}
use Rattle.law_sound.proofs.QueueEvents.{AreAside, over_then, right_then, aside_over, aside_right}
use Rattle.law_sound.proofs.QueuePdcp.{given_if, queue_takes, queue_alike}
use Rattle.law_sound.proofs.SentBeside.{IsRun}
use Rattle.law_sound.proofs.SentBetween.{IsRightPdu}
use Rattle.law_sound.proofs.SentCalls.{IsWriting, IsWritten, offered_writes, call_base}
use Rattle.law_sound.proofs.SentRuns.{offers_run}

-- ---- what isn't told of SDUs

prohibit_aside : (lcid : ℕ) (has : Bool) → AreAside (prohibit_told lcid has)
prohibit_aside lcid true = (tt, tt)
prohibit_aside lcid false = tt

status_aside : (lcid : ℕ) (has : Bool) (r : Receiver) (share : ℕ) → AreAside (status_told lcid has r share)
status_aside lcid has r share = by (writes_status r share)
  where
    by : (b : Bool)
        → AreAside (if b
        then events.Send lcid how.Status (ack r (share - 3) % AM_MODULUS) ∷ prohibit_told lcid has else [])
    by true = (tt, prohibit_aside lcid has)
    by false = tt

started_aside : (lcid : ℕ) (polled : Bool) → AreAside (poll_told lcid polled)
started_aside lcid true = (tt, tt)
started_aside lcid false = tt

data_aside : (lcid : ℕ) (t : Taken) → AreAside (data_told lcid t)
data_aside lcid (taken_as.Piece number first polled octets) = (tt, started_aside lcid polled)
data_aside lcid taken_as.Idle = tt
data_aside lcid taken_as.Small = (tt, tt)
data_aside lcid taken_as.Shut = (tt, tt)
data_aside lcid taken_as.Held = (tt, tt)
data_aside lcid taken_as.Stopped = (tt, tt)

-- ---- RLC takes what PDCP has

-- so far, in a call
record IsFed (f : Flow) (w : Work) : Type 0 where
  right : AreRightHere w.events f
  queue : IsQueueOf pdcp.Srb w.pdcp (queue_over w.events f)
  layout : (queue_over w.events f).layout ≡ layouts.Am pdcp.Srb
  floor : (queue_over w.events f).floor ≡ f.floor
  run : IsRun w.tx (queue_over w.events f).stream

given_run : (pdu : Option (List ℕ)) (s : Sender) (x : Sent)
    → ((octets : List ℕ) → pdu ≡ Some octets → 0 < length octets) → IsRun s x
    → IsRun (given_to pdu s) (given_if pdu x)
given_run None s x some h = h
given_run (Some pdu) s x some h = offers_run (pdu ∷ []) s x (some pdu refl, tt) h

-- one more
fed_so : (f : Flow) (w : Work) → IsFed f w → IsFed f (fed w)
fed_so f w h =
    let g = queue_over w.events f in
    let told' = taking_told w.pdcp in
    let t = queue_takes pdcp.Srb refl w.pdcp g (ap (λ (x : Layout). is_data x) h.layout) h.queue in
    let over : queue_over (w.events ++ told') f ≡ queue_over told' g = over_then w.events told' f in
    record {
      right = right_then w.events told' f h.right t.right;
      queue = subst (IsQueueOf pdcp.Srb (after_pdcp w.pdcp)) (sym over) t.queue;
      layout = ap (λ (x : Flow). x.layout) over ∙ (t.layout ∙ h.layout);
      floor = ap (λ (x : Flow). x.floor) over ∙ (t.floor ∙ h.floor);
      run = subst (IsRun (given_to (taken w.pdcp) w.tx)) (sym (ap (λ (x : Flow). x.stream) over ∙ t.stream))
          (given_run (taken w.pdcp) w.tx g.stream t.some h.run);
    }

feeds_so : (os : List Offer) (size : ℕ) (held : Option ℕ) (f : Flow) (w : Work) → IsFed f w
    → IsFed f (feeds os size held w)
feeds_so [] size held f w h = h
feeds_so (o ∷ os) size held f w h = by (hungry w.tx size held) (feeds_so os size held f (fed w) (fed_so f w h))
  where
    by : (b : Bool) → IsFed f (feeds os size held (fed w)) → IsFed f (if b then feeds os size held (fed w) else w)
    by true rest = rest
    by false rest = h

feeding_so : (b : State) (share : ℕ) (held : Option ℕ) (f : Flow) → IsSignalledBy b f
    → IsFed f (feeding b share held)
feeding_so b share held f h =
    let told' = status_told b.pdcp.lcid (has_prohibit b) b.rx share in
    let aside = status_aside b.pdcp.lcid (has_prohibit b) b.rx share in
    let same = sym (aside_over told' f aside) in
    feeds_so (offers b.pdcp.tx) (data_size b share) held f (work b.pdcp b.tx told')
    (record {
      right = aside_right told' f aside;
      queue = subst (IsQueueOf pdcp.Srb b.pdcp) same h.queue;
      layout = ap (λ (x : Flow). x.layout) (sym same) ∙ h.layout_is;
      floor = ap (λ (x : Flow). x.floor) (sym same);
      run = subst (λ (x : Flow). IsRun b.tx x.stream) same h.run;
    })

-- these are the PDUs that RLC's sender is offered
offers_all : (pdus : List (List ℕ)) (s : Sender) → am_offered pdus s ≡ sends_on (map (λ pdu. Offers pdu) pdus) s
offers_all [] s = refl
offers_all (pdu ∷ pdus) s = offers_all pdus (sender_after s (Offers pdu))

fed_is : (b : State) (share : ℕ) (held : Option ℕ) → (feeding b share held).tx ≡ offered_to b share held
fed_is b share held = is_offered (Am b) share held ∙ offers_all (offers_in b share held) b.tx

-- ---- the call

-- its last events, of the data PDU
abbrev last_told : State → ℕ → Option ℕ → List Event
last_told b share held =
    data_told (feeding b share held).pdcp.lcid (answer_of (feeding b share held) (data_size b share) held)

-- RLC has taken all that it takes
abbrev taken_flow : State → ℕ → Option ℕ → Flow → Flow
taken_flow b share held f = queue_over (feeding b share held).events f

told_over : (l : ℕ) (b : State) (share : ℕ) (held : Option ℕ) (f : Flow)
    → queue_over (told l (Am b) share held) f ≡ taken_flow b share held f
unfolding told am_taking
told_over l b share held f =
    over_then (feeding b share held).events (last_told b share held) f
    ∙ aside_over (last_told b share held) (taken_flow b share held f)
    (data_aside (feeding b share held).pdcp.lcid (answer_of (feeding b share held) (data_size b share) held))

told_right : (l : ℕ) (b : State) (share : ℕ) (held : Option ℕ) (f : Flow) → IsFed f (feeding b share held)
    → AreRightHere (told l (Am b) share held) f
unfolding told am_taking
told_right l b share held f h =
    right_then (feeding b share held).events (last_told b share held) f h.right
    (aside_right (last_told b share held) (taken_flow b share held f)
    (data_aside (feeding b share held).pdcp.lcid (answer_of (feeding b share held) (data_size b share) held)))

writing : (l : ℕ) (b : State) (share : ℕ) (held : Option ℕ) (acked : ℕ → Bool) (ps : List SentPdu) (f : Flow)
    → CanWrite l (Am b) share → AckedBy b acked → ArePdusOf l (Am b) share held f ps → IsSignalledBy b f
    → IsFed f (feeding b share held)
    → IsWriting pdcp.Srb b (called b (Take share held)) share held acked ps (taken_flow b share held f)
unfolding told
writing l b share held acked ps f can knows are h fed' =
    let floor = fed'.floor in
    let low = h.floor_low in
    record {
      few = can.few;
      lcid = can.lcid;
      well = can.well;
      goes = is_called b (Take share held);
      of_call = record { octets_are = are.octets_are; hows_are = are.hows_are };
      layout_is = fed'.layout;
      floor_low = omega (arith, floor, low);
      run = subst (λ (s : Sender). IsRun s (taken_flow b share held f).stream) (fed_is b share held) fed'.run;
      most = knows.most;
      es = knows.es;
      follows = knows.follows;
      acks = knows.acks;
    }

written : (b : State) (share : ℕ) (held : Option ℕ) (acked : ℕ → Bool) (ps : List SentPdu) (f : Flow)
    → IsSignalledBy b f → IsFed f (feeding b share held)
    → IsWritten (called b (Take share held)) acked ps (taken_flow b share held f)
    → IsSignalledBy (called b (Take share held)) (behind_all acked ps (taken_flow b share held f))
unfolding taken_from
written b share held acked ps f h fed' w =
    let g = taken_flow b share held f in
    let d = called b (Take share held) in
    let stays = w.stays in
    let last = stays.floor in
    let floor = fed'.floor in
    let low = h.floor_low in
    let more = call_base b d (Take share held) (is_called b (Take share held)) in
    record {
      layout_is = stays.layout ∙ fed'.layout;
      queue = queue_alike pdcp.Srb refl d.pdcp g (behind_all acked ps g) stays.cover stays.waiting stays.given
          (subst (λ (e : Ends). IsQueueOf pdcp.Srb e g) (sym (take_left b share held)) fed'.queue);
      run = w.run;
      floor_low = omega (arith, last, floor, low, more);
    }

pub srb_writes : (l : ℕ) (b : State) (share : ℕ) (held : Option ℕ) (acked : ℕ → Bool) (ps : List SentPdu) (f : Flow)
    → CanWrite l (Am b) share → AckedBy b acked → ArePdusOf l (Am b) share held f ps → IsSignalledBy b f
    → WritesSo l (Am b) share held acked ps f
srb_writes l b share held acked ps f can knows are h =
    let fed' = feeding_so b share held f h in
    let d = called b (Take share held) in
    let over = sym (told_over l b share held f) in
    let w = offered_writes pdcp.Srb b d share held acked ps (taken_flow b share held f)
    (writing l b share held acked ps f can knows are h fed') in
    record {
      right = told_right l b share held f fed';
      pdus_right = subst (λ (g : Flow). AreRight IsRightPdu acked ps g) over w.right;
      behind = subst (λ (x : BearerFlow). IsQueuedBy x (behind_all acked ps (queue_over (told l (Am b) share held) f)))
          (sym (is_called b (Take share held)))
          (subst (λ (g : Flow). IsSignalledBy d (behind_all acked ps g)) over
          (written b share held acked ps f h fed' w));
    }
