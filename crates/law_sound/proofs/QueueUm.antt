-- An unacknowledged bearer beside the flow that it sends, in each of its calls: RLC takes the SDUs that wait in their
-- order, and the PDU that it writes is right.
use Rattle.std.proofs.Common.{◌≡◌, ◌<◌, ◌≤◌, ℕ, ◌-◌, Bool, true, false, if◌then◌else◌, List, [], ◌∷◌, ◌++◌, length, map}
use Rattle.std.proofs.Common.{Option, Some, None, Result, Ok, refl, ap, sym, subst, ◌∙◌, arith, append-nil}
use Rattle.std.specs.List.{AllByRecursion}
use Rattle.bearer.specs.Hearing.{arriving, arrived, expiry, expired, ticking, ticked, with_discard}
use Rattle.bearer.specs.Submitting.{refusal, submitted}
use Rattle.bearer.specs.Taking.{pdus, told, after as flow_after}
use Rattle.bearer.specs.Unacknowledged.Hearing.{arriving as um_arriving, after_arrival, timed_left, timed_told}
use Rattle.bearer.specs.Unacknowledged.Hearing.{counted_down, discards, ticking as um_ticking, after_ticking}
use Rattle.bearer.specs.Unacknowledged.State.{State}
use Rattle.bearer.specs.Unacknowledged.Taking.{Feeding, given_to, fed, feeds, feeding, size_in, has_more, why_idle}
use Rattle.bearer.specs.Unacknowledged.Taking.{data_told, idle_told, answer, taking as um_taking, after_taking}
use Rattle.bearer.specs.declared.flow.Flow.TheVariants.{Um}
use Rattle.bearer_pdcp.specs.Discarding.{tick_told}
use Rattle.bearer_pdcp.specs.Taking.{taken, taking_told, after_taking as after_pdcp}
use Rattle.bearer_pdcp.specs.Telling.{pdus_of}
use Rattle.bearer_types.specs.declared.event.Event.{Event}
use Rattle.l2_num.specs.Timers.{ends}
use Rattle.l2_types.specs.declared.event.How.{How}
use Rattle.l2_types.specs.declared.event.How.TheVariants as hows
use Rattle.l2_types.specs.declared.event.Waits.{Waits}
use Rattle.pdcp_pdu.specs.declared.PdcpKind.{PdcpKind}
use Rattle.pdcp_pdu.specs.declared.PdcpKind.TheVariants as pdcp
use Rattle.pdcp_tx.specs.State.{Offer, offers}
use Rattle.pdu_show.specs.declared.kinds.Layout.{Layout}
use Rattle.pdu_show.specs.declared.kinds.Layout.TheVariants as layouts
use Rattle.rlc_pdu.specs.Pdus.{IsUmBits, UmdPdu}
use Rattle.rlc_pdu.specs.Reading.{umd_at}
use Rattle.rlc_pdu.specs.Writing.{umd_canonical}
use Rattle.rlc_pdu.specs.declared.RlcRefusal.{RlcRefusal}
use Rattle.rlc_pdu.specs.declared.outcome.Taken.{Taken}
use Rattle.rlc_pdu.specs.declared.outcome.Taken.TheVariants as answers
use Rattle.rlc_um.specs.Sender.{Sender, Turn, Gives, IsIdle, IsHeld, IsSmall, turn, pdu_of, answer as sender_answer}
use Rattle.rlc_um.specs.Sender.{taken as rlc_taken, sent, after_turn, after_take, is_hungry}
use Rattle.journal_sent.specs.RightSent.{Flow, Sent}
use Rattle.journal_sent.specs.SentFlows.{is_data, flow_submitted, judges_by, judges_umd, flow_judges}
use Rattle.journal_sent.specs.SentPdus.{histories}
use Rattle.law_bearer.specs.AnyBearer.Calls.{Call as BearerCall, Submit, Take, Arrive, Expire, Tick, SetDiscard}
use Rattle.law_bearer.proofs.AnyBearer.Between.{IsBetween}
use Rattle.law_sent.specs.Channels.{SentPdu, AreRight, behind_one, behind_all}
use Rattle.law_sent.specs.UmSenders.{AreUmStreamsOf}
use Rattle.law_sound.proofs.QueueBeside.{IsQueueOf, IsUnackedBy, AreRightHere, queue_over, IsTakenIn, KeepsOne}
use Rattle.law_sound.proofs.QueueBeside.{ArePdusOf, CanWrite, WritesSo}
use Rattle.law_sound.proofs.QueuePdcp.{given_if, queue_takes, queue_ticks, queue_submitted, queue_discards, queue_alike}
use Rattle.law_sound.proofs.QueueUmHearing.{queue_then, right_then, IsStill, all_leave, all_right, Hears, with_pdcp}
use Rattle.law_sound.proofs.QueueUmHearing.{arrival_heard, expiry_heard, timed_heard}
use Rattle.law_sent.proofs.UmSenders.{offers_go_on, writes_rightly}
use Rattle.law_sound.proofs.SentBetween.{IsRightPdu}
use Rattle.law_sound.proofs.SentNames.{hows_in, hows_then, taking_none}

-- ---- a call in which nothing is written

submitted_flow : (sdu : List ℕ) (f : Flow) → is_data f.layout ≡ false
    → flow_submitted sdu f ≡ record f { waiting = f.waiting ++ sdu ∷ [] }
submitted_flow sdu f plain = ap (λ (b : Bool). if b then f else record f { waiting = f.waiting ++ sdu ∷ [] }) plain

submits_keep : (l : ℕ) (b : State) (sdu : List ℕ) (f : Flow) → refusal (Um b) sdu ≡ None → IsUnackedBy b f
    → KeepsOne l (Um b) (Submit sdu) f
unfolding refusal submitted
submits_keep l b sdu f accepted h =
    let plain : is_data f.layout ≡ false = ap is_data h.layout_is in
    let same = submitted_flow sdu f plain in
    record {
      right = tt;
      behind = record {
        bits = h.bits;
        layout_is = ap (λ (g : Flow). g.layout) same ∙ h.layout_is;
        known = h.known;
        sender_bits = h.sender_bits;
        queue = queue_submitted (pdcp.Um h.bits) refl b.pdcp sdu f plain accepted h.queue;
        streams = subst (AreUmStreamsOf b.tx) (sym (ap (λ (g : Flow). g.stream) same)) h.streams;
      };
    }

hearing_keeps : (told' : List Event) (d : State) (f : Flow) → Hears told' d f
    → AreRightHere told' f × IsUnackedBy d (queue_over told' f)
hearing_keeps told' d f x =
    (all_right told' f x.still, subst (IsUnackedBy d) (sym (all_leave told' f x.still)) x.behind)

arrival_keeps : (l : ℕ) (b : State) (pdu : List ℕ) (f : Flow) → IsUnackedBy b f → KeepsOne l (Um b) (Arrive pdu) f
unfolding arriving arrived um_arriving after_arrival
arrival_keeps l b pdu f h =
    let k = hearing_keeps _ _ f (arrival_heard (umd_at b.bits pdu) b f h) in record { right = k.0; behind = k.1 }

ticks_keep : (l : ℕ) (b : State) (f : Flow) → IsUnackedBy b f → KeepsOne l (Um b) Tick f
unfolding ticking ticked um_ticking after_ticking
ticks_keep l b f h =
    let c = counted_down b in
    let due = ends b.rx.clock in
    let first = timed_told due c in
    let v = timed_left due c in
    let x = timed_heard due c f (with_pdcp b c f h refl refl h.queue) in
    let k = x.behind in
    let t = queue_ticks (pdcp.Um k.bits) refl v.pdcp f k.queue in
    let leaves = all_leave first f x.still in
    let is = queue_then first (tick_told v.pdcp) f ∙ ap (queue_over (tick_told v.pdcp)) leaves in
    record {
      right = right_then first (tick_told v.pdcp) f (all_right first f x.still)
          (subst (AreRightHere (tick_told v.pdcp)) (sym leaves) t.right);
      behind = subst (IsUnackedBy (discards v)) (sym is) (record {
        bits = k.bits;
        layout_is = t.layout ∙ k.layout_is;
        known = k.known;
        sender_bits = k.sender_bits;
        queue = t.queue;
        streams = subst (AreUmStreamsOf v.tx) (sym t.stream) k.streams;
      });
    }

pub um_keeps : (l : ℕ) (b : State) (c : BearerCall) (f : Flow) → IsBetween l (Um b) → IsTakenIn (Um b) c
    → IsUnackedBy b f → KeepsOne l (Um b) c f
unfolding expiry expired with_discard
um_keeps l b (Submit sdu) f between accepted h = submits_keep l b sdu f accepted h
um_keeps l b (Take share held) f between accepted h = absurd accepted
um_keeps l b (Arrive pdu) f between accepted h = arrival_keeps l b pdu f h
um_keeps l b (Expire clock) f between accepted h =
    let k = hearing_keeps _ _ f (expiry_heard clock b f h) in record { right = k.0; behind = k.1 }
um_keeps l b Tick f between accepted h = ticks_keep l b f h
um_keeps l b (SetDiscard ttis) f between accepted h = record {
  right = tt;
  behind = with_pdcp b _ f h refl refl (queue_discards (pdcp.Um h.bits) refl b.pdcp ttis f h.queue);
}

-- ---- RLC takes SDUs

-- behind those that are told of so far
record IsFed (bits : ℕ) (s : Sender) (w : Feeding) (f : Flow) : Type 0 where
  right : AreRightHere w.events f
  queue : IsQueueOf (pdcp.Um bits) w.pdcp (queue_over w.events f)
  layout : (queue_over w.events f).layout ≡ f.layout
  streams : AreUmStreamsOf w.tx (queue_over w.events f).stream
  sender_bits : w.tx.bits ≡ s.bits
  unsent : hows_in w.events ≡ []

given_bits : (o : Option (List ℕ)) (s : Sender) → (given_to o s).bits ≡ s.bits
given_bits None s = refl
given_bits (Some pdu) s = refl

given_streams : (o : Option (List ℕ)) (s : Sender) (x : Sent) → ((pdu : List ℕ) → o ≡ Some pdu → 0 < length pdu)
    → AreUmStreamsOf s x → AreUmStreamsOf (given_to o s) (given_if o x)
given_streams None s x some h = h
given_streams (Some pdu) s x some h = offers_go_on s pdu x (some pdu refl) h

one_fed : (bits : ℕ) (s : Sender) (w : Feeding) (f : Flow) → is_data f.layout ≡ false → IsFed bits s w f
    → IsFed bits s (fed w) f
one_fed bits s w f plain h =
    let g = queue_over w.events f in
    let more = taking_told w.pdcp in
    let t = queue_takes (pdcp.Um bits) refl w.pdcp g (ap is_data h.layout ∙ plain) h.queue in
    let is = sym (queue_then w.events more f) in
    record {
      right = right_then w.events more f h.right t.right;
      queue = subst (IsQueueOf (pdcp.Um bits) (after_pdcp w.pdcp)) is t.queue;
      layout = subst (λ (k : Flow). k.layout ≡ f.layout) is (t.layout ∙ h.layout);
      streams = subst (λ (k : Flow). AreUmStreamsOf (given_to (taken w.pdcp) w.tx) k.stream) is
          (subst (AreUmStreamsOf (given_to (taken w.pdcp) w.tx)) (sym t.stream)
          (given_streams (taken w.pdcp) w.tx g.stream t.some h.streams));
      sender_bits = given_bits (taken w.pdcp) w.tx ∙ h.sender_bits;
      unsent = hows_then w.events more
          ∙ ap (λ (l : List How). hows_in w.events ++ l) (taking_none w.pdcp) ∙ append-nil (hows_in w.events)
          ∙ h.unsent;
    }

all_fed : (bits : ℕ) (s : Sender) (os : List Offer) (size : ℕ) (held : Option ℕ) (w : Feeding) (f : Flow)
    → is_data f.layout ≡ false → IsFed bits s w f → IsFed bits s (feeds os size held w) f
all_fed bits s [] size held w f plain h = h
all_fed bits s (o ∷ os) size held w f plain h =
    by (is_hungry w.tx size held) (all_fed bits s os size held (fed w) f plain (one_fed bits s w f plain h))
  where
    by : (hungry : Bool) → IsFed bits s (feeds os size held (fed w)) f
        → IsFed bits s (if hungry then feeds os size held (fed w) else w) f
    by true k = k
    by false k = h

feeding_is : (b : State) (share : ℕ) (held : Option ℕ) (f : Flow) (h : IsUnackedBy b f)
    → IsFed h.bits b.tx (feeding b share held) f
feeding_is b share held f h =
    all_fed h.bits b.tx (offers b.pdcp.tx) (size_in share) held (record { pdcp = b.pdcp; tx = b.tx; events = [] }) f
    (ap is_data h.layout_is)
    (record {
      right = tt;
      queue = h.queue;
      layout = refl;
      streams = h.streams;
      sender_bits = refl;
      unsent = refl;
    })

-- ---- what is told of the PDU leaves the flow

idle_still : (lcid : ℕ) (more : Bool) (why : Waits) → AllByRecursion IsStill (idle_told lcid more why)
idle_still lcid true why = (tt, tt)
idle_still lcid false why = tt

data_still : (lcid bits : ℕ) (more : Bool) (why : Waits) (t : Taken)
    → AllByRecursion IsStill (data_told lcid bits more why t)
data_still lcid bits more why (answers.Piece number fresh polled octets) = (tt, tt)
data_still lcid bits more why answers.Idle = idle_still lcid more why
data_still lcid bits more why answers.Small = (tt, tt)
data_still lcid bits more why answers.Shut = (tt, tt)
data_still lcid bits more why answers.Held = (tt, tt)
data_still lcid bits more why answers.Stopped = (tt, tt)

-- ---- a PDU changes only the streams of the flow

record StaysQueued (f g : Flow) : Type 0 where
  layout : g.layout ≡ f.layout
  cover : g.cover ≡ f.cover
  waiting : g.waiting ≡ f.waiting
  given : g.given ≡ f.given

umd_stays : (bits : ℕ) (how : How) (read : Result UmdPdu RlcRefusal) (f : Flow)
    → StaysQueued f (judges_umd histories bits how read f).flow
umd_stays bits hows.New (Ok pdu) f = record { layout = refl; cover = refl; waiting = refl; given = refl }
umd_stays bits how read f = record { layout = refl; cover = refl; waiting = refl; given = refl }

one_stays : (bits : ℕ) (kind : PdcpKind) (acked : ℕ → Bool) (p : SentPdu) (f : Flow) → f.layout ≡ layouts.Um bits kind
    → StaysQueued f (behind_one acked p f)
one_stays bits kind acked p f e =
    subst (λ (layout : Layout). StaysQueued f (judges_by histories layout acked p.how p.passed p.octets f).flow) (sym e)
    (umd_stays bits p.how (umd_at bits p.octets) f)

-- ---- the PDU

record IsWritten (acked : ℕ → Bool) (s : Sender) (ps : List SentPdu) (g : Flow) : Type 0 where
  right : AreRight IsRightPdu acked ps g
  streams : AreUmStreamsOf s (behind_all acked ps g).stream
  stays : StaysQueued g (behind_all acked ps g)

none_written : (acked : ℕ → Bool) (s : Sender) (ps : List SentPdu) (g : Flow)
    → map (λ (p : SentPdu). p.octets) ps ≡ [] → AreUmStreamsOf s g.stream → IsWritten acked s ps g
none_written acked s [] g none h = record {
  right = tt;
  streams = h;
  stays = record { layout = refl; cover = refl; waiting = refl; given = refl };
}
none_written acked s (p ∷ ps) g none h = absurd cc

-- what a sender needs to write a PDU of a size
record CanSend (kind : PdcpKind) (s : Sender) (size : ℕ) (g : Flow) : Type 0 where
  known : IsUmBits s.bits
  few : size ≤ 32767
  layout_is : g.layout ≡ layouts.Um s.bits kind
  streams : AreUmStreamsOf s g.stream

one_written : (kind : PdcpKind) (acked : ℕ → Bool) (s : Sender) (size : ℕ) (held : Option ℕ) (ps : List SentPdu)
    (g : Flow) → turn s size held ≡ Gives → CanSend kind s size g
    → map (λ (p : SentPdu). p.octets) ps ≡ umd_canonical s.bits (pdu_of s size) ∷ []
    → map (λ (p : SentPdu). p.how) ps ≡ hows.New ∷ [] → IsWritten acked (sent s size) ps g
one_written kind acked s size held [] g gives can octets named = absurd cc
one_written kind acked s size held (p ∷ []) g gives can octets named =
    let is : p.octets ≡ umd_canonical s.bits (pdu_of s size) = cc in
    let how_is : p.how ≡ hows.New = cc in
    let w = writes_rightly s size held kind acked p.passed g can.known can.few can.layout_is gives
    can.streams in
    record {
      right = (
        subst (λ (how : How). IsRightPdu acked how p.passed p.octets g) (sym how_is)
            (subst (λ (l : List ℕ). IsRightPdu acked hows.New p.passed l g) (sym is) w.right),
        tt,
      );
      streams = subst (λ (how : How). AreUmStreamsOf (sent s size)
          (flow_judges histories acked how p.passed p.octets g).flow.stream) (sym how_is)
          (subst (λ (l : List ℕ). AreUmStreamsOf (sent s size)
          (flow_judges histories acked hows.New p.passed l g).flow.stream) (sym is) w.streams);
      stays = one_stays s.bits kind acked p g can.layout_is;
    }
one_written kind acked s size held (p ∷ q ∷ ps) g gives can octets named = absurd cc

turn_writes : (lcid bits : ℕ) (more : Bool) (why : Waits) (kind : PdcpKind) (acked : ℕ → Bool) (s : Sender) (size : ℕ)
    (held : Option ℕ) (ps : List SentPdu) (g : Flow) (t : Turn) → turn s size held ≡ t → CanSend kind s size g
    → map (λ (p : SentPdu). p.octets) ps ≡ pdus_of (sender_answer t s size)
    → map (λ (p : SentPdu). p.how) ps ≡ hows_in (data_told lcid bits more why (sender_answer t s size))
    → IsWritten acked (after_turn t s size) ps g
turn_writes lcid bits more why kind acked s size held ps g Gives e can octets named =
    one_written kind acked s size held ps g e can octets named
turn_writes lcid bits more why kind acked s size held ps g IsIdle e can octets named =
    none_written acked s ps g octets can.streams
turn_writes lcid bits more why kind acked s size held ps g IsHeld e can octets named =
    none_written acked s ps g octets can.streams
turn_writes lcid bits more why kind acked s size held ps g IsSmall e can octets named =
    none_written acked s ps g octets can.streams

left_bits : (t : Turn) (s : Sender) (size : ℕ) → (after_turn t s size).bits ≡ s.bits
left_bits Gives s size = refl
left_bits IsIdle s size = refl
left_bits IsHeld s size = refl
left_bits IsSmall s size = refl

pub um_writes : (l : ℕ) (b : State) (share : ℕ) (held : Option ℕ) (acked : ℕ → Bool) (ps : List SentPdu) (f : Flow)
    → CanWrite l (Um b) share → ArePdusOf l (Um b) share held f ps → IsUnackedBy b f
    → WritesSo l (Um b) share held acked ps f
unfolding pdus told flow_after um_taking answer after_taking rlc_taken after_take
um_writes l b share held acked ps f can are h =
    let size = size_in share in
    let w = feeding b share held in
    let t = turn w.tx size held in
    let more = has_more w.pdcp in
    let why = why_idle w.tx held in
    let last = data_told w.pdcp.lcid b.bits more why (sender_answer t w.tx size) in
    let k = feeding_is b share held f h in
    let g = queue_over w.events f in
    let still = data_still w.pdcp.lcid b.bits more why (sender_answer t w.tx size) in
    let is : queue_over (w.events ++ last) f ≡ g = queue_then w.events last f ∙ all_leave last g still in
    let bits : w.tx.bits ≡ b.bits = k.sender_bits ∙ h.sender_bits in
    let few = can.few in
    let named = are.hows_are ∙ hows_then w.events last ∙ ap (λ (hs : List How). hs ++ hows_in last) k.unsent in
    let x = turn_writes w.pdcp.lcid b.bits more why (pdcp.Um h.bits) acked w.tx size held ps g t refl
    (record {
      known = subst IsUmBits (sym bits) h.known;
      few = omega (arith, few);
      layout_is = k.layout ∙ h.layout_is ∙ ap (λ (n : ℕ). layouts.Um n (pdcp.Um h.bits)) (sym bits);
      streams = k.streams;
    }) are.octets_are named in
    let s = x.stays in
    record {
      right = right_then w.events last f k.right (all_right last g still);
      pdus_right = subst (AreRight IsRightPdu acked ps) (sym is) x.right;
      behind = subst (λ (m : Flow). IsUnackedBy (after_taking b share held) (behind_all acked ps m)) (sym is) (record {
        bits = h.bits;
        layout_is = s.layout ∙ k.layout ∙ h.layout_is;
        known = h.known;
        sender_bits = left_bits t w.tx size ∙ bits;
        queue = queue_alike (pdcp.Um h.bits) refl w.pdcp g (behind_all acked ps g) s.cover s.waiting s.given k.queue;
        streams = x.streams;
      });
    }
