-- What holds through any events of a life.
use Rattle.std.proofs.Common.{◌≡◌, ◌<◌, ◌≤◌, ℕ, suc, ◌+◌, List, [], ◌∷◌, ◌++◌, length, map, take, drop, Option, Some}
use Rattle.std.proofs.Common.{None, slice_get, append-nil, append_assoc, length-append, refl, ap, sym, ◌∙◌, subst}
use Rattle.std.proofs.Common.{arith}
use Rattle.std.proofs.lemmas.List.{take-append-drop}
use Rattle.pdcp_pdu.specs.declared.PdcpKind.TheVariants.{Srb}
use Rattle.pdcp_sec.specs.Protection.{Protection}
use Rattle.pdcp_tx_store.specs.Waiting.{Waits}
use Rattle.pdcp_tx.specs.declared.sender.Next.{Next}
use Rattle.pdcp_tx.specs.Pdus.{pdu}
use Rattle.pdcp_tx.specs.Runs.{Call, Submit, Take, Confirm, Report, Owe, Tick, Late, after}
use Rattle.pdcp_tx.specs.State.{State as Sending, written, took}
use Rattle.pdcp_rx.specs.State.{State as Receiving}
use Rattle.law_pdcp.specs.OneEnd.Lives.{queue, takes_new}
use Rattle.law_pdcp.specs.SrbPair.Delivery.{written_from, IsReadNext, IsTheFront, submits, submitted_in}
use Rattle.law_pdcp.specs.SrbPair.Flow.{Flow, Event, Sends as Calls, HandUp, Raise, passes, happens}
use Rattle.law_pdcp.specs.OneEnd.Given.{nexts_of, pdus_given}
use Rattle.law_pdcp.specs.SrbPair.Flow.{run_srb_pdcp}
use Rattle.law_pdcp.specs.SrbPair.Flow.{srb_pdcp_outset, SrbPdcpBeginAlike, CanCall, AreGiven}
use Rattle.law_pdcp.proofs.SrbPair.Receives.{reads}
use Rattle.law_pdcp.proofs.OneEnd.Submitting.{AreNonempty}
use Rattle.law_pdcp.proofs.SrbPair.Sending.{Sends, submit_sends, submit_queues, TakesNone, takes_none}
use Rattle.law_pdcp.proofs.SrbPair.Sending.{TakesOne, takes_one, new_sends, confirm_sends, confirm_queues, clock_sends}
use Rattle.law_pdcp.proofs.SrbPair.Sending.{never_late}
use Rattle.law_pdcp.proofs.SrbPair.Written.{length_written, written_at, some_at, take_next, take_more}

-- ---- what holds

-- a receiver to which so many PDUs have been handed up in a life
pub record Hears (first : ℕ) (p : Protection) (passed : ℕ) (r : Receiving) : Type 0 where
  pub srb : r.kind ≡ Srb
  pub key : r.protection ≡ p
  pub none_held : r.held ≡ []
  pub next : r.next ≡ first + passed

pub record Sound (p : Protection) (f : Flow) : Type 0 where
  pub sends : Sends f.first p f.sdus f.sender
  pub stream : f.stream ≡ written_from p f.first f.sdus
  pub hears : Hears f.first p f.passed f.receiver
  pub few : f.passed ≤ length f.sdus
  pub delivered : f.up ++ f.receiver.ready ≡ take f.passed f.sdus

-- ---- a call of the sender

-- it takes some SDUs, of which it gives the PDUs to RLC
record Goes (first : ℕ) (p : Protection) (sdus : List (List ℕ)) (s : Sending) (c : Call) : Type 0 where
  sends : Sends first p (sdus ++ takes_new s c) (after s c)
  gives' : pdus_given s c ≡ written_from p s.next (takes_new s c)
  queued : takes_new s c ++ queue (after s c) ≡ queue s ++ submits c

none_taken : (first : ℕ) (p : Protection) (sdus : List (List ℕ)) (s t : Sending) (c : Call) → after s c ≡ t
    → takes_new s c ≡ [] → pdus_given s c ≡ [] → Sends first p sdus t → queue t ≡ queue s ++ submits c
    → Goes first p sdus s c
none_taken first p sdus s t c left news given h q = record {
  sends = subst (Sends first p (sdus ++ takes_new s c)) (sym left)
      (subst (λ (l : List (List ℕ)). Sends first p l t) (sym (ap (λ l. sdus ++ l) news ∙ append-nil sdus)) h);
  gives' = given ∙ ap (written_from p s.next) (sym news);
  queued = ap (λ l. l ++ queue (after s c)) news ∙ ap queue left ∙ q;
}

one_taken : (first : ℕ) (p : Protection) (sdus : List (List ℕ)) (s : Sending) (w : Waits) (ws : List Waits)
    → s.waiting ≡ w ∷ ws → TakesOne p s w ws → Sends first p sdus s → Goes first p sdus s Take
one_taken first p sdus s w ws q t h = record {
  sends = subst (λ (l : List (List ℕ)). Sends first p (sdus ++ l) (took s)) (sym t.news)
      (subst (Sends first p (sdus ++ w.sdu ∷ [])) (sym t.left) (new_sends first p sdus s w ws h q));
  gives' = ap nexts_of t.gives ∙ ap (written_from p s.next) (sym t.news);
  queued = ap (λ (l : List (List ℕ)). l ++ queue (took s)) t.news ∙ ap (λ (x : Sending). w.sdu ∷ queue x) t.left
      ∙ ap (λ (l : List Waits). queue (record s { waiting = l })) (sym q) ∙ sym (append-nil (queue s));
}

take_goes : (first : ℕ) (p : Protection) (sdus : List (List ℕ)) (s : Sending) (ws : List Waits) → s.waiting ≡ ws
    → Sends first p sdus s → Goes first p sdus s Take
take_goes first p sdus s [] q h =
    let t : TakesNone s = takes_none first p sdus s h q in
    none_taken first p sdus s s Take t.left t.news (ap nexts_of t.gives) h (sym (append-nil (queue s)))
take_goes first p sdus s (w ∷ ws) q h = one_taken first p sdus s w ws q (takes_one first p sdus s w ws h q) h

call_goes : (first : ℕ) (p : Protection) (sdus : List (List ℕ)) (s : Sending) (c : Call) → CanCall s c
    → Sends first p sdus s → Goes first p sdus s c
call_goes first p sdus s (Submit sdu) g h =
    none_taken first p sdus s (after s (Submit sdu)) (Submit sdu) refl refl refl (submit_sends first p sdus s sdu g h)
    (submit_queues s sdu)
call_goes first p sdus s Take g h = take_goes first p sdus s s.waiting refl h
call_goes first p sdus s (Confirm place) g h =
    none_taken first p sdus s (after s (Confirm place)) (Confirm place) refl refl refl
    (confirm_sends first p sdus s place h) (confirm_queues s place ∙ sym (append-nil (queue s)))
call_goes first p sdus s (Report fms bitmap) g h = absurd g
call_goes first p sdus s (Owe report) g h = absurd g
call_goes first p sdus s Tick g h =
    none_taken first p sdus s (after s Tick) Tick refl refl refl (clock_sends first p sdus s (after s Tick).clock h)
    (sym (append-nil (queue s)))
call_goes first p sdus s Late g h =
    none_taken first p sdus s s Late (never_late s h.unset) refl refl h (sym (append-nil (queue s)))

-- SDUs behind others are written behind them
written_both : (p : Protection) (count : ℕ) (xs ys : List (List ℕ))
    → written_from p count (xs ++ ys) ≡ written_from p count xs ++ written_from p (count + length xs) ys
written_both p count [] ys = let same : count ≡ count + 0 = omega arith in ap (λ n. written_from p n ys) same
written_both p count (x ∷ xs) ys =
    let same : count + 1 + length xs ≡ count + suc (length xs) = omega arith in
    ap (λ l. written Srb p (Some count) x ∷ l) (written_both p (count + 1) xs ys
    ∙ ap (λ n. written_from p (count + 1) xs ++ written_from p n ys) same)

call_sound : (p : Protection) (f : Flow) (c : Call) → CanCall f.sender c → Sound p f → Sound p (happens f (Calls c))
call_sound p f c g h =
    let one' = call_goes f.first p f.sdus f.sender c g h.sends in
    let news = takes_new f.sender c in
    record {
      sends = one'.sends;
      stream = ap (λ l. l ++ pdus_given f.sender c) h.stream
          ∙ ap (λ l. written_from p f.first f.sdus ++ l) (one'.gives' ∙ ap (λ n. written_from p n news) h.sends.count)
          ∙ sym (written_both p f.first f.sdus news);
      hears = h.hears;
      few = omega (arith, h.few, length-append f.sdus news);
      delivered = h.delivered ∙ sym (take_more f.sdus news f.passed h.few);
    }

-- ---- RLC hands up the next PDU

pub reads_next : (p : Protection) (f : Flow) → f.passed < length f.stream → Sound p f → IsReadNext f
reads_next p f lt h =
    let size : length f.stream ≡ length f.sdus = ap length h.stream ∙ length_written p f.first f.sdus in
    let x = written_at p f.first f.sdus f.passed (omega (arith, lt, size)) in
    let o = written Srb p (Some (f.first + f.passed)) x.sdu in
    record {
      x = o;
      at = ap (λ l. slice_get l f.passed) h.stream ∙ x.at;
      sdu = x.sdu;
      some = some_at f.sdus f.passed x.sdu h.sends.some x.taken;
      taken = x.taken;
      octets = ap (λ (q : Protection). pdu Srb q (f.first + f.passed) x.sdu) (sym h.sends.key);
      read = reads f.receiver (f.first + f.passed) o.octets x.sdu h.hears.srb h.hears.none_held
          (some_at f.sdus f.passed x.sdu h.sends.some x.taken) h.hears.next
          (omega (arith, lt, size, h.sends.count, h.sends.room))
          (ap (λ (q : Protection). pdu Srb q (f.first + f.passed) x.sdu) (sym h.hears.key));
    }

handed_sound : (p : Protection) (f : Flow) (r : IsReadNext f) → f.passed < length f.sdus → Sound p f
    → Sound p (passes (Some r.x) f)
handed_sound p f r lt h =
    let left : Receiving = record f.receiver {
      next = f.first + f.passed + 1;
      ready = f.receiver.ready ++ r.sdu ∷ [];
    } in
    let up : Sound p (record f { receiver = left; passed = f.passed + 1 }) = record {
      sends = h.sends;
      stream = h.stream;
      hears = record { srb = h.hears.srb; key = h.hears.key; none_held = h.hears.none_held; next = omega arith };
      few = omega (arith, lt);
      delivered =
          let next : f.passed + 1 ≡ suc f.passed = omega arith in
          sym (append_assoc f.up f.receiver.ready (r.sdu ∷ [])) ∙ ap (λ l. l ++ r.sdu ∷ []) h.delivered
          ∙ sym (take_next f.sdus f.passed r.sdu r.taken) ∙ ap (λ n. take n f.sdus) (sym next);
    } in
    subst (λ (s : Receiving). Sound p (record f { receiver = s; passed = f.passed + 1 })) (sym r.read.left) up

hand_up_sound : (p : Protection) (f : Flow) → f.passed < length f.stream → Sound p f → Sound p (happens f HandUp)
hand_up_sound p f lt h =
    let r = reads_next p f lt h in
    let size : length f.stream ≡ length f.sdus = ap length h.stream ∙ length_written p f.first f.sdus in
    subst (λ (o : Option Next). Sound p (passes o f)) (sym r.at) (handed_sound p f r (omega (arith, lt, size)) h)

-- ---- any events

raise_sound : (p : Protection) (f : Flow) → Sound p f → Sound p (happens f Raise)
raise_sound p f h = record {
  sends = h.sends;
  stream = h.stream;
  hears = record { srb = h.hears.srb; key = h.hears.key; none_held = h.hears.none_held; next = h.hears.next };
  few = h.few;
  delivered = append_assoc f.up (take 1 f.receiver.ready) (drop 1 f.receiver.ready)
      ∙ ap (λ l. f.up ++ l) (take-append-drop 1 f.receiver.ready) ∙ h.delivered;
}

run_sound : (p : Protection) (es : List Event) (f : Flow) → AreGiven f es → Sound p f → Sound p (run_srb_pdcp es f)
run_sound p [] f g h = h
run_sound p (Calls c ∷ es) f g h = run_sound p es (happens f (Calls c)) g.1 (call_sound p f c g.0 h)
run_sound p (HandUp ∷ es) f g h = run_sound p es (happens f HandUp) g.1 (hand_up_sound p f g.0 h)
run_sound p (Raise ∷ es) f g h = run_sound p es (happens f Raise) g.1 (raise_sound p f h)

pub begins_sends : (s : Sending) (r : Receiving) → SrbPdcpBeginAlike s r → Sends s.next s.protection [] s
begins_sends s r h = record {
  srb = h.sends;
  key = refl;
  count = omega arith;
  room = omega (arith, h.few, ap length h.none_waits);
  wide = omega (arith, h.bound);
  owes_none = h.owes_none;
  none_again = h.none_again;
  none_given = h.none_given;
  unset = h.unset;
  some = tt;
  waits_some = subst (λ (l : List Waits). AreNonempty (map (λ (w : Waits). w.sdu) l)) (sym h.none_waits) tt;
}

begins_sound : (s : Sending) (r : Receiving) → SrbPdcpBeginAlike s r → Sound s.protection (srb_pdcp_outset s r)
begins_sound s r h = record {
  sends = begins_sends s r h;
  stream = refl;
  hears = record { srb = h.hears; key = h.key; none_held = h.none_held; next = omega (arith, h.awaited) };
  few = omega arith;
  delivered = h.none_ready;
}

pub sound : (s : Sending) (r : Receiving) (events : List Event) → SrbPdcpBeginAlike s r
    → AreGiven (srb_pdcp_outset s r) events
    → Sound s.protection (run_srb_pdcp events (srb_pdcp_outset s r))
sound s r events h g = run_sound s.protection events (srb_pdcp_outset s r) g (begins_sound s r h)

-- ---- the first COUNT of the life stays

passes_first : (o : Option Next) (f : Flow) → (passes o f).first ≡ f.first
passes_first None f = refl
passes_first (Some x) f = refl

first_stays : (es : List Event) (f : Flow) → (run_srb_pdcp es f).first ≡ f.first
first_stays [] f = refl
first_stays (Calls c ∷ es) f = first_stays es (happens f (Calls c))
first_stays (HandUp ∷ es) f = first_stays es (happens f HandUp) ∙ passes_first (slice_get f.stream f.passed) f
first_stays (Raise ∷ es) f = first_stays es (happens f Raise)

-- ---- the laws

pub writes_each : (s : Sending) (r : Receiving) (events : List Event) → SrbPdcpBeginAlike s r
    → AreGiven (srb_pdcp_outset s r) events
    → (run_srb_pdcp events (srb_pdcp_outset s r)).stream
    ≡ written_from s.protection s.next (run_srb_pdcp events (srb_pdcp_outset s r)).sdus
writes_each s r events h g =
    let f : Flow = run_srb_pdcp events (srb_pdcp_outset s r) in
    (sound s r events h g).stream ∙ ap (λ n. written_from s.protection n f.sdus)
    (first_stays events (srb_pdcp_outset s r))

pub reads_each : (s : Sending) (r : Receiving) (events : List Event) → SrbPdcpBeginAlike s r
    → AreGiven (srb_pdcp_outset s r) events
    → (run_srb_pdcp events (srb_pdcp_outset s r)).passed < length (run_srb_pdcp events (srb_pdcp_outset s r)).stream
    → IsReadNext (run_srb_pdcp events (srb_pdcp_outset s r))
reads_each s r events h g lt =
    reads_next s.protection (run_srb_pdcp events (srb_pdcp_outset s r)) lt (sound s r events h g)

pub delivers_front : (s : Sending) (r : Receiving) (events : List Event) → SrbPdcpBeginAlike s r
    → AreGiven (srb_pdcp_outset s r) events → IsTheFront (run_srb_pdcp events (srb_pdcp_outset s r))
delivers_front s r events h g =
    let k = sound s r events h g in
    record { delivered = k.delivered; next = k.hears.next; none_held = k.hears.none_held }

-- ---- what was submitted

passes_sdus : (o : Option Next) (f : Flow) → (passes o f).sdus ++ queue (passes o f).sender ≡ f.sdus ++ queue f.sender
passes_sdus None f = refl
passes_sdus (Some x) f = refl

call_queues : (p : Protection) (f : Flow) (c : Call) → CanCall f.sender c → Sound p f
    → (f.sdus ++ takes_new f.sender c) ++ queue (after f.sender c) ≡ (f.sdus ++ queue f.sender) ++ submits c
call_queues p f c g h =
    append_assoc f.sdus (takes_new f.sender c) (queue (after f.sender c))
    ∙ ap (λ l. f.sdus ++ l) (call_goes f.first p f.sdus f.sender c g h.sends).queued
    ∙ sym (append_assoc f.sdus (queue f.sender) (submits c))

all_queued : (p : Protection) (es : List Event) (f : Flow) → AreGiven f es → Sound p f
    → (run_srb_pdcp es f).sdus ++ queue (run_srb_pdcp es f).sender ≡ (f.sdus ++ queue f.sender) ++ submitted_in es
all_queued p [] f g h = sym (append-nil (f.sdus ++ queue f.sender))
all_queued p (Calls c ∷ es) f g h =
    all_queued p es (happens f (Calls c)) g.1 (call_sound p f c g.0 h)
    ∙ ap (λ l. l ++ submitted_in es) (call_queues p f c g.0 h)
    ∙ append_assoc (f.sdus ++ queue f.sender) (submits c) (submitted_in es)
all_queued p (HandUp ∷ es) f g h =
    all_queued p es (happens f HandUp) g.1 (hand_up_sound p f g.0 h)
    ∙ ap (λ l. l ++ submitted_in es) (passes_sdus (slice_get f.stream f.passed) f)
all_queued p (Raise ∷ es) f g h = all_queued p es (happens f Raise) g.1 (raise_sound p f h)

pub takes_all : (s : Sending) (r : Receiving) (events : List Event) → SrbPdcpBeginAlike s r
    → AreGiven (srb_pdcp_outset s r) events
    → (run_srb_pdcp events (srb_pdcp_outset s r)).sdus ++ queue (run_srb_pdcp events (srb_pdcp_outset s r)).sender
    ≡ submitted_in events
takes_all s r events h g =
    all_queued s.protection events (srb_pdcp_outset s r) g (begins_sound s r h)
    ∙ ap (λ (l : List Waits). map (λ (w : Waits). w.sdu) l ++ submitted_in events) h.none_waits
