-- What has arrived stays so over a step.
use Rattle.std.proofs.Common.{◌≡◌, ◌<◌, ◌≤◌, ℕ, suc, zero, ◌+◌, Bool, true, false, ◌&&◌, ◌||◌, if◌then◌else◌, List, []}
use Rattle.std.proofs.Common.{◌∷◌, ◌++◌, length, slice_get, slice_index_or, Option, Some, None, Result, Ok, Err, refl}
use Rattle.std.proofs.Common.{ap, sym, subst, ◌∙◌, arith, nat_lt}
use Rattle.std.proofs.lemmas.Bool.Decides.{nat_tests}
use Rattle.std.proofs.lemmas.List.{append-nil, get_or_append_left, length-append}
use Rattle.rlc_pdu.specs.declared.Landed.{Landed}
use Rattle.rlc_pdu.specs.declared.Landed.TheVariants.{Kept, Repeat, Outside, Clash}
use Rattle.rlc_pdu.specs.declared.fault.RlcRefusal.{RlcRefusal}
use Rattle.rlc_pdu.specs.Pdus.{AmdPdu, AcknowledgedPdu, Payload, Status as Control}
use Rattle.rlc_pdu.specs.Reading.{am_at}
use Rattle.rlc_am_rx_window.specs.Cells.{Cell}
use Rattle.rlc_am_rx_window.specs.Piece.{piece_of}
use Rattle.rlc_am_rx_window.specs.Window.{RxWindow, top, offset_of}
use Rattle.rlc_am_tx.specs.declared.turn.Turn.{Turn}
use Rattle.rlc_am_tx.specs.declared.turn.Turn.TheVariants as turns
use Rattle.rlc_am_tx.specs.Machine.{State as Sending, turn}
use Rattle.rlc_am_rx.specs.State.{State}
use Rattle.rlc_am_rx.specs.Machine.{landed, after_landing, window_with}
use Rattle.law_rlc.specs.AmSender.Run.{Call as SenderCall, Offer, Take, Status, Tick, Expire, Settle, Confirm}
use Rattle.law_rlc.specs.AmSender.Run.{World as SenderWorld}
use Rattle.law_rlc.specs.AmSender.Octets.{Place as Sent, Octets, octets_by, octets_after}
use Rattle.law_rlc.specs.AmReceiver.Run.{Call, Arrive, Up, Write, ExpireReorder, ExpireProhibit, TickReorder}
use Rattle.law_rlc.specs.AmReceiver.Run.{TickProhibit, World, Came, kept_after, place_has_come, happens as heard_by}
use Rattle.law_rlc.specs.AmReceiver.Finish.{Place, marked, places, cut, all_come, arrived_in}
use Rattle.law_rlc.proofs.AmReceiver.Order.{top-advanced, kept-length}
use Rattle.law_rlc.specs.AmPair.Flow.{Copy, Report, Flow, Step, Sends, Receives, Reports, DataComes, StatusComes}
use Rattle.law_rlc.specs.AmPair.Flow.{DataGoes, StatusGoes, Passes, sender, receiver, data_read, data_comes}
use Rattle.law_rlc.specs.AmPair.Flow.{status_read, status_comes, happens}
use Rattle.law_rlc.specs.AmPair.Given.{IsReceiving, IsGiven}
use Rattle.law_rlc.specs.AmPair.Fields.{cells_of, field_of}
use Rattle.law_rlc.specs.AmPair.Seen.{seen}
use Rattle.law_rlc.specs.AmPair.Arrives.{arrives, brings}
use Rattle.law_rlc.proofs.AmPair.Runs.{called, sender-more, receiver-more}
use Rattle.law_rlc.proofs.AmPair.Sound.{IsSound}
use Rattle.law_rlc.proofs.AmPair.Fields.{sent-field}
use Rattle.law_rlc.proofs.AmPair.Hearing.{expiry-window}
use Rattle.law_rlc.proofs.AmPair.Covered.{IsThere, from_number, places-from}
use Rattle.law_rlc.proofs.AmPair.Sequence.{come-push}

-- ---- the test of a place

pub arrives-there : (sdus : List (List Place)) (k : ℕ)
    → (nat_lt k (length sdus) && all_come (slice_index_or sdus k [])) ≡ true → IsThere sdus k
arrives-there sdus k e = record { ends = grind (arith, nat_tests); octets = grind (arith, nat_tests) }

pub there-arrives : (sdus : List (List Place)) (k : ℕ) → IsThere sdus k
    → (nat_lt k (length sdus) && all_come (slice_index_or sdus k [])) ≡ true
there-arrives sdus k t = let a = t.ends in let b = t.octets in grind (arith, nat_tests)

-- ---- places of which more have arrived, and more behind them

abbrev Later : List Place → List Place → Type 0
Later [] qs = Unit {0}
Later (p ∷ ps) [] = ⊥
Later (p ∷ ps) (q ∷ qs) = (p.cell ≡ q.cell) × (p.come ≡ true → q.come ≡ true) × Later ps qs

push-more : (current more : List Place) (p q : Place) → (all_come current ≡ true → all_come more ≡ true)
    → (p.come ≡ true → q.come ≡ true)
    → all_come (current ++ p ∷ []) ≡ true → all_come (more ++ q ∷ []) ≡ true
push-more current more p q f g e = come-push more q
    ∙ both (all_come current) p.come (all_come more) q.come f g (sym (come-push current p) ∙ e)
  where
    both : (a b c d : Bool) → (a ≡ true → c ≡ true) → (b ≡ true → d ≡ true) → (a && b) ≡ true → (c && d) ≡ true
    both a b c d f g e = grind (arith, nat_tests, f, g)

later-cut : (ps qs current more : List Place) (k : ℕ) → (all_come current ≡ true → all_come more ≡ true) → Later ps qs
    → IsThere (cut current ps) k → IsThere (cut more qs) k
later-cut [] qs current more k f l t = let lt = t.ends in absurd (omega (arith, lt))
later-cut (p ∷ ps) [] current more k f l t = absurd l
later-cut (p ∷ ps) (q ∷ qs) current more k f l t =
    by p.cell.ends q.cell.ends k (ap (λ (c : Cell). c.ends) l.0)
    (λ j u. later-cut ps qs [] [] j (λ e. e) l.2 u)
    (λ j u. later-cut ps qs (current ++ p ∷ []) (more ++ q ∷ []) j grown l.2 u) t
  where
    grown : all_come (current ++ p ∷ []) ≡ true → all_come (more ++ q ∷ []) ≡ true
    grown e = push-more current more p q f l.1 e

    by : (b c : Bool) (k : ℕ) → b ≡ c
        → ((j : ℕ) → IsThere (cut [] ps) j → IsThere (cut [] qs) j)
        → ((j : ℕ) → IsThere (cut (current ++ p ∷ []) ps) j → IsThere (cut (more ++ q ∷ []) qs) j)
        → IsThere (if b then (current ++ p ∷ []) ∷ cut [] ps else cut (current ++ p ∷ []) ps) k
        → IsThere (if c then (more ++ q ∷ []) ∷ cut [] qs else cut (more ++ q ∷ []) qs) k
    by true true zero e ended on t = record { ends = omega arith; octets = grown t.octets }
    by true true (suc k) e ended on t =
        let lt = t.ends in let r = ended k (record { ends = omega (arith, lt); octets = t.octets }) in
        let below = r.ends in record { ends = omega (arith, below); octets = r.octets }
    by true false k e ended on t = cc
    by false true k e ended on t = cc
    by false false k e ended on t = on k t

later-marked : (cells : List Cell) (come more : ℕ → Bool) (i : ℕ) (ps qs : List Place)
    → ((j : ℕ) → come j ≡ true → more j ≡ true) → Later ps qs
    → Later (marked cells come i ++ ps) (marked cells more i ++ qs)
later-marked [] come more i ps qs f l = l
later-marked (c ∷ cs) come more i ps qs f l = (refl, λ e. f i e, later-marked cs come more (i + 1) ps qs f l)

later-numbers : (field other : ℕ → List Cell) (come more : ℕ → ℕ → Bool) (n k j : ℕ) → k ≤ j
    → ((m : ℕ) → n ≤ m → m < n + k → field m ≡ other m) → ((m i : ℕ) → come m i ≡ true → more m i ≡ true)
    → Later (from_number field come n k) (from_number other more n j)
later-numbers field other come more n zero j le same f = tt
later-numbers field other come more n (suc k) zero le same f = absurd (omega (arith, le))
later-numbers field other come more n (suc k) (suc j) le same f =
    subst (λ (cs : List Cell). Later (from_number field come n (suc k))
    (marked cs (more n) 0 ++ from_number other more (n + 1) j)) (same n (omega arith) (omega arith))
    (later-marked (field n) (come n) (more n) 0 (from_number field come (n + 1) k) (from_number other more (n + 1) j)
    (f n)
    (later-numbers field other come more (n + 1) k j (omega (arith, le))
    (λ m a b. same m (omega (arith, a)) (omega (arith, b))) f))

-- the places of what is seen of a flow
abbrev numbers : Flow → List Place
numbers f = from_number (field_of (sender f).past.sent) (arrived_in (receiver f)) 0 (top (receiver f).state.window)

seen-numbers : (f : Flow)
    → places (field_of (sender f).past.sent) (arrived_in (receiver f)) (top (receiver f).state.window) ≡ numbers f
seen-numbers f =
    let z : top (receiver f).state.window ≡ 0 + top (receiver f).state.window = omega arith in
    ap (λ (k : ℕ). places (field_of (sender f).past.sent) (arrived_in (receiver f)) k) z
    ∙ places-from (field_of (sender f).past.sent) (arrived_in (receiver f)) 0 (top (receiver f).state.window)

-- ---- one flow and another

pub record IsLater (f g : Flow) : Type 0 where
  pub sent : (n : ℕ) → n < top (receiver f).state.window
      → field_of (sender f).past.sent n ≡ field_of (sender g).past.sent n
  pub top : top (receiver f).state.window ≤ top (receiver g).state.window
  pub come : (n i : ℕ) → arrived_in (receiver f) n i ≡ true → arrived_in (receiver g) n i ≡ true

later-arrives : (f g : Flow) (place : ℕ) → IsLater f g → arrives f place ≡ true → arrives g place ≡ true
later-arrives f g place l e =
    let there : IsThere (cut [] (numbers f)) place =
    subst (λ (ps : List Place). IsThere (cut [] ps) place) (seen-numbers f) (arrives-there (seen f) place e) in
    there-arrives (seen g) place
    (subst (λ (qs : List Place). IsThere (cut [] qs) place) (sym (seen-numbers g))
    (later-cut (numbers f) (numbers g) [] [] place (λ x. x) later there))
  where
    later : Later (numbers f) (numbers g)
    later = later-numbers (field_of (sender f).past.sent) (field_of (sender g).past.sent) (arrived_in (receiver f))
        (arrived_in (receiver g))
        0 (top (receiver f).state.window) (top (receiver g).state.window) l.top (λ m a b. l.sent m (omega (arith, b)))
        l.come

-- ---- the sender

grown-by : (t : Turn) (s : Sending) (size : ℕ) (o : Octets)
    → (more : List (List Sent)) × ((octets_by t s size o).sent ≡ o.sent ++ more)
grown-by turns.New s size o = (_, refl)
grown-by turns.Whole s size o = ([], sym (append-nil o.sent))
grown-by turns.Part s size o = ([], sym (append-nil o.sent))
grown-by turns.Idle s size o = ([], sym (append-nil o.sent))
grown-by turns.Stopped s size o = ([], sym (append-nil o.sent))
grown-by turns.Small s size o = ([], sym (append-nil o.sent))
grown-by turns.Shut s size o = ([], sym (append-nil o.sent))
grown-by turns.Held s size o = ([], sym (append-nil o.sent))

grown : (s : Sending) (c : SenderCall) (o : Octets) → (more : List (List Sent))
    × ((octets_after s c o).sent ≡ o.sent ++ more)
grown s (Offer sdu) o = ([], sym (append-nil o.sent))
grown s (Take size held more) o = grown-by (turn s size held more) s size o
grown s (Status status) o = ([], sym (append-nil o.sent))
grown s Tick o = ([], sym (append-nil o.sent))
grown s (Expire more) o = ([], sym (append-nil o.sent))
grown s (Settle more) o = ([], sym (append-nil o.sent))
grown s Confirm o = ([], sym (append-nil o.sent))

more-field : (sent more : List (List Sent)) (n : ℕ) → n < length sent → field_of sent n ≡ field_of (sent ++ more) n
more-field sent more n lt =
    let l = length-append sent more in
    sent-field sent n lt
    ∙ (ap cells_of (sym (get_or_append_left sent more [] n lt))
    ∙ sym (sent-field (sent ++ more) n (omega (arith, l, lt))))

-- both ways, since nothing arrives
abbrev Alike : Flow → Flow → Type 0
Alike f g = IsLater f g × IsLater g f

alike-sends : (f g : Flow) (c : SenderCall) → IsSound f → sender g ≡ called octets_after (sender f) c
    → receiver g ≡ receiver f → Alike f g
alike-sends f g c h s r = (
  record {
    sent = λ n lt. field n lt;
    top = let t = ap (λ (w : World). top w.state.window) r in omega (arith, t);
    come = λ n i e. ap (λ (w : World). arrived_in w n i) r ∙ e;
  },
  record {
    sent = λ n lt. sym (field n (let t = ap (λ (w : World). top w.state.window) r in omega (arith, t, lt)));
    top = let t = ap (λ (w : World). top w.state.window) r in omega (arith, t);
    come = λ n i e. sym (ap (λ (w : World). arrived_in w n i) r) ∙ e;
  },
)
  where
    more : (xs : List (List Sent))
        × ((octets_after (sender f).state c (sender f).past).sent ≡ (sender f).past.sent ++ xs)
    more = grown (sender f).state c (sender f).past

    field : (n : ℕ) → n < top (receiver f).state.window
        → field_of (sender f).past.sent n ≡ field_of (sender g).past.sent n
    field n lt =
        let t = h.top in
        more-field (sender f).past.sent more.0 n (omega (arith, t, lt))
        ∙ ap (λ (sent : List (List Sent)). field_of sent n)
        (sym (ap (λ (w : SenderWorld Octets). w.past.sent) s ∙ more.1))

-- ---- the receiver

abbrev Brings : World → World → Type 0
Brings v w = (top v.state.window ≤ top w.state.window) × ((n i : ℕ) → arrived_in v n i ≡ true → arrived_in w n i ≡ true)

landing-brings : (l : Landed) (s : State) (p : AmdPdu) (ps : List Came)
    → Brings (record { state = s; kept = ps }) (record { state = after_landing l s p; kept = kept_after l s p ps })
landing-brings Kept s p ps =
    let a = top-advanced (window_with s.window p) in
    let b = kept-length s.window (offset_of s.window.front p.sn) (piece_of p) p.poll in
    (omega (arith, a, b), λ n i e. grind (arith, nat_tests))
landing-brings Repeat s p ps = (omega arith, λ n i e. e)
landing-brings Outside s p ps = (omega arith, λ n i e. e)
landing-brings Clash s p ps = (omega arith, λ n i e. e)

later-hears : (f g : Flow) (p : AmdPdu) → sender g ≡ sender f → receiver g ≡ heard_by (receiver f) (Arrive p)
    → IsLater f g
later-hears f g p s r =
    let b : Brings (receiver f) (heard_by (receiver f) (Arrive p)) =
    landing-brings (landed (receiver f).state p) (receiver f).state p (receiver f).kept in
    let high = b.0 in let t = ap (λ (w : World). top w.state.window) r in record {
      sent = λ n lt. ap (λ (w : SenderWorld Octets). field_of w.past.sent n) (sym s);
      top = omega (arith, high, t);
      come = λ n i e. ap (λ (w : World). arrived_in w n i) r ∙ b.1 n i e;
    }

alike-window : (f g : Flow) → sender g ≡ sender f → (receiver g).state.window ≡ (receiver f).state.window
    → (receiver g).kept ≡ (receiver f).kept → Alike f g
alike-window f g s w k = (
  record {
    sent = λ n lt. field n;
    top = let t = ap top w in omega (arith, t);
    come = λ n i e. come n i ∙ e;
  },
  record {
    sent = λ n lt. sym (field n);
    top = let t = ap top w in omega (arith, t);
    come = λ n i e. sym (come n i) ∙ e;
  },
)
  where
    field : (n : ℕ) → field_of (sender f).past.sent n ≡ field_of (sender g).past.sent n
    field n = ap (λ (w : SenderWorld Octets). field_of w.past.sent n) (sym s)

    come : (n i : ℕ) → arrived_in (receiver g) n i ≡ arrived_in (receiver f) n i
    come n i =
        ap (λ (x : RxWindow). nat_lt n x.front || place_has_come (receiver g).kept n i) w
        ∙ ap (λ (cs : List Came). nat_lt n (receiver f).state.window.front || place_has_come cs n i) k

alike-hears : (f g : Flow) (c : Call) → IsReceiving c → sender g ≡ sender f → receiver g ≡ heard_by (receiver f) c
    → Alike f g
alike-hears f g (Arrive p) given s r = absurd given
alike-hears f g Up given s r = alike-window f g s (ap (λ (w : World). w.state.window) r) (ap (λ (w : World). w.kept) r)
alike-hears f g Write given s r = absurd given
alike-hears f g ExpireReorder given s r =
    alike-window f g s (ap (λ (w : World). w.state.window) r
    ∙ expiry-window (receiver f).state.mark (receiver f).state) (ap (λ (w : World). w.kept) r)
alike-hears f g ExpireProhibit given s r =
    alike-window f g s (ap (λ (w : World). w.state.window) r) (ap (λ (w : World). w.kept) r)
alike-hears f g TickReorder given s r =
    alike-window f g s (ap (λ (w : World). w.state.window) r) (ap (λ (w : World). w.kept) r)
alike-hears f g TickProhibit given s r =
    alike-window f g s (ap (λ (w : World). w.state.window) r) (ap (λ (w : World). w.kept) r)

-- ---- a step

alike-status : (f : Flow) (o : Option Report) → IsSound f → Alike f (status_comes f o)
alike-status f None h = alike-window f f refl refl refl
alike-status f (Some r) h = by (am_at r.octets)
  where
    by : (x : Result AcknowledgedPdu RlcRefusal) → Alike f (status_read f x)
    by (Ok (Payload pdu)) = alike-window f f refl refl refl
    by (Ok (Control pdu)) =
        alike-sends f (status_read f (Ok (Control pdu))) (Status pdu) h (sender-more f (Status pdu)) refl
    by (Err refused) = alike-window f f refl refl refl

later-data : (f : Flow) (o : Option Copy) → IsLater f (data_comes f o)
later-data f None = (alike-window f f refl refl refl).0
later-data f (Some c) = by (am_at c.octets)
  where
    by : (x : Result AcknowledgedPdu RlcRefusal) → IsLater f (data_read f x)
    by (Ok (Payload pdu)) = later-hears f (data_read f (Ok (Payload pdu))) pdu refl (receiver-more f (Arrive pdu))
    by (Ok (Control pdu)) = (alike-window f f refl refl refl).0
    by (Err refused) = (alike-window f f refl refl refl).0

alike-step : (f : Flow) (s : Step) → IsSound f → IsGiven f s → brings s ≡ false → Alike f (happens f s)
alike-step f (Sends c) h given e = alike-sends f (happens f (Sends c)) c h (sender-more f c) refl
alike-step f (Receives c) h given e = alike-hears f (happens f (Receives c)) c given refl (receiver-more f c)
alike-step f (Reports size octets) h given e =
    let r = receiver-more f Write in
    alike-window f (happens f (Reports size octets)) refl (ap (λ (w : World). w.state.window) r)
    (ap (λ (w : World). w.kept) r)
alike-step f (DataComes k) h given e = cc
alike-step f (StatusComes k) h given e = alike-status f (slice_get f.reports k) h
alike-step f (DataGoes k) h given e = alike-window f (happens f (DataGoes k)) refl refl refl
alike-step f (StatusGoes k) h given e = alike-window f (happens f (StatusGoes k)) refl refl refl
alike-step f Passes h given e = alike-window f (happens f Passes) refl refl refl

later-step : (f : Flow) (s : Step) → IsSound f → IsGiven f s → IsLater f (happens f s)
later-step f (Sends c) h given = (alike-step f (Sends c) h given refl).0
later-step f (Receives c) h given = (alike-step f (Receives c) h given refl).0
later-step f (Reports size octets) h given = (alike-step f (Reports size octets) h given refl).0
later-step f (DataComes k) h given = later-data f (slice_get f.copies k)
later-step f (StatusComes k) h given = (alike-step f (StatusComes k) h given refl).0
later-step f (DataGoes k) h given = (alike-step f (DataGoes k) h given refl).0
later-step f (StatusGoes k) h given = (alike-step f (StatusGoes k) h given refl).0
later-step f Passes h given = (alike-step f Passes h given refl).0

pub arrivals-stay : (f : Flow) (s : Step) (place : ℕ) → IsSound f → IsGiven f s → arrives f place ≡ true
    → arrives (happens f s) place ≡ true
arrivals-stay f s place h given e = later-arrives f (happens f s) place (later-step f s h given) e

pub arrivals-same : (f : Flow) (s : Step) (place : ℕ) → IsSound f → IsGiven f s → brings s ≡ false
    → arrives (happens f s) place ≡ arrives f place
arrivals-same f s place h given e =
    let l = alike-step f s h given e in
    both (arrives (happens f s) place) (arrives f place) (later-arrives (happens f s) f place l.1)
    (later-arrives f (happens f s) place l.0)
  where
    both : (a b : Bool) → (a ≡ true → b ≡ true) → (b ≡ true → a ≡ true) → a ≡ b
    both a b f g = grind (arith, nat_tests, f, g)
