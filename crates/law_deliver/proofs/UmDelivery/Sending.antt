-- The calls of an end, as events of PDCP's sender.
use Rattle.std.proofs.Common.{◌≡◌, ℕ, zero, suc, Bool, true, false, if◌then◌else◌, List, [], ◌∷◌, ◌++◌, map, take, drop}
use Rattle.std.proofs.Common.{Option, Some, option_map, slice_get, Result, Ok, Err, append_assoc, append-nil, refl, ap}
use Rattle.std.proofs.Common.{sym, subst, ◌∙◌}
use Rattle.bearer_types.specs.declared.Event.{Event as Told}
use Rattle.l2_num.specs.Timers.{ends as ends_now}
use Rattle.l2_types.specs.declared.Clock.{Clock}
use Rattle.l2_types.specs.declared.Clock.TheVariants.{Poll, Reorder, Prohibit}
use Rattle.pdcp_tx_store.specs.Waiting.{Waits}
use Rattle.pdcp_pdu.specs.Kinds.{is_am}
use Rattle.pdcp_rx.specs.declared.got.Cause.TheVariants.{Arrived}
use Rattle.pdcp_tx.specs.declared.sender.Next.{Next}
use Rattle.pdcp_tx.specs.State.{State as Sending, Offer, offers, taking, took, is_overdue, after_late, ticked, written}
use Rattle.pdcp_tx.specs.Runs.{Call as PdcpCall, Submit as Submits, Take as TakePdcp, Tick as TickPdcp, Late}
use Rattle.pdcp_tx.specs.Runs.{after as pdcp_after}
use Rattle.pdcp_tx.proofs.Head.{heads}
use Rattle.law_pdcp.specs.OneEnd.Lives.{Step, Calls, takes_new, submits as submits_in, submitted_in}
use Rattle.rlc_pdu.specs.declared.Expired.{Expired}
use Rattle.rlc_pdu.specs.declared.Expired.TheVariants.{Done, NotRunning}
use Rattle.rlc_pdu.specs.declared.RlcRefusal.{RlcRefusal}
use Rattle.rlc_pdu.specs.Pdus.{UmdPdu}
use Rattle.rlc_pdu.specs.Reading.{umd_at}
use Rattle.rlc_um.specs.Receiver.{State as Receiver, landing, turning, arrival, expiring, expired}
use Rattle.bearer_pdcp.specs.Discarding.{without_late, after_tick}
use Rattle.bearer_pdcp.specs.Ends.{Ends}
use Rattle.bearer_pdcp.specs.Telling.{landed_told, expired_told}
use Rattle.bearer.specs.Unacknowledged.State.{State}
use Rattle.bearer.specs.Unacknowledged.Taking.{after_taking}
use Rattle.bearer.specs.Unacknowledged.Hearing.{up_left, arrived_left, after_arrival, expiry_left, clock_left}
use Rattle.bearer.specs.Unacknowledged.Hearing.{after_expiry, counted_down, timed_left, after_ticking}
use Rattle.bearer.specs.declared.flow.Flow.{Flow as Bearer}
use Rattle.bearer.specs.declared.flow.Flow.TheVariants.{Um}
use Rattle.bearer.specs.Submitting.{submitted}
use Rattle.bearer.specs.Taking.{after as taken_from}
use Rattle.bearer.specs.Hearing.{arrived as flow_arrived, expired as flow_expired, ticked as flow_ticked, with_discard}
use Rattle.law_bearer.specs.AnyBearer.Calls.{Call, Submit, Take, Arrive, Expire, Tick, SetDiscard}
use Rattle.law_bearer.specs.AnyBearer.Queue.{news, submits}
use Rattle.law_bearer.specs.AnyBearer.Stream.{takes, pdu_of, stream}
use Rattle.law_bearer.proofs.AnyBearer.Sender.{took_all, firsts, takings, takes_all, none_of, left_of, sdus}
use Rattle.law_bearer.proofs.AnyBearer.Sender.{moved_queue, took_same, same_pdus}
use Rattle.law_bearer.proofs.AnyBearer.Flows.{taken_off, taken_front}
use Rattle.law_bearer.proofs.AnyBearer.Unacknowledged.{all_fed_in, take_left, timed}
use Rattle.law_deliver.specs.UmFlow.Pair.{called}
use Rattle.law_deliver.specs.UmFlow.Handing.{IsOfData, all_called}
use Rattle.law_deliver.proofs.UmFlow.Calls.{given_in}
use Rattle.law_deliver.proofs.UmFlow.Handing.{hears_so, hears_what_is_handed}
use Rattle.law_deliver.proofs.UmFlow.Sending.{is_called}
use Rattle.law_pdcp.specs.UmPair.Flow.{Flow, Event, Sends as Calling, SetDiscard as Sets, run_um_pdcp}
use Rattle.law_pdcp.specs.OneEnd.Given.{nexts_of, pdus_given}
use Rattle.law_pdcp.specs.UmPair.Flow.{happens}
use Rattle.law_pdcp.specs.UmPair.Flow.{CanCall, AreGiven, AreShort, steps_in, steps}
use Rattle.law_deliver.specs.Accepted.{IsAccepted}
use Rattle.law_deliver.specs.UmDelivery.Lives.{AreAccepted, news_by, submits_by}

-- ---- events one behind the other

pub run_then : (xs ys : List Event) (f : Flow) → run_um_pdcp (xs ++ ys) f ≡ run_um_pdcp ys (run_um_pdcp xs f)
run_then [] ys f = refl
run_then (x ∷ xs) ys f = run_then xs ys (happens f x)

pub given_then : (xs ys : List Event) (f : Flow) → AreGiven f xs → AreGiven (run_um_pdcp xs f) ys
    → AreGiven f (xs ++ ys)
given_then [] ys f g h = h
given_then (x ∷ xs) ys f g h = (g.0, given_then xs ys (happens f x) g.1 h)

pub short_then : (xs ys : List Event) (f : Flow) → AreShort f xs → AreShort (run_um_pdcp xs f) ys
    → AreShort f (xs ++ ys)
short_then [] ys f g h = h
short_then (x ∷ xs) ys f g h = (g.0, short_then xs ys (happens f x) g.1 h)

steps_then : (xs ys : List Event) → steps (xs ++ ys) ≡ steps xs ++ steps ys
steps_then [] ys = refl
steps_then (x ∷ xs) ys = ap (λ (l : List Step). steps_in x ++ l) (steps_then xs ys)
    ∙ sym (append_assoc (steps_in x) (steps xs) (steps ys))

in_steps : (xs ys : List Step) → submitted_in (xs ++ ys) ≡ submitted_in xs ++ submitted_in ys
in_steps [] ys = refl
in_steps (x ∷ xs) ys = ap (λ (l : List (List ℕ)). submits_in x ++ l) (in_steps xs ys)
    ∙ sym (append_assoc (submits_in x) (submitted_in xs) (submitted_in ys))

pub submitted_then : (xs ys : List Event)
    → submitted_in (steps (xs ++ ys)) ≡ submitted_in (steps xs) ++ submitted_in (steps ys)
submitted_then xs ys = ap submitted_in (steps_then xs ys) ∙ in_steps (steps xs) (steps ys)

-- ---- events of the sender

abbrev pub octets : List Next → List (List ℕ)
octets ns = map (λ (n : Next). n.octets) ns

pub octets_then : (xs ys : List Next) → octets (xs ++ ys) ≡ octets xs ++ octets ys
octets_then [] ys = refl
octets_then (x ∷ xs) ys = ap (λ (l : List (List ℕ)). x.octets ∷ l) (octets_then xs ys)

abbrev pub sent : Flow → Sending → List (List ℕ) → List Next → Flow
sent f s new nexts = record f { sender = s; sdus = f.sdus ++ new; stream = f.stream ++ nexts }

-- they leave a sender, and take, give and are given so much
pub record Sends (f : Flow) (s : Sending) (new given subs : List (List ℕ)) : Type 0 where
  pub events : List Event
  pub nexts : List Next
  pub may : AreGiven f events
  pub short : AreShort f events
  pub left : run_um_pdcp events f ≡ sent f s new nexts
  pub given_is : octets nexts ≡ given
  pub submitted_is : submitted_in (steps events) ≡ subs

as_is : (f : Flow) (s t : Sending) (a b g h u v : List (List ℕ)) → Sends f s a g u → s ≡ t → a ≡ b → g ≡ h → u ≡ v
    → Sends f t b h v
as_is f s t a b g h u v m p q r w = record {
  events = m.events;
  nexts = m.nexts;
  may = m.may;
  short = m.short;
  left = m.left ∙ ap (λ (x : Sending). sent f x a m.nexts) p ∙ ap (λ (l : List (List ℕ)). sent f t l m.nexts) q;
  given_is = m.given_is ∙ r;
  submitted_is = m.submitted_is ∙ w;
}

none : (f : Flow) → Sends f f.sender [] [] []
none f = record {
  events = [];
  nexts = [];
  may = tt;
  short = tt;
  left = ap (λ (l : List (List ℕ)). record f { sdus = l }) (sym (append-nil f.sdus))
      ∙ ap (λ (l : List Next). record f { sdus = f.sdus ++ []; stream = l }) (sym (append-nil f.stream));
  given_is = refl;
  submitted_is = refl;
}

sends_then : (f : Flow) (s t : Sending) (a b g h u v : List (List ℕ)) → (m : Sends f s a g u)
    → Sends (sent f s a m.nexts) t b h v → Sends f t (a ++ b) (g ++ h) (u ++ v)
sends_then f s t a b g h u v m k =
    let d : Flow = sent f s a m.nexts in
    record {
      events = m.events ++ k.events;
      nexts = m.nexts ++ k.nexts;
      may = given_then m.events k.events f m.may (subst (λ (x : Flow). AreGiven x k.events) (sym m.left) k.may);
      short = short_then m.events k.events f m.short (subst (λ (x : Flow). AreShort x k.events) (sym m.left) k.short);
      left =
          run_then m.events k.events f ∙ ap (run_um_pdcp k.events) m.left ∙ k.left
          ∙ ap (λ (l : List (List ℕ)). record f { sender = t; sdus = l; stream = (f.stream ++ m.nexts) ++ k.nexts })
          (append_assoc f.sdus a b)
          ∙ ap (λ (l : List Next). record f { sender = t; sdus = f.sdus ++ (a ++ b); stream = l })
          (append_assoc f.stream m.nexts k.nexts);
      given_is = octets_then m.nexts k.nexts ∙ ap (λ (l : List (List ℕ)). l ++ octets k.nexts) m.given_is
          ∙ ap (λ (l : List (List ℕ)). g ++ l) k.given_is;
      submitted_is =
          submitted_then m.events k.events
          ∙ ap (λ (l : List (List ℕ)). l ++ submitted_in (steps k.events)) m.submitted_is
          ∙ ap (λ (l : List (List ℕ)). u ++ l) k.submitted_is;
    }

sends_one : (f : Flow) (c : PdcpCall) → CanCall f.sender c
    → Sends f (pdcp_after f.sender c) (takes_new f.sender c) (octets (pdus_given f.sender c)) (submits_in (Calls c))
sends_one f c can = record {
  events = Calling c ∷ [];
  nexts = pdus_given f.sender c;
  may = (can, tt);
  short = (tt, tt);
  left = refl;
  given_is = refl;
  submitted_is = append-nil (submits_in (Calls c));
}

sets_one : (f : Flow) (ttis : ℕ) → Sends f (record f.sender { discard = Some ttis }) [] [] []
sets_one f ttis =
    let s : Sending = record f.sender { discard = Some ttis } in
    record {
      events = Sets ttis ∷ [];
      nexts = [];
      may = (tt, tt);
      short = (tt, tt);
      left =
          ap (λ (l : List (List ℕ)). record f { sender = s; sdus = l }) (sym (append-nil f.sdus))
          ∙ ap (λ (l : List Next). record f { sender = s; sdus = f.sdus ++ []; stream = l })
          (sym (append-nil f.stream));
      given_is = refl;
      submitted_is = refl;
    }

-- ---- takes

first_octets : (s : Sending) (os : List Offer)
    → octets (nexts_of (option_map (λ o. written s.kind s.protection o.count o.text) (slice_get os 0)))
    ≡ map (pdu_of s) (take 1 os)
first_octets s [] = refl
first_octets s (o ∷ os) = refl

taking_octets : (s : Sending) → octets (nexts_of (taking s)) ≡ map (pdu_of s) (take 1 (offers s))
unfolding taking
taking_octets s = first_octets s (offers s)

next_octets : (s : Sending) (n : ℕ) (os : List Offer)
    → map (pdu_of s) (take 1 os) ++ map (pdu_of s) (take n (drop 1 os)) ≡ map (pdu_of s) (take (suc n) os)
next_octets s n [] = ap (map (pdu_of s)) (none_of n [] refl)
next_octets s n (o ∷ os) = refl

given_next : (s : Sending) (n : ℕ) → octets (nexts_of (taking s)) ++ map (pdu_of (took s)) (take n (offers (took s)))
    ≡ map (pdu_of s) (take (suc n) (offers s))
given_next s n =
    ap (λ (l : List (List ℕ)). l ++ map (pdu_of (took s)) (take n (offers (took s)))) (taking_octets s)
    ∙ ap (λ (l : List (List ℕ)). map (pdu_of s) (take 1 (offers s)) ++ l)
    (same_pdus s (took s) (take n (offers (took s))) (took_same s))
    ∙ ap (λ (l : List Offer). map (pdu_of s) (take 1 (offers s)) ++ map (pdu_of s) (take n l)) (heads s)
    ∙ next_octets s n (offers s)

sends_takes : (n : ℕ) (f : Flow)
    → Sends f (took_all n f.sender) (firsts n f.sender) (map (pdu_of f.sender) (take n (offers f.sender))) []
sends_takes zero f = none f
sends_takes (suc n) f =
    let s : Sending = f.sender in
    let first : Sends f (took s) (takes_new s TakePdcp) (octets (nexts_of (taking s))) [] = sends_one f TakePdcp tt in
    let rest = sends_takes n (sent f (took s) (takes_new s TakePdcp) first.nexts) in
    let given : List (List ℕ) = map (pdu_of (took s)) (take n (offers (took s))) in
    as_is f (took_all n (took s)) (took_all n (took s)) (firsts (suc n) s) (firsts (suc n) s)
    (octets (nexts_of (taking s)) ++ given) (map (pdu_of s) (take (suc n) (offers s))) [] []
    (sends_then f (took s) (took_all n (took s)) (takes_new s TakePdcp) (firsts n (took s))
    (octets (nexts_of (taking s)))
    given [] [] first rest) refl refl (given_next s n) refl

-- ---- discard timers

late_by : (b : Bool) (f : Flow) (t : Sending) → Sends f t [] [] [] → Sends f (if b then t else f.sender) [] [] []
late_by true f t m = m
late_by false f t m = none f

sends_lates : (ws : List Waits) (f : Flow) → Sends f (without_late ws f.sender) [] [] []
sends_lates [] f = none f
sends_lates (w ∷ ws) f =
    let s : Sending = f.sender in
    let first : Sends f (after_late s) [] [] [] = sends_one f Late tt in
    late_by (is_overdue s) f (without_late ws (after_late s))
    (sends_then f (after_late s) (without_late ws (after_late s)) [] [] [] [] [] [] first
    (sends_lates ws (sent f (after_late s) [] first.nexts)))

sends_tick : (f : Flow) → Sends f (without_late f.sender.waiting (ticked f.sender)) [] [] []
sends_tick f =
    let s : Sending = f.sender in
    let first : Sends f (ticked s) [] [] [] = sends_one f TickPdcp tt in
    sends_then f (ticked s) (without_late s.waiting (ticked s)) [] [] [] [] [] [] first
    (sends_lates s.waiting (sent f (ticked s) [] first.nexts))

-- ---- what RLC hands up doesn't change the sender

up_tx : (r : Receiver) (told : List Told) (b : State) → is_am b.pdcp.kind ≡ false → b.pdcp.rx.ready ≡ []
    → (up_left r told b).pdcp.tx ≡ b.pdcp.tx
up_tx r told b um q =
    ap (λ (e : Ends). e.tx) (hears_so Arrived r.joined.ready (record { pdcp = b.pdcp; events = told }) um q).left

arrival_tx : (r : Result UmdPdu RlcRefusal) (b : State) → is_am b.pdcp.kind ≡ false → b.pdcp.rx.ready ≡ []
    → (arrived_left r b).pdcp.tx ≡ b.pdcp.tx
arrival_tx (Err refused) b um q = refl
arrival_tx (Ok pdu) b um q =
    up_tx (arrival pdu b.rx) (landed_told b.pdcp.lcid (landing pdu b.rx) (turning pdu b.rx)) b um q

expiry_tx : (x : Expired) (b : State) → is_am b.pdcp.kind ≡ false → b.pdcp.rx.ready ≡ []
    → (expiry_left x b).pdcp.tx ≡ b.pdcp.tx
expiry_tx NotRunning b um q = refl
expiry_tx (Done again) b um q = up_tx (expired b.rx) (expired_told b.pdcp.lcid Reorder again) b um q

clock_tx : (clock : Clock) (b : State) → is_am b.pdcp.kind ≡ false → b.pdcp.rx.ready ≡ []
    → (clock_left clock b).pdcp.tx ≡ b.pdcp.tx
clock_tx Poll b um q = refl
clock_tx Reorder b um q = expiry_tx (expiring b.rx) b um q
clock_tx Prohibit b um q = refl

timed_tx : (now : Bool) (b : State) → is_am b.pdcp.kind ≡ false → b.pdcp.rx.ready ≡ []
    → (timed_left now b).pdcp.tx ≡ b.pdcp.tx
unfolding after_expiry
timed_tx true b um q = clock_tx Reorder b um q
timed_tx false b um q = refl

tick_tx : (e m : Ends) → m.tx ≡ e.tx → (after_tick m).tx ≡ without_late e.tx.waiting (ticked e.tx)
unfolding after_tick
tick_tx e m q = ap (λ (s : Sending). without_late s.waiting (ticked s)) q

-- ---- any call

um_takes : (b : State) (share : ℕ) (held : Option ℕ)
    → takes (Um b) (Take share held) ≡ take (all_fed_in b share held).n (offers b.pdcp.tx)
unfolding taken_from
um_takes b share held =
    let f = all_fed_in b share held in
    taken_off f.n (offers b.pdcp.tx) (offers (after_taking b share held).pdcp.tx) f.few
    (ap (λ (e : Ends). offers e.tx) (take_left b share held) ∙ ap offers f.left ∙ left_of f.n b.pdcp.tx)

taken_tx : (b : State) (share : ℕ) (held : Option ℕ)
    → took_all (all_fed_in b share held).n b.pdcp.tx ≡ (called b (Take share held)).pdcp.tx
unfolding taken_from
taken_tx b share held = let f = all_fed_in b share held in
    sym (ap (λ (e : Ends). e.tx) (take_left b share held) ∙ f.left)

um_news : (b : State) (share : ℕ) (held : Option ℕ)
    → news (Um b) (Take share held) ≡ firsts (all_fed_in b share held).n b.pdcp.tx
unfolding taken_from
um_news b share held =
    let n = (all_fed_in b share held).n in
    let s : Sending = b.pdcp.tx in
    taken_front (firsts n s) (sdus (after_taking b share held).pdcp.tx.waiting) (sdus s.waiting)
    (ap (λ (t : Sending). firsts n s ++ sdus t.waiting) (sym (taken_tx b share held))
    ∙ moved_queue s (took_all n s) (takings n s) (takes_all n s) ∙ append-nil (sdus s.waiting))

sends_take : (b : State) (share : ℕ) (held : Option ℕ) (f : Flow) → f.sender ≡ b.pdcp.tx
    → Sends f (called b (Take share held)).pdcp.tx (news (Um b) (Take share held)) (given_in b (Take share held)) []
sends_take b share held f q =
    let n = (all_fed_in b share held).n in
    as_is f (took_all n f.sender) (called b (Take share held)).pdcp.tx (firsts n f.sender)
    (news (Um b) (Take share held)) (map (pdu_of f.sender) (take n (offers f.sender)))
    (given_in b (Take share held)) [] []
    (sends_takes n f) (ap (took_all n) q ∙ taken_tx b share held) (ap (firsts n) q ∙ sym (um_news b share held))
    (ap (λ (s : Sending). map (pdu_of s) (take n (offers s))) q
    ∙ ap (map (pdu_of b.pdcp.tx)) (sym (um_takes b share held))) refl

sends_none : (f : Flow) (t : Sending) → f.sender ≡ t → Sends f t [] [] []
sends_none f t q = as_is f f.sender t [] [] [] [] [] [] (none f) q refl refl refl

sends_call : (b : State) (c : Call) (f : Flow) → is_am b.pdcp.kind ≡ false → b.pdcp.rx.ready ≡ []
    → f.sender ≡ b.pdcp.tx → IsAccepted b.pdcp.tx c
    → Sends f (called b c).pdcp.tx (news (Um b) c) (given_in b c) (submits c)
unfolding submitted flow_arrived flow_expired flow_ticked with_discard after_arrival after_expiry after_ticking
sends_call b (Submit sdu) f um idle q ok =
    subst (λ (s : Sending). Sends f (pdcp_after s (Submits sdu)) [] [] (sdu ∷ [])) q
    (sends_one f (Submits sdu) (subst (λ (s : Sending). CanCall s (Submits sdu)) (sym q) ok))
sends_call b (Take share held) f um idle q ok = sends_take b share held f q
sends_call b (Arrive pdu) f um idle q ok =
    sends_none f (called b (Arrive pdu)).pdcp.tx (q ∙ sym (arrival_tx (umd_at b.bits pdu) b um idle))
sends_call b (Expire clock) f um idle q ok =
    sends_none f (called b (Expire clock)).pdcp.tx (q ∙ sym (clock_tx clock b um idle))
sends_call b Tick f um idle q ok =
    as_is f (without_late f.sender.waiting (ticked f.sender)) (called b Tick).pdcp.tx [] [] [] [] [] [] (sends_tick f)
    (ap (λ (s : Sending). without_late s.waiting (ticked s)) q
    ∙ sym (tick_tx b.pdcp (timed b).pdcp (timed_tx (ends_now b.rx.clock) (counted_down b) um idle))) refl refl
    refl
sends_call b (SetDiscard ttis) f um idle q ok =
    subst (λ (s : Sending). Sends f (record s { discard = Some ttis }) [] [] []) q (sets_one f ttis)

-- ---- all calls of a life

pub sends_all : (bits : ℕ) (b : State) (cs : List Call) (f : Flow) → IsOfData bits b → f.sender ≡ b.pdcp.tx
    → AreAccepted b cs
    → Sends f (all_called b cs).pdcp.tx (news_by b cs) (stream (Um b) cs) (submits_by cs)
sends_all bits b [] f h q ok = sends_none f b.pdcp.tx q
sends_all bits b (c ∷ cs) f h q ok =
    let d : State = called b c in
    let m = sends_call b c f (ap is_am h.kind) h.idle q ok.0 in
    let k = sends_all bits d cs (sent f d.pdcp.tx (news (Um b) c) m.nexts)
    (hears_what_is_handed bits b (c ∷ []) h).stays refl ok.1 in
    let last : Sending = (all_called d cs).pdcp.tx in
    as_is f last last (news_by b (c ∷ cs)) (news_by b (c ∷ cs)) (given_in b c ++ stream (Um d) cs)
    (stream (Um b) (c ∷ cs)) (submits_by (c ∷ cs)) (submits_by (c ∷ cs))
    (sends_then f d.pdcp.tx last (news (Um b) c) (news_by d cs) (given_in b c) (stream (Um d) cs) (submits c)
    (submits_by cs) m k)
    refl refl (ap (λ (x : Bearer). given_in b c ++ stream x cs) (sym (is_called b c))) refl
