-- What an end takes and writes: a STATUS, the PDUs of PDCP that RLC takes, and a data PDU.
use Rattle.std.proofs.Common.{◌≡◌, ℕ, ◌-◌, Bool, true, false, ◌||◌, if◌then◌else◌, List, [], ◌∷◌, ◌++◌, take, drop, map}
use Rattle.std.proofs.Common.{length, Option, Some, None, Result, Ok, option_map, slice_get, refl, ap, sym, subst, ◌∙◌}
use Rattle.std.proofs.Common.{append_assoc}
use Rattle.std.proofs.lemmas.List.{append-nil, take-append-drop}
use Rattle.std.specs.List.{AllByRecursion}
use Rattle.pdcp_tx_store.specs.declared.given.Sent.{Sent as Kept}
use Rattle.pdcp_tx_store.specs.Waiting.{Waits}
use Rattle.pdcp_pdu.specs.declared.pdu.PdcpKind.{PdcpKind}
use Rattle.pdcp_pdu.specs.declared.pdu.PdcpKind.TheVariants.{Am as AmKind}
use Rattle.pdcp_pdu.specs.Kinds.{IsKind, bits_of}
use Rattle.rlc_pdu.specs.declared.outcome.Taken.TheVariants as taken
use Rattle.rlc_pdu.specs.declared.fault.RlcRefusal.{RlcRefusal}
use Rattle.rlc_pdu.specs.Pdus.{AcknowledgedPdu, StatusPdu, Status as Control}
use Rattle.rlc_pdu.specs.Reading.{am_at}
use Rattle.bearer.specs.Taking.{pdus, told}
use Rattle.bearer_pdcp.specs.Telling.{pdus_of}
use Rattle.law_pdcp.proofs.AmPair.Sound.{Owes}
use Rattle.law_rlc.proofs.AmPair.Laws.{sound, happens-sound}
use Rattle.pdcp_sec.specs.Protection.{Protection}
use Rattle.pdcp_tx.specs.declared.sender.Next.{Next}
use Rattle.pdcp_tx.specs.Runs.{Take as TakePdcp}
use Rattle.pdcp_tx.specs.State.{State as Sending, Offer as Offering, offers as offers_of, owed_offers, again_offer}
use Rattle.pdcp_tx.specs.State.{new_offers, taking, took, took_owed, took_again, took_new, written}
use Rattle.pdcp_tx.proofs.Head.{heads}
use Rattle.law_pdcp.specs.OneEnd.Lives.{takes_new}
use Rattle.rlc_am_rx.specs.Machine.{written as written_by}
use Rattle.rlc_am_tx.specs.Machine.{State as Sender, answer}
use Rattle.law_rlc.specs.AmSender.Run.{Offer, Take}
use Rattle.law_rlc.specs.AmReceiver.Run.{Write, World as ReceiverWorld}
use Rattle.law_bearer.specs.AmBearer.Deeds.{Deed, Feeds, Sends, Receives, does, does_all, offered_next}
use Rattle.law_bearer.specs.AmBearer.Calls.{only_if, takes, IsOfData, IsIdle}
use Rattle.law_bearer.proofs.AmBearer.Calls.{calls_are_deeds}
use Rattle.law_bearer.proofs.AmBearer.Ups.{does_then}
use Rattle.law_rlc.specs.AmPair.Flow.{Copy, Report, Flow as Rlc, Sends as SendsOn, Reports as ReportsOn}
use Rattle.law_rlc.specs.AmPair.Flow.{Step as RlcStep}
use Rattle.law_rlc.specs.AmPair.Flow.{sender, happens as rlc_happens, is_new, copies_with}
use Rattle.law_rlc.specs.AmPair.Given.{IsTaking as IsTakingStep, IsHeld}
use Rattle.law_rlc.proofs.AmPair.Runs.{receiver-more}
use Rattle.law_rlc.proofs.AmPair.Steps.{step-offers}
use Rattle.law_words.specs.Passing.{Passing, Writes, written_as}
use Rattle.law_rlc.specs.AmArrival.Arrival.{written_in, passed}
use Rattle.law_words.specs.Arrivals.{Given, AccountEntry, Gives, Passes, Account, accounted, account}
use Rattle.law_pdcp.specs.AmPair.Flow.{Flow as Pdcp, Sends as SendsEvent, run_am_pdcp}
use Rattle.law_pdcp.specs.OneEnd.Given.{nexts_of}
use Rattle.bearer.specs.Acknowledged.State.{State}
use Rattle.bearer.specs.Acknowledged.Taking.{writes_status, status_pdu, status_pdus, data_size}
use Rattle.law_bearer.specs.AnyBearer.Acknowledged.{offers_in, offered_to, has_more_behind, data_given}
use Rattle.law_bearer.specs.AnyBearer.Sending.{sends_on as sends_all}
use Rattle.law_bearer.specs.AnyBearer.Stream.{takes as taken_in, offers_of as offers_behind, pdu_of}
use Rattle.law_bearer.proofs.AnyBearer.Flows.{taken_front}
use Rattle.law_bearer.proofs.AnyBearer.SenderCalls.{writes_what_rlc_gives}
use Rattle.law_bearer.proofs.AnyBearer.Sender.{took_same, same_pdus, sdus, moved_queue, takings, takes_all}
use Rattle.bearer.specs.declared.flow.Flow.TheVariants.{Am}
use Rattle.bearer.specs.declared.flow.Flow.{Flow}
use Rattle.rlc_pdu.specs.declared.Taken.{Taken}
use Rattle.law_bearer.specs.AnyBearer.Calls.{Take as TakeCall, after, ends}
use Rattle.law_bearer.specs.AnyBearer.Queue.{news, off, queue}
use Rattle.law_deliver.specs.AmFlow.Pair.{written_now, reports_now, HasOctet, IsTaking, BearerEnd, acknowledged, called}
use Rattle.law_deliver.specs.AmFlow.Pair.{calls}
use Rattle.law_deliver.specs.AmFlow.Flows.{IsFlow}
use Rattle.law_deliver.proofs.AmFlow.Hearing.{is_reported, reports_with}
use Rattle.law_deliver.proofs.AmFlow.Standing.{or_none}
use Rattle.law_deliver.specs.AmDelivery.Arrival.{said_in}
use Rattle.promises.specs.Given.{entries_of, entries_given, entries_passed, entries_written}
use Rattle.law_deliver.proofs.AmDelivery.Gives.{given_as, IsRight, same_given, takes_are_told, offers_right}
use Rattle.law_deliver.proofs.AmDelivery.Accounts.{sound_pdcp, told_of, given_of, tells_given, Agrees, account_then}
use Rattle.law_deliver.proofs.AmDelivery.Joined.{Way, IsWay, Joins, IsReportOf, rlc, pdcp}
use Rattle.law_deliver.proofs.AmDelivery.Ends.{JoinedEnds, EndsGoOn, stays_joined}
use Rattle.law_deliver.proofs.AmDelivery.Moving.{Moves, rests, rlc_moves}
use Rattle.law_deliver.proofs.AmDelivery.Doing.{Tells, tells, out_goes_on, inn_goes_on, ends_then}
use Rattle.law_deliver.proofs.AmDelivery.Timers.{with_bearer, stays_between, sent_by, sends_flow, sends_on}

-- ---- PDCP's sender gives a PDU

-- one without a COUNT is the report that is owed
abbrev IsOwed : Option (List ℕ) → Option Next → Type 0
IsOwed owed None = Unit {0}
IsOwed owed (Some n) = n.count ≡ None → owed ≡ Some n.octets

abbrev next_of : Sending → List Offering → Option Next
next_of s os = option_map (λ o. written s.kind s.protection o.count o.text) (slice_get os 0)

new_owed : (s : Sending) (owed : Option (List ℕ)) (n : ℕ) (ws : List Waits) → IsOwed owed (next_of s (new_offers n ws))
new_owed s owed n [] = tt
new_owed s owed n (w ∷ ws) = λ q. let no : Some n ≡ None = q in absurd cc

again_owed : (s : Sending) (owed : Option (List ℕ)) (ss : List Kept) (n : ℕ) (ws : List Waits)
    → IsOwed owed (next_of s (map again_offer ss ++ new_offers n ws))
again_owed s owed [] n ws = new_owed s owed n ws
again_owed s owed (x ∷ xs) n ws = λ q. let no : Some x.count ≡ None = q in absurd cc

first_owed : (s : Sending) (owed : Option (List ℕ)) (ss : List Kept) (n : ℕ) (ws : List Waits)
    → IsOwed owed (next_of s (owed_offers owed ++ map again_offer ss ++ new_offers n ws))
first_owed s None ss n ws = again_owed s None ss n ws
first_owed s (Some r) ss n ws = λ q. refl

taking_owed : (s : Sending) → IsOwed s.owed (taking s)
unfolding taking offers_of
taking_owed s = first_owed s s.owed s.again s.next (take (s.bound - s.next) s.waiting)

-- behind it nothing is owed
new_left : (s : Sending) (ws : List Waits) → (took_new ws s).owed ≡ s.owed
new_left s [] = refl
new_left s (w ∷ ws) = refl

again_left : (s : Sending) (ss : List Kept) → (took_again ss s).owed ≡ s.owed
again_left s [] = new_left s (take (s.bound - s.next) s.waiting)
again_left s (x ∷ xs) = refl

owed_left : (s : Sending) (owed : Option (List ℕ)) (r : List ℕ) → (took_owed owed s).owed ≡ Some r → s.owed ≡ Some r
owed_left s None r q = sym (again_left s s.again) ∙ q
owed_left s (Some own) r q = let no : None ≡ Some r = q in absurd cc

took_left : (s : Sending) (r : List ℕ) → (took s).owed ≡ Some r → s.owed ≡ Some r
unfolding took
took_left s r q = owed_left s s.owed r q

taking_is : (s : Sending) (o : Offering) (os : List Offering) → offers_of s ≡ o ∷ os
    → taking s ≡ Some (written s.kind s.protection o.count o.text)
unfolding taking
taking_is s o os q = rw q refl

-- ---- RLC takes it

reports_more : (report : Option (List ℕ)) (xs ys : List Next) → AllByRecursion (IsReportOf report) xs
    → AllByRecursion (IsReportOf report) ys → AllByRecursion (IsReportOf report) (xs ++ ys)
reports_more report [] ys h k = k
reports_more report (x ∷ xs) ys h k = (h.0, reports_more report xs ys h.1 k)

octets_more : (xs : List Next) (n : Next) → map (λ (m : Next). m.octets) (xs ++ n ∷ [])
    ≡ map (λ (m : Next). m.octets) xs ++ n.octets ∷ []
octets_more [] n = refl
octets_more (x ∷ xs) n = ap (λ l. x.octets ∷ l) (octets_more xs n)

-- PDCP's flow behind it
abbrev behind : Pdcp → Pdcp
behind g = run_am_pdcp (SendsEvent TakePdcp ∷ []) g

feeds_tell : (report : Option (List ℕ)) (g : Pdcp) (n : Next) → taking g.sender ≡ Some n → Tells report g
    → Tells report (behind g)
feeds_tell report g n is t =
    let first : IsOwed g.sender.owed (Some n) = subst (IsOwed g.sender.owed) is (taking_owed g.sender) in
    let more : AllByRecursion (IsReportOf report) (n ∷ []) = (λ q. t.owed n.octets (first q), tt) in
    record {
      owed = λ r q. t.owed r (took_left g.sender r q);
      sent = subst (λ (o : Option Next). AllByRecursion (IsReportOf report) (g.stream ++ nexts_of o)) (sym is)
          (reports_more report g.stream (n ∷ []) t.sent more);
    }

feeds_flow : (e o : BearerEnd) (f : Rlc) (n : Next) → taking e.bearer.pdcp.tx ≡ Some n → IsFlow e o f
    → IsFlow (with_bearer (Feeds ∷ []) e) o (rlc_happens f (SendsOn (Offer n.octets)))
feeds_flow e o f n is h =
    let k = sends_flow e o f (Offer n.octets) h in
    record {
      sender_is = k.sender_is ∙ ap (λ (x : Option Next). offered_next x e.bearer.tx) (sym is);
      receiver_is = k.receiver_is;
      copies_are = k.copies_are;
      reports_are = k.reports_are;
      busy_is = k.busy_is ∙ sym (or_none e.busy);
    }

feeds_move : (w : Way) (e o : BearerEnd) (n : Next) → IsWay w → Joins w e o → taking e.bearer.pdcp.tx ≡ Some n
    → HasOctet n.octets
    → Moves w (SendsEvent TakePdcp ∷ []) (SendsOn (Offer n.octets) ∷ []) (with_bearer (Feeds ∷ []) e) o
    (takes_new e.bearer.pdcp.tx TakePdcp) [] (Gives (given_of n) ∷ [])
feeds_move w e o n h joins is some =
    let g = pdcp w in
    let f = rlc w in
    let s : RlcStep = SendsOn (Offer n.octets) in
    let r = rests w s h some (record { stays = refl; none = refl; silent = tt }) in
    let is_given : taking g.sender ≡ Some n = ap taking joins.sender_is ∙ is in
    record {
      events = (tt, tt);
      steps = (some, tt);
      meets = record {
        rlc_is = feeds_flow e o f n is joins.rlc_is;
        sender_is = ap took joins.sender_is;
        receiver_is = joins.receiver_is;
        stream_is =
            ap (λ (x : Option Next). map (λ (m : Next). m.octets) (g.stream ++ nexts_of x)) is_given
            ∙ octets_more g.stream n
            ∙ ap (λ l. l ++ n.octets ∷ []) joins.stream_is
            ∙ sym (step-offers f s);
        passed_is = joins.passed_is ∙ ap length (sym r.handed);
        whole_is = λ k. joins.whole_is k ∙ sym (r.arrived k);
      };
      sdus_are = ap (λ (x : Sending). g.sdus ++ takes_new x TakePdcp) joins.sender_is;
      ups_are = sym (append-nil g.up);
      tells = tells_given g (behind g) n (told_of w) (sound_pdcp w h).few
          (ap (λ (x : Option Next). g.stream ++ nexts_of x) is_given) refl (λ count. refl);
      handed_is = r.handed;
      confirmed_is = r.confirmed_is;
    }

feeds_go_on : (bits : ℕ) (out inn : Way) (e o : BearerEnd) (n : Next) → JoinedEnds bits out inn e o
    → taking e.bearer.pdcp.tx ≡ Some n → HasOctet n.octets
    → EndsGoOn bits out inn (with_bearer (Feeds ∷ []) e) o (takes_new e.bearer.pdcp.tx TakePdcp) []
    (Gives (given_of n) ∷ []) [] (n.octets ∷ []) []
feeds_go_on bits out inn e o n h is some =
    out_goes_on bits out inn e o (with_bearer (Feeds ∷ []) e) (SendsEvent TakePdcp ∷ [])
    (SendsOn (Offer n.octets) ∷ []) (takes_new e.bearer.pdcp.tx TakePdcp) (Gives (given_of n) ∷ []) h
    (feeds_move out e o n h.out_is h.out_joins is some) (record { rx = refl; reports = refl; pdcp = refl })
    (stays_between bits out inn e o Feeds h tt)
    refl (feeds_tell (pdcp inn).report (pdcp out) n (ap taking h.out_joins.sender_is ∙ is)
    (tells inn out h.inn_reports))

-- ---- PDUs, one behind the other

-- a PDU leaves the queue at its front, where it is taken for the first time
queue_left : (s : Sending) → takes_new s TakePdcp ++ sdus (took s).waiting ≡ sdus s.waiting
queue_left s =
    ap (λ l. l ++ sdus (took s).waiting) (sym (append-nil (takes_new s TakePdcp)))
    ∙ moved_queue s (took s) (takings 1 s) (takes_all 1 s)
    ∙ append-nil (sdus s.waiting)

abbrev feeds_all : List (List ℕ) → BearerEnd → BearerEnd
feeds_all pdus e = with_bearer (map (λ pdu. Feeds) pdus) e

record Fed (bits : ℕ) (out inn : Way) (e o : BearerEnd) (pdus : List (List ℕ)) (given : List Given) : Type 0 where
  news : List (List ℕ)
  goes : EndsGoOn bits out inn (feeds_all pdus e) o news [] (entries_of given) [] pdus []
  left : news ++ sdus (feeds_all pdus e).bearer.pdcp.tx.waiting ≡ sdus e.bearer.pdcp.tx.waiting
  tx : (feeds_all pdus e).bearer.tx ≡ sends_all (map (λ sdu. Offer sdu) pdus) e.bearer.tx

none_fed : (bits : ℕ) (out inn : Way) (e o : BearerEnd) → JoinedEnds bits out inn e o → Fed bits out inn e o [] []
none_fed bits out inn e o h = record { news = []; goes = stays_joined bits out inn e o h; left = refl; tx = refl }

one_fed : (bits : ℕ) (out inn : Way) (e o : BearerEnd) (n : Next) (pdus : List (List ℕ)) (given : List Given)
    → taking e.bearer.pdcp.tx ≡ Some n
    → (m : EndsGoOn bits out inn (with_bearer (Feeds ∷ []) e) o (takes_new e.bearer.pdcp.tx TakePdcp) []
    (Gives (given_of n) ∷ []) [] (n.octets ∷ []) [])
    → Fed bits m.out_after m.inn_after (with_bearer (Feeds ∷ []) e) o pdus given
    → Fed bits out inn e o (n.octets ∷ pdus) (given_of n ∷ given)
one_fed bits out inn e o n pdus given is m more =
    let s = e.bearer.pdcp.tx in
    let d = with_bearer (Feeds ∷ []) e in
    let last = (feeds_all pdus d).bearer.pdcp.tx.waiting in
    record {
      news = takes_new s TakePdcp ++ more.news;
      goes = ends_then bits out inn d o (feeds_all pdus d) o (takes_new s TakePdcp) more.news [] [] (n.octets ∷ []) pdus
          [] [] m more.goes;
      left = append_assoc (takes_new s TakePdcp) more.news (sdus last) ∙ ap (λ l. takes_new s TakePdcp ++ l) more.left
          ∙ queue_left s;
      tx = more.tx ∙ ap (λ (x : Option Next). sends_all (map (λ sdu. Offer sdu) pdus) (offered_next x e.bearer.tx)) is;
    }

given_is : (kind : PdcpKind) (p : Protection) (count : Option ℕ) (text : List ℕ)
    → given_of (written kind p count text) ≡ record { count = count; size = length (written kind p count text).octets }
given_is kind p None text = refl
given_is kind p (Some count) text = refl

all_fed : (bits : ℕ) (out inn : Way) (e o : BearerEnd) (os rest : List Offering) → JoinedEnds bits out inn e o
    → offers_of e.bearer.pdcp.tx ≡ os ++ rest
    → AllByRecursion HasOctet (map (pdu_of e.bearer.pdcp.tx) os)
    → Fed bits out inn e o (map (pdu_of e.bearer.pdcp.tx) os) (map (given_as e.bearer.pdcp.tx) os)
all_fed bits out inn e o [] rest h q some = none_fed bits out inn e o h
all_fed bits out inn e o (x ∷ os) rest h q some =
    let s = e.bearer.pdcp.tx in
    let d = with_bearer (Feeds ∷ []) e in
    let n = written s.kind s.protection x.count x.text in
    let is : taking s ≡ Some n = taking_is s x (os ++ rest) q in
    let m = feeds_go_on bits out inn e o n h is some.0 in
    let left : offers_of (took s) ≡ os ++ rest = heads s ∙ ap (drop 1) q in
    let same : map (pdu_of (took s)) os ≡ map (pdu_of s) os = same_pdus s (took s) os (took_same s) in
    let alike : map (given_as (took s)) os ≡ map (given_as s) os = same_given s (took s) os (took_same s) in
    let more : Fed bits m.out_after m.inn_after d o (map (pdu_of (took s)) os) (map (given_as (took s)) os) =
    all_fed bits m.out_after m.inn_after d o os rest m.joined left
    (subst (λ (l : List (List ℕ)). AllByRecursion HasOctet l) (sym same) some.1) in
    subst (λ (g : Given). Fed bits out inn e o (n.octets ∷ map (pdu_of s) os) (g ∷ map (given_as s) os))
    (given_is s.kind s.protection x.count x.text)
    (one_fed bits out inn e o n (map (pdu_of s) os) (map (given_as s) os) is m
    (subst (λ (l : List (List ℕ)). Fed bits m.out_after m.inn_after d o l (map (given_as s) os)) same
    (subst (λ (l : List Given). Fed bits m.out_after m.inn_after d o (map (pdu_of (took s)) os) l) alike more)))

-- ---- a STATUS where one is written

abbrev writes : Bool → ℕ → BearerEnd → BearerEnd
writes due share e = record e {
  bearer = record e.bearer { rx = if due then written_by e.bearer.rx else e.bearer.rx };
  reports = map (written_now e.bearer.rx share) (if due then status_pdu e.bearer.rx share ∷ [] else []) ++ e.reports;
}

status_flow : (e o : BearerEnd) (f : Rlc) (share : ℕ) → IsFlow o e f
    → IsFlow o (writes true share e) (rlc_happens f (ReportsOn (share - 3) (status_pdu e.bearer.rx share)))
status_flow e o f share h = record {
  sender_is = h.sender_is;
  receiver_is = ap (λ (w : ReceiverWorld). w.state) (receiver-more f Write) ∙ ap written_by h.receiver_is;
  copies_are = h.copies_are;
  reports_are = reports_with f share (status_pdu e.bearer.rx share) e.bearer.rx e.reports h.receiver_is h.reports_are;
  busy_is = h.busy_is;
}

writes_go_on : (bits : ℕ) (out inn : Way) (e o : BearerEnd) (due : Bool) (share : ℕ) → JoinedEnds bits out inn e o
    → EndsGoOn bits out inn (writes due share e) o [] [] [] [] [] []
writes_go_on bits out inn e o true share h =
    let f = rlc inn in
    let s : RlcStep = ReportsOn (share - 3) (status_pdu e.bearer.rx share) in
    let d = writes true share e in
    let between = stays_between bits out inn e o (Receives Write) h tt in
    inn_goes_on bits out inn e o d (s ∷ []) h
    (rlc_moves inn s o e o d h.inn_is h.inn_joins (is_reported f e.bearer.rx share h.inn_joins.rlc_is.receiver_is)
    (record { stays = refl; none = refl; silent = tt }) refl
    (status_flow e o f share h.inn_joins.rlc_is) refl refl)
    (record { tx = refl; copies = refl; busy = refl; pdcp = refl })
    (record { of_data = between.of_data; idle = between.idle })
writes_go_on bits out inn e o false share h = stays_joined bits out inn e o h

-- ---- a data PDU

abbrev gives_data : ℕ → Option ℕ → Bool → BearerEnd → BearerEnd
gives_data size held more e = sent_by (Take size held more) e

data_goes_on : (bits : ℕ) (out inn : Way) (e d o : BearerEnd) (share : ℕ) (held : Option ℕ)
    → JoinedEnds bits out inn d o → IsTaking e share held
    → d.bearer.tx ≡ offered_to e.bearer share held → d.copies ≡ e.copies → d.busy ≡ e.busy
    → EndsGoOn bits out inn (gives_data (data_size e.bearer share) held (has_more_behind e.bearer share held) d) o []
    [] (entries_passed (written_in (data_given e.bearer share held))) [] [] []
data_goes_on bits out inn e d o share held h t tx copies busy =
    let size = data_size e.bearer share in
    let more = has_more_behind e.bearer share held in
    let flow = h.out_joins.rlc_is in
    let can : IsTakingStep (rlc out) size held more = record {
      few = t.few;
      lowest = subst (λ (cs : List Copy). AllByRecursion (IsHeld held) cs) (sym (flow.copies_are ∙ copies)) t.lowest;
      one = λ q. ap (λ (x : Sender). is_new (answer x size held more)) (flow.sender_is ∙ tx)
          ∙ t.one (sym (flow.busy_is ∙ busy) ∙ q);
    } in
    let given : passed (SendsOn (Take size held more) ∷ []) (rlc out) ≡ written_in (data_given e.bearer share held) =
    append-nil (written_in (answer (sender (rlc out)).state size held more))
    ∙ ap (λ (x : Sender). written_in (answer x size held more)) (flow.sender_is ∙ tx) in
    subst (λ (l : List Passing). EndsGoOn bits out inn (gives_data size held more d) o [] [] (entries_passed l) [] []
    []) given
    (sends_on bits out inn d o (Take size held more) h can refl tt)

-- ---- the whole

write_as : (due : Bool) (b : State) → does_all (only_if due (Receives Write)) b
    ≡ record b { rx = if due then written_by b.rx else b.rx }
write_as true b = refl
write_as false b = refl

-- the bearer behind it
abbrev fed : State → ℕ → Option ℕ → State
fed b share held =
    does_all (map (λ pdu. Feeds) (offers_in b share held))
    (record b { rx = if writes_status b.rx share then written_by b.rx else b.rx })

abbrev sends_last : State → ℕ → Option ℕ → Deed
sends_last b share held = Sends (Take (data_size b share) held (has_more_behind b share held))

taken_as : (b : State) (share : ℕ) (held : Option ℕ)
    → does_all (takes b share held) b ≡ does (fed b share held) (sends_last b share held)
taken_as b share held =
    let status : List Deed = only_if (writes_status b.rx share) (Receives Write) in
    let fill : List Deed = map (λ pdu. Feeds) (offers_in b share held) in
    does_then (status ++ fill) (sends_last b share held ∷ []) b
    ∙ ap (λ (d : State). does d (sends_last b share held)) (does_then status fill b
    ∙ ap (does_all fill) (write_as (writes_status b.rx share) b))

-- all of it, at the end that takes
abbrev taken_by : ℕ → Option ℕ → BearerEnd → BearerEnd
taken_by share held e =
    gives_data (data_size e.bearer share) held (has_more_behind e.bearer share held)
    (feeds_all (offers_in e.bearer share held) (writes (writes_status e.bearer.rx share) share e))

after_is : (bits : ℕ) (b : State) (share : ℕ) (held : Option ℕ) → IsOfData bits b → IsIdle b
    → after (Am b) (TakeCall share held) ≡ Am (does (fed b share held) (sends_last b share held))
after_is bits b share held h idle = (calls_are_deeds bits b (TakeCall share held) h idle).left
    ∙ ap (λ (d : State). Am d) (taken_as b share held)

taken_is : (bits : ℕ) (e : BearerEnd) (share : ℕ) (held : Option ℕ) → IsOfData bits e.bearer → IsIdle e.bearer
    → (fed e.bearer share held).tx ≡ offered_to e.bearer share held
    → taken_by share held e ≡ calls e (TakeCall share held)
taken_is bits e share held h idle tx =
    let b = e.bearer in
    let reports = reports_now b.rx share ++ e.reports in
    let d = does (fed b share held) (sends_last b share held) in
    let given : answer (fed b share held).tx (data_size b share) held (has_more_behind b share held)
    ≡ data_given b share held =
    ap (λ (x : Sender). answer x (data_size b share) held (has_more_behind b share held)) tx in
    let left : d ≡ called b (TakeCall share held) = ap (acknowledged b) (sym (after_is bits b share held h idle)) in
    ap (λ (x : Taken). the_end d (copies_with x e.copies) reports (e.busy || is_new x)) given
    ∙ ap (λ (x : State). the_end x (copies_with (data_given b share held) e.copies) reports
    (e.busy || is_new (data_given b share held))) left
  where
    the_end : State → List Copy → List Report → Bool → BearerEnd
    the_end bearer copies reports busy = record { bearer = bearer; copies = copies; reports = reports; busy = busy }

news_are : (bits : ℕ) (b : State) (share : ℕ) (held : Option ℕ) (taken : List (List ℕ)) → IsOfData bits b → IsIdle b
    → taken ++ sdus (fed b share held).pdcp.tx.waiting ≡ sdus b.pdcp.tx.waiting
    → taken ≡ news (Am b) (TakeCall share held)
news_are bits b share held taken h idle q =
    sym (taken_front taken (sdus (fed b share held).pdcp.tx.waiting) (sdus b.pdcp.tx.waiting) q)
    ∙ ap (λ (f : Flow). off (sdus b.pdcp.tx.waiting) (queue (ends f))) (sym (after_is bits b share held h idle))

-- ---- what it tells

-- octets that are read as a STATUS
abbrev StatusIs : List ℕ → Type 0
StatusIs octets = (pdu : StatusPdu) × (am_at octets ≡ Ok (Control pdu))

-- the same account, told otherwise
said_as : (bits : ℕ) (out inn : Way) (e o : BearerEnd) (news given : List (List ℕ)) (xs ys : List AccountEntry)
    → ((a : Account) → account ys a ≡ account xs a)
    → EndsGoOn bits out inn e o news [] xs [] given [] → EndsGoOn bits out inn e o news [] ys [] given []
said_as bits out inn e o news given xs ys same m = record {
  out_after = m.out_after;
  inn_after = m.inn_after;
  joined = m.joined;
  out_goes = record {
    bits = m.out_goes.bits;
    protection = m.out_goes.protection;
    first = m.out_goes.first;
    sdus_are = m.out_goes.sdus_are;
    ups_are = m.out_goes.ups_are;
    tells = λ a k. subst (λ (b : Account). Agrees b (pdcp m.out_after) (told_of m.out_after)) (sym (same a))
        (m.out_goes.tells a k);
  };
  inn_goes = m.inn_goes;
  out_lasts = m.out_lasts;
  inn_lasts = m.inn_lasts;
}

-- a STATUS tells nothing of what goes this way
status_reads : (inn : Way) (e o : BearerEnd) (share : ℕ) → IsWay inn → Joins inn o e
    → StatusIs (status_pdu e.bearer.rx share)
status_reads inn e o share is j =
    let f = rlc inn in
    let s : RlcStep = ReportsOn (share - 3) (status_pdu e.bearer.rx share) in
    let ok = happens-sound f s (is_reported f e.bearer.rx share j.rlc_is.receiver_is)
    (sound inn.sending inn.receiving inn.steps is.steps) in
    (_, ok.reports.0.reads)

wrote_piece : (t : Taken) → map (λ pdu. Writes pdu) (pdus_of t) ≡ written_in t
wrote_piece (taken.Piece number fresh polled octets) = refl
wrote_piece taken.Idle = refl
wrote_piece taken.Small = refl
wrote_piece taken.Shut = refl
wrote_piece taken.Held = refl
wrote_piece taken.Stopped = refl

silent : (octets : List ℕ) (a : Account) → StatusIs octets → accounted (Passes (Writes octets)) a ≡ a
silent octets a is = ap (λ (x : Result AcknowledgedPdu RlcRefusal). record a { rlc = written_as x a.rlc }) is.1

status_silent : (due : Bool) (octets : List ℕ) (t : Taken) (a : Account) → StatusIs octets
    → account (entries_written ((if due then octets ∷ [] else []) ++ pdus_of t)) a
    ≡ account (entries_passed (written_in t)) a
status_silent true octets t a is =
    ap (λ (b : Account). account (entries_written (pdus_of t)) b) (silent octets a is)
    ∙ ap (λ (ps : List Passing). account (entries_passed ps) a) (wrote_piece t)
status_silent false octets t a is = ap (λ (ps : List Passing). account (entries_passed ps) a) (wrote_piece t)

-- what is told of PDCP's PDUs as they are taken
pub gives_are : (bits : ℕ) (out inn : Way) (e o : BearerEnd) (share : ℕ) (held : Option ℕ)
    → JoinedEnds bits out inn e o
    → entries_given (bits_of e.bearer.pdcp.kind) (told e.bearer.pdcp.lcid (Am e.bearer) share held)
    ≡ entries_of (map (given_as e.bearer.pdcp.tx) (taken_in (Am e.bearer) (TakeCall share held)))
gives_are bits out inn e o share held h =
    let b = e.bearer in
    let ok = sound_pdcp out h.out_is in
    let kind : b.pdcp.kind ≡ AmKind bits = h.of_data.kind in
    let tx : b.pdcp.tx.kind ≡ AmKind bits = h.of_data.sending in
    let good : IsKind (AmKind bits) = subst (λ (n : ℕ). IsKind (AmKind n)) h.out_bits h.out_is.kind in
    let owes : Owes b.pdcp.tx.kind b.pdcp.tx.owed =
    subst (λ (s : Sending). Owes s.kind s.owed) h.out_joins.sender_is ok.sends.owes in
    let right = subst (λ (k : PdcpKind). AllByRecursion (IsRight k) (offers_of b.pdcp.tx)) tx
    (offers_right b.pdcp.tx owes) in
    ap (λ (k : PdcpKind). entries_given (bits_of k) (told b.pdcp.lcid (Am b) share held)) kind
    ∙ ap (λ (gs : List Given). entries_of gs) (takes_are_told bits b share held good kind tx right)

says_so : (bits : ℕ) (out inn : Way) (e o : BearerEnd) (share : ℕ) (held : Option ℕ) → JoinedEnds bits out inn e o
    → (a : Account)
    → account (said_in e.bearer (TakeCall share held)) a
    ≡ account (entries_of (map (given_as e.bearer.pdcp.tx) (taken_in (Am e.bearer) (TakeCall share held)))
    ++ entries_passed (written_in (data_given e.bearer share held))) a
says_so bits out inn e o share held h a =
    let b = e.bearer in
    let first = entries_of (map (given_as b.pdcp.tx) (taken_in (Am b) (TakeCall share held))) in
    ap (λ (l : List AccountEntry). account (l ++ entries_written (pdus (Am b) share held)) a)
    (gives_are bits out inn e o share held h)
    ∙ (ap (λ (l : List (List ℕ)). account (first ++ entries_written l) a) (writes_what_rlc_gives b share held)
    ∙ (account_then first (entries_written (status_pdus b.rx share ++ pdus_of (data_given b share held))) a
    ∙ (status_silent (writes_status b.rx share) (status_pdu b.rx share) (data_given b share held) (account first a)
    (status_reads inn e o share h.inn_is h.inn_joins)
    ∙ sym (account_then first (entries_passed (written_in (data_given b share held))) a))))

pub takes_go_on : (bits : ℕ) (out inn : Way) (e o : BearerEnd) (share : ℕ) (held : Option ℕ)
    → JoinedEnds bits out inn e o → IsTaking e share held
    → EndsGoOn bits out inn (calls e (TakeCall share held)) o (news (Am e.bearer) (TakeCall share held)) []
    (said_in e.bearer (TakeCall share held)) [] (offers_in e.bearer share held) []
takes_go_on bits out inn e o share held h t =
    let b = e.bearer in
    let os = taken_in (Am b) (TakeCall share held) in
    let k = length (offers_of b.pdcp.tx) - length (offers_behind (ends (after (Am b) (TakeCall share held)))) in
    let pdus = offers_in b share held in
    let e1 = writes (writes_status b.rx share) share e in
    let e2 = feeds_all pdus e1 in
    let e3 = taken_by share held e in
    let m1 = writes_go_on bits out inn e o (writes_status b.rx share) share h in
    let v = m1.out_after in
    let u = m1.inn_after in
    let said = entries_of (map (given_as b.pdcp.tx) os) ++ entries_passed (written_in (data_given b share held)) in
    let m2 : Fed bits v u e1 o pdus (map (given_as b.pdcp.tx) os) =
    all_fed bits v u e1 o os (drop k (offers_of b.pdcp.tx)) m1.joined
    (sym (take-append-drop k (offers_of b.pdcp.tx))) t.some in
    let m3 = data_goes_on bits m2.goes.out_after m2.goes.inn_after e e2 o share held m2.goes.joined t m2.tx refl refl in
    let m4 : EndsGoOn bits v u e3 o (m2.news ++ []) [] said [] (pdus ++ []) [] =
    ends_then bits v u e2 o e3 o m2.news [] [] [] pdus [] [] [] m2.goes m3 in
    let m5 : EndsGoOn bits out inn e3 o (m2.news ++ []) [] said [] (pdus ++ []) [] =
    ends_then bits out inn e1 o e3 o [] (m2.news ++ []) [] [] [] (pdus ++ []) [] [] m1 m4 in
    let are : m2.news ++ [] ≡ news (Am b) (TakeCall share held) =
    append-nil m2.news ∙ news_are bits b share held m2.news h.of_data h.idle m2.left in
    let m6 : EndsGoOn bits out inn (calls e (TakeCall share held)) o (news (Am b) (TakeCall share held)) [] said []
    pdus [] =
    subst (λ (d : BearerEnd). EndsGoOn bits out inn d o (news (Am b) (TakeCall share held)) [] said [] pdus [])
    (taken_is bits e share held h.of_data h.idle m2.tx)
    (subst (λ (l : List (List ℕ)). EndsGoOn bits out inn e3 o (news (Am b) (TakeCall share held)) [] said [] l [])
    (append-nil pdus)
    (subst (λ (l : List (List ℕ)). EndsGoOn bits out inn e3 o l [] said [] (pdus ++ []) []) are m5)) in
    said_as bits out inn (calls e (TakeCall share held)) o (news (Am b) (TakeCall share held)) pdus said
    (said_in b (TakeCall share held)) (says_so bits out inn e o share held h) m6
