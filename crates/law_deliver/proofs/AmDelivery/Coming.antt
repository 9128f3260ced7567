-- What the other end has under way comes to an end: both ways go on.
use Rattle.std.proofs.Common.{◌≡◌, ℕ, Bool, true, false, List, [], ◌∷◌, ◌++◌, Option, Some, None, Result, Ok, slice_get}
use Rattle.std.proofs.Common.{append-nil, drop, refl, ap, sym, subst, ◌∙◌}
use Rattle.std.specs.List.{AllByRecursion}
use Rattle.pdcp_rx.specs.declared.got.Cause.TheVariants.{Arrived}
use Rattle.pdcp_rx.specs.Heard.{heard}
use Rattle.pdcp_rx.specs.State.{State as Receiving, arrived}
use Rattle.rlc_pdu.specs.declared.fault.RlcRefusal.{RlcRefusal}
use Rattle.rlc_pdu.specs.Pdus.{AcknowledgedPdu, AmdPdu, StatusPdu, Payload, Status as Control}
use Rattle.rlc_pdu.specs.Reading.{am_at}
use Rattle.rlc_am_tx.specs.declared.answers.Heard.{Heard}
use Rattle.rlc_am_tx.specs.declared.answers.Heard.TheVariants as heard_as
use Rattle.rlc_am_tx.specs.Machine.{State as Sender, heard as heard_status, after_status}
use Rattle.rlc_am_rx.specs.Machine.{arrived as landed_in}
use Rattle.law_rlc.specs.AmSender.Run.{Status, Settle}
use Rattle.law_rlc.specs.AmReceiver.Run.{Arrive as Hears}
use Rattle.law_words.specs.Passing.{Comes, come_as, with_passings}
use Rattle.law_rlc.specs.AmArrival.Arrival.{passed}
use Rattle.law_words.specs.Arrivals.{AccountEntry, Passes, Account, accounted}
use Rattle.law_rlc.specs.AmPair.Confirmed.{confirmed}
use Rattle.law_rlc.specs.AmPair.Flow.{Copy, Report, sender}
use Rattle.law_pdcp.specs.AmPair.Flow.{run_am_pdcp}
use Rattle.law_rlc.specs.AmPair.Sdus.{offered, handed_up}
use Rattle.law_rlc.specs.AmPair.Statuses.{reduced}
use Rattle.bearer_pdcp.specs.Ends.{Ends}
use Rattle.bearer_pdcp.specs.Hearing.{applies}
use Rattle.bearer.specs.Acknowledged.State.{State}
use Rattle.bearer.specs.Acknowledged.Hearing.{confirms as confirms_places}
use Rattle.bearer.specs.declared.flow.Flow.{Flow}
use Rattle.law_bearer.specs.AnyBearer.Calls.{Arrive}
use Rattle.law_bearer.specs.AmBearer.Deeds.{Deed, Sends, Confirms, Receives, HandsUp, does as deed_does, does_all}
use Rattle.law_bearer.specs.AmBearer.Deeds.{go_up, confirms_first, hands_first, raised_first, hears_one}
use Rattle.law_bearer.specs.AmBearer.Calls.{only_if, settles as settles_now, hands_up, settles_by, confirms_all}
use Rattle.law_bearer.specs.AmBearer.Calls.{arrives as arrive_deeds, AreDeeds}
use Rattle.law_bearer.proofs.AmBearer.Calls.{calls_are_deeds}
use Rattle.law_deliver.specs.AmFlow.Pair.{BearerEnd, Deed as EndDeed, DataComes, StatusComes, acknowledged}
use Rattle.law_deliver.specs.AmFlow.Pair.{called, arrives, data_comes, status_comes, does, Calls, DataGoes, StatusGoes}
use Rattle.law_deliver.specs.AmFlow.Flows.{HasFlow}
use Rattle.law_deliver.proofs.AmFlow.Flows.{data_read, status_read}
use Rattle.law_deliver.specs.AmDelivery.Arrival.{heard_by}
use Rattle.law_deliver.specs.AmDelivery.Lives.{calls_in, call_by, call_of, ups_by}
use Rattle.law_deliver.proofs.AmDelivery.Accounts.{Agrees, told_of}
use Rattle.law_deliver.proofs.AmDelivery.Joined.{Way, IsWay, Joins, rlc, pdcp}
use Rattle.law_deliver.proofs.AmDelivery.Promises.{GoesOn}
use Rattle.law_deliver.proofs.AmDelivery.Ends.{JoinedEnds, EndsGoOn, stays_joined}
use Rattle.law_deliver.proofs.AmDelivery.Lasting.{raised_by_pdu, raised_by, confirmed_by_pdu}
use Rattle.law_deliver.proofs.AmDelivery.Meeting.{Standing, Extends, standing, meets_as, rests}
use Rattle.law_deliver.proofs.AmDelivery.Between.{Between, GoesBetween, none_goes, both_go, then_goes, with_bearer}
use Rattle.law_deliver.proofs.AmDelivery.Between.{DeedGoes, deeds_go}
use Rattle.law_deliver.proofs.AmDelivery.Arrivals.{data_arrives}
use Rattle.law_deliver.proofs.AmDelivery.HandingUp.{IsNext, next_is, goes_up_one}
use Rattle.law_deliver.proofs.AmDelivery.Telling.{hears_report}
use Rattle.law_deliver.proofs.AmDelivery.Confirming.{settles, status_arrives, confirms}

-- ---- deeds

settle_goes : (bits : ℕ) (more : Bool) → DeedGoes bits (Sends (Settle more))
settle_goes bits more out inn e o pool h =
    let b = e.bearer in
    both_go bits out inn e (with_bearer e (deed_does b (Sends (Settle more)))) o [] [] pool h
    (settles out more (standing e o) h.out_is (meets_as out e o h.out_joins))
    (rests inn (standing o e) (meets_as inn o e h.inn_joins)) h.pool_is

confirm_goes : (bits : ℕ) → DeedGoes bits Confirms
confirm_goes bits out inn e o pool h = by e.bearer.tx.accounts.news refl
  where
    by : (l : List ℕ) → e.bearer.tx.accounts.news ≡ l
        → GoesBetween bits out inn (with_bearer e (confirms_first l e.bearer)) o [] [] pool
    by [] q = none_goes bits out inn e o pool h
    by (place ∷ places) q =
        let b = e.bearer in
        both_go bits out inn e (with_bearer e (confirms_first (place ∷ places) b)) o [] [] pool h
        (confirms out place places (standing e o) h.out_is q (meets_as out e o h.out_joins))
        (rests inn (standing o e) (meets_as inn o e h.inn_joins)) h.pool_is

hand_up_goes : (bits : ℕ) → DeedGoes bits HandsUp
hand_up_goes bits out inn e o pool h = by e.bearer.rx.out.ready refl
  where
    by : (l : List (List ℕ)) → e.bearer.rx.out.ready ≡ l
        → GoesBetween bits out inn (with_bearer e (hands_first l e.bearer)) o (raised_first l e.bearer.pdcp.rx) []
        pool
    by [] q = none_goes bits out inn e o pool h
    by (sdu ∷ sdus) q =
        let b = e.bearer in
        let m = meets_as inn o e h.inn_joins in
        let next : IsNext inn sdu = next_is inn (standing o e) sdu sdus h.inn_is q m in
        let kind = ap (λ (r : Receiving). heard r.kind sdu) h.inn_joins.receiver_is in
        both_go bits out inn e (with_bearer e (hands_first (sdu ∷ sdus) b)) o (arrived b.pdcp.rx sdu Arrived).ready
        (sdu ∷ []) pool h
        (hears_report out inn (standing e o) sdu (heard b.pdcp.rx.kind sdu) kind h.out_is h.inn_is
        (h.out_bits ∙ sym h.inn_bits) h.out_reports next
        (meets_as out e o h.out_joins))
        (goes_up_one inn (standing o e) sdu sdus h.inn_is q next m)
        (ap (λ (l : List (List ℕ)). handed_up (rlc inn) ++ (sdu ∷ drop 1 l)) q
        ∙ ap (λ (l : List (List ℕ)). handed_up (rlc inn) ++ l) (sym q) ∙ h.pool_is)

-- ---- lists of them

all_hand_up : (bits : ℕ) (sdus : List (List ℕ)) (e : Ends) → AllByRecursion (DeedGoes bits) (hands_up sdus e)
all_hand_up bits [] e = tt
all_hand_up bits (sdu ∷ sdus) e =
    (hand_up_goes bits, settling (applies sdu Arrived e) (all_hand_up bits sdus (hears_one sdu e)))
  where
    settling : (b : Bool) → AllByRecursion (DeedGoes bits) (hands_up sdus (hears_one sdu e))
        → AllByRecursion (DeedGoes bits) (only_if b (settles_now (hears_one sdu e)) ++ hands_up sdus (hears_one sdu e))
    settling true rest = (λ out inn d o pool h. settle_goes bits _ out inn d o pool h, rest)
    settling false rest = rest

all_settle : (bits : ℕ) (x : Heard) (e : Ends) → AllByRecursion (DeedGoes bits) (settles_by x e)
all_settle bits heard_as.Ignored e = tt
all_settle bits (heard_as.Limit sn) e = tt
all_settle bits (heard_as.Applied stopped) e = (λ out inn d o pool h. settle_goes bits _ out inn d o pool h, tt)

all_confirm : (bits : ℕ) (places : List ℕ) (deeds : List Deed) → AllByRecursion (DeedGoes bits) deeds
    → AllByRecursion (DeedGoes bits) (confirms_all places ++ deeds)
all_confirm bits [] deeds h = h
all_confirm bits (place ∷ places) deeds h = (confirm_goes bits, all_confirm bits places deeds h)

-- ---- a PDU

between_of : (bits : ℕ) (out inn : Way) (e o : BearerEnd) → JoinedEnds bits out inn e o
    → Between bits out inn e o (handed_up (rlc inn) ++ e.bearer.rx.out.ready)
between_of bits out inn e o h = record {
  out_is = h.out_is;
  inn_is = h.inn_is;
  out_bits = h.out_bits;
  inn_bits = h.inn_bits;
  out_joins = h.out_joins;
  inn_joins = h.inn_joins;
  out_reports = h.out_reports;
  inn_reports = h.inn_reports;
  pool_is = refl;
}

abbrev flow_of_way : (w : Way) (from to : BearerEnd) → IsWay w → Joins w from to → HasFlow w.sending w.receiving from to
flow_of_way w from to h j = record { steps = w.steps; given = h.steps; is = j.rlc_is }

-- as its deeds do, so does its call
as_called : {heard : List AccountEntry} (bits : ℕ) (out inn : Way) (e o : BearerEnd) (pdu : List ℕ)
    (x : Result AcknowledgedPdu RlcRefusal) → am_at pdu ≡ x
    → JoinedEnds bits out inn e o
    → GoesBetween bits out inn (with_bearer e (does_all (arrive_deeds x e.bearer) e.bearer)) o
    (go_up (arrive_deeds x e.bearer) e.bearer) heard (handed_up (rlc inn) ++ raised_by_pdu x e.bearer.rx)
    → EndsGoOn bits out inn (arrives e pdu) o [] (ups_by e.bearer (Arrive pdu ∷ [])) [] heard []
    (raised_by e.bearer (Arrive pdu ∷ []))
as_called {heard} bits out inn e o pdu x read h g =
    let b = e.bearer in
    let a : AreDeeds bits b (Arrive pdu) = calls_are_deeds bits b (Arrive pdu) h.of_data h.idle in
    let d : State = does_all (arrive_deeds (am_at pdu) b) b in
    let k : GoesBetween bits out inn (with_bearer e d) o (go_up (arrive_deeds (am_at pdu) b) b) heard
    (handed_up (rlc inn) ++ raised_by_pdu (am_at pdu) b.rx) =
    subst (λ (y : Result AcknowledgedPdu RlcRefusal). GoesBetween bits out inn
    (with_bearer e (does_all (arrive_deeds y b) b)) o (go_up (arrive_deeds y b) b) heard
    (handed_up (rlc inn) ++ raised_by_pdu y b.rx)) (sym read) g in
    let is : called b (Arrive pdu) ≡ d = ap (λ (f : Flow). acknowledged b f) a.left in
    let joined : JoinedEnds bits k.out_after k.inn_after (with_bearer e d) o = record {
      out_is = k.between.out_is;
      inn_is = k.between.inn_is;
      out_bits = k.between.out_bits;
      inn_bits = k.between.inn_bits;
      out_joins = k.between.out_joins;
      inn_joins = k.between.inn_joins;
      out_reports = k.between.out_reports;
      inn_reports = k.between.inn_reports;
      of_data = a.stays;
      other_of_data = h.other_of_data;
      idle = a.idle;
      other_idle = h.other_idle;
    } in
    record {
      out_after = k.out_after;
      inn_after = k.inn_after;
      joined = subst (λ (y : State). JoinedEnds bits k.out_after k.inn_after (with_bearer e y) o) (sym is) joined;
      out_goes = k.out_goes;
      inn_goes = subst (λ (l : List (List ℕ)). GoesOn inn k.inn_after [] l heard) a.ups k.inn_goes;
      out_lasts = k.out_lasts;
      inn_lasts = record {
        offered_is = k.inn_offered ∙ sym (append-nil (offered (rlc inn)));
        confirmed_is = k.inn_confirmed ∙ sym (append-nil (confirmed (rlc inn)));
        handed_is = sym (append-nil (handed_up (rlc k.inn_after)))
            ∙ ap (λ (l : List (List ℕ)). handed_up (rlc k.inn_after) ++ l) (sym a.idle.heard) ∙ k.between.pool_is;
      };
    }

-- a data PDU that the other end sent
data_goes : (bits : ℕ) (out inn : Way) (e o : BearerEnd) (k : ℕ) (x : Option Copy) → slice_get o.copies k ≡ x
    → JoinedEnds bits out inn e o
    → EndsGoOn bits out inn (data_comes e x) o [] (ups_by e.bearer (call_by x)) [] (heard_by (call_by x))
    [] (raised_by e.bearer (call_by x))
data_goes bits out inn e o k None at h = stays_joined bits out inn e o h
data_goes bits out inn e o k (Some c) at h =
    let b = e.bearer in
    let r = data_read inn.sending inn.receiving o e (flow_of_way inn o e h.inn_is h.inn_joins) k c at in
    let pdu : AmdPdu = r.pdu in
    let d : BearerEnd = with_bearer e (deed_does b (Receives (Hears pdu))) in
    let rest : List Deed = hands_up (landed_in b.rx pdu).out.ready b.pdcp in
    let pool = handed_up (rlc inn) ++ (landed_in b.rx pdu).out.ready in
    let first : GoesBetween bits out inn d o [] (Passes (Comes c.octets) ∷ []) pool =
    both_go bits out inn e d o [] [] pool (between_of bits out inn e o h)
    (subst (λ (l : List ℕ). Extends out (standing e o) [] [] [] l)
    (ap (λ (x : Result AcknowledgedPdu RlcRefusal). confirmed_by_pdu x (sender (rlc out)).state) (sym r.read))
    (rests out (standing e o) (meets_as out e o h.out_joins)))
    (data_arrives inn k c pdu (standing o e) h.inn_is r.at r.read (meets_as inn o e h.inn_joins)) refl in
    as_called bits out inn e o c.octets (Ok (Payload pdu)) r.read h
    (then_goes bits out inn d (with_bearer d (does_all rest d.bearer)) o [] (go_up rest d.bearer) pool
    first
    (λ v w n. deeds_go bits rest (all_hand_up bits (landed_in b.rx pdu).out.ready b.pdcp) v w d o pool n))

-- a STATUS tells nothing of what comes this way
silent : (octets : List ℕ) (pdu : StatusPdu) (a : Account) → am_at octets ≡ Ok (Control pdu)
    → accounted (Passes (Comes octets)) a ≡ a
silent octets pdu a read = ap (λ (x : Result AcknowledgedPdu RlcRefusal). record a { rlc = come_as x a.rlc }) read

silently : (w : Way) (a : Standing) (octets : List ℕ) (pdu : StatusPdu) → am_at octets ≡ Ok (Control pdu)
    → Extends w a [] [] [] [] → Extends w a [] (Passes (Comes octets) ∷ []) [] []
silently w a octets pdu read x = record {
  events = x.events;
  steps = x.steps;
  events_given = x.events_given;
  steps_given = x.steps_given;
  meets = x.meets;
  stays = x.stays;
  ups_are = x.ups_are;
  tells =
      λ b k. subst (λ (c : Account). Agrees c (run_am_pdcp x.events (pdcp w))
      (with_passings (passed x.steps (rlc w)) (told_of w))) (sym (silent octets pdu b read)) (x.tells b k);
  handed_is = x.handed_is;
  confirmed_is = x.confirmed_is;
}

-- a STATUS that it wrote
status_goes : (bits : ℕ) (out inn : Way) (e o : BearerEnd) (k : ℕ) (x : Option Report) → slice_get o.reports k ≡ x
    → JoinedEnds bits out inn e o
    → EndsGoOn bits out inn (status_comes e x) o [] (ups_by e.bearer (call_of x)) [] (heard_by (call_of x))
    [] (raised_by e.bearer (call_of x))
status_goes bits out inn e o k None at h = stays_joined bits out inn e o h
status_goes bits out inn e o k (Some s) at h =
    let b = e.bearer in
    let r = status_read out.sending out.receiving e o (flow_of_way out e o h.out_is h.out_joins) k s at in
    let pdu : StatusPdu = reduced s in
    let d : BearerEnd = with_bearer e (deed_does b (Sends (Status pdu))) in
    let places = (after_status b.tx pdu).accounts.news in
    let last : List Deed = settles_by (heard_status b.tx pdu) (confirms_places places b.pdcp) in
    let rest : List Deed = confirms_all places ++ last in
    let pool = handed_up (rlc inn) ++ [] in
    let first : GoesBetween bits out inn d o [] (Passes (Comes s.octets) ∷ []) pool =
    both_go bits out inn e d o [] [] pool (between_of bits out inn e o h)
    (subst (λ (l : List ℕ). Extends out (standing d o) [] [] [] l)
    (ap (λ (x : Result AcknowledgedPdu RlcRefusal). confirmed_by_pdu x (sender (rlc out)).state) (sym r.read))
    (status_arrives out k s pdu (standing e o) h.out_is r.at r.read
    (ap (λ (x : Sender). x.accounts.news) h.out_joins.rlc_is.sender_is ∙ h.idle.confirmed)
    (meets_as out e o h.out_joins)))
    (silently inn (standing o e) s.octets pdu r.read (rests inn (standing o e) (meets_as inn o e h.inn_joins)))
    (ap (λ (l : List (List ℕ)). handed_up (rlc inn) ++ l) h.idle.heard) in
    as_called bits out inn e o s.octets (Ok (Control pdu)) r.read h
    (then_goes bits out inn d (with_bearer d (does_all rest d.bearer)) o [] (go_up rest d.bearer) pool
    first (λ v w n. deeds_go bits rest
    (all_confirm bits places last (all_settle bits (heard_status b.tx pdu) (confirms_places places b.pdcp))) v w d
    o pool n))

-- ---- a deed by which something comes

abbrev pub Brings : EndDeed → Type 0
Brings (Calls c) = ⊥
Brings (DataComes k) = Unit {0}
Brings (StatusComes k) = Unit {0}
Brings (DataGoes k) = ⊥
Brings (StatusGoes k) = ⊥

pub comes_go_on : (bits : ℕ) (out inn : Way) (e o : BearerEnd) (d : EndDeed) → Brings d → JoinedEnds bits out inn e o
    → EndsGoOn bits out inn (does o e d) o [] (ups_by e.bearer (calls_in o d)) [] (heard_by (calls_in o d))
    [] (raised_by e.bearer (calls_in o d))
comes_go_on bits out inn e o (Calls c) g h = absurd g
comes_go_on bits out inn e o (DataComes k) g h = data_goes bits out inn e o k (slice_get o.copies k) refl h
comes_go_on bits out inn e o (StatusComes k) g h = status_goes bits out inn e o k (slice_get o.reports k) refl h
comes_go_on bits out inn e o (DataGoes k) g h = absurd g
comes_go_on bits out inn e o (StatusGoes k) g h = absurd g
