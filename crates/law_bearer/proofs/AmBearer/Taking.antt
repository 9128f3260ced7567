-- What a bearer takes from PDCP and writes, as deeds.
use Rattle.std.proofs.Common.{◌≡◌, ◌≤◌, ℕ, zero, suc, ◌-◌, ◌%◌, Bool, true, false, if◌then◌else◌, List, [], ◌∷◌, ◌++◌}
use Rattle.std.proofs.Common.{map, length, take, drop, Option, Some, None, Result, Ok, Err, option_map, append-nil}
use Rattle.std.proofs.Common.{refl, ap, sym, ◌∙◌, arith}
use Rattle.bearer_types.specs.declared.Event.TheVariants as events
use Rattle.l2_types.specs.declared.How.TheVariants as how
use Rattle.pdcp_pdu.specs.declared.PdcpKind.{PdcpKind}
use Rattle.pdcp_pdu.specs.declared.PdcpKind.TheVariants.{Srb, Um, Am as AmKind}
use Rattle.pdcp_pdu.specs.declared.PdcpRefusal.{PdcpRefusal}
use Rattle.pdcp_pdu.specs.Pdus.{UserPdu, Sdu, Report}
use Rattle.pdcp_pdu.specs.Reading.{user_at}
use Rattle.pdcp_tx.specs.declared.sender.Next.{Next}
use Rattle.pdcp_tx.specs.State.{Offer, offers, taking, took}
use Rattle.rlc_pdu.specs.declared.Taken.{Taken}
use Rattle.rlc_pdu.specs.declared.Taken.TheVariants.{Piece, Idle, Small, Shut, Held, Stopped}
use Rattle.rlc_am_rx.specs.State.{State as Receiver}
use Rattle.rlc_am_rx.specs.Status.{ack}
use Rattle.rlc_am_tx.specs.Machine.{State as Sender}
use Rattle.rlc_am_tx.specs.Need.{hungry}
use Rattle.law_rlc.specs.AmReceiver.Run.{Write}
use Rattle.law_rlc.specs.AmSender.Run.{Take as Taking}
use Rattle.bearer_pdcp.specs.Ends.{Ends}
use Rattle.bearer_pdcp.specs.Taking.{taken, taking_told, after_taking as after_pdcp, report_told, own_report_told}
use Rattle.bearer_pdcp.specs.Taking.{taken_told, next_told}
use Rattle.bearer.specs.Acknowledged.State.{State, Work, work, with_work}
use Rattle.bearer.specs.Acknowledged.Taking.{given_to, fed, feeds, feeding, data_size, status_told, status_left}
use Rattle.bearer.specs.Acknowledged.Taking.{writes_status, has_prohibit, prohibit_told, data_told, poll_told}
use Rattle.bearer.specs.Acknowledged.Taking.{answer_of, after_taking, taking as told_taking}
use Rattle.bearer.specs.declared.flow.Flow.TheVariants.{Am}
use Rattle.bearer.specs.Taking.{after as taken_from, told}
use Rattle.law_bearer.specs.AnyBearer.Calls.{Take}
use Rattle.law_bearer.specs.AnyBearer.Stream.{takes as taken_in, pdu_of}
use Rattle.law_bearer.specs.AnyBearer.Acknowledged.{offers_in, has_more_behind}
use Rattle.law_bearer.proofs.AnyBearer.Sender.{left_of}
use Rattle.law_bearer.proofs.AnyBearer.Flows.{taken_off}
use Rattle.law_bearer.specs.AmBearer.Deeds.{Deed, Feeds, Sends, Receives, does, does_all, offered_next}
use Rattle.law_bearer.specs.AmBearer.Calls.{only_if, takes, ups_among}
use Rattle.law_bearer.proofs.AmBearer.Ups.{does_then, ups_then, none_then, AreQuiet, quiet_then, quiet_each}

-- ---- one PDU

given_as : (o : Option Next) (tx : Sender) → offered_next o tx ≡ given_to (option_map (λ n. n.octets) o) tx
given_as None tx = refl
given_as (Some n) tx = refl

feeds_one : (w : Work) (b : State) → does (with_work w b) Feeds ≡ with_work (fed w) b
unfolding after_pdcp taken
feeds_one w b =
    ap (λ (t : Sender). record b { pdcp = record w.pdcp { tx = took w.pdcp.tx }; tx = t })
    (given_as (taking w.pdcp.tx) w.tx)

report_none : (lcid : ℕ) (r : Result UserPdu PdcpRefusal) → ups_among (report_told lcid r) ≡ []
report_none lcid (Err refusal) = refl
report_none lcid (Ok (Sdu sn octets)) = refl
report_none lcid (Ok (Report fms bitmap)) = refl

own_none : (lcid : ℕ) (kind : PdcpKind) (pdu : List ℕ) → ups_among (own_report_told lcid kind pdu) ≡ []
own_none lcid Srb pdu = refl
own_none lcid (Um bits) pdu = report_none lcid (user_at bits pdu)
own_none lcid (AmKind bits) pdu = report_none lcid (user_at bits pdu)

taken_none : (lcid : ℕ) (kind : PdcpKind) (count : Option ℕ) (len : ℕ) (pdu : List ℕ)
    → ups_among (taken_told lcid kind count len pdu) ≡ []
taken_none lcid kind (Some count) len pdu = refl
taken_none lcid kind None len pdu = own_none lcid kind pdu

next_none : (lcid : ℕ) (kind : PdcpKind) (o : Option Next) → ups_among (next_told lcid kind o) ≡ []
next_none lcid kind None = refl
next_none lcid kind (Some n) = taken_none lcid kind n.count n.len n.octets

pub taking_none : (e : Ends) → ups_among (taking_told e) ≡ []
unfolding taking_told
taking_none e = next_none e.lcid e.kind (taking e.tx)

-- ---- as many as RLC takes

abbrev pub so_many : ℕ → List Deed
so_many zero = []
so_many (suc n) = Feeds ∷ so_many n

record Fed (os : List Offer) (w v : Work) (b : State) : Type 0 where
  n : ℕ
  few : n ≤ length os
  left : does_all (so_many n) (with_work w b) ≡ with_work v b
  offers' : offers v.pdcp.tx ≡ drop n os
  ups : ups_among v.events ≡ ups_among w.events

none_fed : (os : List Offer) (w : Work) (b : State) → offers w.pdcp.tx ≡ os → Fed os w w b
none_fed os w b q = record { n = zero; few = omega arith; left = refl; offers' = q; ups = refl }

one_fed : (o : Offer) (os : List Offer) (w v : Work) (b : State) → Fed os (fed w) v b → Fed (o ∷ os) w v b
one_fed o os w v b f = record {
  n = suc f.n;
  few = omega (arith, f.few);
  left = ap (does_all (so_many f.n)) (feeds_one w b) ∙ f.left;
  offers' = f.offers';
  ups = f.ups ∙ ups_then w.events (taking_told w.pdcp) ∙ ap (λ l. ups_among w.events ++ l) (taking_none w.pdcp)
      ∙ append-nil (ups_among w.events);
}

fed_by : (hungers : Bool) (o : Offer) (os : List Offer) (w v : Work) (b : State) → offers w.pdcp.tx ≡ o ∷ os
    → Fed os (fed w) v b → Fed (o ∷ os) w (if hungers then v else w) b
fed_by true o os w v b q f = one_fed o os w v b f
fed_by false o os w v b q f = none_fed (o ∷ os) w b q

pdcp_took : (e : Ends) → (after_pdcp e).tx ≡ took e.tx
unfolding after_pdcp
pdcp_took e = refl

all_fed : (os : List Offer) (size : ℕ) (held : Option ℕ) (w : Work) (b : State) → offers w.pdcp.tx ≡ os
    → Fed os w (feeds os size held w) b
all_fed [] size held w b q = none_fed [] w b q
all_fed (o ∷ os) size held w b q =
    fed_by (hungry w.tx size held) o os w (feeds os size held (fed w)) b q
    (all_fed os size held (fed w) b (ap offers (pdcp_took w.pdcp) ∙ left_of 1 w.pdcp.tx ∙ ap (drop 1) q))

-- ---- these are the PDUs that RLC takes

many_as : {A : Type 0} (xs : List A) → map (λ x. Feeds) xs ≡ so_many (length xs)
many_as [] = refl
many_as (x ∷ xs) = ap (λ l. Feeds ∷ l) (many_as xs)

length_map : {A B : Type 0} (f : A → B) (xs : List A) → length (map f xs) ≡ length xs
length_map f [] = refl
length_map f (x ∷ xs) = ap suc (length_map f xs)

length_few : {A : Type 0} (n : ℕ) (xs : List A) → n ≤ length xs → length (take n xs) ≡ n
length_few zero xs h = refl
length_few (suc n) [] h = absurd (omega (arith, h))
length_few (suc n) (x ∷ xs) h = ap suc (length_few n xs (omega (arith, h)))

-- PDCP behind a take
pub behind_as : (b : State) (share : ℕ) (held : Option ℕ)
    → (after_taking b share held).pdcp ≡ (feeding b share held).pdcp
unfolding after_taking
behind_as b share held = refl

taken_are : (b : State) (share : ℕ) (held : Option ℕ) (n : ℕ) → n ≤ length (offers b.pdcp.tx)
    → offers (feeding b share held).pdcp.tx ≡ drop n (offers b.pdcp.tx)
    → taken_in (Am b) (Take share held) ≡ take n (offers b.pdcp.tx)
unfolding taken_from
taken_are b share held n few q =
    taken_off n (offers b.pdcp.tx) (offers (after_taking b share held).pdcp.tx) few
    (ap (λ (e : Ends). offers e.tx) (behind_as b share held) ∙ q)

feeds_are : (b : State) (share : ℕ) (held : Option ℕ) (n : ℕ) → n ≤ length (offers b.pdcp.tx)
    → offers (feeding b share held).pdcp.tx ≡ drop n (offers b.pdcp.tx)
    → map (λ pdu. Feeds) (offers_in b share held) ≡ so_many n
feeds_are b share held n few q =
    many_as (offers_in b share held)
    ∙ ap so_many
    (length_map (pdu_of b.pdcp.tx) (taken_in (Am b) (Take share held))
    ∙ ap length (taken_are b share held n few q)
    ∙ length_few n (offers b.pdcp.tx) few)

abbrev begun_work : State → ℕ → Work
begun_work b share = work b.pdcp b.tx (status_told b.pdcp.lcid (has_prohibit b) b.rx share)

-- so many of what PDCP may give
pub record TakesSo (b : State) (share : ℕ) (held : Option ℕ) : Type 0 where
  pub n : ℕ
  pub few : n ≤ length (offers b.pdcp.tx)
  pub taken_is : taken_in (Am b) (Take share held) ≡ take n (offers b.pdcp.tx)
  pub feeds_is : map (λ pdu. Feeds) (offers_in b share held) ≡ so_many n

pub takes_so : (b : State) (share : ℕ) (held : Option ℕ) → TakesSo b share held
takes_so b share held =
    let f : Fed (offers b.pdcp.tx) (begun_work b share) (feeding b share held) b =
    all_fed (offers b.pdcp.tx) (data_size b share) held (begun_work b share) b refl in
    record {
      n = f.n;
      few = f.few;
      taken_is = taken_are b share held f.n f.few f.offers';
      feeds_is = feeds_are b share held f.n f.few f.offers';
    }

-- ---- the whole

pub writes_one : (due : Bool) (b : State) (r : Receiver) → r ≡ (if due then (does b (Receives Write)).rx else b.rx)
    → does_all (only_if due (Receives Write)) b ≡ record b { rx = r }
writes_one true b r q = ap (λ (x : Receiver). record b { rx = x }) (sym q)
writes_one false b r q = ap (λ (x : Receiver). record b { rx = x }) (sym q)

pub takes_as : (b : State) (share : ℕ) (held : Option ℕ) → does_all (takes b share held) b ≡ after_taking b share held
unfolding after_taking
takes_as b share held =
    let r : Receiver = status_left b.rx share in
    let at : State = record b { rx = r } in
    let size = data_size b share in
    let v = feeding b share held in
    let f : Fed (offers b.pdcp.tx) (begun_work b share) v at =
    all_fed (offers b.pdcp.tx) size held (begun_work b share) at refl in
    let status : List Deed = only_if (writes_status b.rx share) (Receives Write) in
    let fill : List Deed = map (λ pdu. Feeds) (offers_in b share held) in
    let last : Deed = Sends (Taking size held (has_more_behind b share held)) in
    does_then (status ++ fill) (last ∷ []) b
    ∙ ap (λ (d : State). does d last)
    (does_then status fill b
    ∙ ap (does_all fill) (writes_one (writes_status b.rx share) b r refl)
    ∙ ap (λ (deeds : List Deed). does_all deeds at) (feeds_are b share held f.n f.few f.offers')
    ∙ f.left)

pub takes_quiet : (b : State) (share : ℕ) (held : Option ℕ) → AreQuiet (takes b share held)
takes_quiet b share held =
    quiet_then (only_if (writes_status b.rx share) (Receives Write) ++ map (λ pdu. Feeds) (offers_in b share held)) _
    (quiet_then (only_if (writes_status b.rx share) (Receives Write)) _ (by (writes_status b.rx share))
    (quiet_each Feeds (offers_in b share held) tt))
    (tt, tt)
  where
    by : (due : Bool) → AreQuiet (only_if due (Receives Write))
    by true = (tt, tt)
    by false = tt

-- ---- no SDU goes up

status_none : (lcid sn : ℕ) (has due : Bool)
    → ups_among (if due then events.Send lcid how.Status sn ∷ prohibit_told lcid has else []) ≡ []
status_none lcid sn true true = refl
status_none lcid sn false true = refl
status_none lcid sn has false = refl

piece_none : (lcid : ℕ) (t : Taken) → ups_among (data_told lcid t) ≡ []
piece_none lcid (Piece number first polled octets) = by polled
  where
    by : (polled : Bool) → ups_among (poll_told lcid polled) ≡ []
    by true = refl
    by false = refl
piece_none lcid Idle = refl
piece_none lcid Small = refl
piece_none lcid Shut = refl
piece_none lcid Held = refl
piece_none lcid Stopped = refl

pub taking_ups : (b : State) (share : ℕ) (held : Option ℕ) → ups_among (told b.pdcp.lcid (Am b) share held) ≡ []
unfolding told told_taking
taking_ups b share held =
    let v = feeding b share held in
    let f : Fed (offers b.pdcp.tx) (begun_work b share) v b =
    all_fed (offers b.pdcp.tx) (data_size b share) held (begun_work b share) b refl in
    none_then v.events (data_told v.pdcp.lcid (answer_of v (data_size b share) held))
    (f.ups ∙ status_none b.pdcp.lcid (ack b.rx (share - 3) % 1024) (has_prohibit b) (writes_status b.rx share))
    (piece_none v.pdcp.lcid (answer_of v (data_size b share) held))
