-- PDCP of a signalling bearer keeps nothing of what it gave, so that a bearer that needs nothing is drained or quiet.
use Rattle.std.proofs.Common.{◌≡◌, ◌<◌, ◌≤◌, ◌⊎◌, inl, inr, ℕ, zero, suc, ◌+◌, ◌-◌, ◌^◌, ◌==◌, Bool, true, false}
use Rattle.std.proofs.Common.{if◌then◌else◌, List, [], ◌∷◌, length, take, drop, Option, Some, None, nat_lt}
use Rattle.std.proofs.Common.{nat_le, Result, Ok, Err, refl, ap, sym, subst, ◌∙◌, arith}
use Rattle.std.proofs.lemmas.Bool.{cases_lt}
use Rattle.std.proofs.lemmas.Bool.Decides.{nat_tests}
use Rattle.std.proofs.lemmas.List.{length-append}
use Rattle.std.specs.List.{AllByRecursion}
use Rattle.std.specs.Prelude.{slice_get}
use Rattle.l2_bits.specs.declared.fault.SubmitRefusal.TheVariants.{Empty, TooLong, Full, CountEnd}
use Rattle.l2_types.specs.declared.Clock.{Clock}
use Rattle.l2_types.specs.declared.Clock.TheVariants.{Poll, Reorder, Prohibit}
use Rattle.l2_types.specs.declared.limits.TheConstants.{GREATEST_SDU, MOST_WAITING}
use Rattle.pdcp_pdu.specs.Kinds.{is_am}
use Rattle.pdcp_pdu.specs.Pdus.{SrbPdu}
use Rattle.pdcp_pdu.specs.Reading.{srb_at}
use Rattle.pdcp_pdu.specs.declared.PdcpRefusal.{PdcpRefusal}
use Rattle.pdcp_pdu.specs.declared.pdu.PdcpKind.{PdcpKind}
use Rattle.pdcp_pdu.specs.declared.pdu.PdcpKind.TheVariants.{Am as AmKind, Srb as SrbKind}
use Rattle.pdcp_rx.specs.Heard.{heard, heard_srb}
use Rattle.pdcp_tx_store.specs.Given.{Given, settled, with_ack, trimmed, acked_at}
use Rattle.pdcp_tx_store.specs.Waiting.{Waits}
use Rattle.pdcp_tx_store.specs.declared.given.Entry.{Entry}
use Rattle.pdcp_tx_store.specs.declared.given.Sent.{Sent}
use Rattle.pdcp_tx.specs.Pdus.{width}
use Rattle.pdcp_tx.specs.Runs.{Call as PdcpCall, Submit as Submits, Take as TakePdcp, Confirm as ConfirmPdcp, Report}
use Rattle.pdcp_tx.specs.Runs.{Owe}
use Rattle.pdcp_tx.specs.Runs.{Tick as TickPdcp, Late, after as after_pdcp}
use Rattle.pdcp_tx.specs.State.{State as PdcpState, refusal, submitted, took, took_owed, took_again, took_new}
use Rattle.pdcp_tx.specs.State.{confirmed}
use Rattle.pdcp_tx.specs.State.{given_new, after_late, is_overdue, start}
use Rattle.rlc_am_rx.specs.Machine.{arrived as landed_in}
use Rattle.rlc_am_tx.specs.Need.{left as rlc_left}
use Rattle.rlc_pdu.specs.declared.fault.RlcRefusal.{RlcRefusal}
use Rattle.rlc_pdu.specs.Pdus.{AcknowledgedPdu, Payload, Status as Control}
use Rattle.rlc_pdu.specs.Reading.{am_at}
use Rattle.bearer.specs.Acknowledged.State.{State}
use Rattle.bearer.specs.Acknowledged.Sums.{need, is_drained}
use Rattle.law_rlc.specs.AmSender.Namings.{Marks, unmarked}
use Rattle.law_rlc.specs.AmSender.Run.{World}
use Rattle.law_bearer.specs.AnyBearer.Calls.{Call, Submit, Take, Arrive, Expire, Tick, SetDiscard}
use Rattle.law_bearer.specs.AmBearer.Calls.{IsOfData, IsOfSignalling, deeds_of, arrives, expires}
use Rattle.law_bearer.specs.AmBearer.Deeds.{Deed, Feeds, Sends, Confirms, Receives, HandsUp, Asks, Sets, does, does_all}
use Rattle.law_bearer.specs.AmBearer.Deeds.{after_heard, confirms_first, hands_first}
use Rattle.law_bearer.specs.AmBearer.Sending.{sends_in}
use Rattle.law_bearer.proofs.AmBearer.Keeping.{signalling_stays, kind_stays}
use Rattle.law_drain.specs.Bearer.{bearer_quiet}
use Rattle.law_drain.specs.Done.{HasSentAll, SendsAll}
use Rattle.law_drain.specs.Ends.{HasLived, Stands}
use Rattle.law_drain.specs.Signalling.{KeepsNone, IsAccepted}
use Rattle.law_drain.proofs.BearerDues.{deeds-fall, marks_along}
use Rattle.law_drain.proofs.Calm.{IsOfCalls, handing-all, status-all, taking-all, IsOfTicks, tick-all}
use Rattle.law_drain.proofs.Come.{HasCome, come-then}
use Rattle.law_drain.proofs.Done.{acknowledged_is_done, offers-none, left-none, run-kind, start-kind}
use Rattle.law_drain.proofs.Idle.{idle_is_quiet}
use Rattle.law_drain.proofs.Resting.{failed-drained, sent-all, idle_is_drained}
use Rattle.law_drain.proofs.Tied.{is-drained}

-- ---- calls of PDCP's sender

accepted : (a b c d : Bool) → (if a then Some Empty else (if b then Some TooLong else (if c then Some Full
    else (if d then Some CountEnd else None)))) ≡ None → d ≡ false
accepted true b c d e = absurd cc
accepted false true c d e = absurd cc
accepted false false true d e = absurd cc
accepted false false false true e = absurd cc
accepted false false false false e = refl

below : (s : PdcpState) (sdu : List ℕ) → refusal s sdu ≡ None → (s.next + length s.waiting == 2 ^ 32) ≡ false
unfolding refusal
below s sdu e =
    accepted (length sdu == 0) (nat_lt GREATEST_SDU (length sdu)) (nat_le MOST_WAITING (length s.waiting))
    (s.next + length s.waiting == 2 ^ 32) e

submit-keeps : (s : PdcpState) (sdu : List ℕ) → refusal s sdu ≡ None → KeepsNone s → KeepsNone (submitted s sdu)
unfolding submitted
submit-keeps s sdu e h =
    let w : Waits = record { sdu = sdu; born = s.clock } in
    let less : s.next + length s.waiting < 2 ^ 32 = grind (arith, nat_tests, h.counts, below s sdu e) in
    record {
      given = h.given;
      again = h.again;
      owed = h.owed;
      counts = omega (arith, less, length-append s.waiting (w ∷ []));
      bound = h.bound;
    }

none-given : (kind : PdcpKind) (g : Given) (count : ℕ) (sdu : List ℕ) → kind ≡ SrbKind → g.entries ≡ []
    → (given_new kind g count sdu).entries ≡ []
none-given kind g count sdu srb e = ap (λ (k : PdcpKind). (given_new k g count sdu).entries) srb ∙ e

new-keeps : (k : ℕ) (ws : List Waits) (s : PdcpState) → s.waiting ≡ ws → s.kind ≡ SrbKind → KeepsNone s
    → KeepsNone (took_new (take k ws) s)
new-keeps zero ws s e srb h = h
new-keeps (suc k) [] s e srb h = h
new-keeps (suc k) (w ∷ ws) s e srb h =
    let all : length s.waiting ≡ suc (length ws) = ap (λ (l : List Waits). length l) e in
    let rest : length (drop 1 s.waiting) ≡ length ws = ap (λ (l : List Waits). length (drop 1 l)) e in
    record {
      given = none-given s.kind s.given s.next w.sdu srb h.given;
      again = h.again;
      owed = h.owed;
      counts = omega (arith, h.counts, all, rest);
      bound = h.bound;
    }

take-keeps : (s : PdcpState) → s.kind ≡ SrbKind → KeepsNone s → KeepsNone (took s)
unfolding took
take-keeps s srb h =
    let is : took_owed s.owed s ≡ took_new (take (s.bound - s.next) s.waiting) s =
    ap (λ (o : Option (List ℕ)). took_owed o s) h.owed ∙ ap (λ (ss : List Sent). took_again ss s) h.again in
    subst KeepsNone (sym is) (new-keeps (s.bound - s.next) s.waiting s refl srb h)

none-at : (k : ℕ) → trimmed (acked_at (slice_get [] k) [] k) ≡ []
none-at zero = refl
none-at (suc k) = refl

none-acked : (g : Given) (place : ℕ) → g.entries ≡ [] → (settled (with_ack g place)).entries ≡ []
none-acked g place e =
    ap (λ (es : List Entry). trimmed (acked_at (if nat_lt place g.gone then None else slice_get es (place - g.gone)) es
    (place - g.gone))) e ∙ by (nat_lt place g.gone)
  where
    by : (b : Bool)
        → trimmed (acked_at (if b then None else slice_get [] (place - g.gone)) [] (place - g.gone)) ≡ []
    by true = refl
    by false = none-at (place - g.gone)

bound-stays : (r : Bool) (bound low : ℕ) (kind : PdcpKind) → kind ≡ SrbKind → 2 ^ 32 ≤ bound
    → 2 ^ 32 ≤ (if r then bound else low + width kind)
bound-stays true bound low kind srb h = h
bound-stays false bound low kind srb h =
    let wide : width kind ≡ 2 ^ 32 = ap width srb in omega (arith, wide)

confirm-keeps : (s : PdcpState) (place : ℕ) → s.kind ≡ SrbKind → KeepsNone s → KeepsNone (confirmed s place)
unfolding confirmed
confirm-keeps s place srb h = record {
  given = none-acked s.given place h.given;
  again = h.again;
  owed = h.owed;
  counts = h.counts;
  bound = bound-stays _ s.bound _ s.kind srb h.bound;
}

drop-less : (ws : List Waits) → length (drop 1 ws) ≤ length ws
drop-less [] = omega arith
drop-less (w ∷ ws) = omega arith

late-less : (b : Bool) (ws : List Waits) → length (if b then drop 1 ws else ws) ≤ length ws
late-less true ws = drop-less ws
late-less false ws = omega arith

late-keeps : (s : PdcpState) → KeepsNone s → KeepsNone (after_late s)
unfolding after_late
late-keeps s h = record {
  given = h.given;
  again = h.again;
  owed = h.owed;
  counts = omega (arith, h.counts, late-less (is_overdue s) s.waiting);
  bound = h.bound;
}

-- ---- deeds, but for a submission

abbrev IsTimed : PdcpCall → Type 0
IsTimed (Submits sdu) = ⊥
IsTimed TakePdcp = ⊥
IsTimed (ConfirmPdcp place) = ⊥
IsTimed (Report fms bitmap) = ⊥
IsTimed (Owe report) = ⊥
IsTimed TickPdcp = Unit {0}
IsTimed Late = Unit {0}

abbrev IsStill : Deed → Type 0
IsStill Feeds = Unit {0}
IsStill (Sends c) = Unit {0}
IsStill Confirms = Unit {0}
IsStill (Receives c) = Unit {0}
IsStill HandsUp = Unit {0}
IsStill (Asks c) = IsTimed c
IsStill (Sets ttis) = Unit {0}

timed-keeps : (c : PdcpCall) (s : PdcpState) → IsTimed c → KeepsNone s → KeepsNone (after_pdcp s c)
timed-keeps (Submits sdu) s t h = absurd t
timed-keeps TakePdcp s t h = absurd t
timed-keeps (ConfirmPdcp place) s t h = absurd t
timed-keeps (Report fms bitmap) s t h = absurd t
timed-keeps (Owe report) s t h = absurd t
timed-keeps TickPdcp s t h =
    record { given = h.given; again = h.again; owed = h.owed; counts = h.counts; bound = h.bound }
timed-keeps Late s t h = late-keeps s h

confirms-keep : (places : List ℕ) (b : State) → IsOfSignalling b → KeepsNone b.pdcp.tx
    → KeepsNone (confirms_first places b).pdcp.tx
confirms-keep [] b k h = h
confirms-keep (place ∷ places) b k h = confirm-keeps b.pdcp.tx place k.sending h

-- none that comes is read as a report
heard-none : (sdu : List ℕ) (r : Result SrbPdu PdcpRefusal) (s : PdcpState) → after_heard (heard_srb sdu r) s ≡ s
heard-none sdu (Ok pdu) s = refl
heard-none sdu (Err refusal) s = refl

hears-none : (sdu : List ℕ) (kind : PdcpKind) (s : PdcpState) → kind ≡ SrbKind → after_heard (heard kind sdu) s ≡ s
unfolding heard
hears-none sdu kind s srb = ap (λ (k : PdcpKind). after_heard (heard k sdu) s) srb ∙ heard-none sdu (srb_at sdu) s

hands-keep : (sdus : List (List ℕ)) (b : State) → IsOfSignalling b → KeepsNone b.pdcp.tx
    → KeepsNone (hands_first sdus b).pdcp.tx
hands-keep [] b k h = h
hands-keep (sdu ∷ sdus) b k h = subst KeepsNone (sym (hears-none sdu b.pdcp.rx.kind b.pdcp.tx k.receiving)) h

deed-keeps : (deed : Deed) (b : State) → IsOfSignalling b → IsStill deed → KeepsNone b.pdcp.tx
    → KeepsNone (does b deed).pdcp.tx
deed-keeps Feeds b k t h = take-keeps b.pdcp.tx k.sending h
deed-keeps (Sends c) b k t h = h
deed-keeps Confirms b k t h = confirms-keep b.tx.accounts.news b k h
deed-keeps (Receives c) b k t h = h
deed-keeps HandsUp b k t h = hands-keep b.rx.out.ready b k h
deed-keeps (Asks c) b k t h = timed-keeps c b.pdcp.tx t h
deed-keeps (Sets ttis) b k t h =
    record { given = h.given; again = h.again; owed = h.owed; counts = h.counts; bound = h.bound }

deeds-keep : (deeds : List Deed) (b : State) → IsOfSignalling b → AllByRecursion IsStill deeds → KeepsNone b.pdcp.tx
    → KeepsNone (does_all deeds b).pdcp.tx
deeds-keep [] b k t h = h
deeds-keep (deed ∷ deeds) b k t h =
    deeds-keep deeds (does b deed) (signalling_stays (deed ∷ []) b k) t.1 (deed-keeps deed b k t.0 h)

-- ---- calls

still-calls : IsOfCalls IsStill
still-calls = record { sends = λ c told. tt; confirms = tt; hands = tt }

still-ticks : IsOfTicks IsStill
still-ticks = record { sends = λ c told. tt; receives = λ c. tt; ticks = tt; lates = tt }

arriving-still : (r : Result AcknowledgedPdu RlcRefusal) (b : State) → AllByRecursion IsStill (arrives r b)
arriving-still (Err refused) b = tt
arriving-still (Ok (Payload data')) b = (tt, handing-all IsStill (landed_in b.rx data').out.ready b.pdcp still-calls)
arriving-still (Ok (Control status)) b = status-all IsStill status b still-calls

expiring-still : (clock : Clock) (b : State) → IsStill (expires clock b)
expiring-still Poll b = tt
expiring-still Reorder b = tt
expiring-still Prohibit b = tt

pub signalling_keeps_none : (b : State) (c : Call) → IsOfSignalling b → IsAccepted b c → KeepsNone b.pdcp.tx
    → KeepsNone (does_all (deeds_of b c) b).pdcp.tx
signalling_keeps_none b (Submit sdu) k g h = submit-keeps b.pdcp.tx sdu g h
signalling_keeps_none b (Take share held) k g h =
    deeds-keep (deeds_of b (Take share held)) b k (taking-all IsStill share held b still-calls tt tt) h
signalling_keeps_none b (Arrive pdu) k g h = deeds-keep (deeds_of b (Arrive pdu)) b k (arriving-still (am_at pdu) b) h
signalling_keeps_none b (Expire clock) k g h =
    deeds-keep (deeds_of b (Expire clock)) b k (expiring-still clock b, tt) h
signalling_keeps_none b Tick k g h = deeds-keep (deeds_of b Tick) b k (tick-all IsStill b still-ticks) h
signalling_keeps_none b (SetDiscard ttis) k g h = deeds-keep (deeds_of b (SetDiscard ttis)) b k (tt, tt) h

-- ---- where nothing is needed

no-length : (ws : List Waits) → length ws ≤ 0 → ws ≡ []
no-length [] h = refl
no-length (w ∷ ws) h = absurd (omega (arith, h))

none-waits : (b : State) → KeepsNone b.pdcp.tx → HasSentAll b → b.pdcp.tx.waiting ≡ []
none-waits b h all =
    let s = b.pdcp.tx in
    elim (cases_lt 0 (length s.waiting)) [
      | inl some ↦ (offers-none s all.taken).few (omega (arith, some, h.counts, h.bound))
      | inr none ↦ no-length s.waiting none
    ]

all-done : (b : State) → HasLived b → HasSentAll b → rlc_left b.tx ≡ 0
all-done b h all =
    let o = h.origin in
    let begins : HasCome o.tx unmarked = record {
      config = o.tx_config;
      calls = [];
      some = tt;
      is = ap (λ (s : _). record { state = s; past = unmarked }) (sym h.begins);
    } in
    let m = marks_along h.deeds o unmarked in
    let come = come-then (sends_in h.deeds o) o.tx (does_all h.deeds o).tx unmarked m begins h.octets
    (deeds-fall h.deeds o unmarked begins h.octets).run in
    subst (λ (d : State). SendsAll d.tx) h.is
    (subst (λ (w : World Marks). SendsAll w.state) come.is (acknowledged_is_done come.config come.calls))
    all.acknowledged all.sent

signalling-idle : (b : State) → Stands b → KeepsNone b.pdcp.tx → need b None ≡ 0
    → (is_drained b ≡ true) ⊎ (bearer_quiet b ≡ 1)
signalling-idle b h k none = by b.tx.failed (cases_lt 0 (length b.tx.window.slots)) refl
  where
    by : (f : Bool) → (0 < length b.tx.window.slots) ⊎ (length b.tx.window.slots ≤ 0) → b.tx.failed ≡ f
        → (is_drained b ≡ true) ⊎ (bearer_quiet b ≡ 1)
    by true q x = inl (failed-drained b x)
    by false (inl open') x = inr (idle_is_quiet b none x open')
    by false (inr past) x =
        let all = sent-all b none x h.idle.confirmed (omega (arith, past)) in
        let done = left-none b.pdcp.tx k.given k.again (none-waits b k all) in
        inl (is-drained b done (all-done b h.lived all) all.taken)

data-idle : (bits : ℕ) (b : State) → IsOfData bits b → Stands b → need b None ≡ 0
    → (is_drained b ≡ true) ⊎ (bearer_quiet b ≡ 1)
data-idle bits b k h none =
    let x = h.lived in
    let now = does_all x.deeds x.origin in
    let kind : x.kind ≡ AmKind bits =
    sym (run-kind x.past (start x.kind x.protection x.first) ∙ start-kind x.kind x.protection x.first)
    ∙ sym (ap (λ (s : PdcpState). s.kind) x.given)
    ∙ sym (kind_stays x.deeds x.origin)
    ∙ ap (λ (d : State). d.pdcp.tx.kind) x.is
    ∙ k.sending in
    subst (λ (d : State). (is_drained d ≡ true) ⊎ (bearer_quiet d ≡ 1)) x.is
    (idle_is_drained x.origin x.kind x.protection x.first x.past x.deeds (ap is_am kind) x.given x.nothing x.begins
    x.octets x.life
    (ap (λ (d : State). d.tx.accounts.news) x.is ∙ h.idle.confirmed) (ap (λ (d : State). need d None) x.is ∙ none))

pub idle_stands_drained : (b : State) → Stands b → (IsOfSignalling b → KeepsNone b.pdcp.tx) → need b None ≡ 0
    → (is_drained b ≡ true) ⊎ (bearer_quiet b ≡ 1)
idle_stands_drained b h keeps none = elim h.kind [
  | inl data' ↦ data-idle data'.0 b data'.1 h none
  | inr signalling ↦ signalling-idle b h (keeps signalling) none
]
