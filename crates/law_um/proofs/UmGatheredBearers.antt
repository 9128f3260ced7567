-- What an unacknowledged bearer tells in a call is of its channel, and RLC takes what it tells of.
use Rattle.std.proofs.Common.{◌≡◌, ℕ, zero, suc, ◌+◌, ◌%◌, ◌^◌, ◌/◌, ◌*◌, ◌-◌, ◌≤◌, ◌==◌, Bool, true, false}
use Rattle.std.proofs.Common.{if◌then◌else◌, List, [], ◌∷◌, ◌++◌, map, take, drop, length, length-append, Option, Some}
use Rattle.std.proofs.Common.{None, IfSome, option_map, slice_get, unwrap_or, append-nil, append_assoc, refl, ap, sym}
use Rattle.std.proofs.Common.{subst, ◌∙◌, arith}
use Rattle.std.specs.List.{AllByRecursion}
use Rattle.std.proofs.lemmas.Grind.{flat_map-append}
use Rattle.eps_sec.specs.declared.Keys.{Keys}
use Rattle.l2_types.specs.declared.Kind.TheVariants as kinds
use Rattle.l2_types.specs.declared.event.Clock.{Clock}
use Rattle.l2_types.specs.declared.event.Waits.{Waits}
use Rattle.bearer_types.specs.declared.event.Event.{Event}
use Rattle.pdcp_pdu.specs.declared.pdu.PdcpKind.{PdcpKind}
use Rattle.pdcp_pdu.specs.declared.pdu.PdcpKind.TheVariants as pdcp
use Rattle.pdcp_pdu.specs.Grammar.{data_header}
use Rattle.pdcp_sec.specs.Protection.{Protection, ciphered_with}
use Rattle.pdcp_sec.proofs.Lengths.{length_ciphered_with}
use Rattle.pdcp_tx.specs.Pdus.{pdu}
use Rattle.pdcp_tx.specs.Runs.{Submit as Submits, Take as Takes, Confirm, Report, Owe, Tick as Ticks, Late}
use Rattle.pdcp_tx.specs.State.{State as Sending, Offer, offers, written, owed_offers, again_offer, new_offers}
use Rattle.pdcp_tx.specs.State.{taking as pdcp_taking, submitted as pdcp_submitted, took, took_owed, took_again}
use Rattle.pdcp_tx.specs.State.{took_new, confirmed, reported, reported_from, fms_count, after_late}
use Rattle.pdcp_tx.specs.State.{restarted as restarted_sending, start}
use Rattle.rlc_pdu.specs.declared.outcome.Taken.{Taken}
use Rattle.rlc_pdu.specs.declared.outcome.Taken.TheVariants as answers
use Rattle.rlc_um.specs.Sender.{is_hungry, taken as rlc_taken}
use Rattle.bearer_pdcp.specs.Ends.{Ends, begun}
use Rattle.bearer_pdcp.specs.Lives.{restarted as restarted_pdcp}
use Rattle.bearer_pdcp.specs.Taking.{taking_told, next_told, after_taking as after_pdcp}
use Rattle.bearer.specs.Hearing.{expiry}
use Rattle.bearer.specs.Lives.{stopped as stopped_flow, restarted as restarted_flow}
use Rattle.bearer.specs.Taking.{told, after as taken_from}
use Rattle.bearer.specs.Unacknowledged.Lives.{stopped, restarted}
use Rattle.bearer.specs.Unacknowledged.State.{State, fresh}
use Rattle.bearer.specs.Unacknowledged.Taking.{Feeding, fed, feeds, feeding, size_in, has_more, why_idle, idle_told}
use Rattle.bearer.specs.Unacknowledged.Taking.{data_told, taking, after_taking}
use Rattle.bearer.specs.declared.flow.Flow.{Flow}
use Rattle.bearer.specs.declared.flow.Flow.TheVariants.{Um}
use Rattle.law_pdcp.specs.OneEnd.Lives.{Step, Calls, SetDiscard as SetsDiscard, Restart, goes, run_pdcp_sender}
use Rattle.law_bearer.specs.AnyBearer.Calls.{Call, Submit, Take, Arrive, Expire, Tick, SetDiscard, ends}
use Rattle.law_bearer.specs.AnyBearer.Stream.{pdu_of as pdcp_pdu}
use Rattle.law_bearer.proofs.AnyBearer.Between.{IsBetween, begins, moves}
use Rattle.law_bearer.proofs.AnyBearer.Flows.{taken_off, called as passes}
use Rattle.law_bearer.proofs.AnyBearer.Parts.{pdcp_took}
use Rattle.law_bearer.proofs.AnyBearer.Sender.{IsOfLife, AreOfLife, moved_same, same_pdus, took_same, left_of}
use Rattle.law_bearer.proofs.AnyBearer.Told.{told_in_order}
use Rattle.law_bearer.proofs.AnyBearer.Unacknowledged.{take_left, stop_ends, restart_is}
use Rattle.law_deliver.proofs.AmChannel.Bearers.{between_after}
use Rattle.law_deliver.proofs.AmFlow.Events.{OfHearing, pdu_holds, expiry_holds, tti_holds, own_told}
use Rattle.law_deliver.proofs.UmFlow.Sending.{is_called}
use Rattle.law_deliver.specs.AmFlow.Reordering.{reordering_in}
use Rattle.law_deliver.specs.AmFlow.Ups.{tells_in}
use Rattle.law_deliver.specs.UmFlow.Pair.{called}
use Rattle.law_um.specs.UmGathered.{IsUmOn, UmBearersComeOn, UmBearersGoOn, UmBearersLiveOn, sizes_told, sizes_in}
use Rattle.law_um.specs.UmGathered.{given_in, UmBearersTellOwn}
use Rattle.law_um.proofs.UmTimers.{um_bearers_tell_reordering}

-- ---- a bearer between calls

between : (l bits : ℕ) (b : State) → IsUmOn l bits b → IsBetween l (Um b)
between l bits b h = record { own = h.own; empty = h.idle }

-- ---- no report is owed, as long as none comes to be

new_owed : (s : Sending) (n : ℕ) → (took_new (take n s.waiting) s).owed ≡ s.owed
new_owed s n = by (take n s.waiting)
  where
    by : (ws : _) → (took_new ws s).owed ≡ s.owed
    by [] = refl
    by (w ∷ ws) = refl

took_owes : (s : Sending) → s.owed ≡ None → (took s).owed ≡ None
unfolding took
took_owes s none = ap (λ (o : Option (List ℕ)). (took_owed o s).owed) none ∙ by s.again ∙ none
  where
    by : (xs : _) → (took_again xs s).owed ≡ s.owed
    by [] = new_owed s (s.bound - s.next)
    by (x ∷ xs) = refl

report_owes : (o : Option ℕ) (s : Sending) (bitmap : List ℕ) → (reported_from o s bitmap).owed ≡ s.owed
report_owes None s bitmap = refl
report_owes (Some from) s bitmap = refl

step_owes : (s : Sending) (x : Step) → IsOfLife x → s.owed ≡ None → (goes s x).owed ≡ None
unfolding pdcp_submitted confirmed reported after_late
step_owes s (Calls (Submits sdu)) h none = none
step_owes s (Calls Takes) h none = took_owes s none
step_owes s (Calls (Confirm place)) h none = none
step_owes s (Calls (Report fms bitmap)) h none = report_owes (fms_count s.kind s.base fms) s bitmap ∙ none
step_owes s (Calls (Owe report)) h none = absurd h
step_owes s (Calls Ticks) h none = none
step_owes s (Calls Late) h none = none
step_owes s (SetsDiscard ttis) h none = none
step_owes s (Restart keys) h none = absurd h

run_owes : (s : Sending) (xs : List Step) → AreOfLife xs → s.owed ≡ None → (run_pdcp_sender xs s).owed ≡ None
run_owes s [] h none = none
run_owes s (x ∷ xs) h none = run_owes (goes s x) xs h.1 (step_owes s x h.0 none)

-- ---- a bearer of the channel stays one

pub um_bearers_come_on : UmBearersComeOn
unfolding fresh begun start
um_bearers_come_on c keys side =
    let k = begins kinds.Um c keys side in
    record { own = k.own; idle = k.empty; kind = refl; sending = refl; owes_none = refl }

pub um_bearers_go_on : UmBearersGoOn
um_bearers_go_on l bits b c h =
    let one = passes (Um b) b.pdcp c refl in
    let moved = one.passed.tx in
    let k = subst (IsBetween l) (is_called b c) (between_after l (Um b) c (between l bits b h)) in
    let some : Some (called b c).pdcp ≡ Some one.next = ap ends (sym (is_called b c)) ∙ one.is in
    let same : (called b c).pdcp ≡ one.next = cc in
    record {
      own = k.own;
      idle = k.empty;
      kind = ap (λ (e : Ends). e.kind) same ∙ one.passed.kind ∙ h.kind;
      sending = ap (λ (e : Ends). e.tx.kind) same ∙ (moved_same b.pdcp.tx one.next.tx _ moved).kind ∙ h.sending;
      owes_none = ap (λ (e : Ends). e.tx.owed) same ∙ ap (λ (s : Sending). s.owed) moved.left
          ∙ run_owes b.pdcp.tx moved.steps moved.life h.owes_none;
    }

next_life : (e : Ends) (keys : Keys) (bits : ℕ) → e.kind ≡ pdcp.Um bits → e.tx.kind ≡ pdcp.Um bits
    → ((restarted_pdcp e keys).kind ≡ pdcp.Um bits) × ((restarted_pdcp e keys).tx.kind ≡ pdcp.Um bits)
    × ((restarted_pdcp e keys).tx.owed ≡ None)
unfolding restarted_pdcp restarted_sending
next_life e keys bits kind sending = (kind, rw kind sending, rw kind refl)

moves_between : (l : ℕ) (b : State) (keys : Keys) → IsBetween l (Um b) → IsBetween l (Um (restarted (stopped b) keys))
unfolding restarted_flow stopped_flow
moves_between l b keys k = moves l (Um b) keys k

pub um_bearers_live_on : UmBearersLiveOn
um_bearers_live_on l bits b keys h =
    let k = moves_between l b keys (between l bits b h) in
    let ended = stop_ends b in
    let next = next_life (stopped b).pdcp keys bits (ended.kind ∙ h.kind)
    (ap (λ (s : Sending). s.kind) ended.tx ∙ h.sending) in
    let is = restart_is b keys in
    record {
      own = k.own;
      idle = k.empty;
      kind = ap (λ (e : Ends). e.kind) is ∙ next.0;
      sending = ap (λ (e : Ends). e.tx.kind) is ∙ next.1;
      owes_none = ap (λ (e : Ends). e.tx.owed) is ∙ next.2;
    }

-- ---- as it hears it takes no SDU

abbrev TakesNone : ℕ → Event → Type 0
TakesNone bits e = sizes_told bits e ≡ []

hearing_none : (bits m : ℕ) → OfHearing (TakesNone bits) m
hearing_none bits m = record {
  start = λ clock. refl;
  stop = λ clock. refl;
  expired = λ clock. refl;
  up = λ sdu. refl;
  fail = λ sn. refl;
  drop = λ why own. refl;
  integrity = λ found wanted. refl;
  bad_rlc = λ fault. refl;
  bad_pdcp = λ fault. refl;
}

none_taken : (bits : ℕ) (xs : List Event) → AllByRecursion (TakesNone bits) xs → sizes_in bits xs ≡ []
none_taken bits [] p = refl
none_taken bits (x ∷ xs) p = ap (λ (ns : List ℕ). ns ++ sizes_in bits xs) p.0 ∙ none_taken bits xs p.1

some_told : (P Q : List Event → Type 0) (o : Option (List Event)) → IfSome o P
    → ((told' : List Event) → P told' → Q told') → Q [] → Q (unwrap_or o [])
some_told P Q None p then' none = none
some_told P Q (Some told') p then' none = then' told' p

expiry_none : (bits m : ℕ) (f : Flow) (clock : Clock) → IsBetween m f
    → AllByRecursion (TakesNone bits) (unwrap_or (expiry f clock) [])
expiry_none bits m f clock k =
    some_told _ (AllByRecursion (TakesNone bits)) (expiry f clock) ((told_in_order m f k).expiring clock)
    (λ told' p. expiry_holds (TakesNone bits) m (hearing_none bits m) clock told' p) tt

-- ---- RLC takes a PDU of PDCP, which is as long as is told

header_size : (bits sn : ℕ) → length (data_header bits 0 sn) ≡ (if bits == 7 then 1 else 2)
header_size bits sn = by (bits == 7) (bits == 12)
  where
    by : (short middle : Bool)
        → length (if short then (128 + sn) ∷ [] else if middle then (128 + 0 * 16 + sn / 256) ∷ (sn % 256) ∷ []
        else (128 + sn / 256) ∷ (sn % 256) ∷ []) ≡ (if short then 1 else 2)
    by true middle = refl
    by false true = refl
    by false false = refl

pdu_size : (bits : ℕ) (p : Protection) (count : ℕ) (text : List ℕ)
    → length (pdu (pdcp.Um bits) p count text) ≡ length text + (if bits == 7 then 1 else 2)
unfolding pdu
pdu_size bits p count text =
    let header = header_size bits (count % 2 ^ bits) in
    let all = length-append (data_header bits 0 (count % 2 ^ bits)) (ciphered_with p count text) in
    omega (arith, all, header, length_ciphered_with p count text)

-- it may take only SDUs
record IsSdu (o : Offer) : Type 0 where
  count : ℕ
  is : o.count ≡ Some count

first_of : (again : _) (n : ℕ) (news : _) (o : Offer) (os : List Offer)
    → map again_offer again ++ new_offers n news ≡ o ∷ os → IsSdu o
first_of [] n [] o os e = absurd cc
first_of [] n (w ∷ ws) o os e =
    let is : record { count = Some n; text = w.sdu } ≡ o = cc in
    record { count = n; is = ap (λ (x : Offer). x.count) (sym is) }
first_of (x ∷ xs) n news o os e =
    let is : again_offer x ≡ o = cc in
    record { count = x.count; is = ap (λ (y : Offer). y.count) (sym is) }

first_is_sdu : (s : Sending) (o : Offer) (os : List Offer) → s.owed ≡ None → offers s ≡ o ∷ os → IsSdu o
unfolding offers
first_is_sdu s o os none e =
    let plain : map again_offer s.again ++ new_offers s.next (take (s.bound - s.next) s.waiting) ≡ o ∷ os =
    sym (ap (λ (r : Option (List ℕ)). owed_offers r ++ map again_offer s.again
    ++ new_offers s.next (take (s.bound - s.next) s.waiting)) none) ∙ e in
    first_of s.again s.next (take (s.bound - s.next) s.waiting) o os plain

record Gives (bits : ℕ) (e : Ends) : Type 0 where
  sending : e.tx.kind ≡ pdcp.Um bits
  owes_none : e.tx.owed ≡ None

gives_on : (bits : ℕ) (e : Ends) → Gives bits e → Gives bits (after_pdcp e)
gives_on bits e h = record {
  sending = ap (λ (s : Sending). s.kind) (pdcp_took e) ∙ (took_same e.tx).kind ∙ h.sending;
  owes_none = ap (λ (s : Sending). s.owed) (pdcp_took e) ∙ took_owes e.tx h.owes_none;
}

sdu_told : (bits lcid : ℕ) (kind own : PdcpKind) (p : Protection) (o : Offer) → own ≡ pdcp.Um bits → IsSdu o
    → sizes_in bits (next_told lcid kind (Some (written own p o.count o.text)))
    ≡ length (written own p o.count o.text).octets ∷ []
sdu_told bits lcid kind own p o is sdu =
    subst (λ (k : PdcpKind). sizes_in bits (next_told lcid kind (Some (written k p o.count o.text)))
    ≡ length (written k p o.count o.text).octets ∷ []) (sym is)
    (subst (λ (c : Option ℕ). sizes_in bits (next_told lcid kind (Some (written (pdcp.Um bits) p c o.text)))
    ≡ length (written (pdcp.Um bits) p c o.text).octets ∷ []) (sym sdu.is)
    (ap (λ (n : ℕ). n ∷ []) (sym (pdu_size bits p sdu.count o.text))))

one_told : (bits : ℕ) (e : Ends) (o : Offer) (os : List Offer) → Gives bits e → offers e.tx ≡ o ∷ os
    → sizes_in bits (taking_told e) ≡ length (pdcp_pdu e.tx o) ∷ []
unfolding taking_told pdcp_taking
one_told bits e o os h q =
    ap (λ (l : List Offer). sizes_in bits (next_told e.lcid e.kind
    (option_map (λ (x : Offer). written e.tx.kind e.tx.protection x.count x.text) (slice_get l 0)))) q
    ∙ sdu_told bits e.lcid e.kind e.tx.kind e.tx.protection o h.sending (first_is_sdu e.tx o os h.owes_none q)

-- ---- as long as RLC is hungry

sizes_both : (bits : ℕ) (xs ys : List Event) → sizes_in bits (xs ++ ys) ≡ sizes_in bits xs ++ sizes_in bits ys
sizes_both bits xs ys = flat_map-append (sizes_told bits) xs ys

-- so many are taken, and told
record Fed (bits : ℕ) (os : List Offer) (w v : Feeding) : Type 0 where
  many : ℕ
  few : many ≤ length os
  left : offers v.pdcp.tx ≡ drop many os
  told_is : sizes_in bits v.events
      ≡ sizes_in bits w.events ++ map length (map (pdcp_pdu w.pdcp.tx) (take many os))

none_fed : (bits : ℕ) (os : List Offer) (w : Feeding) → offers w.pdcp.tx ≡ os → Fed bits os w w
none_fed bits os w q = record {
  many = zero;
  few = omega arith;
  left = q;
  told_is = sym (append-nil (sizes_in bits w.events));
}

one_fed : (bits : ℕ) (o : Offer) (os : List Offer) (w v : Feeding) → Gives bits w.pdcp → offers w.pdcp.tx ≡ o ∷ os
    → Fed bits os (fed w) v → Fed bits (o ∷ os) w v
one_fed bits o os w v h q f =
    let before = sizes_in bits w.events in
    let own = length (pdcp_pdu w.pdcp.tx o) in
    let more : List Offer = take f.many os in
    record {
      many = suc f.many;
      few = omega (arith, f.few);
      left = f.left;
      told_is =
          f.told_is
          ∙ ap (λ (ns : List ℕ). ns ++ map length (map (pdcp_pdu (fed w).pdcp.tx) more))
          (sizes_both bits w.events (taking_told w.pdcp)
          ∙ ap (λ (ns : List ℕ). before ++ ns) (one_told bits w.pdcp o os h q))
          ∙ ap (λ (ls : List (List ℕ)). (before ++ own ∷ []) ++ map length ls)
          (ap (λ (s : Sending). map (pdcp_pdu s) more) (pdcp_took w.pdcp)
          ∙ same_pdus w.pdcp.tx (took w.pdcp.tx) more (took_same w.pdcp.tx))
          ∙ append_assoc before (own ∷ []) (map length (map (pdcp_pdu w.pdcp.tx) more));
    }

all_fed : (bits : ℕ) (os : List Offer) (size : ℕ) (held : Option ℕ) (w : Feeding) → Gives bits w.pdcp
    → offers w.pdcp.tx ≡ os → Fed bits os w (feeds os size held w)
all_fed bits [] size held w h q = none_fed bits [] w q
all_fed bits (o ∷ os) size held w h q =
    by (is_hungry w.tx size held)
    (all_fed bits os size held (fed w) (gives_on bits w.pdcp h)
    (ap offers (pdcp_took w.pdcp) ∙ left_of 1 w.pdcp.tx ∙ ap (drop 1) q))
  where
    by : (hungry : Bool) → Fed bits os (fed w) (feeds os size held (fed w))
        → Fed bits (o ∷ os) w (if hungry then feeds os size held (fed w) else w)
    by true f = one_fed bits o os w (feeds os size held (fed w)) h q f
    by false f = none_fed bits (o ∷ os) w q

-- ---- what is told of the PDU that is written

idle_none : (bits lcid : ℕ) (more : Bool) (why : Waits) → sizes_in bits (idle_told lcid more why) ≡ []
idle_none bits lcid true why = refl
idle_none bits lcid false why = refl

data_none : (bits lcid rlc_bits : ℕ) (more : Bool) (why : Waits) (t : Taken)
    → sizes_in bits (data_told lcid rlc_bits more why t) ≡ []
data_none bits lcid rlc more why (answers.Piece number first polled octets) = refl
data_none bits lcid rlc more why answers.Idle = idle_none bits lcid more why
data_none bits lcid rlc more why answers.Small = refl
data_none bits lcid rlc more why answers.Shut = refl
data_none bits lcid rlc more why answers.Held = refl
data_none bits lcid rlc more why answers.Stopped = refl

take_told : (bits : ℕ) (b : State) (share : ℕ) (held : Option ℕ) → Gives bits b.pdcp
    → sizes_in bits (taking b share held) ≡ map length (given_in b (Take share held))
unfolding taking taken_from
take_told bits b share held h =
    let os = offers b.pdcp.tx in
    let w = feeding b share held in
    let f = all_fed bits os (size_in share) held (record { pdcp = b.pdcp; tx = b.tx; events = [] }) h refl in
    let last = data_told w.pdcp.lcid b.bits (has_more w.pdcp) (why_idle w.tx held)
    (rlc_taken w.tx (size_in share) held) in
    let off = taken_off f.many os (offers (after_taking b share held).pdcp.tx) f.few
    (ap (λ (e : Ends). offers e.tx) (take_left b share held) ∙ f.left) in
    sizes_both bits w.events last
    ∙ ap (λ (ns : List ℕ). sizes_in bits w.events ++ ns)
    (data_none bits w.pdcp.lcid b.bits (has_more w.pdcp) (why_idle w.tx held)
    (rlc_taken w.tx (size_in share) held))
    ∙ append-nil (sizes_in bits w.events)
    ∙ f.told_is
    ∙ ap (λ (l : List Offer). map length (map (pdcp_pdu b.pdcp.tx) l)) (sym off)

-- ---- any call

flow_taking : (l : ℕ) (b : State) (share : ℕ) (held : Option ℕ) → told l (Um b) share held ≡ taking b share held
unfolding told
flow_taking l b share held = refl

sizes_are : (l bits : ℕ) (b : State) (c : Call) → IsUmOn l bits b
    → sizes_in bits (tells_in l (Um b) c) ≡ map length (given_in b c)
sizes_are l bits b (Submit sdu) h = refl
sizes_are l bits b (Take share held) h =
    ap (sizes_in bits) (flow_taking l b share held)
    ∙ take_told bits b share held (record { sending = h.sending; owes_none = h.owes_none })
sizes_are l bits b (Arrive octets) h =
    none_taken bits (tells_in l (Um b) (Arrive octets))
    (pdu_holds (TakesNone bits) l (hearing_none bits l) (tells_in l (Um b) (Arrive octets))
    ((told_in_order l (Um b) (between l bits b h)).receiving octets))
sizes_are l bits b (Expire clock) h =
    none_taken bits (tells_in l (Um b) (Expire clock)) (expiry_none bits l (Um b) clock (between l bits b h))
sizes_are l bits b Tick h =
    none_taken bits (tells_in l (Um b) Tick)
    (tti_holds (TakesNone bits) l (hearing_none bits l) (λ len. refl) (tells_in l (Um b) Tick)
    (told_in_order l (Um b) (between l bits b h)).ticking)
sizes_are l bits b (SetDiscard ttis) h = refl

pub um_bearers_tell_own : UmBearersTellOwn
um_bearers_tell_own l bits b c h = record {
  own = own_told l l (Um b) (Um b) c refl refl (between l bits b h);
  sizes = sizes_are l bits b c h;
  reordering = ap reordering_in ((um_bearers_tell_reordering b c).tells_are l);
}
