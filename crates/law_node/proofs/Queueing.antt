-- At each bearer of an end at most 1024 SDUs wait to be taken for the first time.
use Rattle.std.proofs.Common.{◌≡◌, ◌≤◌, ℕ, ◌+◌, ◌==◌, ◌-◌, ◌^◌, nat_le, nat_lt, Bool, true, false, if◌then◌else◌}
use Rattle.std.proofs.Common.{Option, Some, None, List, [], ◌∷◌, length, map, drop, take, refl, ap, arith}
use Rattle.std.proofs.lemmas.Bool.Decides.{nat_tests}
use Rattle.std.proofs.lemmas.List.{length-append}
use Rattle.bearer.specs.Bearer.{flow_of}
use Rattle.bearer.specs.declared.flow.Flow.{Flow}
use Rattle.bearer.specs.declared.flow.Flow.TheVariants as flows
use Rattle.bearer.specs.Hearing.{arrived as flow_arrived, expired as flow_expired, ticked as flow_ticked, with_discard}
use Rattle.bearer.specs.Lives.{stopped, restarted as flow_restarted}
use Rattle.bearer.specs.Submitting.{refusal as flow_refusal, submitted as flow_submitted}
use Rattle.bearer.specs.Taking.{after as flow_after}
use Rattle.bearer_pdcp.specs.Discarding.{without_late, after_tick}
use Rattle.bearer_pdcp.specs.Ends.{Ends, begun}
use Rattle.bearer_pdcp.specs.Hearing.{is_for_sender, got_left, with_arrived, after_hearing}
use Rattle.bearer_pdcp.specs.Lives.{report_of, owing_report, restarted}
use Rattle.bearer_pdcp.specs.Taking.{after_taking}
use Rattle.bearer_types.specs.declared.config.BearerConfig.{BearerConfig}
use Rattle.eps_sec.specs.declared.Keys.{Keys}
use Rattle.l2_bits.specs.declared.fault.SubmitRefusal.TheVariants.{Empty, TooLong, Full, CountEnd}
use Rattle.l2_types.specs.declared.channel.Kind.{Kind}
use Rattle.l2_types.specs.declared.channel.Kind.TheVariants as kinds
use Rattle.l2_types.specs.declared.event.Clock.{Clock}
use Rattle.l2_types.specs.declared.side.Side.{Side}
use Rattle.pdcp_pdu.specs.declared.pdu.PdcpKind.{PdcpKind}
use Rattle.pdcp_pdu.specs.declared.pdu.PdcpKind.TheVariants.{Srb, Um, Am}
use Rattle.pdcp_rx.specs.declared.Cause.{Cause}
use Rattle.pdcp_rx.specs.declared.Got.{Got}
use Rattle.pdcp_rx.specs.declared.Got.TheVariants as got_as
use Rattle.pdcp_rx.specs.State.{got}
use Rattle.pdcp_tx.specs.State.{State as Sending, start, refusal, submitted, took_new, took_again, took_owed, took}
use Rattle.pdcp_tx.specs.State.{confirmed, fms_count, reported_from, reported, is_overdue, after_late, ticked}
use Rattle.pdcp_tx.specs.State.{waiting_on, restarted as restarted_sending}
use Rattle.pdcp_tx_store.specs.Waiting.{Waits}
use Rattle.pdcp_tx_store.specs.declared.given.Sent.{Sent}
use Rattle.rlc_um.specs.Transparent.{Transparent, behind_first, refusal as tm_refusal, after_take}
use Rattle.law_node.proofs.Keeping.{IsKept}
use Rattle.law_node.proofs.Pdcp.{Passes, OfPdcp, pdcp_kept}

abbrev pub FewWait : ℕ → Ends → Type 0
FewWait lcid e = length e.tx.waiting ≤ 1024

-- ---- what takes some away

drop_one : (ws : List Waits) → length (drop 1 ws) ≤ length ws
drop_one [] = omega arith
drop_one (w ∷ ws) = omega arith

late_if : (b : Bool) (ws : List Waits) → length (if b then drop 1 ws else ws) ≤ length ws
late_if true ws = drop_one ws
late_if false ws = omega arith

late_less : (s : Sending) → length (after_late s).waiting ≤ length s.waiting
unfolding after_late
late_less s = late_if (is_overdue s) s.waiting

lates_if : (b : Bool) (s t : Sending) → length t.waiting ≤ length s.waiting
    → length (if b then t else s).waiting ≤ length s.waiting
lates_if true s t h = h
lates_if false s t h = omega arith

lates_less : (ws : List Waits) (s : Sending) → length (without_late ws s).waiting ≤ length s.waiting
lates_less [] s = omega arith
lates_less (w ∷ ws) s =
    let one = late_less s in
    let more = lates_less ws (after_late s) in
    lates_if (is_overdue s) s (without_late ws (after_late s)) (omega (arith, one, more))

new_less : (ws : List Waits) (s : Sending) → length (took_new ws s).waiting ≤ length s.waiting
new_less [] s = omega arith
new_less (w ∷ ws) s = drop_one s.waiting

again_less : (again : List Sent) (s : Sending) → length (took_again again s).waiting ≤ length s.waiting
again_less [] s = new_less (take (s.bound - s.next) s.waiting) s
again_less (x ∷ again) s = omega arith

owed_less : (owed : Option (List ℕ)) (s : Sending) → length (took_owed owed s).waiting ≤ length s.waiting
owed_less None s = again_less s.again s
owed_less (Some report) s = omega arith

took_less : (s : Sending) → length (took s).waiting ≤ length s.waiting
unfolding took
took_less s = owed_less s.owed s

on_less : (kind : PdcpKind) (ws : List Waits) → length (waiting_on kind ws) ≤ length ws
on_less Srb ws = omega arith
on_less (Um bits) ws = omega arith
on_less (Am bits) ws = omega arith

owing_same : (report : Option (List ℕ)) (s : Sending) → (owing_report report s).waiting ≡ s.waiting
owing_same None s = refl
owing_same (Some report) s = refl

restarted_less : (report : Option (List ℕ)) (s : Sending) (keys : Keys)
    → length (owing_report report (restarted_sending s keys)).waiting ≤ length s.waiting
unfolding restarted_sending
restarted_less report s keys =
    let same = ap (λ (ws : List Waits). length ws) (owing_same report (restarted_sending s keys)) in
    let less = on_less s.kind s.waiting in
    omega (arith, same, less)

-- ---- what leaves them

reported_by : (from : Option ℕ) (s : Sending) (bitmap : List ℕ) → (reported_from from s bitmap).waiting ≡ s.waiting
reported_by None s bitmap = refl
reported_by (Some from) s bitmap = refl

reported_same : (s : Sending) (fms : ℕ) (bitmap : List ℕ) → (reported s fms bitmap).waiting ≡ s.waiting
unfolding reported
reported_same s fms bitmap = reported_by (fms_count s.kind s.base fms) s bitmap

report_if : (b : Bool) (e d : Ends) → d.tx.waiting ≡ e.tx.waiting → (if b then d else e).tx.waiting ≡ e.tx.waiting
report_if true e d same = same
report_if false e d same = refl

got_same : (g : Got) (cause : Cause) (e : Ends) → (got_left g cause e).tx.waiting ≡ e.tx.waiting
got_same got_as.Up cause e = refl
got_same got_as.Stored cause e = refl
got_same got_as.Old cause e = refl
got_same got_as.OutOfRange cause e = refl
got_same (got_as.Integrity found wanted) cause e = refl
got_same (got_as.Report fms bitmap) cause e =
    report_if (is_for_sender e cause) e (record e { tx = reported e.tx fms bitmap }) (reported_same e.tx fms bitmap)
got_same (got_as.Unreadable fault) cause e = refl

heard_same : (pdu : List ℕ) (cause : Cause) (e : Ends) → (after_hearing pdu cause e).tx.waiting ≡ e.tx.waiting
unfolding after_hearing
heard_same pdu cause e = got_same (got e.rx pdu cause) cause (with_arrived pdu cause e)

confirmed_same : (s : Sending) (place : ℕ) → (confirmed s place).waiting ≡ s.waiting
unfolding confirmed
confirmed_same s place = refl

-- ---- one more where there is room

room_by : (a b full last : Bool)
    → (if a then Some Empty else (if b then Some TooLong else (if full then Some Full
    else (if last then Some CountEnd else None)))) ≡ None → full ≡ false
room_by true b full last e = absurd cc
room_by false true full last e = absurd cc
room_by false false true last e = absurd cc
room_by false false false last e = refl

has_room : (s : Sending) (sdu : List ℕ) → refusal s sdu ≡ None → nat_le 1024 (length s.waiting) ≡ false
unfolding refusal
has_room s sdu e =
    room_by (length sdu == 0) (nat_lt 8188 (length sdu)) (nat_le 1024 (length s.waiting))
    (s.next + length s.waiting == 2 ^ 32) e

submitted_few : (s : Sending) (sdu : List ℕ) → refusal s sdu ≡ None → length (submitted s sdu).waiting ≤ 1024
unfolding submitted
submitted_few s sdu e =
    let room = has_room s sdu e in
    let more = length-append s.waiting (record { sdu = sdu; born = s.clock } ∷ []) in
    grind (arith, nat_tests, room, more)

-- ---- at a bearer with PDCP

at_most : (ws vs : List Waits) → vs ≡ ws → length ws ≤ 1024 → length vs ≤ 1024
at_most ws vs same h = let l = ap (λ (xs : List Waits). length xs) same in omega (arith, l, h)

few_passes : (lcid : ℕ) → Passes (FewWait lcid)
unfolding after_tick after_taking restarted
few_passes lcid = record {
  heard = λ pdu cause e p. at_most e.tx.waiting (after_hearing pdu cause e).tx.waiting (heard_same pdu cause e) p;
  ticked = λ e p. let less = lates_less e.tx.waiting (ticked e.tx) in omega (arith, less, p);
  taken = λ e p. let less = took_less e.tx in omega (arith, less, p);
  confirms = λ e place p. at_most e.tx.waiting (confirmed e.tx place).waiting (confirmed_same e.tx place) p;
  submits = λ e octets r p. submitted_few e.tx octets r;
  discards = λ e ttis p. p;
  restarts = λ e keys p. let less = restarted_less (report_of e.kind e.rx) e.tx keys in omega (arith, less, p);
}

begun_few : (lcid : ℕ) (kind : PdcpKind) (first : ℕ) (keys : Keys) (side : Side)
    → FewWait lcid (begun lcid kind first keys side)
unfolding begun start
begun_few lcid kind first keys side = omega arith

of_pdcp : IsKept (λ (lcid : ℕ) (f : Flow). OfPdcp (FewWait lcid) f)
of_pdcp = pdcp_kept FewWait few_passes begun_few

-- ---- a transparent one has no PDCP

-- the SDUs that wait at a bearer
abbrev pub waits_in : Flow → List (List ℕ)
waits_in (flows.Tm b) = b.waiting
waits_in (flows.Um b) = map (λ w. w.sdu) b.pdcp.tx.waiting
waits_in (flows.Am b) = map (λ w. w.sdu) b.pdcp.tx.waiting

abbrev IsShort : Flow → Type 0
IsShort (flows.Tm b) = length b.waiting ≤ 1024
IsShort (flows.Um b) = Unit {0}
IsShort (flows.Am b) = Unit {0}

begins_short : (kind : Kind) (c : BearerConfig) (keys : Keys) (side : Side) → IsShort (flow_of kind c keys side)
begins_short kinds.Tm c keys side = omega arith
begins_short kinds.Srb c keys side = tt
begins_short kinds.Um c keys side = tt
begins_short kinds.Am c keys side = tt

submits_short : (f : Flow) (sdu : List ℕ) → flow_refusal f sdu ≡ None → IsShort f → IsShort (flow_submitted f sdu)
unfolding flow_refusal flow_submitted tm_refusal
submits_short (flows.Tm b) sdu e h =
    let room = room_by (length sdu == 0) (nat_lt 8188 (length sdu)) (nat_le 1024 (length b.waiting)) false e in
    let more = length-append b.waiting (sdu ∷ []) in
    grind (arith, nat_tests, room, more)
submits_short (flows.Um b) sdu e h = tt
submits_short (flows.Am b) sdu e h = tt

discards_short : (f : Flow) (ttis : ℕ) → IsShort f → IsShort (with_discard f ttis)
unfolding with_discard
discards_short (flows.Tm b) ttis h = h
discards_short (flows.Um b) ttis h = tt
discards_short (flows.Am b) ttis h = tt

behind_less : (next size : ℕ) (ws : List (List ℕ)) → length (behind_first next size ws).waiting ≤ length ws
behind_less next size [] = omega arith
behind_less next size (w ∷ ws) =
    by (nat_lt size (length w)) (record { next = next; waiting = w ∷ ws }) (record { next = next + 1; waiting = ws })
    (omega arith) (omega arith)
  where
    by : (b : Bool) (s t : Transparent) → length s.waiting ≤ length (w ∷ ws) → length t.waiting ≤ length (w ∷ ws)
        → length (if b then s else t).waiting ≤ length (w ∷ ws)
    by true s t p q = p
    by false s t p q = q

takes_short : (f : Flow) (share : ℕ) (held : Option ℕ) → IsShort f → IsShort (flow_after f share held)
unfolding flow_after after_take
takes_short (flows.Tm b) share held h = let less = behind_less b.next (share - 3) b.waiting in omega (arith, less, h)
takes_short (flows.Um b) share held h = tt
takes_short (flows.Am b) share held h = tt

arrives_short : (f : Flow) (pdu : List ℕ) → IsShort f → IsShort (flow_arrived f pdu)
unfolding flow_arrived
arrives_short (flows.Tm b) pdu h = h
arrives_short (flows.Um b) pdu h = tt
arrives_short (flows.Am b) pdu h = tt

expires_short : (f : Flow) (clock : Clock) → IsShort f → IsShort (flow_expired f clock)
unfolding flow_expired
expires_short (flows.Tm b) clock h = h
expires_short (flows.Um b) clock h = tt
expires_short (flows.Am b) clock h = tt

ticks_short : (f : Flow) → IsShort f → IsShort (flow_ticked f)
unfolding flow_ticked
ticks_short (flows.Tm b) h = h
ticks_short (flows.Um b) h = tt
ticks_short (flows.Am b) h = tt

moves_short : (f : Flow) (keys : Keys) → IsShort f → IsShort (flow_restarted (stopped f) keys)
unfolding flow_restarted stopped
moves_short (flows.Tm b) keys h = omega arith
moves_short (flows.Um b) keys h = tt
moves_short (flows.Am b) keys h = tt

-- ---- at all of an end

abbrev pub HasFewWaiting : ℕ → Flow → Type 0
HasFewWaiting lcid f = OfPdcp (FewWait lcid) f × IsShort f

pub few_kept : IsKept HasFewWaiting
few_kept = record {
  idle = (tt, omega arith);
  begins = λ c keys side g. (of_pdcp.begins c keys side g, begins_short c.kind c keys side);
  submits = λ lcid f octets e h. (of_pdcp.submits lcid f octets e h.0, submits_short f octets e h.1);
  discards = λ lcid f ttis h. (of_pdcp.discards lcid f ttis h.0, discards_short f ttis h.1);
  takes = λ lcid f share held most h. (of_pdcp.takes lcid f share held most h.0, takes_short f share held h.1);
  arrives = λ lcid f pdu h. (of_pdcp.arrives lcid f pdu h.0, arrives_short f pdu h.1);
  expires = λ lcid f clock h. (of_pdcp.expires lcid f clock h.0, expires_short f clock h.1);
  ticks = λ lcid f h. (of_pdcp.ticks lcid f h.0, ticks_short f h.1);
  moves = λ lcid f keys h. (of_pdcp.moves lcid f keys h.0, moves_short f keys h.1);
}
