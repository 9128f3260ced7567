-- The COUNTs that PDCP's sender has given and those of the SDUs that wait have 32 bits: it refuses one where none is
-- left for it.
use Rattle.std.proofs.Common.{◌≡◌, ◌<◌, ◌≤◌, ℕ, zero, suc, ◌+◌, ◌-◌, ◌^◌, ◌==◌, nat_lt, nat_le, Bool, true, false}
use Rattle.std.proofs.Common.{if◌then◌else◌, Option, Some, None, List, [], ◌∷◌, length, take, drop, refl, ap, arith}
use Rattle.std.proofs.lemmas.Bool.Decides.{nat_tests}
use Rattle.std.proofs.lemmas.List.{length-append}
use Rattle.bearer.specs.Acknowledged.State.{fresh as fresh_am}
use Rattle.bearer.specs.Bearer.{flow_of}
use Rattle.bearer.specs.Unacknowledged.State.{fresh as fresh_um}
use Rattle.bearer_pdcp.specs.Discarding.{without_late, after_tick}
use Rattle.bearer_pdcp.specs.Ends.{Ends, begun as begun_pdcp}
use Rattle.bearer_pdcp.specs.Hearing.{is_for_sender, got_left, with_arrived, after_hearing}
use Rattle.bearer_pdcp.specs.Lives.{report_of, owing_report, restarted}
use Rattle.bearer_pdcp.specs.Taking.{after_taking}
use Rattle.bearer_types.specs.declared.BearerConfig.{BearerConfig}
use Rattle.eps_sec.specs.declared.Keys.{Keys}
use Rattle.l2_bits.specs.declared.fault.SubmitRefusal.TheVariants.{Empty, TooLong, Full, CountEnd}
use Rattle.l2_types.specs.declared.channel.Kind.{Kind}
use Rattle.l2_types.specs.declared.channel.Kind.TheVariants as kinds
use Rattle.l2_types.specs.declared.side.Side.{Side}
use Rattle.pdcp_pdu.specs.declared.pdu.PdcpKind.{PdcpKind}
use Rattle.pdcp_pdu.specs.declared.pdu.PdcpKind.TheVariants as pdcp_kinds
use Rattle.pdcp_rx.specs.declared.Cause.{Cause}
use Rattle.pdcp_rx.specs.declared.Got.{Got}
use Rattle.pdcp_rx.specs.declared.Got.TheVariants as got_as
use Rattle.pdcp_rx.specs.State.{got}
use Rattle.pdcp_tx_store.specs.Waiting.{Waits}
use Rattle.pdcp_tx_store.specs.declared.given.Sent.{Sent}
use Rattle.pdcp_tx.specs.State.{State as Sending, start as start_pdcp, refusal, submitted, took_new, took_again}
use Rattle.pdcp_tx.specs.State.{took_owed, took, confirmed, fms_count, reported_from, reported, is_overdue, after_late}
use Rattle.pdcp_tx.specs.State.{ticked, next_from, waiting_on, restarted as restarted_sending}
use Rattle.law_node.proofs.Pdcp.{Passes, OfPdcp}

-- the COUNTs that were given, and those of what waits
abbrev HasRoom : Sending → Type 0
HasRoom s = s.next + length s.waiting ≤ 2 ^ 32

abbrev pub CountsFit : Ends → Type 0
CountsFit e = HasRoom e.tx

-- ---- what takes SDUs from the queue

late_room : (b : Bool) (ws : List Waits) (n : ℕ) → n + length ws ≤ 2 ^ 32
    → n + length (if b then drop 1 ws else ws) ≤ 2 ^ 32
late_room true [] n h = h
late_room true (w ∷ ws) n h = omega (arith, h)
late_room false ws n h = h

lates_fit : (ws : List Waits) (s : Sending) → HasRoom s → HasRoom (without_late ws s)
unfolding after_late
lates_fit [] s h = h
lates_fit (w ∷ ws) s h =
    by (is_overdue s) (lates_fit ws (after_late s) (late_room (is_overdue s) s.waiting s.next h))
  where
    by : (b : Bool) → HasRoom (without_late ws (after_late s))
        → HasRoom (if b then without_late ws (after_late s) else s)
    by true p = p
    by false p = h

-- one COUNT more is given, and one SDU less waits
new_fit : (k : ℕ) (ws : List Waits) (s : Sending) → s.waiting ≡ ws → HasRoom s → HasRoom (took_new (take k ws) s)
new_fit zero ws s e h = h
new_fit (suc k) [] s e h = h
new_fit (suc k) (w ∷ ws) s e h =
    let all : length s.waiting ≡ suc (length ws) = ap (λ (l : List Waits). length l) e in
    let rest : length (drop 1 s.waiting) ≡ length ws = ap (λ (l : List Waits). length (drop 1 l)) e in
    omega (arith, h, all, rest)

again_fit : (ss : List Sent) (s : Sending) → HasRoom s → HasRoom (took_again ss s)
again_fit [] s h = new_fit (s.bound - s.next) s.waiting s refl h
again_fit (x ∷ xs) s h = h

owed_fit : (owed : Option (List ℕ)) (s : Sending) → HasRoom s → HasRoom (took_owed owed s)
owed_fit None s h = again_fit s.again s h
owed_fit (Some report) s h = h

took_fit : (s : Sending) → HasRoom s → HasRoom (took s)
unfolding took
took_fit s h = owed_fit s.owed s h

-- ---- what leaves it

reported_by : (from : Option ℕ) (s : Sending) (bitmap : List ℕ) → HasRoom s → HasRoom (reported_from from s bitmap)
reported_by None s bitmap h = h
reported_by (Some from) s bitmap h = h

reported_fit : (s : Sending) (fms : ℕ) (bitmap : List ℕ) → HasRoom s → HasRoom (reported s fms bitmap)
unfolding reported
reported_fit s fms bitmap h = reported_by (fms_count s.kind s.base fms) s bitmap h

report_if : (b : Bool) (d e : Ends) → CountsFit d → CountsFit e → CountsFit (if b then d else e)
report_if true d e p q = p
report_if false d e p q = q

got_fit : (g : Got) (cause : Cause) (e : Ends) → CountsFit e → CountsFit (got_left g cause e)
got_fit got_as.Up cause e h = h
got_fit got_as.Stored cause e h = h
got_fit got_as.Old cause e h = h
got_fit got_as.OutOfRange cause e h = h
got_fit (got_as.Integrity found wanted) cause e h = h
got_fit (got_as.Report fms bitmap) cause e h =
    report_if (is_for_sender e cause) (record e { tx = reported e.tx fms bitmap }) e (reported_fit e.tx fms bitmap h) h
got_fit (got_as.Unreadable fault) cause e h = h

heard_fit : (pdu : List ℕ) (cause : Cause) (e : Ends) → CountsFit e → CountsFit (after_hearing pdu cause e)
unfolding after_hearing
heard_fit pdu cause e h = got_fit (got e.rx pdu cause) cause (with_arrived pdu cause e) h

confirmed_fit : (s : Sending) (place : ℕ) → HasRoom s → HasRoom (confirmed s place)
unfolding confirmed
confirmed_fit s place h = h

-- ---- one more where there is room

last_by : (a b c last : Bool)
    → (if a then Some Empty else (if b then Some TooLong else (if c then Some Full
    else (if last then Some CountEnd else None)))) ≡ None → last ≡ false
last_by true b c last e = absurd cc
last_by false true c last e = absurd cc
last_by false false true last e = absurd cc
last_by false false false true e = absurd cc
last_by false false false false e = refl

not_last : (s : Sending) (sdu : List ℕ) → refusal s sdu ≡ None → (s.next + length s.waiting == 2 ^ 32) ≡ false
unfolding refusal
not_last s sdu e =
    last_by (length sdu == 0) (nat_lt 8188 (length sdu)) (nat_le 1024 (length s.waiting))
    (s.next + length s.waiting == 2 ^ 32) e

submitted_fit : (s : Sending) (sdu : List ℕ) → refusal s sdu ≡ None → HasRoom s → HasRoom (submitted s sdu)
unfolding submitted
submitted_fit s sdu e h =
    let w : Waits = record { sdu = sdu; born = s.clock } in
    let less : s.next + length s.waiting < 2 ^ 32 = grind (arith, nat_tests, h, not_last s sdu e) in
    omega (arith, less, length-append s.waiting (w ∷ []))

-- ---- a further life

anew_fit : (kind : PdcpKind) (n : ℕ) (ws : List Waits) → n + length ws ≤ 2 ^ 32
    → next_from kind n + length (waiting_on kind ws) ≤ 2 ^ 32
anew_fit pdcp_kinds.Srb n ws h = omega arith
anew_fit (pdcp_kinds.Um bits) n ws h = omega (arith, h)
anew_fit (pdcp_kinds.Am bits) n ws h = h

owing_fit : (report : Option (List ℕ)) (s : Sending) → HasRoom s → HasRoom (owing_report report s)
owing_fit None s h = h
owing_fit (Some pdu) s h = h

restarted_fit : (s : Sending) (keys : Keys) → HasRoom s → HasRoom (restarted_sending s keys)
unfolding restarted_sending
restarted_fit s keys h = anew_fit s.kind s.next s.waiting h

-- ---- at a bearer

pub counts_pass : Passes CountsFit
unfolding after_tick after_taking restarted
counts_pass = record {
  heard = λ pdu cause e p. heard_fit pdu cause e p;
  ticked = λ e p. lates_fit e.tx.waiting (ticked e.tx) p;
  taken = λ e p. took_fit e.tx p;
  confirms = λ e place p. confirmed_fit e.tx place p;
  submits = λ e octets r p. submitted_fit e.tx octets r p;
  discards = λ e ttis p. p;
  restarts = λ e keys p. owing_fit (report_of e.kind e.rx) (restarted_sending e.tx keys) (restarted_fit e.tx keys p);
}

pub first_counts : (kind : Kind) (c : BearerConfig) (keys : Keys) (side : Side) → c.first < 2 ^ 32
    → OfPdcp CountsFit (flow_of kind c keys side)
unfolding fresh_um fresh_am begun_pdcp start_pdcp
first_counts kinds.Tm c keys side few = tt
first_counts kinds.Srb c keys side few = omega (arith, few)
first_counts kinds.Um c keys side few = omega (arith, few)
first_counts kinds.Am c keys side few = omega (arith, few)
