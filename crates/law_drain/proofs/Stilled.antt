-- No octet waits of a PDU that is acknowledged.
use Rattle.std.proofs.Common.{◌≡◌, ◌<◌, ℕ, zero, suc, ◌+◌, ◌==◌, Bool, true, false, not, ◌||◌, ◌&&◌, if◌then◌else◌}
use Rattle.std.proofs.Common.{List, [], ◌∷◌, ◌++◌, length, set, Option, Some, None, ◌⊎◌, inl, inr}
use Rattle.std.proofs.Common.{refl, ap, sym}
use Rattle.std.proofs.Common.{◌∙◌, arith, nat_lt, length-drop, get_or-set_same, get_or-set_other}
use Rattle.std.proofs.lemmas.Grind.{common_steps}
use Rattle.std.proofs.lemmas.Bool.Decides.{nat_tests}
use Rattle.std.proofs.lemmas.Bool.{cases_eq}
use Rattle.std.proofs.Math.ListN.{length-set}
use Rattle.std.specs.Prelude.{IfSome}
use Rattle.l2_num.specs.Timers.{runs}
use Rattle.l2_types.specs.declared.config.AmTxConfig.{AmTxConfig}
use Rattle.rlc_pdu.specs.declared.pdu.Nack.{Nack}
use Rattle.rlc_pdu.specs.Pdus.{StatusPdu}
use Rattle.rlc_am_tx_window.specs.Sent.{Sent, rested, sent_part, recalled, next_stretch}
use Rattle.rlc_am_tx_window.specs.Window.{TxWindow, nothing, slot_at, with_slot, offset_of, last_open, is_named}
use Rattle.rlc_am_tx_window.specs.Window.{leading_acked, advanced}
use Rattle.rlc_am_tx.specs.declared.turn.Turn.{Turn}
use Rattle.rlc_am_tx.specs.declared.turn.Turn.TheVariants as turns
use Rattle.rlc_am_tx.specs.Machine.{State, turn, after_turn, after_status, after_expiry, again, first_place}
use Rattle.rlc_am_tx.specs.Machine.{waits}
use Rattle.rlc_am_tx.specs.Machine.{number_again, with_poll, new_slot, is_ignored, ended, read, applied, limit_of}
use Rattle.rlc_am_tx.specs.Machine.{stops}
use Rattle.rlc_am_tx.specs.Machine.{with_recalled, with_owed, expired, recalled_place, expiry_limit, settles}
use Rattle.rlc_am_tx.specs.Machine.{settled_by}
use Rattle.rlc_am_tx.specs.Machine.{is_wanted, sent_whole, sent_segment, sent_new, is_quiet}
use Rattle.law_rlc.specs.AmSender.Run.{Call, Offer, Take, Status, Tick, Expire, Settle, Confirm, World, after}
use Rattle.law_rlc.specs.AmSender.Run.{run_am_sender, begun}
use Rattle.law_rlc.specs.AmSender.Namings.{Marks, unmarked, marks_after, marks_by, resent, recalled_marks}
use Rattle.law_rlc.specs.AmSender.Namings.{heard_waits, heard_marks}
use Rattle.law_rlc.proofs.AmSender.Slots.{leading-length, slot-drop}
use Rattle.law_rlc.proofs.AmSender.Least.{heard_slots, heard-length}
use Rattle.law_rlc.proofs.AmSender.Heard.{Holds}
use Rattle.law_rlc.proofs.AmSender.Marked.{Stands, start-stands, after-stands, recalled-within, is-part}
use Rattle.law_rlc.proofs.AmSender.Resends.{is-below}
use Rattle.law_drain.proofs.Heard.{heard-acked, waits-are}

abbrev pub Stilled : TxWindow → Marks → Type 0
Stilled w m = (k : ℕ) → k < length w.slots → (slot_at w.slots k).acked ≡ true → (i : ℕ)
    → m.waits (w.base + k) i ≡ false

-- ---- a slot is changed that stays as acknowledged as it was, and of no PDU more octets wait

fewer-stilled : (w : TxWindow) (at : ℕ) (x : Sent) (m n : Marks) → at < length w.slots
    → x.acked ≡ (slot_at w.slots at).acked
    → ((j i : ℕ) → m.waits j i ≡ false → n.waits j i ≡ false) → Stilled w m → Stilled (with_slot w at x) n
fewer-stilled w at x m n at_in same less h k k_in on i =
    less (w.base + k) i (h k (omega (arith, length-set w.slots at x, k_in)) (by (cases_eq k at)) i)
  where
    by : (k ≡ at) ⊎ (k ≡ at → ⊥) → (slot_at w.slots k).acked ≡ true
    by (inl here) = ap (λ (j : ℕ). (slot_at w.slots j).acked) here ∙ sym same
        ∙ ap (λ (y : Sent). y.acked) (sym (get_or-set_same w.slots at x nothing at_in))
        ∙ ap (λ (j : ℕ). (slot_at (set w.slots at x) j).acked) (sym here) ∙ on
    by (inr away) = ap (λ (y : Sent). y.acked) (sym (get_or-set_other w.slots at k x nothing away)) ∙ on

resent-off : (w r : Bool) → w ≡ false → (w && not r) ≡ false
resent-off w r e = rw e refl

-- ---- a new PDU

more-at : (slots : List Sent) (x : Sent) (k : ℕ) → (slot_at (slots ++ x ∷ []) k).acked ≡ true → x.acked ≡ false
    → (slot_at slots k).acked ≡ true
more-at [] x zero on off = absurd cc
more-at [] x (suc k) on off = on
more-at (y ∷ ys) x zero on off = on
more-at (y ∷ ys) x (suc k) on off = more-at ys x k on off

in-window : (slots : List Sent) (k : ℕ) → (slot_at slots k).acked ≡ true → k < length slots
in-window [] k on = absurd cc
in-window (y ∷ ys) zero on = omega arith
in-window (y ∷ ys) (suc k) on = omega (arith, in-window ys k on)

-- ---- a STATUS

off-left : (a named below : Bool) → a ≡ false → (a || (below && not (named && not a))) ≡ true
    → (below ≡ true) × (named ≡ false)
off-left true named below off e = absurd cc
off-left false true true off e = absurd cc
off-left false true false off e = absurd cc
off-left false false true off e = (refl, refl)
off-left false false false off e = absurd cc

nothing-left : (b : Bool) → (b && false) ≡ false
nothing-left true = refl
nothing-left false = refl

heard-stilled : (w : TxWindow) (below most : ℕ) (ns : List Nack) (m : Marks) → Holds w m most → Stilled w m
    → Stilled (record { base = w.base; slots = heard_slots w below most ns }) (heard_marks w below ns m)
heard-stilled w below most ns m h s k lt on i = by (slot_at w.slots k).acked refl
  where
    k_in : k < length w.slots
    k_in = omega (arith, heard-length w below most ns, lt)

    now : ((slot_at w.slots k).acked
        || (nat_lt (0 + k) below && not (is_named w.base k ns && not (slot_at w.slots k).acked))) ≡ true
    now = sym (heard-acked w below most ns k k_in (h.slots k k_in).plain) ∙ on

    by : (a : Bool) → (slot_at w.slots k).acked ≡ a → heard_waits w below ns m.waits (w.base + k) i ≡ false
    by true e = waits-are w below ns m k i k_in ∙ rw e (s k k_in e i)
    by false e =
        let fresh = off-left (slot_at w.slots k).acked (is_named w.base k ns) (nat_lt (0 + k) below) e now in
        let same : k ≡ 0 + k = omega arith in
        let low : nat_lt k below ≡ true = ap (λ (j : ℕ). nat_lt j below) same ∙ fresh.0 in
        waits-are w below ns m k i k_in ∙ rw (e, fresh.1, low) (nothing-left (m.waits (w.base + k) i))

advanced-stilled : (w : TxWindow) (m : Marks) → Stilled w m → Stilled (advanced w) m
advanced-stilled w m s k lt on i =
    let there = slot-drop w.slots (leading_acked w.slots) k in
    let place : w.base + leading_acked w.slots + k ≡ w.base + (leading_acked w.slots + k) = omega arith in
    ap (λ (n : ℕ). m.waits n i) place
    ∙ s (leading_acked w.slots + k)
    (omega (arith, leading-length w.slots, length-drop (leading_acked w.slots) w.slots, lt))
    (sym (ap (λ (x : Sent). x.acked) there) ∙ on) i

-- ---- an expiry names the last PDU that isn't acknowledged

open-last : (all : List Sent) (at : ℕ) (found : Option ℕ) (slots : List Sent)
    → IfSome found (λ k. (slot_at all k).acked ≡ false) → ((j : ℕ) → slot_at all (at + j) ≡ slot_at slots j)
    → IfSome (last_open at found slots) (λ k. (slot_at all k).acked ≡ false)
open-last all at found [] h same = h
open-last all at found (x ∷ xs) h same =
    open-last all (at + 1) (if x.acked then found else Some at) xs (by x.acked refl) (λ j.
    let e : at + 1 + j ≡ at + suc j = omega arith in ap (slot_at all) e ∙ same (suc j))
  where
    by : (b : Bool) → x.acked ≡ b → IfSome (if b then found else Some at) (λ k. (slot_at all k).acked ≡ false)
    by true e = h
    by false e = let z : at ≡ at + 0 = omega arith in
        ap (λ (j : ℕ). (slot_at all j).acked) z ∙ ap (λ (y : Sent). y.acked) (same 0) ∙ e

recalled-open : (s : State) (more : Bool)
    → IfSome (recalled_place s more) (λ k. (slot_at s.window.slots k).acked ≡ false)
recalled-open s more = by (is_quiet s more)
  where
    some : IfSome (last_open 0 None s.window.slots) (λ k. (slot_at s.window.slots k).acked ≡ false)
    some = open-last s.window.slots 0 None s.window.slots tt
        (λ j. let e : 0 + j ≡ j = omega arith in ap (slot_at s.window.slots) e)

    by : (b : Bool) → IfSome (if b then last_open 0 None s.window.slots else None)
        (λ k. (slot_at s.window.slots k).acked ≡ false)
    by true = some
    by false = tt

recalled-stilled : (o : Option ℕ) (s : State) (m : Marks) → IfSome o (λ k. k < length s.window.slots)
    → IfSome o (λ k. (slot_at s.window.slots k).acked ≡ false) → Stilled s.window m
    → Stilled (with_recalled o s).window (recalled_marks o s.window.base m)
recalled-stilled None s m at_in off h k k_in on i = h k k_in on i
recalled-stilled (Some at) s m at_in off h k k_in on i = by (cases_eq k at)
  where
    x : Sent
    x = recalled s.config.max_retx (slot_at s.window.slots at)

    by : (k ≡ at) ⊎ (k ≡ at → ⊥)
        → (m.waits (s.window.base + k) i || (s.window.base + k == s.window.base + at)) ≡ false
    by (inl here) =
        let same : (slot_at (set s.window.slots at x) k).acked ≡ (slot_at s.window.slots at).acked =
        ap (λ (j : ℕ). (slot_at (set s.window.slots at x) j).acked) here
        ∙ ap (λ (y : Sent). y.acked) (get_or-set_same s.window.slots at x nothing at_in) in
        let no' : true ≡ false = sym on ∙ same ∙ off in cc
    by (inr away) =
        let other : (s.window.base + k == s.window.base + at) ≡ false = grind (arith, nat_tests, away) in
        let still = h k (omega (arith, length-set s.window.slots at x, k_in))
        (ap (λ (y : Sent). y.acked) (sym (get_or-set_other s.window.slots at k x nothing away)) ∙ on) i in
        rw (still, other) refl

-- ---- any call

polled-stilled : (b : Bool) (s : State) (m : Marks) → Stilled s.window m → Stilled (with_poll b s).window m
polled-stilled true s m h = h
polled-stilled false s m h = h

new-stilled : (s : State) (size : ℕ) (m : Marks) → Stilled s.window m → Stilled (sent_new s size).window m
new-stilled s size m h k k_in on i =
    let old = more-at s.window.slots (new_slot s size) k on refl in
    h k (in-window s.window.slots k old) old i

turn-stilled : (t : Turn) (s : State) (size : ℕ) (more : Bool) (m : Marks)
    → (t ≡ turns.Whole → waits s ≡ true) → (t ≡ turns.Part → waits s ≡ true) → Stilled s.window m
    → Stilled (after_turn t s size more).window (marks_by t s size m)
unfolding after_turn
turn-stilled turns.Whole s size more m whole part h =
    polled-stilled (is_wanted (sent_whole s) more) (sent_whole s) (marks_by turns.Whole s size m)
    (fewer-stilled s.window (first_place s) (rested (again s)) m
    (resent m (number_again s) 0 (length (again s).field)) (is-below s (whole refl)) refl
    (λ j i e. resent-off (m.waits j i) _ e) h)
turn-stilled turns.Part s size more m whole part h =
    polled-stilled (is_wanted (sent_segment s size) more) (sent_segment s size) (marks_by turns.Part s size m)
    (fewer-stilled s.window (first_place s)
    (sent_part (again s) (next_stretch (again s) size).from (next_stretch (again s) size).to) m
    (resent m (number_again s) (next_stretch (again s) size).from (next_stretch (again s) size).to)
    (is-below s (part refl)) refl (λ j i e. resent-off (m.waits j i) _ e) h)
turn-stilled turns.New s size more m whole part h =
    polled-stilled (is_wanted (sent_new s size) more) (sent_new s size) m (new-stilled s size m h)
turn-stilled turns.Idle s size more m whole part h = h
turn-stilled turns.Stopped s size more m whole part h = h
turn-stilled turns.Small s size more m whole part h = h
turn-stilled turns.Shut s size more m whole part h = h
turn-stilled turns.Held s size more m whole part h = h

ended-stilled : (l : Option ℕ) (b : Bool) (s : State) (m : Marks) → Stilled s.window m
    → Stilled (ended l b s).window m
ended-stilled (Some n) b s m h = h
ended-stilled None true s m h = h
ended-stilled None false s m h = h

status-stilled : (b : Bool) (s : State) (status : StatusPdu) (m : Marks) → Stands s m → Stilled s.window m
    → Stilled (if b then s else applied s (offset_of s.window.base status.ack) status.nacks).window
    (if b then m else heard_marks s.window (offset_of s.window.base status.ack) status.nacks m)
status-stilled true s status m stands h = h
status-stilled false s status m stands h =
    let below = offset_of s.window.base status.ack in
    ended-stilled (limit_of s below status.nacks) (stops s below status.nacks) (read s below status.nacks)
    (heard_marks s.window below status.nacks m)
    (advanced-stilled
    (record { base = s.window.base; slots = heard_slots s.window below s.config.max_retx status.nacks })
    (heard_marks s.window below status.nacks m)
    (heard-stilled s.window below s.config.max_retx status.nacks m stands h))

expiry-stilled : (b : Bool) (s : State) (more : Bool) (m : Marks) → Stilled s.window m
    → Stilled (if b then ended (expiry_limit s more) false (expired s more) else s).window
    (if b then recalled_marks (recalled_place s more) s.window.base m else m)
expiry-stilled false s more m h = h
expiry-stilled true s more m h =
    ended-stilled (expiry_limit s more) false (expired s more) (recalled_marks (recalled_place s more) s.window.base m)
    (recalled-stilled (recalled_place s more) (with_owed s) m (recalled-within s more) (recalled-open s more) h)

settled-stilled : (b : Bool) (s : State) (m : Marks) → Stilled s.window m → Stilled (settled_by b s).window m
settled-stilled true s m h = h
settled-stilled false s m h = h

whole-waits : (s : State) (size : ℕ) (held : Option ℕ) (more : Bool) → turn s size held more ≡ turns.Whole
    → waits s ≡ true
unfolding turn
whole-waits s size held more e = grind (arith, common_steps, nat_tests, e)

after-stilled : (s : State) (c : Call) (m : Marks) → Stands s m → Stilled s.window m
    → Stilled (after s c).window (marks_after s c m)
unfolding after_status after_expiry
after-stilled s (Offer sdu) m stands h = h
after-stilled s (Take size held more) m stands h =
    turn-stilled (turn s size held more) s size more m (whole-waits s size held more)
    (λ e. (is-part s size held more e).0) h
after-stilled s (Status status) m stands h = status-stilled (is_ignored s status.ack) s status m stands h
after-stilled s Tick m stands h = h
after-stilled s (Expire more) m stands h = expiry-stilled (runs s.polls.timer) s more m h
after-stilled s (Settle more) m stands h = settled-stilled (settles s more) s m h
after-stilled s Confirm m stands h = h

run-stilled : (calls : List Call) (w : World Marks) → Stands w.state w.past → Stilled w.state.window w.past
    → Stilled (run_am_sender marks_after calls w).state.window (run_am_sender marks_after calls w).past
run-stilled [] w stands h = h
run-stilled (c ∷ cs) w stands h =
    run-stilled cs (record { state = after w.state c; past = marks_after w.state c w.past })
    (after-stands w.state c w.past stands) (after-stilled w.state c w.past stands h)

pub stilled : (config : AmTxConfig) (calls : List Call)
    → Stilled (run_am_sender marks_after calls (begun config unmarked)).state.window
    (run_am_sender marks_after calls (begun config unmarked)).past
stilled config calls =
    run-stilled calls (begun config unmarked) (start-stands config) (λ k lt on i. absurd (omega (arith, lt)))
