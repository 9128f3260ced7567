-- A sender that turns quiet owes less, and behind an expiry of its poll timer none is quiet.
use Rattle.std.proofs.Common.{◌≡◌, ◌<◌, ◌≤◌, inl, inr, ℕ, zero, suc, ◌+◌, ◌-◌, ◌*◌, Bool, true, false, not, ◌||◌}
use Rattle.std.proofs.Common.{◌&&◌, ◌==◌, if◌then◌else◌, List, [], ◌∷◌, ◌++◌, length, drop, Option, Some, None, is_some}
use Rattle.std.proofs.Common.{refl, ap, sym, subst, ◌∙◌, arith, nat_lt, length-append, length-drop, get_or-set_same}
use Rattle.std.proofs.lemmas.Bool.Decides.{nat_tests}
use Rattle.std.proofs.lemmas.Bool.{cases_lt}
use Rattle.std.proofs.Math.ListN.{length-set}
use Rattle.std.specs.Prelude.{IfSome}
use Rattle.l2_num.specs.Timers.{runs}
use Rattle.rlc_pdu.specs.declared.pdu.Nack.{Nack}
use Rattle.rlc_pdu.specs.Pdus.{StatusPdu}
use Rattle.rlc_am_tx_window.specs.Sent.{Sent, is_waiting as slot_waits, recalled, next_stretch}
use Rattle.rlc_am_tx_window.specs.Window.{TxWindow, nothing, slot_at, offset_of, leading_acked}
use Rattle.rlc_am_tx_window.specs.Window.{is_named, last_open}
use Rattle.rlc_am_tx.specs.declared.turn.Turn.{Turn}
use Rattle.rlc_am_tx.specs.declared.turn.Turn.TheVariants as turns
use Rattle.rlc_am_tx.specs.Machine.{State, turn, waits, is_shut, is_quiet, is_empty, again, first_place}
use Rattle.rlc_am_tx.specs.Machine.{after_turn, after_status, after_expiry, is_ignored, ended, limit_of, stops, read}
use Rattle.rlc_am_tx.specs.Machine.{applied, with_recalled, with_owed, expired, recalled_place, expiry_limit}
use Rattle.rlc_am_tx.specs.Machine.{spent_at, limit_in, settles, settled_by}
use Rattle.law_rlc.specs.AmSender.Run.{Call, Offer, Take, Status, Tick, Expire, Settle, Confirm, World, after}
use Rattle.law_rlc.specs.AmSender.Run.{run_am_sender, begun}
use Rattle.law_rlc.specs.AmSender.Namings.{Marks, unmarked, names, heard_waits, heard_namings, heard_marks, marks_after}
use Rattle.law_rlc.specs.AmSender.Limit.{AreFew}
use Rattle.law_rlc.proofs.AmSender.Slots.{leading-length, slot-drop}
use Rattle.law_rlc.proofs.AmSender.Least.{heard_slots, heard-length}
use Rattle.law_rlc.proofs.AmSender.Heard.{Holds, heard-slot}
use Rattle.law_rlc.proofs.AmSender.Marked.{Stands, start-stands, recalled-within, ended-config}
use Rattle.law_rlc.proofs.AmSender.Limits.{Knows, after-few, run-knows}
use Rattle.law_rlc.proofs.AmSender.Resends.{rest-none, resent-of, is-below}
use Rattle.law_rlc.proofs.AmSender.Expiries.{never, ended-window, waits-of}
use Rattle.law_drain.specs.Dues.{sum_below, waiting_of, pdu_dues, window_dues, dues, sent_in, sent_by, offered_by}
use Rattle.law_drain.specs.Quiet.{is_waiting, quiet, QuietEnds}
use Rattle.law_drain.proofs.Sums.{sum_below_le, sum_below_less, sum_below_drop, waiting_of_less}
use Rattle.law_drain.proofs.Heard.{heard-due, waits-are, heard-field, namings-are}
use Rattle.law_drain.proofs.Heard.{due_before, due_behind, due_left, due_shifted}
use Rattle.law_drain.proofs.Dues.{dues_fall, going-due, ended-due}
use Rattle.law_rlc.proofs.AmSender.Expiries.{open-some, recalled-waits}
use Rattle.law_drain.proofs.Full.{Guarded, guarded}

-- ---- a STATUS behind which nothing waits that waited

one-in : (n at : ℕ) (f : ℕ → ℕ) → at < n → f at ≤ sum_below n f
one-in zero at f lt = absurd (omega (arith, lt))
one-in (suc n) at f lt = elim (cases_lt at n) [
  | inl below ↦ omega (arith, one-in n at f below)
  | inr past ↦
      let same : at ≡ n = omega (arith, past, lt) in
      omega (arith, ap (λ (j : ℕ). f j) same)
]

-- without the first summands, of which one counts
drop-less : (n from at : ℕ) (f : ℕ → ℕ) → at < from → 1 ≤ f at
    → sum_below n (λ k. f (from + k)) + 1 ≤ sum_below (from + n) f
drop-less zero from at f lt some =
    let same : sum_below (from + 0) f ≡ sum_below from f = ap (λ (m : ℕ). sum_below m f) (omega arith) in
    omega (arith, one-in from at f lt, some, same)
drop-less (suc n) from at f lt some =
    let one : from + suc n ≡ suc (from + n) = omega arith in
    let sum : sum_below (from + suc n) f ≡ f (from + n) + sum_below (from + n) f =
    ap (λ (m : ℕ). sum_below m f) one in
    omega (arith, sum, drop-less n from at f lt some)

some-waiting : (size at : ℕ) (f : ℕ → Bool) → at < size → f at ≡ true → 1 ≤ waiting_of size f
some-waiting size at f lt on =
    let one = one-in size at (λ i. if f i then 1 else 0) lt in
    let here : 1 ≤ (if f at then 1 else 0) = rw on (omega arith) in
    omega (arith, one, here)

-- a PDU that it acknowledges, of which an octet waited
acked-less : (most namings n at : ℕ) (h g : Sent) (v w : ℕ → Bool) → g.field ≡ h.field → h.acked ≡ false
    → n ≡ namings → at < length h.field → w at ≡ false → v at ≡ true
    → ((i : ℕ) → i < length h.field → w i ≡ true → v i ≡ true)
    → pdu_dues most g w n + 1 ≤ pdu_dues most h v namings
acked-less most namings n at h g v w field unacked same lt off on fewer =
    rw (field, unacked, same)
    (by g.acked (waiting_of_less (length h.field) at w v lt off on fewer))
  where
    by : (b : Bool) → waiting_of (length h.field) w + 1 ≤ waiting_of (length h.field) v
        → (if b then 0 else length h.field * (most - namings)) + waiting_of (length h.field) w + 1
        ≤ length h.field * (most - namings) + waiting_of (length h.field) v
    by true le = omega (arith, le)
    by false le = omega (arith, le)

both : (a b : Bool) → (a && b) ≡ true → a ≡ true
both true b e = refl
both false b e = let no' : false ≡ true = e in cc

-- an octet of it waits, and then doesn't: it owes less
stilled : (w : TxWindow) (below most : ℕ) (ns : List Nack) (m : Marks) (k i : ℕ) → k < length w.slots
    → i < length (slot_at w.slots k).field → m.waits (w.base + k) i ≡ true
    → heard_waits w below ns m.waits (w.base + k) i ≡ false
    → pdu_dues most (slot_at (heard_slots w below most ns) k) (heard_waits w below ns m.waits (w.base + k))
    (heard_namings w ns m (w.base + k)) + 1
    ≤ pdu_dues most (slot_at w.slots k) (m.waits (w.base + k)) (m.namings (w.base + k))
stilled w below most ns m k i lt i_in on off = by (slot_at w.slots k).acked (is_named w.base k ns) refl refl
  where
    h : Sent
    h = slot_at w.slots k

    Goal : Type 0
    Goal = pdu_dues most (slot_at (heard_slots w below most ns) k) (heard_waits w below ns m.waits (w.base + k))
        (heard_namings w ns m (w.base + k)) + 1
        ≤ pdu_dues most h (m.waits (w.base + k)) (m.namings (w.base + k))

    by : (a c : Bool) → h.acked ≡ a → is_named w.base k ns ≡ c → Goal
    by true c closed is =
        let same : heard_waits w below ns m.waits (w.base + k) i ≡ m.waits (w.base + k) i =
        waits-are w below ns m k i lt ∙ rw closed refl in
        let no' : false ≡ true = sym off ∙ same ∙ on in cc
    by false true unacked is =
        let same : heard_waits w below ns m.waits (w.base + k) i
        ≡ (m.waits (w.base + k) i || names w.base k ns (length h.field) i) =
        waits-are w below ns m k i lt ∙ rw (unacked, is) refl in
        let yes : (m.waits (w.base + k) i || names w.base k ns (length h.field) i) ≡ true = rw on refl in
        let no' : false ≡ true = sym off ∙ same ∙ yes in cc
    by false false unacked is =
        acked-less most (m.namings (w.base + k)) (heard_namings w ns m (w.base + k)) i h
        (slot_at (heard_slots w below most ns) k) (m.waits (w.base + k)) (heard_waits w below ns m.waits (w.base + k))
        (heard-field w below most ns k lt) unacked (namings-are w ns m k lt ∙ rw (unacked, is) refl) i_in off on
        (λ j j_in e. both (m.waits (w.base + k) j) (not (nat_lt k below))
        (sym (waits-are w below ns m k j lt ∙ rw (unacked, is) refl) ∙ e))

-- where an octet waits on, so does its PDU
waits-on : (w : TxWindow) (below most : ℕ) (ns : List Nack) (m : Marks) (k i : ℕ) → Holds w m most → k < length w.slots
    → i < length (slot_at w.slots k).field → heard_waits w below ns m.waits (w.base + k) i ≡ true
    → slot_waits (slot_at (heard_slots w below most ns) k) ≡ true
waits-on w below most ns m k i h lt i_in on = by (slot_waits (slot_at (heard_slots w below most ns) k)) refl
  where
    by : (b : Bool) → slot_waits (slot_at (heard_slots w below most ns) k) ≡ b → b ≡ true
    by true e = refl
    by false e =
        let none = rest-none (slot_at (heard_slots w below most ns) k) (heard_waits w below ns m.waits (w.base + k))
        (heard_namings w ns m (w.base + k)) most (heard-slot w below most ns m k lt (h.slots k lt)) e i
        (subst (λ (xs : List ℕ). i < length xs) (sym (heard-field w below most ns k lt)) i_in) in
        sym none ∙ on

heard-less : (s : State) (below : ℕ) (ns : List Nack) (m : Marks) (k i : ℕ) → Stands s m
    → AreFew (heard_namings s.window ns m) s.config.max_retx
    → k < length s.window.slots → i < length (slot_at s.window.slots k).field
    → m.waits (s.window.base + k) i ≡ true → waits (read s below ns) ≡ false
    → window_dues s.config.max_retx (read s below ns).window (heard_marks s.window below ns m) + 1
    ≤ window_dues s.config.max_retx s.window m
heard-less s below ns m k i h few lt i_in on still = by (heard_waits w below ns m.waits (w.base + k) i) refl
  where
    w : TxWindow
    w = s.window

    most : ℕ
    most = s.config.max_retx

    all : List Sent
    all = heard_slots w below most ns

    was : ℕ → ℕ
    was = due_before w below most ns m

    due : ℕ → ℕ
    due = due_behind w below most ns m

    left : ℕ → ℕ
    left = due_left w below most ns m

    fewer : (j : ℕ) → j < length w.slots → due j ≤ was j
    fewer j j_in = heard-due w below most ns m j j_in (h.slots j j_in).plain (few (w.base + j))

    many : leading_acked all + length (drop (leading_acked all) all) ≡ length w.slots
    many = omega (arith, heard-length w below most ns, leading-length all, length-drop (leading_acked all) all)

    whole : sum_below (leading_acked all + length (drop (leading_acked all) all)) due
        ≡ sum_below (length w.slots) due
    whole = ap (λ (n : ℕ). sum_below n due) many

    moved : sum_below (length (drop (leading_acked all) all)) left
        ≤ sum_below (length (drop (leading_acked all) all)) (λ j. due (leading_acked all + j))
    moved = sum_below_le (length (drop (leading_acked all) all)) left (λ j. due (leading_acked all + j))
        (λ j j_in. omega (arith, due_shifted w below most ns m j))

    -- it lies below VT(A) then
    is-below-base : heard_waits w below ns m.waits (w.base + k) i ≡ true → k < leading_acked all
    is-below-base e = elim (cases_lt k (leading_acked all)) [
      | inl less ↦ less
      | inr past ↦
          let at : leading_acked all + (k - leading_acked all) ≡ k = omega (arith, past) in
          absurd (never (read s below ns) (k - leading_acked all) (omega (arith, many, lt, past))
          (ap slot_waits (slot-drop all (leading_acked all) (k - leading_acked all)
          ∙ ap (λ (j : ℕ). slot_at all j) at) ∙ waits-on w below most ns m k i h lt i_in e) still)
    ]

    by : (b : Bool) → heard_waits w below ns m.waits (w.base + k) i ≡ b
        → sum_below (length (drop (leading_acked all) all)) left + 1 ≤ sum_below (length w.slots) was
    by false e =
        let one = sum_below_drop (length (drop (leading_acked all) all)) (leading_acked all) due in
        let two = sum_below_less (length w.slots) k due was lt (stilled w below most ns m k i lt i_in on e) fewer in
        omega (arith, moved, one, two, whole)
    by true e =
        let size : i < length (slot_at all k).field =
        subst (λ (xs : List ℕ). i < length xs) (sym (heard-field w below most ns k lt)) i_in in
        let some = some-waiting (length (slot_at all k).field) i (heard_waits w below ns m.waits (w.base + k)) size e in
        let one = drop-less (length (drop (leading_acked all) all)) (leading_acked all) k due (is-below-base e)
        (omega (arith, some)) in
        let two = sum_below_le (length w.slots) due was fewer in
        omega (arith, moved, one, two, whole)

-- ---- what a quiet sender is

pub record Waits (s : State) (more : Bool) : Type 0 where
  pub failed : s.failed ≡ false
  pub some : 0 < length s.window.slots
  pub still : waits s ≡ false
  pub rest : ((is_empty s && not more) || is_shut s) ≡ true

pub parts-of : (s : State) (more : Bool) → is_waiting s more ≡ true → Waits s more
parts-of s more e =
    let one = apart (not s.failed) (nat_lt 0 (length s.window.slots) && is_quiet s more) e in
    let two = apart (nat_lt 0 (length s.window.slots)) (is_quiet s more) one.1 in
    let three = apart (not (waits s)) ((is_empty s && not more) || is_shut s) two.1 in
    record {
      failed = off s.failed one.0;
      some = grind (arith, nat_tests, two.0);
      still = off (waits s) three.0;
      rest = three.1;
    }
  where
    apart : (a b : Bool) → (a && b) ≡ true → (a ≡ true) × (b ≡ true)
    apart true b e = (refl, e)
    apart false b e = let no' : false ≡ true = e in cc

    off : (b : Bool) → not b ≡ true → b ≡ false
    off true e = let no' : false ≡ true = e in cc
    off false e = refl

pub joined : (s : State) (more : Bool) → Waits s more → is_waiting s more ≡ true
joined s more w =
    let some : nat_lt 0 (length s.window.slots) ≡ true = grind (arith, nat_tests, w.some) in
    rw (w.failed, some, w.still, w.rest) refl

pub quiet-most : (s : State) (more : Bool) → quiet s more ≤ 1
quiet-most s more = by (is_waiting s more)
  where
    by : (b : Bool) → (if b then 1 else 0) ≤ 1
    by true = omega arith
    by false = omega arith

pub quiet-fewer : (s t : State) (more : Bool) → (is_waiting t more ≡ true → is_waiting s more ≡ true)
    → quiet t more ≤ quiet s more
quiet-fewer s t more h = by (is_waiting t more) refl
  where
    by : (b : Bool) → is_waiting t more ≡ b → (if b then 1 else 0) ≤ quiet s more
    by true e = rw (h e) (omega arith)
    by false e = omega arith

pub not-quiet : (s : State) (more : Bool) → (is_waiting s more ≡ true → ⊥) → quiet s more ≡ 0
not-quiet s more h = by (is_waiting s more) refl
  where
    counted : Bool → ℕ
    counted b = if b then 1 else 0

    by : (b : Bool) → is_waiting s more ≡ b → counted b ≡ 0
    by true e = absurd (h e)
    by false e = refl

-- ---- by calls

pub shut-only : (a b c : Bool) → a ≡ false → ((a && b) || c) ≡ true → c ≡ true
shut-only true b c e h = let no' : true ≡ false = e in cc
shut-only false b c e h = h

-- whatever PDCP has before and behind it
pub offer-quiet : (s : State) (sdu : List ℕ) (more before : Bool)
    → quiet (after s (Offer sdu)) more ≤ quiet s before
offer-quiet s sdu more before = by (is_waiting (after s (Offer sdu)) more) refl
  where
    filled : (length (s.queue.sdus ++ sdu ∷ []) == 0) ≡ false
    filled =
        let some : 0 < length (s.queue.sdus ++ sdu ∷ []) = omega (arith, length-append s.queue.sdus (sdu ∷ [])) in
        grind (arith, nat_tests, some)

    last : (a b : Bool) → b ≡ true → (a || b) ≡ true
    last true b e = refl
    last false b e = e

    by : (b : Bool) → is_waiting (after s (Offer sdu)) more ≡ b → (if b then 1 else 0) ≤ quiet s before
    by true e =
        let w = parts-of (after s (Offer sdu)) more e in
        let was = joined s before (record {
          failed = w.failed;
          some = w.some;
          still = w.still;
          rest = last (is_empty s && not before) (is_shut s)
              (shut-only (is_empty (after s (Offer sdu))) (not more) (is_shut s) filled w.rest);
        }) in
        rw was (omega arith)
    by false e = omega arith

take-quiet : (t : Turn) (s : State) (size : ℕ) (one more : Bool) (was is : ℕ) → is + sent_in t ≤ was
    → is + quiet (after_turn t s size one) more ≤ was + quiet s more
unfolding after_turn
take-quiet turns.Whole s size one more was is le =
    omega (arith, le, quiet-most (after_turn turns.Whole s size one) more)
take-quiet turns.Part s size one more was is le = omega (arith, le, quiet-most (after_turn turns.Part s size one) more)
take-quiet turns.New s size one more was is le = omega (arith, le, quiet-most (after_turn turns.New s size one) more)
take-quiet turns.Idle s size one more was is le = omega (arith, le)
take-quiet turns.Stopped s size one more was is le = omega (arith, le)
take-quiet turns.Small s size one more was is le = omega (arith, le)
take-quiet turns.Shut s size one more was is le = omega (arith, le)
take-quiet turns.Held s size one more was is le = omega (arith, le)

-- what a STATUS leaves of a sender that something of waited: less is due, where nothing waits
still-less : (s : State) (below : ℕ) (ns : List Nack) (m : Marks) → Stands s m → s.failed ≡ false
    → AreFew (heard_namings s.window ns m) s.config.max_retx → waits s ≡ true → waits (read s below ns) ≡ false
    → dues (read s below ns) (heard_marks s.window below ns m) + 1 ≤ dues s m
still-less s below ns m h go few on still =
    let part = resent-of turns.Part s 5 m h (λ e. absurd cc) (λ e. (on, omega arith)) in
    let less = heard-less s below ns m (first_place s) (next_stretch (again s) 5).from h few (is-below s on)
    (omega (arith, part.some, part.within))
    (part.waits (next_stretch (again s) 5).from (omega arith) part.some) still in
    omega (
      arith,
      going-due (read s below ns) (heard_marks s.window below ns m) go,
      going-due s m go,
      less,
    )

shut-before : (few now : ℕ) → few ≤ 512 → now ≤ few → (now == 512) ≡ true → (few == 512) ≡ true
shut-before few now a b e = grind (arith, nat_tests)

status-quiet : (b : Bool) (s : State) (status : StatusPdu) (more : Bool) (m : Marks) → Stands s m → Guarded s
    → ((if b then s else applied s (offset_of s.window.base status.ack) status.nacks).failed ≡ false
    → AreFew (if b then m else heard_marks s.window (offset_of s.window.base status.ack) status.nacks m).namings
    s.config.max_retx)
    → dues (if b then s else applied s (offset_of s.window.base status.ack) status.nacks)
    (if b then m else heard_marks s.window (offset_of s.window.base status.ack) status.nacks m) ≤ dues s m
    → dues (if b then s else applied s (offset_of s.window.base status.ack) status.nacks)
    (if b then m else heard_marks s.window (offset_of s.window.base status.ack) status.nacks m)
    + quiet (if b then s else applied s (offset_of s.window.base status.ack) status.nacks) more
    ≤ dues s m + quiet s more
status-quiet true s status more m h g few falls = omega (arith, falls)
status-quiet false s status more m h g few falls = by (is_waiting (applied s below status.nacks) more) refl
  where
    below : ℕ
    below = offset_of s.window.base status.ack

    heard : Marks
    heard = heard_marks s.window below status.nacks m

    r : State
    r = read s below status.nacks

    limit : Option ℕ
    limit = limit_of s below status.nacks

    stop : Bool
    stop = stops s below status.nacks

    fewer : length r.window.slots ≤ length s.window.slots
    fewer = omega (
      arith,
      heard-length s.window below s.config.max_retx status.nacks,
      length-drop (leading_acked (heard_slots s.window below s.config.max_retx status.nacks))
          (heard_slots s.window below s.config.max_retx status.nacks),
    )

    queue-same : (l : Option ℕ) (b : Bool) → is_empty (ended l b r) ≡ is_empty s
    queue-same (Some sn) b = refl
    queue-same None true = refl
    queue-same None false = refl

    window-same : (ended limit stop r).window ≡ r.window
    window-same = ended-window limit stop r

    shut-same : is_shut (ended limit stop r) ≡ true → is_shut s ≡ true
    shut-same e = shut-before (length s.window.slots) (length r.window.slots) g.fits.few fewer
        (sym (ap (λ (w : TxWindow). length w.slots == 512) window-same) ∙ e)

    more-of : (a b c d : Bool) → a ≡ c → (b ≡ true → d ≡ true) → ((a && not more) || b) ≡ true
        → ((c && not more) || d) ≡ true
    more-of a b c d e f h = or-of (c && not more) b d f (subst (λ (x : Bool). ((x && not more) || b) ≡ true) e h)
      where
        or-of : (x b d : Bool) → (b ≡ true → d ≡ true) → (x || b) ≡ true → (x || d) ≡ true
        or-of true b d f h = refl
        or-of false b d f h = f h

    by : (b : Bool) → is_waiting (ended limit stop r) more ≡ b
        → dues (ended limit stop r) heard + (if b then 1 else 0) ≤ dues s m + quiet s more
    by false e = omega (arith, falls)
    by true e = two (waits s) refl
      where
        w : Waits (ended limit stop r) more
        w = parts-of (ended limit stop r) more e

        two : (b : Bool) → waits s ≡ b → dues (ended limit stop r) heard + 1 ≤ dues s m + quiet s more
        two true on =
            let end = ended-due limit stop r heard w.failed in
            let less = still-less s below status.nacks m h end.1 (few w.failed) on
            (sym (waits-of r (ended limit stop r) window-same) ∙ w.still) in
            omega (arith, end.0, less)
        two false off =
            let end = ended-due limit stop r heard w.failed in
            let some : 0 < length r.window.slots =
            subst (λ (v : TxWindow). 0 < length v.slots) window-same w.some in
            let was : is_waiting s more ≡ true = joined s more (record {
              failed = end.1;
              some = omega (arith, some, fewer);
              still = off;
              rest = more-of (is_empty (ended limit stop r)) (is_shut (ended limit stop r)) (is_empty s) (is_shut s)
                  (queue-same limit stop) shut-same w.rest;
            }) in
            let one : quiet s more ≡ 1 = rw was refl in
            omega (arith, falls, one)

-- ---- an expiry

-- what is named anew waits
recalled-still : (s : State) (at : ℕ) → Guarded s → at < length s.window.slots
    → waits (with_recalled (Some at) (with_owed s)) ≡ false → ⊥
recalled-still s at g lt still =
    never (with_recalled (Some at) (with_owed s)) at
    (omega (arith, lt, length-set s.window.slots at (recalled s.config.max_retx (slot_at s.window.slots at))))
    (ap slot_waits
    (get_or-set_same s.window.slots at (recalled s.config.max_retx (slot_at s.window.slots at)) nothing lt)
    ∙ recalled-waits s.config.max_retx (slot_at s.window.slots at) (g.full.slots at lt)) still

named-quiet : (l : Option ℕ) (s : State) (at : ℕ) (more : Bool) → Guarded s → at < length s.window.slots
    → quiet (ended l false (with_recalled (Some at) (with_owed s))) more ≡ 0
named-quiet (Some sn) s at more g lt = refl
named-quiet None s at more g lt =
    not-quiet (with_recalled (Some at) (with_owed s)) more (λ e.
    recalled-still s at g lt (parts-of (with_recalled (Some at) (with_owed s)) more e).still)

abbrev after_recall : Option ℕ → State → State
after_recall o s =
    ended (limit_in s.failed s.window.base (spent_at o (with_recalled o (with_owed s)))) false
    (with_recalled o (with_owed s))

recall-quiet : (o : Option ℕ) (s : State) (more : Bool) → Guarded s → IfSome o (λ k. k < length s.window.slots)
    → quiet (after_recall o s) more ≤ quiet s more
recall-quiet None s more g lt = quiet-fewer s (with_owed s) more (λ e. e)
recall-quiet (Some at) s more g lt =
    let none = named-quiet
    (limit_in s.failed s.window.base (spent_at (Some at) (with_recalled (Some at) (with_owed s)))) s at more g lt in
    omega (arith, none)

expiry-quiet : (b : Bool) (s : State) (one more : Bool) → Guarded s
    → quiet (if b then ended (expiry_limit s one) false (expired s one) else s) more ≤ quiet s more
expiry-quiet false s one more g = omega arith
expiry-quiet true s one more g = recall-quiet (recalled_place s one) s more g (recalled-within s one)

recall-ends : (o : Option ℕ) (s : State) (more : Bool) → Guarded s → IfSome o (λ k. k < length s.window.slots)
    → recalled_place s more ≡ o → quiet (after_recall o s) more ≡ 0
recall-ends (Some at) s more g lt e =
    named-quiet (limit_in s.failed s.window.base (spent_at (Some at) (with_recalled (Some at) (with_owed s)))) s at
    more g lt
recall-ends None s more g lt e = not-quiet (with_owed s) more (λ q. still (parts-of (with_owed s) more q))
  where
    still : Waits (with_owed s) more → ⊥
    still w =
        let q : is_quiet s more ≡ true = rw (w.still, w.rest) refl in
        let some = open-some s.window.slots w.some (g.fits.front w.some) in
        let is : last_open 0 None s.window.slots ≡ None = sym (rw q refl) ∙ e in
        let no' : false ≡ true = sym (ap is_some is) ∙ some in cc

expiry-ends : (s : State) (more : Bool) → Guarded s → runs s.polls.timer ≡ true
    → quiet (after s (Expire more)) more ≡ 0
unfolding after_expiry
expiry-ends s more g e =
    rw e (recall-ends (recalled_place s more) s more g (recalled-within s more) refl)

settled-quiet : (b : Bool) (s : State) (more : Bool) → quiet (settled_by b s) more ≤ quiet s more
settled-quiet true s more = quiet-fewer s (settled_by true s) more (λ e. e)
settled-quiet false s more = omega arith

-- ---- any call

call-quiet : (s : State) (c : Call) (m : Marks) (more : Bool) → Knows s m → Guarded s
    → dues (after s c) (marks_after s c m) + sent_by s c ≤ dues s m + offered_by s c
    → dues (after s c) (marks_after s c m) + quiet (after s c) more ≤ dues s m + offered_by s c + quiet s more
unfolding after_status after_expiry
call-quiet s (Offer sdu) m more k g falls = omega (arith, falls, offer-quiet s sdu more more)
call-quiet s (Take size held one) m more k g falls =
    let all = take-quiet (turn s size held one) s size one more (dues s m)
    (dues (after_turn (turn s size held one) s size one) (marks_after s (Take size held one) m))
    (omega (arith, falls)) in
    omega (arith, all)
call-quiet s (Status status) m more k g falls =
    let all = status-quiet (is_ignored s status.ack) s status more m k.stands g few (omega (arith, falls)) in
    omega (arith, all)
  where
    config : (b : Bool)
        → (if b then s else applied s (offset_of s.window.base status.ack) status.nacks).config ≡ s.config
    config true = refl
    config false = ended-config (limit_of s (offset_of s.window.base status.ack) status.nacks)
        (stops s (offset_of s.window.base status.ack) status.nacks)
        (read s (offset_of s.window.base status.ack) status.nacks)

    few : (after s (Status status)).failed ≡ false
        → AreFew (marks_after s (Status status) m).namings s.config.max_retx
    few go = subst (λ (c : _). AreFew (marks_after s (Status status) m).namings c.max_retx)
        (config (is_ignored s status.ack)) (after-few s (Status status) m k go)
call-quiet s Tick m more k g falls = omega (arith, falls, quiet-fewer s (after s Tick) more (λ e. e))
call-quiet s (Expire one) m more k g falls = omega (arith, falls, expiry-quiet (runs s.polls.timer) s one more g)
call-quiet s (Settle one) m more k g falls = omega (arith, falls, settled-quiet (settles s one) s more)
call-quiet s Confirm m more k g falls = omega (arith, falls, quiet-fewer s (after s Confirm) more (λ e. e))

pub quiet_ends : QuietEnds
quiet_ends config calls more some = record {
  pays = λ call one. call-quiet w.state call w.past more knows all (dues_fall config calls call some one);
  ends = expiry-ends w.state more all;
}
  where
    w : World Marks
    w = run_am_sender marks_after calls (begun config unmarked)

    all : Guarded w.state
    all = guarded calls config unmarked some

    knows : Knows w.state w.past
    knows = run-knows calls (begun config unmarked) (record { stands = start-stands config; few = λ e n. omega arith })
