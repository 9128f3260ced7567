-- A STATUS is heard: number by number, and VT(A) moves.
use Rattle.std.proofs.Common.{◌≡◌, ◌<◌, ◌≤◌, ℕ, ◌+◌, Bool, true, false, not, ◌||◌, ◌&&◌}
use Rattle.std.proofs.Common.{if◌then◌else◌, List, [], length, drop, Option, None, is_some, refl, ap, sym, subst, ◌∙◌}
use Rattle.std.proofs.Common.{arith, nat_lt, length-drop}
use Rattle.std.proofs.lemmas.Bool.{ltb-false}
use Rattle.std.proofs.lemmas.Bool.Decides.{nat_tests}
use Rattle.std.proofs.lemmas.List.{get_or-drop}
use Rattle.std.proofs.Math.Bool.{and-false, and-true, or_comm}
use Rattle.rlc_pdu.specs.declared.pdu.Nack.{Nack}
use Rattle.rlc_pdu.specs.Runs.{has}
use Rattle.rlc_am_tx_window.specs.Sent.{Sent}
use Rattle.rlc_am_tx_window.specs.Window.{TxWindow, slot_at, offset_of, is_named, named_all, advanced, leading_acked}
use Rattle.rlc_am_tx.specs.Machine.{is_ignored, after_status, applied, read, limit_of, stops}
use Rattle.journal_account.specs.declared.entry.StatusEntry.{StatusEntry}
use Rattle.journal_account.specs.Entries.{names_number}
use Rattle.journal_account.specs.FlowSending.{SentNumber, FlowSending, never_named, number_at, names_new}
use Rattle.journal_account.specs.FlowSending.{named_number, heard_as, heard_number, heard_all, acked_first}
use Rattle.journal_account.specs.FlowSending.{advanced_with, with_status}
use Rattle.journal_account.proofs.Naming.{woken_has, woken_ascends}
use Rattle.journal_account.proofs.Acking.{heard_at, heard_len}
use Rattle.law_rlc.specs.AmSender.Namings.{Marks, names, any_below, with_naming, heard_waits, heard_namings}
use Rattle.law_rlc.proofs.AmSender.Slots.{all-acked, all-named, slot-drop}
use Rattle.law_rlc.proofs.AmSender.Least.{heard_slots, heard-length, heard-acked, ended-window}
use Rattle.law_rlc.proofs.AmSender.Keys.{Key, heard-keys, same-keys}
use Rattle.law_rlc.proofs.AmSender.Heard.{IsSlot, heard-slot, open-is, back}
use Rattle.law_account.specs.Accounted.{IsAccounted, AreAccounted}
use Rattle.law_account.specs.Heard.{AreTied, StatusIsAccounted}
use Rattle.law_account.proofs.Numbers.{slot_of, accounted_of, acked_same}
use Rattle.law_account.proofs.Naming.{number_named, octet_named, octets_within, new_named}

-- the marks of one number
abbrev marks_of : SentNumber → Marks
marks_of n = record { waits = λ j. has n.waiting; namings = λ j. n.namings }

waits_read : (w : TxWindow) (below : ℕ) (ns : List Nack) (n : SentNumber) (k i : ℕ) → k < length w.slots
    → heard_waits w below ns (marks_of n).waits (w.base + k) i
    ≡ (if not (slot_at w.slots k).acked then (
    if is_named w.base k ns then has n.waiting i || names w.base k ns (length (slot_at w.slots k).field) i
    else has n.waiting i && not (nat_lt k below))
    else has n.waiting i)
waits_read w below ns n k i lt = rw (open-is w k lt, back w.base k) refl

namings_read : (w : TxWindow) (ns : List Nack) (n : SentNumber) (k : ℕ) → k < length w.slots
    → heard_namings w ns (marks_of n) (w.base + k)
    ≡ (if not (slot_at w.slots k).acked && is_named w.base k ns
    then with_naming n.namings (any_below (length (slot_at w.slots k).field)
    (λ i. names w.base k ns (length (slot_at w.slots k).field) i && not (has n.waiting i)))
    else n.namings)
namings_read w ns n k lt = rw (open-is w k lt, back w.base k) refl

-- whether it is acknowledged then
acked_read : (w : TxWindow) (below most : ℕ) (ns : List Nack) (k : ℕ) → k < length w.slots
    → (slot_at w.slots k).named ≡ None
    → (slot_at (heard_slots w below most ns) k).acked
    ≡ ((slot_at w.slots k).acked
    || (nat_lt k below && not (is_named w.base k ns && not (slot_at w.slots k).acked)))
acked_read w below most ns k lt plain =
    heard-acked w below most ns k lt
    ∙ (ap (λ (b : Bool). b || (nat_lt (0 + k) below && not (is_some (slot_at (named_all w.base w.slots ns) k).named)))
    (all-acked w.base w.slots ns k lt)
    ∙ (ap (λ (b : Bool). (slot_at w.slots k).acked || (nat_lt (0 + k) below && not b))
    (all-named w.base w.slots ns k lt)
    ∙ (ap (λ (o : Option Bool). (slot_at w.slots k).acked || (nat_lt (0 + k) below
    && not (is_some o || (is_named w.base k ns && not (slot_at w.slots k).acked)))) plain
    ∙ ap (λ (j : ℕ). (slot_at w.slots k).acked || (nat_lt j below
    && not (is_named w.base k ns && not (slot_at w.slots k).acked))) (omega arith))))

-- the field stays
field_read : (w : TxWindow) (below most : ℕ) (ns : List Nack) (k : ℕ)
    → (slot_at (heard_slots w below most ns) k).field ≡ (slot_at w.slots k).field
field_read w below most ns k =
    ap (λ (x : Key). x.field) (same-keys (heard_slots w below most ns) w.slots (heard-keys w below most ns) k)

pub number_heard : (w : TxWindow) (below most : ℕ) (ns : List Nack) (ms : List StatusEntry) (k : ℕ) (n : SentNumber)
    → k < length w.slots → AreTied w ns ms → IsAccounted most (slot_at w.slots k) n
    → IsAccounted most (slot_at (heard_slots w below most ns) k) (heard_number (w.base + below) ms (w.base + k) n)
number_heard w below most ns ms k n lt t a =
    subst (λ (x : Bool). IsAccounted most g (heard_as x (names_number ms (w.base + k))
    (nat_lt (w.base + k) (w.base + below)) ms (w.base + k) n)) a.acked
    (subst (λ (x : Bool). IsAccounted most g (heard_as h.acked x
    (nat_lt (w.base + k) (w.base + below)) ms (w.base + k) n)) (sym (number_named w ns ms k lt t))
    (subst (λ (x : Bool). IsAccounted most g (heard_as h.acked (is_named w.base k ns) x ms (w.base + k) n))
    (moved (w.base) k below) (by h.acked (is_named w.base k ns) (nat_lt k below) refl refl refl)))
  where
    h : Sent
    h = slot_at w.slots k

    g : Sent
    g = slot_at (heard_slots w below most ns) k

    moved : (b i j : ℕ) → nat_lt i j ≡ nat_lt (b + i) (b + j)
    moved b i j = grind (arith, nat_tests)

    size : length g.field ≡ n.size
    size = ap length (field_read w below most ns k) ∙ a.size

    slot : IsSlot g (heard_waits w below ns (marks_of n).waits (w.base + k))
        (heard_namings w ns (marks_of n) (w.base + k)) most
    slot = heard-slot w below most ns (marks_of n) k lt (slot_of most h n a)

    with_count : (c : ℕ) → heard_namings w ns (marks_of n) (w.base + k) ≡ c
        → IsSlot g (heard_waits w below ns (marks_of n).waits (w.base + k)) c most
    with_count c e =
        subst (λ (x : ℕ). IsSlot g (heard_waits w below ns (marks_of n).waits (w.base + k)) x most) e slot

    by : (x y z : Bool) → h.acked ≡ x → is_named w.base k ns ≡ y → nat_lt k below ≡ z
        → IsAccounted most g (heard_as x y z ms (w.base + k) n)
    by true y z ex ey ez =
        accounted_of most g n (heard_waits w below ns (marks_of n).waits (w.base + k))
        (with_count n.namings (namings_read w ns n k lt ∙ rw ex refl)) size
        (acked_read w below most ns k lt a.plain ∙ rw ex refl ∙ sym (sym a.acked ∙ ex)) a.ascends
        (λ i i_in. waits_read w below ns n k i lt ∙ rw ex refl) a.within
    by false true z ex ey ez =
        accounted_of most g (named_number ms (w.base + k) n)
        (heard_waits w below ns (marks_of n).waits (w.base + k))
        (with_count (with_naming n.namings (names_new ms (w.base + k) n))
        (namings_read w ns n k lt ∙ (rw (ex, ey, a.size) refl
        ∙ ap (with_naming n.namings) (sym (new_named w ns ms k most h n lt t a))))) size
        (acked_read w below most ns k lt a.plain ∙ rw (ex, ey) (and-false (nat_lt k below)) ∙ sym (sym a.acked ∙ ex))
        (woken_ascends (w.base + k) n.size n.waiting ms a.ascends)
        (λ i i_in. waits_read w below ns n k i lt ∙ (rw (ex, ey, a.size) refl
        ∙ (or_comm (has n.waiting i) (names w.base k ns n.size i)
        ∙ (ap (λ (b : Bool). b || has n.waiting i) (sym (octet_named w ns ms k n.size i lt t))
        ∙ sym (woken_has (w.base + k) n.size n.waiting ms i)))))
        (λ i le. woken_has (w.base + k) n.size n.waiting ms i
        ∙ (ap (λ (b : Bool). b || has n.waiting i) (octets_within ms n.size (w.base + k) i le) ∙ a.within i le))
    by false false true ex ey ez =
        accounted_of most g (record n { acked = true; waiting = [] })
        (heard_waits w below ns (marks_of n).waits (w.base + k))
        (with_count n.namings (namings_read w ns n k lt ∙ rw (ex, ey) refl)) size
        (acked_read w below most ns k lt a.plain ∙ rw (ex, ey, ez) refl) tt
        (λ i i_in. waits_read w below ns n k i lt ∙ rw (ex, ey, ez) (and-false (has n.waiting i))) (λ i le. refl)
    by false false false ex ey ez =
        accounted_of most g n (heard_waits w below ns (marks_of n).waits (w.base + k))
        (with_count n.namings (namings_read w ns n k lt ∙ rw (ex, ey) refl)) size
        (acked_read w below most ns k lt a.plain ∙ rw (ex, ey, ez) refl ∙ sym (sym a.acked ∙ ex)) a.ascends
        (λ i i_in. waits_read w below ns n k i lt ∙ rw (ex, ey, ez) (and-true (has n.waiting i))) a.within

-- ---- the window

numbers_heard : (w : TxWindow) (f : FlowSending) (below most : ℕ) (ns : List Nack) (ms : List StatusEntry)
    → AreTied w ns ms → AreAccounted most w f → (k : ℕ) → k < length w.slots
    → IsAccounted most (slot_at (heard_slots w below most ns) k)
    (number_at (heard_all (w.base + below) ms f.base f.numbers) k)
numbers_heard w f below most ns ms t a k lt =
    subst (λ (x : SentNumber). IsAccounted most (slot_at (heard_slots w below most ns) k) x)
    (sym (heard_at (w.base + below) ms f.base f.numbers k (omega (arith, lt, a.length_is))
    ∙ ap (λ (b : ℕ). heard_number (w.base + below) ms (b + k) (number_at f.numbers k)) (sym a.base)))
    (number_heard w below most ns ms k (number_at f.numbers k) lt t (a.numbers k lt))

-- both sides behind it: as many numbers, accounted one by one, of which as many stand first that are acknowledged
pub record ReadAlike (most : ℕ) (w : TxWindow) (xs : List Sent) (ys : List SentNumber) : Type 0 where
  pub long : length xs ≡ length w.slots
  pub same : length ys ≡ length xs
  pub each : (k : ℕ) → k < length xs → IsAccounted most (slot_at xs k) (number_at ys k)
  pub first : leading_acked xs ≡ acked_first ys

pub read_alike : (w : TxWindow) (f : FlowSending) (below most : ℕ) (ns : List Nack) (ms : List StatusEntry)
    → AreTied w ns ms → AreAccounted most w f
    → ReadAlike most w (heard_slots w below most ns) (heard_all (w.base + below) ms f.base f.numbers)
read_alike w f below most ns ms t a = record {
  long = long;
  same = same;
  each = each;
  first = acked_same xs ys (sym same) (λ k lt. (each k lt).acked);
}
  where
    xs : List Sent
    xs = heard_slots w below most ns

    ys : List SentNumber
    ys = heard_all (w.base + below) ms f.base f.numbers

    long : length xs ≡ length w.slots
    long = heard-length w below most ns

    same : length ys ≡ length xs
    same = heard_len (w.base + below) ms f.base f.numbers ∙ (sym a.length_is ∙ sym long)

    each : (k : ℕ) → k < length xs → IsAccounted most (slot_at xs k) (number_at ys k)
    each k lt = numbers_heard w f below most ns ms t a k (omega (arith, lt, long))

moves : (w : TxWindow) (f : FlowSending) (most : ℕ) (xs : List Sent) (ys : List SentNumber)
    → AreAccounted most w f → ReadAlike most w xs ys
    → AreAccounted most (advanced (record { base = w.base; slots = xs })) (advanced_with ys f)
moves w f most xs ys a r = record {
  base = let first = r.first in omega (arith, a.base, first);
  most_is = a.most_is;
  length_is =
      let first = r.first in
      length-drop (leading_acked xs) xs ∙ (omega (arith, first, r.same) ∙ sym (length-drop (acked_first ys) ys));
  numbers = λ k lt.
      let inside : leading_acked xs + k < length xs = omega (arith, lt, length-drop (leading_acked xs) xs) in
      subst (λ (x : Sent). IsAccounted most x (number_at (drop (acked_first ys) ys) k))
      (sym (slot-drop xs (leading_acked xs) k))
      (subst (λ (x : SentNumber). IsAccounted most (slot_at xs (leading_acked xs + k)) x)
      (ap (λ (j : ℕ). number_at ys (j + k)) r.first ∙ sym (get_or-drop (acked_first ys) ys k (never_named 0)))
      (r.each (leading_acked xs + k) inside));
}

pub status_accounted : StatusIsAccounted
unfolding after_status
status_accounted s f status ack entries i a =
    by (nat_lt ack s.window.base) refl (i.ignored)
  where
    most : ℕ
    most = s.config.max_retx

    by : (b : Bool) → nat_lt ack s.window.base ≡ b → is_ignored s status.ack ≡ nat_lt ack s.window.base
        → AreAccounted most (if is_ignored s status.ack then s
        else applied s (offset_of s.window.base status.ack) status.nacks).window (with_status ack entries f)
    by true e same = rw (same ∙ e, sym (ap (λ (b : ℕ). nat_lt ack b) a.base) ∙ e) a
    by false e same = rw (same ∙ e, sym (ap (λ (b : ℕ). nat_lt ack b) a.base) ∙ e)
        (subst (λ (v : TxWindow). AreAccounted most v (advanced_with (heard_all ack entries f.base f.numbers) f))
        (sym (ended-window (limit_of s below status.nacks) (stops s below status.nacks) (read s below status.nacks)))
        (subst (λ (j : ℕ). AreAccounted most (read s below status.nacks).window
        (advanced_with (heard_all j entries f.base f.numbers) f)) (i.ack_is high)
        (moves s.window f most (heard_slots s.window below most status.nacks)
        (heard_all (s.window.base + below) entries f.base f.numbers) a
        (read_alike s.window f below most status.nacks entries (i.tied high) a))))
      where
        below : ℕ
        below = offset_of s.window.base status.ack

        high : s.window.base ≤ ack
        high = ltb-false ack s.window.base e
