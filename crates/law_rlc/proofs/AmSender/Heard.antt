-- The octets that wait and the namings that counted, as a STATUS is heard.
use Rattle.std.proofs.Common.{◌≡◌, ◌<◌, ◌≤◌, ℕ, ◌+◌, ◌-◌, Bool, true, false, not, ◌||◌, ◌&&◌}
use Rattle.std.proofs.Common.{if◌then◌else◌, List, [], ◌∷◌, length, drop, Option, Some, None, is_some, refl}
use Rattle.std.proofs.Common.{ap, sym, subst, ◌∙◌, arith, nat_le, nat_lt, length-drop}
use Rattle.std.proofs.lemmas.Grind.{common_steps}
use Rattle.std.proofs.lemmas.Bool.Decides.{nat_tests}
use Rattle.std.specs.List.{sum}
use Rattle.rlc_pdu.specs.declared.pdu.Nack.{Nack}
use Rattle.rlc_pdu.specs.Runs.{has, run_between, AreAscending}
use Rattle.rlc_am_tx_window.specs.Sent.{Sent, is_new, considered, considered_by, gets_acked}
use Rattle.rlc_am_tx_window.specs.Sent.{counted}
use Rattle.rlc_am_tx_window.specs.Window.{TxWindow, next, slot_at, named_all, acked_from, is_named}
use Rattle.rlc_am_tx_window.specs.Window.{leading_acked, advanced}
use Rattle.law_rlc.specs.AmSender.Namings.{Marks, names, any_below, with_naming, is_open, heard_waits}
use Rattle.law_rlc.specs.AmSender.Namings.{heard_namings, heard_marks}
use Rattle.law_rlc.specs.AmSender.Namings.{count_of}
use Rattle.law_rlc.proofs.AmSender.Places.{any-same}
use Rattle.law_rlc.proofs.AmSender.Named.{parts_at, named_by, part_names, names-parts, some_parts, named-parts}
use Rattle.law_rlc.proofs.AmSender.Named.{named-at, considered-at, named-acked, IsNamed, all-named-by, named-some}
use Rattle.law_rlc.proofs.AmSender.Named.{counted-is}
use Rattle.law_rlc.proofs.AmSender.Slots.{named-length, acked-length, acked-at, acked_if, leading-length, slot-drop}
use Rattle.law_rlc.proofs.AmSender.Least.{heard_slots, heard-length}

-- a slot against the marks of its number
pub record IsSlot (h : Sent) (waits : ℕ → Bool) (namings most : ℕ) : Type 0 where
  pub ascends : 0 < length h.field → AreAscending 0 h.resting
  pub rests : (i : ℕ) → i < length h.field → has h.resting i ≡ not (waits i)
  pub count : h.retransmissions ≡ count_of namings most
  pub plain : h.named ≡ None
  pub whole : sum h.lens ≡ length h.field

-- and the window
pub record Holds (w : TxWindow) (m : Marks) (most : ℕ) : Type 0 where
  pub slots : (k : ℕ) → k < length w.slots
      → IsSlot (slot_at w.slots k) (m.waits (w.base + k)) (m.namings (w.base + k)) most
  pub above : (n : ℕ) → next w ≤ n → (m.namings n ≡ 0) × ((i : ℕ) → m.waits n i ≡ false)

pub has-all : (size i : ℕ) → i < size → has (run_between 0 size ∷ []) i ≡ true
has-all size i h = grind (arith, nat_tests)

-- marks that agree on a number's octets and namings
pub same-slot : (h : Sent) (f g : ℕ → Bool) (a b most : ℕ) → ((i : ℕ) → i < length h.field → g i ≡ f i) → b ≡ a
    → IsSlot h f a most → IsSlot h g b most
same-slot h f g a b most e n s = record {
  ascends = s.ascends;
  rests = λ i lt. s.rests i lt ∙ ap not (sym (e i lt));
  count = s.count ∙ ap (λ (x : ℕ). count_of x most) (sym n);
  plain = s.plain;
  whole = s.whole;
}

-- ---- a STATUS

pub not-false : (b : Bool) → true ≡ not (b && not true)
not-false true = refl
not-false false = refl

bool-off : (b : Bool) → b ≡ (b && not false)
bool-off true = refl
bool-off false = refl

bool-de : (w n : Bool) → (not w && not n) ≡ not (w || n)
bool-de true n = refl
bool-de false n = refl

open-slot : (ps : List _) (b : Bool) (h : Sent) (f : ℕ → Bool) (n most : ℕ) → h.acked ≡ false → IsSlot h f n most
    → IsSlot (if some_parts ps then considered most (acked_if b (named_by ps h)) else acked_if b (named_by ps h))
    (λ i. if some_parts ps then f i || part_names ps (length h.field) i else f i && not b)
    (if some_parts ps
    then with_naming n (any_below (length h.field) (λ i. part_names ps (length h.field) i && not (f i))) else n)
    most
open-slot [] true h f n most e s =
    rw (let g : gets_acked h ≡ true = grind (arith, common_steps, e, s.plain) in g) (record {
      ascends = λ some. (omega arith, some, tt);
      rests = λ i lt. has-all (length h.field) i lt ∙ not-false (f i);
      count = s.count;
      plain = s.plain;
      whole = s.whole;
    })
open-slot [] false h f n most e s = same-slot h f (λ i. f i && not false) n n most (λ i lt. sym (bool-off (f i))) refl s
open-slot (p ∷ ps) b h f n most e s = both (named_by (p ∷ ps) h) (all-named-by (p ∷ ps) h e) (named-some p ps h e)
  where
    news : (g : Sent) → IsNamed h g (part_names (p ∷ ps) (length h.field))
        → is_new g.named ≡ any_below (length h.field) (λ i. part_names (p ∷ ps) (length h.field) i && not (f i))
    news g w = w.new s.ascends
        ∙ (ap (λ (o : Option Bool). is_new o
        || any_below (length h.field) (λ i. part_names (p ∷ ps) (length h.field) i && has h.resting i)) s.plain
        ∙ any-same (length h.field) (λ i. part_names (p ∷ ps) (length h.field) i && has h.resting i)
        (λ i. part_names (p ∷ ps) (length h.field) i && not (f i))
        (λ i lt. ap (λ (x : Bool). part_names (p ∷ ps) (length h.field) i && x) (s.rests i lt)))

    kept : (g : Sent) (o : Option Bool) → g.named ≡ o → is_some o ≡ true → (b : Bool) → acked_if b g ≡ g
    kept g o e t false = refl
    kept g o e t true = let no' : gets_acked g ≡ false = grind (arith, common_steps, e, t) in rw no' refl

    ends : (g : Sent) (o : Bool) → IsNamed h g (part_names (p ∷ ps) (length h.field))
        → o ≡ any_below (length h.field) (λ i. part_names (p ∷ ps) (length h.field) i && not (f i))
        → IsSlot (considered_by (Some o) most g) (λ i. f i || part_names (p ∷ ps) (length h.field) i)
        (with_naming n (any_below (length h.field) (λ i. part_names (p ∷ ps) (length h.field) i && not (f i)))) most
    ends g o w new = record {
      ascends = λ some. w.ascends s.ascends (subst (λ (xs : List ℕ). 0 < length xs) w.field some);
      rests = λ i lt. let l : i < length h.field = subst (λ (xs : List ℕ). i < length xs) w.field lt in
          w.rests i l ∙ (ap (λ (x : Bool). x && not (part_names (p ∷ ps) (length h.field) i)) (s.rests i l)
          ∙ bool-de (f i) (part_names (p ∷ ps) (length h.field) i));
      count = ap (λ (c : Option ℕ). counted c most o) (w.count ∙ s.count)
          ∙ (counted-is n most o ∙ ap (λ (x : Bool). count_of (with_naming n x) most) new);
      plain = refl;
      whole = ap sum w.lens ∙ (s.whole ∙ ap length (sym w.field));
    }

    both : (g : Sent) → IsNamed h g (part_names (p ∷ ps) (length h.field)) → g.named ≡ Some (is_new g.named)
        → IsSlot (considered most (acked_if b g)) (λ i. f i || part_names (p ∷ ps) (length h.field) i)
        (with_naming n (any_below (length h.field) (λ i. part_names (p ∷ ps) (length h.field) i && not (f i)))) most
    both g w e = rw (kept g (Some (is_new g.named)) e refl b) (rw e (ends g (is_new g.named) w (news g w)))

closed-slot : (ps : List _) (b : Bool) (h : Sent) (f : ℕ → Bool) (n most : ℕ) → h.acked ≡ true → IsSlot h f n most
    → IsSlot (if some_parts ps then considered most (acked_if b (named_by ps h)) else acked_if b (named_by ps h)) f n
    most
closed-slot ps b h f n most e s = rw (named-acked ps h e, kept b) (same (some_parts ps))
  where
    kept : (b : Bool) → acked_if b h ≡ h
    kept false = refl
    kept true = let no' : gets_acked h ≡ false = grind (arith, common_steps, e) in rw no' refl

    same : (c : Bool) → IsSlot (if c then considered most h else h) f n most
    same true = subst (λ (x : Sent). IsSlot x f n most) (sym (idle h.named s.plain)) s
      where
        idle : (o : Option Bool) → o ≡ None → considered_by o most h ≡ h
        idle None e = refl
        idle (Some new) e = let no' : Some new ≡ None = e in cc
    same false = s

abbrev pub final : TxWindow → ℕ → ℕ → List Nack → ℕ → Sent
final w below most ns k =
    if some_parts (parts_at w.base k ns)
    then considered most (acked_if (nat_lt k below) (named_by (parts_at w.base k ns) (slot_at w.slots k)))
    else acked_if (nat_lt k below) (named_by (parts_at w.base k ns) (slot_at w.slots k))

pub final-slot : (w : TxWindow) (below most : ℕ) (ns : List Nack) (k : ℕ) → k < length w.slots
    → slot_at (heard_slots w below most ns) k ≡ final w below most ns k
final-slot w below most ns k lt =
    let a = named-length w.base w.slots ns in let b = acked-length 0 below (named_all w.base w.slots ns) in
    considered-at w.base most (acked_from 0 below (named_all w.base w.slots ns)) ns k (omega arith)
    ∙ (ap (λ (x : Sent). if is_named w.base k ns then considered most x else x)
    (acked-at 0 below (named_all w.base w.slots ns) k (omega arith)
    ∙ (ap (λ (j : ℕ). acked_if (nat_lt j below) (slot_at (named_all w.base w.slots ns) k)) (omega arith)
    ∙ ap (acked_if (nat_lt k below)) (named-at w.base w.slots ns k lt)))
    ∙ ap (λ (c : Bool). if c
    then considered most (acked_if (nat_lt k below) (named_by (parts_at w.base k ns) (slot_at w.slots k)))
    else acked_if (nat_lt k below) (named_by (parts_at w.base k ns) (slot_at w.slots k))) (named-parts w.base k ns))

pub back : (b k : ℕ) → b + k - b ≡ k
back b k = omega arith

pub open-is : (w : TxWindow) (k : ℕ) → k < length w.slots → is_open w (w.base + k) ≡ not (slot_at w.slots k).acked
open-is w k lt =
    let low : nat_le w.base (w.base + k) ≡ true = grind (arith, nat_tests) in
    let high : nat_lt (w.base + k) (next w) ≡ true = grind (arith, nat_tests) in
    rw (low, high, back w.base k) refl

pub not-open : (w : TxWindow) (n : ℕ) → next w ≤ n → is_open w n ≡ false
not-open w n le = let high : nat_lt n (next w) ≡ false = grind (arith, nat_tests) in rw high (off (nat_le w.base n))
  where
    off : (a : Bool) → (a && false) ≡ false
    off true = refl
    off false = refl

pub waits-at : (w : TxWindow) (below : ℕ) (ns : List Nack) (m : Marks) (k i : ℕ) → k < length w.slots
    → heard_waits w below ns m.waits (w.base + k) i
    ≡ (if not (slot_at w.slots k).acked then (
    if some_parts (parts_at w.base k ns) then m.waits (w.base + k) i
    || part_names (parts_at w.base k ns) (length (slot_at w.slots k).field) i
    else m.waits (w.base + k) i && not (nat_lt k below))
    else m.waits (w.base + k) i)
waits-at w below ns m k i lt =
    rw (
      open-is w k lt,
      back w.base k,
      named-parts w.base k ns,
      names-parts w.base k ns (length (slot_at w.slots k).field) i,
    ) refl

namings-at : (w : TxWindow) (ns : List Nack) (m : Marks) (k : ℕ) → k < length w.slots
    → heard_namings w ns m (w.base + k)
    ≡ (if not (slot_at w.slots k).acked && some_parts (parts_at w.base k ns)
    then with_naming (m.namings (w.base + k))
    (any_below (length (slot_at w.slots k).field)
    (λ i. part_names (parts_at w.base k ns) (length (slot_at w.slots k).field) i && not (m.waits (w.base + k) i)))
    else m.namings (w.base + k))
namings-at w ns m k lt =
    rw (open-is w k lt, back w.base k, named-parts w.base k ns)
    (ap (λ (c : Bool). if not (slot_at w.slots k).acked && some_parts (parts_at w.base k ns)
    then with_naming (m.namings (w.base + k)) c else m.namings (w.base + k))
    (any-same (length (slot_at w.slots k).field) (λ i. names w.base k ns (length (slot_at w.slots k).field) i
    && not (m.waits (w.base + k) i)) (λ i. part_names (parts_at w.base k ns) (length (slot_at w.slots k).field) i
    && not (m.waits (w.base + k) i))
    (λ i i_in. ap (λ (b : Bool). b && not (m.waits (w.base + k) i))
    (names-parts w.base k ns (length (slot_at w.slots k).field) i))))

pub heard-slot : (w : TxWindow) (below most : ℕ) (ns : List Nack) (m : Marks) (k : ℕ) → k < length w.slots
    → IsSlot (slot_at w.slots k) (m.waits (w.base + k)) (m.namings (w.base + k)) most
    → IsSlot (slot_at (heard_slots w below most ns) k) (heard_waits w below ns m.waits (w.base + k))
    (heard_namings w ns m (w.base + k)) most
heard-slot w below most ns m k lt s =
    subst (λ (x : Sent). IsSlot x (heard_waits w below ns m.waits (w.base + k)) (heard_namings w ns m (w.base + k))
    most) (sym (final-slot w below most ns k lt)) (by (slot_at w.slots k).acked refl)
  where
    by : (a : Bool) → (slot_at w.slots k).acked ≡ a
        → IsSlot (final w below most ns k) (heard_waits w below ns m.waits (w.base + k))
        (heard_namings w ns m (w.base + k)) most
    by true e = same-slot (final w below most ns k) (m.waits (w.base + k))
        (heard_waits w below ns m.waits (w.base + k)) (m.namings (w.base + k)) (heard_namings w ns m (w.base + k))
        most
        (λ i i_in. waits-at w below ns m k i lt ∙ rw e refl) (namings-at w ns m k lt ∙ rw e refl)
        (closed-slot (parts_at w.base k ns) (nat_lt k below) (slot_at w.slots k) (m.waits (w.base + k))
        (m.namings (w.base + k)) most e s)
    by false e = same-slot (final w below most ns k)
        (λ i. if some_parts (parts_at w.base k ns) then m.waits (w.base + k) i
        || part_names (parts_at w.base k ns) (length (slot_at w.slots k).field) i else m.waits (w.base + k) i
        && not (nat_lt k below))
        (heard_waits w below ns m.waits (w.base + k))
        (if some_parts (parts_at w.base k ns)
        then with_naming (m.namings (w.base + k))
        (any_below (length (slot_at w.slots k).field)
        (λ i. part_names (parts_at w.base k ns) (length (slot_at w.slots k).field) i
        && not (m.waits (w.base + k) i))) else m.namings (w.base + k))
        (heard_namings w ns m (w.base + k)) most
        (λ i i_in. waits-at w below ns m k i lt ∙ rw e refl) (namings-at w ns m k lt ∙ rw e refl)
        (open-slot (parts_at w.base k ns) (nat_lt k below) (slot_at w.slots k) (m.waits (w.base + k))
        (m.namings (w.base + k)) most e s)

pub heard-holds : (w : TxWindow) (below most : ℕ) (ns : List Nack) (m : Marks) → Holds w m most
    → Holds (advanced (record { base = w.base; slots = heard_slots w below most ns })) (heard_marks w below ns m) most
heard-holds w below most ns m h = record {
  slots = λ k lt.
      let e : w.base + leading_acked all + k ≡ w.base + (leading_acked all + k) = omega arith in
      subst (λ (x : Sent). IsSlot x (heard_waits w below ns m.waits (w.base + leading_acked all + k))
      (heard_namings w ns m (w.base + leading_acked all + k)) most) (sym (slot-drop all (leading_acked all) k))
      (subst (λ (j : ℕ). IsSlot (slot_at all (leading_acked all + k)) (heard_waits w below ns m.waits j)
      (heard_namings w ns m j) most) (sym e)
      (heard-slot w below most ns m (leading_acked all + k) (omega (arith, len, len-drop))
      (h.slots (leading_acked all + k) (omega (arith, len, len-drop)))));
  above = λ n le.
      let past : next w ≤ n = omega (arith, len, len-drop, lead) in
      let none = h.above n past in
      (rw (not-open w n past) none.0, λ i. rw (not-open w n past) (none.1 i));
}
  where
    all : List Sent
    all = heard_slots w below most ns

    len : length all ≡ length w.slots
    len = heard-length w below most ns

    len-drop : length (drop (leading_acked all) all) ≡ length all - leading_acked all
    len-drop = length-drop (leading_acked all) all

    lead : leading_acked all ≤ length all
    lead = leading-length all
