-- What a STATUS makes of each slot.
use Rattle.std.proofs.Common.{◌≡◌, ◌<◌, ◌≤◌, inl, inr, ℕ, suc, zero, ◌+◌, Bool, true, false, not, ◌||◌, ◌&&◌, ◌==◌}
use Rattle.std.proofs.Common.{if◌then◌else◌, List, [], ◌∷◌, length, drop, Option, Some, None, is_some, refl, ap, sym}
use Rattle.std.proofs.Common.{◌∙◌, arith, set, nat_lt, get_or-set_same, get_or-set_other}
use Rattle.std.proofs.lemmas.Grind.{common_steps}
use Rattle.std.proofs.lemmas.Bool.Decides.{nat_tests}
use Rattle.std.proofs.lemmas.Bool.{cases_eq}
use Rattle.std.proofs.Math.ListN.{length-set}
use Rattle.rlc_pdu.specs.declared.pdu.Nack.{Nack}
use Rattle.rlc_pdu.specs.declared.pdu.Part.{Part}
use Rattle.rlc_am_tx_window.specs.Sent.{Sent, with_name, considered, considered_by, acknowledged}
use Rattle.rlc_am_tx_window.specs.Window.{nothing, slot_at, offset_of, named_one, named_all, acked_from, considered_one}
use Rattle.rlc_am_tx_window.specs.Window.{considered_all, is_named, leading_acked}

-- the slot of an offset is set, if it is there
abbrev pub set_one : List Sent → ℕ → Sent → List Sent
set_one slots at x = if nat_lt at (length slots) then set slots at x else slots

pub set_one-length : (slots : List Sent) (at : ℕ) (x : Sent) → length (set_one slots at x) ≡ length slots
set_one-length slots at x = step (nat_lt at (length slots))
  where
    step : (b : Bool) → length (if b then set slots at x else slots) ≡ length slots
    step true = length-set slots at x
    step false = refl

is-less : (n m : ℕ) → n < m → nat_lt n m ≡ true
is-less n m h = grind (arith, nat_tests)

itself : (k : ℕ) → (k == k) ≡ true
itself k = grind (arith, nat_tests)

apart : (a b : ℕ) → (b ≡ a → ⊥) → (a == b) ≡ false
apart a b away = grind (arith, nat_tests)

pub set_one-at : (slots : List Sent) (at : ℕ) (x : Sent) (k : ℕ) → k < length slots
    → slot_at (set_one slots at x) k ≡ (if at == k then x else slot_at slots k)
set_one-at slots at x k h = elim (cases_eq k at) [
  | inl same ↦ rw (same, itself at, is-less at (length slots) (omega (arith, same, h)))
      (get_or-set_same slots at x nothing (omega (arith, same, h)))
  | inr other ↦ rw (apart at k other) (step (nat_lt at (length slots)) other)
]
  where
    step : (b : Bool) → (k ≡ at → ⊥) → slot_at (if b then set slots at x else slots) k ≡ slot_at slots k
    step true other = get_or-set_other slots at k x nothing other
    step false other = refl

-- what a fact says of the slot that is set, and of the others
pub set_one-keeps : {B : Type 0} (f : Sent → B) (slots : List Sent) (at : ℕ) (x : Sent) (k : ℕ) → k < length slots
    → f x ≡ f (slot_at slots at) → f (slot_at (set_one slots at x) k) ≡ f (slot_at slots k)
set_one-keeps f slots at x k h e = ap f (set_one-at slots at x k h) ∙ elim (cases_eq k at) [
  | inl same ↦ rw (same, itself at) e
  | inr other ↦ rw (apart at k other) refl
]

-- the marks of a slot that the laws look at: acknowledged, and named by a STATUS

pub same-acked : (h : Sent) (part : Option Part) → (with_name h part).acked ≡ h.acked
same-acked h part = grind (arith, common_steps)

pub named-now : (h : Sent) (part : Option Part) → is_some (with_name h part).named ≡ (is_some h.named || not h.acked)
named-now h part = grind (arith, common_steps)

pub named-length : (base : ℕ) (slots : List Sent) (ns : List Nack) → length (named_all base slots ns) ≡ length slots
named-length base slots [] = refl
named-length base slots (n ∷ ns) = named-length base (named_one base slots n) ns
    ∙ set_one-length slots (offset_of base n.sn) (with_name (slot_at slots (offset_of base n.sn)) n.part)

pub one-acked : (base : ℕ) (slots : List Sent) (n : Nack) (k : ℕ) → k < length slots
    → (slot_at (named_one base slots n) k).acked ≡ (slot_at slots k).acked
one-acked base slots n k h =
    set_one-keeps (λ (x : Sent). x.acked) slots (offset_of base n.sn)
    (with_name (slot_at slots (offset_of base n.sn)) n.part) k h
    (same-acked (slot_at slots (offset_of base n.sn)) n.part)

bool-own : (a b : Bool) → a ≡ (a || (false && b))
bool-own true b = refl
bool-own false b = refl

bool-mix : (a b c n : Bool) → ((a || (b && n)) || (c && n)) ≡ (a || ((if b then true else c) && n))
bool-mix true b c n = refl
bool-mix false true true true = refl
bool-mix false true true false = refl
bool-mix false true false true = refl
bool-mix false true false false = refl
bool-mix false false true true = refl
bool-mix false false true false = refl
bool-mix false false false true = refl
bool-mix false false false false = refl

pub one-named : (base : ℕ) (slots : List Sent) (n : Nack) (k : ℕ) → k < length slots
    → is_some (slot_at (named_one base slots n) k).named
    ≡ (is_some (slot_at slots k).named || ((offset_of base n.sn == k) && not (slot_at slots k).acked))
one-named base slots n k h =
    ap (λ (x : Sent). is_some x.named)
    (set_one-at slots (offset_of base n.sn) (with_name (slot_at slots (offset_of base n.sn)) n.part) k h)
    ∙ elim (cases_eq k (offset_of base n.sn)) [
      | inl same ↦ rw (sym same, itself k) (named-now (slot_at slots k) n.part)
      | inr other ↦ rw (apart (offset_of base n.sn) k other)
          (bool-own (is_some (slot_at slots k).named) (not (slot_at slots k).acked))
    ]

pub all-acked : (base : ℕ) (slots : List Sent) (ns : List Nack) (k : ℕ) → k < length slots
    → (slot_at (named_all base slots ns) k).acked ≡ (slot_at slots k).acked
all-acked base slots [] k h = refl
all-acked base slots (n ∷ ns) k h =
    all-acked base (named_one base slots n) ns k
    (omega (
      arith,
      set_one-length slots (offset_of base n.sn) (with_name (slot_at slots (offset_of base n.sn)) n.part),
    ))
    ∙ one-acked base slots n k h

pub all-named : (base : ℕ) (slots : List Sent) (ns : List Nack) (k : ℕ) → k < length slots
    → is_some (slot_at (named_all base slots ns) k).named
    ≡ (is_some (slot_at slots k).named || (is_named base k ns && not (slot_at slots k).acked))
all-named base slots [] k h = bool-own (is_some (slot_at slots k).named) (not (slot_at slots k).acked)
all-named base slots (n ∷ ns) k h =
    all-named base (named_one base slots n) ns k
    (omega (
      arith,
      set_one-length slots (offset_of base n.sn) (with_name (slot_at slots (offset_of base n.sn)) n.part),
    ))
    ∙ ap (λ (b : Bool). is_some (slot_at (named_one base slots n) k).named || (is_named base k ns && not b))
    (one-acked base slots n k h)
    ∙ ap (λ (b : Bool). b || (is_named base k ns && not (slot_at slots k).acked)) (one-named base slots n k h)
    ∙ bool-mix (is_some (slot_at slots k).named) (offset_of base n.sn == k) (is_named base k ns)
    (not (slot_at slots k).acked)

-- the numbers below ACK_SN

pub acked-length : (at below : ℕ) (slots : List Sent) → length (acked_from at below slots) ≡ length slots
acked-length at below [] = refl
acked-length at below (h ∷ hs) = ap suc (acked-length (at + 1) below hs)

abbrev pub acked_if : Bool → Sent → Sent
acked_if b h = if b then acknowledged h else h

pub acked-at : (at below : ℕ) (slots : List Sent) (k : ℕ) → k < length slots
    → slot_at (acked_from at below slots) k ≡ acked_if (nat_lt (at + k) below) (slot_at slots k)
acked-at at below [] k h = absurd (omega arith)
acked-at at below (x ∷ xs) zero h = ap (λ (n : ℕ). acked_if (nat_lt n below) x) (omega arith)
acked-at at below (x ∷ xs) (suc k) h =
    acked-at (at + 1) below xs k (omega arith) ∙ ap (λ (n : ℕ). acked_if (nat_lt n below) (slot_at xs k)) (omega arith)

pub one-closed : (b : Bool) (h : Sent) → (acked_if b h).acked ≡ (h.acked || (b && not (is_some h.named)))
one-closed true h = grind (arith, common_steps)
one-closed false h = grind (arith, common_steps)

pub one-kept : (b : Bool) (h : Sent) → (acked_if b h).named ≡ h.named
one-kept true h = grind (arith, common_steps)
one-kept false h = refl

-- the numbers that are considered

consider-acked : (o : Option Bool) (most : ℕ) (h : Sent) → (considered_by o most h).acked ≡ h.acked
consider-acked None most h = refl
consider-acked (Some new) most h = refl

consider-named : (o : Option Bool) (most : ℕ) (h : Sent) → h.named ≡ o → is_some (considered_by o most h).named ≡ false
consider-named None most h e = ap is_some e
consider-named (Some new) most h e = refl

pub considered-length : (base most : ℕ) (slots : List Sent) (ns : List Nack)
    → length (considered_all base most slots ns) ≡ length slots
considered-length base most slots [] = refl
considered-length base most slots (n ∷ ns) = considered-length base most (considered_one base most slots n) ns
    ∙ set_one-length slots (offset_of base n.sn) (considered most (slot_at slots (offset_of base n.sn)))

pub considered-acked : (base most : ℕ) (slots : List Sent) (ns : List Nack) (k : ℕ) → k < length slots
    → (slot_at (considered_all base most slots ns) k).acked ≡ (slot_at slots k).acked
considered-acked base most slots [] k h = refl
considered-acked base most slots (n ∷ ns) k h =
    considered-acked base most (considered_one base most slots n) ns k
    (omega (
      arith,
      set_one-length slots (offset_of base n.sn) (considered most (slot_at slots (offset_of base n.sn))),
    ))
    ∙ set_one-keeps (λ (x : Sent). x.acked) slots (offset_of base n.sn)
    (considered most (slot_at slots (offset_of base n.sn))) k h
    (consider-acked (slot_at slots (offset_of base n.sn)).named most (slot_at slots (offset_of base n.sn)))

bool-less : (a b c : Bool) → ((if b then false else a) && not c) ≡ (a && not (if b then true else c))
bool-less true true true = refl
bool-less true true false = refl
bool-less true false c = refl
bool-less false true true = refl
bool-less false true false = refl
bool-less false false c = refl

bool-all : (a : Bool) → a ≡ (a && not false)
bool-all true = refl
bool-all false = refl

pub considered-named : (base most : ℕ) (slots : List Sent) (ns : List Nack) (k : ℕ) → k < length slots
    → is_some (slot_at (considered_all base most slots ns) k).named
    ≡ (is_some (slot_at slots k).named && not (is_named base k ns))
considered-named base most slots [] k h = bool-all (is_some (slot_at slots k).named)
considered-named base most slots (n ∷ ns) k h =
    considered-named base most (considered_one base most slots n) ns k
    (omega (
      arith,
      set_one-length slots (offset_of base n.sn) (considered most (slot_at slots (offset_of base n.sn))),
    ))
    ∙ ap (λ (b : Bool). b && not (is_named base k ns)) (one n)
    ∙ bool-less (is_some (slot_at slots k).named) (offset_of base n.sn == k) (is_named base k ns)
  where
    one : (n : Nack) → is_some (slot_at (considered_one base most slots n) k).named
        ≡ (if offset_of base n.sn == k then false else is_some (slot_at slots k).named)
    one n =
        ap (λ (x : Sent). is_some x.named)
        (set_one-at slots (offset_of base n.sn) (considered most (slot_at slots (offset_of base n.sn))) k h)
        ∙ elim (cases_eq k (offset_of base n.sn)) [
          | inl same ↦ rw (sym same, itself k) (consider-named (slot_at slots k).named most (slot_at slots k) refl)
          | inr other ↦ rw (apart (offset_of base n.sn) k other) refl
        ]

-- the numbers that stand first are acknowledged, and the next one isn't
pub leading-acked : (slots : List Sent) (k : ℕ) → k < leading_acked slots → (slot_at slots k).acked ≡ true
leading-acked [] k h = absurd (omega arith)
leading-acked (x ∷ xs) zero h = grind arith
leading-acked (x ∷ xs) (suc k) h = leading-acked xs k (grind arith)

pub leading-stop : (slots : List Sent) → leading_acked slots < length slots
    → (slot_at slots (leading_acked slots)).acked ≡ false
leading-stop [] h = absurd (omega arith)
leading-stop (x ∷ xs) h = by x.acked refl (leading-stop xs)
  where
    by : (b : Bool) → x.acked ≡ b → (leading_acked xs < length xs → (slot_at xs (leading_acked xs)).acked ≡ false)
        → (slot_at (x ∷ xs) (leading_acked (x ∷ xs))).acked ≡ false
    by true e rest = let n : leading_acked (x ∷ xs) ≡ suc (leading_acked xs) = grind (arith, e) in
        rw n (rest (grind arith))
    by false e rest = let n : leading_acked (x ∷ xs) ≡ 0 = grind (arith, e) in rw n e

pub leading-length : (slots : List Sent) → leading_acked slots ≤ length slots
leading-length [] = omega arith
leading-length (h ∷ hs) = grind (arith, leading-length hs)

pub slot-drop : (slots : List Sent) (j k : ℕ) → slot_at (drop j slots) k ≡ slot_at slots (j + k)
slot-drop slots zero k = ap (slot_at slots) (omega arith)
slot-drop [] (suc j) k = grind (arith, common_steps)
slot-drop (x ∷ xs) (suc j) k = slot-drop xs j k ∙ let n : suc j + k ≡ suc (j + k) = omega arith in rw n refl
