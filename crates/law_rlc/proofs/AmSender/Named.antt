-- What the entries of a STATUS make of one slot.
use Rattle.std.proofs.Common.{◌≡◌, ◌<◌, ◌≤◌, inl, inr, ℕ, suc, zero, ◌+◌, Bool, true, false, not, ◌||◌, ◌&&◌, ◌==◌}
use Rattle.std.proofs.Common.{if◌then◌else◌, List, [], ◌∷◌, length, Option, Some, None, min, refl, ap, sym, subst, ◌∙◌}
use Rattle.std.proofs.Common.{arith, nat_le, nat_lt}
use Rattle.std.proofs.lemmas.Bool.Decides.{nat_tests}
use Rattle.std.proofs.lemmas.Bool.{cases_eq}
use Rattle.rlc_pdu.specs.declared.pdu.Nack.{Nack}
use Rattle.rlc_pdu.specs.declared.pdu.Part.{Part}
use Rattle.rlc_pdu.specs.Runs.{has, AreAscending, gap_in}
use Rattle.rlc_am_tx_window.specs.Sent.{Sent, with_name, named_range, start_of, stop_of, is_new, is_all, woken}
use Rattle.rlc_am_tx_window.specs.Sent.{considered, considered_by, counted}
use Rattle.rlc_am_tx_window.specs.Window.{slot_at, offset_of, named_one, named_all, considered_one, considered_all}
use Rattle.rlc_am_tx_window.specs.Window.{is_named}
use Rattle.law_rlc.specs.AmSender.Namings.{in_part, names, any_below, with_naming, count_of}
use Rattle.law_rlc.proofs.AmSender.Places.{any-false, any-same, any-or, woken-has, woken-ascends, rests-some}
use Rattle.law_rlc.proofs.AmSender.Slots.{set_one-at, set_one-length}

-- the ranges of the entries of a number
abbrev pub parts_at : ℕ → ℕ → List Nack → List (Option Part)
parts_at base k [] = []
parts_at base k (n ∷ ns) = if offset_of base n.sn == k then n.part ∷ parts_at base k ns else parts_at base k ns

abbrev pub named_by : List (Option Part) → Sent → Sent
named_by [] h = h
named_by (p ∷ ps) h = named_by ps (with_name h p)

abbrev pub part_names : List (Option Part) → ℕ → ℕ → Bool
part_names [] size i = false
part_names (p ∷ ps) size i = in_part p size i || part_names ps size i

itself : (k : ℕ) → (k == k) ≡ true
itself k = grind (arith, nat_tests)

apart : (a b : ℕ) → (b ≡ a → ⊥) → (a == b) ≡ false
apart a b away = grind (arith, nat_tests)

pub names-parts : (base k : ℕ) (ns : List Nack) (size i : ℕ)
    → names base k ns size i ≡ part_names (parts_at base k ns) size i
names-parts base k [] size i = refl
names-parts base k (n ∷ ns) size i = step (offset_of base n.sn == k) (names-parts base k ns size i)
  where
    step : (b : Bool) → names base k ns size i ≡ part_names (parts_at base k ns) size i
        → ((if b then in_part n.part size i else false) || names base k ns size i)
        ≡ part_names (if b then n.part ∷ parts_at base k ns else parts_at base k ns) size i
    step true e = rw e refl
    step false e = e

abbrev pub some_parts : List (Option Part) → Bool
some_parts [] = false
some_parts (p ∷ ps) = true

pub named-parts : (base k : ℕ) (ns : List Nack) → is_named base k ns ≡ some_parts (parts_at base k ns)
named-parts base k [] = refl
named-parts base k (n ∷ ns) = step (offset_of base n.sn == k) (named-parts base k ns)
  where
    step : (b : Bool) → is_named base k ns ≡ some_parts (parts_at base k ns)
        → (if b then true else is_named base k ns)
        ≡ some_parts (if b then n.part ∷ parts_at base k ns else parts_at base k ns)
    step true e = refl
    step false e = e

-- the slot of a place, once all entries are read
pub named-at : (base : ℕ) (slots : List Sent) (ns : List Nack) (k : ℕ) → k < length slots
    → slot_at (named_all base slots ns) k ≡ named_by (parts_at base k ns) (slot_at slots k)
named-at base slots [] k h = refl
named-at base slots (n ∷ ns) k h =
    named-at base (named_one base slots n) ns k
    (omega (
      arith,
      set_one-length slots (offset_of base n.sn) (with_name (slot_at slots (offset_of base n.sn)) n.part),
    ))
    ∙ (ap (named_by (parts_at base k ns))
    (set_one-at slots (offset_of base n.sn) (with_name (slot_at slots (offset_of base n.sn)) n.part) k h)
    ∙ elim (cases_eq k (offset_of base n.sn)) [
      | inl same ↦ rw (sym same, itself k) refl
      | inr other ↦ rw (apart (offset_of base n.sn) k other) refl
    ])

pub considered-at : (base most : ℕ) (slots : List Sent) (ns : List Nack) (k : ℕ) → k < length slots
    → slot_at (considered_all base most slots ns) k
    ≡ (if is_named base k ns then considered most (slot_at slots k) else slot_at slots k)
considered-at base most slots [] k h = refl
considered-at base most slots (n ∷ ns) k h =
    considered-at base most (considered_one base most slots n) ns k
    (omega (
      arith,
      set_one-length slots (offset_of base n.sn) (considered most (slot_at slots (offset_of base n.sn))),
    ))
    ∙ (ap (λ (x : Sent). if is_named base k ns then considered most x else x)
    (set_one-at slots (offset_of base n.sn) (considered most (slot_at slots (offset_of base n.sn))) k h)
    ∙ elim (cases_eq k (offset_of base n.sn)) [
      | inl same ↦ rw (sym same, itself k) (twice (is_named base k ns) (slot_at slots k))
      | inr other ↦ rw (apart (offset_of base n.sn) k other) refl
    ])
  where
    again : (o : Option Bool) (h : Sent) → h.named ≡ o
        → considered_by (considered_by o most h).named most (considered_by o most h) ≡ considered_by o most h
    again None h e = rw e refl
    again (Some new) h e = refl

    twice : (b : Bool) (h : Sent) → (if b then considered most (considered most h) else considered most h)
        ≡ considered most h
    twice true h = again h.named h refl
    twice false h = refl

-- an acknowledged PDU isn't named
pub named-acked : (ps : List (Option Part)) (h : Sent) → h.acked ≡ true → named_by ps h ≡ h
named-acked [] h e = refl
named-acked (p ∷ ps) h e = ap (named_by ps) (one (h.acked) e) ∙ named-acked ps h e
  where
    one : (b : Bool) → b ≡ true → (if b then h else named_range h (start_of p) (stop_of p (length h.field))) ≡ h
    one b e = rw e refl

-- what a range makes of a PDU that isn't acknowledged
pub record IsNamed (h g : Sent) (f : ℕ → Bool) : Type 0 where
  pub field : g.field ≡ h.field
  pub acked : g.acked ≡ h.acked
  pub lens : g.lens ≡ h.lens
  pub count : g.retransmissions ≡ h.retransmissions
  pub ascends : (0 < length h.field → AreAscending 0 h.resting) → 0 < length h.field → AreAscending 0 g.resting
  pub rests : (i : ℕ) → i < length h.field → has g.resting i ≡ (has h.resting i && not (f i))
  pub new : (0 < length h.field → AreAscending 0 h.resting)
      → is_new g.named ≡ (is_new h.named || any_below (length h.field) (λ i. f i && has h.resting i))

stop-within : (p : Option Part) (size : ℕ) → stop_of p size ≤ size
stop-within None size = omega arith
stop-within (Some p) size = omega arith

bool-off : (a b : Bool) → b ≡ false → a ≡ (a || b)
bool-off true b e = refl
bool-off false b e = sym e

bool-keep : (a b : Bool) → b ≡ false → a ≡ (a && not b)
bool-keep true b e = rw e refl
bool-keep false b e = refl

bool-drop : (a b : Bool) → a ≡ false → (a && b) ≡ false
bool-drop a b e = rw e refl

outside : (from to i : ℕ) → to ≤ from → (nat_le from i && nat_lt i to) ≡ false
outside from to i h = grind (arith, nat_tests)

range-named : (h : Sent) (from to : ℕ) → to ≤ length h.field
    → IsNamed h (named_range h from to) (λ i. nat_le from i && nat_lt i to)
range-named h from to le = step (nat_lt from to) (is-less from to) (is-more from to)
  where
    is-less : (n m : ℕ) → nat_lt n m ≡ true → n < m
    is-less n m e = grind (arith, nat_tests)

    is-more : (n m : ℕ) → nat_lt n m ≡ false → m ≤ n
    is-more n m e = grind (arith, nat_tests)

    step : (b : Bool) → (b ≡ true → from < to) → (b ≡ false → to ≤ from)
        → IsNamed h
        (if b then record h {
          named = Some (is_new h.named || not (is_all (gap_in h.resting from to) from to));
          resting = woken (length h.field) h.resting from to;
        } else record h { named = Some (is_new h.named) })
        (λ i. nat_le from i && nat_lt i to)
    step true lt ge = record {
      field = refl;
      acked = refl;
      lens = refl;
      count = refl;
      ascends = λ asc some. woken-ascends (length h.field) h.resting from to (lt refl) (asc some);
      rests = λ i i_in. woken-has (length h.field) h.resting from to i (lt refl) i_in;
      new =
          λ asc. ap (λ (b : Bool). is_new h.named || b)
          (rests-some (length h.field) h.resting from to (asc (let l = lt refl in omega arith)) (lt refl) le);
    }
    step false lt ge = record {
      field = refl;
      acked = refl;
      lens = refl;
      count = refl;
      ascends = λ asc some. asc some;
      rests = λ i i_in. bool-keep (has h.resting i) (nat_le from i && nat_lt i to) (outside from to i (ge refl));
      new =
          λ asc. bool-off (is_new h.named)
          (any_below (length h.field) (λ i. (nat_le from i && nat_lt i to) && has h.resting i))
          (any-false (length h.field) (λ i. (nat_le from i && nat_lt i to) && has h.resting i)
          (λ i i_in. bool-drop (nat_le from i && nat_lt i to) (has h.resting i) (outside from to i (ge refl))));
    }

one-named : (h : Sent) (p : Option Part) → h.acked ≡ false → IsNamed h (with_name h p) (in_part p (length h.field))
one-named h p e = step h.acked e
  where
    step : (b : Bool) → b ≡ false
        → IsNamed h (if b then h else named_range h (start_of p) (stop_of p (length h.field)))
        (in_part p (length h.field))
    step b e = rw e (range-named h (start_of p) (stop_of p (length h.field)) (stop-within p (length h.field)))

-- what all ranges make of it

bool-more : (a r n x : Bool) → (((a && not r)) && not n) ≡ (a && not (r || n))
bool-more true true n x = refl
bool-more true false n x = refl
bool-more false r n x = refl

bool-split : (r n x : Bool) → ((r && x) || (n && (x && not r))) ≡ ((r || n) && x)
bool-split true true true = refl
bool-split true true false = refl
bool-split true false true = refl
bool-split true false false = refl
bool-split false true true = refl
bool-split false true false = refl
bool-split false false x = refl

bool-assoc : (a b c : Bool) → ((a || b) || c) ≡ (a || (b || c))
bool-assoc true b c = refl
bool-assoc false b c = refl

bool-none : (a : Bool) → a ≡ (a && not false)
bool-none true = refl
bool-none false = refl

any-none : (size : ℕ) (f : ℕ → Bool) → any_below size (λ i. false && f i) ≡ false
any-none size f = any-false size (λ i. false && f i) (λ i h. refl)

pub all-named-by : (ps : List (Option Part)) (h : Sent) → h.acked ≡ false
    → IsNamed h (named_by ps h) (part_names ps (length h.field))
all-named-by [] h e = record {
  field = refl;
  acked = refl;
  lens = refl;
  count = refl;
  ascends = λ asc some. asc some;
  rests = λ i i_in. bool-none (has h.resting i);
  new = λ asc. bool-off (is_new h.named) (any_below (length h.field) (λ i. false && has h.resting i))
      (any-none (length h.field) (has h.resting));
}
all-named-by (p ∷ ps) h e =
    both (with_name h p) (one-named h p e) (all-named-by ps (with_name h p) ((one-named h p e).acked ∙ e))
  where
    both : (g : Sent) → IsNamed h g (in_part p (length h.field))
        → IsNamed g (named_by ps g) (part_names ps (length g.field))
        → IsNamed h (named_by ps g) (part_names (p ∷ ps) (length h.field))
    both g one rest = record {
      field = rest.field ∙ one.field;
      acked = rest.acked ∙ one.acked;
      lens = rest.lens ∙ one.lens;
      count = rest.count ∙ one.count;
      ascends = λ asc some. rest.ascends (λ s. one.ascends asc some) (rw one.field some);
      rests = λ i i_in.
          rest.rests i (rw one.field i_in)
          ∙ (ap (λ (xs : List ℕ). has g.resting i && not (part_names ps (length xs) i)) one.field
          ∙ (ap (λ (b : Bool). b && not (part_names ps (length h.field) i)) (one.rests i i_in)
          ∙ bool-more (has h.resting i) (in_part p (length h.field) i) (part_names ps (length h.field) i) true));
      new = λ asc.
          rest.new (λ some. one.ascends asc (subst (λ (xs : List ℕ). 0 < length xs) one.field some))
          ∙ (ap (λ (xs : List ℕ). is_new g.named
          || any_below (length xs) (λ i. part_names ps (length xs) i && has g.resting i)) one.field
          ∙ (ap (λ (b : Bool). b || any_below (length h.field)
          (λ i. part_names ps (length h.field) i && has g.resting i)) (one.new asc)
          ∙ (bool-assoc (is_new h.named)
          (any_below (length h.field) (λ i. in_part p (length h.field) i && has h.resting i))
          (any_below (length h.field) (λ i. part_names ps (length h.field) i && has g.resting i))
          ∙ ap (λ (b : Bool). is_new h.named || b)
          (any-or (length h.field) (λ i. in_part p (length h.field) i && has h.resting i)
          (λ i. part_names ps (length h.field) i && has g.resting i)
          ∙ any-same (length h.field) (λ i. (in_part p (length h.field) i && has h.resting i)
          || (part_names ps (length h.field) i && has g.resting i))
          (λ i. (in_part p (length h.field) i || part_names ps (length h.field) i) && has h.resting i)
          (λ i i_in. ap (λ (b : Bool). (in_part p (length h.field) i && has h.resting i)
          || (part_names ps (length h.field) i && b)) (one.rests i i_in)
          ∙ bool-split (in_part p (length h.field) i) (part_names ps (length h.field) i) (has h.resting i))))));
    }

-- it is named then
one-some : (h : Sent) (p : Option Part) → h.acked ≡ false → (with_name h p).named ≡ Some (is_new (with_name h p).named)
one-some h p e = by h.acked e
  where
    range : (b : Bool) (from to : ℕ)
        → (if b then record h {
          named = Some (is_new h.named || not (is_all (gap_in h.resting from to) from to));
          resting = woken (length h.field) h.resting from to;
        } else record h { named = Some (is_new h.named) }).named
        ≡ Some
        (is_new
        (if b then record h {
          named = Some (is_new h.named || not (is_all (gap_in h.resting from to) from to));
          resting = woken (length h.field) h.resting from to;
        } else record h { named = Some (is_new h.named) }).named)
    range true from to = refl
    range false from to = refl

    by : (b : Bool) → b ≡ false → (if b then h else named_range h (start_of p) (stop_of p (length h.field))).named
        ≡ Some (is_new (if b then h else named_range h (start_of p) (stop_of p (length h.field))).named)
    by b e = rw e (range (nat_lt (start_of p) (stop_of p (length h.field))) (start_of p) (stop_of p (length h.field)))

more-some : (ps : List (Option Part)) (h : Sent) → h.acked ≡ false → h.named ≡ Some (is_new h.named)
    → (named_by ps h).named ≡ Some (is_new (named_by ps h).named)
more-some [] h a e = e
more-some (p ∷ ps) h a e = more-some ps (with_name h p) ((one-named h p a).acked ∙ a) (one-some h p a)

pub named-some : (p : Option Part) (ps : List (Option Part)) (h : Sent) → h.acked ≡ false
    → (named_by (p ∷ ps) h).named ≡ Some (is_new (named_by (p ∷ ps) h).named)
named-some p ps h a = more-some ps (with_name h p) ((one-named h p a).acked ∙ a) (one-some h p a)

-- RETX_COUNT by the namings that counted

some-count : (k most : ℕ) → count_of (suc k) most ≡ Some (min k most)
some-count k most = let e : (suc k == 0) ≡ false = grind (arith, nat_tests) in
    rw e (ap (λ (x : ℕ). Some x) (omega arith))

naming-more : (k : ℕ) (new : Bool) → with_naming (suc k) new ≡ (if new then suc (suc k) else suc k)
naming-more k new = let e : (suc k == 0) ≡ false = grind (arith, nat_tests) in rw e (by new)
  where
    by : (new : Bool) → (if false || new then suc k + 1 else suc k) ≡ (if new then suc (suc k) else suc k)
    by true = omega arith
    by false = refl

pub counted-is : (n most : ℕ) (new : Bool) → counted (count_of n most) most new ≡ count_of (with_naming n new) most
counted-is zero most new = first ∙ sym (some-count 0 most)
  where
    first : Some 0 ≡ Some (min 0 most)
    first = ap (λ (k : ℕ). Some k) (omega arith)
counted-is (suc k) most new = ap (λ (c : Option ℕ). counted c most new) (some-count k most)
    ∙ (step new (nat_lt (min k most) most) (is-less (min k most) most) (is-more (min k most) most)
    ∙ ap (λ (m : ℕ). count_of m most) (sym (naming-more k new)))
  where
    is-less : (n m : ℕ) → nat_lt n m ≡ true → n < m
    is-less n m e = grind (arith, nat_tests)

    is-more : (n m : ℕ) → nat_lt n m ≡ false → m ≤ n
    is-more n m e = grind (arith, nat_tests)

    step : (new b : Bool) → (b ≡ true → min k most < most) → (b ≡ false → most ≤ min k most)
        → (if new && b then Some (min k most + 1) else Some (min k most))
        ≡ count_of (if new then suc (suc k) else suc k) most
    step true true t f = let l = t refl in ap (λ (x : ℕ). Some x) (omega arith) ∙ sym (some-count (suc k) most)
    step true false t f = let l = f refl in ap (λ (x : ℕ). Some x) (omega arith) ∙ sym (some-count (suc k) most)
    step false b t f = sym (some-count k most)
