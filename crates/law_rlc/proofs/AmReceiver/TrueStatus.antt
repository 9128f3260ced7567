-- The STATUS that is written is true.
use Rattle.std.proofs.Common.{◌≡◌, ◌<◌, ◌≤◌, ◌⊎◌, inl, inr, ℕ, suc, ◌+◌, ◌-◌, ◌==◌, Bool, true, false, ◌||◌, List, []}
use Rattle.std.proofs.Common.{◌∷◌, ◌++◌, length, drop, map, Option, Some, None, slice_get, refl, ap, sym, subst, ◌∙◌}
use Rattle.std.proofs.Common.{arith, ltb, leb, if◌then◌else◌}
use Rattle.std.proofs.lemmas.Bool.{cases_lt, cases_eq, lt-ltb, le-ltb, leb-true, leb-false, eq-eqb, ne_eqb}
use Rattle.l2_types.specs.declared.AmRxConfig.{AmRxConfig}
use Rattle.rlc_pdu.specs.declared.Part.{Part}
use Rattle.rlc_am_rx_window.specs.declared.Missing.{Missing}
use Rattle.rlc_am_rx_window.specs.Cells.{Cell}
use Rattle.rlc_am_rx_window.specs.Held.{Held, is_complete, is_full, has_end, ends_at}
use Rattle.rlc_am_rx_window.specs.Window.{top, slot_at}
use Rattle.rlc_am_rx_window.specs.Missing.{runs, whole, of_part, missing_of, missing_below, entry_bits, entries_bits}
use Rattle.rlc_am_rx.specs.Status.{fitting, room_in, last_number, next_number, number_of, ack_behind, ack}
use Rattle.law_rlc.specs.AmReceiver.Run.{Call, World, Came, happens, run_am_receiver, begin, place_has_come, told}
use Rattle.law_rlc.specs.AmReceiver.Run.{IsComplete}
use Rattle.law_rlc.specs.AmReceiver.Bound.{Marked, goes, go, marked_outset}
use Rattle.law_rlc.specs.AmReceiver.Status.{BringSome, AreGaps, IsSaid, Complete, Nothing, Ranges, AreSaid, has_entry}
use Rattle.law_rlc.specs.AmReceiver.Status.{IsTrueStatus}
use Rattle.law_rlc.proofs.AmReceiver.Places.{there, each-holds}
use Rattle.law_rlc.proofs.AmReceiver.Least.{Matches, complete-by, full-by}
use Rattle.law_rlc.proofs.AmReceiver.Bound.{Bounded, go-bounded, outset-bounded, full-complete, complete-full}
use Rattle.law_rlc.proofs.AmReceiver.Gaps.{Ends, runs_are_gaps, no_runs, no_runs_full}
use Rattle.law_rlc.proofs.AmReceiver.Well.{SlotWell, Well, call-well, nothing-well}

-- ---- what is said of a number

ends_as_told : (o : Option ℕ) (have : ℕ) → ((n : ℕ) → o ≡ Some n → n ≡ have) → Ends (ends_at o have) o have
ends_as_told None have sized = refl
ends_as_told (Some n) have sized = let e : n ≡ have = sized n refl in rw (eq-eqb n have e) (ap (λ (k : ℕ). Some k) e)

gaps_of : (ps : List Came) (n : ℕ) (h : Held) → Matches ps n h → SlotWell h
    → AreGaps (place_has_come ps n) (told ps n) 0 (runs h.cells 0 None (has_end h))
gaps_of ps n h m w =
    let z : 0 + length h.cells ≡ length h.cells = omega arith in
    subst (λ (o : Option ℕ). AreGaps (place_has_come ps n) o 0 (runs h.cells 0 None (has_end h))) m.size
    (runs_are_gaps (place_has_come ps n) h.size h.cells 0 None 0 (has_end h) (λ j. let e : 0 + j ≡ j = omega arith in
    rw e (sym (m.cells j))) (rw z (ends_as_told h.size (length h.cells) w.sized)) (
      omega arith,
      λ i a l. absurd (omega (arith, a, l)),
    ))

said : (ps : List Came) (n : ℕ) (h : Held) → Matches ps n h → SlotWell h → IsSaid ps n (missing_of n h)
said ps n h m w = go (is_complete h) refl h.cells refl
  where
    open_number : is_complete h ≡ false → IsComplete ps n → ⊥
    open_number part done = let full : is_complete h ≡ true = full-by ps n h.cells h.size m.size m.cells done in
        let no : true ≡ false = sym full ∙ part in cc

    go : (b : Bool) → is_complete h ≡ b → (cells : List (Option Cell)) → h.cells ≡ cells
        → IsSaid ps n (if b then [] else if length cells == 0 then whole n ∷ []
        else map (of_part n) (runs h.cells 0 None (has_end h)))
    go true full cells e = Complete (complete-by ps n h.cells h.size m.size m.cells full) refl
    go false part [] e =
        Nothing (open_number part) (λ i. sym (m.cells i) ∙ ap (λ (cs : List (Option Cell)). there cs i) e) refl
    go false part (c ∷ cs) e =
        let some : place_has_come ps n (length cs) ≡ true = sym (m.cells (length cs))
        ∙ w.last (length cs) (ap (λ (xs : List (Option Cell)). length xs) e) in
        let many : (suc (length cs) == 0) ≡ false = ne_eqb (suc (length cs)) 0 (λ e. omega (arith, e)) in
        rw many (Ranges (open_number part) (length cs) some (runs h.cells 0 None (has_end h)) refl (gaps_of ps n h m w))

all_said : (ps : List Came) (slots : List Held) (front bound : ℕ)
    → ((k : ℕ) → Matches ps (front + k) (slot_at slots k)) → Well slots → bound ≤ front + length slots
    → AreSaid ps front (bound - front) (missing_below slots front bound)
all_said ps [] front bound m w top = let e : bound - front ≡ 0 = omega (arith, top) in rw e refl
all_said ps (h ∷ hs) front bound m w top = elim (cases_lt front bound) [
  | inl below ↦
      let count : bound - front ≡ suc (bound - (front + 1)) = omega (arith, below) in
      rw (count, lt-ltb front bound below) (
        missing_of front h,
        missing_below hs (front + 1) bound,
        refl,
        said ps front h (subst (λ (n : ℕ). Matches ps n h) (omega arith) (m 0)) (w 0),
        all_said ps hs (front + 1) bound
            (λ k. subst (λ (n : ℕ). Matches ps n (slot_at hs k)) (omega arith) (m (suc k))) (λ k. w (suc k))
            (omega (arith, top)),
      )
  | inr past ↦ let e : bound - front ≡ 0 = omega (arith, past) in rw (e, le-ltb front bound past) refl
]

-- ---- entries by their numbers

abbrev pub AreSorted : ℕ → List Missing → Type 0
AreSorted low [] = Unit {0}
AreSorted low (m ∷ ms) = (low ≤ m.number) × AreSorted m.number ms

abbrev pub AllAre : ℕ → List Missing → Type 0
AllAre n [] = Unit {0}
AllAre n (m ∷ ms) = (m.number ≡ n) × AllAre n ms

pub has_append : (xs ys : List Missing) (n : ℕ) → has_entry (xs ++ ys) n ≡ (has_entry xs n || has_entry ys n)
has_append [] ys n = refl
has_append (x ∷ xs) ys n = ap (λ (b : Bool). (x.number == n) || b) (has_append xs ys n)
    ∙ sym (or_assoc (x.number == n) (has_entry xs n) (has_entry ys n))
  where
    or_assoc : (a b c : Bool) → ((a || b) || c) ≡ (a || (b || c))
    or_assoc true b c = refl
    or_assoc false b c = refl

sorted_lower : (low high : ℕ) (ms : List Missing) → low ≤ high → AreSorted high ms → AreSorted low ms
sorted_lower low high [] le s = tt
sorted_lower low high (m ∷ ms) le s = (omega (arith, le, s.0), s.1)

none_below : (low n : ℕ) (ms : List Missing) → AreSorted low ms → n < low → has_entry ms n ≡ false
none_below low n [] s h = refl
none_below low n (m ∷ ms) s h =
    rw (ne_eqb m.number n (λ e. omega (arith, e, s.0, h)), none_below m.number n ms s.1 (omega (arith, s.0, h))) refl

sorted_append : (low n : ℕ) (xs ys : List Missing) → low ≤ n → AllAre n xs → AreSorted n ys → AreSorted low (xs ++ ys)
sorted_append low n [] ys le a s = sorted_lower low n ys le s
sorted_append low n (x ∷ xs) ys le a s =
    (omega (arith, le, a.0), sorted_append x.number n xs ys (omega (arith, a.0)) a.1 s)

parts_are : (n : ℕ) (ps : List Part) → AllAre n (map (of_part n) ps)
parts_are n [] = tt
parts_are n (p ∷ ps) = (refl, parts_are n ps)

said_are : (n : ℕ) (h : Held) → AllAre n (missing_of n h)
said_are n h = go (is_complete h) (length h.cells == 0)
  where
    go : (a b : Bool)
        → AllAre n (if a then [] else if b then whole n ∷ [] else map (of_part n) (runs h.cells 0 None (has_end h)))
    go true b = tt
    go false true = (refl, tt)
    go false false = parts_are n (runs h.cells 0 None (has_end h))

missing_sorted : (slots : List Held) (front bound : ℕ) → AreSorted front (missing_below slots front bound)
missing_sorted [] front bound = tt
missing_sorted (h ∷ hs) front bound = go (ltb front bound) (missing_sorted hs (front + 1) bound)
  where
    go : (b : Bool) → AreSorted (front + 1) (missing_below hs (front + 1) bound)
        → AreSorted front (if b then missing_of front h ++ missing_below hs (front + 1) bound else [])
    go true rest =
        sorted_append front front (missing_of front h) (missing_below hs (front + 1) bound) (omega arith)
        (said_are front h) (sorted_lower front (front + 1) (missing_below hs (front + 1) bound) (omega arith) rest)
    go false rest = tt

all_are : (n k : ℕ) (ms : List Missing) → AllAre n ms → has_entry ms k ≡ true → k ≡ n
all_are n k [] a h = cc
all_are n k (m ∷ ms) a h = go (m.number == k) refl (λ g. all_are n k ms a.1 g) h
  where
    go : (b : Bool) → (m.number == k) ≡ b → (has_entry ms k ≡ true → k ≡ n) → (b || has_entry ms k) ≡ true → k ≡ n
    go true e rest h =
        elim (cases_eq m.number k) [
          | inl same ↦ omega (arith, same, a.0)
          | inr other ↦ let wrong : (m.number == k)
              ≡ false = ne_eqb m.number k other in let none : true ≡ false = sym e ∙ wrong in cc
        ]
    go false e rest h = rest h

-- a number with an entry isn't complete
pub entry_in : (slots : List Held) (front bound n : ℕ) → has_entry (missing_below slots front bound) n ≡ true
    → (front ≤ n) × (n < bound) × (is_complete (slot_at slots (n - front)) ≡ false)
entry_in [] front bound n h = cc
entry_in (s ∷ ss) front bound n h = elim (cases_lt front bound) [
  | inr past ↦ let none : has_entry (missing_below (s ∷ ss) front bound) n ≡ false =
      rw (le-ltb front bound past) refl in let wrong : true ≡ false = sym h ∙ none in cc
  | inl below ↦
      let parts : has_entry (missing_below (s ∷ ss) front bound) n
      ≡ (has_entry (missing_of front s) n || has_entry (missing_below ss (front + 1) bound) n) =
      rw (lt-ltb front bound below) (has_append (missing_of front s) (missing_below ss (front + 1) bound) n) in
      go (has_entry (missing_of front s) n) refl below (λ g. entry_in ss (front + 1) bound n g) (sym parts ∙ h)
]
  where
    part_of : (a b : Bool) → a ≡ is_complete s
        → has_entry (if a then [] else if b then whole front ∷ []
        else map (of_part front) (runs s.cells 0 None (has_end s))) n ≡ true → is_complete s ≡ false
    part_of true b e h = cc
    part_of false b e h = sym e

    go : (a : Bool) → has_entry (missing_of front s) n ≡ a → front < bound
        → (has_entry (missing_below ss (front + 1) bound) n ≡ true
        → (front + 1 ≤ n) × (n < bound) × (is_complete (slot_at ss (n - (front + 1))) ≡ false))
        → (a || has_entry (missing_below ss (front + 1) bound) n) ≡ true
        → (front ≤ n) × (n < bound) × (is_complete (slot_at (s ∷ ss) (n - front)) ≡ false)
    go true e below rest h =
        let same : n ≡ front = all_are front n (missing_of front s) (said_are front s) e in
        let zero_is : n - front ≡ 0 = omega (arith, same) in (
          omega (arith, same),
          omega (arith, same, below),
          rw zero_is (part_of (is_complete s) (length s.cells == 0) refl e),
        )
    go false e below rest h =
        let r = rest h in
        let next : n - front ≡ suc (n - (front + 1)) = omega (arith, r.0) in
        (omega (arith, r.0), r.1, rw next r.2)

-- a number that isn't complete has one
own_entry : (n : ℕ) (h : Held) → SlotWell h → is_complete h ≡ false → has_entry (missing_of n h) n ≡ true
own_entry n h w part = go (is_complete h) part (length h.cells == 0)
  where
    is_n : (n == n) ≡ true
    is_n = eq-eqb n n refl

    full : (o : Option ℕ) → ((k : ℕ) → o ≡ Some k → k ≡ length h.cells) → ends_at o (length h.cells) ≡ true
        → ((i : ℕ) → i < length h.cells → there h.cells i ≡ true) → is_full h.cells o ≡ true
    full None sized e all = cc
    full (Some k) sized e all = each-holds h.cells k (λ i below. all i (omega (arith, below, sized k refl)))

    parts : (ps : List Part) → runs h.cells 0 None (has_end h) ≡ ps → has_entry (map (of_part n) ps) n ≡ true
    parts [] e =
        let done : is_complete h ≡ true =
        full h.size w.sized (no_runs h.cells 0 None (has_end h) e) (no_runs_full h.cells 0 (has_end h) e) in
        let wrong : true ≡ false = sym done ∙ part in cc
    parts (p ∷ ps) e = rw is_n refl

    go : (a : Bool) → a ≡ false → (b : Bool)
        → has_entry (if a then [] else if b then whole n ∷ [] else map (of_part n) (runs h.cells 0 None (has_end h)))
        n ≡ true
    go true e b = cc
    go false e true = rw is_n refl
    go false e false = parts (runs h.cells 0 None (has_end h)) refl

pub or_true : (a : Bool) → (a || true) ≡ true
or_true true = refl
or_true false = refl

entry_of : (slots : List Held) (front bound n : ℕ) → Well slots → front ≤ n → n < bound → n < front + length slots
    → is_complete (slot_at slots (n - front)) ≡ false → has_entry (missing_below slots front bound) n ≡ true
entry_of [] front bound n w from below within part = absurd (omega (arith, from, within))
entry_of (s ∷ ss) front bound n w from below within part =
    rw (
      lt-ltb front bound (omega (arith, from, below)),
      has_append (missing_of front s) (missing_below ss (front + 1) bound) n,
    )
    (elim (cases_eq n front) [
      | inl same ↦
          let zero_is : n - front ≡ 0 = omega (arith, same) in
          let own : has_entry (missing_of front s) front ≡ true =
          own_entry front s (w 0) (ap (λ (k : ℕ). is_complete (slot_at (s ∷ ss) k)) (sym zero_is) ∙ part) in
          rw (same, own) refl
      | inr other ↦
          let next : n - front ≡ suc (n - (front + 1)) = omega (arith, from, other) in
          let later : has_entry (missing_below ss (front + 1) bound) n ≡ true =
          entry_of ss (front + 1) bound n (λ k. w (suc k)) (omega (arith, from, other)) below
          (omega (arith, within)) (ap (λ (k : ℕ). is_complete (slot_at (s ∷ ss) k)) (sym next) ∙ part) in
          rw later (or_true (has_entry (missing_of front s) n))
    ])

-- ---- the entries that fit

fits_prefix : (room : ℕ) (ms : List Missing) → ms ≡ fitting room ms ++ drop (length (fitting room ms)) ms
fits_prefix room [] = refl
fits_prefix room (m ∷ ms) = go (leb (entry_bits m) room) (fits_prefix (room - entry_bits m) ms)
  where
    go : (b : Bool) → ms ≡ fitting (room - entry_bits m) ms ++ drop (length (fitting (room - entry_bits m) ms)) ms
        → m ∷ ms ≡ (if b then m ∷ fitting (room - entry_bits m) ms else [])
        ++ drop (length (if b then m ∷ fitting (room - entry_bits m) ms else [])) (m ∷ ms)
    go true rest = ap (λ (xs : List Missing). m ∷ xs) rest
    go false rest = refl

fits_in : (room : ℕ) (ms : List Missing) → entries_bits (fitting room ms) ≤ room
fits_in room [] = omega arith
fits_in room (m ∷ ms) = go (leb (entry_bits m) room) refl (fits_in (room - entry_bits m) ms)
  where
    go : (b : Bool) → leb (entry_bits m) room ≡ b
        → entries_bits (fitting (room - entry_bits m) ms) ≤ room - entry_bits m
        → entries_bits (if b then m ∷ fitting (room - entry_bits m) ms else []) ≤ room
    go true e rest = omega (arith, leb-true (entry_bits m) room e, rest)
    go false e rest = omega arith

fits_most : (room : ℕ) (ms : List Missing) (n : Missing) (ns : List Missing)
    → drop (length (fitting room ms)) ms ≡ n ∷ ns → room < entries_bits (fitting room ms) + entry_bits n
fits_most room [] n ns e = cc
fits_most room (m ∷ ms) n ns e = go (leb (entry_bits m) room) refl (λ f. fits_most (room - entry_bits m) ms n ns f) e
  where
    go : (b : Bool) → leb (entry_bits m) room ≡ b
        → (drop (length (fitting (room - entry_bits m) ms)) ms ≡ n ∷ ns
        → room - entry_bits m < entries_bits (fitting (room - entry_bits m) ms) + entry_bits n)
        → drop (length (if b then m ∷ fitting (room - entry_bits m) ms else [])) (m ∷ ms) ≡ n ∷ ns
        → room < entries_bits (if b then m ∷ fitting (room - entry_bits m) ms else []) + entry_bits n
    go true le rest e = omega (arith, leb-true (entry_bits m) room le, rest e)
    go false le rest e = let same : m ≡ n = cc in
        omega (arith, leb-false (entry_bits m) room le, ap (λ (k : Missing). entry_bits k) same)

-- ---- the ACK

pub record IsNext (ys : List Missing) (low bound a : ℕ) : Type 0 where
  pub above : low ≤ a
  pub only : (n : ℕ) → has_entry ys n ≡ true → n < a → n < low
  pub found : (a ≡ bound) ⊎ (has_entry ys a ≡ true)

abbrev Within : List Missing → ℕ → Type 0
Within ys bound = (n : ℕ) → has_entry ys n ≡ true → n < bound

next_some : (ys : List Missing) (l bound : ℕ) → AreSorted l ys → l < bound
    → IsNext ys (l + 1) bound (next_number ys (Some l) bound)
next_some [] l bound s lt = record { above = omega (arith, lt); only = λ n h b. cc; found = inl refl }
next_some (m ∷ ms) l bound s lt =
    go (m.number == l) refl (λ e. next_some ms l bound (subst (λ (k : ℕ). AreSorted k ms) e s.1) lt)
  where
    go : (b : Bool) → (m.number == l) ≡ b → (m.number ≡ l → IsNext ms (l + 1) bound (next_number ms (Some l) bound))
        → IsNext (m ∷ ms) (l + 1) bound (if b then next_number ms (Some l) bound else m.number)
    go true e rest = elim (cases_eq m.number l) [
      | inl same ↦
          let r : IsNext ms (l + 1) bound (next_number ms (Some l) bound) = rest same in
          record {
            above = r.above;
            only = λ n h b. elim (cases_eq m.number n) [
              | inl is ↦ omega (arith, is, same)
              | inr other ↦ r.only n (ap (λ (b : Bool). b || has_entry ms n) (sym (ne_eqb m.number n other)) ∙ h) b
            ];
            found =
                elim r.found
                [ inl is ↦ inl is | inr has ↦ inr (rw has (or_true (m.number == next_number ms (Some l) bound))) ];
          }
      | inr other ↦ let wrong : true ≡ false = sym e ∙ ne_eqb m.number l other in cc
    ]
    go false e rest =
        let other : (m.number ≡ l) → ⊥ = λ same. (let wrong : true ≡ false = sym (eq-eqb m.number l same) ∙ e in cc) in
        record {
          above =
              elim (cases_lt l m.number)
              [ inl lt ↦ omega (arith, lt) | inr ge ↦ absurd (other (omega (arith, ge, s.0))) ];
          only = λ n h b.
              let not_it : (m.number == n) ≡ false = ne_eqb m.number n (λ is. omega (arith, is, b)) in
              let none : has_entry ms n ≡ false = none_below m.number n ms s.1 b in
              let wrong : true ≡ false = sym h ∙ rw (not_it, none) refl in cc;
          found = inr (rw (eq-eqb m.number m.number refl) refl);
        }

next_first : (ys : List Missing) (low bound : ℕ) → AreSorted low ys → low ≤ bound
    → IsNext ys low bound (next_number ys None bound)
next_first [] low bound s le = record { above = le; only = λ n h b. cc; found = inl refl }
next_first (m ∷ ms) low bound s le = record {
  above = s.0;
  only = λ n h b.
      let not_it : (m.number == n) ≡ false = ne_eqb m.number n (λ is. omega (arith, is, b)) in
      let none : has_entry ms n ≡ false = none_below m.number n ms s.1 b in
      let wrong : true ≡ false = sym h ∙ rw (not_it, none) refl in cc;
  found = inr (rw (eq-eqb m.number m.number refl) refl);
}

pub record IsLast (xs ys : List Missing) (low : ℕ) (number : Option ℕ) : Type 0 where
  pub l : ℕ
  pub is : number ≡ Some l
  pub has : has_entry xs l ≡ true
  pub most : (n : ℕ) → has_entry xs n ≡ true → n ≤ l
  pub sorted : AreSorted l ys
  pub above : low ≤ l

pub either : (a b : Bool) → (a || b) ≡ true → (a ≡ true) ⊎ (b ≡ true)
either true b e = inl refl
either false b e = inr e

pub same_number : (m n : ℕ) → (m == n) ≡ true → m ≡ n
same_number m n e =
    elim (cases_eq m n) [ inl same ↦ same | inr other ↦ let wrong : true ≡ false = sym e ∙ ne_eqb m n other in cc ]

last_of : (x : Missing) (xs ys : List Missing) (low : ℕ) → AreSorted low ((x ∷ xs) ++ ys)
    → IsLast (x ∷ xs) ys low (number_of (slice_get ((x ∷ xs) ++ ys) (length xs)))
last_of x [] ys low s = record {
  l = x.number;
  is = refl;
  has = rw (eq-eqb x.number x.number refl) refl;
  most = λ n h. elim (either (x.number == n) false h) [ inl e ↦ omega (arith, same_number x.number n e) | inr e ↦ cc ];
  sorted = s.1;
  above = s.0;
}
last_of x (y ∷ xs) ys low s =
    let r : IsLast (y ∷ xs) ys x.number (number_of (slice_get ((y ∷ xs) ++ ys) (length xs))) =
    last_of y xs ys x.number s.1 in
    record {
      l = r.l;
      is = r.is;
      has = ap (λ (b : Bool). (x.number == r.l) || b) r.has ∙ or_true (x.number == r.l);
      most = λ n h. elim (either (x.number == n) (has_entry (y ∷ xs) n) h)
          [ inl e ↦ omega (arith, same_number x.number n e, r.above) | inr e ↦ r.most n e ];
      sorted = r.sorted;
      above = omega (arith, s.0, r.above);
    }

pub record IsAck (all xs : List Missing) (front bound a : ℕ) : Type 0 where
  pub above : front ≤ a
  pub left : has_entry xs a ≡ false
  pub over : (n : ℕ) → has_entry xs n ≡ true → n < a
  pub least : (n : ℕ) → n < a → has_entry xs n ≡ false → has_entry all n ≡ true → n < front
  pub found : (a ≡ bound) ⊎ (has_entry all a ≡ true)

pub not_true : (b : Bool) → (b ≡ true → ⊥) → b ≡ false
not_true true h = absurd (h refl)
not_true false h = refl

drop_at : (xs ys : List Missing) → drop (length xs) (xs ++ ys) ≡ ys
drop_at [] ys = refl
drop_at (x ∷ xs) ys = drop_at xs ys

ack_of : (xs ys : List Missing) (front bound : ℕ) → AreSorted front (xs ++ ys) → front ≤ bound
    → Within (xs ++ ys) bound → IsAck (xs ++ ys) xs front bound (ack_behind (xs ++ ys) (length xs) bound)
ack_of [] ys front bound s le within =
    let r : IsNext ys front bound (next_number ys None bound) = next_first ys front bound s le in
    record { above = r.above; left = refl; over = λ n h. cc; least = λ n b f h. r.only n h b; found = r.found }
ack_of (x ∷ xs) ys front bound s le within =
    let last : IsLast (x ∷ xs) ys front (number_of (slice_get ((x ∷ xs) ++ ys) (length xs))) =
    last_of x xs ys front s in
    let has_l : has_entry ((x ∷ xs) ++ ys) last.l ≡ true =
    has_append (x ∷ xs) ys last.l ∙ ap (λ (b : Bool). b || has_entry ys last.l) last.has in
    let r : IsNext ys (last.l + 1) bound (next_number ys (Some last.l) bound) =
    next_some ys last.l bound last.sorted (within last.l has_l) in
    let many : (suc (length xs) == 0) ≡ false = ne_eqb (suc (length xs)) 0 (λ e. omega (arith, e)) in
    let less : suc (length xs) - 1 ≡ length xs = omega arith in
    let number : last_number ((x ∷ xs) ++ ys) (length (x ∷ xs)) ≡ Some last.l = rw (many, less) last.is in
    let is : next_number ys (Some last.l) bound ≡ ack_behind ((x ∷ xs) ++ ys) (length (x ∷ xs)) bound =
    ap (λ (o : Option ℕ). next_number ys o bound) (sym number)
    ∙ ap (λ (zs : List Missing). next_number zs (last_number ((x ∷ xs) ++ ys) (length (x ∷ xs))) bound)
    (sym (drop_at (x ∷ xs) ys)) in
    subst (λ (a : ℕ). IsAck ((x ∷ xs) ++ ys) (x ∷ xs) front bound a) is (record {
      above = omega (arith, last.above, r.above);
      left = not_true (has_entry (x ∷ xs) (next_number ys (Some last.l) bound))
          (λ h. omega (arith, last.most (next_number ys (Some last.l) bound) h, r.above));
      over = λ n h. omega (arith, last.most n h, r.above);
      least = λ n b f h. elim (either (has_entry (x ∷ xs) n) (has_entry ys n) (sym (has_append (x ∷ xs) ys n) ∙ h)) [
        | inl e ↦ let wrong : true ≡ false = sym e ∙ f in cc
        | inr e ↦
            let upper : n < last.l + 1 = r.only n e b in
            elim (cases_eq n last.l) [
              | inl same ↦ let wrong : true ≡ false = sym last.has ∙ ap (λ (k : ℕ). has_entry (x ∷ xs) k) (sym same)
                  ∙ f in cc
              | inr other ↦ let none : has_entry ys n ≡ false =
                  none_below last.l n ys last.sorted (omega (arith, upper, other)) in
                  let wrong : true ≡ false = sym e ∙ none in cc
            ]
      ];
      found =
          elim r.found [
            | inl e ↦ inl e
            | inr e ↦ inr (has_append (x ∷ xs) ys (next_number ys (Some last.l) bound)
                ∙ ap (λ (b : Bool). has_entry (x ∷ xs) (next_number ys (Some last.l) bound) || b) e
                ∙ or_true (has_entry (x ∷ xs) (next_number ys (Some last.l) bound)))
          ];
    })

-- ---- along a run

true_by : (m : Marked) (size : ℕ) → Bounded m → Well m.world.state.window.slots → IsTrueStatus m.world size
true_by m size b well = record {
  all = all_said m.world.kept slots front bound b.keeps.agrees.slots_match well b.order.bound;
  rest = ys;
  begins = split;
  fits = fits_in (room_in size) all;
  longest = λ n ns e. fits_most (room_in size) all n ns e;
  ack_above = a.above;
  ack_missing = λ done. elim a.found [
    | inl is ↦ b.first.here (subst (λ (n : ℕ). IsComplete m.world.kept n) is done)
    | inr has ↦
        let r = entry_in slots front bound ack_is has in
        let number : ack_is ≡ front + (ack_is - front) = omega (arith, r.0) in
        let full : is_complete (slot_at slots (ack_is - front)) ≡ true =
        complete-full m.world.kept front slots b.keeps.agrees (ack_is - front)
        (subst (λ (n : ℕ). IsComplete m.world.kept n) number done) in
        let wrong : true ≡ false = sym full ∙ r.2 in cc
  ];
  ack_left = a.left;
  ack_over = a.over;
  ack_least = λ n from below none. complete_number n from (omega (arith, below, ack_within a.found))
      (λ h. omega (arith, from, a.least n below none h));
}
  where
    slots : List Held
    slots = m.world.state.window.slots

    front : ℕ
    front = m.world.state.window.front

    bound : ℕ
    bound = m.world.state.bound

    all : List Missing
    all = missing_below slots front bound

    xs : List Missing
    xs = fitting (room_in size) all

    ys : List Missing
    ys = drop (length xs) all

    split : all ≡ xs ++ ys
    split = fits_prefix (room_in size) all

    ack_is : ℕ
    ack_is = ack m.world.state size

    within : Within all bound
    within = λ n h. (entry_in slots front bound n h).1

    a : IsAck all xs front bound ack_is
    a = subst (λ (zs : List Missing). IsAck zs xs front bound (ack_behind zs (length xs) bound)) (sym split)
        (ack_of xs ys front bound
        (subst (λ (zs : List Missing). AreSorted front zs) split (missing_sorted slots front bound)) b.order.front
        (subst (λ (zs : List Missing). Within zs bound) split within))

    ack_within : (ack_is ≡ bound) ⊎ (has_entry all ack_is ≡ true) → ack_is ≤ bound
    ack_within (inl e) = omega (arith, e)
    ack_within (inr h) = omega (arith, within ack_is h)

    complete_number : (n : ℕ) → front ≤ n → n < bound → (has_entry all n ≡ true → ⊥) → IsComplete m.world.kept n
    complete_number n from below none = go (is_complete (slot_at slots (n - front))) refl
      where
        go : (c : Bool) → is_complete (slot_at slots (n - front)) ≡ c → IsComplete m.world.kept n
        go true full =
            subst (λ (k : ℕ). IsComplete m.world.kept k) (omega (arith, from))
            (full-complete m.world.kept front slots b.keeps.agrees (n - front) full)
        go false part =
            absurd (none (entry_of slots front bound n well from below (omega (arith, below, b.order.bound)) part))

pub go_world : (calls : List Call) (m : Marked) → (go calls m).world ≡ run_am_receiver calls m.world
go_world [] m = refl
go_world (c ∷ cs) m = go_world cs (goes m c)

run_well : (calls : List Call) (w : World) → BringSome calls → Well w.state.window.slots
    → Well (run_am_receiver calls w).state.window.slots
run_well [] w some well = well
run_well (c ∷ cs) w some well = run_well cs (happens w c) some.1 (call-well w.state c some.0 well)

pub true_status : (config : AmRxConfig) (calls : List Call) (size : ℕ) → BringSome calls
    → IsTrueStatus (run_am_receiver calls (begin config)) size
true_status config calls size some =
    let same : (go calls (marked_outset config)).world ≡ run_am_receiver calls (begin config) =
    go_world calls (marked_outset config) in
    let well : Well (run_am_receiver calls (begin config)).state.window.slots =
    run_well calls (begin config) some (λ k. nothing-well) in
    subst (λ (w : World). IsTrueStatus w size) same
    (true_by (go calls (marked_outset config)) size (go-bounded calls (marked_outset config) (outset-bounded config))
    (subst (λ (w : World). Well w.state.window.slots) (sym same) well))
