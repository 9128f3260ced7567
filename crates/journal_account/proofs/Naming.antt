-- What the entries of a STATUS name of a number, and which of it waits already.
use Rattle.std.proofs.Common.{◌≡◌, ◌<◌, ◌≤◌, ℕ, zero, suc, Bool, true, false, not, ◌||◌, ◌&&◌, List, [], ◌∷◌}
use Rattle.std.proofs.Common.{Option, Some, None, inl, inr, refl, ap, sym, ◌∙◌, arith, nat_lt, nat_le, ◌==◌}
use Rattle.std.proofs.Common.{if◌then◌else◌}
use Rattle.std.specs.Prelude.{MatchOption, is_none}
use Rattle.std.proofs.lemmas.Bool.{cases_lt, ltb-true, ltb-false, lt-ltb, le-ltb, le-leb, lt-leb}
use Rattle.rlc_pdu.specs.declared.pdu.Part.{Part}
use Rattle.rlc_pdu.specs.Runs.{Run, has, AreAscending, gap_in, added}
use Rattle.rlc_pdu.specs.Places.{IsGap}
use Rattle.rlc_pdu.proofs.PlaceLaws.{gaps_are_first}
use Rattle.rlc_pdu.proofs.RunSteps.{added_has, added_ascends}
use Rattle.journal_account.specs.declared.entry.StatusEntry.{StatusEntry}
use Rattle.journal_account.specs.Entries.{names_octet, start_of, stop_of}
use Rattle.journal_account.specs.Arrived.{all_below}
use Rattle.journal_account.specs.FlowSending.{SentNumber, woken_between, woken_by, woken, waits_all, names_new}
use Rattle.journal_account.proofs.Complete.{below_all, below_not}

-- ---- what wakes

or-assoc : (a b c : Bool) → ((a || b) || c) ≡ (a || (b || c))
or-assoc true b c = refl
or-assoc false b c = refl

or_swap : (a b c : Bool) → (a || (b || c)) ≡ ((b || a) || c)
or_swap true true c = refl
or_swap true false c = refl
or_swap false true c = refl
or_swap false false c = refl

empty_run : (from to i : ℕ) → to ≤ from → (nat_le from i && nat_lt i to) ≡ false
empty_run from to i le = elim (cases_lt i from) [
  | inl lt ↦ ap (λ (b : Bool). b && nat_lt i to) (lt-leb from i lt)
  | inr up ↦ ap (λ (b : Bool). b && nat_lt i to) (le-leb from i up) ∙ le-ltb i to (omega arith)
]

pub between_has : (from to : ℕ) (waiting : List Run) (i : ℕ)
    → has (woken_between from to waiting) i ≡ ((nat_le from i && nat_lt i to) || has waiting i)
between_has from to waiting i = go (nat_lt from to) refl
  where
    go : (b : Bool) → nat_lt from to ≡ b → has (if b then added waiting from to else waiting) i
        ≡ ((nat_le from i && nat_lt i to) || has waiting i)
    go true is = added_has waiting from to (ltb-true from to is) i
    go false is = sym (ap (λ (b : Bool). b || has waiting i) (empty_run from to i (ltb-false from to is)))

pub between_ascends : (from to : ℕ) (waiting : List Run) → AreAscending 0 waiting
    → AreAscending 0 (woken_between from to waiting)
between_ascends from to waiting up = go (nat_lt from to) refl
  where
    go : (b : Bool) → nat_lt from to ≡ b → AreAscending 0 (if b then added waiting from to else waiting)
    go true is = added_ascends waiting from to (ltb-true from to is) up
    go false is = up

abbrev pub in_entry : StatusEntry → ℕ → ℕ → Bool
in_entry m size i = nat_le (start_of m.part) i && nat_lt i (stop_of m.part size)

by_has : (n size : ℕ) (waiting : List Run) (m : StatusEntry) (i : ℕ)
    → has (woken_by n size waiting m) i ≡ (((m.number == n) && in_entry m size i) || has waiting i)
by_has n size waiting m i = go (m.number == n)
  where
    go : (b : Bool)
        → has (if b then woken_between (start_of m.part) (stop_of m.part size) waiting else waiting) i
        ≡ ((b && in_entry m size i) || has waiting i)
    go true = between_has (start_of m.part) (stop_of m.part size) waiting i
    go false = refl

by_ascends : (n size : ℕ) (waiting : List Run) (m : StatusEntry) → AreAscending 0 waiting
    → AreAscending 0 (woken_by n size waiting m)
by_ascends n size waiting m up = go (m.number == n)
  where
    go : (b : Bool)
        → AreAscending 0 (if b then woken_between (start_of m.part) (stop_of m.part size) waiting else waiting)
    go true = between_ascends (start_of m.part) (stop_of m.part size) waiting up
    go false = up

pub woken_has : (n size : ℕ) (waiting : List Run) (ms : List StatusEntry) (i : ℕ)
    → has (woken n size waiting ms) i ≡ (names_octet ms size n i || has waiting i)
woken_has n size waiting [] i = refl
woken_has n size waiting (m ∷ ms) i =
    woken_has n size (woken_by n size waiting m) ms i
    ∙ ap (λ (b : Bool). names_octet ms size n i || b) (by_has n size waiting m i)
    ∙ or_swap (names_octet ms size n i) ((m.number == n) && in_entry m size i) (has waiting i)

pub woken_ascends : (n size : ℕ) (waiting : List Run) (ms : List StatusEntry) → AreAscending 0 waiting
    → AreAscending 0 (woken n size waiting ms)
woken_ascends n size waiting [] up = up
woken_ascends n size waiting (m ∷ ms) up =
    woken_ascends n size (woken_by n size waiting m) ms (by_ascends n size waiting m up)

-- ---- whether an octet is named that doesn't wait

pub below_same : (p q : ℕ → Bool) (n : ℕ) → ((i : ℕ) → i < n → p i ≡ q i) → all_below p n ≡ all_below q n
below_same p q zero same = refl
below_same p q (suc n) same =
    ap (λ (b : Bool). b && all_below p n) (same n (omega arith))
    ∙ ap (λ (b : Bool). q n && b) (below_same p q n (λ i lt. same i (omega arith)))

and_four : (a b c d : Bool) → ((a && b) && (c && d)) ≡ ((a && c) && (b && d))
and_four true true c d = refl
and_four true false true d = refl
and_four true false false d = refl
and_four false b c d = refl

below_and : (p q : ℕ → Bool) (n : ℕ) → all_below (λ i. p i && q i) n ≡ (all_below p n && all_below q n)
below_and p q zero = refl
below_and p q (suc n) =
    ap (λ (b : Bool). (p n && q n) && b) (below_and p q n) ∙ and_four (p n) (q n) (all_below p n) (all_below q n)

spread : (a b c : Bool) → (not (a || b) || c) ≡ ((not a || c) && (not b || c))
spread true true true = refl
spread true true false = refl
spread true false true = refl
spread true false false = refl
spread false true true = refl
spread false true false = refl
spread false false true = refl
spread false false false = refl

-- all octets of one entry wait
pub stop_low : (o : Option Part) (size : ℕ) → stop_of o size ≤ size
stop_low None size = omega arith
stop_low (Some p) size = omega arith

not_in : (a c : Bool) → a ≡ false → (not a || c) ≡ true
not_in true c e = absurd cc
not_in false c e = refl

entry_waits : (h : SentNumber) (m : StatusEntry) (came : ℕ → Bool) → AreAscending 0 h.waiting
    → ((i : ℕ) → has h.waiting i ≡ came i)
    → waits_all h m ≡ all_below (λ i. not (in_entry m h.size i) || came i) h.size
entry_waits h m came up same =
    go (gap_in h.waiting (start_of m.part) (stop_of m.part h.size))
    (gaps_are_first h.waiting (start_of m.part) (stop_of m.part h.size) up)
  where
    or_true : (a : Bool) → (a || true) ≡ true
    or_true true = refl
    or_true false = refl

    and_none : (a : Bool) → (a && false) ≡ false
    and_none true = refl
    and_none false = refl

    each : ((i : ℕ) → start_of m.part ≤ i → i < stop_of m.part h.size → has h.waiting i ≡ true) → (i : ℕ)
        → (not (in_entry m h.size i) || came i) ≡ true
    each all i = elim (cases_lt i (start_of m.part)) [
      | inl low ↦ not_in (in_entry m h.size i) (came i)
          (ap (λ (b : Bool). b && nat_lt i (stop_of m.part h.size)) (lt-leb (start_of m.part) i low))
      | inr up ↦ elim (cases_lt i (stop_of m.part h.size)) [
        | inl in_it ↦ ap (λ (b : Bool). not (in_entry m h.size i) || b) (sym (same i) ∙ all i up in_it)
            ∙ or_true (not (in_entry m h.size i))
        | inr past ↦ not_in (in_entry m h.size i) (came i)
            (ap (λ (b : Bool). nat_le (start_of m.part) i && b) (le-ltb i (stop_of m.part h.size) past)
            ∙ and_none (nat_le (start_of m.part) i))
      ]
    ]

    go : (o : Option Part)
        → MatchOption o ((i : ℕ) → start_of m.part ≤ i → i < stop_of m.part h.size → has h.waiting i ≡ true)
        (IsGap h.waiting (start_of m.part) (stop_of m.part h.size))
        → is_none o ≡ all_below (λ i. not (in_entry m h.size i) || came i) h.size
    go None all = sym (below_all (λ i. not (in_entry m h.size i) || came i) h.size (λ i lt. each all i))
    go (Some p) gap =
        let low : stop_of m.part h.size ≤ h.size = stop_low m.part h.size in
        let lt : p.start < stop_of m.part h.size = omega (arith, gap.some, gap.below) in
        let named : in_entry m h.size p.start ≡ true =
        ap (λ (b : Bool). b && nat_lt p.start (stop_of m.part h.size)) (le-leb (start_of m.part) p.start gap.above)
        ∙ lt-ltb p.start (stop_of m.part h.size) lt in
        sym (below_not (λ i. not (in_entry m h.size i) || came i) h.size p.start (omega arith)
        (ap (λ (b : Bool). not b || came p.start) named ∙ sym (same p.start)
        ∙ gap.missing p.start (omega arith) gap.some))

guarded : (a : Bool) (p : ℕ → Bool) (came : ℕ → Bool) (size : ℕ)
    → all_below (λ i. not (a && p i) || came i) size ≡ (not a || all_below (λ i. not (p i) || came i) size)
guarded true p came size = refl
guarded false p came size = below_all (λ i. not false || came i) size (λ i lt. refl)

not_and : (a b : Bool) → not (a && b) ≡ (not a || not b)
not_and true b = refl
not_and false b = refl

back : (a b : Bool) → not (not a || b) ≡ (a && not b)
back true b = refl
back false b = refl

pub new_is : (h : SentNumber) (n : ℕ) (ms : List StatusEntry) (came : ℕ → Bool) → AreAscending 0 h.waiting
    → ((i : ℕ) → has h.waiting i ≡ came i)
    → names_new ms n h ≡ not (all_below (λ i. not (names_octet ms h.size n i) || came i) h.size)
new_is h n [] came up same = sym (ap not (below_all (λ i. not false || came i) h.size (λ i lt. refl)))
new_is h n (m ∷ ms) came up same =
    let rest = new_is h n ms came up same in
    let here : ((m.number == n) && not (waits_all h m))
    ≡ not (all_below (λ i. not ((m.number == n) && in_entry m h.size i) || came i) h.size) =
    ap (λ (b : Bool). (m.number == n) && not b) (entry_waits h m came up same)
    ∙ sym (back (m.number == n) (all_below (λ i. not (in_entry m h.size i) || came i) h.size))
    ∙ sym (ap not (guarded (m.number == n) (in_entry m h.size) came h.size)) in
    ap (λ (b : Bool). b || names_new ms n h) here
    ∙ ap
    (λ (b : Bool). not (all_below (λ i. not ((m.number == n) && in_entry m h.size i) || came i) h.size) || b) rest
    ∙ sym (not_and (all_below (λ i. not ((m.number == n) && in_entry m h.size i) || came i) h.size)
    (all_below (λ i. not (names_octet ms h.size n i) || came i) h.size))
    ∙ ap not (sym (below_and (λ i. not ((m.number == n) && in_entry m h.size i) || came i)
    (λ i. not (names_octet ms h.size n i) || came i) h.size)
    ∙ sym (below_same (λ i. not (names_octet (m ∷ ms) h.size n i) || came i)
    (λ i. (not ((m.number == n) && in_entry m h.size i) || came i) && (not (names_octet ms h.size n i) || came i))
    h.size
    (λ i lt. spread ((m.number == n) && in_entry m h.size i) (names_octet ms h.size n i) (came i))))
