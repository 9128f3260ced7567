-- When a number is complete: by its history, and by what is kept of it.
use Rattle.std.proofs.Common.{◌≡◌, ◌<◌, ◌≤◌, ℕ, zero, suc, ◌+◌, ◌-◌, Bool, true, false, List, [], ◌∷◌, ◌++◌}
use Rattle.std.proofs.Common.{length, Option, Some, None, slice_get, inl, inr, refl, ap, sym, ◌∙◌, arith}
use Rattle.std.specs.Prelude.{MatchOption, is_none}
use Rattle.std.proofs.lemmas.Bool.{cases_eq, and_parts, and_from, and_left, and_right, or_right}
use Rattle.std.proofs.lemmas.Option.{slice_get_within}
use Rattle.rlc_pdu.specs.declared.pdu.Part.{Part}
use Rattle.rlc_pdu.specs.Runs.{has, AreAscending, gap_in}
use Rattle.rlc_pdu.specs.Places.{IsGap}
use Rattle.rlc_pdu.proofs.PlaceLaws.{gaps_are_first}
use Rattle.journal_account.specs.FlowEvents.{FlowEvent, field_sizes, size_in}
use Rattle.journal_account.specs.Arrived.{brings_octet, octet_came, all_below, all_between, all_octets}
use Rattle.journal_account.specs.Arrived.{is_complete_in}
use Rattle.journal_account.specs.FlowArrivals.{FieldArrivals, is_whole}

-- ---- all places below one

pub below_all : (p : ℕ → Bool) (n : ℕ) → ((i : ℕ) → i < n → p i ≡ true) → all_below p n ≡ true
below_all p zero h = refl
below_all p (suc n) h = and_from (p n) (all_below p n) (h n (omega arith)) (below_all p n (λ i lt. h i (omega arith)))

pub below_not : (p : ℕ → Bool) (n i : ℕ) → i < n → p i ≡ false → all_below p n ≡ false
below_not p zero i lt e = absurd (omega arith)
below_not p (suc n) i lt e = elim (cases_eq i n) [
  | inl same ↦ and_left (p n) (all_below p n) (ap p (sym same) ∙ e)
  | inr other ↦ and_right (p n) (all_below p n) (below_not p n i (omega arith) e)
]

pub below_each : (p : ℕ → Bool) (n i : ℕ) → all_below p n ≡ true → i < n → p i ≡ true
below_each p zero i e lt = absurd (omega arith)
below_each p (suc n) i e lt =
    let parts = and_parts (p n) (all_below p n) e in
    elim (cases_eq i n) [
      | inl same ↦ ap p same ∙ parts.0
      | inr other ↦ below_each p n i parts.1 (omega arith)
    ]

-- all between two

pub between_all : (p : ℕ → Bool) (from to : ℕ) → ((i : ℕ) → from ≤ i → i < to → p i ≡ true)
    → all_between p from to ≡ true
between_all p from to h = below_all (λ i. p (from + i)) (to - from) (λ i lt. h (from + i) (omega arith) (omega arith))

pub between_each : (p : ℕ → Bool) (from to i : ℕ) → all_between p from to ≡ true → from ≤ i → i < to → p i ≡ true
between_each p from to i e le lt =
    let at : from + (i - from) ≡ i = omega arith in
    ap p (sym at) ∙ below_each (λ i. p (from + i)) (to - from) (i - from) e (omega arith)

-- ---- what is kept of a number tells whether each octet has come

pub whole_is : (f : FieldArrivals) (came : ℕ → Bool) → AreAscending 0 f.came → ((i : ℕ) → has f.came i ≡ came i)
    → is_whole f ≡ all_below came f.size
whole_is f came up same = go (gap_in f.came 0 f.size) (gaps_are_first f.came 0 f.size up)
  where
    go : (o : Option Part)
        → MatchOption o ((i : ℕ) → 0 ≤ i → i < f.size → has f.came i ≡ true) (IsGap f.came 0 f.size)
        → is_none o ≡ all_below came f.size
    go None all = sym (below_all came f.size (λ i lt. sym (same i) ∙ all i (omega arith) lt))
    go (Some p) gap =
        let lt : p.start < f.size = omega (arith, gap.some, gap.below) in
        sym (below_not came f.size p.start lt (sym (same p.start) ∙ gap.missing p.start (omega arith) gap.some))

-- ---- a complete number stays so

pub get_left : (xs ys : List ℕ) (n : ℕ) → n < length xs → slice_get (xs ++ ys) n ≡ slice_get xs n
get_left [] ys n lt = absurd (omega arith)
get_left (x ∷ xs) ys zero lt = refl
get_left (x ∷ xs) ys (suc n) lt = get_left xs ys n (omega arith)

more_octets : (p q : ℕ → Bool) (o r : Option ℕ) → ((i : ℕ) → p i ≡ true → q i ≡ true)
    → ((n : ℕ) → o ≡ Some n → r ≡ Some n) → all_octets p o ≡ true → all_octets q r ≡ true
more_octets p q None r more same e = absurd cc
more_octets p q (Some n) r more same e =
    ap (all_octets q) (same n refl) ∙ below_all q n (λ i lt. more i (below_each p n i e lt))

pub still_complete : (e : FlowEvent) (es : List FlowEvent) (n : ℕ) → is_complete_in es n ≡ true
    → is_complete_in (e ∷ es) n ≡ true
still_complete e es n =
    more_octets (octet_came es n) (octet_came (e ∷ es) n) (slice_get (field_sizes es) n)
    (slice_get (field_sizes (e ∷ es)) n)
    (λ i c. or_right (brings_octet e n i) (octet_came es n i) c)
    (λ k is. get_left (field_sizes es) (size_in e) n (slice_get_within (field_sizes es) n k is) ∙ is)

pub complete_each : (es : List FlowEvent) (n s i : ℕ) → is_complete_in es n ≡ true
    → slice_get (field_sizes es) n ≡ Some s → i < s → octet_came es n i ≡ true
complete_each es n s i e is lt =
    below_each (octet_came es n) s i (sym (ap (all_octets (octet_came es n)) is) ∙ e) lt
