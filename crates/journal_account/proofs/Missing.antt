-- What hasn't come of a number, as runs: those that are kept, and that there is one such list.
use Rattle.std.proofs.Common.{◌≡◌, ◌<◌, ◌≤◌, ℕ, ◌+◌, Bool, true, false, not, ◌||◌, ◌&&◌, List, [], ◌∷◌}
use Rattle.std.proofs.Common.{◌++◌, refl, ap, sym, ◌∙◌, arith, min, max, nat_le, nat_lt, inl, inr}
use Rattle.std.proofs.lemmas.Bool.{cases_lt}
use Rattle.std.proofs.lemmas.Bool.Decides.{nat_tests}
use Rattle.rlc_pdu.specs.Runs.{Run, run_between, some_run, lies_in, has, AreAscending}
use Rattle.journal_account.specs.TrueStatus.{AreMissing}
use Rattle.journal_account.specs.FlowStatus.{gaps_in}
use Rattle.journal_account.proofs.Gaps.{none_between, run_there}

-- ---- runs that ascend

lower : (low high : ℕ) (rs : List Run) → low ≤ high → AreAscending high rs → AreAscending low rs
lower low high [] le h = tt
lower low high (r ∷ rs) le h = (omega (arith, h.0, le), h.1, h.2)

not_in : (r : Run) (i : ℕ) → i < r.from → lies_in r i ≡ false
not_in r i lt = grind (arith, nat_tests)

in_run : (r : Run) (i : ℕ) → r.from ≤ i → i < r.to → lies_in r i ≡ true
in_run r i le lt = grind (arith, nat_tests)

past_run : (r : Run) (i : ℕ) → r.to ≤ i → lies_in r i ≡ false
past_run r i le = grind (arith, nat_tests)

or_none : (a b : Bool) → a ≡ false → b ≡ false → (a || b) ≡ false
or_none a b p q = rw p q

none_low : (low : ℕ) (rs : List Run) (i : ℕ) → AreAscending low rs → i < low → has rs i ≡ false
none_low low [] i h lt = refl
none_low low (r ∷ rs) i h lt = or_none (lies_in r i) (has rs i) (not_in r i (omega (arith, h.0, lt)))
    (none_low (r.to + 1) rs i h.2 (omega (arith, h.0, h.1, lt)))

-- ---- there is one list of a set

no_more : (low : ℕ) (r : Run) (rs : List Run) → AreAscending low (r ∷ rs)
    → ((i : ℕ) → has (r ∷ rs) i ≡ false) → ⊥
no_more low r rs h none =
    let there : has (r ∷ rs) r.from ≡ true = ap (λ (b : Bool). b || has rs r.from)
    (in_run r r.from (omega arith) (omega (arith, h.1))) in
    let no : true ≡ false = sym there ∙ none r.from in cc

first_low : (low high : ℕ) (x y : Run) (xs ys : List Run) → AreAscending low (x ∷ xs) → AreAscending high (y ∷ ys)
    → ((i : ℕ) → has (x ∷ xs) i ≡ has (y ∷ ys) i) → y.from ≤ x.from
first_low low high x y xs ys h g same = elim (cases_lt x.from y.from) [
  | inl lt ↦
      let there : has (x ∷ xs) x.from ≡ true = ap (λ (b : Bool). b || has xs x.from)
      (in_run x x.from (omega arith) (omega (arith, h.1))) in
      let none : has (y ∷ ys) x.from ≡ false =
      or_none (lies_in y x.from) (has ys x.from) (not_in y x.from lt)
      (none_low (y.to + 1) ys x.from g.2 (omega (arith, lt, g.1))) in
      let no : true ≡ false = sym there ∙ same x.from ∙ none in absurd cc
  | inr le ↦ le
]

first_short : (low high : ℕ) (x y : Run) (xs ys : List Run) → AreAscending low (x ∷ xs) → AreAscending high (y ∷ ys)
    → ((i : ℕ) → has (x ∷ xs) i ≡ has (y ∷ ys) i) → x.from ≡ y.from → y.to ≤ x.to
first_short low high x y xs ys h g same froms = elim (cases_lt x.to y.to) [
  | inl lt ↦
      let none : has (x ∷ xs) x.to ≡ false =
      or_none (lies_in x x.to) (has xs x.to) (past_run x x.to (omega arith))
      (none_low (x.to + 1) xs x.to h.2 (omega arith)) in
      let there : has (y ∷ ys) x.to ≡ true = ap (λ (b : Bool). b || has ys x.to)
      (in_run y x.to (omega (arith, froms, h.1)) lt) in
      let no : false ≡ true = sym none ∙ same x.to ∙ there in absurd cc
  | inr le ↦ le
]

rest_same : (low high : ℕ) (x y : Run) (xs ys : List Run) → AreAscending low (x ∷ xs) → AreAscending high (y ∷ ys)
    → ((i : ℕ) → has (x ∷ xs) i ≡ has (y ∷ ys) i) → x.to ≡ y.to → (i : ℕ) → has xs i ≡ has ys i
rest_same low high x y xs ys h g same tos i = elim (cases_lt i (x.to + 1)) [
  | inl lt ↦ none_low (x.to + 1) xs i h.2 lt ∙ sym (none_low (y.to + 1) ys i g.2 (omega (arith, lt, tos)))
  | inr le ↦
      sym (ap (λ (b : Bool). b || has xs i) (past_run x i (omega (arith, le))))
      ∙ same i ∙ ap (λ (b : Bool). b || has ys i) (past_run y i (omega (arith, le, tos)))
]

pub one_list : (low high : ℕ) (xs ys : List Run) → AreAscending low xs → AreAscending high ys
    → ((i : ℕ) → has xs i ≡ has ys i) → xs ≡ ys
one_list low high [] [] h g same = refl
one_list low high [] (y ∷ ys) h g same = absurd (no_more high y ys g (λ i. sym (same i)))
one_list low high (x ∷ xs) [] h g same = absurd (no_more low x xs h same)
one_list low high (x ∷ xs) (y ∷ ys) h g same =
    let froms : x.from ≡ y.from =
    omega (arith, first_low low high x y xs ys h g same, first_low high low y x ys xs g h (λ i. sym (same i))) in
    let tos : x.to ≡ y.to =
    omega (
      arith,
      first_short low high x y xs ys h g same froms,
      first_short high low y x ys xs g h (λ i. sym (same i)) (sym froms),
    ) in
    let rest : xs ≡ ys = one_list (x.to + 1) (y.to + 1) xs ys h.2 g.2 (rest_same low high x y xs ys h g same tos) in
    ap (λ (from : ℕ). run_between from x.to ∷ xs) froms
    ∙ ap (λ (to : ℕ). run_between y.from to ∷ xs) tos
    ∙ ap (λ (rs : List Run). y ∷ rs) rest

-- ---- the runs that are kept

some_has : (from to i : ℕ) → has (some_run from to) i ≡ (nat_le from i && nat_lt i to)
some_has from to i = elim (cases_lt from to) [
  | inl lt ↦ rw (run_there from to lt) (or_false (nat_le from i && nat_lt i to))
  | inr le ↦ rw (none_between from to le) (sym (nothing from to i le))
]
  where
    or_false : (b : Bool) → (b || false) ≡ b
    or_false true = refl
    or_false false = refl

    nothing : (from to i : ℕ) → to ≤ from → (nat_le from i && nat_lt i to) ≡ false
    nothing from to i le = grind (arith, nat_tests)

or_assoc : (a b c : Bool) → ((a || b) || c) ≡ (a || (b || c))
or_assoc true b c = refl
or_assoc false b c = refl

has_both : (xs ys : List Run) (i : ℕ) → has (xs ++ ys) i ≡ (has xs i || has ys i)
has_both [] ys i = refl
has_both (x ∷ xs) ys i = ap (λ (b : Bool). lies_in x i || b) (has_both xs ys i)
    ∙ sym (or_assoc (lies_in x i) (has xs i) (has ys i))

before_step : (from size i rfrom rto : ℕ) → i < rto → rfrom < rto
    → ((nat_le from i && nat_lt i (min rfrom size)) || (nat_le (max from rto) i && (nat_lt i size && true)))
    ≡ (nat_le from i && (nat_lt i size && not ((nat_le rfrom i && nat_lt i rto) || false)))
before_step from size i rfrom rto lt some = grind (arith, nat_tests)

behind_step : (from size i rfrom rto : ℕ) (b : Bool) → rto ≤ i → rfrom < rto
    → ((nat_le from i && nat_lt i (min rfrom size)) || (nat_le (max from rto) i && (nat_lt i size && not b)))
    ≡ (nat_le from i && (nat_lt i size && not ((nat_le rfrom i && nat_lt i rto) || b)))
behind_step from size i rfrom rto true le some = grind (arith, nat_tests)
behind_step from size i rfrom rto false le some = grind (arith, nat_tests)

gaps_has : (low : ℕ) (runs : List Run) (from size i : ℕ) → AreAscending low runs
    → has (gaps_in runs from size) i ≡ (nat_le from i && (nat_lt i size && not (has runs i)))
gaps_has low [] from size i h = some_has from size i
    ∙ ap (λ (b : Bool). nat_le from i && b) (sym (and_true (nat_lt i size)))
  where
    and_true : (b : Bool) → (b && true) ≡ b
    and_true true = refl
    and_true false = refl
gaps_has low (r ∷ rs) from size i h =
    has_both (some_run from (min r.from size)) (gaps_in rs (max from r.to) size) i
    ∙ rw (some_has from (min r.from size) i, gaps_has (r.to + 1) rs (max from r.to) size i h.2)
    (elim (cases_lt i r.to) [
      | inl lt ↦ rw (none_low (r.to + 1) rs i h.2 (omega (arith, lt))) (before_step from size i r.from r.to lt h.1)
      | inr le ↦ behind_step from size i r.from r.to (has rs i) le h.1
    ])

joined_ascend : (from to low : ℕ) (rs : List Run) → to < low → from ≤ low → AreAscending low rs
    → AreAscending from (some_run from to ++ rs)
joined_ascend from to low rs lt le h = elim (cases_lt from to) [
  | inl some ↦ rw (run_there from to some) (omega arith, some, lower (to + 1) low rs (omega (arith, lt)) h)
  | inr none ↦ rw (none_between from to none) (lower from low rs le h)
]

gaps_ascend : (low : ℕ) (runs : List Run) (from size : ℕ) → AreAscending low runs
    → AreAscending from (gaps_in runs from size)
gaps_ascend low [] from size h = elim (cases_lt from size) [
  | inl some ↦ rw (run_there from size some) (omega arith, some, tt)
  | inr none ↦ rw (none_between from size none) tt
]
gaps_ascend low (r ∷ rs) from size h =
    joined_ascend from (min r.from size) (max from r.to) (gaps_in rs (max from r.to) size)
    (omega (arith, h.1)) (omega arith) (gaps_ascend (r.to + 1) rs (max from r.to) size h.2)

pub are_missing : (came : ℕ → Bool) (size : ℕ) (runs : List Run) → AreAscending 0 runs
    → ((i : ℕ) → has runs i ≡ came i) → AreMissing came size (gaps_in runs 0 size)
are_missing came size runs up same = record {
  ascend = gaps_ascend 0 runs 0 size up;
  are = λ i.
      gaps_has 0 runs 0 size i up ∙ ap (λ (b : Bool). b && (nat_lt i size && not (has runs i))) (zero_le i)
      ∙ ap (λ (b : Bool). nat_lt i size && not b) (same i);
}
  where
    zero_le : (i : ℕ) → nat_le 0 i ≡ true
    zero_le i = grind (arith, nat_tests)

pub one_missing : (came : ℕ → Bool) (size : ℕ) (xs ys : List Run) → AreMissing came size xs
    → AreMissing came size ys → xs ≡ ys
one_missing came size xs ys p q = one_list 0 0 xs ys p.ascend q.ascend (λ i. p.are i ∙ sym (q.are i))
