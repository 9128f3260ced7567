-- COUNTs that have come: one more, and those that follow at once.
use Rattle.std.proofs.Common.{◌≡◌, ◌<◌, ◌≤◌, ℕ, ◌+◌, ◌==◌, Bool, true, false, ◌||◌, List, [], ◌∷◌}
use Rattle.std.proofs.Common.{Some, refl, ap, sym, ◌∙◌, arith, inl, inr, if◌then◌else◌, slice_get}
use Rattle.std.specs.BTreeSet.{insert_key}
use Rattle.std.specs.Ordering.{nat_cmp, match_ordering}
use Rattle.std.specs.List.{list_any}
use Rattle.std.proofs.lemmas.Bool.{cases_lt, cases_eq, ne_eqb, eq-eqb, lt-ltb, le-ltb}
use Rattle.std.proofs.Common.{Ordering, Less, Equal, Greater, subst}
use Rattle.std.specs.Cmp.{ranks}
use Rattle.std.specs.Ordering.{MatchOrdering}
use Rattle.l2_num.specs.Least.{IsLeast}
use Rattle.std.proofs.lemmas.Bool.Decides.{nat_tests}
use Rattle.l2_num.specs.Ascending.{IsAscending}
use Rattle.journal_lives.specs.CountsCome.{CountsCome, joined_from, with_count}

same_number : (a b : ℕ) → (a == b) ≡ true → a ≡ b
same_number a b e = grind (arith, nat_tests)

other_number : (a b : ℕ) → (a == b) ≡ false → a ≡ b → ⊥
other_number a b e same = let is : (a == b) ≡ true = eq-eqb a b same in absurd (let no = sym is ∙ e in cc)

less : (a b : ℕ) → nat_cmp a b ≡ Less → a < b
less a b e = subst (λ (o : Ordering). MatchOrdering o (a < b) (a ≡ b) (b < a)) e (ranks a b)

equal : (a b : ℕ) → nat_cmp a b ≡ Equal → a ≡ b
equal a b e = subst (λ (o : Ordering). MatchOrdering o (a < b) (a ≡ b) (b < a)) e (ranks a b)

greater : (a b : ℕ) → nat_cmp a b ≡ Greater → b < a
greater a b e = subst (λ (o : Ordering). MatchOrdering o (a < b) (a ≡ b) (b < a)) e (ranks a b)

-- where the first doesn't follow, none does
pub joined_stays : (next count : ℕ) (counts : List ℕ) → slice_get counts 0 ≡ Some count → (count ≡ next → ⊥)
    → joined_from next counts ≡ record { next = next; beyond = counts }
joined_stays next count [] is other = absurd cc
joined_stays next count (k ∷ ks) is other =
    let same : k ≡ count = cc in
    rw (ne_eqb k next (λ e. other (sym same ∙ e))) refl

-- ---- what is kept of a set of COUNTs

abbrev pub any_is : List ℕ → ℕ → Bool
any_is counts n = list_any (λ (m : ℕ). m == n) counts

pub record Tells (p : ℕ → Bool) (first : ℕ) (c : CountsCome) : Type 0 where
  pub low : first ≤ c.next
  pub below : (n : ℕ) → first ≤ n → n < c.next → p n ≡ true
  pub ascend : IsAscending (c.next + 1) c.beyond
  pub there : (n : ℕ) → c.next ≤ n → p n ≡ any_is c.beyond n

pub tells_same : (p q : ℕ → Bool) (first : ℕ) (c : CountsCome) → ((n : ℕ) → p n ≡ q n) → Tells p first c
    → Tells q first c
tells_same p q first c same t = record {
  low = t.low;
  below = λ n le lt. sym (same n) ∙ t.below n le lt;
  ascend = t.ascend;
  there = λ n le. sym (same n) ∙ t.there n le;
}

none_low : (low : ℕ) (counts : List ℕ) (n : ℕ) → IsAscending low counts → n < low → any_is counts n ≡ false
none_low low [] n up lt = refl
none_low low (k ∷ ks) n up lt =
    ap (λ (b : Bool). b || any_is ks n) (ne_eqb k n (λ e. absurd (omega (arith, e, lt, up.0))))
    ∙ none_low (k + 1) ks n up.1 (omega (arith, lt, up.0))

pub tells_least : (p : ℕ → Bool) (first : ℕ) (c : CountsCome) → Tells p first c → IsLeast p first c.next
tells_least p first c t = record {
  from = t.low;
  refused = t.there c.next (omega arith) ∙ none_low (c.next + 1) c.beyond c.next t.ascend (omega arith);
  before = t.below;
}

-- ---- one more

lower : (low high : ℕ) (counts : List ℕ) → low ≤ high → IsAscending high counts → IsAscending low counts
lower low high [] le up = tt
lower low high (k ∷ ks) le up = (omega (arith, le, up.0), up.1)

insert_ascends : (low : ℕ) (counts : List ℕ) (count : ℕ) → low ≤ count → IsAscending low counts
    → IsAscending low (insert_key nat_cmp counts count)
insert_ascends low [] count le up = (le, tt)
insert_ascends low (k ∷ ks) count le up =
    by (nat_cmp count k) refl (λ above. insert_ascends (k + 1) ks count above up.1)
  where
    by : (o : Ordering) → nat_cmp count k ≡ o
        → (k + 1 ≤ count → IsAscending (k + 1) (insert_key nat_cmp ks count))
        → IsAscending low (match_ordering o (count ∷ k ∷ ks) (k ∷ ks) (k ∷ insert_key nat_cmp ks count))
    by Less e rest = (le, (let lt : count < k = less count k e in omega (arith, lt), up.1))
    by Equal e rest = up
    by Greater e rest = (up.0, rest (let gt : k < count = greater count k e in omega (arith, gt)))

or_swap : (a b c : Bool) → (a || (b || c)) ≡ (b || (a || c))
or_swap true true c = refl
or_swap true false c = refl
or_swap false b c = refl

or_again : (a b : Bool) → (a || b) ≡ (a || (a || b))
or_again true b = refl
or_again false b = refl

insert_has : (counts : List ℕ) (count n : ℕ)
    → any_is (insert_key nat_cmp counts count) n ≡ ((count == n) || any_is counts n)
insert_has [] count n = refl
insert_has (k ∷ ks) count n = by (nat_cmp count k) refl (insert_has ks count n)
  where
    by : (o : Ordering) → nat_cmp count k ≡ o
        → any_is (insert_key nat_cmp ks count) n ≡ ((count == n) || any_is ks n)
        → any_is (match_ordering o (count ∷ k ∷ ks) (k ∷ ks) (k ∷ insert_key nat_cmp ks count)) n
        ≡ ((count == n) || any_is (k ∷ ks) n)
    by Less e rest = refl
    by Equal e rest =
        let same : count ≡ k = equal count k e in
        or_again (k == n) (any_is ks n) ∙ ap (λ (m : ℕ). (m == n) || any_is (k ∷ ks) n) (sym same)
    by Greater e rest = ap (λ (b : Bool). (k == n) || b) rest ∙ or_swap (k == n) (count == n) (any_is ks n)

joined_tells : (q : ℕ → Bool) (first next : ℕ) (counts : List ℕ) → first ≤ next
    → ((n : ℕ) → first ≤ n → n < next → q n ≡ true) → IsAscending next counts
    → ((n : ℕ) → next ≤ n → q n ≡ any_is counts n) → Tells q first (joined_from next counts)
joined_tells q first next [] le below up there = record { low = le; below = below; ascend = tt; there = there }
joined_tells q first next (k ∷ ks) le below up there =
    by (k == next) refl (λ same. joined_tells q first (next + 1) ks (omega (arith, le))
    (λ n low lt. elim (cases_eq n next) [
      | inl is ↦ ap q is ∙ there next (omega arith) ∙ ap (λ (b : Bool). b || any_is ks next) (eq-eqb k next same)
      | inr other ↦ below n low (omega (arith, lt, other))
    ])
    (ascends same up.1)
    (λ n low. there n (omega (arith, low))
    ∙ ap (λ (b : Bool). b || any_is ks n) (ne_eqb k n (λ e. absurd (omega (arith, e, low, same))))))
  where
    ascends : k ≡ next → IsAscending (k + 1) ks → IsAscending (next + 1) ks
    ascends same up' = lower (next + 1) (k + 1) ks (omega (arith, same)) up'

    by : (b : Bool) → (k == next) ≡ b → (k ≡ next → Tells q first (joined_from (next + 1) ks))
        → Tells q first (if b then joined_from (next + 1) ks else record { next = next; beyond = k ∷ ks })
    by true is rest = rest (same_number k next is)
    by false is rest = record {
      low = le;
      below = below;
      ascend = (omega (arith, up.0, other_number k next is), up.1);
      there = there;
    }

or_late : (a b : Bool) → b ≡ true → (a || b) ≡ true
or_late true b e = refl
or_late false b e = e

or_early : (a b : Bool) → a ≡ true → (a || b) ≡ true
or_early a b e = rw e refl

or_none : (a b : Bool) → b ≡ false → (a || b) ≡ a
or_none true b e = refl
or_none false b e = e

or_turn : (a b : Bool) → (a || b) ≡ (b || a)
or_turn true true = refl
or_turn true false = refl
or_turn false true = refl
or_turn false false = refl

pub count_tells : (p : ℕ → Bool) (first count : ℕ) (c : CountsCome) → Tells p first c
    → Tells (λ n. p n || (count == n)) first (with_count count c)
count_tells p first count c t = elim (cases_lt count c.next) [
  | inl low ↦ rw (lt-ltb count c.next low) (record {
    low = t.low;
    below = λ n le lt. or_early (p n) (count == n) (t.below n le lt);
    ascend = t.ascend;
    there = λ n le. or_none (p n) (count == n) (ne_eqb count n (λ e. absurd (omega (arith, e, low, le))))
        ∙ t.there n le;
  })
  | inr up ↦ elim (cases_lt c.next count) [
    | inl beyond ↦ rw (le-ltb count c.next up, lt-ltb c.next count beyond) (record {
      low = t.low;
      below = λ n le lt. or_early (p n) (count == n) (t.below n le lt);
      ascend = insert_ascends (c.next + 1) c.beyond count (omega (arith, beyond)) t.ascend;
      there = λ n le.
          ap (λ (b : Bool). b || (count == n)) (t.there n le) ∙ or_turn (any_is c.beyond n) (count == n)
          ∙ sym (insert_has c.beyond count n);
    })
    | inr low ↦
        let same : count ≡ c.next = omega (arith, up, low) in
        rw (le-ltb count c.next up, le-ltb c.next count low)
        (joined_tells (λ n. p n || (count == n)) first (c.next + 1) c.beyond (omega (arith, t.low))
        (λ n le lt. elim (cases_eq n c.next) [
          | inl is ↦ or_late (p n) (count == n) (eq-eqb count n (omega (arith, same, is)))
          | inr other ↦ or_early (p n) (count == n) (t.below n le (omega (arith, lt, other)))
        ])
        t.ascend
        (λ n le. or_none (p n) (count == n) (ne_eqb count n (λ e. absurd (omega (arith, e, same, le))))
        ∙ t.there n (omega (arith, le))))
  ]
]
