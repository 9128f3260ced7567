-- Sets of COUNTs as lists: one more, those from one on, and the first that isn't among them.
use Rattle.std.proofs.Common.{◌≡◌, ◌<◌, ◌≤◌, ℕ, suc, ◌+◌, ◌-◌, ◌==◌, Bool, true, false, ◌||◌, ◌&&◌, List, []}
use Rattle.std.proofs.Common.{◌∷◌, Some, refl, ap, sym, ◌∙◌, arith, subst, nat_lt, if◌then◌else◌, slice_get}
use Rattle.std.proofs.Common.{drop, inl, inr, Ordering, Less, Equal, Greater}
use Rattle.std.specs.BTreeSet.{insert_key}
use Rattle.std.specs.Cmp.{ranks}
use Rattle.std.specs.Ordering.{nat_cmp, match_ordering, MatchOrdering}
use Rattle.std.proofs.lemmas.Bool.{cases_eq, eq-eqb, ne_eqb, le-ltb, ltb-true}
use Rattle.std.proofs.lemmas.List.{drop_all}
use Rattle.journal_takes.specs.TakeEvents.{has_count}
use Rattle.journal_takes.specs.FlowTakes.{counts_from, first_open, with_marks}

-- ---- the first that isn't among them

pub search-step : (counts : List ℕ) (next at : ℕ) → at < next
    → first_open counts next at ≡ (if has_count counts at then first_open counts next (at + 1) else at)
search-step counts next at lt =
    let more : next - at ≡ suc (next - (at + 1)) = omega (arith, lt) in
    rw more refl

pub search-end : (counts : List ℕ) (next at : ℕ) → next ≤ at → first_open counts next at ≡ at
search-end counts next at le =
    let none : next - at ≡ 0 = omega (arith, le) in
    rw none refl

pub ruleset searches = (search-step, search-end)

-- ---- those from one on

pub first_stays : (low : ℕ) (counts : List ℕ) (count : ℕ) → slice_get counts 0 ≡ Some count → low ≤ count
    → counts_from low counts ≡ counts
first_stays low [] count is le = absurd cc
first_stays low (k ∷ ks) count is le =
    let same : k ≡ count = cc in
    rw (le-ltb k low (omega (arith, le, same))) refl

pub from_has : (low : ℕ) (counts : List ℕ) (n : ℕ) → low ≤ n → has_count (counts_from low counts) n ≡ has_count counts n
from_has low [] n le = refl
from_has low (k ∷ ks) n le = by (nat_lt k low) refl (from_has low ks n le)
  where
    by : (b : Bool) → nat_lt k low ≡ b → has_count (counts_from low ks) n ≡ has_count ks n
        → has_count (if b then counts_from low ks else k ∷ ks) n ≡ ((k == n) || has_count ks n)
    by true is rest =
        let lt : k < low = ltb-true k low is in
        rest ∙ sym (ap (λ (b : Bool). b || has_count ks n) (ne_eqb k n (λ e. absurd (omega (arith, e, lt, le)))))
    by false is rest = refl

-- ---- one more

equal : (a b : ℕ) → nat_cmp a b ≡ Equal → a ≡ b
equal a b e = subst (λ (o : Ordering). MatchOrdering o (a < b) (a ≡ b) (b < a)) e (ranks a b)

pub or_swap : (a b c : Bool) → (a || (b || c)) ≡ (b || (a || c))
or_swap true true c = refl
or_swap true false c = refl
or_swap false b c = refl

or_again : (a b : Bool) → (a || b) ≡ (a || (a || b))
or_again true b = refl
or_again false b = refl

pub insert_has : (counts : List ℕ) (count n : ℕ)
    → has_count (insert_key nat_cmp counts count) n ≡ ((count == n) || has_count counts n)
insert_has [] count n = refl
insert_has (k ∷ ks) count n = by (nat_cmp count k) refl (insert_has ks count n)
  where
    by : (o : Ordering) → nat_cmp count k ≡ o
        → has_count (insert_key nat_cmp ks count) n ≡ ((count == n) || has_count ks n)
        → has_count (match_ordering o (count ∷ k ∷ ks) (k ∷ ks) (k ∷ insert_key nat_cmp ks count)) n
        ≡ ((count == n) || has_count (k ∷ ks) n)
    by Less e rest = refl
    by Equal e rest =
        let same : count ≡ k = equal count k e in
        or_again (k == n) (has_count ks n) ∙ ap (λ (m : ℕ). (m == n) || has_count (k ∷ ks) n) (sym same)
    by Greater e rest = ap (λ (b : Bool). (k == n) || b) rest ∙ or_swap (k == n) (count == n) (has_count ks n)

-- and those of marks that lie below the next new one
mark_has : (next mark n : ℕ) (counts : List ℕ)
    → has_count (if nat_lt mark next then insert_key nat_cmp counts mark else counts) n
    ≡ ((nat_lt n next && (mark == n)) || has_count counts n)
mark_has next mark n counts = elim (cases_eq mark n) [
  | inl same ↦
      let is : (mark == n) ≡ true = eq-eqb mark n same in
      by (nat_lt mark next) (ap (λ (k : ℕ). nat_lt k next) same) is
  | inr other ↦
      let isnt : (mark == n) ≡ false = ne_eqb mark n other in
      unmarked (nat_lt mark next) isnt
]
  where
    by : (b : Bool) → b ≡ nat_lt n next → (mark == n) ≡ true
        → has_count (if b then insert_key nat_cmp counts mark else counts) n
        ≡ ((nat_lt n next && (mark == n)) || has_count counts n)
    by true e is =
        insert_has counts mark n
        ∙ ap (λ (b : Bool). (b && (mark == n)) || has_count counts n) e
    by false e is = ap (λ (b : Bool). (b && (mark == n)) || has_count counts n) e

    none : (b c : Bool) → c ≡ false → (b && c) ≡ false
    none true c e = e
    none false c e = refl

    unmarked : (b : Bool) → (mark == n) ≡ false
        → has_count (if b then insert_key nat_cmp counts mark else counts) n
        ≡ ((nat_lt n next && (mark == n)) || has_count counts n)
    unmarked true e =
        insert_has counts mark n ∙ ap (λ (b : Bool). b || has_count counts n) e
        ∙ sym (ap (λ (b : Bool). b || has_count counts n) (none (nat_lt n next) (mark == n) e))
    unmarked false e = sym (ap (λ (b : Bool). b || has_count counts n) (none (nat_lt n next) (mark == n) e))

both_marks : (lt one more among : Bool)
    → ((lt && more) || ((lt && one) || among)) ≡ ((lt && (one || more)) || among)
both_marks true true true among = refl
both_marks true true false among = refl
both_marks true false true among = refl
both_marks true false false among = refl
both_marks false one more among = refl

none_marked : (lt among : Bool) → among ≡ ((lt && false) || among)
none_marked true among = refl
none_marked false among = refl

pub marks_have : (next n : ℕ) (marks counts : List ℕ)
    → has_count (with_marks next marks counts) n ≡ ((nat_lt n next && has_count marks n) || has_count counts n)
marks_have next n [] counts = none_marked (nat_lt n next) (has_count counts n)
marks_have next n (mark ∷ marks) counts =
    marks_have next n marks (if nat_lt mark next then insert_key nat_cmp counts mark else counts)
    ∙ ap (λ (b : Bool). (nat_lt n next && has_count marks n) || b) (mark_has next mark n counts)
    ∙ both_marks (nat_lt n next) (mark == n) (has_count marks n) (has_count counts n)

-- ---- the SDUs of COUNTs from one on

pub drop-step : (xs : List (List ℕ)) (low from : ℕ) → from < low
    → drop (low - from) xs ≡ drop (low - (from + 1)) (drop 1 xs)
drop-step xs low from lt =
    let more : low - from ≡ suc (low - (from + 1)) = omega (arith, lt) in
    rw more (by xs)
  where
    by : (ys : List (List ℕ)) → drop (suc (low - (from + 1))) ys ≡ drop (low - (from + 1)) (drop 1 ys)
    by [] = sym (drop_all (low - (from + 1)) [] (omega arith))
    by (y ∷ ys) = refl

pub drop-none : (xs : List (List ℕ)) (low from : ℕ) → low ≤ from → drop (low - from) xs ≡ xs
drop-none xs low from le =
    let none : low - from ≡ 0 = omega (arith, le) in
    rw none refl

pub ruleset drops = (drop-step, drop-none)
