-- Where an account of what the PDUs of a flow tell and the history of its lives agree, the same
-- COUNTs have come.
use Rattle.std.proofs.Common.{◌≡◌, ◌<◌, ◌≤◌, ℕ, zero, suc, ◌+◌, ◌-◌, Bool, true, false, ◌||◌, ◌&&◌, List, []}
use Rattle.std.proofs.Common.{◌∷◌, length, map, Option, Some, None, inl, inr, refl, ap, sym, ◌∙◌, arith, nat_lt}
use Rattle.std.specs.Prelude.{slice_index}
use Rattle.std.specs.List.{AllByRecursion}
use Rattle.std.proofs.lemmas.Bool.{ltb-true, lt-ltb, le-ltb, cases_lt, and_parts, and_from}
use Rattle.std.proofs.lemmas.List.{length-map}
use Rattle.l2_num.specs.Least.{IsLeast}
use Rattle.law_words.specs.Arrivals.{Given, Account, has_place, whole_in, sequence_in, has_come, renewed}
use Rattle.law_words.specs.Arrivals as words
use Rattle.law_words.specs.Stretches.{octet_has_come, all_from}
use Rattle.law_words.specs.Stretches as stretches
use Rattle.journal_account.specs.FlowEvents.{FlowEvent, field_sizes}
use Rattle.journal_account.specs.Arrived.{all_below, all_between}
use Rattle.journal_account.specs.Stream.{place_of, sdu_sizes, sdu_end, place_came, is_in_sequence, is_whole_sdu}
use Rattle.journal_lives.specs.LifeEvents.{LifeEvent, LifeEnded, running, counts_in, is_count, passes_with, came_before}
use Rattle.journal_lives.specs.LifeEvents.{count_came}
use Rattle.law_sound.proofs.Places.{stretches_in, IsWithin, place_same, place_is, from_is, below_more}
use Rattle.law_sound.proofs.Places.{place_next}

-- ---- the two tell the same

pub record Agrees (a : Account) (es : List LifeEvent) : Type 0 where
  -- the numbers that were written, and what of their fields has come
  pub fields : a.rlc.fields ≡ field_sizes (running es)
  pub came : a.rlc.came ≡ stretches_in (running es)
  pub within : AllByRecursion (IsWithin (field_sizes (running es))) (stretches_in (running es))
  -- what RLC was given
  pub counts : map (λ (g : Given). g.count) a.given ≡ counts_in es
  pub sizes : map (λ (g : Given). g.size) a.given ≡ sdu_sizes (running es)
  -- what came in lives that ended
  pub ended : (count : ℕ) → a.ended count ≡ came_before es count

-- ---- a PDU of PDCP is whole

abbrev octet : List FlowEvent → ℕ → Bool
octet es place = octet_has_come (field_sizes es) (stretches_in es) place

abbrev Within : List FlowEvent → Type 0
Within es = AllByRecursion (IsWithin (field_sizes es)) (stretches_in es)

pub whole_is : (es : List FlowEvent) (k : ℕ) → Within es
    → stretches.has_arrived (sdu_sizes es) (field_sizes es) (stretches_in es) k ≡ is_whole_sdu es k
whole_is es k within = by (nat_lt k (length (sdu_sizes es))) refl
  where
    by : (b : Bool) → nat_lt k (length (sdu_sizes es)) ≡ b
        → (b && all_from (octet_has_come (field_sizes es) (stretches_in es)) (stretches.place_of (sdu_sizes es) k)
        (slice_index (sdu_sizes es) k))
        ≡ (b && all_between (place_came es) (place_of (sdu_sizes es) k) (sdu_end es k))
    by true is =
        let next = place_next (sdu_sizes es) k (ltb-true k (length (sdu_sizes es)) is) in
        let size : slice_index (sdu_sizes es) k ≡ sdu_end es k - place_of (sdu_sizes es) k = omega (arith, next) in
        from_is (octet es) (place_came es) (stretches.place_of (sdu_sizes es) k) (slice_index (sdu_sizes es) k)
        (λ place. place_is (field_sizes es) es place within)
        ∙ ap (λ (p : ℕ). all_below (λ i. place_came es (p + i)) (slice_index (sdu_sizes es) k))
        (place_same (sdu_sizes es) k)
        ∙ ap (all_below (λ i. place_came es (place_of (sdu_sizes es) k + i))) size
    by false is = refl

-- ---- those that are whole, and those in sequence

same_count : (own : Option ℕ) (count : ℕ) → words.is_count own count ≡ is_count own count
same_count None count = refl
same_count (Some own) count = refl

whole_passes : (p q : ℕ → Bool) (k : ℕ) (given : List Given) (count : ℕ) → ((j : ℕ) → p j ≡ q j)
    → whole_in p k given count ≡ passes_with q k (map (λ (g : Given). g.count) given) count
whole_passes p q k [] count same = refl
whole_passes p q k (g ∷ given) count same =
    ap (λ (b : Bool). (b && words.is_count g.count count) || whole_in p (k + 1) given count) (same k)
    ∙ ap (λ (b : Bool). (q k && b) || whole_in p (k + 1) given count) (same_count g.count count)
    ∙ ap (λ (b : Bool). (q k && is_count g.count count) || b) (whole_passes p q (k + 1) given count same)

-- all octets before the k-th have come
abbrev front : List FlowEvent → ℕ → Bool
front es k = all_below (place_came es) (place_of (sdu_sizes es) k)

at_first : (xs : List ℕ) → place_of xs 0 ≡ 0
at_first [] = refl
at_first (x ∷ xs) = refl

front_none : (es : List FlowEvent) → front es 0 ≡ true
front_none es = ap (all_below (place_came es)) (at_first (sdu_sizes es))

front_next : (es : List FlowEvent) (k : ℕ) → k < length (sdu_sizes es)
    → front es (k + 1) ≡ (front es k && is_whole_sdu es k)
front_next es k lt =
    let next = place_next (sdu_sizes es) k lt in
    let end : sdu_end es k ≡ place_of (sdu_sizes es) k + (sdu_end es k - place_of (sdu_sizes es) k) =
    omega (arith, next) in
    ap (all_below (place_came es)) end
    ∙ below_more (place_came es) (place_of (sdu_sizes es) k) (sdu_end es k - place_of (sdu_sizes es) k)
    ∙ ap (λ (b : Bool). front es k && (b && all_between (place_came es) (place_of (sdu_sizes es) k) (sdu_end es k)))
    (sym (lt-ltb k (length (sdu_sizes es)) lt))

-- where all before the k-th are whole, and only there
front_all : (es : List FlowEvent) (k : ℕ) → ((j : ℕ) → j < k → is_whole_sdu es j ≡ true) → front es k ≡ true
front_all es zero all = front_none es
front_all es (suc k) all =
    let at : suc k ≡ k + 1 = omega arith in
    let whole = all k (omega arith) in
    let there = (and_parts (nat_lt k (length (sdu_sizes es))) _ whole).0 in
    ap (λ (n : ℕ). front es n) at ∙ front_next es k (ltb-true k (length (sdu_sizes es)) there)
    ∙ ap (λ (b : Bool). b && is_whole_sdu es k) (front_all es k (λ j lt. all j (omega (arith, lt)))) ∙ whole

front_before : (es : List FlowEvent) (k n : ℕ) → k + n ≤ length (sdu_sizes es) → front es (k + n) ≡ true
    → front es k ≡ true
front_before es k zero le is =
    let at : k ≡ k + 0 = omega arith in ap (λ (m : ℕ). front es m) at ∙ is
front_before es k (suc n) le is =
    let at : k + n + 1 ≡ k + suc n = omega arith in
    front_before es k n (omega (arith, le))
    (and_parts (front es (k + n)) (is_whole_sdu es (k + n))
    (sym (front_next es (k + n) (omega (arith, le))) ∙ ap (λ (m : ℕ). front es m) at ∙ is)).0

sequence_passes : (p : ℕ → Bool) (es : List FlowEvent) (k : ℕ) (given : List Given) (count : ℕ)
    → ((j : ℕ) → p j ≡ is_whole_sdu es j) → k + length given ≡ length (sdu_sizes es)
    → passes_with (is_in_sequence es) k (map (λ (g : Given). g.count) given) count
    ≡ (front es k && sequence_in p k given count)
sequence_passes p es k [] count same all = sym (none (front es k))
  where
    none : (b : Bool) → (b && false) ≡ false
    none true = refl
    none false = refl
sequence_passes p es k (g ∷ given) count same all =
    let lt : k < length (sdu_sizes es) = omega (arith, all) in
    let here : is_in_sequence es k ≡ (front es k && p k) =
    ap (λ (b : Bool). b && front es (k + 1)) (lt-ltb k (length (sdu_sizes es)) lt) ∙ front_next es k lt
    ∙ ap (λ (b : Bool). front es k && b) (sym (same k)) in
    let next : front es (k + 1) ≡ (front es k && p k) =
    front_next es k lt ∙ ap (λ (b : Bool). front es k && b) (sym (same k)) in
    let ih = sequence_passes p es (k + 1) given count same (omega (arith, all)) in
    ap (λ (b : Bool). (b && is_count g.count count)
    || passes_with (is_in_sequence es) (k + 1) (map (λ (g : Given). g.count) given) count) here
    ∙ ap (λ (b : Bool). ((front es k && p k) && is_count g.count count) || b)
    (ih ∙ ap (λ (b : Bool). b && sequence_in p (k + 1) given count) next)
    ∙ ap (λ (c : Bool). ((front es k && p k) && c) || ((front es k && p k) && sequence_in p (k + 1) given count))
    (sym (same_count g.count count))
    ∙ joined (front es k) (p k) (words.is_count g.count count) (sequence_in p (k + 1) given count)
  where
    joined : (a b c d : Bool) → (((a && b) && c) || ((a && b) && d)) ≡ (a && (b && (c || d)))
    joined true true c d = refl
    joined true false c d = refl
    joined false b c d = refl

-- ---- the same has come

pub place_whole : (a : Account) (es : List LifeEvent) → Agrees a es → (k : ℕ)
    → has_place a k ≡ is_whole_sdu (running es) k
place_whole a es h k =
    ap (λ (xs : List ℕ). stretches.has_arrived xs a.rlc.fields a.rlc.came k) h.sizes
    ∙ ap (λ (xs : List ℕ). stretches.has_arrived (sdu_sizes (running es)) xs a.rlc.came k) h.fields
    ∙ ap (λ (ss : List stretches.Stretch).
    stretches.has_arrived (sdu_sizes (running es)) (field_sizes (running es)) ss k) h.came
    ∙ whole_is (running es) k h.within

pub same_come : (a : Account) (es : List LifeEvent) → Agrees a es → (count : ℕ) → has_come a count ≡ count_came es count
same_come a es h count =
    let many : 0 + length a.given ≡ length (sdu_sizes (running es)) =
    omega (arith, length-map a.given (λ (g : Given). g.size), ap (length {A = ℕ}) h.sizes) in
    ap (λ (b : Bool). b || sequence_in (has_place a) 0 a.given count) (h.ended count)
    ∙ ap (λ (b : Bool). came_before es count || b)
    (sym (sequence_passes (has_place a) (running es) 0 a.given count (place_whole a es h) many
    ∙ ap (λ (b : Bool). b && sequence_in (has_place a) 0 a.given count) (front_none (running es)))
    ∙ ap (λ (os : List (Option ℕ)). passes_with (is_in_sequence (running es)) 0 os count) h.counts)

-- those in sequence are the ones before the first that isn't whole
pub sequence_by_passed : (a : Account) (es : List LifeEvent) (passed : ℕ) → Agrees a es
    → IsLeast (has_place a) 0 passed → (k : ℕ) → is_in_sequence (running es) k ≡ nat_lt k passed
sequence_by_passed a es passed h least k = elim (cases_lt k passed) [
  | inl lt ↦
      and_from (nat_lt k many) (front (running es) (k + 1))
      (and_parts (nat_lt k many) _ (whole k lt)).0
      (front_all (running es) (k + 1) (λ j low. whole j (omega (arith, low, lt))))
      ∙ sym (lt-ltb k passed lt)
  | inr le ↦ by (is_in_sequence (running es) k) refl le ∙ sym (le-ltb k passed le)
]
  where
    many : ℕ
    many = length (sdu_sizes (running es))

    whole : (j : ℕ) → j < passed → is_whole_sdu (running es) j ≡ true
    whole j lt = sym (place_whole a es h j) ∙ least.before j (omega arith) lt

    by : (b : Bool) → is_in_sequence (running es) k ≡ b → passed ≤ k → is_in_sequence (running es) k ≡ false
    by false is le = is
    by true is le =
        let both = and_parts (nat_lt k many) (front (running es) (k + 1)) is in
        let low : k < many = ltb-true k many both.0 in
        let at : k + 1 ≡ passed + 1 + (k - passed) = omega (arith, le) in
        let up : front (running es) (passed + 1) ≡ true =
        front_before (running es) (passed + 1) (k - passed) (omega (arith, le, low))
        (ap (λ (m : ℕ). front (running es) m) (sym at) ∙ both.1) in
        let also : is_whole_sdu (running es) passed ≡ true =
        (and_parts (front (running es) passed) (is_whole_sdu (running es) passed)
        (sym (front_next (running es) passed (omega (arith, le, low))) ∙ up)).1 in
        absurd (let no = sym (place_whole a es h passed ∙ also) ∙ least.refused in cc)

-- a life ends
pub agrees_ended : (a : Account) (es : List LifeEvent) → Agrees a es → Agrees (renewed a) (LifeEnded ∷ es)
agrees_ended a es h = record {
  fields = refl;
  came = refl;
  within = tt;
  counts = refl;
  sizes = refl;
  ended = λ count.
      ap (λ (b : Bool). b || whole_in (has_place a) 0 a.given count) (h.ended count)
      ∙ ap (λ (b : Bool). came_before es count || b)
      (whole_passes (has_place a) (is_whole_sdu (running es)) 0 a.given count (place_whole a es h)
      ∙ ap (λ (os : List (Option ℕ)). passes_with (is_whole_sdu (running es)) 0 os count) h.counts);
}
