-- Which SDUs are whole, by what is kept and by the history.
use Rattle.std.proofs.Common.{◌≡◌, ◌<◌, ◌≤◌, ℕ, zero, suc, ◌+◌, ◌-◌, Bool, true, false, ◌||◌, ◌&&◌, List, []}
use Rattle.std.proofs.Common.{◌∷◌, refl, ap}
use Rattle.std.proofs.Common.{sym, ◌∙◌, arith, inl, inr, subst, length, drop, min, nat_lt, Option, None, Some}
use Rattle.std.proofs.Common.{slice_index_or, slice_get, if◌then◌else◌}
use Rattle.std.specs.Prelude.{MatchOption, is_none}
use Rattle.std.proofs.lemmas.Bool.{cases_lt, and_parts, and_from, lt-ltb, le-ltb, ltb-true, leb-true}
use Rattle.std.proofs.lemmas.Bool.{le-leb}
use Rattle.rlc_pdu.specs.declared.pdu.Part.{Part}
use Rattle.rlc_pdu.specs.Runs.{has, AreAscending, gap_in}
use Rattle.rlc_pdu.specs.Places.{IsGap}
use Rattle.rlc_pdu.proofs.PlaceLaws.{gaps_are_first}
use Rattle.l2_num.specs.Least.{IsLeast}
use Rattle.journal_account.specs.FlowEvents.{FlowEvent, field_sizes}
use Rattle.journal_account.specs.Arrived.{octet_came, all_between}
use Rattle.journal_account.specs.Stream.{place_of, came_along, place_came, sdu_sizes}
use Rattle.journal_account.specs.FlowArrivals.{FieldArrivals, FlowArrivals, field_at, places_came, stream_gap}
use Rattle.journal_account.specs.FlowSdus.{FlowSdus}
use Rattle.journal_account.specs.FlowAccount.{FlowAccount}
use Rattle.journal_account.specs.FlowWholes.{stream_came}
use Rattle.journal_account.specs.Laws.{AreWhole}
use Rattle.journal_account.proofs.Along.{along_behind}
use Rattle.journal_account.proofs.ByPlace.{sizes}
use Rattle.journal_account.proofs.Complete.{between_all, between_each}
use Rattle.journal_account.proofs.Sequenced.{Ends}
use Rattle.journal_account.proofs.Standing.{Stands}
use Rattle.journal_account.proofs.Telling.{sizes_from}

-- ---- field by field

-- from a place on: the field there, and those behind it
pub fields_left : (fields : List FieldArrivals) (at : ℕ) (f : FieldArrivals) → slice_get fields at ≡ Some f
    → drop at fields ≡ f ∷ drop (at + 1) fields
fields_left [] at f is = absurd cc
fields_left (g ∷ fs) zero f is = let same : g ≡ f = cc in ap (λ (h : FieldArrivals). h ∷ fs) same
fields_left (g ∷ fs) (suc at) f is =
    let next : suc at + 1 ≡ suc (at + 1) = omega arith in
    fields_left fs at f is ∙ ap (λ (n : ℕ). f ∷ drop n (g ∷ fs)) (sym next)

none_all : (f : FieldArrivals) (from to : ℕ) → AreAscending 0 f.came → is_none (gap_in f.came from to) ≡ true
    → (i : ℕ) → from ≤ i → i < to → has f.came i ≡ true
none_all f from to up none = by (gap_in f.came from to) (gaps_are_first f.came from to up) none
  where
    by : (o : Option Part)
        → MatchOption o ((i : ℕ) → from ≤ i → i < to → has f.came i ≡ true) (IsGap f.came from to)
        → is_none o ≡ true → (i : ℕ) → from ≤ i → i < to → has f.came i ≡ true
    by None all e = all
    by (Some p) gap e = absurd cc

all_none : (f : FieldArrivals) (from to : ℕ) → AreAscending 0 f.came
    → ((i : ℕ) → from ≤ i → i < to → has f.came i ≡ true) → is_none (gap_in f.came from to) ≡ true
all_none f from to up all = by (gap_in f.came from to) (gaps_are_first f.came from to up)
  where
    by : (o : Option Part)
        → MatchOption o ((i : ℕ) → from ≤ i → i < to → has f.came i ≡ true) (IsGap f.came from to)
        → is_none o ≡ true
    by None every = refl
    by (Some p) gap =
        let there = all p.start gap.above (omega (arith, gap.some, gap.below)) in
        let missing = gap.missing p.start (omega arith) gap.some in
        absurd (let no : true ≡ false = sym there ∙ missing in cc)

-- ---- the fields tell which places have come

pub within : (came : ℕ → ℕ → Bool) (size : ℕ) (ss : List ℕ) (n q : ℕ) → q < size
    → came_along came (size ∷ ss) n q ≡ came n q
within came size ss n q lt =
    ap (λ (b : Bool). if b then came n q else came_along came ss (n + 1) (q - size)) (lt-ltb q size lt)

pub behind : (came : ℕ → ℕ → Bool) (size : ℕ) (ss : List ℕ) (n q : ℕ) → size ≤ q
    → came_along came (size ∷ ss) n q ≡ came_along came ss (n + 1) (q - size)
behind came size ss n q le =
    ap (λ (b : Bool). if b then came n q else came_along came ss (n + 1) (q - size)) (le-ltb q size le)

record Keeps (came : ℕ → ℕ → Bool) (fields : List FieldArrivals) (n : ℕ) : Type 0 where
  ascends : (k : ℕ) → AreAscending 0 (field_at fields k).came
  same : (k i : ℕ) → has (field_at fields k).came i ≡ came (n + k) i

keeps_rest : (came : ℕ → ℕ → Bool) (f : FieldArrivals) (fs : List FieldArrivals) (n : ℕ) → Keeps came (f ∷ fs) n
    → Keeps came fs (n + 1)
keeps_rest came f fs n h = record {
  ascends = λ k. h.ascends (suc k);
  same = λ k i.
      let next : n + suc k ≡ n + 1 + k = omega arith in
      h.same (suc k) i ∙ ap (λ (m : ℕ). came m i) next;
}

first_same : (came : ℕ → ℕ → Bool) (f : FieldArrivals) (fs : List FieldArrivals) (n : ℕ) → Keeps came (f ∷ fs) n
    → (i : ℕ) → has f.came i ≡ came n i
first_same came f fs n h i =
    let first : n + 0 ≡ n = omega arith in h.same 0 i ∙ ap (λ (m : ℕ). came m i) first

places_to : (came : ℕ → ℕ → Bool) (fields : List FieldArrivals) (n from to : ℕ) → Keeps came fields n
    → places_came fields from to ≡ true → (q : ℕ) → from ≤ q → q < to
    → came_along came (sizes fields) n q ≡ true
places_to came [] n from to h e q le lt = absurd (omega (arith, le, lt, leb-true to from e))
places_to came (f ∷ fs) n from to h e q le lt =
    let both = and_parts (is_none (gap_in f.came from (min to f.size)))
    (places_came fs (from - f.size) (to - f.size)) e in
    elim (cases_lt q f.size) [
      | inl here ↦
          within came f.size (sizes fs) n q here ∙ sym (first_same came f fs n h q)
          ∙ none_all f from (min to f.size) (h.ascends 0) both.0 q le (omega (arith, lt, here))
      | inr past ↦
          behind came f.size (sizes fs) n q past
          ∙ places_to came fs (n + 1) (from - f.size) (to - f.size) (keeps_rest came f fs n h) both.1 (q - f.size)
          (omega (arith, le)) (omega (arith, lt, past))
    ]

to_places : (came : ℕ → ℕ → Bool) (fields : List FieldArrivals) (n from to : ℕ) → Keeps came fields n
    → ((q : ℕ) → from ≤ q → q < to → came_along came (sizes fields) n q ≡ true)
    → places_came fields from to ≡ true
to_places came [] n from to h all = elim (cases_lt from to) [
  | inl lt ↦ let no : false ≡ true = all from (omega arith) lt in absurd cc
  | inr le ↦ le-leb to from le
]
to_places came (f ∷ fs) n from to h all =
    and_from (is_none (gap_in f.came from (min to f.size))) (places_came fs (from - f.size) (to - f.size))
    (all_none f from (min to f.size) (h.ascends 0) (λ i le lt.
    first_same came f fs n h i ∙ sym (within came f.size (sizes fs) n i (omega (arith, lt)))
    ∙ all i le (omega (arith, lt))))
    (to_places came fs (n + 1) (from - f.size) (to - f.size) (keeps_rest came f fs n h) (λ q le lt.
    let there : q + f.size - f.size ≡ q = omega arith in
    ap (came_along came (sizes fs) (n + 1)) (sym there)
    ∙ sym (behind came f.size (sizes fs) n (q + f.size) (omega arith))
    ∙ all (q + f.size) (omega (arith, le)) (omega (arith, lt))))

-- ---- the places of the stream

pub kept_place : (es : List FlowEvent) (a : FlowArrivals) → Stands es a → (q : ℕ)
    → place_came es (a.start + q) ≡ came_along (octet_came es) (sizes a.fields) a.front q
kept_place es a s q =
    let le : a.front ≤ length (field_sizes es) = omega (arith, s.tells.next) in
    let from : drop a.front (field_sizes es) ≡ sizes a.fields = sizes_from es a.front a.fields s.tells in
    let same : 0 + a.front ≡ a.front = omega arith in
    ap (λ (n : ℕ). place_came es (n + q)) s.start
    ∙ along_behind (octet_came es) (field_sizes es) a.front 0 q le
    ∙ ap (λ (n : ℕ). came_along (octet_came es) (drop a.front (field_sizes es)) n q) same
    ∙ ap (λ (xs : List ℕ). came_along (octet_came es) xs a.front q) from

keeps : (es : List FlowEvent) (a : FlowArrivals) → Stands es a → Keeps (octet_came es) a.fields a.front
keeps es a s = record { ascends = s.tells.ascends; same = s.tells.came }

pub iff : (a b : Bool) → (a ≡ true → b ≡ true) → (b ≡ true → a ≡ true) → a ≡ b
iff true b to from = sym (to refl)
iff false true to from = from refl
iff false false to from = refl

stream_is : (es : List FlowEvent) (a : FlowArrivals) (from to : ℕ) → Stands es a
    → IsLeast (place_came es) 0 (stream_gap a)
    → stream_came a from to ≡ all_between (place_came es) from to
stream_is es a from to s gap = iff (stream_came a from to) (all_between (place_came es) from to)
    (λ e. between_all (place_came es) from to (λ i le lt. elim (cases_lt i a.start) [
      | inl low ↦ gap.before i (omega arith) (omega (arith, low))
      | inr up ↦
          let at : a.start + (i - a.start) ≡ i = omega (arith, up) in
          ap (place_came es) (sym at) ∙ kept_place es a s (i - a.start)
          ∙ places_to (octet_came es) a.fields a.front (from - a.start) (to - a.start) (keeps es a s) e (i - a.start)
          (omega (arith, le)) (omega (arith, lt, up))
    ]))
    (λ e. to_places (octet_came es) a.fields a.front (from - a.start) (to - a.start) (keeps es a s) (λ q le lt.
    sym (kept_place es a s q)
    ∙ between_each (place_came es) from to (a.start + q) e (omega (arith, le)) (omega (arith, lt))))

-- ---- SDUs

-- where all has come up to a later place, it is the same from there on
skipped : (p : ℕ → Bool) (from later to : ℕ) → from ≤ later → ((i : ℕ) → i < later → p i ≡ true)
    → all_between p later to ≡ all_between p from to
skipped p from later to le all = iff (all_between p later to) (all_between p from to)
    (λ e. between_all p from to (λ i ge lt. elim (cases_lt i later) [
      | inl low ↦ all i low
      | inr up ↦ between_each p later to i e up lt
    ]))
    (λ e. between_all p later to (λ i ge lt. between_each p from to i e (omega (arith, le, ge)) lt))

begins_low : (xs : List ℕ) (gap : ℕ) (s : FlowSdus) → Ends xs gap s → place_of xs s.sequenced ≤ gap
begins_low xs gap s h = by s.sequenced refl
  where
    none : (ys : List ℕ) → place_of ys 0 ≡ 0
    none [] = refl
    none (y ∷ ys) = refl

    by : (n : ℕ) → s.sequenced ≡ n → place_of xs n ≤ gap
    by zero is = omega (arith, none xs)
    by (suc n) is =
        let at : n + 1 ≡ suc n = omega arith in
        subst (λ (m : ℕ). place_of xs m ≤ gap) at (h.gone n (omega (arith, is)))

same_test : (a b c d : ℕ) → (a < b → c < d) → (c < d → a < b) → nat_lt a b ≡ nat_lt c d
same_test a b c d to from = iff (nat_lt a b) (nat_lt c d)
    (λ e. lt-ltb c d (to (ltb-true a b e))) (λ e. lt-ltb a b (from (ltb-true c d e)))

-- what is kept of SDUs tells those whose places all pass, where all before a place pass
pub sdus_tell : (xs : List ℕ) (p : ℕ → Bool) (test : ℕ → ℕ → Bool) (gap : ℕ) (s : FlowSdus) → Ends xs gap s
    → ((i : ℕ) → i < gap → p i ≡ true) → ((from to : ℕ) → test from to ≡ all_between p from to) → (k : ℕ)
    → (nat_lt k s.sequenced || (nat_lt (k - s.sequenced) (length s.ends)
    && test (slice_index_or (gap ∷ s.ends) (k - s.sequenced) 0) (slice_index_or s.ends (k - s.sequenced) 0)))
    ≡ (nat_lt k (length xs) && all_between p (place_of xs k) (place_of xs (k + 1)))
sdus_tell xs p test gap s h before tests k = elim (cases_lt k s.sequenced) [
  | inl low ↦
      ap (λ (b : Bool). b || is_at (k - s.sequenced)) (lt-ltb k s.sequenced low)
      ∙ sym (and_from (nat_lt k (length xs)) (all_between p (place_of xs k) (place_of xs (k + 1)))
      (lt-ltb k (length xs) (omega (arith, low, h.count)))
      (between_all p (place_of xs k) (place_of xs (k + 1))
      (λ i ge lt. before i (omega (arith, lt, h.gone k low)))))
  | inr up ↦
      ap (λ (b : Bool). b || is_at (k - s.sequenced)) (le-ltb k s.sequenced up)
      ∙ by (k - s.sequenced) (omega (arith, up))
]
  where
    is_at : ℕ → Bool
    is_at j = nat_lt j (length s.ends) && test (slice_index_or (gap ∷ s.ends) j 0) (slice_index_or s.ends j 0)

    there : (j : ℕ) → s.sequenced + j ≡ k → nat_lt j (length s.ends) ≡ nat_lt k (length xs)
    there j at = same_test j (length s.ends) k (length xs)
        (λ lt. omega (arith, lt, at, h.count)) (λ lt. omega (arith, lt, at, h.count))

    end_is : (j : ℕ) → s.sequenced + j ≡ k → j < length s.ends
        → slice_index_or s.ends j 0 ≡ place_of xs (k + 1)
    end_is j at lt =
        let next : s.sequenced + j + 1 ≡ k + 1 = omega (arith, at) in
        h.ends_are j lt ∙ ap (place_of xs) next

    came : (j : ℕ) → s.sequenced + j ≡ k → j < length s.ends
        → test (slice_index_or (gap ∷ s.ends) j 0) (slice_index_or s.ends j 0)
        ≡ all_between p (place_of xs k) (place_of xs (k + 1))
    came zero at lt =
        let same : s.sequenced ≡ k = omega (arith, at) in
        tests gap (slice_index_or s.ends 0 0)
        ∙ skipped p (place_of xs s.sequenced) gap (slice_index_or s.ends 0 0) (begins_low xs gap s h) before
        ∙ ap (λ (n : ℕ). all_between p (place_of xs n) (slice_index_or s.ends 0 0)) same
        ∙ ap (all_between p (place_of xs k)) (end_is 0 at lt)
    came (suc j) at lt =
        let here : s.sequenced + j + 1 ≡ k = omega (arith, at) in
        let start : slice_index_or s.ends j 0 ≡ place_of xs k =
        h.ends_are j (omega (arith, lt)) ∙ ap (place_of xs) here in
        tests (slice_index_or s.ends j 0) (slice_index_or s.ends (suc j) 0)
        ∙ ap (λ (n : ℕ). all_between p n (slice_index_or s.ends (suc j) 0)) start
        ∙ ap (all_between p (place_of xs k)) (end_is (suc j) at lt)

    by : (j : ℕ) → s.sequenced + j ≡ k
        → is_at j ≡ (nat_lt k (length xs) && all_between p (place_of xs k) (place_of xs (k + 1)))
    by j at = elim (cases_lt j (length s.ends)) [
      | inl lt ↦
          let is : nat_lt j (length s.ends) ≡ true = lt-ltb j (length s.ends) lt in
          ap (λ (b : Bool). b && test (slice_index_or (gap ∷ s.ends) j 0) (slice_index_or s.ends j 0)) is
          ∙ came j at lt
          ∙ sym (ap (λ (b : Bool). b && all_between p (place_of xs k) (place_of xs (k + 1)))
          (sym (there j at) ∙ is))
      | inr le ↦
          let not_there : nat_lt j (length s.ends) ≡ false = le-ltb j (length s.ends) le in
          ap (λ (b : Bool). b && test (slice_index_or (gap ∷ s.ends) j 0) (slice_index_or s.ends j 0)) not_there
          ∙ sym (ap (λ (b : Bool). b && all_between p (place_of xs k) (place_of xs (k + 1)))
          (sym (there j at) ∙ not_there))
    ]

pub are_whole : (es : List FlowEvent) (a : FlowAccount) → Stands es a.arrivals
    → Ends (sdu_sizes es) (stream_gap a.arrivals) a.sdus → IsLeast (place_came es) 0 (stream_gap a.arrivals)
    → AreWhole es a
are_whole es a s h gap =
    sdus_tell (sdu_sizes es) (place_came es) (stream_came a.arrivals) (stream_gap a.arrivals) a.sdus h
    (λ i lt. gap.before i (omega arith) lt) (λ from to. stream_is es a.arrivals from to s gap)
