-- What the answers of a set of places mean.
use Rattle.std.proofs.Common.{◌≡◌, inl, inr, ◌+◌, ◌-◌, ◌<◌, ◌≤◌, ℕ, Bool, true, false, ◌||◌, ◌&&◌, cond, List, [], ◌∷◌}
use Rattle.std.proofs.Common.{Option, Some, None, min, max, refl, sym, ◌∙◌, arith, ltb, leb}
use Rattle.std.specs.Prelude.{MatchOption}
use Rattle.std.proofs.lemmas.Bool.{cases_lt, lt-ltb, le-ltb, le-leb, lt-leb, ltb-true, ltb-false, leb-true}
use Rattle.rlc_pdu.specs.declared.pdu.Part.{Part}
use Rattle.rlc_pdu.specs.Runs.{Run, lies_in, has, covers, AreAscending, between, gap_in}
use Rattle.rlc_pdu.specs.Places.{CoversAll, IsGap, GapsAreFirst}

and_false : (a : Bool) → (a && false) ≡ false
and_false true = refl
and_false false = refl

or_true : (a : Bool) → (a || true) ≡ true
or_true true = refl
or_true false = refl

in_run : (r : Run) (i : ℕ) → r.from ≤ i → i < r.to → lies_in r i ≡ true
in_run r i a b = rw (le-leb r.from i a, lt-ltb i r.to b) refl

below_run : (r : Run) (i : ℕ) → i < r.from → lies_in r i ≡ false
below_run r i h = rw (lt-leb r.from i h) refl

above_run : (r : Run) (i : ℕ) → r.to ≤ i → lies_in r i ≡ false
above_run r i h = rw (le-ltb i r.to h) (and_false (leb r.from i))

below_none : (low i : ℕ) (rs : List Run) → AreAscending low rs → i < low → has rs i ≡ false
below_none low i [] h lt = refl
below_none low i (r ∷ rs) h lt =
    rw (below_run r i (omega (arith, h.0, lt)), below_none (r.to + 1) i rs h.2 (omega (arith, h.0, h.1, lt))) refl

in_first : (r : Run) (rs : List Run) (i : ℕ) → r.from ≤ i → i < r.to → has (r ∷ rs) i ≡ true
in_first r rs i a b = rw (in_run r i a b) refl

in_rest : (r : Run) (rs : List Run) (i : ℕ) → has rs i ≡ true → has (r ∷ rs) i ≡ true
in_rest r rs i e = rw e (or_true (lies_in r i))

past_first : (r : Run) (rs : List Run) (i : ℕ) → r.to ≤ i → has (r ∷ rs) i ≡ has rs i
past_first r rs i h = rw (above_run r i h) refl

-- ---- gaps

abbrev Answers : List Run → ℕ → ℕ → Option Part → Type 0
Answers runs from size answer =
    MatchOption answer ((i : ℕ) → from ≤ i → i < size → has runs i ≡ true) (IsGap runs from size)

gap_behind : (from size : ℕ) (b : Bool) → ltb from size ≡ b
    → Answers [] from size (cond b (Some (record { start = from; end = size - 1 })) None)
gap_behind from size true e =
    let lt = ltb-true from size e in
    record {
      above = omega arith;
      some = omega (arith, lt);
      below = omega (arith, lt);
      missing = λ i a b. refl;
      first = λ i a b. absurd (omega (arith, a, b));
      largest = λ more. absurd (omega (arith, more));
    }
gap_behind from size false e = let ge = ltb-false from size e in λ i a b. absurd (omega (arith, a, b, ge))

gap_front : (low from size : ℕ) (r : Run) (rs : List Run) → AreAscending low (r ∷ rs) → from < r.from → (b : Bool)
    → ltb from (min r.from size) ≡ b
    → Answers (r ∷ rs) from size (cond b (Some (record { start = from; end = min r.from size - 1 })) None)
gap_front low from size r rs h here true e =
    let lt = ltb-true from (min r.from size) e in
    record {
      above = omega arith;
      some = omega (arith, lt);
      below = omega (arith, lt);
      missing = λ i a b. rw (
        below_run r i (omega (arith, lt, b)),
        below_none (r.to + 1) i rs h.2 (omega (arith, lt, b, h.1)),
      ) refl;
      first = λ i a b. absurd (omega (arith, a, b));
      largest = λ more. in_first r rs (min r.from size - 1 + 1) (omega (arith, more, lt))
          (omega (arith, more, lt, h.1));
    }
gap_front low from size r rs h here false e = let ge = ltb-false from (min r.from size) e in
    λ i a b. absurd (omega (arith, a, b, ge, here))

either : (r : Run) (rs : List Run) (from i : ℕ) → r.from ≤ from → from ≤ i → (max from r.to ≤ i → has rs i ≡ true)
    → has (r ∷ rs) i ≡ true
either r rs from i before at later = elim (cases_lt i r.to) [
  | inl lt ↦ in_first r rs i (omega (arith, before, at)) lt
  | inr ge ↦ in_rest r rs i (later (omega (arith, ge, at)))
]

gap_later : (from size : ℕ) (r : Run) (rs : List Run) → r.from ≤ from → (answer : Option Part)
    → Answers rs (max from r.to) size answer → Answers (r ∷ rs) from size answer
gap_later from size r rs before None h = λ i a b. either r rs from i before a (λ at. h i at b)
gap_later from size r rs before (Some p) h = record {
  above = omega (arith, h.above);
  some = h.some;
  below = h.below;
  missing = λ i a b. past_first r rs i (omega (arith, h.above, a)) ∙ h.missing i a b;
  first = λ i a b. either r rs from i before a (λ at. h.first i at b);
  largest = λ more. in_rest r rs (p.end + 1) (h.largest more);
}

gap_answers : (low from size : ℕ) (runs : List Run) → AreAscending low runs
    → Answers runs from size (gap_in runs from size)
gap_answers low from size [] h = gap_behind from size (ltb from size) refl
gap_answers low from size (r ∷ rs) h = go (ltb from r.from) refl (gap_answers (r.to + 1) (max from r.to) size rs h.2)
  where
    go : (b : Bool) → ltb from r.from ≡ b → Answers rs (max from r.to) size (gap_in rs (max from r.to) size)
        → Answers (r ∷ rs) from size (cond b (between from (min r.from size)) (gap_in rs (max from r.to) size))
    go true e later = gap_front low from size r rs h (ltb-true from r.from e) (ltb from (min r.from size)) refl
    go false e later = gap_later from size r rs (ltb-false from r.from e) (gap_in rs (max from r.to) size) later

pub gaps_are_first : GapsAreFirst
gaps_are_first runs from size h = gap_answers 0 from size runs h

-- ---- coverage

and_parts : (a b : Bool) → (a && b) ≡ true → (a ≡ true) × (b ≡ true)
and_parts true b e = (refl, e)
and_parts false b e = absurd cc

covered_all : (runs : List Run) (from to i : ℕ) → covers runs from to ≡ true → from ≤ i → i < to → has runs i ≡ true
covered_all [] from to i e a b = absurd cc
covered_all (r ∷ rs) from to i e a b = go (leb r.from from && leb to r.to) refl e (λ f. covered_all rs from to i f a b)
  where
    go : (t : Bool) → (leb r.from from && leb to r.to) ≡ t → (t || covers rs from to) ≡ true
        → (covers rs from to ≡ true → has rs i ≡ true) → has (r ∷ rs) i ≡ true
    go true et f later =
        let parts = and_parts (leb r.from from) (leb to r.to) et in
        in_first r rs i (omega (arith, leb-true r.from from parts.0, a)) (omega (arith, leb-true to r.to parts.1, b))
    go false et f later = in_rest r rs i (later f)

all_covered : (low : ℕ) (runs : List Run) (from to : ℕ) → AreAscending low runs → from < to
    → ((i : ℕ) → from ≤ i → i < to → has runs i ≡ true) → covers runs from to ≡ true
all_covered low [] from to h lt all = let bad : false ≡ true = all from (omega arith) lt in absurd cc
all_covered low (r ∷ rs) from to h lt all =
    elim (cases_lt from r.to) [
      | inl before ↦ elim (cases_lt from r.from) [
        | inl out ↦
            let none : has (r ∷ rs) from ≡ false =
            rw (below_run r from out, below_none (r.to + 1) from rs h.2 (omega (arith, before))) refl in
            let bad : false ≡ true = sym none ∙ all from (omega arith) lt in
            absurd cc
        | inr from-in ↦ elim (cases_lt r.to to) [
          | inl past ↦
              let none : has (r ∷ rs) r.to ≡ false = past_first r rs r.to (omega arith)
              ∙ below_none (r.to + 1) r.to rs h.2 (omega arith) in
              let bad : false ≡ true = sym none ∙ all r.to (omega (arith, before)) past in
              absurd cc
          | inr whole ↦ rw (le-leb r.from from from-in, le-leb to r.to whole) refl
        ]
      ]
      | inr behind ↦
          let rest =
          all_covered (r.to + 1) rs from to h.2 lt (λ i a b. sym (past_first r rs i (omega (arith, behind, a)))
          ∙ all i a b) in
          rw rest (or_true (leb r.from from && leb to r.to))
    ]

pub covers_all : CoversAll
covers_all runs from to h lt = record {
  all = λ e i a b. covered_all runs from to i e a b;
  only = λ all. all_covered 0 runs from to h lt all;
}
