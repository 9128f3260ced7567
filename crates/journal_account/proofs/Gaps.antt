-- The gaps of a set of places, one by one and all together.
use Rattle.std.proofs.Common.{◌≡◌, ◌<◌, ◌≤◌, ℕ, ◌+◌, ◌-◌, Bool, true, false, List, [], ◌∷◌}
use Rattle.std.proofs.Common.{◌++◌, Option, Some, None, refl, ap, sym, ◌∙◌, arith, subst, min, max, nat_lt}
use Rattle.std.proofs.Common.{if◌then◌else◌, inl, inr}
use Rattle.std.specs.Prelude.{IfSome}
use Rattle.std.proofs.lemmas.Bool.{cases_lt, ltb-true, lt-ltb}
use Rattle.std.proofs.lemmas.Bool.Decides.{nat_tests}
use Rattle.std.proofs.lemmas.List.{append-nil}
use Rattle.rlc_pdu.specs.declared.pdu.Part.{Part}
use Rattle.rlc_pdu.specs.Runs.{Run, run_between, some_run, AreAscending, between, gap_in}
use Rattle.journal_account.specs.FlowStatus.{gaps_in}

-- ---- the first of them

abbrev part_of : ℕ → ℕ → Part
part_of from to = record { start = from; end = to - 1 }

between_within : (from to size : ℕ) → to ≤ size → IfSome (between from to) (λ p. (p.end < size) × (from ≤ p.end))
between_within from to size le = step (nat_lt from to) refl
  where
    step : (b : Bool) → nat_lt from to ≡ b
        → IfSome (if b then Some (part_of from to) else None)
        (λ p. (p.end < size) × (from ≤ p.end))
    step true e = let lt : from < to = ltb-true from to e in (omega arith, omega arith)
    step false e = tt

pub gap_within : (runs : List Run) (from size : ℕ)
    → IfSome (gap_in runs from size) (λ p. (p.end < size) × (from ≤ p.end))
gap_within [] from size = between_within from size size (omega arith)
gap_within (r ∷ rs) from size = step (nat_lt from r.from) (gap_within rs (max from r.to) size)
  where
    more : (o : Option Part) → IfSome o (λ p. (p.end < size) × (max from r.to ≤ p.end))
        → IfSome o (λ p. (p.end < size) × (from ≤ p.end))
    more None h = tt
    more (Some p) h = (h.0, omega (arith, h.1))

    step : (b : Bool) → IfSome (gap_in rs (max from r.to) size) (λ p. (p.end < size) × (max from r.to ≤ p.end))
        → IfSome (if b then between from (min r.from size) else gap_in rs (max from r.to) size)
        (λ p. (p.end < size) × (from ≤ p.end))
    step true h = between_within from (min r.from size) size (omega arith)
    step false h = more (gap_in rs (max from r.to) size) h

pub gap_end : (runs : List Run) (from size : ℕ) → IfSome (gap_in runs from size) (λ p. p.end < size)
gap_end runs from size = first (gap_in runs from size) (gap_within runs from size)
  where
    first : (o : Option Part) → IfSome o (λ p. (p.end < size) × (from ≤ p.end)) → IfSome o (λ p. p.end < size)
    first None h = tt
    first (Some p) h = h.0

pub gap_above : (runs : List Run) (from size : ℕ) → IfSome (gap_in runs from size) (λ p. from ≤ p.end)
gap_above runs from size = second (gap_in runs from size) (gap_within runs from size)
  where
    second : (o : Option Part) → IfSome o (λ p. (p.end < size) × (from ≤ p.end)) → IfSome o (λ p. from ≤ p.end)
    second None h = tt
    second (Some p) h = h.1

-- ---- all of them

not_less : (a b : ℕ) → b ≤ a → nat_lt a b ≡ false
not_less a b h = grind (arith, nat_tests)

pub none_between : (from to : ℕ) → to ≤ from → some_run from to ≡ []
none_between from to le = rw (not_less from to le) refl

pub run_there : (from to : ℕ) → from < to → some_run from to ≡ run_between from to ∷ []
run_there from to lt = rw (lt-ltb from to lt) refl

between_there : (from to : ℕ) → from < to → between from to ≡ Some (part_of from to)
between_there from to lt = rw (lt-ltb from to lt) refl

between_none : (from to : ℕ) → to ≤ from → between from to ≡ None
between_none from to le = rw (not_less from to le) refl

first_gap : (r : Run) (rs : List Run) (from size : ℕ) → from < r.from
    → gap_in (r ∷ rs) from size ≡ between from (min r.from size)
first_gap r rs from size lt = rw (lt-ltb from r.from lt) refl

next_gap : (r : Run) (rs : List Run) (from size : ℕ) → r.from ≤ from
    → gap_in (r ∷ rs) from size ≡ gap_in rs (max from r.to) size
next_gap r rs from size le = rw (not_less from r.from le) refl

none_past : (runs : List Run) (from size : ℕ) → size ≤ from → gaps_in runs from size ≡ []
none_past [] from size le = none_between from size le
none_past (r ∷ rs) from size le =
    rw (none_between from (min r.from size) (omega arith)) (none_past rs (max from r.to) size (omega arith))

-- where there is no first one, there is none
pub gaps_end : (runs : List Run) (from size : ℕ) → gap_in runs from size ≡ None → gaps_in runs from size ≡ []
gaps_end [] from size none = elim (cases_lt from size) [
  | inl lt ↦ let no : Some (part_of from size) ≡ None = sym (between_there from size lt) ∙ none in absurd cc
  | inr le ↦ none_between from size le
]
gaps_end (r ∷ rs) from size none = elim (cases_lt from r.from) [
  | inl lt ↦ elim (cases_lt from size) [
    | inl some ↦
        let there : gap_in (r ∷ rs) from size ≡ Some (part_of from (min r.from size)) =
        first_gap r rs from size lt ∙ between_there from (min r.from size) (omega arith) in
        let no : Some (part_of from (min r.from size)) ≡ None = sym there ∙ none in absurd cc
    | inr past ↦ none_past (r ∷ rs) from size past
  ]
  | inr le ↦ rw (none_between from (min r.from size) (omega arith))
      (gaps_end rs (max from r.to) size (sym (next_gap r rs from size le) ∙ none))
]

-- behind the first one stand those from its end on
pub record GapsGo (runs : List Run) (from size : ℕ) (p : Part) : Type 0 where
  pub above : from ≤ p.start
  pub some : p.start ≤ p.end
  pub gaps : gaps_in runs from size ≡ run_between p.start (p.end + 1) ∷ gaps_in runs (p.end + 1) size

run_is : (from to : ℕ) → from < to → run_between from to ≡ run_between from (to - 1 + 1)
run_is from to lt = let same : to ≡ to - 1 + 1 = omega arith in ap (run_between from) same

go_between : (rest : List Run) (runs : List Run) (from to size : ℕ) (p : Part) → between from to ≡ Some p
    → gaps_in runs from size ≡ some_run from to ++ rest → gaps_in runs to size ≡ rest → GapsGo runs from size p
go_between rest runs from to size p is all left = elim (cases_lt from to) [
  | inl lt ↦
      let same : Some (part_of from to) ≡ Some p = sym (between_there from to lt) ∙ is in
      let part : part_of from to ≡ p = cc in
      subst (λ (q : Part). GapsGo runs from size q) part (record {
        above = omega arith;
        some = omega arith;
        gaps =
            let end : to ≡ to - 1 + 1 = omega arith in
            all ∙ ap (λ (rs : List Run). rs ++ rest) (run_there from to lt)
            ∙ ap (λ (r : Run). r ∷ rest) (run_is from to lt)
            ∙ ap (λ (rs : List Run). run_between from (to - 1 + 1) ∷ rs)
            (sym left ∙ ap (λ (n : ℕ). gaps_in runs n size) end);
      })
  | inr le ↦ let no : None ≡ Some p = sym (between_none from to le) ∙ is in absurd cc
]

pub gaps_go : (low from size : ℕ) (runs : List Run) (p : Part) → AreAscending low runs
    → gap_in runs from size ≡ Some p → GapsGo runs from size p
gaps_go low from size [] p up is = go_between [] [] from size size p is (sym (append-nil (some_run from size)))
    (none_between size size (omega arith))
gaps_go low from size (r ∷ rs) p up is = elim (cases_lt from r.from) [
  | inl lt ↦
      let to : ℕ = min r.from size in
      let same : max from r.to ≡ max (min r.from size) r.to = omega (arith, lt, up.1) in
      go_between (gaps_in rs (max from r.to) size) (r ∷ rs) from (min r.from size) size p
      (sym (first_gap r rs from size lt) ∙ is) refl
      (rw (none_between (min r.from size) (min r.from size) (omega arith))
      (ap (λ (n : ℕ). gaps_in rs n size) (sym same)))
  | inr le ↦
      let g : GapsGo rs (max from r.to) size p =
      gaps_go (r.to + 1) (max from r.to) size rs p up.2 (sym (next_gap r rs from size le) ∙ is) in
      let past : max (p.end + 1) r.to ≡ p.end + 1 = omega (arith, g.above, g.some) in
      record {
        above = omega (arith, g.above);
        some = g.some;
        gaps =
            rw (none_between from (min r.from size) (omega arith))
            (rw (none_between (p.end + 1) (min r.from size) (omega (arith, g.above, g.some)))
            (g.gaps ∙ ap (λ (n : ℕ). run_between p.start (p.end + 1) ∷ gaps_in rs n size) (sym past)));
      }
]

-- behind where the places end there is none
pub gap_past : (runs : List Run) (from size : ℕ) → size ≤ from → gap_in runs from size ≡ None
gap_past [] from size le = between_none from size le
gap_past (r ∷ rs) from size le = elim (cases_lt from r.from) [
  | inl lt ↦ first_gap r rs from size lt ∙ between_none from (min r.from size) (omega arith)
  | inr ge ↦ next_gap r rs from size ge ∙ gap_past rs (max from r.to) size (omega arith)
]
