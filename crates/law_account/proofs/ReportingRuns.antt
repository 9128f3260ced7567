-- What is said of one number: the runs of places that aren't held, and those that didn't come.
use Rattle.std.proofs.Common.{◌≡◌, ◌<◌, ◌≤◌, inl, inr, ℕ, suc, ◌+◌, ◌-◌, Bool, true, false, not, ◌||◌, ◌&&◌, ◌==◌}
use Rattle.std.proofs.Common.{List, [], ◌∷◌, ◌++◌, map, length, Option, Some, None, is_some, is_none, refl, ap, sym}
use Rattle.std.proofs.Common.{subst, ◌∙◌, arith, nat_le, nat_lt, if◌then◌else◌}
use Rattle.std.proofs.lemmas.Bool.{cases_lt, cases_eq, lt-ltb, le-ltb, le-leb, ne_eqb, eq-eqb, and_from, and_right}
use Rattle.std.proofs.lemmas.Bool.{or_left}
use Rattle.std.proofs.lemmas.List.{get_or_past}
use Rattle.std.proofs.lemmas.Bool.Decides.{nat_tests}
use Rattle.std.proofs.Math.Bool.{or-false, or_assoc}
use Rattle.rlc_pdu.specs.declared.pdu.Part.{Part}
use Rattle.rlc_pdu.specs.Runs.{Run, run_between, some_run, lies_in, has, covers, AreAscending, gap_in}
use Rattle.rlc_pdu.proofs.PlaceLaws.{covers_all}
use Rattle.rlc_am_rx_window.specs.Cells.{Cell, cell_at}
use Rattle.rlc_am_rx_window.specs.Held.{Held, is_complete, has_end, ends_at}
use Rattle.rlc_am_rx_window.specs.Missing.{range, tail, runs, whole, of_part, missing_of}
use Rattle.journal_account.specs.declared.entry.StatusEntry.{StatusEntry}
use Rattle.journal_account.specs.FlowArrivals.{FieldArrivals, is_whole}
use Rattle.journal_account.specs.TrueStatus.{AreMissing, range_of, whole_of, said_of}
use Rattle.journal_account.specs.FlowStatus.{gaps_in, said_of_field}
use Rattle.journal_account.proofs.Gaps.{none_between, run_there, gaps_end}
use Rattle.journal_account.proofs.Missing.{are_missing, one_missing}
use Rattle.law_rlc.proofs.AmReceiver.Places.{there}
use Rattle.law_account.specs.Receiving.{AreOctetsAccounted}
use Rattle.law_account.specs.LateStatus.{entry_of}
use Rattle.law_account.proofs.ReceivingOctets.{whole_same}

-- the runs of places that aren't held, below a field's end; one may have begun in front of them
abbrev missing_runs : List (Option Cell) → ℕ → ℕ → ℕ → List Run
missing_runs [] at from size = some_run from size
missing_runs (None ∷ cs) at from size = missing_runs cs (at + 1) from size
missing_runs (Some c ∷ cs) at from size = some_run from at ++ missing_runs cs (at + 1) (at + 1) size

-- ---- they ascend

lower : (low high : ℕ) (rs : List Run) → low ≤ high → AreAscending high rs → AreAscending low rs
lower low high [] le h = tt
lower low high (r ∷ rs) le h = (omega (arith, h.0, le), h.1, h.2)

joined_ascend : (from at : ℕ) (rs : List Run) → from ≤ at → AreAscending (at + 1) rs
    → AreAscending from (some_run from at ++ rs)
joined_ascend from at rs le h = elim (cases_lt from at) [
  | inl some ↦ rw (run_there from at some) (omega arith, some, h)
  | inr none ↦ rw (none_between from at none) (lower from (at + 1) rs (omega (arith, le)) h)
]

runs_ascend : (cs : List (Option Cell)) (at from size : ℕ) → from ≤ at
    → AreAscending from (missing_runs cs at from size)
runs_ascend [] at from size le = elim (cases_lt from size) [
  | inl some ↦ rw (run_there from size some) (omega arith, some, tt)
  | inr none ↦ rw (none_between from size none) tt
]
runs_ascend (None ∷ cs) at from size le = runs_ascend cs (at + 1) from size (omega (arith, le))
runs_ascend (Some c ∷ cs) at from size le =
    joined_ascend from at (missing_runs cs (at + 1) (at + 1) size) le
    (runs_ascend cs (at + 1) (at + 1) size (omega arith))

-- ---- and have just these places

some_has : (from to i : ℕ) → has (some_run from to) i ≡ (nat_le from i && nat_lt i to)
some_has from to i = elim (cases_lt from to) [
  | inl lt ↦ rw (run_there from to lt) (or-false (nat_le from i && nat_lt i to))
  | inr le ↦ rw (none_between from to le) (sym (nothing from to i le))
]
  where
    nothing : (from to i : ℕ) → to ≤ from → (nat_le from i && nat_lt i to) ≡ false
    nothing from to i le = grind (arith, nat_tests)

has_both : (xs ys : List Run) (i : ℕ) → has (xs ++ ys) i ≡ (has xs i || has ys i)
has_both [] ys i = refl
has_both (x ∷ xs) ys i = ap (λ (b : Bool). lies_in x i || b) (has_both xs ys i)
    ∙ sym (or_assoc (lies_in x i) (has xs i) (has ys i))

last_step : (from size i : ℕ) (b : Bool) → (from ≤ i → b ≡ false)
    → (nat_le from i && nat_lt i size) ≡ (nat_le from i && (nat_lt i size && not b))
last_step from size i true none = elim (cases_lt i from) [
  | inl lt ↦ grind (arith, nat_tests)
  | inr le ↦ let no : true ≡ false = none le in absurd cc
]
last_step from size i false none = grind (arith, nat_tests)

held_step : (from at size i : ℕ) (b : Bool) → from ≤ at → at < size → (from ≤ i → i < at → b ≡ false)
    → (i ≡ at → b ≡ true)
    → ((nat_le from i && nat_lt i at) || (nat_le (at + 1) i && (nat_lt i size && not b)))
    ≡ (nat_le from i && (nat_lt i size && not b))
held_step from at size i true le lt none here = elim (cases_lt i from) [
  | inl below ↦ grind (arith, nat_tests)
  | inr up ↦ elim (cases_lt i at) [
    | inl before ↦ let no : true ≡ false = none up before in absurd cc
    | inr behind ↦ grind (arith, nat_tests)
  ]
]
held_step from at size i false le lt none here = elim (cases_eq i at) [
  | inl same ↦ let no : false ≡ true = here same in absurd cc
  | inr other ↦ grind (arith, nat_tests)
]

abbrev Open : (ℕ → Bool) → ℕ → ℕ → Type 0
Open come from at = (i : ℕ) → from ≤ i → i < at → come i ≡ false

next_link : (come : ℕ → Bool) (at : ℕ) (c : Option Cell) (cs : List (Option Cell))
    → ((j : ℕ) → come (at + j) ≡ there (c ∷ cs) j) → (j : ℕ) → come (at + 1 + j) ≡ there cs j
next_link come at c cs link j = let e : at + suc j ≡ at + 1 + j = omega arith in
    subst (λ (k : ℕ). come k ≡ there cs j) e (link (suc j))

first_link : (come : ℕ → Bool) (at : ℕ) (c : Option Cell) (cs : List (Option Cell))
    → ((j : ℕ) → come (at + j) ≡ there (c ∷ cs) j) → come at ≡ is_some c
first_link come at c cs link = let e : at + 0 ≡ at = omega arith in subst (λ (k : ℕ). come k ≡ is_some c) e (link 0)

past_link : (come : ℕ → Bool) (from at : ℕ) → ((j : ℕ) → come (at + j) ≡ there [] j) → Open come from at → (i : ℕ)
    → from ≤ i → come i ≡ false
past_link come from at link open' i le = elim (cases_lt i at) [
  | inl lt ↦ open' i le lt
  | inr past ↦ let e : at + (i - at) ≡ i = omega (arith, past) in
      subst (λ (k : ℕ). come k ≡ false) e (link (i - at))
]

runs_has : (come : ℕ → Bool) (cs : List (Option Cell)) (at from size i : ℕ) → from ≤ at
    → ((j : ℕ) → come (at + j) ≡ there cs j) → Open come from at → at + length cs ≤ size
    → has (missing_runs cs at from size) i ≡ (nat_le from i && (nat_lt i size && not (come i)))
runs_has come [] at from size i le link open' low =
    some_has from size i ∙ last_step from size i (come i) (past_link come from at link open' i)
runs_has come (None ∷ cs) at from size i le link open' low =
    runs_has come cs (at + 1) from size i (omega (arith, le)) (next_link come at None cs link)
    (λ j from' to. elim (cases_lt j at) [
      | inl before ↦ open' j from' before
      | inr past ↦ let e : at ≡ j = omega (arith, past, to) in
          subst (λ (k : ℕ). come k ≡ false) e (first_link come at None cs link)
    ]) (omega (arith, low))
runs_has come (Some c ∷ cs) at from size i le link open' low =
    has_both (some_run from at) (missing_runs cs (at + 1) (at + 1) size) i
    ∙ rw (
      some_has from at i,
      runs_has come cs (at + 1) (at + 1) size i (omega arith) (next_link come at (Some c) cs link)
          (λ j from' to. absurd (omega (arith, from', to))) (omega (arith, low)),
    )
    (held_step from at size i (come i) le (omega (arith, low)) (open' i)
    (λ same. ap come same ∙ first_link come at (Some c) cs link))

-- ---- the ranges that are written

abbrev Gap : Option ℕ → ℕ → ℕ → Type 0
Gap None from at = from ≡ at
Gap (Some g) from at = (g ≡ from) × (from < at)

-- where the places end the field ends too, or it goes on
record Ends (ended : Bool) (at size : ℕ) : Type 0 where
  here : ended ≡ true → at ≡ size
  on : ended ≡ false → at < size

next_ends : (ended : Bool) (at n size : ℕ) → Ends ended (at + suc n) size → Ends ended (at + 1 + n) size
next_ends ended at n size e = record {
  here = λ is. omega (arith, e.here is);
  on = λ is. omega (arith, e.on is);
}

ends_low : (ended : Bool) (at size : ℕ) → Ends ended at size → at ≤ size
ends_low true at size e = omega (arith, e.here refl)
ends_low false at size e = omega (arith, e.on refl)

tail_is : (n from size : ℕ) → range_of n size (run_between from size) ≡ entry_of (of_part n (tail from))
tail_is n from size =
    ap (λ (b : Bool). the_entry n from (if b then size - 1 else 32767)) (le-ltb size size (omega arith))
  where
    the_entry : ℕ → ℕ → ℕ → StatusEntry
    the_entry n from end = record { number = n; part = Some (record { start = from; end = end }) }

range_is : (n from to size : ℕ) → to < size
    → range_of n size (run_between from to) ≡ entry_of (of_part n (range from to))
range_is n from to size lt =
    ap (λ (b : Bool). the_entry n from (if b then to - 1 else 32767)) (lt-ltb to size lt)
  where
    the_entry : ℕ → ℕ → ℕ → StatusEntry
    the_entry n from end = record { number = n; part = Some (record { start = from; end = end }) }

abbrev said_parts : ℕ → List Part → List StatusEntry
said_parts n ps = map entry_of (map (of_part n) ps)

ranges_are : (n : ℕ) (cs : List (Option Cell)) (at from size : ℕ) (gap : Option ℕ) (ended : Bool) → Gap gap from at
    → Ends ended (at + length cs) size
    → said_parts n (runs cs at gap ended) ≡ map (range_of n size) (missing_runs cs at from size)
ranges_are n [] at from size None true g e =
    let none : size ≤ from = omega (arith, g, e.here refl) in
    sym (ap (map (range_of n size)) (none_between from size none))
ranges_are n [] at from size None false g e =
    let some : from < size = omega (arith, g, e.on refl) in
    ap (λ (k : ℕ). entry_of (of_part n (tail k)) ∷ []) (sym g)
    ∙ sym (ap (map (range_of n size)) (run_there from size some)
    ∙ ap (λ (x : StatusEntry). x ∷ []) (tail_is n from size))
ranges_are n [] at from size (Some k) ended g e =
    let some : from < size = omega (arith, g.1, ends_low ended (at + 0) size e) in
    ap (λ (k : ℕ). entry_of (of_part n (tail k)) ∷ []) g.0
    ∙ sym (ap (map (range_of n size)) (run_there from size some)
    ∙ ap (λ (x : StatusEntry). x ∷ []) (tail_is n from size))
ranges_are n (Some c ∷ cs) at from size None ended g e =
    ranges_are n cs (at + 1) (at + 1) size None ended refl (next_ends ended at (length cs) size e)
    ∙ sym (ap (λ (rs : List Run). map (range_of n size) (rs ++ missing_runs cs (at + 1) (at + 1) size))
    (none_between from at (omega (arith, g))))
ranges_are n (Some c ∷ cs) at from size (Some k) ended g e =
    let lt : at < size = omega (arith, ends_low ended (at + suc (length cs)) size e) in
    ap (λ (k : ℕ). entry_of (of_part n (range k at)) ∷ said_parts n (runs cs (at + 1) None ended)) g.0
    ∙ (ap (λ (xs : List StatusEntry). entry_of (of_part n (range from at)) ∷ xs)
    (ranges_are n cs (at + 1) (at + 1) size None ended refl (next_ends ended at (length cs) size e))
    ∙ sym (ap (λ (rs : List Run). map (range_of n size) (rs ++ missing_runs cs (at + 1) (at + 1) size))
    (run_there from at g.1)
    ∙ ap (λ (x : StatusEntry). x ∷ map (range_of n size) (missing_runs cs (at + 1) (at + 1) size))
    (range_is n from at size lt)))
ranges_are n (None ∷ cs) at from size None ended g e =
    ranges_are n cs (at + 1) from size (Some at) ended (sym g, omega (arith, g))
    (next_ends ended at (length cs) size e)
ranges_are n (None ∷ cs) at from size (Some k) ended g e =
    ranges_are n cs (at + 1) from size (Some k) ended (g.0, omega (arith, g.1))
    (next_ends ended at (length cs) size e)

-- ---- of one number

-- the places that are held end in the field, and with it where its length is told
held_ends : (h : Held) (f : FieldArrivals) → AreOctetsAccounted h f → 0 < length h.cells
    → Ends (has_end h) (0 + length h.cells) f.size
held_ends h f a some = by (has f.came (f.size - 1)) refl
  where
    last : has f.came (length h.cells - 1) ≡ true
    last = sym (a.octets (length h.cells - 1)) ∙ a.last some

    low : length h.cells ≤ f.size
    low = elim (cases_lt f.size (length h.cells)) [
      | inl lt ↦ let no : true ≡ false = sym last ∙ a.within (length h.cells - 1) (omega (arith, lt)) in absurd cc
      | inr le ↦ le
    ]

    enough : has f.came (f.size - 1) ≡ true → f.size ≤ length h.cells
    enough e = elim (cases_lt (f.size - 1) (length h.cells)) [
      | inl lt ↦ omega (arith, lt)
      | inr past ↦
          let none : is_some (cell_at h.cells (f.size - 1)) ≡ false =
          ap (λ (c : Option Cell). is_some c) (get_or_past h.cells (f.size - 1) None past) in
          let no : true ≡ false = sym e ∙ (sym (a.octets (f.size - 1)) ∙ none) in absurd cc
    ]

    ended : (b : Bool) → has f.came (f.size - 1) ≡ b
        → has_end h ≡ ends_at (if b then Some f.size else None) (length h.cells)
    ended b e =
        ap (λ (o : Option ℕ). ends_at o (length h.cells))
        (a.told ∙ ap (λ (c : Bool). if c then Some f.size else None) e)

    by : (b : Bool) → has f.came (f.size - 1) ≡ b → Ends (has_end h) (0 + length h.cells) f.size
    by true e =
        let same : f.size ≡ length h.cells = omega (arith, enough e, low) in
        let is : has_end h ≡ true = ended true e ∙ eq-eqb f.size (length h.cells) same in
        record {
          here = λ i. omega (arith, same);
          on = λ no. absurd (let never : true ≡ false = sym is ∙ no in cc);
        }
    by false e =
        let is : has_end h ≡ false = ended false e in
        record {
          here = λ no. absurd (let never : false ≡ true = sym is ∙ no in cc);
          on = λ i. elim (cases_eq (length h.cells) f.size) [
            | inl same ↦
                let here : has f.came (f.size - 1) ≡ true =
                subst (λ (k : ℕ). has f.came (k - 1) ≡ true) same last in
                let no : true ≡ false = sym here ∙ e in absurd cc
            | inr other ↦ omega (arith, low, other)
          ];
        }

-- as the account has them
gaps_are : (h : Held) (f : FieldArrivals) → AreOctetsAccounted h f → length h.cells ≤ f.size
    → gaps_in f.came 0 f.size ≡ missing_runs h.cells 0 0 f.size
gaps_are h f a low =
    one_missing (has f.came) f.size (gaps_in f.came 0 f.size) (missing_runs h.cells 0 0 f.size)
    (are_missing (has f.came) f.size f.came a.ascends (λ i. refl))
    (record {
      ascend = runs_ascend h.cells 0 0 f.size (omega arith);
      are = λ i.
          runs_has (has f.came) h.cells 0 0 f.size i (omega arith)
          (λ j. ap (has f.came) (omega arith) ∙ sym (a.octets j))
          (λ j from to. absurd (omega (arith, to))) (omega (arith, low))
          ∙ ap (λ (b : Bool). b && (nat_lt i f.size && not (has f.came i))) (le-leb 0 i (omega arith));
    })

held_low : (h : Held) (f : FieldArrivals) → AreOctetsAccounted h f → length h.cells ≤ f.size
held_low h f a = elim (cases_lt 0 (length h.cells)) [
  | inl some ↦ omega (arith, ends_low (has_end h) (0 + length h.cells) f.size (held_ends h f a some))
  | inr none ↦ omega (arith, none)
]

-- an octet of it came: not all of it is missing
not_covered : (h : Held) (f : FieldArrivals) → AreOctetsAccounted h f → 0 < length h.cells
    → covers (gaps_in f.came 0 f.size) 0 f.size ≡ false
not_covered h f a some = by (covers (gaps_in f.came 0 f.size) 0 f.size) refl
  where
    missing : AreMissing (has f.came) f.size (gaps_in f.came 0 f.size)
    missing = are_missing (has f.came) f.size f.came a.ascends (λ i. refl)

    by : (b : Bool) → covers (gaps_in f.came 0 f.size) 0 f.size ≡ b → b ≡ false
    by false e = refl
    by true e =
        let i : ℕ = length h.cells - 1 in
        let came : has f.came (length h.cells - 1) ≡ true = sym (a.octets (length h.cells - 1)) ∙ a.last some in
        let there' : has (gaps_in f.came 0 f.size) (length h.cells - 1) ≡ true =
        (covers_all (gaps_in f.came 0 f.size) 0 f.size missing.ascend a.some).all e (length h.cells - 1) (omega arith)
        (omega (arith, held_low h f a, some)) in
        let none : has (gaps_in f.came 0 f.size) (length h.cells - 1) ≡ false =
        missing.are (length h.cells - 1)
        ∙ (ap (λ (b : Bool). nat_lt (length h.cells - 1) f.size && not b) came
        ∙ and_right (nat_lt (length h.cells - 1) f.size) false refl) in
        let no : true ≡ false = sym there' ∙ none in absurd cc

-- all of it is, where no octet is held
all_covered : (h : Held) (f : FieldArrivals) → AreOctetsAccounted h f → h.cells ≡ []
    → covers (gaps_in f.came 0 f.size) 0 f.size ≡ true
all_covered h f a none =
    ap (λ (rs : List Run). covers rs 0 f.size)
    (gaps_are h f a (held_low h f a)
    ∙ (ap (λ (cs : List (Option Cell)). missing_runs cs 0 0 f.size) none ∙ run_there 0 f.size a.some))
    ∙ or_left (nat_le 0 0 && nat_le f.size f.size) false
    (and_from (nat_le 0 0) (nat_le f.size f.size) (le-leb 0 0 (omega arith)) (le-leb f.size f.size (omega arith)))

none_of_whole : (n : ℕ) (f : FieldArrivals) → is_whole f ≡ true → said_of_field n f ≡ []
none_of_whole n f whole' = ap (said_of n f.size) (by (gap_in f.came 0 f.size) refl whole')
  where
    by : (o : Option Part) → gap_in f.came 0 f.size ≡ o → is_none o ≡ true → gaps_in f.came 0 f.size ≡ []
    by None e w = gaps_end f.came 0 f.size e
    by (Some p) e w = absurd cc

pub said_same : (n : ℕ) (h : Held) (f : FieldArrivals) → AreOctetsAccounted h f
    → map entry_of (missing_of n h) ≡ said_of_field n f
said_same n h f a = go (is_complete h) refl h.cells refl
  where
    go : (b : Bool) → is_complete h ≡ b → (cells : List (Option Cell)) → h.cells ≡ cells
        → map entry_of (if b then [] else if length cells == 0 then whole n ∷ []
        else map (of_part n) (runs h.cells 0 None (has_end h)))
        ≡ said_of_field n f
    go true full cells e = sym (none_of_whole n f (sym (whole_same h f a) ∙ full))
    go false part [] e =
        sym (ap (λ (b : Bool). if b then whole_of n ∷ [] else map (range_of n f.size) (gaps_in f.came 0 f.size))
        (all_covered h f a e))
    go false part (c ∷ cs) e =
        let some : 0 < length h.cells = omega (arith, ap (λ (xs : List (Option Cell)). length xs) e) in
        ap (λ (b : Bool). map entry_of (if b then whole n ∷ [] else map (of_part n) (runs h.cells 0 None (has_end h))))
        (ne_eqb (suc (length cs)) 0 (λ z. omega (arith, z)))
        ∙ (ranges_are n h.cells 0 0 f.size None (has_end h) refl (held_ends h f a some)
        ∙ (ap (map (range_of n f.size)) (sym (gaps_are h f a (held_low h f a)))
        ∙ sym (ap (λ (b : Bool). if b then whole_of n ∷ [] else map (range_of n f.size) (gaps_in f.came 0 f.size))
        (not_covered h f a some))))
