-- The runs of a number's places are its gaps.
use Rattle.std.proofs.Common.{◌≡◌, ◌<◌, ◌≤◌, inl, inr, ℕ, suc, zero, ◌+◌, ◌-◌, Bool, true, false, List, [], ◌∷◌, length}
use Rattle.std.proofs.Common.{Option, Some, None, is_some, refl, subst, arith}
use Rattle.std.proofs.lemmas.Bool.{cases_lt}
use Rattle.rlc_am_rx_window.specs.Cells.{Cell}
use Rattle.rlc_am_rx_window.specs.Missing.{run_last, runs}
use Rattle.law_rlc.specs.AmReceiver.Status.{InField, AreGaps}
use Rattle.law_rlc.proofs.AmReceiver.Places.{there}

-- what is known in front of a place: the run that is open there
abbrev pub Open : (ℕ → Bool) → Option ℕ → ℕ → ℕ → Type 0
Open come None from at = (from ≤ at) × ((i : ℕ) → from ≤ i → i < at → come i ≡ true)
Open come (Some g) from at = (from ≤ g) × (g < at) × ((i : ℕ) → from ≤ i → i < g → come i ≡ true)
    × ((i : ℕ) → g ≤ i → i < at → come i ≡ false)

abbrev pub Ends : Bool → Option ℕ → ℕ → Type 0
Ends true size at = size ≡ Some at
Ends false size at = size ≡ None

past_all : (come : ℕ → Bool) (at : ℕ) → ((j : ℕ) → come (at + j) ≡ there [] j) → (i : ℕ) → at ≤ i → come i ≡ false
past_all come at link i h = let e : at + (i - at) ≡ i = omega (arith, h) in
    subst (λ (k : ℕ). come k ≡ false) e (link (i - at))

last_gap : (come : ℕ → Bool) (size : Option ℕ) (at : ℕ) (gap : Option ℕ) (from : ℕ) (e : Bool)
    → ((j : ℕ) → come (at + j) ≡ there [] j) → Ends e size at → Open come gap from at
    → AreGaps come size from (run_last at gap e)
last_gap come size at (Some g) from e link ends o = inr (
  record {
    above = o.0;
    here = in_field size e ends;
    before = o.2;
    missing = λ i a f. elim (cases_lt i at) [ inl below ↦ o.3 i a below | inr past ↦ past_all come at link i past ];
    end_is = refl;
  },
  refl,
)
  where
    in_field : (size : Option ℕ) (e : Bool) → Ends e size at → InField size g
    in_field None e h = tt
    in_field (Some n) true h = let same : Some n ≡ Some at = h in let is : n ≡ at = cc in omega (arith, is, o.1)
    in_field (Some n) false h = let no : Some n ≡ None = h in cc
last_gap come size at None from true link ends o = all size ends
  where
    all : (size : Option ℕ) → size ≡ Some at → (i : ℕ) → from ≤ i → InField size i → come i ≡ true
    all None h i a f = let no : None ≡ Some at = h in cc
    all (Some n) h i a f = let same : Some n ≡ Some at = h in let is : n ≡ at = cc in o.1 i a (omega (arith, is, f))
last_gap come size at None from false link ends o = inr (
  record {
    above = o.0;
    here = none size ends;
    before = o.1;
    missing = λ i a f. past_all come at link i a;
    end_is = refl;
  },
  refl,
)
  where
    none : (size : Option ℕ) → size ≡ None → InField size at
    none None h = tt
    none (Some n) h = let no : Some n ≡ None = h in cc

next_link : (come : ℕ → Bool) (at : ℕ) (c : Option Cell) (cs : List (Option Cell))
    → ((j : ℕ) → come (at + j) ≡ there (c ∷ cs) j) → (j : ℕ) → come (at + 1 + j) ≡ there cs j
next_link come at c cs link j = let e : at + suc j ≡ at + 1 + j = omega arith in
    subst (λ (k : ℕ). come k ≡ there cs j) e (link (suc j))

first_link : (come : ℕ → Bool) (at : ℕ) (c : Option Cell) (cs : List (Option Cell))
    → ((j : ℕ) → come (at + j) ≡ there (c ∷ cs) j) → come at ≡ is_some c
first_link come at c cs link = let e : at + 0 ≡ at = omega arith in subst (λ (k : ℕ). come k ≡ is_some c) e (link 0)

next_ends : (e : Bool) (size : Option ℕ) (at n : ℕ) → Ends e size (at + suc n) → Ends e size (at + 1 + n)
next_ends true size at n h = let e : at + suc n ≡ at + 1 + n = omega arith in subst (λ (k : ℕ). size ≡ Some k) e h
next_ends false size at n h = h

here_or_before : (come : ℕ → Bool) (from at : ℕ) (b : Bool) → come at ≡ b → ((i : ℕ) → from ≤ i → i < at → come i ≡ b)
    → (i : ℕ) → from ≤ i → i < at + 1 → come i ≡ b
here_or_before come from at b here before i a l = elim (cases_lt i at) [
  | inl under ↦ before i a under
  | inr past ↦ let e : at ≡ i = omega (arith, past, l) in subst (λ (k : ℕ). come k ≡ b) e here
]

pub runs_are_gaps : (come : ℕ → Bool) (size : Option ℕ) (cs : List (Option Cell)) (at : ℕ) (gap : Option ℕ) (from : ℕ)
    (e : Bool) → ((j : ℕ) → come (at + j) ≡ there cs j) → Ends e size (at + length cs) → Open come gap from at
    → AreGaps come size from (runs cs at gap e)
runs_are_gaps come size [] at gap from e link ends o = last_gap come size at gap from e link (same e ends) o
  where
    same : (e : Bool) → Ends e size (at + 0) → Ends e size at
    same true h = let z : at + 0 ≡ at = omega arith in subst (λ (k : ℕ). size ≡ Some k) z h
    same false h = h
runs_are_gaps come size (Some c ∷ cs) at None from e link ends o =
    runs_are_gaps come size cs (at + 1) None from e (next_link come at (Some c) cs link)
    (next_ends e size at (length cs) ends)
    (omega (arith, o.0), here_or_before come from at true (first_link come at (Some c) cs link) o.1)
runs_are_gaps come size (Some c ∷ cs) at (Some g) from e link ends o =
    let last : at - 1 + 1 ≡ at = omega (arith, o.1) in
    inl (
      record {
        above = o.0;
        some = omega (arith, o.1);
        before = o.2;
        missing = λ i a b. o.3 i a (omega (arith, b, o.1));
        behind = rw last (first_link come at (Some c) cs link);
      },
      rw last (runs_are_gaps come size cs (at + 1) None at e (next_link come at (Some c) cs link)
          (next_ends e size at (length cs) ends) (
            omega arith,
            here_or_before come at at true (first_link come at (Some c) cs link)
                (λ i a l. absurd (omega (arith, a, l))),
          )),
    )
runs_are_gaps come size (None ∷ cs) at None from e link ends o =
    runs_are_gaps come size cs (at + 1) (Some at) from e (next_link come at None cs link)
    (next_ends e size at (length cs) ends) (
      o.0,
      omega arith,
      o.1,
      here_or_before come at at false (first_link come at None cs link) (λ i a l. absurd (omega (arith, a, l))),
    )
runs_are_gaps come size (None ∷ cs) at (Some g) from e link ends o =
    runs_are_gaps come size cs (at + 1) (Some g) from e (next_link come at None cs link)
    (next_ends e size at (length cs) ends)
    (o.0, omega (arith, o.1), o.2, here_or_before come g at false (first_link come at None cs link) o.3)

-- there is none only where the field is known to end
pub no_runs : (cs : List (Option Cell)) (at : ℕ) (gap : Option ℕ) (e : Bool) → runs cs at gap e ≡ [] → e ≡ true
no_runs [] at (Some g) e h = cc
no_runs [] at None true h = refl
no_runs [] at None false h = cc
no_runs (Some c ∷ cs) at None e h = no_runs cs (at + 1) None e h
no_runs (Some c ∷ cs) at (Some g) e h = cc
no_runs (None ∷ cs) at None e h = no_runs cs (at + 1) (Some at) e h
no_runs (None ∷ cs) at (Some g) e h = no_runs cs (at + 1) (Some g) e h

some_run : (cs : List (Option Cell)) (at g : ℕ) (e : Bool) → runs cs at (Some g) e ≡ [] → ⊥
some_run [] at g e h = cc
some_run (Some c ∷ cs) at g e h = cc
some_run (None ∷ cs) at g e h = some_run cs (at + 1) g e h

-- and where all is there
pub no_runs_full : (cs : List (Option Cell)) (at : ℕ) (e : Bool) → runs cs at None e ≡ [] → (i : ℕ) → i < length cs
    → there cs i ≡ true
no_runs_full [] at e h i below = absurd (omega (arith, below))
no_runs_full (Some c ∷ cs) at e h zero below = refl
no_runs_full (Some c ∷ cs) at e h (suc i) below = no_runs_full cs (at + 1) e h i (omega (arith, below))
no_runs_full (None ∷ cs) at e h i below = absurd (some_run cs (at + 1) at e h)
