-- What is kept of SDUs that are told of beside those that were submitted.
use Rattle.std.proofs.Common.{◌≡◌, ℕ, suc, Bool, true, false, List, [], ◌∷◌, ◌++◌, length, take}
use Rattle.std.proofs.Common.{refl, ap, sym, ◌∙◌, arith}
use Rattle.std.specs.Prelude.{◌&&◌, ◌==◌}
use Rattle.std.proofs.lemmas.Bool.{and_parts, and_from, eqb-true, eq-eqb}
use Rattle.journal_queues.specs.Leaving.{Leaving, told_by, with_told, sdu_by, with_sdu, is_even}

abbrev also : Bool → Leaving → Leaving
also b l = record l { same = b && l.same }

abbrev pub compared : List ℕ → List ℕ → Leaving
compared [] sdus = record { same = true; waiting = sdus; told = [] }
compared (t ∷ ts) [] = record { same = true; waiting = []; told = t ∷ ts }
compared (t ∷ ts) (s ∷ sdus) = also (s == t) (compared ts sdus)

abbrev kept : Bool → List ℕ → List ℕ → Leaving
kept same waiting told = record { same = same; waiting = waiting; told = told }

-- ---- one more is told of

told_also : (len : ℕ) (b : Bool) (ws : List ℕ) (l : Leaving) → told_by len ws (also b l) ≡ also b (told_by len ws l)
told_also len true [] l = refl
told_also len false [] l = refl
told_also len true (w ∷ ws) l = refl
told_also len false (w ∷ ws) l = refl

kept_true : (b : Bool) (sdus : List ℕ) → kept b sdus [] ≡ kept (b && true) sdus []
kept_true true sdus = refl
kept_true false sdus = refl

pub told_compared : (t : ℕ) (ts sdus : List ℕ) → with_told t (compared ts sdus) ≡ compared (ts ++ t ∷ []) sdus
told_compared t [] [] = refl
told_compared t [] (s ∷ sdus) = kept_true (s == t) sdus
told_compared t (x ∷ ts) [] = refl
told_compared t (x ∷ ts) (s ∷ sdus) =
    told_also t (s == x) (compared ts sdus).waiting (compared ts sdus)
    ∙ ap (λ (l : Leaving). also (s == x) l) (told_compared t ts sdus)

-- ---- one more is submitted

sdu_also : (len : ℕ) (b : Bool) (ts : List ℕ) (l : Leaving) → sdu_by len ts (also b l) ≡ also b (sdu_by len ts l)
sdu_also len true [] l = refl
sdu_also len false [] l = refl
sdu_also len true (t ∷ ts) l = refl
sdu_also len false (t ∷ ts) l = refl

first_given : (b : Bool) (ts : List ℕ) → kept b [] ts ≡ also b (compared ts [])
first_given true [] = refl
first_given false [] = refl
first_given true (t ∷ ts) = refl
first_given false (t ∷ ts) = refl

pub sdu_compared : (s : ℕ) (ts sdus : List ℕ) → with_sdu s (compared ts sdus) ≡ compared ts (sdus ++ s ∷ [])
sdu_compared s [] sdus = refl
sdu_compared s (t ∷ ts) [] = first_given (s == t) ts
sdu_compared s (t ∷ ts) (x ∷ sdus) =
    sdu_also s (x == t) (compared ts sdus).told (compared ts sdus)
    ∙ ap (λ (l : Leaving). also (x == t) l) (sdu_compared s ts sdus)

-- ---- whether those that are told of are the first

pub even_sound : (ts sdus : List ℕ) → is_even (compared ts sdus) ≡ true → ts ≡ take (length ts) sdus
even_sound [] sdus h = refl
even_sound (t ∷ ts) [] h =
    let none : suc (length ts) ≡ 0 = eqb-true (suc (length ts)) 0 h in absurd (omega (arith, none))
even_sound (t ∷ ts) (s ∷ sdus) h =
    let p = and_parts ((s == t) && (compared ts sdus).same) (length (compared ts sdus).told == 0) h in
    let q = and_parts (s == t) (compared ts sdus).same p.0 in
    ap (λ (n : ℕ). n ∷ ts) (sym (eqb-true s t q.0))
    ∙ ap (λ (ns : List ℕ). s ∷ ns)
    (even_sound ts sdus (and_from (compared ts sdus).same (length (compared ts sdus).told == 0) q.1 p.1))

pub even_complete : (ts sdus : List ℕ) → ts ≡ take (length ts) sdus → is_even (compared ts sdus) ≡ true
even_complete [] sdus h = refl
even_complete (t ∷ ts) [] h = absurd cc
even_complete (t ∷ ts) (s ∷ sdus) h =
    let same : t ≡ s = cc in
    let rest : ts ≡ take (length ts) sdus = cc in
    let p = and_parts (compared ts sdus).same (length (compared ts sdus).told == 0) (even_complete ts sdus rest) in
    and_from ((s == t) && (compared ts sdus).same) (length (compared ts sdus).told == 0)
    (and_from (s == t) (compared ts sdus).same (eq-eqb s t (sym same)) p.0) p.1
