-- Lists compared one by one.
use Rattle.std.proofs.Common.{◌≡◌, ◌≢◌, ℕ, zero, suc, ◌+◌, ◌-◌, ◌<◌, ◌==◌, Bool, true, false, ◌&&◌, ◌||◌}
use Rattle.std.proofs.Common.{List, [], ◌∷◌, length, map, drop, take, Option, Some, None, refl, ap, sym}
use Rattle.std.proofs.Common.{◌∙◌, arith, length-append}
use Rattle.std.specs.Prelude.{slice_get, nat_lt}
use Rattle.std.specs.Bool.{Decides}
use Rattle.std.specs.List.{sum, concat}
use Rattle.std.specs.Cmp.Lexicographic.{pointwise}
use Rattle.std.proofs.Math.Seq.{drop-length}
use Rattle.std.proofs.lemmas.Bool.{true≢false, ne_eqb, lt-ltb}
use Rattle.std.proofs.lemmas.List.Sums.{sum_by-cons}
use Rattle.std.proofs.lemmas.List.Concat.{flat_map-cons}
use Rattle.std.proofs.lemmas.Slice.Eq.{slice_eq-Decides}
use Rattle.pdcp_pdu.specs.declared.pdu.PdcpKind.{PdcpKind}
use Rattle.pdu_show.specs.declared.kinds.Layout.{Layout}
use Rattle.promises.specs.Names.{SentPdu}
use Rattle.journal_form.specs.Tests.{same_bit, is_pdcp, are_pdcp, are_named}

-- ---- one by one

pub is_there : {X : Type 0} (at : ℕ) (xs : List X) → at < length xs → None ≡ slice_get xs at → ⊥
is_there zero [] h e = omega (arith, h)
is_there zero (x ∷ xs) h e = cc
is_there (suc at) [] h e = omega (arith, h)
is_there (suc at) (x ∷ xs) h e = is_there at xs (omega (arith, h)) e

pub step : {X : Type 0} (E : X → X → Bool) (a b : List X) (at : ℕ) (x y : X) → Some x ≡ slice_get a at
    → Some y ≡ slice_get b at
    → pointwise E (drop at a) (drop at b) ≡ (E x y && pointwise E (drop (at + 1) a) (drop (at + 1) b))
step E [] b zero x y e f = absurd cc
step E [] b (suc at) x y e f = absurd cc
step E (u ∷ a) [] zero x y e f = absurd cc
step E (u ∷ a) [] (suc at) x y e f = absurd cc
step E (u ∷ a) (v ∷ b) zero x y e f = let p : x ≡ u = cc in let q : y ≡ v = cc in rw (p, q) refl
step E (u ∷ a) (v ∷ b) (suc at) x y e f =
    let next : suc at + 1 ≡ suc (at + 1) = omega arith in rw next (step E a b at x y e f)

-- all before are the same, and these two differ
pub differs : {X : Type 0} (E : X → X → Bool) (a b : List X) (at : ℕ) (x y : X) → Some x ≡ slice_get a at
    → Some y ≡ slice_get b at → pointwise E (drop at a) (drop at b) ≡ pointwise E a b → E x y ≡ false
    → false ≡ pointwise E a b
differs E a b at x y e f all here = sym (sym all ∙ step E a b at x y e f ∙ rw here refl)

pub goes_on : {X : Type 0} (E : X → X → Bool) (a b : List X) (at : ℕ) (x y : X) → Some x ≡ slice_get a at
    → Some y ≡ slice_get b at → pointwise E (drop at a) (drop at b) ≡ pointwise E a b → E x y ≡ true
    → pointwise E (drop (at + 1) a) (drop (at + 1) b) ≡ pointwise E a b
goes_on E a b at x y e f all here = sym (sym all ∙ step E a b at x y e f ∙ rw here refl)

pub all_same : {X : Type 0} (E : X → X → Bool) (a b : List X) (n : ℕ) → n ≡ length a → length b ≡ length a
    → pointwise E (drop n a) (drop n b) ≡ pointwise E a b → true ≡ pointwise E a b
all_same E a b n here long all =
    let da : drop n a ≡ [] = ap (λ (k : ℕ). drop k a) here ∙ drop-length a in
    let db : drop n b ≡ [] = ap (λ (k : ℕ). drop k b) (here ∙ sym long) ∙ drop-length b in
    let both : pointwise E [] [] ≡ pointwise E a b = rw (da, db) at all in both

-- ---- elements of a data field

pub lens_whole : (xs : List (List ℕ)) → sum (map length xs) ≡ length (concat xs)
lens_whole [] = refl
lens_whole (x ∷ xs) =
    sum_by-cons (λ (k : ℕ). k) (length x) (map length xs) ∙ ap (λ (n : ℕ). length x + n) (lens_whole xs)
    ∙ sym (ap (length {A = ℕ}) (flat_map-cons (λ (l : List ℕ). l) x xs) ∙ length-append x (concat xs))

window : (kind : PdcpKind) (before end : ℕ) (x : List ℕ) (xs : List (List ℕ)) → (end ≢ 0)
    → (nat_lt 0 before || is_pdcp kind x) ≡ true
    → are_pdcp kind (drop (before - 1) (take (end - 1) xs)) ≡ are_pdcp kind (drop before (take end (x ∷ xs)))
window kind before zero x xs some here = absurd (some refl)
window kind zero (suc end) x xs some here =
    let e : suc end - 1 ≡ end = omega arith in
    let t : is_pdcp kind x ≡ true = here in
    rw e (rw t refl)
window kind (suc before) (suc end) x xs some here =
    let e : suc end - 1 ≡ end = omega arith in
    let f : suc before - 1 ≡ before = omega arith in
    rw (e, f) refl

pub window_step : (kind : PdcpKind) (before end : ℕ) (x : List ℕ) (all xs : List (List ℕ)) (r : Bool) → (end ≢ 0)
    → (nat_lt 0 before || is_pdcp kind x) ≡ true → all ≡ x ∷ xs → are_pdcp kind (drop before (take end all)) ≡ r
    → are_pdcp kind (drop (before - 1) (take (end - 1) xs)) ≡ r
window_step kind before end x all xs r some here is known =
    window kind before end x xs some here
    ∙ ap (λ (l : List (List ℕ)). are_pdcp kind (drop before (take end l))) (sym is) ∙ known

outside : (kind : PdcpKind) (before end : ℕ) (x : List ℕ) (xs : List (List ℕ)) → (end ≢ 0)
    → (nat_lt 0 before || is_pdcp kind x) ≡ false → are_pdcp kind (drop before (take end (x ∷ xs))) ≡ false
outside kind before zero x xs some here = absurd (some refl)
outside kind zero (suc end) x xs some here = let t : is_pdcp kind x ≡ false = here in rw t refl
outside kind (suc before) (suc end) x xs some here =
    let t : nat_lt 0 (suc before) ≡ true = lt-ltb 0 (suc before) (omega arith) in
    absurd (true≢false (sym (ap (λ (b : Bool). b || is_pdcp kind x) t) ∙ here))

pub window_fails : (kind : PdcpKind) (before end : ℕ) (x : List ℕ) (all xs : List (List ℕ)) (r : Bool) → (end ≢ 0)
    → (nat_lt 0 before || is_pdcp kind x) ≡ false → all ≡ x ∷ xs → are_pdcp kind (drop before (take end all)) ≡ r
    → false ≡ r
window_fails kind before end x all xs r some here is known =
    sym (outside kind before end x xs some here)
    ∙ ap (λ (l : List (List ℕ)). are_pdcp kind (drop before (take end l))) (sym is) ∙ known

-- ---- bits, and tests that agree

bits_decide : (a b : Bool) → Decides (same_bit a b) (a ≡ b)
bits_decide true true = (λ e. refl, λ e. refl)
bits_decide true false = (λ e. absurd cc, λ e. absurd cc)
bits_decide false true = (λ e. absurd cc, λ e. absurd cc)
bits_decide false false = (λ e. refl, λ e. refl)

pub bits_are : (a b : List Bool) → Decides (pointwise same_bit a b) (a ≡ b)
bits_are a b = slice_eq-Decides bits_decide a b (pointwise same_bit a b) refl

pub agree : (a b : Bool) (P Q : Type 0) → Decides a P → Decides b Q → (P → Q) → (Q → P) → a ≡ b
agree true true P Q da db f g = refl
agree false false P Q da db f g = refl
agree true false P Q da db f g = sym (db.1 (f (da.0 refl)))
agree false true P Q da db f g = da.1 (g (db.0 refl))

-- ---- PDUs that are named

pub none_named : (kinds : List (Option Layout)) (sent : List SentPdu) → (length sent == 0) ≡ are_named kinds sent []
none_named kinds [] = refl
none_named kinds (s ∷ sent) = ne_eqb (length (s ∷ sent)) 0 (λ (e : length (s ∷ sent) ≡ 0). omega (arith, e))
