-- What a new PDU has room for.
use Rattle.std.proofs.Common.{◌≡◌, ◌<◌, ◌≤◌, ℕ, ◌+◌, ◌-◌, ◌*◌, ◌/◌, Bool, true, false, ◌&&◌, if◌then◌else◌, List, []}
use Rattle.std.proofs.Common.{◌∷◌, ◌++◌, length, take, refl, ap, length-append, append_assoc, sym, ◌∙◌, drop, arith}
use Rattle.std.proofs.Common.{nat_lt, ◌==◌}
use Rattle.std.proofs.lemmas.List.{length-take, take_all, take-append-drop, append-nil}
use Rattle.std.proofs.lemmas.Bool.Decides.{nat_tests}
use Rattle.std.specs.List.{concat}
use Rattle.rlc_queue.specs.NewPdu.{room, may_follow, elements, rest, fits_more}
use Rattle.rlc_queue.specs.Laws.{IsFitting}
use Rattle.rlc_queue.specs.Waiting.{behind}

abbrev Size : ℕ → ℕ → ℕ → ℕ → List (List ℕ) → Type 0
Size h size c u es = 0 < length es → h + (12 * (c + length es - 1) + 7) / 8 + u + length (concat es) ≤ size

size-step : (h size c u : ℕ) (x : List ℕ) (es : List (List ℕ)) (z f : Bool) → (room h size c u == 0) ≡ z
    → may_follow (room h size c u) x ≡ f → Size h size (c + 1) (u + length x) es
    → Size h size c u (if z then [] else take (room h size c u) x ∷ (if f then es else []))
size-step h size c u x es true f ez ef ih some = absurd (omega arith)
size-step h size c u x [] false true ez ef ih some =
    let z : room h size c u ≡ 0 → ⊥ = λ e. grind (arith, nat_tests, ez) in
    let l = length-take (room h size c u) x in
    let a = length-append (take (room h size c u) x) [] in
    let pos : 0 < room h size c u = grind (arith, nat_tests, ez) in
    omega arith
size-step h size c u x (e ∷ es) false true ez ef ih some =
    let within : length x ≤ room h size c u = grind (arith, nat_tests, ef) in
    let l = length-take (room h size c u) x in
    let a = length-append (take (room h size c u) x) (concat (e ∷ es)) in
    let later = ih (omega arith) in
    omega arith
size-step h size c u x es false false ez ef ih some =
    let l = length-take (room h size c u) x in
    let a = length-append (take (room h size c u) x) [] in
    let pos : 0 < room h size c u = grind (arith, nat_tests, ez) in
    omega arith

size-of : (h size c u : ℕ) (sdus : List (List ℕ)) → Size h size c u (elements h size c u sdus)
size-of h size c u [] = λ some. absurd (omega arith)
size-of h size c u (x ∷ xs) =
    size-step h size c u x (elements h size (c + 1) (u + length x) xs) (room h size c u == 0)
    (may_follow (room h size c u) x) refl refl (size-of h size (c + 1) (u + length x) xs)

full-step : (t : List ℕ) (es es' : List (List ℕ)) (z f more : Bool) (space : ℕ) → (space == 0) ≡ z
    → (f && nat_lt 0 space && more) ≡ false → (more ≡ false → es' ≡ es)
    → (if z then [] else t ∷ (if f then es' else [])) ≡ (if z then [] else t ∷ (if f then es else []))
full-step t es es' true f more space ez e ih = refl
full-step t es es' false false more space ez e ih = refl
full-step t es es' false true false space ez e ih = ap (λ (l : List (List ℕ)). t ∷ l) (ih refl)
full-step t es es' false true true space ez e ih = absurd (grind (arith, nat_tests, ez, e))

full-of : (h size c u : ℕ) (sdus : List (List ℕ)) (x : List ℕ) → fits_more h size c u sdus ≡ false
    → elements h size c u (sdus ++ x ∷ []) ≡ elements h size c u sdus
full-of h size c u [] x e = grind (arith, nat_tests, e)
full-of h size c u (y ∷ ys) x e =
    full-step (take (room h size c u) y) (elements h size (c + 1) (u + length y) ys)
    (elements h size (c + 1) (u + length y) (ys ++ x ∷ [])) (room h size c u == 0)
    (may_follow (room h size c u) y) (fits_more h size (c + 1) (u + length y) ys) (room h size c u) refl e
    (full-of h size (c + 1) (u + length y) ys x)

hungry-step : (t : List ℕ) (es es' : List (List ℕ)) (z f more : Bool) (space : ℕ) → (space == 0) ≡ z
    → (f && nat_lt 0 space && more) ≡ true → (more ≡ true → length es' ≡ length es + 1)
    → length (if z then [] else t ∷ (if f then es' else [])) ≡ length (if z then [] else t ∷ (if f then es else [])) + 1
hungry-step t es es' true f more space ez e ih = absurd (grind (arith, nat_tests, ez, e))
hungry-step t es es' false false more space ez e ih = absurd cc
hungry-step t es es' false true false space ez e ih = absurd (grind (arith, nat_tests, e))
hungry-step t es es' false true true space ez e ih = let g = ih refl in omega arith

hungry-of : (h size c u : ℕ) (sdus : List (List ℕ)) (x : List ℕ) → fits_more h size c u sdus ≡ true
    → length (elements h size c u (sdus ++ x ∷ [])) ≡ length (elements h size c u sdus) + 1
hungry-of h size c u [] x e = grind (arith, nat_tests, e)
hungry-of h size c u (y ∷ ys) x e =
    hungry-step (take (room h size c u) y) (elements h size (c + 1) (u + length y) ys)
    (elements h size (c + 1) (u + length y) (ys ++ x ∷ [])) (room h size c u == 0)
    (may_follow (room h size c u) y) (fits_more h size (c + 1) (u + length y) ys) (room h size c u) refl e
    (hungry-of h size (c + 1) (u + length y) ys x)

octets-behind : (n : ℕ) (x : List ℕ) (xs : List (List ℕ)) (b : Bool) → nat_lt n (length x) ≡ b
    → take n x ++ concat (if b then drop n x ∷ xs else xs) ≡ x ++ concat xs
octets-behind n x xs true e = sym (append_assoc (take n x) (drop n x) (concat xs))
    ∙ ap (λ (t : List ℕ). t ++ concat xs) (take-append-drop n x)
octets-behind n x xs false e = ap (λ (t : List ℕ). t ++ concat xs) (take_all n x (grind (arith, nat_tests, e)))

octets-step : (n : ℕ) (x : List ℕ) (xs es rs : List (List ℕ)) (z f : Bool) → may_follow n x ≡ f
    → concat es ++ concat rs ≡ concat xs
    → concat (if z then [] else take n x ∷ (if f then es else []))
    ++ concat (if z then x ∷ xs else if f then rs else behind n (x ∷ xs)) ≡ x ++ concat xs
octets-step n x xs es rs true f ef ih = refl
octets-step n x xs es rs false true ef ih =
    ap (λ (t : List ℕ). (t ++ concat es) ++ concat rs) (take_all n x (grind (arith, nat_tests, ef)))
    ∙ append_assoc x (concat es) (concat rs) ∙ ap (λ (t : List ℕ). x ++ t) ih
octets-step n x xs es rs false false ef ih =
    ap (λ (t : List ℕ). t ++ concat (behind n (x ∷ xs))) (append-nil (take n x))
    ∙ octets-behind n x xs (nat_lt n (length x)) refl

octets-of : (h size c u : ℕ) (sdus : List (List ℕ))
    → concat (elements h size c u sdus) ++ concat (rest h size c u sdus) ≡ concat sdus
octets-of h size c u [] = refl
octets-of h size c u (x ∷ xs) =
    octets-step (room h size c u) x xs (elements h size (c + 1) (u + length x) xs)
    (rest h size (c + 1) (u + length x) xs) (room h size c u == 0) (may_follow (room h size c u) x) refl
    (octets-of h size (c + 1) (u + length x) xs)

pub fitting : (head size : ℕ) (sdus : List (List ℕ)) → IsFitting head size sdus
fitting head size sdus = record {
  within = λ some. let s = size-of head size 0 0 sdus some in omega arith;
  octets = octets-of head size 0 0 sdus;
  full = λ x e. full-of head size 0 0 sdus x e;
  more = λ x e. hungry-of head size 0 0 sdus x e;
}
