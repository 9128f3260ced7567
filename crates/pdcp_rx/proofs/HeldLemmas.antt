-- One step of what goes over what is held.
use Rattle.std.proofs.Common.{◌≡◌, ◌<◌, ◌≤◌, ℕ, suc, zero, ◌+◌, ◌-◌, List, [], ◌∷◌, ◌++◌, length, drop, take, replicate}
use Rattle.std.proofs.Common.{Option, Some, None, append_assoc, length-append, refl, ap, sym, ◌∙◌, arith}
use Rattle.std.proofs.lemmas.Grind.{common_steps}
use Rattle.std.proofs.lemmas.List.{append-nil, length-set, length-replicate}
use Rattle.pdcp_rx.specs.Held.{stored, widened, present, octet, bitmap}

pub grown-more : (held : List (Option (List ℕ))) (size : ℕ) → length held < size
    → widened (held ++ None ∷ []) size ≡ widened held size
grown-more held size h =
    let more : size - length held ≡ suc (size - length (held ++ None ∷ [])) =
    omega (arith, length-append held (None ∷ [])) in
    append_assoc held (None ∷ []) (replicate (size - length (held ++ None ∷ [])) None)
    ∙ ap (λ n. held ++ replicate n None) (sym more)

pub grown-end : (held : List (Option (List ℕ))) (size : ℕ) → size ≤ length held → widened held size ≡ held
grown-end held size h = let none : size - length held ≡ 0 = omega arith in
    ap (λ n. held ++ replicate n None) none ∙ append-nil held

pub ruleset grows = (grown-more, grown-end)

pub pop_drop : (n : ℕ) (held : List (Option (List ℕ))) → 0 < n → drop (n - 1) (drop 1 held) ≡ drop n held
pop_drop zero held lt = absurd (omega arith)
pop_drop (suc n) [] lt = grind (arith, common_steps)
pop_drop (suc n) (x ∷ xs) lt = let e : suc n - 1 ≡ n = omega arith in ap (λ (m : ℕ). drop m xs) e

present_first : (x : Option (List ℕ)) (xs : List (Option (List ℕ))) → present (x ∷ xs) ≡ present (x ∷ []) ++ present xs
present_first None xs = refl
present_first (Some s) xs = refl

pub pop_take : (ready : List (List ℕ)) (n : ℕ) (held : List (Option (List ℕ))) → 0 < n
    → (ready ++ present (take 1 held)) ++ present (take (n - 1) (drop 1 held)) ≡ ready ++ present (take n held)
pop_take ready zero held lt = absurd (omega arith)
pop_take ready (suc n) [] lt = grind (arith, common_steps)
pop_take ready (suc n) (x ∷ xs) lt =
    let e : suc n - 1 ≡ n = omega arith in
    append_assoc ready (present (x ∷ [])) (present (take (suc n - 1) xs))
    ∙ ap (λ (m : ℕ). ready ++ (present (x ∷ []) ++ present (take m xs))) e
    ∙ ap (λ l. ready ++ l) (sym (present_first x (take n xs)))

pub ruleset pops = (pop_drop, pop_take)

pub first_one : (x : Option (List ℕ)) (xs : List (Option (List ℕ))) → take 1 (x ∷ xs) ≡ x ∷ []
first_one x xs = refl

pub ruleset first = (first_one)

pub bitmap_step : (held : List (Option (List ℕ))) (at n : ℕ) → 0 < n
    → bitmap held at n ≡ octet held at ∷ bitmap held (at + 8) (n - 1)
bitmap_step held at zero lt = absurd (omega arith)
bitmap_step held at (suc n) lt = let e : suc n - 1 ≡ n = omega arith in
    ap (λ (m : ℕ). octet held at ∷ bitmap held (at + 8) m) (sym e)

pub bitmap_more : (out : List ℕ) (held : List (Option (List ℕ))) (at n : ℕ) → 0 < n
    → (out ++ octet held at ∷ []) ++ bitmap held (at + 8) (n - 1) ≡ out ++ bitmap held at n
bitmap_more out held at n lt = append_assoc out (octet held at ∷ []) (bitmap held (at + 8) (n - 1))
    ∙ ap (λ l. out ++ l) (sym (bitmap_step held at n lt))

spare : (n : ℕ) (x : Option (List ℕ)) → length (replicate n x) ≡ n
spare n x = length-replicate n x

pub stored_long : (held : List (Option (List ℕ))) (at : ℕ) (sdu : List ℕ) → at + 1 ≤ length (stored held at sdu)
stored_long held at sdu =
    omega (
      arith,
      length-set (widened held (at + 1)) at (Some sdu),
      length-append held (replicate (at + 1 - length held) None),
      spare (at + 1 - length held) None,
    )
