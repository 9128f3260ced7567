-- Places of what a receiver holds.
use Rattle.std.proofs.Common.{◌≡◌, ◌≢◌, ◌<◌, ℕ, suc, zero, ◌+◌, ◌-◌, true, false, List, [], ◌∷◌, ◌++◌, length, take}
use Rattle.std.proofs.Common.{drop, replicate, Option, Some, None, slice_get, slice_index_or, append_assoc}
use Rattle.std.proofs.Common.{length-append, subst, refl, ap, sym, ◌∙◌, arith}
use Rattle.std.proofs.lemmas.List.{append-nil, length-replicate, get_or-set_same, get_or-set_other, get_or-drop}
use Rattle.pdcp_rx.specs.Held.{is_held, widened, stored, present, leading_held, rising}

none_spare : (x : Option (List ℕ)) (n k : ℕ) → slice_index_or (replicate n x) k x ≡ x
none_spare x zero k = refl
none_spare x (suc n) zero = refl
none_spare x (suc n) (suc k) = none_spare x n k

none_behind : (held : List (Option (List ℕ))) (n k : ℕ)
    → slice_index_or (held ++ replicate n None) k None ≡ slice_index_or held k None
none_behind [] n k = none_spare None n k
none_behind (h ∷ hs) n zero = refl
none_behind (h ∷ hs) n (suc k) = none_behind hs n k

spare : (n : ℕ) (x : Option (List ℕ)) → length (replicate n x) ≡ n
spare n x = length-replicate n x

pub stored_same : (held : List (Option (List ℕ))) (k : ℕ) (sdu : List ℕ)
    → slice_index_or (stored held k sdu) k None ≡ Some sdu
stored_same held k sdu =
    get_or-set_same (widened held (k + 1)) k (Some sdu) None
    (omega (arith, length-append held (replicate (k + 1 - length held) None), spare (k + 1 - length held) None))

pub stored_other : (held : List (Option (List ℕ))) (k j : ℕ) (sdu : List ℕ) → j ≢ k
    → slice_index_or (stored held k sdu) j None ≡ slice_index_or held j None
stored_other held k j sdu ne = get_or-set_other (widened held (k + 1)) k j (Some sdu) None ne
    ∙ none_behind held (k + 1 - length held) j

pub dropped : (held : List (Option (List ℕ))) (n k : ℕ)
    → slice_index_or (drop n held) k None ≡ slice_index_or held (n + k) None
dropped held n k = get_or-drop n held k None

-- ---- those that follow without a gap

pub rising_run : (hs : List (Option (List ℕ))) (sdu : List ℕ) → slice_index_or hs 0 None ≡ Some sdu
    → rising hs 1 ≡ leading_held hs
rising_run [] sdu e = let no : None ≡ Some sdu = e in cc
rising_run (None ∷ hs) sdu e = let no : None ≡ Some sdu = e in cc
rising_run (Some x ∷ hs) sdu e = refl

pub run_before : (hs : List (Option (List ℕ))) (k : ℕ) → k < leading_held hs → is_held hs k ≡ true
run_before [] k lt = absurd (omega (arith, lt))
run_before (None ∷ hs) k lt = absurd (omega (arith, lt))
run_before (Some x ∷ hs) zero lt = refl
run_before (Some x ∷ hs) (suc k) lt = run_before hs k (omega (arith, lt))

pub run_end : (hs : List (Option (List ℕ))) → is_held hs (leading_held hs) ≡ false
run_end [] = refl
run_end (None ∷ hs) = refl
run_end (Some x ∷ hs) = let one : 1 + leading_held hs ≡ suc (leading_held hs) = omega arith in rw one (run_end hs)

pub take_one : (sdus : List (List ℕ)) (p : ℕ) (x : List ℕ) → slice_get sdus p ≡ Some x
    → take p sdus ++ x ∷ [] ≡ take (suc p) sdus
take_one [] p x e = let no : None ≡ Some x = e in cc
take_one (s ∷ sdus) zero x e = let some : Some s ≡ Some x = e in let same : s ≡ x = cc in
    ap (λ (y : List ℕ). y ∷ []) (sym same)
take_one (s ∷ sdus) (suc p) x e = ap (λ l. s ∷ l) (take_one sdus p x e)

-- they are SDUs that follow each other
pub run_taken : (hs : List (Option (List ℕ))) (sdus : List (List ℕ)) (p : ℕ)
    → ((k : ℕ) (sdu : List ℕ) → slice_index_or hs k None ≡ Some sdu → slice_get sdus (p + k) ≡ Some sdu)
    → take p sdus ++ present (take (leading_held hs) hs) ≡ take (p + leading_held hs) sdus
run_taken [] sdus p h = let e : p + 0 ≡ p = omega arith in append-nil (take p sdus) ∙ ap (λ n. take n sdus) (sym e)
run_taken (None ∷ hs) sdus p h = let e : p + 0 ≡ p = omega arith in
    append-nil (take p sdus) ∙ ap (λ n. take n sdus) (sym e)
run_taken (Some x ∷ hs) sdus p h =
    let one : 1 + leading_held hs ≡ suc (leading_held hs) = omega arith in
    let here : p + 0 ≡ p = omega arith in
    let same : suc p + leading_held hs ≡ p + suc (leading_held hs) = omega arith in
    let first : take p sdus ++ x ∷ [] ≡ take (suc p) sdus =
    take_one sdus p x (subst (λ n. slice_get sdus n ≡ Some x) here (h 0 x refl)) in
    let later : (k : ℕ) (sdu : List ℕ) → slice_index_or hs k None ≡ Some sdu → slice_get sdus (suc p + k) ≡ Some sdu =
    λ k sdu e. let next : suc p + k ≡ p + suc k = omega arith in rw next (h (suc k) sdu e) in
    rw one (sym (append_assoc (take p sdus) (x ∷ []) (present (take (leading_held hs) hs)))
    ∙ ap (λ l. l ++ present (take (leading_held hs) hs)) first ∙ run_taken hs sdus (suc p) later
    ∙ ap (λ n. take n sdus) same)
