-- One step of what goes over the slots.
use Rattle.std.proofs.Common.{◌≡◌, ◌<◌, ◌≤◌, ℕ, ◌-◌, List, [], ◌∷◌, ◌++◌, length, drop, take, replicate, Option, None}
use Rattle.std.proofs.Common.{false, is_some, zero, refl, append_assoc, length-append, ap, sym, ◌∙◌, arith, suc}
use Rattle.std.proofs.lemmas.List.{append-nil, get_or_past, take_all, drop_all}
use Rattle.circular_buffer.specs.Buffer.{keep_last}
use Rattle.rlc_um.specs.Joined.{Parts, Joined, with_number, with_numbers}
use Rattle.rlc_um.specs.Window.{grown, slot_at}

pub grown-more : (slots : List (Option Parts)) (size : ℕ) → length slots < size
    → grown (slots ++ None ∷ []) size ≡ grown slots size
grown-more slots size h =
    let more : size - length slots ≡ suc (size - length (slots ++ None ∷ [])) =
    omega (arith, length-append slots (None ∷ [])) in
    append_assoc slots (None ∷ []) (replicate (size - length (slots ++ None ∷ [])) None)
    ∙ ap (λ n. slots ++ replicate n None) (sym more)

pub grown-end : (slots : List (Option Parts)) (size : ℕ) → size ≤ length slots → grown slots size ≡ slots
grown-end slots size h = let none : size - length slots ≡ 0 = omega arith in
    ap (λ n. slots ++ replicate n None) none ∙ append-nil slots

pub keep_last-fits : {X : Type 0} (n : ℕ) (xs : List X) → length xs ≤ n → keep_last n xs ≡ xs
keep_last-fits n xs h = let none : length xs - n ≡ 0 = omega arith in ap (λ k. drop k xs) none

pub ruleset grows = (grown-more, grown-end, keep_last-fits)

pub slot_past : (slots : List (Option Parts)) (at : ℕ) → length slots ≤ at → is_some (slot_at slots at) ≡ false
slot_past slots at h = ap is_some (get_or_past slots at None h)

pub joined-step : (n : ℕ) (slots : List (Option Parts)) (j : Joined) → 0 < n → n ≤ length slots
    → with_numbers (take n slots) j ≡ with_numbers (take (n - 1) (drop 1 slots)) (with_number (slot_at slots 0) j)
joined-step zero slots j h g = absurd (omega arith)
joined-step (suc n) [] j h g = absurd (omega arith)
joined-step (suc n) (s ∷ ss) j h g = let e : suc n - 1 ≡ n = omega arith in rw e refl

pub drop-step : (n : ℕ) (slots : List (Option Parts)) → 0 < n → drop n slots ≡ drop (n - 1) (drop 1 slots)
drop-step zero slots h = absurd (omega arith)
drop-step (suc n) [] h = let e : suc n - 1 ≡ n = omega arith in rw e (sym (drop_all n [] (omega arith)))
drop-step (suc n) (s ∷ ss) h = let e : suc n - 1 ≡ n = omega arith in rw e refl

pub ruleset passes = (joined-step, drop-step)

pub take_whole : (slots : List (Option Parts)) → take (length slots) slots ≡ slots
take_whole slots = take_all (length slots) slots (omega arith)
