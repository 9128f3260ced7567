-- An SDU over and over.
use Rattle.std.proofs.Common.{◌≡◌, ◌<◌, ◌≤◌, ℕ, ◌+◌, ◌-◌, ◌*◌, ◌%◌, subst, List, ◌++◌, length, take, get_or, arith, sym}
use Rattle.std.proofs.Common.{ap, ◌∙◌, inl, inr, refl, length-append, get_or-take}
use Rattle.std.proofs.lemmas.List.{length-take-le, get_or_append_left, get_or-append_right, take_all}
use Rattle.std.proofs.lemmas.List.FromFn.{fill_by_all}
use Rattle.std.proofs.lemmas.Bool.{cases_lt}
use Rattle.std.proofs.lemmas.Nat.{mod-mul-add}
use Rattle.test_loop.specs.Items.{repeated}

-- the octets are those of the SDU over and over
pub record Repeats (sdu octets : List ℕ) : Type 0 where
  pub at : (k : ℕ) → k < length octets → get_or octets k 0 ≡ get_or sdu (k % length sdu) 0

-- after whole rows of it, its beginning goes on
pub repeats_more : (sdu octets : List ℕ) (rows n : ℕ) → length octets ≡ rows * length sdu → n ≤ length sdu
    → Repeats sdu octets → Repeats sdu (octets ++ take n sdu)
repeats_more sdu octets rows n whole few r = record {
  at = λ k lt. elim (cases_lt k (length octets)) [
    | inl old ↦ get_or_append_left octets (take n sdu) 0 k old ∙ r.at k old
    | inr new ↦
        let near : k - length octets < n = omega (arith, length-append octets (take n sdu), length-take-le n sdu few) in
        let split : k ≡ rows * length sdu + (k - length octets) = omega arith in
        let reduced : k % length sdu ≡ k - length octets = ap (λ (m : ℕ). m % length sdu) split
        ∙ mod-mul-add rows (length sdu) (k - length octets) (omega arith) in
        get_or-append_right octets (take n sdu) (length octets) k 0 refl new
        ∙ get_or-take n sdu (k - length octets) 0 near ∙ ap (λ (m : ℕ). get_or sdu m 0) (sym reduced)
  ];
}

pub repeats_row : (sdu octets : List ℕ) (rows : ℕ) → length octets ≡ rows * length sdu → Repeats sdu octets
    → Repeats sdu (octets ++ sdu)
repeats_row sdu octets rows whole r =
    subst (λ (xs : List ℕ). Repeats sdu (octets ++ xs)) (take_all (length sdu) sdu (omega arith))
    (repeats_more sdu octets rows (length sdu) whole (omega arith) r)

pub repeated_all : (sdu octets : List ℕ) (size : ℕ) → length octets ≡ size → Repeats sdu octets
    → octets ≡ repeated sdu size
unfolding repeated
repeated_all sdu octets size e r =
    fill_by_all (λ k. get_or sdu (k % length sdu) 0) octets size 0 e (λ k lt. r.at k (omega arith))
