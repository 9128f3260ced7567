-- What is cut can be written: the lengths are those of a PDU's elements, they add up to the field, and the PDU fits.
use Rattle.std.proofs.Common.{◌≡◌, ◌<◌, ◌≤◌, ℕ, ◌+◌, ◌^◌, Bool, true, false, if◌then◌else◌, List, [], ◌∷◌, length, take}
use Rattle.std.proofs.Common.{map, refl, ap, sym, ◌∙◌, length-append, arith, sum, ◌==◌}
use Rattle.std.proofs.lemmas.List.{length-take, length-map}
use Rattle.std.proofs.lemmas.List.Sums.{sum_by-cons}
use Rattle.std.proofs.lemmas.Bool.Decides.{nat_tests}
use Rattle.std.specs.List.{concat}
use Rattle.rlc_pdu.specs.Pdus.{AreLens}
use Rattle.rlc_pdu.specs.Writing.{header_len}
use Rattle.rlc_queue.specs.Waiting.{HaveOctets}
use Rattle.rlc_queue.specs.NewPdu.{room, may_follow, elements}
use Rattle.rlc_queue.proofs.Fits.{fitting}

pub whole : (xs : List (List ℕ)) → sum (map length xs) ≡ length (concat xs)
whole [] = refl
whole (x ∷ xs) = sum_by-cons (λ (k : ℕ). k) (length x) (map length xs) ∙ ap (λ n. length x + n) (whole xs)
    ∙ sym (length-append x (concat xs))

-- lengths behind one that may be followed, if there are any
abbrev MayBeLens : List ℕ → Type 0
MayBeLens ns = 0 < length ns → AreLens ns

one-more : (n : ℕ) (ns : List ℕ) → 1 ≤ n → n < 2 ^ 11 → MayBeLens ns → AreLens (n ∷ ns)
one-more n [] some few h = some
one-more n (m ∷ ns) some few h = (some, few, h (omega arith))

lens-step : (space : ℕ) (x : List ℕ) (es : List (List ℕ)) (z f : Bool) → (space == 0) ≡ z → may_follow space x ≡ f
    → 0 < length x → MayBeLens (map length es)
    → MayBeLens (map length (if z then [] else take space x ∷ (if f then es else [])))
lens-step space x es true f ez ef some ih = λ h. absurd (omega arith)
lens-step space x es false true ez ef some ih = λ h.
    let l = length-take space x in
    let pos : 0 < space = grind (arith, nat_tests, ez) in
    let few : length x ≤ 2047 = grind (arith, nat_tests, ef) in
    one-more (length (take space x)) (map length es) (omega arith) (omega arith) ih
lens-step space x es false false ez ef some ih = λ h.
    let l = length-take space x in
    let pos : 0 < space = grind (arith, nat_tests, ez) in
    omega arith

lens-of : (h size c u : ℕ) (sdus : List (List ℕ)) → HaveOctets sdus → MayBeLens (map length (elements h size c u sdus))
lens-of h size c u [] some = λ h. absurd (omega arith)
lens-of h size c u (x ∷ xs) some =
    lens-step (room h size c u) x (elements h size (c + 1) (u + length x) xs) (room h size c u == 0)
    (may_follow (room h size c u) x) refl refl some.0 (lens-of h size (c + 1) (u + length x) xs some.1)

first-step : (t : List ℕ) (es : List (List ℕ)) (z : Bool) → z ≡ false → 0 < length (if z then [] else t ∷ es)
first-step t es true e = absurd cc
first-step t es false e = omega arith

some-of : (head size : ℕ) (sdus : List (List ℕ)) → 0 < length sdus → head < size
    → 0 < length (elements head size 0 0 sdus)
some-of head size [] some h = absurd (omega arith)
some-of head size (x ∷ xs) some h = first-step _ _ (room head size 0 0 == 0) (grind (arith, nat_tests))

pub written : (head size : ℕ) (sdus : List (List ℕ)) → HaveOctets sdus → 0 < length sdus → head < size
    → AreLens (map length (elements head size 0 0 sdus))
written head size sdus octets some h =
    let few = some-of head size sdus some h in
    lens-of head size 0 0 sdus octets (let e = length-map (elements head size 0 0 sdus) (λ (x : List ℕ). length x) in
    omega arith)

pub within : (head size : ℕ) (sdus : List (List ℕ)) → 0 < length sdus → head < size
    → header_len head (length (map length (elements head size 0 0 sdus)))
    + length (concat (elements head size 0 0 sdus)) ≤ size
within head size sdus some h =
    let few = some-of head size sdus some h in
    let fits = (fitting head size sdus).within few in
    let e = length-map (elements head size 0 0 sdus) (λ (x : List ℕ). length x) in
    omega arith

pub ruleset lens = (whole, written, within)
