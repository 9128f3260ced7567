-- The digits of octets, lane by lane.
use Rattle.std.proofs.Common.{◌≡◌, ◌<◌, ◌+◌, ◌*◌, ◌/◌, ◌%◌, ℕ, zero, suc, List, [], ◌∷◌, ◌++◌, length, get_or, map}
use Rattle.std.proofs.Common.{true, refl, sym, ap, ◌∙◌, subst, inl, inr, arith, take, drop, append-nil}
use Rattle.std.proofs.lemmas.Bool.{cases_lt}
use Rattle.std.proofs.lemmas.List.{get_or-map, length-map, length-append, map-append, ext_get_or, get_or_append_left}
use Rattle.std.proofs.lemmas.List.{get_or-append-add, take_at, length-take-le, length-drop, drop_all}
use Rattle.std.proofs.lemmas.Simd.{put_chunk_whole}
use lib.Lanes.{pick_l, put_chunk}
use borrow.Rule.Slice.PartMut.{put_mid}
use Rattle.hex.specs.Hex.{encode_with, encode_lower}
use Rattle.text_digits.proofs.Lanes.{agree, agree_below}
use Rattle.text_digits.specs.Pairs.{high_digit, low_digit}

-- two lists of pairs by their even and odd places
pub by_pairs : (n : ℕ) (ds bs : List ℕ) → length ds ≡ 2 * n → length bs ≡ 2 * n
    → ((i : ℕ) → i < n → get_or ds (2 * i) 0 ≡ get_or bs (2 * i) 0)
    → ((i : ℕ) → i < n → get_or ds (2 * i + 1) 0 ≡ get_or bs (2 * i + 1) 0) → ds ≡ bs
by_pairs n ds bs long same even odd =
    ext_get_or 0 ds bs (long ∙ sym same) (λ j less. elim (cases_lt (j % 2) 1) [
      | inl first ↦ let is : 2 * (j / 2) ≡ j = omega (arith, first) in
          subst (λ k. get_or ds k 0 ≡ get_or bs k 0) is (even (j / 2) (omega (arith, long, less)))
      | inr second ↦ let is : 2 * (j / 2) + 1 ≡ j = omega (arith, second) in
          subst (λ k. get_or ds k 0 ≡ get_or bs k 0) is (odd (j / 2) (omega (arith, long, less)))
    ])

length-encode : (xs : List ℕ) → length (encode_lower xs) ≡ 2 * length xs
unfolding encode_with
length-encode [] = refl
length-encode (x ∷ xs) = omega (arith, length-encode xs)

high-written : (xs : List ℕ) (i : ℕ) → i < length xs → get_or (encode_lower xs) (2 * i) 0 ≡ high_digit (get_or xs i 0)
unfolding encode_with
high-written [] i less = absurd (omega (arith, less))
high-written (x ∷ xs) zero less = refl
high-written (x ∷ xs) (suc i) less = let next : 2 * suc i ≡ suc (suc (2 * i)) = omega arith in
    rw next (high-written xs i (omega (arith, less)))

low-written : (xs : List ℕ) (i : ℕ) → i < length xs → get_or (encode_lower xs) (2 * i + 1) 0 ≡ low_digit (get_or xs i 0)
unfolding encode_with
low-written [] i less = absurd (omega (arith, less))
low-written (x ∷ xs) zero less = refl
low-written (x ∷ xs) (suc i) less = let next : 2 * suc i + 1 ≡ suc (suc (2 * i + 1)) = omega arith in
    rw next (low-written xs i (omega (arith, less)))

-- the places of two vectors of n lanes by turns, from a place on
abbrev pub turns : ℕ → ℕ → ℕ → List ℕ
turns n a zero = []
turns n a (suc k) = a ∷ (n + a) ∷ turns n (suc a) k

-- the digits of the high halves and of the low halves, by turns
pub by-turns : (n : ℕ) (xs hs ls js ks : List ℕ) → length xs ≡ n → hs ≡ map high_digit xs → ls ≡ map low_digit xs
    → length (js ++ ks) ≡ 2 * n
    → agree_below (λ i. get_or (js ++ ks) (2 * i) 0) (λ i. i) n ≡ true
    → agree_below (λ i. get_or (js ++ ks) (2 * i + 1) 0) (λ i. n + i) n ≡ true
    → pick_l 0 (hs ++ ls) js ++ pick_l 0 (hs ++ ls) ks ≡ encode_lower xs
by-turns n xs hs ls js ks long high low whole even odd =
    let all : List ℕ = hs ++ ls in
    let at : List ℕ = js ++ ks in
    let first = agree (λ i. get_or at (2 * i) 0) (λ i. i) n even in
    let second = agree (λ i. get_or at (2 * i + 1) 0) (λ i. n + i) n odd in
    let halves : length hs ≡ n = ap length high ∙ length-map xs high_digit ∙ long in
    sym (map-append (λ k. get_or all k 0) js ks)
    ∙ by_pairs n (pick_l 0 all at) (encode_lower xs) (length-map at (λ k. get_or all k 0) ∙ whole)
    (length-encode xs ∙ ap (λ m. 2 * m) long)
    (λ i less. get_or-map (λ k. get_or all k 0) at (2 * i) 0 0 (omega (arith, whole, less))
    ∙ ap (λ k. get_or all k 0) (first i less)
    ∙ get_or_append_left hs ls 0 i (omega (arith, halves, less)) ∙ ap (λ l. get_or l i 0) high
    ∙ get_or-map high_digit xs i 0 0 (omega (arith, long, less)) ∙ sym (high-written xs i (omega (arith, long, less))))
    (λ i less. get_or-map (λ k. get_or all k 0) at (2 * i + 1) 0 0 (omega (arith, whole, less))
    ∙ ap (λ k. get_or all k 0) (second i less ∙ ap (λ m. m + i) (sym halves))
    ∙ get_or-append-add hs ls i 0 ∙ ap (λ l. get_or l i 0) low
    ∙ get_or-map low_digit xs i 0 0 (omega (arith, long, less))
    ∙ sym (low-written xs i (omega (arith, long, less))))

-- two vectors are stored one behind the other
pub both-stored : (n : ℕ) (zs xs ys : List ℕ) → length zs ≡ 2 * n → length xs ≡ n → length ys ≡ n
    → put_mid n n (put_chunk 0 (take n zs) xs ++ drop n zs)
    (put_chunk 0 (take n (drop n (put_chunk 0 (take n zs) xs ++ drop n zs))) ys) ≡ xs ++ ys
both-stored n zs xs ys room long same =
    let first : put_chunk 0 (take n zs) xs ≡ xs =
    put_chunk_whole (take n zs) xs (length-take-le n zs (omega (arith, room)) ∙ sym long) in
    let middle : length (take n (drop n (xs ++ drop n zs))) ≡ n =
    length-take-le n (drop n (xs ++ drop n zs))
    (omega (arith, length-drop n (xs ++ drop n zs), length-append xs (drop n zs), length-drop n zs, room, long))
    in
    let second : put_chunk 0 (take n (drop n (xs ++ drop n zs))) ys ≡ ys =
    put_chunk_whole (take n (drop n (xs ++ drop n zs))) ys (middle ∙ sym same) in
    let kept : take n (xs ++ drop n zs) ≡ xs = take_at xs (drop n zs) n long in
    let none : drop n (drop n (xs ++ drop n zs)) ≡ [] =
    drop_all n (drop n (xs ++ drop n zs))
    (omega (arith, length-drop n (xs ++ drop n zs), length-append xs (drop n zs), length-drop n zs, room, long))
    in
    rw (first, second, kept, none) (ap (λ l. xs ++ l) (append-nil ys))
