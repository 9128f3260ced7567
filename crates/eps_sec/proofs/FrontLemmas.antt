-- What the first two rounds make of blocks that differ in their last octet alone.
use Rattle.std.proofs.Common.{◌≡◌, ℕ, ◌+◌, ◌/◌, ◌%◌, ◌^◌, ◌∙◌, List, [], ◌∷◌, ◌++◌, take, drop, replicate, slice_index}
use Rattle.std.proofs.Common.{refl, sym, ap, map}
use Rattle.std.proofs.lemmas.Nat.{shr-shr, xor_comm}
use Rattle.std.specs.Int.{w128, to_be_bytes}
use Rattle.std.specs.Int.Bits.{bit_xor, xor_assoc, xor_zero_r}
use Rattle.eps_sec.specs.Field.{times, inverse, first_inverse, sub_byte}
use Rattle.eps_sec.specs.Aes.{sub_bytes, shift_rows, mix_octet, mix_columns, add_round_key, round_key, rounds}
use Rattle.eps_sec.specs.Words.{column, row, mix_column, state, nothing, front, IsFrontOf}
use Rattle.eps_sec.proofs.TableLemmas.{of_row_0, of_row_1, of_row_2, of_row_3}
use Rattle.eps_sec.proofs.WordLemmas.{four, column_xor, turn, sum_is, joined, sub_row}

nothing_is : sub_byte nothing ≡ 0
unfolding times first_inverse inverse sub_byte
nothing_is = refl

no_double : times 2 0 ≡ 0
unfolding times
no_double = refl

no_triple : times 3 0 ≡ 0
unfolding times
no_triple = refl

-- two terms in the other order
swap : (m k h : ℕ) → bit_xor (bit_xor m k) h ≡ bit_xor (bit_xor m h) k
swap m k h = xor_assoc m k h ∙ ap (bit_xor m) (xor_comm k h) ∙ sym (xor_assoc m h k)

-- a term of a mixed octet added behind the three others
put_0 : (a b c d : ℕ) → bit_xor (mix_octet 0 b c d) (times 2 a) ≡ mix_octet a b c d
unfolding mix_octet
put_0 a b c d =
    ap (λ (m : ℕ). bit_xor (bit_xor (bit_xor (bit_xor m (times 3 b)) c) d) (times 2 a)) no_double
    ∙ ap (λ (m : ℕ). bit_xor (bit_xor (bit_xor m c) d) (times 2 a)) (xor_comm 0 (times 3 b) ∙ xor_zero_r (times 3 b))
    ∙ sym (turn (times 2 a) (times 3 b) c d)

put_1 : (a b c d : ℕ) → bit_xor (mix_octet a 0 c d) (times 3 b) ≡ mix_octet a b c d
unfolding mix_octet
put_1 a b c d =
    ap (λ (m : ℕ). bit_xor (bit_xor (bit_xor (bit_xor (times 2 a) m) c) d) (times 3 b)) no_triple
    ∙ ap (λ (m : ℕ). bit_xor (bit_xor (bit_xor m c) d) (times 3 b)) (xor_zero_r (times 2 a))
    ∙ swap (bit_xor (times 2 a) c) d (times 3 b)
    ∙ ap (λ (m : ℕ). bit_xor m d) (swap (times 2 a) c (times 3 b))

put_2 : (a b c d : ℕ) → bit_xor (mix_octet a b 0 d) c ≡ mix_octet a b c d
unfolding mix_octet
put_2 a b c d = ap (λ (m : ℕ). bit_xor (bit_xor m d) c) (xor_zero_r _) ∙ swap _ d c

put_3 : (a b c d : ℕ) → bit_xor (mix_octet a b c 0) d ≡ mix_octet a b c d
unfolding mix_octet
put_3 a b c d = ap (λ (m : ℕ). bit_xor m d) (xor_zero_r _)

-- a column to which the octet of one row is still to be added
in_row_0 : (x y p q r s : ℕ) → column x ≡ mix_column 0 q r s → column y ≡ of_row_0 p
    → column (bit_xor x y) ≡ mix_column p q r s
in_row_0 x y p q r s e f = sum_is x y _ _ _ _ _ _ _ _ e f
    ∙ four _ _ _ _ _ _ _ _ (put_0 p q r s) (put_3 q r s p) (put_2 r s p q) (put_1 s p q r)

in_row_1 : (x y p q r s : ℕ) → column x ≡ mix_column p 0 r s → column y ≡ of_row_1 q
    → column (bit_xor x y) ≡ mix_column p q r s
in_row_1 x y p q r s e f = sum_is x y _ _ _ _ _ _ _ _ e f
    ∙ four _ _ _ _ _ _ _ _ (put_1 p q r s) (put_0 q r s p) (put_3 r s p q) (put_2 s p q r)

in_row_2 : (x y p q r s : ℕ) → column x ≡ mix_column p q 0 s → column y ≡ of_row_2 r
    → column (bit_xor x y) ≡ mix_column p q r s
in_row_2 x y p q r s e f = sum_is x y _ _ _ _ _ _ _ _ e f
    ∙ four _ _ _ _ _ _ _ _ (put_2 p q r s) (put_1 q r s p) (put_0 r s p q) (put_3 s p q r)

in_row_3 : (x y p q r s : ℕ) → column x ≡ mix_column p q r 0 → column y ≡ of_row_3 s
    → column (bit_xor x y) ≡ mix_column p q r s
in_row_3 x y p q r s e f = sum_is x y _ _ _ _ _ _ _ _ e f
    ∙ four _ _ _ _ _ _ _ _ (put_3 p q r s) (put_2 q r s p) (put_1 r s p q) (put_0 s p q r)

-- the mixed column p q r s with a round key's word k l m n added
abbrev keyed : ℕ → ℕ → ℕ → ℕ → ℕ → ℕ → ℕ → ℕ → List ℕ
keyed p q r s k l m n =
    bit_xor (mix_octet p q r s) k ∷ bit_xor (mix_octet q r s p) l ∷ bit_xor (mix_octet r s p q) m
    ∷ bit_xor (mix_octet s p q r) n ∷ []

late : (x y k : ℕ) (z : ℕ) → bit_xor x y ≡ z → bit_xor (bit_xor x k) y ≡ bit_xor z k
late x y k z e = swap x k y ∙ ap (λ (m : ℕ). bit_xor m k) e

in_keyed : (x y p q r s k l m n : ℕ) → column x ≡ keyed p q r 0 k l m n → column y ≡ of_row_3 s
    → column (bit_xor x y) ≡ keyed p q r s k l m n
in_keyed x y p q r s k l m n e f =
    sum_is x y _ _ _ _ _ _ _ _ e f
    ∙ four _ _ _ _ _ _ _ _
    (late _ s k _ (put_3 p q r s))
    (late _ s l _ (put_2 q r s p))
    (late _ (times 3 s) m _ (put_1 r s p q))
    (late _ (times 2 s) n _ (put_0 s p q r))

-- the first word after round 1, once the last octet's part is added
pub first_word : (key b : List ℕ) (w f x : ℕ) → column w ≡ take 4 (front key (take 15 (state b)))
    → column f ≡ of_row_3 (sub_byte x) → x ≡ slice_index (add_round_key key (state b)) 15
    → column (bit_xor w f) ≡ take 4 (rounds key (state b) 1)
unfolding front rounds round_key mix_columns shift_rows sub_bytes add_round_key state column
first_word key b w f x e g h =
    let s = add_round_key key (state b) in
    let k = round_key key 1 in
    let here : column w ≡ keyed (sub_byte (slice_index s 0)) (sub_byte (slice_index s 5))
    (sub_byte (slice_index s 10)) (sub_byte nothing) (slice_index k 0) (slice_index k 1) (slice_index k 2)
    (slice_index k 3) = e in
    in_keyed w f _ _ _ (sub_byte (slice_index s 15)) _ _ _ _ (rw nothing_is at here)
    (g ∙ ap (λ (m : ℕ). of_row_3 (sub_byte m)) h)

-- the last octet goes into no other word
same_others : (key b : List ℕ) → drop 4 (front key (take 15 (state b))) ≡ drop 4 (rounds key (state b) 1)
unfolding front rounds round_key mix_columns shift_rows sub_bytes add_round_key state column
same_others key b = refl

-- the words after round 2, once that word's part is added
second_words : (k u ws : List ℕ) (v f g h i : ℕ) → column v ≡ take 4 (add_round_key k u)
    → state ws ≡ mix_columns (shift_rows (sub_bytes (replicate 4 nothing ++ drop 4 (add_round_key k u))))
    → column f ≡ of_row_0 (sub_row v 0) → column g ≡ of_row_3 (sub_row v 3) → column h ≡ of_row_2 (sub_row v 2)
    → column i ≡ of_row_1 (sub_row v 1)
    → state (bit_xor (slice_index ws 0) f ∷ bit_xor (slice_index ws 1) g ∷ bit_xor (slice_index ws 2) h
    ∷ bit_xor (slice_index ws 3) i ∷ []) ≡ mix_columns (shift_rows (sub_bytes (add_round_key k u)))
unfolding mix_columns shift_rows sub_bytes add_round_key state column
second_words k u ws v f g h i first rest ef eg eh ei =
    let t = add_round_key k u in
    let s = λ (j : ℕ). sub_byte (slice_index t j) in
    let w : column (slice_index ws 0) ≡ mix_column (sub_byte nothing) (s 5) (s 10) (s 15) = ap (take 4) rest in
    let x : column (slice_index ws 1) ≡ mix_column (s 4) (s 9) (s 14) (sub_byte nothing) =
    ap (λ (l : List ℕ). take 4 (drop 4 l)) rest in
    let y : column (slice_index ws 2) ≡ mix_column (s 8) (s 13) (sub_byte nothing) (s 7) =
    ap (λ (l : List ℕ). take 4 (drop 8 l)) rest in
    let z : column (slice_index ws 3) ≡ mix_column (s 12) (sub_byte nothing) (s 6) (s 11) = ap (drop 12) rest in
    joined _ _ _ _ _ _ _ _
    (in_row_0 _ f (s 0) _ _ _ (rw nothing_is at w)
    (ef ∙ ap (λ (l : List ℕ). of_row_0 (sub_byte (slice_index l 0))) first))
    (in_row_3 _ g _ _ _ (s 3) (rw nothing_is at x)
    (eg ∙ ap (λ (l : List ℕ). of_row_3 (sub_byte (slice_index l 3))) first))
    (in_row_2 _ h _ _ (s 2) _ (rw nothing_is at y)
    (eh ∙ ap (λ (l : List ℕ). of_row_2 (sub_byte (slice_index l 2))) first))
    (in_row_1 _ i _ (s 1) _ _ (rw nothing_is at z)
    (ei ∙ ap (λ (l : List ℕ). of_row_1 (sub_byte (slice_index l 1))) first))

-- the last octet of a block with key 0 added
pub last_octet : (k b : List ℕ) → row (bit_xor (slice_index b 3) (slice_index k 3)) 3
    ≡ slice_index (add_round_key (state k) (state b)) 15
unfolding add_round_key state column
last_octet k b = ap (λ (l : List ℕ). slice_index l 3) (column_xor (slice_index b 3) (slice_index k 3))

pub two_rounds : (key b ws : List ℕ) (v f g h i : ℕ) → column v ≡ take 4 (rounds key (state b) 1)
    → state ws ≡ mix_columns (shift_rows (sub_bytes (replicate 4 nothing ++ drop 4 (front key (take 15 (state b))))))
    → column f ≡ of_row_0 (sub_row v 0) → column g ≡ of_row_3 (sub_row v 3) → column h ≡ of_row_2 (sub_row v 2)
    → column i ≡ of_row_1 (sub_row v 1)
    → add_round_key (round_key key 2)
    (state (bit_xor (slice_index ws 0) f ∷ bit_xor (slice_index ws 1) g ∷ bit_xor (slice_index ws 2) h
    ∷ bit_xor (slice_index ws 3) i ∷ [])) ≡ rounds key (state b) 2
unfolding rounds
two_rounds key b ws v f g h i first rest ef eg eh ei =
    let others = ap (λ (l : List ℕ). mix_columns (shift_rows (sub_bytes (replicate 4 nothing ++ l))))
    (same_others key b) in
    ap (add_round_key (round_key key 2))
    (second_words (round_key key 1) _ ws v f g h i first (rest ∙ others) ef eg eh ei)

-- the state of the words with which round 1 is prepared
cut_state : (key r b : List ℕ) (d : ℕ) → state r ≡ add_round_key key (state b)
    → column d ≡ row (slice_index r 3) 0 ∷ row (slice_index r 3) 1 ∷ row (slice_index r 3) 2 ∷ nothing ∷ []
    → state (slice_index r 0 ∷ slice_index r 1 ∷ slice_index r 2 ∷ d ∷ [])
    ≡ take 15 (add_round_key key (take 15 (state b))) ++ nothing ∷ []
unfolding add_round_key state column
cut_state key r b d e f =
    ap (λ (l : List ℕ). column (slice_index r 0) ++ column (slice_index r 1) ++ column (slice_index r 2) ++ l) f
    ∙ ap (λ (l : List ℕ). take 15 l ++ nothing ∷ []) e

-- the words with which round 2 is prepared
cut_words : (t : List ℕ) (n : ℕ) → n ≡ 0x52525252
    → state (n ∷ slice_index t 1 ∷ slice_index t 2 ∷ slice_index t 3 ∷ []) ≡ replicate 4 nothing ++ drop 4 (state t)
unfolding state column
cut_words t n e = rw e refl

first_column : (t : List ℕ) → column (slice_index t 0) ≡ take 4 (state t)
unfolding state column
first_column t = refl

pub prepared : (key k b r s t ws : List ℕ) (d n : ℕ) → state r ≡ add_round_key key (state b)
    → column d ≡ row (slice_index r 3) 0 ∷ row (slice_index r 3) 1 ∷ row (slice_index r 3) 2 ∷ nothing ∷ []
    → state s
    ≡ mix_columns (shift_rows (sub_bytes (state (slice_index r 0 ∷ slice_index r 1 ∷ slice_index r 2 ∷ d ∷ []))))
    → k ≡ round_key key 1 → state t ≡ add_round_key k (state s)
    → n ≡ 0x52525252
    → state ws
    ≡ mix_columns (shift_rows (sub_bytes (state (n ∷ slice_index t 1 ∷ slice_index t 2 ∷ slice_index t 3 ∷ []))))
    → IsFrontOf (slice_index t 0) ws key (take 15 (state b))
unfolding front
prepared key k b r s t ws d n er ed es ek et en ew =
    let mixed = λ (l : List ℕ). mix_columns (shift_rows (sub_bytes l)) in
    let all : state t ≡ front key (take 15 (state b)) =
    et ∙ ap (add_round_key k) (es ∙ ap mixed (cut_state key r b d er ed))
    ∙ ap
    (λ (l : List ℕ). add_round_key l (mixed (take 15 (add_round_key key (take 15 (state b))) ++ nothing ∷ []))) ek
    in (
      first_column t ∙ ap (take 4) all,
      ew ∙ ap mixed (cut_words t n en ∙ ap (λ (l : List ℕ). replicate 4 nothing ++ drop 4 l) all),
    )

-- the octets above the last one of a number
high_octets : (n m : ℕ) (ks : List ℕ) → n / 2 ^ 8 ≡ m / 2 ^ 8
    → map (λ k. n / 2 ^ (8 + k) % 2 ^ 8) ks ≡ map (λ k. m / 2 ^ (8 + k) % 2 ^ 8) ks
high_octets n m [] e = refl
high_octets n m (k ∷ ks) e =
    let here : n / 2 ^ (8 + k) ≡ m / 2 ^ (8 + k) = sym (shr-shr n 8 k) ∙ ap (λ (q : ℕ). q / 2 ^ k) e ∙ shr-shr m 8 k in
    rw (here, high_octets n m ks e) refl

pub same_head : (n m : ℕ) → n / 2 ^ 8 ≡ m / 2 ^ 8 → take 15 (to_be_bytes w128 n) ≡ take 15 (to_be_bytes w128 m)
same_head n m e = high_octets n m (112 ∷ 104 ∷ 96 ∷ 88 ∷ 80 ∷ 72 ∷ 64 ∷ 56 ∷ 48 ∷ 40 ∷ 32 ∷ 24 ∷ 16 ∷ 8 ∷ 0 ∷ []) e
