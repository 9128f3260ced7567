-- Words as columns of four octets.
use Rattle.std.proofs.Common.{◌≡◌, ◌<◌, ℕ, zero, suc, ◌/◌, ◌%◌, ◌^◌, ◌∙◌, List, [], ◌∷◌, ◌++◌, length, slice_index}
use Rattle.std.proofs.Common.{refl, sym, ap, arith}
use Rattle.std.proofs.lemmas.Nat.{xor_shr, xor_mod, xor_comm, be_bytes_4}
use Rattle.std.proofs.lemmas.List.FromFn.{fill_by_all}
use Rattle.std.specs.Int.{w32, from_be_bytes}
use Rattle.std.specs.Int.Bits.{bit_xor, xor_assoc, xor_zero_r}
use Rattle.eps_sec.specs.Field.{times, sub_byte}
use Rattle.eps_sec.specs.Aes.{octets, sub_bytes, shift_rows, mix_octet, mix_columns, add_round_key, add_words, sub_word}
use Rattle.eps_sec.specs.Aes.{rot_word, power_of_x, next_key, word}
use Rattle.eps_sec.specs.Words.{column, row, mix_column, state}
use Rattle.eps_sec.proofs.TableLemmas.{of_row_0, of_row_1, of_row_2, of_row_3}

pub four : (a b c d p q r s : ℕ) → a ≡ p → b ≡ q → c ≡ r → d ≡ s → a ∷ b ∷ c ∷ d ∷ [] ≡ p ∷ q ∷ r ∷ s ∷ []
four a b c d p q r s e f g h = rw (e, f, g, h) refl

octet_xor : (x y k : ℕ) → bit_xor x y / 2 ^ k % 2 ^ 8 ≡ bit_xor (x / 2 ^ k % 2 ^ 8) (y / 2 ^ k % 2 ^ 8)
octet_xor x y k = ap (λ (m : ℕ). m % 2 ^ 8) (xor_shr x y k) ∙ xor_mod (x / 2 ^ k) (y / 2 ^ k) 8

-- the octets of a sum of words
pub column_xor : (x y : ℕ) → column (bit_xor x y) ≡ add_words (column x) (column y)
unfolding column
column_xor x y = four _ _ _ _ _ _ _ _ (octet_xor x y 24) (octet_xor x y 16) (octet_xor x y 8) (xor_mod x y 8)

-- the octets that a word was made of
pub column_of : (a b c d n : ℕ) → a < 256 → b < 256 → c < 256 → d < 256 → n ≡ from_be_bytes w32 (a ∷ b ∷ c ∷ d ∷ [])
    → column n ≡ a ∷ b ∷ c ∷ d ∷ []
unfolding column
column_of a b c d n la lb lc ld e = be_bytes_4 (a ∷ b ∷ c ∷ d ∷ []) n refl small e
  where
    small : (i : ℕ) → slice_index (a ∷ b ∷ c ∷ d ∷ []) i < 256
    small zero = la
    small (suc zero) = lb
    small (suc (suc zero)) = lc
    small (suc (suc (suc zero))) = ld
    small (suc (suc (suc (suc i)))) = omega arith

-- 16 octets, one by one
pub sixteen : (p : List ℕ) → length p ≡ 16 → octets (λ k. slice_index p k) ≡ p
sixteen p e = sym (fill_by_all (λ k. slice_index p k) p 16 0 e (λ k lt. refl))

-- the first of four terms put last
pub turn : (p q r s : ℕ) → bit_xor (bit_xor (bit_xor p q) r) s ≡ bit_xor (bit_xor (bit_xor q r) s) p
turn p q r s =
    ap (λ (m : ℕ). bit_xor m s) (xor_assoc p q r) ∙ xor_assoc p (bit_xor q r) s ∙ xor_comm p (bit_xor (bit_xor q r) s)

-- the sum of two words by their octets
pub sum_is : (x y a b c d p q r s : ℕ) → column x ≡ a ∷ b ∷ c ∷ d ∷ [] → column y ≡ p ∷ q ∷ r ∷ s ∷ []
    → column (bit_xor x y) ≡ bit_xor a p ∷ bit_xor b q ∷ bit_xor c r ∷ bit_xor d s ∷ []
sum_is x y a b c d p q r s e f = column_xor x y ∙ ap (λ (v : List ℕ). add_words v (column y)) e
    ∙ ap (add_words (a ∷ b ∷ c ∷ d ∷ [])) f

-- the sum of what the four octets add to their column
pub mixed_is : (x y z w p q r s : ℕ) → column x ≡ of_row_0 p → column y ≡ of_row_1 q → column z ≡ of_row_2 r
    → column w ≡ of_row_3 s → column (bit_xor (bit_xor (bit_xor x y) z) w) ≡ mix_column p q r s
unfolding mix_octet
mixed_is x y z w p q r s ex ey ez ew =
    let two = sum_is x y _ _ _ _ _ _ _ _ ex ey in
    let three = sum_is (bit_xor x y) z _ _ _ _ _ _ _ _ two ez in
    sum_is (bit_xor (bit_xor x y) z) w _ _ _ _ _ _ _ _ three ew
    ∙ four _ _ _ _ _ _ _ _
    refl
    (turn p (times 2 q) (times 3 r) s)
    (turn p q (times 2 r) (times 3 s) ∙ turn q (times 2 r) (times 3 s) p)
    (turn (times 3 p) q r (times 2 s) ∙ turn q r (times 2 s) (times 3 p) ∙ turn r (times 2 s) (times 3 p) q)

pub joined : (a b c d p q r s : List ℕ) → a ≡ p → b ≡ q → c ≡ r → d ≡ s → a ++ b ++ c ++ d ≡ p ++ q ++ r ++ s
joined a b c d p q r s e f g h = rw (e, f, g, h) refl

-- four words that were made of 16 octets
pub words_are : (b : List ℕ) (w x y z : ℕ) → length b ≡ 16 → ((i : ℕ) → slice_index b i < 256)
    → w ≡ from_be_bytes w32 (slice_index b 0 ∷ slice_index b 1 ∷ slice_index b 2 ∷ slice_index b 3 ∷ [])
    → x ≡ from_be_bytes w32 (slice_index b 4 ∷ slice_index b 5 ∷ slice_index b 6 ∷ slice_index b 7 ∷ [])
    → y ≡ from_be_bytes w32 (slice_index b 8 ∷ slice_index b 9 ∷ slice_index b 10 ∷ slice_index b 11 ∷ [])
    → z ≡ from_be_bytes w32 (slice_index b 12 ∷ slice_index b 13 ∷ slice_index b 14 ∷ slice_index b 15 ∷ [])
    → state (w ∷ x ∷ y ∷ z ∷ []) ≡ b
unfolding state
words_are b w x y z len lt e f g h =
    joined _ _ _ _ _ _ _ _
    (column_of _ _ _ _ w (lt 0) (lt 1) (lt 2) (lt 3) e)
    (column_of _ _ _ _ x (lt 4) (lt 5) (lt 6) (lt 7) f)
    (column_of _ _ _ _ y (lt 8) (lt 9) (lt 10) (lt 11) g)
    (column_of _ _ _ _ z (lt 12) (lt 13) (lt 14) (lt 15) h)
    ∙ sixteen b len

-- a round key added word by word
pub add_key_is : (k s : List ℕ)
    → state (bit_xor (slice_index s 0) (slice_index k 0) ∷ bit_xor (slice_index s 1) (slice_index k 1)
    ∷ bit_xor (slice_index s 2) (slice_index k 2) ∷ bit_xor (slice_index s 3) (slice_index k 3) ∷ [])
    ≡ add_round_key (state k) (state s)
unfolding state add_round_key column
add_key_is k s =
    joined _ _ _ _ _ _ _ _
    (column_xor (slice_index s 0) (slice_index k 0))
    (column_xor (slice_index s 1) (slice_index k 1))
    (column_xor (slice_index s 2) (slice_index k 2))
    (column_xor (slice_index s 3) (slice_index k 3))

-- the substituted octet of a word
abbrev pub sub_row : ℕ → ℕ → ℕ
sub_row w r = sub_byte (row w r)

-- a round that mixes columns, column by column
pub mixed_round_is : (s : List ℕ) (w x y z : ℕ)
    → column w ≡ mix_column (sub_row (slice_index s 0) 0) (sub_row (slice_index s 1) 1) (sub_row (slice_index s 2) 2)
    (sub_row (slice_index s 3) 3)
    → column x ≡ mix_column (sub_row (slice_index s 1) 0) (sub_row (slice_index s 2) 1) (sub_row (slice_index s 3) 2)
    (sub_row (slice_index s 0) 3)
    → column y ≡ mix_column (sub_row (slice_index s 2) 0) (sub_row (slice_index s 3) 1) (sub_row (slice_index s 0) 2)
    (sub_row (slice_index s 1) 3)
    → column z ≡ mix_column (sub_row (slice_index s 3) 0) (sub_row (slice_index s 0) 1) (sub_row (slice_index s 1) 2)
    (sub_row (slice_index s 2) 3) → state (w ∷ x ∷ y ∷ z ∷ []) ≡ mix_columns (shift_rows (sub_bytes (state s)))
unfolding state mix_columns shift_rows sub_bytes column
mixed_round_is s w x y z e f g h = joined _ _ _ _ _ _ _ _ e f g h

-- the column of the octets of four words, each from the next row, substituted
abbrev pub substituted : ℕ → ℕ → ℕ → ℕ → List ℕ
substituted a b c d = sub_row a 0 ∷ sub_row b 1 ∷ sub_row c 2 ∷ sub_row d 3 ∷ []

-- the last round, column by column
pub last_round_is : (s : List ℕ) (w x y z : ℕ)
    → column w ≡ substituted (slice_index s 0) (slice_index s 1) (slice_index s 2) (slice_index s 3)
    → column x ≡ substituted (slice_index s 1) (slice_index s 2) (slice_index s 3) (slice_index s 0)
    → column y ≡ substituted (slice_index s 2) (slice_index s 3) (slice_index s 0) (slice_index s 1)
    → column z ≡ substituted (slice_index s 3) (slice_index s 0) (slice_index s 1) (slice_index s 2)
    → state (w ∷ x ∷ y ∷ z ∷ []) ≡ shift_rows (sub_bytes (state s))
unfolding state shift_rows sub_bytes column
last_round_is s w x y z e f g h = joined _ _ _ _ _ _ _ _ e f g h

-- the word that key expansion turns and substitutes
pub turned_is : (n p a b c d w x y z : ℕ) → column n ≡ bit_xor a p ∷ b ∷ c ∷ d ∷ [] → a ≡ w → b ≡ x → c ≡ y → d ≡ z
    → column n ≡ bit_xor w p ∷ bit_xor x 0 ∷ bit_xor y 0 ∷ bit_xor z 0 ∷ []
turned_is n p a b c d w x y z e f g h i =
    e ∙ four _ _ _ _ _ _ _ _ (ap (λ (m : ℕ). bit_xor m p) f) (g ∙ sym (xor_zero_r x)) (h ∙ sym (xor_zero_r y))
    (i ∙ sym (xor_zero_r z))

add_to : (k w : ℕ) (l : List ℕ) → column w ≡ l → column (bit_xor k w) ≡ add_words (column k) l
add_to k w l e = column_xor k w ∙ ap (add_words (column k)) e

-- the next round key, word by word
pub next_key_is : (k : List ℕ) (t p n : ℕ)
    → column t ≡ add_words (sub_word (rot_word (column (slice_index k 3)))) (p ∷ 0 ∷ 0 ∷ 0 ∷ []) → p ≡ power_of_x n
    → (let a = bit_xor (slice_index k 0) t in let b = bit_xor (slice_index k 1) a in
    let c = bit_xor (slice_index k 2) b in state (a ∷ b ∷ c ∷ bit_xor (slice_index k 3) c ∷ []))
    ≡ next_key n (state k)
unfolding state next_key column
next_key_is k t p n e f =
    let a = bit_xor (slice_index k 0) t in
    let b = bit_xor (slice_index k 1) a in
    let c = bit_xor (slice_index k 2) b in
    let told = rw f at e in
    let first = add_to (slice_index k 0) t _ told in
    let second = add_to (slice_index k 1) a _ first in
    let third = add_to (slice_index k 2) b _ second in
    joined _ _ _ _ _ _ _ _ first second third (add_to (slice_index k 3) c _ third)

-- four words, octet by octet
pub octets_are : (ws w x y z : List ℕ) → w ≡ column (slice_index ws 0) → x ≡ column (slice_index ws 1)
    → y ≡ column (slice_index ws 2) → z ≡ column (slice_index ws 3)
    → word w 0 ++ word x 0 ++ word y 0 ++ word z 0 ≡ state ws
unfolding state column
octets_are ws w x y z e f g h = rw (e, f, g, h) refl
