-- AES-128 (FIPS 197) over lists of 16 octets. Octet i of a state is in row i % 4 and column i / 4
-- (3.4).
use Rattle.std.specs.Prelude.{ℕ, zero, suc, ◌+◌, ◌*◌, ◌/◌, ◌%◌, bit_xor, List, [], ◌∷◌, ◌++◌, map}
use Rattle.std.specs.Prelude.{slice_index}
use Rattle.std.specs.List.{range_with_len}
use Rattle.eps_sec.specs.Field.{times, sub_byte}

-- the 16 octets f 0, .., f 15
abbrev pub octets : (ℕ → ℕ) → List ℕ
octets f = map f (range_with_len 0 16)

-- each octet by the S-box (5.1.1)
unfoldable pub sub_bytes : List ℕ → List ℕ
sub_bytes s = octets (λ i. sub_byte (slice_index s i))

-- row r by r columns to the left (5.1.2)
unfoldable pub shift_rows : List ℕ → List ℕ
shift_rows s = octets (λ i. slice_index s ((i + 4 * (i % 4)) % 16))

-- the octet that is k rows below octet i in its column, the rows taken in a circle
abbrev pub below : List ℕ → ℕ → ℕ → ℕ
below s i k = slice_index s (4 * (i / 4) + (i + k) % 4)

-- the product of the matrix' row 2 3 1 1 with a column
unfoldable pub mix_octet : ℕ → ℕ → ℕ → ℕ → ℕ
mix_octet a b c d = bit_xor (bit_xor (bit_xor (times 2 a) (times 3 b)) c) d

-- the product of the matrix with each column; its other rows are that row turned to the right
-- (5.1.3)
unfoldable pub mix_columns : List ℕ → List ℕ
mix_columns s = octets (λ i. mix_octet (below s i 0) (below s i 1) (below s i 2) (below s i 3))

-- the round key added bit by bit (5.1.4)
unfoldable pub add_round_key : List ℕ → List ℕ → List ℕ
add_round_key k s = octets (λ i. bit_xor (slice_index s i) (slice_index k i))

-- word c of a round key, as four octets
abbrev pub word : List ℕ → ℕ → List ℕ
word k c = map (λ r. slice_index k (4 * c + r)) (range_with_len 0 4)

-- the sum of two words
abbrev pub add_words : List ℕ → List ℕ → List ℕ
add_words v w = map (λ r. bit_xor (slice_index v r) (slice_index w r)) (range_with_len 0 4)

-- the octets of a word turned to the left by one place (5.2)
abbrev pub rot_word : List ℕ → List ℕ
rot_word w = slice_index w 1 ∷ slice_index w 2 ∷ slice_index w 3 ∷ slice_index w 0 ∷ []

-- each octet of a word by the S-box (5.2)
abbrev pub sub_word : List ℕ → List ℕ
sub_word w = map sub_byte w

-- x ^ n
unfoldable pub power_of_x : ℕ → ℕ
power_of_x zero = 1
power_of_x (suc n) = times 2 (power_of_x n)

-- the word Rcon[n + 1] (5.2)
abbrev pub round_constant : ℕ → List ℕ
round_constant n = power_of_x n ∷ 0 ∷ 0 ∷ 0 ∷ []

-- the four words after those of round key n, k (5.2)
unfoldable pub next_key : ℕ → List ℕ → List ℕ
next_key n k =
    let a = add_words (word k 0) (add_words (sub_word (rot_word (word k 3))) (round_constant n)) in
    let b = add_words (word k 1) a in
    let c = add_words (word k 2) b in
    let d = add_words (word k 3) c in
    a ++ b ++ c ++ d

-- round key n: the words 4 * n, .., 4 * n + 3 of the key schedule (5.2)
unfoldable pub round_key : List ℕ → ℕ → List ℕ
round_key key zero = key
round_key key (suc n) = next_key n (round_key key n)

-- the state after round n, of the rounds before the last (5.1)
unfoldable pub rounds : List ℕ → List ℕ → ℕ → List ℕ
rounds key block zero = add_round_key (round_key key 0) block
rounds key block (suc n) =
    add_round_key (round_key key (suc n))
    (mix_columns (shift_rows (sub_bytes (rounds key block n))))

-- the cipher, whose last round mixes no columns (5.1)
unfoldable pub aes : List ℕ → List ℕ → List ℕ
aes key block = add_round_key (round_key key 10) (shift_rows (sub_bytes (rounds key block 9)))
