-- The words of 32 bits that the program computes with (FIPS 197, section 3.5): a word is a column,
-- its highest octet in row 0.
use Rattle.std.specs.Prelude.{◌≡◌, ◌<◌, ℕ, List, [], ◌∷◌, ◌++◌, take, drop, replicate, slice_index}
use Rattle.std.specs.Prelude.{slice_index_or}
use Rattle.std.specs.Int.{w32, to_be_bytes}
use Rattle.eps_sec.specs.Aes.{sub_bytes, shift_rows, mix_octet, mix_columns, add_round_key}
use Rattle.eps_sec.specs.Aes.{round_key}

-- the four octets of a word
unfoldable pub column : ℕ → List ℕ
column w = to_be_bytes w32 w

-- the octet of a word in row r
abbrev pub row : ℕ → ℕ → ℕ
row w r = slice_index (column w) r

-- the 16 octets of four words
unfoldable pub state : List ℕ → List ℕ
state ws = column (slice_index ws 0) ++ column (slice_index ws 1) ++ column (slice_index ws 2)
    ++ column (slice_index ws 3)

-- the column p q r s, mixed
abbrev pub mix_column : ℕ → ℕ → ℕ → ℕ → List ℕ
mix_column p q r s = mix_octet p q r s ∷ mix_octet q r s p ∷ mix_octet r s p q ∷ mix_octet s p q r
    ∷ []

-- the round keys ks are those of the first of them
abbrev pub AreRoundKeys : List (List ℕ) → Type 0
AreRoundKeys ks = (n : ℕ) → n < 11 → state (slice_index_or ks n [])
    ≡ round_key (state (slice_index_or ks 0 [])) n

-- the octet that the S-box takes to 0, so that a round adds nothing for it
abbrev pub nothing : ℕ
nothing = 0x52

-- the state after round 1 of a block that begins with the 15 octets of head, but nothing is added
-- for its last octet
unfoldable pub front : List ℕ → List ℕ → List ℕ
front key head =
    add_round_key (round_key key 1)
    (mix_columns (shift_rows (sub_bytes (take 15 (add_round_key key head) ++ nothing ∷ []))))

-- its first word, and the words that round 2 mixes of the three others, nothing being added for the
-- first
abbrev pub IsFrontOf : ℕ → List ℕ → List ℕ → List ℕ → Type 0
IsFrontOf w ws key head =
    (column w ≡ take 4 (front key head))
    × (state ws
    ≡ mix_columns (shift_rows (sub_bytes (replicate 4 nothing ++ drop 4 (front key head)))))
