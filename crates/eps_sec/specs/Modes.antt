-- 128-EEA2 and 128-EIA2 (TS 33.401, Annex B): AES-128 in counter mode, and AES-CMAC (RFC 4493).
use Rattle.std.specs.Prelude.{ℕ, zero, suc, ◌+◌, ◌-◌, ◌*◌, ◌/◌, ◌%◌, ◌^◌, bit_xor, if◌then◌else◌}
use Rattle.std.specs.Prelude.{◌==◌, nat_lt, List, [], ◌∷◌, ◌++◌, length, take, replicate}
use Rattle.std.specs.Prelude.{slice_index}
use Rattle.std.specs.Int.{w32, w128, to_be_bytes, from_be_bytes}
use Rattle.eps_sec.specs.declared.keys.Cipher.{Cipher}
use Rattle.eps_sec.specs.declared.keys.Cipher.TheVariants.{Eea0, Eea2}
use Rattle.eps_sec.specs.Aes.{aes, octets, add_round_key}

-- COUNT in 32 bits, BEARER in 5, DIRECTION in 1, and 26 zero bits (B.1.3, B.2.3)
abbrev pub prefix : ℕ → ℕ → ℕ → List ℕ
prefix count bearer direction =
    to_be_bytes w32 count ++ ((8 * bearer + 4 * direction) ∷ 0 ∷ 0 ∷ 0 ∷ [])

-- the number of the first counter block: the prefix and 64 zero bits (B.1.3)
abbrev pub first_counter : ℕ → ℕ → ℕ → ℕ
first_counter count bearer direction =
    from_be_bytes w128 (prefix count bearer direction ++ replicate 8 0)

-- counter block i: the first one plus i, modulo 2 ^ 128
unfoldable pub counter_block : ℕ → ℕ → List ℕ
counter_block first i = to_be_bytes w128 ((first + i) % 2 ^ 128)

-- octet k of the encrypted counter blocks, one after the other
unfoldable pub stream_octet : List ℕ → ℕ → ℕ → ℕ
stream_octet key first k = slice_index (aes key (counter_block first (k / 16))) (k % 16)

-- the text with the octets f n, f (n + 1), .. added bit by bit
abbrev pub add_stream : (ℕ → ℕ) → ℕ → List ℕ → List ℕ
add_stream f n [] = []
add_stream f n (x ∷ xs) = bit_xor x (f n) ∷ add_stream f (n + 1) xs

-- 128-EEA2 (B.1.3)
abbrev pub eea2 : List ℕ → ℕ → ℕ → ℕ → List ℕ → List ℕ
eea2 key count bearer direction text =
    add_stream (stream_octet key (first_counter count bearer direction)) 0 text

-- the text under a cipher; EEA0 leaves it as it is (B.0)
abbrev pub ciphered : Cipher → List ℕ → ℕ → ℕ → ℕ → List ℕ → List ℕ
ciphered Eea0 key count bearer direction text = text
ciphered Eea2 key count bearer direction text = eea2 key count bearer direction text

-- the product with x in the field of 2 ^ 128 elements (RFC 4493, 2.3)
unfoldable pub double : ℕ → ℕ
double n = if nat_lt n (2 ^ 127) then 2 * n else bit_xor (2 * (n - 2 ^ 127)) 0x87

-- that of a block
unfoldable pub double_block : List ℕ → List ℕ
double_block b = to_be_bytes w128 (double (from_be_bytes w128 b))

-- the subkey K1 (2.3)
unfoldable pub subkey_1 : List ℕ → List ℕ
subkey_1 key = double_block (aes key (replicate 16 0))

-- the subkey K2 (2.3)
unfoldable pub subkey_2 : List ℕ → List ℕ
subkey_2 key = double_block (subkey_1 key)

-- block i of a message, with zeros past its end
unfoldable pub block_of : List ℕ → ℕ → List ℕ
block_of m i = octets (λ j. slice_index m (16 * i + j))

-- the sum of two blocks
abbrev pub add_blocks : List ℕ → List ℕ → List ℕ
add_blocks = add_round_key

-- the chain over the first n blocks (2.4, step 6)
unfoldable pub chain : List ℕ → List ℕ → ℕ → List ℕ
chain key m zero = replicate 16 0
chain key m (suc n) = aes key (add_blocks (block_of m n) (chain key m n))

-- how many blocks stand before the last one, which the empty message has too (2.4, steps 2 and 3)
abbrev pub last_number : List ℕ → ℕ
last_number m = (length m - 1) / 16

-- the last block: a whole one with K1, another with a bit 1 and zeros behind it with K2 (2.4, step
-- 4)
unfoldable pub last_block : List ℕ → List ℕ → List ℕ
last_block key m = if length m == 16 * (last_number m + 1)
    then add_blocks (subkey_1 key) (block_of m (last_number m))
    else add_blocks (subkey_2 key) (block_of (m ++ 0x80 ∷ []) (last_number m))

-- AES-CMAC (2.4)
unfoldable pub cmac : List ℕ → List ℕ → List ℕ
cmac key m = aes key (add_blocks (last_block key m) (chain key m (last_number m)))

-- 128-EIA2 (B.2.3)
abbrev pub eia2 : List ℕ → ℕ → ℕ → ℕ → List ℕ → List ℕ
eia2 key count bearer direction m = take 4 (cmac key (prefix count bearer direction ++ m))
