-- A text to which a stream is added, octet by octet.
use Rattle.std.proofs.Common.{◌≡◌, ◌<◌, ◌≤◌, ℕ, zero, suc, ◌+◌, ◌*◌, ◌/◌, ◌%◌, ◌∙◌, List, [], ◌∷◌, ◌++◌, length, take}
use Rattle.std.proofs.Common.{drop, slice_index, slice_set, refl, ap, arith, add-one}
use Rattle.std.specs.Int.Bits.{bit_xor, xor_assoc, xor_self, xor_zero_r}
use Rattle.std.specs.Simd.Lanes.{zip2, chunk, put_chunk}
use Rattle.eps_sec.specs.Aes.{aes}
use Rattle.eps_sec.specs.Modes.{counter_block, stream_octet, add_stream}

-- the text with its first k octets done
abbrev pub done_to : (ℕ → ℕ) → ℕ → List ℕ → List ℕ
done_to f k t = add_stream f 0 (take k t) ++ drop k t

step : (f : ℕ → ℕ) (n k m : ℕ) (t : List ℕ) → m ≡ n + k → k < length t
    → slice_set (add_stream f n (take k t) ++ drop k t) k (bit_xor (slice_index t k) (f m))
    ≡ add_stream f n (take (suc k) t) ++ drop (suc k) t
step f n k m [] e lt = absurd (omega arith)
step f n zero m (x ∷ xs) e lt = let same : m ≡ n = omega arith in ap (λ (j : ℕ). bit_xor x (f j) ∷ xs) same
step f n (suc k) m (x ∷ xs) e lt =
    ap (λ (ys : List ℕ). bit_xor x (f n) ∷ ys) (step f (n + 1) k m xs (omega arith) (omega arith))

at_seam : (f : ℕ → ℕ) (n k : ℕ) (t : List ℕ) → k < length t
    → slice_index (add_stream f n (take k t) ++ drop k t) k ≡ slice_index t k
at_seam f n k [] lt = absurd (omega arith)
at_seam f n zero (x ∷ xs) lt = refl
at_seam f n (suc k) (x ∷ xs) lt = at_seam f (n + 1) k xs (omega arith)

-- the first octets of a text, with a block added
front-done : (f : ℕ → ℕ) (n m : ℕ) (t block : List ℕ) → m ≤ length t → length block ≡ m
    → ((j : ℕ) → j < m → slice_index block j ≡ f (n + j))
    → put_chunk 0 t (zip2 bit_xor (take m t) block) ≡ add_stream f n (take m t) ++ drop m t
front-done f n zero [] block room len at = refl
front-done f n zero (x ∷ xs) block room len at = refl
front-done f n (suc m) [] block room len at = absurd (omega (arith, room))
front-done f n (suc m) (x ∷ xs) [] room len at = absurd (omega (arith, len))
front-done f n (suc m) (x ∷ xs) (y ∷ ys) room len at =
    let here : y ≡ f n = at 0 (omega arith) ∙ ap f (omega arith) in
    let more = front-done f (n + 1) m xs ys (omega (arith, room)) (omega (arith, len))
    (λ j low. at (suc j) (omega (arith, low)) ∙ ap f (omega arith)) in
    rw here (ap (λ (rest : List ℕ). bit_xor x (f n) ∷ rest) more)

block-done : (f : ℕ → ℕ) (n k : ℕ) (t block : List ℕ) → k + 16 ≤ length t → length block ≡ 16
    → ((j : ℕ) → j < 16 → slice_index block j ≡ f (n + k + j))
    → put_chunk k (add_stream f n (take k t) ++ drop k t)
    (zip2 bit_xor (chunk k 16 (add_stream f n (take k t) ++ drop k t)) block)
    ≡ add_stream f n (take (k + 16) t) ++ drop (k + 16) t
block-done f n zero t block room len at = front-done f n 16 t block room len (λ j low. at j low ∙ ap f (omega arith))
block-done f n (suc k) [] block room len at = absurd (omega (arith, room))
block-done f n (suc k) (x ∷ xs) block room len at =
    let next : suc k + 16 ≡ suc (k + 16) = omega arith in
    rw next (ap (λ (rest : List ℕ). bit_xor x (f n) ∷ rest)
    (block-done f (n + 1) k xs block (omega (arith, room)) len (λ j low. at j low ∙ ap f (omega arith))))

-- one more block, added at once
pub block-more : (f : ℕ → ℕ) (k : ℕ) (t now block : List ℕ) → k + 16 ≤ length t → now ≡ done_to f k t
    → length block ≡ 16 → ((j : ℕ) → j < 16 → slice_index block j ≡ f (k + j))
    → put_chunk k now (zip2 bit_xor (chunk k 16 now) block) ≡ done_to f (k + 16) t
block-more f k t now block room was len at =
    rw was (block-done f 0 k t block room len (λ j low. at j low ∙ ap f (omega arith)))

-- one more octet
pub done-more : (f : ℕ → ℕ) (k v : ℕ) (t now : List ℕ) → k < length t → now ≡ done_to f k t
    → v ≡ bit_xor (slice_index now k) (f k) → slice_set now k v ≡ done_to f (k + 1) t
done-more f k v t now lt e w =
    let here : slice_index now k ≡ slice_index t k = rw e (at_seam f 0 k t lt) in
    rw (e, w, here, add-one) (step f 0 k k t (omega arith) lt)

-- the octet of the stream, in the block at hand
pub stream_octet_is : (key block : List ℕ) (first i j k : ℕ) → block ≡ aes key (counter_block first i)
    → k ≡ 16 * i + j → j < 16 → slice_index block j ≡ stream_octet key first k
unfolding stream_octet
stream_octet_is key block first i j k e at lt =
    let number : k / 16 ≡ i = omega arith in
    let place : k % 16 ≡ j = omega arith in
    rw (number, place) (ap (λ (b : List ℕ). slice_index b j) e)

-- what is added twice is gone
pub add_stream-twice : (f : ℕ → ℕ) (n : ℕ) (t : List ℕ) → add_stream f n (add_stream f n t) ≡ t
add_stream-twice f n [] = refl
add_stream-twice f n (x ∷ xs) =
    let here : bit_xor (bit_xor x (f n)) (f n) ≡ x = xor_assoc x (f n) (f n) ∙ ap (bit_xor x) (xor_self (f n))
    ∙ xor_zero_r x in
    rw (here, add_stream-twice f (n + 1) xs) refl
