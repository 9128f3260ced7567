-- CMAC, block by block.
use Rattle.std.proofs.Common.{◌≡◌, ◌≢◌, ◌<◌, ◌≤◌, ℕ, ◌+◌, ◌-◌, ◌*◌, ◌∙◌, List, [], ◌∷◌, ◌++◌, length, slice_index}
use Rattle.std.proofs.Common.{slice_set, arith, add-one, ◌==◌, true, false, rules, length-append}
use Rattle.std.proofs.Math.Seq.{get_or-append_right}
use Rattle.std.proofs.lemmas.List.{get_or_append_left}
use Rattle.std.proofs.lemmas.List.Edits.{fill_by_more}
use Rattle.std.proofs.lemmas.List.FromFn.{fill_by_all}
use Rattle.std.proofs.lemmas.Bool.Decides.{nat_tests}
use Rattle.eps_sec.specs.Aes.{aes, octets}
use Rattle.eps_sec.specs.Modes.{add_blocks, chain, subkey_1, subkey_2, block_of, cmac, last_block, last_number}

-- a loop that writes f j at each place j
pub wrote : (f : ℕ → ℕ) (xs : List ℕ) (i v : ℕ) → i < length xs → v ≡ f i → ((k : ℕ) → k < i → slice_index xs k ≡ f k)
    → (k : ℕ) → k < i + 1 → slice_index (slice_set xs i v) k ≡ f k
wrote f xs i v lt e old = rw e (fill_by_more f xs i 0 lt old)

-- 16 octets by their places
pub all_written : (f : ℕ → ℕ) (xs : List ℕ) → length xs ≡ 16 → ((k : ℕ) → k < 16 → slice_index xs k ≡ f k)
    → xs ≡ octets f
all_written f xs len each = fill_by_all f xs 16 0 len each

-- an octet of the middle one of three pieces
pub in_body : (head body tail : List ℕ) (k : ℕ) → length head ≤ k → k < length head + length body
    → slice_index (head ++ body ++ tail) k ≡ slice_index body (k - length head)
in_body head body tail k le lt =
    let within : k < length (head ++ body) = omega (arith, length-append head body) in
    get_or_append_left (head ++ body) tail 0 k within ∙ get_or-append_right head body k 0 le

pub block_is : (m b : List ℕ) (i : ℕ) → length b ≡ 16
    → ((j : ℕ) → j < 16 → slice_index b j ≡ slice_index m (16 * i + j)) → b ≡ block_of m i
unfolding block_of
block_is m b i len each = all_written (λ j. slice_index m (16 * i + j)) b len each

pub chain_more : (key m b s r : List ℕ) (n : ℕ) → b ≡ block_of m n → s ≡ chain key m n → r ≡ aes key (add_blocks b s)
    → r ≡ chain key m (n + 1)
unfolding chain
chain_more key m b s r n e f g = rw add-one (rw (e, f) at g)

pub cmac_is : (key m b s r : List ℕ) (n : ℕ) → n ≡ last_number m → b ≡ last_block key m → s ≡ chain key m n
    → r ≡ aes key (add_blocks b s) → r ≡ cmac key m
unfolding cmac
cmac_is key m b s r n e f g h = rw (f, g, e) at h

pub whole_last : (key m k b r : List ℕ) (n : ℕ) → n ≡ last_number m → length m ≡ 16 * (n + 1) → k ≡ subkey_1 key
    → b ≡ block_of m n → r ≡ add_blocks k b → r ≡ last_block key m
unfolding last_block
whole_last key m k b r n e len f g h =
    let test : (length m == 16 * (last_number m + 1)) ≡ true = search (rules, nat_tests, rw e at len) in
    rw test (rw (f, g, e) at h)

pub cut_last : (key m k b r : List ℕ) (n : ℕ) → n ≡ last_number m → length m ≢ 16 * (n + 1) → k ≡ subkey_2 key
    → b ≡ block_of (m ++ 0x80 ∷ []) n → r ≡ add_blocks k b → r ≡ last_block key m
unfolding last_block
cut_last key m k b r n e len f g h =
    let test : (length m == 16 * (last_number m + 1)) ≡ false = search (rules, nat_tests, rw e at len) in
    rw test (rw (f, g, e) at h)
