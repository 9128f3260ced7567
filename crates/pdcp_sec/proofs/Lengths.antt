-- A ciphered text is as long as the plain one, and ciphered again it is the plain one.
use Rattle.std.proofs.Common.{◌≡◌, ℕ, suc, ◌+◌, List, [], ◌∷◌, length, refl, ap}
use Rattle.eps_sec.specs.declared.Cipher.{Cipher}
use Rattle.eps_sec.specs.declared.Cipher.TheVariants.{Eea0, Eea2}
use Rattle.eps_sec.specs.Modes.{add_stream, ciphered, stream_octet, first_counter}
use Rattle.eps_sec.proofs.StreamLemmas.{add_stream-twice}
use Rattle.pdcp_sec.specs.Protection.{Protection, ciphered_with}

length_stream : (f : ℕ → ℕ) (n : ℕ) (text : List ℕ) → length (add_stream f n text) ≡ length text
length_stream f n [] = refl
length_stream f n (x ∷ xs) = ap suc (length_stream f (n + 1) xs)

pub length_ciphered : (alg : Cipher) (key : List ℕ) (count bearer direction : ℕ) (text : List ℕ)
    → length (ciphered alg key count bearer direction text) ≡ length text
length_ciphered Eea0 key count bearer direction text = refl
length_ciphered Eea2 key count bearer direction text =
    length_stream (stream_octet key (first_counter count bearer direction)) 0 text

pub length_ciphered_with : (p : Protection) (count : ℕ) (text : List ℕ)
    → length (ciphered_with p count text) ≡ length text
unfolding ciphered_with
length_ciphered_with p count text = length_ciphered p.cipher p.key count p.bearer p.direction text

twice : (alg : Cipher) (key : List ℕ) (count bearer direction : ℕ) (text : List ℕ)
    → ciphered alg key count bearer direction (ciphered alg key count bearer direction text) ≡ text
twice Eea0 key count bearer direction text = refl
twice Eea2 key count bearer direction text =
    add_stream-twice (stream_octet key (first_counter count bearer direction)) 0 text

pub ciphered_twice : (p : Protection) (count : ℕ) (text : List ℕ)
    → ciphered_with p count (ciphered_with p count text) ≡ text
unfolding ciphered_with
ciphered_twice p count text = twice p.cipher p.key count p.bearer p.direction text
