-- The octets of a STATUS from its bits.
use Rattle.std.proofs.Common.{◌≡◌, ◌<◌, ◌≤◌, ℕ, suc, zero, ◌/◌, ◌%◌, Bool, List, [], ◌∷◌, ◌++◌, length, take, drop}
use Rattle.std.proofs.Common.{slice_index, refl, ap, sym, ◌∙◌, arith}
use Rattle.l2_bits.specs.Bits.{number, bits, bits_of, digit, filling}
use Rattle.l2_bits.proofs.BitFields.{length-bits, length-bits_of, number-bits}
use Rattle.rlc_pdu.specs.declared.Nack.{Nack}
use Rattle.rlc_pdu.specs.Status.{status_size, status_bits, nacks_bits, has_more}
use Rattle.rlc_pdu.specs.Writing.{status_written}
use Rattle.bearer.specs.Acknowledged.Reports.{octets_in, octets_of}
use Rattle.rlc_pdu.specs.declared.constants.TheConstants.{AM_MODULUS}

first_bits : (xs ys : List Bool) (n : ℕ) → length xs ≡ n → take n (xs ++ ys) ≡ xs
first_bits [] ys zero e = refl
first_bits [] ys (suc n) e = absurd (omega (arith, e))
first_bits (x ∷ xs) ys zero e = absurd (omega (arith, e))
first_bits (x ∷ xs) ys (suc n) e = ap (λ l. x ∷ l) (first_bits xs ys n (omega (arith, e)))

other_bits : (xs ys : List Bool) (n : ℕ) → length xs ≡ n → drop n (xs ++ ys) ≡ ys
other_bits [] ys zero e = refl
other_bits [] ys (suc n) e = absurd (omega (arith, e))
other_bits (x ∷ xs) ys zero e = absurd (omega (arith, e))
other_bits (x ∷ xs) ys (suc n) e = other_bits xs ys n (omega (arith, e))

octet_bits : (o : ℕ) → o < 256 → number (bits 8 o) ≡ o
octet_bits o lt = number-bits 8 o ∙ omega (arith, lt)

pub octets_again : (xs : List ℕ) → ((i : ℕ) → slice_index xs i < 256) → octets_in (length xs) (bits_of xs) ≡ xs
octets_again [] fits = refl
octets_again (x ∷ xs) fits =
    ap (λ (b : List Bool). number b ∷ octets_in (length xs) (drop 8 (bits 8 x ++ bits_of xs)))
    (first_bits (bits 8 x) (bits_of xs) 8 (length-bits 8 x))
    ∙ ap (λ (b : List Bool). number (bits 8 x) ∷ octets_in (length xs) b)
    (other_bits (bits 8 x) (bits_of xs) 8 (length-bits 8 x))
    ∙ ap (λ (n : ℕ). n ∷ octets_in (length xs) (bits_of xs)) (octet_bits x (fits 0))
    ∙ ap (λ (l : List ℕ). x ∷ l) (octets_again xs (λ i. fits (suc i)))

pub written_is : (xs : List ℕ) (w : List Bool) → xs ≡ octets_in (length xs) (bits_of xs) → bits_of xs ≡ w
    → xs ≡ octets_of w
written_is xs w e q =
    let n : length w / 8 ≡ length xs = omega (arith, length-bits_of xs, ap length q) in
    e ∙ ap (octets_in (length xs)) q ∙ ap (λ (k : ℕ). octets_in k w) (sym n)

ack_bits : (ack : ℕ) (nacks : List Nack) → ack < AM_MODULUS → number (take 10 (drop 4 (status_written ack nacks))) ≡ ack
ack_bits ack nacks lt =
    let rest : List Bool = bits 1 (digit (has_more nacks)) ++ nacks_bits nacks in
    let fill : List Bool = bits (filling (length (status_bits ack nacks))) 0 in
    ap (λ (b : List Bool). number (take 10 b)) (front ack rest fill)
    ∙ ap number (first_bits (bits 10 ack) (rest ++ fill) 10 (length-bits 10 ack))
    ∙ number-bits 10 ack ∙ omega (arith, lt)
  where
    assoc3 : (a b c d : List Bool) → (a ++ (b ++ c)) ++ d ≡ a ++ (b ++ (c ++ d))
    assoc3 [] [] c d = refl
    assoc3 [] (x ∷ xs) c d = ap (λ l. x ∷ l) (assoc3 [] xs c d)
    assoc3 (x ∷ xs) b c d = ap (λ l. x ∷ l) (assoc3 xs b c d)

    front : (ack : ℕ) (rest fill : List Bool)
        → drop 4 ((bits 4 0 ++ (bits 10 ack ++ rest)) ++ fill) ≡ bits 10 ack ++ (rest ++ fill)
    front ack rest fill = ap (drop 4) (assoc3 (bits 4 0) (bits 10 ack) rest fill)
        ∙ other_bits (bits 4 0) (bits 10 ack ++ (rest ++ fill)) 4 (length-bits 4 0)

pub ack_is : (xs : List ℕ) (n : ℕ) (nacks : List Nack) → bits_of xs ≡ status_written (n % AM_MODULUS) nacks
    → number (take 10 (drop 4 (bits_of xs))) ≡ n % AM_MODULUS
ack_is xs n nacks e =
    ap (λ (b : List Bool). number (take 10 (drop 4 b))) e ∙ ack_bits (n % AM_MODULUS) nacks (omega arith)

pub two_octets : (xs : List ℕ) (nacks : List Nack) → length xs ≡ status_size nacks → 2 ≤ length xs
two_octets xs nacks e = omega (arith, e)

pub ruleset steps = (written_is, ack_is, two_octets)
