-- Entries as they are written, one by one.
use Rattle.std.proofs.Common.{◌≡◌, ℕ, zero, suc, ◌+◌, ◌-◌, ◌<◌, Bool, List, [], ◌∷◌, ◌++◌, length, drop, Some, None}
use Rattle.std.proofs.Common.{refl, ap, ◌∙◌, arith, append_assoc, ltb}
use Rattle.std.specs.Prelude.{slice_get, All}
use Rattle.std.proofs.lemmas.List.{length-append}
use Rattle.std.proofs.lemmas.Bool.{lt-ltb}
use Rattle.std.proofs.lemmas.List.Elements.{All-tail}
use Rattle.rlc_pdu.specs.Pdus.{IsNack}
use Rattle.l2_bits.specs.Bits.{bits, bits_of, filling}
use Rattle.l2_bits.proofs.BitFields.{length-bits, length-bits_of}
use Rattle.rlc_pdu.specs.declared.pdu.Nack.{Nack}
use Rattle.rlc_pdu.specs.Status.{has_more, nack_bits, nacks_bits, status_bits, status_size}
use Rattle.rlc_pdu.specs.Writing.{status_written}
use Rattle.rlc_pdu.proofs.Statuses.{length_status}

more_there : (at : ℕ) (ns : List Nack) → at < length ns → ltb 1 (length ns - at) ≡ has_more (drop (at + 1) ns)
more_there zero [] h = absurd (omega arith)
more_there zero (n ∷ []) h = refl
more_there zero (n ∷ m ∷ ns) h = lt-ltb 1 (length (n ∷ m ∷ ns) - 0) (omega arith)
more_there (suc at) [] h = absurd (omega arith)
more_there (suc at) (n ∷ ns) h =
    let step : suc at + 1 ≡ suc (at + 1) = omega arith in
    let left : length (n ∷ ns) - suc at ≡ length ns - at = omega arith in
    rw (step, left) (more_there at ns (omega (arith, h)))

entry_at : (at : ℕ) (ns : List Nack) (n : Nack) → Some n ≡ slice_get ns at
    → nack_bits n (has_more (drop (at + 1) ns)) ++ nacks_bits (drop (at + 1) ns) ≡ nacks_bits (drop at ns)
entry_at zero [] n e = absurd cc
entry_at zero (m ∷ ns) n e = let same : n ≡ m = cc in rw same refl
entry_at (suc at) [] n e = absurd cc
entry_at (suc at) (m ∷ ns) n e = let step : suc at + 1 ≡ suc (at + 1) = omega arith in rw step (entry_at at ns n e)

-- the loop's step
pub entry_there : (out : List Bool) (at : ℕ) (ns : List Nack) (n : Nack) → at < length ns → Some n ≡ slice_get ns at
    → (out ++ nack_bits n (ltb 1 (length ns - at))) ++ nacks_bits (drop (at + 1) ns) ≡ out ++ nacks_bits (drop at ns)
entry_there out at ns n h e =
    let b = more_there at ns h in
    append_assoc out (nack_bits n (ltb 1 (length ns - at))) (nacks_bits (drop (at + 1) ns))
    ∙ ap (λ (xs : List Bool). out ++ xs) (rw b (entry_at at ns n e))

pub is_there : (at : ℕ) (ns : List Nack) → at < length ns → None ≡ slice_get ns at → ⊥
is_there zero [] h e = omega (arith, h)
is_there zero (m ∷ ns) h e = cc
is_there (suc at) [] h e = omega (arith, h)
is_there (suc at) (m ∷ ns) h e = is_there at ns (omega (arith, h)) e

pub fits_there : (at : ℕ) (ns : List Nack) (n : Nack) → Some n ≡ slice_get ns at → All IsNack ns → IsNack n
fits_there zero [] n e fits = absurd cc
fits_there zero (m ∷ ns) n e fits = let same : n ≡ m = cc in rw same (fits 0 m (omega arith))
fits_there (suc at) [] n e fits = absurd cc
fits_there (suc at) (m ∷ ns) n e fits = fits_there at ns n e (All-tail IsNack m ns fits)

pub status_size_is : (octets : List ℕ) (ack : ℕ) (ns : List Nack) → bits_of octets ≡ status_written ack ns
    → length octets ≡ status_size ns
status_size_is octets ack ns e =
    omega (
      arith,
      ap length e,
      length-bits_of octets,
      length_status ack ns,
      length-append (status_bits ack ns) (bits (filling (length (status_bits ack ns))) 0),
      length-bits (filling (length (status_bits ack ns))) 0,
    )
