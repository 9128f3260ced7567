-- The PDUs of SDUs by their places.
use Rattle.std.proofs.Common.{◌≡◌, ◌≢◌, ◌<◌, ◌≤◌, ℕ, zero, suc, ◌+◌, List, [], ◌∷◌, ◌++◌, length, take, Some, slice_get}
use Rattle.std.proofs.Common.{refl, ap, ◌∙◌, subst, arith}
use Rattle.pdcp_pdu.specs.declared.PdcpKind.TheVariants.{Srb}
use Rattle.pdcp_sec.specs.Protection.{Protection}
use Rattle.pdcp_tx.specs.State.{written}
use Rattle.law_pdcp.specs.SrbPair.Delivery.{written_from}
use Rattle.law_pdcp.proofs.OneEnd.Submitting.{AreNonempty}

pub written_more : (p : Protection) (count : ℕ) (xs : List (List ℕ)) (x : List ℕ)
    → written_from p count (xs ++ x ∷ []) ≡ written_from p count xs ++ written Srb p (Some (count + length xs)) x ∷ []
written_more p count [] x = let same : count ≡ count + 0 = omega arith in ap (λ n. written Srb p (Some n) x ∷ []) same
written_more p count (y ∷ xs) x =
    let same : count + 1 + length xs ≡ count + suc (length xs) = omega arith in
    ap (λ l. written Srb p (Some count) y ∷ l) (written_more p (count + 1) xs x
    ∙ ap (λ n. written_from p (count + 1) xs ++ written Srb p (Some n) x ∷ []) same)

pub length_written : (p : Protection) (count : ℕ) (xs : List (List ℕ)) → length (written_from p count xs) ≡ length xs
length_written p count [] = refl
length_written p count (x ∷ xs) = ap suc (length_written p (count + 1) xs)

-- the PDU of the SDU at a place
pub record IsWrittenAt (p : Protection) (count : ℕ) (sdus : List (List ℕ)) (k : ℕ) : Type 0 where
  pub sdu : List ℕ
  pub taken : slice_get sdus k ≡ Some sdu
  pub at : slice_get (written_from p count sdus) k ≡ Some (written Srb p (Some (count + k)) sdu)

pub written_at : (p : Protection) (count : ℕ) (sdus : List (List ℕ)) (k : ℕ) → k < length sdus
    → IsWrittenAt p count sdus k
written_at p count [] k lt = absurd (omega (arith, lt))
written_at p count (x ∷ sdus) zero lt =
    let same : count ≡ count + 0 = omega arith in
    record { sdu = x; taken = refl; at = ap (λ n. Some (written Srb p (Some n) x)) same }
written_at p count (x ∷ sdus) (suc k) lt =
    let rest = written_at p (count + 1) sdus k (omega (arith, lt)) in
    let same : count + 1 + k ≡ count + suc k = omega arith in
    record { sdu = rest.sdu; taken = rest.taken; at = rest.at ∙ ap (λ n. Some (written Srb p (Some n) rest.sdu)) same }

pub some_at : (sdus : List (List ℕ)) (k : ℕ) (sdu : List ℕ) → AreNonempty sdus → slice_get sdus k ≡ Some sdu → sdu ≢ []
some_at [] k sdu h e = absurd cc
some_at (x ∷ sdus) zero sdu h e = let same : x ≡ sdu = cc in subst (λ y. y ≢ []) same h.0
some_at (x ∷ sdus) (suc k) sdu h e = some_at sdus k sdu h.1 e

pub take_next : (sdus : List (List ℕ)) (k : ℕ) (sdu : List ℕ) → slice_get sdus k ≡ Some sdu
    → take (suc k) sdus ≡ take k sdus ++ sdu ∷ []
take_next [] k sdu e = absurd cc
take_next (x ∷ sdus) zero sdu e = let same : x ≡ sdu = cc in ap (λ y. y ∷ []) same
take_next (x ∷ sdus) (suc k) sdu e = ap (λ l. x ∷ l) (take_next sdus k sdu e)

-- those behind are none of the first
pub take_more : (sdus g : List (List ℕ)) (k : ℕ) → k ≤ length sdus → take k (sdus ++ g) ≡ take k sdus
take_more sdus g zero le = refl
take_more [] g (suc k) le = absurd (omega (arith, le))
take_more (x ∷ sdus) g (suc k) le = ap (λ l. x ∷ l) (take_more sdus g k (omega (arith, le)))
