-- Units as they are written, two by two.
use Rattle.std.proofs.Common.{◌≡◌, ℕ, ◌+◌, ◌*◌, ◌/◌, ◌%◌, ◌<◌, ◌≤◌, List, [], ◌∷◌, ◌++◌, length, drop, get_or, refl, ap}
use Rattle.std.proofs.Common.{arith}
use Rattle.rlc_pdu.specs.Units.{follows, units_octets, pair_octets}
use Rattle.rlc_pdu.specs.Pdus.{but_last}

pub but_last_of : (ns : List ℕ) (n : ℕ) → but_last (ns ++ n ∷ []) ≡ ns
but_last_of [] n = refl
but_last_of (m ∷ []) n = refl
but_last_of (m ∷ k ∷ ns) n = ap (λ (ms : List ℕ). m ∷ ms) (but_last_of (k ∷ ns) n)

-- the loop's step, and its end
pub written_pair : (lis : List ℕ) → 2 ≤ length lis
    → pair_octets (get_or lis 0 0) (get_or lis 1 0) (follows (drop 2 lis)) ++ units_octets 0 (drop 2 lis)
    ≡ units_octets 0 lis
written_pair [] h = absurd (omega arith)
written_pair (x ∷ []) h = absurd (omega arith)
written_pair (x ∷ y ∷ lis) h = refl

pub written_one : (lis : List ℕ) → 0 < length lis → length lis < 2
    → (get_or lis 0 0 / 16) ∷ (get_or lis 0 0 % 16 * 16) ∷ [] ≡ units_octets 0 lis
written_one [] h l = absurd (omega arith)
written_one (x ∷ []) h l = let e : x % 16 * 16 + 0 ≡ x % 16 * 16 = omega arith in rw e refl
written_one (x ∷ y ∷ lis) h l = absurd (omega arith)

pub ruleset written = (but_last_of, written_pair, written_one)
