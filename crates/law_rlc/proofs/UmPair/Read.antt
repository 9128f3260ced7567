-- The number that a sequence number is read as, in both windows.
use Rattle.std.proofs.Common.{◌<◌, ◌≤◌, ◌^◌, ℕ, arith, List, Option, subst, sym, inl, inr}
use Rattle.rlc_um.specs.Joined.{Parts}
use Rattle.rlc_um.specs.Sender.{width_of}
use Rattle.law_rlc.specs.UmPair.Read.{IsRead, ReadsNumbers}

short-read : (edge : ℕ) (slots : List (Option Parts)) (sn : ℕ) → 32 ≤ edge → sn < 32
    → IsRead (record { width = 16; edge = edge; slots = slots }) sn
short-read edge slots sn h g = record {
  same = omega arith;
  low = omega arith;
  below = omega arith;
  only = λ n a b c. omega arith;
}

long-read : (edge : ℕ) (slots : List (Option Parts)) (sn : ℕ) → 1024 ≤ edge → sn < 1024
    → IsRead (record { width = 512; edge = edge; slots = slots }) sn
long-read edge slots sn h g = record {
  same = omega arith;
  low = omega arith;
  below = omega arith;
  only = λ n a b c. omega arith;
}

pub reads_numbers : ReadsNumbers
reads_numbers bits edge sn slots (inl e) =
    subst (λ (b : ℕ). 2 ^ b ≤ edge → sn < 2 ^ b
    → IsRead (record { width = width_of b; edge = edge; slots = slots }) sn) (sym e) (short-read edge slots sn)
reads_numbers bits edge sn slots (inr e) =
    subst (λ (b : ℕ). 2 ^ b ≤ edge → sn < 2 ^ b
    → IsRead (record { width = width_of b; edge = edge; slots = slots }) sn) (sym e) (long-read edge slots sn)
