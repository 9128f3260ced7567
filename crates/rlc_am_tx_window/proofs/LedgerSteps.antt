-- What is left of SDUs.
use Rattle.std.proofs.Common.{◌≡◌, ℕ, zero, suc, ◌+◌, ◌≤◌, List, [], ◌∷◌, ◌++◌, length, drop, slice_get, refl, arith}
use Rattle.std.proofs.lemmas.Grind.{common_steps}
use Rattle.std.proofs.lemmas.Bool.Decides.{nat_tests}
use Rattle.rlc_am_tx_window.specs.Ledger.{Owed, left_in, left_of, leading_paid, paid_at, last_size}

pub left-open : (os : List Owed) (o : Owed) → left_in (os ++ o ∷ []) ≡ left_in os + left_of o
left-open [] o = omega arith
left-open (p ∷ os) o = let ih = left-open os o in omega arith

pub ruleset opens = (left-open)

pub left-paid : (os : List Owed) (at n : ℕ)
    → left_in (paid_at (slice_get os at) os at n) + last_size (slice_get os at) n ≡ left_in os
left-paid [] at n = grind (arith, nat_tests, common_steps)
left-paid (o ∷ os) zero n = grind (arith, nat_tests, common_steps)
left-paid (o ∷ os) (suc at) n = let ih = left-paid os at n in grind (arith, nat_tests, common_steps, ih)

pub length-paid : (os : List Owed) (at n : ℕ) → length (paid_at (slice_get os at) os at n) ≡ length os
length-paid os at n = grind (arith, common_steps)

pub done-within : (os : List Owed) (at n : ℕ) → last_size (slice_get os at) n ≤ left_in os
done-within os at n = let h = left-paid os at n in omega arith

pub ruleset credits = (left-paid, length-paid, done-within)

pub left-swept : (os : List Owed) → left_in (drop (leading_paid os) os) ≡ left_in os
left-swept [] = refl
left-swept (o ∷ os) = grind (arith, nat_tests, common_steps, left-swept os)

pub ruleset sweeps = (left-swept)
