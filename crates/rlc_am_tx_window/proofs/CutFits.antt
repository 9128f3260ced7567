-- What is cut fits its size, and what is written has its reckoned size.
use Rattle.std.proofs.Common.{◌≡◌, ◌<◌, ◌≤◌, ℕ, suc, zero, ◌+◌, ◌-◌, ◌*◌, ◌/◌, Bool, true, false, not, List, [], ◌∷◌}
use Rattle.std.proofs.Common.{length, min, Option, refl, sym, subst, ◌∙◌, arith}
use Rattle.std.proofs.lemmas.Bool.Decides.{nat_tests}
use Rattle.std.specs.List.{sum}
use Rattle.rlc_pdu.specs.declared.pdu.Segment.{Segment}
use Rattle.rlc_pdu.specs.Pdus.{AreLens}
use Rattle.rlc_pdu.specs.Grammar.{has_segment}
use Rattle.rlc_pdu.specs.Writing.{header_len, amd_written}
use Rattle.rlc_pdu.proofs.Again.{sizes}
use Rattle.rlc_am_tx_window.specs.Cut.{cut, cost, goes_on}
use Rattle.rlc_am_tx_window.proofs.CutSteps.{sum-first}

-- what so many elements behind the first cost
abbrev pub costs : Bool → ℕ → ℕ
costs half zero = 0
costs half (suc n) = cost half + costs (not half) n

pub costs-is : (n : ℕ) → costs false n ≡ (12 * n + 7) / 8
costs-is zero = refl
costs-is (suc zero) = refl
costs-is (suc (suc n)) = let rest = costs-is n in let step : costs false (suc (suc n)) ≡ 3 + costs false n =
    omega arith in step ∙ omega (arith, rest)

pub cut-goes : (half : Bool) (room l : ℕ) (ls : List ℕ) → goes_on half room l ≡ true
    → cut half room (l ∷ ls) ≡ min l room ∷ cut (not half) (room - (l + cost half)) ls
cut-goes half room l ls e = rw e refl

-- the cut fits behind the fixed part of the header
pub fits-in : (half : Bool) (room : ℕ) (ls : List ℕ)
    → sum (cut half room ls) + costs half (length (cut half room ls) - 1) ≤ room
fits-in half room [] = omega arith
fits-in half room (l ∷ ls) = by (goes_on half room l) refl (fits-in (not half) (room - (l + cost half)) ls)
  where
    by : (b : Bool) → goes_on half room l ≡ b
        → sum (cut (not half) (room - (l + cost half)) ls)
        + costs (not half) (length (cut (not half) (room - (l + cost half)) ls) - 1) ≤ room - (l + cost half)
        → sum (cut half room (l ∷ ls)) + costs half (length (cut half room (l ∷ ls)) - 1) ≤ room
    by false e rest =
        let is : cut half room (l ∷ ls) ≡ min l room ∷ [] = rw e refl in
        subst (λ (xs : List ℕ). sum xs + costs half (length xs - 1) ≤ room) (sym is) (one (min l room) (omega arith))
      where
        one : (n : ℕ) → n ≤ room → sum (n ∷ []) + costs half (length (n ∷ []) - 1) ≤ room
        one n le = omega (arith, sum-first n [])
    by true e rest =
        let fit : l + cost half < room = grind (arith, nat_tests) in
        subst (λ (xs : List ℕ). sum xs + costs half (length xs - 1) ≤ room) (sym (cut-goes half room l ls e))
        (subst (λ (n : ℕ). n + costs half (length (min l room ∷ cut (not half) (room - (l + cost half)) ls) - 1)
        ≤ room) (sym (sum-first (min l room) (cut (not half) (room - (l + cost half)) ls)))
        (count (cut (not half) (room - (l + cost half)) ls) rest fit))
      where
        count : (xs : List ℕ) → sum xs + costs (not half) (length xs - 1) ≤ room - (l + cost half)
            → l + cost half < room → min l room + sum xs + costs half (length (min l room ∷ xs) - 1) ≤ room
        count [] r f = omega arith
        count (x ∷ xs) r f =
            let n : length (min l room ∷ x ∷ xs) - 1 ≡ suc (length xs) = omega arith in
            let k : length (x ∷ xs) - 1 ≡ length xs = omega arith in
            let r' : sum (x ∷ xs) + costs (not half) (length xs) ≤ room - (l + cost half) =
            subst (λ (m : ℕ). sum (x ∷ xs) + costs (not half) m ≤ room - (l + cost half)) k r in
            rw n (omega arith)

pub cut-fits : (size : ℕ) (ls : List ℕ) → 5 ≤ size
    → header_len 4 (length (cut false (size - 4) ls)) + sum (cut false (size - 4) ls) ≤ size
cut-fits size ls five =
    let all = fits-in false (size - 4) ls in
    let c = costs-is (length (cut false (size - 4) ls) - 1) in
    omega (arith, all, c)

pub ruleset fits = (cut-fits)

-- a PDU, or a segment of one
pub written-len : (sn : ℕ) (poll : Bool) (fi : ℕ) (segment : Option Segment) (lens field : List ℕ) → AreLens lens
    → sum lens ≡ length field → length (amd_written sn poll fi segment lens field)
    ≡ header_len (2 + 2 * has_segment segment) (length lens) + sum lens
written-len sn poll fi segment lens field h e = let len = (sizes lens field h).amd sn poll fi segment in rw e len
