-- Numbers that are lost (TS 36.322 5.1.2.2.3).
use Rattle.std.specs.Prelude.{◌≡◌, ℕ, Bool, true, false, List, [], ◌∷◌, Option, None}
use Rattle.rlc_um.specs.Joined.{Parts, nothing_joined, with_numbers}
use Rattle.law_rlc.specs.UmPair.Send.{Flow, carried}

-- some items of a list, in its order
abbrev pub kept : List Bool → List (List ℕ) → List (List ℕ)
kept [] xs = []
kept (b ∷ bs) [] = []
kept (true ∷ bs) (x ∷ xs) = x ∷ kept bs xs
kept (false ∷ bs) (x ∷ xs) = kept bs xs

pub record IsSome (xs ys : List (List ℕ)) : Type 0 where
  pub choice : List Bool
  pub chosen : xs ≡ kept choice ys

-- the numbers of a list, with some of them missing
abbrev pub missing : List Bool → List (Option Parts) → List (Option Parts)
missing [] ss = ss
missing (b ∷ bs) [] = []
missing (true ∷ bs) (s ∷ ss) = None ∷ missing bs ss
missing (false ∷ bs) (s ∷ ss) = s ∷ missing bs ss

-- whatever is lost, what is joined are some of the SDUs that were offered, in their order, each
-- once and unchanged
pub record IsOrdered (f : Flow) : Type 0 where
  pub some : (lost : List Bool)
      → IsSome (with_numbers (missing lost (carried f.made)) nothing_joined).ready f.offered
