-- What is read in a group, and what its `up` records tell, as they are compared one by one
-- (docs/formats/JOURNAL.md).
use Rattle.std.specs.Prelude.{ℕ, Bool, true, false, ◌&&◌, List, [], ◌∷◌, ◌++◌}
use Rattle.std.specs.Str.{bytes_eq}

-- those that were compared are the same; what is read and not told yet, and the other way round
pub record Pairing : Type 0 where
  pub same : Bool
  pub read : List (List ℕ)
  pub up : List (List ℕ)

abbrev pub nothing_paired : Pairing
nothing_paired = record { same = true; read = []; up = [] }

-- an SDU that is read
abbrev pub read_beside : List ℕ → List (List ℕ) → Pairing → Pairing
read_beside sdu [] p = record p { read = p.read ++ sdu ∷ [] }
read_beside sdu (up ∷ ups) p = record p { same = p.same && bytes_eq sdu up; up = ups }

abbrev pub with_read : List ℕ → Pairing → Pairing
with_read sdu p = read_beside sdu p.up p

-- one that goes up
abbrev pub up_beside : List ℕ → List (List ℕ) → Pairing → Pairing
up_beside sdu [] p = record p { up = p.up ++ sdu ∷ [] }
up_beside sdu (read ∷ reads) p = record p { same = p.same && bytes_eq read sdu; read = reads }

abbrev pub with_up : List ℕ → Pairing → Pairing
with_up sdu p = up_beside sdu p.read p

abbrev pub is_none : List (List ℕ) → Bool
is_none [] = true
is_none (sdu ∷ sdus) = false

-- each has its like
abbrev pub is_even : Pairing → Bool
is_even p = p.same && is_none p.read && is_none p.up

-- ---- the SDUs of a group, the latest first

pub data Told : Type 0 where
  IsRead : List ℕ → Told
  GoesUp : List ℕ → Told

abbrev pub told_with : Told → Pairing → Pairing
told_with (IsRead sdu) p = with_read sdu p
told_with (GoesUp sdu) p = with_up sdu p

abbrev pub paired : List Told → Pairing
paired [] = nothing_paired
paired (one ∷ told) = told_with one (paired told)

abbrev pub reads_in : List Told → List (List ℕ)
reads_in [] = []
reads_in (IsRead sdu ∷ told) = reads_in told ++ sdu ∷ []
reads_in (GoesUp sdu ∷ told) = reads_in told

abbrev pub ups_in : List Told → List (List ℕ)
ups_in [] = []
ups_in (IsRead sdu ∷ told) = ups_in told
ups_in (GoesUp sdu ∷ told) = ups_in told ++ sdu ∷ []
