-- Bearers by their LCID, and the numbers that HARQ processes hold (TS 36.321 5.4.2, 6.2.1).
use Rattle.std.specs.Prelude.{ℕ, ◌+◌, Bool, nat_lt, ◌==◌, if◌then◌else◌, Option, Some, None, List}
use Rattle.std.specs.Prelude.{[], ◌∷◌, length, slice_index_or}
use Rattle.bearer.specs.Bearer.{Of, of, Life, alive}
use Rattle.bearer.specs.declared.flow.Flow.TheVariants.{Tm}
use Rattle.rlc_um.specs.Transparent.{nothing_submitted}
use Rattle.harq.specs.Sending.{Sending, held_of}

-- the place of a bearer, or the length where there is none
abbrev pub find : ℕ → List (Of Life) → ℕ
find lcid [] = 0
find lcid (b ∷ bs) = if b.channel.lcid == lcid then 0 else find lcid bs + 1

-- there is one
abbrev pub has : ℕ → List (Of Life) → Bool
has lcid bearers = nat_lt (find lcid bearers) (length bearers)

-- the place of a new one, in ascending LCID
abbrev pub place : ℕ → List (Of Life) → ℕ
place lcid [] = 0
place lcid (b ∷ bs) = if nat_lt b.channel.lcid lcid then place lcid bs + 1 else 0

-- in the place of one that isn't there
abbrev pub no_bearer : Of Life
no_bearer = of (record { lcid = 0; priority = 1; pbr = None; bucket = 100; group = 0 })
    (alive (Tm nothing_submitted))

-- the bearer at a place
abbrev pub bearer_at : List (Of Life) → ℕ → Of Life
bearer_at bearers at = slice_index_or bearers at no_bearer

-- ---- numbers that HARQ holds

-- the numbers of the data PDUs in the last block of each process, by LCID
abbrev pub Numbers : Type 0
Numbers = List (List (Option ℕ))

-- the lesser of two numbers that may be absent
abbrev pub lower : Option ℕ → Option ℕ → Option ℕ
lower None b = b
lower (Some x) None = Some x
lower (Some x) (Some y) = if nat_lt y x then Some y else Some x

-- a number counts while the process holds the block
abbrev pub counted : Option (List ℕ) → Option ℕ → Option ℕ
counted None number = None
counted (Some block) number = number

abbrev pub number_at : Sending → Numbers → ℕ → ℕ → Option ℕ
number_at sender numbers lcid process =
    counted (held_of sender process)
    (slice_index_or (slice_index_or numbers process []) lcid None)

abbrev pub lowest_of : Sending → Numbers → ℕ → List ℕ → Option ℕ → Option ℕ
lowest_of sender numbers lcid [] found = found
lowest_of sender numbers lcid (p ∷ ps) found =
    lowest_of sender numbers lcid ps (lower found (number_at sender numbers lcid p))

-- the lowest number of a bearer that a process holds
unfoldable pub lowest : Sending → Numbers → ℕ → Option ℕ
lowest sender numbers lcid = lowest_of sender numbers lcid (0 ∷ 1 ∷ 2 ∷ 3 ∷ 4 ∷ 5 ∷ 6 ∷ 7 ∷ []) None
