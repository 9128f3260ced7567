-- The places of a number's data field of which octets have arrived (TS 36.322 5.1.3.2, 6.2.2).
use Rattle.std.specs.Prelude.{ℕ, ◌+◌, ◌-◌, Bool, true, false, ◌||◌, ◌&&◌, List, [], ◌∷◌, ◌++◌}
use Rattle.std.specs.Prelude.{length, map, replicate, Option, Some, None, is_some, nat_le, nat_lt}
use Rattle.std.specs.Prelude.{slice_range, slice_index_or, if◌then◌else◌}
use Rattle.std.specs.List.{list_all}

-- an octet that has arrived, and whether an SDU begins with it and ends with it
pub record Cell : Type 0 where
  pub octet : ℕ
  pub begins : Bool
  pub ends : Bool

abbrev pub cell : ℕ → Bool → Bool → Cell
cell octet begins ends = record { octet = octet; begins = begins; ends = ends }

-- a place has a cell once its octet has arrived
abbrev pub cell_at : List (Option Cell) → ℕ → Option Cell
cell_at cells i = slice_index_or cells i None

-- the first of two cells of a place
abbrev pub first_of : Option Cell → Option Cell → Option Cell
first_of (Some c) later = Some c
first_of None later = later

-- places of which each has its earlier cell, else its later one
abbrev pub over : List (Option Cell) → List (Option Cell) → List (Option Cell)
over [] later = later
over (o ∷ os) [] = o ∷ os
over (o ∷ os) (n ∷ ns) = first_of o n ∷ over os ns

-- cells from a place on
abbrev pub placed : ℕ → List Cell → List (Option Cell)
placed so new = replicate so None ++ map (λ c. Some c) new

-- what is held, with new cells from a place on: an octet that is held stays
abbrev pub laid : List (Option Cell) → ℕ → List Cell → List (Option Cell)
laid cells so new = over cells (placed so new)

-- all of so many places from one on are held
abbrev pub holds : List (Option Cell) → ℕ → ℕ → Bool
holds cells so len = nat_le (so + len) (length cells)
    && list_all is_some (slice_range cells so (so + len))

-- the places before the first that isn't held
abbrev pub leading : List (Option Cell) → List (Option Cell)
leading [] = []
leading (None ∷ cs) = []
leading (Some c ∷ cs) = Some c ∷ leading cs

-- ---- boundaries

-- whether an SDU ends between two places that follow each other: known from the octet on either
-- side
abbrev pub edge_between : Option Cell → Option Cell → Option Bool
edge_between (Some c) next = Some c.ends
edge_between None (Some c) = Some c.begins
edge_between None None = None

-- the boundary behind a place
abbrev pub edge_behind : List (Option Cell) → ℕ → Option Bool
edge_behind cells i = edge_between (cell_at cells i) (cell_at cells (i + 1))

abbrev pub differ : Bool → Bool → Bool
differ true b = if b then false else true
differ false b = b

-- what is known of a boundary speaks against what is told
abbrev pub denies : Option Bool → Bool → Bool
denies None told = false
denies (Some known) told = differ known told

-- the boundaries behind cells from a place on are known otherwise
abbrev pub ends_otherwise : List (Option Cell) → ℕ → List Cell → Bool
ends_otherwise cells at [] = false
ends_otherwise cells at (n ∷ ns) = denies (edge_behind cells at) n.ends
    || ends_otherwise cells (at + 1) ns

-- the boundary in front of a place is known otherwise; the one before place 0 isn't compared
abbrev pub begins_otherwise : List (Option Cell) → ℕ → Bool → Bool
begins_otherwise cells so begins = nat_lt 0 so && denies (edge_behind cells (so - 1)) begins
