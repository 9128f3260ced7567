-- Sets of places as lists of runs (TS 36.322 6.2.2.7).
use Rattle.std.specs.Prelude.{ℕ, ◌+◌, ◌-◌, ◌<◌, ◌≤◌, Bool, true, false, ◌||◌, ◌&&◌, if◌then◌else◌}
use Rattle.std.specs.Prelude.{List, [], ◌∷◌, ◌++◌, min, max, nat_le, nat_lt, Option, Some, None}
use Rattle.std.specs.List.{list_any, flat_map}
use Rattle.rlc_pdu.specs.declared.pdu.Part.{Part}

-- the places at or above one and below another
pub record Run : Type 0 where
  pub from : ℕ
  pub to : ℕ

abbrev pub run_between : ℕ → ℕ → Run
run_between from to = record { from = from; to = to }

-- a place is in a run
abbrev pub lies_in : Run → ℕ → Bool
lies_in r i = nat_le r.from i && nat_lt i r.to

-- a place is in the set
abbrev pub has : List Run → ℕ → Bool
has [] i = false
has (r ∷ rs) i = lies_in r i || has rs i

-- from a place on the runs ascend, none is empty, and no two touch: a set has one such list
abbrev pub AreAscending : ℕ → List Run → Type 0
AreAscending low [] = Unit {0}
AreAscending low (r ∷ rs) = (low ≤ r.from) × (r.from < r.to) × AreAscending (r.to + 1) rs

-- one run has all the places at or above one and below another
abbrev pub covers : List Run → ℕ → ℕ → Bool
covers runs from to = list_any (λ (r : Run). nat_le r.from from && nat_le to r.to) runs

-- all runs end below a place; of runs that ascend the last one tells
abbrev pub ends_below : List Run → ℕ → Bool
ends_below [] from = true
ends_below (r ∷ []) from = nat_lt r.to from
ends_below (r ∷ q ∷ rs) from = ends_below (q ∷ rs) from

-- the last run begins at a place or below it
abbrev pub last_begins_by : List Run → ℕ → Bool
last_begins_by [] from = false
last_begins_by (r ∷ []) from = nat_le r.from from
last_begins_by (r ∷ q ∷ rs) from = last_begins_by (q ∷ rs) from

-- the last run ends below a place
abbrev pub last_ends_below : List Run → ℕ → Bool
last_ends_below [] to = false
last_ends_below (r ∷ []) to = nat_lt r.to to
last_ends_below (r ∷ q ∷ rs) to = last_ends_below (q ∷ rs) to

-- the last run reaches up to a place at least
abbrev pub stretched : List Run → ℕ → List Run
stretched [] to = []
stretched (r ∷ []) to = run_between r.from (max r.to to) ∷ []
stretched (r ∷ q ∷ rs) to = r ∷ stretched (q ∷ rs) to

-- ---- adding

-- a run on its way into the list: it has found its place, or has grown so far
pub record Moving : Type 0 where
  pub placed : Bool
  pub from : ℕ
  pub to : ℕ

-- what stands in the list for a run that is passed
abbrev pub passing : Moving → Run → List Run
passing m r =
    if m.placed then r ∷ []
    else if nat_lt r.to m.from then r ∷ []
    else if nat_lt m.to r.from then run_between m.from m.to ∷ r ∷ []
    else []

-- the run behind one that is passed: it takes in each run that it meets or touches
abbrev pub passed : Moving → Run → Moving
passed m r =
    if m.placed then m
    else if nat_lt r.to m.from then m
    else if nat_lt m.to r.from then record m { placed = true }
    else record { placed = false; from = min m.from r.from; to = max m.to r.to }

abbrev pub merged : Moving → List Run → List Run
merged m [] = if m.placed then [] else run_between m.from m.to ∷ []
merged m (r ∷ rs) = passing m r ++ merged (passed m r) rs

-- the set with a run
abbrev pub added : List Run → ℕ → ℕ → List Run
added runs from to = merged (record { placed = false; from = from; to = to }) runs

-- ---- removing

-- a run, if it isn't empty
abbrev pub some_run : ℕ → ℕ → List Run
some_run from to = if nat_lt from to then run_between from to ∷ [] else []

-- what is left of a run without the places of another
abbrev pub kept_of : ℕ → ℕ → Run → List Run
kept_of from to r = some_run r.from (min r.to from) ++ some_run (max r.from to) r.to

-- the set without a run
abbrev pub removed : List Run → ℕ → ℕ → List Run
removed runs from to = flat_map (kept_of from to) runs

-- ---- gaps

-- the places at or above one and below another, if there are any, with the last of them
abbrev pub between : ℕ → ℕ → Option Part
between from to = if nat_lt from to then Some (record { start = from; end = to - 1 }) else None

-- the first largest run of places that aren't in the set, at or above one place and below another
abbrev pub gap_in : List Run → ℕ → ℕ → Option Part
gap_in [] from size = between from size
gap_in (r ∷ rs) from size = if nat_lt from r.from then between from (min r.from size)
    else gap_in rs (max from r.to) size
