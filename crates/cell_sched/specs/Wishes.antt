-- What the reported buffers of a terminal ask for, in octets (TS 36.321 6.1.3.1).
use Rattle.std.specs.Prelude.{ℕ, ◌+◌, min, List, slice_index, sum_by}
use Rattle.cell_sched.specs.declared.levels.TheConstants.{LEAST_WISH}
use Rattle.prioritise.specs.Levels.{edges}

-- the upper edge of a Buffer Size level; level 63, which has none, counts as level 62
abbrev pub upper_edge : ℕ → ℕ
upper_edge level = slice_index edges (min level 62)

-- 64 octets, and the upper edges of the levels that a terminal told
unfoldable pub wish_of : List ℕ → ℕ
wish_of levels = LEAST_WISH + sum_by upper_edge levels
