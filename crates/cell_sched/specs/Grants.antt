-- What each terminal of a cell is granted of a total (docs/formats/CELL.md).
use Rattle.std.specs.Prelude.{ℕ, ◌+◌, ◌-◌, ◌%◌, ◌==◌, min, nat_lt, if◌then◌else◌, List, map}
use Rattle.std.specs.Prelude.{slice_index, sum_by}
use Rattle.std.specs.List.{before_first, range_with_len}
use Rattle.l2_types.specs.declared.limits.TheConstants.{GREATEST_GRANT}

-- the terminals in their order: the first, the next, .., round to the one before the first
abbrev pub turn_order : ℕ → ℕ → List ℕ
turn_order users first = map (λ k. (first + k) % users) (range_with_len 0 users)

-- those before a terminal in that order
abbrev pub those_before : ℕ → ℕ → ℕ → List ℕ
those_before users first user = before_first (λ other. other == user) (turn_order users first)

-- the wish of a terminal, as far as a grant goes
abbrev pub grantable : List ℕ → ℕ → ℕ
grantable wishes user = min (slice_index wishes user) GREATEST_GRANT

-- a terminal gets as much of that as those before it leave of the total
abbrev pub grant_of : List ℕ → ℕ → ℕ → ℕ → ℕ → ℕ
grant_of wishes users first total user =
    min (grantable wishes user)
    (total - sum_by (grantable wishes) (those_before users first user))

-- the grants by terminal, 0 for one that isn't there
unfoldable pub grants_of : List ℕ → ℕ → ℕ → ℕ → List ℕ
grants_of wishes users first total =
    map (λ user. if nat_lt user users then grant_of wishes users first total user else 0)
    (range_with_len 0 8)
