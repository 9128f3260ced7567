-- What the grants of a cell promise (docs/formats/CELL.md).
use Rattle.std.specs.Prelude.{◌≡◌, ℕ, ◌*◌, ◌<◌, ◌≤◌, min, List, slice_index}
use Rattle.cell_sched.specs.Grants.{grants_of}
use Rattle.l2_types.specs.declared.limits.TheConstants.{GREATEST_GRANT}

-- where the total is enough for a greatest grant to each terminal, each gets its wish, as far as a
-- grant goes
abbrev pub IsEnoughForAll : Type 0
IsEnoughForAll = (wishes : List ℕ) (users first total user : ℕ) → users ≤ 8 → first < users
    → user < users → users * GREATEST_GRANT ≤ total
    → slice_index (grants_of wishes users first total) user
    ≡ min (slice_index wishes user) GREATEST_GRANT
