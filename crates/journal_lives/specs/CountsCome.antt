-- COUNTs that have come, in any order: all from a first one on up to the next, and those beyond it
-- (TS 36.323 5.1.2.1.2).
use Rattle.std.specs.Prelude.{ℕ, ◌+◌, ◌==◌, nat_lt, if◌then◌else◌, List, [], ◌∷◌, Option, Some}
use Rattle.std.specs.Prelude.{None}
use Rattle.std.specs.BTreeSet.{insert_key}
use Rattle.std.specs.Ordering.{nat_cmp}

pub record CountsCome : Type 0 where
  pub next : ℕ
  pub beyond : List ℕ

abbrev pub none_come : ℕ → CountsCome
none_come first = record { next = first; beyond = [] }

-- those beyond that follow at once aren't beyond any more
abbrev pub joined_from : ℕ → List ℕ → CountsCome
joined_from next [] = record { next = next; beyond = [] }
joined_from next (count ∷ counts) = if count == next then joined_from (next + 1) counts
    else record { next = next; beyond = count ∷ counts }

abbrev pub with_count : ℕ → CountsCome → CountsCome
with_count count c =
    if nat_lt count c.next then c
    else if nat_lt c.next count then record c { beyond = insert_key nat_cmp c.beyond count }
    else joined_from (c.next + 1) c.beyond

-- of PDUs, those of status reports have none
abbrev pub with_counts : List (Option ℕ) → CountsCome → CountsCome
with_counts [] c = c
with_counts (None ∷ counts) c = with_counts counts c
with_counts (Some count ∷ counts) c = with_counts counts (with_count count c)
