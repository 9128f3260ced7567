-- Buffer Size levels and the padding BSR (TS 36.321 5.4.5, 6.1.3.1).
use Rattle.std.specs.Prelude.{ℕ, nat_lt, nat_le, if◌then◌else◌, Option, Some, None, unwrap_or, List}
use Rattle.std.specs.Prelude.{[], ◌∷◌, slice_index, position, count_by}
use Rattle.mac_pdu.specs.declared.item.Bsr.{Bsr}
use Rattle.mac_pdu.specs.declared.item.Bsr.TheVariants.{Truncated, Short, Long}

-- the upper edges of the levels 0 to 62, in octets (Table 6.1.3.1-1)
abbrev pub edges : List ℕ
edges =
    0 ∷ 10 ∷ 12 ∷ 14 ∷ 17 ∷ 19 ∷ 22 ∷ 26 ∷ 31 ∷
    36 ∷ 42 ∷ 49 ∷ 57 ∷ 67 ∷ 78 ∷ 91 ∷ 107 ∷ 125 ∷
    146 ∷ 171 ∷ 200 ∷ 234 ∷ 274 ∷ 321 ∷ 376 ∷ 440 ∷ 515 ∷
    603 ∷ 706 ∷ 826 ∷ 967 ∷ 1132 ∷ 1326 ∷ 1552 ∷ 1817 ∷ 2127 ∷
    2490 ∷ 2915 ∷ 3413 ∷ 3995 ∷ 4677 ∷ 5476 ∷ 6411 ∷ 7505 ∷ 8787 ∷
    10287 ∷ 12043 ∷ 14099 ∷ 16507 ∷ 19325 ∷ 22624 ∷ 26487 ∷ 31009 ∷ 36304 ∷
    42502 ∷ 49759 ∷ 58255 ∷ 68201 ∷ 79846 ∷ 93479 ∷ 109439 ∷ 128125 ∷ 150000 ∷ []

-- the level of an amount: the least whose upper edge is at least it, 63 above all edges
unfoldable pub level_of : ℕ → ℕ
level_of octets = unwrap_or (position (λ edge. nat_le octets edge) edges) 63

-- the level of a group
abbrev pub level_at : List ℕ → ℕ → ℕ
level_at waiting group = level_of (slice_index waiting group)

-- how many groups have data, and the first of them, or group 0
abbrev pub groups : List ℕ → ℕ
groups waiting = count_by (λ octets. nat_lt 0 octets) waiting

abbrev pub first_group : List ℕ → ℕ
first_group waiting = unwrap_or (position (λ octets. nat_lt 0 octets) waiting) 0

-- the report that fits into so many octets of padding: all groups, else one of several, else the
-- only one
unfoldable pub report : List ℕ → ℕ → ℕ → Option Bsr
report waiting top padding =
    if nat_lt padding 2 then None
    else if nat_le 4 padding
    then Some
    (Long (level_at waiting 0 ∷ level_at waiting 1 ∷ level_at waiting 2 ∷ level_at waiting 3
    ∷ []))
    else if nat_lt 1 (groups waiting) then Some (Truncated top (level_at waiting top))
    else Some (Short (first_group waiting) (level_at waiting (first_group waiting)))
