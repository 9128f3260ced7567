-- The SDUs that a receiver holds: one place for each COUNT from the next on, up to the greatest
-- that is held.
use Rattle.std.specs.Prelude.{◌≡◌, ℕ, suc, zero, ◌+◌, ◌-◌, ◌*◌, ◌<◌, Bool, true, if◌then◌else◌}
use Rattle.std.specs.Prelude.{List, [], ◌∷◌, ◌++◌, length, drop, replicate, Option, Some, None}
use Rattle.std.specs.Prelude.{is_some, slice_set, slice_index_or}

-- whether an SDU is held at a place
abbrev pub is_held : List (Option (List ℕ)) → ℕ → Bool
is_held held at = is_some (slice_index_or held at None)

-- with empty places up to so many
abbrev pub widened : List (Option (List ℕ)) → ℕ → List (Option (List ℕ))
widened held size = held ++ replicate (size - length held) None

-- with an SDU at a place
abbrev pub stored : List (Option (List ℕ)) → ℕ → List ℕ → List (Option (List ℕ))
stored held at sdu = slice_set (widened held (at + 1)) at (Some sdu)

-- the SDUs among some places, in their order
abbrev pub present : List (Option (List ℕ)) → List (List ℕ)
present [] = []
present (None ∷ hs) = present hs
present (Some sdu ∷ hs) = sdu ∷ present hs

-- how many SDUs follow each other without a gap
abbrev pub leading_held : List (Option (List ℕ)) → ℕ
leading_held [] = 0
leading_held (None ∷ hs) = 0
leading_held (Some sdu ∷ hs) = 1 + leading_held hs

-- the first `from` places, and those behind them that follow without a gap
abbrev pub rising : List (Option (List ℕ)) → ℕ → ℕ
rising held from = from + leading_held (drop from held)

-- the last place isn't empty
abbrev pub Ends : List (Option (List ℕ)) → Type 0
Ends held = 0 < length held → is_held held (length held - 1) ≡ true

-- a bit of a status report: 1 where an SDU is held (TS 36.323 6.3.10)
abbrev pub bit : List (Option (List ℕ)) → ℕ → ℕ
bit held at = if is_held held at then 1 else 0

-- eight of them, the first one highest
abbrev pub octet : List (Option (List ℕ)) → ℕ → ℕ
octet held at =
    128 * bit held at + 64 * bit held (at + 1) + 32 * bit held (at + 2) + 16 * bit held (at + 3)
    + 8 * bit held (at + 4) + 4 * bit held (at + 5) + 2 * bit held (at + 6) + bit held (at + 7)

-- so many octets of the bits from a place on
abbrev pub bitmap : List (Option (List ℕ)) → ℕ → ℕ → List ℕ
bitmap held at zero = []
bitmap held at (suc n) = octet held at ∷ bitmap held (at + 8) n
