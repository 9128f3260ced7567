-- Stretches of TTIs (TS 36.321 5.7).
use Rattle.std.specs.Prelude.{ℕ, ◌+◌, nat_le, Bool, false, ◌&&◌, Option, Some, None}

-- whether a TTI lies from the first to the last of so many TTIs after another one
abbrev pub is_within : ℕ → ℕ → ℕ → Option ℕ → Bool
is_within first last tti None = false
is_within first last tti (Some since) = nat_le (since + first) tti && nat_le tti (since + last)
