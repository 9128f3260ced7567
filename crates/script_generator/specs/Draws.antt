-- Draws from a number: the linear congruential generator that C11 7.22.2.2 shows for `rand`, kept
-- modulo 2^31.
use Rattle.std.specs.Prelude.{ℕ, ◌+◌, ◌*◌, ◌/◌, ◌%◌, ◌^◌}

-- the number before the first draw
abbrev pub seeded : ℕ → ℕ
seeded number = number % 2 ^ 31

-- the number after a draw
abbrev pub next : ℕ → ℕ
next x = (x * 1103515245 + 12345) % 2 ^ 31

-- what a draw among so many choices gives, by the number after it
abbrev pub drawn : ℕ → ℕ → ℕ
drawn choices x = x / 65536 % choices
