-- Timers that TTIs count down (TS 36.322 7.3).
use Rattle.std.specs.Prelude.{ℕ, zero, suc, ◌-◌, ◌==◌, Bool, false, Option, Some, None, is_some}

-- a timer's length, and where it runs the TTIs left to its end, 0 where none is to come
pub record Clock : Type 0 where
  pub length : ℕ
  pub left : Option ℕ

abbrev pub clock : ℕ → Option ℕ → Clock
clock length left = record { length = length; left = left }

-- a timer that doesn't run
abbrev pub stopped : ℕ → Clock
stopped length = clock length None

-- set to its whole length
abbrev pub begun : Clock → Clock
begun c = clock c.length (Some c.length)

-- stopped again
abbrev pub ceased : Clock → Clock
ceased c = stopped c.length

abbrev pub runs : Clock → Bool
runs c = is_some c.left

-- what a TTI leaves of the TTIs left
abbrev pub counted : Option ℕ → Option ℕ
counted None = None
counted (Some left) = Some (left - 1)

-- a TTI begins
abbrev pub ticked : Clock → Clock
ticked c = clock c.length (counted c.left)

-- whether the TTI that begins is the last one left
abbrev pub is_last : Option ℕ → Bool
is_last None = false
is_last (Some left) = left == 1

-- whether the timer reaches its end as a TTI begins
abbrev pub ends : Clock → Bool
ends c = is_last c.left

-- so many TTIs have begun
abbrev pub after_ticks : ℕ → Clock → Clock
after_ticks zero c = c
after_ticks (suc k) c = ticked (after_ticks k c)
