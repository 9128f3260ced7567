-- Numbers modulo a size, and the true numbers behind them (TS 36.322 7.1, TS 36.323 5.1.2).
use Rattle.std.specs.Prelude.{◌≡◌, ℕ, ◌<◌, ◌≤◌, ◌+◌, ◌-◌, ◌%◌, ◌^◌, nat_lt, if◌then◌else◌, Option}
use Rattle.std.specs.Prelude.{Some, None}

-- how far x lies above base, modulo size
abbrev pub ahead : ℕ → ℕ → ℕ → ℕ
ahead x base size = (x + size - base) % size

-- of two true numbers, n lies less than size above low, and modulo size they are x and base
pub record IsSeenAs (low n size base x : ℕ) : Type 0 where
  pub from : low ≤ n
  pub near : n < low + size
  pub low_is : low % size ≡ base
  pub is : n % size ≡ x

-- n is a number with this SN of so many bits, at or above next and below next + width
pub record IsRecovered (next sn bits width n : ℕ) : Type 0 where
  pub from : next ≤ n
  pub below : n < next + width
  pub sn_is : n % 2 ^ bits ≡ sn

-- the number that an SN of so many bits stands for, in the window of a width from next on
abbrev pub recovered : ℕ → ℕ → ℕ → ℕ → Option ℕ
recovered next sn bits width =
    let above = ahead sn (next % 2 ^ bits) (2 ^ bits) in
    if nat_lt above width then Some (next + above) else None
