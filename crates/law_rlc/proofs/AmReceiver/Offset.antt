-- A number that is read in the window is the number that was sent.
use Rattle.std.proofs.Common.{◌≡◌, ◌<◌, ◌≤◌, ℕ, ◌+◌, ◌-◌, ◌%◌, arith}
use Rattle.rlc_am_rx_window.specs.Window.{offset_of}

-- within 1024 numbers from the front on
pub offset-in : (front n : ℕ) → front ≤ n → n < front + 1024 → offset_of front (n % 1024) ≡ n - front
offset-in front n from below = omega arith

-- below the front, and no more than 512 away
pub offset-below : (front n : ℕ) → n < front → front ≤ n + 512 → 512 ≤ offset_of front (n % 1024)
offset-below front n below near = omega arith
