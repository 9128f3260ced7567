-- The number that a sequence number is read as (TS 36.322 5.1.2.2.1, 7.1).
use Rattle.std.specs.Prelude.{◌≡◌, ℕ, ◌+◌, ◌*◌, ◌%◌, ◌^◌, ◌<◌, ◌≤◌, List, Option}
use Rattle.rlc_pdu.specs.Pdus.{IsUmBits}
use Rattle.rlc_um.specs.Joined.{Parts}
use Rattle.rlc_um.specs.Sender.{width_of}
use Rattle.rlc_um.specs.Window.{Window, top_of, number_of}

-- it has that sequence number and lies in the window around the top, and no other number does
pub record IsRead (w : Window) (sn : ℕ) : Type 0 where
  pub same : number_of w sn % (2 * w.width) ≡ sn
  pub low : top_of w ≤ number_of w sn + w.width
  pub below : number_of w sn < top_of w + w.width
  pub only : (n : ℕ) → n % (2 * w.width) ≡ sn → top_of w ≤ n + w.width → n < top_of w + w.width
      → n ≡ number_of w sn

-- so is every number of 5 and of 10 bits, wherever the window stands
abbrev pub ReadsNumbers : Type 0
ReadsNumbers = (bits edge sn : ℕ) (slots : List (Option Parts)) → IsUmBits bits → 2 ^ bits ≤ edge
    → sn < 2 ^ bits → IsRead (record { width = width_of bits; edge = edge; slots = slots }) sn
