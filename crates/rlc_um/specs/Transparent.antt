-- The transparent sender as a machine: an SDU that waits is the next PDU, as it is (TS 36.322
-- 5.1.1.1).
use Rattle.std.specs.Prelude.{◌≡◌, ℕ, ◌+◌, ◌-◌, ◌^◌, true, false, if◌then◌else◌, List, [], ◌∷◌}
use Rattle.std.specs.Prelude.{◌++◌, length, slice_get, min, Option, Some, None, option_map, nat_le}
use Rattle.std.specs.Prelude.{nat_lt, ◌==◌}
use Rattle.l2_bits.specs.declared.fault.SubmitRefusal.{SubmitRefusal}
use Rattle.l2_bits.specs.declared.fault.SubmitRefusal.TheVariants.{Empty, TooLong, Full, CountEnd}
use Rattle.l2_bits.specs.declared.fault.SubmitRefusal.TheVariants.{NoMemory}
use Rattle.rlc_pdu.specs.declared.outcome.Taken.{Taken}
use Rattle.rlc_pdu.specs.declared.outcome.Taken.TheVariants.{Piece, Idle, Small}
use Rattle.l2_types.specs.declared.limits.TheConstants.{GREATEST_SDU, MOST_WAITING}

-- how many SDUs are sent, and those that wait
pub record Transparent : Type 0 where
  pub next : ℕ
  pub waiting : List (List ℕ)

abbrev pub nothing_submitted : Transparent
nothing_submitted = record { next = 0; waiting = [] }

-- why an SDU is refused, in this order: its length, room
unfoldable pub refusal : Transparent → List ℕ → Option SubmitRefusal
refusal s sdu =
    if length sdu == 0 then Some Empty
    else if nat_lt GREATEST_SDU (length sdu) then Some TooLong
    else if nat_le MOST_WAITING (length s.waiting) then Some Full
    else None

-- an answer is this refusal, or memory ran out where there was none
abbrev pub IsAnswer : SubmitRefusal → Option SubmitRefusal → Type 0
IsAnswer Empty r = r ≡ Some Empty
IsAnswer TooLong r = r ≡ Some TooLong
IsAnswer Full r = r ≡ Some Full
IsAnswer CountEnd r = r ≡ Some CountEnd
IsAnswer NoMemory r = r ≡ None

abbrev pub submitted : Transparent → List ℕ → Transparent
submitted s sdu = record s { waiting = s.waiting ++ sdu ∷ [] }

abbrev pub first_of : ℕ → ℕ → List (List ℕ) → Taken
first_of next size [] = Idle
first_of next size (sdu ∷ more) = if nat_lt size (length sdu) then Small
    else Piece next true false sdu

abbrev pub behind_first : ℕ → ℕ → List (List ℕ) → Transparent
behind_first next size [] = record { next = next; waiting = [] }
behind_first next size (sdu ∷ more) = if nat_lt size (length sdu)
    then record { next = next; waiting = sdu ∷ more }
    else record { next = next + 1; waiting = more }

-- what is given where a PDU of at most so many octets is asked for, and what is left
unfoldable pub taken : Transparent → ℕ → Taken
taken s size = first_of s.next size s.waiting

unfoldable pub after_take : Transparent → ℕ → Transparent
after_take s size = behind_first s.next size s.waiting

abbrev pub needed : ℕ → Option ℕ → ℕ
needed grant None = 0
needed grant (Some len) = if nat_lt (grant + 2) (3 + len) then 0 else min (3 + len) (2 ^ 32 - 1)

-- the octets of the first SDU and 3 for a subheader, where a block of the grant can hold them: its
-- last subheader has 1 octet
abbrev pub need : Transparent → ℕ → ℕ
need s grant = needed grant (option_map length (slice_get s.waiting 0))
