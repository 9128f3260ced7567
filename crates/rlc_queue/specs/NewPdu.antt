-- What a new data PDU takes from the SDUs that wait (TS 36.322 4.2.1.2.2, 4.2.1.3.2, 6.2.2.5):
-- elements are added while the last one ended its SDU, has at most 2047 octets, so that an LI can
-- tell its length, and one octet of the next fits. Each is as long as fits.
use Rattle.std.specs.Prelude.{◌≡◌, ℕ, ◌+◌, ◌≤◌, ◌-◌, Bool, false, ◌&&◌, if◌then◌else◌, List, []}
use Rattle.std.specs.Prelude.{◌∷◌, ◌++◌, length, map, take, nat_le, nat_lt, ◌==◌}
use Rattle.std.specs.List.{concat}
use Rattle.rlc_pdu.specs.Writing.{header_len}
use Rattle.rlc_pdu.specs.declared.outcome.Taken.{Taken}
use Rattle.rlc_pdu.specs.declared.outcome.Taken.TheVariants.{Piece}
use Rattle.rlc_queue.specs.declared.cutting.NewPdu.{NewPdu}
use Rattle.rlc_queue.specs.declared.cutting.TheConstants.{LONGEST}
use Rattle.rlc_queue.specs.Waiting.{Waiting, behind}

-- in a PDU of a size, the octets that a further element may have behind so many elements with so
-- many octets; `head` is the header's fixed part
abbrev pub room : ℕ → ℕ → ℕ → ℕ → ℕ
room head size count used = size - (header_len head (count + 1) + used)

-- an SDU goes whole into its element, and another element may follow
abbrev pub may_follow : ℕ → List ℕ → Bool
may_follow space sdu = nat_le (length sdu) space && nat_le (length sdu) LONGEST

-- the elements, from what is left of each SDU
abbrev pub elements : ℕ → ℕ → ℕ → ℕ → List (List ℕ) → List (List ℕ)
elements head size count used [] = []
elements head size count used (x ∷ xs) =
    if room head size count used == 0 then []
    else take (room head size count used) x
    ∷ (if may_follow (room head size count used) x
    then elements head size (count + 1) (used + length x) xs else [])

-- what is left of the SDUs then
abbrev pub rest : ℕ → ℕ → ℕ → ℕ → List (List ℕ) → List (List ℕ)
rest head size count used [] = []
rest head size count used (x ∷ xs) =
    if room head size count used == 0 then x ∷ xs
    else if may_follow (room head size count used) x
    then rest head size (count + 1) (used + length x) xs
    else behind (room head size count used) (x ∷ xs)

-- whether the first of them is partly sent then
abbrev pub partial : ℕ → ℕ → ℕ → ℕ → Bool → List (List ℕ) → Bool
partial head size count used begun [] = begun
partial head size count used begun (x ∷ xs) =
    if room head size count used == 0 then begun
    else if may_follow (room head size count used) x
    then partial head size (count + 1) (used + length x) false xs
    else nat_lt (room head size count used) (length x)

-- a PDU that is being filled: the lengths of its elements, their octets, and what still waits
pub record Filling : Type 0 where
  pub lens : List ℕ
  pub field : List ℕ
  pub waiting : Waiting

abbrev pub filling : List ℕ → List ℕ → Waiting → Filling
filling lens field waiting = record { lens = lens; field = field; waiting = waiting }

abbrev pub more_elements : ℕ → ℕ → Filling → List (List ℕ)
more_elements head size f = elements head size (length f.lens) (length f.field) f.waiting.sdus

-- what it comes to once no further element fits
abbrev pub all_lens : ℕ → ℕ → Filling → List ℕ
all_lens head size f = f.lens ++ map length (more_elements head size f)

abbrev pub all_octets : ℕ → ℕ → Filling → List ℕ
all_octets head size f = f.field ++ concat (more_elements head size f)

abbrev pub sdus_behind : ℕ → ℕ → Filling → List (List ℕ)
sdus_behind head size f = rest head size (length f.lens) (length f.field) f.waiting.sdus

abbrev pub begun_behind : ℕ → ℕ → Filling → Bool
begun_behind head size f =
    partial head size (length f.lens) (length f.field) f.waiting.begun f.waiting.sdus

abbrev pub IsFilled : ℕ → ℕ → Filling → Filling → Type 0
IsFilled head size old new = (new.lens ≡ all_lens head size old)
    × (new.field ≡ all_octets head size old)
    × (new.waiting.sdus ≡ sdus_behind head size old)
    × (new.waiting.begun ≡ begun_behind head size old)

-- with one element more, behind which another may follow or none
abbrev pub IsFuller : ℕ → ℕ → Bool → Filling → Filling → Type 0
IsFuller head size more old new =
    ((if more then all_lens head size new else new.lens) ≡ all_lens head size old)
    × ((if more then all_octets head size new else new.field) ≡ all_octets head size old)
    × ((if more then sdus_behind head size new else new.waiting.sdus)
    ≡ sdus_behind head size old)
    × ((if more then begun_behind head size new else new.waiting.begun)
    ≡ begun_behind head size old)

-- all of them go whole into a PDU of a size, and an octet of a further SDU fits too
abbrev pub fits_more : ℕ → ℕ → ℕ → ℕ → List (List ℕ) → Bool
fits_more head size count used [] = nat_lt 0 (room head size count used)
fits_more head size count used (x ∷ xs) =
    may_follow (room head size count used) x && nat_lt 0 (room head size count used)
    && fits_more head size (count + 1) (used + length x) xs

-- FI: its upper bit is 0 exactly if the field begins an SDU, its lower bit exactly if it ends one
-- (TS 36.322 6.2.2.6)
abbrev pub framing : Bool → Bool → ℕ
framing begins ends = (if begins then 0 else 2) + (if ends then 0 else 1)

-- how many SDUs end in a PDU
abbrev pub ended : NewPdu → ℕ
ended p = if p.ends then length p.lens.items else length p.lens.items - 1

-- a PDU that is given has an octet, and at most so many
abbrev pub IsWithin : ℕ → Taken → Type 0
IsWithin size (Piece number fresh polled octets) = (1 ≤ length octets) × (length octets ≤ size)
IsWithin size taken = Unit {0}
