-- What was written is read again (TS 36.321 6.1.1).
use Rattle.std.specs.Prelude.{◌≡◌, ℕ, ◌<◌, ◌^◌, List, [], ◌∷◌, ◌++◌, map, All, Bool, Option, Some}
use Rattle.std.specs.Prelude.{None}
use Rattle.std.specs.List.{flat_map}
use Rattle.l2_bits.specs.Bits.{bits, take_field}

-- a number and how many bits it is written with
pub record Field : Type 0 where
  pub value : ℕ
  pub width : ℕ

-- a field whose bits hold its value
abbrev pub Fits : Field → Type 0
Fits f = f.value < 2 ^ f.width

-- the bits of fields, one behind the other
abbrev pub written : List Field → List Bool
written fields = flat_map (λ f. bits f.width f.value) fields

-- the values read in front of those that are read behind them
abbrev pub ahead_of : ℕ → Option (List ℕ × List Bool) → Option (List ℕ × List Bool)
ahead_of value None = None
ahead_of value (Some (values, rest)) = Some (value ∷ values, rest)

-- what is read behind a field
abbrev pub read_on : Option (ℕ × List Bool) → (List Bool → Option (List ℕ × List Bool))
    → Option (List ℕ × List Bool)
read_on None behind = None
read_on (Some (value, rest)) behind = ahead_of value (behind rest)

-- fields of these widths, taken from the front in order, and the bits behind them
unfoldable pub taken : List ℕ → List Bool → Option (List ℕ × List Bool)
taken [] bits = Some ([], bits)
taken (width ∷ widths) bits = read_on (take_field width bits) (taken widths)

-- fields that were written are read in their order, whatever follows them
abbrev pub ReadsWhatWasWritten : Type 0
ReadsWhatWasWritten = (fields : List Field) (rest : List Bool) → All Fits fields
    → taken (map (λ f. f.width) fields) (written fields ++ rest)
    ≡ Some (map (λ f. f.value) fields, rest)
