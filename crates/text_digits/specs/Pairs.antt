-- Octets by pairs of hexadecimal digits, of either case (docs/formats/SCRIPT.md) or of lower case
-- alone (docs/formats/JOURNAL.md).
use Rattle.std.specs.Prelude.{ℕ, ◌+◌, ◌-◌, ◌*◌, ◌/◌, ◌%◌, List, [], ◌∷◌, ◌++◌, Bool, true, ◌&&◌}
use Rattle.std.specs.Prelude.{◌||◌, if◌then◌else◌, nat_lt, Option, Some, None, min, bit_or}
use Rattle.std.specs.Prelude.{slice_index}
use Rattle.hex.specs.Hex.{hex_digit_value, lower_digits}
use Rattle.text_digits.specs.declared.reading.Letters.{Letters}
use Rattle.text_digits.specs.declared.reading.Letters.TheVariants.{Either, Lower}

-- the value of a decimal digit, and 16 or more for any other octet
abbrev pub number_value : ℕ → ℕ
number_value digit = ((digit + 198) % 256 - 6 + 16) % 256

-- that of a letter of lower case
abbrev pub small_value : ℕ → ℕ
small_value digit = min ((digit + 159) % 256) 245 + 10

-- that of a letter
abbrev pub letter_value : Letters → ℕ → ℕ
letter_value Either digit = small_value (bit_or digit 32)
letter_value Lower digit = small_value digit

-- that of a digit
abbrev pub value : Letters → ℕ → ℕ
value letters digit = min (number_value digit) (letter_value letters digit)

-- whether values are those of digits alone
abbrev pub all_digits : List ℕ → Bool
all_digits [] = true
all_digits (v ∷ vs) = nat_lt v 16 && all_digits vs

-- the octets by the values of their digits
abbrev pub joined : List ℕ → List ℕ
joined [] = []
joined (v ∷ []) = []
joined (v ∷ w ∷ rest) = ((v * 16 + w) % 256) ∷ joined rest

-- the lower case digit of the high half of an octet
abbrev pub high_digit : ℕ → ℕ
high_digit x = slice_index lower_digits (x / 16)

-- that of the low half
abbrev pub low_digit : ℕ → ℕ
low_digit x = slice_index lower_digits (x % 16)

abbrev pub with_pair : Option ℕ → Option ℕ → Option (List ℕ) → Option (List ℕ)
with_pair (Some high) (Some low) (Some octets) = Some ((high * 16 + low) ∷ octets)
with_pair high low octets = None

-- no hexadecimal digit of upper case
abbrev pub is_no_capital : ℕ → Bool
is_no_capital x = nat_lt x 65 || nat_lt 70 x

abbrev pub digit_value : Letters → ℕ → Option ℕ
digit_value Either x = hex_digit_value x
digit_value Lower x = if is_no_capital x then hex_digit_value x else None

-- the octets that a text says, where it is pairs of digits alone
abbrev pub pairs : Letters → List ℕ → Option (List ℕ)
pairs letters [] = Some []
pairs letters (x ∷ []) = None
pairs letters (x ∷ y ∷ rest) =
    with_pair (digit_value letters x) (digit_value letters y) (pairs letters rest)

-- octets behind some that were read
abbrev pub onto : List ℕ → Option (List ℕ) → Option (List ℕ)
onto octets None = None
onto octets (Some more) = Some (octets ++ more)

abbrev pub both : Option (List ℕ) → Option (List ℕ) → Option (List ℕ)
both None more = None
both (Some octets) more = onto octets more
