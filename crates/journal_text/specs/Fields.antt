-- The numbers and octets of a record's text (docs/formats/JOURNAL.md).
use Rattle.std.specs.Prelude.{ℕ, ◌^◌, nat_lt, if◌then◌else◌, List}
use Rattle.std.specs.Prelude.{[], length, codes, ◌==◌, Option, None, Some}
use Rattle.std.specs.Prelude.{Result, Ok, Err}
use Rattle.std.specs.List.{list_all}
use Rattle.std.specs.Str.{bytes_eq}
use Rattle.text_digits.specs.Numerals.{value_behind}
use Rattle.text_digits.specs.Pairs.{is_no_capital}
use Rattle.hex.specs.Hex.{decode_of, decode_sized}
use Rattle.hex.specs.declared.error.FromHexError.{FromHexError}
use Rattle.air_text.specs.declared.fault.LineRefusal.{LineRefusal}
use Rattle.air_text.specs.Fields.{is_number, number_of}
use Rattle.journal_text.specs.declared.fault.TextFault.{TextFault}
use Rattle.journal_text.specs.Answers.{none, ◌>>=◌}

abbrev pub number_in : Result ℕ LineRefusal → Result ℕ TextFault
number_in (Ok n) = Ok n
number_in (Err e) = none

-- a number up to a most
unfoldable pub number_to : ℕ → List ℕ → Result ℕ TextFault
number_to most text = number_in (number_of 0 most text)

-- a number of 64 bits
unfoldable pub long_of : List ℕ → Result ℕ TextFault
long_of text =
    if is_number text
    then (if nat_lt (value_behind 0 text) (2 ^ 64) then Ok (value_behind 0 text) else none)
    else none

-- a number of 32 bits, or - for none
unfoldable pub count_of : List ℕ → Result (Option ℕ) TextFault
count_of text = if bytes_eq text (codes "-") then Ok None else do
  n ← number_to 4294967295 text
  Ok (Some n)

abbrev pub octets_in : Result (List ℕ) FromHexError → Result (List ℕ) TextFault
octets_in (Ok octets) = Ok octets
octets_in (Err e) = none

-- octets in hexadecimal digits of lower case, one at least
unfoldable pub octets_of : List ℕ → Result (List ℕ) TextFault
octets_of text = if length text == 0 then none else if list_all is_no_capital text
    then octets_in (decode_of text) else none

-- so many octets
unfoldable pub array_of : ℕ → List ℕ → Result (List ℕ) TextFault
array_of n text = if list_all is_no_capital text then octets_in (decode_sized text n) else none

-- octets, or - for none
unfoldable pub bitmap_of : List ℕ → Result (List ℕ) TextFault
bitmap_of text = if bytes_eq text (codes "-") then Ok [] else octets_of text
