-- The fields of a line (docs/formats/SCRIPT.md).
use Rattle.std.specs.Prelude.{ℕ, ◌==◌, nat_lt, Bool, true, false}
use Rattle.std.specs.Prelude.{if◌then◌else◌, List, length, slice_index, codes, Option}
use Rattle.std.specs.Prelude.{None, Some, Result, Ok, Err}
use Rattle.std.specs.List.{list_all}
use Rattle.std.specs.Str.{bytes_eq}
use Rattle.text_digits.specs.Numerals.{is_digit, value_behind}
use Rattle.hex.specs.Hex.{decode_of}
use Rattle.hex.specs.declared.error.FromHexError.{FromHexError}
use Rattle.l2_types.specs.declared.side.Side.{Side}
use Rattle.l2_types.specs.declared.side.Side.TheVariants.{Ue, Nb}
use Rattle.l2_types.specs.declared.event.Clock.{Clock}
use Rattle.l2_types.specs.declared.event.Clock.TheVariants.{Poll, Reorder, Prohibit}
use Rattle.l2_types.specs.declared.channel.Kind.{Kind}
use Rattle.l2_types.specs.declared.channel.Kind.TheVariants.{Tm, Srb, Um, Am}
use Rattle.eps_sec.specs.declared.keys.Cipher.{Cipher}
use Rattle.eps_sec.specs.declared.keys.Cipher.TheVariants.{Eea0, Eea2}
use Rattle.air_record.specs.declared.line.Fate.{Fate}
use Rattle.air_record.specs.declared.line.Fate.TheVariants as fates
use Rattle.air_record.specs.declared.line.Outcome.{Outcome}
use Rattle.air_text.specs.declared.fault.LineRefusal.{LineRefusal}
use Rattle.air_text.specs.declared.fault.LineRefusal.TheVariants.{Word, Number, Range, Hex}
use Rattle.air_text.specs.Words.{◌>>=◌}

-- decimal digits, without a needless 0 in front
unfoldable pub is_number : List ℕ → Bool
is_number text =
    if length text == 0 then false
    else if nat_lt 1 (length text)
    then (if slice_index text 0 == 48 then false else list_all is_digit text)
    else list_all is_digit text

-- a number from a least to a most
unfoldable pub number_of : ℕ → ℕ → List ℕ → Result ℕ LineRefusal
number_of least most text =
    if is_number text
    then (if nat_lt most (value_behind 0 text) then Err Range
    else if nat_lt (value_behind 0 text) least then Err Range else Ok (value_behind 0 text))
    else Err Number

-- one of two numbers
unfoldable pub either_of : ℕ → ℕ → List ℕ → Result ℕ LineRefusal
either_of one other text = do
  n ← number_of 0 100 text
  if n == one then Ok n else if n == other then Ok n else Err Range

-- a number, or none for a word
unfoldable pub limit_of : List ℕ → ℕ → ℕ → List ℕ → Result (Option ℕ) LineRefusal
limit_of word least most text = if bytes_eq text word then Ok None
    else (number_of least most text >>= λ n. Ok (Some n))

abbrev pub octets_in : ℕ → Result (List ℕ) FromHexError → Result (List ℕ) LineRefusal
octets_in most (Err _) = Err Hex
octets_in most (Ok octets) = if nat_lt most (length octets) then Err Range else Ok octets

-- octets in hexadecimal, at least one and at most so many
unfoldable pub octets_of : ℕ → List ℕ → Result (List ℕ) LineRefusal
octets_of most text = if length text == 0 then Err Hex else octets_in most (decode_of text)

unfoldable pub side_of : List ℕ → Result Side LineRefusal
side_of text = if bytes_eq text (codes "ue") then Ok Ue else if bytes_eq text (codes "nb")
    then Ok Nb else Err Word

unfoldable pub clock_of : List ℕ → Result Clock LineRefusal
clock_of text =
    if bytes_eq text (codes "poll") then Ok Poll
    else if bytes_eq text (codes "reorder") then Ok Reorder
    else if bytes_eq text (codes "prohibit") then Ok Prohibit
    else Err Word

unfoldable pub kind_of : List ℕ → Result Kind LineRefusal
kind_of text =
    if bytes_eq text (codes "tm") then Ok Tm
    else if bytes_eq text (codes "srb") then Ok Srb
    else if bytes_eq text (codes "um") then Ok Um
    else if bytes_eq text (codes "am") then Ok Am
    else Err Word

abbrev pub outcome : Fate → Bool → Outcome
outcome fate flipped = record { fate = fate; flipped = flipped }

unfoldable pub outcome_of : List ℕ → Result Outcome LineRefusal
outcome_of text =
    if bytes_eq text (codes "ok") then Ok (outcome fates.Ok false)
    else if bytes_eq text (codes "ok~") then Ok (outcome fates.Ok true)
    else if bytes_eq text (codes "bad") then Ok (outcome fates.Bad false)
    else if bytes_eq text (codes "bad~") then Ok (outcome fates.Bad true)
    else if bytes_eq text (codes "miss") then Ok (outcome fates.Miss false)
    else if bytes_eq text (codes "miss~") then Ok (outcome fates.Miss true)
    else Err Word

-- 0 or 2
unfoldable pub cipher_of : List ℕ → Result Cipher LineRefusal
cipher_of text = do
  n ← number_of 0 100 text
  if n == 0 then Ok Eea0 else if n == 2 then Ok Eea2 else Err Range

-- a field that has to be this word
unfoldable pub word_of : List ℕ → List ℕ → Result Unit LineRefusal
word_of word text = if bytes_eq text word then Ok tt else Err Word
