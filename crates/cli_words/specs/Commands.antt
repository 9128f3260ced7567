-- The commands (README).
use Rattle.std.specs.Prelude.{ℕ, Bool, ◌&&◌, if◌then◌else◌, nat_le, nat_lt, List, []}
use Rattle.std.specs.Prelude.{◌∷◌, length, codes, Option, Some, None, option_map}
use Rattle.std.specs.List.{list_all}
use Rattle.std.specs.Str.{bytes_eq}
use Rattle.std.specs.Str.Parse.{without_leading_plus}
use Rattle.text_digits.specs.Numerals.{is_digit, value_behind}
use Rattle.cli_words.specs.declared.command.Command.{Command}
use Rattle.cli_words.specs.declared.command.Command.TheVariants.{Run, Decode, Check, Generate}

-- digits alone, one or more, of a number of 32 bits
abbrev pub is_number : List ℕ → Bool
is_number text = list_all is_digit text
    && (nat_lt 0 (length text) && nat_le (value_behind 0 text) 4294967295)

-- the number of a word, where a plus may stand before the digits
abbrev pub number_in : List ℕ → Option ℕ
number_in word = let digits = without_leading_plus word in
    if is_number digits then Some (value_behind 0 digits) else None

-- the command that a word alone is
abbrev pub lone_command : List ℕ → Option Command
lone_command word = if bytes_eq word (codes "run") then Some Run
    else if bytes_eq word (codes "decode") then Some Decode
    else if bytes_eq word (codes "check") then Some Check else None

-- the command that a word and another one behind it are
abbrev pub command_with : List ℕ → List ℕ → Option Command
command_with word number = if bytes_eq word (codes "generate")
    then option_map Generate (number_in number) else None

-- the command that words are
abbrev pub command_of : List (List ℕ) → Option Command
command_of (word ∷ []) = lone_command word
command_of (word ∷ number ∷ []) = command_with word number
command_of words = None
