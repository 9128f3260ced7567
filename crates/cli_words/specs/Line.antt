-- The command line as clap reads it (README).
use Rattle.std.specs.Prelude.{ℕ, Bool, true, false, not, ◌==◌, if◌then◌else◌, List, [], ◌∷◌, codes}
use Rattle.std.specs.Prelude.{Option, Some, option_map, option_and_then}
use Rattle.std.specs.List.{list_all}
use Rattle.std.specs.Str.{bytes_eq}
use Rattle.clap.specs.Words.{App, Row, Rule, Text, first_of, new_app, new_rule, with_rule}
use Rattle.clap.specs.Words.{with_subcommand}
use Rattle.clap.specs.Simple.{on_top}
use Rattle.clap.specs.declared.builder.action.ArgAction.TheVariants.{Set}
use Rattle.cli_words.specs.declared.command.Command.{Command}
use Rattle.cli_words.specs.declared.command.Command.TheVariants.{Run, Decode, Check, Generate}
use Rattle.cli_words.specs.Commands.{number_in}

-- a word that isn't empty and doesn't begin with a hyphen
abbrev pub is_plain : List ℕ → Bool
is_plain [] = false
is_plain (first ∷ rest) = not (first == 45)

abbrev pub are_plain : List (List ℕ) → Bool
are_plain = list_all is_plain

abbrev pub number_rule : Rule
number_rule = record (new_rule (codes "number")) { required = true; action = Some Set }

abbrev pub generate_app : App
generate_app = with_rule (new_app (codes "generate")) number_rule

abbrev pub bare_app : App
bare_app = on_top (λ s. record s {
  no_binary_name = true;
  disable_help_flag = true;
  disable_help_subcommand = true;
  subcommand_required = true;
}) (new_app (codes "l2"))

abbrev pub line_app : App
line_app =
    with_subcommand
    (with_subcommand
    (with_subcommand (with_subcommand bare_app (new_app (codes "run")).top)
    (new_app (codes "decode")).top)
    (new_app (codes "check")).top) generate_app.top

abbrev pub generate_in : List Row → Option Command
generate_in rows = option_map Generate (option_and_then number_in (first_of (codes "number") rows))

-- the command of a subcommand and its values
abbrev pub command_at : Text → List Row → Option Command
command_at name rows = if bytes_eq name (codes "run") then Some Run
    else if bytes_eq name (codes "decode") then Some Decode
    else if bytes_eq name (codes "check") then Some Check
    else generate_in rows

abbrev pub command_in : Option (Text × List Row) → Option Command
command_in = option_and_then (λ (p : Text × List Row). command_at p.0 p.1)
