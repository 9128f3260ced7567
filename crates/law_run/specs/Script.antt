-- The script of an input: its lines, each with its number (docs/formats/SCRIPT.md).
use Rattle.std.specs.Prelude.{ℕ, ◌+◌, ◌==◌, nat_lt, Bool, true, false, if◌then◌else◌, List, [], ◌∷◌}
use Rattle.std.specs.Prelude.{◌++◌, length, map, Option, None, Some, Result, Ok, Err, IsTrue}
use Rattle.std.specs.List.{filter, list_all}
use Rattle.l2_io.specs.Feeds.{without_return}
use Rattle.air_record.specs.declared.line.Line.{Line}
use Rattle.air_record.specs.declared.line.Line.TheVariants as lines
use Rattle.air_run.specs.Journal.{RunClose}
use Rattle.line_player.specs.Journal.{Refused}
use Rattle.line_player.specs.Lines.{lines_ended, tail_of}
use Rattle.air_text.specs.Groups.{Group}
use Rattle.air_text.specs.Reading.{read_of}
use Rattle.air_text.specs.declared.fault.LineRefusal.{LineRefusal}

pub record NumberedLine : Type 0 where
  pub number : ℕ
  pub line : Line

-- ---- the texts of an input, of which more may come: those that a line feed ends, without a
-- carriage return before it, and what stands behind the last one, where there is something and
-- nothing more comes

abbrev pub last_text : Bool → List ℕ → List (List ℕ)
last_text true tail = if length tail == 0 then [] else tail ∷ []
last_text false tail = []

abbrev pub texts : Bool → List ℕ → List (List ℕ)
texts whole octets = map without_return (lines_ended octets) ++ last_text whole (tail_of octets)

-- ---- the lines that these say, with the numbers of their texts: an empty one and a comment say
-- none

abbrev pub said : ℕ → Result (Option Line) LineRefusal → List NumberedLine
said number (Ok (Some line)) = record { number = number; line = line } ∷ []
said number (Ok None) = []
said number (Err broken) = []

abbrev pub said_from : ℕ → List (List ℕ) → List NumberedLine
said_from number [] = []
said_from number (text ∷ texts) = said number (read_of text) ++ said_from (number + 1) texts

-- ---- those that are accepted: up to `end`, and before the one that is refused, if one is

abbrev pub is_end : Line → Bool
is_end lines.End = true
is_end line = false

abbrev pub to_end : List NumberedLine → List NumberedLine
to_end [] = []
to_end (one ∷ more) = one ∷ (if is_end one.line then [] else to_end more)

abbrev pub before : RunClose → List NumberedLine → List NumberedLine
before (Refused number reason) all = filter (λ one. nat_lt one.number number) all
before close all = all

abbrev pub accepted_lines : Bool → List ℕ → RunClose → List NumberedLine
accepted_lines whole octets close = before close (to_end (said_from 1 (texts whole octets)))

-- ---- the lines of groups, of which the newest stands first

abbrev pub lines_of : List Group → List NumberedLine
lines_of [] = []
lines_of (g ∷ past) = lines_of past ++ record { number = g.number; line = g.line } ∷ []

-- their numbers grow, as a checker of journals asks it
abbrev pub LinesAscend : List Group → Type 0
LinesAscend [] = Unit {0}
LinesAscend (now ∷ past) =
    IsTrue (list_all (λ g. nat_lt g.number now.number) past) × LinesAscend past
