-- What the commands do (README).
use Rattle.std.specs.Prelude.{◌≡◌, ℕ, List, [], ◌∷◌, ◌++◌, codes, Option, None, Some}
use Rattle.air_record.specs.Text.{text_of}
use Rattle.air_run.specs.Journal.{journal_of}
use Rattle.air_run.specs.Refusals.{refusal_word}
use Rattle.check_command.specs.Checking.{Checks}
use Rattle.cli_words.specs.declared.command.Command.{Command}
use Rattle.cli_words.specs.declared.command.Command.TheVariants as commands
use Rattle.l2_commands.specs.Generating.{Generates}
use Rattle.l2_commands.specs.Journals.{blocks_of}
use Rattle.line_player.specs.Answers.{Runs, Refuses}
use Rattle.line_player.specs.Streams.{Streams}
use Rattle.line_player.specs.declared.status.Status.{Status}

abbrev pub usage_text : List ℕ
usage_text = codes "usage: l2 run | l2 decode | l2 generate N | l2 check" ++ 10 ∷ []

-- what the program did with its streams, by the command that its words name
abbrev pub Does : Option Command → Streams → Streams → Status → Type 0
Does None old new status =
    Refuses usage_text old.errs new.errs status × (new.source.left ≡ old.source.left)
    × (new.out.written ≡ old.out.written)
Does (Some commands.Run) old new status = Runs text_of refusal_word journal_of old new status
Does (Some commands.Decode) old new status = Runs text_of refusal_word blocks_of old new status
Does (Some commands.Check) old new status = Checks old new status
Does (Some (commands.Generate number)) old new status =
    Generates number old.out new.out old.errs new.errs status
    × (new.source.left ≡ old.source.left)
