-- What is left of a command where memory ran out before it began.
use Rattle.std.proofs.Common.{ℕ, Bool, false, List, [], refl, sym}
use Rattle.std.specs.Prelude.{Option, Some, None}
use Rattle.cli_words.specs.declared.command.Command.{Command}
use Rattle.cli_words.specs.declared.command.Command.TheVariants as commands
use Rattle.script_generator.specs.Script.{script}
use Rattle.l2_io.specs.Known.{HasRisen}
use Rattle.l2_io.proofs.Reading.{before-nothing}
use Rattle.air_record.specs.Text.{text_of}
use Rattle.air_run.specs.Journal.{RunPlayed, journal_of}
use Rattle.air_run.specs.Refusals.{refusal_word}
use Rattle.check_command.specs.Checking.{Checks}
use Rattle.l2_commands.specs.Journals.{blocks_of, sums_of}
use Rattle.l2_commands.specs.Generating.{Generates}
use Rattle.l2_top.specs.Main.{Does}
use Rattle.line_player.specs.Answers.{Runs, Tells, no_memory_text}
use Rattle.line_player.specs.Streams.{Input, Output, HasFailed}
use Rattle.line_player.specs.declared.ending.Ending.TheVariants as endings
use Rattle.line_player.specs.declared.status.Status.TheVariants as statuses
use Rattle.line_player.proofs.Parting.{unplayed}
use Rattle.line_player.proofs.Rows.{runs-ended}

-- nothing was run
unrun : (journal : Bool → List ℕ → RunPlayed) (source : Input) (out errs errs' : Output)
    → Tells no_memory_text errs errs'
    → Runs text_of refusal_word journal (record { source = source; out = out; errs = errs })
    (record { source = source; out = out; errs = errs' }) statuses.NoMemory
unrun journal source out errs errs' told =
    runs-ended journal (record { source = source; out = out; errs = errs })
    (record { source = source; out = out; errs = errs' }) endings.NoMemory statuses.NoMemory
    (unplayed journal source.left out.written (HasRisen source.faults source.faults) (HasFailed out out)) (refl, told)

ungenerated : (number : ℕ) (out errs errs' : Output) → Tells no_memory_text errs errs'
    → Generates number out out errs errs' statuses.NoMemory
ungenerated number out errs errs' told =
    (Some (script number), unrun sums_of (record { left = Some (script number); faults = 0 }) out errs errs' told)

unchecked : (source : Input) (out errs errs' : Output) → Tells no_memory_text errs errs'
    → Checks (record { source = source; out = out; errs = errs })
    (record { source = source; out = out; errs = errs' }) statuses.NoMemory
unchecked source out errs errs' told = record {
  given = [];
  left_is = sym (before-nothing source.left);
  whole = false;
  end = λ e. cc;
  row = (refl, told);
}

-- whatever command it was
pub undone : (command : Option Command) (source : Input) (out errs errs' : Output) → Tells no_memory_text errs errs'
    → Does command (record { source = source; out = out; errs = errs })
    (record { source = source; out = out; errs = errs' }) statuses.NoMemory
undone None source out errs errs' told = (told, refl, refl)
undone (Some commands.Run) source out errs errs' told = unrun journal_of source out errs errs' told
undone (Some commands.Decode) source out errs errs' told = unrun blocks_of source out errs errs' told
undone (Some commands.Check) source out errs errs' told = unchecked source out errs errs' told
undone (Some (commands.Generate number)) source out errs errs' told = (ungenerated number out errs errs' told, refl)
