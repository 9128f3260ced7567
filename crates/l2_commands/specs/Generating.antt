-- What `l2 generate` does (README).
use Rattle.std.specs.Prelude.{ℕ, List, Option, Some}
use Rattle.script_generator.specs.Script.{script}
use Rattle.air_record.specs.Text.{text_of}
use Rattle.air_run.specs.Refusals.{refusal_word}
use Rattle.l2_commands.specs.Journals.{sums_of}
use Rattle.line_player.specs.Answers.{Runs}
use Rattle.line_player.specs.Streams.{Output, Streams}
use Rattle.line_player.specs.declared.status.Status.{Status}

-- streams whose source is a text that never fails
abbrev pub over : Option (List ℕ) → Output → Output → Streams
over left out errs =
    record { source = record { left = left; faults = 0 }; out = out; errs = errs }

-- what a run of the script of a number does, which writes the sums alone
abbrev pub Generates : ℕ → Output → Output → Output → Output → Status → Type 0
Generates number out out' errs errs' status =
    (left : Option (List ℕ))
    × Runs text_of refusal_word sums_of (over (Some (script number)) out errs)
    (over left out' errs') status
