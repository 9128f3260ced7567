-- What a call of a run leaves in it and in the sink, by the answer (docs/formats/JOURNAL.md).
use Rattle.std.specs.Prelude.{◌≡◌, ℕ, List, Option, None, Some, Result, Ok, Err}
use Rattle.l2_io.specs.Known.{after}
use Rattle.air_record.specs.declared.line.Line.{Line}
use Rattle.air_run.specs.declared.refusal.RunRefusal.{RunRefusal}
use Rattle.air_run.specs.declared.refusal.StepFault.{StepFault}
use Rattle.air_run.specs.declared.refusal.StepFault.TheVariants as faults
use Rattle.air_run.specs.Run.{RunState, Left, step, finish}
use Rattle.air_record.specs.Text.{texts_of}
use Rattle.line_player.specs.Streams.{WritesFront}

-- all that the step leaves is there
abbrev pub HasStepped : Result Left RunRefusal → Option RunState → Option (List ℕ)
    → Option (List ℕ) → Type 0
HasStepped (Ok left) new written written' = (new ≡ Some left.state)
    × (written' ≡ after written (texts_of left.journal))
HasStepped (Err broken) new written written' = ⊥

-- a front of what the step writes is there
abbrev pub HasBegun : Result Left RunRefusal → Option (List ℕ) → Option (List ℕ) → Type 0
HasBegun (Ok left) written written' = WritesFront (texts_of left.journal) written written'
HasBegun (Err broken) written written' = written' ≡ written

abbrev pub StepsFrom : RunState → ℕ → Line → Option RunState → Option (List ℕ) → Option (List ℕ)
    → Type 0 → Result Unit StepFault → Type 0
StepsFrom r number line new written written' fault (Ok _) =
    HasStepped (step r number line) new written written'
StepsFrom r number line new written written' fault (Err (faults.Refused broken)) =
    (step r number line ≡ Err broken) × (new ≡ Some r) × (written' ≡ written)
StepsFrom r number line new written written' fault (Err faults.WriteFault) =
    fault × HasBegun (step r number line) written written'
StepsFrom r number line new written written' fault (Err faults.NoMemory) =
    (new ≡ None) × HasBegun (step r number line) written written'

-- a run that ran out of memory answers so again
abbrev pub Steps : Option RunState → ℕ → Line → Option RunState → Option (List ℕ)
    → Option (List ℕ) → Type 0 → Result Unit StepFault → Type 0
Steps None number line new written written' fault result =
    (result ≡ Err faults.NoMemory) × (new ≡ None) × (written' ≡ written)
Steps (Some r) number line new written written' fault result =
    StepsFrom r number line new written written' fault result

-- a text is put, or a front of it
abbrev pub Puts : List ℕ → Option (List ℕ) → Option (List ℕ) → Type 0 → Result Unit StepFault
    → Type 0
Puts text written written' fault (Ok _) = written' ≡ after written text
Puts text written written' fault (Err (faults.Refused broken)) = ⊥
Puts text written written' fault (Err faults.WriteFault) = fault × WritesFront text written written'
Puts text written written' fault (Err faults.NoMemory) = WritesFront text written written'

abbrev pub Finishes : Option RunState → Option (List ℕ) → Option (List ℕ) → Type 0
    → Result Unit StepFault → Type 0
Finishes None written written' fault result = (result ≡ Err faults.NoMemory) × (written' ≡ written)
Finishes (Some r) written written' fault result =
    Puts (texts_of (finish r)) written written' fault result
