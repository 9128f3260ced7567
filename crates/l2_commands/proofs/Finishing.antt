-- What the end of a run wrote is what stands at the end of its script.
use Rattle.std.proofs.Common.{◌≡◌, List, ℕ, refl}
use Rattle.std.specs.Prelude.{Option, None, Some, Result, Ok, Err}
use Rattle.air_record.specs.Text.{text_of, texts_of}
use Rattle.air_run.specs.Steps.{Finishes}
use Rattle.air_run.specs.Run.{RunState, finish}
use Rattle.air_run.specs.Journal.{script}
use Rattle.line_player.specs.Journal.{finished}
use Rattle.air_run.specs.declared.refusal.RunRefusal.{RunRefusal}
use Rattle.air_run.specs.declared.refusal.StepFault.{StepFault}
use Rattle.air_run.specs.declared.refusal.StepFault.TheVariants as faults
use Rattle.line_player.specs.declared.ending.Ending.{Ending}
use Rattle.line_player.specs.declared.ending.Ending.TheVariants as endings
use Rattle.line_player.specs.Plays.{state_of, Plays}
use Rattle.line_player.proofs.Nothing.{front_none}

-- the ending that an answer makes; a run isn't refused at its end
abbrev pub ending_by : Result Unit StepFault → Ending RunRefusal
ending_by (Ok _) = endings.Done
ending_by (Err faults.WriteFault) = endings.WriteFault
ending_by (Err faults.NoMemory) = endings.NoMemory
ending_by (Err (faults.Refused broken)) = endings.NoMemory

pub finish-plays : (run : Option RunState) (w w' : Option (List ℕ)) (fault : Type 0) (result : Result Unit StepFault)
    → Finishes run w w' fault result → Plays text_of (finished script (state_of script run)) w w' ⊥ fault
    (ending_by result)
finish-plays None w w' fault result h = rw (h.0, h.1) (front_none (texts_of (finish script.first)) w)
finish-plays (Some r) w w' fault (Ok u) h = (refl, h)
finish-plays (Some r) w w' fault (Err faults.WriteFault) h = (h.1, h.0)
finish-plays (Some r) w w' fault (Err faults.NoMemory) h = h
finish-plays (Some r) w w' fault (Err (faults.Refused broken)) h = absurd h

-- a run isn't refused at its end
pub never-refused : (run : Option RunState) (w w' : Option (List ℕ)) (fault : Type 0) (result : Result Unit StepFault)
    (broken : RunRefusal)
    → result ≡ Err (faults.Refused broken) → Finishes run w w' fault result → ⊥
never-refused None w w' fault result broken is h = absurd cc
never-refused (Some r) w w' fault result broken is h = absurd (rw is at h)
