-- A line's text on its way to a sink (docs/formats/JOURNAL.md): it is put as it arises.
use Rattle.std.specs.Prelude.{◌≡◌, ℕ, Bool, true, false, List, [], ◌++◌, Option, None, Some}
use Rattle.std.specs.Prelude.{is_some, Result, Ok, Err}
use Rattle.l2_io.specs.Known.{after}
use Rattle.air_record.specs.declared.record.Record.{Record}
use Rattle.air_run.specs.declared.refusal.StepFault.{StepFault}
use Rattle.air_run.specs.declared.refusal.StepFault.TheVariants as faults
use Rattle.air_run.specs.Buffers.{after_records}
use Rattle.line_player.specs.Streams.{WritesFront}
use Rattle.air_run.specs.Written.{Journal, told, all_seen}

-- the text that a journal has and hasn't put
abbrev pub text_in : Option (List ℕ) → List ℕ
text_in None = []
text_in (Some text) = text

abbrev pub pending : Journal → List ℕ
pending j = text_in j.text

-- of a text the beginning was put, and this is left
pub record HasPut (all left : List ℕ) (written written' : Option (List ℕ)) : Type 0 where
  pub text : List ℕ
  pub all_is : all ≡ text ++ left
  pub written_is : written' ≡ after written text

-- records were told, and a beginning of the text was put
pub record HasTold (records : List Record) (old new : Journal) (written written' : Option (List ℕ))
    : Type 0 where
  pub losses : new.losses ≡ all_seen records old.losses
  pub buffers : new.buffers ≡ after_records records old.buffers
  pub wanted : is_some new.text ≡ is_some old.text
  pub put : HasPut (pending (told records old)) (pending new) written written'

-- what a part of it leaves where it stops
abbrev pub Stops : List Record → Journal → Option (List ℕ) → Option (List ℕ) → Type 0 → StepFault
    → Type 0
Stops records old written written' fault (faults.Refused broken) = ⊥
Stops records old written written' fault faults.WriteFault =
    fault × WritesFront (pending (told records old)) written written'
Stops records old written written' fault faults.NoMemory =
    WritesFront (pending (told records old)) written written'

abbrev pub Tells : {T : Type 0} → List Record → Journal → Journal → Option (List ℕ)
    → Option (List ℕ) → Type 0 → Result T StepFault → Type 0
Tells records old new written written' fault (Ok _) = HasTold records old new written written'
Tells records old new written written' fault (Err e) = Stops records old written written' fault e

-- a line was run, or it asks for the expiry of a timer that doesn't run
abbrev pub TellsIf : List Record → Journal → Journal → Option (List ℕ) → Option (List ℕ) → Type 0
    → Result Bool StepFault → Type 0
TellsIf records old new written written' fault (Ok true) = HasTold records old new written written'
TellsIf records old new written written' fault (Ok false) = written' ≡ written
TellsIf records old new written written' fault (Err e) = Stops records old written written' fault e
