-- Which SDUs of a flow have arrived, told by the PDUs that were written and that came
-- (TS 36.322 5.1.3.2.3).
use Rattle.std.specs.Prelude.{◌≡◌, ℕ, List, [], ◌∷◌, ◌++◌, map, length, Option, Some, None}
use Rattle.std.specs.Prelude.{slice_get}
use Rattle.l2_types.specs.declared.config.AmTxConfig.{AmTxConfig}
use Rattle.l2_types.specs.declared.AmRxConfig.{AmRxConfig}
use Rattle.rlc_pdu.specs.declared.outcome.Taken.{Taken}
use Rattle.rlc_pdu.specs.declared.outcome.Taken.TheVariants as taken
use Rattle.law_rlc.specs.AmPair.Flow.{Copy, Flow, Step, Sends, Receives, Reports, DataComes}
use Rattle.law_rlc.specs.AmPair.Flow.{StatusComes, DataGoes, StatusGoes, Passes, sender, given}
use Rattle.law_rlc.specs.AmPair.Flow.{happens, goes, am_rlc_outset}
use Rattle.law_rlc.specs.AmPair.Given.{AreGiven}
use Rattle.law_rlc.specs.AmPair.Sdus.{offered}
use Rattle.law_rlc.specs.AmPair.Arrives.{arrives}
use Rattle.law_words.specs.Stretches.{has_arrived}
use Rattle.law_words.specs.Passing.{Passing, Writes, Comes, Told, nothing_told, with_passings}

-- ---- the data PDUs in steps of a flow

abbrev pub written_in : Taken → List Passing
written_in (taken.Piece number fresh polled octets) = Writes octets ∷ []
written_in taken.Idle = []
written_in taken.Small = []
written_in taken.Shut = []
written_in taken.Held = []
written_in taken.Stopped = []

abbrev pub coming : Option Copy → List Passing
coming None = []
coming (Some c) = Comes c.octets ∷ []

abbrev pub passed_in : Flow → Step → List Passing
passed_in f (Sends c) = written_in (given (sender f).state c)
passed_in f (Receives c) = []
passed_in f (Reports size octets) = []
passed_in f (DataComes k) = coming (slice_get f.copies k)
passed_in f (StatusComes k) = []
passed_in f (DataGoes k) = []
passed_in f (StatusGoes k) = []
passed_in f Passes = []

abbrev pub passed : List Step → Flow → List Passing
passed [] f = []
passed (s ∷ ss) f = passed_in f s ++ passed ss (happens f s)

-- ---- the law

-- an SDU has arrived exactly where each of its octets lies in what came
abbrev pub ArrivesAsTold : Flow → Told → Type 0
ArrivesAsTold f t =
    (place : ℕ) → arrives f place ≡ has_arrived (map length (offered f)) t.fields t.came place

abbrev pub PdusTellWhatArrives : Type 0
PdusTellWhatArrives = (sending : AmTxConfig) (receiving : AmRxConfig) (steps : List Step)
    → AreGiven (am_rlc_outset sending receiving) steps
    → ArrivesAsTold (goes steps (am_rlc_outset sending receiving))
    (with_passings (passed steps (am_rlc_outset sending receiving)) nothing_told)
