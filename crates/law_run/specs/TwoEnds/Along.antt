-- Records that stand where steps of two ends are: those of each step tell what both ends log in it,
-- and just those SDUs that the test loop submits in it (docs/formats/JOURNAL.md).
use Rattle.std.specs.Prelude.{◌≡◌, ℕ, Some, None, List, [], ◌∷◌, ◌++◌, map}
use Rattle.air_link.specs.Lines.{no_place}
use Rattle.air_link.specs.Link.{Link, end_of}
use Rattle.air_record.specs.declared.record.Record.{Record}
use Rattle.air_record.specs.declared.record.Record.TheVariants as records
use Rattle.bearer_types.specs.declared.event.Event.{Event}
use Rattle.l2_bits.specs.declared.fault.SubmitRefusal.{SubmitRefusal}
use Rattle.l2_node.specs.Submitting.{refusal}
use Rattle.l2_types.specs.declared.side.Side.{Side}
use Rattle.l2_types.specs.declared.side.Side.TheVariants.{Nb, Ue}
use Rattle.law_deliver.specs.AmChannel.Delivery.{was_submitted}
use Rattle.law_deliver.specs.AmChannel.Lives.{AirStep, InLife, lives_on, end_at, calls_at}
use Rattle.law_deliver.specs.AmFlow.Air.{Air, Act, Calls, Step, AtNb, AtUe}
use Rattle.law_node.specs.Calls.{Submit, Visits}
use Rattle.law_node.specs.Telling.{told_of}
use Rattle.law_run.specs.TwoEnds.Logs.{Flight, flight_in, logged, log_at}
use Rattle.promises.specs.Flows.{looped_at}

-- ---- steps

-- what an end tells stands there as it tells it, with no record in between
pub record StandTogether (side : Side) (es : List Event) (told : List Record) : Type 0 where
  pub before : List Record
  pub behind : List Record
  pub are : told ≡ before ++ (map (λ (e : Event). records.Of side e) es ++ behind)

-- so it does as its process is visited for a block
abbrev pub TellsTogether : AirStep → Air → List Record → Type 0
TellsTogether (InLife (AtNb (Calls (Visits t)))) a told =
    StandTogether Nb (told_of a.nb.end (Visits t)) told
TellsTogether (InLife (AtUe (Calls (Visits t)))) a told =
    StandTogether Ue (told_of a.ue.end (Visits t)) told
TellsTogether x a told = Unit {0}

-- the records of the first step, and behind them those of the others
pub record FirstAlong (sent : Flight) (x : AirStep) (a : Air)
    (Others : List Record → List Record → Type 0) (told : List Record) : Type 0 where
  pub now : List Record
  pub later : List Record
  pub are : told ≡ now ++ later
  pub logs : logged sent now ≡ log_at a x
  pub looped : (side : Side) (n : ℕ)
      → looped_at side n now ≡ was_submitted n (calls_at side a x) (end_at side a)
  pub tells : TellsTogether x a now
  pub others : Others now later

-- behind a block that was sent last; behind the last step stand some that tell of neither
abbrev pub AreAlong : Flight → List AirStep → Air → List Record → Type 0
AreAlong sent [] a told =
    (logged sent told ≡ []) × ((side : Side) (n : ℕ) → looped_at side n told ≡ [])
AreAlong sent (x ∷ xs) a told = FirstAlong sent x a
    (λ now later. AreAlong (flight_in now sent) xs (lives_on a x) later) told

-- ---- the SDU of a line

-- a step of one end
abbrev pub at_side : Side → Act → Step
at_side Nb x = AtNb x
at_side Ue x = AtUe x

-- it is handed in by one call of its end, and no record; or it is refused, by no step, and a record
-- tells that
pub record IsHandedIn (side : Side) (lcid : ℕ) (sdu : List ℕ) (k : Link) (steps : List AirStep)
    (more : List Record) : Type 0 where
  pub taken : refusal lcid sdu (end_of side k) ≡ None
      → (steps ≡ InLife (at_side side (Calls (Submit lcid sdu))) ∷ []) × (more ≡ [])
  pub refused : (why : SubmitRefusal) → refusal lcid sdu (end_of side k) ≡ Some why
      → (steps ≡ []) × (more ≡ records.Refused side lcid (no_place why) ∷ [])
