-- A channel of any kind through a run, from the line on in which its bearers come at both ends
-- (TS 36.322 4.2.1, TS 36.323 4.2).
use Rattle.std.specs.Prelude.{◌≡◌, ℕ, Bool, false, ◌||◌, List, [], ◌++◌}
use Rattle.air_link.specs.Lines.{bears}
use Rattle.air_link.specs.Link.{Link}
use Rattle.air_record.specs.declared.record.Record.{Record}
use Rattle.bearer_types.specs.Configs.{IsConfig}
use Rattle.bearer_types.specs.declared.config.BearerConfig.{BearerConfig}
use Rattle.eps_sec.specs.declared.Keys.{Keys}
use Rattle.l2_types.specs.declared.side.Side.{Side}
use Rattle.law_node.specs.Calls.{Add, after as after_call}
use Rattle.bearer_types.specs.Sides.{sent_by}
use Rattle.law_run.specs.AnyCalls.Runs.{Step, step}
use Rattle.law_deliver.specs.AmFlow.Air.{Air, outset}
use Rattle.law_words.specs.Arrivals.{AccountEntry}
use Rattle.law_deliver.specs.AmChannel.Lives.{AirStep}
use Rattle.um_losses.specs.declared.cursor.Cursor.{Cursor}
use Rattle.um_losses.specs.Told.{told_in}
use Rattle.law_deliver.specs.UmGaps.Whats.{whats}
use Rattle.law_run.specs.TwoEnds.Arrival.{told_by_step}
use Rattle.law_run.specs.TwoEnds.Going.{handed_in, sets, TellAlone, GoesByAir, IsStepSince}
use Rattle.promises.specs.Flows.{looped_at}
use Rattle.law_run.specs.TwoEnds.Lives.{IsAtRest}
use Rattle.law_run.specs.TwoEnds.Logs.{LogAlone}
use Rattle.law_run.specs.TwoEnds.Shown.{IsShown, anew}

abbrev pub none_yet : Side → ℕ → List (List ℕ)
none_yet side n = []

-- where nothing is under way the bearers come: nothing is told, nothing is submitted, and no
-- discard timer is set yet
pub record BearersBegin (config : BearerConfig) (keys : Keys) (k : Link) : Type 0 where
  pub out_is : (bears config keys k).out ≡ k.out
  pub by : GoesByAir config.channel.lcid [] none_yet (λ bits from. []) false (bears config keys k)
      (outset (after_call k.nb (Add config keys)) (after_call k.ue (Add config keys)))
  pub no_steps : by.steps ≡ []

abbrev pub BearersComeByAir : Type 0
BearersComeByAir = (config : BearerConfig) (keys : Keys) (k : Link) → IsConfig config → IsAtRest k
    → BearersBegin config keys k

-- a step since, with what has been told, submitted and set before, and what has gone by air; where
-- the PDUs of the channel are shown as those of unacknowledged RLC, the records tell what the steps
-- more are to a flow from each side
pub record ComesOn (l : ℕ) (told : List Record) (submitted : Side → ℕ → List (List ℕ)) (said : ℕ
    → Side → List AccountEntry) (set : Bool) (s : Step) (k : Link) (a : Air)
    (before : GoesByAir l told submitted said set k a) : Type 0 where
  pub more : List Record
  pub out_is : (step s k).out ≡ k.out ++ more
  pub alone : TellAlone l more
  pub log_alone : LogAlone more
  pub by : GoesByAir l (told ++ more)
      (λ side n. submitted side n ++ (handed_in side n s k ++ looped_at side n more))
      (λ bits from. said bits from ++ told_by_step bits l from s more) (set || sets l s)
      (step s k) a
  pub stays : (bits : ℕ) → IsShown l bits k.kinds → IsShown l bits (step s k).kinds
  pub shown : (bits : ℕ) → IsShown l bits k.kinds → (from : Side) (c : Cursor)
      → whats from l bits by.steps a ≡ whats from l bits before.steps a
      ++ (anew s ++ told_in (sent_by from) l c more)

abbrev pub StepsComeByAir : Type 0
StepsComeByAir = (l : ℕ) (told : List Record) (submitted : Side → ℕ → List (List ℕ)) (said : ℕ
    → Side → List AccountEntry) (set : Bool) (s : Step) (k : Link) (a : Air)
    → IsStepSince l s → (before : GoesByAir l told submitted said set k a)
    → ComesOn l told submitted said set s k a before

-- nothing of a link matters but its ends and its TTIs so far
pub record ComesAs (l : ℕ) (told : List Record) (submitted : Side → ℕ → List (List ℕ)) (said : ℕ
    → Side → List AccountEntry) (set : Bool) (m : Link) (a : Air) (steps : List AirStep) : Type 0
  where
    pub by : GoesByAir l told submitted said set m a
    pub same : by.steps ≡ steps

abbrev pub EndsComeByAir : Type 0
EndsComeByAir = (l : ℕ) (told : List Record) (submitted : Side → ℕ → List (List ℕ)) (said : ℕ
    → Side → List AccountEntry) (set : Bool) (k m : Link) (a : Air)
    → m.nb ≡ k.nb → m.ue ≡ k.ue → m.ttis ≡ k.ttis
    → (before : GoesByAir l told submitted said set k a)
    → ComesAs l told submitted said set m a before.steps
