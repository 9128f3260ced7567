-- What a link plays are steps of its two ends, in which only blocks come that the other end built,
-- and both of them move in a handover (TS 36.321 5.3, 5.4, 5.9).
use Rattle.std.specs.Prelude.{◌≡◌, ℕ, ◌≤◌, ◌==◌, Bool, true, false, if◌then◌else◌, List, [], ◌++◌}
use Rattle.air_link.specs.Link.{Link, end_of}
use Rattle.air_record.specs.declared.record.Record.{Record}
use Rattle.bearer_types.specs.Configs.{IsConfig}
use Rattle.bearer_types.specs.Sides.{sent_by, is_same}
use Rattle.l2_node.specs.Submitting.{refusal}
use Rattle.l2_types.specs.declared.side.Side.{Side}
use Rattle.law_node.specs.Telling.{told_over}
use Rattle.law_run.specs.AnyCalls.Calls.{Call, Bears, Discards, Visits, Forges}
use Rattle.promises.specs.Records.{events_of}
use Rattle.law_run.specs.AnyCalls.Runs.{Step, Tti, Drains, Submit, Calls, step}
use Rattle.law_deliver.specs.AmFlow.Air.{Air}
use Rattle.law_words.specs.Arrivals.{AccountEntry}
use Rattle.law_deliver.specs.AmChannel.Arrival.{happened}
use Rattle.law_deliver.specs.AmChannel.Delivery.{accepted, was_submitted, SetNone}
use Rattle.law_deliver.specs.AmChannel.Lives.{AirStep, AreLiving, lives, end_at, all_calls}
use Rattle.law_run.specs.TwoEnds.Along.{AreAlong, IsHandedIn}
use Rattle.law_run.specs.TwoEnds.Arrival.{told_by_step}
use Rattle.law_run.specs.TwoEnds.Logs.{log_of, Flight, no_flight, logged, LogAlone}
use Rattle.promises.specs.Arrival.{entries_in}
use Rattle.um_losses.specs.declared.cursor.Cursor.{Cursor}
use Rattle.um_losses.specs.Told.{told_in}
use Rattle.law_deliver.specs.UmGaps.Whats.{whats}
use Rattle.law_run.specs.TwoEnds.On.{IsOn}
use Rattle.law_run.specs.TwoEnds.Shown.{IsShown, anew}
use Rattle.promises.specs.Flows.{looped_at}
use Rattle.l2_types.specs.declared.limits.TheConstants.{GREATEST_GRANT}

-- ---- the SDUs that a side submits on a channel in a step

-- one that is handed in, if it isn't refused
abbrev pub handed_in : Side → ℕ → Step → Link → List (List ℕ)
handed_in side n (Tti up_grant up down_grant down) k = []
handed_in side n (Drains grant) k = []
handed_in side n (Submit s lcid sdu) k =
    if is_same s side then accepted (refusal lcid sdu (end_of s k)) (lcid == n) sdu else []
handed_in side n (Calls c) k = []

-- ---- a step hands one in

abbrev pub is_submission : Step → Bool
is_submission (Submit side lcid sdu) = true
is_submission s = false

-- it goes on so, by these steps, and adds these records
abbrev pub SubmissionsGoAlone : Step → Link → List AirStep → List Record → Type 0
SubmissionsGoAlone (Submit side lcid sdu) k steps more = IsHandedIn side lcid sdu k steps more
SubmissionsGoAlone s k steps more = Unit {0}

-- ---- a step sets a discard timer on a channel

abbrev pub sets : ℕ → Step → Bool
sets l (Calls (Discards lcid ttis)) = lcid == l
sets l s = false

-- ---- what a link plays

-- what records tell of the air, whichever block was sent before them
abbrev pub TellAlone : ℕ → List Record → Type 0
TellAlone l told = (bits : ℕ) (from : Side) (sent : List ℕ)
    → entries_in bits l from sent told ≡ entries_in bits l from [] told

-- steps that keep what is asked in lives of the channel's bearers bring the ends to those of a
-- link; the records tell of each end exactly what it tells in its calls, and in one order what both
-- tell, build and hear, each block with its HARQ process; in these each is submitted exactly those
-- SDUs on each channel, just so much is told of what goes from a side on the channel, and no
-- discard timer is set on it where `set` is false
pub record GoesByAir (l : ℕ) (told : List Record) (submitted : Side → ℕ → List (List ℕ)) (said : ℕ
    → Side → List AccountEntry) (set : Bool) (m : Link) (a : Air) : Type 0 where
  pub steps : List AirStep
  pub living : AreLiving l a steps
  pub told_is : (side : Side) → events_of side told
      ≡ told_over (all_calls side steps a) (end_at side a)
  pub logged_is : log_of steps a ≡ logged no_flight told
  pub submitted_is : (side : Side) (n : ℕ)
      → was_submitted n (all_calls side steps a) (end_at side a) ≡ submitted side n
  pub happened_is : (bits : ℕ) (from : Side) → happened bits l from steps a ≡ said bits from
  pub sets_none : set ≡ false → (side : Side) → SetNone l (all_calls side steps a)
  pub on : IsOn m (lives steps a)

-- a step of a link goes on so, and adds these records, which tell of blocks that were sent before
-- it nothing; where it hands in no SDU they stand where its steps of the air are; where they show
-- the PDUs of the channel as those of unacknowledged RLC, they tell what the steps are to a flow
-- from each side
pub record GoesOn (l : ℕ) (s : Step) (k : Link) (a : Air) : Type 0 where
  pub more : List Record
  pub out_is : (step s k).out ≡ k.out ++ more
  pub alone : TellAlone l more
  pub log_alone : LogAlone more
  pub by : GoesByAir l more (λ side n. handed_in side n s k ++ looped_at side n more)
      (λ bits from. told_by_step bits l from s more) (sets l s) (step s k) a
  pub along : is_submission s ≡ false → (sent : Flight) → AreAlong sent by.steps a more
  pub submits : SubmissionsGoAlone s k by.steps more
  pub stays : (bits : ℕ) → IsShown l bits k.kinds → IsShown l bits (step s k).kinds
  pub shown : (bits : ℕ) → IsShown l bits k.kinds → (from : Side) (c : Cursor)
      → whats from l bits by.steps a ≡ anew s ++ told_in (sent_by from) l c more

-- ---- the law

-- no bearer of the channel comes, no block is forged, and a block has 1 to 28 visits
abbrev pub IsCallSince : ℕ → Call → Type 0
IsCallSince l (Bears config keys) = IsConfig config × ((config.channel.lcid == l) ≡ false)
IsCallSince l (Visits maximum) = (1 ≤ maximum) × (maximum ≤ 28)
IsCallSince l (Forges side block) = ⊥
IsCallSince l call = Unit {0}

-- grants are those of transport blocks
abbrev pub IsStepSince : ℕ → Step → Type 0
IsStepSince l (Tti up_grant up down_grant down) = (up_grant ≤ GREATEST_GRANT)
    × (down_grant ≤ GREATEST_GRANT)
IsStepSince l (Drains grant) = grant ≤ GREATEST_GRANT
IsStepSince l (Submit side lcid sdu) = Unit {0}
IsStepSince l (Calls c) = IsCallSince l c

abbrev pub StepsGoByAir : Type 0
StepsGoByAir = (l : ℕ) (s : Step) (k : Link) (a : Air) → IsStepSince l s → IsOn k a → GoesOn l s k a
