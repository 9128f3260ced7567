-- When a journal is sound, whoever made it (docs/CHECKING.md): behind each of its groups all of
-- these are true, each of which is said in the terms of the standard where it is defined.
use Rattle.std.specs.Prelude.{ℕ, ◌≡◌, ◌^◌, Bool, true, false, not, if◌then◌else◌, List, [], ◌∷◌}
use Rattle.std.specs.Prelude.{◌++◌}
use Rattle.std.specs.Prelude.{Option, None, Some, All}
use Rattle.l2_types.specs.declared.channel.Kind.{Kind}
use Rattle.l2_types.specs.declared.side.Side.{Side}
use Rattle.l2_types.specs.declared.channel.Kind.TheVariants as bearers
use Rattle.bearer_types.specs.declared.config.BearerConfig.{BearerConfig}
use Rattle.bearer_types.specs.Sides.{sender_of}
use Rattle.air_record.specs.declared.record.Record.{Record}
use Rattle.air_record.specs.declared.record.Record.TheVariants as records
use Rattle.air_record.specs.declared.record.State.{State}
use Rattle.air_record.specs.declared.record.State.TheVariants as states
use Rattle.air_text.specs.Groups.{Group}
use Rattle.promises.specs.Configs.{config_of}
use Rattle.promises.specs.RightAir.{AirIsRight}
use Rattle.promises.specs.RightForm.{FormIsRight}
use Rattle.promises.specs.Takes.{SdusLeaveInOrder, SignalsLeaveInOrder}
use Rattle.journal_um.specs.UmLosses.{is_long_in}
use Rattle.journal_um.specs.UmWindow.{width_of}
use Rattle.journal_flows.specs.Gathering.{MayTake}
use Rattle.journal_flows.specs.FlowsTold.{um_flows_told}
use Rattle.journal_flows.specs.UmPdus.{come_in}
use Rattle.journal_given.specs.Supplies.{histories}
use Rattle.journal_given.specs.Giving.{may_take_by}
use Rattle.journal_given.specs.RightTakes.{TakesAreRight}
use Rattle.journal_sent.specs.RightSent.{SentIsRight, ShapesAreRight}
use Rattle.journal_delivered.specs.RightDelivery.{DeliveredIsRight}
use Rattle.journal_edge.specs.RightEdge.{EdgeIsRight}
use Rattle.journal_failure.specs.RightFailure.{FailureIsRight}
use Rattle.journal_status.specs.RightStatus.{StatusIsRight}
use Rattle.journal_check.specs.declared.fault.CheckWhy.{CheckWhy}
use Rattle.journal_check.specs.declared.fault.CheckWhy.TheVariants as words

-- whether RLC may take anything as t-PollRetransmit expires, by what the journal tells of PDCP
abbrev pub may_take : List Group → MayTake
may_take past = may_take_by histories past

-- what RLC takes and sends (TS 36.322 5.1, 5.2.1, TS 36.323 5.1.1, 5.2.1.1)
pub record IsSent (past : List Group) : Type 0 where
  pub takes : TakesAreRight past
  pub sdus : SdusLeaveInOrder past
  pub signals : SignalsLeaveInOrder past
  pub pdus : SentIsRight past

-- how blocks and PDUs are written and shown (TS 36.321 6.1.2, TS 36.322 6.2, TS 36.323 6.2)
pub record IsFormed (past : List Group) : Type 0 where
  pub blocks : FormIsRight past
  pub shapes : ShapesAreRight past

-- what each word says of a journal so far; the others are judged at a line
abbrev pub Holds : CheckWhy → List Group → Type 0
Holds words.Sent past = IsSent past
Holds words.Carried past = AirIsRight past
Holds words.Delivered past = DeliveredIsRight (may_take past) past
Holds words.Edge past = EdgeIsRight (may_take past) past
Holds words.Failure past = FailureIsRight (may_take past) past
Holds words.Status past = StatusIsRight (may_take past) past
Holds words.Form past = IsFormed past
Holds why past = Unit {0}

-- the words in the order in which they are looked for
abbrev pub group_words : List CheckWhy
group_words = words.Sent ∷ words.Carried ∷ words.Delivered ∷ words.Edge ∷ words.Failure
    ∷ words.Status ∷ words.Form ∷ []

abbrev pub AllHold : List Group → Type 0
AllHold past = All (λ why. Holds why past) group_words

-- the first that doesn't hold
pub record FailsFirst (past : List Group) (why : CheckWhy) : Type 0 where
  pub before : List CheckWhy
  pub behind : List CheckWhy
  pub words_are : group_words ≡ before ++ why ∷ behind
  pub hold : All (λ w. Holds w past) before
  pub fails : Holds why past → ⊥

-- ---- a `sum` record: it is of a bearer, and of an unacknowledged flow it tells whether losses
-- were long, so that PDCP may have read a wrong COUNT (TS 36.323 5.1.2.1.3)

abbrev pub is_state : State → Bool → Bool
is_state states.Short long = not long
is_state states.Long long = long
is_state state long = false

-- whether they were, by what the flow tells
abbrev pub are_long : Side → ℕ → BearerConfig → List Group → Bool
are_long from lcid config past = is_long_in (width_of config.rlc_bits) (2 ^ config.pdcp_bits)
    (come_in (um_flows_told (may_take past) past from lcid))

abbrev pub is_told : Kind → State → Bool → Bool
is_told bearers.Um state long = is_state state long
is_told kind state long = true

abbrev pub sum_fault_by : Option BearerConfig → Side → ℕ → State → List Group → Option CheckWhy
sum_fault_by None from lcid state past = Some words.Sent
sum_fault_by (Some config) from lcid state past =
    if is_told config.kind state (are_long from lcid config past) then None else Some words.Edge

-- why a `sum` record can't stand behind groups that have ended
abbrev pub sum_fault : List Group → Record → Option CheckWhy
sum_fault past (records.Sum direction lcid submitted delivered state) =
    sum_fault_by (config_of lcid past) (sender_of direction) lcid state past
sum_fault past one = None
