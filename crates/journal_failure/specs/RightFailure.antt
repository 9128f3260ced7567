-- When the `fail` records of a journal are right, whoever made it (TS 36.322 5.2.1;
-- docs/formats/JOURNAL.md). A flow fails where a number is named so that it counts more often than
-- maxRetxThreshold times; its sender tells the SN of that number once, in the group in which the
-- flow fails, and is silent from then on until the next handover.
use Rattle.std.specs.Prelude.{ℕ, ◌%◌, ◌<◌, ◌≤◌, if◌then◌else◌, List, [], ◌∷◌, ◌≡◌, Option, Some}
use Rattle.std.specs.Prelude.{None, MatchOption}
use Rattle.l2_types.specs.declared.side.Side.{Side}
use Rattle.rlc_pdu.specs.declared.constants.TheConstants.{AM_MODULUS}
use Rattle.bearer_types.specs.declared.config.BearerConfig.{BearerConfig}
use Rattle.air_text.specs.Groups.{Group}
use Rattle.promises.specs.Events.{fails_on}
use Rattle.promises.specs.Records.{events_of}
use Rattle.promises.specs.Silent.{FailedAreSilent}
use Rattle.journal_account.specs.FlowEvents.{FlowEvent}
use Rattle.journal_account.specs.Waiting.{IsWithin, FailsAt}
use Rattle.journal_lives.specs.LifeEvents.{running}
use Rattle.journal_flows.specs.Gathering.{MayTake}
use Rattle.journal_flows.specs.FlowsTold.{flows_within}
use Rattle.journal_flows.specs.Accounts.{is_acked_kind}
use Rattle.journal_flows.specs.Laws.{bearer_on}

-- ---- of one flow

abbrev pub HasFailed : ℕ → List FlowEvent → Type 0
HasFailed most es = (n : ℕ) × FailsAt most es n

-- The SNs of a group's `fail` records, by the histories of the life that runs behind the group's
-- line and behind its records: none where no number was named too often, and none where the flow
-- had failed before; else that of the number at which it fails.
pub record AreFailsOf (most : ℕ) (before now : List FlowEvent) (sns : List ℕ) : Type 0 where
  pub within : IsWithin most now → sns ≡ []
  pub failed : HasFailed most before → sns ≡ []
  pub fails : (HasFailed most before → ⊥) → (n : ℕ) → FailsAt most now n
      → sns ≡ n % AM_MODULUS ∷ []

-- ---- of a group, the newest

-- maxRetxThreshold of a bearer, where it is acknowledged
abbrev pub most_by : Option BearerConfig → Option ℕ
most_by None = None
most_by (Some config) = if is_acked_kind config.kind then Some config.tx.max_retx else None

abbrev pub only_line : Group → Group
only_line now = record { number = now.number; line = now.line; events = [] }

abbrev pub life_of : MayTake → Group → List Group → Side → ℕ → List FlowEvent
life_of may_take now past side lcid = running (flows_within may_take now past side lcid)

abbrev pub sns_told : Side → ℕ → Group → List ℕ
sns_told side lcid now = fails_on lcid (events_of side now.events)

-- on an acknowledged channel the SNs are those, and elsewhere stands no `fail` record
abbrev pub AreFails : MayTake → Group → List Group → Side → ℕ → Type 0
AreFails may_take now past side lcid =
    MatchOption (most_by (bearer_on lcid (now ∷ past))) (sns_told side lcid now ≡ [])
    (λ most. AreFailsOf most (life_of may_take (only_line now) past side lcid)
    (life_of may_take now past side lcid) (sns_told side lcid now))

-- logical channels are 0 to 10
pub record GroupFailsRight (may_take : MayTake) (now : Group) (past : List Group) : Type 0 where
  pub on_channels : (side : Side) (lcid : ℕ) → lcid ≤ 10 → AreFails may_take now past side lcid
  pub elsewhere : (side : Side) (lcid : ℕ) → 10 < lcid → sns_told side lcid now ≡ []

-- ---- of a journal, group by group

abbrev pub FailsAreRight : MayTake → List Group → Type 0
FailsAreRight may_take [] = Unit {0}
FailsAreRight may_take (now ∷ past) =
    GroupFailsRight may_take now past × FailsAreRight may_take past

abbrev pub FailureIsRight : MayTake → List Group → Type 0
FailureIsRight may_take past = FailsAreRight may_take past × FailedAreSilent past
