-- The `fail` records of a journal, and the `drop` records of a STATUS that is ignored, stand only
-- on channels with an acknowledged bearer (TS 36.322 5.2.1; docs/formats/JOURNAL.md).
use Rattle.std.specs.Prelude.{◌≡◌, ℕ, ◌<◌, false, List, [], ◌∷◌, Option, Some, None}
use Rattle.air_text.specs.Groups.{Group}
use Rattle.bearer_types.specs.declared.config.BearerConfig.{BearerConfig}
use Rattle.l2_types.specs.declared.side.Side.{Side}
use Rattle.journal_failure.specs.RightFailure.{sns_told, AreFails}
use Rattle.journal_flows.specs.Accounts.{is_acked_kind}
use Rattle.journal_flows.specs.Gathering.{MayTake}
use Rattle.journal_flows.specs.Laws.{bearer_on}
use Rattle.journal_status.specs.RightStatus.{ignored_told, AreIgnoredTold}
use Rattle.law_run.specs.Order.{KeepsOrder}

-- logical channels are 0 to 10, so above them stands no bearer
abbrev pub NoneStandsAbove : Type 0
NoneStandsAbove = (past : List Group) (lcid : ℕ) → KeepsOrder past → 10 < lcid
    → bearer_on lcid past ≡ None

-- no bearer, or one that isn't acknowledged
abbrev pub IsUnacked : Option BearerConfig → Type 0
IsUnacked None = Unit {0}
IsUnacked (Some config) = is_acked_kind config.kind ≡ false

-- a group tells none of them of a side on a channel
pub record TellsNone (now : Group) (side : Side) (lcid : ℕ) : Type 0 where
  pub fails : sns_told side lcid now ≡ []
  pub ignored : ignored_told side lcid now.events ≡ 0

pub record TellsNoneElsewhere (now : Group) (past : List Group) : Type 0 where
  pub on_channels : (side : Side) (lcid : ℕ) → IsUnacked (bearer_on lcid (now ∷ past))
      → TellsNone now side lcid
  pub elsewhere : (side : Side) (lcid : ℕ) → 10 < lcid → TellsNone now side lcid

-- of a journal, group by group
abbrev pub TellNoneElsewhere : List Group → Type 0
TellNoneElsewhere [] = Unit {0}
TellNoneElsewhere (now ∷ past) = TellsNoneElsewhere now past × TellNoneElsewhere past

abbrev pub OthersTellNone : Type 0
OthersTellNone = (past : List Group) → KeepsOrder past → TellNoneElsewhere past

-- so there they are right, as their checkers ask it
pub record AreRight (may_take : MayTake) (now : Group) (past : List Group) (side : Side) (lcid : ℕ)
    : Type 0 where
  pub fails : AreFails may_take now past side lcid
  pub ignored : AreIgnoredTold may_take now past side lcid

abbrev pub OthersAreRight : Type 0
OthersAreRight =
    (may_take : MayTake) (now : Group) (past : List Group) (side : Side) (lcid : ℕ)
    → IsUnacked (bearer_on lcid (now ∷ past)) → TellsNone now side lcid
    → AreRight may_take now past side lcid
