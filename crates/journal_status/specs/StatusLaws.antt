-- What the checker's verdict says of a journal, and what follows (TS 36.322 5.2.1, 5.2.3).
use Rattle.std.specs.Prelude.{ℕ, true, List, [], ◌∷◌, ◌≡◌, None, IsTrue, ◌↔◌}
use Rattle.l2_types.specs.declared.side.Side.{Side}
use Rattle.air_record.specs.declared.line.Line.{Line}
use Rattle.air_record.specs.declared.line.Line.TheVariants as lines
use Rattle.air_text.specs.Groups.{Group}
use Rattle.journal_account.specs.Acked.{is_acked}
use Rattle.journal_account.specs.Arrived.{is_complete_in}
use Rattle.journal_lives.specs.LifeEvents.{running}
use Rattle.journal_flows.specs.Gathering.{MayTake}
use Rattle.journal_flows.specs.FlowsTold.{flows_within}
use Rattle.journal_flows.specs.Laws.{bearer_on}
use Rattle.journal_status.specs.RightStatus.{StatusIsRight}
use Rattle.journal_status.specs.StatusChecking.{all_checked}

-- the checker's verdict is exactly that
abbrev pub VerdictIsExact : Type 0
VerdictIsExact =
    (may_take : MayTake) (past : List Group)
    → IsTrue (all_checked may_take past).right ↔ StatusIsRight may_take past

-- a bearer comes to a channel that had none
abbrev pub ComesNew : Line → List Group → Type 0
ComesNew (lines.Bearer config options) past = bearer_on config.channel.lcid past ≡ None
ComesNew line past = Unit {0}

abbrev pub BearersAreNew : List Group → Type 0
BearersAreNew [] = Unit {0}
BearersAreNew (now ∷ past) = ComesNew now.line past × BearersAreNew past

-- behind the records of a group, each number that is acknowledged in the life that runs is complete
abbrev pub AckedAreComplete : Type 0
AckedAreComplete =
    (may_take : MayTake) (now : Group) (past : List Group) → BearersAreNew (now ∷ past)
    → StatusIsRight may_take (now ∷ past) → (side : Side) (lcid n : ℕ)
    → is_acked (running (flows_within may_take now past side lcid)) n ≡ true
    → is_complete_in (running (flows_within may_take now past side lcid)) n ≡ true
