-- What the checker's verdict says of a journal (TS 36.322 5.2.1).
use Rattle.std.specs.Prelude.{List, IsTrue, ◌↔◌}
use Rattle.air_text.specs.Groups.{Group}
use Rattle.journal_flows.specs.Gathering.{MayTake}
use Rattle.journal_failure.specs.RightFailure.{FailureIsRight}
use Rattle.journal_failure.specs.Checking.{all_checked}

-- the checker's verdict is exactly that
abbrev pub VerdictIsExact : Type 0
VerdictIsExact =
    (may_take : MayTake) (past : List Group)
    → IsTrue (all_checked may_take past).right ↔ FailureIsRight may_take past
