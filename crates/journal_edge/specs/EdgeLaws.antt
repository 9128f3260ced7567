-- What the checker's verdict says of a journal (TS 36.322 5.1.2.2, TS 36.323 5.1.2.1.3).
use Rattle.std.specs.Prelude.{List, IsTrue, ◌↔◌}
use Rattle.air_text.specs.Groups.{Group}
use Rattle.journal_flows.specs.Gathering.{MayTake}
use Rattle.journal_edge.specs.RightEdge.{EdgeIsRight}
use Rattle.journal_edge.specs.EdgeChecking.{all_beside}

-- the checker's verdict is exactly that
abbrev pub VerdictIsExact : Type 0
VerdictIsExact =
    (may_take : MayTake) (past : List Group)
    → IsTrue (all_beside may_take past).checked.right ↔ EdgeIsRight may_take past
