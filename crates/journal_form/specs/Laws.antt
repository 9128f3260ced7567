-- What the checker's verdict says of a journal (docs/formats/JOURNAL.md).
use Rattle.std.specs.Prelude.{List, IsTrue, ◌↔◌}
use Rattle.air_text.specs.Groups.{Group}
use Rattle.promises.specs.RightForm.{FormIsRight}
use Rattle.journal_form.specs.Checking.{all_checked, is_right}

-- the checker's verdict is exactly that
abbrev pub VerdictIsExact : Type 0
VerdictIsExact = (past : List Group) → IsTrue (is_right (all_checked past)) ↔ FormIsRight past
