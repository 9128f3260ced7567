-- A block has at most 28 visits of its process: those of the latest `harq` line, or 4
-- (docs/formats/SCRIPT.md; TS 36.321 5.4.2).
use Rattle.std.specs.Prelude.{◌≤◌, List, [], ◌∷◌}
use Rattle.air_text.specs.Groups.{Group}
use Rattle.promises.specs.Heard.{visits}

-- behind each group, of which the newest stands first
abbrev pub VisitsAreFew : List Group → Type 0
VisitsAreFew [] = Unit {0}
VisitsAreFew (g ∷ past) = (visits (g ∷ past) ≤ 28) × VisitsAreFew past
