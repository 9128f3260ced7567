-- A block has at most 28 visits, since each `harq` line that is read has.
use Rattle.std.proofs.Common.{◌≤◌, ℕ, List, [], ◌∷◌, arith}
use Rattle.air_record.specs.declared.line.Line.{Line}
use Rattle.air_record.specs.declared.line.Line.TheVariants as lines
use Rattle.air_text.specs.Groups.{Group}
use Rattle.air_text.specs.Ranges.{IsInRange}
use Rattle.law_run.specs.Order.{KeepsOrder}
use Rattle.promises.specs.FewVisits.{VisitsAreFew}
use Rattle.promises.specs.Heard.{visits_by, visits}

line_few : (line : Line) (before : ℕ) → IsInRange line → before ≤ 28 → visits_by line before ≤ 28
line_few (lines.Harq maximum) before fits few = fits.few
line_few line before fits few = few

all_few : (past : List Group) → KeepsOrder past → visits past ≤ 28
all_few [] order = omega arith
all_few (g ∷ past) (right, order) = line_few g.line (visits past) right.in_range (all_few past order)

pub visits_are_few : (past : List Group) → KeepsOrder past → VisitsAreFew past
visits_are_few [] order = tt
visits_are_few (g ∷ past) (right, order) = (all_few (g ∷ past) (right, order), visits_are_few past order)
