-- The lines from a step on.
use Rattle.std.proofs.Common.{◌≡◌, ◌<◌, ◌+◌, ◌-◌, ◌∙◌, ℕ, suc, List, [], ◌∷◌, ◌++◌, refl, arith, append_assoc}
use Rattle.air_record.specs.declared.line.Line.{Line}
use Rattle.script_generator.specs.Draws.{next, drawn}
use Rattle.script_generator.specs.Script.{at_tti, after_step}
use Rattle.script_generator.specs.Lines.{handover_lines, sdu_lines, tti_line, steps_lines, ending_lines}
use Rattle.script_generator.specs.Fields.{from_step, from_sdu}

-- behind the last step the end comes
pub from-end : (i x : ℕ) → i ≡ 2000 → from_step i x ≡ ending_lines
unfolding steps_lines
from-end i x is = rw is refl

-- three parts of a step, and what is behind it
parted : (a b : List Line) (t : Line) (r e : List Line) → ((a ++ b ++ t ∷ []) ++ r) ++ e ≡ a ++ (b ++ t ∷ (r ++ e))
parted a b t r e =
    append_assoc (a ++ b ++ t ∷ []) r e ∙ append_assoc (a ++ b) (t ∷ []) (r ++ e) ∙ append_assoc a b (t ∷ (r ++ e))

pub from-more : (i x : ℕ) → i < 2000 → from_step i x ≡ handover_lines i ++ from_sdu i x
unfolding steps_lines after_step
from-more i x inside =
    let some : 2000 - i ≡ suc (1999 - i) = omega (arith, inside) in
    let fewer : 2000 - (i + 1) ≡ 1999 - i = omega (arith, inside) in
    rw (some, fewer) (parted (handover_lines i) (sdu_lines (drawn 8 (next x)) i (next x)) (tti_line (at_tti x))
    (steps_lines (1999 - i) (i + 1) (after_step x)) ending_lines)
