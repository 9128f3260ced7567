use Rattle.std.proofs.Common.{arith, refl}
use Rattle.std.proofs.lemmas.Grind.{common_steps}
use Rattle.journal_text.proofs.Octets.{four_octets}
use Rattle.journal_text.proofs.pdus.long.Goals as goal

pub returns-clause-text : goal.returns-clause-text
returns-clause-text c = (
  (
    four_octets _ _ _ _ c.in_ok-first.ensures.text.1 c.in_ok-second.ensures.text.1 c.in_ok-third.ensures.text.1
        c.in_ok-fourth.ensures.text.1,
    refl,
  ),
  grind (arith, common_steps),
)
