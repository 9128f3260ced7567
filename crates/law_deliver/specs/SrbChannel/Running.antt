-- The running life of a channel's bearers in steps of two ends of a link: where it began, and the
-- steps since (TS 36.322 5.4, TS 36.323 5.2).
use Rattle.std.specs.Prelude.{List, [], ◌∷◌, ◌++◌}
use Rattle.law_deliver.specs.AmChannel.Lives.{AirStep, InLife, Moves, lives}
use Rattle.law_deliver.specs.AmFlow.Air.{Air, outset}
use Rattle.l2_node.specs.End.{End}
use Rattle.law_node.specs.Calls.{Move, after}

-- both ends as it began, with nothing under way
pub record Life : Type 0 where
  pub nb : End
  pub ue : End
  pub steps : List AirStep

abbrev pub start : Life → Air
start life = outset life.nb life.ue

-- where it has come to
abbrev pub now : Life → Air
now life = lives life.steps (start life)

abbrev pub goes_on : Life → AirStep → Life
goes_on life (InLife s) = record life { steps = life.steps ++ InLife s ∷ [] }
goes_on life (Moves keys) =
    record {
      nb = after (now life).nb.end (Move keys);
      ue = after (now life).ue.end (Move keys);
      steps = [];
    }

abbrev pub running : List AirStep → Life → Life
running [] life = life
running (x ∷ xs) life = running xs (goes_on life x)

abbrev pub first_life : End → End → Life
first_life nb ue = record { nb = nb; ue = ue; steps = [] }
