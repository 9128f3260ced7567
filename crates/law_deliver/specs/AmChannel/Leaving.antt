-- Which SDUs a channel of acknowledged data takes, and which it discards, as an end tells (TS
-- 36.323 5.1.1, 5.4).
use Rattle.std.specs.Prelude.{◌≡◌, ◌≤◌, ℕ, List, length}
use Rattle.std.specs.List.{AllByRecursion}
use Rattle.bearer_types.specs.declared.config.BearerConfig.{BearerConfig}
use Rattle.bearer_types.specs.declared.event.Event.{Event}
use Rattle.eps_sec.specs.declared.Keys.{Keys}
use Rattle.l2_node.specs.End.{End}
use Rattle.l2_types.specs.declared.side.Side.{Side}
use Rattle.law_node.specs.Telling.{told_over}
use Rattle.law_deliver.specs.AmFlow.Air.{outset}
use Rattle.law_deliver.specs.AmChannel.Delivery.{AmEndsBeginAlike, taken_at, submitted_at}
use Rattle.law_deliver.specs.AmChannel.Lives.{AirStep, AreLiving, end_at, all_calls}
use Rattle.promises.specs.Taken.{leaves, taken_of, takes_on, NamesSdu}

-- ---- the law

-- those that a bearer takes, and none leaves its queue that wasn't submitted; what is told of each
-- names it
pub record AreTold (l first : ℕ) (events : List Event) (submitted taken : List (List ℕ)) : Type 0
  where
    pub taken_are : taken ≡ taken_of l first events submitted
    pub were_submitted : length (leaves l first events) ≤ length submitted
    pub are_named : AllByRecursion (NamesSdu first taken) (takes_on l events)

abbrev pub ChannelsTellWhatIsTaken : Type 0
ChannelsTellWhatIsTaken =
    (l : ℕ) (c : BearerConfig) (keys : Keys) (nb ue : End) (from : Side) (steps : List AirStep)
    → AmEndsBeginAlike l c keys nb ue → AreLiving l (outset nb ue) steps
    → AreTold l c.first
    (told_over (all_calls from steps (outset nb ue)) (end_at from (outset nb ue)))
    (submitted_at l from steps (outset nb ue)) (taken_at l from steps (outset nb ue))
