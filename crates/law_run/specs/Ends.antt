-- Both ends, as the journal tells of them (TS 36.321 4.2): whatever holds of an end over any calls
-- holds of what is told of it here.
use Rattle.std.specs.Prelude.{false, List}
use Rattle.air_text.specs.Groups.{Group, history}
use Rattle.l2_node.specs.End.{fresh}
use Rattle.l2_types.specs.declared.side.Side.TheVariants.{Nb, Ue}
use Rattle.law_run.specs.AnyCalls.Ends.{ByCalls}
use Rattle.law_run.specs.Order.{state_behind}

-- each end has come by calls of its own from its beginning on, before the first line, to where it
-- stands behind the groups; the events that the journal tells of it, in their order, are exactly
-- what it tells in these calls, and none but these
pub record ComeByCalls (past : List Group) : Type 0 where
  pub nb : ByCalls Nb (history past) (fresh Nb 4 false) (state_behind past).link.nb
  pub ue : ByCalls Ue (history past) (fresh Ue 4 false) (state_behind past).link.ue
