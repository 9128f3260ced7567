-- The laws, from the steps of a life and its end.
use Rattle.bearer.specs.Acknowledged.State.{State}
use Rattle.bearer_types.specs.declared.BearerConfig.{BearerConfig}
use Rattle.eps_sec.specs.declared.Keys.{Keys}
use Rattle.law_words.specs.Arrivals.{no_account}
use Rattle.promises.specs.HalfWindow.{AreInHalf}
use Rattle.std.specs.Prelude.{List}
use Rattle.law_deliver.specs.AmFlow.Pair.{DataComes, StatusComes, am_pair_outset}
use Rattle.law_deliver.specs.AmDelivery.Arrival.{DeliversWhatCame, down_in, up_in}
use Rattle.law_deliver.specs.AmDelivery.Delivery.{BearersArePdcpFlows, DeliversInOrder, AreBothEnds}
use Rattle.law_deliver.specs.AmDelivery.Drained.{DrainedHasDelivered}
use Rattle.law_deliver.specs.AmDelivery.Ends.{DeliversSubmitted}
use Rattle.law_deliver.specs.AmDelivery.Lives.{LifeStep, AreLiving, over}
use Rattle.law_deliver.proofs.AmDelivery.Coming.{comes_go_on}
use Rattle.law_deliver.proofs.AmDelivery.Delivering.{are_pdcp_flows, delivers_in_order, delivers_what_came}
use Rattle.law_deliver.proofs.AmDelivery.Drained.{drained_delivers}
use Rattle.law_deliver.proofs.AmDelivery.HalfWindow.{takes_stay_in_half}
use Rattle.law_deliver.proofs.AmDelivery.Promises.{StepsGoOn}
use Rattle.law_deliver.proofs.AmDelivery.Stepping.{steps_go_on}
use Rattle.law_deliver.proofs.AmDelivery.Submitted.{delivers_submitted}

all_steps : StepsGoOn
all_steps = steps_go_on (λ k bits out inn e o h. comes_go_on bits out inn e o (DataComes k) tt h)
    (λ k bits out inn e o h. comes_go_on bits out inn e o (StatusComes k) tt h)

pub bearers_are_pdcp_flows : BearersArePdcpFlows
bearers_are_pdcp_flows = are_pdcp_flows all_steps

pub delivers_what_was_taken : DeliversInOrder
delivers_what_was_taken = delivers_in_order all_steps

pub delivers_what_was_submitted : DeliversSubmitted
delivers_what_was_submitted = delivers_submitted all_steps

pub drained_has_delivered : DrainedHasDelivered
drained_has_delivered = drained_delivers all_steps

pub what_came_is_delivered : DeliversWhatCame
what_came_is_delivered = delivers_what_came all_steps

pub bearers_take_in_half : (c : BearerConfig) (keys : Keys) (nb ue : State) (xs : List LifeStep)
    → AreBothEnds c keys nb ue → AreLiving (am_pair_outset nb ue) xs
    → AreInHalf c.pdcp_bits c.first no_account (over down_in xs (am_pair_outset nb ue))
    × AreInHalf c.pdcp_bits c.first no_account (over up_in xs (am_pair_outset nb ue))
bearers_take_in_half = takes_stay_in_half all_steps
