-- Which COUNTs have come of acknowledged data, told twice: by the octets of PDUs, as what is
-- promised of a journal tells it, and by the history of each flow, as its checker gathers it.
use Rattle.std.specs.Prelude.{ℕ, ◌≡◌, ◌≤◌, List, Some}
use Rattle.l2_types.specs.declared.channel.Kind.TheVariants.{Am}
use Rattle.l2_types.specs.declared.side.Side.{Side}
use Rattle.bearer_types.specs.declared.config.BearerConfig.{BearerConfig}
use Rattle.air_text.specs.Groups.{Group}
use Rattle.law_words.specs.Arrivals.{has_come}
use Rattle.promises.specs.Arrival.{account_of}
use Rattle.promises.specs.Configs.{config_of}
use Rattle.promises.specs.RightAir.{AirIsRight}
use Rattle.promises.specs.RightForm.{FormIsRight}
use Rattle.promises.specs.Telling.{LinesTell}
use Rattle.journal_lives.specs.LifeEvents.{count_came}
use Rattle.journal_flows.specs.Gathering.{MayTake}
use Rattle.journal_flows.specs.FlowsTold.{flows_told}
use Rattle.promises.specs.Bearers.{BearersBeginFirst, CountsAreTold}
use Rattle.promises.specs.OwnPdus.{PdusAreOwn}
use Rattle.promises.specs.SentNumbers.{NumbersAreSent}
use Rattle.promises.specs.FewVisits.{VisitsAreFew}

-- a journal tells of its flows as a run does: new blocks have right form, the air is right, records
-- stand in their order, bearers stand first, SDUs are taken with their COUNTs, numbers are sent in
-- turn, PDUs carry octets of their own numbers, and blocks have few visits
pub record TellsFlows (past : List Group) : Type 0 where
  pub form : FormIsRight past
  pub air : AirIsRight past
  pub order : LinesTell past
  pub bearers : BearersBeginFirst past
  pub counts : CountsAreTold past
  pub numbers : NumbersAreSent past
  pub own : PdusAreOwn past
  pub few : VisitsAreFew past

-- then both tell the same
abbrev pub SameCountsCome : Type 0
SameCountsCome =
    (may_take : MayTake) (past : List Group) → TellsFlows past
    → (from : Side) (lcid : ℕ) (config : BearerConfig) → lcid ≤ 10
    → config_of lcid past ≡ Some config → config.kind ≡ Am → (count : ℕ)
    → has_come (account_of config lcid from past) count
    ≡ count_came (flows_told may_take past from lcid) count
