-- Behind the groups of a journal, on a channel with a bearer of acknowledged data: what is gathered of what PDCP gives
-- RLC stands beside both ends, as its reading does.
use Rattle.std.proofs.Common.{◌≡◌, ℕ, List, [], ◌∷◌, ◌++◌, Some}
use Rattle.air_record.specs.declared.record.Record.{Record}
use Rattle.air_text.specs.Groups.{Group}
use Rattle.bearer_types.specs.declared.config.BearerConfig.{BearerConfig}
use Rattle.eps_sec.specs.declared.Keys.{Keys}
use Rattle.l2_node.specs.End.{End}
use Rattle.l2_types.specs.declared.side.Side.{Side}
use Rattle.promises.specs.Arrival.{account_of}
use Rattle.journal_flows.specs.FlowsTold.{histories as flows, no_events}
use Rattle.journal_flows.specs.Gathering.{MayTake, behind}
use Rattle.journal_given.specs.Giving.{bearer_at, all_given, may_take_by}
use Rattle.journal_given.specs.Supplies.{Bearer, History, histories}
use Rattle.law_deliver.specs.AmChannel.Arrival.{told_from}
use Rattle.law_deliver.specs.AmChannel.Delivery.{AmEndsBeginAlike}
use Rattle.law_deliver.specs.AmChannel.Lives.{AirStep, AreLiving, lives}
use Rattle.law_deliver.specs.AmFlow.Air.{outset}
use Rattle.law_given.specs.BearerRecords.{IsRightOn, bearer_before}
use Rattle.law_given.specs.Beside.{AreGivenBy}
use Rattle.law_given.proofs.Tied.{AreTied}
use Rattle.law_sound.specs.AgreeLaws.{AgreeOn}
use Rattle.law_sound.proofs.GatheredFails.{FailsSaid}
use Rattle.law_sound.proofs.GroupCarrying.{IsReadBehind}

-- of a whole journal
module _ (all : List Group) where
  abbrev pub may : MayTake
  may = may_take_by histories all

  pub record IsGivenBehind (c : BearerConfig) (l : ℕ) (past : List Group) (h : IsReadBehind may c l past) : Type 0 where
    pub keys : Keys
    pub nb : End
    pub ue : End
    pub begins : AmEndsBeginAlike l c keys nb ue
    pub steps : List AirStep
    pub living : AreLiving l (outset nb ue) steps
    pub there : h.air ≡ lives steps (outset nb ue)
    pub tied : AreTied l c nb ue steps
    pub account_is : (from : Side) → told_from c l from steps (outset nb ue) ≡ account_of c l from past
    pub bearer : Bearer History
    pub is : bearer_at l (all_given histories past).bearers ≡ Some bearer
    pub given : AreGivenBy c tied.joined.there tied.joined.back tied.joined.one tied.joined.two h.moment.down
        h.moment.up
        bearer.nb bearer.ue
    pub agree : AgreeOn l (behind flows no_events may past) h.journal

  -- each record of the newest group is right
  abbrev pub GroupSaid : ℕ → List Group → Type 0
  GroupSaid l [] = Unit {0}
  GroupSaid l (now ∷ past) = (told : List Record) (one : Record) (rest : List Record) → now.events ≡ told ++ one ∷ rest
      → IsRightOn l one (bearer_before l now past told one)

  pub record GoesBehind (c : BearerConfig) (l : ℕ) (past : List Group) : Type 0 where
    pub read : IsReadBehind may c l past
    pub given : IsGivenBehind c l past read
    pub said : GroupSaid l past
    pub fails : FailsSaid may c l past
