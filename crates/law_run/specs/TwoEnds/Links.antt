-- A link from its beginning on (TS 36.321 5.3, 5.4): calls that send nothing, an acknowledged
-- bearer at both ends, and any steps since.
use Rattle.std.specs.Prelude.{◌≡◌, ℕ, List, [], ◌∷◌, ◌++◌, map}
use Rattle.air_link.specs.Link.{Link}
use Rattle.bearer.specs.declared.flow.Flow.TheVariants.{Am}
use Rattle.bearer.specs.Acknowledged.State.{State}
use Rattle.bearer_types.specs.Configs.{IsConfig}
use Rattle.bearer_types.specs.declared.config.BearerConfig.{BearerConfig}
use Rattle.eps_sec.specs.declared.Keys.{Keys}
use Rattle.law_node.specs.Holding.{flow}
use Rattle.law_run.specs.AnyCalls.Calls.{Call, Bears}
use Rattle.law_run.specs.AnyCalls.Ends.{IsGiven}
use Rattle.law_run.specs.AnyCalls.Runs.{Step, Calls, run_of}
use Rattle.law_deliver.specs.AmFlow.Links.{IsFlowOn, AreOrdered}
use Rattle.law_run.specs.TwoEnds.Lived.{IsAcknowledged, AreStepsSince}
use Rattle.law_run.specs.TwoEnds.Lives.{IsFew}

abbrev pub AreCallsBefore : List Call → Type 0
AreCallsBefore [] = Unit {0}
AreCallsBefore (c ∷ cs) = (IsGiven c × IsFew c) × AreCallsBefore cs

abbrev pub link_since : List Call → BearerConfig → Keys → List Step → Link
link_since before config keys ss =
    (run_of (map Calls before ++ (Calls (Bears config keys) ∷ ss))).link

abbrev pub IsRun : List Call → BearerConfig → List Step → Type 0
IsRun before config ss = AreCallsBefore before × IsConfig config × IsAcknowledged config.kind
    × AreStepsSince config.channel.lcid ss

-- so in each direction the acknowledged bearers of a channel are a flow, from the configurations
-- with which the running life began
pub record AreFlows (l : ℕ) (k : Link) : Type 0 where
  pub nb_bearer : State
  pub ue_bearer : State
  pub down : IsFlowOn l nb_bearer.tx_config ue_bearer.rx_config k.nb k.ue
  pub up : IsFlowOn l ue_bearer.tx_config nb_bearer.rx_config k.ue k.nb

abbrev pub LinksAreFlows : Type 0
LinksAreFlows = (before : List Call) (config : BearerConfig) (keys : Keys) (ss : List Step)
    → IsRun before config ss → AreFlows config.channel.lcid (link_since before config keys ss)

-- and their numbers are in order
abbrev pub LinksAreOrdered : Type 0
LinksAreOrdered = (before : List Call) (config : BearerConfig) (keys : Keys) (ss : List Step)
    → IsRun before config ss
    → (nb ue : State) → flow config.channel.lcid (link_since before config keys ss).nb ≡ Am nb
    → flow config.channel.lcid (link_since before config keys ss).ue ≡ Am ue
    → AreOrdered nb.tx ue.rx × AreOrdered ue.tx nb.rx
