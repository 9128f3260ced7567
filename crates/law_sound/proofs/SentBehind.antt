-- A group ends, on a channel with a bearer of acknowledged data, maybe under new keys: what is kept of both flows that
-- are sent stands beside the bearers of the link.
use Rattle.std.proofs.Common.{◌≡◌, ℕ, List, ◌∷◌, ◌++◌, ap, sym, subst, ◌∙◌}
use Rattle.air_link.specs.Link.{end_of}
use Rattle.air_text.specs.Groups.{Group}
use Rattle.bearer.specs.Acknowledged.State.{State}
use Rattle.bearer.specs.declared.flow.Flow.TheVariants.{Am}
use Rattle.bearer_types.specs.declared.config.BearerConfig.{BearerConfig}
use Rattle.l2_types.specs.declared.channel.Kind.TheVariants as bearers
use Rattle.l2_types.specs.declared.side.Side.{Side}
use Rattle.l2_types.specs.declared.side.Side.TheVariants.{Nb, Ue}
use Rattle.journal_given.specs.Giving.{all_given}
use Rattle.journal_given.specs.Supplies as given
use Rattle.journal_sent.specs.RightSent.{AllSent, Flow}
use Rattle.journal_sent.specs.SentFlows.{floored}
use Rattle.journal_sent.specs.SentPdus.{histories}
use Rattle.journal_sent.specs.Sending.{renewed_by, all_sending}
use Rattle.law_deliver.specs.AmChannel.Lives.{end_at}
use Rattle.law_deliver.specs.AmFlow.Air.{Air}
use Rattle.law_node.specs.Holding.{flow}
use Rattle.law_run.proofs.AnyAir.{at_end}
use Rattle.law_run.proofs.Past.{link_behind}
use Rattle.law_sent.specs.Channels.{StandsOn}
use Rattle.law_sent.proofs.Channels.{groups_end_alone}
use Rattle.law_sound.proofs.GivenBetween.{GoesBehind}
use Rattle.law_sound.proofs.GivenMoments.{bearer}
use Rattle.law_sound.proofs.SentBeside.{IsSentBy}
use Rattle.law_sound.proofs.SentBetween.{HaveSizes, StandsBeside, SentSaid, SendsBehind}
use Rattle.law_sound.proofs.SentCalls.{sent_settles}
use Rattle.law_sound.proofs.SentEnds.{settled_at}
use Rattle.law_sound.proofs.SentRecords.{sending_first}

-- ---- the bearers of a channel, behind groups

module _ (all : List Group) (c : BearerConfig) (l : ℕ) (past : List Group) (h : GoesBehind all c l past) where
  abbrev pub sender_at : Side → State
  sender_at side = bearer l c h.given.nb h.given.ue h.given.steps h.given.tied side

  pub sender_there : (side : Side) → flow l (end_at side h.read.air) ≡ Am (sender_at side)
  sender_there Nb = ap (λ (a : Air). flow l (end_at Nb a)) h.given.there ∙ h.given.tied.joined.one_is
  sender_there Ue = ap (λ (a : Air). flow l (end_at Ue a)) h.given.there ∙ h.given.tied.joined.two_is

  -- they are those of the link
  pub sender_behind : (side : Side) → flow l (end_of side (link_behind past)) ≡ Am (sender_at side)
  sender_behind side =
      ap (flow l) (sym (at_end side (link_behind past) h.read.air h.read.on)) ∙ sender_there side

-- ---- a group ends

module _ (newer : List Group) (c : BearerConfig) (l : ℕ) (now : Group) (past : List Group) (data' : c.kind ≡ bearers.Am)
    (h : GoesBehind (newer ++ now ∷ past) c l (now ∷ past)) where
  abbrev whole : List Group
  whole = newer ++ now ∷ past

  abbrev b : Side → State
  b side = sender_at whole c l (now ∷ past) h side

  abbrev within : AllSent
  within = sending_first now past now.events

  -- before it ends: under new keys, if there are any
  pub record EndsBeside (side : Side) : Type 0 where
    pub flow : Flow
    pub stands : StandsOn side l within flow
    pub by_bearer : IsSentBy c.pdcp_bits (b side) (renewed_by histories within.renewal flow)

  ended : (side : Side) → EndsBeside side
      → StandsBeside side l c.pdcp_bits (b side) (all_sending histories given.histories (now ∷ past))
  ended side x =
      let last = renewed_by histories within.renewal x.flow in
      record {
        flow = floored histories (b side).tx.window.base last;
        stands = subst (StandsOn side l (all_sending histories given.histories (now ∷ past)))
            (settled_at newer c l past now data' h.read h.given side last x.by_bearer.layout_is)
            (groups_end_alone side l (all_given given.histories (now ∷ past)) within x.flow x.stands);
        by_bearer = sent_settles c.pdcp_bits (b side) last x.by_bearer;
      }

  pub sends_behind : ((side : Side) → EndsBeside side) → HaveSizes h.given.bearer → SentSaid l (now ∷ past)
      → SendsBehind whole c l (now ∷ past) h
  sends_behind ends sizes said = record {
    sent = record { beside = record { nb = ended Nb (ends Nb); ue = ended Ue (ends Ue); sizes = sizes } };
    said = said;
  }
