-- A group ends, on a channel with a bearer of acknowledged data: the fields of the numbers below VT(A) are forgotten of
-- both flows that are kept while the PDUs of a journal are checked, and they stay beside both ends.
use Rattle.std.proofs.Common.{◌≡◌, ℕ, false, if◌then◌else◌, List, [], ◌∷◌, ◌++◌, Option, Some, None}
use Rattle.std.proofs.Common.{refl, ap, sym, subst, ◌∙◌}
use Rattle.air_text.specs.Groups.{Group}
use Rattle.bearer.specs.Acknowledged.State.{State}
use Rattle.bearer.specs.declared.flow.Flow.TheVariants.{Am}
use Rattle.bearer_types.specs.declared.config.BearerConfig.{BearerConfig}
use Rattle.eps_sec.specs.declared.Keys.{Keys}
use Rattle.l2_types.specs.declared.channel.Kind.{Kind}
use Rattle.l2_types.specs.declared.channel.Kind.TheVariants as bearers
use Rattle.l2_types.specs.declared.side.Side.{Side}
use Rattle.l2_types.specs.declared.side.Side.TheVariants.{Nb, Ue}
use Rattle.pdcp_pdu.specs.declared.pdu.PdcpKind.TheVariants as pdcp
use Rattle.pdu_show.specs.declared.kinds.Layout.{Layout}
use Rattle.pdu_show.specs.declared.kinds.Layout.TheVariants as layouts
use Rattle.promises.specs.Parts.{is_handover}
use Rattle.journal_account.specs.FlowAccount.{FlowAccount, empty_account, account_with, account_of}
use Rattle.journal_account.specs.FlowEvents.{FlowEvent, SduTaken}
use Rattle.journal_flows.specs.Accounts.{is_acked_kind, account_at}
use Rattle.journal_flows.specs.FlowsTold.{flows_told}
use Rattle.journal_flows.specs.Laws.{account_by}
use Rattle.journal_given.specs.Giving.{all_given}
use Rattle.journal_given.specs.Supplies.{History}
use Rattle.journal_given.specs.Supplies as given
use Rattle.journal_lives.specs.FlowLives.{FlowLives, lives_of}
use Rattle.journal_lives.specs.LifeEvents.{LifeEvent, PduGiven, InLife, LifeEnded, running}
use Rattle.journal_sent.specs.RightSent.{Flow}
use Rattle.journal_sent.specs.SentFlows.{settled_by, flow_settled, floored}
use Rattle.journal_sent.specs.SentPdus.{histories}
use Rattle.journal_sent.specs.Sending.{renewed_by, all_sending}
use Rattle.law_deliver.specs.AmChannel.Lives.{end_at}
use Rattle.law_deliver.specs.AmFlow.Air.{Air}
use Rattle.law_deliver.proofs.AmFlow.Links.{same_bearer}
use Rattle.law_account.specs.History.{Follows}
use Rattle.law_given.specs.OneBearer.{OneChannel}
use Rattle.law_given.proofs.BearerRecordsFlows.{account_behind}
use Rattle.law_given.proofs.OneBearerGroups.{one_channel_by_groups}
use Rattle.law_node.specs.Holding.{flow}
use Rattle.law_sent.specs.Channels.{StandsOn}
use Rattle.law_sent.proofs.Channels.{groups_end_alone}
use Rattle.law_sound.proofs.Delivering.{bearer_is}
use Rattle.law_sound.proofs.GivenBetween.{may, IsGivenBehind, GoesBehind}
use Rattle.law_sound.proofs.GivenMoments.{bearer, history}
use Rattle.law_sound.proofs.GivenWays.{was_at}
use Rattle.law_sound.proofs.GroupCarrying.{IsReadBehind}
use Rattle.law_sound.proofs.SentBetween.{SendsBehind, StandsBeside, AreSentBeside}
use Rattle.law_sound.proofs.SentCalls.{sent_settles}
use Rattle.law_sound.proofs.SentKeys.{none_renewed}
use Rattle.law_sound.proofs.SentRecords.{sending_first}

-- what is gathered behind groups, and what is kept of the flows beside it
pub record GoesSending (all : List Group) (c : BearerConfig) (l : ℕ) (past : List Group) : Type 0 where
  pub goes : GoesBehind all c l past
  pub sends : SendsBehind all c l past goes

-- ---- the account of the life that runs is that of its history

most_stays : (most first : ℕ) (es : List LifeEvent) → (lives_of most first es).most ≡ most
most_stays most first [] = refl
most_stays most first (PduGiven count size ∷ es) = most_stays most first es
most_stays most first (InLife e ∷ es) = most_stays most first es
most_stays most first (LifeEnded ∷ es) = most_stays most first es

pub life_account : (most first : ℕ) (es : List LifeEvent)
    → (lives_of most first es).account ≡ account_of most (running es)
life_account most first [] = refl
life_account most first (PduGiven count size ∷ es) = ap (account_with (SduTaken size)) (life_account most first es)
life_account most first (InLife e ∷ es) = ap (account_with e) (life_account most first es)
life_account most first (LifeEnded ∷ es) = ap empty_account (most_stays most first es)

-- ---- behind the groups of a journal

module _ (newer : List Group) (c : BearerConfig) (l : ℕ) (past : List Group) (g : Group) (am : c.kind ≡ bearers.Am)
    (h : IsReadBehind (may (newer ++ g ∷ past)) c l (g ∷ past))
    (v : IsGivenBehind (newer ++ g ∷ past) c l (g ∷ past) h) where
  abbrev own : Side → State
  own side = bearer l c v.nb v.ue v.steps v.tied side

  abbrev told : Side → List LifeEvent
  told side = flows_told (may (newer ++ g ∷ past)) (g ∷ past) side l

  abbrev account : Side → Option FlowLives
  account side = account_at side l (all_given given.histories (g ∷ past)).kept.journal.flows

  account_there : (side : Side) → account side ≡ Some (lives_of c.tx.max_retx c.first (told side))
  account_there side =
      ap (λ (x : OneChannel History). account_at side l x.kept.journal.flows)
      ((one_channel_by_groups History given.histories l newer g past h.low).behind)
      ∙ account_behind l h.low (may (newer ++ g ∷ past)) (g ∷ past) side
      ∙ ap (λ (b : Option BearerConfig). account_by b (told side)) (bearer_is l (g ∷ past) ∙ h.is)
      ∙ ap (λ (k : Kind). if is_acked_kind k then Some (lives_of c.tx.max_retx c.first (told side)) else None) am

  told_runs : (side : Side) → running (told side) ≡ history side h.moment
  told_runs Nb = ap (λ (es : List LifeEvent). running es) (v.agree.same Nb) ∙ h.read.gathered.down_is
  told_runs Ue = ap (λ (es : List LifeEvent). running es) (v.agree.same Ue) ∙ h.read.gathered.up_is

  -- VT(A) is that of the account
  follows_so : (side : Side) (most : ℕ) (es : List FlowEvent) (b : State) → flow l (end_at side h.air) ≡ Am b
      → most ≡ c.tx.max_retx → Follows most es b.tx
      → (account_of c.tx.max_retx es).sending.base ≡ (own side).tx.window.base
  follows_so side most es b is same follows =
      ap (λ (n : ℕ). (account_of n es).sending.base) (sym same) ∙ sym follows.window.base
      ∙ ap (λ (x : State). x.tx.window.base) (same_bearer (flow l (end_at side h.air)) b (own side) is
      (ap (λ (a : Air). flow l (end_at side a)) v.there ∙ was_at l c v.nb v.ue v.steps v.tied side))

  base_is : (side : Side)
      → (account_of c.tx.max_retx (history side h.moment)).sending.base ≡ (own side).tx.window.base
  base_is Nb =
      let f = h.read.lived.air.by_air.flows.down in
      follows_so Nb _ _ f.from_bearer f.from_is h.limits.nb_is h.read.lived.beside.by_nb.follows
  base_is Ue =
      let f = h.read.lived.air.by_air.flows.up in
      follows_so Ue _ _ f.from_bearer f.from_is h.limits.ue_is h.read.lived.beside.by_ue.follows

  pub settled_at : (side : Side) (f : Flow) → f.layout ≡ layouts.Am (pdcp.Am c.pdcp_bits)
      → flow_settled histories (account side) f ≡ floored histories (own side).tx.window.base f
  settled_at side f layout =
      ap (λ (x : Layout). settled_by histories x (account side) f) layout
      ∙ ap (λ (o : Option FlowLives). settled_by histories (layouts.Am (pdcp.Am c.pdcp_bits)) o f)
      (account_there side)
      ∙ ap (λ (n : ℕ). floored histories n f)
      (ap (λ (a : FlowAccount). a.sending.base) (life_account c.tx.max_retx c.first (told side))
      ∙ ap (λ (es : List FlowEvent). (account_of c.tx.max_retx es).sending.base) (told_runs side)
      ∙ base_is side)

  -- ---- a group that is no handover ends

  module _ (here : is_handover g.line ≡ false) where
    side_ends : (side : Side) → StandsBeside side l c.pdcp_bits (own side) (sending_first g past g.events)
        → StandsBeside side l c.pdcp_bits (own side) (all_sending histories given.histories (g ∷ past))
    side_ends side x =
        let s = sending_first g past g.events in
        record {
          flow = floored histories (own side).tx.window.base x.flow;
          stands = subst (StandsOn side l (all_sending histories given.histories (g ∷ past)))
              (ap (λ (keys : Option Keys). flow_settled histories (account side) (renewed_by histories keys x.flow))
              (none_renewed g past g.events here)
              ∙ settled_at side x.flow x.by_bearer.layout_is)
              (groups_end_alone side l (all_given given.histories (g ∷ past)) s x.flow x.stands);
          by_bearer = sent_settles c.pdcp_bits (own side) x.flow x.by_bearer;
        }

    pub group_ends : AreSentBeside l c v.tied.joined.one v.tied.joined.two (sending_first g past g.events) v.bearer
        → AreSentBeside l c v.tied.joined.one v.tied.joined.two (all_sending histories given.histories (g ∷ past))
        v.bearer
    group_ends x = record { nb = side_ends Nb x.nb; ue = side_ends Ue x.ue; sizes = x.sizes }
