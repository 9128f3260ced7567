-- What is known of acknowledgements in each group of a journal, on a channel whose bearers aren't of acknowledged data:
-- by it the PDUs that are sent again are judged there, and fields are forgotten.
use Rattle.std.proofs.Common.{◌≡◌, ◌≤◌, ℕ, Bool, false, List, [], ◌∷◌, ◌++◌, Option, Some, None}
use Rattle.std.proofs.Common.{refl, ap, sym, subst, ◌∙◌}
use Rattle.air_link.specs.Link.{end_of}
use Rattle.air_record.specs.declared.record.Record.{Record}
use Rattle.air_record.specs.Submissions.{submitted_by}
use Rattle.air_text.specs.Groups.{Group}
use Rattle.bearer.specs.Bearer.{flow_of}
use Rattle.bearer.specs.declared.flow.Flow.{Flow}
use Rattle.bearer.specs.declared.flow.Flow.TheVariants.{Tm, Um, Am}
use Rattle.bearer_types.specs.declared.config.BearerConfig.{BearerConfig}
use Rattle.eps_sec.specs.declared.Keys.{Keys}
use Rattle.l2_node.specs.End.{End}
use Rattle.l2_types.specs.declared.channel.Kind.{Kind}
use Rattle.l2_types.specs.declared.channel.Kind.TheVariants as bearers
use Rattle.l2_types.specs.declared.side.Side.{Side}
use Rattle.promises.specs.Configs.{config_of}
use Rattle.prioritise.proofs.ChannelLemmas.{both_false}
use Rattle.promises.specs.Delivery.{forges, is_forged}
use Rattle.promises.specs.Parts.{is_handover}
use Rattle.journal_flows.specs.Accounts.{account_at}
use Rattle.journal_given.specs.Giving.{all_given}
use Rattle.journal_given.specs.Supplies as given
use Rattle.journal_lives.specs.FlowLives.{FlowLives}
use Rattle.journal_sent.specs.Sending.{acked_at}
use Rattle.law_deliver.specs.AmChannel.Lives.{InLife, end_at}
use Rattle.law_deliver.specs.AmFlow.Air.{Air, IsGiven, Step, happens}
use Rattle.law_node.specs.Holding.{flow}
use Rattle.law_node.specs.Names.{mode}
use Rattle.law_run.specs.Order.{KeepsOrder}
use Rattle.law_run.specs.TwoEnds.Logs.{Flight, no_flight}
use Rattle.law_run.specs.TwoEnds.On.{IsOn}
use Rattle.law_run.proofs.AnyAir.{at_end}
use Rattle.law_run.proofs.BearerWalk.{adds_one}
use Rattle.law_run.proofs.Past.{link_behind}
use Rattle.law_sound.specs.LivedFails.{HaveComeNew}
use Rattle.law_sound.proofs.GivenStepFacts.{step_there}
use Rattle.law_sound.proofs.LivedFails.{AreThere}
use Rattle.law_sound.proofs.MovingFails.{lives_come_new}
use Rattle.law_sound.proofs.QueueAirs.{air_behind, bearers_behind, lives_mode}
use Rattle.law_sound.proofs.QueueAt.{IsBase}
use Rattle.law_sound.proofs.QueueBeside.{IsAckedBy, IsBaseLow}
use Rattle.law_sound.proofs.SentRecords.{giving_before}
use Rattle.law_sound.proofs.UnackedBearers.{is_acked_mode}

-- ---- what is known of acknowledgements, in each group

-- before the records of a group, on an air of the link there
pub record StartsOn (l : ℕ) (low : l ≤ 10) (now : Group) (past : List Group) (none : submitted_by now.line ≡ None)
    (Base : Flight → List Record → List Record → Air → Type 0) : Type 0 where
  pub base : IsBase l low [] now past none Base
  pub sent : Flight
  pub air : Air
  pub on : IsOn (link_behind past) air
  pub new : HaveComeNew l air
  pub there : AreThere l air
  pub stands : Base sent [] now.events air

-- VT(A) that is told behind a group is no greater than the bearer's
abbrev pub AreBasesLow : ℕ → Group → List Group → Type 0
AreBasesLow l now past = (side : Side)
    → IsBaseLow (flow l (end_of side (link_behind (now ∷ past))))
    (account_at side l (all_given given.histories (now ∷ past)).kept.journal.flows)

-- where its line is no handover, submits no SDU, and isn't that of the channel's own bearers
pub record HasBase (l : ℕ) (c : BearerConfig) (now : Group) (past : List Group) : Type 1 where
  pub Base : Flight → List Record → List Record → Air → Type 0
  pub starts : (low : l ≤ 10) (none : submitted_by now.line ≡ None) → adds_one l now.line ≡ false
      → is_handover now.line ≡ false → config_of l past ≡ Some c → StartsOn l low now past none Base
  pub ends : config_of l (now ∷ past) ≡ Some c → AreBasesLow l now past

pub record HasBases (l : ℕ) (c : BearerConfig) (all : List Group) : Type 1 where
  pub each : (newer : List Group) (now : Group) (past : List Group) → all ≡ newer ++ now ∷ past → HasBase l c now past

-- an unacknowledged or a transparent bearer is of none
abbrev pub HasNoBase : Kind → Type 0
HasNoBase bearers.Tm = Unit {0}
HasNoBase bearers.Um = Unit {0}
HasNoBase kind = ⊥

-- neither can be one of acknowledged RLC
first_unacked : (kind : Kind) (c : BearerConfig) (keys : Keys) (side : Side) → HasNoBase kind
    → is_acked_mode (mode (flow_of kind c keys side)) ≡ false
first_unacked bearers.Tm c keys side none = refl
first_unacked bearers.Srb c keys side none = absurd none
first_unacked bearers.Um c keys side none = refl
first_unacked bearers.Am c keys side none = absurd none

unacked_low : (x : Flow) (account : Option FlowLives) → is_acked_mode (mode x) ≡ false → IsBaseLow x account
unacked_low (Tm b) account h = tt
unacked_low (Um b) account h = tt
unacked_low (Am b) account h = absurd cc

unacked_knows : (x : Flow) (acked : ℕ → Bool) → is_acked_mode (mode x) ≡ false → IsAckedBy x acked
unacked_knows (Tm b) acked h = tt
unacked_knows (Um b) acked h = tt
unacked_knows (Am b) acked h = absurd cc

-- the bearers of a channel at both ends
abbrev AreUnacked : ℕ → Air → Type 0
AreUnacked l a = (side : Side) → is_acked_mode (mode (flow l (end_at side a))) ≡ false

module _ (l : ℕ) (past : List Group) (c : BearerConfig) (none : HasNoBase c.kind) where
  bearers_unacked : KeepsOrder past → is_forged past ≡ false → config_of l past ≡ Some c → (side : Side)
      → is_acked_mode (mode (flow l (end_of side (link_behind past)))) ≡ false
  bearers_unacked order own config =
      bearers_behind (λ (x : Flow). is_acked_mode (mode x) ≡ false)
      (λ x y same h. ap is_acked_mode same ∙ h) HasNoBase
      (λ (d : BearerConfig) keys side kind. first_unacked d.kind d keys side kind) l past c order own config none

-- so what is known of acknowledgements is nothing, through a life
record UnackedAt (l : ℕ) (a : Air) : Type 0 where
  new : HaveComeNew l a
  there : AreThere l a
  unacked : AreUnacked l a

unacked_step : (l : ℕ) (a : Air) (s : Step) → IsGiven l a s → UnackedAt l a → UnackedAt l (happens a s)
unacked_step l a s given h = record {
  new = lives_come_new l (InLife s ∷ []) a h.new (given, tt);
  there = step_there l a s given h.new h.there;
  unacked = λ side. ap is_acked_mode (lives_mode l side (InLife s ∷ []) a h.new (given, tt) h.there) ∙ h.unacked side;
}

abbrev NoBase : ℕ → Flight → List Record → List Record → Air → Type 0
NoBase l sent told others a = UnackedAt l a

is_base : (l : ℕ) (low : l ≤ 10) (now : Group) (past : List Group) (none : submitted_by now.line ≡ None)
    → IsBase l low [] now past none (NoBase l)
is_base l low now past none = record {
  knows = λ sent told others a h side before one brings sends.
      unacked_knows (flow l (end_at side a)) (acked_at side l (giving_before now past (told ++ before) one))
      (h.unacked side);
  one_step = λ sent told xs others a s are tells h. unacked_step l a s tells.given h;
  silent = λ sent told xs others a are logs h. h;
}

pub order_behind : (newer past : List Group) → KeepsOrder (newer ++ past) → KeepsOrder past
order_behind [] past h = h
order_behind (g ∷ newer) past h = order_behind newer past h.1

pub forged_behind : (newer past : List Group) → is_forged (newer ++ past) ≡ false → is_forged past ≡ false
forged_behind [] past h = h
forged_behind (g ∷ newer) past h =
    forged_behind newer past (both_false (forges g.line) (is_forged (newer ++ past)) h).1

pub has_no_bases : (l : ℕ) (all : List Group) (c : BearerConfig) → KeepsOrder all → is_forged all ≡ false
    → HasNoBase c.kind → HasBases l c all
has_no_bases l all c order own kind = record {
  each = λ newer now past are.
      let orders = order_behind newer (now ∷ past) (subst KeepsOrder are order) in
      let owns = forged_behind newer (now ∷ past) (subst (λ (gs : List Group). is_forged gs ≡ false) are own) in
      let before = (both_false (forges now.line) (is_forged past) owns).1 in
      record {
        Base = NoBase l;
        starts = λ low none other here config.
            let x = air_behind l past c orders.1 before config in
            record {
              base = is_base l low now past none;
              sent = no_flight;
              air = x.air;
              on = x.on;
              new = x.new;
              there = x.there;
              stands = record {
                new = x.new;
                there = x.there;
                unacked = λ side.
                    subst (λ (e : End). is_acked_mode (mode (flow l e)) ≡ false)
                    (sym (at_end side (link_behind past) x.air x.on))
                    (bearers_unacked l past c kind orders.1 before config side);
              };
            };
        ends = λ config side.
            unacked_low (flow l (end_of side (link_behind (now ∷ past))))
            (account_at side l (all_given given.histories (now ∷ past)).kept.journal.flows)
            (bearers_unacked l (now ∷ past) c kind orders owns config side);
      };
}
