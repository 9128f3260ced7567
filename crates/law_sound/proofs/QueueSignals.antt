-- What is known of acknowledgements in each group of a journal, on a channel with bearers of signalling: by the history
-- of each flow, as both ends follow it.
use Rattle.std.proofs.Common.{◌≡◌, ℕ, true, false, List, [], ◌∷◌, ap, sym, subst, ◌∙◌}
use Rattle.air_text.specs.Groups.{Group}
use Rattle.bearer_types.specs.declared.config.BearerConfig.{BearerConfig}
use Rattle.l2_types.specs.declared.channel.Kind.TheVariants as bearers
use Rattle.prioritise.proofs.ChannelLemmas.{both_false}
use Rattle.promises.specs.Configs.{config_of}
use Rattle.promises.specs.Delivery.{forges, is_forged}
use Rattle.journal_flows.specs.Accounts.{is_acked_kind}
use Rattle.journal_flows.specs.FlowsTold.{histories}
use Rattle.journal_flows.specs.Gathering.{behind_line}
use Rattle.journal_given.specs.Giving.{may_take_by}
use Rattle.journal_given.specs.Supplies as given
use Rattle.law_run.specs.Order.{KeepsOrder}
use Rattle.law_run.specs.TwoEnds.Lived.{IsAcknowledged}
use Rattle.law_sound.proofs.AlikeJournals.{alike_journals}
use Rattle.law_sound.proofs.GroupBearers.{counts_at, formed_at, known_at, of_kind}
use Rattle.law_sound.proofs.GroupCarrying.{config_stays, line_begun}
use Rattle.law_sound.proofs.GroupReading.{is_read}
use Rattle.law_sound.proofs.LivedFails.{lived_there}
use Rattle.law_sound.proofs.QueueAcked.{ReadsTo, bases_low, reads_base}
use Rattle.law_sound.proofs.QueueBases.{HasBases, forged_behind, order_behind}
use Rattle.law_sound.proofs.StepCarrying.{flies_at, flight_at}

pub signals_have_bases : (l : ℕ) (past : List Group) (c : BearerConfig) → KeepsOrder past → is_forged past ≡ false
    → c.kind ≡ bearers.Srb → HasBases l c past
signals_have_bases l all c order own signals = record {
  each = λ newer now past are.
      let orders = order_behind newer (now ∷ past) (subst KeepsOrder are order) in
      let owns = forged_behind newer (now ∷ past) (subst (λ (gs : List Group). is_forged gs ≡ false) are own) in
      let before = (both_false (forges now.line) (is_forged past) owns).1 in
      let may = may_take_by given.histories (now ∷ past) in
      let kind = of_kind c.kind c.pdcp_bits in
      record {
        Base = ReadsTo kind l now past;
        starts = λ low none other here config.
            let h = is_read may l past c orders.1 acknowledged config before in
            let first = behind_line histories now.line h.journal in
            let then' = config_stays l now.line (config_of l past) other ∙ config in
            record {
              base = reads_base kind l low now past none (known_at (now ∷ past) l c low then' acknowledged)
                  (counts_at past now l c orders then' acknowledged) c then' acked here;
              sent = flight_at [] first;
              air = h.air;
              on = h.on;
              new = h.read.new;
              there = lived_there l h.air h.moment h.read.lived;
              stands = record {
                moment = h.moment;
                journal = first;
                alike = (alike_journals _ _ h.alike).lines now.line;
                read = line_begun may c l past now orders.0 orders.1 other here h;
                flies = flies_at [] first;
                formed = formed_at past now orders;
              };
            };
        ends = λ config. bases_low c l now past acked (is_read may l (now ∷ past) c orders acknowledged config owns);
      };
}
  where
    acknowledged : IsAcknowledged c.kind
    acknowledged = subst IsAcknowledged (sym signals) tt

    acked : is_acked_kind c.kind ≡ true
    acked = ap is_acked_kind signals
