-- Behind a `submit` line, on a channel with a bearer of acknowledged data, what is kept of the flows that it sends,
-- while the PDUs of a journal are checked, stands beside both ends: the flows are as they were, and the SDU has as many
-- octets as one may have.
use Rattle.std.proofs.Common.{◌≡◌, ℕ, List, [], ◌∷◌, ◌++◌}
use Rattle.std.proofs.Common.{None, refl, sym, subst, ◌∙◌, ◌⊎◌, inl, inr}
use Rattle.air_record.specs.declared.line.Line.TheVariants as lines
use Rattle.air_record.specs.declared.record.NoPlace.{NoPlace}
use Rattle.air_record.specs.declared.record.Record.{Record}
use Rattle.air_record.specs.declared.record.Record.TheVariants as records
use Rattle.air_text.specs.Groups.{Group}
use Rattle.bearer.specs.Acknowledged.State.{State}
use Rattle.bearer.specs.Submitting.{refusal as flow_refusal}
use Rattle.bearer.specs.declared.flow.Flow.TheVariants.{Am}
use Rattle.bearer_types.specs.declared.config.BearerConfig.{BearerConfig}
use Rattle.l2_types.specs.declared.channel.Kind.TheVariants as bearers
use Rattle.l2_types.specs.declared.side.Side.{Side}
use Rattle.l2_types.specs.declared.side.Side.TheVariants.{Nb, Ue}
use Rattle.journal_given.specs.Giving as giving
use Rattle.journal_given.specs.Supplies.{Bearer, History}
use Rattle.journal_given.specs.Supplies as given
use Rattle.journal_sent.specs.RightSent.{Flow, IsSdu}
use Rattle.journal_sent.specs.SentPdus.{histories}
use Rattle.journal_sent.specs.Sending.{all_sending}
use Rattle.law_bearer.specs.AnyBearer.Calls.{Submit}
use Rattle.law_run.specs.Order.{IsRight, KeepsOrder}
use Rattle.law_sent.specs.Channels.{StandsOn}
use Rattle.law_sent.proofs.Channels.{records_go_alone, lines_go_alone}
use Rattle.law_sound.specs.ComingLaws.{TellsFlows}
use Rattle.law_sound.proofs.GivenBeside.{of_both, own_after}
use Rattle.law_sound.proofs.GivenMoments.{bearer}
use Rattle.law_sound.proofs.GivenSubmits.{none_more, only_one, IsSubmitted, StaySo, SubmitsSo, submits_so}
use Rattle.law_sound.proofs.SentBeside.{IsSentBy}
use Rattle.law_sound.proofs.SentBetween.{IsSentOn, HaveSizes, StandsBeside, AreSentBeside, SentSaid}
use Rattle.law_sound.proofs.SentCalls.{calls_keep_sent}
use Rattle.law_sound.proofs.SentEnds.{GoesSending, group_ends}
use Rattle.law_sound.proofs.SentRecords.{sending_first}
use Rattle.law_sound.proofs.SentSubmitted.{submitted_sized}

-- ---- an SDU that isn't refused

accepted_sized : (b : State) (sdu : List ℕ) → flow_refusal (Am b) sdu ≡ None → IsSdu sdu
unfolding flow_refusal
accepted_sized b sdu e = submitted_sized b.pdcp.tx sdu e

-- ---- its side's supply has it

submitted_sizes : (side : Side) (own : State) (octets : List ℕ) (b : Bearer History) → IsSdu octets → HaveSizes b
    → HaveSizes (own_after own side (Submit octets) b)
submitted_sizes Nb own octets b size h = record { nb = (size, h.nb); ue = h.ue }
submitted_sizes Ue own octets b size h = record { nb = h.nb; ue = (size, h.ue) }

module _ (all newer : List Group) (c : BearerConfig) (l : ℕ) (past : List Group) (g : Group) (side : Side) (lcid : ℕ)
    (octets : List ℕ) where
  abbrev now : Group
  now = record g { line = lines.Submit side lcid octets }

  -- ---- the flows

  abbrev FirstStands : Side → Flow → List Record → Type 0
  FirstStands z f told = StandsOn z l (sending_first now past told) f

  stands_first : (z : Side) (f : Flow) → StandsOn z l (all_sending histories given.histories past) f
      → (g.events ≡ []) ⊎ ((why : NoPlace) × (g.events ≡ records.Refused side lcid why ∷ []))
      → FirstStands z f g.events
  stands_first z f h told = by told
    where
      line : FirstStands z f []
      line = lines_go_alone z l now.line (all_sending histories given.histories past) f refl h

      by : (g.events ≡ []) ⊎ ((why : NoPlace) × (g.events ≡ records.Refused side lcid why ∷ []))
          → FirstStands z f g.events
      by (inl none) = subst (FirstStands z f) (sym none) line
      by (inr refused) =
          let one = records.Refused side lcid refused.0 in
          let j = giving.after_line given.histories now.line (giving.all_given given.histories past) in
          subst (FirstStands z f) (sym refused.1)
          (records_go_alone z l one (giving.settled given.histories one j) (sending_first now past []) f line)

  none_new : (g.events ≡ []) ⊎ ((why : NoPlace) × (g.events ≡ records.Refused side lcid why ∷ []))
      → SentSaid l (now ∷ past)
  none_new (inl none) told one rest are = absurd (none_more told one rest (sym none ∙ are))
  none_new (inr refused) told one rest are =
      subst (IsSentOn l now past told)
      (sym (only_one told one rest (records.Refused side lcid refused.0) (sym refused.1 ∙ are))) tt

  -- ---- the bearers

  module _ (was behind : Side → State) (b b' : Bearer History) where
    abbrev How : Type 0
    How = IsSubmitted side octets was behind b b' ⊎ StaySo was behind b b'

    stay_sent : How → (z : Side) (f : Flow) → IsSentBy c.pdcp_bits (was z) f → IsSentBy c.pdcp_bits (behind z) f
    stay_sent (inl x) z f =
        of_both side (λ (y : Side). IsSentBy c.pdcp_bits (was y) f → IsSentBy c.pdcp_bits (behind y) f)
        (λ h. calls_keep_sent c.pdcp_bits (was side) (behind side) (Submit octets) f tt x.goes h)
        (λ h. subst (λ (d : State). IsSentBy c.pdcp_bits d f) (sym x.far) h) z
    stay_sent (inr x) z f = λ h. subst (λ (d : State). IsSentBy c.pdcp_bits d f) (sym (x.same z)) h

    sizes_stay : How → HaveSizes b → HaveSizes b'
    sizes_stay (inl x) h =
        subst HaveSizes (sym x.bearer_is)
        (submitted_sizes side (was side) octets b (accepted_sized (was side) octets x.accepts) h)
    sizes_stay (inr x) h = subst HaveSizes (sym x.bearer_is) h

  -- ---- behind it

  module _ (are : all ≡ newer ++ now ∷ past) (data' : c.kind ≡ bearers.Am) (h : GoesSending all c l past)
      (x : SubmitsSo all c l past g side lcid octets h.goes) where
    abbrev was : Side → State
    was z = bearer l c h.goes.given.nb h.goes.given.ue h.goes.given.steps h.goes.given.tied z

    abbrev behind : Side → State
    behind z = bearer l c x.next.given.nb x.next.given.ue x.next.given.steps x.next.given.tied z

    side_beside : (z : Side)
        → StandsBeside z l c.pdcp_bits (was z) (all_sending histories given.histories past)
        → StandsBeside z l c.pdcp_bits (behind z) (sending_first now past g.events)
    side_beside z y = record {
      flow = y.flow;
      stands = stands_first z y.flow y.stands x.told;
      by_bearer = stay_sent was behind h.goes.given.bearer x.next.given.bearer x.how z y.flow y.by_bearer;
    }

    first_beside : AreSentBeside l c x.next.given.tied.joined.one x.next.given.tied.joined.two
        (sending_first now past g.events) x.next.given.bearer
    first_beside = record {
      nb = side_beside Nb h.sends.sent.beside.nb;
      ue = side_beside Ue h.sends.sent.beside.ue;
      sizes = sizes_stay was behind h.goes.given.bearer x.next.given.bearer x.how h.sends.sent.beside.sizes;
    }

pub submits_sent : (all newer : List Group) (c : BearerConfig) (l : ℕ) (past : List Group) (g : Group) (side : Side)
    (lcid : ℕ) (octets : List ℕ) → all ≡ newer ++ record g { line = lines.Submit side lcid octets } ∷ past
    → IsRight past (record g { line = lines.Submit side lcid octets }) → KeepsOrder past
    → TellsFlows (record g { line = lines.Submit side lcid octets } ∷ past) → c.kind ≡ bearers.Am
    → GoesSending all c l past → GoesSending all c l (record g { line = lines.Submit side lcid octets } ∷ past)
submits_sent all newer c l past g side lcid octets are right order flows_told data' =
    subst (λ (gs : List Group). GoesSending gs c l past
    → GoesSending gs c l (record g { line = lines.Submit side lcid octets } ∷ past)) (sym are)
    (λ h.
    (let all' = newer ++ record g { line = lines.Submit side lcid octets } ∷ past in
    let x = submits_so all' newer c l past g side lcid octets refl right order flows_told data' h.goes in
    record {
      goes = x.next;
      sends = record {
        sent = record {
          beside = group_ends newer c l past (record g { line = lines.Submit side lcid octets }) data' x.next.read
              x.next.given refl (first_beside all' newer c l past g side lcid octets refl data' h x);
        };
        said = none_new all' newer c l past g side lcid octets x.told;
      };
    }))
