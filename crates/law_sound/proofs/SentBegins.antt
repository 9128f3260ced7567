-- Behind the line in which a bearer of acknowledged data comes, the flows that both its ends send stand beside them:
-- nothing was written yet, and both have the keys in force.
use Rattle.std.proofs.Common.{◌≡◌, ℕ, false, List, [], ◌∷◌, ◌++◌, Option, Some, refl, ap, sym, subst, ◌∙◌}
use Rattle.air_link.specs.Lines.{bears}
use Rattle.air_link.specs.Link.{end_of}
use Rattle.air_record.specs.declared.line.Line.{Line}
use Rattle.air_record.specs.declared.line.Line.TheVariants as lines
use Rattle.air_record.specs.declared.record.Record.{Record}
use Rattle.air_run.specs.Playing.{keys_or_none, acted}
use Rattle.air_run.specs.Rules.{Rules, no_rules, accepted}
use Rattle.air_run.specs.Run.{fresh}
use Rattle.air_text.specs.Groups.{Group}
use Rattle.bearer.specs.Acknowledged.State.{State}
use Rattle.bearer.specs.Bearer.{flow_of}
use Rattle.bearer.specs.declared.flow.Flow.TheVariants.{Am}
use Rattle.bearer_types.specs.Sides.{other}
use Rattle.bearer_types.specs.declared.config.BearerConfig.{BearerConfig}
use Rattle.eps_sec.specs.declared.Keys.{Keys}
use Rattle.l2_types.specs.declared.channel.Kind.{Kind}
use Rattle.l2_types.specs.declared.channel.Kind.TheVariants as bearers
use Rattle.l2_types.specs.declared.side.Side.{Side}
use Rattle.l2_types.specs.declared.side.Side.TheVariants.{Nb, Ue}
use Rattle.pdcp_pdu.specs.declared.pdu.PdcpKind.{PdcpKind}
use Rattle.pdcp_pdu.specs.declared.pdu.PdcpKind.TheVariants as pdcp
use Rattle.pdcp_sec.specs.Protection.{Protection}
use Rattle.pdcp_tx.specs.State.{State as Sending, start}
use Rattle.pdu_show.specs.Kinds.{layout_of}
use Rattle.pdu_show.specs.declared.kinds.Layout.TheVariants as layouts
use Rattle.prioritise.proofs.ChannelLemmas.{both_false}
use Rattle.promises.specs.Keys.{keys_in_force_by, keys_in_force}
use Rattle.journal_given.specs.Supplies as given
use Rattle.journal_sent.specs.RightSent.{AllSent, Flow}
use Rattle.journal_sent.specs.SentFlows.{cover_of, flow_begun}
use Rattle.journal_sent.specs.SentPdus.{histories}
use Rattle.journal_sent.specs.Sending.{bearer_begun, after_line, renewed_by, all_sending}
use Rattle.law_bearer.specs.AmBearer.Lives.{protection_at}
use Rattle.law_bearer.proofs.AmBearer.Lives.{ends_begin_alike, first_life_begins}
use Rattle.law_deliver.specs.AmChannel.Delivery.{HasBegun}
use Rattle.law_run.specs.Order.{state_behind, IsRight, KeepsOrder}
use Rattle.law_run.proofs.BearerWalk.{is_first, at_each}
use Rattle.law_run.proofs.Early.{is_early}
use Rattle.law_run.proofs.Past.{link_behind}
use Rattle.law_run.proofs.Standing.{lines_tell}
use Rattle.law_run.proofs.TwoEnds.Lives.{channels_begin}
use Rattle.law_sent.specs.Channels.{StandsOn}
use Rattle.law_sent.proofs.Channels.{bearers_begin}
use Rattle.law_sound.proofs.GivenBegins.{none_left, first_bearer, bearer_comes}
use Rattle.law_sound.proofs.GivenBetween.{GoesBehind}
use Rattle.law_sound.proofs.SentBehind.{EndsBeside, sender_at, sender_behind, sends_behind}
use Rattle.law_sound.proofs.SentBeside.{IsSentBy}
use Rattle.law_sound.proofs.SentBetween.{HaveSizes, KeepsChannels, SendsBehind}
use Rattle.law_sound.proofs.SentCalls.{sent_begins}
use Rattle.law_sound.proofs.SentKeys.{none_renewed}
use Rattle.law_sound.proofs.SentRecords.{sending_first}

-- ---- the keys of the run's rules are those in force until a handover, and have their cipher since

pub record KeysStand (r : Rules) (keys : Keys) : Type 0 where
  pub cipher : keys.alg ≡ (keys_or_none r.keys).alg
  pub early : r.begun ≡ false → keys ≡ keys_or_none r.keys

keys_by : (line : Line) (r : Rules) (keys : Keys) → KeysStand r keys
    → KeysStand (accepted line r) (keys_in_force_by line keys)
unfolding accepted
keys_by (lines.Harq visits) r keys h = record { cipher = h.cipher; early = h.early }
keys_by lines.Bsr r keys h = record { cipher = h.cipher; early = h.early }
keys_by (lines.Keys next) r keys h = record { cipher = refl; early = λ e. refl }
keys_by (lines.Bearer config options) r keys h = h
keys_by (lines.Discard lcid ttis) r keys h = record { cipher = h.cipher; early = h.early }
keys_by (lines.Drx config) r keys h = record { cipher = h.cipher; early = h.early }
keys_by line r keys h = record { cipher = h.cipher; early = λ e. absurd cc }

pub keys_stand : (past : List Group) → KeysStand (state_behind past).rules (keys_in_force past)
unfolding fresh no_rules
keys_stand [] = record { cipher = refl; early = λ e. refl }
keys_stand (g ∷ past) = keys_by g.line (state_behind past).rules (keys_in_force past) (keys_stand past)

-- ---- both ends begin with them

module _ (past : List Group) (g : Group) (c : BearerConfig) (options : List ℕ)
    (right : IsRight past (record g { line = lines.Bearer c options })) (order : KeepsOrder past) where
  abbrev now : Group
  now = record g { line = lines.Bearer c options }

  abbrev lcid : ℕ
  lcid = c.channel.lcid

  abbrev keys : Keys
  keys = keys_or_none (state_behind past).rules.keys

  pub ends_begin : (side : Side) → HasBegun side lcid c keys (end_of side (link_behind (now ∷ past)))
  unfolding acted accepted bears
  ends_begin =
      let k = link_behind past in
      let f = is_first c options (state_behind past).rules k right.allowed in
      let here = both_false _ _ f.none in
      let rest = (is_early past order f.early).rest in
      at_each (λ side. HasBegun side lcid c keys (end_of side (link_behind (now ∷ past))))
      (channels_begin c keys k right.in_range rest Nb here.0) (channels_begin c keys k right.in_range rest Ue here.1)

  pub in_force : keys_in_force past ≡ keys
  in_force =
      (keys_stand past).early (is_first c options (state_behind past).rules (link_behind past) right.allowed).early

  none : g.events ≡ []
  none = (lines_tell (now ∷ past) (right, order)).0

-- ---- a flow begins

protected_so : (kind : PdcpKind) (p : Protection) (first : ℕ) (s : Sending) → s ≡ start kind p first
    → s.protection ≡ p
unfolding start
protected_so kind p first s e = ap (λ (x : Sending). x.protection) e

module _ (newer past : List Group) (g : Group) (c : BearerConfig) (options : List ℕ)
    (right : IsRight past (record g { line = lines.Bearer c options })) (order : KeepsOrder past)
    (data' : c.kind ≡ bearers.Am) (keeps : KeepsChannels past)
    (h : GoesBehind (newer ++ record g { line = lines.Bearer c options } ∷ past) c c.channel.lcid
    (record g { line = lines.Bearer c options } ∷ past)) where
  abbrev line : Line
  line = lines.Bearer c options

  abbrev here : Group
  here = record g { line = line }

  abbrev l : ℕ
  l = c.channel.lcid

  abbrev b : Side → State
  b side = sender_at (newer ++ here ∷ past) c l (here ∷ past) h side

  abbrev first_keys : Keys
  first_keys = keys_or_none (state_behind past).rules.keys

  abbrev before : AllSent
  before = all_sending histories given.histories past

  flow_so : (side : Side) → flow_of c.kind c first_keys side ≡ Am (b side)
  flow_so side =
      sym (ends_begin past g c options right order side).bearer_is
      ∙ sender_behind (newer ++ here ∷ past) c l (here ∷ past) h side

  far_so : (side : Side) → flow_of c.kind c first_keys (other side) ≡ Am (b (other side))
  far_so Nb = flow_so Ue
  far_so Ue = flow_so Nb

  protected : (side : Side) → (b side).pdcp.tx.protection ≡ protection_at c first_keys side
  protected side =
      protected_so (pdcp.Am c.pdcp_bits) (protection_at c first_keys side) c.first (b side).pdcp.tx
      (ends_begin_alike c first_keys side (b side) (b (other side)) data' (flow_so side) (far_so side)).sender

  abbrev begun : Side → Flow
  begun side =
      flow_begun histories (layouts.Am (pdcp.Am c.pdcp_bits))
      (Some (record { kind = pdcp.Am c.pdcp_bits; protection = (b side).pdcp.tx.protection }))

  begins_so : (side : Side) → bearer_begun histories side before.keys c ≡ Some (begun side)
  begins_so side =
      ap (λ (kind : Kind). Some (flow_begun histories (layout_of kind c.rlc_bits c.pdcp_bits)
      (cover_of (layout_of kind c.rlc_bits c.pdcp_bits) side l before.keys))) data'
      ∙ ap (λ (keys : Keys). Some (flow_begun histories (layouts.Am (pdcp.Am c.pdcp_bits))
      (cover_of (layouts.Am (pdcp.Am c.pdcp_bits)) side l keys))) (keeps.keys ∙ in_force past g c options right order)
      ∙ ap (λ (p : Protection). Some (flow_begun histories (layouts.Am (pdcp.Am c.pdcp_bits))
      (Some (record { kind = pdcp.Am c.pdcp_bits; protection = p })))) (sym (protected side))

  stands : (side : Side) → StandsOn side l (after_line histories line before) (begun side)
  stands side = record {
    is = bearers_begin side c options before keeps.channels h.read.low ∙ begins_so side;
    of_data = record { data_is = refl; none_wait = refl };
  }

  ends : (side : Side) → EndsBeside newer c l here past data' h side
  ends side = record {
    flow = begun side;
    stands = subst (λ (told : List Record). StandsOn side l (sending_first here past told) (begun side))
        (sym (none past g c options right order)) (stands side);
    by_bearer =
        subst (λ (renewal : Option Keys). IsSentBy c.pdcp_bits (b side) (renewed_by histories renewal (begun side)))
        (sym (none_renewed here past g.events refl))
        (sent_begins c.pdcp_bits c.tx (b side) (first_life_begins c first_keys side (b side) data' (flow_so side)).tx);
  }

  sizes : HaveSizes h.given.bearer
  sizes =
      let is : Some (first_bearer c) ≡ Some h.given.bearer =
      sym (bearer_comes newer past g c options h.read.low (none past g c options right order) data') ∙ h.given.is in
      let same : first_bearer c ≡ h.given.bearer = cc in
      subst HaveSizes same (record { nb = tt; ue = tt })

  begins : SendsBehind (newer ++ here ∷ past) c l (here ∷ past) h
  begins = sends_behind newer c l here past data' h ends sizes
      (λ told one rest e. absurd (none_left told one rest (sym (none past g c options right order) ∙ e)))

pub begins_sent : (all newer : List Group) (past : List Group) (g : Group) (c : BearerConfig) (options : List ℕ)
    → all ≡ newer ++ record g { line = lines.Bearer c options } ∷ past
    → IsRight past (record g { line = lines.Bearer c options }) → KeepsOrder past → c.kind ≡ bearers.Am
    → KeepsChannels past
    → (h : GoesBehind all c c.channel.lcid (record g { line = lines.Bearer c options } ∷ past))
    → SendsBehind all c c.channel.lcid (record g { line = lines.Bearer c options } ∷ past) h
begins_sent all newer past g c options is right order data' keeps =
    subst (λ (x : List Group). (h : GoesBehind x c c.channel.lcid (record g { line = lines.Bearer c options } ∷ past))
    → SendsBehind x c c.channel.lcid (record g { line = lines.Bearer c options } ∷ past) h) (sym is)
    (λ h. begins newer past g c options right order data' keeps h)
