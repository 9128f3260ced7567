-- The flow that is kept of a channel, while the PDUs of a journal are checked, stands where the line of its bearer
-- stands before, and has its layout.
use Rattle.std.proofs.Common.{◌≡◌, ◌≤◌, inl, inr, ℕ, ◌==◌, Bool, true, false, if◌then◌else◌, List, [], ◌∷◌}
use Rattle.std.proofs.Common.{option_map, Option, Some, None, refl, ap, sym, subst, ◌∙◌}
use Rattle.std.proofs.lemmas.Bool.{eqb-true, cases_lt}
use Rattle.air_record.specs.declared.line.Line.{Line}
use Rattle.air_record.specs.declared.line.Line.TheVariants as lines
use Rattle.air_record.specs.declared.record.Record.{Record}
use Rattle.air_record.specs.declared.record.Record.TheVariants as records
use Rattle.air_text.specs.Groups.{Group}
use Rattle.bearer_types.specs.declared.config.BearerConfig.{BearerConfig}
use Rattle.l2_types.specs.declared.channel.Kind.TheVariants as bearers
use Rattle.l2_types.specs.declared.side.Side.{Side}
use Rattle.l2_types.specs.declared.side.Side.TheVariants.{Nb, Ue}
use Rattle.pdu_show.specs.Kinds.{layout_of}
use Rattle.pdu_show.specs.declared.kinds.Layout.{Layout}
use Rattle.promises.specs.Configs.{config_by, config_of}
use Rattle.journal_given.specs.Giving.{all_given}
use Rattle.journal_given.specs.Giving as giving
use Rattle.journal_given.specs.Supplies as given
use Rattle.journal_sent.specs.RightSent.{AllSent, Flow, Given}
use Rattle.journal_sent.specs.SentPdus.{histories}
use Rattle.journal_sent.specs.Sending.{settled, after_line}
use Rattle.journal_sent.specs.Sending.{after_record, records_told, all_sending}
use Rattle.law_given.proofs.OneBearer.{none_at}
use Rattle.law_sent.specs.Channels.{HasChannels, flow_on}
use Rattle.law_sent.proofs.ChannelsKinds.{layout_on, begun_layout, group_layout, line_layout, none_above, record_layout}
use Rattle.law_sent.proofs.ChannelsKinds.{settled_layout}
use Rattle.law_sent.proofs.ChannelsStay.{line_has}
use Rattle.law_sound.proofs.SentKeys.{keeps_channels, records_have}
use Rattle.law_sound.proofs.SentRecords.{sending_first}
use Rattle.std.proofs.Common.{is_some}
use Rattle.std.specs.Prelude.{IsTrue}
use Rattle.journal_sent.specs.Sending.{has_bearer}

-- ---- the layouts of flows are those of the bearers' lines

abbrev pub layout_by : Option BearerConfig → Option Layout
layout_by None = None
layout_by (Some c) = Some (layout_of c.kind c.rlc_bits c.pdcp_bits)

line_by : (line : Line) (side : Side) (l : ℕ) (s : AllSent) (before : Option BearerConfig) → HasChannels s → l ≤ 10
    → layout_on side l s ≡ layout_by before
    → layout_on side l (after_line histories line s) ≡ layout_by (config_by l line before)
line_by (lines.Bearer c options) side l s before has low h = by (c.channel.lcid == l) refl
  where
    by : (here : Bool) → (c.channel.lcid == l) ≡ here
        → layout_on side l (after_line histories (lines.Bearer c options) s)
        ≡ layout_by (if here then Some c else before)
    by true e =
        let same = eqb-true c.channel.lcid l e in
        ap (λ (n : ℕ). layout_on side n (after_line histories (lines.Bearer c options) s)) (sym same)
        ∙ begun_layout side c options s has (subst (λ (n : ℕ). n ≤ 10) (sym same) low)
    by false e = line_layout (lines.Bearer c options) side l s e ∙ h
line_by line side l s before has low h = line_layout line side l s refl ∙ h

records_layout : (told : List Record) (j : Given) (side : Side) (l : ℕ) (s : AllSent)
    → layout_on side l (records_told histories given.histories told j s) ≡ layout_on side l s
records_layout [] j side l s = refl
records_layout (one ∷ told) j side l s =
    let now = giving.settled given.histories one j in
    records_layout told (giving.after_record given.histories one j) side l
    (after_record histories given.histories one now s)
    ∙ record_layout one now side l s

-- behind the first records of a group
pub first_layout : (now : Group) (past : List Group) (told : List Record) (side : Side) (l : ℕ) → l ≤ 10
    → layout_on side l (all_sending histories given.histories past) ≡ layout_by (config_of l past)
    → layout_on side l (sending_first now past told) ≡ layout_by (config_of l (now ∷ past))
first_layout now past told side l low before =
    let s = all_sending histories given.histories past in
    records_layout told (giving.after_line given.histories now.line (all_given given.histories past)) side l
    (after_line histories now.line s)
    ∙ line_by now.line side l s (config_of l past) (keeps_channels past).channels low before

nothing_on : (side : Side) (l : ℕ) → layout_on side l (all_sending histories given.histories []) ≡ None
nothing_on Nb l = ap (option_map (λ (f : Flow). f.layout)) (none_at 11 l None)
nothing_on Ue l = ap (option_map (λ (f : Flow). f.layout)) (none_at 11 l None)

pub all_layout : (past : List Group) (side : Side) (l : ℕ) → l ≤ 10
    → layout_on side l (all_sending histories given.histories past) ≡ layout_by (config_of l past)
all_layout [] side l low = nothing_on side l
all_layout (now ∷ past) side l low =
    group_layout (all_given given.histories (now ∷ past)) side l (sending_first now past now.events)
    ∙ first_layout now past now.events side l low (all_layout past side l low)

-- ---- so one stands where its bearer does, and the other way round

flow_low : (side : Side) (l : ℕ) (s : AllSent) (f : Flow) → HasChannels s → flow_on side l s ≡ Some f → l ≤ 10
flow_low side l s f has is = elim (cases_lt 10 l) [
  | inl far ↦ (let no : None ≡ Some f = sym (none_above side l s has far) ∙ is in absurd cc)
  | inr le ↦ le
]

pub record IsOfBearer (now : Group) (past : List Group) (l : ℕ) (f : Flow) : Type 0 where
  pub config : BearerConfig
  pub is : config_of l (now ∷ past) ≡ Some config
  pub low : l ≤ 10
  pub layout_is : f.layout ≡ layout_of config.kind config.rlc_bits config.pdcp_bits

of_bearer : (now : Group) (past : List Group) (l : ℕ) (f : Flow) (o : Option BearerConfig)
    → config_of l (now ∷ past) ≡ o → l ≤ 10 → Some f.layout ≡ layout_by o → IsOfBearer now past l f
of_bearer now past l f None is low e = absurd cc
of_bearer now past l f (Some c) is low e =
    let same : f.layout ≡ layout_of c.kind c.rlc_bits c.pdcp_bits = cc in
    record { config = c; is = is; low = low; layout_is = same }

pub flow_stands : (now : Group) (past : List Group) (told : List Record) (side : Side) (l : ℕ) (f : Flow)
    → flow_on side l (sending_first now past told) ≡ Some f → IsOfBearer now past l f
flow_stands now past told side l f is =
    let s = all_sending histories given.histories past in
    let has = records_have told (giving.after_line given.histories now.line (all_given given.histories past))
    (after_line histories now.line s) (line_has now.line s (keeps_channels past).channels) in
    let low = flow_low side l (sending_first now past told) f has is in
    of_bearer now past l f (config_of l (now ∷ past)) refl low
    (ap (option_map (λ (x : Flow). x.layout)) (sym is)
    ∙ first_layout now past told side l low (all_layout past side l low))

-- a flow of the base station stands there
pub bearer_stands : (now : Group) (past : List Group) (told : List Record) (one : Record) (l : ℕ) (c : BearerConfig)
    → l ≤ 10 → config_of l (now ∷ past) ≡ Some c
    → IsTrue (has_bearer l (settled one (sending_first now past told)))
bearer_stands now past told one l c low config =
    let s = sending_first now past told in
    by (flow_on Nb l (settled one s))
    (settled_layout one Nb l s ∙ first_layout now past told Nb l low (all_layout past Nb l low) ∙ ap layout_by config)
  where
    by : (o : Option Flow) → option_map (λ (x : Flow). x.layout) o ≡ Some (layout_of c.kind c.rlc_bits c.pdcp_bits)
        → IsTrue (is_some o)
    by None e = absurd cc
    by (Some f) e = refl
