-- The kind of the bearer on each channel is that of the line that began it, whatever a journal tells behind it.
use Rattle.std.proofs.Common.{◌≡◌, ℕ, ◌<◌, ◌≤◌, ◌==◌, Bool, true, false, if◌then◌else◌, List, [], ◌∷◌, ◌++◌}
use Rattle.std.proofs.Common.{Option, Some, None, option_map, refl, ap, ◌∙◌, arith}
use Rattle.std.proofs.lemmas.List.{get_or_past}
use Rattle.l2_types.specs.declared.side.Side.{Side}
use Rattle.l2_types.specs.declared.side.Side.TheVariants.{Nb, Ue}
use Rattle.pdu_show.specs.declared.kinds.Layout.{Layout}
use Rattle.pdu_show.specs.Kinds.{layout_of}
use Rattle.bearer_types.specs.declared.config.BearerConfig.{BearerConfig}
use Rattle.bearer_types.specs.declared.event.Event.{Event}
use Rattle.bearer_types.specs.declared.event.Event.TheVariants as events
use Rattle.bearer_types.specs.Sides.{is_same, sender_of}
use Rattle.air_record.specs.declared.line.Line.{Line}
use Rattle.air_record.specs.declared.line.Line.TheVariants as lines
use Rattle.air_record.specs.declared.record.Record.{Record}
use Rattle.air_record.specs.declared.record.Record.TheVariants as records
use Rattle.air_record.specs.declared.submission.Submission.{Submission}
use Rattle.air_record.specs.Submissions.{unrefused}
use Rattle.journal_flows.specs.Accounts.{account_at}
use Rattle.journal_given.specs.Supplies as given
use Rattle.journal_sent.specs.SentPdus.{histories}
use Rattle.journal_sent.specs.SentFlows.{is_data, flow_submitted, flow_discarded, is_first, gives_first, gives_data}
use Rattle.journal_sent.specs.SentFlows.{flow_taken, flow_reported, flow_settled}
use Rattle.journal_sent.specs.Sending.{sdu_of, acked_at, released, settled, after_line, after_record, renewed_by}
use Rattle.journal_sent.specs.Sending.{after_group}
use Rattle.journal_sent.specs.RightSent.{Flow, AllSent, Given}
use Rattle.law_sent.specs.Channels.{flow_on, only_at, behind_all, sent_on, begins_on, HasChannels}
use Rattle.law_sent.specs.Flows.{submits_to, event_on, record_on}
use Rattle.law_sent.proofs.ChannelsFlows.{given_like, reported_like, behind_like, settled_like}
use Rattle.law_sent.proofs.Flows.{flows_go_on}
use Rattle.law_sent.proofs.Channels.{bearers_begin}

abbrev layout_in : Option Flow → Option Layout
layout_in o = option_map (λ (f : Flow). f.layout) o

abbrev pub layout_on : Side → ℕ → AllSent → Option Layout
layout_on side l s = layout_in (flow_on side l s)

-- ---- what changes a flow leaves its kind

abbrev Keeps : (Flow → Flow) → Type 0
Keeps c = (f : Flow) → (c f).layout ≡ f.layout

map_keeps : (c : Flow → Flow) (o : Option Flow) → Keeps c → layout_in (option_map c o) ≡ layout_in o
map_keeps c None keeps = refl
map_keeps c (Some f) keeps = ap (λ (y : Layout). Some y) (keeps f)

only_keeps : (b : Bool) (c : Flow → Flow) → Keeps c → Keeps (only_at b c)
only_keeps true c keeps f = keeps f
only_keeps false c keeps f = refl

submitted_keeps : (octets : List ℕ) → Keeps (flow_submitted octets)
submitted_keeps octets f = by (is_data f.layout)
  where
    by : (b : Bool) → (if b then f else record f { waiting = f.waiting ++ octets ∷ [] }).layout ≡ f.layout
    by true = refl
    by false = refl

taken_keeps : (count : Option ℕ) (len : ℕ) (sdu : Option (List ℕ)) → Keeps (flow_taken histories count len sdu)
taken_keeps count len sdu f = by (is_data f.layout) (is_first count len f.waiting f)
  where
    first : (waiting : List (List ℕ)) → (gives_first histories waiting f).layout ≡ f.layout
    first [] = refl
    first (own ∷ rest) = refl

    by : (a b : Bool)
        → (if a then gives_data histories count sdu f else if b then gives_first histories f.waiting f else f).layout
        ≡ f.layout
    by true b = (given_like count sdu f).layout
    by false true = first f.waiting
    by false false = refl

renewed_keeps : (renewal : Option _) → Keeps (renewed_by histories renewal)
renewed_keeps None f = refl
renewed_keeps (Some keys) f = refl

submits_keep : (side : Side) (l : ℕ) (o : Option Submission) → Keeps (submits_to side l o)
submits_keep side l None f = refl
submits_keep side l (Some d) f =
    only_keeps (is_same d.side side) (only_at (d.lcid == l) (flow_submitted d.octets))
    (only_keeps (d.lcid == l) (flow_submitted d.octets) (submitted_keeps d.octets)) f

event_keeps : (side : Side) (l : ℕ) (event : Event) (j : Given) → Keeps (event_on side l event j)
event_keeps side l (events.Take lcid count len) j f =
    let sdu = sdu_of given.histories side l count j in
    only_keeps (lcid == l) (flow_taken histories count len sdu) (taken_keeps count len sdu) f
event_keeps side l (events.Report lcid fms bitmap) j f =
    only_keeps (lcid == l) (flow_reported histories fms bitmap) (λ g. (reported_like fms bitmap g).layout) f
event_keeps side l (events.Discard lcid len) j f = only_keeps (lcid == l) flow_discarded (λ _. refl) f
event_keeps side l event j f = refl

record_keeps : (side : Side) (l : ℕ) (one : Record) (j : Given) (s : AllSent) → Keeps (record_on side l one j s)
record_keeps side l (records.Of at event) j s f =
    only_keeps (is_same at side) (event_on side l event j) (event_keeps side l event j) f
record_keeps side l (records.Block direction process true version octets) j s f =
    let acked = acked_at side l j in
    let ps = sent_on l direction octets s in
    only_keeps (is_same (sender_of direction) side) (behind_all acked ps) (λ g. (behind_like acked ps g).layout) f
record_keeps side l (records.Block direction process false version octets) j s f = refl
record_keeps side l (records.Looped lcid octets) j s f =
    only_keeps (is_same Ue side) (only_at (lcid == l) (flow_submitted octets))
    (only_keeps (lcid == l) (flow_submitted octets) (submitted_keeps octets)) f
record_keeps side l one j s f = refl

-- ---- a record

released_layout : (o : Option Submission) (side : Side) (l : ℕ) (s : AllSent)
    → layout_on side l (released o s) ≡ layout_on side l s
released_layout o side l s =
    ap layout_in ((flows_go_on side l).releases o s)
    ∙ map_keeps (submits_to side l o) (flow_on side l s) (submits_keep side l o)

pub settled_layout : (one : Record) (side : Side) (l : ℕ) (s : AllSent)
    → layout_on side l (settled one s) ≡ layout_on side l s
settled_layout one side l s = released_layout (unrefused one s.submitted) side l s

pub record_layout : (one : Record) (j : Given) (side : Side) (l : ℕ) (s : AllSent)
    → layout_on side l (after_record histories given.histories one j s) ≡ layout_on side l s
record_layout one j side l s =
    ap layout_in ((flows_go_on side l).records one j s)
    ∙ map_keeps (record_on side l one j s) (flow_on side l (settled one s)) (record_keeps side l one j s)
    ∙ settled_layout one side l s

-- ---- a line

pub line_layout : (line : Line) (side : Side) (l : ℕ) (s : AllSent) → begins_on l line ≡ false
    → layout_on side l (after_line histories line s) ≡ layout_on side l s
line_layout line side l s other = ap layout_in ((flows_go_on side l).lines line s other)

pub begun_layout : (side : Side) (config : BearerConfig) (options : List ℕ) (s : AllSent) → HasChannels s
    → config.channel.lcid ≤ 10
    → layout_on side config.channel.lcid (after_line histories (lines.Bearer config options) s)
    ≡ Some (layout_of config.kind config.rlc_bits config.pdcp_bits)
begun_layout side config options s has low = ap layout_in (bearers_begin side config options s has low)

-- ---- a group ends

pub group_layout : (j : Given) (side : Side) (l : ℕ) (s : AllSent)
    → layout_on side l (after_group histories j s) ≡ layout_on side l s
group_layout j side l s =
    let account = account_at side l j.kept.journal.flows in
    let next = renewed_by histories s.renewal in
    ap layout_in ((flows_go_on side l).ends j s)
    ∙ map_keeps (λ (f : Flow). flow_settled histories account (next f)) (flow_on side l (released s.submitted s))
    (λ f. (settled_like account (next f)).layout ∙ renewed_keeps s.renewal f)
    ∙ released_layout s.submitted side l s

-- ---- there are no others

pub none_above : (side : Side) (l : ℕ) (s : AllSent) → HasChannels s → 10 < l → flow_on side l s ≡ None
none_above Nb l s has far = get_or_past s.nb l None (omega (arith, has.nb, far))
none_above Ue l s has far = get_or_past s.ue l None (omega (arith, has.ue, far))
