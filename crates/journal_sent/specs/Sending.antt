-- What is kept of a journal while the PDUs that it sends are checked, beside what PDCP gives RLC of
-- acknowledged data (journal_given), and how each line and record changes it.
use Rattle.std.specs.Prelude.{ℕ, ◌==◌, Bool, true, ◌&&◌, if◌then◌else◌, List, [], ◌∷◌}
use Rattle.std.specs.Prelude.{◌++◌, replicate, Option, Some, None, option_map, is_some}
use Rattle.std.specs.Prelude.{slice_index_or, slice_set}
use Rattle.eps_sec.specs.declared.Keys.{Keys}
use Rattle.l2_types.specs.declared.event.How.{How}
use Rattle.l2_types.specs.declared.side.Side.{Side}
use Rattle.l2_types.specs.declared.side.Side.TheVariants.{Nb, Ue}
use Rattle.mac_pdu.specs.declared.builder.Sdu.{Sdu}
use Rattle.mac_pdu.specs.declared.item.Direction.{Direction}
use Rattle.mac_pdu.specs.Reading.{reading}
use Rattle.bearer_types.specs.declared.config.BearerConfig.{BearerConfig}
use Rattle.bearer_types.specs.declared.event.Event.{Event}
use Rattle.bearer_types.specs.declared.event.Event.TheVariants as events
use Rattle.bearer_types.specs.Sides.{is_same, sender_of}
use Rattle.air_record.specs.Cells.{no_keys, next_keys}
use Rattle.air_record.specs.declared.line.Line.{Line}
use Rattle.air_record.specs.declared.line.Line.TheVariants as lines
use Rattle.air_record.specs.declared.record.Record.{Record}
use Rattle.air_record.specs.declared.record.Record.TheVariants as records
use Rattle.air_record.specs.declared.submission.Submission.{Submission}
use Rattle.air_record.specs.Submissions.{submitted_by, unrefused}
use Rattle.air_text.specs.Groups.{Group}
use Rattle.pdu_show.specs.Kinds.{layout_of}
use Rattle.journal_flows.specs.Gathering.{sdus_read}
use Rattle.journal_flows.specs.Accounts.{account_at}
use Rattle.journal_given.specs.Supplies as given
use Rattle.journal_given.specs.Giving.{Giving, side_of, bearer_at, each_from, all_given}
use Rattle.journal_given.specs.Giving as giving
use Rattle.journal_sent.specs.declared.checker.NamedPdu.{NamedPdu}
use Rattle.journal_sent.specs.declared.checker.PassedSdu.{PassedSdu}
use Rattle.journal_sent.specs.declared.verdict.Verdict.{Verdict}
use Rattle.journal_sent.specs.SentPdus.{Keeper}
use Rattle.journal_sent.specs.SentFlows.{SentFlow, cover_of, flow_begun, is_data}
use Rattle.journal_sent.specs.SentFlows.{flow_submitted, discard_right, flow_discarded, take_right}
use Rattle.journal_sent.specs.SentFlows.{flow_taken, passed_by, flow_reported, flow_judges}
use Rattle.journal_sent.specs.SentFlows.{flow_renewed, flow_settled, acked_by}

-- ---- flows of a side, by channel, 0 to 10

abbrev pub Flows : Type 0 → Type 0
Flows T = List (Option (SentFlow T))

abbrev pub no_flows : {T : Type 0} → Flows T
no_flows = replicate 11 None

abbrev pub flow_at : {T : Type 0} → ℕ → Flows T → Option (SentFlow T)
flow_at lcid fs = slice_index_or fs lcid None

abbrev pub changed_on : {T : Type 0} → ℕ → (SentFlow T → SentFlow T) → Flows T → Flows T
changed_on lcid f fs = slice_set fs lcid (option_map f (flow_at lcid fs))

-- ---- both sides

pub record Sending (T : Type 0) : Type 0 where
  pub nb : Flows T
  pub ue : Flows T
  -- the PDUs that the `send` records of a side name behind its last new block
  pub named_nb : List NamedPdu
  pub named_ue : List NamedPdu
  -- the SDU of the record just before, where that is a `take` on a transparent bearer
  pub passed : Option PassedSdu
  -- the SDU of the group's line, until it is submitted or refused
  pub submitted : Option Submission
  -- the keys of the life that runs; those of the next one, in a group of a handover
  pub keys : Keys
  pub renewal : Option Keys
  -- each record so far is right in what is sent, and each PDU is framed right
  pub sent : Bool
  pub shaped : Bool

abbrev pub nothing_sending : {T : Type 0} → Sending T
nothing_sending = record {
  nb = no_flows;
  ue = no_flows;
  named_nb = [];
  named_ue = [];
  passed = None;
  submitted = None;
  keys = no_keys;
  renewal = None;
  sent = true;
  shaped = true;
}

abbrev pub flows_of : {T : Type 0} → Side → Sending T → Flows T
flows_of Nb s = s.nb
flows_of Ue s = s.ue

abbrev pub with_flows : {T : Type 0} → Side → Flows T → Sending T → Sending T
with_flows Nb fs s = record s { nb = fs }
with_flows Ue fs s = record s { ue = fs }

abbrev pub changed : {T : Type 0} → Side → ℕ → (SentFlow T → SentFlow T) → Sending T → Sending T
changed side lcid f s = with_flows side (changed_on lcid f (flows_of side s)) s

abbrev pub judged : {T : Type 0} → Bool → Sending T → Sending T
judged right s = record s { sent = s.sent && right }

-- ---- lines

abbrev pub bearer_begun : {T : Type 0} → Keeper T → Side → Keys → BearerConfig
    → Option (SentFlow T)
bearer_begun k side keys config =
    let layout = layout_of config.kind config.rlc_bits config.pdcp_bits in
    Some (flow_begun k layout (cover_of layout side config.channel.lcid keys))

abbrev pub with_bearer : {T : Type 0} → Keeper T → BearerConfig → Sending T → Sending T
with_bearer k config s = record s {
  nb = slice_set s.nb config.channel.lcid (bearer_begun k Nb s.keys config);
  ue = slice_set s.ue config.channel.lcid (bearer_begun k Ue s.keys config);
}

abbrev pub line_told : {T : Type 0} → Keeper T → Line → Sending T → Sending T
line_told k (lines.Bearer config options) s = with_bearer k config s
line_told k (lines.Keys keys) s = record s { keys = keys }
line_told k (lines.Handover user rrc integrity) s =
    record s { renewal = Some (next_keys user rrc integrity s.keys) }
line_told k line s = s

abbrev pub after_line : {T : Type 0} → Keeper T → Line → Sending T → Sending T
after_line k line s =
    line_told k line (record s { passed = None; submitted = submitted_by line })

-- ---- an SDU is submitted

-- The SDU of a `submit` line is submitted with its line, before the records of its group, unless a
-- `refused` record of its side and channel stands directly behind the line; a `refused` record
-- elsewhere says nothing. So what becomes of it is told by the first record of the group, or by its
-- end where it has none.

abbrev pub submits_own : {T : Type 0} → Option Submission → Sending T → Sending T
submits_own None s = s
submits_own (Some d) s = changed d.side d.lcid (flow_submitted d.octets) s

abbrev pub released : {T : Type 0} → Option Submission → Sending T → Sending T
released sdu s = submits_own sdu (record s { submitted = None })

-- before a record, which may refuse it
abbrev pub settled : {T : Type 0} → Record → Sending T → Sending T
settled one s = released (unrefused one s.submitted) s

-- ---- records of a flow stand behind the line of its bearer

abbrev pub has_bearer : {T : Type 0} → ℕ → Sending T → Bool
has_bearer lcid s = is_some (flow_at lcid s.nb)

abbrev pub is_known : {T : Type 0} → Option ℕ → Sending T → Bool
is_known None s = true
is_known (Some lcid) s = has_bearer lcid s

abbrev pub lcid_in : Event → Option ℕ
lcid_in (events.Take lcid count len) = Some lcid
lcid_in (events.Report lcid fms bitmap) = Some lcid
lcid_in (events.Send lcid how sn) = Some lcid
lcid_in (events.Wait lcid why) = Some lcid
lcid_in (events.Start lcid clock) = Some lcid
lcid_in (events.Stop lcid clock) = Some lcid
lcid_in (events.Expired lcid clock) = Some lcid
lcid_in (events.Up lcid octets) = Some lcid
lcid_in (events.Fail lcid sn) = Some lcid
lcid_in (events.Drop lcid why) = Some lcid
lcid_in (events.Integrity lcid found wanted) = Some lcid
lcid_in (events.BadMac fault) = None
lcid_in (events.BadRlc lcid fault) = Some lcid
lcid_in (events.BadPdcp lcid fault) = Some lcid
lcid_in (events.Discard lcid len) = Some lcid

-- ---- events, by what PDCP gives RLC before them

abbrev pub sdu_in : {X : Type 0} → given.Keeper X → Side → ℕ → Option (given.Bearer X)
    → Option (List ℕ)
sdu_in g side count None = None
sdu_in g side count (Some b) = g.sdu count (side_of side b).takes

-- of acknowledged data, the SDU of a COUNT
abbrev pub sdu_of : {X : Type 0} → given.Keeper X → Side → ℕ → Option ℕ → Giving X
    → Option (List ℕ)
sdu_of g side lcid None j = None
sdu_of g side lcid (Some count) j = sdu_in g side count (bearer_at lcid j.bearers)

abbrev pub right_in : {T : Type 0} → (SentFlow T → Bool) → Option (SentFlow T) → Bool
right_in right None = true
right_in right (Some f) = right f

-- where the SDU is right, and the bearer is transparent
abbrev pub passed_as : Side → ℕ → Option (List ℕ) → Option PassedSdu
passed_as side lcid None = None
passed_as side lcid (Some sdu) = Some (record { side = side; lcid = lcid; octets = sdu })

abbrev pub passed_in : {T : Type 0} → Side → ℕ → Option (SentFlow T) → Option PassedSdu
passed_in side lcid None = None
passed_in side lcid (Some f) = passed_as side lcid (passed_by f)

abbrev pub take_told : {T : Type 0} → Keeper T → Side → ℕ → Option ℕ → ℕ → Option (List ℕ)
    → Sending T → Sending T
take_told k side lcid count len sdu s =
    let flow = flow_at lcid (flows_of side s) in
    record (judged (right_in (take_right count len sdu) flow)
    (changed side lcid (flow_taken k count len sdu) s)) {
      passed = passed_in side lcid flow;
    }

-- other bearers give no report
abbrev pub gives_reports : {T : Type 0} → Option (SentFlow T) → Bool
gives_reports None = true
gives_reports (Some f) = is_data f.layout

abbrev pub named_of : {T : Type 0} → Side → Sending T → List NamedPdu
named_of Nb s = s.named_nb
named_of Ue s = s.named_ue

abbrev pub with_named : {T : Type 0} → Side → List NamedPdu → Sending T → Sending T
with_named Nb named s = record s { named_nb = named }
with_named Ue named s = record s { named_ue = named }

-- the SDU that was passed on just before
abbrev pub passed_to : Side → ℕ → Option PassedSdu → Option (List ℕ)
passed_to side lcid None = None
passed_to side lcid (Some p) =
    if is_same side p.side && (p.lcid == lcid) then Some p.octets else None

abbrev pub names : {T : Type 0} → Side → ℕ → How → Option PassedSdu → Sending T → Sending T
names side lcid how passed s = with_named side
    (named_of side s
    ++ record { lcid = lcid; how = how; sdu = passed_to side lcid passed } ∷ []) s

-- `passed`: what the record just before passed on
abbrev pub event_told : {T X : Type 0} → Keeper T → given.Keeper X → Side → Event → Giving X
    → Option PassedSdu → Sending T → Sending T
event_told k g side (events.Take lcid count len) j passed s =
    take_told k side lcid count len (sdu_of g side lcid count j) s
event_told k g side (events.Report lcid fms bitmap) j passed s =
    judged (gives_reports (flow_at lcid (flows_of side s)))
    (changed side lcid (flow_reported k fms bitmap) s)
event_told k g side (events.Discard lcid len) j passed s =
    judged (right_in discard_right (flow_at lcid (flows_of side s)))
    (changed side lcid flow_discarded s)
event_told k g side (events.Send lcid how sn) j passed s = names side lcid how passed s
event_told k g side event j passed s = s

-- ---- a new block: its PDUs are those that are named, in their order, on their own channels

abbrev pub with_verdict : {T : Type 0} → Verdict → Sending T → Sending T
with_verdict v s = record s { sent = s.sent && v.sent; shaped = s.shaped && v.shaped }

abbrev pub pdu_told_by : {T : Type 0} → Keeper T → Side → (ℕ → Bool) → NamedPdu → Sdu
    → Option (SentFlow T) → Sending T → Sending T
pdu_told_by k side acked n d None s = s
pdu_told_by k side acked n d (Some f) s =
    let pdu = flow_judges k acked n.how n.sdu d.octets f in
    with_verdict pdu.verdict
    (with_flows side (slice_set (flows_of side s) d.lcid (Some pdu.flow)) s)

abbrev pub acked_at : {X : Type 0} → Side → ℕ → Giving X → ℕ → Bool
acked_at side lcid j = acked_by (account_at side lcid j.kept.journal.flows)

abbrev pub pdu_told : {T X : Type 0} → Keeper T → Side → Giving X → NamedPdu → Sdu → Sending T
    → Sending T
pdu_told k side j n d s = pdu_told_by k side (acked_at side d.lcid j) n d
    (flow_at d.lcid (flows_of side s)) s

abbrev pub pdus_told : {T X : Type 0} → Keeper T → Side → Giving X → List NamedPdu → List Sdu
    → Sending T → Sending T
pdus_told k side j (n ∷ named) (d ∷ sdus) s =
    pdus_told k side j named sdus (pdu_told k side j n d s)
pdus_told k side j named sdus s = s

abbrev pub block_told : {T X : Type 0} → Keeper T → Direction → List ℕ → Giving X → Sending T
    → Sending T
block_told k direction octets j s =
    let from = sender_of direction in
    pdus_told k from j (named_of from s) (sdus_read (reading direction octets))
    (with_named from [] s)

-- ---- a record, by what PDCP gives RLC before it

abbrev pub tells : {T X : Type 0} → Keeper T → given.Keeper X → Record → Giving X
    → Option PassedSdu → Sending T → Sending T
tells k g (records.Of side event) j passed s =
    event_told k g side event j passed (judged (is_known (lcid_in event) s) s)
tells k g (records.Block direction process true version octets) j passed s =
    block_told k direction octets j s
tells k g (records.Looped lcid octets) j passed s =
    changed Ue lcid (flow_submitted octets) (judged (has_bearer lcid s) s)
tells k g (records.Refused side lcid why) j passed s = judged (has_bearer lcid s) s
tells k g one j passed s = s

abbrev pub record_told : {T X : Type 0} → Keeper T → given.Keeper X → Record → Giving X
    → Sending T → Sending T
record_told k g one j s = tells k g one j s.passed (record s { passed = None })

abbrev pub after_record : {T X : Type 0} → Keeper T → given.Keeper X → Record → Giving X
    → Sending T → Sending T
after_record k g one j s = record_told k g one j (settled one s)

-- ---- the end of a group, by what PDCP gives RLC behind it

abbrev pub renewed_by : {T : Type 0} → Keeper T → Option Keys → SentFlow T → SentFlow T
renewed_by k None f = f
renewed_by k (Some keys) f = flow_renewed k keys f

abbrev pub flow_closed : {T X : Type 0} → Keeper T → Option Keys → Side → Giving X → ℕ
    → Option (SentFlow T) → Option (SentFlow T)
flow_closed k renewal side j lcid None = None
flow_closed k renewal side j lcid (Some f) = Some
    (flow_settled k (account_at side lcid j.kept.journal.flows) (renewed_by k renewal f))

abbrev pub keys_behind : Option Keys → Keys → Keys
keys_behind None keys = keys
keys_behind (Some next) keys = next

abbrev pub closed : {T X : Type 0} → Keeper T → Giving X → Sending T → Sending T
closed k j s = record {
  nb = each_from (flow_closed k s.renewal Nb j) 0 s.nb;
  ue = each_from (flow_closed k s.renewal Ue j) 0 s.ue;
  named_nb = [];
  named_ue = [];
  passed = None;
  submitted = None;
  keys = keys_behind s.renewal s.keys;
  renewal = None;
  sent = s.sent;
  shaped = s.shaped;
}

abbrev pub after_group : {T X : Type 0} → Keeper T → Giving X → Sending T → Sending T
after_group k j s = closed k j (released s.submitted s)

-- ---- a journal, group by group, beside what PDCP gives; the newest group stands first

abbrev pub records_told : {T X : Type 0} → Keeper T → given.Keeper X → List Record → Giving X
    → Sending T → Sending T
records_told k g [] j s = s
records_told k g (one ∷ told) j s =
    records_told k g told (giving.after_record g one j)
    (after_record k g one (giving.settled g one j) s)

abbrev pub sending_within : {T X : Type 0} → Keeper T → given.Keeper X → Group → Giving X
    → Sending T → Sending T
sending_within k g now j s = records_told k g now.events (giving.after_line g now.line j)
    (after_line k now.line s)

abbrev pub all_sending : {T X : Type 0} → Keeper T → given.Keeper X → List Group → Sending T
all_sending k g [] = nothing_sending
all_sending k g (now ∷ past) = after_group k (all_given g (now ∷ past))
    (sending_within k g now (all_given g past) (all_sending k g past))
