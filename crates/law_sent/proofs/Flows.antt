-- What is kept of a channel of any kind goes on by its own records alone.
use Rattle.std.proofs.Common.{◌≡◌, ℕ, ◌==◌, Bool, true, false, List, Option, Some, None, option_map, refl, ap}
use Rattle.std.proofs.Common.{sym, ◌∙◌, arith}
use Rattle.std.proofs.lemmas.Bool.{eqb-true, eqb-false}
use Rattle.std.proofs.lemmas.List.{get_or-set_other}
use Rattle.l2_types.specs.declared.side.Side.{Side}
use Rattle.l2_types.specs.declared.side.Side.TheVariants.{Nb, Ue}
use Rattle.mac_pdu.specs.Reading.{reading}
use Rattle.bearer_types.specs.declared.event.Event.{Event}
use Rattle.bearer_types.specs.declared.event.Event.TheVariants as events
use Rattle.bearer_types.specs.Sides.{is_same, sender_of}
use Rattle.air_record.specs.declared.line.Line.{Line}
use Rattle.air_record.specs.declared.line.Line.TheVariants as lines
use Rattle.air_record.specs.declared.record.Record.{Record}
use Rattle.air_record.specs.declared.record.Record.TheVariants as records
use Rattle.air_record.specs.declared.submission.Submission.{Submission}
use Rattle.air_record.specs.Submissions.{unrefused}
use Rattle.journal_flows.specs.Gathering.{sdus_read}
use Rattle.journal_flows.specs.Accounts.{account_at}
use Rattle.journal_given.specs.Supplies as given
use Rattle.journal_sent.specs.declared.checker.PassedSdu.{PassedSdu}
use Rattle.journal_sent.specs.SentPdus.{histories}
use Rattle.journal_sent.specs.SentFlows.{flow_submitted, flow_discarded, flow_taken, flow_reported, flow_settled}
use Rattle.journal_sent.specs.Sending.{changed, judged, sdu_of, take_told, names, named_of, event_told, is_known}
use Rattle.journal_sent.specs.Sending.{lcid_in, has_bearer, acked_at, tells, released, settled, bearer_begun}
use Rattle.journal_sent.specs.Sending.{after_line, after_record, renewed_by, flow_closed, closed, after_group}
use Rattle.journal_sent.specs.RightSent.{Flow, AllSent, Given}
use Rattle.law_sent.specs.Channels.{flow_on, pdus_on, only_at, behind_all, begins_on}
use Rattle.law_sent.specs.Flows.{submits_to, event_on, record_on, FlowsGoOn}
use Rattle.law_sent.proofs.ChannelsFlows.{map_alike, map_itself, each_at, same_flow, changed_flow}
use Rattle.law_sent.proofs.ChannelsNamed.{settled_names}
use Rattle.law_sent.proofs.FlowsBlocks.{block_flow}

-- ---- an SDU is submitted

pub released_flow : (side : Side) (l : ℕ) (o : Option Submission) (s : AllSent)
    → flow_on side l (released o s) ≡ option_map (submits_to side l o) (flow_on side l s)
released_flow side l None s =
    same_flow side l s (record s { submitted = None }) refl refl ∙ sym (map_itself (flow_on side l s))
released_flow side l (Some d) s =
    changed_flow d.side side d.lcid l (flow_submitted d.octets) (record s { submitted = None })
    ∙ ap (option_map (submits_to side l (Some d))) (same_flow side l s (record s { submitted = None }) refl refl)

-- ---- an event

-- at the channel itself, another change may do the same
changed_alike : (at side : Side) (m l : ℕ) (c d : Flow → Flow) (f : Flow) → (at ≡ side → m ≡ l → c f ≡ d f)
    → only_at (is_same at side) (only_at (m == l) c) f ≡ only_at (is_same at side) (only_at (m == l) d) f
changed_alike at side m l c d f same = by at side same
  where
    here : (b : Bool) → (m == l) ≡ b → (m ≡ l → c f ≡ d f) → only_at b c f ≡ only_at b d f
    here true e alike = alike (eqb-true m l e)
    here false e alike = refl

    by : (x y : Side) → (x ≡ y → m ≡ l → c f ≡ d f)
        → only_at (is_same x y) (only_at (m == l) c) f ≡ only_at (is_same x y) (only_at (m == l) d) f
    by Nb Nb alike = here (m == l) refl (alike refl)
    by Nb Ue alike = refl
    by Ue Nb alike = refl
    by Ue Ue alike = here (m == l) refl (alike refl)

take_flow : (at side : Side) (l lcid : ℕ) (count : Option ℕ) (len : ℕ) (j : Given) (s : AllSent)
    → flow_on side l (take_told histories at lcid count len (sdu_of given.histories at lcid count j) s)
    ≡ option_map (only_at (is_same at side) (event_on side l (events.Take lcid count len) j)) (flow_on side l s)
take_flow at side l lcid count len j s =
    same_flow side l (changed at lcid (takes at lcid) s)
    (take_told histories at lcid count len (sdu_of given.histories at lcid count j) s) refl refl
    ∙ changed_flow at side lcid l (takes at lcid) s
    ∙ map_alike (only_at (is_same at side) (only_at (lcid == l) (takes at lcid)))
    (only_at (is_same at side) (event_on side l (events.Take lcid count len) j)) (flow_on side l s)
    (λ f. changed_alike at side lcid l (takes at lcid) (takes side l) f
    (λ to on. ap (λ (m : ℕ). takes at m f) on ∙ ap (λ (x : Side). takes x l f) to))
  where
    takes : Side → ℕ → Flow → Flow
    takes x m = flow_taken histories count len (sdu_of given.histories x m count j)

-- it tells nothing of flows
left_by : (b : Bool) (o : Option Flow) → o ≡ option_map (only_at b (λ (f : Flow). f)) o
left_by b None = refl
left_by true (Some f) = refl
left_by false (Some f) = refl

event_flow : (at side : Side) (l : ℕ) (event : Event) (j : Given) (p : Option PassedSdu) (s : AllSent)
    → flow_on side l (event_told histories given.histories at event j p s)
    ≡ option_map (only_at (is_same at side) (event_on side l event j)) (flow_on side l s)
event_flow at side l (events.Take lcid count len) j p s = take_flow at side l lcid count len j s
event_flow at side l (events.Report lcid fms bitmap) j p s =
    same_flow side l (changed at lcid (flow_reported histories fms bitmap) s)
    (event_told histories given.histories at (events.Report lcid fms bitmap) j p s) refl refl
    ∙ changed_flow at side lcid l (flow_reported histories fms bitmap) s
event_flow at side l (events.Discard lcid len) j p s =
    same_flow side l (changed at lcid flow_discarded s)
    (event_told histories given.histories at (events.Discard lcid len) j p s) refl refl
    ∙ changed_flow at side lcid l flow_discarded s
event_flow Nb side l (events.Send lcid how sn) j p s =
    same_flow side l s (names Nb lcid how p s) refl refl ∙ left_by (is_same Nb side) (flow_on side l s)
event_flow Ue side l (events.Send lcid how sn) j p s =
    same_flow side l s (names Ue lcid how p s) refl refl ∙ left_by (is_same Ue side) (flow_on side l s)
event_flow at side l event j p s = left_by (is_same at side) (flow_on side l s)

-- ---- a record

judged_flow : (b : Bool) (side : Side) (l : ℕ) (s : AllSent) → flow_on side l (judged b s) ≡ flow_on side l s
judged_flow b side l s = same_flow side l s (judged b s) refl refl

tells_flow : (side : Side) (l : ℕ) (one : Record) (j : Given) (p : Option PassedSdu) (s : AllSent)
    → flow_on side l (tells histories given.histories one j p s)
    ≡ option_map (record_on side l one j s) (flow_on side l s)
tells_flow side l (records.Of at event) j p s =
    event_flow at side l event j p (judged (is_known (lcid_in event) s) s)
    ∙ ap (option_map (only_at (is_same at side) (event_on side l event j)))
    (judged_flow (is_known (lcid_in event) s) side l s)
tells_flow side l (records.Block direction process true version octets) j p s = block_flow side direction l octets j s
tells_flow side l (records.Block direction process false version octets) j p s = sym (map_itself (flow_on side l s))
tells_flow side l (records.Looped lcid octets) j p s =
    changed_flow Ue side lcid l (flow_submitted octets) (judged (has_bearer lcid s) s)
    ∙ ap (option_map (only_at (is_same Ue side) (only_at (lcid == l) (flow_submitted octets))))
    (judged_flow (has_bearer lcid s) side l s)
tells_flow side l (records.Refused at lcid why) j p s =
    judged_flow (has_bearer lcid s) side l s ∙ sym (map_itself (flow_on side l s))
tells_flow side l one j p s = sym (map_itself (flow_on side l s))

-- the same PDUs are named
same_behind : (side : Side) (l : ℕ) (one : Record) (j : Given) (s t : AllSent) (f : Flow)
    → ((x : Side) → named_of x t ≡ named_of x s) → record_on side l one j t f ≡ record_on side l one j s f
same_behind side l (records.Block direction process true version octets) j s t f same =
    ap (λ (named : List _). only_at (is_same (sender_of direction) side)
    (behind_all (acked_at side l j) (pdus_on l named (sdus_read (reading direction octets)))) f)
    (same (sender_of direction))
same_behind side l (records.Block direction process false version octets) j s t f same = refl
same_behind side l one j s t f same = refl

record_flow : (side : Side) (l : ℕ) (one : Record) (j : Given) (s : AllSent)
    → flow_on side l (after_record histories given.histories one j s)
    ≡ option_map (record_on side l one j s) (flow_on side l (settled one s))
record_flow side l one j s =
    let t = settled one s in
    let u = record t { passed = None } in
    tells_flow side l one j t.passed u
    ∙ ap (option_map (record_on side l one j u)) (same_flow side l t u refl refl)
    ∙ map_alike (record_on side l one j u) (record_on side l one j s) (flow_on side l t)
    (λ f. same_behind side l one j s u f same)
  where
    same : (x : Side) → named_of x (record (settled one s) { passed = None }) ≡ named_of x s
    same Nb = settled_names one Nb s
    same Ue = settled_names one Ue s

-- ---- a line

line_flow : (side : Side) (l : ℕ) (line : Line) (s : AllSent) → begins_on l line ≡ false
    → flow_on side l (after_line histories line s) ≡ flow_on side l s
line_flow Nb l (lines.Bearer config options) s other =
    get_or-set_other s.nb config.channel.lcid l (bearer_begun histories Nb s.keys config) None
    (λ same. eqb-false config.channel.lcid l other (sym same))
line_flow Ue l (lines.Bearer config options) s other =
    get_or-set_other s.ue config.channel.lcid l (bearer_begun histories Ue s.keys config) None
    (λ same. eqb-false config.channel.lcid l other (sym same))
line_flow side l (lines.Keys keys) s other = same_flow side l s (after_line histories (lines.Keys keys) s) refl refl
line_flow side l (lines.Handover user rrc integrity) s other =
    same_flow side l s (after_line histories (lines.Handover user rrc integrity) s) refl refl
line_flow side l line s other = same_flow side l s (after_line histories line s) refl refl

-- ---- a group ends

slot_closed : (renewal : Option _) (side : Side) (j : Given) (l : ℕ) (o : Option Flow)
    → flow_closed histories renewal side j l o
    ≡ option_map (λ (f : Flow). flow_settled histories (account_at side l j.kept.journal.flows)
    (renewed_by histories renewal f)) o
slot_closed renewal side j l None = refl
slot_closed renewal side j l (Some f) = refl

closed_flow : (side : Side) (l : ℕ) (j : Given) (s : AllSent)
    → flow_on side l (closed histories j s) ≡ flow_closed histories s.renewal side j l (flow_on side l s)
closed_flow side l j s = by side
  where
    by : (x : Side) → flow_on x l (closed histories j s) ≡ flow_closed histories s.renewal x j l (flow_on x l s)
    by Nb = each_at (flow_closed histories s.renewal Nb j) (λ _. refl) 0 l s.nb
        ∙ ap (λ (k : ℕ). flow_closed histories s.renewal Nb j k (flow_on Nb l s)) (omega arith)
    by Ue = each_at (flow_closed histories s.renewal Ue j) (λ _. refl) 0 l s.ue
        ∙ ap (λ (k : ℕ). flow_closed histories s.renewal Ue j k (flow_on Ue l s)) (omega arith)

own_renews : (o : Option Submission) (s : AllSent) → (released o s).renewal ≡ s.renewal
own_renews None s = refl
own_renews (Some d) s = by d.side
  where
    by : (x : Side)
        → (changed x d.lcid (flow_submitted d.octets) (record s { submitted = None })).renewal ≡ s.renewal
    by Nb = refl
    by Ue = refl

group_flow : (side : Side) (l : ℕ) (j : Given) (s : AllSent)
    → flow_on side l (after_group histories j s)
    ≡ option_map (λ (f : Flow). flow_settled histories (account_at side l j.kept.journal.flows)
    (renewed_by histories s.renewal f)) (flow_on side l (released s.submitted s))
group_flow side l j s =
    let t = released s.submitted s in
    closed_flow side l j t
    ∙ ap (λ (renewal : Option _). flow_closed histories renewal side j l (flow_on side l t)) (own_renews s.submitted s)
    ∙ slot_closed s.renewal side j l (flow_on side l t)

pub flows_go_on : FlowsGoOn
flows_go_on side l = record {
  releases = released_flow side l;
  settles = λ one s. released_flow side l (unrefused one s.submitted) s;
  records = record_flow side l;
  lines = line_flow side l;
  ends = group_flow side l;
}
