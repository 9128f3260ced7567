-- Record by record, the verdicts are exact.
use Rattle.std.proofs.Common.{◌≡◌, ℕ, Bool, true, false, ◌&&◌, List, [], ◌∷◌, Option, Some, None, ◌↔◌, refl, ap, sym}
use Rattle.std.proofs.Common.{◌∙◌, subst, slice_set}
use Rattle.std.specs.Prelude.{IfSome, option_map, IsTrue}
use Rattle.std.proofs.lemmas.Bool.{and_parts, and_from}
use Rattle.std.proofs.lemmas.List.{set-get_or}
use Rattle.l2_types.specs.declared.event.How.{How}
use Rattle.l2_types.specs.declared.side.Side.{Side}
use Rattle.l2_types.specs.declared.side.Side.TheVariants.{Nb, Ue}
use Rattle.mac_pdu.specs.declared.builder.Sdu.{Sdu}
use Rattle.mac_pdu.specs.declared.item.Direction.{Direction}
use Rattle.mac_pdu.specs.Reading.{reading}
use Rattle.bearer_types.specs.declared.event.Event.{Event}
use Rattle.bearer_types.specs.declared.event.Event.TheVariants as events
use Rattle.bearer_types.specs.Sides.{sender_of}
use Rattle.air_record.specs.declared.line.Line.{Line}
use Rattle.air_record.specs.declared.line.Line.TheVariants as lines
use Rattle.air_record.specs.declared.record.Record.{Record}
use Rattle.air_record.specs.declared.record.Record.TheVariants as records
use Rattle.air_text.specs.Groups.{Group}
use Rattle.journal_stream.specs.SentOctets.{SentOctets}
use Rattle.journal_takes.specs.FlowTakes.{FlowTakes}
use Rattle.journal_flows.specs.declared.account.Account.{Account}
use Rattle.journal_flows.specs.Gathering.{sdus_read}
use Rattle.journal_flows.specs.Accounts.{Accounts, Keeping, slot_at}
use Rattle.journal_given.specs.Supplies as given
use Rattle.journal_given.specs.Giving.{Giving, all_given}
use Rattle.journal_given.specs.Giving as giving
use Rattle.journal_given.proofs.Images.{giving_image}
use Rattle.journal_sent.specs.declared.checker.NamedPdu.{NamedPdu}
use Rattle.air_record.specs.declared.submission.Submission.{Submission}
use Rattle.air_record.specs.Submissions.{unrefused}
use Rattle.journal_sent.specs.declared.checker.PassedSdu.{PassedSdu}
use Rattle.journal_sent.specs.declared.verdict.Verdict.{Verdict}
use Rattle.journal_sent.specs.SentPdus.{histories, accounts}
use Rattle.journal_sent.specs.SentFlows.{SentFlow, is_data, flow_submitted, discard_right, flow_discarded, take_right}
use Rattle.journal_sent.specs.SentFlows.{flow_taken, flow_reported, flow_judges}
use Rattle.journal_sent.specs.Sending.{Flows, flow_at, changed_on, Sending, nothing_sending, flows_of, with_flows}
use Rattle.journal_sent.specs.Sending.{changed, judged, after_line, has_bearer, is_known, lcid_in, sdu_of, right_in}
use Rattle.journal_sent.specs.Sending.{named_of, with_named, event_told, with_verdict, pdu_told_by, acked_at, pdu_told}
use Rattle.journal_sent.specs.Sending.{pdus_told, block_told, record_told, after_record, submits_own}
use Rattle.journal_sent.specs.Sending.{released, settled, after_group, records_told, sending_within, all_sending}
use Rattle.journal_sent.specs.Sending.{gives_reports}
use Rattle.journal_sent.specs.RightSent.{Flow, PduIsSent, PduIsShaped, PduTest, behind_pdu, EachPdu, InBlock, TakenAs}
use Rattle.journal_sent.specs.RightSent.{DiscardedOf, IsRightEvent, RecordIsSent, RecordIsShaped, RecordTest}
use Rattle.journal_sent.specs.RightSent.{EachRecord, EachGroup, SentIsRight, ShapesAreRight}
use Rattle.journal_sent.specs.Laws.{VerdictsAreExact}
use Rattle.journal_sent.proofs.Grows.{settled_keeps}
use Rattle.journal_sent.proofs.KeptStreams.{Events}
use Rattle.journal_sent.proofs.Tells.{IsSound, Tells, none_tells, pdu_sent, pdu_shaped, take_tells, discard_tells}
use Rattle.journal_sent.proofs.Records.{SlotAlike, AreAlike, plain_step, flow_alike, pdu_both, emptied_both}
use Rattle.journal_sent.proofs.Records.{settled_both}
use Rattle.journal_sent.proofs.Groups.{IsWithin, GiveAlike, record_within, give_alike, all_alike, begun_within}

-- ---- flows are sound

abbrev SoundAt : Option Flow → Type 0
SoundAt o = IfSome o (λ f. IsSound f.stream)

slot_sound : (slot : Option Account) (x : Option Flow) (y : Option (SentFlow SentOctets)) → SlotAlike slot x y
    → SoundAt x
slot_sound slot None y h = tt
slot_sound slot (Some f) None h = absurd h
slot_sound slot (Some f) (Some g) h =
    record { octets = h.at.kept.octets.sent; marks = h.at.kept.marks.sent }

flow_sound : (a : Accounts) (side : Side) (lcid : ℕ) (s : Sending Events) (t : Sending SentOctets) → AreAlike a s t
    → SoundAt (flow_at lcid (flows_of side s))
flow_sound a side lcid s t h = slot_sound (slot_at side lcid a) (flow_at lcid (flows_of side s))
    (flow_at lcid (flows_of side t)) (flow_alike a side lcid s t h)

-- ---- verdicts so far

abbrev Judges : Bool → Bool → Type 0 → Type 0
Judges after before right = after ≡ true ↔ (before ≡ true) × right

with_test : (before test : Bool) (right : Type 0) → Tells test right → Judges (before && test) before right
with_test before test right t =
    (λ e. let both = and_parts before test e in (both.0, t.0 both.1), λ h. and_from before test h.0 (t.1 h.1))

with_none : (after before : Bool) → after ≡ before → Judges after before (Unit {0})
with_none after before same = (λ e. (sym same ∙ e, tt), λ h. same ∙ h.0)

joined : (after mid before : Bool) (first rest : Type 0) → Judges mid before first → Judges after mid rest
    → Judges after before (first × rest)
joined after mid before first rest f r = (
  λ e. let late = r.0 e in let early = f.0 late.0 in (early.0, (early.1, late.1)),
  λ h. r.1 (f.1 (h.0, h.1.0), h.1.1),
)

from_before : (after before start : Bool) (right : Type 0) → before ≡ start → Judges after before right
    → Judges after start right
from_before after before start right same j =
    (λ e. (sym same ∙ (j.0 e).0, (j.0 e).1), λ h. j.1 (same ∙ h.0, h.1))

moved : (after before : Bool) (right other : Type 0) → (right → other) → (other → right) → Judges after before right
    → Judges after before other
moved after before right other there back j = (λ e. ((j.0 e).0, there (j.0 e).1), λ h. j.1 (h.0, back h.1))

-- a verdict that only judgements change
record IsFlag (so_far : Sending Events → Bool) (of : Verdict → Bool) : Type 0 where
  adds : (v : Verdict) (s : Sending Events) → so_far (with_verdict v s) ≡ (so_far s && of v)
  flows : (side : Side) (fs : Flows Events) (s : Sending Events) → so_far (with_flows side fs s) ≡ so_far s
  named : (side : Side) (named : List NamedPdu) (s : Sending Events) → so_far (with_named side named s) ≡ so_far s

flows_sent : (side : Side) (fs : Flows Events) (s : Sending Events) → (with_flows side fs s).sent ≡ s.sent
flows_sent Nb fs s = refl
flows_sent Ue fs s = refl

named_sent : (side : Side) (named : List NamedPdu) (s : Sending Events) → (with_named side named s).sent ≡ s.sent
named_sent Nb named s = refl
named_sent Ue named s = refl

flows_shaped : (side : Side) (fs : Flows Events) (s : Sending Events) → (with_flows side fs s).shaped ≡ s.shaped
flows_shaped Nb fs s = refl
flows_shaped Ue fs s = refl

named_shaped : (side : Side) (named : List NamedPdu) (s : Sending Events)
    → (with_named side named s).shaped ≡ s.shaped
named_shaped Nb named s = refl
named_shaped Ue named s = refl

abbrev sent_of : Sending Events → Bool
sent_of s = s.sent

abbrev shaped_of : Sending Events → Bool
shaped_of s = s.shaped

sent_flag : IsFlag sent_of (λ (v : Verdict). v.sent)
sent_flag = record { adds = λ v s. refl; flows = flows_sent; named = named_sent }

shaped_flag : IsFlag shaped_of (λ (v : Verdict). v.shaped)
shaped_flag = record { adds = λ v s. refl; flows = flows_shaped; named = named_shaped }

-- ---- a new block, by what judges its PDUs

abbrev JudgesPdus : (Verdict → Bool) → PduTest → Type 0
JudgesPdus of right = (acked : ℕ → Bool) (how : How) (passed : Option (List ℕ)) (octets : List ℕ) (f : Flow)
    → IsSound f.stream
    → Tells (of (flow_judges histories acked how passed octets f).verdict) (right acked how passed octets f)

put_flows : (side : Side) (fs : Flows Events) (v : Verdict) (s : Sending Events)
    → flows_of side (with_verdict v (with_flows side fs s)) ≡ fs
put_flows Nb fs v s = refl
put_flows Ue fs v s = refl

flows_behind : (side : Side) (acked : ℕ → Bool) (n : NamedPdu) (d : Sdu) (o : Option Flow) (s : Sending Events)
    → o ≡ flow_at d.lcid (flows_of side s)
    → flows_of side (pdu_told_by histories side acked n d o s)
    ≡ slice_set (flows_of side s) d.lcid (option_map (behind_pdu acked n d) o)
flows_behind side acked n d None s is =
    sym (ap (slice_set (flows_of side s) d.lcid) is ∙ set-get_or (flows_of side s) d.lcid None)
flows_behind side acked n d (Some f) s is =
    put_flows side (slice_set (flows_of side s) d.lcid (Some (behind_pdu acked n d f)))
    (flow_judges histories acked n.how n.sdu d.octets f).verdict s

pdu_exact : (so_far : Sending Events → Bool) (of : Verdict → Bool) (right : PduTest) → IsFlag so_far of
    → JudgesPdus of right → (side : Side) (acked : ℕ → Bool) (n : NamedPdu) (d : Sdu) (o : Option Flow)
    (s : Sending Events) → SoundAt o
    → Judges (so_far (pdu_told_by histories side acked n d o s)) (so_far s)
    (IfSome o (right acked n.how n.sdu d.octets))
pdu_exact so_far of right flag judges side acked n d None s sound = with_none (so_far s) (so_far s) refl
pdu_exact so_far of right flag judges side acked n d (Some f) s sound =
    let own = flow_judges histories acked n.how n.sdu d.octets f in
    let put = with_flows side (slice_set (flows_of side s) d.lcid (Some own.flow)) s in
    let is : so_far (with_verdict own.verdict put) ≡ (so_far s && of own.verdict) =
    flag.adds own.verdict put
    ∙ ap (λ (b : Bool). b && of own.verdict)
    (flag.flows side (slice_set (flows_of side s) d.lcid (Some own.flow)) s) in
    subst (λ (b : Bool). Judges b (so_far s) (right acked n.how n.sdu d.octets f)) (sym is)
    (with_test (so_far s) (of own.verdict) (right acked n.how n.sdu d.octets f)
    (judges acked n.how n.sdu d.octets f sound))

pdus_exact : (so_far : Sending Events → Bool) (of : Verdict → Bool) (right : PduTest) → IsFlag so_far of
    → JudgesPdus of right → (a : Accounts) (side : Side) (g : Giving given.History) (named : List NamedPdu)
    (sdus : List Sdu) (s : Sending Events) (t : Sending SentOctets) → AreAlike a s t
    → Judges (so_far (pdus_told histories side g named sdus s)) (so_far s)
    (EachPdu right (λ (lcid : ℕ). acked_at side lcid g) named sdus (flows_of side s))
pdus_exact so_far of right flag judges a side g [] sdus s t h = with_none (so_far s) (so_far s) refl
pdus_exact so_far of right flag judges a side g (n ∷ named) [] s t h = with_none (so_far s) (so_far s) refl
pdus_exact so_far of right flag judges a side g (n ∷ named) (d ∷ sdus) s t h =
    let after = pdu_told histories side g n d s in
    let o = flow_at d.lcid (flows_of side s) in
    let acked = acked_at side d.lcid g in
    let end = pdus_told histories side g named sdus after in
    let rest = subst (λ (fs : Flows Events). Judges (so_far end) (so_far after)
    (EachPdu right (λ (lcid : ℕ). acked_at side lcid g) named sdus fs))
    (flows_behind side acked n d o s refl)
    (pdus_exact so_far of right flag judges a side g named sdus after (pdu_told accounts side (giving_image g) n d t)
    (pdu_both a side g n d s t h)) in
    joined (so_far end) (so_far after) (so_far s) (IfSome o (right acked n.how n.sdu d.octets))
    (EachPdu right (λ (lcid : ℕ). acked_at side lcid g) named sdus
    (changed_on d.lcid (behind_pdu acked n d) (flows_of side s)))
    (pdu_exact so_far of right flag judges side acked n d o s (flow_sound a side d.lcid s t h)) rest

emptied_flows : (side : Side) (s : Sending Events) → flows_of side (with_named side [] s) ≡ flows_of side s
emptied_flows Nb s = refl
emptied_flows Ue s = refl

block_exact : (so_far : Sending Events → Bool) (of : Verdict → Bool) (right : PduTest) → IsFlag so_far of
    → JudgesPdus of right → (a : Accounts) (direction : Direction) (octets : List ℕ) (g : Giving given.History)
    (s : Sending Events) (t : Sending SentOctets) → AreAlike a s t
    → Judges (so_far (block_told histories direction octets g s)) (so_far s) (InBlock right direction octets g s)
block_exact so_far of right flag judges a direction octets g s t h =
    let from = sender_of direction in
    let named = named_of from s in
    let sdus = sdus_read (reading direction octets) in
    let after = pdus_told histories from g named sdus (with_named from [] s) in
    from_before (so_far after) (so_far (with_named from [] s)) (so_far s) (InBlock right direction octets g s)
    (flag.named from [] s)
    (subst (λ (fs : Flows Events). Judges (so_far after) (so_far (with_named from [] s))
    (EachPdu right (λ (lcid : ℕ). acked_at from lcid g) named sdus fs)) (emptied_flows from s)
    (pdus_exact so_far of right flag judges a from g named sdus (with_named from [] s) (with_named from [] t)
    (emptied_both a from s t h)))

-- ---- an event

right_tells : (test : Flow → Bool) (right : Flow → Type 0) → ((f : Flow) → Tells (test f) (right f)) → (o : Option Flow)
    → Tells (right_in test o) (IfSome o right)
right_tells test right t None = none_tells
right_tells test right t (Some f) = t f

told_exact : (side : Side) (lcid : ℕ) (test : Bool) (right : Type 0) (step : Flow → Flow) → Tells test right
    → (s : Sending Events) → Judges (judged test (changed side lcid step s)).sent s.sent right
told_exact side lcid test right step t s =
    from_before ((changed side lcid step s).sent && test) (changed side lcid step s).sent s.sent right
    (flows_sent side (changed_on lcid step (flows_of side s)) s)
    (with_test (changed side lcid step s).sent test right t)

same_tells : (b : Bool) → Tells b (IsTrue b)
same_tells b = (λ e. e, λ e. e)

reports_tell : (o : Option Flow) → Tells (gives_reports o) (IfSome o (λ f. IsTrue (is_data f.layout)))
reports_tell None = none_tells
reports_tell (Some f) = same_tells (is_data f.layout)

event_sent : (side : Side) (event : Event) (g : Giving given.History) (p : Option PassedSdu) (s : Sending Events)
    → Judges (event_told histories given.histories side event g p s).sent s.sent (IsRightEvent side event g s)
event_sent side (events.Take lcid count len) g p s =
    let sdu = sdu_of given.histories side lcid count g in
    let o = flow_at lcid (flows_of side s) in
    told_exact side lcid (right_in (take_right count len sdu) o) (IfSome o (λ f. TakenAs f.layout count len sdu f))
    (flow_taken histories count len sdu)
    (right_tells (take_right count len sdu) (λ f. TakenAs f.layout count len sdu f) (take_tells count len sdu) o) s
event_sent side (events.Report lcid fms bitmap) g p s =
    let o = flow_at lcid (flows_of side s) in
    told_exact side lcid (gives_reports o) (IfSome o (λ f. IsTrue (is_data f.layout)))
    (flow_reported histories fms bitmap) (reports_tell o) s
event_sent side (events.Discard lcid len) g p s =
    let o = flow_at lcid (flows_of side s) in
    told_exact side lcid (right_in discard_right o) (IfSome o (λ f. DiscardedOf f.layout f)) flow_discarded
    (right_tells discard_right (λ f. DiscardedOf f.layout f) discard_tells o) s
event_sent Nb (events.Send lcid how sn) g p s = with_none s.sent s.sent refl
event_sent Ue (events.Send lcid how sn) g p s = with_none s.sent s.sent refl
event_sent side event g p s = with_none s.sent s.sent refl

event_shaped : (side : Side) (event : Event) (g : Giving given.History) (p : Option PassedSdu) (s : Sending Events)
    → (event_told histories given.histories side event g p s).shaped ≡ s.shaped
event_shaped side (events.Take lcid count len) g p s =
    flows_shaped side (changed_on lcid (flow_taken histories count len (sdu_of given.histories side lcid count g))
    (flows_of side s)) s
event_shaped side (events.Report lcid fms bitmap) g p s =
    flows_shaped side (changed_on lcid (flow_reported histories fms bitmap) (flows_of side s)) s
event_shaped side (events.Discard lcid len) g p s =
    flows_shaped side (changed_on lcid flow_discarded (flows_of side s)) s
event_shaped Nb (events.Send lcid how sn) g p s = refl
event_shaped Ue (events.Send lcid how sn) g p s = refl
event_shaped side event g p s = refl

-- flows alone are looked at
event_moves : (side : Side) (event : Event) (g : Giving given.History) (s told : Sending Events)
    → flows_of side s ≡ flows_of side told → IsRightEvent side event g s → IsRightEvent side event g told
event_moves side (events.Take lcid count len) g s told is r =
    subst (λ (fs : Flows Events). IfSome (flow_at lcid fs)
    (λ f. TakenAs f.layout count len (sdu_of given.histories side lcid count g) f)) is r
event_moves side (events.Report lcid fms bitmap) g s told is r =
    subst (λ (fs : Flows Events). IfSome (flow_at lcid fs) (λ f. IsTrue (is_data f.layout))) is r
event_moves side (events.Discard lcid len) g s told is r =
    subst (λ (fs : Flows Events). IfSome (flow_at lcid fs) (λ f. DiscardedOf f.layout f)) is r
event_moves side event g s told is r = tt

-- ---- a record

abbrev begun : Sending Events → Sending Events
begun s = record s { passed = None }

judged_flows : (side : Side) (b : Bool) (s : Sending Events) → flows_of side (judged b (begun s)) ≡ flows_of side s
judged_flows Nb b s = refl
judged_flows Ue b s = refl

known_begun : (lcid : Option ℕ) (s : Sending Events) → is_known lcid (begun s) ≡ is_known lcid s
known_begun None s = refl
known_begun (Some lcid) s = refl

block_begun : (right : PduTest) (direction : Direction) (octets : List ℕ) (g : Giving given.History)
    (s : Sending Events) (after before : Bool) → Judges after before (InBlock right direction octets g (begun s))
    → Judges after before (InBlock right direction octets g s)
block_begun right direction octets g s after before j =
    by (sender_of direction) j
  where
    by : (from : Side)
        → Judges after before (EachPdu right (λ (lcid : ℕ). acked_at from lcid g) (named_of from (begun s))
        (sdus_read (reading direction octets)) (flows_of from (begun s)))
        → Judges after before (EachPdu right (λ (lcid : ℕ). acked_at from lcid g) (named_of from s)
        (sdus_read (reading direction octets)) (flows_of from s))
    by Nb k = k
    by Ue k = k

begun_alike : (a : Accounts) (s : Sending Events) (t : Sending SentOctets) → AreAlike a s t
    → AreAlike a (begun s) (record t { passed = None })
begun_alike a s t h = plain_step a (λ (x : Sending SentOctets). record x { passed = None }) s (begun s) refl refl
    (λ nb ue. refl) t h

record_sent : (one : Record) (g : Giving given.History) (s : Sending Events) (t : Sending SentOctets)
    → AreAlike g.kept.journal.flows s t
    → Judges (record_told histories given.histories one g s).sent s.sent (RecordIsSent one g s)
record_sent (records.Of side event) g s t h =
    let known = is_known (lcid_in event) (begun s) in
    let after = judged known (begun s) in
    let end = event_told histories given.histories side event g s.passed after in
    joined end.sent after.sent s.sent (IsTrue (is_known (lcid_in event) s)) (IsRightEvent side event g s)
    (subst (λ (b : Bool). Judges (s.sent && b) s.sent (IsTrue (is_known (lcid_in event) s)))
    (sym (known_begun (lcid_in event) s))
    (with_test s.sent (is_known (lcid_in event) s) (IsTrue (is_known (lcid_in event) s))
    (same_tells (is_known (lcid_in event) s))))
    (moved end.sent after.sent (IsRightEvent side event g after) (IsRightEvent side event g s)
    (event_moves side event g after s (judged_flows side known s))
    (event_moves side event g s after (sym (judged_flows side known s)))
    (event_sent side event g s.passed after))
record_sent (records.Block direction process true version octets) g s t h =
    block_begun PduIsSent direction octets g s (block_told histories direction octets g (begun s)).sent s.sent
    (block_exact sent_of (λ (v : Verdict). v.sent) PduIsSent sent_flag pdu_sent g.kept.journal.flows direction octets g
    (begun s) (record t { passed = None }) (begun_alike g.kept.journal.flows s t h))
record_sent (records.Block direction process false version octets) g s t h = with_none s.sent s.sent refl
record_sent (records.Looped lcid octets) g s t h =
    with_test s.sent (has_bearer lcid s) (IsTrue (has_bearer lcid s)) (same_tells (has_bearer lcid s))
record_sent (records.Refused side lcid why) g s t h =
    with_test s.sent (has_bearer lcid s) (IsTrue (has_bearer lcid s)) (same_tells (has_bearer lcid s))
record_sent one g s t h = with_none s.sent s.sent refl

record_shaped : (one : Record) (g : Giving given.History) (s : Sending Events) (t : Sending SentOctets)
    → AreAlike g.kept.journal.flows s t
    → Judges (record_told histories given.histories one g s).shaped s.shaped (RecordIsShaped one g s)
record_shaped (records.Of side event) g s t h =
    let after = judged (is_known (lcid_in event) (begun s)) (begun s) in
    with_none (event_told histories given.histories side event g s.passed after).shaped s.shaped
    (event_shaped side event g s.passed after)
record_shaped (records.Block direction process true version octets) g s t h =
    block_begun PduIsShaped direction octets g s (block_told histories direction octets g (begun s)).shaped s.shaped
    (block_exact shaped_of (λ (v : Verdict). v.shaped) PduIsShaped shaped_flag pdu_shaped g.kept.journal.flows direction
    octets g (begun s) (record t { passed = None }) (begun_alike g.kept.journal.flows s t h))
record_shaped (records.Block direction process false version octets) g s t h = with_none s.shaped s.shaped refl
record_shaped (records.Looped lcid octets) g s t h = with_none s.shaped s.shaped refl
record_shaped (records.Refused side lcid why) g s t h = with_none s.shaped s.shaped refl
record_shaped one g s t h = with_none s.shaped s.shaped refl

-- ---- a journal, by what judges its records

abbrev JudgesRecords : (Sending Events → Bool) → RecordTest → Type 0
JudgesRecords so_far right = (one : Record) (g : Giving given.History) (s : Sending Events) (t : Sending SentOctets)
    → AreAlike g.kept.journal.flows s t
    → Judges (so_far (record_told histories given.histories one g s)) (so_far s) (right one g s)

-- lines, ends of groups and SDUs that are submitted judge nothing
record Rests (so_far : Sending Events → Bool) : Type 0 where
  starts : so_far nothing_sending ≡ true
  lines : (line : Line) (s : Sending Events) → so_far (after_line histories line s) ≡ so_far s
  submits : (o : Option Submission) (s : Sending Events) → so_far (released o s) ≡ so_far s
  ends : (g : Giving given.History) (s : Sending Events) → so_far (after_group histories g s) ≡ so_far s

records_exact : (so_far : Sending Events → Bool) (right : RecordTest) → JudgesRecords so_far right → Rests so_far
    → (told : List Record) (g : Giving given.History) (own : Giving FlowTakes) (s : Sending Events)
    (t : Sending SentOctets) → GiveAlike g own → IsWithin g s t
    → Judges (so_far (records_told histories given.histories told g s)) (so_far s) (EachRecord right told g s)
records_exact so_far right judges rests [] g own s t given_alike h = with_none (so_far s) (so_far s) refl
records_exact so_far right judges rests (one ∷ told) g own s t given_alike h =
    let next = giving.after_record given.histories one g in
    let before = giving.settled given.histories one g in
    let d = settled one s in
    let after = after_record histories given.histories one before s in
    let alike = subst (λ (k : Keeping). AreAlike k.journal.flows d (settled one t)) (sym (settled_keeps one g))
    (settled_both g.kept.journal.flows one s t h.alike) in
    joined (so_far (records_told histories given.histories told next after)) (so_far after) (so_far s)
    (right one before d) (EachRecord right told next after)
    (from_before (so_far after) (so_far d) (so_far s) (right one before d)
    (rests.submits (unrefused one s.submitted) s) (judges one before d (settled one t) alike))
    (records_exact so_far right judges rests told next (giving.after_record given.accounts one own) after
    (after_record accounts given.accounts one (giving.settled given.accounts one own) t)
    (λ rest. given_alike (one ∷ rest)) (record_within one g own s t given_alike h))

line_sent : (line : Line) (s : Sending Events) → (after_line histories line s).sent ≡ s.sent
line_sent (lines.Bearer config options) s = refl
line_sent (lines.Keys keys) s = refl
line_sent (lines.Handover user rrc integrity) s = refl
line_sent line s = refl

line_shaped : (line : Line) (s : Sending Events) → (after_line histories line s).shaped ≡ s.shaped
line_shaped (lines.Bearer config options) s = refl
line_shaped (lines.Keys keys) s = refl
line_shaped (lines.Handover user rrc integrity) s = refl
line_shaped line s = refl

own_sent : (o : Option Submission) (s : Sending Events) → (submits_own o s).sent ≡ s.sent
own_sent None s = refl
own_sent (Some d) s = flows_sent d.side (changed_on d.lcid (flow_submitted d.octets) (flows_of d.side s)) s

own_shaped : (o : Option Submission) (s : Sending Events) → (submits_own o s).shaped ≡ s.shaped
own_shaped None s = refl
own_shaped (Some d) s = flows_shaped d.side (changed_on d.lcid (flow_submitted d.octets) (flows_of d.side s)) s

sent_rests : Rests sent_of
sent_rests = record {
  starts = refl;
  lines = line_sent;
  submits = λ o s. own_sent o (record s { submitted = None });
  ends = λ g s. own_sent s.submitted (record s { submitted = None });
}

shaped_rests : Rests shaped_of
shaped_rests = record {
  starts = refl;
  lines = line_shaped;
  submits = λ o s. own_shaped o (record s { submitted = None });
  ends = λ g s. own_shaped s.submitted (record s { submitted = None });
}

groups_exact : (so_far : Sending Events → Bool) (right : RecordTest) → JudgesRecords so_far right → Rests so_far
    → (past : List Group) → Tells (so_far (all_sending histories given.histories past)) (EachGroup right past)
groups_exact so_far right judges rests [] = (λ e. tt, λ h. rests.starts)
groups_exact so_far right judges rests (now ∷ past) =
    let before = all_sending histories given.histories past in
    let first = after_line histories now.line before in
    let g = giving.after_line given.histories now.line (all_given given.histories past) in
    let behind = sending_within histories given.histories now (all_given given.histories past) before in
    let here = records_exact so_far right judges rests now.events g
    (giving.after_line given.accounts now.line (all_given given.accounts past)) first
    (after_line accounts now.line (all_sending accounts given.accounts past)) (give_alike now past)
    (begun_within now past) in
    let rest = groups_exact so_far right judges rests past in
    let same = rests.ends (all_given given.histories (now ∷ past)) behind in
    let begins = rests.lines now.line before in (
      λ e. let both = here.0 (sym same ∙ e) in (both.1, rest.0 (sym begins ∙ both.0)),
      λ h. same ∙ here.1 (begins ∙ rest.1 h.1, h.0),
    )

through : (b own : Bool) (right : Type 0) → b ≡ own → Tells own right → Tells b right
through b own right same t = (λ e. t.0 (sym same ∙ e), λ h. same ∙ t.1 h)

pub verdicts_are_exact : VerdictsAreExact
verdicts_are_exact past =
    let kept = all_sending accounts given.accounts past in
    let own = all_sending histories given.histories past in
    let is = (all_alike past).is in (
      through kept.sent own.sent (SentIsRight past) (ap (λ (x : Sending SentOctets). x.sent) is)
          (groups_exact sent_of RecordIsSent record_sent sent_rests past),
      through kept.shaped own.shaped (ShapesAreRight past) (ap (λ (x : Sending SentOctets). x.shaped) is)
          (groups_exact shaped_of RecordIsShaped record_shaped shaped_rests past),
    )
