-- What is passed on with the PDUs that `send` records name on a channel, and where no SDU is submitted.
use Rattle.std.proofs.Common.{◌≡◌, ℕ, ◌==◌, Bool, true, false, ◌&&◌, if◌then◌else◌, List, [], ◌∷◌, ◌++◌, map}
use Rattle.std.proofs.Common.{Option, Some, None, option_map, refl, ap, ◌∙◌}
use Rattle.std.proofs.lemmas.Bool.{eq-eqb}
use Rattle.l2_types.specs.declared.event.How.TheVariants as hows
use Rattle.l2_types.specs.declared.side.Side.{Side}
use Rattle.l2_types.specs.declared.side.Side.TheVariants.{Nb, Ue}
use Rattle.mac_pdu.specs.declared.builder.Sdu.{Sdu}
use Rattle.mac_pdu.specs.Reading.{reading}
use Rattle.bearer_types.specs.declared.event.Event.{Event}
use Rattle.bearer_types.specs.declared.event.Event.TheVariants as events
use Rattle.bearer_types.specs.Sides.{is_same, sender_of}
use Rattle.air_record.specs.declared.line.Line.{Line}
use Rattle.air_record.specs.declared.line.Line.TheVariants as lines
use Rattle.air_record.specs.declared.record.Record.{Record}
use Rattle.air_record.specs.declared.record.Record.TheVariants as records
use Rattle.air_record.specs.declared.submission.Submission.{Submission}
use Rattle.air_record.specs.Submissions.{submitted_by, unrefused}
use Rattle.journal_flows.specs.Gathering.{sdus_read}
use Rattle.journal_given.specs.Supplies as given
use Rattle.journal_sent.specs.declared.checker.NamedPdu.{NamedPdu}
use Rattle.journal_sent.specs.declared.checker.PassedSdu.{PassedSdu}
use Rattle.journal_sent.specs.SentPdus.{histories}
use Rattle.journal_sent.specs.SentFlows.{passed_by}
use Rattle.journal_sent.specs.Sending.{Flows, flow_at, with_flows, flows_of, named_of, with_named}
use Rattle.journal_sent.specs.Sending.{judged, lcid_in, is_known, passed_as, passed_in, passed_to, event_told}
use Rattle.journal_sent.specs.Sending.{pdu_told_by, acked_at, pdu_told, pdus_told, tells, released, settled}
use Rattle.journal_sent.specs.Sending.{after_line, after_record}
use Rattle.journal_sent.specs.RightSent.{Flow, AllSent, Given}
use Rattle.law_sent.specs.Channels.{flow_on, SentPdu, pdus_on}
use Rattle.law_sent.specs.Flows.{submits_to, SendsWhatIsPassed}
use Rattle.law_sent.proofs.ChannelsFlows.{map_itself, same_flow}
use Rattle.law_sent.proofs.ChannelsNamed.{names_by, record_names}
use Rattle.law_sent.proofs.Flows.{flows_go_on}

-- ---- no SDU is submitted

-- behind a line that submits none
pub unsubmitted : (line : Line) (s : AllSent) → submitted_by line ≡ None
    → (after_line histories line s).submitted ≡ None
unsubmitted line s none = by line ∙ none
  where
    by : (line' : Line) → (after_line histories line' s).submitted ≡ submitted_by line'
    by (lines.Bearer config options) = refl
    by (lines.Keys keys) = refl
    by (lines.Handover user rrc integrity) = refl
    by line' = refl

flows_submit : (at : Side) (fs : Flows _) (s : AllSent) → (with_flows at fs s).submitted ≡ s.submitted
flows_submit Nb fs s = refl
flows_submit Ue fs s = refl

named_submit : (at : Side) (named : List NamedPdu) (s : AllSent) → (with_named at named s).submitted ≡ s.submitted
named_submit Nb named s = refl
named_submit Ue named s = refl

event_submits : (at : Side) (event : Event) (j : Given) (p : Option PassedSdu) (s : AllSent)
    → (event_told histories given.histories at event j p s).submitted ≡ s.submitted
event_submits at (events.Take lcid count len) j p s = flows_submit at _ s
event_submits at (events.Report lcid fms bitmap) j p s = flows_submit at _ s
event_submits at (events.Discard lcid len) j p s = flows_submit at _ s
event_submits at (events.Send lcid how sn) j p s = named_submit at _ s
event_submits at event j p s = refl

pdu_submits : (at : Side) (acked : ℕ → Bool) (n : NamedPdu) (d : Sdu) (o : Option Flow) (s : AllSent)
    → (pdu_told_by histories at acked n d o s).submitted ≡ s.submitted
pdu_submits at acked n d None s = refl
pdu_submits at acked n d (Some f) s = flows_submit at _ s

pdus_submit : (at : Side) (j : Given) (named : List NamedPdu) (sdus : List Sdu) (s : AllSent)
    → (pdus_told histories at j named sdus s).submitted ≡ s.submitted
pdus_submit at j [] sdus s = refl
pdus_submit at j (n ∷ named) [] s = refl
pdus_submit at j (n ∷ named) (d ∷ sdus) s =
    pdus_submit at j named sdus (pdu_told histories at j n d s)
    ∙ pdu_submits at (acked_at at d.lcid j) n d (flow_at d.lcid (flows_of at s)) s

tells_submit : (one : Record) (j : Given) (p : Option PassedSdu) (s : AllSent)
    → (tells histories given.histories one j p s).submitted ≡ s.submitted
tells_submit (records.Of at event) j p s = event_submits at event j p (judged (is_known (lcid_in event) s) s)
tells_submit (records.Block direction process true version octets) j p s =
    let from = sender_of direction in
    pdus_submit from j (named_of from s) (sdus_read (reading direction octets)) (with_named from [] s)
    ∙ named_submit from [] s
tells_submit (records.Block direction process false version octets) j p s = refl
tells_submit (records.Looped lcid octets) j p s = refl
tells_submit (records.Refused at lcid why) j p s = refl
tells_submit one j p s = refl

-- behind any record
pub record_unsubmitted : (one : Record) (j : Given) (s : AllSent)
    → (after_record histories given.histories one j s).submitted ≡ None
record_unsubmitted one j s =
    let t = settled one s in
    tells_submit one j t.passed (record t { passed = None }) ∙ by (unrefused one s.submitted)
  where
    by : (o : Option Submission) → (released o s).submitted ≡ None
    by None = refl
    by (Some d) = flows_submit d.side _ (record s { submitted = None })

-- so a record finds the flows as they are
pub unsubmitted_flow : (side : Side) (l : ℕ) (one : Record) (s : AllSent) → s.submitted ≡ None
    → flow_on side l (settled one s) ≡ flow_on side l s
unsubmitted_flow side l one s none =
    (flows_go_on side l).settles one s
    ∙ ap (λ (o : Option Submission). option_map (submits_to side l (unrefused one o)) (flow_on side l s)) none
    ∙ map_itself (flow_on side l s)

-- ---- what is passed on with each PDU that is named on a channel

abbrev pub passed_on : ℕ → List NamedPdu → List (Option (List ℕ))
passed_on l [] = []
passed_on l (n ∷ named) = (if n.lcid == l then n.sdu ∷ [] else []) ++ passed_on l named

-- where each PDU has the LCID of its SDU
pub passed_pdus : (l : ℕ) (named : List NamedPdu) (sdus : List Sdu)
    → map (λ (n : NamedPdu). n.lcid) named ≡ map (λ (d : Sdu). d.lcid) sdus
    → map (λ (p : SentPdu). p.passed) (pdus_on l named sdus) ≡ passed_on l named
passed_pdus l [] sdus same = refl
passed_pdus l (n ∷ named) [] same = absurd cc
passed_pdus l (n ∷ named) (d ∷ sdus) same =
    by (d.lcid == l) (passed_pdus l named sdus cc)
    ∙ ap (λ (m : ℕ). (if m == l then n.sdu ∷ [] else []) ++ passed_on l named) first
  where
    first : d.lcid ≡ n.lcid
    first = cc

    by : (b : Bool) → map (λ (p : SentPdu). p.passed) (pdus_on l named sdus) ≡ passed_on l named
        → map (λ (p : SentPdu). p.passed)
        ((if b then record { how = n.how; passed = n.sdu; octets = d.octets } ∷ [] else []) ++ pdus_on l named sdus)
        ≡ (if b then n.sdu ∷ [] else []) ++ passed_on l named
    by true rest = ap (λ (os : List (Option (List ℕ))). n.sdu ∷ os) rest
    by false rest = rest

-- ---- other records leave it

-- a PDU is named on the channel of the side, or those that are named are sent
abbrev pub names_on : Side → ℕ → Record → Bool
names_on side l (records.Of at (events.Send lcid how sn)) = is_same at side && (lcid == l)
names_on side l (records.Block direction process true version octets) = is_same (sender_of direction) side
names_on side l one = false

passed_more : (l : ℕ) (named : List NamedPdu) (n : NamedPdu) → (n.lcid == l) ≡ false
    → passed_on l (named ++ n ∷ []) ≡ passed_on l named
passed_more l [] n apart = ap (λ (b : Bool). (if b then n.sdu ∷ [] else []) ++ []) apart
passed_more l (m ∷ named) n apart =
    ap (λ (os : List (Option (List ℕ))). (if m.lcid == l then m.sdu ∷ [] else []) ++ os) (passed_more l named n apart)

names_left : (side : Side) (l : ℕ) (one : Record) (p : Option PassedSdu) (named : List NamedPdu)
    → names_on side l one ≡ false → passed_on l (names_by side one p named) ≡ passed_on l named
names_left side l (records.Of at (events.Send lcid how sn)) p named apart = by (is_same at side) apart
  where
    n : NamedPdu
    n = record { lcid = lcid; how = how; sdu = passed_to at lcid p }

    by : (b : Bool) → (b && (lcid == l)) ≡ false
        → passed_on l (if b then named ++ n ∷ [] else named) ≡ passed_on l named
    by true e = passed_more l named n e
    by false e = refl
names_left side l (records.Block direction process true version octets) p named apart =
    ap (λ (b : Bool). passed_on l (if b then [] else named)) apart
names_left side l (records.Block direction process false version octets) p named apart = refl
names_left side l (records.Of at event) p named apart = refl
names_left side l one p named apart = refl

pub passed_left : (side : Side) (l : ℕ) (one : Record) (j : Given) (s : AllSent) → names_on side l one ≡ false
    → passed_on l (named_of side (after_record histories given.histories one j s))
    ≡ passed_on l (named_of side s)
passed_left side l one j s apart =
    ap (passed_on l) (record_names side one j s) ∙ names_left side l one s.passed (named_of side s) apart

-- ---- a transparent SDU that is taken is what the `send` behind it passes on

passed_back : (side : Side) (l : ℕ) (o : Option (List ℕ)) → passed_to side l (passed_as side l o) ≡ o
passed_back side l None = refl
passed_back Nb l (Some sdu) = ap (λ (b : Bool). if b then Some sdu else None) (eq-eqb l l refl)
passed_back Ue l (Some sdu) = ap (λ (b : Bool). if b then Some sdu else None) (eq-eqb l l refl)

passes_taken : (side : Side) (l len : ℕ) (i : Given) (s : AllSent) (f : Flow) → s.submitted ≡ None
    → flow_on side l s ≡ Some f
    → (after_record histories given.histories (records.Of side (events.Take l None len)) i s).passed
    ≡ passed_as side l (passed_by f)
passes_taken side l len i s f none is =
    let one = records.Of side (events.Take l None len) in
    let t = settled one s in
    let u = record t { passed = None } in
    ap (passed_in side l)
    (same_flow side l t (judged (is_known (Some l) u) u) refl refl ∙ unsubmitted_flow side l one s none ∙ is)

one_more : (side : Side) (l : ℕ) (p : Option PassedSdu) (named : List NamedPdu)
    → names_by side (records.Of side (events.Send l hows.Tm 0)) p named
    ≡ named ++ record { lcid = l; how = hows.Tm; sdu = passed_to side l p } ∷ []
one_more Nb l p named = refl
one_more Ue l p named = refl

pub sends_what_is_passed : SendsWhatIsPassed
sends_what_is_passed side l len i j s f none is cover =
    let take' = records.Of side (events.Take l None len) in
    let taken = after_record histories given.histories take' i s in
    let more : List NamedPdu → Option (List ℕ) → List NamedPdu =
    λ named sdu. named ++ record { lcid = l; how = hows.Tm; sdu = sdu } ∷ [] in
    record_names side (records.Of side (events.Send l hows.Tm 0)) j taken
    ∙ one_more side l taken.passed (named_of side taken)
    ∙ ap (λ (named : List NamedPdu). more named (passed_to side l taken.passed)) (record_names side take' i s)
    ∙ ap (more (named_of side s))
    (ap (passed_to side l) (passes_taken side l len i s f none is) ∙ passed_back side l (passed_by f))
