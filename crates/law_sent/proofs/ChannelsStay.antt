-- Channels stay 0 to 10 through a journal.
use Rattle.std.proofs.Common.{◌≡◌, ℕ, suc, ◌+◌, Bool, true, false, List, [], ◌∷◌, length, Option, Some, None}
use Rattle.std.proofs.Common.{option_map, refl, ap, ◌∙◌}
use Rattle.std.proofs.lemmas.List.{length-set}
use Rattle.l2_types.specs.declared.side.Side.{Side}
use Rattle.l2_types.specs.declared.side.Side.TheVariants.{Nb, Ue}
use Rattle.mac_pdu.specs.declared.builder.Sdu.{Sdu}
use Rattle.mac_pdu.specs.declared.item.Direction.TheVariants as directions
use Rattle.mac_pdu.specs.Reading.{reading}
use Rattle.bearer_types.specs.declared.event.Event.{Event}
use Rattle.bearer_types.specs.declared.event.Event.TheVariants as events
use Rattle.air_record.specs.declared.line.Line.{Line}
use Rattle.air_record.specs.declared.line.Line.TheVariants as lines
use Rattle.air_record.specs.declared.record.Record.{Record}
use Rattle.air_record.specs.declared.record.Record.TheVariants as records
use Rattle.air_record.specs.declared.submission.Submission.{Submission}
use Rattle.air_record.specs.Submissions.{unrefused}
use Rattle.journal_flows.specs.Gathering.{sdus_read}
use Rattle.journal_given.specs.Supplies as given
use Rattle.journal_given.specs.Giving.{each_from}
use Rattle.journal_sent.specs.declared.checker.NamedPdu.{NamedPdu}
use Rattle.journal_sent.specs.declared.checker.PassedSdu.{PassedSdu}
use Rattle.journal_sent.specs.SentPdus.{histories}
use Rattle.journal_sent.specs.SentFlows.{flow_submitted, flow_discarded, flow_taken, flow_reported, flow_judges}
use Rattle.journal_sent.specs.Sending.{flow_at, flows_of, changed, nothing_sending, bearer_begun, after_line}
use Rattle.journal_sent.specs.Sending.{submits_own, released, settled, is_known, lcid_in, has_bearer, sdu_of}
use Rattle.journal_sent.specs.Sending.{event_told, judged, with_named, pdu_told_by, acked_at, pdu_told, pdus_told}
use Rattle.journal_sent.specs.Sending.{tells, after_record, flow_closed, closed, after_group}
use Rattle.journal_sent.specs.RightSent.{Flow, AllSent, Given}
use Rattle.law_sent.specs.Channels.{HasChannels}

as_many : (s t : AllSent) → length t.nb ≡ length s.nb → length t.ue ≡ length s.ue → HasChannels s → HasChannels t
as_many s t nb ue h = record { nb = nb ∙ h.nb; ue = ue ∙ h.ue }

changed_have : (at : Side) (lcid : ℕ) (c : Flow → Flow) (s : AllSent) → HasChannels s
    → HasChannels (changed at lcid c s)
changed_have Nb lcid c s h =
    as_many s (changed Nb lcid c s) (length-set s.nb lcid (option_map c (flow_at lcid s.nb))) refl h
changed_have Ue lcid c s h =
    as_many s (changed Ue lcid c s) refl (length-set s.ue lcid (option_map c (flow_at lcid s.ue))) h

-- ---- a record

event_have : (at : Side) (event : Event) (j : Given) (p : Option PassedSdu) (s : AllSent) → HasChannels s
    → HasChannels (event_told histories given.histories at event j p s)
event_have at (events.Take lcid count len) j p s h =
    let own = changed_have at lcid (flow_taken histories count len (sdu_of given.histories at lcid count j)) s h in
    record { nb = own.nb; ue = own.ue }
event_have at (events.Report lcid fms bitmap) j p s h =
    let own = changed_have at lcid (flow_reported histories fms bitmap) s h in record { nb = own.nb; ue = own.ue }
event_have at (events.Discard lcid len) j p s h =
    let own = changed_have at lcid flow_discarded s h in record { nb = own.nb; ue = own.ue }
event_have Nb (events.Send lcid how sn) j p s h = record { nb = h.nb; ue = h.ue }
event_have Ue (events.Send lcid how sn) j p s h = record { nb = h.nb; ue = h.ue }
event_have at event j p s h = h

pdu_have : (at : Side) (acked : ℕ → Bool) (n : NamedPdu) (d : Sdu) (o : Option Flow) (s : AllSent) → HasChannels s
    → HasChannels (pdu_told_by histories at acked n d o s)
pdu_have at acked n d None s h = h
pdu_have Nb acked n d (Some f) s h =
    let flow = (flow_judges histories acked n.how n.sdu d.octets f).flow in
    as_many s (pdu_told_by histories Nb acked n d (Some f) s) (length-set s.nb d.lcid (Some flow)) refl h
pdu_have Ue acked n d (Some f) s h =
    let flow = (flow_judges histories acked n.how n.sdu d.octets f).flow in
    as_many s (pdu_told_by histories Ue acked n d (Some f) s) refl (length-set s.ue d.lcid (Some flow)) h

pdus_have : (at : Side) (j : Given) (named : List NamedPdu) (sdus : List Sdu) (s : AllSent) → HasChannels s
    → HasChannels (pdus_told histories at j named sdus s)
pdus_have at j [] sdus s h = h
pdus_have at j (n ∷ named) [] s h = h
pdus_have at j (n ∷ named) (d ∷ sdus) s h =
    pdus_have at j named sdus (pdu_told histories at j n d s)
    (pdu_have at (acked_at at d.lcid j) n d (flow_at d.lcid (flows_of at s)) s h)

tells_have : (one : Record) (j : Given) (p : Option PassedSdu) (s : AllSent) → HasChannels s
    → HasChannels (tells histories given.histories one j p s)
tells_have (records.Of at event) j p s h =
    event_have at event j p (judged (is_known (lcid_in event) s) s) (record { nb = h.nb; ue = h.ue })
tells_have (records.Block directions.Down process true version octets) j p s h =
    pdus_have Nb j s.named_nb (sdus_read (reading directions.Down octets)) (with_named Nb [] s)
    (record { nb = h.nb; ue = h.ue })
tells_have (records.Block directions.Up process true version octets) j p s h =
    pdus_have Ue j s.named_ue (sdus_read (reading directions.Up octets)) (with_named Ue [] s)
    (record { nb = h.nb; ue = h.ue })
tells_have (records.Block direction process false version octets) j p s h = h
tells_have (records.Looped lcid octets) j p s h =
    changed_have Ue lcid (flow_submitted octets) (judged (has_bearer lcid s) s) (record { nb = h.nb; ue = h.ue })
tells_have (records.Refused side lcid why) j p s h = record { nb = h.nb; ue = h.ue }
tells_have one j p s h = h

own_have : (o : Option Submission) (s : AllSent) → HasChannels s → HasChannels (submits_own o s)
own_have None s h = h
own_have (Some d) s h = changed_have d.side d.lcid (flow_submitted d.octets) s h

released_have : (o : Option Submission) (s : AllSent) → HasChannels s → HasChannels (released o s)
released_have o s h = own_have o (record s { submitted = None }) (record { nb = h.nb; ue = h.ue })

pub record_has : (one : Record) (j : Given) (s : AllSent) → HasChannels s
    → HasChannels (after_record histories given.histories one j s)
record_has one j s h =
    let t = settled one s in
    let own = released_have (unrefused one s.submitted) s h in
    tells_have one j t.passed (record t { passed = None }) (record { nb = own.nb; ue = own.ue })

-- ---- a line, and the end of its group

pub line_has : (line : Line) (s : AllSent) → HasChannels s → HasChannels (after_line histories line s)
line_has (lines.Bearer config options) s h =
    as_many s (after_line histories (lines.Bearer config options) s)
    (length-set s.nb config.channel.lcid (bearer_begun histories Nb s.keys config))
    (length-set s.ue config.channel.lcid (bearer_begun histories Ue s.keys config)) h
line_has (lines.Keys keys) s h = record { nb = h.nb; ue = h.ue }
line_has (lines.Handover user rrc integrity) s h = record { nb = h.nb; ue = h.ue }
line_has line s h = record { nb = h.nb; ue = h.ue }

each_long : {A : Type 0} (f : ℕ → A → A) (n : ℕ) (xs : List A) → length (each_from f n xs) ≡ length xs
each_long f n [] = refl
each_long f n (x ∷ xs) = ap suc (each_long f (n + 1) xs)

closed_have : (j : Given) (s : AllSent) → HasChannels s → HasChannels (closed histories j s)
closed_have j s h =
    as_many s (closed histories j s) (each_long (flow_closed histories s.renewal Nb j) 0 s.nb)
    (each_long (flow_closed histories s.renewal Ue j) 0 s.ue) h

pub group_has : (j : Given) (s : AllSent) → HasChannels s → HasChannels (after_group histories j s)
group_has j s h = closed_have j (released s.submitted s) (released_have s.submitted s h)

pub nothing_has : HasChannels nothing_sending
nothing_has = record { nb = refl; ue = refl }
