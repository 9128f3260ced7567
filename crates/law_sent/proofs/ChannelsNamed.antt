-- What `send` records name behind the last new block is gathered beside flows as it is where PDUs are checked.
use Rattle.std.proofs.Common.{◌≡◌, ℕ, Bool, true, false, if◌then◌else◌, List, [], ◌∷◌, ◌++◌, Option, Some, None}
use Rattle.std.proofs.Common.{map, refl, ap, sym, ◌∙◌}
use Rattle.std.proofs.lemmas.List.{map-append}
use Rattle.l2_types.specs.declared.side.Side.{Side}
use Rattle.l2_types.specs.declared.side.Side.TheVariants.{Nb, Ue}
use Rattle.mac_pdu.specs.declared.builder.Sdu.{Sdu}
use Rattle.mac_pdu.specs.declared.item.Direction.TheVariants as directions
use Rattle.mac_pdu.specs.Reading.{reading}
use Rattle.bearer_types.specs.declared.event.Event.{Event}
use Rattle.bearer_types.specs.declared.event.Event.TheVariants as events
use Rattle.bearer_types.specs.Sides.{is_same, sender_of}
use Rattle.air_record.specs.declared.record.Arrived.TheVariants as arrived
use Rattle.air_record.specs.declared.record.Record.{Record}
use Rattle.air_record.specs.declared.record.Record.TheVariants as records
use Rattle.air_record.specs.declared.submission.Submission.{Submission}
use Rattle.air_record.specs.Submissions.{unrefused}
use Rattle.pdu_show.specs.declared.kinds.Layout.{Layout}
use Rattle.journal_flows.specs.declared.sending.Named.{Named}
use Rattle.journal_flows.specs.FlowsTold.{Histories}
use Rattle.journal_flows.specs.Gathering.{Gatherer, Journal, sending_of, sdus_read, behind_event}
use Rattle.journal_flows.specs.Gathering.{behind_record}
use Rattle.journal_given.specs.Supplies as given
use Rattle.journal_sent.specs.declared.checker.NamedPdu.{NamedPdu}
use Rattle.journal_sent.specs.declared.checker.PassedSdu.{PassedSdu}
use Rattle.journal_sent.specs.SentPdus.{histories}
use Rattle.journal_sent.specs.SentFlows.{flow_submitted}
use Rattle.journal_sent.specs.Sending.{Flows, flow_at, with_flows, changed_on, flows_of, judged, is_known, lcid_in}
use Rattle.journal_sent.specs.Sending.{passed_to, named_of, with_named, event_told, pdu_told_by, acked_at, pdu_told}
use Rattle.journal_sent.specs.Sending.{pdus_told, tells, submits_own, released, settled}
use Rattle.journal_sent.specs.Sending.{after_record}
use Rattle.journal_sent.specs.RightSent.{Flow, AllSent, Given}

-- ---- what `send` records name

abbrev pub as_named : List NamedPdu → List Named
as_named named = map (λ (n : NamedPdu). record { lcid = n.lcid; how = n.how }) named

abbrev pub AreNamedAlike : Journal Histories → AllSent → Type 0
AreNamedAlike j s = (side : Side) → (sending_of side j).named ≡ as_named (named_of side s)

-- what a record leaves named on a side
abbrev named_by : Side → Record → List Named → List Named
named_by side (records.Of at (events.Send lcid how sn)) named =
    if is_same at side then named ++ record { lcid = lcid; how = how } ∷ [] else named
named_by side (records.Block direction process true version octets) named =
    if is_same (sender_of direction) side then [] else named
named_by side one named = named

-- ---- beside flows

module _ {F : Type 0} (g : Gatherer F) (kinds : List (Option Layout)) (more : Bool) where
  event_gathered : (at side : Side) (event : Event) (j : Journal F)
      → (sending_of side (behind_event g kinds more at event j)).named
      ≡ named_by side (records.Of at event) (sending_of side j).named
  event_gathered Nb Nb (events.Send lcid how sn) j = refl
  event_gathered Nb Ue (events.Send lcid how sn) j = refl
  event_gathered Ue Nb (events.Send lcid how sn) j = refl
  event_gathered Ue Ue (events.Send lcid how sn) j = refl
  event_gathered at Nb event j = refl
  event_gathered at Ue event j = refl

  record_gathered : (side : Side) (one : Record) (j : Journal F)
      → (sending_of side (behind_record g kinds more one j)).named ≡ named_by side one (sending_of side j).named
  record_gathered side (records.Of at event) j = event_gathered at side event j
  record_gathered Nb (records.Block directions.Down process true version octets) j = refl
  record_gathered Ue (records.Block directions.Down process true version octets) j = refl
  record_gathered Nb (records.Block directions.Up process true version octets) j = refl
  record_gathered Ue (records.Block directions.Up process true version octets) j = refl
  record_gathered Nb (records.Block directions.Down process false version octets) j = refl
  record_gathered Ue (records.Block directions.Down process false version octets) j = refl
  record_gathered Nb (records.Block directions.Up process false version octets) j = refl
  record_gathered Ue (records.Block directions.Up process false version octets) j = refl
  record_gathered Nb (records.Air direction arrived.Got heard) j = refl
  record_gathered Ue (records.Air direction arrived.Got heard) j = refl
  record_gathered side (records.Air direction what heard) j = refl
  record_gathered side one j = refl

-- ---- where PDUs are checked

flows_name : (at side : Side) (fs : Flows _) (s : AllSent) → named_of side (with_flows at fs s) ≡ named_of side s
flows_name Nb Nb fs s = refl
flows_name Nb Ue fs s = refl
flows_name Ue Nb fs s = refl
flows_name Ue Ue fs s = refl

-- an SDU is submitted
own_names : (o : Option Submission) (side : Side) (s : AllSent) → named_of side (submits_own o s) ≡ named_of side s
own_names None side s = refl
own_names (Some d) side s =
    flows_name d.side side (changed_on d.lcid (flow_submitted d.octets) (flows_of d.side s)) s

pub released_names : (o : Option Submission) (side : Side) (s : AllSent)
    → named_of side (released o s) ≡ named_of side s
released_names o Nb s = own_names o Nb (record s { submitted = None })
released_names o Ue s = own_names o Ue (record s { submitted = None })

pub settled_names : (one : Record) (side : Side) (s : AllSent) → named_of side (settled one s) ≡ named_of side s
settled_names one side s = released_names (unrefused one s.submitted) side s

-- what the record just before passed on
passes_on : (one : Record) (s : AllSent) → (settled one s).passed ≡ s.passed
passes_on one s = by (unrefused one s.submitted)
  where
    at_side : (x : Side) (fs : Flows _)
        → (with_flows x fs (record s { submitted = None })).passed ≡ s.passed
    at_side Nb fs = refl
    at_side Ue fs = refl

    by : (o : Option Submission) → (released o s).passed ≡ s.passed
    by None = refl
    by (Some d) =
        at_side d.side
        (changed_on d.lcid (flow_submitted d.octets) (flows_of d.side (record s { submitted = None })))

-- what a record leaves named on a side, where the one just before passed on `p`
abbrev pub names_by : Side → Record → Option PassedSdu → List NamedPdu → List NamedPdu
names_by side (records.Of at (events.Send lcid how sn)) p named =
    if is_same at side then named ++ record { lcid = lcid; how = how; sdu = passed_to at lcid p } ∷ [] else named
names_by side (records.Block direction process true version octets) p named =
    if is_same (sender_of direction) side then [] else named
names_by side one p named = named

event_names : (at side : Side) (event : Event) (j : Given) (p : Option PassedSdu) (s : AllSent)
    → named_of side (event_told histories given.histories at event j p s)
    ≡ names_by side (records.Of at event) p (named_of side s)
event_names Nb Nb (events.Send lcid how sn) j p s = refl
event_names Nb Ue (events.Send lcid how sn) j p s = refl
event_names Ue Nb (events.Send lcid how sn) j p s = refl
event_names Ue Ue (events.Send lcid how sn) j p s = refl
event_names Nb Nb event j p s = refl
event_names Nb Ue event j p s = refl
event_names Ue Nb event j p s = refl
event_names Ue Ue event j p s = refl

-- the PDUs of a block
pdu_names : (at side : Side) (acked : ℕ → Bool) (n : NamedPdu) (d : Sdu) (o : Option Flow) (s : AllSent)
    → named_of side (pdu_told_by histories at acked n d o s) ≡ named_of side s
pdu_names at side acked n d None s = refl
pdu_names Nb Nb acked n d (Some f) s = refl
pdu_names Nb Ue acked n d (Some f) s = refl
pdu_names Ue Nb acked n d (Some f) s = refl
pdu_names Ue Ue acked n d (Some f) s = refl

pdus_name : (at side : Side) (j : Given) (named : List NamedPdu) (sdus : List Sdu) (s : AllSent)
    → named_of side (pdus_told histories at j named sdus s) ≡ named_of side s
pdus_name at side j [] sdus s = refl
pdus_name at side j (n ∷ named) [] s = refl
pdus_name at side j (n ∷ named) (d ∷ sdus) s =
    pdus_name at side j named sdus (pdu_told histories at j n d s)
    ∙ pdu_names at side (acked_at at d.lcid j) n d (flow_at d.lcid (flows_of at s)) s

unnamed : (at side : Side) (s : AllSent)
    → named_of side (with_named at [] s) ≡ (if is_same at side then [] else named_of side s)
unnamed Nb Nb s = refl
unnamed Nb Ue s = refl
unnamed Ue Nb s = refl
unnamed Ue Ue s = refl

tells_names : (side : Side) (one : Record) (j : Given) (p : Option PassedSdu) (s : AllSent)
    → named_of side (tells histories given.histories one j p s) ≡ names_by side one p (named_of side s)
tells_names Nb (records.Of at event) j p s = event_names at Nb event j p (judged (is_known (lcid_in event) s) s)
tells_names Ue (records.Of at event) j p s = event_names at Ue event j p (judged (is_known (lcid_in event) s) s)
tells_names side (records.Block direction process true version octets) j p s =
    let from = sender_of direction in
    pdus_name from side j (named_of from s) (sdus_read (reading direction octets)) (with_named from [] s)
    ∙ unnamed from side s
tells_names side (records.Block direction process false version octets) j p s = refl
tells_names Nb (records.Looped lcid octets) j p s = refl
tells_names Ue (records.Looped lcid octets) j p s = refl
tells_names Nb (records.Refused at lcid why) j p s = refl
tells_names Ue (records.Refused at lcid why) j p s = refl
tells_names side one j p s = refl

pub record_names : (side : Side) (one : Record) (j : Given) (s : AllSent)
    → named_of side (after_record histories given.histories one j s)
    ≡ names_by side one s.passed (named_of side s)
record_names side one j s =
    tells_names side one j (settled one s).passed (record (settled one s) { passed = None })
    ∙ ap (names_by side one (settled one s).passed) (by side)
    ∙ ap (λ (p : Option PassedSdu). names_by side one p (named_of side s)) (passes_on one s)
  where
    by : (x : Side) → named_of x (record (settled one s) { passed = None }) ≡ named_of x s
    by Nb = settled_names one Nb s
    by Ue = settled_names one Ue s

-- ---- both

as_names : (side : Side) (one : Record) (p : Option PassedSdu) (named : List NamedPdu)
    → as_named (names_by side one p named) ≡ named_by side one (as_named named)
as_names side (records.Of at (events.Send lcid how sn)) p named = by (is_same at side)
  where
    n : NamedPdu
    n = record { lcid = lcid; how = how; sdu = passed_to at lcid p }

    by : (b : Bool)
        → as_named (if b then named ++ n ∷ [] else named)
        ≡ (if b then as_named named ++ record { lcid = lcid; how = how } ∷ [] else as_named named)
    by true = map-append (λ (m : NamedPdu). record { lcid = m.lcid; how = m.how }) named (n ∷ [])
    by false = refl
as_names side (records.Block direction process true version octets) p named = by (is_same (sender_of direction) side)
  where
    by : (b : Bool) → as_named (if b then [] else named) ≡ (if b then [] else as_named named)
    by true = refl
    by false = refl
as_names side (records.Block direction process false version octets) p named = refl
as_names side (records.Of at event) p named = refl
as_names side one p named = refl

pub named_alike_records : (g : Gatherer Histories) (kinds : List (Option Layout)) (more : Bool) (one : Record)
    (given' : Given) (j : Journal Histories) (s : AllSent) → AreNamedAlike j s
    → AreNamedAlike (behind_record g kinds more one j) (after_record histories given.histories one given' s)
named_alike_records g kinds more one given' j s h side =
    record_gathered g kinds more side one j ∙ ap (named_by side one) (h side)
    ∙ sym (ap as_named (record_names side one given' s) ∙ as_names side one s.passed (named_of side s))
