-- What is kept of all channels, while the PDUs of a journal are checked: each has a place, and the keys are those in
-- force.
use Rattle.std.proofs.Common.{◌≡◌, ℕ, true, false, List, [], ◌∷◌, Option, Some, None, refl, ap, ◌∙◌}
use Rattle.std.specs.Prelude.{slice_set, option_map}
use Rattle.air_record.specs.Cells.{next_keys}
use Rattle.air_record.specs.Submissions.{unrefused}
use Rattle.air_record.specs.declared.line.Line.{Line}
use Rattle.air_record.specs.declared.line.Line.TheVariants as lines
use Rattle.air_record.specs.declared.record.Record.{Record}
use Rattle.air_record.specs.declared.record.Record.TheVariants as records
use Rattle.air_record.specs.declared.submission.Submission.{Submission}
use Rattle.air_text.specs.Groups.{Group}
use Rattle.bearer_types.specs.Sides.{sender_of}
use Rattle.bearer_types.specs.declared.event.Event.{Event}
use Rattle.bearer_types.specs.declared.event.Event.TheVariants as events
use Rattle.eps_sec.specs.declared.Key.{Key}
use Rattle.eps_sec.specs.declared.Keys.{Keys}
use Rattle.l2_types.specs.declared.side.Side.{Side}
use Rattle.l2_types.specs.declared.side.Side.TheVariants.{Nb, Ue}
use Rattle.mac_pdu.specs.Reading.{reading}
use Rattle.mac_pdu.specs.declared.builder.Sdu.{Sdu}
use Rattle.promises.specs.Keys.{keys_in_force}
use Rattle.promises.specs.Parts.{is_handover}
use Rattle.journal_flows.specs.Gathering.{sdus_read}
use Rattle.journal_given.specs.Giving.{all_given}
use Rattle.journal_given.specs.Giving as giving
use Rattle.journal_given.specs.Supplies as given
use Rattle.journal_sent.specs.declared.checker.NamedPdu.{NamedPdu}
use Rattle.journal_sent.specs.declared.checker.PassedSdu.{PassedSdu}
use Rattle.journal_sent.specs.RightSent.{AllSent, Flow, Given}
use Rattle.journal_sent.specs.SentFlows.{flow_submitted, flow_reported, flow_taken, flow_discarded, flow_judges}
use Rattle.journal_sent.specs.SentPdus.{histories}
use Rattle.journal_sent.specs.Sending.{flow_at, flows_of, with_flows, sdu_of, with_named, named_of}
use Rattle.journal_sent.specs.Sending.{released, settled, event_told, pdu_told_by, pdu_told, pdus_told}
use Rattle.journal_sent.specs.Sending.{judged, is_known, has_bearer, lcid_in, acked_at, tells, after_record}
use Rattle.journal_sent.specs.Sending.{keys_behind}
use Rattle.journal_sent.specs.Sending.{after_line, after_group, records_told, sending_within, all_sending}
use Rattle.law_sent.specs.Channels.{HasChannels}
use Rattle.law_sent.proofs.ChannelsStay.{record_has, line_has, group_has, nothing_has}
use Rattle.law_sound.proofs.SentBetween.{KeepsChannels}
use Rattle.law_sound.proofs.SentRecords.{sending_first}

-- the keys of the life that runs, and those of the next one
record Kept : Type 0 where
  keys : Keys
  renewal : Option Keys

abbrev kept_of : AllSent → Kept
kept_of s = record { keys = s.keys; renewal = s.renewal }

-- ---- records change no keys

set_keeps : (side : Side) (lcid : ℕ) (f : Option Flow) (s : AllSent)
    → kept_of (with_flows side (slice_set (flows_of side s) lcid f) s) ≡ kept_of s
set_keeps Nb lcid f s = refl
set_keeps Ue lcid f s = refl

change_keeps : (side : Side) (lcid : ℕ) (f : Flow → Flow) (s : AllSent)
    → kept_of (with_flows side (slice_set (flows_of side s) lcid (option_map f (flow_at lcid (flows_of side s)))) s)
    ≡ kept_of s
change_keeps side lcid f s = set_keeps side lcid (option_map f (flow_at lcid (flows_of side s))) s

named_keeps : (side : Side) (named : List NamedPdu) (s : AllSent) → kept_of (with_named side named s) ≡ kept_of s
named_keeps Nb named s = refl
named_keeps Ue named s = refl

submission_keeps : (sdu : Option Submission) (s : AllSent) → kept_of (released sdu s) ≡ kept_of s
submission_keeps None s = refl
submission_keeps (Some d) s =
    change_keeps d.side d.lcid (flow_submitted d.octets) (record s { submitted = None })

event_keeps : (side : Side) (event : Event) (j : Given) (passed : Option PassedSdu) (s : AllSent)
    → kept_of (event_told histories given.histories side event j passed s) ≡ kept_of s
event_keeps side (events.Take lcid count len) j passed s =
    change_keeps side lcid (flow_taken histories count len (sdu_of given.histories side lcid count j)) s
event_keeps side (events.Report lcid fms bitmap) j passed s =
    change_keeps side lcid (flow_reported histories fms bitmap) s
event_keeps side (events.Discard lcid len) j passed s = change_keeps side lcid flow_discarded s
event_keeps side (events.Send lcid how sn) j passed s = named_keeps side _ s
event_keeps side event j passed s = refl

pdu_keeps : (side : Side) (acked : ℕ → _) (n : NamedPdu) (d : Sdu) (f : Option Flow) (s : AllSent)
    → kept_of (pdu_told_by histories side acked n d f s) ≡ kept_of s
pdu_keeps side acked n d None s = refl
pdu_keeps side acked n d (Some f) s =
    set_keeps side d.lcid (Some (flow_judges histories acked n.how n.sdu d.octets f).flow) s

pdus_keep : (side : Side) (j : Given) (named : List NamedPdu) (sdus : List Sdu) (s : AllSent)
    → kept_of (pdus_told histories side j named sdus s) ≡ kept_of s
pdus_keep side j (n ∷ named) (d ∷ sdus) s =
    pdus_keep side j named sdus (pdu_told histories side j n d s)
    ∙ pdu_keeps side (acked_at side d.lcid j) n d (flow_at d.lcid (flows_of side s)) s
pdus_keep side j (n ∷ named) [] s = refl
pdus_keep side j [] sdus s = refl

tells_keep : (one : Record) (j : Given) (passed : Option PassedSdu) (s : AllSent)
    → kept_of (tells histories given.histories one j passed s) ≡ kept_of s
tells_keep (records.Of side event) j passed s =
    event_keeps side event j passed (judged (is_known (lcid_in event) s) s)
tells_keep (records.Block direction process true version octets) j passed s =
    let from = sender_of direction in
    pdus_keep from j (named_of from s) (sdus_read (reading direction octets)) (with_named from [] s)
    ∙ named_keeps from [] s
tells_keep (records.Looped lcid octets) j passed s =
    change_keeps Ue lcid (flow_submitted octets) (judged (has_bearer lcid s) s)
tells_keep (records.Refused side lcid why) j passed s = refl
tells_keep one j passed s = refl

record_keeps : (one : Record) (j : Given) (s : AllSent)
    → kept_of (after_record histories given.histories one j s) ≡ kept_of s
record_keeps one j s =
    tells_keep one j (settled one s).passed (record (settled one s) { passed = None })
    ∙ submission_keeps (unrefused one s.submitted) s

records_keep : (told : List Record) (j : Given) (s : AllSent)
    → kept_of (records_told histories given.histories told j s) ≡ kept_of s
records_keep [] j s = refl
records_keep (one ∷ told) j s =
    records_keep told (giving.after_record given.histories one j)
    (after_record histories given.histories one (giving.settled given.histories one j) s)
    ∙ record_keeps one (giving.settled given.histories one j) s

-- ---- a line, and a group's end

abbrev by_line : Line → Kept → Kept
by_line (lines.Keys keys) k = record k { keys = keys }
by_line (lines.Handover user rrc integrity) k = record k { renewal = Some (next_keys user rrc integrity k.keys) }
by_line line k = k

abbrev by_end : Kept → Kept
by_end k = record { keys = keys_behind k.renewal k.keys; renewal = None }

line_keeps : (line : Line) (s : AllSent) → kept_of (after_line histories line s) ≡ by_line line (kept_of s)
line_keeps (lines.Keys keys) s = refl
line_keeps (lines.Handover user rrc integrity) s = refl
line_keeps line s = refl

end_keeps : (j : Given) (s : AllSent) → kept_of (after_group histories j s) ≡ by_end (kept_of s)
end_keeps j s = ap (λ (k : Kept). by_end k) (submission_keeps s.submitted s)

-- ---- behind groups

abbrev in_force : List Group → Kept
in_force past = record { keys = keys_in_force past; renewal = None }

group_keeps : (line : Line) (past : List Group) (n : ℕ) (events : List Record)
    → by_end (by_line line (in_force past)) ≡ in_force (record { number = n; line = line; events = events } ∷ past)
group_keeps (lines.Keys keys) past n events = refl
group_keeps (lines.Handover user rrc integrity) past n events = refl
group_keeps line past n events = refl

within_keeps : (now : Group) (past : List Group)
    → kept_of (all_sending histories given.histories past) ≡ in_force past
    → kept_of (sending_within histories given.histories now (all_given given.histories past)
    (all_sending histories given.histories past)) ≡ by_line now.line (in_force past)
within_keeps now past before =
    let s = all_sending histories given.histories past in
    records_keep now.events (giving.after_line given.histories now.line (all_given given.histories past))
    (after_line histories now.line s)
    ∙ line_keeps now.line s
    ∙ ap (by_line now.line) before

all_keep : (past : List Group) → kept_of (all_sending histories given.histories past) ≡ in_force past
all_keep [] = refl
all_keep (now ∷ past) =
    end_keeps (all_given given.histories (now ∷ past)) (sending_within histories given.histories now
    (all_given given.histories past) (all_sending histories given.histories past))
    ∙ ap (λ (k : Kept). by_end k) (within_keeps now past (all_keep past))
    ∙ group_keeps now.line past now.number now.events

pub records_have : (told : List Record) (j : Given) (s : AllSent) → HasChannels s
    → HasChannels (records_told histories given.histories told j s)
records_have [] j s h = h
records_have (one ∷ told) j s h =
    records_have told (giving.after_record given.histories one j)
    (after_record histories given.histories one (giving.settled given.histories one j) s)
    (record_has one (giving.settled given.histories one j) s h)

all_have : (past : List Group) → HasChannels (all_sending histories given.histories past)
all_have [] = nothing_has
all_have (now ∷ past) =
    let s = all_sending histories given.histories past in
    group_has (all_given given.histories (now ∷ past))
    (sending_within histories given.histories now (all_given given.histories past) s)
    (records_have now.events (giving.after_line given.histories now.line (all_given given.histories past))
    (after_line histories now.line s) (line_has now.line s (all_have past)))

pub keeps_channels : (past : List Group) → KeepsChannels past
keeps_channels past = record { channels = all_have past; keys = ap (λ (k : Kept). k.keys) (all_keep past) }

-- no other keys wait but behind a handover's line

no_renewal : (line : Line) (past : List Group) → is_handover line ≡ false
    → (by_line line (in_force past)).renewal ≡ None
no_renewal (lines.Handover user rrc integrity) past h = absurd cc
no_renewal (lines.Keys keys) past h = refl
no_renewal line past h = refl

pub none_renewed : (now : Group) (past : List Group) (told : List Record) → is_handover now.line ≡ false
    → (sending_first now past told).renewal ≡ None
none_renewed now past told stays =
    ap (λ (k : Kept). k.renewal) (within_keeps (record now { events = told }) past (all_keep past))
    ∙ no_renewal now.line past stays

-- there the next life's

pub keys_renewed : (now : Group) (past : List Group) (told : List Record) (user rrc integrity : Key)
    → (sending_first (record now { line = lines.Handover user rrc integrity }) past told).renewal
    ≡ Some (next_keys user rrc integrity (keys_in_force past))
keys_renewed now past told user rrc integrity =
    ap (λ (k : Kept). k.renewal)
    (within_keeps (record now { line = lines.Handover user rrc integrity; events = told }) past (all_keep past))

-- and none is named as a group begins

line_names : (side : Side) (line : Line) (s : AllSent) → named_of side (after_line histories line s) ≡ named_of side s
line_names Nb (lines.Bearer config options) s = refl
line_names Ue (lines.Bearer config options) s = refl
line_names Nb (lines.Keys keys) s = refl
line_names Ue (lines.Keys keys) s = refl
line_names Nb (lines.Handover user rrc integrity) s = refl
line_names Ue (lines.Handover user rrc integrity) s = refl
line_names Nb line s = refl
line_names Ue line s = refl

none_names : (side : Side) (past : List Group) → named_of side (all_sending histories given.histories past) ≡ []
none_names Nb [] = refl
none_names Ue [] = refl
none_names Nb (now ∷ past) = refl
none_names Ue (now ∷ past) = refl

pub none_named : (side : Side) (now : Group) (past : List Group) → named_of side (sending_first now past []) ≡ []
none_named side now past =
    line_names side now.line (all_sending histories given.histories past) ∙ none_names side past
