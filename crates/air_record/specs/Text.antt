-- The texts of lines and records (docs/formats/SCRIPT.md, docs/formats/JOURNAL.md): each is a list
-- of words.
use Rattle.std.specs.Prelude.{ℕ, ◌/◌, ◌%◌, ◌==◌, Bool, true, false, if◌then◌else◌, List, [], ◌∷◌}
use Rattle.std.specs.Prelude.{◌++◌, slice_index, map, codes, Option, None, Some}
use Rattle.std.specs.List.{flat_map}
use Rattle.std.specs.Fmt.{decimal}
use Rattle.hex.specs.Hex.{encode_lower}
use Rattle.l2_types.specs.declared.side.Side.{Side}
use Rattle.l2_types.specs.declared.side.Side.TheVariants.{Ue, Nb}
use Rattle.l2_types.specs.declared.channel.Kind.{Kind}
use Rattle.l2_types.specs.declared.channel.Kind.TheVariants as kinds
use Rattle.l2_types.specs.declared.event.Clock.{Clock}
use Rattle.l2_types.specs.declared.event.Clock.TheVariants as clocks
use Rattle.eps_sec.specs.declared.keys.Cipher.{Cipher}
use Rattle.eps_sec.specs.declared.keys.Cipher.TheVariants as ciphers
use Rattle.l2_types.specs.declared.event.How.{How}
use Rattle.l2_types.specs.declared.event.How.TheVariants as hows
use Rattle.l2_types.specs.declared.event.Waits.{Waits}
use Rattle.l2_types.specs.declared.event.Waits.TheVariants as waits
use Rattle.l2_types.specs.declared.event.Lost.{Lost}
use Rattle.l2_types.specs.declared.event.Lost.TheVariants as losts
use Rattle.mac_pdu.specs.declared.item.Direction.{Direction}
use Rattle.mac_pdu.specs.declared.item.Direction.TheVariants as directions
use Rattle.mac_pdu.specs.declared.item.Bsr.{Bsr}
use Rattle.mac_pdu.specs.declared.item.Bsr.TheVariants as bsrs
use Rattle.mac_pdu.specs.declared.item.Control.{Control}
use Rattle.mac_pdu.specs.declared.item.Control.TheVariants as controls
use Rattle.mac_pdu.specs.declared.fault.MacWhy.{MacWhy}
use Rattle.mac_pdu.specs.declared.fault.MacWhy.TheVariants as macs
use Rattle.rlc_pdu.specs.declared.fault.RlcWhy.{RlcWhy}
use Rattle.rlc_pdu.specs.declared.fault.RlcWhy.TheVariants as rlcs
use Rattle.rlc_pdu.specs.declared.pdu.Part.{Part}
use Rattle.rlc_pdu.specs.declared.pdu.Nack.{Nack}
use Rattle.pdcp_pdu.specs.declared.pdu.PdcpWhy.{PdcpWhy}
use Rattle.pdcp_pdu.specs.declared.pdu.PdcpWhy.TheVariants as pdcps
use Rattle.bearer_types.specs.declared.event.Event.{Event}
use Rattle.bearer_types.specs.declared.event.Event.TheVariants as events
use Rattle.air_record.specs.declared.line.Fate.{Fate}
use Rattle.air_record.specs.declared.line.Fate.TheVariants as fates
use Rattle.air_record.specs.declared.line.Outcome.{Outcome}
use Rattle.air_record.specs.declared.line.Line.{Line}
use Rattle.air_record.specs.declared.line.Line.TheVariants as lines
use Rattle.air_record.specs.declared.record.Arrived.{Arrived}
use Rattle.air_record.specs.declared.record.Arrived.TheVariants as arriveds
use Rattle.air_record.specs.declared.record.NoPlace.{NoPlace}
use Rattle.air_record.specs.declared.record.NoPlace.TheVariants as places
use Rattle.air_record.specs.declared.record.State.{State}
use Rattle.air_record.specs.declared.record.State.TheVariants as states
use Rattle.air_record.specs.declared.record.Record.{Record}
use Rattle.air_record.specs.declared.record.Record.TheVariants as records

-- words with a space before each, and a line feed at the end
abbrev pub ended : List (List ℕ) → List ℕ
ended [] = 10 ∷ []
ended (w ∷ ws) = 32 ∷ (w ++ ended ws)

-- words with a space between two, and a line feed at the end
abbrev pub worded : List (List ℕ) → List ℕ
worded [] = 10 ∷ []
worded (w ∷ ws) = w ++ ended ws

abbrev pub side_text : Side → List ℕ
side_text Ue = codes "ue"
side_text Nb = codes "nb"

abbrev pub kind_text : Kind → List ℕ
kind_text kinds.Tm = codes "tm"
kind_text kinds.Srb = codes "srb"
kind_text kinds.Um = codes "um"
kind_text kinds.Am = codes "am"

abbrev pub clock_text : Clock → List ℕ
clock_text clocks.Poll = codes "poll"
clock_text clocks.Reorder = codes "reorder"
clock_text clocks.Prohibit = codes "prohibit"

abbrev pub cipher_text : Cipher → List ℕ
cipher_text ciphers.Eea0 = codes "0"
cipher_text ciphers.Eea2 = codes "2"

abbrev pub how_text : How → List ℕ
how_text hows.Tm = codes "tm"
how_text hows.New = codes "new"
how_text hows.Re = codes "re"
how_text hows.Status = codes "status"

abbrev pub waits_text : Waits → List ℕ
waits_text waits.Stopped = codes "stopped"
waits_text waits.Shut = codes "shut"
waits_text waits.Held = codes "held"
waits_text waits.Small = codes "small"

abbrev pub lost_text : Lost → List ℕ
lost_text losts.NoBearer = codes "nobearer"
lost_text losts.Repeat = codes "repeat"
lost_text losts.Outside = codes "outside"
lost_text losts.Clash = codes "clash"
lost_text losts.Old = codes "old"
lost_text losts.Range = codes "range"
lost_text losts.Ignored = codes "ignored"
lost_text losts.Handover = codes "handover"
lost_text losts.Loop = codes "loop"
lost_text losts.Report = codes "report"

abbrev pub direction_text : Direction → List ℕ
direction_text directions.Down = codes "dl"
direction_text directions.Up = codes "ul"

-- why a PDU is refused, by its number
abbrev pub mac_number : MacWhy → ℕ
mac_number macs.Short = 1
mac_number macs.ReservedLcid = 2
mac_number macs.LengthPast = 3
mac_number macs.ControlAfterSdu = 4
mac_number macs.PaddingPlace = 5

abbrev pub rlc_number : RlcWhy → ℕ
rlc_number rlcs.Short = 1
rlc_number rlcs.ZeroLi = 2
rlc_number rlcs.LiPast = 3
rlc_number rlcs.EmptyData = 4
rlc_number rlcs.ReservedCpt = 5
rlc_number rlcs.SoBackwards = 6
rlc_number rlcs.Trailing = 7

abbrev pub pdcp_number : PdcpWhy → ℕ
pdcp_number pdcps.Short = 1
pdcp_number pdcps.ReservedType = 2
pdcp_number pdcps.EmptyData = 3

abbrev pub fate_text : Fate → Bool → List ℕ
fate_text fates.Ok false = codes "ok"
fate_text fates.Ok true = codes "ok~"
fate_text fates.Bad false = codes "bad"
fate_text fates.Bad true = codes "bad~"
fate_text fates.Miss false = codes "miss"
fate_text fates.Miss true = codes "miss~"

abbrev pub outcome_text : Outcome → List ℕ
outcome_text o = fate_text o.fate o.flipped

abbrev pub arrived_text : Arrived → List ℕ
arrived_text arriveds.Got = codes "got"
arrived_text arriveds.Dup = codes "dup"
arrived_text arriveds.Bad = codes "bad"
arrived_text arriveds.Nothing = codes "none"

abbrev pub heard_text : Option Bool → List ℕ
heard_text None = codes "-"
heard_text (Some true) = codes "ack"
heard_text (Some false) = codes "nack"

abbrev pub place_text : NoPlace → List ℕ
place_text places.Full = codes "full"
place_text places.Count = codes "count"

abbrev pub state_text : State → List ℕ
state_text states.Ok = codes "ok"
state_text states.Failed = codes "failed"
state_text states.Short = codes "short"
state_text states.Long = codes "long"

abbrev pub fresh_text : Bool → List ℕ
fresh_text true = codes "new"
fresh_text false = codes "re"

abbrev pub bit_text : Bool → List ℕ
bit_text true = codes "1"
bit_text false = codes "0"

-- a number, or - for none
abbrev pub count_text : Option ℕ → List ℕ
count_text None = codes "-"
count_text (Some n) = decimal n

-- octets, or - for none
abbrev pub bitmap_text : List ℕ → List ℕ
bitmap_text [] = codes "-"
bitmap_text (x ∷ xs) = encode_lower (x ∷ xs)

-- two binary digits
abbrev pub framing_text : ℕ → List ℕ
framing_text fi = if fi == 0 then codes "00" else if fi == 1 then codes "01" else if fi == 2
    then codes "10" else codes "11"

-- words with a comma before each
abbrev pub comma_before : List (List ℕ) → List ℕ
comma_before [] = []
comma_before (w ∷ ws) = 44 ∷ (w ++ comma_before ws)

-- words with a comma between two
abbrev pub commas : List (List ℕ) → List ℕ
commas [] = []
commas (w ∷ ws) = w ++ comma_before ws

abbrev pub lens_text : List ℕ → List ℕ
lens_text lens = commas (map decimal lens)

abbrev pub part_text : ℕ → Option Part → List ℕ
part_text sn None = decimal sn
part_text sn (Some part) = decimal sn ++ (58 ∷ (decimal part.start ++ (45 ∷ decimal part.end)))

abbrev pub nack_text : Nack → List ℕ
nack_text nack = part_text nack.sn nack.part

abbrev pub nacks_text : List Nack → List ℕ
nacks_text [] = codes "-"
nacks_text (n ∷ ns) = commas (map nack_text (n ∷ ns))

-- the words of a bearer line; its options are one, as they were given
abbrev pub bearer_words : ℕ → Kind → List ℕ → List (List ℕ)
bearer_words lcid kind [] = codes "bearer" ∷ decimal lcid ∷ kind_text kind ∷ []
bearer_words lcid kind (x ∷ xs) = codes "bearer" ∷ decimal lcid ∷ kind_text kind ∷ (x ∷ xs) ∷ []

-- the words of a line
abbrev pub line_words : Line → List (List ℕ)
line_words (lines.Harq visits) = codes "harq" ∷ decimal visits ∷ []
line_words lines.Bsr = codes "bsr" ∷ codes "on" ∷ []
line_words (lines.Keys keys) = codes "keys" ∷ cipher_text keys.alg ∷ encode_lower keys.user.octets
    ∷ encode_lower keys.rrc.octets ∷ encode_lower keys.integrity.octets ∷ []
line_words (lines.Bearer config options) = bearer_words config.channel.lcid config.kind options
line_words (lines.Submit side lcid octets) =
    codes "submit" ∷ side_text side ∷ decimal lcid ∷ encode_lower octets ∷ []
line_words (lines.Tti up_grant up down_grant down) =
    codes "tti" ∷ decimal up_grant ∷ outcome_text up ∷ decimal down_grant ∷ outcome_text down ∷ []
line_words (lines.Expire side lcid clock) =
    codes "expire" ∷ side_text side ∷ decimal lcid ∷ clock_text clock ∷ []
line_words (lines.Handover user rrc integrity) =
    codes "handover" ∷ encode_lower user.octets ∷ encode_lower rrc.octets
    ∷ encode_lower integrity.octets ∷ []
line_words lines.LoopOff = codes "loop" ∷ codes "off" ∷ []
line_words (lines.LoopA size) = codes "loop" ∷ codes "a" ∷ decimal size ∷ []
line_words (lines.LoopB delay) = codes "loop" ∷ codes "b" ∷ decimal delay ∷ []
line_words (lines.Drain grant) = codes "drain" ∷ decimal grant ∷ []
line_words (lines.Forge side octets) = codes "forge" ∷ side_text side ∷ encode_lower octets ∷ []
line_words lines.End = codes "end" ∷ []
line_words (lines.Discard lcid ttis) = codes "discard" ∷ decimal lcid ∷ decimal ttis ∷ []
line_words (lines.Drx config) = codes "drx" ∷ decimal config.on ∷ decimal config.inactivity
    ∷ decimal config.retransmit ∷ decimal config.cycle ∷ decimal config.offset ∷ []

-- the words of what happens at one end
abbrev pub event_words : List ℕ → Event → List (List ℕ)
event_words node (events.Take lcid count len) =
    codes "take" ∷ node ∷ decimal lcid ∷ count_text count ∷ decimal len ∷ []
event_words node (events.Report lcid fms bitmap) =
    codes "report" ∷ node ∷ decimal lcid ∷ decimal fms ∷ bitmap_text bitmap ∷ []
event_words node (events.Send lcid how sn) =
    codes "send" ∷ node ∷ decimal lcid ∷ how_text how ∷ decimal sn ∷ []
event_words node (events.Wait lcid why) = codes "wait" ∷ node ∷ decimal lcid ∷ waits_text why ∷ []
event_words node (events.Start lcid clock) =
    codes "start" ∷ node ∷ decimal lcid ∷ clock_text clock ∷ []
event_words node (events.Stop lcid clock) =
    codes "stop" ∷ node ∷ decimal lcid ∷ clock_text clock ∷ []
event_words node (events.Expired lcid clock) =
    codes "expired" ∷ node ∷ decimal lcid ∷ clock_text clock ∷ []
event_words node (events.Up lcid octets) =
    codes "up" ∷ node ∷ decimal lcid ∷ encode_lower octets ∷ []
event_words node (events.Fail lcid sn) = codes "fail" ∷ node ∷ decimal lcid ∷ decimal sn ∷ []
event_words node (events.Drop lcid why) = codes "drop" ∷ node ∷ decimal lcid ∷ lost_text why ∷ []
event_words node (events.Integrity lcid found wanted) =
    codes "integrity" ∷ node ∷ decimal lcid ∷ encode_lower found ∷ encode_lower wanted ∷ []
event_words node (events.BadMac fault) =
    codes "bad" ∷ node ∷ codes "mac" ∷ decimal fault.at ∷ decimal (mac_number fault.why) ∷ []
event_words node (events.BadRlc lcid fault) =
    codes "bad" ∷ node ∷ codes "rlc" ∷ decimal lcid ∷ decimal fault.at
    ∷ decimal (rlc_number fault.why) ∷ []
event_words node (events.BadPdcp lcid fault) =
    codes "bad" ∷ node ∷ codes "pdcp" ∷ decimal lcid ∷ decimal fault.at
    ∷ decimal (pdcp_number fault.why) ∷ []
event_words node (events.Discard lcid len) =
    codes "discard" ∷ node ∷ decimal lcid ∷ decimal len ∷ []

abbrev pub bsr_words : Bsr → List (List ℕ)
bsr_words (bsrs.Truncated group level) =
    codes "mac" ∷ codes "bsr" ∷ codes "truncated" ∷ decimal group ∷ decimal level ∷ []
bsr_words (bsrs.Short group level) =
    codes "mac" ∷ codes "bsr" ∷ codes "short" ∷ decimal group ∷ decimal level ∷ []
bsr_words (bsrs.Long levels) = codes "mac" ∷ codes "bsr" ∷ codes "long"
    ∷ decimal (slice_index levels 0) ∷ decimal (slice_index levels 1)
    ∷ decimal (slice_index levels 2) ∷ decimal (slice_index levels 3) ∷ []

abbrev pub control_words : Control → List (List ℕ)
control_words (controls.Contention identity) =
    codes "mac" ∷ codes "contention" ∷ encode_lower identity ∷ []
control_words (controls.Advance value) = codes "mac" ∷ codes "ta" ∷ decimal value ∷ []
control_words controls.Drx = codes "mac" ∷ codes "drx" ∷ []
control_words (controls.Phr level) = codes "mac" ∷ codes "phr" ∷ decimal level ∷ []
control_words (controls.Crnti number) =
    codes "mac" ∷ codes "crnti" ∷ encode_lower (number / 256 ∷ number % 256 ∷ []) ∷ []
control_words (controls.Report report) = bsr_words report

-- the words of a record
abbrev pub record_words : Record → List (List ℕ)
record_words (records.Line number line) = codes "line" ∷ decimal number ∷ line_words line
record_words (records.Tti tti) = codes "tti" ∷ decimal tti ∷ []
record_words (records.Of side event) = event_words (side_text side) event
record_words (records.Block direction process fresh rv octets) =
    codes "block" ∷ direction_text direction ∷ decimal process ∷ fresh_text fresh ∷ decimal rv
    ∷ encode_lower octets ∷ []
record_words (records.Air direction what heard) =
    codes "air" ∷ direction_text direction ∷ arrived_text what ∷ heard_text heard ∷ []
record_words (records.Refused side lcid why) =
    codes "refused" ∷ side_text side ∷ decimal lcid ∷ place_text why ∷ []
record_words (records.Looped lcid octets) = codes "loop" ∷ decimal lcid ∷ encode_lower octets ∷ []
record_words (records.Drained rounds) = codes "drained" ∷ decimal rounds ∷ []
record_words (records.Sum direction lcid submitted delivered state) =
    codes "sum" ∷ direction_text direction ∷ decimal lcid ∷ decimal submitted ∷ decimal delivered
    ∷ state_text state ∷ []
record_words records.MacFront = codes "mac" ∷ codes "front" ∷ []
record_words (records.MacSdu lcid len) = codes "mac" ∷ codes "sdu" ∷ decimal lcid ∷ decimal len ∷ []
record_words (records.MacPad octets) = codes "mac" ∷ codes "pad" ∷ decimal octets ∷ []
record_words (records.MacControl element) = control_words element
record_words (records.RlcTm len) = codes "rlc" ∷ codes "tm" ∷ decimal len ∷ []
record_words (records.RlcUm sn fi lens) =
    codes "rlc" ∷ codes "um" ∷ decimal sn ∷ framing_text fi ∷ lens_text lens ∷ []
record_words (records.RlcAm sn poll fi lens) =
    codes "rlc" ∷ codes "am" ∷ decimal sn ∷ bit_text poll ∷ framing_text fi ∷ lens_text lens ∷ []
record_words (records.RlcSeg sn poll fi last so lens) =
    codes "rlc" ∷ codes "seg" ∷ decimal sn ∷ bit_text poll ∷ framing_text fi ∷ bit_text last
    ∷ decimal so ∷ lens_text lens ∷ []
record_words (records.RlcStatus ack nacks) =
    codes "rlc" ∷ codes "status" ∷ decimal ack ∷ nacks_text nacks ∷ []
record_words (records.PdcpData sn len) = codes "pdcp" ∷ codes "data" ∷ decimal sn ∷ decimal len ∷ []
record_words (records.PdcpSrb sn len tag) =
    codes "pdcp" ∷ codes "srb" ∷ decimal sn ∷ decimal len ∷ encode_lower tag ∷ []
record_words (records.PdcpReport fms bitmap) =
    codes "pdcp" ∷ codes "report" ∷ decimal fms ∷ bitmap_text bitmap ∷ []
record_words (records.Shown number direction len) =
    codes "record" ∷ decimal number ∷ direction_text direction ∷ decimal len ∷ []
record_words (records.BadMac fault) =
    codes "bad" ∷ codes "mac" ∷ decimal fault.at ∷ decimal (mac_number fault.why) ∷ []
record_words (records.BadRlc fault) =
    codes "bad" ∷ codes "rlc" ∷ decimal fault.at ∷ decimal (rlc_number fault.why) ∷ []
record_words (records.BadPdcp fault) =
    codes "bad" ∷ codes "pdcp" ∷ decimal fault.at ∷ decimal (pdcp_number fault.why) ∷ []
record_words records.Sleep = codes "sleep" ∷ []

-- the text of the record of an accepted line
abbrev pub accepted_text : ℕ → Line → List ℕ
accepted_text number line =
    codes "line" ++ (32 ∷ (decimal number ++ (32 ∷ worded (line_words line))))

-- the text of a record, with its line feed
abbrev pub text_of : Record → List ℕ
text_of (records.Line number line) = accepted_text number line
text_of one = worded (record_words one)

-- the texts of records, one after the other
abbrev pub texts_of : List Record → List ℕ
texts_of journal = flat_map text_of journal
