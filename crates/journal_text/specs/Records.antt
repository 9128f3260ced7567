-- The records of a journal (docs/formats/JOURNAL.md).
use Rattle.std.specs.Prelude.{◌≡◌, ℕ, ◌<◌, ◌^◌, List, [], ◌∷◌, ◌++◌, length, Option, None, Some, Ok}
use Rattle.std.specs.Prelude.{All}
use Rattle.hex.specs.Hex.{IsBytes}
use Rattle.rlc_pdu.specs.declared.pdu.Part.{Part}
use Rattle.rlc_pdu.specs.declared.pdu.Nack.{Nack}
use Rattle.mac_pdu.specs.declared.item.Bsr.{Bsr}
use Rattle.mac_pdu.specs.declared.item.Bsr.TheVariants as bsrs
use Rattle.mac_pdu.specs.declared.item.Control.{Control}
use Rattle.mac_pdu.specs.declared.item.Control.TheVariants as controls
use Rattle.bearer_types.specs.declared.event.Event.{Event}
use Rattle.bearer_types.specs.declared.event.Event.TheVariants.{Take, Report, Send, Wait, Start}
use Rattle.bearer_types.specs.declared.event.Event.TheVariants.{Stop, Expired, Up, Fail, Discard}
use Rattle.bearer_types.specs.declared.event.Event.TheVariants.{Drop, Integrity, BadMac, BadRlc}
use Rattle.bearer_types.specs.declared.event.Event.TheVariants.{BadPdcp}
use Rattle.air_record.specs.declared.line.Line.{Line}
use Rattle.air_record.specs.declared.record.Record.{Record}
use Rattle.air_record.specs.declared.record.Record.TheVariants as records
use Rattle.air_record.specs.Text.{worded, line_words, record_words, text_of}
use Rattle.air_text.specs.Reading.{read_of}

-- a number of 32 bits, or none
abbrev pub IsCount : Option ℕ → Type 0
IsCount None = Unit {0}
IsCount (Some n) = n < 2 ^ 32

-- octets, one at least
abbrev pub AreOctets : List ℕ → Type 0
AreOctets octets = IsBytes octets × (0 < length octets)

-- so many octets
abbrev pub IsArray : ℕ → List ℕ → Type 0
IsArray n octets = IsBytes octets × (length octets ≡ n)

-- lengths, one at least
abbrev pub AreLens : List ℕ → Type 0
AreLens lens = (0 < length lens) × All (λ n. n < 2 ^ 32) lens

abbrev pub IsPart : Option Part → Type 0
IsPart None = Unit {0}
IsPart (Some part) = (part.start < 2 ^ 32) × (part.end < 2 ^ 32)

-- an entry of a STATUS
abbrev pub IsNack : Nack → Type 0
IsNack nack = (nack.sn < 2 ^ 32) × IsPart nack.part

abbrev pub IsReport : Bsr → Type 0
IsReport (bsrs.Truncated group level) = (group < 2 ^ 8) × (level < 2 ^ 8)
IsReport (bsrs.Short group level) = (group < 2 ^ 8) × (level < 2 ^ 8)
IsReport (bsrs.Long levels) = IsArray 4 levels

abbrev pub IsControl : Control → Type 0
IsControl (controls.Contention identity) = IsArray 6 identity
IsControl (controls.Advance value) = value < 2 ^ 8
IsControl controls.Drx = Unit {0}
IsControl (controls.Phr level) = level < 2 ^ 8
IsControl (controls.Crnti identity) = identity < 2 ^ 16
IsControl (controls.Report report) = IsReport report

-- what happens at one end
abbrev pub IsEvent : Event → Type 0
IsEvent (Take lcid count len) = (lcid < 2 ^ 8) × IsCount count × (len < 2 ^ 32)
IsEvent (Report lcid fms bitmap) = (lcid < 2 ^ 8) × (fms < 2 ^ 32) × IsBytes bitmap
IsEvent (Send lcid how sn) = (lcid < 2 ^ 8) × (sn < 2 ^ 32)
IsEvent (Wait lcid why) = lcid < 2 ^ 8
IsEvent (Start lcid clock) = lcid < 2 ^ 8
IsEvent (Stop lcid clock) = lcid < 2 ^ 8
IsEvent (Expired lcid clock) = lcid < 2 ^ 8
IsEvent (Up lcid octets) = (lcid < 2 ^ 8) × AreOctets octets
IsEvent (Fail lcid sn) = (lcid < 2 ^ 8) × (sn < 2 ^ 32)
IsEvent (Drop lcid why) = lcid < 2 ^ 8
IsEvent (Integrity lcid found wanted) = (lcid < 2 ^ 8) × IsArray 4 found × IsArray 4 wanted
IsEvent (BadMac fault) = fault.at < 2 ^ 32
IsEvent (BadRlc lcid fault) = (lcid < 2 ^ 8) × (fault.at < 2 ^ 32)
IsEvent (BadPdcp lcid fault) = (lcid < 2 ^ 8) × (fault.at < 2 ^ 32)
IsEvent (Discard lcid len) = (lcid < 2 ^ 8) × (len < 2 ^ 32)

-- a line of a script that is what its own text says
pub record IsOwnLine (line : Line) : Type 0 where
  pub text : List ℕ
  pub printed : worded (line_words line) ≡ text ++ 10 ∷ []
  pub read : read_of text ≡ Ok (Some line)

-- a record of a journal, with fields as wide as a program holds them: none of those that only a
-- block that is shown alone has
abbrev pub IsJournalRecord : Record → Type 0
IsJournalRecord (records.Line number line) = (number < 2 ^ 32) × IsOwnLine line
IsJournalRecord (records.Tti tti) = tti < 2 ^ 64
IsJournalRecord records.Sleep = Unit {0}
IsJournalRecord (records.Of side event) = IsEvent event
IsJournalRecord (records.Block direction process fresh rv octets) =
    (process < 2 ^ 32) × (rv < 2 ^ 8) × AreOctets octets
IsJournalRecord (records.Air direction what heard) = Unit {0}
IsJournalRecord (records.Refused side lcid why) = lcid < 2 ^ 8
IsJournalRecord (records.Looped lcid octets) = (lcid < 2 ^ 8) × AreOctets octets
IsJournalRecord (records.Drained rounds) = rounds < 2 ^ 64
IsJournalRecord (records.Sum direction lcid submitted delivered state) =
    (lcid < 2 ^ 8) × (submitted < 2 ^ 64) × (delivered < 2 ^ 64)
IsJournalRecord records.MacFront = Unit {0}
IsJournalRecord (records.MacSdu lcid len) = (lcid < 2 ^ 8) × (len < 2 ^ 32)
IsJournalRecord (records.MacPad octets) = octets < 2 ^ 32
IsJournalRecord (records.MacControl element) = IsControl element
IsJournalRecord (records.RlcTm len) = len < 2 ^ 32
IsJournalRecord (records.RlcUm sn fi lens) = (sn < 2 ^ 32) × (fi < 4) × AreLens lens
IsJournalRecord (records.RlcAm sn poll fi lens) = (sn < 2 ^ 32) × (fi < 4) × AreLens lens
IsJournalRecord (records.RlcSeg sn poll fi last so lens) =
    (sn < 2 ^ 32) × (fi < 4) × (so < 2 ^ 32) × AreLens lens
IsJournalRecord (records.RlcStatus ack nacks) = (ack < 2 ^ 32) × All IsNack nacks
IsJournalRecord (records.PdcpData sn len) = (sn < 2 ^ 32) × (len < 2 ^ 32)
IsJournalRecord (records.PdcpSrb sn len tag) = (sn < 2 ^ 32) × (len < 2 ^ 32) × IsArray 4 tag
IsJournalRecord (records.PdcpReport fms bitmap) = (fms < 2 ^ 32) × IsBytes bitmap
IsJournalRecord (records.Shown number direction len) = ⊥
IsJournalRecord (records.BadMac fault) = ⊥
IsJournalRecord (records.BadRlc fault) = ⊥
IsJournalRecord (records.BadPdcp fault) = ⊥

-- a record of a journal that is printed as a text and a line feed
abbrev pub HasText : List ℕ → Record → Type 0
HasText text one = IsJournalRecord one × (text_of one ≡ text ++ 10 ∷ [])

-- a record of a journal that is printed with these words
abbrev pub IsSaid : List (List ℕ) → Record → Type 0
IsSaid words one = IsJournalRecord one × (record_words one ≡ words)

-- each line that a text says is its own
abbrev pub LinesAreOwn : Type 0
LinesAreOwn = (text : List ℕ) (line : Line) → read_of text ≡ Ok (Some line) → IsOwnLine line

-- a text has one record at most
abbrev pub TextsHaveOne : Type 0
TextsHaveOne =
    (text : List ℕ) (one other : Record) → HasText text one → HasText text other → one ≡ other
