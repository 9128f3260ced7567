-- Records read back from the words of their texts (docs/formats/JOURNAL.md).
use Rattle.std.specs.Prelude.{ℕ, ◌+◌, ◌*◌, ◌<◌, ◌^◌, Bool, true, false, if◌then◌else◌, List, []}
use Rattle.std.specs.Prelude.{◌∷◌, codes, Option, None, Some}
use Rattle.std.specs.Str.{bytes_eq}
use Rattle.hex.specs.Hex.{IsBytes}
use Rattle.l2_types.specs.declared.side.Side.{Side}
use Rattle.l2_types.specs.declared.side.Side.TheVariants.{Ue, Nb}
use Rattle.mac_pdu.specs.declared.item.Direction.{Direction}
use Rattle.mac_pdu.specs.declared.item.Direction.TheVariants as directions
use Rattle.mac_pdu.specs.declared.item.Bsr.{Bsr}
use Rattle.mac_pdu.specs.declared.item.Bsr.TheVariants as bsrs
use Rattle.mac_pdu.specs.declared.item.Control.{Control}
use Rattle.mac_pdu.specs.declared.item.Control.TheVariants as controls
use Rattle.air_record.specs.declared.record.Arrived.{Arrived}
use Rattle.air_record.specs.declared.record.Arrived.TheVariants as arriveds
use Rattle.air_record.specs.declared.record.NoPlace.{NoPlace}
use Rattle.air_record.specs.declared.record.NoPlace.TheVariants as places
use Rattle.air_record.specs.declared.record.State.{State}
use Rattle.air_record.specs.declared.record.State.TheVariants as states
use Rattle.air_record.specs.declared.record.Record.{Record}
use Rattle.air_record.specs.declared.record.Record.TheVariants.{Line, Tti, Of, Block, Air, Refused}
use Rattle.air_record.specs.declared.record.Record.TheVariants.{Looped, Drained, Sum}
use Rattle.air_record.specs.declared.record.Record.TheVariants.{MacFront, MacSdu, MacPad}
use Rattle.air_record.specs.declared.record.Record.TheVariants.{MacControl, RlcTm, RlcUm, RlcAm}
use Rattle.air_record.specs.declared.record.Record.TheVariants.{RlcSeg, RlcStatus, PdcpData}
use Rattle.air_record.specs.declared.record.Record.TheVariants.{PdcpSrb, PdcpReport, Shown, BadMac}
use Rattle.air_record.specs.declared.record.Record.TheVariants.{BadRlc, BadPdcp, Sleep}
use Rattle.law_text.specs.Back.{cut, number_back, octets_back, bitmap_back, event_back, mac_back}
use Rattle.law_text.specs.Back.{rlc_back, pdcp_back, IsGoodEvent}
use Rattle.law_text.specs.Lines.{line_back}
use Rattle.air_text.specs.Spoken.{IsGoodLine}
use Rattle.law_text.specs.Lens.{lens_back, nacks_back, framing_back, AreLens, AreGoodNacks}

abbrev pub side_back : List ℕ → Side
side_back word = if bytes_eq word (codes "ue") then Ue else Nb

abbrev pub direction_back : List ℕ → Direction
direction_back word = if bytes_eq word (codes "dl") then directions.Down else directions.Up

abbrev pub fresh_back : List ℕ → Bool
fresh_back word = if bytes_eq word (codes "new") then true else false

abbrev pub arrived_back : List ℕ → Arrived
arrived_back word = if bytes_eq word (codes "got") then arriveds.Got
    else if bytes_eq word (codes "dup") then arriveds.Dup else if bytes_eq word (codes "bad")
    then arriveds.Bad else arriveds.Nothing

abbrev pub heard_back : List ℕ → Option Bool
heard_back word = if bytes_eq word (codes "ack") then Some true
    else if bytes_eq word (codes "nack") then Some false else None

abbrev pub place_back : List ℕ → NoPlace
place_back word = if bytes_eq word (codes "full") then places.Full else places.Count

abbrev pub state_back : List ℕ → State
state_back word = if bytes_eq word (codes "ok") then states.Ok
    else if bytes_eq word (codes "failed") then states.Failed
    else if bytes_eq word (codes "short") then states.Short else states.Long

abbrev pub bit_back : List ℕ → Bool
bit_back word = if bytes_eq word (codes "1") then true else false

-- the number that two octets say
abbrev pub pair_back : List ℕ → ℕ
pair_back (a ∷ b ∷ []) = a * 256 + b
pair_back octets = 0

abbrev pub one_word : List ℕ → Record
one_word last = Sleep

abbrev pub two_words : List ℕ → List ℕ → Record
two_words name last =
    if bytes_eq name (codes "tti") then Tti (number_back last)
    else if bytes_eq name (codes "drained") then Drained (number_back last)
    else if bytes_eq last (codes "drx") then MacControl controls.Drx
    else MacFront

-- a control element of one field
abbrev pub control_back : List ℕ → List ℕ → Record
control_back name last =
    if bytes_eq name (codes "contention") then MacControl (controls.Contention (octets_back last))
    else if bytes_eq name (codes "ta") then MacControl (controls.Advance (number_back last))
    else if bytes_eq name (codes "phr") then MacControl (controls.Phr (number_back last))
    else if bytes_eq name (codes "crnti")
    then MacControl (controls.Crnti (pair_back (octets_back last)))
    else MacPad (number_back last)

abbrev pub three_words : List ℕ → List ℕ → List ℕ → Record
three_words name second last =
    if bytes_eq name (codes "loop") then Looped (number_back second) (octets_back last)
    else if bytes_eq name (codes "rlc") then RlcTm (number_back last)
    else control_back second last

abbrev pub four_words : List ℕ → List ℕ → List ℕ → List ℕ → Record
four_words name second third last =
    if bytes_eq name (codes "air")
    then Air (direction_back second) (arrived_back third) (heard_back last)
    else if bytes_eq name (codes "refused")
    then Refused (side_back second) (number_back third) (place_back last)
    else if bytes_eq name (codes "mac") then MacSdu (number_back third) (number_back last)
    else if bytes_eq name (codes "pdcp") then
    (if bytes_eq second (codes "data") then PdcpData (number_back third) (number_back last)
    else PdcpReport (number_back third) (bitmap_back last))
    else if bytes_eq name (codes "record")
    then Shown (number_back second) (direction_back third) (number_back last)
    else if bytes_eq name (codes "bad") then
    (if bytes_eq second (codes "mac")
    then BadMac (record { at = number_back third; why = mac_back (number_back last) })
    else if bytes_eq second (codes "rlc")
    then BadRlc (record { at = number_back third; why = rlc_back (number_back last) })
    else BadPdcp (record { at = number_back third; why = pdcp_back (number_back last) }))
    else if bytes_eq name (codes "rlc") then RlcStatus (number_back third) (nacks_back last)
    else Of (side_back second) (event_back (name ∷ second ∷ third ∷ last ∷ []))

abbrev pub five_words : List ℕ → List ℕ → List ℕ → List ℕ → List ℕ → Record
five_words name second third fourth last =
    if bytes_eq name (codes "pdcp")
    then PdcpSrb (number_back third) (number_back fourth) (octets_back last)
    else if bytes_eq name (codes "rlc")
    then RlcUm (number_back third) (framing_back fourth) (lens_back last)
    else if bytes_eq name (codes "mac") then
    (if bytes_eq third (codes "truncated")
    then MacControl (controls.Report (bsrs.Truncated (number_back fourth) (number_back last)))
    else MacControl (controls.Report (bsrs.Short (number_back fourth) (number_back last))))
    else Of (side_back second) (event_back (name ∷ second ∷ third ∷ fourth ∷ last ∷ []))

abbrev pub six_words : List ℕ → List ℕ → List ℕ → List ℕ → List ℕ → List ℕ → Record
six_words name second third fourth fifth last =
    if bytes_eq name (codes "block")
    then Block (direction_back second) (number_back third) (fresh_back fourth)
    (number_back fifth) (octets_back last)
    else if bytes_eq name (codes "rlc")
    then RlcAm (number_back third) (bit_back fourth) (framing_back fifth) (lens_back last)
    else if bytes_eq name (codes "bad")
    then Of (side_back second)
    (event_back (name ∷ second ∷ third ∷ fourth ∷ fifth ∷ last ∷ []))
    else Sum (direction_back second) (number_back third) (number_back fourth) (number_back fifth)
    (state_back last)

-- any record but that of a line
abbrev pub plain_back : List (List ℕ) → Record
plain_back (a ∷ []) = one_word a
plain_back (a ∷ b ∷ []) = two_words a b
plain_back (a ∷ b ∷ c ∷ []) = three_words a b c
plain_back (a ∷ b ∷ c ∷ d ∷ []) = four_words a b c d
plain_back (a ∷ b ∷ c ∷ d ∷ e ∷ []) = five_words a b c d e
plain_back (a ∷ b ∷ c ∷ d ∷ e ∷ f ∷ []) = six_words a b c d e f
plain_back (a ∷ b ∷ c ∷ d ∷ e ∷ f ∷ g ∷ []) =
    MacControl
    (controls.Report
    (bsrs.Long (number_back d ∷ number_back e ∷ number_back f ∷ number_back g ∷ [])))
plain_back (a ∷ b ∷ c ∷ d ∷ e ∷ f ∷ g ∷ h ∷ []) =
    RlcSeg (number_back c) (bit_back d) (framing_back e) (bit_back f) (number_back g)
    (lens_back h)
plain_back words = Sleep

abbrev pub line_record : List (List ℕ) → Record
line_record [] = Sleep
line_record (number ∷ words) = Line (number_back number) (line_back words)

-- the record that words say
abbrev pub record_back : List (List ℕ) → Record
record_back [] = Sleep
record_back (name ∷ more) = if bytes_eq name (codes "line") then line_record more
    else plain_back (name ∷ more)

-- the record whose text this is
abbrev pub read_text : List ℕ → Record
read_text text = record_back (cut [] text)

abbrev pub IsGoodReport : Bsr → Type 0
IsGoodReport (bsrs.Truncated group level) = (group < 2 ^ 64) × (level < 2 ^ 64)
IsGoodReport (bsrs.Short group level) = (group < 2 ^ 64) × (level < 2 ^ 64)
IsGoodReport (bsrs.Long (a ∷ b ∷ c ∷ d ∷ [])) = (a < 2 ^ 64) × (b < 2 ^ 64) × (c < 2 ^ 64)
    × (d < 2 ^ 64)
IsGoodReport (bsrs.Long levels) = ⊥

abbrev pub IsGoodControl : Control → Type 0
IsGoodControl (controls.Contention identity) = IsBytes identity
IsGoodControl (controls.Advance value) = value < 2 ^ 64
IsGoodControl controls.Drx = Unit {0}
IsGoodControl (controls.Phr level) = level < 2 ^ 64
IsGoodControl (controls.Crnti identity) = identity < 2 ^ 16
IsGoodControl (controls.Report report) = IsGoodReport report

-- a record that a program can hold, and that some text says
abbrev pub IsGood : Record → Type 0
IsGood (Tti tti) = tti < 2 ^ 64
IsGood (Of side event) = IsGoodEvent event
IsGood (Block direction process fresh rv octets) = (process < 2 ^ 64) × (rv < 2 ^ 64)
    × IsBytes octets
IsGood (Air direction what heard) = Unit {0}
IsGood (Refused side lcid why) = lcid < 2 ^ 64
IsGood (Looped lcid octets) = (lcid < 2 ^ 64) × IsBytes octets
IsGood (Drained rounds) = rounds < 2 ^ 64
IsGood (Sum direction lcid submitted delivered state) =
    (lcid < 2 ^ 64) × (submitted < 2 ^ 64) × (delivered < 2 ^ 64)
IsGood MacFront = Unit {0}
IsGood (MacSdu lcid len) = (lcid < 2 ^ 64) × (len < 2 ^ 64)
IsGood (MacPad octets) = octets < 2 ^ 64
IsGood (RlcTm len) = len < 2 ^ 64
IsGood (PdcpData sn len) = (sn < 2 ^ 64) × (len < 2 ^ 64)
IsGood (PdcpSrb sn len tag) = (sn < 2 ^ 64) × (len < 2 ^ 64) × IsBytes tag
IsGood (PdcpReport fms bitmap) = (fms < 2 ^ 64) × IsBytes bitmap
IsGood (Shown number direction len) = (number < 2 ^ 64) × (len < 2 ^ 64)
IsGood (RlcUm sn fi lens) = (sn < 2 ^ 64) × (fi < 4) × AreLens lens
IsGood (RlcAm sn poll fi lens) = (sn < 2 ^ 64) × (fi < 4) × AreLens lens
IsGood (RlcSeg sn poll fi last so lens) = (sn < 2 ^ 64) × (fi < 4) × (so < 2 ^ 64) × AreLens lens
IsGood (BadMac fault) = fault.at < 2 ^ 64
IsGood (BadRlc fault) = fault.at < 2 ^ 64
IsGood (BadPdcp fault) = fault.at < 2 ^ 64
IsGood Sleep = Unit {0}
IsGood (MacControl element) = IsGoodControl element
IsGood (RlcStatus ack nacks) = (ack < 2 ^ 64) × AreGoodNacks nacks
IsGood (Line number line) = (number < 2 ^ 64) × IsGoodLine line
