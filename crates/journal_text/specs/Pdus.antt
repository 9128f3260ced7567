-- The PDUs of a block that is shown, read from the words of a record (docs/formats/JOURNAL.md).
use Rattle.std.specs.Prelude.{ℕ, ◌+◌, ◌*◌, if◌then◌else◌, List, [], ◌∷◌, codes, Result, Ok}
use Rattle.std.specs.Str.{bytes_eq}
use Rattle.mac_pdu.specs.declared.item.Bsr.TheVariants as bsrs
use Rattle.mac_pdu.specs.declared.item.Control.TheVariants as controls
use Rattle.air_record.specs.declared.record.Record.{Record}
use Rattle.air_record.specs.declared.record.Record.TheVariants.{MacFront, MacSdu, MacPad}
use Rattle.air_record.specs.declared.record.Record.TheVariants.{MacControl, RlcTm, RlcUm, RlcAm}
use Rattle.air_record.specs.declared.record.Record.TheVariants.{RlcSeg, RlcStatus, PdcpData}
use Rattle.air_record.specs.declared.record.Record.TheVariants.{PdcpSrb, PdcpReport}
use Rattle.journal_text.specs.declared.fault.TextFault.{TextFault}
use Rattle.journal_text.specs.Answers.{none, ◌>>=◌}
use Rattle.journal_text.specs.Fields.{number_to, array_of, bitmap_of}
use Rattle.journal_text.specs.Names.{bit_of, framing_of}
use Rattle.journal_text.specs.Lists.{lens_of, nacks_of}

-- the number that two octets say
abbrev pub pair_number : List ℕ → ℕ
pair_number (a ∷ b ∷ []) = a * 256 + b
pair_number octets = 0

unfoldable pub front_of : List (List ℕ) → Result Record TextFault
front_of [] = Ok MacFront
front_of fields = none

unfoldable pub sdu_of : List (List ℕ) → Result Record TextFault
sdu_of (lcid ∷ len ∷ []) = do
  lcid ← number_to 255 lcid
  len ← number_to 4294967295 len
  Ok (MacSdu lcid len)
sdu_of fields = none

unfoldable pub pad_of : List (List ℕ) → Result Record TextFault
pad_of (len ∷ []) = do
  octets ← number_to 4294967295 len
  Ok (MacPad octets)
pad_of fields = none

unfoldable pub truncated_of : List (List ℕ) → Result Record TextFault
truncated_of (group ∷ level ∷ []) = do
  group ← number_to 255 group
  level ← number_to 255 level
  Ok (MacControl (controls.Report (bsrs.Truncated group level)))
truncated_of fields = none

unfoldable pub short_of : List (List ℕ) → Result Record TextFault
short_of (group ∷ level ∷ []) = do
  group ← number_to 255 group
  level ← number_to 255 level
  Ok (MacControl (controls.Report (bsrs.Short group level)))
short_of fields = none

unfoldable pub long_of : List (List ℕ) → Result Record TextFault
long_of (first ∷ second ∷ third ∷ fourth ∷ []) = do
  first ← number_to 255 first
  second ← number_to 255 second
  third ← number_to 255 third
  fourth ← number_to 255 fourth
  Ok (MacControl (controls.Report (bsrs.Long (first ∷ second ∷ third ∷ fourth ∷ []))))
long_of fields = none

unfoldable pub phr_of : List (List ℕ) → Result Record TextFault
phr_of (word ∷ []) = do
  level ← number_to 255 word
  Ok (MacControl (controls.Phr level))
phr_of fields = none

unfoldable pub crnti_of : List (List ℕ) → Result Record TextFault
crnti_of (text ∷ []) = do
  octets ← array_of 2 text
  Ok (MacControl (controls.Crnti (pair_number octets)))
crnti_of fields = none

unfoldable pub advance_of : List (List ℕ) → Result Record TextFault
advance_of (word ∷ []) = do
  value ← number_to 255 word
  Ok (MacControl (controls.Advance value))
advance_of fields = none

unfoldable pub drx_of : List (List ℕ) → Result Record TextFault
drx_of [] = Ok (MacControl controls.Drx)
drx_of fields = none

unfoldable pub contention_of : List (List ℕ) → Result Record TextFault
contention_of (text ∷ []) = do
  identity ← array_of 6 text
  Ok (MacControl (controls.Contention identity))
contention_of fields = none

unfoldable pub transparent_of : List (List ℕ) → Result Record TextFault
transparent_of (word ∷ []) = do
  len ← number_to 4294967295 word
  Ok (RlcTm len)
transparent_of fields = none

unfoldable pub umd_of : List (List ℕ) → Result Record TextFault
umd_of (sn ∷ info ∷ elements ∷ []) = do
  sn ← number_to 4294967295 sn
  fi ← framing_of info
  lens ← lens_of elements
  Ok (RlcUm sn fi lens)
umd_of fields = none

unfoldable pub amd_of : List (List ℕ) → Result Record TextFault
amd_of (sn ∷ asked ∷ info ∷ elements ∷ []) = do
  sn ← number_to 4294967295 sn
  poll ← bit_of asked
  fi ← framing_of info
  lens ← lens_of elements
  Ok (RlcAm sn poll fi lens)
amd_of fields = none

unfoldable pub segment_of : List (List ℕ) → Result Record TextFault
segment_of (sn ∷ asked ∷ info ∷ ending ∷ so ∷ elements ∷ []) = do
  sn ← number_to 4294967295 sn
  poll ← bit_of asked
  fi ← framing_of info
  last ← bit_of ending
  so ← number_to 4294967295 so
  lens ← lens_of elements
  Ok (RlcSeg sn poll fi last so lens)
segment_of fields = none

unfoldable pub status_of : List (List ℕ) → Result Record TextFault
status_of (ack ∷ entries ∷ []) = do
  ack ← number_to 4294967295 ack
  nacks ← nacks_of entries
  Ok (RlcStatus ack nacks)
status_of fields = none

unfoldable pub user_of : List (List ℕ) → Result Record TextFault
user_of (sn ∷ len ∷ []) = do
  sn ← number_to 4294967295 sn
  len ← number_to 4294967295 len
  Ok (PdcpData sn len)
user_of fields = none

unfoldable pub signalling_of : List (List ℕ) → Result Record TextFault
signalling_of (sn ∷ len ∷ text ∷ []) = do
  sn ← number_to 4294967295 sn
  len ← number_to 4294967295 len
  tag ← array_of 4 text
  Ok (PdcpSrb sn len tag)
signalling_of fields = none

unfoldable pub status_report_of : List (List ℕ) → Result Record TextFault
status_report_of (fms ∷ bits ∷ []) = do
  fms ← number_to 4294967295 fms
  bitmap ← bitmap_of bits
  Ok (PdcpReport fms bitmap)
status_report_of fields = none

unfoldable pub bsr_of : List (List ℕ) → Result Record TextFault
bsr_of [] = none
bsr_of (name ∷ fields) =
    if bytes_eq name (codes "truncated") then truncated_of fields
    else if bytes_eq name (codes "short") then short_of fields
    else if bytes_eq name (codes "long") then long_of fields
    else none

unfoldable pub mac_of : List (List ℕ) → Result Record TextFault
mac_of [] = none
mac_of (name ∷ fields) =
    if bytes_eq name (codes "sdu") then sdu_of fields
    else if bytes_eq name (codes "pad") then pad_of fields
    else if bytes_eq name (codes "front") then front_of fields
    else if bytes_eq name (codes "bsr") then bsr_of fields
    else if bytes_eq name (codes "phr") then phr_of fields
    else if bytes_eq name (codes "crnti") then crnti_of fields
    else if bytes_eq name (codes "ta") then advance_of fields
    else if bytes_eq name (codes "drx") then drx_of fields
    else if bytes_eq name (codes "contention") then contention_of fields
    else none

unfoldable pub rlc_of : List (List ℕ) → Result Record TextFault
rlc_of [] = none
rlc_of (name ∷ fields) =
    if bytes_eq name (codes "am") then amd_of fields
    else if bytes_eq name (codes "um") then umd_of fields
    else if bytes_eq name (codes "status") then status_of fields
    else if bytes_eq name (codes "seg") then segment_of fields
    else if bytes_eq name (codes "tm") then transparent_of fields
    else none

unfoldable pub pdcp_of : List (List ℕ) → Result Record TextFault
pdcp_of [] = none
pdcp_of (name ∷ fields) =
    if bytes_eq name (codes "data") then user_of fields
    else if bytes_eq name (codes "srb") then signalling_of fields
    else if bytes_eq name (codes "report") then status_report_of fields
    else none
