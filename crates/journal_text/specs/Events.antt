-- What happens at one end, read from the words of a record (docs/formats/JOURNAL.md).
use Rattle.std.specs.Prelude.{ℕ, if◌then◌else◌, List, [], ◌∷◌, codes, Result, Ok}
use Rattle.std.specs.Str.{bytes_eq}
use Rattle.l2_types.specs.declared.side.Side.{Side}
use Rattle.bearer_types.specs.declared.event.Event.TheVariants as events
use Rattle.air_record.specs.declared.record.Record.{Record}
use Rattle.air_record.specs.declared.record.Record.TheVariants.{Of}
use Rattle.journal_text.specs.declared.fault.TextFault.{TextFault}
use Rattle.journal_text.specs.Answers.{none, ◌>>=◌}
use Rattle.journal_text.specs.Fields.{number_to, count_of, octets_of, array_of, bitmap_of}
use Rattle.journal_text.specs.Names.{side_of, how_of, waits_of, clock_of, lost_of, mac_why_of}
use Rattle.journal_text.specs.Names.{rlc_why_of, pdcp_why_of}

unfoldable pub take_of : Side → ℕ → List (List ℕ) → Result Record TextFault
take_of side lcid (given ∷ len ∷ []) = do
  count ← count_of given
  len ← number_to 4294967295 len
  Ok (Of side (events.Take lcid count len))
take_of side lcid fields = none

unfoldable pub report_of : Side → ℕ → List (List ℕ) → Result Record TextFault
report_of side lcid (fms ∷ bits ∷ []) = do
  fms ← number_to 4294967295 fms
  bitmap ← bitmap_of bits
  Ok (Of side (events.Report lcid fms bitmap))
report_of side lcid fields = none

unfoldable pub send_of : Side → ℕ → List (List ℕ) → Result Record TextFault
send_of side lcid (what ∷ sn ∷ []) = do
  how ← how_of what
  sn ← number_to 4294967295 sn
  Ok (Of side (events.Send lcid how sn))
send_of side lcid fields = none

unfoldable pub wait_of : Side → ℕ → List (List ℕ) → Result Record TextFault
wait_of side lcid (word ∷ []) = do
  why ← waits_of word
  Ok (Of side (events.Wait lcid why))
wait_of side lcid fields = none

unfoldable pub start_of : Side → ℕ → List (List ℕ) → Result Record TextFault
start_of side lcid (timer ∷ []) = do
  clock ← clock_of timer
  Ok (Of side (events.Start lcid clock))
start_of side lcid fields = none

unfoldable pub stop_of : Side → ℕ → List (List ℕ) → Result Record TextFault
stop_of side lcid (timer ∷ []) = do
  clock ← clock_of timer
  Ok (Of side (events.Stop lcid clock))
stop_of side lcid fields = none

unfoldable pub expired_of : Side → ℕ → List (List ℕ) → Result Record TextFault
expired_of side lcid (timer ∷ []) = do
  clock ← clock_of timer
  Ok (Of side (events.Expired lcid clock))
expired_of side lcid fields = none

unfoldable pub up_of : Side → ℕ → List (List ℕ) → Result Record TextFault
up_of side lcid (text ∷ []) = do
  octets ← octets_of text
  Ok (Of side (events.Up lcid octets))
up_of side lcid fields = none

unfoldable pub fail_of : Side → ℕ → List (List ℕ) → Result Record TextFault
fail_of side lcid (sn ∷ []) = do
  sn ← number_to 4294967295 sn
  Ok (Of side (events.Fail lcid sn))
fail_of side lcid fields = none

unfoldable pub drop_of : Side → ℕ → List (List ℕ) → Result Record TextFault
drop_of side lcid (word ∷ []) = do
  why ← lost_of word
  Ok (Of side (events.Drop lcid why))
drop_of side lcid fields = none

unfoldable pub integrity_of : Side → ℕ → List (List ℕ) → Result Record TextFault
integrity_of side lcid (found ∷ wanted ∷ []) = do
  found ← array_of 4 found
  wanted ← array_of 4 wanted
  Ok (Of side (events.Integrity lcid found wanted))
integrity_of side lcid fields = none

unfoldable pub discard_of : Side → ℕ → List (List ℕ) → Result Record TextFault
discard_of side lcid (len ∷ []) = do
  len ← number_to 4294967295 len
  Ok (Of side (events.Discard lcid len))
discard_of side lcid fields = none

unfoldable pub bad_block_of : Side → List (List ℕ) → Result Record TextFault
bad_block_of side (at ∷ word ∷ []) = do
  at ← number_to 4294967295 at
  why ← mac_why_of word
  Ok (Of side (events.BadMac (record { at = at; why = why })))
bad_block_of side fields = none

unfoldable pub bad_rlc_of : Side → List (List ℕ) → Result Record TextFault
bad_rlc_of side (lcid ∷ at ∷ word ∷ []) = do
  lcid ← number_to 255 lcid
  at ← number_to 4294967295 at
  why ← rlc_why_of word
  Ok (Of side (events.BadRlc lcid (record { at = at; why = why })))
bad_rlc_of side fields = none

unfoldable pub bad_pdcp_of : Side → List (List ℕ) → Result Record TextFault
bad_pdcp_of side (lcid ∷ at ∷ word ∷ []) = do
  lcid ← number_to 255 lcid
  at ← number_to 4294967295 at
  why ← pdcp_why_of word
  Ok (Of side (events.BadPdcp lcid (record { at = at; why = why })))
bad_pdcp_of side fields = none

unfoldable pub bad_of : Side → List ℕ → List (List ℕ) → Result Record TextFault
bad_of side layer fields =
    if bytes_eq layer (codes "mac") then bad_block_of side fields
    else if bytes_eq layer (codes "rlc") then bad_rlc_of side fields
    else if bytes_eq layer (codes "pdcp") then bad_pdcp_of side fields
    else none

-- what happens on a channel
abbrev pub channel_event_of : List ℕ → Side → ℕ → List (List ℕ) → Result Record TextFault
channel_event_of first side lcid fields =
    if bytes_eq first (codes "take") then take_of side lcid fields
    else if bytes_eq first (codes "send") then send_of side lcid fields
    else if bytes_eq first (codes "up") then up_of side lcid fields
    else if bytes_eq first (codes "start") then start_of side lcid fields
    else if bytes_eq first (codes "stop") then stop_of side lcid fields
    else if bytes_eq first (codes "report") then report_of side lcid fields
    else if bytes_eq first (codes "wait") then wait_of side lcid fields
    else if bytes_eq first (codes "drop") then drop_of side lcid fields
    else if bytes_eq first (codes "expired") then expired_of side lcid fields
    else if bytes_eq first (codes "fail") then fail_of side lcid fields
    else if bytes_eq first (codes "discard") then discard_of side lcid fields
    else if bytes_eq first (codes "integrity") then integrity_of side lcid fields
    else none

unfoldable pub event_of : List ℕ → List (List ℕ) → Result Record TextFault
event_of first (node ∷ second ∷ fields) = side_of node >>= λ side.
    if bytes_eq first (codes "bad") then bad_of side second fields
    else (number_to 255 second >>= λ lcid. channel_event_of first side lcid fields)
event_of first fields = none
