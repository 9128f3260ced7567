-- The words of a record that name something (docs/formats/JOURNAL.md).
use Rattle.std.specs.Prelude.{ℕ, ◌==◌, Bool, true, false, if◌then◌else◌, List, codes, Option, None}
use Rattle.std.specs.Prelude.{Some, Result, Ok}
use Rattle.std.specs.Str.{bytes_eq}
use Rattle.l2_types.specs.declared.side.Side.{Side}
use Rattle.l2_types.specs.declared.side.Side.TheVariants as sides
use Rattle.l2_types.specs.declared.event.Clock.{Clock}
use Rattle.l2_types.specs.declared.event.Clock.TheVariants as clocks
use Rattle.l2_types.specs.declared.event.How.{How}
use Rattle.l2_types.specs.declared.event.How.TheVariants as hows
use Rattle.l2_types.specs.declared.event.Waits.{Waits}
use Rattle.l2_types.specs.declared.event.Waits.TheVariants as waits
use Rattle.l2_types.specs.declared.event.Lost.{Lost}
use Rattle.l2_types.specs.declared.event.Lost.TheVariants as losts
use Rattle.mac_pdu.specs.declared.item.Direction.{Direction}
use Rattle.mac_pdu.specs.declared.item.Direction.TheVariants as directions
use Rattle.air_record.specs.declared.record.Arrived.{Arrived}
use Rattle.air_record.specs.declared.record.Arrived.TheVariants as arriveds
use Rattle.air_record.specs.declared.record.NoPlace.{NoPlace}
use Rattle.air_record.specs.declared.record.NoPlace.TheVariants as places
use Rattle.air_record.specs.declared.record.State.{State}
use Rattle.air_record.specs.declared.record.State.TheVariants as states
use Rattle.mac_pdu.specs.declared.fault.MacWhy.{MacWhy}
use Rattle.mac_pdu.specs.declared.fault.MacWhy.TheVariants as macs
use Rattle.rlc_pdu.specs.declared.fault.RlcWhy.{RlcWhy}
use Rattle.rlc_pdu.specs.declared.fault.RlcWhy.TheVariants as rlcs
use Rattle.pdcp_pdu.specs.declared.pdu.PdcpWhy.{PdcpWhy}
use Rattle.pdcp_pdu.specs.declared.pdu.PdcpWhy.TheVariants as pdcps
use Rattle.journal_text.specs.declared.fault.TextFault.{TextFault}
use Rattle.journal_text.specs.Answers.{none, ◌>>=◌}
use Rattle.journal_text.specs.Fields.{number_to}

unfoldable pub side_of : List ℕ → Result Side TextFault
side_of text =
    if bytes_eq text (codes "ue") then Ok sides.Ue
    else if bytes_eq text (codes "nb") then Ok sides.Nb
    else none

unfoldable pub clock_of : List ℕ → Result Clock TextFault
clock_of text =
    if bytes_eq text (codes "poll") then Ok clocks.Poll
    else if bytes_eq text (codes "reorder") then Ok clocks.Reorder
    else if bytes_eq text (codes "prohibit") then Ok clocks.Prohibit
    else none

unfoldable pub how_of : List ℕ → Result How TextFault
how_of text =
    if bytes_eq text (codes "tm") then Ok hows.Tm
    else if bytes_eq text (codes "new") then Ok hows.New
    else if bytes_eq text (codes "re") then Ok hows.Re
    else if bytes_eq text (codes "status") then Ok hows.Status
    else none

unfoldable pub waits_of : List ℕ → Result Waits TextFault
waits_of text =
    if bytes_eq text (codes "stopped") then Ok waits.Stopped
    else if bytes_eq text (codes "shut") then Ok waits.Shut
    else if bytes_eq text (codes "held") then Ok waits.Held
    else if bytes_eq text (codes "small") then Ok waits.Small
    else none

unfoldable pub lost_of : List ℕ → Result Lost TextFault
lost_of text =
    if bytes_eq text (codes "nobearer") then Ok losts.NoBearer
    else if bytes_eq text (codes "repeat") then Ok losts.Repeat
    else if bytes_eq text (codes "outside") then Ok losts.Outside
    else if bytes_eq text (codes "clash") then Ok losts.Clash
    else if bytes_eq text (codes "old") then Ok losts.Old
    else if bytes_eq text (codes "range") then Ok losts.Range
    else if bytes_eq text (codes "ignored") then Ok losts.Ignored
    else if bytes_eq text (codes "handover") then Ok losts.Handover
    else if bytes_eq text (codes "loop") then Ok losts.Loop
    else if bytes_eq text (codes "report") then Ok losts.Report
    else none

unfoldable pub direction_of : List ℕ → Result Direction TextFault
direction_of text =
    if bytes_eq text (codes "dl") then Ok directions.Down
    else if bytes_eq text (codes "ul") then Ok directions.Up
    else none

unfoldable pub arrived_of : List ℕ → Result Arrived TextFault
arrived_of text =
    if bytes_eq text (codes "got") then Ok arriveds.Got
    else if bytes_eq text (codes "dup") then Ok arriveds.Dup
    else if bytes_eq text (codes "bad") then Ok arriveds.Bad
    else if bytes_eq text (codes "none") then Ok arriveds.Nothing
    else none

unfoldable pub place_of : List ℕ → Result NoPlace TextFault
place_of text =
    if bytes_eq text (codes "full") then Ok places.Full
    else if bytes_eq text (codes "count") then Ok places.Count
    else none

unfoldable pub state_of : List ℕ → Result State TextFault
state_of text =
    if bytes_eq text (codes "ok") then Ok states.Ok
    else if bytes_eq text (codes "failed") then Ok states.Failed
    else if bytes_eq text (codes "short") then Ok states.Short
    else if bytes_eq text (codes "long") then Ok states.Long
    else none

unfoldable pub fresh_of : List ℕ → Result Bool TextFault
fresh_of text =
    if bytes_eq text (codes "new") then Ok true
    else if bytes_eq text (codes "re") then Ok false
    else none

unfoldable pub heard_of : List ℕ → Result (Option Bool) TextFault
heard_of text =
    if bytes_eq text (codes "-") then Ok None
    else if bytes_eq text (codes "ack") then Ok (Some true)
    else if bytes_eq text (codes "nack") then Ok (Some false)
    else none

unfoldable pub bit_of : List ℕ → Result Bool TextFault
bit_of text =
    if bytes_eq text (codes "1") then Ok true
    else if bytes_eq text (codes "0") then Ok false
    else none

unfoldable pub framing_of : List ℕ → Result ℕ TextFault
framing_of text =
    if bytes_eq text (codes "00") then Ok 0
    else if bytes_eq text (codes "01") then Ok 1
    else if bytes_eq text (codes "10") then Ok 2
    else if bytes_eq text (codes "11") then Ok 3
    else none

abbrev pub mac_why_in : ℕ → Result MacWhy TextFault
mac_why_in n =
    if n == 1 then Ok macs.Short
    else if n == 2 then Ok macs.ReservedLcid
    else if n == 3 then Ok macs.LengthPast
    else if n == 4 then Ok macs.ControlAfterSdu
    else if n == 5 then Ok macs.PaddingPlace
    else none

-- by its number
unfoldable pub mac_why_of : List ℕ → Result MacWhy TextFault
mac_why_of text = number_to 4294967295 text >>= mac_why_in

abbrev pub rlc_why_in : ℕ → Result RlcWhy TextFault
rlc_why_in n =
    if n == 1 then Ok rlcs.Short
    else if n == 2 then Ok rlcs.ZeroLi
    else if n == 3 then Ok rlcs.LiPast
    else if n == 4 then Ok rlcs.EmptyData
    else if n == 5 then Ok rlcs.ReservedCpt
    else if n == 6 then Ok rlcs.SoBackwards
    else if n == 7 then Ok rlcs.Trailing
    else none

-- by its number
unfoldable pub rlc_why_of : List ℕ → Result RlcWhy TextFault
rlc_why_of text = number_to 4294967295 text >>= rlc_why_in

abbrev pub pdcp_why_in : ℕ → Result PdcpWhy TextFault
pdcp_why_in n =
    if n == 1 then Ok pdcps.Short
    else if n == 2 then Ok pdcps.ReservedType
    else if n == 3 then Ok pdcps.EmptyData
    else none

-- by its number
unfoldable pub pdcp_why_of : List ℕ → Result PdcpWhy TextFault
pdcp_why_of text = number_to 4294967295 text >>= pdcp_why_in
