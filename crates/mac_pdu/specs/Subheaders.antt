-- The subheaders of a MAC PDU as they are read: R R E LCID(5), and F L for an SDU that another item
-- follows (TS 36.321 6.1.2, 6.2.1).
use Rattle.std.specs.Prelude.{ℕ, ◌&&◌, not, ◌+◌, ◌-◌, ◌*◌, ◌/◌, ◌%◌, ◌==◌, nat_lt, nat_le, Bool}
use Rattle.std.specs.Prelude.{true, false, List, [], ◌∷◌, Option, Some, None, if◌then◌else◌}
use Rattle.std.specs.Prelude.{slice_index, unwrap_or}
use Rattle.mac_pdu.specs.declared.item.Direction.{Direction}
use Rattle.mac_pdu.specs.declared.item.Direction.TheVariants.{Down, Up}
use Rattle.mac_pdu.specs.declared.item.Bsr.TheVariants as bsr
use Rattle.mac_pdu.specs.declared.item.Control.{Control}
use Rattle.mac_pdu.specs.declared.item.Control.TheVariants as control
use Rattle.mac_pdu.specs.declared.fault.MacWhy.{MacWhy}
use Rattle.mac_pdu.specs.declared.fault.MacWhy.TheVariants as why
use Rattle.mac_pdu.specs.declared.subheader.Element.{Element}
use Rattle.mac_pdu.specs.declared.subheader.Element.TheVariants as element
use Rattle.mac_pdu.specs.declared.subheader.Kind.{Kind}
use Rattle.mac_pdu.specs.declared.subheader.Kind.TheVariants as kind
use Rattle.mac_pdu.specs.declared.subheader.Stage.{Stage}
use Rattle.mac_pdu.specs.declared.subheader.Stage.TheVariants as stage
use Rattle.mac_pdu.specs.declared.subheader.Subheader.{Subheader}

-- the control elements of each direction (TS 36.321 tables 6.2.1-1 and 6.2.1-2)
abbrev pub control_kind : Direction → ℕ → Kind
control_kind Down lcid =
    if lcid == 28 then kind.Control element.Contention
    else if lcid == 29 then kind.Control element.Advance
    else if lcid == 30 then kind.Control element.Drx
    else kind.Reserved
control_kind Up lcid =
    if lcid == 26 then kind.Control element.Phr
    else if lcid == 27 then kind.Control element.Crnti
    else if lcid == 28 then kind.Control element.Truncated
    else if lcid == 29 then kind.Control element.Short
    else if lcid == 30 then kind.Control element.Long
    else kind.Reserved

-- what an LCID stands for
unfoldable pub kind_of : Direction → ℕ → Kind
kind_of direction lcid =
    if nat_le lcid 10 then kind.Sdu else if lcid == 31 then kind.Padding
    else control_kind direction lcid

-- a subheader of one octet
abbrev pub short : Direction → ℕ → Subheader
short direction o =
    record {
      lcid = o % 32;
      kind = kind_of direction (o % 32);
      more = o / 32 % 2 == 1;
      length = None;
      size = 1;
    }

-- F and L behind the first octet
abbrev pub with_length : Subheader → List ℕ → Option Subheader
with_length s [] = None
with_length s (f ∷ []) = if nat_lt f 128 then Some (record s { length = Some f; size = 2 })
    else None
with_length s (f ∷ l ∷ rest) =
    if nat_lt f 128 then Some (record s { length = Some f; size = 2 })
    else Some (record s { length = Some ((f - 128) * 256 + l); size = 3 })

-- whether it is that of an SDU
abbrev pub is_sdu : Kind → Bool
is_sdu kind.Sdu = true
is_sdu _ = false

-- the subheader at the front, where it is whole
unfoldable pub subheader_at : Direction → List ℕ → Option Subheader
subheader_at direction [] = None
subheader_at direction (o ∷ os) =
    let s = short direction o in
    if is_sdu s.kind then (if s.more then with_length s os else Some s) else Some s

-- how many octets a control element has
abbrev pub element_size : Element → ℕ
element_size element.Contention = 6
element_size element.Advance = 1
element_size element.Drx = 0
element_size element.Phr = 1
element_size element.Crnti = 2
element_size element.Truncated = 1
element_size element.Short = 1
element_size element.Long = 3

-- the control element that its octets write
unfoldable pub control_of : Element → List ℕ → Control
control_of element.Contention octets = control.Contention octets
control_of element.Advance octets = control.Advance (slice_index octets 0 % 64)
control_of element.Drx octets = control.Drx
control_of element.Phr octets = control.Phr (slice_index octets 0 % 64)
control_of element.Crnti octets = control.Crnti (slice_index octets 0 * 256 + slice_index octets 1)
control_of element.Truncated octets =
    control.Report (bsr.Truncated (slice_index octets 0 / 64) (slice_index octets 0 % 64))
control_of element.Short octets =
    control.Report (bsr.Short (slice_index octets 0 / 64) (slice_index octets 0 % 64))
control_of element.Long octets =
    let a = slice_index octets 0 in
    let b = slice_index octets 1 in
    let c = slice_index octets 2 in
    control.Report
    (bsr.Long ((a / 4) ∷ (a % 4 * 16 + b / 16) ∷ (b % 16 * 4 + c / 64) ∷ (c % 64) ∷ []))

-- how many of n octets are the payload of a subheader of that kind; a last SDU and a last padding
-- take all
abbrev pub kind_payload : Kind → Bool → Option ℕ → ℕ → ℕ
kind_payload kind.Sdu more len n = unwrap_or len n
kind_payload (kind.Control e) more len n = element_size e
kind_payload kind.Padding more len n = if more then 0 else n
kind_payload kind.Reserved more len n = 0

-- how many of n octets are the payload of a subheader
unfoldable pub payload_len : Subheader → ℕ → ℕ
payload_len s n = kind_payload s.kind s.more s.length n

-- whether padding that another subheader follows may stand there: first, or second behind a first
-- that is padding
abbrev pub takes_front : Stage → Bool
takes_front stage.Start = true
takes_front stage.Padded = true
takes_front stage.Controls = false
takes_front stage.Sdus = false

-- whether an SDU's subheader came before
abbrev pub has_sdu : Stage → Bool
has_sdu stage.Sdus = true
has_sdu _ = false

abbrev pub is_reserved : Kind → Bool
is_reserved kind.Reserved = true
is_reserved _ = false

abbrev pub is_padding : Kind → Bool
is_padding kind.Padding = true
is_padding _ = false

abbrev pub is_control : Kind → Bool
is_control (kind.Control e) = true
is_control _ = false

-- why a subheader can't stand there: the first of these that is true
unfoldable pub fault_of : Stage → Kind → Bool → Option MacWhy
fault_of st k more =
    if is_reserved k then Some why.ReservedLcid
    else if is_padding k && (more && not (takes_front st)) then Some why.PaddingPlace
    else if is_control k && has_sdu st then Some why.ControlAfterSdu
    else None

-- what came before the subheader that follows one
abbrev pub after : Stage → Kind → Stage
after stage.Sdus k = stage.Sdus
after st kind.Sdu = stage.Sdus
after stage.Start kind.Padding = stage.Padded
after st k = stage.Controls
