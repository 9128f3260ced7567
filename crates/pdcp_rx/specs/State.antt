-- The receiver as a machine: its state, and what each call answers and makes of it.
use Rattle.std.specs.Prelude.{ℕ, ◌+◌, ◌-◌, ◌/◌, ◌%◌, ◌^◌, Bool, false, ◌&&◌, ◌||◌, if◌then◌else◌}
use Rattle.std.specs.Prelude.{List, [], ◌++◌, length, take, drop, Option, Some, None, nat_lt}
use Rattle.std.specs.Prelude.{nat_le}
use Rattle.l2_num.specs.Numbers.{ahead}
use Rattle.eps_sec.specs.declared.Keys.{Keys}
use Rattle.pdcp_pdu.specs.declared.PdcpKind.{PdcpKind}
use Rattle.pdcp_pdu.specs.declared.PdcpKind.TheVariants.{Srb, Um, Am}
use Rattle.pdcp_pdu.specs.Grammar.{user_spelling}
use Rattle.pdcp_pdu.specs.Pdus.{Report}
use Rattle.pdcp_pdu.specs.Kinds.{bits_of, is_am}
use Rattle.pdcp_sec.specs.Protection.{Protection, protection_of}
use Rattle.pdcp_rx.specs.declared.got.Cause.{Cause}
use Rattle.pdcp_rx.specs.declared.got.Cause.TheVariants.{Arrived, Reestablished}
use Rattle.pdcp_rx.specs.declared.got.Got.{Got}
use Rattle.pdcp_rx.specs.declared.got.Got.TheVariants as answers
use Rattle.pdcp_rx.specs.declared.security.Opened.{Opened}
use Rattle.pdcp_rx.specs.declared.security.Opened.TheVariants as inside
use Rattle.pdcp_rx.specs.Held.{is_held, stored, present, rising, bitmap}
use Rattle.pdcp_rx.specs.Heard.{Heard, Bad, Told, Data, heard}
use Rattle.pdcp_rx.specs.Opening.{opened}

-- next is the COUNT after the last that was handed up, held what is kept of each COUNT from it on
-- up to the greatest that is kept, ready what is to go up (TS 36.323 7.1: Next_PDCP_RX_SN and
-- RX_HFN, as one COUNT)
pub record State : Type 0 where
  pub kind : PdcpKind
  pub protection : Protection
  pub next : ℕ
  pub held : List (Option (List ℕ))
  pub ready : List (List ℕ)

-- how far above next a COUNT is looked for: the window of TS 36.323 5.1.2.1.2 over acknowledged
-- RLC, else all numbers
abbrev pub width : PdcpKind → ℕ
width Srb = 2 ^ 5
width (Um bits) = 2 ^ bits
width (Am bits) = 2 ^ (bits - 1)

unfoldable pub fresh : PdcpKind → Protection → ℕ → State
fresh kind protection first =
    record { kind = kind; protection = protection; next = first; held = []; ready = [] }

-- how far above next the least COUNT with this SN lies
abbrev pub above : State → ℕ → ℕ
above s sn = ahead sn (s.next % 2 ^ bits_of s.kind) (2 ^ bits_of s.kind)

-- why no SDU is taken at that COUNT: it is looked for nowhere or held already, or COUNTs end before
-- it
abbrev pub passed_over : State → ℕ → Option Got
passed_over s at =
    if nat_le (width s.kind) at || is_held s.held at then Some answers.Old
    else (if nat_le (2 ^ 32) (s.next + at) then Some answers.OutOfRange else None)

-- at a re-establishment only the COUNT that is next goes up (TS 36.323 5.1.2.1.2)
abbrev pub waits : PdcpKind → Cause → ℕ → Bool
waits kind Arrived at = false
waits kind Reestablished at = is_am kind && nat_lt 0 at

-- SDUs go up: the first `from` that may be held, and those that follow without a gap
abbrev pub raised : State → List (Option (List ℕ)) → ℕ → State
raised s held from = record s {
  next = s.next + rising held from;
  held = drop (rising held from) held;
  ready = s.ready ++ present (take (rising held from) held);
}

-- an SDU is put to its place, and goes up with all held below it, or waits
abbrev pub placed : State → Cause → ℕ → List ℕ → State
placed s cause at sdu =
    if waits s.kind cause at then record s { held = stored s.held at sdu }
    else raised s (stored s.held at sdu) (at + 1)

abbrev pub got_opened : State → Cause → ℕ → Opened → Got
got_opened s cause at (inside.Sdu sdu) =
    if waits s.kind cause at then answers.Stored else answers.Up
got_opened s cause at (inside.Differs found wanted) = answers.Integrity found wanted

abbrev pub left_opened : State → Cause → ℕ → Opened → State
left_opened s cause at (inside.Sdu sdu) = placed s cause at sdu
left_opened s cause at (inside.Differs found wanted) = s

abbrev pub got_data : Option Got → State → Cause → ℕ → Opened → Got
got_data (Some why) s cause at o = why
got_data None s cause at o = got_opened s cause at o

abbrev pub left_data : Option Got → State → Cause → ℕ → Opened → State
left_data (Some why) s cause at o = s
left_data None s cause at o = left_opened s cause at o

-- what is found at the COUNT so far above next
abbrev pub opened_at : State → ℕ → List ℕ → Opened
opened_at s at body = opened s.kind s.protection (s.next + at) body

abbrev pub got_heard : State → Cause → Heard → Got
got_heard s cause (Bad refusal) = answers.Unreadable refusal
got_heard s cause (Told fms bits) = answers.Report fms bits
got_heard s cause (Data sn body) =
    got_data (passed_over s (above s sn)) s cause (above s sn) (opened_at s (above s sn) body)

abbrev pub left_heard : State → Cause → Heard → State
left_heard s cause (Bad refusal) = s
left_heard s cause (Told fms bits) = s
left_heard s cause (Data sn body) =
    left_data (passed_over s (above s sn)) s cause (above s sn) (opened_at s (above s sn) body)

-- what is answered to a PDU (TS 36.323 5.1.2.1)
unfoldable pub got : State → List ℕ → Cause → Got
got s pdu cause = got_heard s cause (heard s.kind pdu)

-- the state after it
unfoldable pub arrived : State → List ℕ → Cause → State
arrived s pdu cause = left_heard s cause (heard s.kind pdu)

-- the status report: FMS is next, and a bit stands for each COUNT behind it up to the greatest that
-- is held (TS 36.323 5.3.1)
unfoldable pub report : State → List ℕ
report s =
    user_spelling (bits_of s.kind)
    (Report (s.next % 2 ^ bits_of s.kind) (bitmap s.held 1 ((length s.held + 6) / 8)))

-- a new life begins under other keys: over acknowledged RLC COUNTs and what is held stay, else
-- COUNT is 0 again (TS 36.323 5.2.2)
unfoldable pub restarted : State → Keys → State
restarted s keys = record s {
  protection = protection_of s.kind keys s.protection.bearer s.protection.direction;
  next = if is_am s.kind then s.next else 0;
  held = if is_am s.kind then s.held else [];
}
