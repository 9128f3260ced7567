-- The sender as a machine: its state, and what each call answers and makes of it (TS 36.323 5.1.1,
-- 5.2, 5.4, 5.9).
use Rattle.std.specs.Prelude.{◌≡◌, ℕ, ◌+◌, ◌-◌, ◌%◌, ◌^◌, ◌≤◌, Bool, true, false, not, ◌&&◌}
use Rattle.std.specs.Prelude.{if◌then◌else◌, List, [], ◌∷◌, ◌++◌, map, length, take, drop, min}
use Rattle.std.specs.Prelude.{Option, Some, None, option_map, slice_get, nat_lt, nat_le, ◌==◌}
use Rattle.pdcp_pdu.specs.declared.pdu.PdcpKind.{PdcpKind}
use Rattle.pdcp_pdu.specs.declared.pdu.PdcpKind.TheVariants.{Srb, Um, Am}
use Rattle.eps_sec.specs.declared.keys.Keys.{Keys}
use Rattle.l2_bits.specs.declared.fault.SubmitRefusal.{SubmitRefusal}
use Rattle.l2_bits.specs.declared.fault.SubmitRefusal.TheVariants.{Empty, TooLong, Full, CountEnd}
use Rattle.l2_bits.specs.declared.fault.SubmitRefusal.TheVariants.{NoMemory}
use Rattle.pdcp_tx_store.specs.declared.given.Sent.{Sent}
use Rattle.pdcp_tx_store.specs.declared.given.Entry.TheVariants.{Data, Own}
use Rattle.pdcp_tx.specs.declared.sender.Next.{Next}
use Rattle.pdcp_pdu.specs.Kinds.{is_am}
use Rattle.pdcp_sec.specs.Protection.{Protection, protection_of}
use Rattle.pdcp_tx.specs.Pdus.{modulus, extra, width, pdu}
use Rattle.pdcp_tx_store.specs.Waiting.{Waits, length_all}
use Rattle.pdcp_tx_store.specs.Given.{Given, settled, with_entry, with_ack, with_report, entry_at}
use Rattle.pdcp_tx_store.specs.Given.{is_own, first_open, first_unacked, open_octets, sent_octets}
use Rattle.pdcp_tx_store.specs.Given.{untold, from_unacked, data_of}
use Rattle.l2_types.specs.declared.limits.TheConstants.{GREATEST_SDU, MOST_WAITING}

-- COUNTs are whole numbers, HFN and SN together (TS 36.323 6.3.5).
-- `next` is the COUNT of the next SDU that is taken for the first time, `base` the first
-- unconfirmed COUNT as the life began, `bound` the first COUNT that is too high to be taken. `owed`
-- is the own status report, until it is taken; `reporting` says that RLC hasn't acknowledged it.
-- `given` is what was given to RLC in this life, `again` what is to be given again, `waiting` what
-- has no COUNT yet. `clock` is the TTIs that have begun, `discard` the length of the discard timer
-- in TTIs.
pub record State : Type 0 where
  pub kind : PdcpKind
  pub protection : Protection
  pub next : ℕ
  pub base : ℕ
  pub bound : ℕ
  pub owed : Option (List ℕ)
  pub reporting : Bool
  pub given : Given
  pub again : List Sent
  pub waiting : List Waits
  pub clock : ℕ
  pub discard : Option ℕ

-- a sender whose first COUNT is `first`
unfoldable pub start : PdcpKind → Protection → ℕ → State
start kind protection first =
    record {
      kind = kind;
      protection = protection;
      next = first;
      base = first;
      bound = first + width kind;
      owed = None;
      reporting = false;
      given = record { gone = 0; entries = [] };
      again = [];
      waiting = [];
      clock = 0;
      discard = None;
    }

-- Submitting.

-- why an SDU is refused, in this order: its length, room, COUNT
unfoldable pub refusal : State → List ℕ → Option SubmitRefusal
refusal s sdu =
    if length sdu == 0 then Some Empty
    else (if nat_lt GREATEST_SDU (length sdu) then Some TooLong
    else (if nat_le MOST_WAITING (length s.waiting) then Some Full
    else (if s.next + length s.waiting == 2 ^ 32 then Some CountEnd else None)))

-- an answer is this refusal, or memory ran out where there was none
abbrev pub IsAnswer : SubmitRefusal → Option SubmitRefusal → Type 0
IsAnswer Empty r = r ≡ Some Empty
IsAnswer TooLong r = r ≡ Some TooLong
IsAnswer Full r = r ≡ Some Full
IsAnswer CountEnd r = r ≡ Some CountEnd
IsAnswer NoMemory r = r ≡ None

-- the SDU waits, and its discard timer starts (TS 36.323 5.1.1)
unfoldable pub submitted : State → List ℕ → State
submitted s sdu = record s { waiting = s.waiting ++ record { sdu = sdu; born = s.clock } ∷ [] }

-- What may be taken, in order: the own report, SDUs that are given again, new ones with COUNTs
-- below the bound.

-- an SDU with its COUNT, or the octets of the report, which has none
pub record Offer : Type 0 where
  pub count : Option ℕ
  pub text : List ℕ

abbrev pub owed_offers : Option (List ℕ) → List Offer
owed_offers None = []
owed_offers (Some report) = record { count = None; text = report } ∷ []

abbrev pub again_offer : Sent → Offer
again_offer s = record { count = Some s.count; text = s.octets }

abbrev pub new_offers : ℕ → List Waits → List Offer
new_offers n [] = []
new_offers n (w ∷ ws) = record { count = Some n; text = w.sdu } ∷ new_offers (n + 1) ws

unfoldable pub offers : State → List Offer
offers s = owed_offers s.owed ++ map again_offer s.again
    ++ new_offers s.next (take (s.bound - s.next) s.waiting)

-- the octets of the PDU of an offer
abbrev pub size : PdcpKind → Option ℕ → ℕ → ℕ
size kind None len = len
size kind (Some count) len = len + extra kind

abbrev pub sizes : PdcpKind → List Offer → ℕ
sizes kind [] = 0
sizes kind (o ∷ os) = size kind o.count (length o.text) + sizes kind os

-- the octets of the SDUs that wait, aren't confirmed, or are to be given again
unfoldable pub left : State → ℕ
left s = open_octets s.given.entries + sent_octets s.again + length_all s.waiting

-- Taking.

-- the PDU of an offer
abbrev pub written : PdcpKind → Protection → Option ℕ → List ℕ → Next
written kind protection None text = record { count = None; len = 0; octets = text }
written kind protection (Some count) text =
    record { count = Some count; len = length text; octets = pdu kind protection count text }

-- RLC takes PDUs of 1 to 8193 octets
abbrev pub IsShort : List ℕ → Type 0
IsShort pdu = (1 ≤ length pdu) × (length pdu ≤ 8193)

abbrev pub HasSize : Next → Type 0
HasSize next = IsShort next.octets

-- the first of what may be taken
unfoldable pub taking : State → Option Next
taking s = option_map (λ o. written s.kind s.protection o.count o.text) (slice_get (offers s) 0)

abbrev pub sent : ℕ → List ℕ → Bool → Sent
sent count sdu acked = record { count = count; octets = sdu; acked = acked }

-- only an acknowledged data bearer keeps what was taken
abbrev pub given_new : PdcpKind → Given → ℕ → List ℕ → Given
given_new kind g count sdu = if is_am kind then with_entry g (Data (sent count sdu false)) else g

abbrev pub took_new : List Waits → State → State
took_new [] s = s
took_new (w ∷ ws) s = record s {
  waiting = drop 1 s.waiting;
  next = s.next + 1;
  given = given_new s.kind s.given s.next w.sdu;
}

abbrev pub took_again : List Sent → State → State
took_again [] s = took_new (take (s.bound - s.next) s.waiting) s
took_again (x ∷ xs) s = record s { again = xs; given = settled (with_entry s.given (Data x)) }

abbrev pub took_owed : Option (List ℕ) → State → State
took_owed None s = took_again s.again s
took_owed (Some report) s = record s { owed = None; given = with_entry s.given Own }

-- once it is taken
unfoldable pub took : State → State
took s = took_owed s.owed s

-- Confirming.

abbrev pub or_else : Option ℕ → ℕ → ℕ
or_else None n = n
or_else (Some m) n = m

-- the first unconfirmed COUNT
abbrev pub low : State → ℕ
low s = or_else (first_open s.given.entries) (or_else (first_unacked s.again) s.next)

-- the bound moves with it, but not before RLC has acknowledged the own report
abbrev pub moved : State → State
moved s = record s { bound = if s.reporting then s.bound else low s + width s.kind }

-- RLC has acknowledged what was given at a place
unfoldable pub confirmed : State → ℕ → State
confirmed s place =
    moved (record s {
      given = settled (with_ack s.given place);
      reporting = s.reporting && not (is_own (entry_at s.given place));
    })

-- how far the SN of an FMS is ahead of a COUNT
abbrev pub ahead : PdcpKind → ℕ → ℕ → ℕ
ahead kind base fms = (fms + modulus kind - base % modulus kind) % modulus kind

-- the COUNT of an FMS: at most the width above the first unconfirmed one as the life began
abbrev pub fms_count : PdcpKind → ℕ → ℕ → Option ℕ
fms_count kind base fms = if nat_le (ahead kind base fms) (width kind)
    then Some (base + ahead kind base fms) else None

abbrev pub reported_from : Option ℕ → State → List ℕ → State
reported_from None s bitmap = s
reported_from (Some from) s bitmap =
    moved (record s {
      given = settled (with_report s.given from bitmap);
      again = untold from bitmap s.again;
    })

-- a status report has come (TS 36.323 5.3.2)
unfoldable pub reported : State → ℕ → List ℕ → State
reported s fms bitmap = reported_from (fms_count s.kind s.base fms) s bitmap

-- the own status report is to be given
abbrev pub owing : State → List ℕ → State
owing s report = record s { owed = Some report; reporting = true }

-- Discard timers (TS 36.323 5.4).

-- a TTI begins
abbrev pub ticked : State → State
ticked s = record s { clock = min (s.clock + 1) (2 ^ 64 - 1) }

abbrev pub is_late : Option ℕ → ℕ → Option Waits → Bool
is_late (Some n) clock (Some w) = nat_le n (clock - w.born)
is_late None clock w = false
is_late (Some n) clock None = false

-- whether the timer of the first SDU that waits has ended
abbrev pub is_overdue : State → Bool
is_overdue s = is_late s.discard s.clock (slice_get s.waiting 0)

unfoldable pub after_late : State → State
after_late s = record s { waiting = if is_overdue s then drop 1 s.waiting else s.waiting }

unfoldable pub late_length : State → Option ℕ
late_length s = if is_overdue s then option_map (λ w. length w.sdu) (slice_get s.waiting 0)
    else None

-- A new life (TS 36.323 5.2.1).

-- the SDUs that it takes again: of those that no report confirmed, from the first on that RLC
-- hasn't acknowledged
abbrev pub kept_again : State → List Sent
kept_again s = from_unacked (data_of s.given.entries ++ s.again)

-- on other than acknowledged data bearers COUNT begins at 0 again
abbrev pub next_from : PdcpKind → ℕ → ℕ
next_from Srb next = 0
next_from (Um bits) next = 0
next_from (Am bits) next = next

-- signalling bearers forget what waits
abbrev pub waiting_on : PdcpKind → List Waits → List Waits
waiting_on Srb ws = []
waiting_on (Um bits) ws = ws
waiting_on (Am bits) ws = ws

abbrev pub first_again : List Sent → ℕ → ℕ
first_again ss next = or_else (option_map (λ s. s.count) (slice_get ss 0)) next

-- a life begins with the first COUNT that is to be taken
abbrev pub begun : State → Protection → State
begun s protection = record s {
  protection = protection;
  base = first_again s.again s.next;
  bound = first_again s.again s.next + width s.kind;
  owed = None;
  reporting = false;
  given = record { gone = 0; entries = [] };
}

-- the next life, under other keys
unfoldable pub restarted : State → Keys → State
restarted s keys =
    begun (record s {
      again = kept_again s;
      next = next_from s.kind s.next;
      waiting = waiting_on s.kind s.waiting;
    })
    (protection_of s.kind keys s.protection.bearer s.protection.direction)
