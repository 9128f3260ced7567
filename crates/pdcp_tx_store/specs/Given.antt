-- What was given to RLC in a life, what of it is confirmed, and what is to be given again.
use Rattle.std.specs.Prelude.{ℕ, ◌+◌, ◌-◌, Bool, true, false, not, ◌&&◌, ◌||◌, if◌then◌else◌, List}
use Rattle.std.specs.Prelude.{[], ◌∷◌, ◌++◌, map, length, Option, Some, None, slice_get, slice_set}
use Rattle.std.specs.Prelude.{nat_lt}
use Rattle.pdcp_pdu.specs.Grammar.{bit_of}
use Rattle.pdcp_tx_store.specs.declared.given.Sent.{Sent}
use Rattle.pdcp_tx_store.specs.declared.given.Entry.{Entry}
use Rattle.pdcp_tx_store.specs.declared.given.Entry.TheVariants.{Data, Own, Gone}

-- at the first `gone` places all is confirmed; then what was given at each place from there on
pub record Given : Type 0 where
  pub gone : ℕ
  pub entries : List Entry

-- neither RLC nor a report has confirmed it
abbrev pub is_open : Entry → Bool
is_open (Data s) = not s.acked
is_open Own = true
is_open Gone = false

-- what is left from the first one that is open
abbrev pub trimmed : List Entry → List Entry
trimmed [] = []
trimmed (e ∷ es) = if is_open e then e ∷ es else trimmed es

-- how many come before it
abbrev pub closed : List Entry → ℕ
closed [] = 0
closed (e ∷ es) = if is_open e then 0 else 1 + closed es

-- without the confirmed ones at the front
abbrev pub settled : Given → Given
settled g = record { gone = g.gone + closed g.entries; entries = trimmed g.entries }

-- with one more place
abbrev pub with_entry : Given → Entry → Given
with_entry g e = record { gone = g.gone; entries = g.entries ++ e ∷ [] }

-- once RLC has acknowledged it: an SDU stays for the next life
abbrev pub acked : Entry → Entry
acked (Data s) = Data (record s { acked = true })
acked Own = Gone
acked Gone = Gone

-- once RLC has acknowledged what stands at place k
abbrev pub acked_at : Option Entry → List Entry → ℕ → List Entry
acked_at None es k = es
acked_at (Some e) es k = slice_set es k (acked e)

-- the entry at a place, if it isn't gone
abbrev pub entry_at : Given → ℕ → Option Entry
entry_at g place = if nat_lt place g.gone then None else slice_get g.entries (place - g.gone)

abbrev pub with_ack : Given → ℕ → Given
with_ack g place =
    record { gone = g.gone; entries = acked_at (entry_at g place) g.entries (place - g.gone) }

-- whether it is the own status report
abbrev pub is_own : Option Entry → Bool
is_own None = false
is_own (Some (Data s)) = false
is_own (Some Own) = true
is_own (Some Gone) = false

-- octets of the SDUs that aren't confirmed
abbrev pub open_length : Entry → ℕ
open_length (Data s) = if s.acked then 0 else length s.octets
open_length Own = 0
open_length Gone = 0

abbrev pub open_octets : List Entry → ℕ
open_octets [] = 0
open_octets (e ∷ es) = open_length e + open_octets es

-- the COUNT of the first SDU that isn't confirmed
abbrev pub first_open : List Entry → Option ℕ
first_open [] = None
first_open (Data s ∷ es) = if s.acked then first_open es else Some s.count
first_open (Own ∷ es) = first_open es
first_open (Gone ∷ es) = first_open es

abbrev pub first_unacked : List Sent → Option ℕ
first_unacked [] = None
first_unacked (s ∷ ss) = if s.acked then first_unacked ss else Some s.count

abbrev pub sent_octets : List Sent → ℕ
sent_octets [] = 0
sent_octets (s ∷ ss) = length s.octets + sent_octets ss

-- whether a report confirms the COUNT n, `from` being the COUNT of its FMS: all below it, and those
-- whose bit is 1 (TS 36.323 5.9.1)
abbrev pub tells : ℕ → List ℕ → ℕ → Bool
tells from bitmap n = nat_lt n from || (nat_lt from n && bit_of bitmap (n - from - 1))

-- what a report leaves of an entry
abbrev pub heard : ℕ → List ℕ → Entry → Entry
heard from bitmap (Data s) = if tells from bitmap s.count then Gone else Data s
heard from bitmap Own = Own
heard from bitmap Gone = Gone

abbrev pub with_report : Given → ℕ → List ℕ → Given
with_report g from bitmap = record { gone = g.gone; entries = map (heard from bitmap) g.entries }

-- those that a report leaves to be given again
abbrev pub untold : ℕ → List ℕ → List Sent → List Sent
untold from bitmap [] = []
untold from bitmap (s ∷ ss) = if tells from bitmap s.count then untold from bitmap ss
    else s ∷ untold from bitmap ss

-- an SDU that RLC hasn't acknowledged
abbrev pub is_unacked : Entry → Bool
is_unacked (Data s) = not s.acked
is_unacked Own = false
is_unacked Gone = false

-- what the next life takes again: SDUs in order, from the first that RLC hasn't acknowledged (TS
-- 36.323 5.2.1.1)
abbrev pub from_unacked : List Sent → List Sent
from_unacked [] = []
from_unacked (s ∷ ss) = if s.acked then from_unacked ss else s ∷ ss

-- the SDUs among the entries that no report has confirmed
abbrev pub data_of : List Entry → List Sent
data_of [] = []
data_of (Data s ∷ es) = s ∷ data_of es
data_of (Own ∷ es) = data_of es
data_of (Gone ∷ es) = data_of es
