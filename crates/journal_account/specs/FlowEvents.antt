-- What happens to an acknowledged flow in one life, at its sender and its receiver, as a journal
-- tells it (docs/laws/ACCOUNT.md; TS 36.322 5.1.3, 5.2).
use Rattle.std.specs.Prelude.{ℕ, ◌<◌, ◌≤◌, Bool, List, [], ◌∷◌, ◌++◌, length}
use Rattle.journal_account.specs.declared.entry.StatusEntry.{StatusEntry}

-- Numbers are true numbers, counted from 0; octets stand for their places in the data field of
-- their number, those at or above one place and below another.
pub data FlowEvent : Type 0 where
  -- RLC takes an SDU or a status report of PDCP, of so many octets
  SduTaken : ℕ → FlowEvent
  -- the sender writes the next number, with so many octets (5.1.3.1.1)
  NumberWritten : ℕ → FlowEvent
  -- it writes octets of a number again (5.2.1)
  OctetsResent : ℕ → ℕ → ℕ → FlowEvent
  -- octets of a number come to the receiver (5.1.3.2)
  OctetsArrived : ℕ → ℕ → ℕ → FlowEvent
  -- t-Reordering starts, and expires (5.1.3.2.3, 5.1.3.2.4)
  ReorderStarted : FlowEvent
  ReorderExpired : FlowEvent
  -- a STATUS comes to the sender, with its ACK and its entries (5.2.1)
  StatusHeard : ℕ → List StatusEntry → FlowEvent
  -- t-PollRetransmit expires, and an SDU may be taken or not (5.2.2.3)
  PollExpired : Bool → FlowEvent

-- A history lists the events of the life so far, the latest first.

abbrev pub size_in : FlowEvent → List ℕ
size_in (NumberWritten size) = size ∷ []
size_in other = []

-- how many octets each number has, 0 first
abbrev pub field_sizes : List FlowEvent → List ℕ
field_sizes [] = []
field_sizes (e ∷ es) = field_sizes es ++ size_in e

-- VT(S), the number that is written next
abbrev pub next_of : List FlowEvent → ℕ
next_of es = length (field_sizes es)

-- each number has an octet, what comes or is written again was written, and no ACK lies above VT(S)
abbrev pub IsPossible : FlowEvent → List FlowEvent → Type 0
IsPossible (NumberWritten size) es = 0 < size
IsPossible (OctetsResent n from to) es = (n < next_of es) × (from < to)
IsPossible (OctetsArrived n from to) es = (n < next_of es) × (from < to)
IsPossible (StatusHeard ack entries) es = ack ≤ next_of es
IsPossible other es = Unit {0}

abbrev pub IsHistory : List FlowEvent → Type 0
IsHistory [] = Unit {0}
IsHistory (e ∷ es) = IsPossible e es × IsHistory es
