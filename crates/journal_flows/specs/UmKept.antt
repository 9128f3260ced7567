-- The account of both ends of an unacknowledged flow, as it is kept (docs/laws/ACCOUNT.md).
use Rattle.std.specs.Prelude.{ℕ, ◌+◌, ◌-◌, nat_le, if◌then◌else◌, List, [], ◌∷◌, ◌++◌}
use Rattle.journal_account.specs.FlowEvents.{FlowEvent, SduTaken, NumberWritten}
use Rattle.journal_um.specs.UmEvents as come
use Rattle.journal_um.specs.UmFlow.{UmFlow, empty_flow, flow_of, flow_with}
use Rattle.journal_flows.specs.declared.um_ends.UmHappening.{UmHappening}
use Rattle.journal_flows.specs.declared.um_ends.UmHappening.TheVariants as um_happenings
use Rattle.journal_flows.specs.UmPdus.{UmFlowEvent, AtSender, AtReceiver, LifeEnded, sent_in}
use Rattle.journal_flows.specs.UmPdus.{come_in}

-- ---- the sender, in the life that runs

-- the number that is written next; so many SDUs were written to their ends; so many octets of those
-- that weren't; and the sizes of these
pub record UmSender : Type 0 where
  pub next : ℕ
  pub ended : ℕ
  pub into : ℕ
  pub left : List ℕ

abbrev pub nothing_written : UmSender
nothing_written = record { next = 0; ended = 0; into = 0; left = [] }

-- each SDU that was written to its end is left out
abbrev pub settled : ℕ → ℕ → ℕ → List ℕ → UmSender
settled next ended into [] = record { next = next; ended = ended; into = into; left = [] }
settled next ended into (size ∷ left) =
    if nat_le size into then settled next (ended + 1) (into - size) left
    else record { next = next; ended = ended; into = into; left = size ∷ left }

abbrev pub sender_with : FlowEvent → UmSender → UmSender
sender_with (SduTaken size) s = settled s.next s.ended s.into (s.left ++ size ∷ [])
sender_with (NumberWritten size) s = settled (s.next + 1) s.ended (s.into + size) s.left
sender_with e s = s

abbrev pub sender_of : List FlowEvent → UmSender
sender_of [] = nothing_written
sender_of (e ∷ es) = sender_with e (sender_of es)

-- ---- both ends, through all lives

pub record UmEnds : Type 0 where
  pub sender : UmSender
  pub flow : UmFlow

abbrev pub ends_with : UmFlowEvent → UmEnds → UmEnds
ends_with (AtSender e) u = record { sender = sender_with e u.sender; flow = u.flow }
ends_with (AtReceiver e) u =
    record { sender = u.sender; flow = flow_with (come.InLife e) u.flow }
ends_with LifeEnded u =
    record { sender = nothing_written; flow = flow_with come.LifeEnded u.flow }

-- as the bearer begins, with UM_Window_Size and how many SNs PDCP has
abbrev pub nothing_come : ℕ → ℕ → UmEnds
nothing_come width many =
    record { sender = nothing_written; flow = empty_flow width many }

-- those of a history of which no SDU was taken
abbrev pub ends_of : ℕ → ℕ → List UmFlowEvent → UmEnds
ends_of width many es =
    record { sender = sender_of (sent_in es); flow = flow_of width many (come_in es) }

-- what happens, but for a PDU that comes, as an event
abbrev pub um_event_of : UmHappening → UmFlowEvent
um_event_of (um_happenings.SduTaken size) = AtSender (SduTaken size)
um_event_of (um_happenings.NumberWritten size) = AtSender (NumberWritten size)
um_event_of um_happenings.ReorderStarted = AtReceiver come.ReorderStarted
um_event_of um_happenings.ReorderExpired = AtReceiver come.ReorderExpired
um_event_of um_happenings.LifeEnded = LifeEnded
