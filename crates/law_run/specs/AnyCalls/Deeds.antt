-- What a HARQ process did in a TTI, read off what is told of the air (TS 36.321 5.3.2, 5.4.2).
use Rattle.std.specs.Prelude.{◌≡◌, ℕ, ◌==◌, Bool, true, false, if◌then◌else◌, Option, Some, None}
use Rattle.std.specs.Prelude.{List, [], ◌∷◌, length}
use Rattle.air_record.specs.declared.line.Outcome.{Outcome}
use Rattle.air_record.specs.declared.record.Arrived.{Arrived}
use Rattle.air_record.specs.declared.record.Arrived.TheVariants as arriveds
use Rattle.air_record.specs.declared.record.Record.{Record}
use Rattle.air_record.specs.declared.record.Record.TheVariants as records
use Rattle.harq.specs.declared.receiver.Answer.{Answer}
use Rattle.harq.specs.declared.receiver.Answer.TheVariants.{Up, Again, Damaged}
use Rattle.harq.specs.declared.sender.Order.{Order}
use Rattle.harq.specs.declared.sender.Order.TheVariants.{Silent}
use Rattle.harq.specs.Receiving.{Receiving, fresh as fresh_receiver, after_assigned}
use Rattle.harq.specs.Receiving.{assigned_answer, after_grant, after_granted, after_pass}
use Rattle.harq.specs.Sending.{Sending, fresh}
use Rattle.harq.specs.SendHistory.{Turn, Deed, Waited, Built, Resent, turned, deed}
use Rattle.l2_node.specs.End.{End}
use Rattle.air_link.specs.Link.{Link}
use Rattle.air_link.specs.Uplink.{up_order}
use Rattle.law_run.specs.AnyCalls.Calls.{Call, Visits, HandsOver, after}
use Rattle.promises.specs.Awards.{grant_brought}

-- a block that is sent, new or again, with the feedback that its sender reads; else it waited
abbrev pub deed_of : List Record → Deed
deed_of (records.Block direction process true version octets ∷ records.Air way what (Some good)
    ∷ []) = Built octets good
deed_of (records.Block direction process false version octets ∷ records.Air way what (Some good)
    ∷ []) = Resent version octets good
deed_of told = Waited

abbrev pub turn : ℕ → Order → List ℕ → Bool → Turn
turn tti order octets good = record { tti = tti; order = order; octets = octets; good = good }

-- a sender takes a turn by an order, and that is what is told of it
pub record TakesTurn (t : ℕ) (order : Order) (before after : Sending) (told : List Record) : Type
    0 where
  pub octets : List ℕ
  pub good : Bool
  pub sender_is : after ≡ turned (turn t order octets good) before
  pub deed_is : length before.processes ≡ 8 → deed (turn t order octets good) before ≡ deed_of told

-- ---- what came of it, at the receivers

-- what is told to have come of a visit: nothing where no block was due
abbrev pub came_of : List Record → Option Arrived
came_of (records.Block direction process fresh version octets ∷ records.Air way what good ∷ []) =
    Some what
came_of (records.Air way what good ∷ []) = Some what
came_of told = None

-- a block with this NDI is answered
pub record IsAnswered (t : ℕ) (ndi good : Bool) (answer : Answer) (before after : Receiving) :
    Type 0 where
  pub receiver_is : after ≡ after_assigned before t ndi good
  pub answer_is : assigned_answer before t ndi good ≡ answer

-- on the downlink what comes is the terminal's answer; it sees no block that it misses
abbrev pub Answers : ℕ → Bool → Option Arrived → Receiving → Receiving → Type 0
Answers t ndi (Some arriveds.Got) before after = IsAnswered t ndi true Up before after
Answers t ndi (Some arriveds.Dup) before after = IsAnswered t ndi true Again before after
Answers t ndi (Some arriveds.Bad) before after = IsAnswered t ndi false Damaged before after
Answers t ndi (Some arriveds.Nothing) before after = after ≡ before
Answers t ndi None before after = after ≡ before

-- on the uplink the base station grants, and hears what the grant brought, or a visit passes with
-- no grant
abbrev pub heard_up : ℕ → Option Arrived → Receiving → Receiving
heard_up t None r = after_pass r t
heard_up t (Some what) r = after_granted (after_grant r t) t (grant_brought what)

-- the terminal visits its process by the grant that it sees, if it sees one
abbrev pub up_ordered : ℕ → Outcome → Bool → Order
up_ordered grant o ndi = if grant == 0 then Silent else up_order o.fate ndi

-- ---- what other calls do to the processes

-- the HARQ of an end: the processes that it sends by, and those that it hears by
pub record Entity : Type 0 where
  pub sender : Sending
  pub receiver : Receiving

abbrev pub entity : End → Entity
entity e = record { sender = e.sender; receiver = e.receiver }

pub record Entities : Type 0 where
  pub nb : Entity
  pub ue : Entity

abbrev pub entities : Link → Entities
entities l = record { nb = entity l.nb; ue = entity l.ue }

-- with this number of visits all are empty
abbrev pub empty : ℕ → ℕ → Entity
empty sent heard = record { sender = fresh sent; receiver = fresh_receiver heard }

abbrev pub cleared : Entity → Entity
cleared e = empty e.sender.maximum e.receiver.maximum

-- another number of visits, or a handover, empties the processes
abbrev pub left : Call → Entities → Entities
left (Visits maximum) e = record { nb = empty maximum maximum; ue = empty maximum maximum }
left (HandsOver keys) e = record { nb = cleared e.nb; ue = cleared e.ue }
left call e = e

abbrev pub CallsLeaveProcesses : Type 0
CallsLeaveProcesses = (c : Call) (l : Link) → entities (after c l) ≡ left c (entities l)
