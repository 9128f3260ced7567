-- A bearer writes at most one data PDU (TS 36.321 5.4.3.1): RLC takes what PDCP has as long as it
-- has room for more, and then cuts the PDU.
use Rattle.std.specs.Prelude.{ℕ, ◌-◌, ◌%◌, ◌^◌, Bool, if◌then◌else◌, List, [], ◌∷◌, ◌++◌, Option}
use Rattle.std.specs.Prelude.{Some, None, is_some, slice_get}
use Rattle.bearer_types.specs.declared.Event.{Event}
use Rattle.bearer_types.specs.declared.Event.TheVariants as events
use Rattle.l2_types.specs.declared.How.TheVariants.{New}
use Rattle.l2_types.specs.declared.Waits.{Waits}
use Rattle.l2_types.specs.declared.Waits.TheVariants as waits
use Rattle.rlc_pdu.specs.declared.Taken.{Taken}
use Rattle.rlc_pdu.specs.declared.Taken.TheVariants.{Piece, Idle, Small, Shut, Held, Stopped}
use Rattle.rlc_um.specs.Sender.{Sender, offered, is_hungry, is_held, taken as rlc_taken, after_take}
use Rattle.pdcp_tx.specs.State.{Offer, offers}
use Rattle.bearer_pdcp.specs.Ends.{Ends}
use Rattle.bearer_pdcp.specs.Taking.{taken, taking_told, after_taking as after_pdcp}
use Rattle.bearer.specs.Unacknowledged.State.{State}

-- PDCP, the sender of RLC, and what has been told
pub record Feeding : Type 0 where
  pub pdcp : Ends
  pub tx : Sender
  pub events : List Event

abbrev pub given_to : Option (List ℕ) → Sender → Sender
given_to None tx = tx
given_to (Some pdu) tx = offered pdu tx

-- RLC takes the first of what it may take
abbrev pub fed : Feeding → Feeding
fed f = record {
  pdcp = after_pdcp f.pdcp;
  tx = given_to (taken f.pdcp) f.tx;
  events = f.events ++ taking_told f.pdcp;
}

-- as long as there is something, and the PDU of a size has room for more
abbrev pub feeds : List Offer → ℕ → Option ℕ → Feeding → Feeding
feeds [] size held f = f
feeds (o ∷ os) size held f = if is_hungry f.tx size held then feeds os size held (fed f) else f

-- RLC has nothing, though PDCP has: either a new number must not be used, or nothing fits
abbrev pub why_idle : Sender → Option ℕ → Waits
why_idle tx held = if is_held held tx then waits.Held else waits.Small

abbrev pub idle_told : ℕ → Bool → Waits → List Event
idle_told lcid more why = if more then events.Wait lcid why ∷ [] else []

abbrev pub data_told : ℕ → ℕ → Bool → Waits → Taken → List Event
data_told lcid bits more why (Piece number first polled octets) =
    events.Send lcid New (number % 2 ^ bits) ∷ []
data_told lcid bits more why Idle = idle_told lcid more why
data_told lcid bits more why Small = events.Wait lcid waits.Small ∷ []
data_told lcid bits more why Shut = events.Wait lcid waits.Shut ∷ []
data_told lcid bits more why Held = events.Wait lcid waits.Held ∷ []
data_told lcid bits more why Stopped = events.Wait lcid waits.Stopped ∷ []

-- what a share of a grant leaves to a PDU, behind 3 octets for its subheader
abbrev pub size_in : ℕ → ℕ
size_in share = share - 3

abbrev pub feeding : State → ℕ → Option ℕ → Feeding
feeding s share held =
    feeds (offers s.pdcp.tx) (size_in share) held
    (record { pdcp = s.pdcp; tx = s.tx; events = [] })

-- PDCP may hand over more
abbrev pub has_more : Ends → Bool
has_more e = is_some (slice_get (offers e.tx) 0)

abbrev pub feeding_told : ℕ → Option ℕ → ℕ → Feeding → List Event
feeding_told bits held size f =
    f.events ++ data_told f.pdcp.lcid bits (has_more f.pdcp) (why_idle f.tx held)
    (rlc_taken f.tx size held)

abbrev pub left_by : Feeding → ℕ → Option ℕ → State → State
left_by f size held s = record s { pdcp = f.pdcp; tx = after_take f.tx size held }

-- what RLC answers, what is told, and what is left
unfoldable pub answer : State → ℕ → Option ℕ → Taken
answer s share held = rlc_taken (feeding s share held).tx (size_in share) held

unfoldable pub taking : State → ℕ → Option ℕ → List Event
taking s share held = feeding_told s.bits held (size_in share) (feeding s share held)

unfoldable pub after_taking : State → ℕ → Option ℕ → State
after_taking s share held = left_by (feeding s share held) (size_in share) held s
