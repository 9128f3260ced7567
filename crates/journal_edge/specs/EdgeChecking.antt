-- What is kept of a journal while what goes up on unacknowledged bearers is checked, beside the
-- accounts of its flows, and how each line and record changes it. Nothing of it grows with the
-- journal.
use Rattle.std.specs.Prelude.{ℕ, ◌+◌, Bool, true, false, ◌&&◌, if◌then◌else◌, List, [], ◌∷◌}
use Rattle.std.specs.Prelude.{map, replicate, Option, Some, None, slice_index_or, slice_set}
use Rattle.eps_sec.specs.declared.Keys.{Keys}
use Rattle.l2_types.specs.declared.channel.Kind.{Kind}
use Rattle.l2_types.specs.declared.channel.Kind.TheVariants as bearers
use Rattle.l2_types.specs.declared.side.Side.{Side}
use Rattle.l2_types.specs.declared.side.Side.TheVariants.{Nb, Ue}
use Rattle.mac_pdu.specs.declared.item.Direction.{Direction}
use Rattle.pdcp_pdu.specs.declared.PdcpKind.TheVariants.{Um}
use Rattle.pdcp_sec.specs.Protection.{protection_of}
use Rattle.bearer_pdcp.specs.Ends.{bearer_of, sends}
use Rattle.bearer_types.specs.declared.config.BearerConfig.{BearerConfig}
use Rattle.bearer_types.specs.declared.event.Event.{Event}
use Rattle.bearer_types.specs.declared.event.Event.TheVariants as events
use Rattle.bearer_types.specs.Sides.{other, sender_of}
use Rattle.air_record.specs.Cells.{no_keys, next_keys}
use Rattle.air_record.specs.declared.line.Line.{Line}
use Rattle.air_record.specs.declared.line.Line.TheVariants as lines
use Rattle.air_record.specs.declared.record.Record.{Record}
use Rattle.air_record.specs.declared.record.Record.TheVariants as records
use Rattle.air_record.specs.declared.record.State.{State}
use Rattle.air_record.specs.declared.record.State.TheVariants as states
use Rattle.air_text.specs.Groups.{Group}
use Rattle.journal_um.specs.declared.pieces.JoinedSdu.{JoinedSdu}
use Rattle.journal_um.specs.UmFlow.{UmFlow, is_long}
use Rattle.journal_flows.specs.Gathering.{MayTake}
use Rattle.journal_flows.specs.Accounts.{Keeping, um_flow_at, after_taking}
use Rattle.journal_flows.specs.Accounts as flows
use Rattle.journal_edge.specs.EdgeFlow.{EdgeFlow, flow_begun, flow_all_read, flow_up, flow_right}
use Rattle.journal_edge.specs.EdgeFlow.{flow_ended, flow_renewed}

-- ---- the SDUs that a flow hands up and that nobody took yet

abbrev pub ready_in : Option UmFlow → List JoinedSdu
ready_in None = []
ready_in (Some f) = f.joiner.ready

abbrev pub ready_at : Side → ℕ → Keeping → List JoinedSdu
ready_at from lcid k = ready_in (um_flow_at from lcid k.journal.flows)

abbrev pub octets_in : List JoinedSdu → List (List ℕ)
octets_in sdus = map (λ (sdu : JoinedSdu). sdu.octets) sdus

abbrev pub octets_at : Side → ℕ → Keeping → List (List ℕ)
octets_at from lcid k = octets_in (ready_at from lcid k)

-- each of so many is taken
abbrev pub taken_by : List JoinedSdu → Side → ℕ → Keeping → Keeping
taken_by [] from lcid k = k
taken_by (sdu ∷ sdus) from lcid k = taken_by sdus from lcid (after_taking from lcid k)

abbrev pub all_taken : Side → ℕ → Keeping → Keeping
all_taken from lcid k = taken_by (ready_at from lcid k) from lcid k

-- ---- one channel: PDCP reads them, and what that leaves of the accounts

abbrev pub slot_read : Side → ℕ → Keeping → Option EdgeFlow → Option EdgeFlow
slot_read from lcid k None = None
slot_read from lcid k (Some f) = Some (flow_all_read (octets_at from lcid k) f)

abbrev pub left_by : Side → ℕ → Keeping → Option EdgeFlow → Keeping
left_by from lcid k None = k
left_by from lcid k (Some f) = all_taken from lcid k

-- an SDU goes up
abbrev pub slot_up : List ℕ → Option EdgeFlow → Option EdgeFlow
slot_up sdu None = None
slot_up sdu (Some f) = Some (flow_up sdu f)

-- whether the group was right
abbrev pub slot_right : Option EdgeFlow → Bool
slot_right None = true
slot_right (Some f) = flow_right f

-- it has ended; where it was of a handover, the next life has other keys
abbrev pub renewed_by : Option Keys → EdgeFlow → EdgeFlow
renewed_by None f = f
renewed_by (Some keys) f = flow_renewed keys f

abbrev pub slot_closed : Option Keys → Option EdgeFlow → Option EdgeFlow
slot_closed renewal None = None
slot_closed renewal (Some f) = Some (renewed_by renewal (flow_ended f))

-- ---- the channels of a side that sends, from one on, one behind the other

abbrev pub slots_read : Side → ℕ → Keeping → List (Option EdgeFlow) → List (Option EdgeFlow)
slots_read from lcid k [] = []
slots_read from lcid k (slot ∷ slots) = slot_read from lcid k slot
    ∷ slots_read from (lcid + 1) (left_by from lcid k slot) slots

abbrev pub slots_leave : Side → ℕ → Keeping → List (Option EdgeFlow) → Keeping
slots_leave from lcid k [] = k
slots_leave from lcid k (slot ∷ slots) =
    slots_leave from (lcid + 1) (left_by from lcid k slot) slots

abbrev pub slots_right : List (Option EdgeFlow) → Bool
slots_right [] = true
slots_right (slot ∷ slots) = slot_right slot && slots_right slots

abbrev pub slots_closed : Option Keys → List (Option EdgeFlow) → List (Option EdgeFlow)
slots_closed renewal slots = map (slot_closed renewal) slots

-- ---- both sides

pub record EdgeChecking : Type 0 where
  pub nb : List (Option EdgeFlow)
  pub ue : List (Option EdgeFlow)
  pub keys : Keys
  -- those of the next life, in a group of a handover
  pub renewal : Option Keys
  pub right : Bool

abbrev pub no_flows : List (Option EdgeFlow)
no_flows = replicate 11 None

abbrev pub nothing_checked : EdgeChecking
nothing_checked = record {
  nb = no_flows;
  ue = no_flows;
  keys = no_keys;
  renewal = None;
  right = true;
}

-- a bearer's flow in one direction, where it is unacknowledged
abbrev pub um_begun : Kind → Side → Keys → BearerConfig → Option EdgeFlow
um_begun bearers.Um from keys config = Some (flow_begun config.pdcp_bits
    (protection_of (Um config.pdcp_bits) keys (bearer_of config.channel.lcid) (sends from)))
um_begun kind from keys config = None

abbrev pub with_bearer : BearerConfig → EdgeChecking → EdgeChecking
with_bearer config c = record c {
  nb = slice_set c.nb config.channel.lcid (um_begun config.kind Nb c.keys config);
  ue = slice_set c.ue config.channel.lcid (um_begun config.kind Ue c.keys config);
}

abbrev pub after_line : Line → EdgeChecking → EdgeChecking
after_line (lines.Bearer config options) c = with_bearer config c
after_line (lines.Keys keys) c = record c { keys = keys }
after_line (lines.Handover user rrc integrity) c =
    record c { renewal = Some (next_keys user rrc integrity c.keys) }
after_line line c = c

-- ---- an SDU goes up from a side that sends

abbrev pub slots_of : Side → EdgeChecking → List (Option EdgeFlow)
slots_of Nb c = c.nb
slots_of Ue c = c.ue

abbrev pub slot_at : Side → ℕ → EdgeChecking → Option EdgeFlow
slot_at from lcid c = slice_index_or (slots_of from c) lcid None

abbrev pub with_slots : Side → List (Option EdgeFlow) → EdgeChecking → EdgeChecking
with_slots Nb slots c = record c { nb = slots }
with_slots Ue slots c = record c { ue = slots }

abbrev pub slots_up : Side → ℕ → List ℕ → Keeping → List (Option EdgeFlow)
    → List (Option EdgeFlow)
slots_up from lcid sdu k slots = slice_set slots lcid
    (slot_up sdu (slot_read from lcid k (slice_index_or slots lcid None)))

abbrev pub up_from : Side → ℕ → List ℕ → Keeping → EdgeChecking → EdgeChecking
up_from from lcid sdu k c = with_slots from (slots_up from lcid sdu k (slots_of from c)) c

-- a record, and what it leaves of the accounts
abbrev pub after_event : Side → Event → Keeping → EdgeChecking → EdgeChecking
after_event side (events.Up lcid sdu) k c = up_from (other side) lcid sdu k c
after_event side event k c = c

abbrev pub event_leaves : Side → Event → Keeping → EdgeChecking → Keeping
event_leaves side (events.Up lcid sdu) k c =
    left_by (other side) lcid k (slot_at (other side) lcid c)
event_leaves side event k c = k

abbrev pub after_record : Record → Keeping → EdgeChecking → EdgeChecking
after_record (records.Of side event) k c = after_event side event k c
after_record one k c = c

abbrev pub leaves : Record → Keeping → EdgeChecking → Keeping
leaves (records.Of side event) k c = event_leaves side event k c
leaves one k c = k

-- ---- the end of a group

abbrev pub keys_behind : Option Keys → Keys → Keys
keys_behind None keys = keys
keys_behind (Some next) keys = next

-- its flows have read all, those of the base station first
abbrev pub group_read : Keeping → EdgeChecking → EdgeChecking
group_read k c = record c {
  nb = slots_read Nb 0 k c.nb;
  ue = slots_read Ue 0 (slots_leave Nb 0 k c.nb) c.ue;
}

abbrev pub group_leaves : Keeping → EdgeChecking → Keeping
group_leaves k c = slots_leave Ue 0 (slots_leave Nb 0 k c.nb) c.ue

abbrev pub group_closed : EdgeChecking → EdgeChecking
group_closed c = record {
  nb = slots_closed c.renewal c.nb;
  ue = slots_closed c.renewal c.ue;
  keys = keys_behind c.renewal c.keys;
  renewal = None;
  right = c.right && slots_right c.nb && slots_right c.ue;
}

abbrev pub after_group : Keeping → EdgeChecking → EdgeChecking
after_group k c = group_closed (group_read k c)

-- ---- a `sum` record: whether losses of an unacknowledged flow were long

abbrev pub is_state_of : Option UmFlow → State → Bool
is_state_of None state = true
is_state_of (Some f) states.Short = if is_long f then false else true
is_state_of (Some f) states.Long = is_long f
is_state_of (Some f) state = false

abbrev pub is_state : Direction → ℕ → State → Keeping → Bool
is_state direction lcid state k =
    is_state_of (um_flow_at (sender_of direction) lcid k.journal.flows) state

-- ---- a journal, group by group, beside the accounts

pub record Beside : Type 0 where
  pub kept : Keeping
  pub checked : EdgeChecking

abbrev pub beside_record : Bool → Record → Beside → Beside
beside_record more one b = let k = flows.after_record more one b.kept in
    record { kept = leaves one k b.checked; checked = after_record one k b.checked }

abbrev pub beside_records : MayTake → List Group → List Record → List Record → Beside → Beside
beside_records may_take past before [] b = b
beside_records may_take past before (one ∷ told) b =
    beside_records may_take past (one ∷ before) told
    (beside_record (may_take past before one) one b)

abbrev pub beside_line : Line → Beside → Beside
beside_line line b =
    record { kept = flows.after_line line b.kept; checked = after_line line b.checked }

abbrev pub beside_end : Beside → Beside
beside_end b = let k = flows.after_group b.kept in
    record { kept = group_leaves k b.checked; checked = after_group k b.checked }

-- behind groups, of which the newest stands first
abbrev pub all_beside : MayTake → List Group → Beside
all_beside may_take [] = record { kept = flows.nothing_kept; checked = nothing_checked }
all_beside may_take (now ∷ past) = beside_end (beside_records may_take past [] now.events
    (beside_line now.line (all_beside may_take past)))
