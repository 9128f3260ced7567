-- When a PDU has a poll (TS 36.322 5.2.2.1).
use Rattle.std.specs.Prelude.{◌≡◌, ℕ, ◌+◌, Bool, true, false, ◌||◌, if◌then◌else◌, List, [], ◌∷◌}
use Rattle.std.specs.Prelude.{length, Option}
use Rattle.l2_num.specs.Timers.{runs}
use Rattle.l2_types.specs.declared.config.AmTxConfig.{AmTxConfig}
use Rattle.rlc_pdu.specs.declared.outcome.Taken.{Taken}
use Rattle.rlc_pdu.specs.declared.outcome.Taken.TheVariants as taken
use Rattle.rlc_am_tx.specs.declared.turn.Turn.{Turn}
use Rattle.rlc_am_tx.specs.declared.turn.Turn.TheVariants as turns
use Rattle.rlc_am_tx.specs.Machine.{State, turn, answer, reaches, is_quiet, sent_whole}
use Rattle.rlc_am_tx.specs.Machine.{sent_segment, sent_new, new_slot}
use Rattle.law_rlc.specs.AmSender.Run.{Call, Offer, Take, Status, Tick, Expire, Settle, Confirm}
use Rattle.law_rlc.specs.AmSender.Run.{run_am_sender, begun}

-- a new PDU with so many octets, a PDU that is sent again, each with or without a poll; an expiry
-- of the poll timer
pub data Event : Type 0 where
  New : ℕ → Bool → Event
  Again : Bool → Event
  Expired : Event

-- whether an answer has a poll
abbrev pub poll_of : Taken → Bool
poll_of (taken.Piece number fresh polled octets) = polled
poll_of taken.Idle = false
poll_of taken.Small = false
poll_of taken.Shut = false
poll_of taken.Held = false
poll_of taken.Stopped = false

-- the events of a run, the last one first
abbrev pub events_by : Turn → State → ℕ → Bool → List Event → List Event
events_by turns.New s size poll log = New (length (new_slot s size).field) poll ∷ log
events_by turns.Whole s size poll log = Again poll ∷ log
events_by turns.Part s size poll log = Again poll ∷ log
events_by turns.Idle s size poll log = log
events_by turns.Stopped s size poll log = log
events_by turns.Small s size poll log = log
events_by turns.Shut s size poll log = log
events_by turns.Held s size poll log = log

abbrev pub events_after : State → Call → List Event → List Event
events_after s (Offer sdu) log = log
events_after s (Take size held more) log =
    events_by (turn s size held more) s size (poll_of (answer s size held more)) log
events_after s (Status status) log = log
events_after s Tick log = log
events_after s (Expire more) log = if runs s.polls.timer then Expired ∷ log else log
events_after s (Settle more) log = log
events_after s Confirm log = log

-- since the last poll: new PDUs, their octets, and whether the timer expired

abbrev pub pdus_since : List Event → ℕ
pdus_since [] = 0
pdus_since (New n poll ∷ log) = if poll then 0 else pdus_since log + 1
pdus_since (Again poll ∷ log) = if poll then 0 else pdus_since log
pdus_since (Expired ∷ log) = pdus_since log

abbrev pub octets_since : List Event → ℕ
octets_since [] = 0
octets_since (New n poll ∷ log) = if poll then 0 else octets_since log + n
octets_since (Again poll ∷ log) = if poll then 0 else octets_since log
octets_since (Expired ∷ log) = octets_since log

abbrev pub expired_since : List Event → Bool
expired_since [] = false
expired_since (New n poll ∷ log) = if poll then false else expired_since log
expired_since (Again poll ∷ log) = if poll then false else expired_since log
expired_since (Expired ∷ log) = true

-- one of the four causes stands: PDUs or octets since the last poll come to their bound, the timer
-- expired since, or the state is quiet
abbrev pub has_cause : AmTxConfig → ℕ → ℕ → Bool → Bool → Bool
has_cause c pdus octets expired quiet =
    reaches c.poll_pdu pdus || reaches c.poll_byte octets || expired || quiet

-- behind the PDU that a call sends; a new one counts itself
abbrev pub is_due : Turn → State → ℕ → Bool → List Event → Bool
is_due turns.New s size more log =
    has_cause s.config (pdus_since log + 1) (octets_since log + length (new_slot s size).field)
    (expired_since log) (is_quiet (sent_new s size) more)
is_due turns.Whole s size more log =
    has_cause s.config (pdus_since log) (octets_since log) (expired_since log)
    (is_quiet (sent_whole s) more)
is_due turns.Part s size more log =
    has_cause s.config (pdus_since log) (octets_since log) (expired_since log)
    (is_quiet (sent_segment s size) more)
is_due turns.Idle s size more log = false
is_due turns.Stopped s size more log = false
is_due turns.Small s size more log = false
is_due turns.Shut s size more log = false
is_due turns.Held s size more log = false

-- a PDU has a poll exactly where one of the four causes stands
abbrev pub PollsByCauses : Type 0
PollsByCauses = (config : AmTxConfig) (calls : List Call) (size : ℕ) (held : Option ℕ) (more : Bool)
    → poll_of (answer (run_am_sender events_after calls (begun config [])).state size held more)
    ≡ is_due (turn (run_am_sender events_after calls (begun config [])).state size held more)
    (run_am_sender events_after calls (begun config [])).state size more
    (run_am_sender events_after calls (begun config [])).past
