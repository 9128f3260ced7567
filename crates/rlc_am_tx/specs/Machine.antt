-- An acknowledged sender as a machine (TS 36.322 5.1.3.1, 5.2.1, 5.2.2, 5.3.2): its state, and what
-- each call makes of it. Numbers are true numbers, counted from 0.
use Rattle.std.specs.Prelude.{◌≡◌, ◌≤◌, ◌<◌, ℕ, ◌+◌, ◌-◌, ◌%◌, Bool, true, false, not, ◌||◌, ◌&&◌}
use Rattle.std.specs.Prelude.{◌==◌, if◌then◌else◌, List, [], ◌∷◌, ◌++◌, length, map, drop, Option}
use Rattle.std.specs.Prelude.{Some, None, nat_le, nat_lt}
use Rattle.std.specs.List.{concat}
use Rattle.l2_num.specs.Timers.{Clock, stopped, begun, ceased, runs, ticked}
use Rattle.l2_types.specs.declared.config.AmTxConfig.{AmTxConfig}
use Rattle.rlc_pdu.specs.declared.outcome.Taken.{Taken}
use Rattle.rlc_pdu.specs.declared.outcome.Taken.TheVariants as taken
use Rattle.rlc_pdu.specs.declared.pdu.Nack.{Nack}
use Rattle.rlc_pdu.specs.Pdus.{StatusPdu}
use Rattle.rlc_queue.specs.Waiting.{Waiting, nothing_waits, with_sdu}
use Rattle.rlc_queue.specs.NewPdu.{elements, rest, partial}
use Rattle.rlc_am_tx_window.specs.Sent.{Sent, fresh, all_wait, whole_size, is_spent, rested}
use Rattle.rlc_am_tx_window.specs.Sent.{sent_part, recalled, next_stretch}
use Rattle.rlc_am_tx_window.specs.Written.{whole_octets, part_octets}
use Rattle.rlc_am_tx_window.specs.Ledger.{Ledger, empty_ledger, opened, swept}
use Rattle.rlc_am_tx_window.specs.Window.{TxWindow, next, slot_at, with_slot, offset_of}
use Rattle.rlc_am_tx_window.specs.Window.{leading_idle}
use Rattle.rlc_am_tx_window.specs.Window.{some_wait, last_open, named_all, is_named, acked_from}
use Rattle.rlc_am_tx_window.specs.Window.{credited_from, considered_all, spent_among, advanced}
use Rattle.rlc_am_tx.specs.declared.turn.Turn.{Turn}
use Rattle.rlc_am_tx.specs.declared.turn.Turn.TheVariants as turns
use Rattle.rlc_am_tx.specs.declared.answers.Heard.{Heard}
use Rattle.rlc_am_tx.specs.declared.answers.Heard.TheVariants as hears
use Rattle.rlc_am_tx.specs.declared.answers.PollExpired.{PollExpired}
use Rattle.rlc_am_tx.specs.declared.answers.PollExpired.TheVariants as expires
use Rattle.rlc_pdu.specs.declared.constants.TheConstants.{AM_MODULUS, AM_WINDOW_SIZE}

-- a poll is owed by an expiry; PDU_WITHOUT_POLL, BYTE_WITHOUT_POLL, POLL_SN and t-PollRetransmit
pub record Polls : Type 0 where
  pub owed : Bool
  pub pdus_without_poll : ℕ
  pub octets_without_poll : ℕ
  pub poll_number : ℕ
  pub timer : Clock

-- the PDUs from VT(A) below VT(S); what is offered and not sent, and the place among the SDUs
-- offered of the first of it; what isn't acknowledged; and whether the retransmission limit was
-- reached
pub record State : Type 0 where
  pub window : TxWindow
  pub queue : Waiting
  pub place : ℕ
  pub accounts : Ledger
  pub polls : Polls
  pub config : AmTxConfig
  pub failed : Bool

abbrev pub start : AmTxConfig → State
start c = record {
  window = record { base = 0; slots = [] };
  queue = nothing_waits;
  place = 0;
  accounts = empty_ledger;
  polls = record {
    owed = false;
    pdus_without_poll = 0;
    octets_without_poll = 0;
    poll_number = 0;
    timer = stopped c.poll_retransmit;
  };
  config = c;
  failed = false;
}

-- an SDU is offered
abbrev pub offered : State → List ℕ → State
offered s sdu = record s { queue = with_sdu sdu s.queue; accounts = opened s.accounts (length sdu) }

-- the next place that is newly confirmed is handed over
abbrev pub confirmed : State → State
confirmed s = record s { accounts = record s.accounts { news = drop 1 s.accounts.news } }

-- ---- what there is to send

-- octets wait to be resent
abbrev pub waits : State → Bool
waits s = some_wait s.window.slots

-- nothing that was offered is left
abbrev pub is_empty : State → Bool
is_empty s = length s.queue.sdus == 0

-- VT(S) = VT(A) + 512
abbrev pub is_shut : State → Bool
is_shut s = length s.window.slots == AM_WINDOW_SIZE

-- HARQ holds a number so far back that a new one could be misread
abbrev pub is_held : Option ℕ → ℕ → Bool
is_held None n = false
is_held (Some held) n = nat_le AM_WINDOW_SIZE n && nat_le held (n - AM_WINDOW_SIZE)

-- the place of the first number that waits, and what is kept of it
abbrev pub first_place : State → ℕ
first_place s = leading_idle s.window.slots

abbrev pub again : State → Sent
again s = slot_at s.window.slots (first_place s)

-- ---- what a call of `take` comes to

-- the whole PDU if all its octets wait and it fits, else a segment if one octet behind a header of
-- 4 fits
abbrev pub resend_turn : Sent → ℕ → Turn
resend_turn h size = if all_wait h && nat_le (whole_size h) size then turns.Whole
    else if nat_le 5 size then turns.Part else turns.Small

-- where nothing was offered although PDCP has more, nothing is sent either
abbrev pub new_turn : State → ℕ → Option ℕ → Turn
new_turn s size held =
    if is_shut s then turns.Shut
    else if is_held held (next s.window) then turns.Held
    else if nat_lt size 3 then turns.Small
    else if is_empty s then turns.Idle
    else turns.New

unfoldable pub turn : State → ℕ → Option ℕ → Bool → Turn
turn s size held more =
    if not (waits s) && is_empty s && not more then turns.Idle
    else if s.failed then turns.Stopped
    else if waits s then resend_turn (again s) size
    else new_turn s size held

-- what is there where a PDU is sent again, and where a new one is
abbrev pub IsAgain : Sent → ℕ → Turn → Type 0
IsAgain h size turns.Part = 5 ≤ size
IsAgain h size turns.Whole = whole_size h ≤ size
IsAgain h size turns.Small = Unit {0}
IsAgain h size turns.New = ⊥
IsAgain h size turns.Idle = ⊥
IsAgain h size turns.Stopped = ⊥
IsAgain h size turns.Shut = ⊥
IsAgain h size turns.Held = ⊥

abbrev pub IsAble : State → ℕ → Turn → Type 0
IsAble s size turns.Whole = (waits s ≡ true) × (whole_size (again s) ≤ size)
IsAble s size turns.Part = (waits s ≡ true) × (5 ≤ size)
IsAble s size turns.New = (0 < length s.queue.sdus) × (3 ≤ size)
IsAble s size turns.Idle = Unit {0}
IsAble s size turns.Stopped = Unit {0}
IsAble s size turns.Small = Unit {0}
IsAble s size turns.Shut = Unit {0}
IsAble s size turns.Held = Unit {0}

-- ---- polls (TS 36.322 5.2.2.1)

-- nothing waits to be resent, and nothing is left to send or to take, or the window is shut
abbrev pub is_quiet : State → Bool → Bool
is_quiet s more = not (waits s) && ((is_empty s && not more) || is_shut s)

-- a count has come to its bound
abbrev pub reaches : Option ℕ → ℕ → Bool
reaches None n = false
reaches (Some bound) n = nat_le bound n

-- a poll is wanted as a PDU is written, by one of four causes
abbrev pub is_wanted : State → Bool → Bool
is_wanted s more =
    reaches s.config.poll_pdu s.polls.pdus_without_poll
    || reaches s.config.poll_byte s.polls.octets_without_poll
    || s.polls.owed
    || is_quiet s more

-- POLL_SN is VT(S) - 1 as the timer starts
abbrev pub with_timer : State → State
with_timer s =
    record s {
      polls = record s.polls {
        poll_number = next s.window - 1;
        timer = begun s.polls.timer;
      };
    }

abbrev pub without_timer : State → State
without_timer s = record s { polls = record s.polls { timer = ceased s.polls.timer } }

abbrev pub with_poll : Bool → State → State
with_poll true s =
    record s {
      polls = record {
        owed = false;
        pdus_without_poll = 0;
        octets_without_poll = 0;
        poll_number = next s.window - 1;
        timer = begun s.polls.timer;
      };
    }
with_poll false s = s

abbrev pub polled : State → Bool → State
polled s more = with_poll (is_wanted s more) s

-- ---- a PDU is sent again

abbrev pub number_again : State → ℕ
number_again s = s.window.base + first_place s

abbrev pub sent_whole : State → State
sent_whole s = record s { window = with_slot s.window (first_place s) (rested (again s)) }

abbrev pub sent_segment : State → ℕ → State
sent_segment s size =
    record s {
      window =
          with_slot s.window (first_place s)
          (sent_part (again s) (next_stretch (again s) size).from (next_stretch (again s) size).to);
    }

abbrev pub whole_taken : State → Bool → Taken
whole_taken s poll =
    taken.Piece (number_again s) false poll (whole_octets (again s) (number_again s) poll)

abbrev pub part_taken : State → ℕ → Bool → Taken
part_taken s size poll =
    taken.Piece (number_again s) false poll
    (part_octets (again s) (number_again s) poll (next_stretch (again s) size))

-- ---- a new PDU is sent

abbrev pub new_elements : State → ℕ → List (List ℕ)
new_elements s size = elements 2 size 0 0 s.queue.sdus

-- the last SDU of it is partly sent
abbrev pub new_partial : State → ℕ → Bool
new_partial s size = partial 2 size 0 0 s.queue.begun s.queue.sdus

abbrev pub new_slot : State → ℕ → Sent
new_slot s size =
    fresh (concat (new_elements s size)) (map length (new_elements s size)) (not s.queue.begun)
    (not (new_partial s size)) s.place

-- how many SDUs end in it
abbrev pub ended_in : Bool → ℕ → ℕ
ended_in ends n = if ends then n else n - 1

abbrev pub counted : Polls → ℕ → Polls
counted p octets = record p {
  pdus_without_poll = p.pdus_without_poll + 1;
  octets_without_poll = p.octets_without_poll + octets;
}

abbrev pub sent_new : State → ℕ → State
sent_new s size = record s {
  window = record s.window { slots = s.window.slots ++ new_slot s size ∷ [] };
  queue = record { sdus = rest 2 size 0 0 s.queue.sdus; begun = new_partial s size };
  place = s.place + ended_in (not (new_partial s size)) (length (new_slot s size).lens);
  polls = counted s.polls (length (new_slot s size).field);
}

abbrev pub new_taken : State → ℕ → Bool → Taken
new_taken s size poll =
    taken.Piece (next s.window) true poll (whole_octets (new_slot s size) (next s.window) poll)

-- ---- what `take` leaves and answers

unfoldable pub after_turn : Turn → State → ℕ → Bool → State
after_turn turns.Whole s size more = polled (sent_whole s) more
after_turn turns.Part s size more = polled (sent_segment s size) more
after_turn turns.New s size more = polled (sent_new s size) more
after_turn turns.Idle s size more = s
after_turn turns.Stopped s size more = s
after_turn turns.Small s size more = s
after_turn turns.Shut s size more = s
after_turn turns.Held s size more = s

unfoldable pub answer_of : Turn → State → ℕ → Bool → Taken
answer_of turns.Whole s size more = whole_taken s (is_wanted (sent_whole s) more)
answer_of turns.Part s size more = part_taken s size (is_wanted (sent_segment s size) more)
answer_of turns.New s size more = new_taken s size (is_wanted (sent_new s size) more)
answer_of turns.Idle s size more = taken.Idle
answer_of turns.Stopped s size more = taken.Stopped
answer_of turns.Small s size more = taken.Small
answer_of turns.Shut s size more = taken.Shut
answer_of turns.Held s size more = taken.Held

abbrev pub after_take : State → ℕ → Option ℕ → Bool → State
after_take s size held more = after_turn (turn s size held more) s size more

abbrev pub answer : State → ℕ → Option ℕ → Bool → Taken
answer s size held more = answer_of (turn s size held more) s size more

-- ---- a STATUS is heard (TS 36.322 5.2.1)

-- the entries are read; the numbers below a place that they don't name are acknowledged; those that
-- they name are considered
abbrev pub named_window : State → List Nack → TxWindow
named_window s nacks = record s.window { slots = named_all s.window.base s.window.slots nacks }

abbrev pub acked_window : State → ℕ → List Nack → TxWindow
acked_window s below nacks =
    record s.window { slots = acked_from 0 below (named_window s nacks).slots }

abbrev pub read_window : State → ℕ → List Nack → TxWindow
read_window s below nacks =
    record s.window {
      slots =
          considered_all s.window.base s.config.max_retx (acked_window s below nacks).slots nacks;
    }

-- and VT(A) moves
abbrev pub read : State → ℕ → List Nack → State
read s below nacks = record s {
  window = advanced (read_window s below nacks);
  accounts = swept (credited_from s.accounts 0 below (named_window s nacks).slots);
}

-- the sequence number at which the limit comes, once, at a place above a number
abbrev pub limit_in : Bool → ℕ → Option ℕ → Option ℕ
limit_in failed base None = None
limit_in failed base (Some at) = if failed then None else Some ((base + at) % AM_MODULUS)

abbrev pub limit_of : State → ℕ → List Nack → Option ℕ
limit_of s below nacks =
    limit_in s.failed s.window.base
    (spent_among s.window.base s.config.max_retx (read_window s below nacks).slots None nacks)

-- the poll timer runs, and POLL_SN lies below ACK_SN or has an entry
abbrev pub stops : State → ℕ → List Nack → Bool
stops s below nacks =
    runs s.polls.timer
    && (nat_lt s.polls.poll_number (s.window.base + below)
    || is_named s.window.base (s.polls.poll_number - s.window.base) nacks)

abbrev pub failed_of : State → State
failed_of s = record s { polls = record s.polls { timer = ceased s.polls.timer }; failed = true }

abbrev pub ended : Option ℕ → Bool → State → State
ended (Some sn) stopped s = failed_of s
ended None true s = without_timer s
ended None false s = s

abbrev pub heard_of : Option ℕ → Bool → Heard
heard_of (Some sn) stopped = hears.Limit sn
heard_of None stopped = hears.Applied stopped

-- ACK_SN lies from VT(A) to VT(S), or the STATUS is ignored
abbrev pub is_ignored : State → ℕ → Bool
is_ignored s ack = nat_lt (length s.window.slots) (offset_of s.window.base ack)

abbrev pub applied : State → ℕ → List Nack → State
applied s below nacks = ended (limit_of s below nacks) (stops s below nacks) (read s below nacks)

abbrev pub applied_heard : State → ℕ → List Nack → Heard
applied_heard s below nacks = heard_of (limit_of s below nacks) (stops s below nacks)

unfoldable pub after_status : State → StatusPdu → State
after_status s status = if is_ignored s status.ack then s
    else applied s (offset_of s.window.base status.ack) status.nacks

unfoldable pub heard : State → StatusPdu → Heard
heard s status = if is_ignored s status.ack then hears.Ignored
    else applied_heard s (offset_of s.window.base status.ack) status.nacks

-- ---- the poll timer (TS 36.322 5.2.2.3)

abbrev pub after_tick : State → State
after_tick s = record s { polls = record s.polls { timer = ticked s.polls.timer } }

-- an expiry owes a poll
abbrev pub with_owed : State → State
with_owed s = record s { polls = record s.polls { owed = true; timer = ceased s.polls.timer } }

-- where it is quiet the greatest number that isn't acknowledged is considered for retransmission
abbrev pub recalled_place : State → Bool → Option ℕ
recalled_place s more = if is_quiet s more then last_open 0 None s.window.slots else None

abbrev pub with_recalled : Option ℕ → State → State
with_recalled None s = s
with_recalled (Some at) s =
    record s {
      window =
          with_slot s.window at (recalled s.config.max_retx (slot_at s.window.slots at));
    }

abbrev pub expired : State → Bool → State
expired s more = with_recalled (recalled_place s more) (with_owed s)

abbrev pub spent_at : Option ℕ → State → Option ℕ
spent_at None s = None
spent_at (Some at) s = if is_spent (slot_at s.window.slots at).retransmissions s.config.max_retx
    then Some at else None

abbrev pub expiry_limit : State → Bool → Option ℕ
expiry_limit s more =
    limit_in s.failed s.window.base (spent_at (recalled_place s more) (expired s more))

abbrev pub expiry_of : Option ℕ → PollExpired
expiry_of None = expires.Done
expiry_of (Some sn) = expires.Limit sn

unfoldable pub after_expiry : State → Bool → State
after_expiry s more = if runs s.polls.timer
    then ended (expiry_limit s more) false (expired s more) else s

unfoldable pub expiry : State → Bool → PollExpired
expiry s more = if runs s.polls.timer then expiry_of (expiry_limit s more) else expires.NotRunning

-- the poll timer without a poll: nothing is left or waits, something isn't acknowledged, the limit
-- isn't reached and the timer doesn't run
unfoldable pub settles : State → Bool → Bool
settles s more = not more && is_empty s && not (waits s) && not (length s.window.slots == 0)
    && not s.failed && not (runs s.polls.timer)

abbrev pub settled_by : Bool → State → State
settled_by true s = with_timer s
settled_by false s = s

abbrev pub settled : State → Bool → State
settled s more = settled_by (settles s more) s
