-- A sender along the history of its flow: each call is told by one event of the flow, or by none,
-- and what the sender keeps is what the history says (docs/laws/ACCOUNT.md; TS 36.322 5.1.3.1,
-- 5.2). The account of a history is a fold of its events, which a journal's checker gathers of each
-- flow: so a walk from the calls of ends to the records of a journal has to tie events alone.
use Rattle.std.specs.Prelude.{◌≡◌, ℕ, ◌+◌, ◌%◌, ◌<◌, ◌⊎◌, if◌then◌else◌, List, [], ◌∷◌, length}
use Rattle.std.specs.Prelude.{Option, Some, None}
use Rattle.l2_num.specs.Timers.{runs}
use Rattle.l2_types.specs.declared.config.AmTxConfig.{AmTxConfig}
use Rattle.rlc_pdu.specs.declared.constants.TheConstants.{AM_MODULUS}
use Rattle.rlc_queue.specs.Waiting.{HaveOctets, total}
use Rattle.rlc_am_tx_window.specs.Sent.{next_stretch}
use Rattle.rlc_am_tx.specs.declared.turn.Turn.{Turn}
use Rattle.rlc_am_tx.specs.declared.turn.Turn.TheVariants as turns
use Rattle.rlc_am_tx.specs.Machine.{State, start, turn, again, number_again, new_slot, heard}
use Rattle.rlc_am_tx.specs.Machine.{expiry}
use Rattle.journal_account.specs.declared.entry.StatusEntry.{StatusEntry}
use Rattle.journal_account.specs.FlowAccount.{FlowAccount, account_of}
use Rattle.journal_account.specs.FlowEvents.{FlowEvent, SduTaken, NumberWritten, OctetsResent}
use Rattle.journal_account.specs.FlowEvents.{OctetsArrived, ReorderStarted, ReorderExpired}
use Rattle.journal_account.specs.FlowEvents.{StatusHeard, PollExpired, IsPossible, IsHistory}
use Rattle.journal_account.specs.Waiting.{IsWithin, FailsAt}
use Rattle.law_rlc.specs.AmSender.Run.{Call, Offer, Take, Status, Tick, Expire, Settle, Confirm}
use Rattle.law_rlc.specs.AmSender.Run.{after}
use Rattle.law_account.specs.Accounted.{AreAccounted}
use Rattle.law_account.specs.Heard.{IsHeard}
use Rattle.law_account.specs.Limit.{IsLimited, limit_heard, limit_expired}

-- ---- how a call is told

abbrev pub turn_told : Turn → State → ℕ → Option FlowEvent
turn_told turns.Whole s size = Some (OctetsResent (number_again s) 0 (length (again s).field))
turn_told turns.Part s size = Some (OctetsResent (number_again s)
    (next_stretch (again s) size).from (next_stretch (again s) size).to)
turn_told turns.New s size = Some (NumberWritten (length (new_slot s size).field))
turn_told turns.Idle s size = None
turn_told turns.Stopped s size = None
turn_told turns.Small s size = None
turn_told turns.Shut s size = None
turn_told turns.Held s size = None

-- an expiry tells whether PDCP has more, and a STATUS what its sender reads
abbrev pub call_told : State → Call → Option FlowEvent
call_told s (Offer sdu) = Some (SduTaken (length sdu))
call_told s (Take size held more) = turn_told (turn s size held more) s size
call_told s (Status status) = None
call_told s Tick = None
call_told s (Expire more) = if runs s.polls.timer then Some (PollExpired more) else None
call_told s (Settle more) = None
call_told s Confirm = None

-- an SDU has an octet, and a STATUS comes with the numbers that its sender reads
abbrev pub IsTold : State → Call → Option FlowEvent → Type 0
IsTold s (Offer sdu) o = (0 < length sdu) × (o ≡ call_told s (Offer sdu))
IsTold s (Status status) o = (ack : ℕ) × (entries : List StatusEntry)
    × IsHeard s status ack entries × (o ≡ Some (StatusHeard ack entries))
IsTold s c o = o ≡ call_told s c

-- the latest event stands first
abbrev pub with_told : Option FlowEvent → List FlowEvent → List FlowEvent
with_told None es = es
with_told (Some e) es = e ∷ es

-- what happens at the flow's receiver
abbrev pub IsOfReceiver : FlowEvent → Type 0
IsOfReceiver (OctetsArrived n from to) = Unit {0}
IsOfReceiver ReorderStarted = Unit {0}
IsOfReceiver ReorderExpired = Unit {0}
IsOfReceiver other = ⊥

-- ---- what the sender keeps

-- the octets that were taken are those that were written and those that wait
pub record AreTaken (a : FlowAccount) (sdus : List (List ℕ)) : Type 0 where
  pub some : HaveOctets sdus
  pub all : a.arrivals.written + total sdus ≡ a.sdus.taken

pub record Follows (most : ℕ) (es : List FlowEvent) (s : State) : Type 0 where
  pub most_is : s.config.max_retx ≡ most
  pub history : IsHistory es
  pub window : AreAccounted most s.window (account_of most es).sending
  pub limit : IsLimited s.failed (account_of most es).sending
  pub queue : AreTaken (account_of most es) s.queue.sdus

-- as it begins
abbrev pub OutsetFollows : Type 0
OutsetFollows = (config : AmTxConfig) → Follows config.max_retx [] (start config)

-- along any call, and whatever happens at the receiver
abbrev pub CallsFollow : Type 0
CallsFollow = (most : ℕ) (es : List FlowEvent) (s : State) (c : Call) (o : Option FlowEvent)
    → IsTold s c o → Follows most es s → Follows most (with_told o es) (after s c)

abbrev pub ArrivalsFollow : Type 0
ArrivalsFollow = (most : ℕ) (es : List FlowEvent) (s : State) (e : FlowEvent) → IsOfReceiver e
    → IsPossible e es → Follows most es s → Follows most (e ∷ es) s

-- ---- the limit

-- the SN with which a call tells the limit
abbrev pub limit_told : State → Call → Option ℕ
limit_told s (Status status) = limit_heard (heard s status)
limit_told s (Expire more) = limit_expired (expiry s more)
limit_told s c = None

-- it is that of the number at which the flow fails with the event; else no number was named too
-- often, or the flow had failed before
abbrev pub IsLimitOf : ℕ → List FlowEvent → List FlowEvent → Option ℕ → Type 0
IsLimitOf most es now (Some sn) = IsWithin most es
    × ((n : ℕ) × FailsAt most now n × (sn ≡ n % AM_MODULUS))
IsLimitOf most es now None = IsWithin most now ⊎ ((n : ℕ) × FailsAt most es n)

abbrev pub CallsTellLimits : Type 0
CallsTellLimits = (most : ℕ) (es : List FlowEvent) (s : State) (c : Call) (o : Option FlowEvent)
    → IsTold s c o → Follows most es s
    → IsLimitOf most es (with_told o es) (limit_told s c)
