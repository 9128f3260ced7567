-- The retransmission limit (TS 36.322 5.2.1).
use Rattle.std.specs.Prelude.{◌≡◌, ℕ, ◌+◌, ◌%◌, ◌<◌, ◌≤◌, Bool, true, false, List, Option, Some}
use Rattle.std.specs.Prelude.{None}
use Rattle.l2_types.specs.declared.config.AmTxConfig.{AmTxConfig}
use Rattle.rlc_pdu.specs.Pdus.{StatusPdu}
use Rattle.rlc_am_tx.specs.declared.turn.Turn.{Turn}
use Rattle.rlc_am_tx.specs.declared.turn.Turn.TheVariants as turns
use Rattle.rlc_am_tx.specs.declared.Heard.{Heard}
use Rattle.rlc_am_tx.specs.declared.Heard.TheVariants as hears
use Rattle.rlc_am_tx.specs.declared.PollExpired.{PollExpired}
use Rattle.rlc_am_tx.specs.declared.PollExpired.TheVariants as expires
use Rattle.rlc_am_tx.specs.Machine.{turn, heard, expiry}
use Rattle.law_rlc.specs.AmSender.Run.{Call, Status, Expire, World, run_am_sender, begun}
use Rattle.law_rlc.specs.AmSender.Namings.{Marks, unmarked, marks_after}
use Rattle.rlc_pdu.specs.declared.constants.TheConstants.{AM_MODULUS}

-- no number has had more counted namings than the limit
abbrev pub AreFew : (ℕ → ℕ) → ℕ → Type 0
AreFew namings most = (n : ℕ) → namings n ≤ most

-- the least number with one counted naming more than the limit has a sequence number
pub record IsReached (sn : ℕ) (namings : ℕ → ℕ) (most : ℕ) : Type 0 where
  pub number : ℕ
  pub is : sn ≡ number % AM_MODULUS
  pub reached : namings number ≡ most + 1
  pub least : (n : ℕ) → n < number → namings n ≤ most

abbrev pub IsLimit : Option ℕ → (ℕ → ℕ) → ℕ → Type 0
IsLimit None namings most = AreFew namings most
IsLimit (Some sn) namings most = IsReached sn namings most

abbrev pub LimitHeard : Heard → (ℕ → ℕ) → ℕ → Type 0
LimitHeard hears.Ignored namings most = Unit {0}
LimitHeard (hears.Applied stopped) namings most = AreFew namings most
LimitHeard (hears.Limit sn) namings most = IsReached sn namings most

abbrev pub LimitExpired : PollExpired → (ℕ → ℕ) → ℕ → Type 0
LimitExpired expires.NotRunning namings most = Unit {0}
LimitExpired expires.Done namings most = AreFew namings most
LimitExpired (expires.Limit sn) namings most = IsReached sn namings most

abbrev pub NoLimit : Heard → Type 0
NoLimit hears.Ignored = Unit {0}
NoLimit (hears.Applied stopped) = Unit {0}
NoLimit (hears.Limit sn) = ⊥

-- no data PDU is sent
abbrev pub IsSilent : Turn → Type 0
IsSilent turns.Whole = ⊥
IsSilent turns.Part = ⊥
IsSilent turns.New = ⊥
IsSilent turns.Idle = Unit {0}
IsSilent turns.Stopped = Unit {0}
IsSilent turns.Small = Unit {0}
IsSilent turns.Shut = Unit {0}
IsSilent turns.Held = Unit {0}

-- the limit comes exactly with the (maxRetxThreshold + 1)-th counted naming of a number, the least
-- such; it comes once, and after it no data PDU is sent
pub record ComesAtLimit (w : World Marks) : Type 0 where
  pub before : w.state.failed ≡ false → AreFew w.past.namings w.state.config.max_retx
  pub status : (status : StatusPdu) → w.state.failed ≡ false
      → LimitHeard (heard w.state status) (marks_after w.state (Status status) w.past).namings
      w.state.config.max_retx
  pub expiry : (more : Bool) → w.state.failed ≡ false
      → LimitExpired (expiry w.state more) (marks_after w.state (Expire more) w.past).namings
      w.state.config.max_retx
  pub once : (status : StatusPdu) → w.state.failed ≡ true → NoLimit (heard w.state status)
  pub after : (size : ℕ) (held : Option ℕ) (more : Bool) → w.state.failed ≡ true
      → IsSilent (turn w.state size held more)

abbrev pub FailsAtLimit : Type 0
FailsAtLimit = (config : AmTxConfig) (calls : List Call)
    → ComesAtLimit (run_am_sender marks_after calls (begun config unmarked))
