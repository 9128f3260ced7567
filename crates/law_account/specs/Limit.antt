-- The retransmission limit at the sender, and in the account (TS 36.322 5.2.1).
use Rattle.std.specs.Prelude.{◌≡◌, ◌≤◌, ℕ, ◌%◌, Bool, true, false, not, ◌&&◌, List, Option}
use Rattle.std.specs.Prelude.{Some, None, is_some}
use Rattle.l2_num.specs.Timers.{runs}
use Rattle.rlc_pdu.specs.declared.constants.TheConstants.{AM_MODULUS}
use Rattle.rlc_pdu.specs.Pdus.{StatusPdu}
use Rattle.rlc_am_tx.specs.declared.Heard.{Heard}
use Rattle.rlc_am_tx.specs.declared.Heard.TheVariants as hears
use Rattle.rlc_am_tx.specs.declared.PollExpired.{PollExpired}
use Rattle.rlc_am_tx.specs.declared.PollExpired.TheVariants as expires
use Rattle.rlc_am_tx.specs.Machine.{State, is_empty, heard, expiry, after_status, after_expiry}
use Rattle.journal_account.specs.declared.entry.StatusEntry.{StatusEntry}
use Rattle.journal_account.specs.FlowSending.{FlowSending, number_at, with_sent, with_resent}
use Rattle.journal_account.specs.FlowSending.{with_status, with_poll_expired}
use Rattle.law_account.specs.Accounted.{AreAccounted}
use Rattle.law_account.specs.Heard.{IsHeard}

-- the sender has failed exactly where the account has a limit, and till then no number was named
-- too often
pub record IsLimited (failed : Bool) (f : FlowSending) : Type 0 where
  pub failed_is : failed ≡ is_some f.limit
  pub few : failed ≡ false → (k : ℕ) → (number_at f.numbers k).namings ≤ f.most

-- the SN with which a call tells the limit
abbrev pub limit_heard : Heard → Option ℕ
limit_heard (hears.Limit sn) = Some sn
limit_heard (hears.Applied stopped) = None
limit_heard hears.Ignored = None

abbrev pub limit_expired : PollExpired → Option ℕ
limit_expired (expires.Limit sn) = Some sn
limit_expired expires.Done = None
limit_expired expires.NotRunning = None

-- 10 bits of the number at which the flow failed
abbrev pub sn_of : Option ℕ → Option ℕ
sn_of None = None
sn_of (Some n) = Some (n % AM_MODULUS)

-- as numbers are written and sent again
pub record StaysLimited (failed : Bool) (f : FlowSending) : Type 0 where
  pub written : (size : ℕ) → IsLimited failed (with_sent size f)
  pub resent : (n from to : ℕ) → IsLimited failed (with_resent n from to f)

abbrev pub SendingIsLimited : Type 0
SendingIsLimited = (failed : Bool) (f : FlowSending) → IsLimited failed f → StaysLimited failed f

-- and as a STATUS is heard: the limit comes at the same number, if it does
pub record LimitsAgree (failed later : Bool) (told : Option ℕ) (g : FlowSending) : Type 0 where
  pub kept : IsLimited later g
  pub told_is : failed ≡ false → told ≡ sn_of g.limit

abbrev pub StatusIsLimited : Type 0
StatusIsLimited = (s : State) (f : FlowSending) (status : StatusPdu) (ack : ℕ)
    (entries : List StatusEntry) → IsHeard s status ack entries
    → AreAccounted s.config.max_retx s.window f → IsLimited s.failed f
    → LimitsAgree s.failed (after_status s status).failed (limit_heard (heard s status))
    (with_status ack entries f)

-- and as the poll timer expires
abbrev pub ExpiryIsLimited : Type 0
ExpiryIsLimited = (s : State) (f : FlowSending) (more left : Bool) → runs s.polls.timer ≡ true
    → not left ≡ (is_empty s && not more) → AreAccounted s.config.max_retx s.window f
    → IsLimited s.failed f
    → LimitsAgree s.failed (after_expiry s more).failed (limit_expired (expiry s more))
    (with_poll_expired left f)
