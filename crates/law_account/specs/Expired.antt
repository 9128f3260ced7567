-- The poll timer expires at the sender, and in the account (TS 36.322 5.2.2.3).
use Rattle.std.specs.Prelude.{◌≡◌, Bool, true, not, ◌&&◌}
use Rattle.l2_num.specs.Timers.{runs}
use Rattle.rlc_am_tx.specs.Machine.{State, is_empty, after_expiry}
use Rattle.journal_account.specs.FlowSending.{FlowSending, with_poll_expired}
use Rattle.law_account.specs.Accounted.{AreAccounted}

-- something is left to send or to take, as the sender tells it
abbrev pub ExpiryIsAccounted : Type 0
ExpiryIsAccounted = (s : State) (f : FlowSending) (more left : Bool)
    → runs s.polls.timer ≡ true → not left ≡ (is_empty s && not more)
    → AreAccounted s.config.max_retx s.window f
    → AreAccounted s.config.max_retx (after_expiry s more).window (with_poll_expired left f)
