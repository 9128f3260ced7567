-- What a call of `take` makes of the account (TS 36.322 5.1.3.1, 5.2.1).
use Rattle.std.specs.Prelude.{ℕ, Bool, length, Option}
use Rattle.rlc_am_tx_window.specs.Sent.{next_stretch}
use Rattle.rlc_am_tx.specs.declared.turn.Turn.{Turn}
use Rattle.rlc_am_tx.specs.declared.turn.Turn.TheVariants as turns
use Rattle.rlc_am_tx.specs.Machine.{State, turn, again, number_again, new_slot, after_take}
use Rattle.journal_account.specs.FlowSending.{FlowSending, with_sent, with_resent}
use Rattle.law_account.specs.Accounted.{AreAccounted}
use Rattle.law_account.specs.Limit.{IsLimited}

-- a number is written, or octets of one are written again
abbrev pub taken_in : Turn → State → ℕ → FlowSending → FlowSending
taken_in turns.Whole s size f = with_resent (number_again s) 0 (length (again s).field) f
taken_in turns.Part s size f =
    with_resent (number_again s) (next_stretch (again s) size).from (next_stretch (again s) size).to
    f
taken_in turns.New s size f = with_sent (length (new_slot s size).field) f
taken_in turns.Idle s size f = f
taken_in turns.Stopped s size f = f
taken_in turns.Small s size f = f
taken_in turns.Shut s size f = f
taken_in turns.Held s size f = f

abbrev pub TakesAreAccounted : Type 0
TakesAreAccounted = (s : State) (f : FlowSending) (size : ℕ) (held : Option ℕ) (more : Bool)
    → AreAccounted s.config.max_retx s.window f
    → AreAccounted s.config.max_retx (after_take s size held more).window
    (taken_in (turn s size held more) s size f)

abbrev pub TakesAreLimited : Type 0
TakesAreLimited = (s : State) (f : FlowSending) (size : ℕ) (held : Option ℕ) (more : Bool)
    → IsLimited s.failed f
    → IsLimited (after_take s size held more).failed (taken_in (turn s size held more) s size f)
