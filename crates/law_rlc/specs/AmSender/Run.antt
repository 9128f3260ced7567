-- Runs of an acknowledged sender, over any list of calls, with what of the past a law looks at
-- (TS 36.322 5.1.3.1, 5.2).
use Rattle.std.specs.Prelude.{ℕ, Bool, List, [], ◌∷◌, Option}
use Rattle.l2_types.specs.declared.config.AmTxConfig.{AmTxConfig}
use Rattle.rlc_pdu.specs.Pdus.{StatusPdu}
use Rattle.rlc_am_tx.specs.Machine.{State, start, offered, after_take, after_status, after_tick}
use Rattle.rlc_am_tx.specs.Machine.{after_expiry, settled, confirmed}

pub data Call : Type 0 where
  Offer : List ℕ → Call
  Take : ℕ → Option ℕ → Bool → Call
  Status : StatusPdu → Call
  Tick : Call
  Expire : Bool → Call
  Settle : Bool → Call
  Confirm : Call

abbrev pub after : State → Call → State
after s (Offer sdu) = offered s sdu
after s (Take size held more) = after_take s size held more
after s (Status status) = after_status s status
after s Tick = after_tick s
after s (Expire more) = after_expiry s more
after s (Settle more) = settled s more
after s Confirm = confirmed s

-- the state and the past
pub record World (G : Type 0) : Type 0 where
  pub state : State
  pub past : G

abbrev pub run_am_sender : {G : Type 0} → (State → Call → G → G) → List Call → World G → World G
run_am_sender grow [] w = w
run_am_sender grow (c ∷ cs) w =
    run_am_sender grow cs (record { state = after w.state c; past = grow w.state c w.past })

abbrev pub begun : {G : Type 0} → AmTxConfig → G → World G
begun config g = record { state = start config; past = g }
