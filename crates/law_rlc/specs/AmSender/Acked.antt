-- Which numbers are acknowledged (TS 36.322 5.2.1).
use Rattle.std.specs.Prelude.{◌≡◌, ℕ, ◌+◌, ◌-◌, ◌<◌, ◌≤◌, Bool, true, false, not, ◌||◌, ◌&&◌, List}
use Rattle.std.specs.Prelude.{nat_le, nat_lt}
use Rattle.l2_types.specs.declared.config.AmTxConfig.{AmTxConfig}
use Rattle.rlc_pdu.specs.declared.pdu.Nack.{Nack}
use Rattle.rlc_pdu.specs.Pdus.{StatusPdu}
use Rattle.rlc_am_tx_window.specs.Window.{next, offset_of, is_named}
use Rattle.rlc_am_tx.specs.Machine.{State, is_ignored}
use Rattle.law_rlc.specs.AmSender.Run.{Call, Offer, Take, Status, Tick, Expire, Settle, Confirm}
use Rattle.law_rlc.specs.AmSender.Run.{World, run_am_sender, begun}
use Rattle.rlc_pdu.specs.declared.constants.TheConstants.{AM_WINDOW_SIZE}

-- a STATUS acknowledges the numbers below its ACK_SN that it doesn't name
abbrev pub acks : ℕ → ℕ → List Nack → ℕ → Bool
acks base below nacks n = nat_le base n && nat_lt n (base + below)
    && not (is_named base (n - base) nacks)

abbrev pub acked_by : State → StatusPdu → (ℕ → Bool) → ℕ → Bool
acked_by s status acked n =
    acked n
    || (not (is_ignored s status.ack)
    && acks s.window.base (offset_of s.window.base status.ack) status.nacks n)

abbrev pub acked_after : State → Call → (ℕ → Bool) → ℕ → Bool
acked_after s (Offer sdu) acked = acked
acked_after s (Take size held more) acked = acked
acked_after s (Status status) acked = acked_by s status acked
acked_after s Tick acked = acked
acked_after s (Expire more) acked = acked
acked_after s (Settle more) acked = acked
acked_after s Confirm acked = acked

-- VT(A) is the least number that isn't acknowledged, and VT(S) lies at most 512 above it
pub record IsLeast (w : World (ℕ → Bool)) : Type 0 where
  pub below : (n : ℕ) → n < w.state.window.base → w.past n ≡ true
  pub here : w.past w.state.window.base ≡ false
  pub window : next w.state.window ≤ w.state.window.base + AM_WINDOW_SIZE

abbrev pub BaseIsLeast : Type 0
BaseIsLeast = (config : AmTxConfig) (calls : List Call)
    → IsLeast (run_am_sender acked_after calls (begun config (λ n. false)))
