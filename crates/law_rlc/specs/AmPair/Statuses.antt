-- What the sender reads of a STATUS that is under way (TS 36.322 5.2.1, 7.1).
use Rattle.std.specs.Prelude.{◌≡◌, ℕ, ◌+◌, ◌-◌, ◌%◌, ◌<◌, ◌≤◌, ◌↔◌, true, List, map, Ok}
use Rattle.std.specs.List.{AllByRecursion}
use Rattle.l2_types.specs.declared.config.AmTxConfig.{AmTxConfig}
use Rattle.l2_types.specs.declared.AmRxConfig.{AmRxConfig}
use Rattle.rlc_pdu.specs.Pdus.{StatusPdu, Status}
use Rattle.rlc_pdu.specs.Reading.{am_at}
use Rattle.rlc_am_tx_window.specs.Window.{next, offset_of, is_named}
use Rattle.rlc_am_tx.specs.Machine.{State, is_ignored}
use Rattle.rlc_am_rx.specs.Status.{nack_of}
use Rattle.law_rlc.specs.AmReceiver.Status.{has_entry}
use Rattle.law_rlc.specs.AmPair.Flow.{Report, Step, sender, goes, am_rlc_outset}
use Rattle.law_rlc.specs.AmPair.Given.{AreGiven}
use Rattle.rlc_pdu.specs.declared.constants.TheConstants.{AM_MODULUS}

-- the ACK and the entries with 10 bits of their numbers
abbrev pub reduced : Report → StatusPdu
reduced r = record { ack = r.ack % AM_MODULUS; nacks = map nack_of r.entries }

-- its octets are read as what it was written with; it is ignored exactly where its ACK lies below
-- VT(A), else its ACK_SN stands for its ACK, and each NACK_SN for the number of its entry
pub record IsReadRight (s : State) (r : Report) : Type 0 where
  pub reads : am_at r.octets ≡ Ok (Status (reduced r))
  pub ignored : (is_ignored s (reduced r).ack ≡ true) ↔ (r.ack < s.window.base)
  pub ack : s.window.base ≤ r.ack → s.window.base + offset_of s.window.base (reduced r).ack ≡ r.ack
  pub entries : (n : ℕ) → s.window.base ≤ n → n < next s.window
      → is_named s.window.base (n - s.window.base) (reduced r).nacks ≡ has_entry r.entries n

abbrev pub ReadsEachNumber : Type 0
ReadsEachNumber = (sending : AmTxConfig) (receiving : AmRxConfig) (steps : List Step)
    → AreGiven (am_rlc_outset sending receiving) steps
    → AllByRecursion (IsReadRight (sender (goes steps (am_rlc_outset sending receiving))).state)
    (goes steps (am_rlc_outset sending receiving)).reports
