-- The numbers of both ends (TS 36.322 7.1), and what is acknowledged.
use Rattle.std.specs.Prelude.{◌≡◌, ℕ, ◌+◌, ◌<◌, ◌≤◌, Bool, true, false, List, length, Some}
use Rattle.l2_types.specs.declared.config.AmTxConfig.{AmTxConfig}
use Rattle.l2_types.specs.declared.AmRxConfig.{AmRxConfig}
use Rattle.rlc_am_rx_window.specs.Window.{top}
use Rattle.rlc_am_tx_window.specs.Window.{next}
use Rattle.law_rlc.specs.AmSender.Run.{run_am_sender, begun}
use Rattle.law_rlc.specs.AmSender.Acked.{acked_after}
use Rattle.law_rlc.specs.AmSender.Octets.{sent_with}
use Rattle.law_rlc.specs.AmReceiver.Run.{told, place_has_come}
use Rattle.law_rlc.specs.AmPair.Flow.{Flow, Step, sender, receiver, goes, am_rlc_outset}
use Rattle.law_rlc.specs.AmPair.Given.{AreGiven}
use Rattle.rlc_pdu.specs.declared.constants.TheConstants.{AM_WINDOW_SIZE}

-- VT(A) ≤ VR(R) ≤ VR(MS) ≤ VR(H) ≤ VT(S) ≤ VT(A) + 512
pub record IsOrdered (f : Flow) : Type 0 where
  pub least : (sender f).state.window.base ≤ (receiver f).state.window.front
  pub bound : (receiver f).state.window.front ≤ (receiver f).state.bound
  pub highest : (receiver f).state.bound ≤ top (receiver f).state.window
  pub sent : top (receiver f).state.window ≤ next (sender f).state.window
  pub window : next (sender f).state.window ≤ (sender f).state.window.base + AM_WINDOW_SIZE

abbrev pub KeepsOrder : Type 0
KeepsOrder = (sending : AmTxConfig) (receiving : AmRxConfig) (steps : List Step)
    → AreGiven (am_rlc_outset sending receiving) steps
    → IsOrdered (goes steps (am_rlc_outset sending receiving))

-- the sender has heard that a number is acknowledged
abbrev pub is_acked : Flow → ℕ → Bool
is_acked f = (run_am_sender acked_after f.sent (begun f.sending (λ n. false))).past

-- a number was sent, and all octets that its new PDU carried have arrived
pub record HasArrived (f : Flow) (n : ℕ) : Type 0 where
  pub sent : n < length (sender f).past.sent
  pub size : told (receiver f).kept n ≡ Some (length (sent_with (sender f).past n))
  pub octets : (i : ℕ) → i < length (sent_with (sender f).past n)
      → place_has_come (receiver f).kept n i ≡ true

-- each number that is acknowledged has arrived
abbrev pub AckedHasArrived : Type 0
AckedHasArrived = (sending : AmTxConfig) (receiving : AmRxConfig) (steps : List Step) (n : ℕ)
    → AreGiven (am_rlc_outset sending receiving) steps
    → is_acked (goes steps (am_rlc_outset sending receiving)) n ≡ true
    → HasArrived (goes steps (am_rlc_outset sending receiving)) n
