-- What the sender confirms has arrived (TS 36.322 5.1.3.1).
use Rattle.std.specs.Prelude.{◌≡◌, ℕ, ◌<◌, true, List, [], length, slice_index_or}
use Rattle.l2_types.specs.declared.config.AmTxConfig.{AmTxConfig}
use Rattle.l2_types.specs.declared.AmRxConfig.{AmRxConfig}
use Rattle.law_rlc.specs.AmSender.Run.{World, run_am_sender, begun}
use Rattle.law_rlc.specs.AmSender.Confirmed.{Confirmations, unconfirmed, confirmations_after}
use Rattle.law_rlc.specs.AmSender.Confirmed.{places, times}
use Rattle.law_rlc.specs.AmReceiver.Finish.{all_come}
use Rattle.law_rlc.specs.AmPair.Flow.{Flow, Step, goes, am_rlc_outset}
use Rattle.law_rlc.specs.AmPair.Given.{AreGiven}
use Rattle.law_rlc.specs.AmPair.Seen.{seen}

abbrev pub confirmations : Flow → World Confirmations
confirmations f = run_am_sender confirmations_after f.sent (begun f.sending unconfirmed)

-- the places, among the SDUs offered, of those that the sender confirmed or will confirm next
abbrev pub confirmed : Flow → List ℕ
confirmed f = places (confirmations f).state (confirmations f).past

-- the SDU of a place is one of which all octets have arrived, so one that went up or that `finish`
-- gives
pub record Arrives (f : Flow) (place : ℕ) : Type 0 where
  pub ends : place < length (seen f)
  pub octets : all_come (slice_index_or (seen f) place []) ≡ true

abbrev pub ConfirmedArrives : Type 0
ConfirmedArrives = (sending : AmTxConfig) (receiving : AmRxConfig) (steps : List Step) (place : ℕ)
    → AreGiven (am_rlc_outset sending receiving) steps
    → 0 < times place (confirmed (goes steps (am_rlc_outset sending receiving)))
    → Arrives (goes steps (am_rlc_outset sending receiving)) place
