-- What a step makes of the SDUs offered, handed up and ready (TS 36.322 5.1.3.2.3).
use Rattle.std.specs.Prelude.{◌≡◌, Bool, true, false, ℕ, List, [], ◌++◌, length, take, drop}
use Rattle.law_rlc.specs.AmReceiver.Run.{Call as ReceiverCall, Arrive, Up, Write, ExpireReorder}
use Rattle.law_rlc.specs.AmReceiver.Run.{ExpireProhibit, TickReorder, TickProhibit}
use Rattle.law_rlc.specs.AmSender.Run.{Offer}
use Rattle.law_rlc.specs.AmPair.Flow.{Flow, Step, Sends, Receives, Reports, DataComes, StatusComes}
use Rattle.law_rlc.specs.AmPair.Flow.{DataGoes, StatusGoes, Passes, happens}
use Rattle.law_rlc.specs.AmPair.Given.{IsGiven}
use Rattle.law_rlc.specs.AmPair.Sdus.{offers_with, offered, handed_up, ready}
use Rattle.law_words.specs.Lists.{AreFirstSdus}
use Rattle.law_rlc.specs.AmPair.Arrives.{arrives, Always, brings}

-- ---- the receiver's side

-- an SDU goes up
abbrev pub is_up : ReceiverCall → Bool
is_up (Arrive pdu) = false
is_up Up = true
is_up Write = false
is_up ExpireReorder = false
is_up ExpireProhibit = false
is_up TickReorder = false
is_up TickProhibit = false

abbrev pub takes_up : Step → Bool
takes_up (Sends c) = false
takes_up (Receives c) = is_up c
takes_up (Reports size octets) = false
takes_up (DataComes k) = false
takes_up (StatusComes k) = false
takes_up (DataGoes k) = false
takes_up (StatusGoes k) = false
takes_up Passes = false

-- the first that is ready goes up by `Up`; no other step changes what was handed up, and only a
-- data PDU that comes adds to what is ready, behind it
pub record GoesUp (f : Flow) : Type 0 where
  pub gone : handed_up (happens f (Receives Up)) ≡ handed_up f ++ take 1 (ready f)
  pub rest : ready (happens f (Receives Up)) ≡ drop 1 (ready f)
  pub stays : (s : Step) → IsGiven f s → takes_up s ≡ false → handed_up (happens f s) ≡ handed_up f
  pub grows : (s : Step) → IsGiven f s → takes_up s ≡ false
      → AreFirstSdus (ready f) (ready (happens f s))
  pub same : (s : Step) → IsGiven f s → takes_up s ≡ false → brings s ≡ false
      → ready (happens f s) ≡ ready f

abbrev pub GoesUpOneByOne : Type 0
GoesUpOneByOne = (f : Flow) → GoesUp f

-- ---- the sender's side

abbrev pub offers : Step → List (List ℕ)
offers (Sends c) = offers_with c []
offers (Receives c) = []
offers (Reports size octets) = []
offers (DataComes k) = []
offers (StatusComes k) = []
offers (DataGoes k) = []
offers (StatusGoes k) = []
offers Passes = []

-- an SDU that is offered comes behind those before, and hasn't arrived
pub record IsOffered (f : Flow) : Type 0 where
  pub more : (s : Step) → offered (happens f s) ≡ offered f ++ offers s
  pub fresh : (sdu : List ℕ) → IsGiven f (Sends (Offer sdu))
      → arrives (happens f (Sends (Offer sdu))) (length (offered f)) ≡ false

abbrev pub OffersAreSent : Type 0
OffersAreSent = Always IsOffered
