-- The SDUs of a flow (TS 36.322 5.1.3): those that the sender was offered, and those that the
-- receiver handed up.
use Rattle.std.specs.Prelude.{ℕ, List, [], ◌∷◌, ◌++◌}
use Rattle.l2_types.specs.declared.config.AmTxConfig.{AmTxConfig}
use Rattle.l2_types.specs.declared.AmRxConfig.{AmRxConfig}
use Rattle.law_rlc.specs.AmSender.Run.{Call as SenderCall, Offer, Take, Status, Tick, Expire}
use Rattle.law_rlc.specs.AmSender.Run.{Settle, Confirm}
use Rattle.law_rlc.specs.AmReceiver.Stream.{flow, initial}
use Rattle.law_rlc.specs.AmPair.Flow.{Flow, Step, goes, am_rlc_outset}
use Rattle.law_rlc.specs.AmPair.Given.{AreGiven}
use Rattle.law_words.specs.Lists.{AreFirstSdus}

abbrev pub offers_with : SenderCall → List (List ℕ) → List (List ℕ)
offers_with (Offer sdu) later = sdu ∷ later
offers_with (Take size held more) later = later
offers_with (Status status) later = later
offers_with Tick later = later
offers_with (Expire more) later = later
offers_with (Settle more) later = later
offers_with Confirm later = later

-- the SDUs that the sender was offered, in their order
abbrev pub offered_in : List SenderCall → List (List ℕ)
offered_in [] = []
offered_in (c ∷ cs) = offers_with c (offered_in cs)

abbrev pub offered : Flow → List (List ℕ)
offered f = offered_in f.sent

-- the SDUs that the receiver handed up, and those that are ready to go up, in their order
abbrev pub handed_up : Flow → List (List ℕ)
handed_up f = (flow f.heard (initial f.receiving)).gone

abbrev pub ready : Flow → List (List ℕ)
ready f = (flow f.heard (initial f.receiving)).state.out.ready

-- what was handed up and what is ready are the SDUs that were offered first: in their order, each
-- once, unchanged
abbrev pub HandsUpTheFront : Type 0
HandsUpTheFront = (sending : AmTxConfig) (receiving : AmRxConfig) (steps : List Step)
    → AreGiven (am_rlc_outset sending receiving) steps
    → AreFirstSdus (handed_up (goes steps (am_rlc_outset sending receiving))
    ++ ready (goes steps (am_rlc_outset sending receiving)))
    (offered (goes steps (am_rlc_outset sending receiving)))
