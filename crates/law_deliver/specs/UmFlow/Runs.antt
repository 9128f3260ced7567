-- What each call of a bearer is to RLC's sender and to RLC's receiver, by steps and calls of their
-- own (TS 36.322 4.2.1.2).
use Rattle.std.specs.Prelude.{ℕ, if◌then◌else◌, List, [], ◌∷◌, ◌++◌, map, Option, Result, Ok, Err}
use Rattle.l2_num.specs.Timers.{ends}
use Rattle.l2_types.specs.declared.Clock.{Clock}
use Rattle.l2_types.specs.declared.Clock.TheVariants.{Poll, Reorder, Prohibit}
use Rattle.rlc_pdu.specs.declared.Expired.{Expired}
use Rattle.rlc_pdu.specs.declared.Expired.TheVariants.{Done, NotRunning}
use Rattle.rlc_pdu.specs.declared.RlcRefusal.{RlcRefusal}
use Rattle.rlc_pdu.specs.Pdus.{UmdPdu}
use Rattle.rlc_pdu.specs.Reading.{umd_at}
use Rattle.rlc_um.specs.Receiver.{State as Receiver, arrival, expiring, expired, counted}
use Rattle.bearer.specs.declared.flow.Flow.TheVariants.{Um}
use Rattle.bearer.specs.Unacknowledged.State.{State}
use Rattle.bearer.specs.Unacknowledged.Taking.{size_in}
use Rattle.law_bearer.specs.AnyBearer.Calls.{Call, Submit, Take, Arrive, Expire, Tick, SetDiscard}
use Rattle.law_bearer.specs.AnyBearer.Stream.{takes, pdu_of}
use Rattle.law_rlc.specs.UmPair.Run.{Call as ReceiverCall, Arrive as Arrives, Expire as Expires}
use Rattle.law_rlc.specs.UmPair.Run.{Tick as Ticks, Up}
use Rattle.law_rlc.specs.UmPair.Send.{Step as SenderStep, Offer, Take as Takes}
use Rattle.law_deliver.specs.UmFlow.Pair.{called}

-- ---- the sender is offered each PDU that PDCP gives, in order, and then one is taken

abbrev pub offers_and_take : List (List ℕ) → ℕ → Option ℕ → List SenderStep
offers_and_take pdus share held = map (λ pdu. Offer pdu) pdus ++ Takes (size_in share) held ∷ []

abbrev pub sender_steps : State → Call → List SenderStep
sender_steps b (Submit sdu) = []
sender_steps b (Take share held) =
    offers_and_take (map (pdu_of b.pdcp.tx) (takes (Um b) (Take share held))) share held
sender_steps b (Arrive pdu) = []
sender_steps b (Expire clock) = []
sender_steps b Tick = []
sender_steps b (SetDiscard ttis) = []

abbrev pub all_sender_steps : State → List Call → List SenderStep
all_sender_steps b [] = []
all_sender_steps b (c ∷ cs) = sender_steps b c ++ all_sender_steps (called b c) cs

-- ---- the receiver hands up at once what it has ready

abbrev pub ups : List (List ℕ) → List ReceiverCall
ups pdus = map (λ pdu. Up) pdus

abbrev pub as_read : Result UmdPdu RlcRefusal → Receiver → List ReceiverCall
as_read (Err refused) r = []
as_read (Ok pdu) r = Arrives pdu ∷ ups (arrival pdu r).joined.ready

abbrev pub as_expired : Expired → Receiver → List ReceiverCall
as_expired NotRunning r = []
as_expired (Done again) r = Expires ∷ ups (expired r).joined.ready

abbrev pub as_timed : Clock → Receiver → List ReceiverCall
as_timed Poll r = []
as_timed Reorder r = as_expired (expiring r) r
as_timed Prohibit r = []

abbrev pub receiver_calls : State → Call → List ReceiverCall
receiver_calls b (Submit sdu) = []
receiver_calls b (Take share held) = []
receiver_calls b (Arrive pdu) = as_read (umd_at b.bits pdu) b.rx
receiver_calls b (Expire clock) = as_timed clock b.rx
receiver_calls b Tick = Ticks ∷ (if ends b.rx.clock then as_timed Reorder (counted b.rx) else [])
receiver_calls b (SetDiscard ttis) = []

abbrev pub all_receiver_calls : State → List Call → List ReceiverCall
all_receiver_calls b [] = []
all_receiver_calls b (c ∷ cs) = receiver_calls b c ++ all_receiver_calls (called b c) cs
