-- What an acknowledged bearer tells of t-Reordering is what its receiver does in each call (TS
-- 36.322 5.1.3.2.3, 5.1.3.2.4).
use Rattle.std.specs.Prelude.{◌≡◌, ℕ, Bool, if◌then◌else◌, List, [], ◌∷◌, ◌++◌}
use Rattle.std.specs.List.{AllByRecursion, flat_map}
use Rattle.bearer.specs.Acknowledged.State.{State}
use Rattle.bearer.specs.declared.flow.Flow.TheVariants.{Am}
use Rattle.bearer_types.specs.declared.event.Event.{Event}
use Rattle.bearer_types.specs.declared.event.Event.TheVariants.{Start, Expired}
use Rattle.l2_types.specs.declared.event.Clock.TheVariants.{Reorder}
use Rattle.rlc_am_rx.specs.Machine.{turned, reorder_answer}
use Rattle.rlc_am_rx.specs.State.{State as Receiver}
use Rattle.rlc_pdu.specs.declared.Expired.{Expired as Answer}
use Rattle.rlc_pdu.specs.declared.Expired.TheVariants.{Done, NotRunning}
use Rattle.law_bearer.specs.AnyBearer.Acknowledged.{hears_on, receiver_calls, IsOfReceiver}
use Rattle.law_bearer.specs.AnyBearer.Calls.{Call, after}
use Rattle.law_rlc.specs.AmReceiver.Run.{Call as ReceiverCall, Arrive as Hears, Up, Write}
use Rattle.law_rlc.specs.AmReceiver.Run.{ExpireReorder, ExpireProhibit, TickReorder, TickProhibit}
use Rattle.law_rlc.specs.AmReceiver.Run.{state_after}
use Rattle.law_deliver.specs.AmFlow.Ups.{tells_in}

-- it starts, or it expires
pub data Reordering : Type 0 where
  Starts : Reordering
  Expires : Reordering

-- ---- as it is told

abbrev pub reordering_told : Event → List Reordering
reordering_told (Start lcid Reorder) = Starts ∷ []
reordering_told (Expired lcid Reorder) = Expires ∷ []
reordering_told event = []

abbrev pub reordering_in : List Event → List Reordering
reordering_in events = flat_map reordering_told events

-- ---- as the receiver does it

abbrev pub starts_if : Bool → List Reordering
starts_if started = if started then Starts ∷ [] else []

abbrev pub expiry_of : Answer → List Reordering
expiry_of NotRunning = []
expiry_of (Done again) = Expires ∷ starts_if again

abbrev pub reordering_by : Receiver → ReceiverCall → List Reordering
reordering_by r (Hears pdu) = starts_if (turned r pdu).started
reordering_by r Up = []
reordering_by r Write = []
reordering_by r ExpireReorder = expiry_of (reorder_answer r.mark r)
reordering_by r ExpireProhibit = []
reordering_by r TickReorder = []
reordering_by r TickProhibit = []

abbrev pub reordering_over : List ReceiverCall → Receiver → List Reordering
reordering_over [] r = []
reordering_over (c ∷ cs) r = reordering_by r c ++ reordering_over cs (state_after r c)

-- ---- the law

-- a receiver comes to another state by calls, and then by some of its own, and just this is told of
-- them
pub record TellsReordering (r t : Receiver) (calls : List ReceiverCall) (told : List Event) : Type 0
  where
    pub own : List ReceiverCall
    pub are_own : AllByRecursion IsOfReceiver own
    pub left : t ≡ hears_on own (hears_on calls r)
    pub told_is : reordering_in told ≡ reordering_over (calls ++ own) r

abbrev pub BearersTellReordering : Type 0
BearersTellReordering = (l : ℕ) (b d : State) (c : Call) → after (Am b) c ≡ Am d
    → TellsReordering b.rx d.rx (receiver_calls b c) (tells_in l (Am b) c)
