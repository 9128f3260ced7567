-- In each direction an unacknowledged bearer is a run of RLC's sender and a run of RLC's receiver
-- over an air that keeps each PDU near the top; so what comes to PDCP at one end is, in order, each
-- once and unchanged, some of what PDCP gave at the other (TS 36.322 5.1.2).
use Rattle.std.specs.Prelude.{◌≡◌, ℕ, ◌+◌, ◌*◌, ◌≤◌, List, [], ◌∷◌, ◌++◌, length}
use Rattle.std.specs.List.{AllByRecursion}
use Rattle.l2_num.specs.Ascending.{AreBetween}
use Rattle.rlc_pdu.specs.Pdus.{IsUmBits}
use Rattle.rlc_um.specs.Sender.{width_of}
use Rattle.rlc_um.specs.Window.{top_of}
use Rattle.rlc_um.specs.Receiver.{State as Receiver, all_joined}
use Rattle.law_words.specs.Lists.{IsSubsequence}
use Rattle.bearer.specs.declared.flow.Flow.TheVariants.{Um}
use Rattle.bearer.specs.Unacknowledged.State.{State}
use Rattle.law_bearer.specs.AnyBearer.Calls.{Call}
use Rattle.law_bearer.specs.AnyBearer.Stream.{stream}
use Rattle.law_rlc.specs.AmPair.Flow.{Copy}
use Rattle.law_rlc.specs.UmPair.Run.{World, run_um_receiver, fresh}
use Rattle.law_rlc.specs.UmPair.Send.{Flow, flow, at_first}
use Rattle.law_rlc.specs.UmPair.Air.{AreSent}
use Rattle.law_rlc.specs.UmPair.Which.{places_up, places_below}
use Rattle.law_words.specs.Lists.{those}
use Rattle.law_deliver.specs.UmFlow.Pair.{BearerEnd, Step, goes, um_pair_outset, AreGiven}
use Rattle.law_deliver.specs.UmFlow.Pair.{AreShortThere}
use Rattle.law_deliver.specs.UmFlow.Pair.{AreShortBack}
use Rattle.law_deliver.specs.UmFlow.Calls.{near_calls, far_calls}
use Rattle.law_deliver.specs.UmFlow.Handing.{handed}
use Rattle.law_deliver.specs.UmFlow.Runs.{all_sender_steps, all_receiver_calls}
use Rattle.law_deliver.specs.UmFlow.Lives.{BeginsLife}

-- one direction of a life: the bearers at both ends as it begins, their calls so far, and what the
-- ends have come to
pub record Way : Type 0 where
  pub from : State
  pub to : State
  pub from_calls : List Call
  pub to_calls : List Call
  pub from_end : BearerEnd
  pub to_end : BearerEnd

abbrev pub there : State → State → List Step → Way
there near far steps = record {
  from = near;
  to = far;
  from_calls = near_calls (um_pair_outset near far) steps;
  to_calls = far_calls (um_pair_outset near far) steps;
  from_end = (goes steps (um_pair_outset near far)).near;
  to_end = (goes steps (um_pair_outset near far)).far;
}

abbrev pub back : State → State → List Step → Way
back near far steps = record {
  from = far;
  to = near;
  from_calls = far_calls (um_pair_outset near far) steps;
  to_calls = near_calls (um_pair_outset near far) steps;
  from_end = (goes steps (um_pair_outset near far)).far;
  to_end = (goes steps (um_pair_outset near far)).near;
}

-- what PDCP gave to RLC, and what RLC handed up to PDCP
abbrev pub given : Way → List (List ℕ)
given w = stream (Um w.from) w.from_calls

abbrev pub heard : Way → List (List ℕ)
heard w = handed w.to w.to_calls

-- ---- runs of RLC's sender and of RLC's receiver

abbrev pub sends : ℕ → Way → Flow
sends bits w = flow (all_sender_steps w.from w.from_calls) (at_first bits)

abbrev pub receives : ℕ → ℕ → Way → World
receives bits reorder w =
    run_um_receiver (all_receiver_calls w.to w.to_calls) (fresh (width_of bits) reorder)

pub record IsFlow (bits reorder : ℕ) (w : Way) : Type 0 where
  pub sent : AreSent (sends bits w).made (width_of bits) (all_receiver_calls w.to w.to_calls)
      (fresh (width_of bits) reorder)
  pub sender_is : (sends bits w).sender ≡ w.from_end.bearer.tx
  pub given_is : (sends bits w).offered ≡ given w
  pub receiver_is : (receives bits reorder w).state ≡ w.to_end.bearer.rx
  pub heard_is : (receives bits reorder w).gone ≡ heard w

-- a PDU under way lies at or above VR(UH) less a window
abbrev pub IsRecent : Receiver → Copy → Type 0
IsRecent r c = top_of r.window ≤ 2 * r.window.width + c.number + r.window.width

pub record AreRecent (bits reorder : ℕ) (w : Way) : Type 0 where
  pub recent : AllByRecursion (IsRecent w.to_end.bearer.rx) w.from_end.copies

-- ---- what is handed up

-- also with what RLC can put together as the life ends
pub record IsDelivered (bits reorder : ℕ) (w : Way) : Type 0 where
  pub some : IsSubsequence (heard w) (given w)
  pub at_end : IsSubsequence (heard w ++ all_joined w.to_end.bearer.rx) (given w)

-- the places, among those that PDCP gave, of the PDUs that came whole: in numbers below VR(UR), and
-- as the life ends in any
abbrev pub places : ℕ → ℕ → Way → List ℕ
places bits reorder w = places_up (width_of bits) (receives bits reorder w) (sends bits w).made

abbrev pub last_places : ℕ → ℕ → Way → List ℕ
last_places bits reorder w =
    places_below (width_of bits) (receives bits reorder w) (receives bits reorder w).top
    (sends bits w).made

pub record IsWhatCameInLife (bits reorder : ℕ) (w : Way) : Type 0 where
  pub order : AreBetween 0 (places bits reorder w) (length (given w))
  pub heard_is : heard w ≡ those (places bits reorder w) (given w)
  pub last_order : AreBetween 0 (last_places bits reorder w) (length (given w))
  pub last_is : heard w ++ all_joined w.to_end.bearer.rx
      ≡ those (last_places bits reorder w) (given w)

-- the place behind the last of some
abbrev pub behind : ℕ → List ℕ → ℕ
behind low [] = low
behind low (place ∷ places) = behind (place + 1) places

-- what came whole so far stays so, and all that is handed up later stands at later places
pub record Follow (so_far later : List ℕ) (old new pdus : List (List ℕ)) : Type 0 where
  pub rest : List ℕ
  pub later_is : later ≡ so_far ++ rest
  pub order : AreBetween (behind 0 so_far) rest (length pdus)
  pub new_is : new ≡ old ++ those rest pdus

pub record GoesOn (bits reorder : ℕ) (w later : Way) : Type 0 where
  pub up : Follow (places bits reorder w) (places bits reorder later) (heard w) (heard later)
      (given later)
  pub last : Follow (places bits reorder w) (last_places bits reorder later) (heard w)
      (heard later ++ all_joined later.to_end.bearer.rx) (given later)

-- ---- the laws, of both ends in a life, in each direction in which losses are short

abbrev pub InEachDirection : (ℕ → ℕ → Way → Type 0) → Type 0
InEachDirection Holds = (bits reorder_near reorder_far : ℕ) (near far : State) (steps : List Step)
    → IsUmBits bits
    → BeginsLife bits reorder_near near → BeginsLife bits reorder_far far
    → AreGiven (um_pair_outset near far) steps
    → (AreShortThere (um_pair_outset near far) steps
    → Holds bits reorder_far (there near far steps))
    × (AreShortBack (um_pair_outset near far) steps → Holds bits reorder_near (back near far steps))

abbrev pub BearersAreFlows : Type 0
BearersAreFlows = InEachDirection IsFlow

abbrev pub NoneLiesBelow : Type 0
NoneLiesBelow = InEachDirection AreRecent

abbrev pub DeliversInOrder : Type 0
DeliversInOrder = InEachDirection IsDelivered

abbrev pub HandsUpWhatCame : Type 0
HandsUpWhatCame = InEachDirection IsWhatCameInLife

abbrev pub MoreComesLater : Type 0
MoreComesLater = (bits reorder_near reorder_far : ℕ) (near far : State) (steps more : List Step)
    → IsUmBits bits
    → BeginsLife bits reorder_near near → BeginsLife bits reorder_far far
    → AreGiven (um_pair_outset near far) (steps ++ more)
    → (AreShortThere (um_pair_outset near far) (steps ++ more)
    → GoesOn bits reorder_far (there near far steps) (there near far (steps ++ more)))
    × (AreShortBack (um_pair_outset near far) (steps ++ more)
    → GoesOn bits reorder_near (back near far steps) (back near far (steps ++ more)))
