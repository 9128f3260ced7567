-- Both ends, over an air that loses, repeats and turns about a sender's PDUs, but keeps each near
-- the top (TS 36.322 5.1.2).
use Rattle.std.specs.Prelude.{◌≡◌, ℕ, ◌+◌, ◌*◌, ◌<◌, ◌≤◌, List, [], ◌∷◌, ◌++◌, Some, None}
use Rattle.std.specs.Prelude.{slice_get, slice_index_or}
use Rattle.rlc_pdu.specs.Pdus.{UmdPdu, IsUmBits}
use Rattle.rlc_um.specs.Joined.{Parts}
use Rattle.rlc_um.specs.Receiver.{all_joined}
use Rattle.rlc_um.specs.Sender.{width_of}
use Rattle.law_rlc.specs.UmPair.Run.{Call, Arrive, Expire, Tick, Up, World, happens, found}
use Rattle.law_rlc.specs.UmPair.Run.{read_number, run_um_receiver, fresh}
use Rattle.law_rlc.specs.UmPair.Send.{Step, Flow, flow, at_first, carried}
use Rattle.law_rlc.specs.UmPair.Loss.{IsSome}

-- what arrives is the PDU of a number that was made, and this number lies in the window around the
-- top
pub record IsSent (made : List UmdPdu) (width : ℕ) (w : World) (pdu : UmdPdu) : Type 0 where
  pub number : ℕ
  pub is : slice_get made number ≡ Some pdu
  pub low : w.top ≤ 2 * width + number + width
  pub below : 2 * width + number < w.top + width

-- and so is all that arrives
abbrev pub AreSent : List UmdPdu → ℕ → List Call → World → Type 0
AreSent made width [] w = Unit {0}
AreSent made width (Arrive pdu ∷ cs) w = IsSent made width w pdu
    × AreSent made width cs (happens w (Arrive pdu))
AreSent made width (Expire ∷ cs) w = AreSent made width cs (happens w Expire)
AreSent made width (Tick ∷ cs) w = AreSent made width cs (happens w Tick)
AreSent made width (Up ∷ cs) w = AreSent made width cs (happens w Up)

-- what went up and may go up are some of the SDUs offered, in order, each once and unchanged, and
-- so are they with what the receiver hands over as it ends; what is accepted under a number is what
-- the PDU of that number carries
pub record IsDelivered (width : ℕ) (f : Flow) (w : World) : Type 0 where
  pub sdus : IsSome (w.gone ++ w.state.joined.ready) f.offered
  pub at_end : IsSome (w.gone ++ all_joined w.state) f.offered
  pub accepted : (number : ℕ) (p : Parts) → found w.accepted (2 * width + number) ≡ Some p
      → slice_index_or (carried f.made) number None ≡ Some p

-- a PDU that arrives as the PDU of a number is read as that number
abbrev pub IsReadTruly : List UmdPdu → ℕ → World → UmdPdu → Type 0
IsReadTruly made width w pdu = (s : IsSent made width w pdu)
    → read_number pdu w ≡ 2 * width + s.number

-- whatever is offered and taken, and whatever arrives of it
abbrev pub GoUpInOrder : Type 0
GoUpInOrder = (bits reorder : ℕ) (steps : List Step) (calls : List Call) → IsUmBits bits
    → AreSent (flow steps (at_first bits)).made (width_of bits) calls
    (fresh (width_of bits) reorder)
    → IsDelivered (width_of bits) (flow steps (at_first bits))
    (run_um_receiver calls (fresh (width_of bits) reorder))

abbrev pub ReadsTrueNumbers : Type 0
ReadsTrueNumbers = (bits reorder : ℕ) (steps : List Step) (calls : List Call) → IsUmBits bits
    → AreSent (flow steps (at_first bits)).made (width_of bits) calls
    (fresh (width_of bits) reorder) → (pdu : UmdPdu)
    → IsReadTruly (flow steps (at_first bits)).made (width_of bits)
    (run_um_receiver calls (fresh (width_of bits) reorder)) pdu
