-- Which SDUs go up (TS 36.322 5.1.2.2.3): those all of whose elements came, told by their places
-- among the SDUs that were offered.
use Rattle.std.specs.Prelude.{◌≡◌, ℕ, zero, suc, ◌+◌, ◌-◌, ◌*◌, Bool, true, false, not, ◌||◌, ◌&&◌}
use Rattle.std.specs.Prelude.{if◌then◌else◌, List, [], ◌∷◌, ◌++◌, length}
use Rattle.std.specs.Prelude.{nat_lt}
use Rattle.l2_num.specs.Ascending.{AreBetween}
use Rattle.rlc_pdu.specs.Pdus.{UmdPdu, IsUmBits}
use Rattle.rlc_um.specs.Joined.{Parts, parts_of}
use Rattle.rlc_um.specs.Receiver.{all_joined}
use Rattle.rlc_um.specs.Sender.{width_of}
use Rattle.law_words.specs.Lists.{those}
use Rattle.law_rlc.specs.UmPair.Run.{Call, Accepted, World, run_um_receiver, fresh, is_accepted}
use Rattle.law_rlc.specs.UmPair.Send.{Step, Flow, flow, at_first}
use Rattle.law_rlc.specs.UmPair.Air.{AreSent}

-- how many SDUs have ended, whether one that began goes on, whether all of that came, and the
-- places of those that came whole
pub record Row : Type 0 where
  pub ended : ℕ
  pub going : Bool
  pub whole : Bool
  pub places : List ℕ

abbrev pub nothing_sent : Row
nothing_sent = record { ended = 0; going = false; whole = false; places = [] }

-- an element that came or didn't
abbrev pub with_element : Bool → Bool → Bool → Row → Row
with_element came begins ends r = record {
  ended = if ends && (begins || r.going) then r.ended + 1 else r.ended;
  going = (begins || r.going) && not ends;
  whole = (came && (begins || r.whole)) && not ends;
  places = if (came && (begins || r.whole)) && ends then r.places ++ r.ended ∷ [] else r.places;
}

-- those of a PDU: all but the first begin an SDU, all but the last end one
abbrev pub with_elements : Bool → Bool → Bool → List (List ℕ) → Row → Row
with_elements came begins ends [] r = r
with_elements came begins ends (x ∷ xs) r =
    with_elements came true ends xs (with_element came begins (ends || nat_lt 0 (length xs)) r)

-- what goes on isn't whole where a PDU didn't come
abbrev pub with_parts : Bool → Parts → Row → Row
with_parts came p r =
    with_elements came p.begins p.ends p.elements (record r { whole = came && r.whole })

-- so many PDUs, with the numbers from one on
abbrev pub with_pdus : List Accepted → ℕ → ℕ → List UmdPdu → Row → Row
with_pdus log from zero pdus r = r
with_pdus log from (suc n) [] r = r
with_pdus log from (suc n) (pdu ∷ pdus) r =
    with_pdus log (from + 1) n pdus (with_parts (is_accepted log from) (parts_of pdu) r)

-- the places of the SDUs that came whole in the numbers below one
abbrev pub places_below : ℕ → World → ℕ → List UmdPdu → List ℕ
places_below width w edge made =
    (with_pdus w.accepted (2 * width) (edge - 2 * width) made nothing_sent).places

-- below VR(UR)
abbrev pub places_up : ℕ → World → List UmdPdu → List ℕ
places_up width w made = places_below width w w.state.window.edge made

-- what went up and may go up are the SDUs that came whole in the numbers below VR(UR), and as the
-- receiver ends those in any numbers
pub record IsWhatCameToRlc (width : ℕ) (f : Flow) (w : World) : Type 0 where
  pub order : AreBetween 0 (places_up width w f.made) (length f.offered)
  pub up : w.gone ++ w.state.joined.ready ≡ those (places_up width w f.made) f.offered
  pub last_order : AreBetween 0 (places_below width w w.top f.made) (length f.offered)
  pub last : w.gone ++ all_joined w.state ≡ those (places_below width w w.top f.made) f.offered

abbrev pub HandsUpWhatCame : Type 0
HandsUpWhatCame = (bits reorder : ℕ) (steps : List Step) (calls : List Call) → IsUmBits bits
    → AreSent (flow steps (at_first bits)).made (width_of bits) calls
    (fresh (width_of bits) reorder)
    → IsWhatCameToRlc (width_of bits) (flow steps (at_first bits))
    (run_um_receiver calls (fresh (width_of bits) reorder))

-- later only more go up
pub record HasMore (xs ys : List ℕ) : Type 0 where
  pub rest : List ℕ
  pub is : ys ≡ xs ++ rest

pub record GoesOn (width : ℕ) (f g : Flow) (w v : World) : Type 0 where
  pub up : HasMore (places_up width w f.made) (places_up width v g.made)
  pub last : HasMore (places_up width w f.made) (places_below width v v.top g.made)

abbrev pub MoreGoUpLater : Type 0
MoreGoUpLater = (bits reorder : ℕ) (steps more : List Step) (calls later : List Call)
    → IsUmBits bits
    → GoesOn (width_of bits) (flow steps (at_first bits)) (flow (steps ++ more) (at_first bits))
    (run_um_receiver calls (fresh (width_of bits) reorder))
    (run_um_receiver (calls ++ later) (fresh (width_of bits) reorder))
