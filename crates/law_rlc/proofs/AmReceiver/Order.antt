-- VR(R) ≤ VR(MS) ≤ VR(H) along every run.
use Rattle.std.proofs.Common.{◌≡◌, ◌≤◌, ℕ, suc, zero, ◌+◌, ◌-◌, Bool, List, [], ◌∷◌, length, drop, replicate, Option}
use Rattle.std.proofs.Common.{Some, None, refl, arith, length-append, length-drop}
use Rattle.std.proofs.Math.ListN.{length-set}
use Rattle.std.proofs.lemmas.Grind.{common_steps}
use Rattle.l2_types.specs.declared.AmRxConfig.{AmRxConfig}
use Rattle.rlc_pdu.specs.declared.Landed.{Landed}
use Rattle.rlc_pdu.specs.declared.Landed.TheVariants.{Kept, Repeat, Outside, Clash}
use Rattle.rlc_pdu.specs.Pdus.{AmdPdu}
use Rattle.rlc_am_rx_window.specs.Piece.{Piece, piece_of}
use Rattle.rlc_am_rx_window.specs.Held.{Held, nothing, with_piece}
use Rattle.rlc_am_rx_window.specs.Window.{RxWindow, top, offset_of, complete_first, first_incomplete, widened}
use Rattle.rlc_am_rx_window.specs.Window.{with_kept}
use Rattle.rlc_am_rx_window.specs.Window.{advanced, slot_at}
use Rattle.rlc_am_rx.specs.State.{State}
use Rattle.rlc_am_rx.specs.Machine.{landed, after_landing, after_reorder, settled, window_with, mark_left, mark_begun}
use Rattle.law_rlc.specs.AmReceiver.Run.{Call, Arrive, Up, Write, ExpireReorder, ExpireProhibit, TickReorder}
use Rattle.law_rlc.specs.AmReceiver.Run.{TickProhibit, World, state_after, happens, run_am_receiver, begin, IsOrdered}

-- a mark is a number that VR(H) has been
abbrev pub MarkBelow : Option ℕ → ℕ → Type 0
MarkBelow None top = Unit {0}
MarkBelow (Some x) top = x ≤ top

pub record InOrder (s : State) : Type 0 where
  pub front : s.window.front ≤ s.bound
  pub bound : s.bound ≤ top s.window
  pub mark : MarkBelow s.mark (top s.window)

pub first-length : (slots : List Held) → complete_first slots ≤ length slots
first-length [] = omega arith
first-length (h ∷ hs) = grind (arith, first-length hs)

-- those that stand first go no further than what is first from a place on
pub first-least : (slots : List Held) (k : ℕ) → complete_first slots ≤ first_incomplete slots k
first-least [] k = omega arith
first-least (h ∷ hs) zero = grind arith
first-least (h ∷ hs) (suc k) = grind (arith, first-least hs k)

pub incomplete-length : (slots : List Held) (k : ℕ) → k ≤ length slots → first_incomplete slots k ≤ length slots
incomplete-length slots k h = omega (arith, first-length (drop k slots), length-drop k slots)

pub top-advanced : (w : RxWindow) → top (advanced w) ≡ top w
top-advanced w = omega (arith, first-length w.slots, length-drop (complete_first w.slots) w.slots)

mark-turned : (m : Option ℕ) (front top : ℕ) → MarkBelow m top
    → MarkBelow (mark_begun (mark_left m front) front top) top
mark-turned None front top h = grind (arith, common_steps)
mark-turned (Some x) front top h = grind (arith, common_steps)

settled-order : (s : State) (w : RxWindow) (at : ℕ) (poll : Bool) → w.front ≡ s.window.front
    → length s.window.slots ≤ length w.slots → InOrder s → InOrder (settled s w at poll)
settled-order s w at poll same more h = record {
  front = omega (arith, first-least w.slots (s.bound - w.front));
  bound =
      let within : s.bound - w.front ≤ length w.slots = omega (arith, h.bound, same, more) in
      omega (arith, incomplete-length w.slots (s.bound - w.front) within, top-advanced w);
  mark =
      let top_is : top (advanced w) ≡ top w = top-advanced w in
      mark-turned s.mark (advanced w).front (top (advanced w))
      (higher s.mark (top s.window) (top (advanced w)) (omega (arith, top_is, same, more)) h.mark);
}
  where
    higher : (m : Option ℕ) (a b : ℕ) → a ≤ b → MarkBelow m a → MarkBelow m b
    higher None a b le h = tt
    higher (Some x) a b le h = omega (arith, le, h)

pub kept-length : (w : RxWindow) (at : ℕ) (p : Piece) (poll : Bool)
    → length w.slots ≤ length (with_kept w at p poll).slots
kept-length w at p poll =
    omega (
      arith,
      length-set (widened w.slots (at + 1)) at (with_piece (slot_at (widened w.slots (at + 1)) at) p poll),
      length-append w.slots (replicate (at + 1 - length w.slots) nothing),
    )

landing-order : (l : Landed) (s : State) (p : AmdPdu) → InOrder s → InOrder (after_landing l s p)
landing-order Kept s p h =
    settled-order s (window_with s.window p) (offset_of s.window.front p.sn) p.poll refl
    (kept-length s.window (offset_of s.window.front p.sn) (piece_of p) p.poll) h
landing-order Repeat s p h = record { front = h.front; bound = h.bound; mark = h.mark }
landing-order Outside s p h = record { front = h.front; bound = h.bound; mark = h.mark }
landing-order Clash s p h = h

expiry-order : (m : Option ℕ) (s : State) → MarkBelow m (top s.window) → InOrder s → InOrder (after_reorder m s)
expiry-order None s below h = h
expiry-order (Some x) s below h = record {
  front = omega arith;
  bound =
      let within : x - s.window.front ≤ length s.window.slots = omega (arith, below) in
      omega (arith, incomplete-length s.window.slots (x - s.window.front) within);
  mark = grind (arith, common_steps);
}

pub call-order : (s : State) (c : Call) → InOrder s → InOrder (state_after s c)
call-order s (Arrive p) h = landing-order (landed s p) s p h
call-order s Up h = record { front = h.front; bound = h.bound; mark = h.mark }
call-order s Write h = record { front = h.front; bound = h.bound; mark = h.mark }
call-order s ExpireReorder h = expiry-order s.mark s h.mark h
call-order s ExpireProhibit h = record { front = h.front; bound = h.bound; mark = h.mark }
call-order s TickReorder h = record { front = h.front; bound = h.bound; mark = h.mark }
call-order s TickProhibit h = record { front = h.front; bound = h.bound; mark = h.mark }

run-order : (calls : List Call) (w : World) → InOrder w.state → InOrder (run_am_receiver calls w).state
run-order [] w h = h
run-order (c ∷ cs) w h = run-order cs (happens w c) (call-order w.state c h)

pub fresh-order : (config : AmRxConfig) → InOrder (begin config).state
fresh-order config = record { front = omega arith; bound = omega arith; mark = tt }

pub ordered : (config : AmRxConfig) (calls : List Call) → IsOrdered (run_am_receiver calls (begin config))
ordered config calls = let h : InOrder (run_am_receiver calls (begin config)).state =
    run-order calls (begin config) (fresh-order config) in record { front = h.front; bound = h.bound }
