-- The reordering timer runs exactly where it has a mark.
use Rattle.std.proofs.Common.{◌≡◌, ℕ, Bool, true, false, ◌&&◌, List, [], ◌∷◌, Option, Some, None, is_some, is_none}
use Rattle.std.proofs.Common.{refl, ◌∙◌, nat_le, nat_lt, if◌then◌else◌}
use Rattle.l2_num.specs.Timers.{Clock, runs, counted}
use Rattle.l2_types.specs.declared.AmRxConfig.{AmRxConfig}
use Rattle.rlc_pdu.specs.declared.Landed.{Landed}
use Rattle.rlc_pdu.specs.declared.Landed.TheVariants.{Kept, Repeat, Outside, Clash}
use Rattle.rlc_pdu.specs.Pdus.{AmdPdu}
use Rattle.rlc_am_rx_window.specs.Window.{top, advanced}
use Rattle.rlc_am_rx.specs.State.{State}
use Rattle.rlc_am_rx.specs.Machine.{landed, after_landing, after_reorder, window_with, bound_moved, stops, mark_left}
use Rattle.rlc_am_rx.specs.Machine.{starts, mark_begun, clock_left, clock_begun}
use Rattle.law_rlc.specs.AmReceiver.Run.{Call, Arrive, Up, Write, ExpireReorder, ExpireProhibit, TickReorder}
use Rattle.law_rlc.specs.AmReceiver.Run.{TickProhibit, World, state_after, happens, run_am_receiver, begin}

abbrev pub Runs : State → Type 0
Runs s = runs s.reorder ≡ is_some s.mark

turned : (m : Option ℕ) (front high : ℕ) (c : Clock) → runs c ≡ is_some m
    → runs (clock_begun (starts (mark_left m front) front high) (clock_left (stops m front) c))
    ≡ is_some (mark_begun (mark_left m front) front high)
turned None front high c h = go (nat_lt front high)
  where
    go : (b : Bool) → runs (clock_begun b c) ≡ is_some (if b then Some high else None)
    go true = refl
    go false = h
turned (Some x) front high c h = go (nat_le x front) (nat_lt front high)
  where
    go : (a b : Bool) → runs (clock_begun (is_none (if a then None else Some x) && b) (clock_left a c))
        ≡ is_some (if is_none (if a then None else Some x) && b then Some high else (if a then None else Some x))
    go true true = refl
    go true false = refl
    go false b = h

landing-runs : (l : Landed) (s : State) (p : AmdPdu) → Runs s → Runs (after_landing l s p)
landing-runs Kept s p h =
    turned s.mark (advanced (window_with s.window p)).front (top (advanced (window_with s.window p))) s.reorder h
landing-runs Repeat s p h = h
landing-runs Outside s p h = h
landing-runs Clash s p h = h

expiry-runs : (m : Option ℕ) (s : State) → Runs s → Runs (after_reorder m s)
expiry-runs None s h = h
expiry-runs (Some x) s h = go (nat_lt (bound_moved s.window x) (top s.window))
  where
    go : (b : Bool) → runs (clock_begun b (record s.reorder { left = None }))
        ≡ is_some (if b then Some (top s.window) else None)
    go true = refl
    go false = refl

counted-runs : (left : Option ℕ) → is_some (counted left) ≡ is_some left
counted-runs None = refl
counted-runs (Some n) = refl

call-runs : (s : State) (c : Call) → Runs s → Runs (state_after s c)
call-runs s (Arrive p) h = landing-runs (landed s p) s p h
call-runs s Up h = h
call-runs s Write h = h
call-runs s ExpireReorder h = expiry-runs s.mark s h
call-runs s ExpireProhibit h = h
call-runs s TickReorder h = counted-runs s.reorder.left ∙ h
call-runs s TickProhibit h = h

run-runs : (calls : List Call) (w : World) → Runs w.state → Runs (run_am_receiver calls w).state
run-runs [] w h = h
run-runs (c ∷ cs) w h = run-runs cs (happens w c) (call-runs w.state c h)

pub runs_with_mark : (config : AmRxConfig) (calls : List Call)
    → runs (run_am_receiver calls (begin config)).state.reorder
    ≡ is_some (run_am_receiver calls (begin config)).state.mark
runs_with_mark config calls = run-runs calls (begin config) refl
