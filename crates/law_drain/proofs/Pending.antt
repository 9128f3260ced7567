-- What a round leaves pending at an acknowledged receiver.
use Rattle.std.proofs.Common.{◌≡◌, ◌≤◌, inl, inr, ◌⊎◌, ℕ, ◌+◌, ◌-◌, max, Bool, true, false, if◌then◌else◌, List, []}
use Rattle.std.proofs.Common.{◌∷◌, length, Option, Some, None, is_some, refl, ap, sym, subst, ◌∙◌, arith, nat_lt}
use Rattle.std.proofs.lemmas.List.{drop_all}
use Rattle.std.specs.List.{AllByRecursion}
use Rattle.std.proofs.lemmas.Bool.Decides.{nat_tests}
use Rattle.rlc_pdu.specs.declared.Landed.{Landed}
use Rattle.rlc_pdu.specs.declared.Landed.TheVariants.{Kept, Repeat, Outside, Clash}
use Rattle.rlc_pdu.specs.Pdus.{AmdPdu}
use Rattle.rlc_am_rx_window.specs.Held.{Held}
use Rattle.rlc_am_rx_window.specs.Window.{RxWindow, top, complete_first, first_incomplete, advanced}
use Rattle.rlc_am_rx.specs.State.{State}
use Rattle.rlc_am_rx.specs.Machine.{landed, arrived, after_landing, window_with, bound_moved, after_reorder}
use Rattle.rlc_am_rx.specs.Machine.{after_prohibit}
use Rattle.law_rlc.specs.AmReceiver.Run.{Call, Arrive, Up, Write, ExpireReorder, ExpireProhibit, TickReorder}
use Rattle.law_rlc.specs.AmReceiver.Run.{TickProhibit}
use Rattle.law_rlc.specs.AmReceiver.Run.{state_after}
use Rattle.law_drain.specs.Pending.{pending, IsOfTti, data_in, writes_status, after_calls, expired, round, IsAtTop}
use Rattle.law_drain.specs.Pending.{RoundsSettle}

-- ---- the timers expire

-- all numbers below VR(H) lie below VR(MS) then
bound-top : (w : RxWindow) → bound_moved w (top w) ≡ top w
bound-top w =
    let size : top w - w.front ≡ length w.slots = omega arith in
    ap (λ (n : ℕ). w.front + first_incomplete w.slots n) size
    ∙ ap (λ (hs : List Held). w.front + (length w.slots + complete_first hs))
    (drop_all (length w.slots) w.slots (omega arith))
    ∙ omega arith

itself : (n : ℕ) → nat_lt n n ≡ false
itself n = grind (arith, nat_tests)

pending-most : (s : State) → pending s ≤ 2
pending-most s = by (is_some s.mark) s.due
  where
    by : (a b : Bool) → (if a then 2 else if b then 1 else 0) ≤ 2
    by true b = omega arith
    by false true = omega arith
    by false false = omega arith

pending-idle : (s : State) → s.mark ≡ None → pending s ≤ 1
pending-idle s e = rw e (by s.due)
  where
    by : (b : Bool) → (if b then 1 else 0) ≤ 1
    by true = omega arith
    by false = omega arith

pub expired-top : (s : State) → IsAtTop (expired s)
expired-top s = by s.mark refl
  where
    marked : (b : Bool) → ((if b then Some (top s.window) else None) ≡ None)
        ⊎ ((if b then Some (top s.window) else None) ≡ Some (top s.window))
    marked true = inr refl
    marked false = inl refl

    by : (o : Option ℕ) → s.mark ≡ o → IsAtTop (after_prohibit (after_reorder o s))
    by None e = inl e
    by (Some x) e = marked (nat_lt (bound_moved s.window x) (top s.window))

expired-stops : (s : State) → IsAtTop s → pending (expired s) ≤ 1
expired-stops s (inl e) =
    subst (λ (o : Option ℕ). pending (after_prohibit (after_reorder o s)) ≤ 1) (sym e) (pending-idle s e)
expired-stops s (inr e) =
    subst (λ (o : Option ℕ). pending (after_prohibit (after_reorder o s)) ≤ 1) (sym e)
    (rw (bound-top s.window, itself (top s.window)) (omega arith))

-- ---- the calls of a TTI

-- one that brings no data
quiet-mark : (s : State) (cs : List Call) → AllByRecursion IsOfTti cs → data_in cs ≡ 0
    → ((after_calls s cs).mark ≡ s.mark) × ((after_calls s cs).window ≡ s.window)
quiet-mark s [] h e = (refl, refl)
quiet-mark s (Arrive pdu ∷ cs) h e = absurd (omega (arith, e))
quiet-mark s (Up ∷ cs) h e = quiet-mark (state_after s Up) cs h.1 e
quiet-mark s (Write ∷ cs) h e = quiet-mark (state_after s Write) cs h.1 e
quiet-mark s (ExpireReorder ∷ cs) h e = absurd h.0
quiet-mark s (ExpireProhibit ∷ cs) h e = absurd h.0
quiet-mark s (TickReorder ∷ cs) h e = absurd h.0
quiet-mark s (TickProhibit ∷ cs) h e = absurd h.0

pub quiet-due : (s : State) (cs : List Call) → AllByRecursion IsOfTti cs → data_in cs ≡ 0 → s.due ≡ false
    → (after_calls s cs).due ≡ false
quiet-due s [] h e n = n
quiet-due s (Arrive pdu ∷ cs) h e n = absurd (omega (arith, e))
quiet-due s (Up ∷ cs) h e n = quiet-due (state_after s Up) cs h.1 e n
quiet-due s (Write ∷ cs) h e n = quiet-due (state_after s Write) cs h.1 e refl
quiet-due s (ExpireReorder ∷ cs) h e n = absurd h.0
quiet-due s (ExpireProhibit ∷ cs) h e n = absurd h.0
quiet-due s (TickReorder ∷ cs) h e n = absurd h.0
quiet-due s (TickProhibit ∷ cs) h e n = absurd h.0

written-due : (s : State) (cs : List Call) → AllByRecursion IsOfTti cs → data_in cs ≡ 0 → writes_status cs ≡ true
    → (after_calls s cs).due ≡ false
written-due s [] h e w = let no' : false ≡ true = w in cc
written-due s (Arrive pdu ∷ cs) h e w = absurd (omega (arith, e))
written-due s (Up ∷ cs) h e w = written-due (state_after s Up) cs h.1 e w
written-due s (Write ∷ cs) h e w = quiet-due (state_after s Write) cs h.1 e refl
written-due s (ExpireReorder ∷ cs) h e w = absurd h.0
written-due s (ExpireProhibit ∷ cs) h e w = absurd h.0
written-due s (TickReorder ∷ cs) h e w = absurd h.0
written-due s (TickProhibit ∷ cs) h e w = absurd h.0

-- a data PDU lets the timer start at VR(H) alone
landed-top : (l : Landed) (s : State) (p : AmdPdu) → s.mark ≡ None → IsAtTop (after_landing l s p)
landed-top Kept s p e = rw e (by (nat_lt w.front (top w)))
  where
    w : RxWindow
    w = advanced (window_with s.window p)

    by : (b : Bool) → ((if b then Some (top w) else None) ≡ None) ⊎ ((if b then Some (top w) else None) ≡ Some (top w))
    by true = inr refl
    by false = inl refl
landed-top Repeat s p e = inl e
landed-top Outside s p e = inl e
landed-top Clash s p e = inl e

same-top : (s t : State) → (t.mark ≡ s.mark) × (t.window ≡ s.window) → IsAtTop s → IsAtTop t
same-top s t same (inl e) = inl (same.0 ∙ e)
same-top s t same (inr e) = inr (same.0 ∙ e ∙ ap (λ (w : RxWindow). Some (top w)) (sym same.1))

called-top : (s : State) (cs : List Call) → AllByRecursion IsOfTti cs → data_in cs ≤ 1 → s.mark ≡ None
    → IsAtTop (after_calls s cs)
called-top s [] h few e = inl e
called-top s (Arrive pdu ∷ cs) h few e =
    same-top (arrived s pdu) (after_calls (arrived s pdu) cs) (quiet-mark (arrived s pdu) cs h.1 (omega (arith, few)))
    (landed-top (landed s pdu) s pdu e)
called-top s (Up ∷ cs) h few e = called-top (state_after s Up) cs h.1 few e
called-top s (Write ∷ cs) h few e = called-top (state_after s Write) cs h.1 few e
called-top s (ExpireReorder ∷ cs) h few e = absurd h.0
called-top s (ExpireProhibit ∷ cs) h few e = absurd h.0
called-top s (TickReorder ∷ cs) h few e = absurd h.0
called-top s (TickProhibit ∷ cs) h few e = absurd h.0

-- ---- a round

round-rises : (s : State) (cs : List Call) → AllByRecursion IsOfTti cs → data_in cs ≤ 1
    → pending (round s cs) ≤ max (pending s) 1
round-rises s cs h few = by s.mark refl
  where
    by : (o : Option ℕ) → s.mark ≡ o → pending (round s cs) ≤ max (pending s) 1
    by None e = omega (arith, expired-stops (after_calls s cs) (called-top s cs h few e))
    by (Some x) e =
        let two : pending s ≡ 2 = rw e refl in
        omega (arith, two, pending-most (round s cs))

round-told : (s : State) (cs : List Call) → AllByRecursion IsOfTti cs → data_in cs ≡ 0 → writes_status cs ≡ true
    → s.mark ≡ None → pending (round s cs) ≡ 0
round-told s cs h none w e =
    let idle : (after_calls s cs).mark ≡ None = (quiet-mark s cs h none).0 ∙ e in
    rw idle (rw (idle, written-due s cs h none w) refl)

round-calm : (s : State) (cs : List Call) → AllByRecursion IsOfTti cs → data_in cs ≡ 0
    → pending (round s cs) ≤ pending s
round-calm s cs h none = by s.mark s.due refl refl
  where
    by : (o : Option ℕ) (d : Bool) → s.mark ≡ o → s.due ≡ d → pending (round s cs) ≤ pending s
    by (Some x) d e q = let two : pending s ≡ 2 = rw e refl in omega (arith, two, pending-most (round s cs))
    by None true e q =
        let one : pending s ≡ 1 = rw (e, q) refl in
        let idle : (after_calls s cs).mark ≡ None = (quiet-mark s cs h none).0 ∙ e in
        omega (arith, one, expired-stops (after_calls s cs) (inl idle))
    by None false e q =
        let idle : (after_calls s cs).mark ≡ None = (quiet-mark s cs h none).0 ∙ e in
        let zero' : pending (round s cs) ≡ 0 = rw idle (rw (idle, quiet-due s cs h none q) refl) in
        omega (arith, zero')

pub rounds_settle : RoundsSettle
rounds_settle s cs h few = record {
  rises = round-rises s cs h few;
  at_top = expired-top (after_calls s cs);
  calm = round-calm s cs h;
  stops = λ none top'. expired-stops (after_calls s cs) (same-top s (after_calls s cs) (quiet-mark s cs h none) top');
  told = λ none w e. round-told s cs h none w e;
}
