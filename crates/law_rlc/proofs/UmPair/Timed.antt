-- The reordering timer runs exactly while a number is missing.
use Rattle.std.proofs.Common.{◌≡◌, ◌<◌, ◌≤◌, ℕ, ◌+◌, ◌*◌, ◌-◌, Bool, true, false, ◌&&◌, if◌then◌else◌, List, [], ◌∷◌}
use Rattle.std.proofs.Common.{Option, Some, None, is_some, is_none, refl, ap, sym, subst, ◌∙◌, arith, nat_lt, nat_le}
use Rattle.std.proofs.lemmas.Bool.Decides.{nat_tests}
use Rattle.l2_num.specs.Timers.{Clock, runs, begun, ceased, counted}
use Rattle.rlc_pdu.specs.Pdus.{UmdPdu}
use Rattle.rlc_pdu.specs.declared.outcome.Landed.{Landed}
use Rattle.rlc_pdu.specs.declared.outcome.Landed.TheVariants.{Kept, Repeat, Outside, Clash}
use Rattle.rlc_um.specs.Joined.{Parts, parts_of}
use Rattle.rlc_um.specs.Window.{top_of}
use Rattle.rlc_um.specs.Receiver.{State, landed, kept, mark_begun, clock_turned, timed, at_mark, after_landing}
use Rattle.rlc_um.specs.Receiver.{after_expiry}
use Rattle.law_rlc.specs.UmPair.Run.{Call, Arrive, Expire, Tick, Up, World, fresh, happens, run_um_receiver}
use Rattle.law_rlc.specs.UmPair.Run.{read_number, IsTimed}
use Rattle.law_rlc.proofs.UmPair.Edge.{or_zero, Keeps, came, comes-is, ends-is, happens-keeps, at-start}

record Runs (c : Clock) (mark : Option ℕ) (edge top : ℕ) : Type 0 where
  runs_with_mark : runs c ≡ is_some mark
  runs_at_gap : is_some mark ≡ nat_lt edge top
  above : (x : ℕ) → mark ≡ Some x → edge < x
  within : (x : ℕ) → mark ≡ Some x → x ≤ top

-- where it doesn't run, or has stopped
none-runs : (c : Clock) (edge top : ℕ) (b stopped : Bool) → nat_lt edge top ≡ b
    → runs (if stopped then ceased c else c) ≡ false
    → Runs (if b then begun c else if stopped then ceased c else c) (if b then Some top else None) edge top
none-runs c edge top true stopped e r = record {
  runs_with_mark = refl;
  runs_at_gap = sym e;
  above = λ x f. let g : top ≡ x = ap or_zero f in grind (arith, nat_tests, e);
  within = λ x f. let g : top ≡ x = ap or_zero f in omega arith;
}
none-runs c edge top false stopped e r =
    record { runs_with_mark = r; runs_at_gap = sym e; above = λ x f. absurd cc; within = λ x f. absurd cc }

-- where it runs
some-runs : (c : Clock) (x edge top : ℕ) (le : Bool) → nat_le x edge ≡ le → runs c ≡ true → x ≤ top
    → Runs
    (clock_turned (record {
      stopped = true && is_none (if le then None else Some x);
      started = is_none (if le then None else Some x) && nat_lt edge top;
    }) c)
    (mark_begun (if le then None else Some x) edge top) edge top
some-runs c x edge top true e r h = none-runs c edge top (nat_lt edge top) true refl refl
some-runs c x edge top false e r h =
    let more : edge < x = grind (arith, nat_tests, e) in
    record {
      runs_with_mark = r;
      runs_at_gap = grind (arith, nat_tests);
      above = λ y f. let g : x ≡ y = ap or_zero f in omega arith;
      within = λ y f. let g : x ≡ y = ap or_zero f in omega arith;
    }

abbrev RunsIn : State → Type 0
RunsIn s = Runs s.clock s.mark s.window.edge (top_of s.window)

timed-runs : (s : State) (mark : Option ℕ) → s.mark ≡ mark → runs s.clock ≡ is_some s.mark
    → or_zero s.mark ≤ top_of s.window → RunsIn (timed s)
timed-runs s None e r h = go s.mark e (r ∙ ap is_some e)
  where
    go : (m : Option ℕ) → m ≡ None → runs s.clock ≡ false
        → Runs (timed (record s { mark = m })).clock (timed (record s { mark = m })).mark s.window.edge
        (top_of s.window)
    go None e r = none-runs s.clock s.window.edge (top_of s.window) (nat_lt s.window.edge (top_of s.window)) false
        refl r
    go (Some x) e r = absurd cc
timed-runs s (Some x) e r h = go s.mark e (r ∙ ap is_some e) (subst (λ (o : Option ℕ). or_zero o ≤ top_of s.window) e h)
  where
    go : (m : Option ℕ) → m ≡ Some x → runs s.clock ≡ true → x ≤ top_of s.window
        → Runs (timed (record s { mark = m })).clock (timed (record s { mark = m })).mark s.window.edge
        (top_of s.window)
    go None e r h = absurd cc
    go (Some y) e r h = let g : y ≡ x = ap or_zero e in
        some-runs s.clock y s.window.edge (top_of s.window) (nat_le y s.window.edge) refl r (omega arith)

landing-runs : (l : Landed) (x : ℕ) (p : Parts) (s : State) → or_zero s.mark ≤ top_of (after_landing l x p s).window
    → RunsIn s → RunsIn (after_landing l x p s)
landing-runs Kept x p s h r = timed-runs (kept (x - s.window.edge) p s) s.mark refl r.runs_with_mark h
landing-runs Repeat x p s h r = r
landing-runs Outside x p s h r = r
landing-runs Clash x p s h r = r

expiry-runs : (m : Option ℕ) (s : State) → RunsIn s → RunsIn (after_expiry m s)
expiry-runs None s r = r
expiry-runs (Some x) s r = timed-runs (at_mark x s) None refl refl (omega arith)

counted-runs : (left : Option ℕ) → is_some (counted left) ≡ is_some left
counted-runs None = refl
counted-runs (Some n) = refl

record Both (w : World) : Type 0 where
  keeps : Keeps w
  runs_in : RunsIn w.state

both-arrive : (w : World) (pdu : UmdPdu) → Both w → Both (happens w (Arrive pdu))
both-arrive w pdu b =
    let k = happens-keeps w (Arrive pdu) b.keeps in
    let k' : Keeps (came (read_number pdu w) (parts_of pdu) w) = subst Keeps (comes-is w pdu) k in
    let t = k'.rests.top_is in
    let m = b.keeps.rests.stands.marked in
    record {
      keeps = k;
      runs_in = subst (λ (v : World). RunsIn v.state) (sym (comes-is w pdu))
          (landing-runs (landed w.state (read_number pdu w)) (read_number pdu w) (parts_of pdu) w.state (omega arith)
          b.runs_in);
    }

both-happens : (w : World) (c : Call) → Both w → Both (happens w c)
both-happens w (Arrive pdu) b = both-arrive w pdu b
both-happens w Expire b = record {
  keeps = happens-keeps w Expire b.keeps;
  runs_in = subst (λ (v : World). RunsIn v.state) (sym (ends-is w)) (expiry-runs w.state.mark w.state b.runs_in);
}
both-happens w Tick b = record {
  keeps = happens-keeps w Tick b.keeps;
  runs_in = record {
    runs_with_mark = counted-runs w.state.clock.left ∙ b.runs_in.runs_with_mark;
    runs_at_gap = b.runs_in.runs_at_gap;
    above = b.runs_in.above;
    within = b.runs_in.within;
  };
}
both-happens w Up b = record {
  keeps = happens-keeps w Up b.keeps;
  runs_in = record {
    runs_with_mark = b.runs_in.runs_with_mark;
    runs_at_gap = b.runs_in.runs_at_gap;
    above = b.runs_in.above;
    within = b.runs_in.within;
  };
}

both-run : (calls : List Call) (w : World) → Both w → Both (run_um_receiver calls w)
both-run [] w b = b
both-run (c ∷ cs) w b = both-run cs (happens w c) (both-happens w c b)

pub is_timed : (width reorder : ℕ) → 0 < width → (calls : List Call)
    → IsTimed (run_um_receiver calls (fresh width reorder))
is_timed width reorder h calls =
    let gap : false ≡ nat_lt (2 * width) (2 * width + 0) = grind (arith, nat_tests) in
    let b : Both (run_um_receiver calls (fresh width reorder)) =
    both-run calls (fresh width reorder)
    (record {
      keeps = at-start width reorder h;
      runs_in = record {
        runs_with_mark = refl;
        runs_at_gap = gap;
        above = λ x f. absurd cc;
        within = λ x f. absurd cc;
      };
    }) in
    record {
      runs_with_mark = b.runs_in.runs_with_mark;
      runs_at_gap = b.runs_in.runs_at_gap;
      above = b.runs_in.above;
      within = b.runs_in.within;
    }
