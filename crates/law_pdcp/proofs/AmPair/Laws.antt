-- Whatever happens, what goes up is what is expected.
use Rattle.std.proofs.Common.{◌≡◌, ◌≤◌, ℕ, ◌-◌, ◌^◌, List, [], ◌∷◌, refl, arith}
use Rattle.pdcp_pdu.specs.declared.PdcpKind.TheVariants.{Am}
use Rattle.pdcp_pdu.specs.Kinds.{IsKind}
use Rattle.pdcp_sec.specs.Protection.{Protection}
use Rattle.pdcp_tx.specs.State.{start}
use Rattle.pdcp_tx.specs.Runs.{Submit, Take, Confirm, Report, Owe, Tick, Late}
use Rattle.pdcp_rx.specs.State.{fresh}
use Rattle.law_pdcp.specs.AmPair.Flow.{Flow, Event, Sends, SetDiscard, Arrive, HandUp, Raise, Restart, happens}
use Rattle.law_pdcp.specs.AmPair.Flow.{run_am_pdcp}
use Rattle.law_pdcp.specs.AmPair.Flow.{am_pdcp_outset, IsGiven, AreGiven}
use Rattle.law_pdcp.specs.AmPair.Expected.{IsExpected}
use Rattle.law_pdcp.proofs.AmPair.Sound.{IsSound}
use Rattle.law_pdcp.proofs.AmPair.Taking.{receiver_below}
use Rattle.law_pdcp.proofs.AmPair.Takings.{takes_sound, submit_sound, owe_sound, tick_sound, late_sound, discard_sound}
use Rattle.law_pdcp.proofs.AmPair.Confirming.{confirm_sound}
use Rattle.law_pdcp.proofs.AmPair.Reporting.{report_sound}
use Rattle.law_pdcp.proofs.AmPair.Handing.{arrive_sound, raise_sound, hand_up_sound}
use Rattle.law_pdcp.proofs.AmPair.Beginning.{restart_sound}

happens_sound : (bits : ℕ) (f : Flow) (e : Event) → IsGiven f e → IsSound bits f → IsSound bits (happens f e)
happens_sound bits f (Sends (Submit sdu)) g h = submit_sound bits f sdu g h
happens_sound bits f (Sends Take) g h = takes_sound bits f h
happens_sound bits f (Sends (Confirm place)) g h = confirm_sound bits f place g h
happens_sound bits f (Sends (Report fms bitmap)) g h = report_sound bits f fms bitmap g h
happens_sound bits f (Sends (Owe report)) g h = owe_sound bits f report g h
happens_sound bits f (Sends Tick) g h = tick_sound bits f h
happens_sound bits f (Sends Late) g h = late_sound bits f h
happens_sound bits f (SetDiscard ttis) g h = discard_sound bits f ttis h
happens_sound bits f (Arrive place) g h = arrive_sound bits f place h
happens_sound bits f HandUp g h = hand_up_sound bits f h
happens_sound bits f Raise g h = raise_sound bits f h
happens_sound bits f (Restart keys) g h = restart_sound bits f keys h

pub run_sound : (bits : ℕ) (es : List Event) (f : Flow) → AreGiven f es → IsSound bits f
    → IsSound bits (run_am_pdcp es f)
run_sound bits [] f g h = h
run_sound bits (e ∷ es) f g h = run_sound bits es (happens f e) g.1 (happens_sound bits f e g.0 h)

pub outset_sound : (bits : ℕ) (p : Protection) (first : ℕ) → IsKind (Am bits) → first ≤ 2 ^ 32
    → IsSound bits (am_pdcp_outset bits p first)
unfolding start fresh
outset_sound bits p first is le = record {
  width = is;
  sends = record {
    am = refl;
    room = omega arith;
    some = tt;
    waits_some = tt;
    owes = tt;
    kept = record { am = refl; next = omega arith; each = λ k d lt. absurd (omega (arith, lt)) };
    order = omega arith;
    near = omega arith;
    lag = omega arith;
  };
  links = record {
    within = λ n e. absurd cc;
    order = omega arith;
    covered = λ n a b. absurd (omega arith);
    opens = λ n a b. absurd (omega arith);
    floor = λ n a b. absurd (omega arith);
    late = λ n c e i. absurd cc;
    written = tt;
  };
  receives = record {
    least = record { from = omega arith; refused = refl; before = λ n a b. absurd (omega arith) };
    held_is = λ k. refl;
    sdu_is = λ k sdu e. absurd cc;
    up_is = (let none : first - first ≡ 0 = omega arith in rw none refl);
    ends = λ some. absurd (omega (arith, some));
  };
  hears_am = refl;
  key = refl;
  places = record { few = omega arith; entries = tt };
  few = omega arith;
  passed = λ n e. absurd cc;
  told = λ fms bitmap from n c e t a. absurd c;
}

pub expected : (bits : ℕ) (p : Protection) (first : ℕ) (events : List Event) → IsKind (Am bits) → first ≤ 2 ^ 32
    → AreGiven (am_pdcp_outset bits p first) events → IsExpected (run_am_pdcp events (am_pdcp_outset bits p first))
expected bits p first events is le g =
    let h : IsSound bits (run_am_pdcp events (am_pdcp_outset bits p first)) =
    run_sound bits events (am_pdcp_outset bits p first) g (outset_sound bits p first is le) in
    record {
      least = h.receives.least;
      taken =
          omega (arith, receiver_below bits (run_am_pdcp events (am_pdcp_outset bits p first)) h, h.sends.kept.next);
      delivered = h.receives.up_is;
    }
