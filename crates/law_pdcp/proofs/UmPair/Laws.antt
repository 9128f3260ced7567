-- What holds through any events.
use Rattle.std.proofs.Common.{◌≤◌, ℕ, ◌^◌, List, [], ◌∷◌, refl, arith}
use Rattle.pdcp_pdu.specs.declared.PdcpKind.TheVariants.{Um}
use Rattle.pdcp_pdu.specs.Kinds.{IsKind}
use Rattle.pdcp_sec.specs.Protection.{Protection}
use Rattle.pdcp_tx.specs.State.{start}
use Rattle.pdcp_tx.specs.Runs.{Submit, Take, Confirm, Report, Owe, Tick, Late}
use Rattle.pdcp_rx.specs.declared.got.Cause.{Cause}
use Rattle.pdcp_rx.specs.State.{fresh}
use Rattle.law_pdcp.specs.UmPair.Delivery.{IsWhatCameToPdcp}
use Rattle.law_pdcp.specs.UmPair.Flow.{Flow, Event, Sends as Sending, SetDiscard, HandUp, Raise, Restart, happens}
use Rattle.law_pdcp.specs.UmPair.Flow.{run_um_pdcp}
use Rattle.law_pdcp.specs.UmPair.Flow.{um_pdcp_outset, IsLater, IsGiven, AreGiven, left_out, IsShort, AreShort}
use Rattle.law_pdcp.specs.UmPair.Reading.{AreWritten, IsReadAt, IsMisread}
use Rattle.law_pdcp.proofs.UmPair.Sending.{submit_writes, take_writes, tick_writes, late_writes, discard_writes}
use Rattle.law_pdcp.proofs.UmPair.Sending.{restart_writes}
use Rattle.law_pdcp.proofs.UmPair.Hearing.{within, call_hears, discard_hears, hand_up_writes, reads_at, misreads_at}
use Rattle.law_pdcp.proofs.UmPair.Hearing.{hand_up_hears, raise_writes, raise_hears, restart_hears}
use Rattle.law_pdcp.proofs.UmPair.Sound.{Writes, Hears}

happens_writes : (bits : ℕ) (f : Flow) (e : Event) → IsGiven f e → Writes bits f → Writes bits (happens f e)
happens_writes bits f (Sending (Submit sdu)) g h = submit_writes bits f sdu g h
happens_writes bits f (Sending Take) g h = take_writes bits f h
happens_writes bits f (Sending (Confirm place)) g h = absurd g
happens_writes bits f (Sending (Report fms bitmap)) g h = absurd g
happens_writes bits f (Sending (Owe report)) g h = absurd g
happens_writes bits f (Sending Tick) g h = tick_writes bits f h
happens_writes bits f (Sending Late) g h = late_writes bits f h
happens_writes bits f (SetDiscard ttis) g h = discard_writes bits f ttis h
happens_writes bits f (HandUp cause place) g h = hand_up_writes bits f cause place g h
happens_writes bits f Raise g h = raise_writes bits f h
happens_writes bits f (Restart keys) g h = restart_writes bits f keys h

happens_hears : (bits : ℕ) (f : Flow) (e : Event) → IsKind (Um bits) → IsGiven f e → IsShort f e → Writes bits f
    → Hears bits f → Hears bits (happens f e)
happens_hears bits f (Sending c) is g s w h = call_hears bits f c g w h
happens_hears bits f (SetDiscard ttis) is g s w h = discard_hears bits f ttis h
happens_hears bits f (HandUp cause place) is g s w h =
    hand_up_hears bits f cause place (reads_at bits f cause place is g s w h) h
happens_hears bits f Raise is g s w h = raise_hears bits f h
happens_hears bits f (Restart keys) is g s w h = restart_hears bits f keys w h

pub run_writes : (bits : ℕ) (es : List Event) (f : Flow) → AreGiven f es → Writes bits f
    → Writes bits (run_um_pdcp es f)
run_writes bits [] f g h = h
run_writes bits (e ∷ es) f g h = run_writes bits es (happens f e) g.1 (happens_writes bits f e g.0 h)

run_hears : (bits : ℕ) (es : List Event) (f : Flow) → IsKind (Um bits) → AreGiven f es → AreShort f es → Writes bits f
    → Hears bits f → Hears bits (run_um_pdcp es f)
run_hears bits [] f is g s w h = h
run_hears bits (e ∷ es) f is g s w h =
    run_hears bits es (happens f e) is g.1 s.1 (happens_writes bits f e g.0 w) (happens_hears bits f e is g.0 s.0 w h)

pub outset_writes : (bits : ℕ) (p : Protection) (first : ℕ) → first ≤ 2 ^ 32 → Writes bits (um_pdcp_outset bits p first)
unfolding start
outset_writes bits p first le = record {
  sends = record {
    um = refl;
    owes_none = refl;
    none_again = refl;
    none_given = refl;
    room = omega arith;
    waits_some = tt;
  };
  count = omega arith;
  taken = omega arith;
  written = λ k x e. absurd cc;
  few = omega arith;
  order = omega arith;
}

outset_hears : (bits : ℕ) (p : Protection) (first : ℕ) → Hears bits (um_pdcp_outset bits p first)
unfolding start fresh
outset_hears bits p first = record { um = refl; key = refl; none_held = refl; next = omega arith; delivered = refl }

pub comes_to_write : (bits : ℕ) (p : Protection) (first : ℕ) (events : List Event) → first ≤ 2 ^ 32
    → AreGiven (um_pdcp_outset bits p first) events
    → Writes bits (run_um_pdcp events (um_pdcp_outset bits p first))
comes_to_write bits p first events le g =
    run_writes bits events (um_pdcp_outset bits p first) g (outset_writes bits p first le)

comes_to_hear : (bits : ℕ) (p : Protection) (first : ℕ) (events : List Event) → IsKind (Um bits) → first ≤ 2 ^ 32
    → AreGiven (um_pdcp_outset bits p first) events → AreShort (um_pdcp_outset bits p first) events
    → Hears bits (run_um_pdcp events (um_pdcp_outset bits p first))
comes_to_hear bits p first events is le g s =
    run_hears bits events (um_pdcp_outset bits p first) is g s (outset_writes bits p first le)
    (outset_hears bits p first)

pub writes_each : (bits : ℕ) (p : Protection) (first : ℕ) (events : List Event) → first ≤ 2 ^ 32
    → AreGiven (um_pdcp_outset bits p first) events
    → AreWritten (run_um_pdcp events (um_pdcp_outset bits p first))
writes_each bits p first events le g = (comes_to_write bits p first events le g).written

pub reads_each : (bits : ℕ) (p : Protection) (first : ℕ) (events : List Event) (cause : Cause) (place : ℕ)
    → IsKind (Um bits) → first ≤ 2 ^ 32
    → AreGiven (um_pdcp_outset bits p first) events → AreShort (um_pdcp_outset bits p first) events
    → IsGiven (run_um_pdcp events (um_pdcp_outset bits p first)) (HandUp cause place)
    → IsShort (run_um_pdcp events (um_pdcp_outset bits p first)) (HandUp cause place)
    → IsReadAt (run_um_pdcp events (um_pdcp_outset bits p first)) cause place
reads_each bits p first events cause place is le g s given short =
    reads_at bits (run_um_pdcp events (um_pdcp_outset bits p first)) cause place is given short
    (comes_to_write bits p first events le g) (comes_to_hear bits p first events is le g s)

pub misreads : (bits : ℕ) (p : Protection) (first : ℕ) (events : List Event) (place : ℕ) → IsKind (Um bits)
    → first ≤ 2 ^ 32
    → AreGiven (um_pdcp_outset bits p first) events → AreShort (um_pdcp_outset bits p first) events
    → IsLater (run_um_pdcp events (um_pdcp_outset bits p first)) place
    → 2 ^ bits ≤ left_out (run_um_pdcp events (um_pdcp_outset bits p first)) place
    → IsMisread (run_um_pdcp events (um_pdcp_outset bits p first)) place
misreads bits p first events place is le g s given long =
    misreads_at bits (run_um_pdcp events (um_pdcp_outset bits p first)) place is given long
    (comes_to_write bits p first events le g)
    (comes_to_hear bits p first events is le g s)

pub what_came : (bits : ℕ) (p : Protection) (first : ℕ) (events : List Event) → IsKind (Um bits) → first ≤ 2 ^ 32
    → AreGiven (um_pdcp_outset bits p first) events → AreShort (um_pdcp_outset bits p first) events
    → IsWhatCameToPdcp (run_um_pdcp events (um_pdcp_outset bits p first))
what_came bits p first events is le g s =
    let f : Flow = run_um_pdcp events (um_pdcp_outset bits p first) in
    let h : Hears bits f = comes_to_hear bits p first events is le g s in
    record { order = within bits f (comes_to_write bits p first events le g); delivered = h.delivered; next = h.next }
