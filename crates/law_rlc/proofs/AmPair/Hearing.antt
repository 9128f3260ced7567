-- A call of the receiver keeps what holds of a flow, and so does a data PDU that comes.
use Rattle.std.proofs.Common.{◌≡◌, ◌<◌, ◌≤◌, inl, inr, ℕ, ◌+◌, ◌-◌, ◌%◌, Bool, true, false, List, [], ◌∷◌, ◌++◌, length}
use Rattle.std.proofs.Common.{replicate, Option, Some, None, Ok, slice_index_or, slice_range, Result, refl, ap, sym}
use Rattle.std.proofs.Common.{subst, ◌∙◌, arith, ltb, length-append}
use Rattle.std.specs.List.{AllByRecursion}
use Rattle.std.proofs.lemmas.Bool.{cases_lt, le-ltb}
use Rattle.std.proofs.Math.ListN.{length-set, length-replicate}
use Rattle.rlc_pdu.specs.declared.Landed.{Landed}
use Rattle.rlc_pdu.specs.declared.Landed.TheVariants.{Kept, Repeat, Outside, Clash}
use Rattle.rlc_pdu.specs.declared.fault.RlcRefusal.{RlcRefusal}
use Rattle.rlc_pdu.specs.Pdus.{AmdPdu, AcknowledgedPdu, Payload}
use Rattle.rlc_pdu.specs.Reading.{am_at}
use Rattle.law_rlc.specs.AmSender.Octets.{Place, segment_of}
use Rattle.rlc_am_rx_window.specs.Cells.{Cell}
use Rattle.rlc_am_rx_window.specs.Held.{Held, nothing, with_piece}
use Rattle.rlc_am_rx_window.specs.Piece.{Piece, piece_of}
use Rattle.rlc_am_rx_window.specs.Window.{RxWindow, top, offset_of, with_kept, widened, slot_at}
use Rattle.rlc_am_rx.specs.State.{State}
use Rattle.rlc_am_rx.specs.Machine.{landed, after_landing, after_reorder, window_with}
use Rattle.law_rlc.specs.AmReceiver.Run.{Call, Arrive, Up, Write, ExpireReorder, ExpireProhibit, TickReorder}
use Rattle.law_rlc.specs.AmReceiver.Run.{TickProhibit, World, Came, came_of, kept_after, state_after, kept_with, begin}
use Rattle.law_rlc.specs.AmReceiver.Run.{IsComplete, IsOrdered}
use Rattle.law_rlc.specs.AmReceiver.Status.{BringsSome}
use Rattle.law_rlc.specs.AmReceiver.Stream.{IsPart, IsHonest}
use Rattle.law_rlc.proofs.AmReceiver.Least.{still-complete, least}
use Rattle.law_rlc.proofs.AmReceiver.Offset.{offset-in, offset-below}
use Rattle.law_rlc.proofs.AmReceiver.Order.{top-advanced, ordered}
use Rattle.law_rlc.proofs.AmReceiver.InSequence.{kept-in}
use Rattle.law_rlc.specs.AmPair.Flow.{Copy, Report, Flow, sender, receiver, receives, data_read, data_comes}
use Rattle.law_rlc.specs.AmPair.Fields.{cells_of}
use Rattle.law_rlc.specs.AmPair.Given.{IsReceiving}
use Rattle.law_rlc.specs.AmPair.Numbers.{IsOrdered as AreInOrder}
use Rattle.law_rlc.proofs.AmPair.Reading.{IsAired, read_as, stretch-read}
use Rattle.law_rlc.proofs.AmPair.Parts.{stretch-part}
use Rattle.law_rlc.proofs.AmPair.Runs.{some-more, honest-more}
use Rattle.law_rlc.proofs.AmPair.Sound.{IsTrueCopy, IsTrueReport, HasTrueEntries, IsKept, Agree, IsSound, heard-sound}
use Rattle.law_rlc.proofs.AmPair.Sound.{each}
use Rattle.law_rlc.proofs.AmPair.Sending.{sent-number}

-- ---- the order of the numbers

-- VT(A) ≤ VR(R), for what is acknowledged is complete
pub base-first : (f : Flow) → IsSound f → (sender f).state.window.base ≤ (receiver f).state.window.front
base-first f h = elim (cases_lt (receiver f).state.window.front (sender f).state.window.base) [
  | inl above ↦ absurd
      ((least f.receiving f.heard).here
      (h.known (receiver f).state.window.front (h.fits.below (receiver f).state.window.front above)))
  | inr within ↦ omega (arith, within)
]

pub in-order : (f : Flow) → IsSound f → AreInOrder f
in-order f h =
    let o : IsOrdered (receiver f) = ordered f.receiving f.heard in
    let n = sent-number f h in let t = h.top in let few = h.fits.few in
    record {
      least = base-first f h;
      bound = o.front;
      highest = o.bound;
      sent = omega (arith, n, t);
      window = omega (arith, few);
    }

-- ---- what is complete stays so

landed-more : (l : Landed) (s : State) (p : AmdPdu) (ps : List Came) (n : ℕ) → IsComplete ps n
    → IsComplete (kept_after l s p ps) n
landed-more Kept s p ps n h = still-complete ps (came_of s p) n h
landed-more Repeat s p ps n h = h
landed-more Outside s p ps n h = h
landed-more Clash s p ps n h = h

pub complete-more : (w : World) (c : Call) (n : ℕ) → IsComplete w.kept n → IsComplete (kept_with w c) n
complete-more w (Arrive p) n h = landed-more (landed w.state p) w.state p w.kept n h
complete-more w Up n h = h
complete-more w Write n h = h
complete-more w ExpireReorder n h = h
complete-more w ExpireProhibit n h = h
complete-more w TickReorder n h = h
complete-more w TickProhibit n h = h

-- ---- a call

pub report-more : (f : Flow) (c : Call) (r : Report)
    → IsTrueReport (receiver f).kept (length (sender f).past.sent) f.busy r
    → IsTrueReport (kept_with (receiver f) c) (length (sender f).past.sent) f.busy r
report-more f c r q = record {
  reads = q.reads;
  known = q.known;
  age = q.age;
  young = q.young;
  complete = λ n lt none. complete-more (receiver f) c n (q.complete n lt none);
  near = q.near;
}

pub hears-sound : (f : Flow) (c : Call) (reports : List Report) → IsSound f → BringsSome c
    → ((field : ℕ → List Cell) → Agree (sender f).past.sent field → IsHonest field (receiver f).state c)
    → top (state_after (receiver f).state c).window ≤ length (sender f).past.sent
    → AllByRecursion (IsKept (sender f).past.sent) (kept_with (receiver f) c)
    → AllByRecursion (IsTrueReport (kept_with (receiver f) c) (length (sender f).past.sent) f.busy) reports
    → AllByRecursion (HasTrueEntries (sender f).past.sent) reports
    → IsSound (record f { heard = f.heard ++ c ∷ []; reports = reports })
hears-sound f c reports h some honest high kept all entries = heard-sound f c reports (record {
  offered = h.offered;
  keeps = h.keeps;
  fits = h.fits;
  aired = h.aired;
  copies = h.copies;
  reports = all;
  entries = entries;
  fair = h.fair;
  known = λ n a. complete-more (receiver f) c n (h.known n a);
  top = high;
  kept = kept;
  some = some-more f.heard c h.some some;
  honest = λ field agree. honest-more field f.heard c (begin f.receiving) (h.honest field agree) (honest field agree);
})

pub old-reports : (f : Flow) (c : Call) → IsSound f
    → AllByRecursion (IsTrueReport (kept_with (receiver f) c) (length (sender f).past.sent) f.busy) f.reports
old-reports f c h =
    each (IsTrueReport (receiver f).kept (length (sender f).past.sent) f.busy)
    (IsTrueReport (kept_with (receiver f) c) (length (sender f).past.sent) f.busy) (report-more f c) f.reports
    h.reports

pub expiry-window : (m : Option ℕ) (s : State) → (after_reorder m s).window ≡ s.window
expiry-window None s = refl
expiry-window (Some x) s = refl

pub receives-sound : (f : Flow) (c : Call) → IsReceiving c → IsSound f → IsSound (receives f c)
receives-sound f (Arrive p) g h = absurd g
receives-sound f Up g h =
    hears-sound f Up f.reports h tt (λ field agree. tt) h.top h.kept (old-reports f Up h) h.entries
receives-sound f Write g h = absurd g
receives-sound f ExpireReorder g h = hears-sound f ExpireReorder f.reports h tt (λ field agree. tt)
    (subst (λ (w : RxWindow). top w ≤ length (sender f).past.sent)
    (sym (expiry-window (receiver f).state.mark (receiver f).state)) h.top) h.kept (old-reports f ExpireReorder h)
    h.entries
receives-sound f ExpireProhibit g h =
    hears-sound f ExpireProhibit f.reports h tt (λ field agree. tt) h.top h.kept (old-reports f ExpireProhibit h)
    h.entries
receives-sound f TickReorder g h =
    hears-sound f TickReorder f.reports h tt (λ field agree. tt) h.top h.kept (old-reports f TickReorder h) h.entries
receives-sound f TickProhibit g h =
    hears-sound f TickProhibit f.reports h tt (λ field agree. tt) h.top h.kept (old-reports f TickProhibit h)
    h.entries

-- ---- a data PDU comes

kept-top : (w : RxWindow) (at : ℕ) (p : Piece) (poll : Bool) (most : ℕ) → top w ≤ most → w.front + at < most
    → top (with_kept w at p poll) ≤ most
kept-top w at p poll most h lt =
    let a = length-set (widened w.slots (at + 1)) at (with_piece (slot_at (widened w.slots (at + 1)) at) p poll) in
    let b = length-append w.slots (replicate (at + 1 - length w.slots) nothing) in
    let c = length-replicate {A = Held} (at + 1 - length w.slots) nothing in
    omega (arith, a, b, c, h, lt)

landed-top : (l : Landed) (s : State) (p : AmdPdu) (most : ℕ)
    → (l ≡ Kept → s.window.front + offset_of s.window.front p.sn < most) → top s.window ≤ most
    → top (after_landing l s p).window ≤ most
landed-top Kept s p most within h =
    let a = top-advanced (window_with s.window p) in
    let b = kept-top s.window (offset_of s.window.front p.sn) (piece_of p) p.poll most h (within refl) in
    omega (arith, a, b)
landed-top Repeat s p most within h = h
landed-top Outside s p most within h = h
landed-top Clash s p most within h = h

-- the number that is read is the number that was sent
read-number : (s : State) (p : AmdPdu) (n : ℕ) → p.sn ≡ n % 1024 → s.window.front ≤ n + 512 → n < s.window.front + 512
    → landed s p ≡ Kept → s.window.front + offset_of s.window.front p.sn ≡ n
read-number s p n sn from below e = elim (cases_lt n s.window.front) [
  | inl under ↦
      let far : 512 ≤ offset_of s.window.front (n % 1024) = offset-below s.window.front n under from in
      let out : ltb (offset_of s.window.front p.sn) 512 ≡ false =
      rw sn (le-ltb (offset_of s.window.front (n % 1024)) 512 far) in
      let no' : true ≡ false = sym (kept-in s p e) ∙ out in cc
  | inr within ↦
      let is : offset_of s.window.front (n % 1024) ≡ n - s.window.front =
      offset-in s.window.front n within (omega (arith, below)) in
      rw (sn, is) (omega (arith, within))
]

landed-kept : (l : Landed) (s : State) (p : AmdPdu) (ps : List Came) (sent : List (List Place)) (n : ℕ)
    → (l ≡ Kept → s.window.front + offset_of s.window.front p.sn ≡ n) → n < length sent
    → IsPart (cells_of (slice_index_or sent n [])) (piece_of p)
    → AllByRecursion (IsKept sent) ps → AllByRecursion (IsKept sent) (kept_after l s p ps)
landed-kept Kept s p ps sent n is lt part h = (
  subst (λ (m : ℕ). IsKept sent (record { number = m; piece = piece_of p })) (sym (is refl))
      (record { known = lt; part = part }),
  h,
)
landed-kept Repeat s p ps sent n is lt part h = h
landed-kept Outside s p ps sent n is lt part h = h
landed-kept Clash s p ps sent n is lt part h = h

pub comes-sound : (f : Flow) (c : Copy) → IsTrueCopy (sender f).past.sent c → IsSound f
    → IsSound (data_comes f (Some c))
comes-sound f c q h =
    subst (λ (r : Result AcknowledgedPdu RlcRefusal). IsSound (data_read f r)) (sym read)
    (hears-sound f (Arrive p) f.reports h
    (part.some)
    (λ field agree. (
      c.number,
      record {
        sn = refl;
        from = from;
        below = below;
        part = subst (λ (cells : List Cell). IsPart cells (piece_of p)) (sym (agree c.number q.known)) part;
      },
    ))
    (landed-top (landed (receiver f).state p) (receiver f).state p (length (sender f).past.sent) (λ e. let n =
    read-number (receiver f).state p c.number refl from below e in let k = q.known in omega (arith, n, k)) h.top)
    (landed-kept (landed (receiver f).state p) (receiver f).state p (receiver f).kept (sender f).past.sent c.number
    (λ e. read-number (receiver f).state p c.number refl from below e) q.known part h.kept)
    (old-reports f (Arrive p) h) h.entries)
  where
    ps : List Place
    ps = slice_index_or (sender f).past.sent c.number []

    p : AmdPdu
    p = read_as c.number q.poll (segment_of q.from q.to (length ps)) (slice_range ps q.from q.to)

    aired : IsAired ps
    aired = h.aired c.number q.known

    read : am_at c.octets ≡ Ok (Payload p)
    read = ap am_at q.is ∙ stretch-read c.number q.poll ps q.from q.to aired q.some q.within

    part : IsPart (cells_of ps) (piece_of p)
    part = stretch-part c.number q.poll ps q.from q.to aired q.some q.within

    o : AreInOrder f
    o = in-order f h

    from : (receiver f).state.window.front ≤ c.number + 512
    from = let a = o.bound in let b = o.highest in let t = h.top in let y = q.young in omega (arith, a, b, t, y)

    below : c.number < (receiver f).state.window.front + 512
    below = let a = o.least in let b = o.window in let n = sent-number f h in let k = q.known in
        omega (arith, a, b, n, k)
