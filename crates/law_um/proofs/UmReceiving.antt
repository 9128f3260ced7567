-- Each call of the receiver does to both sides what its event says.
use Rattle.std.proofs.Common.{◌≡◌, ◌<◌, ◌≤◌, ℕ, ◌+◌, ◌-◌, ◌*◌, ◌%◌, Bool, true, false, ◌||◌, ◌&&◌}
use Rattle.std.proofs.Common.{if◌then◌else◌, List, []}
use Rattle.std.proofs.Common.{◌∷◌, length, take, drop, map, Option, Some, None, is_some, is_none, nat_lt, nat_le}
use Rattle.std.proofs.Common.{◌++◌, refl, ap, sym, subst, ◌∙◌, arith}
use Rattle.std.proofs.lemmas.List.{drop-map, map_push}
use Rattle.std.proofs.lemmas.Bool.Decides.{nat_tests}
use Rattle.l2_num.specs.Numbers.{ahead}
use Rattle.l2_num.specs.Timers.{Clock}
use Rattle.rlc_pdu.specs.Pdus.{UmdPdu}
use Rattle.rlc_pdu.specs.declared.outcome.Landed.{Landed}
use Rattle.rlc_pdu.specs.declared.outcome.Landed.TheVariants.{Kept, Repeat}
use Rattle.rlc_um.specs.Joined.{Parts, parts_of, with_numbers}
use Rattle.rlc_um.specs.Window.{Window, top_of, number_of, slot_at, passed, fallen, with_placed}
use Rattle.rlc_um.specs.Receiver.{State, start, pass, advanced, put, kept, landed, mark_left, mark_begun, timed}
use Rattle.rlc_um.specs.Receiver.{after_landing, turned_on, turned_by, clock_turned, arrival, turning, at_mark}
use Rattle.rlc_um.specs.Receiver.{after_expiry, expiry, expired}
use Rattle.rlc_um.specs.Receiver.{expiring, all_joined, starts}
use Rattle.journal_um.specs.declared.pieces.JoinedSdu.{JoinedSdu}
use Rattle.journal_um.specs.declared.pieces.Piece.{Piece}
use Rattle.journal_um.specs.UmEvents.{PduArrived}
use Rattle.journal_um.specs.UmNumbers.{raised_number}
use Rattle.journal_um.specs.UmWindow as um
use Rattle.journal_um.specs.UmWindow.{UmWindow, pdu_at, is_dropped}
use Rattle.journal_um.specs.UmJoiner.{with_pdus}
use Rattle.journal_um.specs.UmFlow as flows
use Rattle.journal_um.specs.UmFlow.{UmFlow, empty_flow, living, read_in, numbered, ended, sdu_taken}
use Rattle.law_um.specs.UmReceiving.{Likeness, Handing, SameOctets, SameSdus, CarryAlike, KeepsAlike, IsMark}
use Rattle.law_um.specs.UmReceiving.{IsBeside, all_taken, UmOutsetIsAccounted, UmHandingIsAccounted}
use Rattle.law_um.specs.UmReceiving.{UmArrivalsAreAccounted, UmExpiriesAreAccounted, started}
use Rattle.law_um.specs.UmReceiving.{expired_as, UmLivesAreAccounted}
use Rattle.law_um.proofs.UmJoining.{IsKind, JoinsAlike, numbers_alike}
use Rattle.law_um.proofs.UmNumbers.{lengths_alike, first_alike, leading_alike, kept_alike, passed_alike, placed_alike}

module _ (like : Likeness) (hands : Handing) (is : IsKind like hands) where
  -- ---- VR(UR) moves

  -- all but VR(UX)
  record Stands (s : State) (f : UmFlow) : Type 0 where
    window : KeepsAlike like s.window f.window
    joined : JoinsAlike like hands s.joined f.joiner

  pass-stands : (n : ℕ) (s : State) (f : UmFlow) → Stands s f → Stands (pass n s) (flows.pass n f)
  pass-stands n s f h = record {
    window = passed_alike like n s.window f.window h.window;
    joined = numbers_alike like hands is (take n s.window.slots) (take n f.window.pdus) s.joined f.joiner
        (first_alike like n s.window.slots f.window.pdus h.window.numbers) h.joined;
  }

  advanced-stands : (s : State) (f : UmFlow) → Stands s f → Stands (advanced s) (flows.advanced f)
  advanced-stands s f h =
      subst (λ (n : ℕ). Stands (pass n s) (flows.advanced f))
      (sym (leading_alike like s.window.slots f.window.pdus h.window.numbers))
      (pass-stands (um.leading f.window.pdus) s f h)

  fallen-alike : (at : ℕ) (w : Window) (u : UmWindow) → KeepsAlike like w u → fallen w at ≡ um.fallen u at
  fallen-alike at w u h = ap (λ (width : ℕ). at + 1 - width) h.width

  put-stands : (at : ℕ) (p : Parts) (pieces : List Piece) (s : State) (f : UmFlow) → CarryAlike like p pieces
      → Stands s f → Stands (put at p s) (flows.put at pieces f)
  put-stands at p pieces s f c h =
      let n = um.fallen f.window at in
      subst (λ (k : ℕ). Stands (record (pass k s) { window = with_placed (at - k) p (passed k s.window) })
      (flows.put at pieces f)) (sym (fallen-alike at s.window f.window h.window))
      (record {
        window = placed_alike like (at - n) p pieces (passed n s.window) (um.passed n f.window) c
            (passed_alike like n s.window f.window h.window);
        joined = (pass-stands n s f h).joined;
      })

  kept-stands : (at : ℕ) (p : Parts) (pieces : List Piece) (s : State) (f : UmFlow) → CarryAlike like p pieces
      → Stands s f → Stands (kept at p s) (flows.kept at pieces f)
  kept-stands at p pieces s f c h =
      advanced-stands (put at p s) (flows.put at pieces f) (put-stands at p pieces s f c h)

  -- ---- t-Reordering

  left-mark : (m : Option ℕ) (edge mark width : ℕ) → IsMark m mark width → IsMark (mark_left m edge) mark width
  left-mark None edge mark width h = tt
  left-mark (Some x) edge mark width h = by (nat_le x edge) h
    where
      by : (b : Bool) → IsMark (Some x) mark width → IsMark (if b then None else Some x) mark width
      by true h = tt
      by false h = h

  top-alike : (w : Window) (u : UmWindow) → KeepsAlike like w u → top_of w ≡ um.top_of u + 2 * u.width
  top-alike w u h =
      ap (λ (n : ℕ). w.edge + n) (lengths_alike like w.slots u.pdus h.numbers)
      ∙ (ap (λ (n : ℕ). n + length u.pdus) h.edge ∙ omega arith)

  -- it starts where it doesn't run and a number is missing
  begun-accounted : (b : Bool) (s : State) (f : UmFlow) (c : Clock) → Stands s f
      → IsBeside like hands (record s { mark = if b then Some (top_of s.window) else None; clock = c }) (started b f)
  begun-accounted true s f c h =
      record {
        window = h.window;
        part = h.joined.part;
        ready = h.joined.ready;
        mark = top-alike s.window f.window h.window;
      }
  begun-accounted false s f c h = record { window = h.window; part = h.joined.part; ready = h.joined.ready; mark = tt }

  left-accounted : (left : Option ℕ) (s : State) (f : UmFlow) (c : Clock) → Stands s f
      → IsMark left f.mark f.window.width
      → IsBeside like hands (record s { mark = mark_begun left s.window.edge (top_of s.window); clock = c })
      (started (is_none left && nat_lt s.window.edge (top_of s.window)) f)
  left-accounted None s f c h m = begun-accounted (nat_lt s.window.edge (top_of s.window)) s f c h
  left-accounted (Some x) s f c h m =
      record { window = h.window; part = h.joined.part; ready = h.joined.ready; mark = m }

  timed-accounted : (s : State) (f : UmFlow) → Stands s f → IsMark s.mark f.mark f.window.width
      → IsBeside like hands (timed s) (started (starts s.mark s.window) f)
  timed-accounted s f h m =
      left-accounted (mark_left s.mark s.window.edge) s f (clock_turned (turned_by s.mark s.window) s.clock) h
      (left-mark s.mark s.window.edge f.mark f.window.width m)

  -- ---- a PDU comes

  stands : (s : State) (f : UmFlow) → IsBeside like hands s f → Stands s f
  stands s f h = record { window = h.window; joined = record { part = h.part; ready = h.ready } }

  -- it is read as the same number
  read-alike : (w : Window) (u : UmWindow) (sn : ℕ) → KeepsAlike like w u
      → number_of w sn ≡ raised_number u.width (um.top_of u) sn
  read-alike w u sn h =
      let low : top_of w - w.width ≡ um.top_of u + u.width =
      ap (λ (n : ℕ). n - w.width) (top-alike w u h)
      ∙ (ap (λ (n : ℕ). um.top_of u + 2 * u.width - n) h.width ∙ omega arith) in
      ap (λ (n : ℕ). n + ahead sn (n % (2 * w.width)) (2 * w.width)) low
      ∙ ap (λ (n : ℕ). um.top_of u + u.width + ahead sn ((um.top_of u + u.width) % (2 * n)) (2 * n)) h.width

  -- what comes of it, and the account behind it
  abbrev IsLanded : Landed → ℕ → Parts → State → UmFlow → Type 0
  IsLanded l x p s f = IsBeside like hands (after_landing l x p s) (started (turned_on l x p s).started f)

  -- kept or dropped alike
  module _ (p : Parts) (pieces : List Piece) (s : State) (f : UmFlow) (c : CarryAlike like p pieces)
      (h : IsBeside like hands s f) where
    kept-accounted : (at : ℕ)
        → IsBeside like hands (timed (kept at p s))
        (started (starts s.mark (kept at p s).window) (flows.kept at pieces f))
    kept-accounted at =
        timed-accounted (kept at p s) (flows.kept at pieces f)
        (kept-stands at p pieces s f c (stands s f h)) h.mark

    drops-alike : (x n : ℕ) → x ≡ n + 2 * f.window.width
        → (nat_lt x s.window.edge || is_some (slot_at s.window.slots (x - s.window.edge)))
        ≡ is_dropped n f.window
    drops-alike x n e =
        let edge = h.window.edge in
        let below : nat_lt x s.window.edge ≡ nat_lt n f.window.edge = grind (arith, nat_tests, e, edge) in
        let at : x - s.window.edge ≡ n - f.window.edge = omega (arith, e, edge) in
        ap (λ (b : Bool). b || is_some (slot_at s.window.slots (x - s.window.edge))) below
        ∙ ap (λ (b : Bool). nat_lt n f.window.edge || b)
        (ap (λ (k : ℕ). is_some (slot_at s.window.slots k)) at
        ∙ kept_alike like s.window.slots f.window.pdus (n - f.window.edge) h.window.numbers)

    by-drop : (b : Bool) (x n : ℕ) → x - s.window.edge ≡ n - f.window.edge
        → IsLanded (if b then Repeat else Kept) x p s (if b then f else flows.kept (n - f.window.edge) pieces f)
    by-drop true x n e = h
    by-drop false x n e =
        subst (λ (k : ℕ). IsBeside like hands (timed (kept (x - s.window.edge) p s))
        (started (starts s.mark (kept (x - s.window.edge) p s).window) (flows.kept k pieces f))) e
        (kept-accounted (x - s.window.edge))

    some-accounted : (x n : ℕ) → x ≡ n + 2 * f.window.width
        → IsLanded (landed s x) x p s (flows.landed (Some n) pieces f)
    some-accounted x n e =
        let edge = h.window.edge in
        subst (λ (b : Bool). IsLanded (if b then Repeat else Kept) x p s (flows.landed (Some n) pieces f))
        (sym (drops-alike x n e))
        (by-drop (is_dropped n f.window) x n (omega (arith, e, edge)))

    none-accounted : (x : ℕ) → x < 2 * f.window.width → IsLanded (landed s x) x p s f
    none-accounted x low =
        let edge = h.window.edge in
        let below : nat_lt x s.window.edge ≡ true = grind (arith, nat_tests, low, edge) in
        subst (λ (b : Bool).
        IsLanded (if b || is_some (slot_at s.window.slots (x - s.window.edge)) then Repeat else Kept) x p s f)
        (sym below) h

    -- by the number as it is raised
    raised-accounted : (b : Bool) (x : ℕ) → nat_lt x (2 * f.window.width) ≡ b
        → IsLanded (landed s x) x p s (flows.landed (if b then None else Some (x - 2 * f.window.width)) pieces f)
    raised-accounted true x e = none-accounted x (grind (arith, nat_tests, e))
    raised-accounted false x e =
        let high : 2 * f.window.width ≤ x = grind (arith, nat_tests, e) in
        some-accounted x (x - 2 * f.window.width) (omega (arith, high))

  pub arrival_accounted : (s : State) (f : UmFlow) (pdu : UmdPdu) (number : ℕ) (pieces : List Piece)
      → pdu.sn ≡ number % (2 * f.window.width) → CarryAlike like (parts_of pdu) pieces → IsBeside like hands s f
      → IsBeside like hands (arrival pdu s)
      (started (turning pdu s).started (living (PduArrived number pieces) f))
  unfolding arrival turning
  arrival_accounted s f pdu number pieces sn c h =
      let g = numbered number f in
      let sn' = number % (2 * f.window.width) in
      let x = raised_number f.window.width (um.top_of f.window) sn' in
      let is : number_of s.window pdu.sn ≡ x =
      read-alike s.window f.window pdu.sn h.window
      ∙ ap (raised_number f.window.width (um.top_of f.window)) sn in
      subst (λ (n : ℕ). IsLanded (landed s n) n (parts_of pdu) s (flows.landed (read_in number f) pieces g)) (sym is)
      (raised-accounted (parts_of pdu) pieces s g c
      (record { window = h.window; part = h.part; ready = h.ready; mark = h.mark })
      (nat_lt x (2 * f.window.width)) x refl)

  -- ---- it expires

  expiry-accounted : (m : Option ℕ) (s : State) (f : UmFlow) → IsMark m f.mark f.window.width → Stands s f
      → IsMark s.mark f.mark f.window.width
      → IsBeside like hands (after_expiry m s) (expired_as (expiry m s) f)
  expiry-accounted None s f m h k = record { window = h.window; part = h.joined.part; ready = h.joined.ready; mark = k }
  expiry-accounted (Some x) s f m h k =
      let edge = h.window.edge in
      let at : x - s.window.edge ≡ f.mark - f.window.edge = omega (arith, m, edge) in
      subst (λ (n : ℕ). IsBeside like hands (timed (at_mark x s))
      (started (starts None (at_mark x s).window) (flows.advanced (flows.pass n f)))) at
      (timed-accounted (at_mark x s) (flows.advanced (flows.pass (x - s.window.edge) f))
      (record {
        window = (passed-on x s f h).window;
        joined = (passed-on x s f h).joined;
      }) tt)
    where
      passed-on : (x : ℕ) (s : State) (f : UmFlow) → Stands s f
          → Stands (advanced (pass (x - s.window.edge) s)) (flows.advanced (flows.pass (x - s.window.edge) f))
      passed-on x s f h =
          advanced-stands (pass (x - s.window.edge) s) (flows.pass (x - s.window.edge) f)
          (pass-stands (x - s.window.edge) s f h)

  pub expired_accounted : (s : State) (f : UmFlow) → IsBeside like hands s f
      → IsBeside like hands (expired s) (expired_as (expiring s) f)
  unfolding expired expiring
  expired_accounted s f h = expiry-accounted s.mark s f h.mark (stands s f h) h.mark

  -- ---- a life begins, and ends

  pub outset_accounted : (width reorder : ℕ) (f : UmFlow) → f.window ≡ um.empty_window width → f.joiner.part ≡ None
      → hands [] f.joiner → IsBeside like hands (start width reorder) f
  outset_accounted width reorder f w p r = record {
    window = subst (KeepsAlike like (start width reorder).window) (sym w)
        (record { width = refl; edge = omega arith; numbers = tt });
    part = rw p tt;
    ready = r;
    mark = tt;
  }

  pub ends_alike : (s : State) (f : UmFlow) → IsBeside like hands s f
      → JoinsAlike like hands (with_numbers s.window.slots s.joined) (with_pdus f.window.pdus f.joiner)
  ends_alike s f h =
      numbers_alike like hands is s.window.slots f.window.pdus s.joined f.joiner h.window.numbers
      (record { part = h.part; ready = h.ready })

-- ---- of octets

same-kind : IsKind SameOctets SameSdus
same-kind = record {
  goes = λ kept octets more others before place g h.
      ap (λ (l : List ℕ). l ++ more) g ∙ ap (λ (l : List ℕ). octets ++ l) h;
  more = λ ready kept octets place u k h.
      ap (λ (l : List (List ℕ)). l ++ kept ∷ []) h
      ∙ (ap (λ (x : List ℕ). map (λ (sdu : JoinedSdu). sdu.octets) u.ready ++ x ∷ []) k
      ∙ sym (map_push (λ (sdu : JoinedSdu). sdu.octets) u.ready (record { place = place; octets = octets })));
  free = λ ready part u h. h;
}

pub um_outset_is_accounted : UmOutsetIsAccounted
um_outset_is_accounted width reorder many =
    outset_accounted SameOctets SameSdus same-kind width reorder (empty_flow width many) refl refl refl

pub um_arrivals_are_accounted : UmArrivalsAreAccounted
um_arrivals_are_accounted = arrival_accounted SameOctets SameSdus same-kind

pub um_expiries_are_accounted : UmExpiriesAreAccounted
um_expiries_are_accounted = expired_accounted SameOctets SameSdus same-kind

pub um_handing_is_accounted : UmHandingIsAccounted
um_handing_is_accounted s f h = record {
  ticks = record { window = h.window; part = h.part; ready = h.ready; mark = h.mark };
  hands = record {
    window = h.window;
    part = h.part;
    ready = ap (drop 1) h.ready ∙ drop-map (λ (sdu : JoinedSdu). sdu.octets) 1 f.joiner.ready;
    mark = h.mark;
  };
}

pub um_lives_are_accounted : UmLivesAreAccounted
unfolding all_joined
um_lives_are_accounted s f h = record {
  up = (ends_alike SameOctets SameSdus same-kind s f h).ready;
  begins = λ reorder.
      outset_accounted SameOctets SameSdus same-kind f.window.width reorder (all_taken (ended f)) refl refl refl;
}
