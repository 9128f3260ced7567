-- What a slot holds ends with an octet, and with the field where its length is told.
use Rattle.std.proofs.Common.{◌≡◌, ◌<◌, ◌≤◌, inl, inr, ℕ, suc, zero, ◌+◌, ◌==◌, Bool, true, false, ◌||◌, ◌&&◌, List, []}
use Rattle.std.proofs.Common.{◌∷◌, length, Option, Some, None, slice_get, refl, sym, subst, ◌∙◌, arith, ltb, leb, max}
use Rattle.std.proofs.Common.{if◌then◌else◌}
use Rattle.std.proofs.lemmas.Bool.{cases_lt, cases_eq, leb-false, ltb-false, lt-ltb, lt-leb, le-leb}
use Rattle.std.proofs.lemmas.List.{get_or-drop}
use Rattle.rlc_pdu.specs.declared.Landed.{Landed}
use Rattle.rlc_pdu.specs.declared.Landed.TheVariants.{Kept, Repeat, Outside, Clash}
use Rattle.rlc_pdu.specs.Pdus.{AmdPdu}
use Rattle.rlc_am_rx_window.specs.Cells.{differ}
use Rattle.rlc_am_rx_window.specs.Piece.{Piece, piece_of, end_of}
use Rattle.rlc_am_rx_window.specs.Held.{Held, nothing, with_piece, told_size, size_differs, disagrees}
use Rattle.rlc_am_rx_window.specs.Window.{RxWindow, offset_of, complete_first, with_kept, slot_at, is_repeat, is_clash}
use Rattle.rlc_am_rx.specs.State.{State}
use Rattle.rlc_am_rx.specs.Machine.{landed, after_landing, after_reorder, window_with}
use Rattle.law_rlc.specs.AmReceiver.Run.{Call, Arrive, Up, Write, ExpireReorder, ExpireProhibit, TickReorder}
use Rattle.law_rlc.specs.AmReceiver.Run.{TickProhibit, state_after}
use Rattle.law_rlc.specs.AmReceiver.Status.{BringsSome}
use Rattle.law_rlc.proofs.AmReceiver.Places.{there, length_laid, laid_there}
use Rattle.law_rlc.proofs.AmReceiver.Least.{kept-same, kept-other}

pub record SlotWell (h : Held) : Type 0 where
  pub sized : (n : ℕ) → h.size ≡ Some n → n ≡ length h.cells
  pub last : (n : ℕ) → length h.cells ≡ suc n → there h.cells n ≡ true

pub nothing-well : SlotWell nothing
nothing-well = record { sized = λ n e. let none : None ≡ Some n = e in cc; last = λ n e. absurd (omega (arith, e)) }

differ_same : (a b : Bool) → differ a b ≡ false → a ≡ b
differ_same true true e = refl
differ_same true false e = cc
differ_same false true e = cc
differ_same false false e = refl

size_told : (o : Option ℕ) (last : Bool) (have end n : ℕ) → ((m : ℕ) → o ≡ Some m → m ≡ have)
    → size_differs o have last end ≡ false → told_size o last end ≡ Some n → n ≡ max have end
size_told (Some m) last have end n was agree e =
    let same : Some m ≡ Some n = e in
    let is : m ≡ n = cc in
    let within : ltb m end ≡ false = left (ltb m end) (differ last (m == end)) agree in
    omega (arith, is, was m refl, ltb-false m end within)
  where
    left : (a b : Bool) → (a || b) ≡ false → a ≡ false
    left true b e = cc
    left false b e = refl
size_told None true have end n was agree e =
    let same : Some end ≡ Some n = e in
    let is : end ≡ n = cc in
    let above : leb end have ≡ false = agree in
    omega (arith, is, leb-false end have above)
size_told None false have end n was agree e = let none : None ≡ Some n = e in cc

piece-well : (h : Held) (p : Piece) (poll : Bool) → 1 ≤ length p.cells
    → size_differs h.size (length h.cells) p.last (end_of p) ≡ false → SlotWell h → SlotWell (with_piece h p poll)
piece-well h p poll some agree w = record {
  sized = λ n e. size_told h.size p.last (length h.cells) (end_of p) n w.sized agree e
      ∙ sym (length_laid h.cells p.so p.cells);
  last = λ n e.
      let count : max (length h.cells) (end_of p) ≡ suc n = sym (length_laid h.cells p.so p.cells) ∙ e in
      laid_there h.cells p.so p.cells n ∙ elim (cases_lt n (end_of p)) [
        | inl below ↦ within n (omega (arith, count, below, some)) below
        | inr past ↦ let was : there h.cells n ≡ true = w.last n (omega (arith, count, past)) in
            rw was (or_true (leb p.so n && ltb n (end_of p)))
      ];
}
  where
    or_true : (a : Bool) → (a || true) ≡ true
    or_true true = refl
    or_true false = refl

    within : (n : ℕ) → p.so ≤ n → n < end_of p → ((leb p.so n && ltb n (end_of p)) || there h.cells n) ≡ true
    within n a b = rw (le-leb p.so n a, lt-ltb n (end_of p) b) refl

abbrev pub Well : List Held → Type 0
Well slots = (k : ℕ) → SlotWell (slot_at slots k)

no_clash : (slots : List Held) (at : ℕ) (p : Piece) → 1 ≤ length p.cells → is_clash (slice_get slots at) p ≡ false
    → size_differs (slot_at slots at).size (length (slot_at slots at).cells) p.last (end_of p) ≡ false
no_clash [] at p some agree = go p.last
  where
    go : (b : Bool) → (b && leb (end_of p) 0) ≡ false
    go true = lt_leb (omega (arith, some))
      where
        lt_leb : 0 < end_of p → leb (end_of p) 0 ≡ false
        lt_leb h = lt-leb (end_of p) 0 h
    go false = refl
no_clash (s ∷ ss) zero p some agree =
    middle (ltb 32767 (end_of p)) (size_differs s.size (length s.cells) p.last (end_of p)) (disagrees s.cells p) agree
  where
    middle : (a b c : Bool) → (a || b || c) ≡ false → b ≡ false
    middle true b c e = cc
    middle false true c e = cc
    middle false false c e = refl
no_clash (s ∷ ss) (suc at) p some agree = no_clash ss at p some agree

kept-well : (w : RxWindow) (at : ℕ) (p : Piece) (poll : Bool) → 1 ≤ length p.cells
    → is_clash (slice_get w.slots at) p ≡ false → Well w.slots → Well (with_kept w at p poll).slots
kept-well w at p poll some agree well k = elim (cases_eq k at) [
  | inl same ↦ subst (λ (j : ℕ). SlotWell (slot_at (with_kept w at p poll).slots j)) (sym same)
      (subst (λ (h : Held). SlotWell h) (sym (kept-same w at p poll))
      (piece-well (slot_at w.slots at) p poll some (no_clash w.slots at p some agree) (well at)))
  | inr other ↦ subst (λ (h : Held). SlotWell h) (sym (kept-other w at p poll k other)) (well k)
]

kept_no_clash : (s : State) (p : AmdPdu) → landed s p ≡ Kept
    → is_clash (slice_get s.window.slots (offset_of s.window.front p.sn)) (piece_of p) ≡ false
kept_no_clash s p e = go (leb 512 at) (is_repeat held (piece_of p)) (is_clash held (piece_of p)) e
  where
    at : ℕ
    at = offset_of s.window.front p.sn

    held : Option Held
    held = slice_get s.window.slots at

    go : (a b c : Bool) → (if a then Outside else if b then Repeat else if c then Clash else Kept) ≡ Kept → c ≡ false
    go true b c e = cc
    go false true c e = cc
    go false false true e = cc
    go false false false e = refl

landing-well : (l : Landed) (s : State) (p : AmdPdu) → 1 ≤ length (piece_of p).cells
    → (l ≡ Kept → is_clash (slice_get s.window.slots (offset_of s.window.front p.sn)) (piece_of p) ≡ false)
    → Well s.window.slots → Well (after_landing l s p).window.slots
landing-well Kept s p some agree well = λ k.
    subst (λ (x : Held). SlotWell x)
    (sym (get_or-drop (complete_first (window_with s.window p).slots) (window_with s.window p).slots k nothing))
    (kept-well s.window (offset_of s.window.front p.sn) (piece_of p) p.poll some (agree refl) well
    (complete_first (window_with s.window p).slots + k))
landing-well Repeat s p some agree well = well
landing-well Outside s p some agree well = well
landing-well Clash s p some agree well = well

expiry-well : (m : Option ℕ) (s : State) → Well s.window.slots → Well (after_reorder m s).window.slots
expiry-well None s well = well
expiry-well (Some x) s well = well

pub call-well : (s : State) (c : Call) → BringsSome c → Well s.window.slots → Well (state_after s c).window.slots
call-well s (Arrive p) some well = landing-well (landed s p) s p some (kept_no_clash s p) well
call-well s Up some well = well
call-well s Write some well = well
call-well s ExpireReorder some well = expiry-well s.mark s well
call-well s ExpireProhibit some well = well
call-well s TickReorder some well = well
call-well s TickProhibit some well = well
