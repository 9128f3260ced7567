-- A PDU that carries a part of its number's field doesn't clash.
use Rattle.std.proofs.Common.{◌≡◌, ◌<◌, ◌≤◌, ℕ, suc, zero, ◌+◌, ◌-◌, Bool, true, false, ◌&&◌, List, [], ◌∷◌, length}
use Rattle.std.proofs.Common.{Option, Some, None, slice_get, refl, ap, sym, subst, ◌∙◌, arith, ltb, leb, if◌then◌else◌}
use Rattle.std.proofs.lemmas.Bool.{lt-ltb, le-ltb, lt-leb, leb-false, eq-eqb, ne_eqb}
use Rattle.l2_types.specs.declared.AmRxConfig.{AmRxConfig}
use Rattle.rlc_pdu.specs.declared.Landed.TheVariants.{Kept, Repeat, Outside, Clash}
use Rattle.rlc_pdu.specs.Pdus.{AmdPdu}
use Rattle.rlc_am_rx_window.specs.Cells.{Cell, cell_at, edge_between, edge_behind, differ, denies, ends_otherwise}
use Rattle.rlc_am_rx_window.specs.Cells.{begins_otherwise}
use Rattle.rlc_am_rx_window.specs.Piece.{Piece, piece_of, end_of}
use Rattle.rlc_am_rx_window.specs.Held.{Held, size_differs, clashes}
use Rattle.rlc_am_rx_window.specs.Window.{offset_of, slot_at, is_repeat, is_clash, landing}
use Rattle.rlc_am_rx.specs.Machine.{landed}
use Rattle.law_rlc.specs.AmReceiver.Run.{Call, Arrive, Up, Write, ExpireReorder, ExpireProhibit, TickReorder}
use Rattle.law_rlc.specs.AmReceiver.Run.{TickProhibit}
use Rattle.law_rlc.specs.AmReceiver.Stream.{IsField, IsPart, IsHonest, AreHonest, Flow, flows, initial, NoneClashes}
use Rattle.law_rlc.proofs.AmReceiver.InSequence.{Fits, SlotFits, Flows, number-sent, call-flows, initial-flows}

differ_same : (b : Bool) → differ b b ≡ false
differ_same true = refl
differ_same false = refl

no_denial : (x y : Option Cell) (b : Bool) → ((c : Cell) → x ≡ Some c → c.ends ≡ b)
    → ((c : Cell) → y ≡ Some c → c.begins ≡ b) → denies (edge_between x y) b ≡ false
no_denial (Some c) y b f g = rw (f c refl) (differ_same b)
no_denial None (Some c) b f g = rw (g c refl) (differ_same b)
no_denial None None b f g = refl

same_cell : (field : List Cell) (i : ℕ) (c d : Cell) → slice_get field i ≡ Some c → slice_get field i ≡ Some d → c ≡ d
same_cell field i c d e f = let same : Some c ≡ Some d = sym e ∙ f in cc

ends_agree : (field : List Cell) → IsField field → (cells : List (Option Cell)) → Fits cells field
    → (new : List Cell) (at : ℕ) → ((j : ℕ) (c : Cell) → slice_get new j ≡ Some c → slice_get field (at + j) ≡ Some c)
    → ends_otherwise cells at new ≡ false
ends_agree field is cells f [] at part = refl
ends_agree field is cells f (n ∷ ns) at part =
    let here : slice_get field at ≡ Some n =
    subst (λ (k : ℕ). slice_get field k ≡ Some n) (omega arith) (part 0 n refl) in
    let one : denies (edge_behind cells at) n.ends ≡ false =
    no_denial (cell_at cells at) (cell_at cells (at + 1)) n.ends
    (λ c e. ap (λ (d : Cell). d.ends) (same_cell field at c n (f at c e) here))
    (λ c e. sym (is.edges at n c here (f (at + 1) c e))) in
    rw one
    (ends_agree field is cells f ns (at + 1)
    (λ j c e. subst (λ (k : ℕ). slice_get field k ≡ Some c) (omega arith) (part (suc j) c e)))

and_false : (b : Bool) → (b && false) ≡ false
and_false true = refl
and_false false = refl

begins_agree : (field : List Cell) → IsField field → (cells : List (Option Cell)) → Fits cells field → (p : Piece)
    → IsPart field p → begins_otherwise cells p.so p.begins ≡ false
begins_agree field is cells f p part =
    go p.so p.cells part.some (λ d e. subst (λ (k : ℕ). slice_get field k ≡ Some d) (omega arith) (part.part 0 d e))
    part.begins
  where
    go : (so : ℕ) (new : List Cell) → 1 ≤ length new
        → ((d : Cell) → slice_get new 0 ≡ Some d → slice_get field so ≡ Some d)
        → ((d : Cell) → slice_get new 0 ≡ Some d → p.begins ≡ d.begins) → begins_otherwise cells so p.begins ≡ false
    go so [] some here begins = absurd (omega (arith, some))
    go zero (n ∷ ns) some here begins = refl
    go (suc k) (n ∷ ns) some here begins =
        let less : suc k - 1 ≡ k = omega arith in
        let next : k + 1 ≡ suc k = omega arith in
        let first : slice_get field (k + 1) ≡ Some n = rw next (here n refl) in
        let none : denies (edge_behind cells k) p.begins ≡ false =
        no_denial (cell_at cells k) (cell_at cells (k + 1)) p.begins
        (λ c e. is.edges k c n (f k c e) first ∙ sym (begins n refl))
        (λ c e. ap (λ (d : Cell). d.begins) (same_cell field (k + 1) c n (f (k + 1) c e) first) ∙ sym (begins n refl))
        in
        rw (less, none) (and_false (ltb 0 (suc k)))

sizes_agree : (field : List Cell) (h : Held) → SlotFits h field → (p : Piece) → IsPart field p
    → size_differs h.size (length h.cells) p.last (end_of p) ≡ false
sizes_agree field h fits p part =
    go h.size p.last (λ n e. fits.size n e) (λ e. fits.short e) (λ e. part.last e) (λ e. part.on e)
  where
    go : (o : Option ℕ) (last : Bool) → ((n : ℕ) → o ≡ Some n → n ≡ length field)
        → (o ≡ None → length h.cells < length field) → (last ≡ true → end_of p ≡ length field)
        → (last ≡ false → end_of p < length field)
        → size_differs o (length h.cells) last (end_of p) ≡ false
    go (Some n) true size short ends on =
        let e : n ≡ end_of p = size n refl ∙ sym (ends refl) in
        rw (le-ltb n (end_of p) (omega (arith, e)), eq-eqb n (end_of p) e) refl
    go (Some n) false size short ends on =
        let e : n ≡ length field = size n refl in
        rw (le-ltb n (end_of p) (omega (arith, e, on refl)), ne_eqb n (end_of p) (λ f. omega (arith, e, f, on refl)))
        refl
    go None true size short ends on = lt-leb (end_of p) (length h.cells) (omega (arith, short refl, ends refl))
    go None false size short ends on = refl

fits_none : (field : List Cell) → IsField field → (p : Piece) → IsPart field p → ltb 32767 (end_of p) ≡ false
fits_none field is p part = le-ltb 32767 (end_of p) (within p.last refl)
  where
    within : (b : Bool) → p.last ≡ b → end_of p ≤ 32767
    within true e = omega (arith, part.last e, is.few)
    within false e = omega (arith, part.on e, is.few)

not_clash : (field : List Cell) → IsField field → (h : Held) → SlotFits h field → (p : Piece) → IsPart field p
    → clashes h p ≡ false
not_clash field is h fits p part =
    rw (fits_none field is p part, sizes_agree field h fits p part, begins_agree field is h.cells fits.cells p part)
    (ends_agree field is h.cells fits.cells p.cells p.so part.part)

lands : (field : List Cell) → IsField field → (o : Option Held) → ((h : Held) → o ≡ Some h → SlotFits h field)
    → (p : Piece) → IsPart field p → landing o p ≡ Clash → ⊥
lands field is o fits p part e = go (is_repeat o p) (is_clash o p) (none o fits) e
  where
    none : (o : Option Held) → ((h : Held) → o ≡ Some h → SlotFits h field) → is_clash o p ≡ false
    none None f = fits_none field is p part
    none (Some h) f = not_clash field is h (f h refl) p part

    go : (a b : Bool) → b ≡ false → (if a then Repeat else if b then Clash else Kept) ≡ Clash → ⊥
    go true b n e = cc
    go false true n e = cc
    go false false n e = cc

slot_is : (slots : List Held) (k : ℕ) (h : Held) → slice_get slots k ≡ Some h → slot_at slots k ≡ h
slot_is [] k h e = let no : None ≡ Some h = e in cc
slot_is (s ∷ ss) zero h e = let same : Some s ≡ Some h = e in cc
slot_is (s ∷ ss) (suc k) h e = slot_is ss k h e

call_lands : (field : ℕ → List Cell) → ((n : ℕ) → IsField (field n)) → (f : Flow) (p : AmdPdu)
    → IsHonest field f.state (Arrive p) → Flows field f → landed f.state p ≡ Clash → ⊥
call_lands field is f p honest h e = go (leb 512 at) refl e
  where
    at : ℕ
    at = offset_of f.state.window.front p.sn

    go : (b : Bool) → leb 512 at ≡ b
        → (if b then Outside else landing (slice_get f.state.window.slots at) (piece_of p)) ≡ Clash → ⊥
    go true out e = cc
    go false in_it e =
        let below : ltb at 512 ≡ true = lt-ltb at 512 (leb-false 512 at in_it) in
        lands (field (f.state.window.front + at)) (is (f.state.window.front + at)) (slice_get f.state.window.slots at)
        (λ s same. subst (λ (x : Held). SlotFits x (field (f.state.window.front + at)))
        (slot_is f.state.window.slots at s same) (h.fits at))
        (piece_of p) (number-sent field f.state p honest.0 honest.1 below) e

none_from : (field : ℕ → List Cell) → ((n : ℕ) → IsField (field n)) → (calls : List Call) (f : Flow)
    → AreHonest field f.state calls → Flows field f → NoneClashes f.state calls
none_from field is [] f honest h = tt
none_from field is (Arrive p ∷ cs) f honest h = (
  call_lands field is f p honest.0 h,
  none_from field is cs (flows f (Arrive p)) honest.1 (call-flows field f (Arrive p) honest.0 h),
)
none_from field is (Up ∷ cs) f honest h = none_from field is cs (flows f Up) honest.1 (call-flows field f Up honest.0 h)
none_from field is (Write ∷ cs) f honest h =
    none_from field is cs (flows f Write) honest.1 (call-flows field f Write honest.0 h)
none_from field is (ExpireReorder ∷ cs) f honest h =
    none_from field is cs (flows f ExpireReorder) honest.1 (call-flows field f ExpireReorder honest.0 h)
none_from field is (ExpireProhibit ∷ cs) f honest h =
    none_from field is cs (flows f ExpireProhibit) honest.1 (call-flows field f ExpireProhibit honest.0 h)
none_from field is (TickReorder ∷ cs) f honest h =
    none_from field is cs (flows f TickReorder) honest.1 (call-flows field f TickReorder honest.0 h)
none_from field is (TickProhibit ∷ cs) f honest h =
    none_from field is cs (flows f TickProhibit) honest.1 (call-flows field f TickProhibit honest.0 h)

pub none_clashes : (field : ℕ → List Cell) (config : AmRxConfig) (calls : List Call) → ((n : ℕ) → IsField (field n))
    → AreHonest field (initial config).state calls → NoneClashes (initial config).state calls
none_clashes field config calls is honest =
    none_from field is calls (initial config) honest (initial-flows field config is)
