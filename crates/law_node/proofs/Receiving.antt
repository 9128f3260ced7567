-- What an acknowledged receiver holds of a number is so short that a STATUS can name its places.
use Rattle.std.proofs.Common.{◌≡◌, ◌≤◌, ℕ, zero, suc, ◌+◌, ◌-◌, nat_le, Bool, true, false, if◌then◌else◌, Option, Some}
use Rattle.std.proofs.Common.{None, List, [], ◌∷◌, ◌++◌, length, map, drop, replicate, set, slice_get, length-append}
use Rattle.std.proofs.Common.{refl, ap, arith}
use Rattle.std.proofs.lemmas.Bool.Decides.{nat_tests}
use Rattle.rlc_am_rx_window.specs.Cells.{Cell, over, placed}
use Rattle.rlc_am_rx_window.specs.Held.{Held, nothing, with_piece}
use Rattle.rlc_am_rx_window.specs.Piece.{Piece, end_of, piece_of}
use Rattle.rlc_am_rx_window.specs.Window.{RxWindow, widened, slot_at, is_repeat, is_clash, landing, offset_of}
use Rattle.rlc_am_rx_window.specs.Window.{with_kept}
use Rattle.rlc_am_rx_window.specs.Window.{complete_first}
use Rattle.rlc_am_rx.specs.Machine.{landed as landed_on, window_with, after_landing, arrived, after_reorder}
use Rattle.rlc_am_rx.specs.State.{State}
use Rattle.rlc_pdu.specs.declared.outcome.Landed.{Landed}
use Rattle.rlc_pdu.specs.declared.outcome.Landed.TheVariants.{Kept, Repeat, Outside, Clash}
use Rattle.rlc_pdu.specs.Pdus.{AmdPdu}

abbrev IsShort : Held → Type 0
IsShort h = length h.cells ≤ 32767

abbrev pub AreShort : List Held → Type 0
AreShort [] = Unit {0}
AreShort (h ∷ hs) = IsShort h × AreShort hs

at_short : (hs : List Held) (at : ℕ) → AreShort hs → IsShort (slot_at hs at)
at_short [] at a = omega arith
at_short (h ∷ hs) zero a = a.0
at_short (h ∷ hs) (suc at) a = at_short hs at a.1

set_short : (hs : List Held) (at : ℕ) (x : Held) → AreShort hs → IsShort x → AreShort (set hs at x)
set_short [] at x a i = tt
set_short (h ∷ hs) zero x a i = (i, a.1)
set_short (h ∷ hs) (suc at) x a i = (a.0, set_short hs at x a.1 i)

append_short : (hs gs : List Held) → AreShort hs → AreShort gs → AreShort (hs ++ gs)
append_short [] gs a b = b
append_short (h ∷ hs) gs a b = (a.0, append_short hs gs a.1 b)

none_short : (n : ℕ) → AreShort (replicate n nothing)
none_short zero = tt
none_short (suc n) = (omega arith, none_short n)

drop_short : (n : ℕ) (hs : List Held) → AreShort hs → AreShort (drop n hs)
drop_short zero [] a = tt
drop_short zero (h ∷ hs) a = a
drop_short (suc n) [] a = tt
drop_short (suc n) (h ∷ hs) a = drop_short n hs a.1

-- ---- a piece that is kept

over_length : (xs ys : List (Option Cell)) → length xs ≤ 32767 → length ys ≤ 32767 → length (over xs ys) ≤ 32767
over_length xs ys a b = within xs ys 32767 a b
  where
    within : (xs ys : List (Option Cell)) (n : ℕ) → length xs ≤ n → length ys ≤ n → length (over xs ys) ≤ n
    within [] ys n a b = b
    within (x ∷ xs) [] n a b = a
    within (x ∷ xs) (y ∷ ys) n a b = omega (arith, within xs ys (n - 1) (omega (arith, a)) (omega (arith, b)), a)

gap_length : (n : ℕ) → length (replicate {A = Option Cell} n None) ≡ n
gap_length zero = refl
gap_length (suc n) = ap suc (gap_length n)

somes_length : (cs : List Cell) → length (map (λ c. Some c) cs) ≡ length cs
somes_length [] = refl
somes_length (c ∷ cs) = ap suc (somes_length cs)

placed_length : (so : ℕ) (cs : List Cell) → length (placed so cs) ≡ so + length cs
placed_length so cs =
    omega (
      arith,
      length-append (replicate {A = Option Cell} so None) (map (λ c. Some c) cs),
      gap_length so,
      somes_length cs,
    )

piece_short : (h : Held) (p : Piece) (poll : Bool) → IsShort h → end_of p ≤ 32767 → IsShort (with_piece h p poll)
piece_short h p poll a e = over_length h.cells (placed p.so p.cells) a (omega (arith, placed_length p.so p.cells, e))

fresh_by : (repeat clash : Bool) → (if repeat then Repeat else if clash then Clash else Kept) ≡ Kept → clash ≡ false
fresh_by true clash e = let no : Repeat ≡ Kept = e in cc
fresh_by false true e = let no : Clash ≡ Kept = e in cc
fresh_by false false e = refl

no_clash : (held : Option Held) (p : Piece) → is_clash held p ≡ false → end_of p ≤ 32767
no_clash None p e = grind (arith, nat_tests)
no_clash (Some h) p e = grind (arith, nat_tests)

fresh_within : (t : Bool) (held : Option Held) (p : Piece) → (if t then Outside else landing held p) ≡ Kept
    → end_of p ≤ 32767
fresh_within true held p e = let no : Outside ≡ Kept = e in absurd cc
fresh_within false held p e = no_clash held p (fresh_by (is_repeat held p) (is_clash held p) e)

kept_short : (w : RxWindow) (at : ℕ) (p : Piece) (poll : Bool) → AreShort w.slots → end_of p ≤ 32767
    → AreShort (with_kept w at p poll).slots
kept_short w at p poll a e =
    let wide = append_short w.slots (replicate (at + 1 - length w.slots) nothing) a
    (none_short (at + 1 - length w.slots)) in
    set_short (widened w.slots (at + 1)) at (with_piece (slot_at (widened w.slots (at + 1)) at) p poll) wide
    (piece_short (slot_at (widened w.slots (at + 1)) at) p poll (at_short (widened w.slots (at + 1)) at wide) e)

-- ---- the calls

landing_short : (l : Landed) (s : State) (p : AmdPdu) → landed_on s p ≡ l → AreShort s.window.slots
    → AreShort (after_landing l s p).window.slots
landing_short Kept s p e a =
    let at = offset_of s.window.front p.sn in
    let w = window_with s.window p in
    drop_short (complete_first w.slots) w.slots
    (kept_short s.window at (piece_of p) p.poll a
    (fresh_within (nat_le 512 at) (slice_get s.window.slots at) (piece_of p) e))
landing_short Repeat s p e a = a
landing_short Outside s p e a = a
landing_short Clash s p e a = a

pub arrived_short : (s : State) (p : AmdPdu) → AreShort s.window.slots → AreShort (arrived s p).window.slots
arrived_short s p a = landing_short (landed_on s p) s p refl a

pub reorder_short : (mark : Option ℕ) (s : State) → AreShort s.window.slots
    → AreShort (after_reorder mark s).window.slots
reorder_short None s a = a
reorder_short (Some x) s a = a
