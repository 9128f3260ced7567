-- What the receiver has kept of a number is what has come of it.
use Rattle.std.proofs.Common.{◌≡◌, ◌<◌, ◌≤◌, inl, inr, ℕ, zero, suc, ◌+◌, ◌-◌, ◌%◌, Bool, true, false, ◌==◌}
use Rattle.std.proofs.Common.{if◌then◌else◌, List, [], ◌∷◌, length, take, drop, slice_get, slice_range, slice_index_or}
use Rattle.std.proofs.Common.{Option, None, is_some, refl, ap, sym, ◌∙◌, arith}
use Rattle.std.specs.List.{AllByRecursion, list_all}
use Rattle.std.proofs.lemmas.Bool.Decides.{nat_tests}
use Rattle.std.proofs.lemmas.Bool.{cases_lt}
use Rattle.std.proofs.lemmas.List.{get_or_past, get_or-drop, length-drop}
use Rattle.rlc_pdu.specs.declared.Landed.{Landed}
use Rattle.rlc_pdu.specs.declared.Landed.TheVariants.{Kept, Repeat, Outside, Clash}
use Rattle.rlc_pdu.specs.Pdus.{AmdPdu}
use Rattle.rlc_am_rx_window.specs.Cells.{Cell, holds}
use Rattle.rlc_am_rx_window.specs.Held.{Held, nothing}
use Rattle.rlc_am_rx_window.specs.Piece.{Piece}
use Rattle.rlc_am_rx_window.specs.Window.{top, offset_of, slot_at, is_repeat}
use Rattle.rlc_am_rx.specs.State.{State}
use Rattle.law_rlc.specs.AmReceiver.Run.{Came, begin, place_has_come, number_read, IsComplete, IsFirst}
use Rattle.law_rlc.specs.AmReceiver.Finish.{arrived_in}
use Rattle.law_rlc.proofs.AmReceiver.Least.{Keeps, run-keeps, fresh-keeps, least}
use Rattle.law_rlc.proofs.AmReceiver.Places.{there, holds-each}
use Rattle.law_rlc.specs.AmSender.Octets.{Place}
use Rattle.law_rlc.specs.AmPair.Flow.{Flow, sender, receiver}
use Rattle.law_rlc.proofs.AmPair.Arrived.{told-length}
use Rattle.law_rlc.proofs.AmPair.Sound.{IsSound, IsKept}

-- ---- of a number that was sent

pub keeps_of : (f : Flow) → Keeps (receiver f)
keeps_of f = run-keeps f.heard (begin f.receiving) (fresh-keeps f.receiving)

-- below VR(R) all of it has been kept
pub kept_below : (f : Flow) (n i : ℕ) → IsSound f → n < (receiver f).state.window.front
    → i < length (slice_index_or (sender f).past.sent n [])
    → place_has_come (receiver f).kept n i ≡ true
kept_below f n i h lt within =
    let first : IsFirst (receiver f) = least f.receiving f.heard in
    let done : IsComplete (receiver f).kept n = first.below n lt in
    let size : done.0 ≡ length (slice_index_or (sender f).past.sent n []) =
    told-length (sender f).past.sent (receiver f).kept n done.0 h.kept done.1 in
    done.2 i (omega (arith, within, size))

pub kept_is : (f : Flow) (n i : ℕ) → IsSound f → i < length (slice_index_or (sender f).past.sent n [])
    → arrived_in (receiver f) n i ≡ place_has_come (receiver f).kept n i
kept_is f n i h within = elim (cases_lt n (receiver f).state.window.front) [
  | inl lt ↦ let k = kept_below f n i h lt within in grind (arith, nat_tests, k, lt)
  | inr ge ↦ grind (arith, nat_tests, ge)
]

-- from VR(H) on none has
pub none_above : (f : Flow) (n i : ℕ) → top (receiver f).state.window ≤ n → arrived_in (receiver f) n i ≡ false
none_above f n i le =
    let w = (receiver f).state.window in
    let k = n - w.front in
    let e : w.front + k ≡ n = omega (arith, le) in
    let past : slot_at w.slots k ≡ nothing = get_or_past w.slots k nothing (omega (arith, le)) in
    let c : place_has_come (receiver f).kept n i ≡ false = ap (λ (m : ℕ). place_has_come (receiver f).kept m i) (sym e)
    ∙ (sym (((keeps_of f).agrees.slots_match k).cells i) ∙ ap (λ (x : Held). there x.cells i) past) in
    let g : w.front ≤ n = omega (arith, le) in
    grind (arith, nat_tests, c, g)

-- a number that isn't sent has nothing that was kept
pub none_unsent : (sent : List (List Place)) (ps : List Came) (n i : ℕ) → AllByRecursion (IsKept sent) ps
    → length sent ≤ n → place_has_come ps n i ≡ false
none_unsent sent [] n i h le = refl
none_unsent sent (p ∷ ps) n i h le =
    let ih = none_unsent sent ps n i h.1 le in
    let k = h.0.known in
    let other : (p.number == n) ≡ false = grind (arith, nat_tests, k, le) in
    grind (arith, nat_tests, ih, other)

-- ---- a data PDU comes

-- a stretch of places that are all held
pub holds_range : (cells : List (Option Cell)) (so len i : ℕ) → holds cells so len ≡ true → so ≤ i → i < so + len
    → there cells i ≡ true
holds_range cells so len i h from to =
    let j = i - so in
    let e : so + j ≡ i = omega (arith, from) in
    let l = length-drop so cells in
    let n : so + len - so ≡ 0 + len - 0 = omega arith in
    let tests : holds cells so len ≡ true → holds (drop so cells) 0 len ≡ true = λ g.
    let all : list_all is_some (slice_range cells so (so + len)) ≡ true = grind (arith, nat_tests, g) in
    let enough : so + len ≤ length cells = grind (arith, nat_tests, g) in
    let same : list_all is_some (slice_range (drop so cells) 0 (0 + len)) ≡ true =
    ap (λ (m : ℕ). list_all is_some (take m (drop so cells))) (sym n) ∙ all in
    let fits : 0 + len ≤ length (drop so cells) = omega (arith, l, enough) in
    grind (arith, nat_tests, same, fits) in
    sym (ap (λ (x : Option Cell). is_some x) (get_or-drop so cells j None
    ∙ ap (λ (m : ℕ). slice_index_or cells m None) e))
    ∙ holds-each (drop so cells) len (tests h) j (omega (arith, from, to))

-- of a PDU of a number that is near enough
pub record IsNear (s : State) (p : AmdPdu) (n : ℕ) : Type 0 where
  pub sn : p.sn ≡ n % 1024
  pub from : s.window.front ≤ n + 512
  pub below : n < s.window.front + 512

pub read_in : (s : State) (p : AmdPdu) (n : ℕ) → IsNear s p n → offset_of s.window.front p.sn < 512
    → number_read s p ≡ n
read_in s p n h lt = let a = h.sn in let b = h.from in let c = h.below in omega (arith, a, b, c, lt)

pub far_below : (s : State) (p : AmdPdu) (n : ℕ) → IsNear s p n → 512 ≤ offset_of s.window.front p.sn
    → n < s.window.front
far_below s p n h le = let a = h.sn in let b = h.from in let c = h.below in omega (arith, a, b, c, le)

-- the test that a landing made
pub record Landing (far repeat clash : Bool) (l : Landed) : Type 0 where
  pub outside : l ≡ Outside → far ≡ true
  pub inside : (l ≡ Outside → ⊥) → far ≡ false
  pub again : l ≡ Repeat → repeat ≡ true

pub landing_is : (far repeat clash : Bool)
    → Landing far repeat clash (if far then Outside else if repeat then Repeat else if clash then Clash else Kept)
landing_is true b c = record { outside = λ e. refl; inside = λ e. absurd (e refl); again = λ e. cc }
landing_is false true c = record { outside = λ e. cc; inside = λ e. refl; again = λ e. refl }
landing_is false false true = record { outside = λ e. cc; inside = λ e. refl; again = λ e. cc }
landing_is false false false = record { outside = λ e. cc; inside = λ e. refl; again = λ e. cc }

pub repeat_held : (slots : List Held) (at : ℕ) (p : Piece) → 1 ≤ length p.cells
    → is_repeat (slice_get slots at) p ≡ true
    → holds (slot_at slots at).cells p.so (length p.cells) ≡ true
repeat_held [] at p some e = cc
repeat_held (s ∷ ss) zero p some e = e
repeat_held (s ∷ ss) (suc at) p some e = repeat_held ss at p some e
