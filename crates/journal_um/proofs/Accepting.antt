-- Which numbers are accepted, along a history.
use Rattle.std.proofs.Common.{◌≡◌, ◌<◌, ◌≤◌, ℕ, suc, ◌+◌, ◌*◌, ◌%◌, Bool, true, false, ◌&&◌, not}
use Rattle.std.proofs.Common.{if◌then◌else◌, List, [], ◌∷◌, Option, Some, None, is_some, nat_le, ◌==◌}
use Rattle.std.proofs.Common.{inl, inr, refl, ap, sym, subst, ◌∙◌, arith, unwrap_or}
use Rattle.std.specs.List.{Contains}
use Rattle.std.specs.Option.{option_or}
use Rattle.std.proofs.lemmas.Bool.{cases_lt, cases_eq, ne_eqb}
use Rattle.std.proofs.lemmas.Bool.Decides.{nat_tests}
use Rattle.std.proofs.lemmas.Option.{none-some}
use Rattle.l2_num.specs.Least.{IsLeast}
use Rattle.l2_num.proofs.LeastLemmas.{past_least}
use Rattle.journal_um.specs.declared.pieces.Piece.{Piece}
use Rattle.journal_um.specs.UmEvents.{UmEvent, PduArrived, ReorderStarted, ReorderExpired}
use Rattle.journal_um.specs.UmNumbers.{read_number, read_as, number_above, top_in, mark_in, base_in}
use Rattle.journal_um.specs.UmNumbers.{is_number, offered_as, pdu_of, is_accepted, edge_in}
use Rattle.journal_um.specs.UmLosses.{far_came, ComeInTime}
use Rattle.journal_um.specs.Laws.{DropsBelowEdge}
use Rattle.journal_um.specs.LossLaws.{AcceptsTruly}
use Rattle.journal_um.proofs.Either.{neither}
use Rattle.journal_um.proofs.Reading.{near_truly, top_true}

pub nothing_else : (o : Option (List Piece)) → option_or o None ≡ o
nothing_else None = refl
nothing_else (Some p) = refl

is_other : (o : Option ℕ) (n : ℕ) → number_above o ≤ n → is_number o n ≡ false
is_other None n h = refl
is_other (Some x) n h = ne_eqb x n (λ e. omega (arith, h, e))

-- no number at or above VR(UH) was accepted
pub none_above : (width : ℕ) (es : List UmEvent) (n : ℕ) → top_in width es ≤ n → pdu_of width es n ≡ None
none_above width [] n h = refl
none_above width (e ∷ es) n h =
    let old = none_above width es n (omega (arith, h)) in
    let new = is_other (read_as width (top_in width es) e) n (omega (arith, h)) in
    rw (old, new) refl

pub mark_low : (width : ℕ) (es : List UmEvent) → mark_in width es ≤ top_in width es
mark_low width [] = omega arith
mark_low width (PduArrived number pieces ∷ es) = let ih = mark_low width es in omega (arith, ih)
mark_low width (ReorderStarted ∷ es) = omega arith
mark_low width (ReorderExpired ∷ es) = let ih = mark_low width es in omega (arith, ih)

-- VR(UR) is the least number that it should be
pub edge_least : (width : ℕ) (es : List UmEvent)
    → IsLeast (is_accepted width es) (base_in width es) (edge_in width es)
edge_least width es =
    past_least (is_accepted width es) (base_in width es) (base_in width es) (top_in width es) (omega arith)
    (λ n a b. absurd (omega (arith, a, b)))
    (ap is_some (none_above width es (base_in width es + top_in width es) (omega arith)))

pub least_one : (p : ℕ → Bool) (m k l : ℕ) → IsLeast p m k → IsLeast p m l → k ≡ l
least_one p m k l g h = elim (cases_lt k l) [
  | inl lt ↦ absurd (let yes = h.before k g.from lt in let no = g.refused in cc)
  | inr le ↦ elim (cases_lt l k) [
    | inl lt ↦ absurd (let yes = g.before l h.from lt in let no = h.refused in cc)
    | inr ge ↦ omega (arith, le, ge)
  ]
]

least_tests : (p : ℕ → Bool) (m k n : ℕ) → IsLeast p m k
    → (nat_le m n && not (p n)) ≡ (nat_le k n && not (p n))
least_tests p m k n h = elim (cases_lt n k) [
  | inl lt ↦ elim (cases_lt n m) [
    | inl out ↦ grind (arith, nat_tests, lt, out)
    | inr from ↦
        let yes = h.before n from lt in rw yes (grind (arith, nat_tests, lt, from))
  ]
  | inr le ↦ let from = h.from in grind (arith, nat_tests, le, from)
]

pub drops_below_edge : DropsBelowEdge
drops_below_edge width n es some =
    least_tests (is_accepted width es) (base_in width es) (edge_in width es) n (edge_least width es)

-- ---- what was accepted under a number came with it

comes-later : (e x : UmEvent) (es : List UmEvent) → Contains es x → Contains (e ∷ es) x
comes-later e x es c = (suc c.0, omega (arith, c.1), c.2)

comes-now : (e : UmEvent) (es : List UmEvent) → Contains (e ∷ es) e
comes-now e es = (0, omega arith, refl)

chosen : (b : Bool) (own pieces : List Piece) → (if b then Some own else None) ≡ Some pieces → own ≡ pieces
chosen true own pieces e = ap (λ (o : Option (List Piece)). unwrap_or o own) e
chosen false own pieces e = absurd (none-some pieces e)

offered-truly : (number n : ℕ) (b : Bool) (own pieces : List Piece) (es : List UmEvent)
    → (if (number == n) && b then Some own else None) ≡ Some pieces
    → Contains (PduArrived number own ∷ es) (PduArrived n pieces)
offered-truly number n b own pieces es e = elim (cases_eq number n) [
  | inl same ↦
      let alike : PduArrived number own ≡ PduArrived n pieces =
      ap (λ (m : ℕ). PduArrived m own) same
      ∙ ap (λ (ps : List Piece). PduArrived n ps) (chosen ((number == n) && b) own pieces e) in
      subst (λ (x : UmEvent). Contains (PduArrived number own ∷ es) x) alike (comes-now (PduArrived number own) es)
  | inr other ↦
      let none = ap (λ (t : Bool). if t && b then Some own else None) (ne_eqb number n other) in
      absurd (none-some pieces (sym none ∙ e))
]

arrived-truly : (o : Option (List Piece)) (width number n : ℕ) (own pieces : List Piece) (es : List UmEvent)
    → read_number width (top_in width es) (number % (2 * width)) ≡ Some number
    → (o ≡ Some pieces → Contains es (PduArrived n pieces))
    → option_or o (offered_as width (PduArrived number own) es n) ≡ Some pieces
    → Contains (PduArrived number own ∷ es) (PduArrived n pieces)
arrived-truly (Some p) width number n own pieces es is old e =
    comes-later (PduArrived number own) (PduArrived n pieces) es (old e)
arrived-truly None width number n own pieces es is old e =
    offered-truly number n (nat_le (base_in width es) n) own pieces es
    (sym (ap (λ (o : Option ℕ). if is_number o n && nat_le (base_in width es) n then Some own else None) is) ∙ e)

came-so : (width n : ℕ) (pieces : List Piece) (es : List UmEvent) → 0 < width → ComeInTime width es
    → far_came width es ≡ false → pdu_of width es n ≡ Some pieces → Contains es (PduArrived n pieces)
came-so width n pieces [] some time short e = absurd (none-some pieces e)
came-so width n pieces (PduArrived number own ∷ es) some time short e =
    let parts = neither (far_came width es) (nat_le (top_in width es + width) number) short in
    let top = top_true width es some time.1 parts.first in
    arrived-truly (pdu_of width es n) width number n own pieces es
    (near_truly width number es some time.0 parts.second top)
    (λ old. came-so width n pieces es some time.1 parts.first old) e
came-so width n pieces (ReorderStarted ∷ es) some time short e =
    let parts = neither (far_came width es) false short in
    comes-later ReorderStarted (PduArrived n pieces) es
    (came-so width n pieces es some time.1 parts.first (sym (nothing_else (pdu_of width es n)) ∙ e))
came-so width n pieces (ReorderExpired ∷ es) some time short e =
    let parts = neither (far_came width es) false short in
    comes-later ReorderExpired (PduArrived n pieces) es
    (came-so width n pieces es some time.1 parts.first (sym (nothing_else (pdu_of width es n)) ∙ e))

pub accepts_truly : AcceptsTruly
accepts_truly width n pieces es some short e = came-so width n pieces es some short.in_time short.near e
