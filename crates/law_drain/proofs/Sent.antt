-- What a data PDU leaves due.
use Rattle.std.proofs.Common.{◌≡◌, ◌<◌, ◌≤◌, inl, inr, ℕ, zero, suc, ◌+◌, ◌-◌, ◌*◌, Bool, true, false, not}
use Rattle.std.proofs.Common.{◌&&◌}
use Rattle.std.proofs.Common.{◌==◌, [], ◌∷◌, ◌++◌, length}
use Rattle.std.proofs.Common.{refl}
use Rattle.std.proofs.Common.{ap, sym, subst, ◌∙◌, arith, nat_le, nat_lt, set, length-append}
use Rattle.std.proofs.Common.{get_or-set_same}
use Rattle.std.proofs.lemmas.Bool.Decides.{nat_tests}
use Rattle.std.proofs.Math.ListN.{length-set}
use Rattle.rlc_am_tx_window.specs.Sent.{Sent}
use Rattle.rlc_am_tx_window.specs.Window.{TxWindow, nothing, slot_at}
use Rattle.law_rlc.specs.AmSender.Namings.{Marks}
use Rattle.law_rlc.specs.AmSender.Namings.{resent}
use Rattle.law_rlc.proofs.AmSender.Least.{at-old, at-new}
use Rattle.law_rlc.proofs.AmSender.Heard.{Holds}
use Rattle.law_rlc.proofs.AmSender.Marked.{same-number}
use Rattle.law_drain.specs.Dues.{sum_below, pdu_dues, window_dues}
use Rattle.law_drain.proofs.Sums.{sum_below_less, waiting_of_none}
use Rattle.law_drain.proofs.Heard.{pdu_dues_fewer, pdu_dues_less, both}
use Rattle.law_drain.proofs.Named.{set-slot}

-- ---- a PDU is sent again

-- octets of the field of a slot, of which one waits, wait no longer
pub resent-dues : (w : TxWindow) (m : Marks) (most at i from to : ℕ) (x : Sent) → at < length w.slots
    → x.field ≡ (slot_at w.slots at).field → x.acked ≡ (slot_at w.slots at).acked
    → i < length (slot_at w.slots at).field → from ≤ i → i < to → m.waits (w.base + at) i ≡ true
    → window_dues most (record w { slots = set w.slots at x }) (resent m (w.base + at) from to) + 1
    ≤ window_dues most w m
resent-dues w m most at i from to x lt field acked i_in low high on =
    let len = length-set w.slots at x in
    let all = sum_below_less (length w.slots) at after' was lt
    (subst (λ (s : Sent). pdu_dues most s ((resent m (w.base + at) from to).waits (w.base + at))
    (m.namings (w.base + at)) + 1 ≤ was at) (sym (get_or-set_same w.slots at x nothing lt))
    (pdu_dues_less most (m.namings (w.base + at)) i (slot_at w.slots at) x (m.waits (w.base + at))
    ((resent m (w.base + at) from to).waits (w.base + at)) field acked i_in gone on (fewer at)))
    (λ k k_in. other k k_in) in
    let same : sum_below (length (set w.slots at x)) after' ≡ sum_below (length w.slots) after' =
    ap (λ (n : ℕ). sum_below n after') len in
    omega (arith, all, same)
  where
    was : ℕ → ℕ
    was k = pdu_dues most (slot_at w.slots k) (m.waits (w.base + k)) (m.namings (w.base + k))

    after' : ℕ → ℕ
    after' k = pdu_dues most (slot_at (set w.slots at x) k) ((resent m (w.base + at) from to).waits (w.base + k))
        (m.namings (w.base + k))

    gone : (resent m (w.base + at) from to).waits (w.base + at) i ≡ false
    gone =
        let a : nat_le from i ≡ true = grind (arith, nat_tests) in
        let b : nat_lt i to ≡ true = grind (arith, nat_tests) in
        rw (same-number w.base at, a, b) (off (m.waits (w.base + at) i))
      where
        off : (b : Bool) → (b && not (true && (true && true))) ≡ false
        off true = refl
        off false = refl

    fewer : (k j : ℕ) → j < length (slot_at w.slots k).field
        → (resent m (w.base + at) from to).waits (w.base + k) j ≡ true → m.waits (w.base + k) j ≡ true
    fewer k j j_in e =
        both (m.waits (w.base + k) j) (not ((w.base + k == w.base + at) && (nat_le from j && nat_lt j to))) e

    other : (k : ℕ) → k < length w.slots → after' k ≤ was k
    other k k_in = elim (set-slot w.slots at x k k_in) [
      | inl here ↦ rw here.1
          (pdu_dues_fewer most (m.namings (w.base + k)) (slot_at w.slots k) x (m.waits (w.base + k))
          ((resent m (w.base + at) from to).waits (w.base + k))
          (field ∙ ap (λ (j : ℕ). (slot_at w.slots j).field) (sym here.0))
          (acked ∙ ap (λ (j : ℕ). (slot_at w.slots j).acked) (sym here.0)) (fewer k))
      | inr there ↦ rw there.1
          (pdu_dues_fewer most (m.namings (w.base + k)) (slot_at w.slots k) (slot_at w.slots k) (m.waits (w.base + k))
          ((resent m (w.base + at) from to).waits (w.base + k)) refl refl (fewer k))
    ]

-- ---- a new PDU is sent

-- an octet that is sent first may be sent once less
pub new_octets : (most left size : ℕ) → (most + 1) * (left + size) ≡ (most + 1) * left + size * most + size
new_octets most left size = omega arith

pub new-dues : (w : TxWindow) (m : Marks) (most : ℕ) (x : Sent) → x.acked ≡ false → Holds w m most
    → window_dues most (record w { slots = w.slots ++ x ∷ [] }) m ≡ length x.field * most + window_dues most w m
new-dues w m most x unacked h =
    let n = length w.slots in
    let none = h.above (w.base + n) (omega arith) in
    let len : length (w.slots ++ x ∷ []) ≡ suc n = length-append w.slots (x ∷ []) ∙ omega arith in
    let last : due n ≡ length x.field * most =
    ap (λ (s : Sent). pdu_dues most s (m.waits (w.base + n)) (m.namings (w.base + n))) (at-new w.slots x n refl)
    ∙ rw (unacked, none.0)
    (let z = waiting_of_none (length x.field) (m.waits (w.base + n)) none.1 in
    let whole' : length x.field * (most - 0) ≡ length x.field * most =
    ap (λ (k : ℕ). length x.field * k) (omega arith) in omega (arith, z, whole')) in
    ap (λ (k : ℕ). sum_below k due) len
    ∙ ap (λ (k : ℕ). k + sum_below n due) last
    ∙ ap (λ (k : ℕ). length x.field * most + k) (old n (omega arith))
  where
    due : ℕ → ℕ
    due k = pdu_dues most (slot_at (w.slots ++ x ∷ []) k) (m.waits (w.base + k)) (m.namings (w.base + k))

    old : (n : ℕ) → n ≤ length w.slots → sum_below n due
        ≡ sum_below n (λ k. pdu_dues most (slot_at w.slots k) (m.waits (w.base + k)) (m.namings (w.base + k)))
    old zero le = refl
    old (suc n) le = rw (at-old w.slots x n (omega (arith, le)), old n (omega (arith, le))) refl
