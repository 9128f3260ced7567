-- What a sender accepts, and what it drops too late, leave no SDU empty that waits, and room for COUNTs.
use Rattle.std.proofs.Common.{◌≡◌, ◌≢◌, ℕ, ◌+◌, ◌≤◌, ◌^◌, Bool, true, false, if◌then◌else◌, nat_lt, nat_le, List}
use Rattle.std.proofs.Common.{[], ◌∷◌, ◌++◌, map, drop, length, Some, None, refl, arith}
use Rattle.std.specs.Prelude.{◌==◌}
use Rattle.l2_bits.specs.declared.fault.SubmitRefusal.TheVariants.{Empty, TooLong, Full, CountEnd}
use Rattle.pdcp_tx_store.specs.Waiting.{Waits}
use Rattle.pdcp_tx.specs.State.{State, refusal}

abbrev pub AreNonempty : List (List ℕ) → Type 0
AreNonempty [] = Unit {0}
AreNonempty (x ∷ xs) = (x ≢ []) × AreNonempty xs

refused_by : (a b c d : Bool)
    → (if a then Some Empty
    else (if b then Some TooLong else (if c then Some Full else (if d then Some CountEnd else None)))) ≡ None
    → (a ≡ false) × (d ≡ false)
refused_by true b c d e = absurd cc
refused_by false true c d e = absurd cc
refused_by false false true d e = absurd cc
refused_by false false false true e = absurd cc
refused_by false false false false e = (refl, refl)

pub accepted : (s : State) (sdu : List ℕ) → refusal s sdu ≡ None
    → ((length sdu == 0) ≡ false) × ((s.next + length s.waiting == 2 ^ 32) ≡ false)
unfolding refusal
accepted s sdu e =
    refused_by (length sdu == 0) (nat_lt 8188 (length sdu)) (nat_le 1024 (length s.waiting))
    (s.next + length s.waiting == 2 ^ 32) e

pub not_empty : (sdu : List ℕ) → (length sdu == 0) ≡ false → sdu ≢ []
not_empty [] e = absurd cc
not_empty (x ∷ xs) e = λ q. absurd cc

pub queue_push : (ws : List Waits) (w : Waits) → AreNonempty (map (λ w. w.sdu) ws) → w.sdu ≢ []
    → AreNonempty (map (λ w. w.sdu) (ws ++ w ∷ []))
queue_push [] w h i = (i, tt)
queue_push (x ∷ ws) w h i = (h.0, queue_push ws w h.1 i)

pub late_room : (b : Bool) (ws : List Waits) (n : ℕ) → n + length ws ≤ 2 ^ 32
    → n + length (if b then drop 1 ws else ws) ≤ 2 ^ 32
late_room true [] n h = h
late_room true (w ∷ ws) n h = omega (arith, h)
late_room false ws n h = h

pub late_some : (b : Bool) (ws : List Waits) → AreNonempty (map (λ w. w.sdu) ws)
    → AreNonempty (map (λ w. w.sdu) (if b then drop 1 ws else ws))
late_some true [] h = h
late_some true (w ∷ ws) h = h.1
late_some false ws h = h
