-- What the slots hold.
use Rattle.std.proofs.Common.{◌≡◌, ◌<◌, ◌≤◌, inl, inr, ℕ, suc, zero, ◌+◌, ◌-◌, true, false, List, [], ◌∷◌, ◌++◌, length}
use Rattle.std.proofs.Common.{take, drop, replicate, Option, Some, None, is_some, refl, ap, sym, subst, ◌∙◌, arith}
use Rattle.std.proofs.Common.{add-one, length-append, get_or-set_same, get_or-set_other, max, ◌==◌}
use Rattle.std.proofs.lemmas.List.{get_or-drop}
use Rattle.std.proofs.lemmas.Bool.{cases_eq, ne_eqb, eq-eqb}
use Rattle.std.proofs.Math.ListN.{length-set, length-replicate}
use Rattle.rlc_um.specs.Joined.{Parts, Joined, with_number, with_numbers}
use Rattle.rlc_um.specs.Window.{leading, slot_at, grown, placed}
use Rattle.law_rlc.specs.UmPair.Run.{Accepted, found, joined_below}
use Rattle.law_rlc.proofs.UmPair.Joins.{Follows, follows-number, joined-push, joined-below}

pub leading-le : (slots : List (Option Parts)) → leading slots ≤ length slots
leading-le [] = omega arith
leading-le (None ∷ ss) = omega arith
leading-le (Some p ∷ ss) = let ih = leading-le ss in omega arith

pub leading-some : (slots : List (Option Parts)) (k : ℕ) → k < leading slots → is_some (slot_at slots k) ≡ true
leading-some [] k h = absurd (omega arith)
leading-some (None ∷ ss) k h = absurd (omega arith)
leading-some (Some p ∷ ss) zero h = refl
leading-some (Some p ∷ ss) (suc k) h = leading-some ss k (omega arith)

pub leading-stop : (slots : List (Option Parts)) → is_some (slot_at slots (leading slots)) ≡ false
leading-stop [] = refl
leading-stop (None ∷ ss) = refl
leading-stop (Some p ∷ ss) = rw (add-one (leading ss)) (leading-stop ss)

pub slot-drop : (n k : ℕ) (slots : List (Option Parts)) → slot_at (drop n slots) k ≡ slot_at slots (n + k)
slot-drop n k slots = get_or-drop n slots k None

-- nothing is where the list doesn't reach
slot-replicated : (n k : ℕ) → slot_at (replicate n None) k ≡ None
slot-replicated zero k = refl
slot-replicated (suc n) zero = refl
slot-replicated (suc n) (suc k) = slot-replicated n k

slot-padded : (slots : List (Option Parts)) (n k : ℕ) → slot_at (slots ++ replicate n None) k ≡ slot_at slots k
slot-padded [] n k = slot-replicated n k
slot-padded (s ∷ ss) n zero = refl
slot-padded (s ∷ ss) n (suc k) = slot-padded ss n k

length-grown : (slots : List (Option Parts)) (size : ℕ) → length (grown slots size) ≡ max (length slots) size
length-grown slots size =
    omega (
      arith,
      length-append slots (replicate (size - length slots) None),
      length-replicate {A = Option Parts} (size - length slots) None,
    )

pub length-placed : (slots : List (Option Parts)) (at : ℕ) (p : Parts)
    → length (placed slots at p) ≡ max (length slots) (at + 1)
length-placed slots at p = length-set (grown slots (at + 1)) at (Some p) ∙ length-grown slots (at + 1)

pub placed-same : (slots : List (Option Parts)) (at : ℕ) (p : Parts) → slot_at (placed slots at p) at ≡ Some p
placed-same slots at p =
    get_or-set_same (grown slots (at + 1)) at (Some p) None (omega (arith, length-grown slots (at + 1)))

pub placed-other : (slots : List (Option Parts)) (at k : ℕ) (p : Parts) → (k ≡ at → ⊥)
    → slot_at (placed slots at p) k ≡ slot_at slots k
placed-other slots at k p other = get_or-set_other (grown slots (at + 1)) at k (Some p) None other
    ∙ slot-padded slots (at + 1 - length slots) k

-- what is kept and what was joined, from the numbers that were accepted
pub record Sound (log : List Accepted) (first front : ℕ) (slots : List (Option Parts)) (gone : List (List ℕ))
    (j : Joined) : Type 0 where
  pub low : first ≤ front
  pub slots_are : (k : ℕ) → slot_at slots k ≡ found log (front + k)
  pub joined : Follows gone j (joined_below log first front)

sound-one : (log : List Accepted) (first front : ℕ) (s : Option Parts) (ss : List (Option Parts))
    (gone : List (List ℕ)) (j : Joined) → Sound log first front (s ∷ ss) gone j
    → Sound log first (front + 1) ss gone (with_number s j)
sound-one log first front s ss gone j h =
    let here : s ≡ found log front = h.slots_are 0 ∙ ap (found log) (omega arith) in
    let more : with_number s (joined_below log first front) ≡ joined_below log first (front + 1) =
    ap (λ (o : Option Parts). with_number o (joined_below log first front)) here
    ∙ sym (joined-push log first front h.low) in
    record {
      low = let l = h.low in omega arith;
      slots_are = λ k. h.slots_are (suc k) ∙ ap (found log) (omega arith);
      joined = subst (λ (k : Joined). Follows gone (with_number s j) k) more
          (follows-number gone s j (joined_below log first front) h.joined);
    }

pub sound-pass : (n : ℕ) (log : List Accepted) (first front : ℕ) (slots : List (Option Parts)) (gone : List (List ℕ))
    (j : Joined) → n ≤ length slots → Sound log first front slots gone j
    → Sound log first (front + n) (drop n slots) gone (with_numbers (take n slots) j)
sound-pass zero log first front slots gone j h s = subst (λ (f : ℕ). Sound log first f slots gone j) (omega arith) s
sound-pass (suc n) log first front [] gone j h s = absurd (omega arith)
sound-pass (suc n) log first front (x ∷ xs) gone j h s =
    subst (λ (f : ℕ). Sound log first f (drop n xs) gone (with_numbers (take n xs) (with_number x j))) (omega arith)
    (sound-pass n log first (front + 1) xs gone (with_number x j) (omega arith)
    (sound-one log first front x xs gone j s))

found-same : (n : ℕ) (p : Parts) (log : List Accepted) → found (record { number = n; parts = p } ∷ log) n ≡ Some p
found-same n p log = let e : (n == n) ≡ true = eq-eqb n n refl in rw e refl

pub found-else : (a : Accepted) (log : List Accepted) (n : ℕ) → (a.number ≡ n → ⊥) → found (a ∷ log) n ≡ found log n
found-else a log n other = let e = ne_eqb a.number n other in rw e refl

pub sound-place : (log : List Accepted) (first front at : ℕ) (p : Parts) (slots : List (Option Parts))
    (gone : List (List ℕ)) (j : Joined) → Sound log first front slots gone j
    → Sound (record { number = front + at; parts = p } ∷ log) first front (placed slots at p) gone j
sound-place log first front at p slots gone j h = record {
  low = h.low;
  slots_are = λ k. elim (cases_eq k at) [
    | inl same ↦ subst (λ (i : ℕ). slot_at (placed slots at p) i
        ≡ found (record { number = front + at; parts = p } ∷ log) (front + i)) (sym same)
        (placed-same slots at p ∙ sym (found-same (front + at) p log))
    | inr other ↦ placed-other slots at k p other ∙ h.slots_are k
        ∙ sym (found-else (record { number = front + at; parts = p }) log (front + k) (λ e. other (omega arith)))
  ];
  joined =
      subst (λ (k : Joined). Follows gone j k)
      (sym (joined-below (record { number = front + at; parts = p }) log first front h.low (omega arith))) h.joined;
}
