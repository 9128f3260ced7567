-- The field of each number.
use Rattle.std.proofs.Common.{◌≡◌, ◌≤◌, inl, inr, ℕ, suc, ◌+◌, Bool, true, false, ◌||◌, List, [], ◌∷◌, length}
use Rattle.std.proofs.Common.{slice_get, slice_index_or, Some, None, refl, sym, subst, arith, nat_lt}
use Rattle.std.proofs.lemmas.Bool.Decides.{nat_tests}
use Rattle.std.proofs.lemmas.Bool.{cases_lt}
use Rattle.law_rlc.specs.AmSender.Octets.{Place}
use Rattle.rlc_am_rx_window.specs.Cells.{Cell, cell}
use Rattle.law_rlc.specs.AmReceiver.Stream.{IsField}
use Rattle.law_rlc.specs.AmPair.Fields.{next_begins, field_of}
use Rattle.law_rlc.proofs.AmPair.Parts.{aired-field}
use Rattle.law_rlc.proofs.AmPair.Sound.{AllAired, Agree}

pub sent-field : (sent : List (List Place)) → Agree sent (field_of sent)
sent-field sent n lt = let b : nat_lt n (length sent) ≡ true = grind (arith, nat_tests) in rw b refl

pub unsent-field : (sent : List (List Place)) (n : ℕ) → length sent ≤ n
    → field_of sent n ≡ cell 0 (nat_lt (length sent) n || next_begins true sent) true ∷ []
unsent-field sent n le = let b : nat_lt n (length sent) ≡ false = grind (arith, nat_tests) in rw b refl

one-field : (begins : Bool) → IsField (cell 0 begins true ∷ [])
one-field begins = record { some = omega arith; few = omega arith; edges = λ i c d e f. absurd (none i d f) }
  where
    none : (i : ℕ) (d : Cell) → slice_get (cell 0 begins true ∷ []) (i + 1) ≡ Some d → ⊥
    none i d f = let n : i + 1 ≡ suc i = omega arith in let no' : None ≡ Some d =
        subst (λ (k : ℕ). slice_get (cell 0 begins true ∷ []) k ≡ Some d) n f in cc

pub are-fields : (sent : List (List Place)) → AllAired sent → (n : ℕ) → IsField (field_of sent n)
are-fields sent a n = elim (cases_lt n (length sent)) [
  | inl known ↦ subst (λ (cs : List Cell). IsField cs) (sym (sent-field sent n known))
      (aired-field (slice_index_or sent n []) (a n known))
  | inr above ↦ subst (λ (cs : List Cell). IsField cs) (sym (unsent-field sent n above))
      (one-field (nat_lt (length sent) n || next_begins true sent))
]
