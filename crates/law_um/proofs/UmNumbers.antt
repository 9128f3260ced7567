-- What is kept alike of numbers stays so as they are passed and more are kept.
use Rattle.std.proofs.Common.{◌≡◌, ℕ, zero, suc, ◌+◌, ◌-◌, List, [], ◌∷◌, ◌++◌, length, take, drop, replicate}
use Rattle.std.proofs.Common.{Option, Some, None, is_some, min, refl, ap, sym, subst, ◌∙◌, arith}
use Rattle.std.specs.Prelude.{slice_set}
use Rattle.rlc_um.specs.Joined.{Parts}
use Rattle.rlc_um.specs.Window.{Window, passed, leading, slot_at, grown, with_placed}
use Rattle.journal_um.specs.declared.pieces.Piece.{Piece}
use Rattle.journal_um.specs.UmWindow as um
use Rattle.journal_um.specs.UmWindow.{UmWindow, pdu_at}
use Rattle.law_um.specs.UmReceiving.{Likeness, CarryAlike, IsAlike, AreAlike, KeepsAlike}

module _ (like : Likeness) where
  pub lengths_alike : (slots : List (Option Parts)) (pdus : List (Option (List Piece))) → AreAlike like slots pdus
      → length slots ≡ length pdus
  lengths_alike [] [] a = refl
  lengths_alike [] (pdu ∷ pdus) a = absurd a
  lengths_alike (slot ∷ slots) [] a = absurd a
  lengths_alike (slot ∷ slots) (pdu ∷ pdus) a = ap suc (lengths_alike slots pdus a.1)

  pub first_alike : (n : ℕ) (slots : List (Option Parts)) (pdus : List (Option (List Piece))) → AreAlike like slots pdus
      → AreAlike like (take n slots) (take n pdus)
  first_alike zero slots pdus a = tt
  first_alike (suc n) [] [] a = tt
  first_alike (suc n) [] (pdu ∷ pdus) a = absurd a
  first_alike (suc n) (slot ∷ slots) [] a = absurd a
  first_alike (suc n) (slot ∷ slots) (pdu ∷ pdus) a = (a.0, first_alike n slots pdus a.1)

  rest-alike : (n : ℕ) (slots : List (Option Parts)) (pdus : List (Option (List Piece))) → AreAlike like slots pdus
      → AreAlike like (drop n slots) (drop n pdus)
  rest-alike zero slots pdus a = a
  rest-alike (suc n) [] [] a = tt
  rest-alike (suc n) [] (pdu ∷ pdus) a = absurd a
  rest-alike (suc n) (slot ∷ slots) [] a = absurd a
  rest-alike (suc n) (slot ∷ slots) (pdu ∷ pdus) a = rest-alike n slots pdus a.1

  pub leading_alike : (slots : List (Option Parts)) (pdus : List (Option (List Piece))) → AreAlike like slots pdus
      → leading slots ≡ um.leading pdus
  leading_alike [] [] a = refl
  leading_alike [] (pdu ∷ pdus) a = absurd a
  leading_alike (slot ∷ slots) [] a = absurd a
  leading_alike (None ∷ slots) (None ∷ pdus) a = refl
  leading_alike (None ∷ slots) (Some pieces ∷ pdus) a = absurd a.0
  leading_alike (Some p ∷ slots) (None ∷ pdus) a = absurd a.0
  leading_alike (Some p ∷ slots) (Some pieces ∷ pdus) a = ap (λ (n : ℕ). n + 1) (leading_alike slots pdus a.1)

  some-alike : (o : Option Parts) (pdu : Option (List Piece)) → IsAlike like o pdu → is_some o ≡ is_some pdu
  some-alike None None a = refl
  some-alike None (Some pieces) a = absurd a
  some-alike (Some p) None a = absurd a
  some-alike (Some p) (Some pieces) a = refl

  pub kept_alike : (slots : List (Option Parts)) (pdus : List (Option (List Piece))) (at : ℕ) → AreAlike like slots pdus
      → is_some (slot_at slots at) ≡ is_some (pdu_at pdus at)
  kept_alike [] [] at a = refl
  kept_alike [] (pdu ∷ pdus) at a = absurd a
  kept_alike (slot ∷ slots) [] at a = absurd a
  kept_alike (slot ∷ slots) (pdu ∷ pdus) zero a = some-alike slot pdu a.0
  kept_alike (slot ∷ slots) (pdu ∷ pdus) (suc at) a = kept_alike slots pdus at a.1

  -- ---- one more is kept

  none-alike : (n : ℕ) → AreAlike like (replicate n None) (replicate n None)
  none-alike zero = tt
  none-alike (suc n) = (tt, none-alike n)

  both-alike : (slots more : List (Option Parts)) (pdus others : List (Option (List Piece))) → AreAlike like slots pdus
      → AreAlike like more others → AreAlike like (slots ++ more) (pdus ++ others)
  both-alike [] more [] others a b = b
  both-alike [] more (pdu ∷ pdus) others a b = absurd a
  both-alike (slot ∷ slots) more [] others a b = absurd a
  both-alike (slot ∷ slots) more (pdu ∷ pdus) others a b = (a.0, both-alike slots more pdus others a.1 b)

  grown-alike : (slots : List (Option Parts)) (pdus : List (Option (List Piece))) (size : ℕ) → AreAlike like slots pdus
      → AreAlike like (grown slots size) (um.grown pdus size)
  grown-alike slots pdus size a =
      subst (λ (n : ℕ). AreAlike like (slots ++ replicate (size - n) None) (um.grown pdus size))
      (sym (lengths_alike slots pdus a))
      (both-alike slots (replicate (size - length pdus) None) pdus (replicate (size - length pdus) None) a
      (none-alike (size - length pdus)))

  set-alike : (slots : List (Option Parts)) (pdus : List (Option (List Piece))) (at : ℕ) (p : Parts)
      (pieces : List Piece) → CarryAlike like p pieces → AreAlike like slots pdus
      → AreAlike like (slice_set slots at (Some p)) (slice_set pdus at (Some pieces))
  set-alike [] [] at p pieces c a = tt
  set-alike [] (pdu ∷ pdus) at p pieces c a = absurd a
  set-alike (slot ∷ slots) [] at p pieces c a = absurd a
  set-alike (slot ∷ slots) (pdu ∷ pdus) zero p pieces c a = (c, a.1)
  set-alike (slot ∷ slots) (pdu ∷ pdus) (suc at) p pieces c a = (a.0, set-alike slots pdus at p pieces c a.1)

  -- ---- the window

  pub passed_alike : (n : ℕ) (w : Window) (u : UmWindow) → KeepsAlike like w u
      → KeepsAlike like (passed n w) (um.passed n u)
  passed_alike n w u h =
      let size = lengths_alike w.slots u.pdus h.numbers in
      let edge = h.edge in
      record {
        width = h.width;
        edge = ap (λ (k : ℕ). w.edge + min n k) size
            ∙ (ap (λ (k : ℕ). k + min n (length u.pdus)) edge ∙ omega arith);
        numbers = rest-alike n w.slots u.pdus h.numbers;
      }

  pub placed_alike : (at : ℕ) (p : Parts) (pieces : List Piece) (w : Window) (u : UmWindow) → CarryAlike like p pieces
      → KeepsAlike like w u → KeepsAlike like (with_placed at p w) (um.with_placed at pieces u)
  placed_alike at p pieces w u c h = record {
    width = h.width;
    edge = h.edge;
    numbers = set-alike (grown w.slots (at + 1)) (um.grown u.pdus (at + 1)) at p pieces c
        (grown-alike w.slots u.pdus (at + 1) h.numbers);
  }
