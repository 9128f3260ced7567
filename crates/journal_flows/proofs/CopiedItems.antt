-- Copying a list item by item.
use Rattle.std.proofs.Common.{◌≡◌, ℕ, ◌+◌, ◌≤◌, List, [], ◌∷◌, ◌++◌, drop, length, Some, ap, sym, ◌∙◌}
use Rattle.std.proofs.Common.{append_assoc, append-nil}
use Rattle.std.specs.Prelude.{slice_get}
use Rattle.air_record.proofs.Gets.{drop-get}
use Rattle.journal_flows.proofs.Places.{drop_past}

pub copies_one : {A : Type 0} (copy xs : List A) (at : ℕ) (x : A) → slice_get xs at ≡ Some x
    → (copy ++ x ∷ []) ++ drop (at + 1) xs ≡ copy ++ drop at xs
copies_one copy xs at x h =
    append_assoc copy (x ∷ []) (drop (at + 1) xs) ∙ ap (λ (ys : List _). copy ++ ys) (sym (drop-get xs at x h))

pub copies_all : {A : Type 0} (copy xs : List A) (at : ℕ) → length xs ≤ at → copy ++ drop at xs ≡ copy
copies_all copy xs at h = ap (λ (ys : List _). copy ++ ys) (drop_past xs at h) ∙ append-nil copy

pub ruleset copies = (copies_one, copies_all)
