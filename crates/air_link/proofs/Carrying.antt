-- Records are looked at one after the other.
use Rattle.std.proofs.Common.{◌≡◌, ◌||◌, ℕ, zero, suc, ◌+◌, false, List, [], ◌∷◌, length, drop, slice_get, refl}
use Rattle.std.proofs.Common.{add-one, subst}
use Rattle.std.specs.Prelude.{Option}
use Rattle.std.specs.List.{list_any}
use Rattle.air_record.specs.declared.record.Record.{Record}
use Rattle.pdu_show.specs.declared.kinds.Layout.{Layout}
use Rattle.air_link.specs.Draining.{is_carried_by}
use Rattle.pdu_show.specs.Carried.{is_carried}

pub any_at : (kinds : List (Option Layout)) (xs : List Record) (at : ℕ)
    → list_any (is_carried kinds) (drop at xs)
    ≡ (is_carried_by kinds (slice_get xs at) || list_any (is_carried kinds) (drop (at + 1) xs))
any_at kinds [] at = go at
  where
    go : (n : ℕ) → list_any (is_carried kinds) (drop n [])
        ≡ (is_carried_by kinds (slice_get [] n) || list_any (is_carried kinds) (drop (n + 1) []))
    go zero = refl
    go (suc n) = rw (add-one (suc n)) refl
any_at kinds (x ∷ xs) zero = refl
any_at kinds (x ∷ xs) (suc k) =
    rw (add-one (suc k))
    (subst (λ (m : ℕ). list_any (is_carried kinds) (drop k xs)
    ≡ (is_carried_by kinds (slice_get xs k) || list_any (is_carried kinds) (drop m xs))) (add-one k)
    (any_at kinds xs k))

pub none_past : (kinds : List (Option Layout)) (xs : List Record)
    → list_any (is_carried kinds) (drop (length xs) xs) ≡ false
none_past kinds [] = refl
none_past kinds (x ∷ xs) = none_past kinds xs
