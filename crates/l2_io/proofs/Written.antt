-- What was written piece by piece, for those who put.
use Rattle.std.proofs.Common.{◌≡◌, ◌≤◌, ◌∙◌, ℕ, List, [], ◌++◌, ap, append_assoc, append-nil, refl, arith, sym, inl}
use Rattle.std.proofs.Common.{inr}
use Rattle.std.specs.Prelude.{Option, None, Some}
use Rattle.l2_io.specs.Known.{after, IsFront, HasRisen}

-- a text that is put behind a text
pub after_after : (a b : List ℕ) (written : Option (List ℕ)) → after (after written a) b ≡ after written (a ++ b)
after_after a b None = refl
after_after a b (Some xs) = ap Some (append_assoc xs a b)

pub after_nothing : (written : Option (List ℕ)) → after written [] ≡ written
after_nothing None = refl
after_nothing (Some xs) = ap Some (append-nil xs)

-- a front of what is put later is one of all, behind what was put before
pub front_behind : (a front whole : List ℕ) → IsFront front whole → IsFront (a ++ front) (a ++ whole)
front_behind a front whole h =
    record { rest = h.rest; joined = ap (λ t. a ++ t) h.joined ∙ sym (append_assoc a front h.rest) }

-- a front is one of each longer text
pub front_longer : (front whole more : List ℕ) → IsFront front whole → IsFront front (whole ++ more)
front_longer front whole more h =
    record { rest = h.rest ++ more; joined = ap (λ t. t ++ more) h.joined ∙ append_assoc front h.rest more }

-- a count that rose later has risen since before
pub risen_from : (a b c : ℕ) → a ≤ b → HasRisen b c → HasRisen a c
risen_from a b c le has =
    elim has.rose [ inl lt ↦ record { rose = inl (omega arith) } | inr top ↦ record { rose = inr top } ]
