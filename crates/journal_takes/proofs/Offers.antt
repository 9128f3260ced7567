-- What is said to be takeable.
use Rattle.std.proofs.Common.{◌≡◌, ◌<◌, ℕ, ◌+◌, Bool, true, false, length, nat_lt, Some, refl}
use Rattle.std.proofs.lemmas.Bool.{and_parts, ltb-true}
use Rattle.journal_takes.specs.declared.take.Take.TheVariants.{Pdu}
use Rattle.journal_takes.specs.Takeable.{offer}
use Rattle.journal_takes.specs.FlowTakes.{FlowTakes, bound_of, is_free, next_take}

pub record IsOffered (due free : Bool) (count own : ℕ) : Type 0 where
  pub not_due : due ≡ false
  pub is_free : free ≡ true
  pub same : own ≡ count

pub offered : (due free : Bool) (count own : ℕ) → offer due free count ≡ Some (Pdu own) → IsOffered due free count own
offered true free count own e = absurd cc
offered false false count own e = absurd cc
offered false true count own e =
    let same : own ≡ count = cc in
    record { not_due = refl; is_free = refl; same = same }

pub next_at : (t : FlowTakes) (count : ℕ) → next_take t ≡ Some (Pdu count) → count ≡ t.at
next_at t count e = (offered t.due (is_free t) t.at count e).same

pub next_there : (t : FlowTakes) (count : ℕ) → next_take t ≡ Some (Pdu count) → t.at < t.next + length t.waiting
next_there t count e =
    let both = and_parts (nat_lt t.at (t.next + length t.waiting)) (nat_lt t.at (bound_of t))
    (offered t.due (is_free t) t.at count e).is_free in
    ltb-true t.at (t.next + length t.waiting) both.0

pub ruleset next_pdu = (next_at, next_there)
