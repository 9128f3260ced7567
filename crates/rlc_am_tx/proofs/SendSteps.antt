-- What is kept of a PDU that was just sent.
use Rattle.std.proofs.Common.{◌≡◌, ◌<◌, ℕ, suc, ◌+◌, Bool, true, false, List, [], ◌∷◌, ◌++◌, length, slice_set, refl}
use Rattle.std.proofs.Common.{ap, arith, nat_lt, add-one, if◌then◌else◌}
use Rattle.std.proofs.lemmas.Bool.Decides.{nat_tests}
use Rattle.rlc_am_tx_window.specs.Sent.{Sent, is_waiting, whole_size, rested, sent_part}
use Rattle.rlc_am_tx_window.specs.Written.{whole_octets}
use Rattle.rlc_am_tx_window.specs.Window.{slot_at, leading_idle}
use Rattle.rlc_am_tx_window.proofs.WaitingSteps.{slot-set, fresh-idle, within}

-- the place of the first that waits holds one that waits
pub first-waits : (slots : List Sent) → leading_idle slots < length slots
    → is_waiting (slot_at slots (leading_idle slots)) ≡ true
first-waits [] h = absurd (omega arith)
first-waits (s ∷ slots) h = step (is_waiting s) refl h (first-waits slots)
  where
    step : (b : Bool) → is_waiting s ≡ b → (if b then 0 else leading_idle slots + 1) < suc (length slots)
        → (leading_idle slots < length slots → is_waiting (slot_at slots (leading_idle slots)) ≡ true)
        → is_waiting (slot_at (s ∷ slots) (if b then 0 else leading_idle slots + 1)) ≡ true
    step true e h ih = e
    step false e h ih = rw (add-one (leading_idle slots)) (ih (omega arith))

-- the octets that were sent again
pub whole-again : (slots : List Sent) (at number : ℕ) (poll : Bool) → at < length slots
    → whole_octets (slot_at (slice_set slots at (rested (slot_at slots at))) at) number poll
    ≡ whole_octets (slot_at slots at) number poll
whole-again slots at number poll h =
    ap (λ (x : Sent). whole_octets x number poll) (slot-set slots at (rested (slot_at slots at)) h)

-- and how many they are
pub again-size : (slots : List Sent) (at : ℕ) → at < length slots
    → whole_size (slot_at (slice_set slots at (rested (slot_at slots at))) at) ≡ whole_size (slot_at slots at)
again-size slots at h = ap (λ (x : Sent). whole_size x) (slot-set slots at (rested (slot_at slots at)) h)

-- a PDU that is added
slot-last : (slots : List Sent) (x : Sent) → slot_at (slots ++ x ∷ []) (length slots) ≡ x
slot-last [] x = refl
slot-last (s ∷ slots) x = slot-last slots x

pub new-last : (slots : List Sent) (x : Sent) (number : ℕ) (poll : Bool)
    → whole_octets (slot_at (slots ++ x ∷ []) (length slots)) number poll ≡ whole_octets x number poll
new-last slots x number poll = ap (λ (y : Sent). whole_octets y number poll) (slot-last slots x)

pub new-size : (slots : List Sent) (x : Sent) → whole_size (slot_at (slots ++ x ∷ []) (length slots)) ≡ whole_size x
new-size slots x = ap (λ (y : Sent). whole_size y) (slot-last slots x)

pub ruleset whole = (whole-again, again-size)

-- a segment that was sent leaves the field as it is
pub part-field : (slots : List Sent) (at from to : ℕ) → at < length slots
    → (slot_at (slice_set slots at (sent_part (slot_at slots at) from to)) at).field ≡ (slot_at slots at).field
part-field slots at from to h = ap (λ (x : Sent). x.field) (slot-set slots at (sent_part (slot_at slots at) from to) h)

pub ruleset parts = (first-waits, part-field)

pub ruleset news = (new-last, new-size, fresh-idle)

-- nothing waits
pub none-waits : (slots : List Sent) → nat_lt (leading_idle slots) (length slots) ≡ false
    → leading_idle slots ≡ length slots
none-waits slots e = let h = within slots in grind (arith, nat_tests)

pub ruleset quiet = (none-waits)
