-- What has arrived of an acknowledged flow in a life, by its history (TS 36.322 5.1.3.2, 7.1).
use Rattle.std.specs.Prelude.{ℕ, zero, suc, ◌+◌, ◌-◌, ◌==◌, Bool, true, false, ◌||◌, ◌&&◌, nat_le}
use Rattle.std.specs.Prelude.{nat_lt}
use Rattle.std.specs.Prelude.{List, [], ◌∷◌, Option, Some, None, max, slice_get}
use Rattle.journal_account.specs.FlowEvents.{FlowEvent, OctetsArrived, ReorderStarted}
use Rattle.journal_account.specs.FlowEvents.{ReorderExpired, field_sizes}

-- an event brings the octet at a place of a number
abbrev pub brings_octet : FlowEvent → ℕ → ℕ → Bool
brings_octet (OctetsArrived number from to) n i =
    (number == n) && (nat_le from i && nat_lt i to)
brings_octet other n i = false

abbrev pub octet_came : List FlowEvent → ℕ → ℕ → Bool
octet_came [] n i = false
octet_came (e ∷ es) n i = brings_octet e n i || octet_came es n i

-- each place below one passes
abbrev pub all_below : (ℕ → Bool) → ℕ → Bool
all_below p zero = true
all_below p (suc i) = p i && all_below p i

abbrev pub all_octets : (ℕ → Bool) → Option ℕ → Bool
all_octets came None = false
all_octets came (Some size) = all_below came size

-- each place at or above one and below another passes
abbrev pub all_between : (ℕ → Bool) → ℕ → ℕ → Bool
all_between p from to = all_below (λ i. p (from + i)) (to - from)

-- a number was written, and each of its octets has come
abbrev pub is_complete_in : List FlowEvent → ℕ → Bool
is_complete_in es n = all_octets (octet_came es n) (slice_get (field_sizes es) n)

abbrev pub number_above : FlowEvent → ℕ
number_above (OctetsArrived number from to) = number + 1
number_above other = 0

-- VR(H): one above the greatest number of which an octet has come, or 0
abbrev pub top_in : List FlowEvent → ℕ
top_in [] = 0
top_in (e ∷ es) = max (top_in es) (number_above e)

-- VR(X): VR(H) as t-Reordering started last, or 0
abbrev pub mark_in : List FlowEvent → ℕ
mark_in [] = 0
mark_in (ReorderStarted ∷ es) = top_in es
mark_in (other ∷ es) = mark_in es

-- the greatest VR(X) at which t-Reordering expired, or 0
abbrev pub expired_mark : List FlowEvent → ℕ
expired_mark [] = 0
expired_mark (ReorderExpired ∷ es) = max (expired_mark es) (mark_in es)
expired_mark (other ∷ es) = expired_mark es
