-- Which numbers of an acknowledged flow are acknowledged in a life, by its history (TS 36.322
-- 5.2.1, 7.1).
use Rattle.std.specs.Prelude.{ℕ, ◌+◌, Bool, false, not, ◌||◌, ◌&&◌, nat_lt, if◌then◌else◌}
use Rattle.std.specs.Prelude.{List, [], ◌∷◌}
use Rattle.journal_account.specs.FlowEvents.{FlowEvent, StatusHeard}
use Rattle.journal_account.specs.Entries.{names_number}
use Rattle.journal_account.specs.Arrived.{all_below}

-- a STATUS is applied where some number up to its ACK isn't acknowledged yet: where the ACK doesn't
-- lie below VT(A)
abbrev pub is_applied : (ℕ → Bool) → ℕ → Bool
is_applied acked ack = not (all_below acked (ack + 1))

-- it acknowledges the numbers below its ACK that have no entry
abbrev pub acks : FlowEvent → (ℕ → Bool) → ℕ → Bool
acks (StatusHeard ack entries) acked n =
    is_applied acked ack && (nat_lt n ack && not (names_number entries n))
acks other acked n = false

abbrev pub is_acked : List FlowEvent → ℕ → Bool
is_acked [] n = false
is_acked (e ∷ es) n = is_acked es n || acks e (is_acked es) n

-- a STATUS that isn't applied is ignored
abbrev pub is_ignored : FlowEvent → (ℕ → Bool) → Bool
is_ignored (StatusHeard ack entries) acked = not (is_applied acked ack)
is_ignored other acked = false

-- how many STATUS were ignored as they came
abbrev pub ignored_in : List FlowEvent → ℕ
ignored_in [] = 0
ignored_in (e ∷ es) = if is_ignored e (is_acked es) then ignored_in es + 1 else ignored_in es
