-- Which octets of an acknowledged flow wait to be resent in a life, how often each number was named
-- so that it counts, and where the flow fails, by its history (TS 36.322 5.2.1, 5.2.2.3).
-- RETX_COUNT is one less than the namings that count.
use Rattle.std.specs.Prelude.{ℕ, ◌+◌, ◌-◌, ◌==◌, Bool, false, not, ◌||◌, ◌&&◌, nat_le, nat_lt}
use Rattle.std.specs.Prelude.{if◌then◌else◌, List, [], ◌∷◌, slice_index_or, ◌<◌, ◌≤◌, ◌⊎◌}
use Rattle.rlc_pdu.specs.declared.constants.TheConstants.{AM_WINDOW_SIZE}
use Rattle.journal_account.specs.FlowEvents.{FlowEvent, OctetsResent, StatusHeard, PollExpired}
use Rattle.journal_account.specs.FlowEvents.{field_sizes, next_of}
use Rattle.journal_account.specs.Entries.{names_number, names_octet}
use Rattle.journal_account.specs.Arrived.{all_below}
use Rattle.journal_account.specs.Stream.{end_of_all, sdu_sizes}
use Rattle.journal_account.specs.Acked.{is_applied, is_acked}

abbrev pub size_of : List FlowEvent → ℕ → ℕ
size_of es n = slice_index_or (field_sizes es) n 0

-- ---- where the poll timer expires

-- an octet isn't written yet, or an SDU may be taken
abbrev pub is_left : Bool → List FlowEvent → Bool
is_left more es =
    more || nat_lt (end_of_all (field_sizes es)) (end_of_all (sdu_sizes es))

-- VT(S) is VT(A) + AM_Window_Size
abbrev pub is_shut : List FlowEvent → Bool
is_shut es = nat_le AM_WINDOW_SIZE (next_of es)
    && all_below (is_acked es) (next_of es - AM_WINDOW_SIZE)
    && not (is_acked es (next_of es - AM_WINDOW_SIZE))

-- no octet of a number below VT(S) waits
abbrev pub none_waits : (ℕ → ℕ → Bool) → List FlowEvent → Bool
none_waits waits es =
    all_below (λ n. all_below (λ i. not (waits n i)) (size_of es n)) (next_of es)

-- the greatest number below VT(S) that isn't acknowledged
abbrev pub is_last_open : List FlowEvent → ℕ → Bool
is_last_open es n = nat_lt n (next_of es) && not (is_acked es n)
    && all_below (λ k. nat_le k n || is_acked es k) (next_of es)

-- it is named where nothing waits, and nothing is left or the window is shut
abbrev pub is_recalled : Bool → (ℕ → ℕ → Bool) → List FlowEvent → ℕ → Bool
is_recalled more waits es n =
    none_waits waits es && (not (is_left more es) || is_shut es) && is_last_open es n

-- ---- what an event names, of the numbers that aren't acknowledged

abbrev pub names : FlowEvent → (ℕ → ℕ → Bool) → List FlowEvent → ℕ → Bool
names (StatusHeard ack entries) waits es n = is_applied (is_acked es) ack
    && nat_lt n (next_of es) && not (is_acked es n) && names_number entries n
names (PollExpired more) waits es n = is_recalled more waits es n
names other waits es n = false

abbrev pub octets_named : FlowEvent → ℕ → ℕ → ℕ → Bool
octets_named (StatusHeard ack entries) size n i = names_octet entries size n i
octets_named other size n i = nat_lt i size

abbrev pub names_at : FlowEvent → (ℕ → ℕ → Bool) → List FlowEvent → ℕ → ℕ → Bool
names_at e waits es n i = names e waits es n && octets_named e (size_of es n) n i

abbrev pub resends : FlowEvent → ℕ → ℕ → Bool
resends (OctetsResent number from to) n i = (number == n) && (nat_le from i && nat_lt i to)
resends other n i = false

-- an octet waits from being named until it is written again or its number is acknowledged
abbrev pub waits : List FlowEvent → ℕ → ℕ → Bool
waits [] n i = false
waits (e ∷ es) n i = not (is_acked (e ∷ es) n)
    && (names_at e (waits es) es n i || (waits es n i && not (resends e n i)))

-- each octet that an event names waits already
abbrev pub names_old : FlowEvent → List FlowEvent → ℕ → Bool
names_old e es n =
    all_below (λ i. not (names_at e (waits es) es n i) || waits es n i) (size_of es n)

-- a naming counts that is the first, or names an octet that doesn't wait
abbrev pub namings : List FlowEvent → ℕ → ℕ
namings [] n = 0
namings (e ∷ es) n =
    if names e (waits es) es n && ((namings es n == 0) || not (names_old e es n))
    then namings es n + 1 else namings es n

-- ---- the retransmission limit

-- no number was named more often than so that it counts
abbrev pub IsWithin : ℕ → List FlowEvent → Type 0
IsWithin most es = (n : ℕ) → namings es n ≤ most

-- with this event, for the first time, a number was named too often, and it is the least such
pub record FailsNow (most : ℕ) (e : FlowEvent) (es : List FlowEvent) (n : ℕ) : Type 0 where
  pub within : IsWithin most es
  pub over : most < namings (e ∷ es) n
  pub least : (m : ℕ) → m < n → namings (e ∷ es) m ≤ most

-- the flow failed at a number
abbrev pub FailsAt : ℕ → List FlowEvent → ℕ → Type 0
FailsAt most [] n = ⊥
FailsAt most (e ∷ es) n = FailsAt most es n ⊎ FailsNow most e es n
