-- What of the offered SDUs isn't acknowledged yet (TS 36.322 5.1.3.1.1).
use Rattle.std.specs.Prelude.{ℕ, ◌+◌, ◌-◌, Bool, false, ◌&&◌, ◌==◌, if◌then◌else◌, List, [], ◌∷◌}
use Rattle.std.specs.Prelude.{◌++◌, length, drop, Option, Some, None, nat_le, nat_lt, slice_get}
use Rattle.std.specs.Prelude.{slice_set}

-- an SDU's octets, and those of them that aren't acknowledged
pub record Owed : Type 0 where
  pub size : ℕ
  pub owed : ℕ

-- the place of the first SDU that isn't wholly acknowledged, what is owed of each from there on,
-- and the places that are newly confirmed
pub record Ledger : Type 0 where
  pub oldest : ℕ
  pub entries : List Owed
  pub news : List ℕ

abbrev pub empty_ledger : Ledger
empty_ledger = record { oldest = 0; entries = []; news = [] }

-- an SDU is offered
abbrev pub opened : Ledger → ℕ → Ledger
opened l size = record l { entries = l.entries ++ record { size = size; owed = size } ∷ [] }

-- how many SDUs were offered
abbrev pub offered : Ledger → ℕ
offered l = l.oldest + length l.entries

abbrev pub paid : Owed → ℕ → Owed
paid o n = record { size = o.size; owed = o.owed - n }

abbrev pub is_last : Owed → ℕ → Bool
is_last o n = nat_lt 0 o.owed && nat_le o.owed n

abbrev pub paid_at : Option Owed → List Owed → ℕ → ℕ → List Owed
paid_at None entries at n = entries
paid_at (Some o) entries at n = slice_set entries at (paid o n)

abbrev pub is_last_of : Option Owed → ℕ → Bool
is_last_of None n = false
is_last_of (Some o) n = is_last o n

-- so many octets of the SDU of a place are acknowledged; with its last octet it is confirmed
abbrev pub credited : Ledger → ℕ → ℕ → Ledger
credited l place n =
    if nat_lt place l.oldest then l
    else record {
      oldest = l.oldest;
      entries = paid_at (slice_get l.entries (place - l.oldest)) l.entries (place - l.oldest) n;
      news = if is_last_of (slice_get l.entries (place - l.oldest)) n then l.news ++ place ∷ []
          else l.news;
    }

-- elements of SDUs from a place on
abbrev pub credited_all : Ledger → ℕ → List ℕ → Ledger
credited_all l place [] = l
credited_all l place (n ∷ ns) = credited_all (credited l place n) (place + 1) ns

-- how many entries stand first of which nothing is owed
abbrev pub leading_paid : List Owed → ℕ
leading_paid [] = 0
leading_paid (o ∷ os) = if o.owed == 0 then leading_paid os + 1 else 0

abbrev pub swept : Ledger → Ledger
swept l = record l {
  oldest = l.oldest + leading_paid l.entries;
  entries = drop (leading_paid l.entries) l.entries;
}

-- the octets of the SDUs that aren't wholly acknowledged
abbrev pub left_of : Owed → ℕ
left_of o = if o.owed == 0 then 0 else o.size

abbrev pub left_in : List Owed → ℕ
left_in [] = 0
left_in (o ∷ os) = left_of o + left_in os

-- the octets of an SDU of which the last are acknowledged
abbrev pub size_done : Owed → ℕ → ℕ
size_done o n = if is_last o n then o.size else 0

abbrev pub last_size : Option Owed → ℕ → ℕ
last_size None n = 0
last_size (Some o) n = size_done o n
