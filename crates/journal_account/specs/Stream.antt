-- The stream of an acknowledged flow in a life: the SDUs that RLC took stand in it one behind the
-- other, and so do the data fields of the numbers (TS 36.322 5.1.3.1.1, 5.1.3.2.3).
use Rattle.std.specs.Prelude.{ℕ, ◌+◌, ◌-◌, Bool, false, ◌&&◌, nat_lt, if◌then◌else◌, List, [], ◌∷◌}
use Rattle.std.specs.Prelude.{◌++◌, length, zero, suc}
use Rattle.journal_account.specs.FlowEvents.{FlowEvent, SduTaken, field_sizes}
use Rattle.journal_account.specs.Arrived.{octet_came, all_below, all_between}

-- where each of these sizes begins, one behind the other
abbrev pub place_of : List ℕ → ℕ → ℕ
place_of [] n = 0
place_of (size ∷ sizes) zero = 0
place_of (size ∷ sizes) (suc n) = size + place_of sizes n

-- and where the last one ends
abbrev pub end_of_all : List ℕ → ℕ
end_of_all sizes = place_of sizes (length sizes)

abbrev pub sdu_size_in : FlowEvent → List ℕ
sdu_size_in (SduTaken size) = size ∷ []
sdu_size_in other = []

-- how many octets each SDU has, the first one taken first
abbrev pub sdu_sizes : List FlowEvent → List ℕ
sdu_sizes [] = []
sdu_sizes (e ∷ es) = sdu_sizes es ++ sdu_size_in e

-- at a place of fields that stand one behind the other, the first of which is that of number n
abbrev pub came_along : (ℕ → ℕ → Bool) → List ℕ → ℕ → ℕ → Bool
came_along came [] n place = false
came_along came (size ∷ sizes) n place = if nat_lt place size then came n place
    else came_along came sizes (n + 1) (place - size)

-- the octet at a place of the stream has come
abbrev pub place_came : List FlowEvent → ℕ → Bool
place_came es place = came_along (octet_came es) (field_sizes es) 0 place

-- the place behind an SDU
abbrev pub sdu_end : List FlowEvent → ℕ → ℕ
sdu_end es k = place_of (sdu_sizes es) (k + 1)

-- an SDU was taken, and its octets and all before them have come: it goes up
abbrev pub is_in_sequence : List FlowEvent → ℕ → Bool
is_in_sequence es k =
    nat_lt k (length (sdu_sizes es)) && all_below (place_came es) (sdu_end es k)

-- an SDU was taken, and its octets have come, whatever came before them: it goes up where the life
-- ends (5.4)
abbrev pub is_whole_sdu : List FlowEvent → ℕ → Bool
is_whole_sdu es k = nat_lt k (length (sdu_sizes es))
    && all_between (place_came es) (place_of (sdu_sizes es) k) (sdu_end es k)
