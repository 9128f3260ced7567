-- Which SDUs of an acknowledged flow are confirmed in a life: the sender knows that they have come
-- (TS 36.322 5.1.3.1.1, TS 36.323 5.4).
use Rattle.std.specs.Prelude.{ℕ, Bool, ◌&&◌, nat_lt, List, length}
use Rattle.journal_account.specs.FlowEvents.{FlowEvent, field_sizes}
use Rattle.journal_account.specs.Arrived.{all_between}
use Rattle.journal_account.specs.Stream.{place_of, sdu_sizes, sdu_end, came_along}
use Rattle.journal_account.specs.Acked.{is_acked}

-- the octet at a place of the stream was written in a number that is acknowledged
abbrev pub place_acked : List FlowEvent → ℕ → Bool
place_acked es place = came_along (λ n i. is_acked es n) (field_sizes es) 0 place

-- an SDU was taken, and each of its octets was written in a number that is acknowledged
abbrev pub is_confirmed_sdu : List FlowEvent → ℕ → Bool
is_confirmed_sdu es k = nat_lt k (length (sdu_sizes es))
    && all_between (place_acked es) (place_of (sdu_sizes es) k) (sdu_end es k)
