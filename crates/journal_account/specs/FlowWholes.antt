-- Which SDUs of an acknowledged flow are whole, by what is kept of it (docs/laws/ACCOUNT.md; TS
-- 36.322 5.1.3.2.3, 5.4).
use Rattle.std.specs.Prelude.{ℕ, ◌-◌, Bool, ◌||◌, ◌&&◌, nat_lt, List, ◌∷◌, length, slice_index_or}
use Rattle.journal_account.specs.FlowAccount.{FlowAccount}
use Rattle.journal_account.specs.FlowArrivals.{FlowArrivals, places_came, stream_gap}

-- places of the stream from one on below another; all before the kept numbers have come
abbrev pub stream_came : FlowArrivals → ℕ → ℕ → Bool
stream_came a from to = places_came a.fields (from - a.start) (to - a.start)

-- the j-th of the SDUs that aren't in sequence, with the ends of all these; the first one of them
-- has come up to the first place that hasn't
abbrev pub is_whole_at : FlowArrivals → List ℕ → ℕ → Bool
is_whole_at a ends j = nat_lt j (length ends)
    && stream_came a (slice_index_or (stream_gap a ∷ ends) j 0) (slice_index_or ends j 0)

abbrev pub is_whole_kept : ℕ → FlowAccount → Bool
is_whole_kept k a = nat_lt k a.sdus.sequenced
    || is_whole_at a.arrivals a.sdus.ends (k - a.sdus.sequenced)
