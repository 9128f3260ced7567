-- Which SDUs of an acknowledged flow are confirmed, by what is kept of it (docs/laws/ACCOUNT.md; TS
-- 36.322 5.1.3.1.1).
use Rattle.std.specs.Prelude.{ℕ, ◌+◌, ◌-◌, Bool, false, ◌||◌, ◌&&◌, nat_le, nat_lt, min, List, []}
use Rattle.std.specs.Prelude.{◌∷◌, if◌then◌else◌, length, slice_index_or}
use Rattle.journal_account.specs.FlowAccount.{FlowAccount}
use Rattle.journal_account.specs.FlowSending.{SentNumber, FlowSending}

-- the octets of a number from a place on below another, as far as it has them
abbrev pub octets_acked : ℕ → ℕ → SentNumber → Bool
octets_acked from to h = h.acked || nat_le (min to h.size) from

-- octets at places from one on below another, counted from where the numbers begin
abbrev pub places_acked : List SentNumber → ℕ → ℕ → Bool
places_acked [] from to = nat_le to from
places_acked (h ∷ hs) from to =
    octets_acked from to h && places_acked hs (from - h.size) (to - h.size)

-- places of the stream from one on below another; all before VT(A) are acknowledged
abbrev pub stream_acked : FlowSending → ℕ → ℕ → Bool
stream_acked s from to = places_acked s.numbers (from - s.start) (to - s.start)

-- the j-th of the SDUs that don't end before VT(A), with the ends of all these; the first one of
-- them is acknowledged up to there
abbrev pub is_confirmed_at : FlowSending → List ℕ → ℕ → Bool
is_confirmed_at s ends j = nat_lt j (length ends)
    && stream_acked s (slice_index_or (s.start ∷ ends) j 0) (slice_index_or ends j 0)

abbrev pub is_confirmed_kept : ℕ → FlowAccount → Bool
is_confirmed_kept k a = nat_lt k a.confirmed.sequenced
    || is_confirmed_at a.sending a.confirmed.ends (k - a.confirmed.sequenced)

-- ---- all of them, in one walk

-- of SDUs that stand one behind the other from a place of the stream on, by their ends
abbrev pub are_acked : FlowSending → ℕ → List ℕ → List Bool
are_acked s from [] = []
are_acked s from (end ∷ ends) = stream_acked s from end ∷ are_acked s end ends

-- numbers, and where the first of them begins
pub record Rest : Type 0 where
  pub numbers : List SentNumber
  pub place : ℕ

-- without those that end at a place or before it
abbrev pub behind : ℕ → List SentNumber → ℕ → Rest
behind limit [] place = record { numbers = []; place = place }
behind limit (h ∷ hs) place = if nat_le (place + h.size) limit
    then behind limit hs (place + h.size) else record { numbers = h ∷ hs; place = place }

-- the numbers from one place on, by those from an earlier one on
abbrev pub reached : FlowSending → Rest → ℕ → Rest
reached s r from =
    if nat_lt from r.place then behind from s.numbers s.start else behind from r.numbers r.place

abbrev pub acked_in : Rest → ℕ → ℕ → Bool
acked_in r from to = places_acked r.numbers (from - r.place) (to - r.place)

abbrev pub walked : FlowSending → Rest → ℕ → List ℕ → List Bool
walked s r from [] = []
walked s r from (end ∷ ends) =
    acked_in (reached s r from) from end ∷ walked s (reached s r from) end ends

-- which SDUs are confirmed: those below a first one, and some from there on
pub record ConfirmedSdus : Type 0 where
  pub first : ℕ
  pub flags : List Bool

abbrev pub is_among : ℕ → ConfirmedSdus → Bool
is_among k c = nat_lt k c.first || slice_index_or c.flags (k - c.first) false

abbrev pub confirmed_sdus : FlowAccount → ConfirmedSdus
confirmed_sdus a = record {
  first = a.confirmed.sequenced;
  flags = are_acked a.sending a.sending.start a.confirmed.ends;
}
