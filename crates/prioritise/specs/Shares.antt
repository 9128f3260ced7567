-- Shares of a grant by two rounds over the channels (TS 36.321 5.4.3.1).
use Rattle.std.specs.Prelude.{ℕ, ◌+◌, ◌-◌, ◌*◌, min, Option, Some, None, List, [], ◌∷◌, slice_index}
use Rattle.std.specs.Prelude.{slice_set, replicate, sum_by}
use Rattle.l2_types.specs.declared.channel.Channel.{Channel}
use Rattle.prioritise.specs.Channels.{put}

-- the channels in the order of the rounds, and the level of each bucket by LCID
pub record Bucketed : Type 0 where
  pub channels : List Channel
  pub levels : List ℕ

abbrev pub bucketed : List Channel → List ℕ → Bucketed
bucketed channels levels = record { channels = channels; levels = levels }

unfoldable pub no_channels : Bucketed
no_channels = bucketed [] (replicate 11 0)

-- a new channel in its place, with an empty bucket
unfoldable pub added : Channel → Bucketed → Bucketed
added c b = bucketed (put c b.channels) b.levels

unfoldable pub emptied : Bucketed → Bucketed
emptied b = bucketed b.channels (replicate 11 0)

-- amounts by LCID, added up over the channels
abbrev pub over : List Channel → List ℕ → ℕ
over channels amounts = sum_by (λ c. slice_index amounts c.lcid) channels

-- ---- a TTI begins

-- a bucket grows by its rate, up to what it has room for; an infinite rate needs none
abbrev pub grown : Option ℕ → ℕ → ℕ → ℕ
grown None duration level = level
grown (Some rate) duration level = min (level + rate) (rate * duration)

abbrev pub all_grown : List Channel → List ℕ → List ℕ
all_grown [] levels = levels
all_grown (c ∷ cs) levels =
    all_grown cs (slice_set levels c.lcid (grown c.pbr c.bucket (slice_index levels c.lcid)))

unfoldable pub ticked : Bucketed → Bucketed
ticked b = bucketed b.channels (all_grown b.channels b.levels)

-- ---- a grant on its way through the channels

-- the levels and the shares by LCID, and what is left of the grant
pub record Giving : Type 0 where
  pub levels : List ℕ
  pub shares : List ℕ
  pub left : ℕ

-- at most what the bucket has, where the rate is finite
abbrev pub bounded : Option ℕ → ℕ → ℕ → ℕ
bounded None level x = x
bounded (Some rate) level x = min x level

-- a bucket falls by what it gave, where the rate is finite
abbrev pub fallen : Option ℕ → ℕ → ℕ → ℕ
fallen None level x = level
fallen (Some rate) level x = level - x

-- round one gives a channel the least of its need, its bucket and what is left
abbrev pub first_part : Channel → List ℕ → Giving → ℕ
first_part c needs g =
    bounded c.pbr (slice_index g.levels c.lcid) (min (slice_index needs c.lcid) g.left)

abbrev pub first_given : Channel → ℕ → Giving → Giving
first_given c x g = record {
  levels = slice_set g.levels c.lcid (fallen c.pbr (slice_index g.levels c.lcid) x);
  shares = slice_set g.shares c.lcid x;
  left = g.left - x;
}

abbrev pub round_one : List Channel → List ℕ → Giving → Giving
round_one [] needs g = g
round_one (c ∷ cs) needs g = round_one cs needs (first_given c (first_part c needs g) g)

-- round two gives it the rest of its need, as far as it goes
abbrev pub second_part : Channel → List ℕ → Giving → ℕ
second_part c needs g = min (slice_index needs c.lcid - slice_index g.shares c.lcid) g.left

abbrev pub second_given : Channel → ℕ → Giving → Giving
second_given c y g = record {
  levels = g.levels;
  shares = slice_set g.shares c.lcid (slice_index g.shares c.lcid + y);
  left = g.left - y;
}

abbrev pub round_two : List Channel → List ℕ → Giving → Giving
round_two [] needs g = g
round_two (c ∷ cs) needs g = round_two cs needs (second_given c (second_part c needs g) g)

-- a grant before any channel has a share
abbrev pub ungiven : Bucketed → ℕ → Giving
ungiven b grant = record { levels = b.levels; shares = replicate 11 0; left = grant }

-- after round one, and after both
unfoldable pub first_shared : Bucketed → List ℕ → ℕ → Giving
first_shared b needs grant = round_one b.channels needs (ungiven b grant)

unfoldable pub shared : Bucketed → List ℕ → ℕ → Giving
shared b needs grant = round_two b.channels needs (first_shared b needs grant)

-- the shares by LCID, and the buckets afterwards
unfoldable pub allotted : Bucketed → List ℕ → ℕ → List ℕ
allotted b needs grant = (shared b needs grant).shares

unfoldable pub after_allot : Bucketed → List ℕ → ℕ → Bucketed
after_allot b needs grant = bucketed b.channels (shared b needs grant).levels
