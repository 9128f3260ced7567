-- What the shares of a grant promise (TS 36.321 5.4.3.1).
use Rattle.std.specs.Prelude.{◌≡◌, ℕ, ◌+◌, ◌≤◌, false, ◌⊎◌, Option, Some, None, List, [], ◌∷◌}
use Rattle.std.specs.Prelude.{length, slice_index, sum}
use Rattle.l2_types.specs.declared.channel.Channel.{Channel}
use Rattle.prioritise.specs.Channels.{AreSound, has}
use Rattle.prioritise.specs.Shares.{Bucketed, over, first_shared, allotted, after_allot}

-- buckets as a value of the type has them
pub record IsSound (b : Bucketed) : Type 0 where
  pub channels : AreSound b.channels
  pub levels : length b.levels ≡ 11

-- a channel is one of those
abbrev pub IsOneOf : Channel → List Channel → Type 0
IsOneOf c [] = ⊥
IsOneOf c (d ∷ ds) = (c ≡ d) ⊎ IsOneOf c ds

-- what round one gave a channel of a finite rate was in its bucket, which falls by it; an infinite
-- rate leaves the bucket
abbrev pub FallsBy : Option ℕ → ℕ → ℕ → ℕ → Type 0
FallsBy None before part after = after ≡ before
FallsBy (Some rate) before part after = after + part ≡ before

pub record IsShared (b : Bucketed) (needs : List ℕ) (grant : ℕ) : Type 0 where
  pub within_grant : sum (allotted b needs grant) ≤ grant
  pub from_bucket : (c : Channel) → IsOneOf c b.channels
      → FallsBy c.pbr (slice_index b.levels c.lcid)
      (slice_index (first_shared b needs grant).shares c.lcid)
      (slice_index (after_allot b needs grant).levels c.lcid)
  pub within_need : (c : Channel) → IsOneOf c b.channels
      → slice_index (allotted b needs grant) c.lcid ≤ slice_index needs c.lcid
  pub enough : over b.channels needs ≤ grant → (c : Channel) → IsOneOf c b.channels
      → slice_index (allotted b needs grant) c.lcid ≡ slice_index needs c.lcid
  -- a grant that the needs reach is used up (TS 36.321 5.4.3.1: served until either the data or the
  -- grant is exhausted)
  pub whole : grant ≤ over b.channels needs → sum (allotted b needs grant) ≡ grant
  pub none : (lcid : ℕ) → has lcid b.channels ≡ false
      → slice_index (allotted b needs grant) lcid ≡ 0
