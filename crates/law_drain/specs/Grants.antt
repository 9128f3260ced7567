-- What a grant brings (TS 36.321 5.4.3.1): where the channels need more than it has, one of them
-- gets an even part of it, and what gets so much writes a PDU; what needs nothing is quiet.
use Rattle.std.specs.Prelude.{◌≡◌, ℕ, ◌*◌, ◌<◌, ◌≤◌, false, List, length, Option, None}
use Rattle.std.specs.Prelude.{slice_index}
use Rattle.bearer.specs.Acknowledged.State.{State as AmState}
use Rattle.bearer.specs.Acknowledged.Sums.{need as am_need}
use Rattle.bearer.specs.Sums.{need}
use Rattle.bearer.specs.Taking.{pdus}
use Rattle.bearer.specs.declared.flow.Flow.{Flow}
use Rattle.bearer.specs.declared.flow.Flow.TheVariants.{Tm, Um, Am}
use Rattle.l2_types.specs.declared.channel.Channel.{Channel}
use Rattle.l2_types.specs.declared.limits.TheConstants.{GREATEST_GRANT}
use Rattle.prioritise.specs.Shares.{Bucketed, over, allotted}
use Rattle.prioritise.specs.ShareLaws.{IsSound, IsOneOf}
use Rattle.law_drain.specs.Bearer.{bearer_quiet}

-- LCIDs are 0 to 10
abbrev pub most_channels : ℕ
most_channels = 11

-- a channel whose share is at least an even part of the grant
pub record HasEvenShare (b : Bucketed) (needs : List ℕ) (grant : ℕ) : Type 0 where
  pub channel : Channel
  pub one : IsOneOf channel b.channels
  pub share : grant ≤ most_channels * slice_index (allotted b needs grant) channel.lcid

abbrev pub OneShareIsEven : Type 0
OneShareIsEven = (b : Bucketed) (needs : List ℕ) (grant : ℕ) → IsSound b → 0 < grant
    → grant ≤ over b.channels needs → HasEvenShare b needs grant

-- a share in which the bearer of a flow writes a PDU where it needs any: a transparent PDU isn't
-- cut, and the largest headers, of a segment and of its subheader, leave an octet of 8
abbrev pub Suffices : Flow → ℕ → Option ℕ → ℕ → Type 0
Suffices (Tm b) grant held share = share ≡ need (Tm b) grant held
Suffices (Um b) grant held share = 8 ≤ share
Suffices (Am b) grant held share = 8 ≤ share

-- a STATUS that is due, or a data PDU
abbrev pub SharesAreUsed : Type 0
SharesAreUsed = (f : Flow) (grant : ℕ) (held : Option ℕ) (share : ℕ) → grant ≤ GREATEST_GRANT
    → 0 < need f grant held → Suffices f grant held share → 0 < length (pdus f share held)

-- where HARQ holds none of its numbers, an acknowledged bearer that needs nothing is quiet, if the
-- limit wasn't reached and something isn't acknowledged
abbrev pub IdleIsQuiet : Type 0
IdleIsQuiet = (b : AmState) → am_need b None ≡ 0 → b.tx.failed ≡ false
    → 0 < length b.tx.window.slots → bearer_quiet b ≡ 1
