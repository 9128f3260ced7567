-- The shares of a grant for a new block (TS 36.321 5.4.3.1).
use Rattle.std.specs.Prelude.{◌≡◌, ℕ, ◌+◌, ◌≤◌, Bool, false, Option, List, slice_index, sum}
use Rattle.harq.specs.declared.sender.Order.{Order}
use Rattle.l2_types.specs.declared.channel.Channel.{Channel}
use Rattle.l2_types.specs.declared.side.Side.{Side}
use Rattle.prioritise.specs.Channels.{has as has_channel}
use Rattle.prioritise.specs.ShareLaws.{IsOneOf}
use Rattle.prioritise.specs.Shares.{over}
use Rattle.l2_node.specs.Building.{visited}
use Rattle.l2_node.specs.End.{End}
use Rattle.l2_node.specs.Finding.{lowest}
use Rattle.l2_node.specs.Writing.{need_at, needs, shares}
use Rattle.law_node.specs.Calls.{Call, AreGiven, reached}

-- the lowest number of a channel that HARQ holds, what its bearer needs of a grant, and its share
abbrev pub held : End → Channel → Option ℕ
held e c = lowest e.sender e.numbers c.lcid

abbrev pub need : End → ℕ → Channel → ℕ
need e grant c = need_at e.bearers c.lcid grant (held e c)

abbrev pub share : End → ℕ → Channel → ℕ
share e grant c = slice_index (shares e grant) c.lcid

-- a grant is reckoned with 2 octets more, since the last subheader of a block has 1 octet and not 3
pub record IsShared (e : End) (grant : ℕ) : Type 0 where
  pub within_grant : sum (shares e grant) ≤ grant + 2
  pub within_need : (c : Channel) → IsOneOf c e.buckets.channels → share e grant c ≤ need e grant c
  pub enough : over e.buckets.channels (needs e grant) ≤ grant + 2 → (c : Channel)
      → IsOneOf c e.buckets.channels → share e grant c ≡ need e grant c
  pub none : (lcid : ℕ) → has_channel lcid e.buckets.channels ≡ false
      → slice_index (shares e grant) lcid ≡ 0

-- of any end, as it has visited a process
abbrev pub SharesAreWithinTheGrant : Type 0
SharesAreWithinTheGrant = (side : Side) (maximum : ℕ) (reports : Bool) (calls : List Call)
    → AreGiven calls
    → (tti : ℕ) (order : Order) (grant : ℕ)
    → IsShared (visited tti order (reached side maximum reports calls)) grant
