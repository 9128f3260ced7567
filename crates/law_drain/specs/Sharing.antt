-- Where channels need some of a grant, the bearer of one of them writes (TS 36.321 5.4.3.1): each
-- gets what it needs, or one an even part of the grant.
use Rattle.std.specs.Prelude.{◌≡◌, ℕ, ◌+◌, ◌<◌, ◌≤◌, Bool, true, false, IfSome, List, ◌∷◌, length}
use Rattle.std.specs.Prelude.{Option, None, slice_index}
use Rattle.bearer.specs.Sums.{need}
use Rattle.bearer.specs.Taking.{pdus}
use Rattle.bearer.specs.declared.flow.Flow.{Flow}
use Rattle.bearer.specs.declared.flow.Flow.TheVariants.{Tm, Um, Am}
use Rattle.bearer_pdcp.specs.Ends.{Ends}
use Rattle.l2_types.specs.declared.channel.Channel.{Channel}
use Rattle.l2_types.specs.declared.limits.TheConstants.{GREATEST_GRANT}
use Rattle.prioritise.specs.Shares.{Bucketed, allotted}
use Rattle.prioritise.specs.ShareLaws.{IsSound, IsOneOf}
use Rattle.rlc_queue.specs.Waiting.{HaveOctets}
use Rattle.law_drain.specs.Ends.{HasOctet}

-- ---- a need that is met whole

-- each SDU that waits at RLC's sender has an octet, and so has the status report that PDCP owes
abbrev pub OwesOctets : Ends → Type 0
OwesOctets e = IfSome e.tx.owed HasOctet

abbrev pub HaveOctetsToSend : Flow → Type 0
HaveOctetsToSend (Tm b) = Unit {0}
HaveOctetsToSend (Um b) = HaveOctets b.tx.waiting.sdus × OwesOctets b.pdcp
HaveOctetsToSend (Am b) = HaveOctets b.tx.queue.sdus × OwesOctets b.pdcp

-- a bearer that gets what it needs writes
abbrev pub MetNeedsWrite : Type 0
MetNeedsWrite = (f : Flow) (grant : ℕ) (held : Option ℕ) → grant ≤ GREATEST_GRANT
    → HaveOctetsToSend f → 0 < need f grant held → 0 < length (pdus f (need f grant held) held)

-- ---- the shares of a grant

abbrev pub is_transparent : Flow → Bool
is_transparent (Tm b) = true
is_transparent (Um b) = false
is_transparent (Am b) = false

-- a channel stands before all others, with an infinite rate
pub record IsServedFirst (c : Channel) (channels : List Channel) : Type 0 where
  pub others : List Channel
  pub channels_are : channels ≡ c ∷ others
  pub free : c.pbr ≡ None

-- channels with their bearers, by LCID, and what these need of a grant while HARQ holds none of
-- their numbers
pub record AreNeeds (b : Bucketed) (flows : ℕ → Flow) (grant : ℕ) (needs : List ℕ) : Type 0 where
  pub each : (c : Channel) → IsOneOf c b.channels
      → slice_index needs c.lcid ≡ need (flows c.lcid) grant None
  pub octets : (c : Channel) → IsOneOf c b.channels → HaveOctetsToSend (flows c.lcid)
  pub transparent : (c : Channel) → IsOneOf c b.channels → is_transparent (flows c.lcid) ≡ true
      → 0 < need (flows c.lcid) grant None → IsServedFirst c b.channels

-- by its share, of a grant that is reckoned with 2 octets more
pub record WritesByShare (b : Bucketed) (flows : ℕ → Flow) (grant : ℕ) (needs : List ℕ) : Type 0
  where
    pub channel : Channel
    pub one : IsOneOf channel b.channels
    pub writes : 0
        < length (pdus (flows channel.lcid)
        (slice_index (allotted b needs (grant + 2)) channel.lcid) None)

-- of a grant of a drain
abbrev pub GrantsAreUsed : Type 0
GrantsAreUsed =
    (b : Bucketed) (flows : ℕ → Flow) (grant : ℕ) (needs : List ℕ) (c : Channel) → IsSound b
    → 200 ≤ grant → grant ≤ GREATEST_GRANT → AreNeeds b flows grant needs
    → IsOneOf c b.channels → 0 < need (flows c.lcid) grant None
    → WritesByShare b flows grant needs
