-- Where the records of a call stand: what one end tells among what the other does, the blocks and
-- the test loop (TS 36.321 5.3, 5.4, TS
-- 36.322 7.3, TS 36.509 5.4).
use Rattle.std.specs.Prelude.{◌≡◌, ℕ, ◌≤◌, List, ◌++◌, map}
use Rattle.air_link.specs.Draining.{drain_tti}
use Rattle.air_link.specs.Lines.{submitting}
use Rattle.air_link.specs.Link.{Link, end_of}
use Rattle.air_link.specs.Ttis.{tti}
use Rattle.air_record.specs.declared.line.Outcome.{Outcome}
use Rattle.air_record.specs.declared.record.Record.{Record}
use Rattle.law_words.specs.Sequences.{nothing}
use Rattle.l2_node.specs.End.{End}
use Rattle.l2_types.specs.declared.side.Side.{Side}
use Rattle.law_run.specs.AnyCalls.Calls.{Call, Loops, Expires, Forges, HandsOver, ReceiversExpire}
use Rattle.law_run.specs.AnyCalls.Calls.{SendersExpire, after}
use Rattle.law_run.specs.AnyCalls.Ends.{IsGiven}
use Rattle.law_run.specs.AnyCalls.Zero.{HaveCome}
use Rattle.promises.specs.Order.{Channels, OfRecords, LoopTells, TtiTells, DrainTtiTells}
use Rattle.promises.specs.Order.{TimerTells, ReceiversTell, SendersTell, ForgeTells, HandoverTells}
use Rattle.promises.specs.Order.{SubmitTells}
use Rattle.l2_types.specs.declared.limits.TheConstants.{GREATEST_GRANT}

-- ---- what an end tells in a call

abbrev pub channels_of : End → Channels
channels_of e = record {
  by_priority = e.buckets.channels;
  by_lcid = map (λ b. b.channel.lcid) e.bearers;
}

-- ---- the other calls

abbrev pub CallTells : Call → (Side → Channels) → OfRecords
CallTells (Loops mode) c = LoopTells
CallTells (Expires side lcid clock) c = TimerTells side lcid clock
CallTells (Forges side octets) c = ForgeTells side (c side) octets
CallTells (HandsOver keys) c = HandoverTells c
CallTells ReceiversExpire c = ReceiversTell
CallTells SendersExpire c = SendersTell
CallTells call c = nothing

-- ---- the laws, of links whose ends have come so far by any calls

-- from one link to another some records are added
pub record Leaves (These : OfRecords) (l m : Link) : Type 0 where
  pub more : List Record
  pub out_is : m.out ≡ l.out ++ more
  pub in_order : These more

-- the channels of both ends
abbrev pub both : Link → Side → Channels
both l side = channels_of (end_of side l)

abbrev pub CallsTellInOrder : Type 0
CallsTellInOrder = (c : Call) (l : Link) → IsGiven c → HaveCome l
    → Leaves (CallTells c (both l)) l (after c l)

abbrev pub SubmissionsTellInOrder : Type 0
SubmissionsTellInOrder = (side : Side) (lcid : ℕ) (sdu : List ℕ) (l : Link)
    → Leaves (SubmitTells side lcid) l (submitting side lcid sdu l)

-- both ends have the same channels
abbrev pub AreAlike : Link → Type 0
AreAlike l = channels_of l.nb ≡ channels_of l.ue

-- grants are those of transport blocks
abbrev pub TtisTellInOrder : Type 0
TtisTellInOrder = (up_grant : ℕ) (up : Outcome) (down_grant : ℕ) (down : Outcome) (l : Link)
    → up_grant ≤ GREATEST_GRANT → down_grant ≤ GREATEST_GRANT → HaveCome l → AreAlike l
    → Leaves (TtiTells l.ttis l.kinds (both l)) l (tti up_grant up down_grant down l)

abbrev pub DrainsTellInOrder : Type 0
DrainsTellInOrder = (grant : ℕ) (l : Link) → grant ≤ GREATEST_GRANT → HaveCome l → AreAlike l
    → Leaves (DrainTtiTells l.ttis l.kinds (both l)) l (drain_tti grant l)
