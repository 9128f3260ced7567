-- What each call of an end is to its bearer of a channel: calls of the bearer's own, in which come
-- the PDUs of the channel that a block carries (TS 36.321 5.3.3, 5.4.2), and by which it writes
-- those that a new block carries (TS 36.321 5.4.3.1).
use Rattle.std.specs.Prelude.{◌≡◌, ℕ, ◌≤◌, ◌==◌, if◌then◌else◌, Bool, true, false, Option, Some}
use Rattle.std.specs.Prelude.{None, List, [], ◌∷◌, map, slice_index}
use Rattle.bearer.specs.Taking.{pdus}
use Rattle.law_bearer.specs.AnyBearer.Calls.{Call as BearerCall, Submit as Submits, Take as Takes}
use Rattle.law_bearer.specs.AnyBearer.Calls.{Arrive as Arrives, Expire as Expires, Tick as Ticks}
use Rattle.law_bearer.specs.AnyBearer.Calls.{SetDiscard as SetsDiscard, after_all}
use Rattle.harq.specs.declared.sender.Order.{Order}
use Rattle.harq.specs.declared.sender.Visit.{Visit}
use Rattle.harq.specs.declared.sender.Visit.TheVariants.{New, Resend, Silent}
use Rattle.l2_bits.specs.declared.fault.SubmitRefusal.{SubmitRefusal}
use Rattle.l2_node.specs.Building.{visit, visited}
use Rattle.l2_node.specs.End.{End}
use Rattle.bearer_types.specs.Sides.{heard_by, sent_by}
use Rattle.l2_node.specs.Finding.{has, lowest}
use Rattle.l2_node.specs.Submitting.{refusal}
use Rattle.l2_node.specs.Writing.{shares, new_block}
use Rattle.l2_types.specs.declared.side.Side.{Side}
use Rattle.law_node.specs.Bearers.{adds, keys_in}
use Rattle.law_node.specs.Calls.{Turn, Call, SetVisits, SetReports, Add, Submit, SetDiscard, Tick}
use Rattle.law_node.specs.Calls.{TickBuckets, Visits, Grants, Granted, Assigned, Pass, Receive}
use Rattle.law_node.specs.Calls.{Expire, Move, IsGiven, AreGiven, after, reached}
use Rattle.law_node.specs.Holding.{flow}
use Rattle.prioritise.specs.Channels.{has as has_channel}
use Rattle.promises.specs.Pdus.{carried}
use Rattle.l2_types.specs.declared.limits.TheConstants.{GREATEST_GRANT}

-- ---- the calls of its bearer

abbrev pub only : Bool → BearerCall → List BearerCall
only here c = if here then c ∷ [] else []

-- as a process is visited for a new block the bearer of each channel writes by its share, told of
-- the lowest number that HARQ holds
abbrev pub share_of : End → ℕ → ℕ → ℕ
share_of e grant l = slice_index (shares e grant) l

abbrev pub held_of : End → ℕ → Option ℕ
held_of e l = lowest e.sender e.numbers l

abbrev pub takes_of : Visit → Turn → End → ℕ → List BearerCall
takes_of New t e l =
    only (has_channel l e.buckets.channels) (Takes (share_of e t.grant l) (held_of e l))
takes_of (Resend rv) t e l = []
takes_of Silent t e l = []

-- an SDU that is refused changes nothing
abbrev pub submits_of : Option SubmitRefusal → Bool → List ℕ → List BearerCall
submits_of None here octets = only here (Submits octets)
submits_of (Some why) here octets = []

-- in a life: no call that begins one has any
abbrev pub calls_of : ℕ → End → Call → List BearerCall
calls_of l e (SetVisits maximum) = []
calls_of l e (SetReports reports) = []
calls_of l e (Add config keys) = []
calls_of l e (Submit lcid octets) = submits_of (refusal lcid octets e) (lcid == l) octets
calls_of l e (SetDiscard lcid ttis) = only (lcid == l) (SetsDiscard ttis)
calls_of l e Tick = Ticks ∷ []
calls_of l e TickBuckets = []
calls_of l e (Visits t) = takes_of (visit t.tti t.order e) t (visited t.tti t.order e) l
calls_of l e (Grants tti) = []
calls_of l e (Granted tti good) = []
calls_of l e (Assigned tti ndi good) = []
calls_of l e (Pass tti) = []
calls_of l e (Receive block) = map (λ pdu. Arrives pdu) (carried l (heard_by e.side) block)
calls_of l e (Expire lcid clock) = only (lcid == l) (Expires clock)
calls_of l e (Move keys) = []

-- ---- the laws

-- no life of its bearer begins
pub record GoesOnInLife (l : ℕ) (c : Call) : Type 0 where
  pub adds_none : adds l c ≡ false
  pub moves_none : keys_in c ≡ []

-- of any end that has a bearer of the channel
abbrev pub CallsReachBearers : Type 0
CallsReachBearers =
    (side : Side) (maximum : ℕ) (reports : Bool) (past : List Call) (c : Call) (l : ℕ)
    → AreGiven past → IsGiven c → GoesOnInLife l c
    → has l (reached side maximum reports past).bearers ≡ true
    → flow l (after (reached side maximum reports past) c)
    ≡ after_all (flow l (reached side maximum reports past))
    (calls_of l (reached side maximum reports past) c)

-- a new block of an end carries on each channel just what its bearer writes
abbrev pub written_by : End → ℕ → ℕ → List (List ℕ)
written_by e grant l = if has_channel l e.buckets.channels
    then pdus (flow l e) (share_of e grant l) (held_of e l) else []

abbrev pub BlocksCarryPdus : Type 0
BlocksCarryPdus = (side : Side) (maximum : ℕ) (reports : Bool) (past : List Call) → AreGiven past
    → (tti : ℕ) (order : Order) (grant l : ℕ) → 1 ≤ grant → grant ≤ GREATEST_GRANT
    → has l (reached side maximum reports past).bearers ≡ true
    → carried l (sent_by side)
    (new_block (visited tti order (reached side maximum reports past)) grant)
    ≡ written_by (visited tti order (reached side maximum reports past)) grant l
