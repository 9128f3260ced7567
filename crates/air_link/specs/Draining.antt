-- The steps of a drain: TTIs in which everything arrives and no timer counts down, and timers that
-- expire between them.
use Rattle.std.specs.Prelude.{ℕ, ◌+◌, ◌-◌, ◌^◌, min, Bool, false, ◌&&◌, if◌then◌else◌, List, []}
use Rattle.std.specs.Prelude.{◌∷◌, length, Option, Some, None}
use Rattle.std.specs.List.{list_any}
use Rattle.air_record.specs.declared.record.Record.{Record}
use Rattle.l2_node.specs.Finding.{has}
use Rattle.l2_node.specs.Sums.{is_drained as end_drained, left as end_left}
use Rattle.l2_types.specs.declared.event.Clock.{Clock}
use Rattle.l2_types.specs.declared.event.Clock.TheVariants.{Poll, Reorder, Prohibit}
use Rattle.l2_types.specs.declared.side.Side.{Side}
use Rattle.l2_types.specs.declared.side.Side.TheVariants.{Nb, Ue}
use Rattle.pdu_show.specs.declared.kinds.Layout.{Layout}
use Rattle.air_link.specs.Link.{Link, end_of}
use Rattle.bearer_types.specs.Lcids.{all_lcids}
use Rattle.air_link.specs.Loops.{loops}
use Rattle.air_link.specs.Downlink.{downlink}
use Rattle.air_link.specs.Uplink.{uplink}
use Rattle.air_link.specs.Ttis.{begins, grows}
use Rattle.air_link.specs.Lines.{expires}
use Rattle.air_record.specs.Outcomes.{intact}
use Rattle.pdu_show.specs.Carried.{is_carried}

-- ---- a TTI: buckets grow, the terminal is awake, and both blocks arrive

abbrev pub drain_by : ℕ → ℕ → Link → Link
drain_by t grant l = uplink t grant intact (loops (downlink t grant intact (grows Ue (grows Nb l))))

unfoldable pub drain_tti : ℕ → Link → Link
drain_tti grant l = drain_by l.ttis grant (begins l)

-- ---- whether the records so far hold a data PDU or a STATUS of an acknowledged bearer

abbrev pub is_carried_by : List (Option Layout) → Option Record → Bool
is_carried_by kinds None = false
is_carried_by kinds (Some one) = is_carried kinds one

abbrev pub carried : Link → Bool
carried l = list_any (is_carried l.kinds) l.out

-- ---- timers expire where they run, bearer by bearer

unfoldable pub timer_expires : Side → Clock → ℕ → Link → Link
timer_expires side clock lcid l = if has lcid (end_of side l).bearers
    then expires side lcid clock l else l

abbrev pub receiver_expires : Side → ℕ → Link → Link
receiver_expires side lcid l = timer_expires side Prohibit lcid (timer_expires side Reorder lcid l)

abbrev pub all_receivers_expire : Side → List ℕ → Link → Link
all_receivers_expire side [] l = l
all_receivers_expire side (lcid ∷ lcids) l =
    all_receivers_expire side lcids (receiver_expires side lcid l)

-- of each bearer t-Reordering, then t-StatusProhibit (TS 36.322 7.3); the base station's first
unfoldable pub receivers_expire : Link → Link
receivers_expire l = all_receivers_expire Ue all_lcids (all_receivers_expire Nb all_lcids l)

abbrev pub all_senders_expire : Side → List ℕ → Link → Link
all_senders_expire side [] l = l
all_senders_expire side (lcid ∷ lcids) l =
    all_senders_expire side lcids (timer_expires side Poll lcid l)

-- t-PollRetransmit of each bearer (TS 36.322 7.3), in the same order
unfoldable pub senders_expire : Link → Link
senders_expire l = all_senders_expire Ue all_lcids (all_senders_expire Nb all_lcids l)

-- ---- what is left

abbrev pub is_drained : Link → Bool
is_drained l = end_drained l.nb && end_drained l.ue

-- the octets that both ends have still to bring over, up to what 64 bits hold
abbrev pub left : Link → ℕ
left l = min (end_left l.nb + end_left l.ue) (2 ^ 64 - 1)

-- the bearers
abbrev pub count : Link → ℕ
count l = length l.nb.bearers
