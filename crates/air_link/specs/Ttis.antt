-- A TTI (TS 36.321 5.3, 5.4, 5.7).
use Rattle.std.specs.Prelude.{ℕ, ◌+◌, ◌%◌, Bool, true, false, not, is_some, if◌then◌else◌, Option}
use Rattle.std.specs.Prelude.{Some, None}
use Rattle.air_record.specs.declared.line.Outcome.{Outcome}
use Rattle.air_record.specs.declared.record.Record.TheVariants as records
use Rattle.drx.specs.Drx.{State as Listening, is_active}
use Rattle.harq.specs.Sending.{held_of}
use Rattle.l2_node.specs.Hearing.{ticked}
use Rattle.l2_types.specs.declared.side.Side.{Side}
use Rattle.l2_types.specs.declared.side.Side.TheVariants.{Nb, Ue}
use Rattle.prioritise.specs.Shares.{ticked as grown}
use Rattle.test_loop.specs.Loops.{is_keeping, after_tick}
use Rattle.air_link.specs.Link.{Link, says, end_of, with_end}
use Rattle.air_link.specs.Telling.{tells_all}
use Rattle.air_link.specs.Loops.{loops, pays}
use Rattle.air_link.specs.Downlink.{downlink}
use Rattle.air_link.specs.Uplink.{uplink}
use Rattle.air_record.specs.Outcomes.{missed}

abbrev pub begins : Link → Link
begins l = says (records.Tti l.ttis) (record l { ttis = l.ttis + 1 })

-- ---- a terminal that sleeps sees neither a block nor a grant

abbrev pub sleeps_by : Option Listening → ℕ → Link → Bool
sleeps_by None t l = false
sleeps_by (Some d) t l = not (is_active d t (is_some (held_of l.ue.sender (t % 8))))

abbrev pub sleeps : ℕ → Link → Bool
sleeps t l = sleeps_by l.drx t l

abbrev pub tells_sleep : Bool → Link → Link
tells_sleep true l = says records.Sleep l
tells_sleep false l = l

-- ---- timers

-- an end's timers run, and its buckets grow
abbrev pub grows : Side → Link → Link
grows side l = with_end side (record (end_of side l) { buckets = grown (end_of side l).buckets }) l

abbrev pub ticks : Side → Link → Link
ticks side l =
    with_end side (record (end_of side l) { bearers = (ticked (end_of side l)).bearers }) l

abbrev pub times : Side → Link → Link
times side l = grows side (tells_all side (ticked (end_of side l)).events (ticks side l))

-- SDUs that timers handed up are kept before those that are owed go
abbrev pub keeps_first : Link → Link
keeps_first l = if is_keeping l.looping.mode then loops l else l

unfoldable pub timed : Link → Link
timed l = pays (keeps_first (times Ue (times Nb (record l { looping = after_tick l.looping }))))

-- ---- the whole

unfoldable pub tti_by : Bool → ℕ → ℕ → Outcome → ℕ → Outcome → Link → Link
tti_by asleep t up_grant up down_grant down l =
    uplink t up_grant (missed asleep up)
    (loops (downlink t down_grant (missed asleep down) (timed (tells_sleep asleep l))))

unfoldable pub tti : ℕ → Outcome → ℕ → Outcome → Link → Link
tti up_grant up down_grant down l =
    tti_by (sleeps l.ttis l) l.ttis up_grant up down_grant down (begins l)
