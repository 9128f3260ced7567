-- What both ends tell as they hear a block and as their timers run, with their channels as they have come.
use Rattle.std.proofs.Common.{◌≡◌, ℕ, Bool, true, false, if◌then◌else◌, List, []}
use Rattle.std.proofs.Common.{◌∷◌, refl, ap, sym, subst}
use Rattle.air_link.specs.Downlink.{receives, hears}
use Rattle.air_link.specs.Link.{Link, says, end_of}
use Rattle.bearer_types.specs.Sides.{heard_by}
use Rattle.air_link.specs.Loops.{loops, pays}
use Rattle.air_link.specs.Telling.{tells_all}
use Rattle.air_link.specs.Ttis.{begins, tells_sleep, ticks, times, keeps_first, timed}
use Rattle.air_record.specs.declared.record.Record.{Record}
use Rattle.air_record.specs.declared.record.Record.TheVariants as records
use Rattle.law_words.specs.Sequences.{just, ◌then◌, maybe}
use Rattle.l2_node.specs.End.{End}
use Rattle.l2_node.specs.Hearing.{received, ticked}
use Rattle.l2_types.specs.declared.side.Side.{Side}
use Rattle.l2_types.specs.declared.side.Side.TheVariants.{Nb, Ue}
use Rattle.law_node.specs.Calls.{Tick, Receive}
use Rattle.law_node.proofs.Looping.{tells_no_loop}
use Rattle.test_loop.specs.Loops.{is_keeping, after_tick}
use Rattle.law_run.specs.AnyCalls.Ends.{GoesOn}
use Rattle.law_run.specs.AnyCalls.Order.{both, Leaves}
use Rattle.promises.specs.Order.{Channels, of_hearing, of_timers, OfRecords, EndTells, LoopTells}
use Rattle.law_run.specs.AnyCalls.Zero.{HaveCome}
use Rattle.law_run.proofs.AnyCalls.Orders.{IsReady, ready_on, hears_in_order, ticks_in_order}
use Rattle.law_run.proofs.AnyCalls.Going.{Seen, told_seen}
use Rattle.law_run.proofs.AnyCalls.Ordering.{leaves_then, leaves_from, leaves_to, leaves_as, leaves_one}
use Rattle.law_run.proofs.AnyCalls.Ordering.{may_leave, may_rest, end_out, end_tells, loop_then, loop_rests}
use Rattle.law_run.proofs.AnyCalls.Ordering.{loops_tells, pays_tells}

-- ---- both ends with their channels, as they have come

pub record Ready (c : Side → Channels) (l : Link) : Type 0 where
  pub nb : IsReady Nb (c Nb) l.nb
  pub ue : IsReady Ue (c Ue) l.ue

pub ready_at : (side : Side) (c : Side → Channels) (l : Link) → Ready c l → IsReady side (c side) (end_of side l)
ready_at Nb c l r = r.nb
ready_at Ue c l r = r.ue

pub have_ready : (l : Link) → HaveCome l → Ready (both l) l
have_ready l h = record {
  nb = record { come = h.nb; channels_are = refl };
  ue = record { come = h.ue; channels_are = refl };
}

pub both_ready_on : (c : Side → Channels) (blocks : List Record) (l m : Link) → GoesOn blocks l m → Ready c l
    → Ready c m
both_ready_on c blocks l m g r =
    record { nb = ready_on Nb (c Nb) g.more l.nb m.nb g.nb r.nb; ue = ready_on Ue (c Ue) g.more l.ue m.ue g.ue r.ue }

-- ---- what an end tells

pub hears_tells : (side : Side) (c : Channels) (octets : List ℕ) (l : Link) → IsReady side c (end_of side l)
    → Leaves (EndTells side (of_hearing c (heard_by side) octets)) l (hears side octets l)
hears_tells side c octets l r =
    let e = end_of side l in
    let m = receives side octets l in
    let of = of_hearing c (heard_by side) octets in
    leaves_from (EndTells side of) l m (hears side octets l) (end_out side _ l)
    (end_tells of side (received e octets).events m (tells_no_loop e (Receive octets))
    (hears_in_order side c e r octets))

-- ---- timers

times_tells : (side : Side) (c : Channels) (l : Link) → IsReady side c (end_of side l)
    → Leaves (EndTells side (of_timers c)) l (times side l)
times_tells side c l r =
    let e = end_of side l in
    let es = (ticked e).events in
    let m = ticks side l in
    let n = tells_all side es m in
    leaves_to (EndTells side (of_timers c)) l n (times side l) (end_out side _ n)
    (leaves_from (EndTells side (of_timers c)) l m n (end_out side _ l)
    (end_tells (of_timers c) side es m (tells_no_loop e Tick) (ticks_in_order side c e r)))

-- the terminal's end is the same behind the base station's timers
pub times_base : (l : Link) → (times Nb l).ue ≡ l.ue
times_base l = ap (λ (s : Seen). s.ue) (told_seen Nb (ticked l.nb).events (ticks Nb l))

pub keeps_if : (b : Bool) (l : Link) → Leaves LoopTells l (if b then loops l else l)
keeps_if true l = loops_tells l
keeps_if false l = loop_rests l l refl

-- with what stands behind them
pub timed_then : (c : Side → Channels) (Rest : OfRecords) (l last : Link) → Ready c l → Leaves Rest (timed l) last
    → Leaves (EndTells Nb (of_timers (c Nb)) then EndTells Ue (of_timers (c Ue)) then LoopTells then Rest) l last
unfolding timed
timed_then c Rest l last r rest =
    let j : Link = record l { looping = after_tick l.looping } in
    let m = times Nb j in
    let n = times Ue m in
    let o = keeps_first n in
    let Base = EndTells Nb (of_timers (c Nb)) in
    let Terminal = EndTells Ue (of_timers (c Ue)) in
    let to_m = leaves_from Base l j m refl (times_tells Nb (c Nb) j r.nb) in
    let to_n = times_tells Ue (c Ue) m (subst (λ (e : End). IsReady Ue (c Ue) e) (sym (times_base j)) r.ue) in
    let to_o = loop_then n o (pays o) (keeps_if (is_keeping n.looping.mode) n) (pays_tells o) in
    leaves_then Base (Terminal then LoopTells then Rest) l m last to_m
    (leaves_then Terminal (LoopTells then Rest) m n last to_n
    (leaves_then LoopTells Rest n (pays o) last to_o rest))

pub sleep_tells : (asleep : Bool) (l : Link) → Leaves (maybe (just records.Sleep)) l (tells_sleep asleep l)
sleep_tells true l = may_leave (just records.Sleep) l (says records.Sleep l) (leaves_one records.Sleep l)
sleep_tells false l = may_rest (just records.Sleep) l l refl

pub begins_tells : (l : Link) → Leaves (just (records.Tti l.ttis)) l (begins l)
begins_tells l = leaves_as (just (records.Tti l.ttis)) l (begins l) (records.Tti l.ttis ∷ []) refl refl
