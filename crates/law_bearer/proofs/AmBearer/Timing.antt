-- Timers of a bearer, as deeds.
use Rattle.std.proofs.Common.{◌≡◌, ℕ, Bool, true, false, if◌then◌else◌, nat_lt, List, [], ◌∷◌, ◌++◌, map, length}
use Rattle.std.proofs.Common.{Option, Some, None, refl, ap, sym, ◌∙◌}
use Rattle.bearer_types.specs.declared.Event.{Event}
use Rattle.bearer_types.specs.declared.Event.TheVariants as events
use Rattle.l2_num.specs.Timers.{ends}
use Rattle.l2_types.specs.declared.Clock.{Clock}
use Rattle.l2_types.specs.declared.Clock.TheVariants.{Poll, Reorder, Prohibit}
use Rattle.rlc_pdu.specs.declared.Expired.{Expired}
use Rattle.rlc_pdu.specs.declared.Expired.TheVariants.{Done, NotRunning}
use Rattle.rlc_am_tx.specs.declared.answers.PollExpired.{PollExpired}
use Rattle.rlc_am_tx.specs.declared.answers.PollExpired.TheVariants as polls
use Rattle.rlc_am_tx.specs.Machine.{expiry as poll_expiry, settles as starts}
use Rattle.rlc_am_rx.specs.State.{State as Receiver}
use Rattle.rlc_am_rx.specs.Machine.{after_reorder, reorder_ticked, reorder_answer, prohibit_answer, prohibit_ends}
use Rattle.pdcp_tx_store.specs.Waiting.{Waits}
use Rattle.pdcp_tx.specs.Runs.{Tick as TickPdcp, Late}
use Rattle.pdcp_tx.specs.State.{State as Sending, is_overdue, after_late, ticked as pdcp_ticked}
use Rattle.bearer_pdcp.specs.Discarding.{without_late, late_told, after_tick as after_discards, tick_told}
use Rattle.bearer_pdcp.specs.Ends.{Ends}
use Rattle.bearer_pdcp.specs.Telling.{expired_told}
use Rattle.bearer.specs.Acknowledged.State.{State, has_more, Work, work, with_work}
use Rattle.bearer.specs.Acknowledged.Hearing.{settled_if, started_told}
use Rattle.bearer.specs.Acknowledged.Timing.{poll_told, timer_told, clock_told, clock_left, expiry, after_expiry}
use Rattle.bearer.specs.Acknowledged.Timing.{Ticking, told_of, expires_if as expired_if, counts, has_ended}
use Rattle.bearer.specs.Acknowledged.Timing.{ticks as ticked_by, discards as discarded, ticked}
use Rattle.law_bearer.specs.AmBearer.Deeds.{Deed, Asks, does, does_all, with_sending}
use Rattle.law_bearer.specs.AmBearer.Calls.{only_if, settles, expires, counted, ticks, discards, ups_among}
use Rattle.law_bearer.proofs.AmBearer.Ups.{does_then, none_then, IsQuiet, AreQuiet, quiet_then, quiet_each}

-- ---- an expiry

clock_as : (clock : Clock) (b : State) → does b (expires clock b) ≡ clock_left clock b
clock_as Poll b = refl
clock_as Reorder b = refl
clock_as Prohibit b = refl

pub expires_as : (clock : Clock) (b : State) → does b (expires clock b) ≡ after_expiry b clock
unfolding after_expiry
expires_as clock b = clock_as clock b

pub expires_quiet : (clock : Clock) (b : State) → IsQuiet (expires clock b)
expires_quiet Poll b = tt
expires_quiet Reorder b = tt
expires_quiet Prohibit b = tt

poll_none : (lcid : ℕ) (x : PollExpired) → ups_among (told_of (poll_told lcid x)) ≡ []
poll_none lcid polls.NotRunning = refl
poll_none lcid polls.Done = refl
poll_none lcid (polls.Limit sn) = refl

timer_none : (lcid : ℕ) (clock : Clock) (x : Expired) → ups_among (told_of (timer_told lcid clock x)) ≡ []
timer_none lcid clock NotRunning = refl
timer_none lcid clock (Done again) = by again
  where
    by : (again : Bool) → ups_among (expired_told lcid clock again) ≡ []
    by true = refl
    by false = refl

clock_none : (clock : Clock) (b : State) → ups_among (told_of (clock_told clock b)) ≡ []
clock_none Poll b = poll_none b.pdcp.lcid (poll_expiry b.tx (has_more b.pdcp))
clock_none Reorder b = timer_none b.pdcp.lcid Reorder (reorder_answer b.rx.mark b.rx)
clock_none Prohibit b = timer_none b.pdcp.lcid Prohibit (prohibit_answer b.rx)

pub expiry_none : (clock : Clock) (b : State) → ups_among (told_of (expiry b clock)) ≡ []
unfolding expiry
expiry_none clock b = clock_none clock b

-- ---- a timer counts a TTI

counted_as : (clock : Clock) (b : State) → does b (counted clock) ≡ counts clock b
counted_as Poll b = refl
counted_as Reorder b = refl
counted_as Prohibit b = refl

counts_same : (clock other : Clock) (b : State) → expires clock b ≡ expires clock (counts other b)
counts_same Poll Poll b = refl
counts_same Poll Reorder b = refl
counts_same Poll Prohibit b = refl
counts_same Reorder other b = refl
counts_same Prohibit other b = refl

ended_as : (ended : Bool) (clock : Clock) (t : Ticking) (b : State) → expires clock b ≡ expires clock t.bearer
    → does_all (only_if ended (expires clock b)) t.bearer ≡ (expired_if ended clock t).bearer
ended_as true clock t b q = ap (does t.bearer) q ∙ expires_as clock t.bearer
ended_as false clock t b q = refl

ticks_as : (clock : Clock) (t : Ticking) → does_all (ticks clock t.bearer) t.bearer ≡ (ticked_by clock t).bearer
ticks_as clock t =
    ap (does_all (only_if (has_ended clock t.bearer) (expires clock t.bearer))) (counted_as clock t.bearer)
    ∙ ended_as (has_ended clock t.bearer) clock (record t { bearer = counts clock t.bearer }) t.bearer
    (counts_same clock clock t.bearer)

ended_none : (ended : Bool) (clock : Clock) (t : Ticking) → ups_among t.events ≡ []
    → ups_among (expired_if ended clock t).events ≡ []
ended_none true clock t q = none_then t.events (told_of (expiry t.bearer clock)) q (expiry_none clock t.bearer)
ended_none false clock t q = q

ticks_none : (clock : Clock) (t : Ticking) → ups_among t.events ≡ [] → ups_among (ticked_by clock t).events ≡ []
ticks_none clock t q = ended_none (has_ended clock t.bearer) clock (record t { bearer = counts clock t.bearer }) q

ended_quiet : (ended : Bool) (clock : Clock) (b : State) → AreQuiet (only_if ended (expires clock b))
ended_quiet true clock b = (expires_quiet clock b, tt)
ended_quiet false clock b = tt

counted_quiet : (clock : Clock) → IsQuiet (counted clock)
counted_quiet Poll = tt
counted_quiet Reorder = tt
counted_quiet Prohibit = tt

ticks_quiet : (clock : Clock) (b : State) → AreQuiet (ticks clock b)
ticks_quiet clock b = (counted_quiet clock, ended_quiet (has_ended clock b) clock b)

-- ---- no timer counts for another

-- what the deeds of the timers behind it look at
record Untouched (b d : State) : Type 0 where
  pdcp : d.pdcp ≡ b.pdcp
  prohibit : d.rx.prohibit ≡ b.rx.prohibit

polled_rx : (ended : Bool) (t : Ticking)
    → (expired_if ended Poll (record t { bearer = counts Poll t.bearer })).bearer.rx ≡ t.bearer.rx
unfolding after_expiry
polled_rx true t = refl
polled_rx false t = refl

polled_pdcp : (ended : Bool) (t : Ticking)
    → (expired_if ended Poll (record t { bearer = counts Poll t.bearer })).bearer.pdcp ≡ t.bearer.pdcp
unfolding after_expiry
polled_pdcp true t = refl
polled_pdcp false t = refl

mark_prohibit : (mark : Option ℕ) (r : Receiver) → (after_reorder mark r).prohibit ≡ r.prohibit
mark_prohibit None r = refl
mark_prohibit (Some x) r = refl

reordered : (ended : Bool) (t : Ticking)
    → Untouched t.bearer (expired_if ended Reorder (record t { bearer = counts Reorder t.bearer })).bearer
unfolding after_expiry
reordered true t =
    record { pdcp = refl; prohibit = mark_prohibit (reorder_ticked t.bearer.rx).mark (reorder_ticked t.bearer.rx) }
reordered false t = record { pdcp = refl; prohibit = refl }

prohibited : (ended : Bool) (t : Ticking)
    → (expired_if ended Prohibit (record t { bearer = counts Prohibit t.bearer })).bearer.pdcp ≡ t.bearer.pdcp
unfolding after_expiry
prohibited true t = refl
prohibited false t = refl

reorder_deeds : (b d : State) → d.rx ≡ b.rx → ticks Reorder d ≡ ticks Reorder b
reorder_deeds b d q = ap (λ (r : Receiver). counted Reorder ∷ only_if (ends r.reorder) (expires Reorder b)) q

prohibit_deeds : (b d : State) → d.rx.prohibit ≡ b.rx.prohibit → ticks Prohibit d ≡ ticks Prohibit b
prohibit_deeds b d q = ap (λ p. counted Prohibit ∷ only_if (prohibit_ends p) (expires Prohibit b)) q

-- ---- discard timers

lates_by : (overdue : Bool) (lcid : ℕ) (w : Waits) (ws : List Waits) (s : Sending) (b : State)
    → does_all (map (λ event. Asks Late) (late_told lcid ws (after_late s))) (with_sending (after_late s) b)
    ≡ with_sending (without_late ws (after_late s)) b
    → does_all
    (map (λ event. Asks Late) (if overdue then events.Discard lcid (length w.sdu) ∷ late_told lcid ws (after_late s)
    else [])) (with_sending s b)
    ≡ with_sending (if overdue then without_late ws (after_late s) else s) b
lates_by true lcid w ws s b h = h
lates_by false lcid w ws s b h = refl

lates_as : (lcid : ℕ) (ws : List Waits) (s : Sending) (b : State)
    → does_all (map (λ event. Asks Late) (late_told lcid ws s)) (with_sending s b)
    ≡ with_sending (without_late ws s) b
lates_as lcid [] s b = refl
lates_as lcid (w ∷ ws) s b = lates_by (is_overdue s) lcid w ws s b (lates_as lcid ws (after_late s) b)

settled_as : (a : Bool) (e : Ends) (told : List Event) (b : State)
    → does_all (only_if a (settles e)) (record b { pdcp = e }) ≡ with_work (settled_if a (work e b.tx told)) b
settled_as true e told b = refl
settled_as false e told b = refl

dropped_as : (b : State) → does_all (map (λ event. Asks Late) (tick_told b.pdcp)) (does b (Asks TickPdcp))
    ≡ record b { pdcp = after_discards b.pdcp }
unfolding after_discards tick_told
dropped_as b = lates_as b.pdcp.lcid b.pdcp.tx.waiting (pdcp_ticked b.pdcp.tx) b

discards_as : (t : Ticking) → does_all (discards (tick_told t.bearer.pdcp) t.bearer.pdcp) t.bearer
    ≡ (discarded t).bearer
discards_as t =
    let b = t.bearer in
    let told = tick_told b.pdcp in
    let late : List Deed = map (λ event. Asks Late) told in
    let last : List Deed = only_if (nat_lt 0 (length told)) (settles (after_discards b.pdcp)) in
    does_then late last (does b (Asks TickPdcp))
    ∙ ap (does_all last) (dropped_as b)
    ∙ settled_as (nat_lt 0 (length told)) (after_discards b.pdcp) (t.events ++ told) b

discards_quiet : (told : List Event) (e : Ends) → AreQuiet (discards told e)
discards_quiet told e =
    let late : List Deed = map (λ event. Asks Late) told in (
      tt,
      quiet_then late (only_if (nat_lt 0 (length told)) (settles (after_discards e)))
          (quiet_each (Asks Late) told tt) (by (nat_lt 0 (length told))),
    )
  where
    by : (a : Bool) → AreQuiet (only_if a (settles (after_discards e)))
    by true = (tt, tt)
    by false = tt

late_by : (overdue : Bool) (lcid len : ℕ) (more : List Event) → ups_among more ≡ []
    → ups_among (if overdue then events.Discard lcid len ∷ more else []) ≡ []
late_by true lcid len more q = q
late_by false lcid len more q = refl

late_none : (lcid : ℕ) (ws : List Waits) (s : Sending) → ups_among (late_told lcid ws s) ≡ []
late_none lcid [] s = refl
late_none lcid (w ∷ ws) s =
    late_by (is_overdue s) lcid (length w.sdu) (late_told lcid ws (after_late s)) (late_none lcid ws (after_late s))

pub tick_none : (e : Ends) → ups_among (tick_told e) ≡ []
unfolding tick_told
tick_none e = late_none e.lcid e.tx.waiting (pdcp_ticked e.tx)

settled_none : (a : Bool) (w : Work) → ups_among w.events ≡ [] → ups_among (settled_if a w).events ≡ []
settled_none true w q =
    none_then w.events (started_told w.pdcp.lcid (starts w.tx (has_more w.pdcp))) q
    (by (starts w.tx (has_more w.pdcp)))
  where
    by : (b : Bool) → ups_among (started_told w.pdcp.lcid b) ≡ []
    by true = refl
    by false = refl
settled_none false w q = q

discards_none : (t : Ticking) → ups_among t.events ≡ [] → ups_among (discarded t).events ≡ []
discards_none t q =
    let told = tick_told t.bearer.pdcp in
    settled_none (nat_lt 0 (length told)) (work (after_discards t.bearer.pdcp) t.bearer.tx (t.events ++ told))
    (none_then t.events told q (tick_none t.bearer.pdcp))

-- ---- a TTI begins

abbrev pub in_a_tti : State → List Deed
in_a_tti b = ticks Poll b ++ ticks Reorder b ++ ticks Prohibit b ++ discards (tick_told b.pdcp) b.pdcp

pub tti_as : (b : State) → does_all (in_a_tti b) b ≡ (ticked b).bearer
unfolding ticked
tti_as b =
    let t0 : Ticking = record { bearer = b; events = [] } in
    let t1 = ticked_by Poll t0 in
    let t2 = ticked_by Reorder t1 in
    let t3 = ticked_by Prohibit t2 in
    let rx : t1.bearer.rx ≡ b.rx = polled_rx (has_ended Poll b) t0 in
    let two : Untouched t1.bearer t2.bearer = reordered (has_ended Reorder t1.bearer) t1 in
    let prohibit : t2.bearer.rx.prohibit ≡ b.rx.prohibit = two.prohibit ∙ ap (λ (r : Receiver). r.prohibit) rx in
    let pdcp : t3.bearer.pdcp ≡ b.pdcp = prohibited (has_ended Prohibit t2.bearer) t2 ∙ two.pdcp
    ∙ polled_pdcp (has_ended Poll b) t0 in
    let P = ticks Poll b in
    let R = ticks Reorder b in
    let H = ticks Prohibit b in
    let D = discards (tick_told b.pdcp) b.pdcp in
    let first : does_all P b ≡ t1.bearer = ticks_as Poll t0 in
    let second : does_all R t1.bearer ≡ t2.bearer =
    ap (λ deeds. does_all deeds t1.bearer) (sym (reorder_deeds b t1.bearer rx)) ∙ ticks_as Reorder t1 in
    let third : does_all H t2.bearer ≡ t3.bearer =
    ap (λ deeds. does_all deeds t2.bearer) (sym (prohibit_deeds b t2.bearer prohibit)) ∙ ticks_as Prohibit t2 in
    let last : does_all D t3.bearer ≡ (discarded t3).bearer =
    ap (λ (e : Ends). does_all (discards (tick_told e) e) t3.bearer) (sym pdcp) ∙ discards_as t3 in
    does_then (P ++ R ++ H) D b
    ∙ ap (does_all D) (does_then (P ++ R) H b ∙ ap (does_all H) (does_then P R b ∙ ap (does_all R) first ∙ second)
    ∙ third)
    ∙ last

pub tti_quiet : (b : State) → AreQuiet (in_a_tti b)
tti_quiet b =
    quiet_then (ticks Poll b ++ ticks Reorder b ++ ticks Prohibit b) (discards (tick_told b.pdcp) b.pdcp)
    (quiet_then (ticks Poll b ++ ticks Reorder b) (ticks Prohibit b)
    (quiet_then (ticks Poll b) (ticks Reorder b) (ticks_quiet Poll b) (ticks_quiet Reorder b))
    (ticks_quiet Prohibit b))
    (discards_quiet (tick_told b.pdcp) b.pdcp)

pub tti_none : (b : State) → ups_among (ticked b).events ≡ []
unfolding ticked
tti_none b =
    let t0 : Ticking = record { bearer = b; events = [] } in
    discards_none (ticked_by Prohibit (ticked_by Reorder (ticked_by Poll t0)))
    (ticks_none Prohibit (ticked_by Reorder (ticked_by Poll t0))
    (ticks_none Reorder (ticked_by Poll t0) (ticks_none Poll t0 refl)))
