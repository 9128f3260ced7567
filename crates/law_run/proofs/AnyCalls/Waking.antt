-- Only the call that configures DRX configures it.
use Rattle.std.proofs.Common.{◌%◌, ◌≡◌, ℕ, Bool, true, false, ◌&&◌, ◌==◌, nat_le, if◌then◌else◌, Option, Some, None}
use Rattle.std.proofs.Common.{List, [], ◌∷◌, ◌++◌, length, refl, ap, ◌∙◌}
use Rattle.std.specs.Prelude.{option_map, slice_index_or, slice_set}
use Rattle.air_link.specs.Link.{Link, end_of, with_end}
use Rattle.air_link.specs.Telling.{delivers, gathers, fails, noted, tells, tells_all}
use Rattle.air_link.specs.Loops.{loses, returns_by, returns, returns_all, kept_by, takes, takes_all, loops, owed, paid}
use Rattle.air_link.specs.Loops.{pays, loop_set}
use Rattle.air_link.specs.Downlink.{visits as visits_process, builds, built_ndi, block_at, sends, receives, hears}
use Rattle.air_link.specs.Downlink.{saw_new, first_seen, sees, assigned, answer, comes, hears_by, lands, unseen}
use Rattle.air_link.specs.Downlink.{goes_down, down_order, down_by, downlink}
use Rattle.air_link.specs.Uplink.{up_order, is_intact, hears_if, awake, goes_up, up_by, answers, grants, passes, uplink}
use Rattle.air_link.specs.Ttis.{begins, sleeps, tells_sleep, grows, ticks, times, keeps_first, timed, tti_by, tti}
use Rattle.air_link.specs.Draining.{drain_tti, timer_expires, receiver_expires, all_receivers_expire, receivers_expire}
use Rattle.air_link.specs.Draining.{all_senders_expire, senders_expire}
use Rattle.air_link.specs.Lines.{bears, discards, visits, reports, submits_by, submitting, expires_by, expiring}
use Rattle.air_link.specs.Lines.{expires_alone, expires, forges, moves, hands_over}
use Rattle.air_record.specs.declared.line.Fate.{Fate}
use Rattle.air_record.specs.declared.line.Fate.TheVariants.{Ok, Bad, Miss}
use Rattle.air_record.specs.declared.line.Outcome.{Outcome}
use Rattle.air_record.specs.Outcomes.{intact, missed}
use Rattle.bearer_types.specs.Lcids.{all_lcids}
use Rattle.bearer_types.specs.declared.event.Event.{Event}
use Rattle.bearer_types.specs.declared.event.Event.TheVariants as events
use Rattle.eps_sec.specs.declared.Keys.{Keys}
use Rattle.harq.specs.declared.receiver.Answer.{Answer}
use Rattle.harq.specs.declared.receiver.Answer.TheVariants.{Up, Again, Damaged, Nothing}
use Rattle.harq.specs.declared.sender.Order.{Order}
use Rattle.harq.specs.declared.sender.Order.TheVariants.{Silent}
use Rattle.harq.specs.declared.sender.Visit.{Visit}
use Rattle.harq.specs.declared.sender.Visit.TheVariants.{New, Resend, Silent as Quiet}
use Rattle.harq.specs.Receiving.{after_assigned, after_grant, grant_ndi}
use Rattle.l2_bits.specs.declared.fault.SubmitRefusal.{SubmitRefusal}
use Rattle.l2_node.specs.Building.{visit, building}
use Rattle.l2_node.specs.End.{End}
use Rattle.l2_node.specs.Finding.{has}
use Rattle.l2_node.specs.Hearing.{ticked, received}
use Rattle.l2_node.specs.Moving.{leaving}
use Rattle.l2_node.specs.Submitting.{refusal}
use Rattle.l2_types.specs.declared.event.Clock.{Clock}
use Rattle.l2_types.specs.declared.event.Clock.TheVariants.{Poll, Reorder, Prohibit}
use Rattle.l2_types.specs.declared.side.Side.{Side}
use Rattle.l2_types.specs.declared.side.Side.TheVariants.{Nb, Ue}
use Rattle.test_loop.specs.declared.Kept.{Kept}
use Rattle.test_loop.specs.declared.Kept.TheVariants.{Now, Later, Full}
use Rattle.test_loop.specs.declared.Mode.{Mode}
use Rattle.test_loop.specs.Items.{Item, item}
use Rattle.test_loop.specs.Loops.{is_on, is_keeping, taken_answer, after_taken, after_tick, after_set}
use Rattle.law_run.specs.AnyCalls.Calls.{Call, Bears, Discards, Visits, Reports, Listens, Loops, Expires, Forges}
use Rattle.law_run.specs.AnyCalls.Calls.{HandsOver, ReceiversExpire, SendersExpire, after}

-- ---- stages that leave it

end_same : (side : Side) (e : End) (l : Link) → (with_end side e l).drx ≡ l.drx
end_same Nb e l = refl
end_same Ue e l = refl

gathers_if : (b : Bool) (i : Item) (l : Link) → (if b then record l { ups = l.ups ++ i ∷ [] } else l).drx ≡ l.drx
gathers_if true i l = refl
gathers_if false i l = refl

up_same : (side : Side) (lcid : ℕ) (octets : List ℕ) (l : Link)
    → (gathers side lcid octets (delivers side lcid l)).drx ≡ l.drx
up_same Nb lcid octets l = refl
up_same Ue lcid octets l =
    gathers_if ((is_on l.looping.mode && nat_le 3 lcid) && nat_le 1 (length octets)) (item lcid octets)
    (delivers Ue lcid l)

fail_same : (side : Side) (lcid : ℕ) (l : Link) → (fails side lcid l).drx ≡ l.drx
fail_same Nb lcid l = refl
fail_same Ue lcid l = refl

noted_same : (side : Side) (e : Event) (l : Link) → (noted side e l).drx ≡ l.drx
noted_same side (events.Up lcid octets) l = up_same side lcid octets l
noted_same side (events.Fail lcid sn) l = fail_same side lcid l
noted_same side e l = refl

tells_same : (side : Side) (es : List Event) (l : Link) → (tells_all side es l).drx ≡ l.drx
tells_same side [] l = refl
tells_same side (e ∷ es) l = tells_same side es (tells side e l) ∙ noted_same side e l

-- the test loop
returns_by_same : (r : Option SubmitRefusal) (lcid : ℕ) (octets : List ℕ) (l : Link)
    → (returns_by r lcid octets l).drx ≡ l.drx
returns_by_same (Some broken) lcid octets l = refl
returns_by_same None lcid octets l = refl

returns_if : (b : Bool) (lcid : ℕ) (octets : List ℕ) (l : Link)
    → (if b then returns_by (refusal lcid octets l.ue) lcid octets l else loses lcid l).drx ≡ l.drx
returns_if true lcid octets l = returns_by_same (refusal lcid octets l.ue) lcid octets l
returns_if false lcid octets l = refl

returns_same : (lcid : ℕ) (octets : List ℕ) (l : Link) → (returns lcid octets l).drx ≡ l.drx
returns_same lcid octets l = returns_if (has lcid l.ue.bearers) lcid octets l

returns_all_same : (is : List Item) (l : Link) → (returns_all is l).drx ≡ l.drx
returns_all_same [] l = refl
returns_all_same (i ∷ is) l = returns_all_same is (returns i.lcid i.octets l) ∙ returns_same i.lcid i.octets l

kept_same : (k : Kept) (lcid : ℕ) (l : Link) → (kept_by k lcid l).drx ≡ l.drx
kept_same (Now octets) lcid l = returns_same lcid octets l
kept_same Later lcid l = refl
kept_same Full lcid l = refl

takes_if : (b : Bool) (i : Item) (l : Link)
    → (if b then kept_by (taken_answer l.looping i.octets) i.lcid
    (record l { looping = after_taken l.looping i }) else l).drx ≡ l.drx
takes_if true i l = kept_same (taken_answer l.looping i.octets) i.lcid (record l { looping = after_taken l.looping i })
takes_if false i l = refl

takes_all_same : (is : List Item) (l : Link) → (takes_all is l).drx ≡ l.drx
takes_all_same [] l = refl
takes_all_same (i ∷ is) l = takes_all_same is (takes i l) ∙ takes_if (is_on l.looping.mode) i l

loops_same : (l : Link) → (loops l).drx ≡ l.drx
unfolding loops
loops_same l = takes_all_same l.ups (record l { ups = [] })

pays_same : (l : Link) → (pays l).drx ≡ l.drx
unfolding pays
pays_same l = returns_all_same (owed l.looping) (record l { looping = paid l.looping })

loop_set_same : (mode : Mode) (l : Link) → (loop_set mode l).drx ≡ l.drx
unfolding loop_set
loop_set_same mode l = pays_same (record l { looping = after_set l.looping mode })

-- timers
expires_by_same : (r : Option (List Event)) (side : Side) (l : Link) → (expires_by r side l).drx ≡ l.drx
expires_by_same None side l = refl
expires_by_same (Some es) side l = loops_same (tells_all side es l) ∙ tells_same side es l

expires_same : (side : Side) (lcid : ℕ) (clock : Clock) (l : Link) → (expires side lcid clock l).drx ≡ l.drx
unfolding expires
expires_same side lcid clock l =
    expires_by_same (expiring side lcid clock l) side (expires_alone side lcid clock l) ∙ end_same side _ l

timer_if : (b : Bool) (side : Side) (clock : Clock) (lcid : ℕ) (l : Link)
    → (if b then expires side lcid clock l else l).drx ≡ l.drx
timer_if true side clock lcid l = expires_same side lcid clock l
timer_if false side clock lcid l = refl

timer_same : (side : Side) (clock : Clock) (lcid : ℕ) (l : Link) → (timer_expires side clock lcid l).drx ≡ l.drx
unfolding timer_expires
timer_same side clock lcid l = timer_if (has lcid (end_of side l).bearers) side clock lcid l

receiver_same : (side : Side) (lcid : ℕ) (l : Link) → (receiver_expires side lcid l).drx ≡ l.drx
receiver_same side lcid l =
    timer_same side Prohibit lcid (timer_expires side Reorder lcid l) ∙ timer_same side Reorder lcid l

all_receivers_same : (side : Side) (lcids : List ℕ) (l : Link) → (all_receivers_expire side lcids l).drx ≡ l.drx
all_receivers_same side [] l = refl
all_receivers_same side (lcid ∷ lcids) l =
    all_receivers_same side lcids (receiver_expires side lcid l) ∙ receiver_same side lcid l

all_senders_same : (side : Side) (lcids : List ℕ) (l : Link) → (all_senders_expire side lcids l).drx ≡ l.drx
all_senders_same side [] l = refl
all_senders_same side (lcid ∷ lcids) l =
    all_senders_same side lcids (timer_expires side Poll lcid l) ∙ timer_same side Poll lcid l

pub receivers_same : (l : Link) → (receivers_expire l).drx ≡ l.drx
unfolding receivers_expire
receivers_same l = all_receivers_same Ue all_lcids (all_receivers_expire Nb all_lcids l)
    ∙ all_receivers_same Nb all_lcids l

pub senders_same : (l : Link) → (senders_expire l).drx ≡ l.drx
unfolding senders_expire
senders_same l = all_senders_same Ue all_lcids (all_senders_expire Nb all_lcids l) ∙ all_senders_same Nb all_lcids l

times_same : (side : Side) (l : Link) → (times side l).drx ≡ l.drx
times_same side l =
    let es = (ticked (end_of side l)).events in
    end_same side _ (tells_all side es (ticks side l)) ∙ tells_same side es (ticks side l) ∙ end_same side _ l

keeps_if : (b : Bool) (l : Link) → (if b then loops l else l).drx ≡ l.drx
keeps_if true l = loops_same l
keeps_if false l = refl

timed_same : (l : Link) → (timed l).drx ≡ l.drx
unfolding timed
timed_same l =
    let j : Link = record l { looping = after_tick l.looping } in
    let m = times Nb j in
    let n = times Ue m in
    pays_same (keeps_first n) ∙ keeps_if (is_keeping n.looping.mode) n ∙ times_same Ue m ∙ times_same Nb j

sleep_same : (asleep : Bool) (l : Link) → (tells_sleep asleep l).drx ≡ l.drx
sleep_same true l = refl
sleep_same false l = refl

-- blocks
hears_same : (side : Side) (block : List ℕ) (l : Link) → (hears side block l).drx ≡ l.drx
hears_same side block l =
    tells_same side (received (end_of side l) block).events (receives side block l) ∙ end_same side _ l

forges_same : (side : Side) (block : List ℕ) (l : Link) → (forges side block l).drx ≡ l.drx
unfolding forges
forges_same side block l = loops_same (hears side block l) ∙ hears_same side block l

builds_same : (side : Side) (t grant : ℕ) (order : Order) (l : Link) → (builds side t grant order l).drx ≡ l.drx
builds_same side t grant order l =
    tells_same side (building t grant order (end_of side l)) (visits_process side t grant order l)
    ∙ end_same side _ l

sends_same : (v : Visit) (side : Side) (t : ℕ) (block : List ℕ) (l : Link) → (sends v side t block l).drx ≡ l.drx
sends_same New side t block l = refl
sends_same (Resend rv) side t block l = refl
sends_same Quiet side t block l = refl

hears_by_same : (a : Answer) (block : List ℕ) (l : Link) → (hears_by a block l).drx ≡ l.drx
hears_by_same Up block l = hears_same Ue block l
hears_by_same Again block l = refl
hears_by_same Damaged block l = refl
hears_by_same Nothing block l = refl

hears_if_same : (b : Bool) (block : List ℕ) (l : Link) → (hears_if b block l).drx ≡ l.drx
hears_if_same true block l = hears_same Nb block l
hears_if_same false block l = refl

unseen_same : (v : Visit) (t : ℕ) (l : Link) → (unseen v t l).drx ≡ l.drx
unseen_same New t l = refl
unseen_same (Resend rv) t l = refl
unseen_same Quiet t l = refl

-- ---- where DRX isn't configured

abbrev pub HasNoDrx : Link → Type 0
HasNoDrx l = l.drx ≡ None

none_mapped : {A : Type 0} (f : A → A) (x : Option A) → x ≡ None → option_map f x ≡ None
none_mapped f x e = ap (option_map f) e

-- what a terminal sees is nothing to it
saw_none : (t : ℕ) (l : Link) → HasNoDrx l → HasNoDrx (saw_new t l)
saw_none t l e = none_mapped _ l.drx e

first_if : (b : Bool) (t : ℕ) (l : Link) → HasNoDrx l
    → HasNoDrx (if b then l else saw_new t (record l { seen = slice_set l.seen (t % 8) true }))
first_if true t l e = e
first_if false t l e = saw_none t (record l { seen = slice_set l.seen (t % 8) true }) e

first_none : (t : ℕ) (l : Link) → HasNoDrx l → HasNoDrx (first_seen t l)
first_none t l e = first_if (slice_index_or l.seen (t % 8) false) t l e

sees_none : (t : ℕ) (good : Bool) (l : Link) → HasNoDrx l → HasNoDrx (sees t good l)
sees_none t true l e = none_mapped _ (first_seen t l).drx (first_none t l e)
sees_none t false l e = none_mapped _ (first_seen t l).drx (first_none t l e)

assigned_none : (t : ℕ) (ndi good : Bool) (l : Link) → HasNoDrx l → HasNoDrx (assigned t ndi good l)
assigned_none t ndi good l e =
    sees_none t good (record l { ue = record l.ue { receiver = after_assigned l.ue.receiver t ndi good } }) e

comes_none : (f : Fate) (t : ℕ) (ndi : Bool) (l : Link) → HasNoDrx l → HasNoDrx (comes f t ndi l)
comes_none Miss t ndi l e = e
comes_none Ok t ndi l e = assigned_none t ndi true l e
comes_none Bad t ndi l e = assigned_none t ndi false l e

lands_none : (t : ℕ) (o : Outcome) (ndi : Bool) (block : List ℕ) (l : Link) → HasNoDrx l
    → HasNoDrx (lands t o ndi block l)
lands_none t o ndi block l e = hears_by_same (answer o.fate t ndi l) block _ ∙ comes_none o.fate t ndi l e

goes_down_none : (v : Visit) (t : ℕ) (o : Outcome) (ndi : Bool) (block : List ℕ) (l : Link) → HasNoDrx l
    → HasNoDrx (goes_down v t o ndi block l)
goes_down_none v t o ndi block l e =
    lands_none t o ndi block (sends v Nb t block (unseen v t l))
    (sends_same v Nb t block (unseen v t l) ∙ unseen_same v t l ∙ e)

down_by_none : (v : Visit) (t : ℕ) (o : Outcome) (ndi : Bool) (l : Link) → HasNoDrx l → HasNoDrx (down_by v t o ndi l)
down_by_none New t o ndi l e = goes_down_none New t o ndi (block_at t l.nb) l e
down_by_none (Resend rv) t o ndi l e = goes_down_none (Resend rv) t o ndi (block_at t l.nb) l e
down_by_none Quiet t o ndi l e = e

downlink_none : (t grant : ℕ) (o : Outcome) (l : Link) → HasNoDrx l → HasNoDrx (downlink t grant o l)
unfolding downlink
downlink_none t grant o l e =
    let order = down_order grant in
    down_by_none (visit t order l.nb) t o (built_ndi Nb t grant order l) (builds Nb t grant order l)
    (builds_same Nb t grant order l ∙ e)

awake_none : (v : Visit) (t : ℕ) (l : Link) → HasNoDrx l → HasNoDrx (awake v t l)
awake_none New t l e = saw_none t l e
awake_none (Resend rv) t l e = e
awake_none Quiet t l e = e

goes_up_none : (v : Visit) (t : ℕ) (o : Outcome) (block : List ℕ) (l : Link) → HasNoDrx l
    → HasNoDrx (goes_up v t o block l)
goes_up_none v t o block l e =
    hears_if_same (is_intact o.fate) block _ ∙ sends_same v Ue t block (awake v t l) ∙ awake_none v t l e

up_by_none : (v : Visit) (t : ℕ) (o : Outcome) (l : Link) → HasNoDrx l → HasNoDrx (up_by v t o l)
up_by_none New t o l e = goes_up_none New t o (block_at t l.ue) l e
up_by_none (Resend rv) t o l e = goes_up_none (Resend rv) t o (block_at t l.ue) l e
up_by_none Quiet t o l e = e

answers_none : (t grant : ℕ) (order : Order) (o : Outcome) (l : Link) → HasNoDrx l
    → HasNoDrx (answers t grant order o l)
answers_none t grant order o l e =
    up_by_none (visit t order l.ue) t o (builds Ue t grant order l) (builds_same Ue t grant order l ∙ e)

uplink_if : (b : Bool) (t grant : ℕ) (o : Outcome) (l : Link) → HasNoDrx l
    → HasNoDrx (if b then passes t l else grants t grant o l)
uplink_if true t grant o l e = builds_same Ue t 0 Silent l ∙ e
uplink_if false t grant o l e =
    answers_none t grant (up_order o.fate (grant_ndi l.nb.receiver t)) o
    (record l { nb = record l.nb { receiver = after_grant l.nb.receiver t } }) e

uplink_none : (t grant : ℕ) (o : Outcome) (l : Link) → HasNoDrx l → HasNoDrx (uplink t grant o l)
unfolding uplink
uplink_none t grant o l e = uplink_if (grant == 0) t grant o l e

passes_none : (t up_grant : ℕ) (up : Outcome) (down_grant : ℕ) (down : Outcome) (l : Link) → HasNoDrx l
    → HasNoDrx (uplink t up_grant up (loops (downlink t down_grant down l)))
passes_none t up_grant up down_grant down l e =
    let m = downlink t down_grant down l in
    uplink_none t up_grant up (loops m) (loops_same m ∙ downlink_none t down_grant down l e)

-- ---- the laws

pub tti_none : (up_grant : ℕ) (up : Outcome) (down_grant : ℕ) (down : Outcome) (l : Link) → HasNoDrx l
    → HasNoDrx (tti up_grant up down_grant down l)
unfolding tti tti_by
tti_none up_grant up down_grant down l e =
    let asleep = sleeps l.ttis l in
    let s = tells_sleep asleep (begins l) in
    passes_none l.ttis up_grant (missed asleep up) down_grant (missed asleep down) (timed s)
    (timed_same s ∙ sleep_same asleep (begins l) ∙ e)

pub drain_none : (grant : ℕ) (l : Link) → HasNoDrx l → HasNoDrx (drain_tti grant l)
unfolding drain_tti
drain_none grant l e = passes_none l.ttis grant intact grant intact (grows Ue (grows Nb (begins l))) e

submits_by_same : (r : Option SubmitRefusal) (side : Side) (lcid : ℕ) (sdu : List ℕ) (l : Link)
    → (submits_by r side lcid sdu l).drx ≡ l.drx
submits_by_same (Some broken) side lcid sdu l = refl
submits_by_same None Nb lcid sdu l = refl
submits_by_same None Ue lcid sdu l = refl

pub submitting_same : (side : Side) (lcid : ℕ) (sdu : List ℕ) (l : Link) → (submitting side lcid sdu l).drx ≡ l.drx
unfolding submitting
submitting_same side lcid sdu l = submits_by_same (refusal lcid sdu (end_of side l)) side lcid sdu l

hands_over_none : (keys : Keys) (l : Link) → HasNoDrx l → HasNoDrx (hands_over keys l)
unfolding hands_over
hands_over_none keys l e =
    let j = moves keys l in
    let m = tells_all Nb (leaving l.nb) j in
    loops_same (tells_all Ue (leaving l.ue) m) ∙ tells_same Ue (leaving l.ue) m ∙ tells_same Nb (leaving l.nb) j
    ∙ none_mapped _ l.drx e

abbrev pub configures : Call → Bool
configures (Listens config) = true
configures c = false

pub call_none : (c : Call) (l : Link) → configures c ≡ false → HasNoDrx l → HasNoDrx (after c l)
unfolding bears discards visits reports
call_none (Bears c keys) l none e = e
call_none (Discards lcid ttis) l none e = e
call_none (Visits maximum) l none e = e
call_none Reports l none e = e
call_none (Listens c) l none e = absurd cc
call_none (Loops mode) l none e = loop_set_same mode l ∙ e
call_none (Expires side lcid clock) l none e = expires_same side lcid clock l ∙ e
call_none (Forges side block) l none e = forges_same side block l ∙ e
call_none (HandsOver keys) l none e = hands_over_none keys l e
call_none ReceiversExpire l none e = receivers_same l ∙ e
call_none SendersExpire l none e = senders_same l ∙ e
