-- The test loop through the stages and calls of a link.
use Rattle.std.proofs.Common.{◌≡◌, ℕ, ◌%◌, ◌==◌, Bool, true, false, if◌then◌else◌, Option, Some}
use Rattle.std.proofs.Common.{None, List, [], ◌∷◌, ◌++◌, map, append_assoc, append-nil, refl, ap, sym, subst}
use Rattle.std.proofs.Common.{◌∙◌}
use Rattle.std.specs.Prelude.{slice_index_or, slice_set, unwrap_or}
use Rattle.air_link.specs.Downlink.{visits as visits_process, builds, built_ndi, block_at, shows, sends, receives}
use Rattle.air_link.specs.Downlink.{hears, feeds, told_as, is_good, saw_new, sees, answer, comes, hears_by, aired}
use Rattle.air_link.specs.Downlink.{lands, unseen, down_order, down_by, downlink}
use Rattle.air_record.specs.Outcomes.{turned, intact, missed}
use Rattle.air_link.specs.Draining.{drain_tti, timer_expires, receiver_expires, all_receivers_expire, receivers_expire}
use Rattle.air_link.specs.Draining.{all_senders_expire, senders_expire}
use Rattle.air_link.specs.Lines.{bears, discards, visits, reports, listens, no_place, submits_by, submitting}
use Rattle.air_link.specs.Lines.{expires_by, expiring, expires_alone, expires, forges, moves, hands_over}
use Rattle.air_link.specs.Link.{Link, fresh, says, end_of}
use Rattle.bearer_types.specs.Lcids.{all_lcids}
use Rattle.air_link.specs.Loops.{loops, pays, loop_set}
use Rattle.air_link.specs.Telling.{tells_all}
use Rattle.air_link.specs.Ttis.{begins, sleeps, tells_sleep, grows, timed, tti_by, tti}
use Rattle.air_link.specs.Uplink.{up_order, is_intact, told_as as up_told_as, granted, hears_if, aired as up_aired}
use Rattle.air_link.specs.Uplink.{awake, up_by, grants, passes, uplink}
use Rattle.air_record.specs.declared.line.Fate.{Fate}
use Rattle.air_record.specs.declared.line.Fate.TheVariants.{Ok, Bad, Miss}
use Rattle.air_record.specs.declared.line.Outcome.{Outcome}
use Rattle.air_record.specs.declared.record.Arrived.TheVariants as arriveds
use Rattle.air_record.specs.declared.record.Record.{Record}
use Rattle.air_record.specs.declared.record.Record.TheVariants as records
use Rattle.bearer_types.specs.declared.event.Event.{Event}
use Rattle.eps_sec.specs.declared.Keys.{Keys}
use Rattle.harq.specs.declared.receiver.Answer.{Answer}
use Rattle.harq.specs.declared.receiver.Answer.TheVariants.{Up, Again, Damaged, Nothing}
use Rattle.harq.specs.declared.sender.Order.{Order}
use Rattle.harq.specs.declared.sender.Order.TheVariants as orders
use Rattle.harq.specs.declared.sender.Visit.{Visit}
use Rattle.harq.specs.declared.sender.Visit.TheVariants.{New, Resend, Silent as Quiet}
use Rattle.harq.specs.Receiving.{after_assigned, grant_ndi, after_grant}
use Rattle.l2_bits.specs.declared.fault.SubmitRefusal.{SubmitRefusal}
use Rattle.l2_node.specs.Building.{visit, building}
use Rattle.l2_node.specs.End.{End}
use Rattle.bearer_types.specs.Sides.{sent_by}
use Rattle.l2_node.specs.Finding.{has}
use Rattle.l2_node.specs.Hearing.{received}
use Rattle.l2_node.specs.Moving.{leaving}
use Rattle.l2_node.specs.Submitting.{refusal}
use Rattle.l2_types.specs.declared.event.Clock.{Clock}
use Rattle.l2_types.specs.declared.event.Clock.TheVariants.{Poll, Reorder, Prohibit}
use Rattle.l2_types.specs.declared.side.Side.{Side}
use Rattle.l2_types.specs.declared.side.Side.TheVariants.{Nb, Ue}
use Rattle.mac_pdu.specs.declared.item.Direction.{Direction}
use Rattle.mac_pdu.specs.declared.item.Direction.TheVariants as directions
use Rattle.pdu_show.specs.Show.{block_shown}
use Rattle.test_loop.specs.declared.Mode.{Mode}
use Rattle.test_loop.specs.Items.{Item}
use Rattle.test_loop.specs.Loops.{fresh as no_loop, is_keeping, after_set}
use Rattle.law_node.specs.Calls.{Visits as VisitsProcess, Receive, Expire, Move}
use Rattle.law_node.proofs.Looping.{tells_no_loop}
use Rattle.promises.specs.Events.{TellNoLoop}
use Rattle.law_run.specs.AnyCalls.Calls.{Call, Bears, Discards, Visits, Reports, Listens, Loops, Expires, Forges}
use Rattle.law_run.specs.AnyCalls.Calls.{HandsOver, ReceiversExpire, SendersExpire, after}
use Rattle.law_run.specs.AnyCalls.Loops.{ComeBack, IsAtRest, LoopsBack, mode_in}
use Rattle.promises.specs.Loops.{item_back}
use Rattle.law_run.proofs.AnyCalls.Gathering.{Seen, seen, Rests, rests_then, rests_unseen, rests_says, waiting, Stands}
use Rattle.law_run.proofs.AnyCalls.Gathering.{Goes, goes_then, goes_resting, loops_go, loops_empty, pays_all}
use Rattle.law_run.proofs.AnyCalls.Handing.{building_none}
use Rattle.law_run.proofs.AnyCalls.Returning.{back_then}
use Rattle.law_run.proofs.AnyCalls.Showing.{block_is_silent}
use Rattle.law_run.proofs.AnyCalls.Ends.{rests_end, HandUpNone, tells_rest, nb_none, tells_go, hears_go, timed_goes}
use Rattle.law_run.proofs.AnyCalls.Ends.{sleep_rests, begins_rests}

-- ---- a block goes out

builds_none : (side : Side) (t grant : ℕ) (order : Order) (e : End) → HandUpNone side (building t grant order e)
builds_none Nb t grant order e = nb_none (building t grant order e)
builds_none Ue t grant order e = building_none t grant order e

builds_rest : (side : Side) (t grant : ℕ) (order : Order) (l : Link) → Rests l (builds side t grant order l)
builds_rest side t grant order l =
    let e = end_of side l in
    let m = visits_process side t grant order l in
    rests_then l m (builds side t grant order l) (rests_end side _ l)
    (tells_rest side (building t grant order e) m (builds_none side t grant order e)
    (tells_no_loop e (VisitsProcess (record { tti = t; grant = grant; order = order; good = true }))))

shows_rest : (direction : Direction) (block : List ℕ) (l : Link) → Rests l (shows direction block l)
shows_rest direction block l =
    record {
      more = block_shown direction l.kinds block;
      seen_is = refl;
      silent = block_is_silent direction l.kinds block;
    }

sends_rest : (v : Visit) (side : Side) (t : ℕ) (block : List ℕ) (l : Link) → Rests l (sends v side t block l)
sends_rest New side t block l =
    let m = says (records.Block (sent_by side) (t % 8) true 0 block) l in
    rests_then l m (shows (sent_by side) block m)
    (rests_says (records.Block (sent_by side) (t % 8) true 0 block) l
    (record { none_back = refl; none_due = λ mode. refl; none_lost = λ k. refl }))
    (shows_rest (sent_by side) block m)
sends_rest (Resend rv) side t block l =
    rests_says (records.Block (sent_by side) (t % 8) false rv block) l
    (record { none_back = refl; none_due = λ mode. refl; none_lost = λ k. refl })
sends_rest Quiet side t block l = rests_unseen l l refl

-- ---- the downlink

first_if : (b : Bool) (t : ℕ) (l : Link)
    → seen (if b then l else saw_new t (record l { seen = slice_set l.seen (t % 8) true })) ≡ seen l
first_if true t l = refl
first_if false t l = refl

sees_seen : (t : ℕ) (good : Bool) (l : Link) → seen (sees t good l) ≡ seen l
sees_seen t true l = first_if (slice_index_or l.seen (t % 8) false) t l
sees_seen t false l = first_if (slice_index_or l.seen (t % 8) false) t l

comes_seen : (f : Fate) (t : ℕ) (ndi : Bool) (l : Link) → seen (comes f t ndi l) ≡ seen l
comes_seen Miss t ndi l = refl
comes_seen Ok t ndi l =
    sees_seen t true (record l { ue = record l.ue { receiver = after_assigned l.ue.receiver t ndi true } })
comes_seen Bad t ndi l =
    sees_seen t false (record l { ue = record l.ue { receiver = after_assigned l.ue.receiver t ndi false } })

unseen_seen : (v : Visit) (t : ℕ) (l : Link) → seen (unseen v t l) ≡ seen l
unseen_seen New t l = refl
unseen_seen (Resend rv) t l = refl
unseen_seen Quiet t l = refl

hears_by_goes : (mode : Mode) (a : Answer) (block : List ℕ) (l : Link) → Goes mode l (hears_by a block l)
hears_by_goes mode Up block l = hears_go mode Ue block l
hears_by_goes mode Again block l = goes_resting mode l l (rests_unseen l l refl)
hears_by_goes mode Damaged block l = goes_resting mode l l (rests_unseen l l refl)
hears_by_goes mode Nothing block l = goes_resting mode l l (rests_unseen l l refl)

aired_goes : (mode : Mode) (t : ℕ) (flipped : Bool) (a : Answer) (block : List ℕ) (l : Link)
    → Goes mode l (aired t flipped a block l)
aired_goes mode t flipped a block l =
    let good = turned flipped (is_good a) in
    let one = records.Air (sent_by Nb) (told_as a) (Some good) in
    let m = feeds Nb t good l in
    let n = says one m in
    goes_then mode l n (hears_by a block n)
    (goes_resting mode l n (rests_then l m n (rests_end Nb _ l)
    (rests_says one m (record { none_back = refl; none_due = λ mode. refl; none_lost = λ k. refl }))))
    (hears_by_goes mode a block n)

goes_down : (mode : Mode) (v : Visit) (t : ℕ) (o : Outcome) (ndi : Bool) (block : List ℕ) (l : Link)
    → Goes mode l (lands t o ndi block (sends v Nb t block (unseen v t l)))
goes_down mode v t o ndi block l =
    let m = unseen v t l in
    let n = sends v Nb t block m in
    let p = comes o.fate t ndi n in
    let a = answer o.fate t ndi n in
    let to_p = rests_then l n p (rests_then l m n (rests_unseen l m (unseen_seen v t l)) (sends_rest v Nb t block m))
    (rests_unseen n p (comes_seen o.fate t ndi n)) in
    goes_then mode l p (aired t o.flipped a block p) (goes_resting mode l p to_p)
    (aired_goes mode t o.flipped a block p)

down_by_goes : (mode : Mode) (v : Visit) (t : ℕ) (o : Outcome) (ndi : Bool) (l : Link)
    → Goes mode l (down_by v t o ndi l)
down_by_goes mode New t o ndi l = goes_down mode New t o ndi (block_at t l.nb) l
down_by_goes mode (Resend rv) t o ndi l = goes_down mode (Resend rv) t o ndi (block_at t l.nb) l
down_by_goes mode Quiet t o ndi l = goes_resting mode l l (rests_unseen l l refl)

pub downlink_goes : (mode : Mode) (t grant : ℕ) (o : Outcome) (l : Link) → Goes mode l (downlink t grant o l)
unfolding downlink
downlink_goes mode t grant o l =
    let order = down_order grant in
    let v = visit t order l.nb in
    let ndi = built_ndi Nb t grant order l in
    let m = builds Nb t grant order l in
    goes_then mode l m (down_by v t o ndi m) (goes_resting mode l m (builds_rest Nb t grant order l))
    (down_by_goes mode v t o ndi m)

-- ---- the uplink

awake_seen : (v : Visit) (t : ℕ) (l : Link) → seen (awake v t l) ≡ seen l
awake_seen New t l = refl
awake_seen (Resend rv) t l = refl
awake_seen Quiet t l = refl

hears_if_rests : (good : Bool) (block : List ℕ) (l : Link) → Rests l (hears_if good block l)
hears_if_rests true block l =
    let m = receives Nb block l in
    let es = (received l.nb block).events in
    rests_then l m (tells_all Nb es m) (rests_unseen l m refl) (tells_rest Nb es m (nb_none es)
    (tells_no_loop l.nb (Receive block)))
hears_if_rests false block l = rests_unseen l l refl

goes_up : (v : Visit) (t : ℕ) (o : Outcome) (block : List ℕ) (l : Link)
    → Rests l (up_aired t o.flipped (is_intact o.fate) block (sends v Ue t block (awake v t l)))
goes_up v t o block l =
    let good = is_intact o.fate in
    let one = records.Air directions.Up (up_told_as good) (Some (turned o.flipped good)) in
    let m = awake v t l in
    let n = sends v Ue t block m in
    let p = feeds Ue t (turned o.flipped good) (granted t (Some good) n) in
    let q = says one p in
    let to_n = rests_then l m n (rests_unseen l m (awake_seen v t l)) (sends_rest v Ue t block m) in
    let to_q = rests_then l p q (rests_then l n p to_n (rests_unseen n p refl))
    (rests_says one p (record { none_back = refl; none_due = λ mode. refl; none_lost = λ k. refl })) in
    rests_then l q (hears_if good block q) to_q (hears_if_rests good block q)

up_by_rests : (v : Visit) (t : ℕ) (o : Outcome) (l : Link) → Rests l (up_by v t o l)
up_by_rests New t o l = goes_up New t o (block_at t l.ue) l
up_by_rests (Resend rv) t o l = goes_up (Resend rv) t o (block_at t l.ue) l
up_by_rests Quiet t o l = let m = granted t None l in
    rests_then l m (up_by Quiet t o l) (rests_unseen l m refl)
    (rests_says (records.Air directions.Up arriveds.Nothing None) m
    (record { none_back = refl; none_due = λ mode. refl; none_lost = λ k. refl }))

uplink_if : (b : Bool) (t grant : ℕ) (o : Outcome) (l : Link) → Rests l (if b then passes t l else grants t grant o l)
uplink_if true t grant o l = let m = builds Ue t 0 orders.Silent l in
    rests_then l m (passes t l) (builds_rest Ue t 0 orders.Silent l) (rests_unseen m (passes t l) refl)
uplink_if false t grant o l =
    let order = up_order o.fate (grant_ndi l.nb.receiver t) in
    let m : Link = record l { nb = record l.nb { receiver = after_grant l.nb.receiver t } } in
    let n = builds Ue t grant order m in
    let v = visit t order m.ue in
    rests_then l n (up_by v t o n) (rests_then l m n (rests_unseen l m refl) (builds_rest Ue t grant order m))
    (up_by_rests v t o n)

uplink_rests : (t grant : ℕ) (o : Outcome) (l : Link) → Rests l (uplink t grant o l)
unfolding uplink
uplink_rests t grant o l = uplink_if (grant == 0) t grant o l

-- ---- a call, behind which nothing waits for the loop where nothing did before

record Settles (mode : Mode) (l m : Link) : Type 0 where
  goes : Goes mode l m
  empties : Stands mode l → l.ups ≡ [] → m.ups ≡ []

settles_then : (mode : Mode) (l m n : Link) → Settles mode l m → Settles mode m n → Settles mode l n
settles_then mode l m n p q =
    record { goes = goes_then mode l m n p.goes q.goes; empties = λ s e. q.empties (p.goes s).stands (p.empties s e) }

settles_resting : (mode : Mode) (l m : Link) → Rests l m → Settles mode l m
settles_resting mode l m r = record {
  goes = goes_resting mode l m r;
  empties = λ s e. ap (λ (x : Seen). x.ups) r.seen_is ∙ e;
}

settles_looping : (mode : Mode) (l m : Link) → Goes mode l m → Settles mode l (loops m)
settles_looping mode l m g = record {
  goes = goes_then mode l m (loops m) g (loops_go mode m);
  empties = λ s e. loops_empty mode m (g s).stands;
}

by_blocks : (mode : Mode) (t up_grant : ℕ) (up : Outcome) (down_grant : ℕ) (down : Outcome) (l m : Link)
    → Goes mode l m → Settles mode l (uplink t up_grant up (loops (downlink t down_grant down m)))
by_blocks mode t up_grant up down_grant down l m first =
    let n = downlink t down_grant down m in
    settles_then mode l (loops n) (uplink t up_grant up (loops n))
    (settles_looping mode l n (goes_then mode l m n first (downlink_goes mode t down_grant down m)))
    (settles_resting mode (loops n) (uplink t up_grant up (loops n)) (uplink_rests t up_grant up (loops n)))

tti_settles : (mode : Mode) (up_grant : ℕ) (up : Outcome) (down_grant : ℕ) (down : Outcome) (l : Link)
    → Settles mode l (tti up_grant up down_grant down l)
unfolding tti tti_by
tti_settles mode up_grant up down_grant down l =
    let asleep = sleeps l.ttis l in
    let m = begins l in
    let n = tells_sleep asleep m in
    by_blocks mode l.ttis up_grant (missed asleep up) down_grant (missed asleep down) l (timed n)
    (goes_then mode l n (timed n)
    (goes_resting mode l n (rests_then l m n (begins_rests l) (sleep_rests asleep m))) (timed_goes mode n))

drain_settles : (mode : Mode) (grant : ℕ) (l : Link) → Settles mode l (drain_tti grant l)
unfolding drain_tti
drain_settles mode grant l =
    let m = begins l in
    let n = grows Nb m in
    let p = grows Ue n in
    by_blocks mode l.ttis grant intact grant intact l p
    (goes_resting mode l p
    (rests_then l n p (rests_then l m n (begins_rests l) (rests_end Nb _ m)) (rests_end Ue _ n)))

-- ---- a timer expires, a block is forged, a handover

expires_by_settles : (mode : Mode) (r : Option (List Event)) (side : Side) (l : Link) → TellNoLoop (unwrap_or r [])
    → Settles mode l (expires_by r side l)
expires_by_settles mode None side l none = settles_resting mode l l (rests_unseen l l refl)
expires_by_settles mode (Some told) side l none =
    settles_looping mode l (tells_all side told l) (tells_go mode side told l none)

expires_settles : (mode : Mode) (side : Side) (lcid : ℕ) (clock : Clock) (l : Link)
    → Settles mode l (expires side lcid clock l)
unfolding expires
expires_settles mode side lcid clock l =
    let m = expires_alone side lcid clock l in
    let r = expiring side lcid clock l in
    settles_then mode l m (expires_by r side m) (settles_resting mode l m (rests_end side _ l))
    (expires_by_settles mode r side m (tells_no_loop (end_of side l) (Expire lcid clock)))

timer_if : (b : Bool) (mode : Mode) (side : Side) (clock : Clock) (lcid : ℕ) (l : Link)
    → Settles mode l (if b then expires side lcid clock l else l)
timer_if true mode side clock lcid l = expires_settles mode side lcid clock l
timer_if false mode side clock lcid l = settles_resting mode l l (rests_unseen l l refl)

timer_settles : (mode : Mode) (side : Side) (clock : Clock) (lcid : ℕ) (l : Link)
    → Settles mode l (timer_expires side clock lcid l)
unfolding timer_expires
timer_settles mode side clock lcid l = timer_if (has lcid (end_of side l).bearers) mode side clock lcid l

all_receivers_settle : (mode : Mode) (side : Side) (lcids : List ℕ) (l : Link)
    → Settles mode l (all_receivers_expire side lcids l)
all_receivers_settle mode side [] l = settles_resting mode l l (rests_unseen l l refl)
all_receivers_settle mode side (lcid ∷ lcids) l =
    let m = timer_expires side Reorder lcid l in
    let n = receiver_expires side lcid l in
    settles_then mode l n (all_receivers_expire side lcids n)
    (settles_then mode l m n (timer_settles mode side Reorder lcid l) (timer_settles mode side Prohibit lcid m))
    (all_receivers_settle mode side lcids n)

all_senders_settle : (mode : Mode) (side : Side) (lcids : List ℕ) (l : Link)
    → Settles mode l (all_senders_expire side lcids l)
all_senders_settle mode side [] l = settles_resting mode l l (rests_unseen l l refl)
all_senders_settle mode side (lcid ∷ lcids) l =
    let m = timer_expires side Poll lcid l in
    settles_then mode l m (all_senders_expire side lcids m) (timer_settles mode side Poll lcid l)
    (all_senders_settle mode side lcids m)

receivers_settle : (mode : Mode) (l : Link) → Settles mode l (receivers_expire l)
unfolding receivers_expire
receivers_settle mode l =
    let m = all_receivers_expire Nb all_lcids l in
    settles_then mode l m (all_receivers_expire Ue all_lcids m) (all_receivers_settle mode Nb all_lcids l)
    (all_receivers_settle mode Ue all_lcids m)

senders_settle : (mode : Mode) (l : Link) → Settles mode l (senders_expire l)
unfolding senders_expire
senders_settle mode l =
    let m = all_senders_expire Nb all_lcids l in
    settles_then mode l m (all_senders_expire Ue all_lcids m) (all_senders_settle mode Nb all_lcids l)
    (all_senders_settle mode Ue all_lcids m)

forges_settle : (mode : Mode) (side : Side) (block : List ℕ) (l : Link) → Settles mode l (forges side block l)
unfolding forges
forges_settle mode side block l = settles_looping mode l (hears side block l) (hears_go mode side block l)

hands_over_settles : (mode : Mode) (keys : Keys) (l : Link) → Settles mode l (hands_over keys l)
unfolding hands_over
hands_over_settles mode keys l =
    let j = moves keys l in
    let m = tells_all Nb (leaving l.nb) j in
    let n = tells_all Ue (leaving l.ue) m in
    settles_looping mode l n
    (goes_then mode l m n
    (goes_then mode l j m (goes_resting mode l j (rests_unseen l j refl))
    (tells_go mode Nb (leaving l.nb) j (tells_no_loop l.nb (Move keys))))
    (tells_go mode Ue (leaving l.ue) m (tells_no_loop l.ue (Move keys))))

submits_by_rests : (r : Option SubmitRefusal) (side : Side) (lcid : ℕ) (sdu : List ℕ) (l : Link)
    → Rests l (submits_by r side lcid sdu l)
submits_by_rests (Some broken) side lcid sdu l =
    rests_says (records.Refused side lcid (no_place broken)) l
    (record { none_back = refl; none_due = λ mode. refl; none_lost = λ k. refl })
submits_by_rests None Nb lcid sdu l = rests_unseen l (submits_by None Nb lcid sdu l) refl
submits_by_rests None Ue lcid sdu l = rests_unseen l (submits_by None Ue lcid sdu l) refl

submitting_settles : (mode : Mode) (side : Side) (lcid : ℕ) (sdu : List ℕ) (l : Link)
    → Settles mode l (submitting side lcid sdu l)
unfolding submitting
submitting_settles mode side lcid sdu l =
    settles_resting mode l _ (submits_by_rests (refusal lcid sdu (end_of side l)) side lcid sdu l)

-- ---- the laws

-- where nothing waits, what may come back is what is kept
kept_alone : (mode : Mode) (l : Link) → l.ups ≡ [] → waiting mode l ≡ l.looping.kept
kept_alone mode l e = ap (λ (x : List Item). l.looping.kept ++ map (item_back mode) x) e ∙ append-nil l.looping.kept

loops_back : (l m : Link) → Settles l.looping.mode l m → IsAtRest l → LoopsBack l.looping.mode l m
loops_back l m p rests =
    let mode = l.looping.mode in
    let s : Stands mode l = record {
      mode_is = refl;
      none_kept = rests.none_kept;
      none_waits = λ h. rests.none_waits;
    } in
    let w = p.goes s in
    let nothing = p.empties s rests.none_waits in
    record {
      more = w.more;
      out_is = w.out_is;
      mode_is = w.stands.mode_is;
      rests =
          record {
            none_waits = nothing;
            none_kept =
                λ h. w.stands.none_kept (ap is_keeping (sym w.stands.mode_is) ∙ h);
          };
      come_back =
          subst (λ (x : List Item). ComeBack mode x m.looping.kept w.more) (kept_alone mode l rests.none_waits)
          (subst (λ (x : List Item). ComeBack mode (waiting mode l) x w.more) (kept_alone mode m nothing) w.come_back);
    }

loop_set_back : (mode : Mode) (l : Link) → IsAtRest l → LoopsBack mode l (loop_set mode l)
unfolding loop_set pays after_set
loop_set_back mode l rests =
    let m = loop_set mode l in
    let p = pays_all mode 0 l in
    let none : m.looping.kept ≡ [] = ap (λ (x : Seen). x.kept) p.seen_is in
    let left : map (item_back mode) l.ups ≡ m.looping.kept = ap (map (item_back mode)) rests.none_waits ∙ sym none in
    record {
      more = p.more;
      out_is = ap (λ (x : Seen). x.out) p.seen_is;
      mode_is = ap (λ (x : Seen). x.mode) p.seen_is;
      rests = record { none_waits = ap (λ (x : Seen). x.ups) p.seen_is ∙ rests.none_waits; none_kept = λ h. none };
      come_back =
          subst (λ (x : List Item). ComeBack mode x m.looping.kept p.more) (kept_alone mode l rests.none_waits)
          (subst (λ (x : List Item). ComeBack mode (waiting mode l) x p.more) left p.come_back);
    }

-- one call behind another in the same mode
pub loops_back_then : (mode : Mode) (l m n : Link) → LoopsBack mode l m → LoopsBack mode m n → LoopsBack mode l n
loops_back_then mode l m n p q = record {
  more = p.more ++ q.more;
  out_is = q.out_is ∙ ap (λ (x : List Record). x ++ q.more) p.out_is ∙ append_assoc l.out p.more q.more;
  mode_is = q.mode_is;
  rests = q.rests;
  come_back = back_then mode l.looping.kept m.looping.kept n.looping.kept p.more q.more p.come_back q.come_back;
}

pub first_rests : IsAtRest fresh
unfolding fresh no_loop
first_rests = record { none_waits = refl; none_kept = λ h. refl }

pub calls_loop_back : (c : Call) (l : Link) → IsAtRest l → LoopsBack (mode_in c l.looping.mode) l (after c l)
unfolding bears discards visits reports listens
calls_loop_back (Bears config keys) l =
    loops_back l (bears config keys l)
    (settles_resting l.looping.mode l _ (rests_unseen l (bears config keys l) refl))
calls_loop_back (Discards lcid ttis) l =
    loops_back l (discards lcid ttis l)
    (settles_resting l.looping.mode l _ (rests_unseen l (discards lcid ttis l) refl))
calls_loop_back (Visits maximum) l =
    loops_back l (visits maximum l) (settles_resting l.looping.mode l _ (rests_unseen l (visits maximum l) refl))
calls_loop_back Reports l =
    loops_back l (reports l) (settles_resting l.looping.mode l _ (rests_unseen l (reports l) refl))
calls_loop_back (Listens config) l =
    loops_back l (listens config l) (settles_resting l.looping.mode l _ (rests_unseen l (listens config l) refl))
calls_loop_back (Loops mode) l = loop_set_back mode l
calls_loop_back (Expires side lcid clock) l =
    loops_back l (expires side lcid clock l) (expires_settles l.looping.mode side lcid clock l)
calls_loop_back (Forges side block) l = loops_back l (forges side block l) (forges_settle l.looping.mode side block l)
calls_loop_back (HandsOver keys) l = loops_back l (hands_over keys l) (hands_over_settles l.looping.mode keys l)
calls_loop_back ReceiversExpire l = loops_back l (receivers_expire l) (receivers_settle l.looping.mode l)
calls_loop_back SendersExpire l = loops_back l (senders_expire l) (senders_settle l.looping.mode l)

pub submissions_loop_back : (side : Side) (lcid : ℕ) (sdu : List ℕ) (l : Link) → IsAtRest l
    → LoopsBack l.looping.mode l (submitting side lcid sdu l)
submissions_loop_back side lcid sdu l =
    loops_back l (submitting side lcid sdu l) (submitting_settles l.looping.mode side lcid sdu l)

pub ttis_loop_back : (up_grant : ℕ) (up : Outcome) (down_grant : ℕ) (down : Outcome) (l : Link) → IsAtRest l
    → LoopsBack l.looping.mode l (tti up_grant up down_grant down l)
ttis_loop_back up_grant up down_grant down l =
    loops_back l (tti up_grant up down_grant down l) (tti_settles l.looping.mode up_grant up down_grant down l)

pub drains_loop_back : (grant : ℕ) (l : Link) → IsAtRest l → LoopsBack l.looping.mode l (drain_tti grant l)
drains_loop_back grant l = loops_back l (drain_tti grant l) (drain_settles l.looping.mode grant l)
