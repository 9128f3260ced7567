-- What goes up on LCID 0 through the stages and calls of a link.
use Rattle.std.proofs.Common.{◌≡◌, ◌≤◌, ℕ, ◌%◌, ◌==◌, Bool, true, false, if◌then◌else◌, Option, Some, None, List, []}
use Rattle.std.proofs.Common.{◌∷◌, ◌++◌, map, append_assoc, append-nil, refl, ap, sym, subst, ◌∙◌}
use Rattle.std.specs.List.{filter, AllByRecursion}
use Rattle.std.specs.Prelude.{slice_index_or, slice_set, unwrap_or}
use Rattle.air_link.specs.Downlink.{visits as visits_process, builds, built_ndi, block_at, sends, receives, hears}
use Rattle.air_link.specs.Downlink.{feeds, told_as, is_good, saw_new, sees, answer, comes, hears_by, lands, unseen}
use Rattle.air_link.specs.Downlink.{down_order, down_by, downlink}
use Rattle.air_record.specs.Outcomes.{turned, intact, missed}
use Rattle.air_link.specs.Draining.{drain_tti, timer_expires, receiver_expires, all_receivers_expire, receivers_expire}
use Rattle.air_link.specs.Draining.{all_senders_expire, senders_expire}
use Rattle.air_link.specs.Lines.{bears, discards, visits, reports, listens, no_place, submits_by, submitting}
use Rattle.air_link.specs.Lines.{expires_by, expiring, expires_alone, expires, forges, moves, hands_over}
use Rattle.air_link.specs.Link.{Link, says, end_of}
use Rattle.bearer_types.specs.Lcids.{all_lcids}
use Rattle.air_link.specs.Loops.{loops, pays, loop_set}
use Rattle.air_link.specs.Telling.{tells_all}
use Rattle.air_link.specs.Ttis.{begins, sleeps, tells_sleep, grows, timed, tti_by, tti}
use Rattle.air_link.specs.Uplink.{up_order, is_intact, told_as as up_told_as, granted, hears_if, aired as up_aired}
use Rattle.air_link.specs.Uplink.{awake, up_by, grants, passes, uplink}
use Rattle.air_record.specs.declared.line.Fate.{Fate}
use Rattle.air_record.specs.declared.line.Fate.TheVariants.{Ok, Bad, Miss}
use Rattle.air_record.specs.declared.line.Outcome.{Outcome}
use Rattle.air_record.specs.declared.record.Arrived.{Arrived}
use Rattle.air_record.specs.declared.record.Arrived.TheVariants as arriveds
use Rattle.air_record.specs.declared.record.Record.{Record}
use Rattle.air_record.specs.declared.record.Record.TheVariants as records
use Rattle.bearer.specs.Bearer.{Of, Life}
use Rattle.bearer_types.specs.declared.event.Event.{Event}
use Rattle.eps_sec.specs.declared.Keys.{Keys}
use Rattle.harq.specs.declared.receiver.Answer.{Answer}
use Rattle.harq.specs.declared.receiver.Answer.TheVariants.{Up, Again, Damaged, Nothing}
use Rattle.harq.specs.declared.sender.Order.{Order}
use Rattle.harq.specs.declared.sender.Order.TheVariants as orders
use Rattle.harq.specs.declared.sender.Visit.{Visit}
use Rattle.harq.specs.declared.sender.Visit.TheVariants.{New, Resend, Silent as Quiet}
use Rattle.harq.specs.Receiving.{after_assigned, grant_ndi, after_grant}
use Rattle.l2_bits.specs.declared.fault.SubmitRefusal.{SubmitRefusal}
use Rattle.l2_node.specs.Building.{visit, building}
use Rattle.l2_node.specs.End.{End}
use Rattle.bearer_types.specs.Sides.{sent_by, is_same}
use Rattle.l2_node.specs.Finding.{has}
use Rattle.l2_node.specs.Hearing.{received}
use Rattle.l2_node.specs.Moving.{leaving}
use Rattle.l2_node.specs.Submitting.{refusal}
use Rattle.l2_types.specs.declared.event.Clock.{Clock}
use Rattle.l2_types.specs.declared.event.Clock.TheVariants.{Poll, Reorder, Prohibit}
use Rattle.l2_types.specs.declared.side.Side.{Side}
use Rattle.l2_types.specs.declared.side.Side.TheVariants.{Nb, Ue}
use Rattle.mac_pdu.specs.declared.item.Direction.{Direction}
use Rattle.mac_pdu.specs.declared.item.Direction.TheVariants as directions
use Rattle.pdu_show.specs.Show.{block_shown}
use Rattle.law_node.specs.Order.{channels}
use Rattle.law_node.proofs.Sound.{IsInRange}
use Rattle.prioritise.specs.Shares.{Bucketed}
use Rattle.prioritise.specs.ShareLaws.{IsSound}
use Rattle.test_loop.specs.declared.Mode.{Mode}
use Rattle.test_loop.specs.Loops.{after_set}
use Rattle.law_run.specs.AnyCalls.Calls.{Call, Bears, Discards, Visits, Reports, Listens, Loops, Expires, Forges}
use Rattle.law_run.specs.AnyCalls.Calls.{HandsOver, ReceiversExpire, SendersExpire, after}
use Rattle.promises.specs.Records.{is_up, is_of_air, sdu_of, ups_in}
use Rattle.law_run.specs.AnyCalls.Ends.{IsGiven}
use Rattle.law_run.specs.AnyCalls.Zero.{HaveCome, has_zero, Brings, none_forged, forged_by}
use Rattle.promises.specs.Zero.{got_at, arrived, carried, brought}
use Rattle.law_run.proofs.AnyCalls.Advancing.{expires_rests}
use Rattle.law_run.proofs.AnyCalls.Bringing.{ArePlain, Stands, received_zeros, expiry_others, leaving_others}
use Rattle.law_run.proofs.AnyCalls.Bringing.{come_stands}
use Rattle.law_run.proofs.AnyCalls.Going.{Seen, told_seen, loops_rests, woken_rests, grown_rests}
use Rattle.law_run.proofs.AnyCalls.Showing.{block_hands_up_none, block_is_of_no_air}
use Rattle.law_run.proofs.AnyCalls.Visiting.{downlink_goes}
use Rattle.law_run.proofs.AnyCalls.Stilling.{ups_then, sent_behind, arrived_then, none_brought, ups_both, skip, own_ups}
use Rattle.law_run.proofs.AnyCalls.Stilling.{other_ups, told_arrives, Still, still_then, still_unseen, still_says}
use Rattle.law_run.proofs.AnyCalls.Stilling.{told_out, still_tells, still_end, loops_still, pays_still, Stood, stood_at}
use Rattle.law_run.proofs.AnyCalls.Stilling.{stood_on, timed_still, sleep_still, begins_still, builds_still}

-- ---- a stage in which blocks arrive

pub record Carries (known : Side → Bool) (l m : Link) : Type 0 where
  pub more : List Record
  pub out_is : m.out ≡ l.out ++ more
  pub ups_are : (side : Side) (sent : List ℕ) → ups_in side 0 more ≡ brought (known side) side (arrived side sent more)

carries_still : (known : Side → Bool) (l m : Link) → Still l m → Carries known l m
carries_still known l m s = record {
  more = s.more;
  out_is = s.out_is;
  ups_are = λ side sent. s.ups side
      ∙ sym (ap (brought (known side) side) (s.none side sent) ∙ none_brought (known side) side);
}

pub carries_then : (known : Side → Bool) (l m n : Link) → Carries known l m → Carries known m n → Carries known l n
carries_then known l m n p q = record {
  more = p.more ++ q.more;
  out_is = q.out_is ∙ ap (λ (x : List Record). x ++ q.more) p.out_is ∙ append_assoc l.out p.more q.more;
  ups_are = λ side. ups_both (known side) side p.more q.more (p.ups_are side) (q.ups_are side);
}

alone : (known : Bool) (side : Side) (block : List ℕ)
    → (if known then carried side block else []) ≡ brought known side (block ∷ [])
alone true side block = sym (append-nil (carried side block))
alone false side block = refl

-- what goes up as a side hears a block
heard_ups : (known : Side → Bool) (s : Side) (block : List ℕ) (e : End) → Stands (known s) s e → (side : Side)
    → ups_in side 0 (map (records.Of s) (received e block).events)
    ≡ brought (known side) side (if is_same s side then block ∷ [] else [])
heard_ups known Nb block e stands Nb = own_ups Nb (received e block).events
    ∙ received_zeros (known Nb) Nb e block stands ∙ alone (known Nb) Nb block
heard_ups known Nb block e stands Ue = other_ups Nb (received e block).events ∙ sym (none_brought (known Ue) Ue)
heard_ups known Ue block e stands Nb = other_ups Ue (received e block).events ∙ sym (none_brought (known Nb) Nb)
heard_ups known Ue block e stands Ue = own_ups Ue (received e block).events
    ∙ received_zeros (known Ue) Ue e block stands ∙ alone (known Ue) Ue block

-- a block that is sent, with what shows it, what comes of it, and what its side tells then
flies : (known : Side → Bool) (l m : Link) (direction : Direction) (process version : ℕ) (fresh : Bool)
    (block : List ℕ) (shown : List Record) (what : Arrived) (heard : Option Bool) (s : Side) (es : List Event)
    → m.out ≡ l.out ++ (records.Block direction process fresh version block ∷ shown
    ++ records.Air direction what heard ∷ map (records.Of s) es)
    → filter is_of_air shown ≡ [] → ((side : Side) → filter (is_up side 0) shown ≡ [])
    → ((side : Side) → ups_in side 0 (map (records.Of s) es)
    ≡ brought (known side) side (got_at side block (records.Air direction what heard)))
    → Carries known l m
flies known l m direction process version fresh block shown what heard s es out silent none ups = record {
  more = records.Block direction process fresh version block ∷ shown ++ records.Air direction what heard
      ∷ map (records.Of s) es;
  out_is = out;
  ups_are = λ side sent.
      let air = records.Air direction what heard in
      let told = map (records.Of s) es in
      let came : arrived side block (shown ++ air ∷ told) ≡ got_at side block air =
      skip side block shown (air ∷ told) silent
      ∙ ap (λ (x : List (List ℕ)). got_at side block air ++ x) (told_arrives s side block es)
      ∙ append-nil (got_at side block air) in
      ups_then side shown (air ∷ told) ∙ ap (λ (x : List Record). map sdu_of x ++ ups_in side 0 told) (none side)
      ∙ ups side ∙ ap (brought (known side) side) (sym came);
}

-- ---- what a stage leaves of both ends where it touches neither their bearers nor their buckets

record Holds : Type 0 where
  side : Side
  bearers : List (Of Life)
  buckets : Bucketed

abbrev kept_of : End → Holds
kept_of e = record { side = e.side; bearers = e.bearers; buckets = e.buckets }

record View : Type 0 where
  nb : Holds
  ue : Holds
  out : List Record

abbrev view : Link → View
view l = record { nb = kept_of l.nb; ue = kept_of l.ue; out = l.out }

stands_as : (known : Bool) (side : Side) (e f : End) → kept_of f ≡ kept_of e → Stands known side e → Stands known side f
stands_as known side e f same s = record {
  side_is = ap (λ (k : Holds). k.side) same ∙ s.side_is;
  sound = record {
    buckets_are = subst (λ (b : Bucketed). IsSound b) (sym (ap (λ (k : Holds). k.buckets) same)) s.sound.buckets_are;
    bearers_are = subst (λ (b : List (Of Life)). AllByRecursion IsInRange (channels b))
        (sym (ap (λ (k : Holds). k.bearers) same)) s.sound.bearers_are;
  };
  bearers = subst (λ (b : List (Of Life)). ArePlain b) (sym (ap (λ (k : Holds). k.bearers) same)) s.bearers;
  there = ap (λ (k : Holds). has 0 k.bearers) same ∙ s.there;
}

-- ---- the downlink

first_if : (b : Bool) (t : ℕ) (l : Link)
    → view (if b then l else saw_new t (record l { seen = slice_set l.seen (t % 8) true })) ≡ view l
first_if true t l = refl
first_if false t l = refl

sees_view : (t : ℕ) (good : Bool) (l : Link) → view (sees t good l) ≡ view l
sees_view t true l = first_if (slice_index_or l.seen (t % 8) false) t l
sees_view t false l = first_if (slice_index_or l.seen (t % 8) false) t l

comes_view : (f : Fate) (t : ℕ) (ndi : Bool) (l : Link) → view (comes f t ndi l) ≡ view l
comes_view Miss t ndi l = refl
comes_view Ok t ndi l =
    sees_view t true (record l { ue = record l.ue { receiver = after_assigned l.ue.receiver t ndi true } })
comes_view Bad t ndi l =
    sees_view t false (record l { ue = record l.ue { receiver = after_assigned l.ue.receiver t ndi false } })

-- the events of the terminal as a block lands
abbrev landed_told : Answer → List ℕ → End → List Event
landed_told Up block e = (received e block).events
landed_told Again block e = []
landed_told Damaged block e = []
landed_told Nothing block e = []

landed_out : (a : Answer) (block : List ℕ) (l : Link)
    → (hears_by a block l).out ≡ l.out ++ map (records.Of Ue) (landed_told a block l.ue)
landed_out Up block l = told_out Ue (received l.ue block).events (receives Ue block l)
landed_out Again block l = sym (append-nil l.out)
landed_out Damaged block l = sym (append-nil l.out)
landed_out Nothing block l = sym (append-nil l.out)

landed_ups : (known : Side → Bool) (a : Answer) (block : List ℕ) (heard : Option Bool) (e : End)
    → Stands (known Ue) Ue e → (side : Side)
    → ups_in side 0 (map (records.Of Ue) (landed_told a block e))
    ≡ brought (known side) side (got_at side block (records.Air directions.Down (told_as a) heard))
landed_ups known Up block heard e s side = heard_ups known Ue block e s side
landed_ups known Again block heard e s side = sym (none_brought (known side) side)
landed_ups known Damaged block heard e s side = sym (none_brought (known side) side)
landed_ups known Nothing block heard e s side = sym (none_brought (known side) side)

-- a block lands behind what is told of it
lands_carries : (known : Side → Bool) (t : ℕ) (o : Outcome) (ndi : Bool) (process version : ℕ) (fresh : Bool)
    (block : List ℕ) (shown : List Record) (l n : Link)
    → n.out ≡ l.out ++ records.Block directions.Down process fresh version block ∷ shown → kept_of n.ue ≡ kept_of l.ue
    → filter is_of_air shown ≡ [] → ((side : Side) → filter (is_up side 0) shown ≡ [])
    → Stands (known Ue) Ue l.ue → Carries known l (lands t o ndi block n)
lands_carries known t o ndi process version fresh block shown l n out same silent none s =
    let a = answer o.fate t ndi n in
    let p = comes o.fate t ndi n in
    let good = turned o.flipped (is_good a) in
    let air = records.Air directions.Down (told_as a) (Some good) in
    let q = says air (feeds Nb t good p) in
    let here = records.Block directions.Down process fresh version block ∷ shown in
    let view_is = comes_view o.fate t ndi n in
    let stands : Stands (known Ue) Ue q.ue =
    stands_as (known Ue) Ue l.ue q.ue (ap (λ (v : View). v.ue) view_is ∙ same) s in
    let told = map (records.Of Ue) (landed_told a block q.ue) in
    let all : (hears_by a block q).out ≡ l.out ++ (here ++ air ∷ told) =
    landed_out a block q ∙ ap (λ (x : List Record). (x ++ air ∷ []) ++ told) (ap (λ (v : View). v.out) view_is ∙ out)
    ∙ append_assoc (l.out ++ here) (air ∷ []) told ∙ append_assoc l.out here (air ∷ told) in
    flies known l (hears_by a block q) directions.Down process version fresh block shown (told_as a) (Some good) Ue
    (landed_told a block q.ue) all silent none (landed_ups known a block (Some good) q.ue stands)

down_by_carries : (known : Side → Bool) (v : Visit) (t : ℕ) (o : Outcome) (ndi : Bool) (l : Link)
    → Stands (known Ue) Ue l.ue → Carries known l (down_by v t o ndi l)
down_by_carries known New t o ndi l s =
    let block = block_at t l.nb in
    let shown = block_shown (sent_by Nb) l.kinds block in
    lands_carries known t o ndi (t % 8) 0 true block shown l (sends New Nb t block (unseen New t l))
    (append_assoc l.out (records.Block directions.Down (t % 8) true 0 block ∷ []) shown) refl
    (block_is_of_no_air (sent_by Nb) l.kinds block)
    (λ side. block_hands_up_none (sent_by Nb) l.kinds block side 0) s
down_by_carries known (Resend rv) t o ndi l s =
    let block = block_at t l.nb in
    lands_carries known t o ndi (t % 8) rv false block [] l (sends (Resend rv) Nb t block (unseen (Resend rv) t l))
    refl refl refl (λ side. refl) s
down_by_carries known Quiet t o ndi l s = carries_still known l l (still_unseen l l refl)

-- as the base station builds, the terminal stays
builds_other : (t grant : ℕ) (order : Order) (l : Link) → (builds Nb t grant order l).ue ≡ l.ue
builds_other t grant order l =
    ap (λ (s : Seen). s.ue) (told_seen Nb (building t grant order l.nb) (visits_process Nb t grant order l))

downlink_carries : (known : Side → Bool) (t grant : ℕ) (o : Outcome) (l : Link) → Stood known l
    → Carries known l (downlink t grant o l)
unfolding downlink
downlink_carries known t grant o l s =
    let order = down_order grant in
    let v = visit t order l.nb in
    let ndi = built_ndi Nb t grant order l in
    let m = builds Nb t grant order l in
    carries_then known l m (down_by v t o ndi m) (carries_still known l m (builds_still Nb t grant order l))
    (down_by_carries known v t o ndi m
    (subst (λ (e : End). Stands (known Ue) Ue e) (sym (builds_other t grant order l)) s.ue))

-- ---- the uplink

abbrev raised_told : Bool → List ℕ → End → List Event
raised_told true block e = (received e block).events
raised_told false block e = []

raised_out : (good : Bool) (block : List ℕ) (l : Link)
    → (hears_if good block l).out ≡ l.out ++ map (records.Of Nb) (raised_told good block l.nb)
raised_out true block l = told_out Nb (received l.nb block).events (receives Nb block l)
raised_out false block l = sym (append-nil l.out)

raised_ups : (known : Side → Bool) (good : Bool) (block : List ℕ) (heard : Option Bool) (e : End)
    → Stands (known Nb) Nb e → (side : Side)
    → ups_in side 0 (map (records.Of Nb) (raised_told good block e))
    ≡ brought (known side) side (got_at side block (records.Air directions.Up (up_told_as good) heard))
raised_ups known true block heard e s side = heard_ups known Nb block e s side
raised_ups known false block heard e s side = sym (none_brought (known side) side)

rises : (known : Side → Bool) (t : ℕ) (o : Outcome) (process version : ℕ) (fresh : Bool) (block : List ℕ)
    (shown : List Record) (l n : Link)
    → n.out ≡ l.out ++ records.Block directions.Up process fresh version block ∷ shown → n.nb ≡ l.nb
    → filter is_of_air shown ≡ [] → ((side : Side) → filter (is_up side 0) shown ≡ [])
    → Stands (known Nb) Nb l.nb → Carries known l (up_aired t o.flipped (is_intact o.fate) block n)
rises known t o process version fresh block shown l n out same silent none s =
    let good = is_intact o.fate in
    let heard = turned o.flipped good in
    let air = records.Air directions.Up (up_told_as good) (Some heard) in
    let q = says air (feeds Ue t heard (granted t (Some good) n)) in
    let here = records.Block directions.Up process fresh version block ∷ shown in
    let stands : Stands (known Nb) Nb q.nb = stands_as (known Nb) Nb l.nb q.nb (ap (λ (e : End). kept_of e) same) s in
    let told = map (records.Of Nb) (raised_told good block q.nb) in
    let all : (hears_if good block q).out ≡ l.out ++ (here ++ air ∷ told) =
    raised_out good block q ∙ ap (λ (x : List Record). (x ++ air ∷ []) ++ told) out
    ∙ append_assoc (l.out ++ here) (air ∷ []) told ∙ append_assoc l.out here (air ∷ told) in
    flies known l (hears_if good block q) directions.Up process version fresh block shown (up_told_as good)
    (Some heard) Nb (raised_told good block q.nb) all silent none
    (raised_ups known good block (Some heard) q.nb stands)

up_by_carries : (known : Side → Bool) (v : Visit) (t : ℕ) (o : Outcome) (l : Link) → Stands (known Nb) Nb l.nb
    → Carries known l (up_by v t o l)
up_by_carries known New t o l s =
    let block = block_at t l.ue in
    let shown = block_shown (sent_by Ue) l.kinds block in
    rises known t o (t % 8) 0 true block shown l (sends New Ue t block (awake New t l))
    (append_assoc l.out (records.Block directions.Up (t % 8) true 0 block ∷ []) shown) refl
    (block_is_of_no_air (sent_by Ue) l.kinds block)
    (λ side. block_hands_up_none (sent_by Ue) l.kinds block side 0) s
up_by_carries known (Resend rv) t o l s =
    let block = block_at t l.ue in
    rises known t o (t % 8) rv false block [] l (sends (Resend rv) Ue t block (awake (Resend rv) t l)) refl refl refl
    (λ side. refl) s
up_by_carries known Quiet t o l s =
    carries_still known l (up_by Quiet t o l)
    (still_says (records.Air directions.Up arriveds.Nothing None) l (up_by Quiet t o l) refl (λ side. refl)
    (λ side sent. refl))

builds_base : (t grant : ℕ) (order : Order) (l : Link) → (builds Ue t grant order l).nb ≡ l.nb
builds_base t grant order l =
    ap (λ (s : Seen). s.nb) (told_seen Ue (building t grant order l.ue) (visits_process Ue t grant order l))

uplink_if : (known : Side → Bool) (b : Bool) (t grant : ℕ) (o : Outcome) (l : Link) → Stood known l
    → Carries known l (if b then passes t l else grants t grant o l)
uplink_if known true t grant o l s =
    let m = builds Ue t 0 orders.Silent l in
    carries_still known l (passes t l)
    (still_then l m (passes t l) (builds_still Ue t 0 orders.Silent l) (still_unseen m (passes t l) refl))
uplink_if known false t grant o l s =
    let order = up_order o.fate (grant_ndi l.nb.receiver t) in
    let m : Link = record l { nb = record l.nb { receiver = after_grant l.nb.receiver t } } in
    let n = builds Ue t grant order m in
    let stands : Stands (known Nb) Nb n.nb =
    stands_as (known Nb) Nb l.nb n.nb (ap (λ (e : End). kept_of e) (builds_base t grant order m)) s.nb in
    carries_then known l n (grants t grant o l)
    (carries_still known l n (still_then l m n (still_unseen l m refl) (builds_still Ue t grant order m)))
    (up_by_carries known (visit t order m.ue) t o n stands)

uplink_carries : (known : Side → Bool) (t grant : ℕ) (o : Outcome) (l : Link) → Stood known l
    → Carries known l (uplink t grant o l)
unfolding uplink
uplink_carries known t grant o l s = uplink_if known (grant == 0) t grant o l s

-- ---- a TTI

by_blocks : (known : Side → Bool) (t up_grant : ℕ) (up : Outcome) (down_grant : ℕ) (down : Outcome) (l m : Link)
    → down_grant ≤ 9422 → Still l m → Stood known m
    → Carries known l (uplink t up_grant up (loops (downlink t down_grant down m)))
by_blocks known t up_grant up down_grant down l m within first s =
    let n = downlink t down_grant down m in
    let p = loops n in
    let to_n = carries_then known l m n (carries_still known l m first) (downlink_carries known t down_grant down m s)
    in
    let stands =
    stood_on known [] n p (loops_rests n).goes (stood_on known _ m n (downlink_goes t down_grant down m within) s)
    in
    carries_then known l p (uplink t up_grant up p)
    (carries_then known l n p to_n (carries_still known n p (loops_still n)))
    (uplink_carries known t up_grant up p stands)

abbrev known_at : Link → Side → Bool
known_at l side = has_zero side l

have_stood : (l : Link) → HaveCome l → Stood (known_at l) l
have_stood l h = record { nb = come_stands Nb l.nb h.nb; ue = come_stands Ue l.ue h.ue }

brings : (l m : Link) → Carries (known_at l) l m → Brings none_forged l m
brings l m c = record { more = c.more; out_is = c.out_is; ups_are = c.ups_are }

asleep_stood : (known : Side → Bool) (asleep : Bool) (l : Link) → Stood known l → Stood known (tells_sleep asleep l)
asleep_stood known true l s = record { nb = s.nb; ue = s.ue }
asleep_stood known false l s = s

pub ttis_bring : (up_grant : ℕ) (up : Outcome) (down_grant : ℕ) (down : Outcome) (l : Link) → up_grant ≤ 9422
    → down_grant ≤ 9422 → HaveCome l → Brings none_forged l (tti up_grant up down_grant down l)
unfolding tti tti_by
ttis_bring up_grant up down_grant down l up_within down_within h =
    let known = known_at l in
    let asleep = sleeps l.ttis l in
    let m = begins l in
    let n = tells_sleep asleep m in
    let s = have_stood l h in
    let awoken = asleep_stood known asleep m (record { nb = s.nb; ue = s.ue }) in
    brings l _ (by_blocks known l.ttis up_grant (missed asleep up) down_grant (missed asleep down) l (timed n)
    down_within
    (still_then l n (timed n) (still_then l m n (begins_still l) (sleep_still asleep m)) (timed_still known n awoken))
    (stood_on known [] l (timed n) (woken_rests asleep l).goes s))

pub drains_bring : (grant : ℕ) (l : Link) → grant ≤ 9422 → HaveCome l → Brings none_forged l (drain_tti grant l)
unfolding drain_tti
drains_bring grant l within h =
    let known = known_at l in
    let m = begins l in
    let n = grows Nb m in
    let p = grows Ue n in
    brings l _ (by_blocks known l.ttis grant intact grant intact l p within
    (still_then l n p (still_then l m n (begins_still l) (still_end Nb _ m)) (still_end Ue _ n))
    (stood_on known [] l p (grown_rests l).goes (have_stood l h)))

-- ---- timers expire

others_tell : (r : Option (List Event)) (side : Side) (l : Link)
    → Still (tells_all side (unwrap_or r []) l) (expires_by r side l)
others_tell None side l = still_unseen l l refl
others_tell (Some told) side l = loops_still (tells_all side told l)

expires_still : (known : Side → Bool) (side : Side) (lcid : ℕ) (clock : Clock) (l : Link) → Stood known l
    → Still l (expires side lcid clock l)
unfolding expires
expires_still known side lcid clock l s =
    let m = expires_alone side lcid clock l in
    let r = expiring side lcid clock l in
    let es = unwrap_or r [] in
    let n = tells_all side es m in
    still_then l n (expires_by r side m)
    (still_then l m n (still_end side _ l)
    (still_tells side es m
    (expiry_others (known side) side (end_of side l) lcid clock (stood_at known side l s))))
    (others_tell r side m)

-- and both ends stand on
record Goes (known : Side → Bool) (l m : Link) : Type 0 where
  still : Still l m
  stood : Stood known m

goes_then : (known : Side → Bool) (l m n : Link) → Goes known l m → Goes known m n → Goes known l n
goes_then known l m n p q = record { still = still_then l m n p.still q.still; stood = q.stood }

timer_if : (b : Bool) (known : Side → Bool) (side : Side) (clock : Clock) (lcid : ℕ) (l : Link) → Stood known l
    → Goes known l (if b then expires side lcid clock l else l)
timer_if true known side clock lcid l s =
    record {
      still = expires_still known side lcid clock l s;
      stood = stood_on known [] l (expires side lcid clock l) (expires_rests side lcid clock l).goes s;
    }
timer_if false known side clock lcid l s = record { still = still_unseen l l refl; stood = s }

timer_goes : (known : Side → Bool) (side : Side) (clock : Clock) (lcid : ℕ) (l : Link) → Stood known l
    → Goes known l (timer_expires side clock lcid l)
unfolding timer_expires
timer_goes known side clock lcid l s = timer_if (has lcid (end_of side l).bearers) known side clock lcid l s

all_receivers_go : (known : Side → Bool) (side : Side) (lcids : List ℕ) (l : Link) → Stood known l
    → Goes known l (all_receivers_expire side lcids l)
all_receivers_go known side [] l s = record { still = still_unseen l l refl; stood = s }
all_receivers_go known side (lcid ∷ lcids) l s =
    let m = timer_expires side Reorder lcid l in
    let n = receiver_expires side lcid l in
    let a = timer_goes known side Reorder lcid l s in
    let b = timer_goes known side Prohibit lcid m a.stood in
    goes_then known l n (all_receivers_expire side lcids n) (goes_then known l m n a b)
    (all_receivers_go known side lcids n b.stood)

all_senders_go : (known : Side → Bool) (side : Side) (lcids : List ℕ) (l : Link) → Stood known l
    → Goes known l (all_senders_expire side lcids l)
all_senders_go known side [] l s = record { still = still_unseen l l refl; stood = s }
all_senders_go known side (lcid ∷ lcids) l s =
    let m = timer_expires side Poll lcid l in
    let a = timer_goes known side Poll lcid l s in
    goes_then known l m (all_senders_expire side lcids m) a (all_senders_go known side lcids m a.stood)

receivers_still : (known : Side → Bool) (l : Link) → Stood known l → Still l (receivers_expire l)
unfolding receivers_expire
receivers_still known l s =
    let m = all_receivers_expire Nb all_lcids l in
    let a = all_receivers_go known Nb all_lcids l s in
    (goes_then known l m (all_receivers_expire Ue all_lcids m) a (all_receivers_go known Ue all_lcids m a.stood)).still

senders_still : (known : Side → Bool) (l : Link) → Stood known l → Still l (senders_expire l)
unfolding senders_expire
senders_still known l s =
    let m = all_senders_expire Nb all_lcids l in
    let a = all_senders_go known Nb all_lcids l s in
    (goes_then known l m (all_senders_expire Ue all_lcids m) a (all_senders_go known Ue all_lcids m a.stood)).still

-- ---- the other calls

hands_over_still : (known : Side → Bool) (keys : Keys) (l : Link) → Stood known l → Still l (hands_over keys l)
unfolding hands_over
hands_over_still known keys l s =
    let j = moves keys l in
    let m = tells_all Nb (leaving l.nb) j in
    let n = tells_all Ue (leaving l.ue) m in
    let to_m =
    still_then l j m (still_unseen l j refl)
    (still_tells Nb (leaving l.nb) j (leaving_others (known Nb) Nb l.nb s.nb)) in
    still_then l n (loops n)
    (still_then l m n to_m (still_tells Ue (leaving l.ue) m (leaving_others (known Ue) Ue l.ue s.ue)))
    (loops_still n)

loop_set_still : (mode : Mode) (l : Link) → Still l (loop_set mode l)
unfolding loop_set
loop_set_still mode l = let m : Link = record l { looping = after_set l.looping mode } in
    still_then l m (pays m) (still_unseen l m refl) (pays_still m)

heard_out : (s : Side) (block : List ℕ) (l : Link) → (receives s block l).out ≡ l.out
heard_out Nb block l = refl
heard_out Ue block l = refl

-- a block is forged, and behind it the loop takes what went up
forges_bring : (s : Side) (block : List ℕ) (l : Link) → HaveCome l
    → Brings (forged_by (Forges s block)) l (forges s block l)
unfolding forges
forges_bring s block l h =
    let e = end_of s l in
    let es = (received e block).events in
    let m = hears s block l in
    let told = map (records.Of s) es in
    let after' = loops_still m in
    let m_out : m.out ≡ l.out ++ told = told_out s es (receives s block l)
    ∙ ap (λ (x : List Record). x ++ told) (heard_out s block l) in
    record {
      more = told ++ after'.more;
      out_is = after'.out_is ∙ ap (λ (x : List Record). x ++ after'.more) m_out ∙ append_assoc l.out told after'.more;
      ups_are = λ side sent.
          let forged = if is_same s side then block ∷ [] else [] in
          let none : arrived side sent (told ++ after'.more) ≡ [] =
          arrived_then side sent told after'.more
          ∙ ap (λ (x : List (List ℕ)). x ++ arrived side (sent_behind told sent) after'.more)
          (told_arrives s side sent es) ∙ after'.none side (sent_behind told sent) in
          ups_then side told after'.more ∙ ap (λ (x : List (List ℕ)). ups_in side 0 told ++ x) (after'.ups side)
          ∙ append-nil (ups_in side 0 told)
          ∙ heard_ups (known_at l) s block e (stood_at (known_at l) s l (have_stood l h)) side
          ∙ ap (brought (has_zero side l) side) (sym (append-nil forged)
          ∙ ap (λ (x : List (List ℕ)). forged ++ x) (sym none));
    }

still_brings : (l m : Link) → Still l m → Brings none_forged l m
still_brings l m s = brings l m (carries_still (known_at l) l m s)

pub calls_bring : (c : Call) (l : Link) → IsGiven c → HaveCome l → Brings (forged_by c) l (after c l)
unfolding bears discards visits reports listens
calls_bring (Bears config keys) l g h = still_brings l (bears config keys l) (still_unseen l (bears config keys l) refl)
calls_bring (Discards lcid ttis) l g h =
    still_brings l (discards lcid ttis l) (still_unseen l (discards lcid ttis l) refl)
calls_bring (Visits maximum) l g h = still_brings l (visits maximum l) (still_unseen l (visits maximum l) refl)
calls_bring Reports l g h = still_brings l (reports l) (still_unseen l (reports l) refl)
calls_bring (Listens config) l g h = still_brings l (listens config l) (still_unseen l (listens config l) refl)
calls_bring (Loops mode) l g h = still_brings l (loop_set mode l) (loop_set_still mode l)
calls_bring (Expires side lcid clock) l g h =
    still_brings l (expires side lcid clock l) (expires_still (known_at l) side lcid clock l (have_stood l h))
calls_bring (Forges side block) l g h = forges_bring side block l h
calls_bring (HandsOver keys) l g h =
    still_brings l (hands_over keys l) (hands_over_still (known_at l) keys l (have_stood l h))
calls_bring ReceiversExpire l g h =
    still_brings l (receivers_expire l) (receivers_still (known_at l) l (have_stood l h))
calls_bring SendersExpire l g h = still_brings l (senders_expire l) (senders_still (known_at l) l (have_stood l h))

submits_by_still : (r : Option SubmitRefusal) (side : Side) (lcid : ℕ) (octets : List ℕ) (l : Link)
    → Still l (submits_by r side lcid octets l)
submits_by_still (Some broken) side lcid octets l =
    still_says (records.Refused side lcid (no_place broken)) l (submits_by (Some broken) side lcid octets l) refl
    (λ s. refl) (λ s sent. refl)
submits_by_still None Nb lcid octets l = still_unseen l (submits_by None Nb lcid octets l) refl
submits_by_still None Ue lcid octets l = still_unseen l (submits_by None Ue lcid octets l) refl

pub submissions_bring : (side : Side) (lcid : ℕ) (octets : List ℕ) (l : Link) → HaveCome l
    → Brings none_forged l (submitting side lcid octets l)
unfolding submitting
submissions_bring side lcid octets l h =
    still_brings l _ (submits_by_still (refusal lcid octets (end_of side l)) side lcid octets l)
