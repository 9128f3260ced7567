-- The records of a link stand in order through its stages and calls.
use Rattle.std.proofs.Common.{◌≡◌, ◌≤◌, ℕ, ◌==◌, Bool, true, false, if◌then◌else◌, Option, Some, None, IfSome, List, []}
use Rattle.std.proofs.Common.{◌∷◌, ◌++◌, map, append-nil, refl, ap, sym, subst, inl, inr, ◌∙◌}
use Rattle.std.specs.Prelude.{unwrap_or, is_none}
use Rattle.air_link.specs.Downlink.{builds, built_ndi, block_at, sends, hears, feeds, told_as, is_good}
use Rattle.air_link.specs.Downlink.{answer, comes, hears_by, lands, unseen, down_order, down_by, downlink}
use Rattle.air_record.specs.Outcomes.{turned, intact, missed}
use Rattle.air_link.specs.Draining.{drain_tti, timer_expires, receiver_expires, all_receivers_expire, receivers_expire}
use Rattle.air_link.specs.Draining.{all_senders_expire, senders_expire}
use Rattle.air_link.specs.Lines.{bears, discards, visits, reports, listens, no_place, submits_by, submitting}
use Rattle.air_link.specs.Lines.{expires_by, expiring, expires_alone, expires, forges, moves, hands_over}
use Rattle.air_link.specs.Link.{Link, says, end_of, with_end}
use Rattle.bearer_types.specs.Lcids.{all_lcids}
use Rattle.bearer_types.specs.Sides.{other, sent_by, heard_by}
use Rattle.air_link.specs.Loops.{loops, pays, loop_set}
use Rattle.air_link.specs.Telling.{tells_all}
use Rattle.air_link.specs.Ttis.{begins, sleeps, tells_sleep, grows, timed, tti_by, tti}
use Rattle.air_link.specs.Uplink.{up_order, is_intact, told_as as up_told_as, granted, hears_if, aired as up_aired}
use Rattle.air_link.specs.Uplink.{awake, up_by, answers, grants, passes, uplink}
use Rattle.air_record.specs.declared.line.Fate.{Fate}
use Rattle.air_record.specs.declared.line.Fate.TheVariants.{Ok, Bad, Miss}
use Rattle.air_record.specs.declared.line.Outcome.{Outcome}
use Rattle.air_record.specs.declared.record.Arrived.{Arrived}
use Rattle.air_record.specs.declared.record.Arrived.TheVariants as arriveds
use Rattle.air_record.specs.declared.record.Record.{Record}
use Rattle.air_record.specs.declared.record.Record.TheVariants as records
use Rattle.law_words.specs.BearerOrder.{of_an_expiry}
use Rattle.law_words.specs.Sequences.{just, ◌then◌, maybe, each}
use Rattle.bearer_types.specs.declared.event.Event.{Event}
use Rattle.eps_sec.specs.declared.Keys.{Keys}
use Rattle.harq.specs.declared.receiver.Answer.{Answer}
use Rattle.harq.specs.declared.receiver.Answer.TheVariants.{Up, Again, Damaged, Nothing}
use Rattle.harq.specs.declared.sender.Order.{Order}
use Rattle.harq.specs.declared.sender.Order.TheVariants as orders
use Rattle.harq.specs.declared.sender.Visit.{Visit}
use Rattle.harq.specs.declared.sender.Visit.TheVariants.{New, Resend, Silent as Quiet}
use Rattle.harq.specs.Receiving.{grant_ndi}
use Rattle.harq.specs.Sending.{visit_answer}
use Rattle.l2_bits.specs.declared.fault.SubmitRefusal.{SubmitRefusal}
use Rattle.l2_node.specs.Building.{IsEnough, visit, visited, built, building, visit_events as building_by}
use Rattle.l2_node.specs.End.{End}
use Rattle.l2_node.specs.Finding.{has}
use Rattle.l2_node.specs.Moving.{leaving}
use Rattle.l2_node.specs.Submitting.{refusal}
use Rattle.l2_types.specs.declared.event.Clock.{Clock}
use Rattle.l2_types.specs.declared.event.Clock.TheVariants.{Poll, Reorder, Prohibit}
use Rattle.l2_types.specs.declared.side.Side.{Side}
use Rattle.l2_types.specs.declared.side.Side.TheVariants.{Nb, Ue}
use Rattle.law_node.specs.Calls.{Visits as VisitsProcess, Grants, Granted, Expire, Move}
use Rattle.law_node.specs.Calls.{after as after_call}
use Rattle.promises.specs.Events.{TellNoLoop}
use Rattle.law_node.proofs.Looping.{tells_no_loop}
use Rattle.pdu_show.specs.declared.kinds.Layout.{Layout}
use Rattle.test_loop.specs.declared.Mode.{Mode}
use Rattle.test_loop.specs.Loops.{after_set}
use Rattle.law_run.specs.AnyCalls.Calls.{Call, Bears, Discards, Visits, Reports, Listens, Loops, Expires, Forges}
use Rattle.law_run.specs.AnyCalls.Calls.{HandsOver, ReceiversExpire, SendersExpire, after}
use Rattle.law_run.specs.AnyCalls.Ends.{GoesOn, IsGiven}
use Rattle.promises.specs.Built.{block_told}
use Rattle.law_run.specs.AnyCalls.Order.{both, AreAlike, CallTells, Leaves}
use Rattle.promises.specs.Order.{Channels, of_hearing, of_timers, of_leaving, OfRecords, EndTells, LoopTells, GoesOut}
use Rattle.promises.specs.Order.{IsHeard, MayPassOver, BothPassOver, TtiTells, DrainTtiTells, ExpiryTells, TimerTells}
use Rattle.promises.specs.Order.{ReceiverTells, CanBeRead}
use Rattle.promises.specs.Order.{ReceiversTell, SenderTells, SendersTell, ForgeTells, HandoverTells, IsRefused}
use Rattle.promises.specs.Order.{SubmitTells}
use Rattle.law_run.specs.AnyCalls.Zero.{HaveCome}
use Rattle.law_run.proofs.AnyCalls.Advancing.{timer_rests}
use Rattle.law_run.proofs.AnyCalls.Orders.{IsReady, ready_on, builds_in_order}
use Rattle.law_run.proofs.AnyCalls.Orders.{expires_in_order, leaves_in_order}
use Rattle.law_run.proofs.AnyCalls.Going.{by_one, Seen, loops_rests, woken_rests, grown_rests}
use Rattle.law_run.proofs.AnyCalls.Ordering.{leaves_then, leaves_from, leaves_to, leaves_as, leaves_nothing, leaves_one}
use Rattle.law_run.proofs.AnyCalls.Ordering.{may_leave, may_rest, end_out, end_tells}
use Rattle.law_run.proofs.AnyCalls.Ordering.{loops_tells, pays_tells}
use Rattle.law_run.proofs.AnyCalls.Visiting.{sent, visit_records, builds_down, builds_up, came, came_by, comes_seen}
use Rattle.law_run.proofs.AnyCalls.Visiting.{sent_down, sent_up, downlink_goes}
use Rattle.law_run.proofs.AnyCalls.Readable.{CanRead, sent_reads}
use Rattle.law_run.proofs.AnyCalls.Telling.{some_from}
use Rattle.mac_pdu.specs.Reading.{reading}
use Rattle.law_run.proofs.AnyCalls.Readying.{Ready, ready_at, have_ready, both_ready_on, hears_tells, timed_then}
use Rattle.law_run.proofs.AnyCalls.Readying.{sleep_tells, begins_tells}

-- ---- a block goes out

-- without a new block nothing is told
building_none : (v : Visit) (t grant : ℕ) (order : Order) (e : End) → visit t order e ≡ v
    → ((x : End) → building_by v grant x ≡ []) → building t grant order e ≡ []
unfolding building
building_none v t grant order e is silent = ap (λ (w : Visit). building_by w grant (visited t order e)) is
    ∙ silent (visited t order e)

new_out : (side : Side) (c : Channels) (t grant : ℕ) (order : Order) (kinds : List (Option Layout)) (octets : List ℕ)
    (e : End) → IsReady side c e → visit t order e ≡ New
    → GoesOut side t kinds c octets (visit_records New side t grant order kinds octets e)
new_out side c t grant order kinds octets e r new = inl (record {
  first = map (records.Of side) (building t grant order e);
  second = block_told side t kinds octets;
  told_are = refl;
  is_first = record {
    events = building t grant order e;
    told_is = refl;
    no_loop = tells_no_loop e (VisitsProcess (record { tti = t; grant = grant; order = order; good = true }));
    in_order = builds_in_order side c e r t grant order new;
  };
  is_second = refl;
})

again_out : (rv : ℕ) (side : Side) (c : Channels) (t grant : ℕ) (order : Order) (kinds : List (Option Layout))
    (octets : List ℕ) (e : End) → visit t order e ≡ Resend rv
    → GoesOut side t kinds c octets (visit_records (Resend rv) side t grant order kinds octets e)
again_out rv side c t grant order kinds octets e again =
    inr
    (record {
      version = rv;
      told_is = ap (λ (es : List Event). map (records.Of side) es ++ sent (Resend rv) side t kinds octets)
          (building_none (Resend rv) t grant order e again (λ x. refl));
    })

-- a block that went out, with what comes of it
flies_by : (side : Side) (t : ℕ) (kinds : List (Option Layout)) (c : Side
    → Channels) (octets : List ℕ) (what : Arrived) (good : Bool) (l m n : Link)
    → CanBeRead (c (other side)) (reading (heard_by (other side)) octets)
    → Leaves (GoesOut side t kinds (c side) octets) l m
    → Leaves (just (records.Air (sent_by side) what (Some good))
    then IsHeard (other side) what (c (other side)) octets) m n → Leaves (MayPassOver side t kinds c) l n
flies_by side t kinds c octets what good l m n reads p q =
    let all =
    leaves_then (GoesOut side t kinds (c side) octets)
    (just (records.Air (sent_by side) what (Some good)) then IsHeard (other side) what (c (other side)) octets) l
    m n p q in
    leaves_as (MayPassOver side t kinds c) l n all.more all.out_is
    (inr (inr (record {
      octets = octets;
      can_be_read = reads;
      what = what;
      feedback = good;
      in_turn = all.in_order;
    })))

-- ---- the downlink

heard_down : (a : Answer) (c : Channels) (octets : List ℕ) (l : Link) → IsReady Ue c l.ue
    → Leaves (IsHeard Ue (told_as a) c octets) l (hears_by a octets l)
heard_down Up c octets l r = hears_tells Ue c octets l r
heard_down Again c octets l r = leaves_nothing l l refl
heard_down Damaged c octets l r = leaves_nothing l l refl
heard_down Nothing c octets l r = leaves_nothing l l refl

lands_tells : (c : Channels) (t : ℕ) (o : Outcome) (ndi : Bool) (octets : List ℕ) (l : Link) → IsReady Ue c l.ue
    → Leaves
    (just (records.Air (sent_by Nb) (told_as (answer o.fate t ndi l))
    (Some (turned o.flipped (is_good (answer o.fate t ndi l)))))
    then IsHeard Ue (told_as (answer o.fate t ndi l)) c octets) l (lands t o ndi octets l)
lands_tells c t o ndi octets l ready =
    let a = answer o.fate t ndi l in
    let good = turned o.flipped (is_good a) in
    let one = records.Air (sent_by Nb) (told_as a) (Some good) in
    let landed = comes o.fate t ndi l in
    let q = feeds Nb t good landed in
    let r = says one q in
    let is = comes_seen o.fate t ndi l in
    let heard : IsReady Ue c landed.ue =
    subst (λ (e : End). IsReady Ue c e) (sym (ap (λ (s : Seen). s.ue) is))
    (ready_on Ue c [] l.ue (came o.fate t ndi l.ue) (came_by o.fate [] t ndi l.ue refl) ready) in
    leaves_then (just one) (IsHeard Ue (told_as a) c octets) l r (hears_by a octets r)
    (leaves_from (just one) l q r (ap (λ (s : Seen). s.out) is) (leaves_one one q))
    (heard_down a c octets r heard)

goes_down : (v : Visit) (c : Side → Channels) (t grant : ℕ) (order : Order) (o : Outcome) (ndi : Bool)
    (octets : List ℕ) (l : Link) → Ready c l → CanRead Nb (c Ue) octets
    → GoesOut Nb t l.kinds (c Nb) octets (visit_records v Nb t grant order l.kinds octets l.nb)
    → Leaves (MayPassOver Nb t l.kinds c) l
    (lands t o ndi octets (sends v Nb t octets (unseen v t (builds Nb t grant order l))))
goes_down v c t grant order o ndi octets l r reads out =
    let n = sends v Nb t octets (unseen v t (builds Nb t grant order l)) in
    let is = sent_down v t grant order octets l in
    let a = answer o.fate t ndi n in
    flies_by Nb t l.kinds c octets (told_as a) (turned o.flipped (is_good a)) l n (lands t o ndi octets n) reads
    (leaves_as (GoesOut Nb t l.kinds (c Nb) octets) l n (visit_records v Nb t grant order l.kinds octets l.nb)
    (ap (λ (s : Seen). s.out) is) out)
    (lands_tells (c Ue) t o ndi octets n
    (subst (λ (e : End). IsReady Ue (c Ue) e) (sym (ap (λ (s : Seen). s.ue) is)) r.ue))

down_by_tells : (v : Visit) (c : Side → Channels) (t grant : ℕ) (order : Order) (o : Outcome) (ndi : Bool) (l : Link)
    → Ready c l
    → (visit t order l.nb ≡ v → (v ≡ Quiet → ⊥) → CanRead Nb (c Ue) (block_at t (builds Nb t grant order l).nb))
    → visit t order l.nb ≡ v
    → Leaves (MayPassOver Nb t l.kinds c) l (down_by v t o ndi (builds Nb t grant order l))
down_by_tells New c t grant order o ndi l r reads is =
    let octets = block_at t (builds Nb t grant order l).nb in
    goes_down New c t grant order o ndi octets l r (reads is (λ e. absurd cc))
    (new_out Nb (c Nb) t grant order l.kinds octets l.nb r.nb is)
down_by_tells (Resend rv) c t grant order o ndi l r reads is =
    let octets = block_at t (builds Nb t grant order l).nb in
    goes_down (Resend rv) c t grant order o ndi octets l r (reads is (λ e. absurd cc))
    (again_out rv Nb (c Nb) t grant order l.kinds octets l.nb is)
down_by_tells Quiet c t grant order o ndi l r reads is =
    let none = building_none Quiet t grant order l.nb is (λ x. refl) in
    leaves_as (MayPassOver Nb t l.kinds c) l (builds Nb t grant order l) []
    (ap (λ (s : Seen). s.out) (builds_down t grant order l)
    ∙ ap (λ (es : List Event). l.out ++ map (records.Of Nb) es) none) (inl refl)

enough_down : (grant : ℕ) → IsEnough (down_order grant) grant
enough_down grant = by (grant == 0) refl
  where
    by : (b : Bool) → (grant == 0) ≡ b → IsEnough (if b then orders.Silent else orders.Free) grant
    by true e = tt
    by false e = some_from grant e

-- both ends have the same channels
down_reads : (c : Side → Channels) (t grant : ℕ) (l : Link) → c Nb ≡ c Ue → grant ≤ 9422 → Ready c l → (v : Visit)
    → visit t (down_order grant) l.nb ≡ v → (v ≡ Quiet → ⊥)
    → CanRead Nb (c Ue) (block_at t (builds Nb t grant (down_order grant) l).nb)
down_reads c t grant l same within r v is loud =
    let order = down_order grant in
    let built_is : (builds Nb t grant order l).nb ≡ built t grant order l.nb =
    ap (λ (s : Seen). s.nb) (builds_down t grant order l) in
    subst (λ (e : End). CanRead Nb (c Ue) (block_at t e)) (sym built_is)
    (subst (λ (x : Channels). CanRead Nb x (block_at t (built t grant order l.nb))) same
    (sent_reads v Nb (c Nb) l.nb r.nb t grant order within (enough_down grant) is loud))

downlink_tells : (c : Side → Channels) (t grant : ℕ) (o : Outcome) (l : Link) → c Nb ≡ c Ue → grant ≤ 9422 → Ready c l
    → Leaves (MayPassOver Nb t l.kinds c) l (downlink t grant o l)
unfolding downlink
downlink_tells c t grant o l same within r =
    let order = down_order grant in
    down_by_tells (visit t order l.nb) c t grant order o (built_ndi Nb t grant order l) l r
    (down_reads c t grant l same within r (visit t order l.nb)) refl

-- ---- the uplink

heard_up : (good : Bool) (c : Channels) (octets : List ℕ) (l : Link) → IsReady Nb c l.nb
    → Leaves (IsHeard Nb (up_told_as good) c octets) l (hears_if good octets l)
heard_up true c octets l r = hears_tells Nb c octets l r
heard_up false c octets l r = leaves_nothing l l refl

rises_tells : (c : Channels) (t : ℕ) (flipped good : Bool) (octets : List ℕ) (l : Link) → IsReady Nb c l.nb
    → Leaves (just (records.Air (sent_by Ue) (up_told_as good) (Some (turned flipped good)))
    then IsHeard Nb (up_told_as good) c octets) l (up_aired t flipped good octets l)
rises_tells c t flipped good octets l ready =
    let fed = turned flipped good in
    let one = records.Air (sent_by Ue) (up_told_as good) (Some fed) in
    let q = feeds Ue t fed (granted t (Some good) l) in
    let r = says one q in
    let call = Granted t (Some good) in
    let heard : IsReady Nb c r.nb =
    ready_on Nb c [] l.nb (after_call l.nb call) (by_one Nb [] call l.nb (after_call l.nb call) tt refl refl refl)
    ready in
    leaves_then (just one) (IsHeard Nb (up_told_as good) c octets) l r (hears_if good octets r)
    (leaves_from (just one) l q r refl (leaves_one one q)) (heard_up good c octets r heard)

goes_up : (v : Visit) (c : Side → Channels) (t grant : ℕ) (order : Order) (o : Outcome) (octets : List ℕ) (l : Link)
    → Ready c l → CanRead Ue (c Nb) octets
    → GoesOut Ue t l.kinds (c Ue) octets (visit_records v Ue t grant order l.kinds octets l.ue)
    → Leaves (MayPassOver Ue t l.kinds c) l
    (up_aired t o.flipped (is_intact o.fate) octets (sends v Ue t octets (awake v t (builds Ue t grant order l))))
goes_up v c t grant order o octets l r reads out =
    let n = sends v Ue t octets (awake v t (builds Ue t grant order l)) in
    let is = sent_up v t grant order octets l in
    let good = is_intact o.fate in
    flies_by Ue t l.kinds c octets (up_told_as good) (turned o.flipped good) l n (up_aired t o.flipped good octets n)
    reads
    (leaves_as (GoesOut Ue t l.kinds (c Ue) octets) l n (visit_records v Ue t grant order l.kinds octets l.ue)
    (ap (λ (s : Seen). s.out) is) out)
    (rises_tells (c Nb) t o.flipped good octets n
    (subst (λ (e : End). IsReady Nb (c Nb) e) (sym (ap (λ (s : Seen). s.nb) is)) r.nb))

up_by_tells : (v : Visit) (c : Side → Channels) (t grant : ℕ) (order : Order) (o : Outcome) (l : Link) → Ready c l
    → (visit t order l.ue ≡ v → (v ≡ Quiet → ⊥) → CanRead Ue (c Nb) (block_at t (builds Ue t grant order l).ue))
    → visit t order l.ue ≡ v → Leaves (MayPassOver Ue t l.kinds c) l (up_by v t o (builds Ue t grant order l))
up_by_tells New c t grant order o l r reads is =
    let octets = block_at t (builds Ue t grant order l).ue in
    goes_up New c t grant order o octets l r (reads is (λ e. absurd cc))
    (new_out Ue (c Ue) t grant order l.kinds octets l.ue r.ue is)
up_by_tells (Resend rv) c t grant order o l r reads is =
    let octets = block_at t (builds Ue t grant order l).ue in
    goes_up (Resend rv) c t grant order o octets l r (reads is (λ e. absurd cc))
    (again_out rv Ue (c Ue) t grant order l.kinds octets l.ue is)
up_by_tells Quiet c t grant order o l r reads is =
    let one = records.Air (sent_by Ue) arriveds.Nothing None in
    let none = building_none Quiet t grant order l.ue is (λ x. refl) in
    let same : (builds Ue t grant order l).out ≡ l.out ++ [] =
    ap (λ (s : Seen). s.out) (builds_up t grant order l)
    ∙ ap (λ (es : List Event). l.out ++ map (records.Of Ue) es) none in
    leaves_as (MayPassOver Ue t l.kinds c) l (up_by Quiet t o (builds Ue t grant order l)) (one ∷ [])
    (ap (λ (x : List Record). x ++ one ∷ []) (same ∙ append-nil l.out)) (inr (inl refl))

enough_up : (f : Fate) (ndi : Bool) (grant : ℕ) → 1 ≤ grant → IsEnough (up_order f ndi) grant
enough_up Ok ndi grant some = some
enough_up Bad ndi grant some = some
enough_up Miss ndi grant some = tt

up_reads : (c : Side → Channels) (t grant : ℕ) (order : Order) (l : Link) → c Nb ≡ c Ue → grant ≤ 9422
    → IsEnough order grant → Ready c l → (v : Visit) → visit t order l.ue ≡ v → (v ≡ Quiet → ⊥)
    → CanRead Ue (c Nb) (block_at t (builds Ue t grant order l).ue)
up_reads c t grant order l same within enough r v is loud =
    let built_is : (builds Ue t grant order l).ue ≡ built t grant order l.ue =
    ap (λ (s : Seen). s.ue) (builds_up t grant order l) in
    subst (λ (e : End). CanRead Ue (c Nb) (block_at t e)) (sym built_is)
    (subst (λ (x : Channels). CanRead Ue x (block_at t (built t grant order l.ue))) (sym same)
    (sent_reads v Ue (c Ue) l.ue r.ue t grant order within enough is loud))

grants_tells : (c : Side → Channels) (t grant : ℕ) (o : Outcome) (l : Link) → c Nb ≡ c Ue → grant ≤ 9422 → 1 ≤ grant
    → Ready c l → Leaves (MayPassOver Ue t l.kinds c) l (grants t grant o l)
grants_tells c t grant o l same within some r =
    let order = up_order o.fate (grant_ndi l.nb.receiver t) in
    let m = with_end Nb (after_call l.nb (Grants t)) l in
    let at_m : Ready c m =
    record {
      nb = ready_on Nb (c Nb) [] l.nb m.nb (by_one Nb [] (Grants t) l.nb m.nb tt refl refl refl) r.nb;
      ue = r.ue;
    } in
    leaves_from (MayPassOver Ue t l.kinds c) l m (answers t grant order o m) refl
    (up_by_tells (visit t order l.ue) c t grant order o m at_m
    (up_reads c t grant order m same within (enough_up o.fate (grant_ndi l.nb.receiver t) grant some) at_m
    (visit t order l.ue)) refl)

passes_tells : (c : Side → Channels) (t : ℕ) (l : Link) → Leaves (MayPassOver Ue t l.kinds c) l (passes t l)
unfolding visit_answer
passes_tells c t l =
    let none = building_none Quiet t 0 orders.Silent l.ue refl (λ x. refl) in
    leaves_as (MayPassOver Ue t l.kinds c) l (passes t l) [] (ap (λ (s : Seen). s.out) (builds_up t 0 orders.Silent l)
    ∙ ap (λ (es : List Event). l.out ++ map (records.Of Ue) es) none) (inl refl)

uplink_if : (b : Bool) (c : Side → Channels) (t grant : ℕ) (o : Outcome) (l : Link) → (grant == 0) ≡ b → c Nb ≡ c Ue
    → grant ≤ 9422 → Ready c l → Leaves (MayPassOver Ue t l.kinds c) l (if b then passes t l else grants t grant o l)
uplink_if true c t grant o l e same within r = passes_tells c t l
uplink_if false c t grant o l e same within r = grants_tells c t grant o l same within (some_from grant e) r

uplink_tells : (c : Side → Channels) (t grant : ℕ) (o : Outcome) (l : Link) → c Nb ≡ c Ue → grant ≤ 9422 → Ready c l
    → Leaves (MayPassOver Ue t l.kinds c) l (uplink t grant o l)
unfolding uplink
uplink_tells c t grant o l same within r = uplink_if (grant == 0) c t grant o l refl same within r

-- ---- a TTI

both_tell : (c : Side → Channels) (t up_grant : ℕ) (up : Outcome) (down_grant : ℕ) (down : Outcome) (l : Link)
    → c Nb ≡ c Ue → up_grant ≤ 9422 → down_grant ≤ 9422 → Ready c l
    → Leaves (BothPassOver t l.kinds c) l (uplink t up_grant up (loops (downlink t down_grant down l)))
both_tell c t up_grant up down_grant down l alike up_within within r =
    let m = downlink t down_grant down l in
    let n = loops m in
    let p = uplink t up_grant up n in
    let to_m = downlink_goes t down_grant down l within in
    let to_n = (loops_rests m).goes in
    let at_n = both_ready_on c [] m n to_n (both_ready_on c _ l m to_m r) in
    let same : n.kinds ≡ l.kinds = to_n.kinds_are ∙ to_m.kinds_are in
    let last : Leaves (MayPassOver Ue t l.kinds c) n p =
    subst (λ (ks : List (Option Layout)). Leaves (MayPassOver Ue t ks c) n p) same
    (uplink_tells c t up_grant up n alike up_within at_n) in
    leaves_then (MayPassOver Nb t l.kinds c) (LoopTells then MayPassOver Ue t l.kinds c) l m p
    (downlink_tells c t down_grant down l alike within r)
    (leaves_then LoopTells (MayPassOver Ue t l.kinds c) m n p (loops_tells m) last)

-- before the blocks both ends went on
pub both_fly : (c : Side → Channels) (t up_grant : ℕ) (up : Outcome) (down_grant : ℕ) (down : Outcome) (l m : Link)
    → c Nb ≡ c Ue → up_grant ≤ 9422 → down_grant ≤ 9422 → GoesOn [] l m → Ready c l
    → Leaves (BothPassOver t l.kinds c) m (uplink t up_grant up (loops (downlink t down_grant down m)))
both_fly c t up_grant up down_grant down l m alike up_within within g r =
    subst (λ (ks : List (Option Layout)). Leaves (BothPassOver t ks c) m
    (uplink t up_grant up (loops (downlink t down_grant down m)))) g.kinds_are
    (both_tell c t up_grant up down_grant down m alike up_within within (both_ready_on c [] l m g r))

asleep_ready : (asleep : Bool) (c : Side → Channels) (l : Link) → Ready c l → Ready c (tells_sleep asleep l)
asleep_ready true c l r = record { nb = r.nb; ue = r.ue }
asleep_ready false c l r = r

pub tti_tells : (c : Side → Channels) (up_grant : ℕ) (up : Outcome) (down_grant : ℕ) (down : Outcome) (l : Link)
    → c Nb ≡ c Ue → up_grant ≤ 9422 → down_grant ≤ 9422 → Ready c l
    → Leaves (TtiTells l.ttis l.kinds c) l (tti up_grant up down_grant down l)
unfolding tti tti_by
tti_tells c up_grant up down_grant down l alike up_within within r =
    let asleep = sleeps l.ttis l in
    let m = begins l in
    let n = tells_sleep asleep m in
    let last = tti up_grant up down_grant down l in
    let Blocks = BothPassOver l.ttis l.kinds c in
    let flown = both_fly c l.ttis up_grant (missed asleep up) down_grant (missed asleep down) l (timed n) alike
    up_within within
    (woken_rests asleep l).goes r in
    let Timers = EndTells Nb (of_timers (c Nb)) then EndTells Ue (of_timers (c Ue)) then LoopTells then Blocks in
    leaves_then (just (records.Tti l.ttis)) (maybe (just records.Sleep) then Timers) l m last (begins_tells l)
    (leaves_then (maybe (just records.Sleep)) Timers m n last (sleep_tells asleep m)
    (timed_then c Blocks n last (asleep_ready asleep c m (record { nb = r.nb; ue = r.ue })) flown))

pub drain_tells : (c : Side → Channels) (grant : ℕ) (l : Link) → c Nb ≡ c Ue → grant ≤ 9422 → Ready c l
    → Leaves (DrainTtiTells l.ttis l.kinds c) l (drain_tti grant l)
unfolding drain_tti
drain_tells c grant l alike within r =
    let m = begins l in
    let n = grows Ue (grows Nb m) in
    let p = drain_tti grant l in
    leaves_then (just (records.Tti l.ttis)) (BothPassOver l.ttis l.kinds c) l n p
    (leaves_to (just (records.Tti l.ttis)) l m n refl (begins_tells l))
    (both_fly c l.ttis grant intact grant intact l n alike within within (grown_rests l).goes r)

-- ---- timers expire

expiry_by_tells : (r : Option (List Event)) (side : Side) (lcid : ℕ) (clock : Clock) (l m : Link) → m.out ≡ l.out
    → TellNoLoop (unwrap_or r []) → IfSome r (of_an_expiry lcid clock) → is_none r ≡ false
    → Leaves (ExpiryTells side lcid clock) l (expires_by r side m)
expiry_by_tells None side lcid clock l m same none is runs = absurd cc
expiry_by_tells (Some es) side lcid clock l m same none is runs =
    let n = tells_all side es m in
    let End = EndTells side (of_an_expiry lcid clock) in
    let to_n = leaves_from End l m n same (end_tells (of_an_expiry lcid clock) side es m none is) in
    leaves_then End LoopTells l n (loops n) to_n (loops_tells n)

-- a timer that runs
pub expiry_tells : (c : Side → Channels) (side : Side) (lcid : ℕ) (clock : Clock) (l : Link) → Ready c l
    → is_none (expiring side lcid clock l) ≡ false → Leaves (ExpiryTells side lcid clock) l (expires side lcid clock l)
unfolding expires
expiry_tells c side lcid clock l r runs =
    let e = end_of side l in
    expiry_by_tells (expiring side lcid clock l) side lcid clock l (expires_alone side lcid clock l)
    (end_out side _ l) (tells_no_loop e (Expire lcid clock))
    (expires_in_order side (c side) e (ready_at side c l r) lcid clock) runs

expires_by_tells : (r : Option (List Event)) (side : Side) (lcid : ℕ) (clock : Clock) (l m : Link) → m.out ≡ l.out
    → TellNoLoop (unwrap_or r []) → IfSome r (of_an_expiry lcid clock)
    → Leaves (TimerTells side lcid clock) l (expires_by r side m)
expires_by_tells None side lcid clock l m same none is = may_rest (ExpiryTells side lcid clock) l m same
expires_by_tells (Some es) side lcid clock l m same none is =
    may_leave (ExpiryTells side lcid clock) l (expires_by (Some es) side m)
    (expiry_by_tells (Some es) side lcid clock l m same none is refl)

expires_tells : (c : Side → Channels) (side : Side) (lcid : ℕ) (clock : Clock) (l : Link) → Ready c l
    → Leaves (TimerTells side lcid clock) l (expires side lcid clock l)
unfolding expires
expires_tells c side lcid clock l r =
    let e = end_of side l in
    expires_by_tells (expiring side lcid clock l) side lcid clock l (expires_alone side lcid clock l)
    (end_out side _ l) (tells_no_loop e (Expire lcid clock))
    (expires_in_order side (c side) e (ready_at side c l r) lcid clock)

-- and both ends are ready for more
record Goes (These : OfRecords) (c : Side → Channels) (l m : Link) : Type 0 where
  leaves : Leaves These l m
  ready : Ready c m

goes_then : (These Those : OfRecords) (c : Side → Channels) (l m n : Link) → Goes These c l m → Goes Those c m n
    → Goes (These then Those) c l n
goes_then These Those c l m n p q = record { leaves = leaves_then These Those l m n p.leaves q.leaves; ready = q.ready }

timer_if : (b : Bool) (c : Side → Channels) (side : Side) (lcid : ℕ) (clock : Clock) (l : Link) → Ready c l
    → Leaves (TimerTells side lcid clock) l (if b then expires side lcid clock l else l)
timer_if true c side lcid clock l r = expires_tells c side lcid clock l r
timer_if false c side lcid clock l r = may_rest (ExpiryTells side lcid clock) l l refl

timer_tells : (c : Side → Channels) (side : Side) (lcid : ℕ) (clock : Clock) (l : Link) → Ready c l
    → Leaves (TimerTells side lcid clock) l (timer_expires side clock lcid l)
unfolding timer_expires
timer_tells c side lcid clock l r = timer_if (has lcid (end_of side l).bearers) c side lcid clock l r

timer_goes : (c : Side → Channels) (side : Side) (lcid : ℕ) (clock : Clock) (l : Link) → Ready c l
    → Goes (TimerTells side lcid clock) c l (timer_expires side clock lcid l)
timer_goes c side lcid clock l r =
    record {
      leaves = timer_tells c side lcid clock l r;
      ready = both_ready_on c [] l _ (timer_rests side clock lcid l).goes r;
    }

all_receivers_go : (c : Side → Channels) (side : Side) (lcids : List ℕ) (l : Link) → Ready c l
    → Goes (each (ReceiverTells side) lcids) c l (all_receivers_expire side lcids l)
all_receivers_go c side [] l r = record { leaves = leaves_nothing l l refl; ready = r }
all_receivers_go c side (lcid ∷ lcids) l r =
    let m = timer_expires side Reorder lcid l in
    let n = receiver_expires side lcid l in
    let a = timer_goes c side lcid Reorder l r in
    let b = goes_then (TimerTells side lcid Reorder) (TimerTells side lcid Prohibit) c l m n a
    (timer_goes c side lcid Prohibit m a.ready) in
    goes_then (ReceiverTells side lcid) (each (ReceiverTells side) lcids) c l n (all_receivers_expire side lcids n) b
    (all_receivers_go c side lcids n b.ready)

all_senders_go : (c : Side → Channels) (side : Side) (lcids : List ℕ) (l : Link) → Ready c l
    → Goes (each (SenderTells side) lcids) c l (all_senders_expire side lcids l)
all_senders_go c side [] l r = record { leaves = leaves_nothing l l refl; ready = r }
all_senders_go c side (lcid ∷ lcids) l r =
    let m = timer_expires side Poll lcid l in
    let a = timer_goes c side lcid Poll l r in
    goes_then (SenderTells side lcid) (each (SenderTells side) lcids) c l m (all_senders_expire side lcids m) a
    (all_senders_go c side lcids m a.ready)

receivers_tell : (c : Side → Channels) (l : Link) → Ready c l → Leaves ReceiversTell l (receivers_expire l)
unfolding receivers_expire
receivers_tell c l r =
    let m = all_receivers_expire Nb all_lcids l in
    let a = all_receivers_go c Nb all_lcids l r in
    (goes_then (each (ReceiverTells Nb) all_lcids) (each (ReceiverTells Ue) all_lcids) c l m
    (all_receivers_expire Ue all_lcids m) a (all_receivers_go c Ue all_lcids m a.ready)).leaves

senders_tell : (c : Side → Channels) (l : Link) → Ready c l → Leaves SendersTell l (senders_expire l)
unfolding senders_expire
senders_tell c l r =
    let m = all_senders_expire Nb all_lcids l in
    let a = all_senders_go c Nb all_lcids l r in
    (goes_then (each (SenderTells Nb) all_lcids) (each (SenderTells Ue) all_lcids) c l m
    (all_senders_expire Ue all_lcids m) a (all_senders_go c Ue all_lcids m a.ready)).leaves

-- ---- the other calls

forges_tell : (c : Side → Channels) (side : Side) (octets : List ℕ) (l : Link) → Ready c l
    → Leaves (ForgeTells side (c side) octets) l (forges side octets l)
unfolding forges
forges_tell c side octets l r =
    let m = hears side octets l in
    leaves_then (EndTells side (of_hearing (c side) (heard_by side) octets)) LoopTells l m (loops m)
    (hears_tells side (c side) octets l (ready_at side c l r)) (loops_tells m)

hands_over_tells : (c : Side → Channels) (keys : Keys) (l : Link) → Ready c l
    → Leaves (HandoverTells c) l (hands_over keys l)
unfolding hands_over
hands_over_tells c keys l r =
    let j = moves keys l in
    let m = tells_all Nb (leaving l.nb) j in
    let n = tells_all Ue (leaving l.ue) m in
    let Base = EndTells Nb (of_leaving (c Nb)) in
    let Terminal = EndTells Ue (of_leaving (c Ue)) in
    leaves_then Base (Terminal then LoopTells) l m (loops n)
    (leaves_from Base l j m refl
    (end_tells (of_leaving (c Nb)) Nb (leaving l.nb) j (tells_no_loop l.nb (Move keys))
    (leaves_in_order Nb (c Nb) l.nb r.nb)))
    (leaves_then Terminal LoopTells m n (loops n)
    (end_tells (of_leaving (c Ue)) Ue (leaving l.ue) m (tells_no_loop l.ue (Move keys))
    (leaves_in_order Ue (c Ue) l.ue r.ue)) (loops_tells n))

loop_set_tells : (mode : Mode) (l : Link) → Leaves LoopTells l (loop_set mode l)
unfolding loop_set
loop_set_tells mode l = let m : Link = record l { looping = after_set l.looping mode } in
    leaves_from LoopTells l m (pays m) refl (pays_tells m)

pub call_tells : (call : Call) (c : Side → Channels) (l : Link) → Ready c l → Leaves (CallTells call c) l (after call l)
unfolding bears discards visits reports listens
call_tells (Bears config keys) c l r = leaves_nothing l _ refl
call_tells (Discards lcid ttis) c l r = leaves_nothing l _ refl
call_tells (Visits maximum) c l r = leaves_nothing l _ refl
call_tells Reports c l r = leaves_nothing l _ refl
call_tells (Listens config) c l r = leaves_nothing l _ refl
call_tells (Loops mode) c l r = loop_set_tells mode l
call_tells (Expires side lcid clock) c l r = expires_tells c side lcid clock l r
call_tells (Forges side octets) c l r = forges_tell c side octets l r
call_tells (HandsOver keys) c l r = hands_over_tells c keys l r
call_tells ReceiversExpire c l r = receivers_tell c l r
call_tells SendersExpire c l r = senders_tell c l r

submits_by_tells : (r : Option SubmitRefusal) (side : Side) (lcid : ℕ) (octets : List ℕ) (l : Link)
    → Leaves (SubmitTells side lcid) l (submits_by r side lcid octets l)
submits_by_tells (Some broken) side lcid octets l =
    leaves_as (SubmitTells side lcid) l _ (records.Refused side lcid (no_place broken) ∷ []) refl
    (inr (record { why = no_place broken; told_is = refl }))
submits_by_tells None Nb lcid octets l = may_rest (IsRefused Nb lcid) l _ refl
submits_by_tells None Ue lcid octets l = may_rest (IsRefused Ue lcid) l _ refl

-- ---- the laws

pub calls_tell : (call : Call) (l : Link) → IsGiven call → HaveCome l
    → Leaves (CallTells call (both l)) l (after call l)
calls_tell call l g h = call_tells call (both l) l (have_ready l h)

pub submissions_tell : (side : Side) (lcid : ℕ) (octets : List ℕ) (l : Link)
    → Leaves (SubmitTells side lcid) l (submitting side lcid octets l)
unfolding submitting
submissions_tell side lcid octets l = submits_by_tells (refusal lcid octets (end_of side l)) side lcid octets l

pub ttis_tell : (up_grant : ℕ) (up : Outcome) (down_grant : ℕ) (down : Outcome) (l : Link) → up_grant ≤ 9422
    → down_grant ≤ 9422 → HaveCome l → AreAlike l
    → Leaves (TtiTells l.ttis l.kinds (both l)) l (tti up_grant up down_grant down l)
ttis_tell up_grant up down_grant down l up_within down_within h alike =
    tti_tells (both l) up_grant up down_grant down l alike up_within down_within (have_ready l h)

pub drains_tell : (grant : ℕ) (l : Link) → grant ≤ 9422 → HaveCome l → AreAlike l
    → Leaves (DrainTtiTells l.ttis l.kinds (both l)) l (drain_tti grant l)
drains_tell grant l within h alike = drain_tells (both l) grant l alike within (have_ready l h)
