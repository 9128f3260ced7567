-- What an end tells of a channel in its calls is what the calls of its bearer tell.
use Rattle.std.proofs.Common.{◌≡◌, ℕ, ◌+◌, ◌==◌, ◌||◌, if◌then◌else◌, Bool, true, false, unwrap_or, Option, Some, None}
use Rattle.std.proofs.Common.{Result, Ok, Err, List, [], ◌∷◌, ◌++◌, length, map, get_or, set, append-nil, append_assoc}
use Rattle.std.proofs.Common.{length-append, refl, ap, sym, ◌∙◌, subst, arith}
use Rattle.std.proofs.lemmas.Bool.Decides.{nat_tests}
use Rattle.std.proofs.lemmas.List.{get_or_past}
use Rattle.std.proofs.Math.Seq.{get_or-append_seam, set-append_seam}
use Rattle.std.specs.List.{AllByRecursion}
use Rattle.bearer.specs.Bearer.{Of, of, Life, alive}
use Rattle.bearer.specs.declared.flow.Flow.{Flow}
use Rattle.bearer.specs.Hearing.{arriving, ticking, ticked as flow_ticked, expiry as flow_expiry}
use Rattle.bearer.specs.Lives.{stopping}
use Rattle.law_bearer.proofs.AnyBearer.Between.{IsBetween}
use Rattle.law_bearer.specs.AnyBearer.Calls.{Call as BearerCall, Take as Takes, Arrive as Arrives, Expire as Expires}
use Rattle.law_bearer.specs.AnyBearer.Calls.{Tick as Ticks, SetDiscard as SetsDiscard, after_all}
use Rattle.bearer_types.specs.declared.event.Event.{Event}
use Rattle.bearer_types.specs.declared.event.Event.TheVariants.{Drop}
use Rattle.eps_sec.specs.declared.Keys.{Keys}
use Rattle.harq.specs.declared.sender.Visit.{Visit}
use Rattle.harq.specs.declared.sender.Visit.TheVariants.{New, Resend, Silent}
use Rattle.l2_bits.specs.declared.fault.SubmitRefusal.{SubmitRefusal}
use Rattle.l2_node.specs.Building.{visited, building, visit, visit_events as built_told}
use Rattle.l2_node.specs.End.{End, fresh}
use Rattle.bearer_types.specs.Sides.{heard_by}
use Rattle.l2_node.specs.Finding.{find, has, no_bearer, bearer_at}
use Rattle.l2_node.specs.Hearing.{Heard, heard, hears_sdu, hears, hears_all, heard_items, received, ticks_at}
use Rattle.l2_node.specs.Hearing.{ticks_over, ticked, expiry, bearer_of}
use Rattle.l2_node.specs.Moving.{all_stopping, leaving}
use Rattle.l2_node.specs.Submitting.{refusal}
use Rattle.l2_types.specs.declared.channel.Channel.{Channel}
use Rattle.l2_types.specs.declared.event.Clock.{Clock}
use Rattle.l2_types.specs.declared.event.Lost.TheVariants.{NoBearer}
use Rattle.l2_types.specs.declared.side.Side.{Side}
use Rattle.mac_pdu.specs.declared.fault.MacRefusal.{MacRefusal}
use Rattle.mac_pdu.specs.Items.{MacItem, front, element, sdu, padding}
use Rattle.mac_pdu.specs.Reading.{reading}
use Rattle.prioritise.specs.Channels.{has as has_channel}
use Rattle.law_node.specs.Bearers.{adds}
use Rattle.law_node.specs.Calls.{Turn, Call, SetVisits, SetReports, Add, Submit, SetDiscard, Tick, TickBuckets, Visits}
use Rattle.law_node.specs.Calls.{Grants, Granted, Assigned, Pass, Receive, Expire, Move, IsGiven, AreGiven, after}
use Rattle.law_node.specs.Calls.{reached}
use Rattle.law_node.specs.Holding.{flow}
use Rattle.law_node.specs.Telling.{told_of, told_over}
use Rattle.law_node.specs.Waiting.{told_on_channel, all_told}
use Rattle.law_node.proofs.Going.{call_goes}
use Rattle.law_node.proofs.Holding.{flow_at}
use Rattle.law_node.proofs.Keeping.{AllAre, at_is, item_are, reached_are}
use Rattle.law_node.proofs.Ordered.{between_kept}
use Rattle.law_node.proofs.Places.{found}
use Rattle.law_node.proofs.Sharing.{Apart, sound_apart}
use Rattle.law_node.proofs.Owning.{IsOwn, own_kept}
use Rattle.law_node.proofs.Sound.{visited_sound}
use Rattle.law_node.proofs.Telling.{tells_in_order}
use Rattle.law_deliver.specs.AmFlow.Air.{HasCome}
use Rattle.law_deliver.specs.AmFlow.Channels.{only, share_of, held_of, takes_of, submits_of, calls_of, GoesOnInLife}
use Rattle.promises.specs.Pdus.{pdus_in, pdus_among, pdus_read}
use Rattle.law_deliver.specs.AmFlow.Ups.{tells_in, tells_over, calls_over, IsNew, AreNew, TellsOf, TellsOver}
use Rattle.law_deliver.specs.AmFlow.Ups.{TellsTheEnd}
use Rattle.promises.specs.Events.{told_on}
use Rattle.law_deliver.proofs.AmFlow.Alone.{many_of, IsAlone, call_alone, reached_alone}
use Rattle.law_deliver.proofs.AmFlow.Channels.{arrive_if, arrive_more, item_by, channel_same, flips, call_by}
use Rattle.law_deliver.proofs.AmFlow.Events.{AreOn, ticking_on, stopping_on, told_then, all_on, none_on, own_told}
use Rattle.law_deliver.proofs.AmFlow.Events.{other_told, tells_more, ups_as, ups_over, discards_over, end_discards}
use Rattle.law_deliver.proofs.AmFlow.Lives.{come_so, moved_has, moved_flow, moved_bearers}
use Rattle.law_deliver.proofs.AmFlow.Places.{GoesBy, rests, goes_then, after_more, same_lcid, other_lcid, has_behind}
use Rattle.law_deliver.proofs.AmFlow.Places.{flow_behind}
use Rattle.law_deliver.proofs.AmFlow.Stations.{come_more, come_sound}

-- ---- the bearer of a channel tells

found_tells : (here : Bool) (l m : ℕ) (bs : List (Of Life)) (c : BearerCall) → (m == l) ≡ here → has m bs ≡ true
    → AllAre IsBetween bs
    → told_on l (tells_in (bearer_at bs (find m bs)).channel.lcid (bearer_at bs (find m bs)).state.flow c)
    ≡ tells_over l (flow_at l bs) (only here c)
found_tells true l m bs c e h a =
    let b = bearer_at bs (find m bs) in
    let same = same_lcid m l e in
    own_told l b.channel.lcid b.state.flow (flow_at l bs) c (found m bs h ∙ same) (ap (λ (k : ℕ). flow_at k bs) same)
    (at_is IsBetween bs (find m bs) between_kept a)
    ∙ sym (append-nil (tells_in l (flow_at l bs) c))
found_tells false l m bs c e h a =
    let b = bearer_at bs (find m bs) in
    other_told l b.channel.lcid b.state.flow c (λ same. other_lcid m l e (sym (found m bs h) ∙ same))
    (at_is IsBetween bs (find m bs) between_kept a)

-- ---- a block comes

record Tells (l : ℕ) (h g : Heard) (cs : List BearerCall) : Type 0 where
  by : GoesBy l h.bearers g.bearers cs
  told_is : has l h.bearers ≡ true → told_on l g.events ≡ told_on l h.events ++ tells_over l (flow_at l h.bearers) cs

tells_none : (l : ℕ) (h : Heard) → Tells l h h []
tells_none l h = record { by = rests l h.bearers; told_is = λ there. sym (append-nil (told_on l h.events)) }

tells_then : (l : ℕ) (h g k : Heard) (cs ds : List BearerCall) → Tells l h g cs → Tells l g k ds
    → Tells l h k (cs ++ ds)
tells_then l h g k cs ds a b = record {
  by = goes_then l h.bearers g.bearers k.bearers cs ds a.by b.by;
  told_is = λ there.
      let first = tells_over l (flow_at l h.bearers) cs in
      b.told_is (a.by.has_is ∙ there)
      ∙ ap (λ (events : List Event). events ++ tells_over l (flow_at l g.bearers) ds) (a.told_is there)
      ∙ append_assoc (told_on l h.events) first (tells_over l (flow_at l g.bearers) ds)
      ∙ ap (λ (f : Flow). told_on l h.events ++ (first ++ tells_over l f ds)) (a.by.goes there)
      ∙ ap (λ (events : List Event). told_on l h.events ++ events) (sym (tells_more l (flow_at l h.bearers) cs ds));
}

dropped : (here : Bool) (l m : ℕ) (bs : List (Of Life)) (c : BearerCall) → (m == l) ≡ here → has m bs ≡ false
    → has l bs ≡ true → told_on l (Drop m NoBearer ∷ []) ≡ tells_over l (flow_at l bs) (only here c)
dropped true l m bs c e none there = let no : false ≡ true =
    sym none ∙ ap (λ (k : ℕ). has k bs) (same_lcid m l e) ∙ there in absurd cc
dropped false l m bs c e none there = rw e refl

sdu_tells : (known : Bool) (l m : ℕ) (pdu : List ℕ) (h : Heard) → has m h.bearers ≡ known → AllAre IsBetween h.bearers
    → has l h.bearers ≡ true → told_on l (hears_sdu m pdu h).events
    ≡ told_on l h.events ++ tells_over l (flow_at l h.bearers) (only (m == l) (Arrives pdu))
sdu_tells true l m pdu h e a there =
    let b = bearer_at h.bearers (find m h.bearers) in
    rw e (told_then l h.events (arriving b.channel.lcid b.state.flow pdu)
    ∙ ap (λ (events : List Event). told_on l h.events ++ events)
    (found_tells (m == l) l m h.bearers (Arrives pdu) refl e a))
sdu_tells false l m pdu h e a there =
    rw e (told_then l h.events (Drop m NoBearer ∷ [])
    ∙ ap (λ (events : List Event). told_on l h.events ++ events)
    (dropped (m == l) l m h.bearers (Arrives pdu) refl e there))

item_tells : (l : ℕ) (i : MacItem) (h : Heard) → AllAre IsBetween h.bearers
    → Tells l h (hears i h) (map (λ p. Arrives p) (pdus_in l i))
item_tells l front h a = tells_none l h
item_tells l (element c) h a = tells_none l h
item_tells l (sdu lcid octets) h a = record {
  by = item_by l (sdu lcid octets) h;
  told_is = λ there.
      sdu_tells (has lcid h.bearers) l lcid octets h refl a there
      ∙ ap (λ (cs : List BearerCall). told_on l h.events ++ tells_over l (flow_at l h.bearers) cs)
      (arrive_if (lcid == l) octets);
}
item_tells l (padding n) h a = tells_none l h

items_tell : (l : ℕ) (is : List MacItem) (h : Heard) → AllAre IsBetween h.bearers
    → Tells l h (hears_all is h) (map (λ p. Arrives p) (pdus_among l is))
items_tell l [] h a = tells_none l h
items_tell l (i ∷ is) h a =
    subst (λ (cs : List BearerCall). Tells l h (hears_all is (hears i h)) cs)
    (sym (arrive_more (pdus_in l i) (pdus_among l is)))
    (tells_then l h (hears i h) (hears_all is (hears i h)) (map (λ p. Arrives p) (pdus_in l i))
    (map (λ p. Arrives p) (pdus_among l is))
    (item_tells l i h a) (items_tell l is (hears i h) (item_are IsBetween between_kept i h a)))

block_tells : (l : ℕ) (r : Result (List MacItem) MacRefusal) (bs : List (Of Life)) → AllAre IsBetween bs
    → has l bs ≡ true
    → told_on l (heard_items r (heard bs [])).events
    ≡ tells_over l (flow_at l bs) (map (λ p. Arrives p) (pdus_read l r))
block_tells l (Ok items) bs a there = (items_tell l items (heard bs []) a).told_is there
block_tells l (Err refusal) bs a there = refl

-- ---- each bearer tells, and that of the channel is one

module _ (T : Flow → List Event) (on : (m : ℕ) (f : Flow) → IsBetween m f → AreOn m (T f)) where
  abbrev all_tell : List (Of Life) → List Event
  all_tell [] = []
  all_tell (b ∷ bs) = T b.state.flow ++ all_tell bs

  first_none : (here : Bool) (l : ℕ) (b : Of Life) (bs : List (Of Life)) → (b.channel.lcid == l) ≡ here
      → IsBetween b.channel.lcid b.state.flow → many_of l (b ∷ bs) ≡ 0
      → (many_of l bs ≡ 0 → told_on l (all_tell bs) ≡ [])
      → told_on l (all_tell (b ∷ bs)) ≡ []
  first_none true l b bs e k none rest =
      absurd (omega (arith, none, ap (λ (t : Bool). (if t then 1 else 0) + many_of l bs) e))
  first_none false l b bs e k none rest =
      let count : many_of l bs ≡ 0 = omega (arith, none, ap (λ (t : Bool). (if t then 1 else 0) + many_of l bs) e) in
      told_then l (T b.state.flow) (all_tell bs)
      ∙ ap (λ (events : List Event). events ++ told_on l (all_tell bs))
      (none_on l b.channel.lcid (T b.state.flow) (other_lcid b.channel.lcid l e) (on b.channel.lcid b.state.flow k))
      ∙ rest count

  none_tell : (l : ℕ) (bs : List (Of Life)) → AllAre IsBetween bs → many_of l bs ≡ 0 → told_on l (all_tell bs) ≡ []
  none_tell l [] a none = refl
  none_tell l (b ∷ bs) a none = first_none (b.channel.lcid == l) l b bs refl a.0 none (none_tell l bs a.1)

  first_tells : (here : Bool) (l : ℕ) (b : Of Life) (bs : List (Of Life)) → (b.channel.lcid == l) ≡ here
      → AllAre IsBetween (b ∷ bs) → IsAlone l (b ∷ bs) → has l (b ∷ bs) ≡ true
      → (IsAlone l bs → has l bs ≡ true → told_on l (all_tell bs) ≡ T (flow_at l bs))
      → told_on l (all_tell (b ∷ bs)) ≡ T (flow_at l (b ∷ bs))
  first_tells true l b bs e a one there rest =
      let count : many_of l bs ≡ 0 = omega (arith, one, ap (λ (t : Bool). (if t then 1 else 0) + many_of l bs) e) in
      let own : told_on l (T b.state.flow) ≡ T b.state.flow =
      ap (λ (n : ℕ). told_on n (T b.state.flow)) (sym (same_lcid b.channel.lcid l e))
      ∙ all_on b.channel.lcid (T b.state.flow) (on b.channel.lcid b.state.flow a.0) in
      rw (flow_at, e)
      (told_then l (T b.state.flow) (all_tell bs)
      ∙ ap (λ (events : List Event). events ++ told_on l (all_tell bs)) own
      ∙ ap (λ (events : List Event). T b.state.flow ++ events) (none_tell l bs a.1 count)
      ∙ append-nil (T b.state.flow))
  first_tells false l b bs e a one there rest =
      let count : IsAlone l bs = omega (arith, one, ap (λ (t : Bool). (if t then 1 else 0) + many_of l bs) e) in
      told_then l (T b.state.flow) (all_tell bs)
      ∙ ap (λ (events : List Event). events ++ told_on l (all_tell bs))
      (none_on l b.channel.lcid (T b.state.flow) (other_lcid b.channel.lcid l e) (on b.channel.lcid b.state.flow a.0))
      ∙ rest count (sym (has_behind l b bs e) ∙ there) ∙ ap T (sym (flow_behind l b bs e))

  one_tells : (l : ℕ) (bs : List (Of Life)) → AllAre IsBetween bs → IsAlone l bs → has l bs ≡ true
      → told_on l (all_tell bs) ≡ T (flow_at l bs)
  one_tells l [] a one there = absurd cc
  one_tells l (b ∷ bs) a one there = first_tells (b.channel.lcid == l) l b bs refl a one there (one_tells l bs a.1)

-- ---- a TTI begins

abbrev all_ticking : List (Of Life) → List Event
all_ticking bs = all_tell ticking ticking_on bs

-- behind those that have told
over_is : (bs done : List (Of Life)) (at : ℕ) (h : Heard) → h.bearers ≡ done ++ bs → length done ≡ at
    → (ticks_over bs at h).events ≡ h.events ++ all_ticking bs
over_is [] done at h e n = sym (append-nil h.events)
over_is (b ∷ bs) done at h e n =
    let idle = no_bearer in
    let x = of b.channel (alive (flow_ticked b.state.flow)) in
    let here : bearer_at h.bearers at ≡ b = ap (λ (xs : List (Of Life)). get_or xs at idle) e
    ∙ ap (λ (k : ℕ). get_or (done ++ b ∷ bs) k idle) (sym n) ∙ get_or-append_seam done b bs idle in
    let set_is : (ticks_at at h).bearers ≡ (done ++ x ∷ []) ++ bs =
    ap (λ (c : Of Life). set h.bearers at (of c.channel (alive (flow_ticked c.state.flow)))) here
    ∙ ap (λ (xs : List (Of Life)). set xs at x) e ∙ ap (λ (k : ℕ). set (done ++ b ∷ bs) k x) (sym n)
    ∙ set-append_seam done b bs x ∙ sym (append_assoc done (x ∷ []) bs) in
    let longer : length (done ++ x ∷ []) ≡ at + 1 = omega (arith, length-append done (x ∷ []), n) in
    over_is bs (done ++ x ∷ []) (at + 1) (ticks_at at h) set_is longer
    ∙ ap (λ (c : Of Life). (h.events ++ ticking c.state.flow) ++ all_ticking bs) here
    ∙ append_assoc h.events (ticking b.state.flow) (all_ticking bs)

tick_tells : (l : ℕ) (e : End) → AllAre IsBetween e.bearers → IsAlone l e.bearers → has l e.bearers ≡ true
    → told_on l (told_of e Tick) ≡ tells_over l (flow l e) (Ticks ∷ [])
unfolding ticked
tick_tells l e a one there =
    ap (told_on l) (over_is e.bearers [] 0 (heard e.bearers []) refl refl)
    ∙ one_tells ticking ticking_on l e.bearers a one there
    ∙ sym (append-nil (ticking (flow l e)))

-- ---- a life ends

stopping_is : (bs : List (Of Life)) → all_stopping bs ≡ all_tell stopping stopping_on bs
stopping_is [] = refl
stopping_is (b ∷ bs) = ap (λ (events : List Event). stopping b.state.flow ++ events) (stopping_is bs)

move_tells : (l : ℕ) (e : End) (keys : Keys) → AllAre IsBetween e.bearers → IsAlone l e.bearers
    → has l e.bearers ≡ true → told_on l (told_of e (Move keys)) ≡ stopping (flow l e)
unfolding leaving
move_tells l e keys a one there = ap (told_on l) (stopping_is e.bearers)
    ∙ one_tells stopping stopping_on l e.bearers a one there

-- ---- a block is built

pub between_at : (m : ℕ) (bs : List (Of Life)) → has m bs ≡ true → AllAre IsBetween bs → IsBetween m (flow_at m bs)
between_at m bs h a =
    subst (λ (n : ℕ). IsBetween n (flow_at m bs)) (found m bs h) (at_is IsBetween bs (find m bs) between_kept a)

module _ (e : End) (grant l : ℕ) where
  -- the bearer of a channel writes by its share
  abbrev take_of : ℕ → BearerCall
  take_of m = Takes (share_of e grant m) (held_of e m)

  own_block : (c : Channel) → c.lcid ≡ l → AllAre IsBetween e.bearers → has l e.bearers ≡ true
      → told_on l (told_on_channel e grant c) ≡ tells_in l (flow l e) (take_of l)
  own_block c same a there =
      let known : has c.lcid e.bearers ≡ true = ap (λ (k : ℕ). has k e.bearers) same ∙ there in
      ap (λ (b : Bool). told_on l (if b then tells_in c.lcid (flow c.lcid e) (take_of c.lcid) else [])) known
      ∙ own_told l c.lcid (flow c.lcid e) (flow l e) (take_of c.lcid) same (ap (λ (k : ℕ). flow k e) same)
      (between_at c.lcid e.bearers known a)
      ∙ ap (λ (k : ℕ). tells_in l (flow l e) (take_of k)) same

  other_block : (known : Bool) (c : Channel) → has c.lcid e.bearers ≡ known → (c.lcid ≡ l → ⊥)
      → AllAre IsBetween e.bearers → told_on l (told_on_channel e grant c) ≡ []
  other_block true c h other a =
      ap (λ (b : Bool). told_on l (if b then tells_in c.lcid (flow c.lcid e) (take_of c.lcid) else [])) h
      ∙ other_told l c.lcid (flow c.lcid e) (take_of c.lcid) other (between_at c.lcid e.bearers h a)
  other_block false c h other a =
      ap (λ (b : Bool). told_on l (if b then tells_in c.lcid (flow c.lcid e) (take_of c.lcid) else [])) h

  first_block : (t : Bool) (c : Channel) (cs : List Channel) → (l == c.lcid) ≡ t → has_channel c.lcid cs ≡ false
      → AllAre IsBetween e.bearers → has l e.bearers ≡ true
      → told_on l (all_told e grant cs) ≡ tells_over l (flow l e) (only (has_channel l cs) (take_of l))
      → told_on l (told_on_channel e grant c) ++ told_on l (all_told e grant cs)
      ≡ tells_over l (flow l e) (only (t || has_channel l cs) (take_of l))
  first_block true c cs q alone a there rest =
      let same : c.lcid ≡ l = channel_same l c.lcid q in
      let none : has_channel l cs ≡ false = ap (λ (k : ℕ). has_channel k cs) (sym same) ∙ alone in
      ap (λ (events : List Event). events ++ told_on l (all_told e grant cs)) (own_block c same a there)
      ∙ ap (λ (events : List Event). tells_in l (flow l e) (take_of l) ++ events)
      (rest ∙ ap (λ (b : Bool). tells_over l (flow l e) (only b (take_of l))) none)
  first_block false c cs q alone a there rest =
      ap (λ (events : List Event). events ++ told_on l (all_told e grant cs))
      (other_block (has c.lcid e.bearers) c refl (other_lcid c.lcid l (flips l c.lcid false q)) a) ∙ rest

  blocks_tell : (cs : List Channel) → Apart cs → AllAre IsBetween e.bearers → has l e.bearers ≡ true
      → told_on l (all_told e grant cs) ≡ tells_over l (flow l e) (only (has_channel l cs) (take_of l))
  blocks_tell [] apart a there = refl
  blocks_tell (c ∷ cs) apart a there =
      told_then l (told_on_channel e grant c) (all_told e grant cs)
      ∙ first_block (l == c.lcid) c cs refl apart.1 a there (blocks_tell cs apart.2 a there)

-- an end that has come by calls, with one bearer of the channel
pub record Stands (side : Side) (l : ℕ) (e : End) : Type 0 where
  pub come : HasCome side e
  pub alone : IsAlone l e.bearers
  pub there : has l e.bearers ≡ true

pub come_between : (side : Side) (e : End) → HasCome side e → AllAre IsBetween e.bearers
come_between side e h =
    subst (λ (x : End). AllAre IsBetween x.bearers) (sym h.end_is)
    (reached_are IsBetween between_kept side h.maximum h.reports h.past h.given)

come_own : (side : Side) (e : End) → HasCome side e → AllAre IsOwn e.bearers
come_own side e h =
    subst (λ (x : End). AllAre IsOwn x.bearers) (sym h.end_is)
    (reached_are IsOwn own_kept side h.maximum h.reports h.past h.given)

new_told : (side : Side) (e : End) (t : Turn) → HasCome side e → visit t.tti t.order e ≡ New
    → building t.tti t.grant t.order e
    ≡ all_told (visited t.tti t.order e) t.grant (visited t.tti t.order e).buckets.channels
new_told side e t h =
    subst (λ (x : End). visit t.tti t.order x ≡ New
    → building t.tti t.grant t.order x
    ≡ all_told (visited t.tti t.order x) t.grant (visited t.tti t.order x).buckets.channels) (sym h.end_is)
    (tells_in_order side h.maximum h.reports h.past h.given t.tti t.grant t.order)

visit_tells : (v : Visit) (side : Side) (l : ℕ) (e : End) (t : Turn) → visit t.tti t.order e ≡ v → Stands side l e
    → told_on l (building t.tti t.grant t.order e) ≡ tells_over l (flow l e) (takes_of v t (visited t.tti t.order e) l)
unfolding building visited
visit_tells New side l e t q s =
    let u = visited t.tti t.order e in
    let sound = visited_sound t.tti t.order e (come_sound side e s.come) in
    ap (told_on l) (new_told side e t s.come q)
    ∙ blocks_tell u t.grant l u.buckets.channels
    (sound_apart u.buckets.channels sound.channels.within sound.channels.distinct) (come_between side e s.come)
    s.there
visit_tells (Resend rv) side l e t q s =
    ap (λ (v : Visit). told_on l (built_told v t.grant (visited t.tti t.order e))) q
visit_tells Silent side l e t q s = ap (λ (v : Visit). told_on l (built_told v t.grant (visited t.tti t.order e))) q

-- ---- a timer expires; calls in which nothing is told

absent : (here : Bool) (l m : ℕ) (bs : List (Of Life)) (c : BearerCall) → (m == l) ≡ here → has m bs ≡ false
    → has l bs ≡ true → [] ≡ tells_over l (flow_at l bs) (only here c)
absent true l m bs c e none there = let no : false ≡ true =
    sym none ∙ ap (λ (k : ℕ). has k bs) (same_lcid m l e) ∙ there in absurd cc
absent false l m bs c e none there = refl

expire_tells : (known : Bool) (l m : ℕ) (clock : Clock) (e : End) → has m e.bearers ≡ known
    → AllAre IsBetween e.bearers → has l e.bearers ≡ true
    → told_on l (unwrap_or (flow_expiry (bearer_of m e).state.flow clock) [])
    ≡ tells_over l (flow l e) (only (m == l) (Expires clock))
unfolding flow_expiry
expire_tells true l m clock e h a there = found_tells (m == l) l m e.bearers (Expires clock) refl h a
expire_tells false l m clock e h a there =
    let idle = no_bearer in
    let past : bearer_of m e ≡ idle = get_or_past e.bearers (find m e.bearers) idle (grind (arith, nat_tests)) in
    ap (λ (b : Of Life). told_on l (unwrap_or (flow_expiry b.state.flow clock) [])) past
    ∙ absent (m == l) l m e.bearers (Expires clock) refl h there

submits_nothing : (r : Option SubmitRefusal) (here : Bool) (l : ℕ) (f : Flow) (octets : List ℕ)
    → [] ≡ tells_over l f (submits_of r here octets)
submits_nothing None true l f octets = refl
submits_nothing None false l f octets = refl
submits_nothing (Some why) here l f octets = refl

sets_nothing : (here : Bool) (l : ℕ) (f : Flow) (ttis : ℕ) → [] ≡ tells_over l f (only here (SetsDiscard ttis))
sets_nothing true l f ttis = refl
sets_nothing false l f ttis = refl

-- ---- any call

call_tells : (side : Side) (l : ℕ) (e : End) (c : Call) → Stands side l e → GoesOnInLife l c
    → told_on l (told_of e c) ≡ tells_over l (flow l e) (calls_of l e c)
unfolding received expiry
call_tells side l e (SetVisits maximum) s life = refl
call_tells side l e (SetReports reports) s life = refl
call_tells side l e (Add c keys) s life = refl
call_tells side l e (Submit lcid octets) s life =
    submits_nothing (refusal lcid octets e) (lcid == l) l (flow l e) octets
call_tells side l e (SetDiscard lcid ttis) s life = sets_nothing (lcid == l) l (flow l e) ttis
call_tells side l e Tick s life = tick_tells l e (come_between side e s.come) s.alone s.there
call_tells side l e TickBuckets s life = refl
call_tells side l e (Visits t) s life = visit_tells (visit t.tti t.order e) side l e t refl s
call_tells side l e (Grants tti) s life = refl
call_tells side l e (Granted tti good) s life = refl
call_tells side l e (Assigned tti ndi good) s life = refl
call_tells side l e (Pass tti) s life = refl
call_tells side l e (Receive block) s life =
    block_tells l (reading (heard_by e.side) block) e.bearers (come_between side e s.come) s.there
call_tells side l e (Expire lcid clock) s life =
    expire_tells (has lcid e.bearers) l lcid clock e refl (come_between side e s.come) s.there
call_tells side l e (Move keys) s life = let no : keys ∷ [] ≡ [] = life.moves_none in absurd cc

pub tells_of : (side : Side) (l : ℕ) (e : End) (c : Call) → Stands side l e → GoesOnInLife l c → TellsOf l e c
tells_of side l e c s life =
    let told_is = call_tells side l e c s life in
    let between = between_at l e.bearers s.there (come_between side e s.come) in
    record {
      told_is = told_is;
      ups_are = ups_over l (flow l e) (calls_of l e c) (told_of e c) between told_is;
      discards_are = discards_over l (flow l e) (calls_of l e c) (told_of e c) between told_is;
    }

-- ---- from one call to the next

in_life_new : (l : ℕ) (e : End) (c : Call) → GoesOnInLife l c → IsNew l e c
in_life_new l e c life q = let no : true ≡ false = sym q ∙ life.adds_none in absurd cc

-- none is added where there is one
adds_none : (added : Bool) (l : ℕ) (e : End) (c : Call) → adds l c ≡ added → IsNew l e c → has l e.bearers ≡ true
    → adds l c ≡ false
adds_none true l e c q new there = let no : false ≡ true = sym (new q) ∙ there in absurd cc
adds_none false l e c q new there = q

pub stands_more : (side : Side) (l : ℕ) (e : End) (c : Call) → Stands side l e → IsGiven c → IsNew l e c
    → Stands side l (after e c)
stands_more side l e c s g new = record {
  come = come_more side e c s.come g;
  alone = call_alone l e c new s.alone;
  there =
      (call_goes l e c g (come_sound side e s.come) (come_own side e s.come)
      (adds_none (adds l c) l e c refl new s.there)).has_is ∙ s.there;
}

pub over_tells : (side : Side) (l : ℕ) (e : End) (cs : List Call) → Stands side l e → AreGiven cs
    → AllByRecursion (GoesOnInLife l) cs → TellsOver l e cs
over_tells side l e [] s g life =
    record { there = s.there; bearer_is = refl; told_is = refl; ups_are = refl; discards_are = refl }
over_tells side l e (c ∷ cs) s g life =
    let d = after e c in
    let own = calls_of l e c in
    let more = calls_over l cs d in
    let bearer_is : flow l d ≡ after_all (flow l e) own = call_by l e c (come_sound side e s.come) life.0 s.there in
    let between = between_at l e.bearers s.there (come_between side e s.come) in
    let rest = over_tells side l d cs (stands_more side l e c s g.0 (in_life_new l e c life.0)) g.1 life.1 in
    let told_is : told_on l (told_over (c ∷ cs) e) ≡ tells_over l (flow l e) (own ++ more) =
    told_then l (told_of e c) (told_over cs d)
    ∙ ap (λ (events : List Event). events ++ told_on l (told_over cs d)) (call_tells side l e c s life.0)
    ∙ ap (λ (events : List Event). tells_over l (flow l e) own ++ events)
    (rest.told_is ∙ ap (λ (f : Flow). tells_over l f more) bearer_is)
    ∙ sym (tells_more l (flow l e) own more) in
    record {
      there = rest.there;
      bearer_is = rest.bearer_is ∙ ap (λ (f : Flow). after_all f more) bearer_is ∙ sym (after_more (flow l e) own more);
      told_is = told_is;
      ups_are = ups_over l (flow l e) (own ++ more) (told_over (c ∷ cs) e) between told_is;
      discards_are = discards_over l (flow l e) (own ++ more) (told_over (c ∷ cs) e) between told_is;
    }

pub the_end : (side : Side) (l : ℕ) (e : End) (keys : Keys) → Stands side l e → TellsTheEnd l e keys
the_end side l e keys s =
    let same = moved_bearers e keys in
    let told_is = move_tells l e keys (come_between side e s.come) s.alone s.there in
    record {
      there = ap (has l) same ∙ moved_has l e.bearers keys ∙ s.there;
      bearer_is = ap (flow_at l) same ∙ moved_flow l e.bearers keys s.there;
      told_is = told_is;
      ups_are = ups_as l (told_of e (Move keys)) (stopping (flow l e)) told_is;
      discards_are =
          end_discards l (flow l e) (told_of e (Move keys))
          (between_at l e.bearers s.there (come_between side e s.come)) told_is;
    }

-- ---- the laws

pub stands : (side : Side) (maximum : ℕ) (reports : Bool) (past : List Call) (l : ℕ) → AreGiven past
    → AreNew l past (fresh side maximum reports) → has l (reached side maximum reports past).bearers ≡ true
    → Stands side l (reached side maximum reports past)
stands side maximum reports past l given new there =
    record {
      come = come_so side maximum reports past given;
      alone = reached_alone side maximum reports past l new;
      there = there;
    }

pub ends_tell_what_goes_up : (side : Side) (maximum : ℕ) (reports : Bool) (past : List Call) (c : Call) (l : ℕ)
    → AreGiven past → AreNew l past (fresh side maximum reports) → IsGiven c → GoesOnInLife l c
    → has l (reached side maximum reports past).bearers ≡ true
    → TellsOf l (reached side maximum reports past) c
ends_tell_what_goes_up side maximum reports past c l given new g life there =
    tells_of side l (reached side maximum reports past) c (stands side maximum reports past l given new there) life

pub ends_tell_over : (side : Side) (maximum : ℕ) (reports : Bool) (past cs : List Call) (l : ℕ)
    → AreGiven past → AreNew l past (fresh side maximum reports) → AreGiven cs → AllByRecursion (GoesOnInLife l) cs
    → has l (reached side maximum reports past).bearers ≡ true
    → TellsOver l (reached side maximum reports past) cs
ends_tell_over side maximum reports past cs l given new g life there =
    over_tells side l (reached side maximum reports past) cs (stands side maximum reports past l given new there) g
    life

pub moves_tell_the_end : (side : Side) (maximum : ℕ) (reports : Bool) (past : List Call) (keys : Keys) (l : ℕ)
    → AreGiven past → AreNew l past (fresh side maximum reports)
    → has l (reached side maximum reports past).bearers ≡ true
    → TellsTheEnd l (reached side maximum reports past) keys
moves_tell_the_end side maximum reports past keys l given new there =
    the_end side l (reached side maximum reports past) keys (stands side maximum reports past l given new there)
