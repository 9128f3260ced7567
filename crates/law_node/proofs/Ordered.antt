-- In which order an end tells, bearer by bearer.
use Rattle.std.proofs.Common.{◌≡◌, ℕ, ◌+◌, Bool, true, false, Option, IfSome, Result, Ok, Err, List, [], ◌∷◌, ◌++◌}
use Rattle.std.proofs.Common.{length, get_or, set, append_assoc, refl, ap, sym, ◌∙◌, subst, arith}
use Rattle.std.proofs.lemmas.Bool.Decides.{nat_tests}
use Rattle.std.proofs.lemmas.List.{get_or_past, length-append}
use Rattle.std.proofs.Math.Seq.{get_or-append_seam, set-append_seam}
use Rattle.bearer.specs.Bearer.{Of, of, Life, alive}
use Rattle.bearer.specs.Hearing.{arriving, arrived, ticking, ticked as flow_ticked, expiry as flow_expiry}
use Rattle.bearer.specs.Lives.{stopping}
use Rattle.bearer.specs.Taking.{told, after}
use Rattle.law_words.specs.BearerOrder.{OfEvents, in_a_block, of_a_pdu, of_an_expiry, in_a_tti, at_the_end, is_srb}
use Rattle.law_words.specs.BearerOrder.{of_a_channel}
use Rattle.law_words.specs.Sequences.{just, each}
use Rattle.law_bearer.proofs.AnyBearer.Between.{IsBetween, begins, submits, discards, takes, arrives, expires, ticks_of}
use Rattle.law_bearer.proofs.AnyBearer.Between.{moves}
use Rattle.law_bearer.proofs.AnyBearer.Sequences.{both, Behind, behind, behind_none, behind_then, behind_nothing}
use Rattle.law_bearer.proofs.AnyBearer.Told.{told_in_order, nothing_told}
use Rattle.bearer_types.specs.declared.event.Event.TheVariants as events
use Rattle.harq.specs.declared.sender.Order.{Order}
use Rattle.harq.specs.declared.sender.Visit.{Visit}
use Rattle.harq.specs.declared.sender.Visit.TheVariants.{New}
use Rattle.harq.specs.Sending.{Sending}
use Rattle.l2_node.specs.Building.{visited, visit, building, visit_events}
use Rattle.l2_node.specs.End.{End}
use Rattle.bearer_types.specs.Sides.{heard_by}
use Rattle.l2_node.specs.Finding.{Numbers, find, has, no_bearer, bearer_at, lowest}
use Rattle.l2_node.specs.Hearing.{Heard, heard, hears_sdu, hears, hears_all, heard_items, received, ticks_at}
use Rattle.l2_node.specs.Hearing.{ticks_over, ticked, bearer_of, expiry}
use Rattle.l2_node.specs.Moving.{all_stopping, leaving}
use Rattle.l2_node.specs.Writing.{shares, Work, work, nothing_written, writes, all_write, written}
use Rattle.l2_types.specs.declared.channel.Channel.{Channel}
use Rattle.l2_types.specs.declared.event.Clock.{Clock}
use Rattle.l2_types.specs.declared.event.Lost.TheVariants as lost
use Rattle.l2_types.specs.declared.side.Side.{Side}
use Rattle.mac_pdu.specs.declared.fault.MacRefusal.{MacRefusal}
use Rattle.mac_pdu.specs.Items.{MacItem, front, element, sdu, padding}
use Rattle.mac_pdu.specs.Reading.{reading}
use Rattle.law_node.specs.Calls.{Call, AreGiven, reached}
use Rattle.law_node.specs.Order.{BuildsInOrder, of_an_item, of_items, HearsInOrder, TicksInOrder, ExpiresInOrder}
use Rattle.law_node.specs.Order.{StopsInOrder, IsToldInOrder}
use Rattle.law_node.proofs.Places.{has_set, found}
use Rattle.law_node.proofs.Signalling.{IsRight, right_kept}
use Rattle.law_node.proofs.Keeping.{IsKept, AllAre, at_is, set_are, item_are, reached_are}
use Rattle.law_node.proofs.Places.{has_set, found}

-- ---- a new block

pub between_kept : IsKept IsBetween
between_kept = record {
  idle = record { own = tt; empty = tt };
  begins = λ c keys side g. begins c.kind c keys side;
  submits = λ lcid f octets r k. submits lcid f octets k;
  discards = discards;
  takes = λ lcid f share held most k. takes lcid f share held k;
  arrives = arrives;
  expires = expires;
  ticks = ticks_of;
  moves = moves;
}

abbrev writing : Channel → OfEvents
writing c = in_a_block c.lcid

writes_in : (t : Bool) (c : Channel) (share : ℕ) (held : Option ℕ) (w : Work) → has c.lcid w.bearers ≡ t
    → AllAre IsBetween w.bearers
    → Behind w.block.events (writing c) (writes c.lcid share held w).block.events
writes_in true c share held w h a =
    let at = find c.lcid w.bearers in
    let b = bearer_at w.bearers at in
    rw h (behind w.block.events (writing c) (told b.channel.lcid b.state.flow share held)
    (subst (λ (n : ℕ). in_a_block n (told b.channel.lcid b.state.flow share held)) (found c.lcid w.bearers h)
    ((told_in_order b.channel.lcid b.state.flow (at_is IsBetween w.bearers at between_kept a)).building share held)))
writes_in false c share held w h a = rw h (behind_none w.block.events (writing c) (nothing_told c.lcid))

own_after : (t : Bool) (lcid share : ℕ) (held : Option ℕ) (w : Work) → has lcid w.bearers ≡ t
    → AllAre IsBetween w.bearers → AllAre IsBetween (writes lcid share held w).bearers
own_after true lcid share held w h a =
    let at = find lcid w.bearers in
    let b = bearer_at w.bearers at in
    rw h (set_are IsBetween w.bearers at (of b.channel (alive (after b.state.flow share held))) a
    (takes b.channel.lcid b.state.flow share held (at_is IsBetween w.bearers at between_kept a)))
own_after false lcid share held w h a = rw h a

all_write_in : (sender : Sending) (numbers : Numbers) (amounts : List ℕ) (cs : List Channel) (w : Work)
    → AllAre IsBetween w.bearers
    → Behind w.block.events (each writing cs) (all_write sender numbers amounts cs w).block.events
all_write_in sender numbers amounts [] w a = behind_none w.block.events (each writing []) refl
all_write_in sender numbers amounts (c ∷ cs) w a =
    let share = get_or amounts c.lcid 0 in
    let low = lowest sender numbers c.lcid in
    let w' = writes c.lcid share low w in
    behind_then w.block.events w'.block.events (writing c) (each writing cs)
    (all_write sender numbers amounts cs w').block.events
    (writes_in (has c.lcid w.bearers) c share low w refl a)
    (all_write_in sender numbers amounts cs w' (own_after (has c.lcid w.bearers) c.lcid share low w refl a))

new_in : (grant : ℕ) (e : End) → AllAre IsBetween e.bearers
    → each writing e.buckets.channels (written e grant).block.events
unfolding written
new_in grant e a =
    behind_nothing (each writing e.buckets.channels) (written e grant).block.events
    (all_write_in e.sender e.numbers (shares e grant) e.buckets.channels (work e.bearers (nothing_written e.side))
    a)

builds_in : (tti grant : ℕ) (order : Order) (e : End) → AllAre IsBetween e.bearers → visit tti order e ≡ New
    → BuildsInOrder e (building tti grant order e)
unfolding building visited
builds_in tti grant order e a new =
    subst (λ (v : Visit). BuildsInOrder e (visit_events v grant (visited tti order e))) (sym new)
    (new_in grant (visited tti order e) a)

-- ---- a block that comes

sdu_in : (e : End) (t : Bool) (lcid : ℕ) (pdu : List ℕ) (h : Heard) → has lcid h.bearers ≡ t → has lcid e.bearers ≡ t
    → AllAre IsBetween h.bearers
    → Behind h.events (of_a_channel (has lcid e.bearers) lcid) (hears_sdu lcid pdu h).events
sdu_in e true lcid pdu h here there a =
    let at = find lcid h.bearers in
    let b = bearer_at h.bearers at in
    rw (here, there) (behind h.events (of_a_pdu lcid) (arriving b.channel.lcid b.state.flow pdu)
    (subst (λ (n : ℕ). of_a_pdu n (arriving b.channel.lcid b.state.flow pdu)) (found lcid h.bearers here)
    ((told_in_order b.channel.lcid b.state.flow (at_is IsBetween h.bearers at between_kept a)).receiving pdu)))
sdu_in e false lcid pdu h here there a =
    rw (here, there) (behind h.events (just (events.Drop lcid lost.NoBearer)) (events.Drop lcid lost.NoBearer ∷ [])
    refl)

-- the same channels have bearers
abbrev AreThere : End → Heard → Type 0
AreThere e h = (lcid : ℕ) → has lcid h.bearers ≡ has lcid e.bearers

item_in : (e : End) (i : MacItem) (h : Heard) → AreThere e h → AllAre IsBetween h.bearers
    → Behind h.events (of_an_item e i) (hears i h).events
item_in e front h s a = behind_none h.events (of_an_item e front) refl
item_in e (element c) h s a = behind_none h.events (of_an_item e (element c)) refl
item_in e (sdu lcid octets) h s a = sdu_in e (has lcid h.bearers) lcid octets h refl (sym (s lcid)) a
item_in e (padding n) h s a = behind_none h.events (of_an_item e (padding n)) refl

sdu_there : (e : End) (t : Bool) (lcid : ℕ) (pdu : List ℕ) (h : Heard) → has lcid h.bearers ≡ t → AreThere e h
    → AreThere e (hears_sdu lcid pdu h)
sdu_there e true lcid pdu h here s l =
    let at = find lcid h.bearers in
    let b = bearer_at h.bearers at in
    rw here (has_set l h.bearers at (of b.channel (alive (arrived b.state.flow pdu))) refl ∙ s l)
sdu_there e false lcid pdu h here s l = rw here (s l)

item_there : (e : End) (i : MacItem) (h : Heard) → AreThere e h → AreThere e (hears i h)
item_there e front h s = s
item_there e (element c) h s = s
item_there e (sdu lcid octets) h s = sdu_there e (has lcid h.bearers) lcid octets h refl s
item_there e (padding n) h s = s

items_in : (e : End) (is : List MacItem) (h : Heard) → AreThere e h → AllAre IsBetween h.bearers
    → Behind h.events (each (of_an_item e) is) (hears_all is h).events
items_in e [] h s a = behind_none h.events (each (of_an_item e) []) refl
items_in e (i ∷ is) h s a =
    let h' = hears i h in
    behind_then h.events h'.events (of_an_item e i) (each (of_an_item e) is) (hears_all is h').events
    (item_in e i h s a) (items_in e is h' (item_there e i h s) (item_are IsBetween between_kept i h a))

read_in : (e : End) (r : Result (List MacItem) MacRefusal) → AllAre IsBetween e.bearers
    → of_items e r (heard_items r (heard e.bearers [])).events
read_in e (Ok items) a =
    behind_nothing (each (of_an_item e) items) _ (items_in e items (heard e.bearers []) (λ lcid. refl) a)
read_in e (Err refusal) a = refl

hears_in : (e : End) (block : List ℕ) → AllAre IsBetween e.bearers → HearsInOrder e block (received e block).events
unfolding received
hears_in e block a = read_in e (reading (heard_by e.side) block) a

-- ---- a TTI begins

abbrev beginning : Of Life → OfEvents
beginning b = in_a_tti b.channel.lcid

-- those that have told, and those that have still to tell
over_in : (bs done : List (Of Life)) (at : ℕ) (h : Heard) → h.bearers ≡ done ++ bs → length done ≡ at
    → AllAre IsBetween bs → Behind h.events (each beginning bs) (ticks_over bs at h).events
over_in [] done at h e n a = behind_none h.events (each beginning []) refl
over_in (b ∷ bs) done at h e n a =
    let h' = ticks_at at h in
    let idle = no_bearer in
    let here : bearer_at h.bearers at ≡ b = ap (λ (xs : List (Of Life)). get_or xs at idle) e
    ∙ ap (λ (k : ℕ). get_or (done ++ b ∷ bs) k idle) (sym n) ∙ get_or-append_seam done b bs idle in
    let x = of b.channel (alive (flow_ticked b.state.flow)) in
    let y = of (bearer_at h.bearers at).channel (alive (flow_ticked (bearer_at h.bearers at).state.flow)) in
    let same : y ≡ x = ap (λ (c : Of Life). of c.channel (alive (flow_ticked c.state.flow))) here in
    let set_is : h'.bearers ≡ (done ++ x ∷ []) ++ bs =
    ap (λ (c : Of Life). set h.bearers at c) same ∙ ap (λ (xs : List (Of Life)). set xs at x) e
    ∙ ap (λ (k : ℕ). set (done ++ b ∷ bs) k x) (sym n)
    ∙ set-append_seam done b bs x ∙ sym (append_assoc done (x ∷ []) bs) in
    let longer : length (done ++ x ∷ []) ≡ at + 1 = omega (arith, length-append done (x ∷ []), n) in
    behind_then h.events h'.events (beginning b) (each beginning bs) (ticks_over bs (at + 1) h').events
    (record {
      rest = ticking b.state.flow;
      all_are = ap (λ (c : Of Life). h.events ++ ticking c.state.flow) here;
      is_rest = (told_in_order b.channel.lcid b.state.flow a.0).ticking;
    })
    (over_in bs (done ++ x ∷ []) (at + 1) h' set_is longer a.1)

ticks_in : (e : End) → AllAre IsBetween e.bearers → TicksInOrder e (ticked e).events
unfolding ticked
ticks_in e a = behind_nothing (each beginning e.bearers) _ (over_in e.bearers [] 0 (heard e.bearers []) refl refl a)

-- ---- a timer expires

expires_by : (t : Bool) (lcid : ℕ) (clock : Clock) (e : End) → has lcid e.bearers ≡ t → AllAre IsBetween e.bearers
    → IfSome (flow_expiry (bearer_of lcid e).state.flow clock) (of_an_expiry lcid clock)
unfolding flow_expiry
expires_by true lcid clock e h a =
    let b = bearer_of lcid e in
    subst (λ (n : ℕ). IfSome (flow_expiry b.state.flow clock) (of_an_expiry n clock)) (found lcid e.bearers h)
    ((told_in_order b.channel.lcid b.state.flow
    (at_is IsBetween e.bearers (find lcid e.bearers) between_kept a)).expiring
    clock)
expires_by false lcid clock e h a =
    let idle = no_bearer in
    let past : bearer_of lcid e ≡ idle = get_or_past e.bearers (find lcid e.bearers) idle (grind (arith, nat_tests)) in
    subst (λ (b : Of Life). IfSome (flow_expiry b.state.flow clock) (of_an_expiry lcid clock)) (sym past) tt

expires_in : (lcid : ℕ) (clock : Clock) (e : End) → AllAre IsBetween e.bearers
    → IfSome (expiry lcid clock e) (ExpiresInOrder lcid clock)
unfolding expiry
expires_in lcid clock e a = expires_by (has lcid e.bearers) lcid clock e refl a

-- ---- the end leaves its cell

abbrev ending : Of Life → OfEvents
ending b = at_the_end (is_srb b.channel.lcid) b.channel.lcid

all_stop_in : (bs : List (Of Life)) → AllAre IsBetween bs → AllAre IsRight bs → each ending bs (all_stopping bs)
all_stop_in [] a r = refl
all_stop_in (b ∷ bs) a r =
    let told = subst (λ (t : Bool). at_the_end t b.channel.lcid (stopping b.state.flow)) r.0
    (told_in_order b.channel.lcid b.state.flow a.0).ending in
    both (ending b) (each ending bs) (stopping b.state.flow) (all_stopping bs) told (all_stop_in bs a.1 r.1)

stops_in : (e : End) → AllAre IsBetween e.bearers → AllAre IsRight e.bearers → StopsInOrder e (leaving e)
unfolding leaving
stops_in e a r = all_stop_in e.bearers a r

-- ---- an end

pub end_told_in_order : (e : End) → AllAre IsBetween e.bearers → AllAre IsRight e.bearers → IsToldInOrder e
end_told_in_order e a r = record {
  building = λ tti grant order new. builds_in tti grant order e a new;
  receiving = λ block. hears_in e block a;
  ticking = ticks_in e a;
  expiring = λ lcid clock. expires_in lcid clock e a;
  moving = stops_in e a r;
}

pub tells_in_its_order : (side : Side) (maximum : ℕ) (reports : Bool) (calls : List Call) → AreGiven calls
    → IsToldInOrder (reached side maximum reports calls)
tells_in_its_order side maximum reports calls g =
    end_told_in_order (reached side maximum reports calls)
    (reached_are IsBetween between_kept side maximum reports calls g)
    (reached_are IsRight right_kept side maximum reports calls g)
