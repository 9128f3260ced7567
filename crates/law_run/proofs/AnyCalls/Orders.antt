-- An end that has come by calls tells in its order, by its channels.
use Rattle.std.proofs.Common.{◌≡◌, ℕ, ◌==◌, Bool, true, false, IfSome, Result, Ok, Err, List, [], ◌∷◌, map, refl, sym}
use Rattle.std.proofs.Common.{subst, arith, ◌∙◌}
use Rattle.std.proofs.lemmas.Bool.Decides.{nat_tests}
use Rattle.std.specs.List.{list_any}
use Rattle.bearer.specs.Bearer.{Of, Life}
use Rattle.law_words.specs.BearerOrder.{of_an_expiry, in_a_tti, at_the_end, of_a_channel, is_srb}
use Rattle.law_words.specs.Sequences.{SequencesOf, each}
use Rattle.bearer_types.specs.declared.event.Event.{Event}
use Rattle.harq.specs.declared.sender.Order.{Order}
use Rattle.harq.specs.declared.sender.Visit.TheVariants.{New}
use Rattle.l2_node.specs.Building.{visit, building}
use Rattle.l2_node.specs.End.{End}
use Rattle.bearer_types.specs.Sides.{heard_by}
use Rattle.l2_node.specs.Finding.{has}
use Rattle.l2_node.specs.Hearing.{received, ticked, expiry}
use Rattle.l2_node.specs.Moving.{leaving}
use Rattle.l2_types.specs.declared.event.Clock.{Clock}
use Rattle.l2_types.specs.declared.side.Side.{Side}
use Rattle.mac_pdu.specs.declared.fault.MacRefusal.{MacRefusal}
use Rattle.mac_pdu.specs.Items.{MacItem, front, element, sdu, padding}
use Rattle.mac_pdu.specs.Reading.{reading}
use Rattle.law_node.specs.Order.{of_an_item as of_an_item_at, of_items as of_items_at, IsToldInOrder}
use Rattle.law_node.proofs.Ordered.{tells_in_its_order}
use Rattle.air_record.specs.declared.record.Record.{Record}
use Rattle.law_run.specs.AnyCalls.Ends.{LivesOn}
use Rattle.law_run.specs.AnyCalls.Order.{channels_of}
use Rattle.promises.specs.Order.{Channels, of_building, of_an_item, of_items, of_hearing, of_timers, of_leaving}
use Rattle.law_run.specs.AnyCalls.Zero.{HasCome}
use Rattle.law_run.proofs.AnyCalls.Bringing.{come_stands, come_on}
use Rattle.law_run.proofs.AnyCalls.Channels.{channels_stay}

-- ---- an end with its channels, as it has come

pub record IsReady (side : Side) (c : Channels) (e : End) : Type 0 where
  pub come : HasCome side e
  pub channels_are : channels_of e ≡ c

pub ready_on : (side : Side) (c : Channels) (told : List Record) (e f : End) → LivesOn [] side told e f
    → IsReady side c e → IsReady side c f
ready_on side c told e f k r =
    record {
      come = come_on side told e f k.by r.come;
      channels_are =
          channels_stay side told e f k ∙ r.channels_are;
    }

told_in_order : (side : Side) (c : Channels) (e : End) → IsReady side c e → IsToldInOrder e
told_in_order side c e r =
    subst IsToldInOrder (sym r.come.end_is)
    (tells_in_its_order side r.come.maximum r.come.reports r.come.calls r.come.given)

-- ---- over lists

each_map : (f : Of Life → SequencesOf Event) (g : ℕ → SequencesOf Event)
    → ((b : Of Life) (told : List Event) → f b told → g b.channel.lcid told) → (bs : List (Of Life)) (told : List Event)
    → each f bs told → each g (map (λ b. b.channel.lcid) bs) told
each_map f g k [] told p = p
each_map f g k (b ∷ bs) told p =
    record {
      first = p.first;
      second = p.second;
      told_are = p.told_are;
      is_first = k b p.first p.is_first;
      is_second = each_map f g k bs p.second p.is_second;
    }

each_more : (f g : MacItem → SequencesOf Event) → ((i : MacItem) (told : List Event) → f i told → g i told)
    → (is : List MacItem) (told : List Event) → each f is told → each g is told
each_more f g k [] told p = p
each_more f g k (i ∷ is) told p =
    record {
      first = p.first;
      second = p.second;
      told_are = p.told_are;
      is_first = k i p.first p.is_first;
      is_second = each_more f g k is p.second p.is_second;
    }

-- a bearer is there
known_by : (t : Bool) (lcid : ℕ) (b : Of Life) (bs : List (Of Life)) → (b.channel.lcid == lcid) ≡ t
    → has lcid bs ≡ list_any (λ n. n == lcid) (map (λ b. b.channel.lcid) bs)
    → has lcid (b ∷ bs) ≡ list_any (λ n. n == lcid) (map (λ b. b.channel.lcid) (b ∷ bs))
known_by true lcid b bs e rest = rw e (grind (arith, nat_tests))
known_by false lcid b bs e rest = rw e (grind (arith, nat_tests, rest))

pub known_is : (lcid : ℕ) (bs : List (Of Life)) → has lcid bs ≡ list_any (λ n. n == lcid) (map (λ b. b.channel.lcid) bs)
known_is lcid [] = refl
known_is lcid (b ∷ bs) = known_by (b.channel.lcid == lcid) lcid b bs refl (known_is lcid bs)

-- ---- what it tells

pub builds_in_order : (side : Side) (c : Channels) (e : End) → IsReady side c e → (t grant : ℕ) (order : Order)
    → visit t order e ≡ New → of_building c (building t grant order e)
builds_in_order side c e r t grant order new =
    subst (λ (x : Channels). of_building x (building t grant order e)) r.channels_are
    ((told_in_order side c e r).building t grant order new)

item_in_order : (e : End) (i : MacItem) (told : List Event) → of_an_item_at e i told → of_an_item (channels_of e) i told
item_in_order e front told p = p
item_in_order e (element control) told p = p
item_in_order e (padding size) told p = p
item_in_order e (sdu lcid octets) told p = subst (λ (b : Bool). of_a_channel b lcid told) (known_is lcid e.bearers) p

items_in_order : (e : End) (r : Result (List MacItem) MacRefusal) (told : List Event) → of_items_at e r told
    → of_items (channels_of e) r told
items_in_order e (Ok items) told p =
    each_more (of_an_item_at e) (of_an_item (channels_of e)) (item_in_order e) items told p
items_in_order e (Err refusal) told p = p

pub hears_in_order : (side : Side) (c : Channels) (e : End) → IsReady side c e → (octets : List ℕ)
    → of_hearing c (heard_by side) octets (received e octets).events
hears_in_order side c e r octets =
    let is : e.side ≡ side = (come_stands side e r.come).side_is in
    subst (λ (x : Channels). of_hearing x (heard_by side) octets (received e octets).events) r.channels_are
    (subst (λ (s : Side). of_hearing (channels_of e) (heard_by s) octets (received e octets).events) is
    (items_in_order e (reading (heard_by e.side) octets) (received e octets).events
    ((told_in_order side c e r).receiving octets)))

pub ticks_in_order : (side : Side) (c : Channels) (e : End) → IsReady side c e → of_timers c (ticked e).events
ticks_in_order side c e r =
    subst (λ (x : Channels). of_timers x (ticked e).events) r.channels_are
    (each_map (λ b. in_a_tti b.channel.lcid) in_a_tti (λ b told p. p) e.bearers (ticked e).events
    (told_in_order side c e r).ticking)

pub expires_in_order : (side : Side) (c : Channels) (e : End) → IsReady side c e → (lcid : ℕ) (clock : Clock)
    → IfSome (expiry lcid clock e) (of_an_expiry lcid clock)
expires_in_order side c e r lcid clock = (told_in_order side c e r).expiring lcid clock

pub leaves_in_order : (side : Side) (c : Channels) (e : End) → IsReady side c e → of_leaving c (leaving e)
leaves_in_order side c e r =
    subst (λ (x : Channels). of_leaving x (leaving e)) r.channels_are
    (each_map (λ b. at_the_end (is_srb b.channel.lcid) b.channel.lcid) (λ lcid. at_the_end (is_srb lcid) lcid)
    (λ b told p. p)
    e.bearers (leaving e) (told_in_order side c e r).moving)
