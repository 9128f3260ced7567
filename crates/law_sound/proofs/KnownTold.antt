-- What an end tells in its calls it tells of channels that have a bearer, but of a PDU that comes on one without.
use Rattle.std.proofs.Common.{◌≡◌, ℕ, zero, suc, ◌==◌, nat_lt, Bool, true, false, ◌||◌, if◌then◌else◌, Option, Some}
use Rattle.std.proofs.Common.{None, IfSome, unwrap_or, Result, Ok, Err, List, [], ◌∷◌, insert, refl, ap, sym}
use Rattle.std.proofs.Common.{subst, ◌∙◌, arith}
use Rattle.std.proofs.lemmas.Bool.{eq-eqb}
use Rattle.std.proofs.lemmas.Bool.Decides.{nat_tests}
use Rattle.std.proofs.lemmas.List.{get_or_past}
use Rattle.std.specs.List.{AllByRecursion}
use Rattle.bearer.specs.Bearer.{Of, Life}
use Rattle.bearer.specs.Hearing.{expiry as flow_expiry}
use Rattle.bearer_types.specs.Sides.{heard_by}
use Rattle.bearer_types.specs.declared.event.Event.{Event}
use Rattle.bearer_types.specs.declared.event.Event.TheVariants as events
use Rattle.harq.specs.declared.sender.Order.{Order}
use Rattle.harq.specs.declared.sender.Visit.{Visit}
use Rattle.harq.specs.declared.sender.Visit.TheVariants.{New, Resend, Silent}
use Rattle.journal_sent.specs.Sending.{lcid_in}
use Rattle.l2_node.specs.Building.{visit, building}
use Rattle.l2_node.specs.End.{End, fresh}
use Rattle.l2_node.specs.Finding.{has, find, no_bearer}
use Rattle.l2_node.specs.Hearing.{received, ticked, expiry, bearer_of}
use Rattle.l2_node.specs.Moving.{leaving}
use Rattle.l2_types.specs.declared.channel.Channel.{Channel}
use Rattle.l2_types.specs.declared.event.Clock.{Clock}
use Rattle.l2_types.specs.declared.event.Lost.{Lost}
use Rattle.l2_types.specs.declared.event.Lost.TheVariants as losts
use Rattle.l2_types.specs.declared.side.Side.{Side}
use Rattle.mac_pdu.specs.Items.{MacItem, sdu}
use Rattle.mac_pdu.specs.Reading.{reading}
use Rattle.mac_pdu.specs.declared.fault.MacRefusal.{MacRefusal}
use Rattle.prioritise.specs.Channels.{has as has_channel, place, put}
use Rattle.prioritise.specs.Shares.{no_channels}
use Rattle.law_words.specs.BearerOrder.{in_a_block, of_a_channel, of_an_expiry, in_a_tti, at_the_end, is_srb}
use Rattle.law_deliver.proofs.AmFlow.Events.{Hold, both, never, one, each_one, in_turn, OfWriting, OfHearing}
use Rattle.law_deliver.proofs.AmFlow.Events.{block_holds, pdu_holds, expiry_holds, tti_holds, end_holds, of_sdus}
use Rattle.law_node.specs.Calls.{Call, Add, Tick, Visits, Receive, Expire, Move, IsGiven, AreGiven, after, run_end}
use Rattle.law_node.specs.Calls.{reached}
use Rattle.law_node.specs.Order.{channels, with_one, with_all, IsToldInOrder, of_an_item, of_items}
use Rattle.law_node.specs.Telling.{told_of, told_over}
use Rattle.law_node.proofs.Channels.{put_by_lcid, all_put}
use Rattle.law_node.proofs.Keeping.{AllAre, call_are}
use Rattle.law_node.proofs.Ordered.{between_kept, end_told_in_order}
use Rattle.law_node.proofs.Signalling.{IsRight, right_kept}
use Rattle.law_node.proofs.Sound.{HasSoundChannels, call_channels_sound, fresh_channels_sound}
use Rattle.law_node.proofs.Standing.{channels_in, call_channels, shared_in, call_shared}
use Rattle.law_bearer.proofs.AnyBearer.Between.{IsBetween}
use Rattle.law_run.proofs.AnyCalls.Channels.{known_channel}
use Rattle.law_run.proofs.Counts.{same_lcid}

-- ---- of which channels events are

-- told of a channel that is known, or of a PDU that comes on one without a bearer
abbrev pub IsOfKnown : (ℕ → Type 0) → Event → Type 0
IsOfKnown K (events.Drop lcid losts.NoBearer) = Unit {0}
IsOfKnown K event = (lcid : ℕ) → lcid_in event ≡ Some lcid → K lcid

abbrev pub AreOfKnown : (ℕ → Type 0) → List Event → Type 0
AreOfKnown K told = AllByRecursion (IsOfKnown K) told

-- the channels of a list are known
abbrev KnowsAll : (ℕ → Type 0) → List Channel → Type 0
KnowsAll K cs = AllByRecursion (λ c. K c.lcid) cs

pub same_some : (m n : ℕ) → Some m ≡ Some n → m ≡ n
same_some m n e = cc

module _ (K : ℕ → Type 0) where
  -- ---- what a bearer tells

  module _ (m : ℕ) (k : K m) where
    own : (lcid : ℕ) → Some m ≡ Some lcid → K lcid
    own lcid e = subst K (same_some m lcid e) k

    drops : (why : Lost) → IsOfKnown K (events.Drop m why)
    drops losts.NoBearer = tt
    drops why = own

    writing : OfWriting (IsOfKnown K) m
    writing = record {
      send = λ way sn. own;
      start = λ clock. own;
      report = λ fms bitmap. own;
      take = λ count len. own;
      wait = λ why. own;
    }

    hearing : OfHearing (IsOfKnown K) m
    hearing = record {
      start = λ clock. own;
      stop = λ clock. own;
      expired = λ clock. own;
      up = λ sdu. own;
      fail = λ sn. own;
      drop = λ why of_bearer. drops why;
      integrity = λ found wanted. own;
      bad_rlc = λ fault. own;
      bad_pdcp = λ fault. own;
    }

  -- ---- what an end tells in a call

  -- the channels that share its grants, and those of its bearers
  record Knows (e : End) : Type 0 where
    shared : KnowsAll K e.buckets.channels
    own_are : KnowsAll K (channels e.bearers)

  known_in : (l : ℕ) (cs : List Channel) → KnowsAll K cs → has_channel l cs ≡ true → K l
  known_in l [] k e = absurd cc
  known_in l (c ∷ cs) k e = by (l == c.lcid) refl (known_in l cs k.1) e
    where
      by : (b : Bool) → (l == c.lcid) ≡ b → (has_channel l cs ≡ true → K l) → (b || has_channel l cs) ≡ true → K l
      by true same more h = subst K (sym (same_lcid l c.lcid same)) k.0
      by false other more h = more h

  at_bearer : (l : ℕ) (e : End) → Knows e → has l e.bearers ≡ true → K l
  at_bearer l e k there = known_in l (channels e.bearers) k.own_are (sym (known_channel l e.bearers) ∙ there)

  builds_known : (e : End) (tti grant : ℕ) (order : Order) → Knows e → IsToldInOrder e → (v : Visit)
      → visit tti order e ≡ v → AreOfKnown K (building tti grant order e)
  unfolding building
  builds_known e tti grant order k t New is =
      in_turn (IsOfKnown K) (λ (c : Channel). K c.lcid) (λ (c : Channel). in_a_block c.lcid)
      (λ c h. block_holds (IsOfKnown K) c.lcid (writing c.lcid h)) e.buckets.channels k.shared
      (building tti grant order e) (t.building tti grant order is)
  builds_known e tti grant order k t (Resend rv) is = rw is tt
  builds_known e tti grant order k t Silent is = rw is tt

  channel_known : (b : Bool) (l : ℕ) → (b ≡ true → K l) → Hold (IsOfKnown K) (of_a_channel b l)
  channel_known true l k = pdu_holds (IsOfKnown K) l (hearing l (k refl))
  channel_known false l k = one (IsOfKnown K) (events.Drop l losts.NoBearer) tt

  item_known : (e : End) → Knows e → (i : MacItem) → Hold (IsOfKnown K) (of_an_item e i)
  item_known e k (sdu lcid octets) = channel_known (has lcid e.bearers) lcid (at_bearer lcid e k)
  item_known e k item = never (IsOfKnown K)

  block_known : (e : End) → Knows e → (r : Result (List MacItem) MacRefusal) → Hold (IsOfKnown K) (of_items e r)
  block_known e k (Ok items) = each_one (IsOfKnown K) (of_an_item e) (item_known e k) items
  block_known e k (Err refusal) = one (IsOfKnown K) (events.BadMac refusal) (λ lcid none. absurd cc)

  -- ---- all its bearers

  abbrev OfBearers : List (Of Life) → Type 0
  OfBearers bs = AllByRecursion (λ (b : Of Life). K b.channel.lcid) bs

  of_bearers : (bs : List (Of Life)) → KnowsAll K (channels bs) → OfBearers bs
  of_bearers [] k = tt
  of_bearers (b ∷ bs) k = (k.0, of_bearers bs k.1)

  tti_known : (b : Of Life) → K b.channel.lcid → Hold (IsOfKnown K) (in_a_tti b.channel.lcid)
  tti_known b h = tti_holds (IsOfKnown K) b.channel.lcid (hearing b.channel.lcid h) (λ len. own b.channel.lcid h)

  end_known : (b : Of Life) → K b.channel.lcid
      → Hold (IsOfKnown K) (at_the_end (is_srb b.channel.lcid) b.channel.lcid)
  end_known b h =
      let l = b.channel.lcid in
      end_holds (IsOfKnown K) l (of_sdus (IsOfKnown K) l (hearing l h)) (is_srb l)

  some_known : (lcid : ℕ) (clock : Clock) (o : Option (List Event)) → K lcid → IfSome o (of_an_expiry lcid clock)
      → AreOfKnown K (unwrap_or o [])
  some_known lcid clock None k h = tt
  some_known lcid clock (Some told) k h = expiry_holds (IsOfKnown K) lcid (hearing lcid k) clock told h

  -- where there is no bearer no timer runs
  expires_known : (e : End) (lcid : ℕ) (clock : Clock) → Knows e → IsToldInOrder e → (b : Bool)
      → has lcid e.bearers ≡ b → AreOfKnown K (unwrap_or (expiry lcid clock e) [])
  unfolding expiry flow_expiry
  expires_known e lcid clock k t true there =
      some_known lcid clock (expiry lcid clock e) (at_bearer lcid e k there) (t.expiring lcid clock)
  expires_known e lcid clock k t false none =
      let past : bearer_of lcid e ≡ no_bearer = get_or_past e.bearers (find lcid e.bearers) no_bearer
      (grind (arith, nat_tests)) in
      subst (λ (b : Of Life). AreOfKnown K (unwrap_or (flow_expiry b.state.flow clock) [])) (sym past) tt

  call_known : (e : End) (c : Call) → Knows e → IsToldInOrder e → AreOfKnown K (told_of e c)
  call_known e (Visits t) k o = builds_known e t.tti t.grant t.order k o (visit t.tti t.order e) refl
  call_known e (Receive block) k o =
      block_known e k (reading (heard_by e.side) block) (received e block).events (o.receiving block)
  call_known e Tick k o =
      in_turn (IsOfKnown K) (λ (b : Of Life). K b.channel.lcid) (λ (b : Of Life). in_a_tti b.channel.lcid)
      tti_known e.bearers (of_bearers e.bearers k.own_are) (ticked e).events o.ticking
  call_known e (Expire lcid clock) k o = expires_known e lcid clock k o (has lcid e.bearers) refl
  call_known e (Move keys) k o =
      in_turn (IsOfKnown K) (λ (b : Of Life). K b.channel.lcid)
      (λ (b : Of Life). at_the_end (is_srb b.channel.lcid) b.channel.lcid)
      end_known e.bearers (of_bearers e.bearers k.own_are) (leaving e) o.moving
  call_known e c k o = tt

  -- ---- the channels of an end through calls

  -- a bearer that is added is one of a known channel
  abbrev AddsKnown : Call → Type 0
  AddsKnown (Add c keys) = K c.channel.lcid
  AddsKnown call = Unit {0}

  insert_known : (d : Channel) (cs : List Channel) (at : ℕ) → K d.lcid → KnowsAll K cs → KnowsAll K (insert cs at d)
  insert_known d cs zero k a = (k, a)
  insert_known d [] (suc at) k a = (k, tt)
  insert_known d (c ∷ cs) (suc at) k a = (a.0, insert_known d cs at k a.1)

  one_known : (d : Channel) (cs : List Channel) (b : Bool) → K d.lcid → KnowsAll K cs
      → KnowsAll K (if b then cs else put d cs)
  one_known d cs true k a = a
  one_known d cs false k a = insert_known d cs (place d cs) k a

  all_known : (ds cs : List Channel) → KnowsAll K ds → KnowsAll K cs → KnowsAll K (with_all ds cs)
  all_known [] cs k a = a
  all_known (d ∷ ds) cs k a = all_known ds (with_one d cs) k.1 (one_known d cs (has_channel d.lcid cs) k.0 a)

  shared_known : (c : Call) (bs : List (Of Life)) (cs : List Channel) → AddsKnown c → KnowsAll K (channels bs)
      → KnowsAll K cs → KnowsAll K (shared_in c bs cs)
  shared_known (Add c keys) bs cs h own a = one_known c.channel cs (has_channel c.channel.lcid cs) h a
  shared_known (Move keys) bs cs h own a = all_known (channels bs) [] own tt
  shared_known c bs cs h own a = a

  own_known : (c : Call) (cs : List Channel) → AddsKnown c → KnowsAll K cs → KnowsAll K (channels_in c cs)
  own_known (Add c keys) cs h a = all_put (λ (d : Channel). K d.lcid) c.channel cs h a
  own_known c cs h a = a

  knows_then : (e : End) (c : Call) → AddsKnown c → Knows e → Knows (after e c)
  knows_then e c h k = record {
    shared = subst (KnowsAll K) (sym (call_shared e c))
        (shared_known c e.bearers e.buckets.channels h k.own_are k.shared);
    own_are = subst (KnowsAll K) (sym (call_channels e c)) (own_known c (channels e.bearers) h k.own_are);
  }

  -- ---- through calls

  record Stands (e : End) : Type 0 where
    sound : HasSoundChannels e
    between : AllAre IsBetween e.bearers
    right : AllAre IsRight e.bearers
    knows : Knows e

  stands_then : (e : End) (c : Call) → IsGiven c → AddsKnown c → Stands e → Stands (after e c)
  stands_then e c g h s = record {
    sound = call_channels_sound e c g s.sound;
    between = call_are IsBetween between_kept e c g s.sound.buckets_are s.between;
    right = call_are IsRight right_kept e c g s.sound.buckets_are s.right;
    knows = knows_then e c h s.knows;
  }

  over_known : (cs : List Call) (e : End) → AreGiven cs → AllByRecursion AddsKnown cs → Stands e
      → AreOfKnown K (told_over cs e)
  over_known [] e g h s = tt
  over_known (c ∷ cs) e g h s =
      both (IsOfKnown K) (told_of e c) (told_over cs (after e c))
      (call_known e c s.knows (end_told_in_order e s.between s.right))
      (over_known cs (after e c) g.1 h.1 (stands_then e c g.0 h.0 s))

  fresh_stands : (side : Side) (maximum : ℕ) (reports : Bool) → Stands (fresh side maximum reports)
  unfolding fresh no_channels
  fresh_stands side maximum reports = record {
    sound = fresh_channels_sound side maximum reports;
    between = tt;
    right = tt;
    knows = record { shared = tt; own_are = tt };
  }

-- ---- bearers never go away

more_or : (a b c : Bool) → (b ≡ true → c ≡ true) → (a || b) ≡ true → (a || c) ≡ true
more_or true b c f e = refl
more_or false b c f e = f e

also_or : (a b : Bool) → b ≡ true → (a || b) ≡ true
also_or true b e = refl
also_or false b e = e

put_keeps : (l : ℕ) (d : Channel) (cs : List Channel) → has_channel l cs ≡ true
    → has_channel l (put_by_lcid d cs) ≡ true
put_keeps l d [] e = absurd cc
put_keeps l d (c ∷ cs) e = by (nat_lt c.lcid d.lcid) (put_keeps l d cs)
  where
    by : (b : Bool) → (has_channel l cs ≡ true → has_channel l (put_by_lcid d cs) ≡ true)
        → has_channel l (if b then c ∷ put_by_lcid d cs else d ∷ c ∷ cs) ≡ true
    by true more = more_or (l == c.lcid) (has_channel l cs) (has_channel l (put_by_lcid d cs)) more e
    by false more = also_or (l == d.lcid) (has_channel l (c ∷ cs)) e

put_there : (d : Channel) (cs : List Channel) → has_channel d.lcid (put_by_lcid d cs) ≡ true
put_there d [] = ap (λ (b : Bool). b || false) (eq-eqb d.lcid d.lcid refl)
put_there d (c ∷ cs) = by (nat_lt c.lcid d.lcid) (put_there d cs)
  where
    by : (b : Bool) → has_channel d.lcid (put_by_lcid d cs) ≡ true
        → has_channel d.lcid (if b then c ∷ put_by_lcid d cs else d ∷ c ∷ cs) ≡ true
    by true more = also_or (d.lcid == c.lcid) (has_channel d.lcid (put_by_lcid d cs)) more
    by false more = ap (λ (b : Bool). b || has_channel d.lcid (c ∷ cs)) (eq-eqb d.lcid d.lcid refl)

call_keeps : (l : ℕ) (c : Call) (cs : List Channel) → has_channel l cs ≡ true → has_channel l (channels_in c cs) ≡ true
call_keeps l (Add c keys) cs e = put_keeps l c.channel cs e
call_keeps l c cs e = e

stays_there : (l : ℕ) (cs : List Call) (e : End) → has l e.bearers ≡ true → has l (run_end cs e).bearers ≡ true
stays_there l [] e there = there
stays_there l (c ∷ cs) e there =
    stays_there l cs (after e c)
    (known_channel l (after e c).bearers ∙ ap (has_channel l) (call_channels e c)
    ∙ call_keeps l c (channels e.bearers) (sym (known_channel l e.bearers) ∙ there))

add_there : (c : Call) (cs : List Call) (e : End) → AddsKnown (λ l. has l (run_end cs (after e c)).bearers ≡ true) c
add_there (Add c keys) cs e =
    let l = c.channel.lcid in
    let f = after e (Add c keys) in
    stays_there l cs f
    (known_channel l f.bearers ∙ ap (has_channel l) (call_channels e (Add c keys))
    ∙ put_there c.channel (channels e.bearers))
add_there c cs e = tt

adds_there : (cs : List Call) (e : End)
    → AllByRecursion (AddsKnown (λ l. has l (run_end cs e).bearers ≡ true)) cs
adds_there [] e = tt
adds_there (c ∷ cs) e = (add_there c cs e, adds_there cs (after e c))

-- so each event is of a channel that has a bearer in the end
pub told_known : (side : Side) (maximum : ℕ) (reports : Bool) (cs : List Call) → AreGiven cs
    → AreOfKnown (λ l. has l (reached side maximum reports cs).bearers ≡ true)
    (told_over cs (fresh side maximum reports))
told_known side maximum reports cs g =
    let e = fresh side maximum reports in
    let K : ℕ → Type 0 = λ l. has l (run_end cs e).bearers ≡ true in
    over_known K cs e g (adds_there cs e) (fresh_stands K side maximum reports)
