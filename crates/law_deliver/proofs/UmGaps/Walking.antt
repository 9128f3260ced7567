-- A direction of a channel through steps of both ends and through lives, beside what is told of its losses.
use Rattle.std.proofs.Common.{◌≡◌, inl, inr, ◌<◌, ℕ, ◌^◌, true, false, List, [], ◌∷◌, ◌++◌, map, length, append-nil}
use Rattle.std.proofs.Common.{refl, ap, sym, subst, ◌∙◌, arith}
use Rattle.std.specs.List.{AllByRecursion}
use Rattle.bearer_types.specs.Sides.{other}
use Rattle.bearer.specs.Unacknowledged.State.{State}
use Rattle.law_bearer.specs.AnyBearer.Calls.{Call as BearerCall}
use Rattle.bearer_types.specs.declared.config.BearerConfig.{BearerConfig}
use Rattle.law_deliver.specs.AmChannel.Lives.{AirStep, InLife, lives_on, IsLiving as IsLivingAir, end_at, all_calls}
use Rattle.law_deliver.proofs.AmChannel.Ends.{IsCall, are_calls, goes_by_calls}
use Rattle.l2_node.specs.End.{End}
use Rattle.bearer_types.specs.Sides.{heard_by, sent_by}
use Rattle.l2_types.specs.declared.side.Side.{Side}
use Rattle.l2_types.specs.declared.side.Side.TheVariants.{Nb, Ue}
use Rattle.law_node.specs.Calls.{Call, Move, after as after_call, run_end}
use Rattle.law_deliver.specs.AmFlow.Air.{Station, Air, Act, Step, AtNb, AtUe, Passes, happens, older, IsDone, IsGiven}
use Rattle.law_deliver.specs.AmFlow.Air.{does as air_does}
use Rattle.law_deliver.proofs.AmFlow.Air.{calls_in as act_calls}
use Rattle.law_deliver.proofs.AmFlow.Loads.{Load, blocks_in, aged_load, aged_copies, aged_blocks}
use Rattle.law_deliver.proofs.AmFlow.Ups.{Stands as StandsAlone, stands_more}
use Rattle.rlc_pdu.specs.Pdus.{UmdPdu, IsUmBits}
use Rattle.rlc_um.specs.Sender.{width_of}
use Rattle.law_deliver.specs.UmChannel.Delivery.{direction_from}
use Rattle.law_deliver.specs.UmChannel.Pairs.{deeds_in, steps_in}
use Rattle.law_deliver.proofs.UmChannel.Acting.{acts}
use Rattle.law_deliver.proofs.UmChannel.Bearers.{own, own_calls}
use Rattle.law_deliver.proofs.UmChannel.Deeds.{does_all, near_own, far_own, near_none, far_none, steps_at, goes_at}
use Rattle.law_deliver.specs.UmFlow.Pair.{happens as pair_happens}
use Rattle.law_deliver.proofs.Steps.{walked_more}
use Rattle.law_deliver.proofs.UmChannel.Loads.{Carries}
use Rattle.law_deliver.proofs.UmChannel.Stations.{Matches}
use Rattle.law_deliver.proofs.UmChannel.Walk.{Stands, grows}
use Rattle.law_deliver.specs.UmDelivery.Lives.{AreShortIn}
use Rattle.law_deliver.proofs.UmDelivery.Through.{Begin}
use Rattle.law_deliver.specs.UmFlow.Calls.{near_calls, far_calls}
use Rattle.law_deliver.specs.UmFlow.Pair.{BearerEnd, Pair, Deed, Step as PairStep, Near, Far, goes}
use Rattle.law_deliver.specs.UmFlow.Pair.{happens as pair_happens, um_pair_outset, begins as pair_begins}
use Rattle.law_deliver.specs.UmFlow.Pair.{AreShortThere, AreShortBack}
use Rattle.law_deliver.proofs.UmFlow.Calls.{near_then, far_then}
use Rattle.law_deliver.proofs.UmFlow.Flows.{begins_so}
use Rattle.um_losses.specs.Flow.{Flow, fresh_receiver}
use Rattle.um_losses.specs.Sending.{nothing_written}
use Rattle.um_losses.specs.Told.{all_after}
use Rattle.law_deliver.specs.UmGaps.Whats.{sends, hears, whats_in}
use Rattle.law_deliver.proofs.UmGaps.Counting.{Begins}
use Rattle.law_deliver.proofs.UmGaps.Hearing.{AreNear, hears_on}
use Rattle.law_deliver.proofs.UmGaps.Sending.{sends_on}
use Rattle.law_deliver.proofs.UmGaps.Tracking.{IsUnder, Tracks}

-- ---- short steps

short_there : (p : Pair) (ss ts : List PairStep) → AreShortThere p ss → AreShortThere (goes ss p) ts
    → AreShortThere p (ss ++ ts)
short_there p [] ts g h = h
short_there p (Near d ∷ ss) ts g h = short_there (pair_happens p (Near d)) ss ts g h
short_there p (Far d ∷ ss) ts g h = (g.0, short_there (pair_happens p (Far d)) ss ts g.1 h)

short_back : (p : Pair) (ss ts : List PairStep) → AreShortBack p ss → AreShortBack (goes ss p) ts
    → AreShortBack p (ss ++ ts)
short_back p [] ts g h = h
short_back p (Far d ∷ ss) ts g h = short_back (pair_happens p (Far d)) ss ts g h
short_back p (Near d ∷ ss) ts g h = (g.0, short_back (pair_happens p (Near d)) ss ts g.1 h)

sent_there : (p : Pair) (ds : List Deed) → AreShortThere p (steps_at Nb ds)
sent_there p [] = tt
sent_there p (d ∷ ds) = sent_there (pair_happens p (Near d)) ds

sent_back : (p : Pair) (ds : List Deed) → AreShortBack p (steps_at Ue ds)
sent_back p [] = tt
sent_back p (d ∷ ds) = sent_back (pair_happens p (Far d)) ds

heard_there : (p : Pair) (ds : List Deed) → AreNear p.near p.far ds → AreShortThere p (steps_at Ue ds)
heard_there p [] h = tt
heard_there p (d ∷ ds) h = (h.0, heard_there (pair_happens p (Far d)) ds h.1)

heard_back : (p : Pair) (ds : List Deed) → AreNear p.far p.near ds → AreShortBack p (steps_at Nb ds)
heard_back p [] h = tt
heard_back p (d ∷ ds) h = (h.0, heard_back (pair_happens p (Near d)) ds h.1)

-- ---- an end stays alone on the channel

alone_by : (side : Side) (l : ℕ) (e : End) (cs : List Call) → StandsAlone side l e → AllByRecursion (IsCall l) cs
    → StandsAlone side l (run_end cs e)
alone_by side l e [] s g = s
alone_by side l e (c ∷ cs) s g = alone_by side l (after_call e c) cs (one c g.0) g.1
  where
    one : (c : Call) → IsCall l c → StandsAlone side l (after_call e c)
    one c (inl h) = stands_more side l e c s h.0 (λ q. let no : true ≡ false = sym q ∙ h.1.adds_none in absurd cc)
    one c (inr h) =
        subst (λ (x : Call). StandsAlone side l (after_call e x)) (sym h.1)
        (stands_more side l e (Move h.0) s tt (λ q. let no : false ≡ true = q in absurd cc))

pub alone_on : (side : Side) (l : ℕ) (a : Air) (x : AirStep) → IsLivingAir l a x → StandsAlone side l (end_at side a)
    → StandsAlone side l (end_at side (lives_on a x))
alone_on side l a x g s =
    subst (StandsAlone side l) (sym (goes_by_calls side (x ∷ []) a))
    (alone_by side l (end_at side a) (all_calls side (x ∷ []) a) s (are_calls l side (x ∷ []) a (g, tt)))

-- ---- the life that runs

abbrev own_end : Side → Pair → BearerEnd
own_end Nb p = p.near
own_end Ue p = p.far

abbrev pub station : Side → Air → Station
station Nb a = a.nb
station Ue a = a.ue

pub record Follows (l : ℕ) (c : BearerConfig) (from : Side) (a : Air) (near far : State) (so_far : List PairStep)
    (f : Flow) : Type 0 where
  pub stands : Stands l a near far so_far
  pub alone : StandsAlone (other from) l (end_at (other from) a)
  pub near_begin : Begin c.pdcp_bits c.rlc_bits c.rx.reorder near
  pub far_begin : Begin c.pdcp_bits c.rlc_bits c.rx.reorder far
  pub begins : Begins c.pdcp_bits (own from near far)
  pub loads : List Load
  pub blocks_are : blocks_in loads ≡ (station from a).blocks
  pub carry : AllByRecursion (Carries l (sent_by from)) loads
  pub tracks : Tracks c.rlc_bits c.rx.reorder (2 ^ c.pdcp_bits) (own from near far) (own_calls from near far so_far)
      (own (other from) near far) (own_calls (other from) near far so_far)
      (own_end from (goes so_far (um_pair_outset near far)))
      (own_end (other from) (goes so_far (um_pair_outset near far)))
      loads f
  pub short : AreShortIn (direction_from from) (um_pair_outset near far) so_far

-- ---- a flow as a life begins

pub record IsNewFlow (bits counts : ℕ) (f : Flow) : Type 0 where
  pub bits_are : f.bits ≡ bits
  pub sending_is : f.sending ≡ nothing_written
  pub receiver_is : f.receiver ≡ fresh_receiver bits
  pub width_is : f.gaps.width ≡ width_of bits
  pub counts_are : f.gaps.counts ≡ counts
  pub top_is : f.gaps.top ≡ 0
  pub next_is : f.gaps.next ≡ 0

pub first_tracks : (pdcp_bits bits reorder counts : ℕ) (a b : State) (f : Flow) → IsUmBits bits
    → Begin pdcp_bits bits reorder a → Begin pdcp_bits bits reorder b → IsNewFlow bits counts f
    → Tracks bits reorder counts a [] b [] (pair_begins a) (pair_begins b) [] f
first_tracks pdcp_bits bits reorder counts a b f u x y h = record {
  on = begins_so bits reorder u reorder a b x.begins y.begins;
  tm = [];
  calls = [];
  heard = record {
    sent' = tt;
    same = record { outline_is = refl; top_is = refl; accepted_is = λ n. refl };
    state_is = sym h.receiver_is;
    bits_are = h.bits_are;
    width_is = h.width_is;
    counts_are = h.counts_are;
    top_is = let top = h.top_is in omega (arith, top);
    next_is = h.next_is;
    long_is = λ e. refl;
  };
  idle = ap (λ r. r.joined.ready) h.receiver_is;
  written = record {
    alike = tt;
    tagged' = record {
      ready = tt;
      ended_is = ap (λ s. s.ended) (sym h.sending_is);
      open_is = ap (λ s. s.waiting.begun) (sym x.begins.sends);
    };
    number_is = ap (λ s. s.sent) h.sending_is;
    many = ap (λ s. length s.under_way) h.sending_is;
  };
  copies_are = refl;
  under = tt;
}

-- ---- a step of a life

abbrev act_at : Side → Act → Step
act_at Nb x = AtNb x
act_at Ue x = AtUe x

-- what an act at a side makes of it, and what of the other
record Moved (by off : Side) (l : ℕ) (a : Air) (near far : State) (so_far : List PairStep) (x : Act) : Type 0 where
  calls_by : own_calls by near far (so_far ++ steps_in l a (act_at by x))
      ≡ own_calls by near far so_far ++ act_calls l (station off a) (station by a) x
  calls_off : own_calls off near far (so_far ++ steps_in l a (act_at by x)) ≡ own_calls off near far so_far
  end_by : own_end by (goes (so_far ++ steps_in l a (act_at by x)) (um_pair_outset near far))
      ≡ does_all (own_end off (goes so_far (um_pair_outset near far)))
      (own_end by (goes so_far (um_pair_outset near far)))
      (deeds_in l by (station off a) (station by a) x)
  end_off : own_end off (goes (so_far ++ steps_in l a (act_at by x)) (um_pair_outset near far))
      ≡ own_end off (goes so_far (um_pair_outset near far))

moved : (by : Side) (l : ℕ) (a : Air) (near far : State) (so_far : List PairStep) (x : Act) → Stands l a near far so_far
    → IsDone l (station by a) x → Moved by (other by) l a near far so_far x
moved Nb l a near far so_far x h g =
    let out = um_pair_outset near far in
    let p : Pair = goes so_far out in
    let ds = deeds_in l Nb a.ue a.nb x in
    let r = acts Nb Ue l a.nb a.ue p.near p.far x refl h.nb h.ue g in
    let there = walked_more pair_happens out so_far (steps_at Nb ds) ∙ goes_at Nb p ds in
    record {
      calls_by = near_then so_far (steps_at Nb ds) out
          ∙ ap (λ (more : List BearerCall). near_calls out so_far ++ more) (near_own p ds ∙ r.calls_are);
      calls_off = far_then so_far (steps_at Nb ds) out
          ∙ ap (λ (more : List BearerCall). far_calls out so_far ++ more) (far_none p ds)
          ∙ append-nil (far_calls out so_far);
      end_by = ap (λ (q : Pair). q.near) there;
      end_off = ap (λ (q : Pair). q.far) there;
    }
moved Ue l a near far so_far x h g =
    let out = um_pair_outset near far in
    let p : Pair = goes so_far out in
    let ds = deeds_in l Ue a.nb a.ue x in
    let r = acts Ue Nb l a.ue a.nb p.far p.near x refl h.ue h.nb g in
    let there = walked_more pair_happens out so_far (steps_at Ue ds) ∙ goes_at Ue p ds in
    record {
      calls_by = far_then so_far (steps_at Ue ds) out
          ∙ ap (λ (more : List BearerCall). far_calls out so_far ++ more) (far_own p ds ∙ r.calls_are);
      calls_off = near_then so_far (steps_at Ue ds) out
          ∙ ap (λ (more : List BearerCall). near_calls out so_far ++ more) (near_none p ds)
          ∙ append-nil (near_calls out so_far);
      end_by = ap (λ (q : Pair). q.far) there;
      end_off = ap (λ (q : Pair). q.near) there;
    }

-- the same of the side where it isn't
moved_off : (off : Side) (l : ℕ) (a : Air) (near far : State) (so_far : List PairStep) (x : Act)
    → Stands l a near far so_far → IsDone l (station (other off) a) x → Moved (other off) off l a near far so_far x
moved_off Nb l a near far so_far x h g = moved Ue l a near far so_far x h g
moved_off Ue l a near far so_far x h g = moved Nb l a near far so_far x h g

-- ---- the sides

done_at : (by : Side) (l : ℕ) (a : Air) (x : Act) → IsGiven l a (act_at by x) → IsDone l (station by a) x
done_at Nb l a x g = g
done_at Ue l a x g = g

done_off : (off : Side) (l : ℕ) (a : Air) (x : Act) → IsGiven l a (act_at (other off) x)
    → IsDone l (station (other off) a) x
done_off Nb l a x g = g
done_off Ue l a x g = g

own_matches : (side : Side) (l : ℕ) (a : Air) (near far : State) (so_far : List PairStep) → Stands l a near far so_far
    → Matches side l (station side a) (own_end side (goes so_far (um_pair_outset near far)))
own_matches Nb l a near far so_far h = h.nb
own_matches Ue l a near far so_far h = h.ue

end_is : (side : Side) (a : Air) → end_at side a ≡ (station side a).end
end_is Nb a = refl
end_is Ue a = refl

to_other : (side : Side) → heard_by side ≡ sent_by (other side)
to_other Nb = refl
to_other Ue = refl

from_other : (side : Side) → heard_by (other side) ≡ sent_by side
from_other Nb = refl
from_other Ue = refl

blocks_by : (by : Side) (a : Air) (x : Act)
    → (station by (happens a (act_at by x))).blocks ≡ (air_does (station (other by) a) (station by a) x).blocks
blocks_by Nb a x = refl
blocks_by Ue a x = refl

blocks_off : (off : Side) (a : Air) (x : Act)
    → (station off (happens a (act_at (other off) x))).blocks ≡ (station off a).blocks
blocks_off Nb a x = refl
blocks_off Ue a x = refl

-- what a side sends leaves the losses of its direction short, and what is heard where it is near
short_sent : (from : Side) (l : ℕ) (a : Air) (near far : State) (so_far : List PairStep) (x : Act)
    → AreShortIn (direction_from from) (um_pair_outset near far) so_far
    → AreShortIn (direction_from from) (um_pair_outset near far) (so_far ++ steps_in l a (act_at from x))
short_sent Nb l a near far so_far x h =
    let ds = deeds_in l Nb a.ue a.nb x in
    short_there (um_pair_outset near far) so_far (steps_at Nb ds) h
    (sent_there (goes so_far (um_pair_outset near far)) ds)
short_sent Ue l a near far so_far x h =
    let ds = deeds_in l Ue a.nb a.ue x in
    short_back (um_pair_outset near far) so_far (steps_at Ue ds) h
    (sent_back (goes so_far (um_pair_outset near far)) ds)

short_heard : (from : Side) (l : ℕ) (a : Air) (near far : State) (so_far : List PairStep) (x : Act)
    → AreShortIn (direction_from from) (um_pair_outset near far) so_far
    → AreNear (own_end from (goes so_far (um_pair_outset near far)))
    (own_end (other from) (goes so_far (um_pair_outset near far)))
    (deeds_in l (other from) (station from a) (station (other from) a) x)
    → AreShortIn (direction_from from) (um_pair_outset near far) (so_far ++ steps_in l a (act_at (other from) x))
short_heard Nb l a near far so_far x h is_near =
    let ds = deeds_in l Ue a.nb a.ue x in
    short_there (um_pair_outset near far) so_far (steps_at Ue ds) h
    (heard_there (goes so_far (um_pair_outset near far)) ds is_near)
short_heard Ue l a near far so_far x h is_near =
    let ds = deeds_in l Nb a.ue a.nb x in
    short_back (um_pair_outset near far) so_far (steps_at Nb ds) h
    (heard_back (goes so_far (um_pair_outset near far)) ds is_near)

aged_carry : (l : ℕ) (d : _) (loads : List Load) → AllByRecursion (Carries l d) loads
    → AllByRecursion (Carries l d) (map aged_load loads)
aged_carry l d [] h = tt
aged_carry l d (x ∷ xs) h = (h.0, aged_carry l d xs h.1)

aged_under : (bits : ℕ) (tm : List UmdPdu) (under : _) (loads : List Load)
    → AllByRecursion (IsUnder bits tm under) loads → AllByRecursion (IsUnder bits tm under) (map aged_load loads)
aged_under bits tm under [] h = tt
aged_under bits tm under (x ∷ xs) h = (one h.0, aged_under bits tm under xs h.1)
  where
    one : IsUnder bits tm under x → IsUnder bits tm under (aged_load x)
    one (inl none) = inl none
    one (inr f) =
        inr (record {
          copy = f.copy;
          copies_are = f.copies_are;
          flying = f.flying;
          is = f.is;
          number_is = f.number_is;
          there = f.there;
          range = f.range;
        })

module _ (l : ℕ) (c : BearerConfig) (u : IsUmBits c.rlc_bits) (some : 0 < 2 ^ c.pdcp_bits) where
  abbrev bits : ℕ
  bits = c.rlc_bits

  abbrev Told : State → List BearerCall → State → List BearerCall → BearerEnd → BearerEnd → List Load → Flow → Type 0
  Told = Tracks c.rlc_bits c.rx.reorder (2 ^ c.pdcp_bits)

  -- the same in another form
  told_as : (a b : State) (xs zs : List BearerCall) (ys ws : List BearerCall) (n m n' m' : BearerEnd)
      (loads : List Load) (f : Flow) → zs ≡ xs → ws ≡ ys → n' ≡ n → m' ≡ m → Told a xs b ys n m loads f
      → Told a zs b ws n' m' loads f
  told_as a b xs zs ys ws n m n' m' loads f p q r s h =
      subst (λ (x : List BearerCall). Told a x b ws n' m' loads f) (sym p)
      (subst (λ (y : List BearerCall). Told a xs b y n' m' loads f) (sym q)
      (subst (λ (e : BearerEnd). Told a xs b ys e m' loads f) (sym r)
      (subst (λ (e : BearerEnd). Told a xs b ys n e loads f) (sym s) h)))

  -- of a direction, by the steps of the life so far
  abbrev pub ToldIn : Side → State → State → List PairStep → List Load → Flow → Type 0
  ToldIn from near far ss loads f =
      Told (own from near far) (own_calls from near far ss) (own (other from) near far)
      (own_calls (other from) near far ss) (own_end from (goes ss (um_pair_outset near far)))
      (own_end (other from) (goes ss (um_pair_outset near far))) loads f

  -- where the life stands behind a step
  follows_on : (from : Side) (a : Air) (x : Step) (near far : State) (so_far : List PairStep) (f g : Flow)
      → IsGiven l a x → Follows l c from a near far so_far f → (loads : List Load)
      → blocks_in loads ≡ (station from (happens a x)).blocks → AllByRecursion (Carries l (sent_by from)) loads
      → ToldIn from near far (so_far ++ steps_in l a x) loads g
      → AreShortIn (direction_from from) (um_pair_outset near far) (so_far ++ steps_in l a x)
      → Follows l c from (happens a x) near far (so_far ++ steps_in l a x) g
  follows_on from a x near far so_far f g given h loads blocks carry tracks short = record {
    stands = (grows l a near far so_far h.stands x given).stands;
    alone = alone_on (other from) l a (InLife x) given h.alone;
    near_begin = h.near_begin;
    far_begin = h.far_begin;
    begins = h.begins;
    loads = loads;
    blocks_are = blocks;
    carry = carry;
    tracks = tracks;
    short = short;
  }

  aged_told : (a b : State) (xs ys : List BearerCall) (n m : BearerEnd) (loads : List Load) (f : Flow)
      → Told a xs b ys n m loads f → Told a xs b ys n m (map aged_load loads) f
  aged_told a b xs ys n m loads f t = record {
    on = t.on;
    tm = t.tm;
    calls = t.calls;
    heard = t.heard;
    idle = t.idle;
    written = t.written;
    copies_are = t.copies_are ∙ sym (aged_copies loads);
    under = aged_under c.rlc_bits t.tm f.sending.under_way loads t.under;
  }

  -- an act of the side that sends
  sent_on : (from : Side) (a : Air) (x : Act) (near far : State) (so_far : List PairStep) (f : Flow)
      → IsGiven l a (act_at from x) → Follows l c from a near far so_far f
      → Follows l c from (happens a (act_at from x)) near far (so_far ++ steps_in l a (act_at from x))
      (all_after (sends from l c.rlc_bits (station from a).end x) f)
  sent_on from a x near far so_far f g h =
      let to = other from in
      let p : Pair = goes so_far (um_pair_outset near far) in
      let done = done_at from l a x g in
      let v = moved from l a near far so_far x h.stands done in
      let r = sends_on l c.rlc_bits c.rx.reorder (2 ^ c.pdcp_bits) u from to (to_other from) (own from near far)
      (own_calls from near far so_far) (own to near far) (own_calls to near far so_far) (station from a) (station to a)
      (own_end from p) (own_end to p) (own_matches from l a near far so_far h.stands)
      (own_matches to l a near far so_far h.stands) h.loads f h.blocks_are h.carry h.tracks x done in
      follows_on from a (act_at from x) near far so_far f
      (all_after (sends from l c.rlc_bits (station from a).end x) f) g h
      r.loads (r.blocks_are ∙ sym (blocks_by from a x)) r.carry
      (told_as (own from near far) (own to near far) _ _ _ _ _ _ _ _ r.loads _ v.calls_by v.calls_off v.end_by v.end_off
      r.tracks)
      (short_sent from l a near far so_far x h.short)

  -- an act of the side that hears
  heard_on : (from : Side) (a : Air) (x : Act) (near far : State) (so_far : List PairStep) (f : Flow)
      → IsGiven l a (act_at (other from) x) → Follows l c from a near far so_far f
      → (all_after (hears l (station from a) (station (other from) a).end x) f).gaps.long ≡ false
      → Follows l c from (happens a (act_at (other from) x)) near far (so_far ++ steps_in l a (act_at (other from) x))
      (all_after (hears l (station from a) (station (other from) a).end x) f)
  heard_on from a x near far so_far f g h e =
      let to = other from in
      let p : Pair = goes so_far (um_pair_outset near far) in
      let done = done_off from l a x g in
      let v = moved_off from l a near far so_far x h.stands done in
      let r = hears_on l c.rlc_bits c.rx.reorder (2 ^ c.pdcp_bits) u to from (from_other from) (own from near far)
      (own_calls from near far so_far) (own to near far) (own_calls to near far so_far) (station to a) (station from a)
      (own_end from p) (own_end to p) (own_matches to l a near far so_far h.stands)
      (own_matches from l a near far so_far h.stands) (subst (StandsAlone to l) (end_is to a) h.alone) h.loads f
      h.blocks_are h.carry h.tracks x done e in
      follows_on from a (act_at to x) near far so_far f
      (all_after (hears l (station from a) (station to a).end x) f) g h h.loads
      (h.blocks_are ∙ sym (blocks_off from a x)) h.carry
      (told_as (own from near far) (own to near far) _ _ _ _ _ _ _ _ h.loads _ v.calls_off v.calls_by v.end_off v.end_by
      r.tracks)
      (short_heard from l a near far so_far x h.short r.near)

  pub follow : (from : Side) (a : Air) (x : Step) (near far : State) (so_far : List PairStep) (f : Flow)
      → IsGiven l a x → Follows l c from a near far so_far f
      → (all_after (whats_in from l c.rlc_bits a (InLife x)) f).gaps.long ≡ false
      → Follows l c from (happens a x) near far (so_far ++ steps_in l a x)
      (all_after (whats_in from l c.rlc_bits a (InLife x)) f)
  follow Nb a (AtNb x) near far so_far f g h e = sent_on Nb a x near far so_far f g h
  follow Nb a (AtUe x) near far so_far f g h e = heard_on Nb a x near far so_far f g h e
  follow Ue a (AtUe x) near far so_far f g h e = sent_on Ue a x near far so_far f g h
  follow Ue a (AtNb x) near far so_far f g h e = heard_on Ue a x near far so_far f g h e
  follow Nb a Passes near far so_far f g h e =
      let same : so_far ++ [] ≡ so_far = append-nil so_far in
      follows_on Nb a Passes near far so_far f f g h (map aged_load h.loads)
      (aged_blocks h.loads ∙ ap (map older) h.blocks_are) (aged_carry l (sent_by Nb) h.loads h.carry)
      (subst (λ (ss : List PairStep). ToldIn Nb near far ss (map aged_load h.loads) f) (sym same)
      (aged_told near far _ _ _ _ h.loads f h.tracks))
      (subst (AreShortThere (um_pair_outset near far)) (sym same) h.short)
  follow Ue a Passes near far so_far f g h e =
      let same : so_far ++ [] ≡ so_far = append-nil so_far in
      follows_on Ue a Passes near far so_far f f g h (map aged_load h.loads)
      (aged_blocks h.loads ∙ ap (map older) h.blocks_are) (aged_carry l (sent_by Ue) h.loads h.carry)
      (subst (λ (ss : List PairStep). ToldIn Ue near far ss (map aged_load h.loads) f) (sym same)
      (aged_told far near _ _ _ _ h.loads f h.tracks))
      (subst (AreShortBack (um_pair_outset near far)) (sym same) h.short)
