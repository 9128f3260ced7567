-- Where what is told of a direction shows no long losses, its losses are short.
use Rattle.std.proofs.Common.{◌≡◌, inl, inr, ◌<◌, ◌≤◌, ℕ, ◌^◌, false, List, [], ◌∷◌, ◌++◌, refl, ap, sym, subst, ◌∙◌}
use Rattle.std.proofs.Common.{arith}
use Rattle.bearer.specs.Bearer.{flow_of}
use Rattle.bearer.specs.declared.flow.Flow.TheVariants.{Um}
use Rattle.bearer.specs.Lives.{stopping}
use Rattle.bearer_pdcp.specs.Ends.{begun, bearer_of, sends}
use Rattle.bearer.specs.Unacknowledged.State.{State, fresh}
use Rattle.bearer.specs.Unacknowledged.Lives.{stopped, restarted}
use Rattle.bearer_types.specs.Configs.{ArePdcpBits, AreRlcBits}
use Rattle.bearer_types.specs.declared.config.BearerConfig.{BearerConfig}
use Rattle.law_deliver.specs.AmChannel.Lives.{AirStep, InLife, Moves, lives_on, IsLiving as IsLivingAir}
use Rattle.law_deliver.specs.AmChannel.Lives.{AreLiving as AreLivingAir}
use Rattle.law_deliver.proofs.AmChannel.Delivery.{stands_so}
use Rattle.eps_sec.specs.declared.Keys.{Keys}
use Rattle.law_deliver.specs.AmFlow.Air.{Air, happens, outset}
use Rattle.law_deliver.proofs.AmFlow.Ups.{the_end}
use Rattle.l2_node.specs.End.{End}
use Rattle.l2_types.specs.declared.Kind.{Kind}
use Rattle.l2_types.specs.declared.Kind.TheVariants as kinds
use Rattle.l2_types.specs.declared.side.Side.{Side}
use Rattle.l2_types.specs.declared.side.Side.TheVariants.{Nb, Ue}
use Rattle.law_node.specs.Calls.{Move}
use Rattle.law_node.specs.Telling.{told_of}
use Rattle.pdcp_pdu.specs.declared.PdcpKind.TheVariants.{Um as UmKind}
use Rattle.pdcp_pdu.specs.Kinds.{IsKind}
use Rattle.pdcp_sec.specs.Protection.{protection_of}
use Rattle.pdcp_tx.specs.State.{start}
use Rattle.rlc_pdu.specs.Pdus.{IsUmBits}
use Rattle.rlc_um.specs.Receiver.{all_joined}
use Rattle.rlc_um.specs.Sender.{width_of}
use Rattle.law_deliver.specs.UmChannel.Delivery.{UmEndsBeginAlike, direction_from}
use Rattle.law_deliver.specs.UmChannel.Pairs.{steps_in, walk}
use Rattle.bearer_types.specs.Sides.{other}
use Rattle.law_deliver.proofs.UmChannel.Bearers.{near_end, far_end, own}
use Rattle.law_deliver.proofs.UmChannel.Delivery.{channels_deliver_in_order}
use Rattle.law_deliver.proofs.UmChannel.Walk.{Stands, begins_so, moves_so}
use Rattle.law_deliver.specs.UmDelivery.Delivery.{AreShort}
use Rattle.law_deliver.specs.UmDelivery.Lives.{next_near, next_far}
use Rattle.law_deliver.proofs.UmDelivery.Laws.{first_begins}
use Rattle.law_deliver.specs.UmDelivery.Lives.{Life, AreShortIn}
use Rattle.law_deliver.proofs.UmDelivery.Through.{Begin, begins_next as begin_next}
use Rattle.law_deliver.specs.UmFlow.Calls.{near_calls, far_calls}
use Rattle.law_deliver.specs.UmFlow.Pair.{Pair, Step as PairStep, goes, um_pair_outset, begins as pair_begins}
use Rattle.um_losses.specs.Flow.{Flow, fresh_receiver, after, restarts}
use Rattle.um_losses.specs.declared.flow.Happening.{Happening}
use Rattle.um_losses.proofs.Long.{unlong}
use Rattle.um_losses.specs.Told.{all_after}
use Rattle.law_deliver.specs.UmGaps.Delivery.{first_flow, LossesAreTold, ChannelsDeliverAsTold}
use Rattle.law_deliver.specs.UmGaps.Whats.{whats_in, whats, expiries}
use Rattle.law_deliver.proofs.UmGaps.Acting.{after_then}
use Rattle.law_deliver.proofs.UmGaps.Counting.{Begins, begins_next}
use Rattle.law_deliver.proofs.UmGaps.Gaps.{all_counted_so}
use Rattle.law_deliver.proofs.UmGaps.Places.{few_now, few_to_end}
use Rattle.law_deliver.proofs.UmGaps.Telling.{none_ends}
use Rattle.law_deliver.proofs.UmGaps.Tracking.{Tracks}
use Rattle.law_deliver.proofs.UmGaps.Walking.{alone_on, station, Follows, IsNewFlow, first_tracks, ToldIn, follow}
use Rattle.law_pdcp.specs.UmPair.Flow.{um_pdcp_outset}
use Rattle.law_pdcp.proofs.UmPair.Laws.{outset_writes}

-- what is told later doesn't make a long gap short
still_short : (ws : List Happening) (f : Flow) → (all_after ws f).gaps.long ≡ false → f.gaps.long ≡ false
still_short [] f e = e
still_short (w ∷ ws) f e = unlong w f (still_short ws (after w f) e)

new_again : (bits counts : ℕ) (f : Flow) → f.bits ≡ bits → f.gaps.width ≡ width_of bits → f.gaps.counts ≡ counts
    → IsNewFlow bits counts (restarts f)
new_again bits counts f b w k =
    let counted = all_counted_so (all_joined f.receiver) f.gaps in
    record {
      bits_are = b;
      sending_is = refl;
      receiver_is = ap fresh_receiver b;
      width_is = counted.width_is ∙ w;
      counts_are = counted.counts_are ∙ k;
      top_is = refl;
      next_is = refl;
    }

module _ (l : ℕ) (c : BearerConfig) (u : IsUmBits c.rlc_bits) (some : 0 < 2 ^ c.pdcp_bits) where
  -- both ends move, and begin the next life
  abbrev life_of : List PairStep → Keys → Life
  life_of so_far keys = record { steps = so_far; keys = keys }

  near_next : (near far : State) (so_far : List PairStep) (keys : Keys)
      → Begin c.pdcp_bits c.rlc_bits c.rx.reorder near
      → Begin c.pdcp_bits c.rlc_bits c.rx.reorder (next_near near far (life_of so_far keys))
  near_next near far so_far keys h =
      begin_next c.pdcp_bits c.rlc_bits c.rx.reorder near (goes so_far (um_pair_outset near far)).near.bearer
      (near_calls (um_pair_outset near far) so_far) keys (near_end near far so_far) h

  far_next : (near far : State) (so_far : List PairStep) (keys : Keys)
      → Begin c.pdcp_bits c.rlc_bits c.rx.reorder far
      → Begin c.pdcp_bits c.rlc_bits c.rx.reorder (next_far near far (life_of so_far keys))
  far_next near far so_far keys h =
      begin_next c.pdcp_bits c.rlc_bits c.rx.reorder far (goes so_far (um_pair_outset near far)).far.bearer
      (far_calls (um_pair_outset near far) so_far) keys (far_end near far so_far) h

  abbrev FirstTold : State → State → Flow → Type 0
  FirstTold a b f =
      Tracks c.rlc_bits c.rx.reorder (2 ^ c.pdcp_bits) a [] b [] (pair_begins a) (pair_begins b) [] (restarts f)

  told_again : (from : Side) (a : Air) (near far : State) (so_far : List PairStep) (f : Flow) (x y : State)
      → Follows l c from a near far so_far f → Begin c.pdcp_bits c.rlc_bits c.rx.reorder x
      → Begin c.pdcp_bits c.rlc_bits c.rx.reorder y → FirstTold x y f
  told_again from a near far so_far f x y h i j =
      let t = h.tracks.heard in
      first_tracks c.pdcp_bits c.rlc_bits c.rx.reorder (2 ^ c.pdcp_bits) x y (restarts f) u i j
      (new_again c.rlc_bits (2 ^ c.pdcp_bits) f t.bits_are t.width_is t.counts_are)

  begins_anew : (from : Side) (a : Air) (keys : Keys) (near far : State) (so_far : List PairStep) (f : Flow)
      → IsLivingAir l a (Moves keys) → Follows l c from a near far so_far f
      → Begins c.pdcp_bits (own from (next_near near far (life_of so_far keys))
      (next_far near far (life_of so_far keys)))
      → [] ≡ (station from (lives_on a (Moves keys))).blocks
      → ToldIn l c u some from (next_near near far (life_of so_far keys))
      (next_far near far (life_of so_far keys)) [] []
      (restarts f)
      → AreShortIn (direction_from from)
      (um_pair_outset (next_near near far (life_of so_far keys)) (next_far near far (life_of so_far keys))) []
      → Follows l c from (lives_on a (Moves keys)) (next_near near far (life_of so_far keys))
      (next_far near far (life_of so_far keys)) [] (restarts f)
  begins_anew from a keys near far so_far f g h begins blocks tracks short = record {
    stands = record {
      nb = moves_so Nb l a.nb (goes so_far (um_pair_outset near far)).near keys h.stands.nb;
      ue = moves_so Ue l a.ue (goes so_far (um_pair_outset near far)).far keys h.stands.ue;
      living = record { given = tt; near_accepts = tt; far_accepts = tt };
    };
    alone = alone_on (other from) l a (Moves keys) g h.alone;
    near_begin = near_next near far so_far keys h.near_begin;
    far_begin = far_next near far so_far keys h.far_begin;
    begins = begins;
    loads = [];
    blocks_are = blocks;
    carry = tt;
    tracks = tracks;
    short = short;
  }

  moves : (from : Side) (a : Air) (keys : Keys) (near far : State) (so_far : List PairStep) (f : Flow)
      → IsLivingAir l a (Moves keys) → Follows l c from a near far so_far f
      → Follows l c from (lives_on a (Moves keys)) (next_near near far (life_of so_far keys))
      (next_far near far (life_of so_far keys)) []
      (all_after (whats_in from l c.rlc_bits a (Moves keys)) f)
  moves Nb a keys near far so_far f g h =
      let p : Pair = goes so_far (um_pair_outset near far) in
      let near' : State = restarted (stopped p.near.bearer) keys in
      let far' : State = restarted (stopped p.far.bearer) keys in
      let quiet : expiries l (told_of a.ue.end (Move keys)) ≡ [] =
      none_ends l (told_of a.ue.end (Move keys)) p.far.bearer
      ((the_end Ue l a.ue.end keys h.alone).told_is ∙ ap stopping h.stands.ue.bearer_is) in
      subst (λ (ws : List Happening). Follows l c Nb (lives_on a (Moves keys)) near' far' []
      (all_after ws (restarts f))) (sym quiet)
      (begins_anew Nb a keys near far so_far f g h
      (subst (λ (b : State). Begins c.pdcp_bits (restarted (stopped b) keys)) (near_end near far so_far)
      (begins_next c.pdcp_bits near (near_calls (um_pair_outset near far) so_far) h.begins
      h.stands.living.near_accepts keys)) refl
      (told_again Nb a near far so_far f near' far' h (near_next near far so_far keys h.near_begin)
      (far_next near far so_far keys h.far_begin)) tt)
  moves Ue a keys near far so_far f g h =
      let p : Pair = goes so_far (um_pair_outset near far) in
      let near' : State = restarted (stopped p.near.bearer) keys in
      let far' : State = restarted (stopped p.far.bearer) keys in
      let quiet : expiries l (told_of a.nb.end (Move keys)) ≡ [] =
      none_ends l (told_of a.nb.end (Move keys)) p.near.bearer
      ((the_end Nb l a.nb.end keys h.alone).told_is ∙ ap stopping h.stands.nb.bearer_is) in
      subst (λ (ws : List Happening). Follows l c Ue (lives_on a (Moves keys)) near' far' []
      (all_after ws (restarts f))) (sym quiet)
      (begins_anew Ue a keys near far so_far f g h
      (subst (λ (b : State). Begins c.pdcp_bits (restarted (stopped b) keys)) (far_end near far so_far)
      (begins_next c.pdcp_bits far (far_calls (um_pair_outset near far) so_far) h.begins
      h.stands.living.far_accepts keys)) refl
      (told_again Ue a near far so_far f far' near' h (far_next near far so_far keys h.far_begin)
      (near_next near far so_far keys h.near_begin)) tt)

  walk_short : (from : Side) (xs : List AirStep) (a : Air) (near far : State) (so_far : List PairStep) (f : Flow)
      → AreLivingAir l a xs → Follows l c from a near far so_far f
      → (all_after (whats from l c.rlc_bits xs a) f).gaps.long ≡ false
      → AreShort c (direction_from from) near far (walk l so_far xs a).lives (walk l so_far xs a).steps
  walk_short Nb [] a near far so_far f g h e = (
    h.short,
    few_now c.rlc_bits c.rx.reorder c.pdcp_bits u some near (near_calls (um_pair_outset near far) so_far) far
        (far_calls (um_pair_outset near far) so_far) _ _ h.loads f h.begins h.stands.living.near_accepts h.tracks e,
  )
  walk_short Ue [] a near far so_far f g h e = (
    h.short,
    few_now c.rlc_bits c.rx.reorder c.pdcp_bits u some far (far_calls (um_pair_outset near far) so_far) near
        (near_calls (um_pair_outset near far) so_far) _ _ h.loads f h.begins h.stands.living.far_accepts h.tracks e,
  )
  walk_short from (InLife s ∷ xs) a near far so_far f g h e =
      let ws = whats_in from l c.rlc_bits a (InLife s) in
      let more = whats from l c.rlc_bits xs (happens a s) in
      let then' : (all_after more (all_after ws f)).gaps.long ≡ false =
      ap (λ (x : Flow). x.gaps.long) (sym (after_then ws more f)) ∙ e in
      walk_short from xs (happens a s) near far (so_far ++ steps_in l a s) (all_after ws f) g.1
      (follow l c u some from a s near far so_far f g.0 h (still_short more (all_after ws f) then')) then'
  walk_short Nb (Moves keys ∷ xs) a near far so_far f g h e =
      let ws = whats_in Nb l c.rlc_bits a (Moves keys) in
      let more = whats Nb l c.rlc_bits xs (lives_on a (Moves keys)) in
      let then' : (all_after more (all_after ws f)).gaps.long ≡ false =
      ap (λ (x : Flow). x.gaps.long) (sym (after_then ws more f)) ∙ e in
      let now : (restarts f).gaps.long ≡ false =
      still_short (expiries l (told_of a.ue.end (Move keys))) (restarts f)
      (still_short more (all_after ws f) then') in (
        (
          h.short,
          few_to_end c.rlc_bits c.rx.reorder c.pdcp_bits u some near
              (near_calls (um_pair_outset near far) so_far) far
              (far_calls (um_pair_outset near far) so_far) _ _ h.loads f
              h.begins h.stands.living.near_accepts h.tracks now,
        ),
        walk_short Nb xs (lives_on a (Moves keys)) (next_near near far (life_of so_far keys))
            (next_far near far (life_of so_far keys)) [] (all_after ws f) g.1
            (moves Nb a keys near far so_far f g.0 h) then',
      )
  walk_short Ue (Moves keys ∷ xs) a near far so_far f g h e =
      let ws = whats_in Ue l c.rlc_bits a (Moves keys) in
      let more = whats Ue l c.rlc_bits xs (lives_on a (Moves keys)) in
      let then' : (all_after more (all_after ws f)).gaps.long ≡ false =
      ap (λ (x : Flow). x.gaps.long) (sym (after_then ws more f)) ∙ e in
      let now : (restarts f).gaps.long ≡ false =
      still_short (expiries l (told_of a.nb.end (Move keys))) (restarts f)
      (still_short more (all_after ws f) then') in (
        (
          h.short,
          few_to_end c.rlc_bits c.rx.reorder c.pdcp_bits u some far (far_calls (um_pair_outset near far) so_far)
              near (near_calls (um_pair_outset near far) so_far) _ _ h.loads f h.begins h.stands.living.far_accepts
              h.tracks now,
        ),
        walk_short Ue xs (lives_on a (Moves keys)) (next_near near far (life_of so_far keys))
            (next_far near far (life_of so_far keys)) [] (all_after ws f) g.1
            (moves Ue a keys near far so_far f g.0 h) then',
      )

-- ---- from the first life on

rlc_bits_are : (kind : Kind) (bits : ℕ) → kind ≡ kinds.Um → AreRlcBits kind bits → IsUmBits bits
rlc_bits_are kind bits k h = subst (λ (x : Kind). AreRlcBits x bits) k h

pdcp_bits_are : (kind : Kind) (bits : ℕ) → kind ≡ kinds.Um → ArePdcpBits kind bits → IsKind (UmKind bits)
pdcp_bits_are kind bits k h = subst (λ (x : Kind). ArePdcpBits x bits) k h

some_counts : (bits : ℕ) → IsKind (UmKind bits) → 0 < 2 ^ bits
some_counts bits (inl e) = subst (λ (n : ℕ). 0 < 2 ^ n) (sym e) (omega arith)
some_counts bits (inr e) = subst (λ (n : ℕ). 0 < 2 ^ n) (sym e) (omega arith)

first_is : (c : BearerConfig) (keys : Keys) (side : Side) → c.kind ≡ kinds.Um
    → flow_of c.kind c keys side ≡ Um (fresh c keys side)
first_is c keys side k = ap (λ (x : Kind). flow_of x c keys side) k

first_counts : (c : BearerConfig) (keys : Keys) (side : Side) → c.first ≤ 2 ^ 32
    → Begins c.pdcp_bits (fresh c keys side)
unfolding fresh begun start
first_counts c keys side most =
    let p = protection_of (UmKind c.pdcp_bits) keys (bearer_of c.channel.lcid) (sends side) in
    record {
      flow = um_pdcp_outset c.pdcp_bits p c.first;
      writes = outset_writes c.pdcp_bits p c.first most;
      sender_is = refl;
      stream_is = refl;
      of_data = (first_begins c keys side).of_data;
    }

module _ (l : ℕ) (c : BearerConfig) (keys : Keys) (nb ue : End) (h : UmEndsBeginAlike l c keys nb ue) where
  abbrev near : State
  near = fresh c keys Nb

  abbrev far : State
  far = fresh c keys Ue

  u : IsUmBits c.rlc_bits
  u = rlc_bits_are c.kind c.rlc_bits h.kind h.config.rlc_bits

  some : 0 < 2 ^ c.pdcp_bits
  some = some_counts c.pdcp_bits (pdcp_bits_are c.kind c.pdcp_bits h.kind h.config.pdcp_bits)

  stands : Stands l (outset nb ue) near far []
  stands = record {
    nb = begins_so Nb l nb near h.nb_begun.come h.nb_begun.there (h.nb_begun.bearer_is ∙ first_is c keys Nb h.kind);
    ue = begins_so Ue l ue far h.ue_begun.come h.ue_begun.there (h.ue_begun.bearer_is ∙ first_is c keys Ue h.kind);
    living = record { given = tt; near_accepts = tt; far_accepts = tt };
  }

  new_flow : (from : Side) → IsNewFlow c.rlc_bits (2 ^ c.pdcp_bits) (first_flow from l c)
  new_flow from = record {
    bits_are = refl;
    sending_is = refl;
    receiver_is = refl;
    width_is = refl;
    counts_are = refl;
    top_is = refl;
    next_is = refl;
  }

  first_follows : (from : Side) → Follows l c from (outset nb ue) near far [] (first_flow from l c)
  first_follows Nb = record {
    stands = stands;
    alone = stands_so Ue l c keys ue h.ue_begun;
    near_begin = first_begins c keys Nb;
    far_begin = first_begins c keys Ue;
    begins = first_counts c keys Nb (omega (arith, h.first));
    loads = [];
    blocks_are = refl;
    carry = tt;
    tracks = first_tracks c.pdcp_bits c.rlc_bits c.rx.reorder (2 ^ c.pdcp_bits) near far (first_flow Nb l c) u
        (first_begins c keys Nb) (first_begins c keys Ue) (new_flow Nb);
    short = tt;
  }
  first_follows Ue = record {
    stands = stands;
    alone = stands_so Nb l c keys nb h.nb_begun;
    near_begin = first_begins c keys Nb;
    far_begin = first_begins c keys Ue;
    begins = first_counts c keys Ue (omega (arith, h.first));
    loads = [];
    blocks_are = refl;
    carry = tt;
    tracks = first_tracks c.pdcp_bits c.rlc_bits c.rx.reorder (2 ^ c.pdcp_bits) far near (first_flow Ue l c) u
        (first_begins c keys Ue) (first_begins c keys Nb) (new_flow Ue);
    short = tt;
  }

pub losses_are_told : LossesAreTold
losses_are_told l c keys nb ue from steps h g told =
    walk_short l c (u l c keys nb ue h) (some l c keys nb ue h) from steps (outset nb ue) (fresh c keys Nb)
    (fresh c keys Ue) [] (first_flow from l c) g (first_follows l c keys nb ue h from) told

pub channels_deliver_as_told : ChannelsDeliverAsTold
channels_deliver_as_told l c keys nb ue from steps h g told =
    channels_deliver_in_order l c keys nb ue from steps h g (losses_are_told l c keys nb ue from steps h g told)
