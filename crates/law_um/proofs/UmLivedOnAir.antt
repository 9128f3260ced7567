-- The histories of a channel, in the steps of two ends with their blocks under way.
use Rattle.std.proofs.Common.{◌≡◌, ℕ, List, [], ◌∷◌, ◌++◌, ap, subst, ◌∙◌}
use Rattle.bearer.specs.Bearer.{flow_of}
use Rattle.bearer.specs.Unacknowledged.State.{State, fresh}
use Rattle.bearer.specs.declared.flow.Flow.TheVariants.{Um}
use Rattle.bearer_types.specs.Configs.{AreRlcBits}
use Rattle.l2_types.specs.declared.Kind.{Kind}
use Rattle.l2_types.specs.declared.side.Side.TheVariants.{Nb, Ue}
use Rattle.law_node.specs.Holding.{flow}
use Rattle.rlc_pdu.specs.Pdus.{IsUmBits}
use Rattle.law_deliver.specs.AmChannel.Lives.{AirStep, InLife, Moves, lives_on, lives, AreLiving as AreLivingAir}
use Rattle.law_deliver.specs.AmFlow.Air.{Air, outset, happens}
use Rattle.law_deliver.specs.UmChannel.Pairs.{steps_in, walk}
use Rattle.law_deliver.specs.UmDelivery.Lives.{Life, AreLiving, next_near, next_far}
use Rattle.law_deliver.specs.UmFlow.Pair.{Pair, Step, goes, um_pair_outset}
use Rattle.law_deliver.proofs.UmChannel.Walk.{Stands, grows, begins_so, moves_so, walks_on}
use Rattle.law_deliver.proofs.UmFlow.Lives.{first_life_begins}
use Rattle.law_um.specs.UmLived.{last_pair, AreGivenThrough, UmChannelsAreLived}
use Rattle.law_um.proofs.UmLivedLaws.{pdus_come_in_time}

-- ---- the bearers of both ends are those of the pair

record AreTheirs (l : ℕ) (a : Air) (p : Pair) : Type 0 where
  nb_is : flow l a.nb.end ≡ Um p.near.bearer
  ue_is : flow l a.ue.end ≡ Um p.far.bearer

are_theirs : (l : ℕ) (xs : List AirStep) (a : Air) (near far : State) (so_far : List Step) → AreLivingAir l a xs
    → Stands l a near far so_far
    → AreTheirs l (lives xs a) (last_pair near far (walk l so_far xs a).lives (walk l so_far xs a).steps)
are_theirs l [] a near far so_far g h = record { nb_is = h.nb.bearer_is; ue_is = h.ue.bearer_is }
are_theirs l (InLife s ∷ xs) a near far so_far g h =
    are_theirs l xs (happens a s) near far (so_far ++ steps_in l a s) g.1
    (grows l a near far so_far h s g.0).stands
are_theirs l (Moves keys ∷ xs) a near far so_far g h =
    let life : Life = record { steps = so_far; keys = keys } in
    are_theirs l xs (lives_on a (Moves keys)) (next_near near far life) (next_far near far life) [] g.1
    (record {
      nb = moves_so Nb l a.nb (goes so_far (um_pair_outset near far)).near keys h.nb;
      ue = moves_so Ue l a.ue (goes so_far (um_pair_outset near far)).far keys h.ue;
      living = record { given = tt; near_accepts = tt; far_accepts = tt };
    })

are_given : (near far : State) (ls : List Life) (steps : List Step) → AreLiving near far ls steps
    → AreGivenThrough near far ls steps
are_given near far [] steps h = h.given
are_given near far (l ∷ ls) steps h =
    (h.0.given, are_given (next_near near far l) (next_far near far l) ls steps h.1)

pub um_channels_are_lived : UmChannelsAreLived
um_channels_are_lived l many c keys nb ue steps h g =
    let near : State = fresh c keys Nb in
    let far : State = fresh c keys Ue in
    let a = outset nb ue in
    let w = walk l [] steps a in
    let stands : Stands l a near far [] = record {
      nb = begins_so Nb l nb near h.nb_begun.come h.nb_begun.there
          (h.nb_begun.bearer_is ∙ ap (λ (k : Kind). flow_of k c keys Nb) h.kind);
      ue = begins_so Ue l ue far h.ue_begun.come h.ue_begun.there
          (h.ue_begun.bearer_is ∙ ap (λ (k : Kind). flow_of k c keys Ue) h.kind);
      living = record { given = tt; near_accepts = tt; far_accepts = tt };
    } in
    let bits : IsUmBits c.rlc_bits =
    subst (λ (k : Kind). AreRlcBits k c.rlc_bits) h.kind h.config.rlc_bits in
    let theirs = are_theirs l steps a near far [] g stands in
    let through = pdus_come_in_time c.rlc_bits c.rx.reorder c.rx.reorder many near far w.lives w.steps bits
    (first_life_begins c keys Nb).begins (first_life_begins c keys Ue).begins
    (are_given near far w.lives w.steps (walks_on l steps a near far [] g stands).living) in
    record { nb_is = theirs.nb_is; ue_is = theirs.ue_is; lived = through.lived }
