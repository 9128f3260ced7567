-- Steps one after the other, of any kind; and those of one of two ends, of either.
use Rattle.std.proofs.Common.{◌≡◌, List, [], ◌∷◌, ◌++◌, map, refl, ap, sym, subst, ◌∙◌}
use Rattle.l2_types.specs.declared.side.Side.{Side}
use Rattle.l2_types.specs.declared.side.Side.TheVariants.{Nb, Ue}
use Rattle.bearer_types.specs.Sides.{other}
use Rattle.law_deliver.specs.Steps.{Ends, end_at, with_end, walked, AllGiven}

module _ {W S : Type 0} (happens : W → S → W) where
  pub walked_more : (w : W) (ss ts : List S) → walked happens (ss ++ ts) w ≡ walked happens ts (walked happens ss w)
  walked_more w [] ts = refl
  walked_more w (s ∷ ss) ts = walked_more (happens w s) ss ts

  pub more_given : (IsGiven : W → S → Type 0) (w : W) (ss ts : List S) → AllGiven happens IsGiven w ss
      → AllGiven happens IsGiven (walked happens ss w) ts → AllGiven happens IsGiven w (ss ++ ts)
  more_given IsGiven w [] ts g h = h
  more_given IsGiven w (s ∷ ss) ts g h = (g.0, more_given IsGiven (happens w s) ss ts g.1 h)

-- the steps that deeds are at an end
abbrev pub steps_of : {D S : Type 0} → (D → S) → (D → S) → Side → List D → List S
steps_of near far Nb ds = map near ds
steps_of near far Ue ds = map far ds

module _ {E D S : Type 0} (happens : Ends E → S → Ends E) (does : E → E → D → E) (near far : D → S)
    (near_is : (p : Ends E) (d : D) → happens p (near d) ≡ record p { near = does p.far p.near d })
    (far_is : (p : Ends E) (d : D) → happens p (far d) ≡ record p { far = does p.near p.far d }) where
  pub walked_at : (s : Side) (p : Ends E) (ds : List D) → walked happens (steps_of near far s ds) p
      ≡ with_end s p (walked (does (end_at (other s) p)) ds (end_at s p))
  walked_at Nb p [] = refl
  walked_at Ue p [] = refl
  walked_at Nb p (d ∷ ds) =
      ap (walked happens (map near ds)) (near_is p d) ∙ walked_at Nb (record p { near = does p.far p.near d }) ds
  walked_at Ue p (d ∷ ds) =
      ap (walked happens (map far ds)) (far_is p d) ∙ walked_at Ue (record p { far = does p.near p.far d }) ds

  module _ (IsDone : E → D → Type 0) (IsGiven : Ends E → S → Type 0)
      (near_given : (p : Ends E) (d : D) → IsDone p.near d → IsGiven p (near d))
      (far_given : (p : Ends E) (d : D) → IsDone p.far d → IsGiven p (far d)) where
    pub all_given_at : (s : Side) (p : Ends E) (ds : List D)
        → AllGiven (does (end_at (other s) p)) IsDone (end_at s p) ds
        → AllGiven happens IsGiven p (steps_of near far s ds)
    all_given_at Nb p [] g = tt
    all_given_at Ue p [] g = tt
    all_given_at Nb p (d ∷ ds) g = (
      near_given p d g.0,
      subst (λ q. AllGiven happens IsGiven q (map near ds)) (sym (near_is p d))
          (all_given_at Nb (record p { near = does p.far p.near d }) ds g.1),
    )
    all_given_at Ue p (d ∷ ds) g = (
      far_given p d g.0,
      subst (λ q. AllGiven happens IsGiven q (map far ds)) (sym (far_is p d))
          (all_given_at Ue (record p { far = does p.near p.far d }) ds g.1),
    )
