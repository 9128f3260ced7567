-- Which blocks stay under way as others are let go.
use Rattle.std.proofs.Common.{◌≡◌, ℕ, suc, Bool, true, false, cond, Some, List, [], ◌∷◌, ◌++◌, map, refl, ap, ◌∙◌, inl}
use Rattle.std.proofs.Common.{inr}
use Rattle.std.specs.Prelude.{slice_get}
use Rattle.std.specs.List.{AllByRecursion, filter}
use Rattle.law_rlc.specs.AmPair.Flow.{except}
use Rattle.law_deliver.specs.AmFlow.Air.{Block}
use Rattle.law_run.specs.TwoEnds.On.{IsFlying}

-- ---- the places of the blocks that are let go, the last one first

abbrev pub places_of : Bool → List ℕ
places_of true = []
places_of false = 0 ∷ []

abbrev pub gone : (Block → Bool) → List Block → List ℕ
gone stays [] = []
gone stays (b ∷ bs) = map suc (gone stays bs) ++ places_of (stays b)

abbrev pub without : List ℕ → List Block → List Block
without [] bs = bs
without (k ∷ ks) bs = without ks (except k bs)

without_on : (ks js : List ℕ) (bs : List Block) → without (ks ++ js) bs ≡ without js (without ks bs)
without_on [] js bs = refl
without_on (k ∷ ks) js bs = without_on ks js (except k bs)

without_behind : (ks : List ℕ) (b : Block) (bs : List Block) → without (map suc ks) (b ∷ bs) ≡ b ∷ without ks bs
without_behind [] b bs = refl
without_behind (k ∷ ks) b bs = without_behind ks b (except k bs)

front_goes : (stays : Bool) (b : Block) (bs : List Block) → without (places_of stays) (b ∷ bs) ≡ cond stays (b ∷ bs) bs
front_goes true b bs = refl
front_goes false b bs = refl

pub without_gone : (stays : Block → Bool) (bs : List Block) → without (gone stays bs) bs ≡ filter stays bs
without_gone stays [] = refl
without_gone stays (b ∷ bs) =
    without_on (map suc (gone stays bs)) (places_of (stays b)) (b ∷ bs)
    ∙ ap (without (places_of (stays b))) (without_behind (gone stays bs) b bs
    ∙ ap (λ (xs : List Block). b ∷ xs) (without_gone stays bs))
    ∙ front_goes (stays b) b (filter stays bs)

-- ---- what holds of those that stay

all_if : (P : Block → Type 0) (c : Bool) (b : Block) (bs : List Block) → (c ≡ true → P b) → AllByRecursion P bs
    → AllByRecursion P (cond c (b ∷ bs) bs)
all_if P true b bs h g = (h refl, g)
all_if P false b bs h g = g

pub keep_all : (P Q : Block → Type 0) (stays : Block → Bool) → ((b : Block) → P b → stays b ≡ true → Q b)
    → (bs : List Block) → AllByRecursion P bs → AllByRecursion Q (filter stays bs)
keep_all P Q stays more [] h = tt
keep_all P Q stays more (b ∷ bs) h =
    all_if Q (stays b) b (filter stays bs) (more b h.0) (keep_all P Q stays more bs h.1)

flying_if : (c : Bool) (p : ℕ) (b : Block) (bs : List Block) → IsFlying p bs → IsFlying p (cond c (b ∷ bs) bs)
flying_if true p b bs h = inr h
flying_if false p b bs h = h

flying_first : (c : Bool) (p : ℕ) (b : Block) (bs : List Block) → c ≡ true → b.process ≡ p
    → IsFlying p (cond c (b ∷ bs) bs)
flying_first true p b bs e h = inl h
flying_first false p b bs e h = absurd cc

pub keep_flying : (p : ℕ) (stays : Block → Bool) → ((b : Block) → b.process ≡ p → stays b ≡ true) → (bs : List Block)
    → IsFlying p bs → IsFlying p (filter stays bs)
keep_flying p stays all [] h = h
keep_flying p stays all (b ∷ bs) (inl e) = flying_first (stays b) p b (filter stays bs) (all b e) e
keep_flying p stays all (b ∷ bs) (inr h) = flying_if (stays b) p b (filter stays bs) (keep_flying p stays all bs h)

-- ---- the place of a process's block

pub record Flies (process : ℕ) (bs : List Block) : Type 0 where
  pub place : ℕ
  pub block : Block
  pub there : slice_get bs place ≡ Some block
  pub process_is : block.process ≡ process

pub flies : (p : ℕ) (bs : List Block) → IsFlying p bs → Flies p bs
flies p [] h = absurd h
flies p (b ∷ bs) (inl e) = record { place = 0; block = b; there = refl; process_is = e }
flies p (b ∷ bs) (inr h) = let f = flies p bs h in
    record { place = suc f.place; block = f.block; there = f.there; process_is = f.process_is }
