-- On the downlink a new block is built only where none is held.
use Rattle.std.proofs.Common.{◌≡◌, ◌<◌, ◌≤◌, ℕ, ◌%◌, ◌==◌, Bool, true, false, if◌then◌else◌, Option, Some, None, List}
use Rattle.std.proofs.Common.{[], ◌∷◌, ◌++◌, refl, ap, sym, subst, arith, ◌∙◌}
use Rattle.std.proofs.lemmas.Bool.Decides.{nat_tests}
use Rattle.std.specs.Prelude.{option_map}
use Rattle.harq.specs.declared.sender.Order.{Order}
use Rattle.harq.specs.declared.sender.Order.TheVariants.{Silent, Unseen, Free, Grant}
use Rattle.harq.specs.declared.sender.Visit.{Visit}
use Rattle.harq.specs.declared.sender.Visit.TheVariants.{New, Resend, Silent as Quiet}
use Rattle.harq.specs.Sending.{Sending, Block, fresh, process_at, resend_or, version_of, visit_answer, after_visit}
use Rattle.harq.specs.Sending.{after_load, after_feedback, held_of}
use Rattle.harq.specs.SendHistory.{Turn, Step, Visited, Cleared, Deed, World, closed, deed_by, deed, stepped}
use Rattle.harq.specs.SendHistory.{world_after}
use Rattle.harq.specs.SendHistory.{start, held_by, KeepsBlocks, is_down, are_down}
use Rattle.harq.proofs.SendLemmas.{keeps_blocks}
use Rattle.promises.specs.Carried.{AreBuilt}

-- ---- the most visits stay

closed_maximum : (v : Visit) (t : Turn) (s : Sending) → (closed v t s).maximum ≡ s.maximum
unfolding after_load after_feedback
closed_maximum New t s = refl
closed_maximum (Resend rv) t s = refl
closed_maximum Quiet t s = refl

stepped_maximum : (s : Step) (w : World) → (stepped w s).sender.maximum ≡ w.sender.maximum
unfolding after_visit fresh
stepped_maximum (Visited t) w =
    closed_maximum (visit_answer w.sender t.tti t.order) t (after_visit w.sender t.tti t.order)
stepped_maximum Cleared w = refl

pub run_maximum : (ss : List Step) (w : World) → (world_after ss w).sender.maximum ≡ w.sender.maximum
run_maximum [] w = refl
run_maximum (s ∷ ss) w = run_maximum ss (stepped w s) ∙ stepped_maximum s w

-- ---- a visit

new_or : (held : Option Block) → resend_or New held ≡ New → held ≡ None
new_or None e = refl
new_or (Some b) e = let other : Resend (version_of b.sent) ≡ New = e in cc

none_held : (t : ℕ) (order : Order) (s : Sending) → is_down order ≡ true → visit_answer s t order ≡ New
    → held_of s (t % 8) ≡ None
unfolding visit_answer held_of
none_held t Silent s d e = cc
none_held t Unseen s d e = cc
none_held t Free s d e = ap (λ (x : Option Block). option_map (λ b. b.octets) x) (new_or (process_at s t).held e)
none_held t (Grant ndi) s d e = cc

built_by : (v : Visit) (t : Turn) (held : Option (List ℕ)) (maximum : ℕ) (past : List Deed)
    → (v ≡ New → held_by maximum past ≡ None) → AreBuilt maximum past → AreBuilt maximum (deed_by v t held ∷ past)
built_by New t held maximum past none b = (none refl, b)
built_by (Resend rv) t held maximum past none b = b
built_by Quiet t held maximum past none b = b

visited_built : (own : Bool) (p : ℕ) (t : Turn) (maximum : ℕ) (w : World) → (own ≡ true → p ≡ t.tti % 8) → p < 8
    → w.sender.maximum ≡ maximum → is_down t.order ≡ true → KeepsBlocks w
    → AreBuilt maximum (w.past p) → AreBuilt maximum (if own then deed t w.sender ∷ w.past p else w.past p)
visited_built true p t maximum w here lt same d keeps b =
    built_by (visit_answer w.sender t.tti t.order) t (held_of (after_visit w.sender t.tti t.order) (t.tti % 8))
    maximum (w.past p)
    (λ e.
    let none : held_of w.sender p ≡ None = ap (λ (q : ℕ). held_of w.sender q) (here refl)
    ∙ none_held t.tti t.order w.sender d e in
    ap (λ (n : ℕ). held_by n (w.past p)) (sym same) ∙ sym (keeps.holds p lt) ∙ none) b
visited_built false p t maximum w here lt same d keeps b = b

-- ---- all steps

abbrev AllBuilt : ℕ → World → Type 0
AllBuilt maximum w = (p : ℕ) → p < 8 → AreBuilt maximum (w.past p)

pub down_first : (b : Bool) (xs : List Step) → (if b then are_down xs else false) ≡ true → b ≡ true
down_first true xs e = refl
down_first false xs e = e

pub down_rest : (b : Bool) (xs : List Step) → (if b then are_down xs else false) ≡ true → are_down xs ≡ true
down_rest true xs e = e
down_rest false xs e = cc

pub is_here : (p q : ℕ) → (p == q) ≡ true → p ≡ q
is_here p q e = grind (arith, nat_tests)

run_more : (xs : List Step) (s : Step) (w : World) → world_after (xs ++ s ∷ []) w ≡ stepped (world_after xs w) s
run_more [] s w = refl
run_more (x ∷ xs) s w = run_more xs s (stepped w x)

step_built : (maximum : ℕ) (done : List Step) (s : Step) → 1 ≤ maximum → are_down (s ∷ []) ≡ true
    → AllBuilt maximum (world_after done (start maximum))
    → AllBuilt maximum (stepped (world_after done (start maximum)) s)
unfolding fresh
step_built maximum done (Visited t) some d b p lt =
    let w = world_after done (start maximum) in
    visited_built (p == t.tti % 8) p t maximum w (is_here p (t.tti % 8)) lt (run_maximum done (start maximum))
    (down_first (is_down t.order) [] d) (keeps_blocks maximum done some) (b p lt)
step_built maximum done Cleared some d b p lt = tt

alone : (s : Step) (ss : List Step) → are_down (s ∷ ss) ≡ true → are_down (s ∷ []) ≡ true
alone (Visited t) ss e = rw (down_first (is_down t.order) ss e) refl
alone Cleared ss e = refl

behind : (s : Step) (ss : List Step) → are_down (s ∷ ss) ≡ true → are_down ss ≡ true
behind (Visited t) ss e = down_rest (is_down t.order) ss e
behind Cleared ss e = e

all_built : (maximum : ℕ) (done ss : List Step) → 1 ≤ maximum → are_down ss ≡ true
    → AllBuilt maximum (world_after done (start maximum))
    → AllBuilt maximum (world_after ss (world_after done (start maximum)))
all_built maximum done [] some d b p lt = b p lt
all_built maximum done (s ∷ ss) some d b p lt =
    let next = run_more done s (start maximum) in
    let now : AllBuilt maximum (world_after (done ++ s ∷ []) (start maximum)) =
    subst (λ (w : World). AllBuilt maximum w) (sym next) (step_built maximum done s some (alone s ss d) b) in
    subst (λ (w : World). AreBuilt maximum ((world_after ss w).past p)) next
    (all_built maximum (done ++ s ∷ []) ss some (behind s ss d) now p lt)

pub builds_where_none_is_held : (maximum : ℕ) (ss : List Step) → 1 ≤ maximum → are_down ss ≡ true → (p : ℕ) → p < 8
    → AreBuilt maximum ((world_after ss (start maximum)).past p)
builds_where_none_is_held maximum ss some d p lt = all_built maximum [] ss some d (λ q within. tt) p lt
