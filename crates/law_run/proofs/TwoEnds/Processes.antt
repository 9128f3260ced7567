-- What the process of a TTI holds behind its visit, and that the others hold what they held.
use Rattle.std.proofs.Common.{◌≡◌, ◌≤◌, ℕ, ◌+◌, ◌-◌, ◌%◌, ◌==◌, Bool, true, false, if◌then◌else◌, Option, Some, None}
use Rattle.std.proofs.Common.{option_map, IfSome, List, length, get_or-set_same, get_or-set_other, refl, ap, sym, subst}
use Rattle.std.proofs.Common.{◌∙◌, arith}
use Rattle.std.specs.Prelude.{option_and_then}
use Rattle.std.proofs.lemmas.Bool.Decides.{nat_tests}
use Rattle.std.proofs.Math.ListN.{length-set}
use Rattle.harq.specs.declared.sender.Order.{Order}
use Rattle.harq.specs.declared.sender.Order.TheVariants.{Silent, Unseen, Free, Grant}
use Rattle.harq.specs.declared.sender.Visit.{Visit}
use Rattle.harq.specs.declared.sender.Visit.TheVariants.{New, Resend, Silent as Nothing}
use Rattle.harq.specs.Sending.{Sending, SendProcess, Block, block, empty, resent, waited, ended, same, seen, visited}
use Rattle.harq.specs.Sending.{resend_or, answered, loaded, fed, process_at, with_process, after_visit, visit_answer}
use Rattle.harq.specs.Sending.{after_load, after_feedback}
use Rattle.harq.specs.SendHistory.{Turn, turned}
use Rattle.law_run.specs.TwoEnds.On.{block_at}

-- ---- one process

-- it holds its block still, with a visit less, of which some are left
pub record IsNext (before : Option Block) (after : Block) : Type 0 where
  pub was : Block
  pub before_is : before ≡ Some was
  pub octets_are : after.octets ≡ was.octets
  pub left_is : after.left + 1 ≡ was.left
  pub some : 1 ≤ after.left

-- a new block, behind its first visit
pub record IsFirst (octets : List ℕ) (maximum : ℕ) (b : Block) : Type 0 where
  pub octets_are : b.octets ≡ octets
  pub left_is : b.left + 1 ≡ maximum
  pub some : 1 ≤ b.left

-- what is held behind a visit with this answer
abbrev pub held_after : Visit → ℕ → List ℕ → Bool → Option Block → Option Block
held_after New maximum octets good h = if good then None else ended (block octets (maximum - 1) 1)
held_after (Resend version) maximum octets good h = if good then None else option_and_then ended h
held_after Nothing maximum octets good h = h

first_if : (none : Bool) (octets : List ℕ) (maximum : ℕ) → (maximum - 1 == 0) ≡ none
    → IfSome (if none then None else Some (block octets (maximum - 1) 1)) (IsFirst octets maximum)
first_if true octets maximum e = tt
first_if false octets maximum e =
    record { octets_are = refl; left_is = grind (arith, nat_tests); some = grind (arith, nat_tests) }

first_held : (good : Bool) (octets : List ℕ) (maximum : ℕ) (h : Option Block)
    → IfSome (held_after New maximum octets good h) (IsFirst octets maximum)
first_held true octets maximum h = tt
first_held false octets maximum h = first_if (maximum - 1 == 0) octets maximum refl

next_if : (none : Bool) (before : Option Block) (was after : Block) → (after.left == 0) ≡ none → before ≡ Some was
    → after.octets ≡ was.octets → after.left ≡ was.left - 1
    → IfSome (if none then None else Some after) (IsNext before)
next_if true before was after e is o l = tt
next_if false before was after e is o l =
    record {
      was = was;
      before_is = is;
      octets_are = o;
      left_is = grind (arith, nat_tests);
      some = grind (arith, nat_tests);
    }

resent_next : (good : Bool) (before : Option Block) (b : Block) → before ≡ Some b
    → IfSome (if good then None else ended (resent b)) (IsNext before)
resent_next true before b is = tt
resent_next false before b is = next_if ((resent b).left == 0) before b (resent b) refl is refl refl

waited_next : (h : Option Block) → IfSome (option_and_then ended (option_map waited h)) (IsNext h)
waited_next None = tt
waited_next (Some b) = next_if ((waited b).left == 0) (Some b) b (waited b) refl refl refl refl

-- a visit that isn't for a new block
unseen_next : (h : Option Block) (maximum : ℕ) (octets : List ℕ) (good : Bool)
    → IfSome (held_after (resend_or Nothing h) maximum octets good (option_map resent h)) (IsNext h)
unseen_next None maximum octets good = tt
unseen_next (Some b) maximum octets good = resent_next good (Some b) b refl

sent_next : (h before : Option Block) (maximum : ℕ) (octets : List ℕ) (good : Bool) → (resend_or New h ≡ New → ⊥)
    → ((b : Block) → h ≡ Some b → before ≡ Some b)
    → IfSome (held_after (resend_or New h) maximum octets good (option_map resent h)) (IsNext before)
sent_next None before maximum octets good old same = absurd (old refl)
sent_next (Some b) before maximum octets good old same = resent_next good before b (same b refl)

seen_held : (b : Bool) (h : Option Block) (x : Block) → (if b then h else None) ≡ Some x → h ≡ Some x
seen_held true h x e = e
seen_held false h x e = cc

old_next : (order : Order) (p : SendProcess) (maximum : ℕ) (octets : List ℕ) (good : Bool)
    → (answered order p ≡ New → ⊥)
    → IfSome (held_after (answered order p) maximum octets good (visited order p).held) (IsNext p.held)
old_next Silent p maximum octets good old = waited_next p.held
old_next Unseen p maximum octets good old = unseen_next p.held maximum octets good
old_next Free p maximum octets good old = sent_next p.held p.held maximum octets good old (λ b e. e)
old_next (Grant ndi) p maximum octets good old =
    sent_next (seen ndi p).held p.held maximum octets good old (seen_held (same ndi p.ndi) p.held)

-- what is sent again is what it holds
pub record IsResent (version : ℕ) (p : SendProcess) (after : Option Block) : Type 0 where
  pub was : Block
  pub held_is : p.held ≡ Some was
  pub after_is : after ≡ Some (resent was)

unseen_resent : (h : Option Block) (version : ℕ) → resend_or Nothing h ≡ Resend version → (b : Block) × (h ≡ Some b)
unseen_resent None version e = cc
unseen_resent (Some b) version e = (b, refl)

sent_resent : (h : Option Block) (version : ℕ) → resend_or New h ≡ Resend version → (b : Block) × (h ≡ Some b)
sent_resent None version e = cc
sent_resent (Some b) version e = (b, refl)

pub resent_held : (order : Order) (p : SendProcess) (version : ℕ) → answered order p ≡ Resend version
    → IsResent version p (visited order p).held
resent_held Silent p version e = cc
resent_held Unseen p version e = let x = unseen_resent p.held version e in
    record { was = x.0; held_is = x.1; after_is = ap (option_map resent) x.1 }
resent_held Free p version e = let x = sent_resent p.held version e in
    record { was = x.0; held_is = x.1; after_is = ap (option_map resent) x.1 }
resent_held (Grant ndi) p version e =
    let x = sent_resent (seen ndi p).held version e in
    record { was = x.0; held_is = seen_held (same ndi p.ndi) p.held x.0 x.1; after_is = ap (option_map resent) x.1 }

-- ---- the eight processes

at_set : (s : Sending) (tti : ℕ) (x : SendProcess) → length s.processes ≡ 8 → process_at (with_process s tti x) tti ≡ x
at_set s tti x eight = get_or-set_same s.processes (tti % 8) x empty (omega (arith, eight))

at_other : (s : Sending) (tti : ℕ) (x : SendProcess) (p : ℕ) → (p ≡ tti % 8 → ⊥)
    → block_at (with_process s tti x) p ≡ block_at s p
at_other s tti x p apart = ap (λ (q : SendProcess). q.held) (get_or-set_other s.processes (tti % 8) p x empty apart)

pub visit_other : (s : Sending) (tti : ℕ) (order : Order) (p : ℕ) → (p ≡ tti % 8 → ⊥)
    → block_at (after_visit s tti order) p ≡ block_at s p
unfolding after_visit
visit_other s tti order p apart = at_other s tti (visited order (process_at s tti)) p apart

pub visit_at : (s : Sending) (tti : ℕ) (order : Order) → length s.processes ≡ 8
    → process_at (after_visit s tti order) tti ≡ visited order (process_at s tti)
unfolding after_visit
visit_at s tti order eight = at_set s tti (visited order (process_at s tti)) eight

visit_eight : (s : Sending) (tti : ℕ) (order : Order) → length s.processes ≡ 8
    → length (after_visit s tti order).processes ≡ 8
unfolding after_visit
visit_eight s tti order eight = length-set s.processes (tti % 8) _ ∙ eight

fed_at : (s : Sending) (tti : ℕ) (good : Bool) → length s.processes ≡ 8
    → block_at (after_feedback s tti good) (tti % 8) ≡ (fed good (process_at s tti)).held
unfolding after_feedback
fed_at s tti good eight = ap (λ (q : SendProcess). q.held) (at_set s tti (fed good (process_at s tti)) eight)

fed_other : (s : Sending) (tti : ℕ) (good : Bool) (p : ℕ) → (p ≡ tti % 8 → ⊥)
    → block_at (after_feedback s tti good) p ≡ block_at s p
unfolding after_feedback
fed_other s tti good p apart = at_other s tti (fed good (process_at s tti)) p apart

load_at : (s : Sending) (tti : ℕ) (octets : List ℕ) → length s.processes ≡ 8
    → process_at (after_load s tti octets) tti ≡ loaded s.maximum octets (process_at s tti)
unfolding after_load
load_at s tti octets eight = at_set s tti (loaded s.maximum octets (process_at s tti)) eight

load_other : (s : Sending) (tti : ℕ) (octets : List ℕ) (p : ℕ) → (p ≡ tti % 8 → ⊥)
    → block_at (after_load s tti octets) p ≡ block_at s p
unfolding after_load
load_other s tti octets p apart = at_other s tti (loaded s.maximum octets (process_at s tti)) p apart

load_eight : (s : Sending) (tti : ℕ) (octets : List ℕ) → length s.processes ≡ 8
    → length (after_load s tti octets).processes ≡ 8
unfolding after_load
load_eight s tti octets eight = length-set s.processes (tti % 8) _ ∙ eight

visit_most : (s : Sending) (tti : ℕ) (order : Order) → (after_visit s tti order).maximum ≡ s.maximum
unfolding after_visit
visit_most s tti order = refl

-- ---- a whole turn

pub record Turns (t : Turn) (s r : Sending) : Type 0 where
  pub maximum_is : r.maximum ≡ s.maximum
  pub others : (p : ℕ) → (p ≡ t.tti % 8 → ⊥) → block_at r p ≡ block_at s p
  pub new : visit_answer s t.tti t.order ≡ New → IfSome (block_at r (t.tti % 8)) (IsFirst t.octets s.maximum)
  pub old : (visit_answer s t.tti t.order ≡ New → ⊥) → IfSome (block_at r (t.tti % 8)) (IsNext (block_at s (t.tti % 8)))

-- by what the process of the TTI holds in the end
turns_by : (v : Visit) (t : Turn) (s r : Sending) → answered t.order (process_at s t.tti) ≡ v → r.maximum ≡ s.maximum
    → ((p : ℕ) → (p ≡ t.tti % 8 → ⊥) → block_at r p ≡ block_at s p)
    → block_at r (t.tti % 8) ≡ held_after v s.maximum t.octets t.good (visited t.order (process_at s t.tti)).held
    → Turns t s r
unfolding visit_answer
turns_by v t s r e most others is = record {
  maximum_is = most;
  others = others;
  new = λ n.
      let w : v ≡ New = sym e ∙ n in
      subst (λ (o : Option Block). IfSome o (IsFirst t.octets s.maximum))
      (sym
      (is ∙ ap (λ (u : Visit). held_after u s.maximum t.octets t.good (visited t.order (process_at s t.tti)).held)
      w))
      (first_held t.good t.octets s.maximum (visited t.order (process_at s t.tti)).held);
  old = λ o.
      subst (λ (h : Option Block). IfSome h (IsNext (block_at s (t.tti % 8))))
      (sym
      (is ∙ ap (λ (u : Visit). held_after u s.maximum t.octets t.good (visited t.order (process_at s t.tti)).held)
      (sym e)))
      (old_next t.order (process_at s t.tti) s.maximum t.octets t.good o);
}

fed_held : (good : Bool) (p q : SendProcess) → p ≡ q
    → (fed good p).held ≡ (if good then None else option_and_then ended q.held)
fed_held good p q e = ap (λ (x : SendProcess). (fed good x).held) e

turned_by : (v : Visit) (t : Turn) (s : Sending) → visit_answer s t.tti t.order ≡ v → length s.processes ≡ 8
    → Turns t s (turned t s)
unfolding visit_answer after_feedback after_load
turned_by New t s e eight =
    let a = after_visit s t.tti t.order in
    let b = after_load a t.tti t.octets in
    let a_eight = visit_eight s t.tti t.order eight in
    let is : turned t s ≡ after_feedback b t.tti t.good = rw e refl in
    subst (Turns t s) (sym is)
    (turns_by New t s (after_feedback b t.tti t.good) e (visit_most s t.tti t.order)
    (λ p apart. fed_other b t.tti t.good p apart ∙ load_other a t.tti t.octets p apart
    ∙ visit_other s t.tti t.order p apart)
    (fed_at b t.tti t.good (load_eight a t.tti t.octets a_eight)
    ∙ fed_held t.good _ _ (load_at a t.tti t.octets a_eight)
    ∙ ap (λ (m : ℕ). if t.good then None else ended (block t.octets (m - 1) 1)) (visit_most s t.tti t.order)))
turned_by (Resend version) t s e eight =
    let a = after_visit s t.tti t.order in
    let is : turned t s ≡ after_feedback a t.tti t.good = rw e refl in
    subst (Turns t s) (sym is)
    (turns_by (Resend version) t s (after_feedback a t.tti t.good) e (visit_most s t.tti t.order)
    (λ p apart. fed_other a t.tti t.good p apart ∙ visit_other s t.tti t.order p apart)
    (fed_at a t.tti t.good (visit_eight s t.tti t.order eight) ∙ fed_held t.good _ _ (visit_at s t.tti t.order eight)))
turned_by Nothing t s e eight =
    let a = after_visit s t.tti t.order in
    let is : turned t s ≡ a = rw e refl in
    subst (Turns t s) (sym is)
    (turns_by Nothing t s a e (visit_most s t.tti t.order) (visit_other s t.tti t.order)
    (ap (λ (q : SendProcess). q.held) (visit_at s t.tti t.order eight)))

pub turned_turns : (t : Turn) (s : Sending) → length s.processes ≡ 8 → Turns t s (turned t s)
turned_turns t s eight = turned_by (visit_answer s t.tti t.order) t s refl eight
