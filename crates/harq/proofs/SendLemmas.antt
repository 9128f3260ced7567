-- A sender's processes over any list of visits.
use Rattle.std.proofs.Common.{◌≡◌, ◌<◌, ◌≤◌, ℕ, zero, suc, ◌+◌, ◌-◌, ◌%◌, Bool, true, false, not, ◌||◌, ◌==◌}
use Rattle.std.proofs.Common.{if◌then◌else◌, nat_le, Option, Some, None, option_map, List, [], ◌∷◌, length, get_or}
use Rattle.std.proofs.Common.{replicate, get_or-set_same, get_or-set_other, refl, ap, sym, subst, ◌∙◌, arith, inl, inr}
use Rattle.std.proofs.lemmas.Bool.{cases_eq}
use Rattle.std.proofs.lemmas.Bool.Decides.{nat_tests}
use Rattle.std.proofs.Math.ListN.{length-set}
use Rattle.harq.specs.declared.sender.Order.{Order}
use Rattle.harq.specs.declared.sender.Order.TheVariants.{Silent, Unseen, Free, Grant}
use Rattle.harq.specs.declared.sender.Visit.{Visit}
use Rattle.harq.specs.declared.sender.Visit.TheVariants.{New, Resend, Silent as Nothing}
use Rattle.harq.specs.Sending.{Sending, SendProcess, send_process, Block, block, empty, version_of, resent, waited}
use Rattle.harq.specs.Sending.{ended, same, waited_for, sent_again, spent, toggled, visited, resend_or, answered}
use Rattle.harq.specs.Sending.{loaded, fed, with_process, fresh, after_visit, visit_answer, after_load, after_feedback}
use Rattle.harq.specs.Sending.{held_of, ndi_of}
use Rattle.harq.specs.SendHistory.{Turn, Step, Visited, Cleared, Deed, Waited, Built, Resent, World, closed, turned}
use Rattle.harq.specs.SendHistory.{deed_by, deed, stepped, world_after, start, last_block, sendings, visits, is_acked}
use Rattle.harq.specs.SendHistory.{blocks}
use Rattle.harq.specs.SendHistory.{held_by, IsRight, KeepsBlocks, is_odd, is_down, are_down, CountsBlocks}

-- ---- one process

-- a block is held as its process's past tells
pub record IsHeld (maximum : ℕ) (past : List Deed) (b : Block) : Type 0 where
  pub octets_is : last_block past ≡ Some b.octets
  pub is_unacked : is_acked past ≡ false
  pub left_is : b.left + visits past ≡ maximum
  pub has_more : 0 < b.left
  pub sent_is : b.sent ≡ sendings past % 4

abbrev pub FitsHeld : ℕ → List Deed → Option Block → Type 0
FitsHeld maximum past None = held_by maximum past ≡ None
FitsHeld maximum past (Some b) = IsHeld maximum past b

pub record Fits (maximum : ℕ) (past : List Deed) (p : SendProcess) : Type 0 where
  pub held : FitsHeld maximum past p.held
  pub is_right : IsRight maximum past

-- what follows a visit, at its process
abbrev closed_one : Visit → ℕ → Turn → SendProcess → SendProcess
closed_one New maximum t p = fed t.good (loaded maximum t.octets p)
closed_one (Resend version) maximum t p = fed t.good p
closed_one Nothing maximum t p = p

abbrev octets_of : Option Block → Option (List ℕ)
octets_of held = option_map (λ b. b.octets) held

-- a block ends after its last visit
ended_fits : (maximum : ℕ) (past : List Deed) (b : Block) → last_block past ≡ Some b.octets → is_acked past ≡ false
    → b.left + visits past ≡ maximum → b.sent ≡ sendings past % 4 → FitsHeld maximum past (ended b)
ended_fits maximum past b o a l s = elim (cases_eq b.left 0) [
  | inl none ↦ let test : (b.left == 0) ≡ true = grind (arith, nat_tests) in rw test (grind (arith, nat_tests))
  | inr some ↦ let test : (b.left == 0) ≡ false = grind (arith, nat_tests) in
      rw test (record { octets_is = o; is_unacked = a; left_is = l; has_more = omega arith; sent_is = s })
]

built_fits : (maximum : ℕ) (past : List Deed) (octets : List ℕ) (good : Bool) (p : SendProcess) → IsRight maximum past
    → 1 ≤ maximum → Fits maximum (Built octets good ∷ past) (fed good (loaded maximum octets p))
built_fits maximum past octets true p right some = record { held = refl; is_right = right }
built_fits maximum past octets false p right some = record {
  held = ended_fits maximum (Built octets false ∷ past) (block octets (maximum - 1) 1) refl refl (omega arith) refl;
  is_right = right;
}

resent_fits : (maximum : ℕ) (past : List Deed) (b : Block) (ndi good : Bool) → IsHeld maximum past b
    → IsRight maximum past
    → Fits maximum (Resent (version_of b.sent) b.octets good ∷ past) (fed good (sent_again (send_process (Some b) ndi)))
resent_fits maximum past b ndi good h right = record {
  held = left good;
  is_right = (
    record {
      version_is = ap version_of h.sent_is;
      same_octets = h.octets_is;
      has_visit = omega (arith, h.left_is, h.has_more);
      is_unacked = h.is_unacked;
    },
    right,
  );
}
  where
    left : (good : Bool)
        → FitsHeld maximum (Resent (version_of b.sent) b.octets good ∷ past)
        (fed good (sent_again (send_process (Some b) ndi))).held
    left true = refl
    left false = ended_fits maximum (Resent (version_of b.sent) b.octets false ∷ past) (resent b) h.octets_is
        h.is_unacked (omega (arith, h.left_is, h.has_more)) (omega (arith, h.sent_is))

none_waits : (maximum : ℕ) (past : List Deed) → held_by maximum past ≡ None → held_by maximum (Waited ∷ past) ≡ None
none_waits maximum past e = grind (arith, nat_tests)

waited_fits : (maximum : ℕ) (past : List Deed) (held : Option Block) (ndi : Bool) → FitsHeld maximum past held
    → IsRight maximum past → Fits maximum (Waited ∷ past) (spent (waited_for (send_process held ndi)))
waited_fits maximum past None ndi h right = record { held = none_waits maximum past h; is_right = right }
waited_fits maximum past (Some b) ndi h right = record {
  held = ended_fits maximum (Waited ∷ past) (waited b) h.octets_is h.is_unacked (omega (arith, h.left_is, h.has_more))
      h.sent_is;
  is_right = right;
}

-- a visit that sends the block again that is held, or else does what is to be done
sending_fits : (maximum : ℕ) (past : List Deed) (held : Option Block) (ndi : Bool) (t : Turn) → 1 ≤ maximum
    → FitsHeld maximum past held → IsRight maximum past
    → Fits maximum (deed_by (resend_or New held) t (octets_of (option_map resent held)) ∷ past)
    (closed_one (resend_or New held) maximum t (sent_again (send_process held ndi)))
sending_fits maximum past None ndi t some h right =
    built_fits maximum past t.octets t.good (sent_again (send_process None ndi)) right some
sending_fits maximum past (Some b) ndi t some h right = resent_fits maximum past b ndi t.good h right

unseen_fits : (maximum : ℕ) (past : List Deed) (held : Option Block) (ndi : Bool) (t : Turn)
    → FitsHeld maximum past held → IsRight maximum past
    → Fits maximum (deed_by (resend_or Nothing held) t (octets_of (option_map resent held)) ∷ past)
    (closed_one (resend_or Nothing held) maximum t (sent_again (send_process held ndi)))
unseen_fits maximum past None ndi t h right = record { held = none_waits maximum past h; is_right = right }
unseen_fits maximum past (Some b) ndi t h right = resent_fits maximum past b ndi t.good h right

grant_fits : (b : Bool) (maximum : ℕ) (past : List Deed) (held : Option Block) (ndi : Bool) (t : Turn) → 1 ≤ maximum
    → FitsHeld maximum past held → IsRight maximum past
    → Fits maximum (deed_by (resend_or New (if b then held else None)) t
    (octets_of (option_map resent (if b then held else None))) ∷ past)
    (closed_one (resend_or New (if b then held else None)) maximum t
    (sent_again (send_process (if b then held else None) ndi)))
grant_fits true maximum past held ndi t some h right = sending_fits maximum past held ndi t some h right
grant_fits false maximum past held ndi t some h right =
    built_fits maximum past t.octets t.good (sent_again (send_process None ndi)) right some

-- a whole visit of a process
turn_fits : (order : Order) (maximum : ℕ) (past : List Deed) (p : SendProcess) (t : Turn) → 1 ≤ maximum
    → Fits maximum past p
    → Fits maximum (deed_by (answered order p) t (octets_of (visited order p).held) ∷ past)
    (closed_one (answered order p) maximum t (visited order p))
turn_fits Silent maximum past p t some f = waited_fits maximum past p.held p.ndi f.held f.is_right
turn_fits Unseen maximum past p t some f = unseen_fits maximum past p.held p.ndi t f.held f.is_right
turn_fits Free maximum past p t some f = sending_fits maximum past p.held (toggled p).ndi t some f.held f.is_right
turn_fits (Grant ndi) maximum past p t some f =
    grant_fits (same ndi p.ndi) maximum past p.held ndi t some f.held f.is_right

-- ---- the eight processes

abbrev one : Sending → ℕ → SendProcess
one s p = get_or s.processes p empty

-- a step that puts a process in the place of a TTI's
record Puts (tti : ℕ) (x : SendProcess) (s s' : Sending) : Type 0 where
  maximum_is : s'.maximum ≡ s.maximum
  length_is : length s'.processes ≡ length s.processes
  at : one s' (tti % 8) ≡ x
  others : (p : ℕ) → (p ≡ tti % 8 → ⊥) → one s' p ≡ one s p

puts : (s : Sending) (tti : ℕ) (x : SendProcess) → length s.processes ≡ 8 → Puts tti x s (with_process s tti x)
puts s tti x l = record {
  maximum_is = refl;
  length_is = length-set s.processes (tti % 8) x;
  at = get_or-set_same s.processes (tti % 8) x empty (omega arith);
  others = λ p ne. get_or-set_other s.processes (tti % 8) p x empty ne;
}

puts_again : (s s' s'' : Sending) (tti : ℕ) (x y : SendProcess) → Puts tti x s s' → Puts tti y s' s'' → Puts tti y s s''
puts_again s s' s'' tti x y a b = record {
  maximum_is = b.maximum_is ∙ a.maximum_is;
  length_is = b.length_is ∙ a.length_is;
  at = b.at;
  others = λ p ne. b.others p ne ∙ a.others p ne;
}

fed_puts : (s : Sending) (tti : ℕ) (good : Bool) → length s.processes ≡ 8
    → Puts tti (fed good (one s (tti % 8))) s (after_feedback s tti good)
unfolding after_feedback
fed_puts s tti good l = puts s tti (fed good (one s (tti % 8))) l

loaded_puts : (s : Sending) (tti : ℕ) (octets : List ℕ) → length s.processes ≡ 8
    → Puts tti (loaded s.maximum octets (one s (tti % 8))) s (after_load s tti octets)
unfolding after_load
loaded_puts s tti octets l = puts s tti (loaded s.maximum octets (one s (tti % 8))) l

visited_puts : (s : Sending) (tti : ℕ) (order : Order) → length s.processes ≡ 8
    → Puts tti (visited order (one s (tti % 8))) s (after_visit s tti order)
unfolding after_visit
visited_puts s tti order l = puts s tti (visited order (one s (tti % 8))) l

closed_puts : (v : Visit) (t : Turn) (s : Sending) (x : SendProcess) → one s (t.tti % 8) ≡ x → length s.processes ≡ 8
    → Puts t.tti (closed_one v s.maximum t x) s (closed v t s)
closed_puts New t s x e l =
    let a = loaded_puts s t.tti t.octets l in
    let b = fed_puts (after_load s t.tti t.octets) t.tti t.good (a.length_is ∙ l) in
    subst (λ y. Puts t.tti (fed t.good (loaded s.maximum t.octets y)) s (closed New t s)) e
    (puts_again s (after_load s t.tti t.octets) (closed New t s) t.tti (loaded s.maximum t.octets (one s (t.tti % 8)))
    (fed t.good (loaded s.maximum t.octets (one s (t.tti % 8)))) a
    (subst (λ y. Puts t.tti (fed t.good y) (after_load s t.tti t.octets) (closed New t s)) a.at b))
closed_puts (Resend version) t s x e l =
    subst (λ y. Puts t.tti (fed t.good y) s (closed (Resend version) t s)) e (fed_puts s t.tti t.good l)
closed_puts Nothing t s x e l = record { maximum_is = refl; length_is = refl; at = e; others = λ p ne. refl }

-- a whole visit at the sender
turned_puts : (t : Turn) (s : Sending) → length s.processes ≡ 8
    → Puts t.tti (closed_one (answered t.order (one s (t.tti % 8))) s.maximum t (visited t.order (one s (t.tti % 8))))
    s (turned t s)
unfolding visit_answer
turned_puts t s l =
    let a = visited_puts s t.tti t.order l in
    let v = answered t.order (one s (t.tti % 8)) in
    let b = closed_puts v t (after_visit s t.tti t.order) (visited t.order (one s (t.tti % 8))) a.at (a.length_is ∙ l)
    in
    puts_again s (after_visit s t.tti t.order) (turned t s) t.tti (visited t.order (one s (t.tti % 8)))
    (closed_one v s.maximum t (visited t.order (one s (t.tti % 8)))) a
    (subst (λ m. Puts t.tti (closed_one v m t (visited t.order (one s (t.tti % 8)))) (after_visit s t.tti t.order)
    (turned t s)) a.maximum_is b)

deed_is : (t : Turn) (s : Sending) → length s.processes ≡ 8
    → deed t s ≡ deed_by (answered t.order (one s (t.tti % 8))) t
    (octets_of (visited t.order (one s (t.tti % 8))).held)
unfolding visit_answer held_of
deed_is t s l =
    ap (λ (p : SendProcess). deed_by (answered t.order (one s (t.tti % 8))) t (octets_of p.held))
    (visited_puts s t.tti t.order l).at

-- ---- over any list of steps

record Keeps (maximum : ℕ) (w : World) : Type 0 where
  maximum_is : w.sender.maximum ≡ maximum
  length_is : length w.sender.processes ≡ 8
  fits : (p : ℕ) → p < 8 → Fits maximum (w.past p) (one w.sender p)

empty_at : (n p : ℕ) → get_or (replicate n empty) p empty ≡ empty
empty_at zero p = refl
empty_at (suc n) zero = refl
empty_at (suc n) (suc p) = empty_at n p

nothing_held : (b : Bool) → (if b then last_block [] else last_block []) ≡ None
nothing_held true = refl
nothing_held false = refl

fresh_keeps : (maximum : ℕ) → Keeps maximum (start maximum)
unfolding fresh
fresh_keeps maximum = record {
  maximum_is = refl;
  length_is = refl;
  fits = λ p lt. subst (λ x. Fits maximum [] x) (sym (empty_at 8 p))
      (record { held = nothing_held (nat_le maximum 0); is_right = tt });
}

-- the process that is visited, and another one
fits_there : (maximum : ℕ) (w : World) (t : Turn) → 1 ≤ maximum → Keeps maximum w
    → Fits maximum (deed t w.sender ∷ w.past (t.tti % 8)) (one (turned t w.sender) (t.tti % 8))
fits_there maximum w t some k =
    let at = t.tti % 8 in
    let x = visited t.order (one w.sender at) in
    let v = answered t.order (one w.sender at) in
    let f = turn_fits t.order maximum (w.past at) (one w.sender at) t some (k.fits at (omega arith)) in
    let puts_it = turned_puts t w.sender k.length_is in
    subst (λ y. Fits maximum (deed t w.sender ∷ w.past at) y) (sym puts_it.at)
    (subst (λ (d : Deed). Fits maximum (d ∷ w.past at) (closed_one v w.sender.maximum t x))
    (sym (deed_is t w.sender k.length_is))
    (subst (λ (m : ℕ). Fits maximum (deed_by v t (octets_of x.held) ∷ w.past at) (closed_one v m t x))
    (sym k.maximum_is) f))

step_keeps : (maximum : ℕ) (w : World) (s : Step) → 1 ≤ maximum → Keeps maximum w → Keeps maximum (stepped w s)
step_keeps maximum w Cleared some k = subst (λ m. Keeps maximum (start m)) (sym k.maximum_is) (fresh_keeps maximum)
step_keeps maximum w (Visited t) some k =
    let puts_it = turned_puts t w.sender k.length_is in
    record {
      maximum_is = puts_it.maximum_is ∙ k.maximum_is;
      length_is = puts_it.length_is ∙ k.length_is;
      fits = λ p lt. elim (cases_eq p (t.tti % 8)) [
        | inl same ↦
            let test : (p == t.tti % 8) ≡ true = grind (arith, nat_tests) in
            rw test (subst (λ q. Fits maximum (deed t w.sender ∷ w.past q) (one (turned t w.sender) q)) (sym same)
            (fits_there maximum w t some k))
        | inr other ↦
            let test : (p == t.tti % 8) ≡ false = grind (arith, nat_tests) in
            rw test (subst (λ x. Fits maximum (w.past p) x) (sym (puts_it.others p other)) (k.fits p lt))
      ];
    }

run_keeps : (maximum : ℕ) (w : World) (ss : List Step) → 1 ≤ maximum → Keeps maximum w
    → Keeps maximum (world_after ss w)
run_keeps maximum w [] some k = k
run_keeps maximum w (s ∷ ss) some k = run_keeps maximum (stepped w s) ss some (step_keeps maximum w s some k)

held_fits : (maximum : ℕ) (past : List Deed) (held : Option Block) → FitsHeld maximum past held
    → octets_of held ≡ held_by maximum past
held_fits maximum past None h = sym h
held_fits maximum past (Some b) h =
    let test : (is_acked past || nat_le maximum (visits past)) ≡ false =
    grind (arith, nat_tests, h.left_is, h.has_more, h.is_unacked) in
    rw (test, h.octets_is) refl

pub keeps_blocks : (maximum : ℕ) (ss : List Step) → 1 ≤ maximum → KeepsBlocks (world_after ss (start maximum))
unfolding held_of
keeps_blocks maximum ss some =
    let w = world_after ss (start maximum) in
    let k = run_keeps maximum (start maximum) ss some (fresh_keeps maximum) in
    record {
      holds = λ p lt. subst (λ (m : ℕ). octets_of (one w.sender p).held ≡ held_by m (w.past p)) (sym k.maximum_is)
          (held_fits maximum (w.past p) (one w.sender p).held (k.fits p lt).held);
      is_right = λ p lt. subst (λ (m : ℕ). IsRight m (w.past p)) (sym k.maximum_is) (k.fits p lt).is_right;
    }

-- ---- the NDI of the downlink

free_counts : (held : Option Block) (ndi : Bool) (past : List Deed) (maximum : ℕ) (t : Turn)
    → ndi ≡ is_odd (blocks past)
    → (closed_one (resend_or New held) maximum t (sent_again (toggled (send_process held ndi)))).ndi
    ≡ is_odd (blocks (deed_by (resend_or New held) t (octets_of (option_map resent held)) ∷ past))
free_counts None ndi past maximum t e = ap not e
free_counts (Some b) ndi past maximum t e = e

turn_counts : (order : Order) (p : SendProcess) (past : List Deed) (maximum : ℕ) (t : Turn) → is_down order ≡ true
    → p.ndi ≡ is_odd (blocks past)
    → (closed_one (answered order p) maximum t (visited order p)).ndi
    ≡ is_odd (blocks (deed_by (answered order p) t (octets_of (visited order p).held) ∷ past))
turn_counts Silent p past maximum t down e = e
turn_counts Unseen p past maximum t down e = absurd cc
turn_counts Free p past maximum t down e = free_counts p.held p.ndi past maximum t e
turn_counts (Grant ndi) p past maximum t down e = absurd cc

-- the NDI of each process, with what the sender's own shape needs
record Counts (w : World) : Type 0 where
  length_is : length w.sender.processes ≡ 8
  counts : (p : ℕ) → p < 8 → (one w.sender p).ndi ≡ is_odd (blocks (w.past p))

fresh_counts : (maximum : ℕ) → Counts (start maximum)
unfolding fresh
fresh_counts maximum = record { length_is = refl; counts = λ p lt. ap (λ (x : SendProcess). x.ndi) (empty_at 8 p) }

counts_there : (w : World) (t : Turn) → is_down t.order ≡ true → Counts w
    → (one (turned t w.sender) (t.tti % 8)).ndi ≡ is_odd (blocks (deed t w.sender ∷ w.past (t.tti % 8)))
counts_there w t down k =
    let at = t.tti % 8 in
    ap (λ (x : SendProcess). x.ndi) (turned_puts t w.sender k.length_is).at
    ∙ turn_counts t.order (one w.sender at) (w.past at) w.sender.maximum t down (k.counts at (omega arith))
    ∙ ap (λ (d : Deed). is_odd (blocks (d ∷ w.past at))) (sym (deed_is t w.sender k.length_is))

turned_counts : (w : World) (t : Turn) → is_down t.order ≡ true → Counts w → Counts (stepped w (Visited t))
turned_counts w t down k =
    let puts_it = turned_puts t w.sender k.length_is in
    record {
      length_is = puts_it.length_is ∙ k.length_is;
      counts = λ p lt. elim (cases_eq p (t.tti % 8)) [
        | inl same ↦
            let test : (p == t.tti % 8) ≡ true = grind (arith, nat_tests) in
            rw test (subst (λ q. (one (turned t w.sender) q).ndi ≡ is_odd (blocks (deed t w.sender ∷ w.past q)))
            (sym same) (counts_there w t down k))
        | inr other ↦
            let test : (p == t.tti % 8) ≡ false = grind (arith, nat_tests) in
            rw test (ap (λ (x : SendProcess). x.ndi) (puts_it.others p other) ∙ k.counts p lt)
      ];
    }

down_first : (b rest : Bool) → (if b then rest else false) ≡ true → (b ≡ true) × (rest ≡ true)
down_first true rest e = (refl, e)
down_first false rest e = absurd cc

run_counts : (w : World) (ss : List Step) → are_down ss ≡ true → Counts w → Counts (world_after ss w)
run_counts w [] down k = k
run_counts w (Visited t ∷ ss) down k =
    let both = down_first (is_down t.order) (are_down ss) down in
    run_counts (stepped w (Visited t)) ss both.1 (turned_counts w t both.0 k)
run_counts w (Cleared ∷ ss) down k = run_counts (stepped w Cleared) ss down (fresh_counts w.sender.maximum)

pub counts_blocks : (maximum : ℕ) (ss : List Step) → are_down ss ≡ true → CountsBlocks (world_after ss (start maximum))
unfolding ndi_of
counts_blocks maximum ss down = λ p lt.
    let w = world_after ss (start maximum) in
    let k = run_counts (start maximum) ss down (fresh_counts maximum) in
    let at : p % 8 ≡ p = omega arith in
    ap (λ (q : ℕ). (one w.sender q).ndi) at ∙ k.counts p lt
