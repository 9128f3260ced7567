-- The numbers that HARQ holds, as processes are visited and bearers write.
use Rattle.std.proofs.Common.{◌≡◌, ◌⊎◌, ◌<◌, ℕ, zero, suc, ◌%◌, nat_lt, Bool, true, false, if◌then◌else◌, Option, Some}
use Rattle.std.proofs.Common.{None, option_map, option_and_then, List, [], ◌∷◌, get_or, set, replicate}
use Rattle.std.proofs.Common.{get_or-set_other, refl, ap, sym, ◌∙◌, subst, arith, inl, inr}
use Rattle.std.proofs.lemmas.Bool.{cases_eq}
use Rattle.std.proofs.lemmas.Bool.Decides.{nat_tests}
use Rattle.harq.specs.declared.sender.Order.{Order}
use Rattle.harq.specs.declared.sender.Order.TheVariants.{Silent, Unseen, Free, Grant}
use Rattle.harq.specs.Sending.{Sending, SendProcess, Block, empty, ended, same, visited, loaded, fed, process_at}
use Rattle.harq.specs.Sending.{with_process, fresh, after_visit, after_load, after_feedback, held_of}
use Rattle.l2_node.specs.Finding.{Numbers, lower, counted, number_at, lowest_of, lowest}
use Rattle.law_node.proofs.Takings.{IsAtLeast}

-- ---- a value at a place of a list that is set

module _ {A : Type 0} where
  -- it is the new one, or the old one
  pub set_cases : (xs : List A) (at p : ℕ) (x d : A) → ((p ≡ at) × (get_or (set xs at x) p d ≡ x))
      ⊎ (get_or (set xs at x) p d ≡ get_or xs p d)
  set_cases [] at p x d = inr refl
  set_cases (y ∷ ys) zero zero x d = inl (refl, refl)
  set_cases (y ∷ ys) zero (suc p) x d = inr refl
  set_cases (y ∷ ys) (suc at) zero x d = inr refl
  set_cases (y ∷ ys) (suc at) (suc p) x d = elim (set_cases ys at p x d) [
    | inl new ↦ inl (ap suc new.0, new.1)
    | inr old ↦ inr old
  ]

-- ---- no process holds a block that it didn't hold before

abbrev pub Fewer : Sending → Sending → Type 0
Fewer s t = (p : ℕ) → held_of s p ≡ None → held_of t p ≡ None

both_none : (b : Bool) (o : Option Block) → o ≡ None → (if b then o else None) ≡ None
both_none true o e = e
both_none false o e = refl

good_none : (b : Bool) (o : Option Block) → o ≡ None → (if b then None else o) ≡ None
good_none true o e = refl
good_none false o e = e

visited_none : (order : Order) (p : SendProcess) → p.held ≡ None → (visited order p).held ≡ None
visited_none Silent p e = rw e refl
visited_none Unseen p e = rw e refl
visited_none Free p e = rw e refl
visited_none (Grant ndi) p e = rw (both_none (same ndi p.ndi) p.held e) refl

fed_none : (good : Bool) (p : SendProcess) → p.held ≡ None → (fed good p).held ≡ None
fed_none good p e = good_none good (option_and_then ended p.held) (rw e refl)

no_block : (o : Option Block) → option_map (λ (b : Block). b.octets) o ≡ None → o ≡ None
no_block None e = refl
no_block (Some b) e = cc

-- one process changes, and holds nothing where it held nothing
one_fewer : (s : Sending) (tti : ℕ) (x : SendProcess) → ((process_at s tti).held ≡ None → x.held ≡ None)
    → Fewer s (with_process s tti x)
unfolding held_of
one_fewer s tti x f p e = elim (set_cases s.processes (tti % 8) p x empty) [
  | inl new ↦
      let there : (process_at s tti).held ≡ None =
      subst (λ (q : ℕ). (get_or s.processes q empty).held ≡ None) new.0
      (no_block (get_or s.processes p empty).held e) in
      ap (λ (y : SendProcess). option_map (λ (b : Block). b.octets) y.held) new.1
      ∙ ap (λ (o : Option Block). option_map (λ (b : Block). b.octets) o) (f there)
  | inr old ↦ ap (λ (y : SendProcess). option_map (λ (b : Block). b.octets) y.held) old ∙ e
]

pub visit_fewer : (s : Sending) (tti : ℕ) (order : Order) → Fewer s (after_visit s tti order)
unfolding after_visit
visit_fewer s tti order = one_fewer s tti (visited order (process_at s tti)) (visited_none order (process_at s tti))

pub feedback_fewer : (s : Sending) (tti : ℕ) (good : Bool) → Fewer s (after_feedback s tti good)
unfolding after_feedback
feedback_fewer s tti good = one_fewer s tti (fed good (process_at s tti)) (fed_none good (process_at s tti))

-- another process holds what it held
pub load_other : (s : Sending) (tti : ℕ) (octets : List ℕ) (p : ℕ) → (p ≡ tti % 8 → ⊥)
    → held_of (after_load s tti octets) p ≡ held_of s p
unfolding after_load held_of
load_other s tti octets p apart =
    ap (λ (y : SendProcess). option_map (λ (b : Block). b.octets) y.held)
    (get_or-set_other s.processes (tti % 8) p (loaded s.maximum octets (process_at s tti)) empty apart)

empty_at : (n p : ℕ) → get_or (replicate n empty) p empty ≡ empty
empty_at zero p = refl
empty_at (suc n) zero = refl
empty_at (suc n) (suc p) = empty_at n p

pub fresh_none : (maximum p : ℕ) → held_of (fresh maximum) p ≡ None
unfolding fresh held_of
fresh_none maximum p = ap (λ (y : SendProcess). option_map (λ (b : Block). b.octets) y.held) (empty_at 8 p)

-- ---- the numbers that count

by_held : (h k : Option (List ℕ)) (x : Option ℕ) (n : ℕ) → (h ≡ None → k ≡ None) → counted k x ≡ Some n
    → counted h x ≡ Some n
by_held None k x n f e = let none : counted k x ≡ None = rw (f refl) refl in let no : None ≡ Some n = sym none ∙ e in cc
by_held (Some b) None x n f e = let no : None ≡ Some n = e in cc
by_held (Some b) (Some c) x n f e = e

pub fewer_numbers : (s t : Sending) (numbers : Numbers) (l p n : ℕ) → Fewer s t → number_at t numbers l p ≡ Some n
    → number_at s numbers l p ≡ Some n
fewer_numbers s t numbers l p n f e = by_held (held_of s p) (held_of t p) _ n (f p) e

pub noted_number : (h : Option (List ℕ)) (x : Option ℕ) (n : ℕ) → counted h x ≡ Some n → x ≡ Some n
noted_number None x n e = let no : None ≡ Some n = e in cc
noted_number (Some b) x n e = e

pub none_counted : (s : Sending) (numbers : Numbers) (l p n : ℕ) → held_of s p ≡ None
    → number_at s numbers l p ≡ Some n → ⊥
none_counted s numbers l p n e h = let no : None ≡ Some n =
    sym (ap (λ (k : Option (List ℕ)). counted k (get_or (get_or numbers p []) l None)) e) ∙ h in cc

-- ---- the lowest of them

lower_first : (a b : Option ℕ) (n : ℕ) → IsAtLeast a n → IsAtLeast (lower a b) n
lower_first None b n h = absurd h
lower_first (Some x) None n h = h
lower_first (Some x) (Some y) n h = lesser (nat_lt y x) refl
  where
    lesser : (t : Bool) → nat_lt y x ≡ t → IsAtLeast (if nat_lt y x then Some y else Some x) n
    lesser true e = rw e (grind (arith, nat_tests))
    lesser false e = rw e h

lower_second : (a b : Option ℕ) (n : ℕ) → b ≡ Some n → IsAtLeast (lower a b) n
lower_second None b n e = rw e (omega arith)
lower_second (Some x) None n e = let no : None ≡ Some n = e in cc
lower_second (Some x) (Some y) n e = lesser (nat_lt y x) refl
  where
    lesser : (t : Bool) → nat_lt y x ≡ t → IsAtLeast (if nat_lt y x then Some y else Some x) n
    lesser true f = let same : y ≡ n = cc in rw f (omega (arith, same))
    lesser false f = let same : y ≡ n = cc in rw f (grind (arith, nat_tests))

abbrev IsIn : ℕ → List ℕ → Type 0
IsIn p [] = ⊥
IsIn p (q ∷ qs) = (p ≡ q) ⊎ IsIn p qs

found_stays : (s : Sending) (numbers : Numbers) (l : ℕ) (ps : List ℕ) (found : Option ℕ) (n : ℕ) → IsAtLeast found n
    → IsAtLeast (lowest_of s numbers l ps found) n
found_stays s numbers l [] found n h = h
found_stays s numbers l (p ∷ ps) found n h =
    found_stays s numbers l ps (lower found (number_at s numbers l p)) n
    (lower_first found (number_at s numbers l p) n h)

lowest_in : (s : Sending) (numbers : Numbers) (l : ℕ) (ps : List ℕ) (found : Option ℕ) (p n : ℕ) → IsIn p ps
    → number_at s numbers l p ≡ Some n → IsAtLeast (lowest_of s numbers l ps found) n
lowest_in s numbers l [] found p n i e = absurd i
lowest_in s numbers l (q ∷ qs) found p n (inl here) e =
    found_stays s numbers l qs (lower found (number_at s numbers l q)) n
    (lower_second found (number_at s numbers l q) n (subst (λ (x : ℕ). number_at s numbers l x ≡ Some n) here e))
lowest_in s numbers l (q ∷ qs) found p n (inr there) e =
    lowest_in s numbers l qs (lower found (number_at s numbers l q)) p n there e

in_eight : (p : ℕ) → p < 8 → IsIn p (0 ∷ 1 ∷ 2 ∷ 3 ∷ 4 ∷ 5 ∷ 6 ∷ 7 ∷ [])
in_eight p lt = elim (cases_eq p 0) [
  | inl e ↦ inl e
  | inr a ↦ inr (elim (cases_eq p 1) [
    | inl e ↦ inl e
    | inr b ↦ inr (elim (cases_eq p 2) [
      | inl e ↦ inl e
      | inr c ↦ inr (elim (cases_eq p 3) [
        | inl e ↦ inl e
        | inr d ↦ inr (elim (cases_eq p 4) [
          | inl e ↦ inl e
          | inr f ↦ inr (elim (cases_eq p 5) [
            | inl e ↦ inl e
            | inr g ↦ inr (elim (cases_eq p 6) [
              | inl e ↦ inl e
              | inr h ↦ inr (inl (omega arith))
            ])
          ])
        ])
      ])
    ])
  ])
]

pub lowest_least : (s : Sending) (numbers : Numbers) (l p n : ℕ) → p < 8 → number_at s numbers l p ≡ Some n
    → IsAtLeast (lowest s numbers l) n
unfolding lowest
lowest_least s numbers l p n lt e =
    lowest_in s numbers l (0 ∷ 1 ∷ 2 ∷ 3 ∷ 4 ∷ 5 ∷ 6 ∷ 7 ∷ []) None p n (in_eight p lt) e
