-- A sender that is where its law has it: what its processes did is a past that is given.
use Rattle.std.proofs.Common.{◌≡◌, ◌<◌, ◌≤◌, ℕ, ◌%◌, Bool, true, false, not, ◌&&◌, ◌==◌, if◌then◌else◌}
use Rattle.std.proofs.Common.{Option, Some, None, option_map, is_some, List, [], ◌∷◌, ◌++◌, length, get_or}
use Rattle.std.proofs.Common.{get_or-set_same, get_or-set_other, refl, ap, sym, subst, ◌∙◌, arith, inl, inr}
use Rattle.std.proofs.lemmas.Bool.{cases_eq}
use Rattle.std.proofs.lemmas.Bool.Decides.{nat_tests}
use Rattle.std.proofs.Math.ListN.{length-set}
use Rattle.harq.specs.declared.sender.Order.{Order}
use Rattle.harq.specs.declared.sender.Order.TheVariants.{Silent, Unseen, Free, Grant}
use Rattle.harq.specs.declared.sender.Visit.{Visit}
use Rattle.harq.specs.declared.sender.Visit.TheVariants.{New, Resend, Silent as Nothing}
use Rattle.harq.specs.Sending.{Sending, SendProcess, Block, empty, with_process, process_at, fresh}
use Rattle.harq.specs.Sending.{same, visited, resend_or}
use Rattle.harq.specs.Sending.{answered, loaded, fed, after_visit, visit_answer, after_load, after_feedback, ndi_of}
use Rattle.harq.specs.Sending.{held_of}
use Rattle.harq.specs.SendHistory.{Turn, Step, Visited, Cleared, Deed, World, closed, turned}
use Rattle.harq.specs.SendHistory.{deed, stepped, world_after, start}
use Rattle.harq.specs.SendHistory.{blocks, held_by, IsRight, is_odd, is_down, are_down}
use Rattle.promises.specs.Awards.{seen_by, resends, builds}
use Rattle.harq.proofs.SendLemmas.{keeps_blocks, counts_blocks}

-- ---- one step more

snoc : (ss : List Step) (s : Step) (w : World) → world_after (ss ++ s ∷ []) w ≡ stepped (world_after ss w) s
snoc [] s w = refl
snoc (x ∷ ss) s w = snoc ss s (stepped w x)

down_snoc : (ss : List Step) (t : Turn) → are_down ss ≡ true → is_down t.order ≡ true
    → are_down (ss ++ Visited t ∷ []) ≡ true
down_snoc [] t e d = rw d refl
down_snoc (Visited u ∷ ss) t e d = first (is_down u.order) (are_down ss) (down_snoc ss t) e
  where
    first : (b rest : Bool) → (rest ≡ true → is_down t.order ≡ true → are_down (ss ++ Visited t ∷ []) ≡ true)
        → (if b then rest else false) ≡ true
        → (if b then are_down (ss ++ Visited t ∷ []) else false) ≡ true
    first true rest more h = more h d
    first false rest more h = absurd cc
down_snoc (Cleared ∷ ss) t e d = down_snoc ss t e d

-- ---- the sender's shape

closed_maximum : (v : Visit) (t : Turn) (s : Sending) → (closed v t s).maximum ≡ s.maximum
unfolding after_load after_feedback
closed_maximum New t s = refl
closed_maximum (Resend version) t s = refl
closed_maximum Nothing t s = refl

turned_maximum : (t : Turn) (s : Sending) → (turned t s).maximum ≡ s.maximum
unfolding after_visit
turned_maximum t s = closed_maximum (visit_answer s t.tti t.order) t (after_visit s t.tti t.order)

closed_length : (v : Visit) (t : Turn) (s : Sending) → length (closed v t s).processes ≡ length s.processes
unfolding after_load after_feedback
closed_length New t s =
    length-set (after_load s t.tti t.octets).processes (t.tti % 8) _
    ∙ length-set s.processes (t.tti % 8) (loaded s.maximum t.octets (process_at s t.tti))
closed_length (Resend version) t s = length-set s.processes (t.tti % 8) (fed t.good (process_at s t.tti))
closed_length Nothing t s = refl

turned_length : (t : Turn) (s : Sending) → length (turned t s).processes ≡ length s.processes
unfolding after_visit
turned_length t s =
    closed_length (visit_answer s t.tti t.order) t (after_visit s t.tti t.order)
    ∙ length-set s.processes (t.tti % 8) (visited t.order (process_at s t.tti))

-- ---- the sender stands where a past has it

-- `down` where it is that of the downlink
pub record Sends (down : Bool) (maximum : ℕ) (s : Sending) (past : ℕ → List Deed) : Type 0 where
  pub steps : List Step
  pub sender_is : (world_after steps (start maximum)).sender ≡ s
  pub past_is : (p : ℕ) → p < 8 → (world_after steps (start maximum)).past p ≡ past p
  pub maximum_is : s.maximum ≡ maximum
  pub length_is : length s.processes ≡ 8
  pub are_down_is : down ≡ true → are_down steps ≡ true

pub sends_fresh : (down : Bool) (maximum : ℕ) (past : ℕ → List Deed) → ((p : ℕ) → p < 8 → past p ≡ [])
    → Sends down maximum (fresh maximum) past
unfolding fresh
sends_fresh down maximum past none = record {
  steps = [];
  sender_is = refl;
  past_is = λ p lt. sym (none p lt);
  maximum_is = refl;
  length_is = refl;
  are_down_is = λ d. refl;
}

pub held_is : (down : Bool) (maximum : ℕ) (s : Sending) (past : ℕ → List Deed) → 1 ≤ maximum
    → Sends down maximum s past → (p : ℕ) → p < 8 → held_of s p ≡ held_by maximum (past p)
held_is down maximum s past some h p lt =
    let w = world_after h.steps (start maximum) in
    ap (λ (x : Sending). held_of x p) (sym h.sender_is)
    ∙ (keeps_blocks maximum h.steps some).holds p lt
    ∙ ap (λ (x : Sending). held_by x.maximum (w.past p)) h.sender_is
    ∙ ap (λ (m : ℕ). held_by m (w.past p)) h.maximum_is
    ∙ ap (held_by maximum) (h.past_is p lt)

pub right_is : (down : Bool) (maximum : ℕ) (s : Sending) (past : ℕ → List Deed) → 1 ≤ maximum
    → Sends down maximum s past → (p : ℕ) → p < 8 → IsRight maximum (past p)
right_is down maximum s past some h p lt =
    let w = world_after h.steps (start maximum) in
    subst (λ (l : List Deed). IsRight maximum l) (h.past_is p lt)
    (subst (λ (m : ℕ). IsRight m (w.past p)) (ap (λ (x : Sending). x.maximum) h.sender_is ∙ h.maximum_is)
    ((keeps_blocks maximum h.steps some).is_right p lt))

pub ndi_counts : (maximum : ℕ) (s : Sending) (past : ℕ → List Deed) → Sends true maximum s past
    → (p : ℕ) → p < 8 → ndi_of s p ≡ is_odd (blocks (past p))
ndi_counts maximum s past h p lt =
    ap (λ (x : Sending). ndi_of x p) (sym h.sender_is)
    ∙ counts_blocks maximum h.steps (h.are_down_is refl) p lt
    ∙ ap (λ (l : List Deed). is_odd (blocks l)) (h.past_is p lt)

-- a past with one deed more
abbrev pub with_deed : ℕ → Deed → (ℕ → List Deed) → ℕ → List Deed
with_deed tti d past p = if p == tti % 8 then d ∷ past p else past p

pub sends_more : (down : Bool) (maximum : ℕ) (s : Sending) (past more : ℕ → List Deed) (t : Turn)
    → (down ≡ true → is_down t.order ≡ true) → Sends down maximum s past
    → ((p : ℕ) → p < 8 → more p ≡ with_deed t.tti (deed t s) past p) → Sends down maximum (turned t s) more
sends_more down maximum s past more t free h e =
    let w = world_after h.steps (start maximum) in
    let one = snoc h.steps (Visited t) (start maximum) in
    record {
      steps = h.steps ++ Visited t ∷ [];
      sender_is = ap (λ (x : World). x.sender) one ∙ ap (turned t) h.sender_is;
      past_is = λ p lt. ap (λ (x : World). x.past p) one
          ∙ ap (λ (x : Sending). if p == t.tti % 8 then deed t x ∷ w.past p else w.past p) h.sender_is
          ∙ ap (λ (l : List Deed). if p == t.tti % 8 then deed t s ∷ l else l) (h.past_is p lt)
          ∙ sym (e p lt);
      maximum_is = turned_maximum t s ∙ h.maximum_is;
      length_is = turned_length t s ∙ h.length_is;
      are_down_is = λ d. down_snoc h.steps t (h.are_down_is d) (free d);
    }

pub with_here : (tti : ℕ) (d : Deed) (past : ℕ → List Deed) → with_deed tti d past (tti % 8) ≡ d ∷ past (tti % 8)
with_here tti d past =
    let test : (tti % 8 == tti % 8) ≡ true = grind (arith, nat_tests) in rw test refl

-- its own deed is right by what stands behind it
pub deed_is_right : (down : Bool) (maximum : ℕ) (s : Sending) (past : ℕ → List Deed) (t : Turn) → 1 ≤ maximum
    → (down ≡ true → is_down t.order ≡ true) → Sends down maximum s past
    → IsRight maximum (deed t s ∷ past (t.tti % 8))
deed_is_right down maximum s past t some free h =
    subst (λ (l : List Deed). IsRight maximum l) (with_here t.tti (deed t s) past)
    (right_is down maximum (turned t s) (with_deed t.tti (deed t s) past) some
    (sends_more down maximum s past (with_deed t.tti (deed t s) past) t free h (λ p lt. refl)) (t.tti % 8)
    (omega arith))

-- ---- the NDI of the uplink's sender

abbrev pub is_uplink : Order → Bool
is_uplink Silent = true
is_uplink Unseen = true
is_uplink Free = false
is_uplink (Grant ndi) = true

put_ndi : (s : Sending) (tti : ℕ) (x : SendProcess) (p : ℕ) → length s.processes ≡ 8 → p < 8
    → ndi_of (with_process s tti x) p ≡ (if p == tti % 8 then x.ndi else ndi_of s p)
unfolding ndi_of
put_ndi s tti x p l lt =
    let at : p % 8 ≡ p = omega arith in
    elim (cases_eq p (tti % 8)) [
      | inl same_one ↦
          let test : (p == tti % 8) ≡ true = grind (arith, nat_tests) in
          rw test
          (ap (λ (y : SendProcess). y.ndi)
          (ap (λ (q : ℕ). get_or (with_process s tti x).processes q empty) (at ∙ same_one)
          ∙ get_or-set_same s.processes (tti % 8) x empty (omega arith)))
      | inr other ↦
          let test : (p == tti % 8) ≡ false = grind (arith, nat_tests) in
          rw test
          (ap (λ (y : SendProcess). y.ndi)
          (ap (λ (q : ℕ). get_or (with_process s tti x).processes q empty) at
          ∙ get_or-set_other s.processes (tti % 8) p x empty other
          ∙ ap (λ (q : ℕ). get_or s.processes q empty) (sym at)))
    ]

-- a process whose NDI stays
put_same : (s : Sending) (tti : ℕ) (x : SendProcess) (p : ℕ) → length s.processes ≡ 8 → p < 8
    → x.ndi ≡ (process_at s tti).ndi → ndi_of (with_process s tti x) p ≡ ndi_of s p
unfolding ndi_of
put_same s tti x p l lt e = put_ndi s tti x p l lt ∙ elim (cases_eq p (tti % 8)) [
  | inl same_one ↦
      let test : (p == tti % 8) ≡ true = grind (arith, nat_tests) in
      let at : tti % 8 ≡ p % 8 = omega arith in
      rw test (e ∙ ap (λ (q : ℕ). (get_or s.processes q empty).ndi) at)
  | inr other ↦ let test : (p == tti % 8) ≡ false = grind (arith, nat_tests) in rw test refl
]

closed_ndi : (v : Visit) (t : Turn) (s : Sending) (p : ℕ) → length s.processes ≡ 8 → p < 8
    → ndi_of (closed v t s) p ≡ ndi_of s p
unfolding after_load after_feedback
closed_ndi New t s p l lt =
    put_same (after_load s t.tti t.octets) t.tti
    (fed t.good (process_at (after_load s t.tti t.octets) t.tti)) p
    (length-set s.processes (t.tti % 8) (loaded s.maximum t.octets (process_at s t.tti)) ∙ l) lt refl
    ∙ put_same s t.tti (loaded s.maximum t.octets (process_at s t.tti)) p l lt refl
closed_ndi (Resend version) t s p l lt = put_same s t.tti (fed t.good (process_at s t.tti)) p l lt refl
closed_ndi Nothing t s p l lt = refl

visited_ndi : (order : Order) (x : SendProcess) → is_uplink order ≡ true → (visited order x).ndi ≡ seen_by order x.ndi
visited_ndi Silent x u = refl
visited_ndi Unseen x u = refl
visited_ndi Free x u = absurd cc
visited_ndi (Grant ndi) x u = refl

pub ndi_turned : (t : Turn) (s : Sending) (p : ℕ) → length s.processes ≡ 8 → p < 8 → is_uplink t.order ≡ true
    → ndi_of (turned t s) p ≡ (if p == t.tti % 8 then seen_by t.order (ndi_of s p) else ndi_of s p)
unfolding after_visit ndi_of
ndi_turned t s p l lt u =
    closed_ndi (visit_answer s t.tti t.order) t (after_visit s t.tti t.order) p
    (length-set s.processes (t.tti % 8) (visited t.order (process_at s t.tti)) ∙ l) lt
    ∙ put_ndi s t.tti (visited t.order (process_at s t.tti)) p l lt
    ∙ elim (cases_eq p (t.tti % 8)) [
      | inl same_one ↦
          let test : (p == t.tti % 8) ≡ true = grind (arith, nat_tests) in
          let at : t.tti % 8 ≡ p % 8 = omega arith in
          rw test
          (visited_ndi t.order (process_at s t.tti) u
          ∙ ap (λ (q : ℕ). seen_by t.order (get_or s.processes q empty).ndi) at)
      | inr other ↦ let test : (p == t.tti % 8) ≡ false = grind (arith, nat_tests) in rw test refl
    ]

-- ---- what a visit answers

abbrev pub is_new : Visit → Bool
is_new New = true
is_new (Resend version) = false
is_new Nothing = false

abbrev pub is_resend : Visit → Bool
is_resend New = false
is_resend (Resend version) = true
is_resend Nothing = false

-- by what is held, and the NDI seen last
pub record AnswersBy (order : Order) (held last : Bool) (v : Visit) : Type 0 where
  pub resend_is : is_resend v ≡ resends order held last
  pub new_is : is_new v ≡ builds order held last

unseen_by : (held : Option Block) (last : Bool) → AnswersBy Unseen (is_some held) last (resend_or Nothing held)
unseen_by None last = record { resend_is = refl; new_is = refl }
unseen_by (Some b) last = record { resend_is = refl; new_is = refl }

free_by : (held : Option Block) (last : Bool) → AnswersBy Free (is_some held) last (resend_or New held)
free_by None last = record { resend_is = refl; new_is = refl }
free_by (Some b) last = record { resend_is = refl; new_is = refl }

granted_by : (held : Option Block) (b : Bool)
    → (is_resend (resend_or New (if b then held else None)) ≡ (is_some held && b))
    × (is_new (resend_or New (if b then held else None)) ≡ not (is_some held && b))
granted_by None true = (refl, refl)
granted_by None false = (refl, refl)
granted_by (Some x) true = (refl, refl)
granted_by (Some x) false = (refl, refl)

answers_by : (order : Order) (x : SendProcess) → AnswersBy order (is_some x.held) x.ndi (answered order x)
answers_by Silent x = record { resend_is = refl; new_is = refl }
answers_by Unseen x = unseen_by x.held x.ndi
answers_by Free x = free_by x.held x.ndi
answers_by (Grant ndi) x =
    let both = granted_by x.held (same ndi x.ndi) in record { resend_is = both.0; new_is = both.1 }

some_octets : (held : Option Block) → is_some held ≡ is_some (option_map (λ (b : Block). b.octets) held)
some_octets None = refl
some_octets (Some b) = refl

pub visit_by : (s : Sending) (t : ℕ) (order : Order)
    → AnswersBy order (is_some (held_of s (t % 8))) (ndi_of s (t % 8)) (visit_answer s t order)
unfolding visit_answer held_of ndi_of
visit_by s t order =
    let at : t % 8 % 8 ≡ t % 8 = omega arith in
    subst (λ (l : Bool). AnswersBy order (is_some (held_of s (t % 8))) l (visit_answer s t order))
    (ap (λ (q : ℕ). (get_or s.processes q empty).ndi) (sym at))
    (subst (λ (h : Bool). AnswersBy order h (process_at s t).ndi (visit_answer s t order))
    (some_octets (process_at s t).held) (answers_by order (process_at s t)))
