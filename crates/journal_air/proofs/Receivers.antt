-- Receivers that are where their laws have them: what their processes heard is a past that is given.
use Rattle.std.proofs.Common.{◌≡◌, ◌<◌, ◌≤◌, ℕ, ◌%◌, Bool, true, false, ◌==◌, if◌then◌else◌, Option, None}
use Rattle.std.proofs.Common.{List, [], ◌∷◌, ◌++◌, refl, ap, sym, subst, ◌∙◌, arith}
use Rattle.std.proofs.lemmas.Bool.Decides.{nat_tests}
use Rattle.harq.specs.SendHistory.{is_odd}
use Rattle.harq.specs.Receiving.{Receiving, fresh, after_assigned, assigned_answer, after_grant, grant_ndi}
use Rattle.harq.specs.Receiving.{after_granted, after_pass}
use Rattle.harq.specs.ReceiveHistory.{Block, DownStep, Came, Heard, DownWorld, heard, down_stepped, down_run}
use Rattle.harq.specs.ReceiveHistory.{down_start, AreAnsweredRight, UpStep, Granted, Passed, Told, Asked, Skipped}
use Rattle.harq.specs.ReceiveHistory.{UpWorld, up_stepped, up_run, up_start, awards, AreGrantedRight, with_told}
use Rattle.harq.specs.ReceiveHistory.{right_answer}
use Rattle.harq.proofs.ReceiveLemmas.{answers_right, grants_right}

-- ---- the downlink

down_snoc : (ss : List DownStep) (s : DownStep) (w : DownWorld)
    → down_run (ss ++ s ∷ []) w ≡ down_stepped (down_run ss w) s
down_snoc [] s w = refl
down_snoc (x ∷ ss) s w = down_snoc ss s (down_stepped w x)

pub record Hears (maximum : ℕ) (r : Receiving) (past : ℕ → List Heard) : Type 0 where
  pub steps : List DownStep
  pub receiver_is : (down_run steps (down_start maximum)).receiver ≡ r
  pub past_is : (p : ℕ) → p < 8 → (down_run steps (down_start maximum)).past p ≡ past p
  pub maximum_is : r.maximum ≡ maximum

pub hears_fresh : (maximum : ℕ) (past : ℕ → List Heard) → ((p : ℕ) → p < 8 → past p ≡ [])
    → Hears maximum (fresh maximum) past
unfolding fresh
hears_fresh maximum past none = record {
  steps = [];
  receiver_is = refl;
  past_is = λ p lt. sym (none p lt);
  maximum_is = refl;
}

pub heard_right : (maximum : ℕ) (r : Receiving) (past : ℕ → List Heard) → Hears maximum r past
    → (p : ℕ) → p < 8 → AreAnsweredRight (past p)
heard_right maximum r past h p lt =
    subst (λ (l : List Heard). AreAnsweredRight l) (h.past_is p lt) (answers_right maximum h.steps p lt)

abbrev pub with_heard : ℕ → Heard → (ℕ → List Heard) → ℕ → List Heard
with_heard tti one past p = if p == tti % 8 then one ∷ past p else past p

pub hears_more : (maximum : ℕ) (r : Receiving) (past more : ℕ → List Heard) (b : Block) → Hears maximum r past
    → ((p : ℕ) → p < 8 → more p ≡ with_heard b.tti (heard b r) past p)
    → Hears maximum (after_assigned r b.tti b.ndi b.good) more
unfolding after_assigned
hears_more maximum r past more b h e =
    let w = down_run h.steps (down_start maximum) in
    let one = down_snoc h.steps (Came b) (down_start maximum) in
    record {
      steps = h.steps ++ Came b ∷ [];
      receiver_is = ap (λ (x : DownWorld). x.receiver) one
          ∙ ap (λ (x : Receiving). after_assigned x b.tti b.ndi b.good) h.receiver_is;
      past_is = λ p lt. ap (λ (x : DownWorld). x.past p) one
          ∙ ap (λ (x : Receiving). if p == b.tti % 8 then heard b x ∷ w.past p else w.past p) h.receiver_is
          ∙ ap (λ (l : List Heard). if p == b.tti % 8 then heard b r ∷ l else l) (h.past_is p lt)
          ∙ sym (e p lt);
      maximum_is = h.maximum_is;
    }

-- nothing is heard
pub hears_same : (maximum : ℕ) (r : Receiving) (past more : ℕ → List Heard) → Hears maximum r past
    → ((p : ℕ) → p < 8 → more p ≡ past p) → Hears maximum r more
hears_same maximum r past more h e = record {
  steps = h.steps;
  receiver_is = h.receiver_is;
  past_is = λ p lt. h.past_is p lt ∙ sym (e p lt);
  maximum_is = h.maximum_is;
}

heard_here : (tti : ℕ) (one : Heard) (past : ℕ → List Heard)
    → with_heard tti one past (tti % 8) ≡ one ∷ past (tti % 8)
heard_here tti one past = let test : (tti % 8 == tti % 8) ≡ true = grind (arith, nat_tests) in rw test refl

-- the answer is that of the past
pub answer_is : (maximum : ℕ) (r : Receiving) (past : ℕ → List Heard) (tti : ℕ) (ndi good : Bool)
    → Hears maximum r past → assigned_answer r tti ndi good ≡ right_answer ndi good (past (tti % 8))
answer_is maximum r past tti ndi good h =
    let b : Block = record { tti = tti; ndi = ndi; good = good } in
    let more = with_heard tti (heard b r) past in
    (subst (λ (l : List Heard). AreAnsweredRight l) (heard_here tti (heard b r) past)
    (heard_right maximum (after_assigned r tti ndi good) more
    (hears_more maximum r past more b h (λ p lt. refl)) (tti % 8) (omega arith))).0

-- ---- the uplink

up_snoc : (ss : List UpStep) (s : UpStep) (w : UpWorld) → up_run (ss ++ s ∷ []) w ≡ up_stepped (up_run ss w) s
up_snoc [] s w = refl
up_snoc (x ∷ ss) s w = up_snoc ss s (up_stepped w x)

pub record Asks (maximum : ℕ) (r : Receiving) (past : ℕ → List Told) : Type 0 where
  pub steps : List UpStep
  pub receiver_is : (up_run steps (up_start maximum)).receiver ≡ r
  pub past_is : (p : ℕ) → p < 8 → (up_run steps (up_start maximum)).past p ≡ past p
  pub maximum_is : r.maximum ≡ maximum

pub asks_fresh : (maximum : ℕ) (past : ℕ → List Told) → ((p : ℕ) → p < 8 → past p ≡ [])
    → Asks maximum (fresh maximum) past
unfolding fresh
asks_fresh maximum past none = record {
  steps = [];
  receiver_is = refl;
  past_is = λ p lt. sym (none p lt);
  maximum_is = refl;
}

grants_are_right : (maximum : ℕ) (r : Receiving) (past : ℕ → List Told) → 1 ≤ maximum → Asks maximum r past
    → (p : ℕ) → p < 8 → AreGrantedRight maximum (past p)
grants_are_right maximum r past some h p lt =
    let w = up_run h.steps (up_start maximum) in
    subst (λ (l : List Told). AreGrantedRight maximum l) (h.past_is p lt)
    (subst (λ (m : ℕ). AreGrantedRight m (w.past p)) (ap (λ (x : Receiving). x.maximum) h.receiver_is ∙ h.maximum_is)
    (grants_right maximum h.steps some p lt))

asks_granted : (maximum : ℕ) (r : Receiving) (past more : ℕ → List Told) (tti : ℕ) (good : Option Bool)
    → Asks maximum r past
    → ((p : ℕ) → p < 8 → more p ≡ with_told tti (Asked (grant_ndi r tti) good) past p)
    → Asks maximum (after_granted (after_grant r tti) tti good) more
unfolding after_granted after_grant
asks_granted maximum r past more tti good h e =
    let w = up_run h.steps (up_start maximum) in
    let one = up_snoc h.steps (Granted tti good) (up_start maximum) in
    record {
      steps = h.steps ++ Granted tti good ∷ [];
      receiver_is = ap (λ (x : UpWorld). x.receiver) one
          ∙ ap (λ (x : Receiving). after_granted (after_grant x tti) tti good) h.receiver_is;
      past_is = λ p lt. ap (λ (x : UpWorld). x.past p) one
          ∙ ap (λ (x : Receiving). with_told tti (Asked (grant_ndi x tti) good) w.past p) h.receiver_is
          ∙ ap (λ (l : List Told). if p == tti % 8 then Asked (grant_ndi r tti) good ∷ l else l) (h.past_is p lt)
          ∙ sym (e p lt);
      maximum_is = h.maximum_is;
    }

pub asks_passed : (maximum : ℕ) (r : Receiving) (past more : ℕ → List Told) (tti : ℕ) → Asks maximum r past
    → ((p : ℕ) → p < 8 → more p ≡ with_told tti Skipped past p) → Asks maximum (after_pass r tti) more
unfolding after_pass
asks_passed maximum r past more tti h e =
    let w = up_run h.steps (up_start maximum) in
    let one = up_snoc h.steps (Passed tti) (up_start maximum) in
    record {
      steps = h.steps ++ Passed tti ∷ [];
      receiver_is = ap (λ (x : UpWorld). x.receiver) one ∙ ap (λ (x : Receiving). after_pass x tti) h.receiver_is;
      past_is = λ p lt. ap (λ (x : UpWorld). x.past p) one
          ∙ ap (λ (l : List Told). if p == tti % 8 then Skipped ∷ l else l) (h.past_is p lt)
          ∙ sym (e p lt);
      maximum_is = h.maximum_is;
    }

told_here : (tti : ℕ) (one : Told) (past : ℕ → List Told) → with_told tti one past (tti % 8) ≡ one ∷ past (tti % 8)
told_here tti one past = let test : (tti % 8 == tti % 8) ≡ true = grind (arith, nat_tests) in rw test refl

-- the NDI of a grant behind a past
abbrev pub ndi_behind : ℕ → List Told → Bool
ndi_behind maximum past = is_odd (awards maximum (Asked false None ∷ past))

pub grant_is : (maximum : ℕ) (r : Receiving) (past : ℕ → List Told) (tti : ℕ) → 1 ≤ maximum → Asks maximum r past
    → grant_ndi r tti ≡ ndi_behind maximum (past (tti % 8))
grant_is maximum r past tti some h =
    let more = with_told tti (Asked (grant_ndi r tti) None) past in
    (subst (λ (l : List Told). AreGrantedRight maximum l) (told_here tti (Asked (grant_ndi r tti) None) past)
    (grants_are_right maximum (after_granted (after_grant r tti) tti None) more some
    (asks_granted maximum r past more tti None h (λ p lt. refl)) (tti % 8) (omega arith))).0

pub asks_more : (maximum : ℕ) (r : Receiving) (past more : ℕ → List Told) (tti : ℕ) (good : Option Bool)
    → 1 ≤ maximum → Asks maximum r past
    → ((p : ℕ) → p < 8
    → more p ≡ with_told tti (Asked (ndi_behind maximum (past (tti % 8))) good) past p)
    → Asks maximum (after_granted (after_grant r tti) tti good) more
asks_more maximum r past more tti good some h e =
    asks_granted maximum r past more tti good h
    (λ p lt. e p lt ∙ ap (λ (ndi : Bool). with_told tti (Asked ndi good) past p) (sym
    (grant_is maximum r past tti some h)))
