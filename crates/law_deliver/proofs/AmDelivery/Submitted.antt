-- Where no SDU is discarded, what goes up are the SDUs that were submitted first.
use Rattle.std.proofs.Common.{◌≡◌, inr, ℕ, List, [], ◌∷◌, ◌++◌, append_assoc, append-nil, refl, ap, sym, ◌∙◌}
use Rattle.bearer.specs.declared.flow.Flow.{Flow}
use Rattle.bearer.specs.declared.flow.Flow.TheVariants.{Am}
use Rattle.bearer.specs.Acknowledged.State.{State}
use Rattle.law_bearer.specs.AnyBearer.Calls.{Call, Step as BearerStep, Calls, Restart, after, goes, ends}
use Rattle.law_bearer.specs.AnyBearer.Calls.{run_bearer, reached}
use Rattle.law_bearer.specs.AnyBearer.Queue.{news, drops, submits, queue, all_left, all_submitted}
use Rattle.law_bearer.proofs.AnyBearer.Queues.{leaves_in_order}
use Rattle.bearer_types.specs.declared.BearerConfig.{BearerConfig}
use Rattle.eps_sec.specs.declared.Keys.{Keys}
use Rattle.l2_types.specs.declared.Kind.TheVariants as kinds
use Rattle.l2_types.specs.declared.Side.{Side}
use Rattle.l2_types.specs.declared.Side.TheVariants.{Nb, Ue}
use Rattle.law_words.specs.Lists.{AreFirstSdus}
use Rattle.bearer.specs.Bearer.{flow_of}
use Rattle.law_deliver.specs.AmFlow.Pair.{Pair, Step, am_pair_outset}
use Rattle.law_deliver.specs.AmDelivery.Ends.{submitted_by, drops_by, near_submitted_in, far_submitted_in}
use Rattle.law_deliver.specs.AmDelivery.Ends.{near_drops_in, far_drops_in, DeliversSubmitted}
use Rattle.law_deliver.specs.AmDelivery.Lives.{LifeStep, InLife, Restarts, lives_on, news_by, near_news_in, far_news_in}
use Rattle.law_deliver.specs.AmDelivery.Lives.{near_ups_in, far_ups_in, over}
use Rattle.law_deliver.proofs.AmDelivery.Delivering.{delivers_in_order}
use Rattle.law_deliver.proofs.AmDelivery.Promises.{StepsGoOn}
use Rattle.law_deliver.proofs.AmDelivery.Reached.{Turns, as_calls, Stands, End, near_end, far_end, runs_on, begins_so}

-- ---- lists of which nothing stands first

first_none : (xs ys : List (List ℕ)) → xs ++ ys ≡ [] → xs ≡ []
first_none [] ys q = refl
first_none (x ∷ xs) ys q = absurd cc

rest_none : (xs ys : List (List ℕ)) → xs ++ ys ≡ [] → ys ≡ []
rest_none [] ys q = q
rest_none (x ∷ xs) ys q = absurd cc

-- ---- what leaves the queue of a bearer

left_then : (f : Flow) (xs ys : List BearerStep)
    → all_left f (xs ++ ys) ≡ all_left f xs ++ all_left (run_bearer xs f) ys
left_then f [] ys = refl
left_then f (Calls c ∷ xs) ys =
    let left = news f c ++ drops f c in
    ap (λ (l : List (List ℕ)). left ++ l) (left_then (after f c) xs ys)
    ∙ sym (append_assoc left (all_left (after f c) xs) (all_left (run_bearer xs (after f c)) ys))
left_then f (Restart keys ∷ xs) ys = left_then (goes f (Restart keys)) xs ys

submitted_then : (xs ys : List BearerStep) → all_submitted (xs ++ ys) ≡ all_submitted xs ++ all_submitted ys
submitted_then [] ys = refl
submitted_then (Calls c ∷ xs) ys =
    ap (λ (l : List (List ℕ)). submits c ++ l) (submitted_then xs ys)
    ∙ sym (append_assoc (submits c) (all_submitted xs) (all_submitted ys))
submitted_then (Restart keys ∷ xs) ys = submitted_then xs ys

turn_left : (b d : State) (cs : List Call) → Turns b cs d → drops_by b cs ≡ []
    → all_left (Am b) (as_calls cs) ≡ news_by b cs
turn_left b d [] t none = refl
turn_left b d (c ∷ []) t none = append-nil (news (Am b) c ++ drops (Am b) c)
    ∙ ap (λ (l : List (List ℕ)). news (Am b) c ++ l) none ∙ append-nil (news (Am b) c)
turn_left b d (c ∷ x ∷ cs) t none = absurd t

turn_submits : (b d : State) (cs : List Call) → Turns b cs d → all_submitted (as_calls cs) ≡ submitted_by cs
turn_submits b d [] t = refl
turn_submits b d (c ∷ []) t = append-nil (submits c)
turn_submits b d (c ∷ x ∷ cs) t = absurd t

-- ---- what happens at an end of a pair

pub record Queues (e : End) : Type 0 where
  pub news : Pair → LifeStep → List (List ℕ)
  pub dropped : Pair → LifeStep → List (List ℕ)
  pub submitted : Pair → LifeStep → List (List ℕ)
  pub news_are : (p : Pair) (s : Step) → news p (InLife s) ≡ news_by (e.at p) (e.calls p s)
  pub drops_are : (p : Pair) (s : Step) → dropped p (InLife s) ≡ drops_by (e.at p) (e.calls p s)
  pub submitted_are : (p : Pair) (s : Step) → submitted p (InLife s) ≡ submitted_by (e.calls p s)
  pub news_between : (p : Pair) (keys : Keys) → news p (Restarts keys) ≡ []
  pub submitted_between : (p : Pair) (keys : Keys) → submitted p (Restarts keys) ≡ []

abbrev pub near_queues : Queues near_end
near_queues = record {
  news = near_news_in;
  dropped = near_drops_in;
  submitted = near_submitted_in;
  news_are = λ p s. refl;
  drops_are = λ p s. refl;
  submitted_are = λ p s. refl;
  news_between = λ p keys. refl;
  submitted_between = λ p keys. refl;
}

abbrev pub far_queues : Queues far_end
far_queues = record {
  news = far_news_in;
  dropped = far_drops_in;
  submitted = far_submitted_in;
  news_are = λ p s. refl;
  drops_are = λ p s. refl;
  submitted_are = λ p s. refl;
  news_between = λ p keys. refl;
  submitted_between = λ p keys. refl;
}

once_left : (e : End) (t : Queues e) (p : Pair) (x : LifeStep) → t.dropped p x ≡ []
    → all_left (Am (e.at p)) (e.steps p x) ≡ t.news p x
once_left e t p (InLife s) none =
    ap (all_left (Am (e.at p))) (e.in_life p s)
    ∙ turn_left (e.at p) (e.at (lives_on p (InLife s))) (e.calls p s) (e.turns p s) (sym (t.drops_are p s) ∙ none)
    ∙ sym (t.news_are p s)
once_left e t p (Restarts keys) none = ap (all_left (Am (e.at p))) (e.between p keys) ∙ sym (t.news_between p keys)

once_submitted : (e : End) (t : Queues e) (p : Pair) (x : LifeStep) → all_submitted (e.steps p x) ≡ t.submitted p x
once_submitted e t p (InLife s) =
    ap all_submitted (e.in_life p s)
    ∙ turn_submits (e.at p) (e.at (lives_on p (InLife s))) (e.calls p s) (e.turns p s) ∙ sym (t.submitted_are p s)
once_submitted e t p (Restarts keys) = ap all_submitted (e.between p keys) ∙ sym (t.submitted_between p keys)

lives_left : (bits : ℕ) (e : End) (t : Queues e) (xs : List LifeStep) (p : Pair) → Stands bits (e.at p)
    → over t.dropped xs p ≡ []
    → all_left (Am (e.at p)) (over e.steps xs p) ≡ over t.news xs p
lives_left bits e t [] p h none = refl
lives_left bits e t (x ∷ xs) p h none =
    let r = runs_on bits e p x h in
    let q = lives_on p x in
    let rest = over e.steps xs q in
    let first = first_none (t.dropped p x) (over t.dropped xs q) none in
    let others = rest_none (t.dropped p x) (over t.dropped xs q) none in
    left_then (Am (e.at p)) (e.steps p x) rest
    ∙ ap (λ (l : List (List ℕ)). l ++ all_left (run_bearer (e.steps p x) (Am (e.at p))) rest) (once_left e t p x first)
    ∙ ap (λ (f : Flow). t.news p x ++ all_left f rest) r.runs
    ∙ ap (λ (l : List (List ℕ)). t.news p x ++ l) (lives_left bits e t xs q r.stands others)

lives_submitted : (e : End) (t : Queues e) (xs : List LifeStep) (p : Pair)
    → all_submitted (over e.steps xs p) ≡ over t.submitted xs p
lives_submitted e t [] p = refl
lives_submitted e t (x ∷ xs) p =
    let q = lives_on p x in
    submitted_then (e.steps p x) (over e.steps xs q)
    ∙ ap (λ (l : List (List ℕ)). l ++ all_submitted (over e.steps xs q)) (once_submitted e t p x)
    ∙ ap (λ (l : List (List ℕ)). t.submitted p x ++ l) (lives_submitted e t xs q)

-- ---- what was taken first are those that were submitted first

front_then : (xs ys zs : List (List ℕ)) → AreFirstSdus xs ys → AreFirstSdus ys zs → AreFirstSdus xs zs
front_then xs ys zs h k =
    record {
      rest = h.rest ++ k.rest;
      is = k.is ∙ ap (λ (l : List (List ℕ)). l ++ k.rest) h.is
          ∙ append_assoc xs h.rest k.rest;
    }

-- the SDUs that are left at an end, as a bearer of its own
abbrev pub still : BearerConfig → Keys → Side → (e : End) → List LifeStep → Pair → List (List ℕ)
still c keys side e xs p = queue (ends (reached c keys side (over e.steps xs p)))

pub left_then_waits : (c : BearerConfig) (keys : Keys) (side : Side) (e : End) (t : Queues e) (xs : List LifeStep)
    (p : Pair) → c.kind ≡ kinds.Am
    → all_left (flow_of c.kind c keys side) (over e.steps xs p) ++ still c keys side e xs p ≡ over t.submitted xs p
left_then_waits c keys side e t xs p kind = leaves_in_order c keys side (over e.steps xs p) (inr kind)
    ∙ lives_submitted e t xs p

pub taken_then_waits : (c : BearerConfig) (keys : Keys) (side : Side) (e : End) (t : Queues e) (xs : List LifeStep)
    (p : Pair) → c.kind ≡ kinds.Am
    → flow_of c.kind c keys side ≡ Am (e.at p) → over t.dropped xs p ≡ []
    → over t.news xs p ++ still c keys side e xs p ≡ over t.submitted xs p
taken_then_waits c keys side e t xs p kind begins none =
    let left : all_left (flow_of c.kind c keys side) (over e.steps xs p) ≡ over t.news xs p =
    ap (λ (f : Flow). all_left f (over e.steps xs p)) begins
    ∙ lives_left c.pdcp_bits e t xs p (begins_so c keys side (e.at p) kind begins) none in
    ap (λ (l : List (List ℕ)). l ++ still c keys side e xs p) (sym left) ∙ left_then_waits c keys side e t xs p kind

taken_front : (c : BearerConfig) (keys : Keys) (side : Side) (e : End) (t : Queues e) (xs : List LifeStep) (p : Pair)
    → c.kind ≡ kinds.Am
    → flow_of c.kind c keys side ≡ Am (e.at p) → over t.dropped xs p ≡ []
    → AreFirstSdus (over t.news xs p) (over t.submitted xs p)
taken_front c keys side e t xs p kind begins none =
    record { rest = still c keys side e xs p; is = sym (taken_then_waits c keys side e t xs p kind begins none) }

pub delivers_submitted : StepsGoOn → DeliversSubmitted
delivers_submitted steps c keys nb ue xs h given =
    let d = delivers_in_order steps c keys nb ue xs h given in
    let p = am_pair_outset nb ue in
    record {
      down = λ none. front_then (over far_ups_in xs p) (over near_news_in xs p) (over near_submitted_in xs p) d.down
          (taken_front c keys Nb near_end near_queues xs p h.kind h.nb_is none);
      up = λ none. front_then (over near_ups_in xs p) (over far_news_in xs p) (over far_submitted_in xs p) d.up
          (taken_front c keys Ue far_end far_queues xs p h.kind h.ue_is none);
    }
