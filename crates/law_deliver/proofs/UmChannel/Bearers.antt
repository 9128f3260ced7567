-- A bearer of unacknowledged data through calls and lives: what it hands up, takes and is submitted.
use Rattle.std.proofs.Common.{◌≡◌, ℕ, List, [], ◌∷◌, ◌++◌, append_assoc, append-nil, refl, ap, sym, subst, ◌∙◌}
use Rattle.law_bearer.specs.AmBearer.Calls.{ups_among}
use Rattle.law_bearer.proofs.AmBearer.Ups.{ups_then}
use Rattle.bearer.specs.declared.flow.Flow.{Flow}
use Rattle.bearer.specs.declared.flow.Flow.TheVariants.{Um}
use Rattle.bearer.specs.Hearing.{arriving, expiry}
use Rattle.bearer.specs.Lives.{stopping, stopped as flow_stopped, restarted as flow_restarted}
use Rattle.bearer.specs.Taking.{told}
use Rattle.bearer.specs.Unacknowledged.State.{State}
use Rattle.bearer.specs.Unacknowledged.Lives.{stopped, restarted}
use Rattle.law_bearer.specs.AnyBearer.Calls.{Call, Submit, Take, Arrive, Expire, Tick, SetDiscard, Step as BearerStep}
use Rattle.law_bearer.specs.AnyBearer.Calls.{Restart, goes as bearer_goes}
use Rattle.law_bearer.specs.AnyBearer.Queue.{submits, news, all_news, all_submitted as all_submits}
use Rattle.law_bearer.proofs.AnyBearer.Between.{IsBetween, moves}
use Rattle.law_deliver.proofs.AmChannel.Acting.{as_steps}
use Rattle.law_deliver.proofs.AmChannel.Bearers.{between_after, all_own, expiry_told}
use Rattle.law_deliver.proofs.AmChannel.Ends.{all_ups as ups_through}
use Rattle.eps_sec.specs.declared.Keys.{Keys}
use Rattle.law_deliver.specs.AmFlow.Ups.{ups_on, tells_in, goes_up_in}
use Rattle.promises.specs.Events.{told_on}
use Rattle.law_deliver.proofs.AmFlow.Events.{own_told, all_on, stopping_on, ups_over}
use Rattle.l2_types.specs.declared.side.Side.{Side}
use Rattle.l2_types.specs.declared.side.Side.TheVariants.{Nb, Ue}
use Rattle.law_deliver.specs.UmDelivery.Lives.{Life, There, Back, next_near, next_far, ended, last, news_by, submits_by}
use Rattle.law_deliver.specs.UmDelivery.Lives.{all_ups, all_taken, all_submitted}
use Rattle.law_deliver.specs.UmFlow.Calls.{near_calls, far_calls}
use Rattle.law_deliver.specs.UmFlow.Handing.{tells, tells_all, all_called}
use Rattle.law_deliver.specs.UmFlow.Pair.{Step, called, goes, um_pair_outset}
use Rattle.law_deliver.proofs.UmFlow.Calls.{all_are_called, ends_are_their_calls}
use Rattle.law_deliver.proofs.UmFlow.Sending.{is_called}

-- ---- what it tells is of its own channel

tells_so : (l : ℕ) (b : State) (c : Call) → b.pdcp.lcid ≡ l → tells b c ≡ tells_in l (Um b) c
tells_so l b (Submit sdu) q = refl
tells_so l b (Take share held) q = ap (λ (n : ℕ). told n (Um b) share held) q
tells_so l b (Arrive pdu) q = ap (λ (n : ℕ). arriving n (Um b) pdu) q
tells_so l b (Expire clock) q = expiry_told (expiry (Um b) clock)
tells_so l b Tick q = refl
tells_so l b (SetDiscard ttis) q = refl

call_ups : (l : ℕ) (b : State) (c : Call) → IsBetween l (Um b) → ups_among (tells b c) ≡ goes_up_in l (Um b) c
call_ups l b c k =
    let told' = tells_in l (Um b) c in
    let own : told_on l told' ≡ told' = own_told l l (Um b) (Um b) c refl refl k in
    ap ups_among (tells_so l b c k.own) ∙ all_own l told' own
    ∙ ups_over l (Um b) (c ∷ []) told' k (own ∙ sym (append-nil told')) ∙ append-nil (goes_up_in l (Um b) c)

end_ups : (l : ℕ) (b : State) → IsBetween l (Um b) → ups_among (stopping (Um b)) ≡ ups_on l (stopping (Um b))
end_ups l b k = all_own l (stopping (Um b)) (all_on l (stopping (Um b)) (stopping_on l (Um b) k))

-- ---- its next life

pub restarts : (b : State) (keys : Keys) → bearer_goes (Um b) (Restart keys) ≡ Um (restarted (stopped b) keys)
unfolding flow_stopped flow_restarted
restarts b keys = refl

pub between_next : (l : ℕ) (b : State) (keys : Keys) → IsBetween l (Um b)
    → IsBetween l (Um (restarted (stopped b) keys))
between_next l b keys k = subst (IsBetween l) (restarts b keys) (moves l (Um b) keys k)

pub between_called : (l : ℕ) (b : State) (c : Call) → IsBetween l (Um b) → IsBetween l (Um (called b c))
between_called l b c k = subst (IsBetween l) (is_called b c) (between_after l (Um b) c k)

between_all : (l : ℕ) (b : State) (cs : List Call) → IsBetween l (Um b) → IsBetween l (Um (all_called b cs))
between_all l b [] k = k
between_all l b (c ∷ cs) k = between_all l (called b c) cs (between_called l b c k)

-- ---- the calls of a life, and what happens then

life_ups : (l : ℕ) (b : State) (cs : List Call) (xs : List BearerStep) → IsBetween l (Um b)
    → ups_through l (Um b) (as_steps cs ++ xs) ≡ ups_among (tells_all b cs) ++ ups_through l (Um (all_called b cs)) xs
life_ups l b [] xs k = refl
life_ups l b (c ∷ cs) xs k =
    let more = ups_through l (Um (all_called b (c ∷ cs))) xs in
    ap (λ (f : Flow). goes_up_in l (Um b) c ++ ups_through l f (as_steps cs ++ xs)) (is_called b c)
    ∙ ap (λ (up : List (List ℕ)). goes_up_in l (Um b) c ++ up) (life_ups l (called b c) cs xs (between_called l b c k))
    ∙ sym (append_assoc (goes_up_in l (Um b) c) (ups_among (tells_all (called b c) cs)) more)
    ∙ ap (λ (up : List (List ℕ)). (up ++ ups_among (tells_all (called b c) cs)) ++ more) (sym (call_ups l b c k))
    ∙ ap (λ (up : List (List ℕ)). up ++ more) (sym (ups_then (tells b c) (tells_all (called b c) cs)))

life_news : (b : State) (cs : List Call) (xs : List BearerStep)
    → all_news (Um b) (as_steps cs ++ xs) ≡ news_by b cs ++ all_news (Um (all_called b cs)) xs
life_news b [] xs = refl
life_news b (c ∷ cs) xs =
    ap (λ (f : Flow). news (Um b) c ++ all_news f (as_steps cs ++ xs)) (is_called b c)
    ∙ ap (λ (taken : List (List ℕ)). news (Um b) c ++ taken) (life_news (called b c) cs xs)
    ∙ sym (append_assoc (news (Um b) c) (news_by (called b c) cs) (all_news (Um (all_called b (c ∷ cs))) xs))

life_submits : (cs : List Call) (xs : List BearerStep)
    → all_submits (as_steps cs ++ xs) ≡ submits_by cs ++ all_submits xs
life_submits [] xs = refl
life_submits (c ∷ cs) xs = ap (λ (sdus : List (List ℕ)). submits c ++ sdus) (life_submits cs xs)
    ∙ sym (append_assoc (submits c) (submits_by cs) (all_submits xs))

-- ---- an end of both, through lives

abbrev pub own : Side → State → State → State
own Nb near far = near
own Ue near far = far

abbrev pub own_calls : Side → State → State → List Step → List Call
own_calls Nb near far ss = near_calls (um_pair_outset near far) ss
own_calls Ue near far ss = far_calls (um_pair_outset near far) ss

-- what happens to its bearer
abbrev pub steps_through : Side → State → State → List Life → List Step → List BearerStep
steps_through side near far [] ss = as_steps (own_calls side near far ss)
steps_through side near far (l ∷ ls) ss =
    as_steps (own_calls side near far l.steps) ++ Restart l.keys
    ∷ steps_through side (next_near near far l) (next_far near far l) ls ss

same_bearer : (b d : State) → Um b ≡ Um d → b ≡ d
same_bearer b d q = cc

pub near_end : (near far : State) (ss : List Step)
    → all_called near (near_calls (um_pair_outset near far) ss) ≡ (goes ss (um_pair_outset near far)).near.bearer
near_end near far ss =
    same_bearer _ _ (sym (all_are_called near (near_calls (um_pair_outset near far) ss))
    ∙ (ends_are_their_calls near far ss).near_is)

pub far_end : (near far : State) (ss : List Step)
    → all_called far (far_calls (um_pair_outset near far) ss) ≡ (goes ss (um_pair_outset near far)).far.bearer
far_end near far ss =
    same_bearer _ _ (sym (all_are_called far (far_calls (um_pair_outset near far) ss))
    ∙ (ends_are_their_calls near far ss).far_is)

-- a life of a bearer with these calls, and the next one
record GoesLife (l : ℕ) (b d n : State) (cs : List Call) (keys : Keys) (xs : List BearerStep) : Type 0 where
  between : IsBetween l (Um n)
  ups_are : ups_through l (Um b) (as_steps cs ++ Restart keys ∷ xs)
      ≡ (ups_among (tells_all b cs) ++ ups_among (stopping (Um d))) ++ ups_through l (Um n) xs
  news_are : all_news (Um b) (as_steps cs ++ Restart keys ∷ xs) ≡ news_by b cs ++ all_news (Um n) xs

goes_life : (l : ℕ) (b d : State) (cs : List Call) (keys : Keys) (xs : List BearerStep) → all_called b cs ≡ d
    → IsBetween l (Um b) → GoesLife l b d (restarted (stopped d) keys) cs keys xs
goes_life l b d cs keys xs q k =
    let e = all_called b cs in
    let h = between_all l b cs k in
    subst (λ (x : State). GoesLife l b x (restarted (stopped x) keys) cs keys xs) q
    (record {
      between = between_next l e keys h;
      ups_are =
          life_ups l b cs (Restart keys ∷ xs) k
          ∙ ap (λ (f : Flow). ups_among (tells_all b cs) ++ (ups_on l (stopping (Um e)) ++ ups_through l f xs))
          (restarts e keys)
          ∙ ap (λ (up : List (List ℕ)). ups_among (tells_all b cs)
          ++ (up ++ ups_through l (Um (restarted (stopped e) keys)) xs)) (sym (end_ups l e h))
          ∙ sym (append_assoc (ups_among (tells_all b cs)) (ups_among (stopping (Um e)))
          (ups_through l (Um (restarted (stopped e) keys)) xs));
      news_are = life_news b cs (Restart keys ∷ xs)
          ∙ ap (λ (f : Flow). news_by b cs ++ all_news f xs) (restarts e keys);
    })

last_ups : (l : ℕ) (b : State) (cs : List Call) → IsBetween l (Um b)
    → ups_through l (Um b) (as_steps cs) ≡ ups_among (tells_all b cs)
last_ups l b cs k = ap (ups_through l (Um b)) (sym (append-nil (as_steps cs))) ∙ life_ups l b cs [] k
    ∙ append-nil (ups_among (tells_all b cs))

last_news : (b : State) (cs : List Call) → all_news (Um b) (as_steps cs) ≡ news_by b cs
last_news b cs = ap (all_news (Um b)) (sym (append-nil (as_steps cs))) ∙ life_news b cs [] ∙ append-nil (news_by b cs)

last_submits : (cs : List Call) → all_submits (as_steps cs) ≡ submits_by cs
last_submits cs = ap all_submits (sym (append-nil (as_steps cs))) ∙ life_submits cs [] ∙ append-nil (submits_by cs)

-- ---- in each direction: the end that hears, and the end that sends

pub there_ups : (l : ℕ) (ls : List Life) (near far : State) (ss : List Step) → IsBetween l (Um far)
    → all_ups (ended There near far ls) (last There near far ls ss)
    ≡ ups_through l (Um far) (steps_through Ue near far ls ss)
there_ups l [] near far ss k = sym (last_ups l far (far_calls (um_pair_outset near far) ss) k)
there_ups l (life ∷ ls) near far ss k =
    let near' : State = next_near near far life in
    let far' : State = next_far near far life in
    let cs = far_calls (um_pair_outset near far) life.steps in
    let xs = steps_through Ue near' far' ls ss in
    let one = goes_life l far (goes life.steps (um_pair_outset near far)).far.bearer cs life.keys xs
    (far_end near far life.steps) k in
    ap (λ (up : List (List ℕ)). (ups_among (tells_all far cs)
    ++ ups_among (stopping (Um (goes life.steps (um_pair_outset near far)).far.bearer))) ++ up)
    (there_ups l ls near' far' ss one.between)
    ∙ sym one.ups_are

pub back_ups : (l : ℕ) (ls : List Life) (near far : State) (ss : List Step) → IsBetween l (Um near)
    → all_ups (ended Back near far ls) (last Back near far ls ss)
    ≡ ups_through l (Um near) (steps_through Nb near far ls ss)
back_ups l [] near far ss k = sym (last_ups l near (near_calls (um_pair_outset near far) ss) k)
back_ups l (life ∷ ls) near far ss k =
    let near' : State = next_near near far life in
    let far' : State = next_far near far life in
    let cs = near_calls (um_pair_outset near far) life.steps in
    let xs = steps_through Nb near' far' ls ss in
    let one = goes_life l near (goes life.steps (um_pair_outset near far)).near.bearer cs life.keys xs
    (near_end near far life.steps) k in
    ap (λ (up : List (List ℕ)). (ups_among (tells_all near cs)
    ++ ups_among (stopping (Um (goes life.steps (um_pair_outset near far)).near.bearer))) ++ up)
    (back_ups l ls near' far' ss one.between)
    ∙ sym one.ups_are

pub there_news : (l : ℕ) (ls : List Life) (near far : State) (ss : List Step) → IsBetween l (Um near)
    → all_taken (ended There near far ls) (last There near far ls ss)
    ≡ all_news (Um near) (steps_through Nb near far ls ss)
there_news l [] near far ss k = sym (last_news near (near_calls (um_pair_outset near far) ss))
there_news l (life ∷ ls) near far ss k =
    let near' : State = next_near near far life in
    let far' : State = next_far near far life in
    let cs = near_calls (um_pair_outset near far) life.steps in
    let xs = steps_through Nb near' far' ls ss in
    let one = goes_life l near (goes life.steps (um_pair_outset near far)).near.bearer cs life.keys xs
    (near_end near far life.steps) k in
    ap (λ (taken : List (List ℕ)). news_by near cs ++ taken) (there_news l ls near' far' ss one.between)
    ∙ sym one.news_are

pub back_news : (l : ℕ) (ls : List Life) (near far : State) (ss : List Step) → IsBetween l (Um far)
    → all_taken (ended Back near far ls) (last Back near far ls ss)
    ≡ all_news (Um far) (steps_through Ue near far ls ss)
back_news l [] near far ss k = sym (last_news far (far_calls (um_pair_outset near far) ss))
back_news l (life ∷ ls) near far ss k =
    let near' : State = next_near near far life in
    let far' : State = next_far near far life in
    let cs = far_calls (um_pair_outset near far) life.steps in
    let xs = steps_through Ue near' far' ls ss in
    let one = goes_life l far (goes life.steps (um_pair_outset near far)).far.bearer cs life.keys xs
    (far_end near far life.steps) k in
    ap (λ (taken : List (List ℕ)). news_by far cs ++ taken) (back_news l ls near' far' ss one.between)
    ∙ sym one.news_are

pub there_submits : (ls : List Life) (near far : State) (ss : List Step)
    → all_submitted (ended There near far ls) (last There near far ls ss)
    ≡ all_submits (steps_through Nb near far ls ss)
there_submits [] near far ss = sym (last_submits (near_calls (um_pair_outset near far) ss))
there_submits (life ∷ ls) near far ss =
    let cs = near_calls (um_pair_outset near far) life.steps in
    ap (λ (sdus : List (List ℕ)). submits_by cs ++ sdus)
    (there_submits ls (next_near near far life) (next_far near far life) ss)
    ∙ sym
    (life_submits cs (Restart life.keys ∷ steps_through Nb (next_near near far life) (next_far near far life) ls ss))

pub back_submits : (ls : List Life) (near far : State) (ss : List Step)
    → all_submitted (ended Back near far ls) (last Back near far ls ss)
    ≡ all_submits (steps_through Ue near far ls ss)
back_submits [] near far ss = sym (last_submits (far_calls (um_pair_outset near far) ss))
back_submits (life ∷ ls) near far ss =
    let cs = far_calls (um_pair_outset near far) life.steps in
    ap (λ (sdus : List (List ℕ)). submits_by cs ++ sdus)
    (back_submits ls (next_near near far life) (next_far near far life) ss)
    ∙ sym
    (life_submits cs (Restart life.keys ∷ steps_through Ue (next_near near far life) (next_far near far life) ls ss))
