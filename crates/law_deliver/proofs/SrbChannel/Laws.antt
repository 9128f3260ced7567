-- Through any lives.
use Rattle.std.proofs.Common.{◌≡◌, ℕ, List, [], ◌∷◌, ◌++◌, refl, ap, sym, subst, ◌∙◌}
use Rattle.std.specs.List.{AllByRecursion}
use Rattle.bearer.specs.Acknowledged.State.{State}
use Rattle.bearer_types.specs.declared.config.BearerConfig.{BearerConfig}
use Rattle.eps_sec.specs.declared.Keys.{Keys}
use Rattle.l2_node.specs.End.{End}
use Rattle.l2_types.specs.declared.side.Side.{Side}
use Rattle.l2_types.specs.declared.side.Side.TheVariants.{Nb, Ue}
use Rattle.law_node.specs.Calls.{Call, Move}
use Rattle.law_node.specs.Telling.{told_of}
use Rattle.law_deliver.specs.AmFlow.Ups.{ups_on}
use Rattle.promises.specs.Events.{told_on, losses}
use Rattle.law_deliver.specs.AmChannel.Delivery.{SetNone}
use Rattle.law_deliver.specs.AmChannel.Drained.{IsDrained}
use Rattle.law_deliver.specs.AmChannel.Lives.{AirStep, InLife, Moves, lives_on, lives, AreLiving, end_at, calls_at}
use Rattle.law_deliver.specs.AmChannel.Lives.{all_calls}
use Rattle.law_deliver.proofs.AmChannel.Ends.{IsCall, are_calls, all_more}
use Rattle.law_deliver.specs.AmFlow.Air.{Air, Step as LinkStep, outset}
use Rattle.law_deliver.specs.SrbChannel.Delivery.{SrbEndsBeginAlike, NoneSet, life_of, ChannelsDeliverTheFront}
use Rattle.law_deliver.specs.SrbChannel.Delivery.{DrainedChannelsHaveDelivered, NothingGoesUpBetween, NothingIsLost}
use Rattle.law_deliver.specs.SrbChannel.Delivery.{ChannelsDeliverInSequence}
use Rattle.law_deliver.specs.SrbChannel.Running.{Life, start, now, goes_on, running, first_life}
use Rattle.law_deliver.proofs.SrbChannel.Running.{Start, Runs, begins_run, runs_on, lives_more, calls_more, down, up}
use Rattle.law_deliver.proofs.SrbChannel.Running.{all_down, all_up, starts_anew, none_between, none_lost}
use Rattle.law_deliver.proofs.SrbChannel.Running.{none_lost_between, starts_first, ready, came_down, came_up}
use Rattle.law_deliver.proofs.SrbChannel.Walk.{SetsNone}

pub record Living (l : ℕ) (life : Life) : Type 0 where
  pub near : State
  pub far : State
  pub begun : Start l life.nb life.ue near far
  pub runs : Runs l life.nb life.ue near far life.steps
  pub calls : (side : Side) → AllByRecursion (IsCall l) (all_calls side life.steps (start life))

pub first_living : (l : ℕ) (nb ue : End) (near far : State) → Start l nb ue near far → Living l (first_life nb ue)
first_living l nb ue near far s =
    record { near = near; far = far; begun = s; runs = begins_run l nb ue near far s; calls = λ side. tt }

-- ---- one step

abbrev NoneFrom : ℕ → List AirStep → Air → Type 0
NoneFrom l xs a = (side : Side) → SetNone l (all_calls side xs a)

none_first : (l : ℕ) (cs ds : List Call) → SetNone l (cs ++ ds) → SetNone l cs × SetNone l ds
none_first l [] ds h = (tt, h)
none_first l (c ∷ cs) ds h = let rest = none_first l cs ds h.1 in ((h.0, rest.0), rest.1)

sets_none : (l : ℕ) (a : Air) (x : AirStep) (xs : List AirStep) → NoneFrom l (x ∷ xs) a → SetsNone l a x
sets_none l a x xs h = record {
  nb = (none_first l (calls_at Nb a x) (all_calls Nb xs (lives_on a x)) (h Nb)).0;
  ue = (none_first l (calls_at Ue a x) (all_calls Ue xs (lives_on a x)) (h Ue)).0;
}

none_rest : (l : ℕ) (a : Air) (x : AirStep) (xs : List AirStep) → NoneFrom l (x ∷ xs) a → NoneFrom l xs (lives_on a x)
none_rest l a x xs h = λ side. (none_first l (calls_at side a x) (all_calls side xs (lives_on a x)) (h side)).1

calls_on : (l : ℕ) (life : Life) (x : LinkStep) (side : Side) → AreLiving l (now life) (InLife x ∷ [])
    → AllByRecursion (IsCall l) (all_calls side life.steps (start life))
    → AllByRecursion (IsCall l) (all_calls side (life.steps ++ InLife x ∷ []) (start life))
calls_on l life x side g h =
    subst (AllByRecursion (IsCall l)) (sym (calls_more side (start life) life.steps (InLife x ∷ [])))
    (all_more (IsCall l) (all_calls side life.steps (start life)) (all_calls side (InLife x ∷ []) (now life)) h
    (are_calls l side (InLife x ∷ []) (now life) g))

pub lives_in : (l : ℕ) (life : Life) (x : LinkStep) → AreLiving l (now life) (InLife x ∷ [])
    → SetsNone l (now life) (InLife x) → Living l life → Living l (goes_on life (InLife x))
lives_in l life x g none h = record {
  near = h.near;
  far = h.far;
  begun = h.begun;
  runs =
      runs_on l life.nb life.ue h.near h.far life.steps x g.0 none h.runs
      (ready l life.nb life.ue h.near h.far h.begun life.steps h.runs h.calls);
  calls = λ side. calls_on l life x side g (h.calls side);
}

pub lives_anew : (l : ℕ) (life : Life) (keys : Keys) → Living l life → Living l (goes_on life (Moves keys))
lives_anew l life keys h =
    let s = starts_anew l life.nb life.ue h.near h.far h.begun life.steps h.runs h.calls keys in
    record { near = _; far = _; begun = s; runs = begins_run l _ _ _ _ s; calls = λ side. tt }

one_on : (life : Life) (x : AirStep) → now (goes_on life x) ≡ lives_on (now life) x
one_on life (InLife s) = lives_more (start life) life.steps (InLife s ∷ [])
one_on life (Moves keys) = refl

one_lives : (l : ℕ) (life : Life) (x : AirStep) (xs : List AirStep) → AreLiving l (now life) (x ∷ xs)
    → NoneFrom l (x ∷ xs) (now life) → Living l life → Living l (goes_on life x)
one_lives l life (InLife s) xs g none h = lives_in l life s (g.0, tt) (sets_none l (now life) (InLife s) xs none) h
one_lives l life (Moves keys) xs g none h = lives_anew l life keys h

pub all_live : (l : ℕ) (xs : List AirStep) (life : Life) → AreLiving l (now life) xs → NoneFrom l xs (now life)
    → Living l life → Living l (running xs life)
all_live l [] life g none h = h
all_live l (x ∷ xs) life g none h =
    let same = sym (one_on life x) in
    all_live l xs (goes_on life x) (subst (λ (a : Air). AreLiving l a xs) same g.1)
    (subst (NoneFrom l xs) same (none_rest l (now life) x xs none)) (one_lives l life x xs g none h)

pub running_is : (xs : List AirStep) (life : Life) → now (running xs life) ≡ lives xs (now life)
running_is [] life = refl
running_is (x ∷ xs) life = running_is xs (goes_on life x) ∙ ap (lives xs) (one_on life x)

-- ---- the laws

living : (l : ℕ) (c : BearerConfig) (keys : Keys) (nb ue : End) (steps : List AirStep)
    → SrbEndsBeginAlike l c keys nb ue
    → AreLiving l (outset nb ue) steps → NoneSet l steps nb ue
    → Living l (life_of steps nb ue)
living l c keys nb ue steps h g none =
    all_live l steps (first_life nb ue) g none
    (first_living l nb ue _ _ (starts_first l c keys nb ue h.kind h.first h.nb_begun h.ue_begun))

pub delivers_front : ChannelsDeliverTheFront
delivers_front l c keys nb ue Nb steps h g none =
    let k = living l c keys nb ue steps h g none in
    let life = life_of steps nb ue in
    down l life.nb life.ue k.near k.far k.begun life.steps k.runs k.calls
delivers_front l c keys nb ue Ue steps h g none =
    let k = living l c keys nb ue steps h g none in
    let life = life_of steps nb ue in
    up l life.nb life.ue k.near k.far k.begun life.steps k.runs k.calls

pub delivers_in_sequence : ChannelsDeliverInSequence
delivers_in_sequence l c keys nb ue Nb steps h g none =
    let k = living l c keys nb ue steps h g none in
    let life = life_of steps nb ue in
    came_down l life.nb life.ue k.near k.far k.begun life.steps k.runs k.calls
delivers_in_sequence l c keys nb ue Ue steps h g none =
    let k = living l c keys nb ue steps h g none in
    let life = life_of steps nb ue in
    came_up l life.nb life.ue k.near k.far k.begun life.steps k.runs k.calls

pub drained_delivers : DrainedChannelsHaveDelivered
drained_delivers l c keys nb ue Nb steps h g none d =
    let k = living l c keys nb ue steps h g none in
    let life = life_of steps nb ue in
    all_down l life.nb life.ue k.near k.far k.begun life.steps k.runs k.calls
    (subst (λ (a : Air). IsDrained l a.nb.end) (sym (running_is steps (first_life nb ue))) d)
drained_delivers l c keys nb ue Ue steps h g none d =
    let k = living l c keys nb ue steps h g none in
    let life = life_of steps nb ue in
    all_up l life.nb life.ue k.near k.far k.begun life.steps k.runs k.calls
    (subst (λ (a : Air). IsDrained l a.ue.end) (sym (running_is steps (first_life nb ue))) d)

pub nothing_between : NothingGoesUpBetween
nothing_between l c keys next nb ue side steps h g none =
    let k = living l c keys nb ue steps h g none in
    let life = life_of steps nb ue in
    subst (λ (a : Air). ups_on l (told_of (end_at side a) (Move next)) ≡ []) (running_is steps (first_life nb ue))
    (none_between l life.nb life.ue k.near k.far k.begun life.steps k.runs k.calls side next)

pub loses_none : NothingIsLost
loses_none l c keys nb ue side steps h g none =
    let k = living l c keys nb ue steps h g none in
    let life = life_of steps nb ue in
    record {
      in_life = none_lost l life.nb life.ue k.near k.far k.begun life.steps k.runs k.calls side;
      between = λ next.
          subst (λ (a : Air). losses (told_on l (told_of (end_at side a) (Move next))) ≡ [])
          (running_is steps (first_life nb ue))
          (none_lost_between l life.nb life.ue k.near k.far k.begun life.steps k.runs k.calls side next);
    }
