-- What the calls of an end through lives are to its bearer of a channel.
use Rattle.std.proofs.Common.{◌≡◌, ◌⊎◌, inl, inr, ℕ, true, false, Option, Some, None, List, [], ◌∷◌, ◌++◌, map}
use Rattle.std.proofs.Common.{append-nil, append_assoc, slice_get, refl, ap, sym, subst, ◌∙◌, Bool, if◌then◌else◌}
use Rattle.std.proofs.lemmas.Grind.{flat_map-append}
use Rattle.std.proofs.lemmas.List.{map-append}
use Rattle.std.specs.List.{AllByRecursion, flat_map}
use Rattle.bearer.specs.declared.flow.Flow.{Flow}
use Rattle.bearer.specs.Lives.{stopping}
use Rattle.law_bearer.specs.AnyBearer.Calls.{Call as BearerCall, Step as BearerStep, Calls as CallsIt, Restart}
use Rattle.law_bearer.specs.AnyBearer.Calls.{after as called, after_all, goes as bearer_goes, run_bearer}
use Rattle.bearer_types.specs.declared.event.Event.{Event}
use Rattle.eps_sec.specs.declared.Keys.{Keys}
use Rattle.l2_node.specs.End.{End}
use Rattle.l2_types.specs.declared.side.Side.{Side}
use Rattle.l2_types.specs.declared.side.Side.TheVariants.{Nb, Ue}
use Rattle.law_node.specs.Calls.{Call, SetVisits, SetReports, Add, Submit, SetDiscard, Tick, TickBuckets, Visits}
use Rattle.law_node.specs.Calls.{Grants, Granted, Assigned, Pass, Receive, Expire, Move, IsGiven as IsGivenCall, after}
use Rattle.law_node.specs.Calls.{run_end}
use Rattle.law_node.specs.Holding.{flow}
use Rattle.law_node.specs.Telling.{told_of, told_over}
use Rattle.law_deliver.specs.AmFlow.Air.{Block, Station, Air, Act, Calls, Comes, Goes, AtNb, AtUe, Passes, calls, comes}
use Rattle.law_deliver.specs.AmFlow.Air.{Step, does, outset, IsDone}
use Rattle.law_deliver.specs.AmFlow.Channels.{calls_of, GoesOnInLife}
use Rattle.bearer_types.specs.declared.event.Event.TheVariants as events
use Rattle.law_deliver.specs.AmFlow.Ups.{up_on, ups_on, of_calls, tells_in, tells_over, goes_up_in, discarded_in}
use Rattle.law_deliver.specs.AmFlow.Ups.{IsNew, calls_over}
use Rattle.promises.specs.Events.{is_on, discards_in, discards_on}
use Rattle.law_deliver.proofs.AmFlow.Events.{picked_as, picked_over}
use Rattle.promises.specs.Taken.{leaving_in, TakenSdu, take_in, length_in}
use Rattle.law_deliver.proofs.AmFlow.Channels.{call_by}
use Rattle.law_deliver.proofs.AmFlow.Stations.{run_on, come_sound}
use Rattle.law_deliver.proofs.AmFlow.Ups.{between_at, come_between, Stands, stands_more, tells_of, the_end}
use Rattle.law_deliver.specs.AmChannel.Lives.{AirStep, InLife, Moves, lives_on, lives, AreLiving, IsLiving, end_at}
use Rattle.law_deliver.specs.AmChannel.Lives.{brought, calls_by, calls_at, all_calls}
use Rattle.law_deliver.specs.AmChannel.Delivery.{went_up, steps_in, steps_over}

-- ---- an end goes by its calls

pub calls_end : (s : Station) (c : Call) → (calls s c).end ≡ after s.end c
calls_end s (SetVisits maximum) = refl
calls_end s (SetReports reports) = refl
calls_end s (Add c keys) = refl
calls_end s (Submit lcid octets) = refl
calls_end s (SetDiscard lcid ttis) = refl
calls_end s Tick = refl
calls_end s TickBuckets = refl
calls_end s (Visits t) = refl
calls_end s (Grants tti) = refl
calls_end s (Granted tti good) = refl
calls_end s (Assigned tti ndi good) = refl
calls_end s (Pass tti) = refl
calls_end s (Receive block) = refl
calls_end s (Expire lcid clock) = refl
calls_end s (Move keys) = refl

comes_end : (s : Station) (b : Option Block) → (comes s b).end ≡ run_end (brought b) s.end
comes_end s None = refl
comes_end s (Some b) = refl

act_end : (other s : Station) (x : Act) → (does other s x).end ≡ run_end (calls_by other x) s.end
act_end other s (Calls c) = calls_end s c
act_end other s (Comes k) = comes_end s (slice_get other.blocks k)
act_end other s (Goes k) = refl

pub step_end : (side : Side) (a : Air) (x : AirStep)
    → end_at side (lives_on a x) ≡ run_end (calls_at side a x) (end_at side a)
step_end Nb a (InLife (AtNb x)) = act_end a.ue a.nb x
step_end Nb a (InLife (AtUe x)) = refl
step_end Nb a (InLife Passes) = refl
step_end Nb a (Moves keys) = refl
step_end Ue a (InLife (AtNb x)) = refl
step_end Ue a (InLife (AtUe x)) = act_end a.nb a.ue x
step_end Ue a (InLife Passes) = refl
step_end Ue a (Moves keys) = refl

pub goes_by_calls : (side : Side) (xs : List AirStep) (a : Air)
    → end_at side (lives xs a) ≡ run_end (all_calls side xs a) (end_at side a)
goes_by_calls side [] a = refl
goes_by_calls side (x ∷ xs) a =
    goes_by_calls side xs (lives_on a x)
    ∙ ap (run_end (all_calls side xs (lives_on a x))) (step_end side a x)
    ∙ sym (run_on (calls_at side a x) (all_calls side xs (lives_on a x)) (end_at side a))

pub ends_go_by_calls : (nb ue : End) (side : Side) (xs : List AirStep)
    → end_at side (lives xs (outset nb ue)) ≡ run_end (all_calls side xs (outset nb ue)) (end_at side (outset nb ue))
ends_go_by_calls nb ue side xs = goes_by_calls side xs (outset nb ue)

-- ---- which are calls of a life, or end it

abbrev pub IsCall : ℕ → Call → Type 0
IsCall l c = (IsGivenCall c × GoesOnInLife l c) ⊎ ((keys : Keys) × (c ≡ Move keys))

pub all_more : {A : Type 0} (P : A → Type 0) (xs ys : List A) → AllByRecursion P xs → AllByRecursion P ys
    → AllByRecursion P (xs ++ ys)
all_more P [] ys h k = k
all_more P (x ∷ xs) ys h k = (h.0, all_more P xs ys h.1 k)

brought_so : (l : ℕ) (b : Option Block) → AllByRecursion (IsCall l) (brought b)
brought_so l None = tt
brought_so l (Some b) = (inl (tt, record { adds_none = refl; moves_none = refl }), tt)

act_so : (l : ℕ) (other s : Station) (x : Act) → IsDone l s x → AllByRecursion (IsCall l) (calls_by other x)
act_so l other s (Calls c) g = (inl (g.0, g.1), tt)
act_so l other s (Comes k) g = brought_so l (slice_get other.blocks k)
act_so l other s (Goes k) g = tt

pub step_so : (l : ℕ) (side : Side) (a : Air) (x : AirStep) → IsLiving l a x
    → AllByRecursion (IsCall l) (calls_at side a x)
step_so l Nb a (InLife (AtNb x)) g = act_so l a.ue a.nb x g
step_so l Nb a (InLife (AtUe x)) g = tt
step_so l Nb a (InLife Passes) g = tt
step_so l Nb a (Moves keys) g = (inr (keys, refl), tt)
step_so l Ue a (InLife (AtNb x)) g = tt
step_so l Ue a (InLife (AtUe x)) g = act_so l a.nb a.ue x g
step_so l Ue a (InLife Passes) g = tt
step_so l Ue a (Moves keys) g = (inr (keys, refl), tt)

-- in a life
abbrev OfALife : ℕ → List Call → Type 0
OfALife l cs = AllByRecursion (GoesOnInLife l) cs

brought_in_life : (l : ℕ) (b : Option Block) → OfALife l (brought b)
brought_in_life l None = tt
brought_in_life l (Some b) = (record { adds_none = refl; moves_none = refl }, tt)

act_in_life : (l : ℕ) (other s : Station) (x : Act) → IsDone l s x → OfALife l (calls_by other x)
act_in_life l other s (Calls c) g = (g.1, tt)
act_in_life l other s (Comes k) g = brought_in_life l (slice_get other.blocks k)
act_in_life l other s (Goes k) g = tt

pub step_in_life : (l : ℕ) (side : Side) (a : Air) (s : Step) → IsLiving l a (InLife s)
    → AllByRecursion (GoesOnInLife l) (calls_at side a (InLife s))
step_in_life l Nb a (AtNb x) g = act_in_life l a.ue a.nb x g
step_in_life l Nb a (AtUe x) g = tt
step_in_life l Nb a Passes g = tt
step_in_life l Ue a (AtNb x) g = tt
step_in_life l Ue a (AtUe x) g = act_in_life l a.nb a.ue x g
step_in_life l Ue a Passes g = tt

pub are_calls : (l : ℕ) (side : Side) (xs : List AirStep) (a : Air) → AreLiving l a xs
    → AllByRecursion (IsCall l) (all_calls side xs a)
are_calls l side [] a g = tt
are_calls l side (x ∷ xs) a g =
    all_more (IsCall l) (calls_at side a x) (all_calls side xs (lives_on a x)) (step_so l side a x g.0)
    (are_calls l side xs (lives_on a x) g.1)

-- ---- steps of a bearer, one behind the other

pub steps_more : (l : ℕ) (cs ds : List Call) (e : End)
    → steps_over l (cs ++ ds) e ≡ steps_over l cs e ++ steps_over l ds (run_end cs e)
steps_more l [] ds e = refl
steps_more l (c ∷ cs) ds e =
    ap (λ (xs : List BearerStep). steps_in l e c ++ xs) (steps_more l cs ds (after e c))
    ∙ sym (append_assoc (steps_in l e c) (steps_over l cs (after e c)) (steps_over l ds (run_end cs (after e c))))

bearer_calls : (cs : List BearerCall) (f : Flow) → run_bearer (map (λ x. CallsIt x) cs) f ≡ after_all f cs
bearer_calls [] f = refl
bearer_calls (c ∷ cs) f = bearer_calls cs (called f c)

-- what comes of them on a channel, in calls and as a life ends
module _ {X : Type 0} (of_call : ℕ → Flow → BearerCall → List X) (of_end : ℕ → Flow → List X) where
  abbrev pub of_step : ℕ → Flow → BearerStep → List X
  of_step l f (CallsIt c) = of_call l f c
  of_step l f (Restart keys) = of_end l f

  abbrev pub of_steps : ℕ → Flow → List BearerStep → List X
  of_steps l f [] = []
  of_steps l f (x ∷ xs) = of_step l f x ++ of_steps l (bearer_goes f x) xs

  comes_more : (l : ℕ) (xs ys : List BearerStep) (f : Flow)
      → of_steps l f (xs ++ ys) ≡ of_steps l f xs ++ of_steps l (run_bearer xs f) ys
  comes_more l [] ys f = refl
  comes_more l (x ∷ xs) ys f =
      ap (λ (found : List X). of_step l f x ++ found) (comes_more l xs ys (bearer_goes f x))
      ∙ sym (append_assoc (of_step l f x) (of_steps l (bearer_goes f x) xs)
      (of_steps l (run_bearer xs (bearer_goes f x)) ys))

  pub of_life : (l : ℕ) (cs : List BearerCall) (f : Flow) → of_steps l f (map (λ x. CallsIt x) cs)
      ≡ of_calls of_call l f cs
  of_life l [] f = refl
  of_life l (c ∷ cs) f = ap (λ (found : List X). of_call l f c ++ found) (of_life l cs (called f c))

  -- as it is told
  told_then : (pick : ℕ → Event → List X) (l : ℕ) (e : End) (c : Call) (cs : List Call)
      → flow l (after e c) ≡ run_bearer (steps_in l e c) (flow l e)
      → flat_map (pick l) (told_of e c) ≡ of_steps l (flow l e) (steps_in l e c)
      → flat_map (pick l) (told_over cs (after e c)) ≡ of_steps l (flow l (after e c)) (steps_over l cs (after e c))
      → flat_map (pick l) (told_over (c ∷ cs) e) ≡ of_steps l (flow l e) (steps_over l (c ∷ cs) e)
  told_then pick l e c cs is one rest =
      let own = steps_in l e c in
      let more = steps_over l cs (after e c) in
      flat_map-append (pick l) (told_of e c) (told_over cs (after e c))
      ∙ ap (λ (found : List X). found ++ flat_map (pick l) (told_over cs (after e c))) one
      ∙ ap (λ (found : List X). of_steps l (flow l e) own ++ found) (rest ∙ ap (λ (f : Flow). of_steps l f more) is)
      ∙ sym (comes_more l own more (flow l e))

-- the SDUs that go up, and the lengths of those that are discarded
abbrev pub ends_up : ℕ → Flow → List (List ℕ)
ends_up l f = ups_on l (stopping f)

abbrev pub ends_discarded : ℕ → Flow → List ℕ
ends_discarded l f = []

abbrev pub all_ups : ℕ → Flow → List BearerStep → List (List ℕ)
all_ups = of_steps goes_up_in ends_up

abbrev pub all_discards : ℕ → Flow → List BearerStep → List ℕ
all_discards = of_steps discarded_in ends_discarded

-- what becomes of the SDUs that leave the queue
abbrev pub marked_in : ℕ → Flow → BearerCall → List (Option ℕ)
marked_in l f c = flat_map (leaving_in l) (tells_in l f c)

abbrev pub ends_marked : ℕ → Flow → List (Option ℕ)
ends_marked l f = flat_map (leaving_in l) (stopping f)

abbrev pub all_leaving : ℕ → Flow → List BearerStep → List (Option ℕ)
all_leaving = of_steps marked_in ends_marked

pub leaving_off : (l : ℕ) (x : Event) → is_on l x ≡ false → leaving_in l x ≡ []
leaving_off l (events.Take lcid (Some count) len) e = ap (λ (b : Bool). if b then Some count ∷ [] else []) e
leaving_off l (events.Take lcid None len) e = refl
leaving_off l (events.Discard lcid len) e = ap (λ (b : Bool). if b then None ∷ [] else []) e
leaving_off l x e = refl

-- what is told of those that are taken
abbrev pub took_in : ℕ → Flow → BearerCall → List TakenSdu
took_in l f c = flat_map (take_in l) (tells_in l f c)

abbrev pub ends_took : ℕ → Flow → List TakenSdu
ends_took l f = flat_map (take_in l) (stopping f)

abbrev pub all_took : ℕ → Flow → List BearerStep → List TakenSdu
all_took = of_steps took_in ends_took

pub take_off : (l : ℕ) (x : Event) → is_on l x ≡ false → take_in l x ≡ []
take_off l (events.Take lcid (Some count) len) e =
    ap (λ (b : Bool). if b then record { count = count; len = len } ∷ [] else []) e
take_off l (events.Take lcid None len) e = refl
take_off l x e = refl

-- and of those that leave the queue
abbrev pub lengths_in : ℕ → Flow → BearerCall → List ℕ
lengths_in l f c = flat_map (length_in l) (tells_in l f c)

abbrev pub ends_lengths : ℕ → Flow → List ℕ
ends_lengths l f = flat_map (length_in l) (stopping f)

abbrev pub all_lengths : ℕ → Flow → List BearerStep → List ℕ
all_lengths = of_steps lengths_in ends_lengths

pub length_off : (l : ℕ) (x : Event) → is_on l x ≡ false → length_in l x ≡ []
length_off l (events.Take lcid count len) e = ap (λ (b : Bool). if b then len ∷ [] else []) e
length_off l (events.Discard lcid len) e = ap (λ (b : Bool). if b then len ∷ [] else []) e
length_off l x e = refl

-- ---- one call

record GoesOne (l : ℕ) (e : End) (c : Call) : Type 0 where
  bearer_is : flow l (after e c) ≡ run_bearer (steps_in l e c) (flow l e)
  ups_are : ups_on l (told_of e c) ≡ all_ups l (flow l e) (steps_in l e c)
  discards_are : discards_on l (told_of e c) ≡ all_discards l (flow l e) (steps_in l e c)
  leaving_are : flat_map (leaving_in l) (told_of e c) ≡ all_leaving l (flow l e) (steps_in l e c)
  takes_are : flat_map (take_in l) (told_of e c) ≡ all_took l (flow l e) (steps_in l e c)
  lengths_are : flat_map (length_in l) (told_of e c) ≡ all_lengths l (flow l e) (steps_in l e c)
  new : IsNew l e c
  given : IsGivenCall c

pub in_life : (l : ℕ) (e : End) (c : Call) → GoesOnInLife l c → steps_in l e c ≡ map (λ x. CallsIt x) (calls_of l e c)
in_life l e c g =
    ap (λ (ks : List Keys). map (λ x. CallsIt x) (calls_of l e c) ++ map (λ k. Restart k) ks) g.moves_none
    ∙ append-nil (map (λ x. CallsIt x) (calls_of l e c))

one_goes : (side : Side) (l : ℕ) (e : End) (c : Call) → Stands side l e → IsCall l c → GoesOne l e c
one_goes side l e c s (inl g) =
    let cs = calls_of l e c in
    let same = in_life l e c g.1 in
    record {
      bearer_is = call_by l e c (come_sound side e s.come) g.1 s.there ∙ sym (bearer_calls cs (flow l e))
          ∙ ap (λ (xs : List BearerStep). run_bearer xs (flow l e)) (sym same);
      ups_are = (tells_of side l e c s g.1).ups_are ∙ sym (of_life goes_up_in ends_up l cs (flow l e))
          ∙ ap (all_ups l (flow l e)) (sym same);
      discards_are = (tells_of side l e c s g.1).discards_are
          ∙ sym (of_life discarded_in ends_discarded l cs (flow l e)) ∙ ap (all_discards l (flow l e)) (sym same);
      leaving_are =
          picked_as leaving_in leaving_off l (told_of e c) (tells_over l (flow l e) cs)
          (tells_of side l e c s g.1).told_is
          ∙ picked_over leaving_in leaving_off marked_in (λ m f d k. refl) l (flow l e) cs
          (between_at l e.bearers s.there (come_between side e s.come))
          ∙ sym (of_life marked_in ends_marked l cs (flow l e)) ∙ ap (all_leaving l (flow l e)) (sym same);
      takes_are =
          picked_as take_in take_off l (told_of e c) (tells_over l (flow l e) cs) (tells_of side l e c s g.1).told_is
          ∙ picked_over take_in take_off took_in (λ m f d k. refl) l (flow l e) cs
          (between_at l e.bearers s.there (come_between side e s.come))
          ∙ sym (of_life took_in ends_took l cs (flow l e)) ∙ ap (all_took l (flow l e)) (sym same);
      lengths_are =
          picked_as length_in length_off l (told_of e c) (tells_over l (flow l e) cs)
          (tells_of side l e c s g.1).told_is
          ∙ picked_over length_in length_off lengths_in (λ m f d k. refl) l (flow l e) cs
          (between_at l e.bearers s.there (come_between side e s.come))
          ∙ sym (of_life lengths_in ends_lengths l cs (flow l e)) ∙ ap (all_lengths l (flow l e)) (sym same);
      new = λ q. let no : true ≡ false = sym q ∙ g.1.adds_none in absurd cc;
      given = g.0;
    }
one_goes side l e c s (inr (keys, q)) =
    let h = the_end side l e keys s in
    subst (GoesOne l e) (sym q)
    (record {
      bearer_is = h.bearer_is;
      ups_are = h.ups_are ∙ sym (append-nil (ends_up l (flow l e)));
      discards_are = h.discards_are;
      leaving_are = picked_as leaving_in leaving_off l (told_of e (Move keys)) (stopping (flow l e)) h.told_is
          ∙ sym (append-nil (ends_marked l (flow l e)));
      takes_are = picked_as take_in take_off l (told_of e (Move keys)) (stopping (flow l e)) h.told_is
          ∙ sym (append-nil (ends_took l (flow l e)));
      lengths_are = picked_as length_in length_off l (told_of e (Move keys)) (stopping (flow l e)) h.told_is
          ∙ sym (append-nil (ends_lengths l (flow l e)));
      new = λ p. let no : false ≡ true = p in absurd cc;
      given = tt;
    })

-- ---- many

runs_then : (xs ys : List BearerStep) (f : Flow) → run_bearer (xs ++ ys) f ≡ run_bearer ys (run_bearer xs f)
runs_then [] ys f = refl
runs_then (x ∷ xs) ys f = runs_then xs ys (bearer_goes f x)

-- the calls of a life
pub calls_are : (l : ℕ) (cs : List Call) (e : End) → AllByRecursion (GoesOnInLife l) cs
    → steps_over l cs e ≡ map (λ x. CallsIt x) (calls_over l cs e)
calls_are l [] e g = refl
calls_are l (c ∷ cs) e g =
    ap (λ (xs : List BearerStep). steps_in l e c ++ xs) (calls_are l cs (after e c) g.1)
    ∙ ap (λ (xs : List BearerStep). xs ++ map (λ x. CallsIt x) (calls_over l cs (after e c))) (in_life l e c g.0)
    ∙ sym (map-append (λ x. CallsIt x) (calls_of l e c) (calls_over l cs (after e c)))

pub record GoesAll (l : ℕ) (e : End) (cs : List Call) : Type 0 where
  pub bearer_is : flow l (run_end cs e) ≡ run_bearer (steps_over l cs e) (flow l e)
  pub ups_are : went_up l cs e ≡ all_ups l (flow l e) (steps_over l cs e)
  pub discards_are : discards_on l (told_over cs e) ≡ all_discards l (flow l e) (steps_over l cs e)
  pub leaving_are : flat_map (leaving_in l) (told_over cs e) ≡ all_leaving l (flow l e) (steps_over l cs e)
  pub takes_are : flat_map (take_in l) (told_over cs e) ≡ all_took l (flow l e) (steps_over l cs e)
  pub lengths_are : flat_map (length_in l) (told_over cs e) ≡ all_lengths l (flow l e) (steps_over l cs e)

pub all_go : (side : Side) (l : ℕ) (e : End) (cs : List Call) → Stands side l e → AllByRecursion (IsCall l) cs
    → GoesAll l e cs
all_go side l e [] s g =
    record {
      bearer_is = refl;
      ups_are = refl;
      discards_are = refl;
      leaving_are = refl;
      takes_are = refl;
      lengths_are = refl;
    }
all_go side l e (c ∷ cs) s g =
    let one = one_goes side l e c s g.0 in
    let rest = all_go side l (after e c) cs (stands_more side l e c s one.given one.new) g.1 in
    let more = steps_over l cs (after e c) in
    record {
      bearer_is = rest.bearer_is ∙ ap (run_bearer more) one.bearer_is
          ∙ sym (runs_then (steps_in l e c) more (flow l e));
      ups_are = told_then goes_up_in ends_up up_on l e c cs one.bearer_is one.ups_are rest.ups_are;
      discards_are =
          told_then discarded_in ends_discarded discards_in l e c cs one.bearer_is one.discards_are rest.discards_are;
      leaving_are = told_then marked_in ends_marked leaving_in l e c cs one.bearer_is one.leaving_are rest.leaving_are;
      takes_are = told_then took_in ends_took take_in l e c cs one.bearer_is one.takes_are rest.takes_are;
      lengths_are =
          told_then lengths_in ends_lengths length_in l e c cs one.bearer_is one.lengths_are rest.lengths_are;
    }
