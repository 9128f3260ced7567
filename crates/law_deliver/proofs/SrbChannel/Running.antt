-- The running life of a channel of signalling: as it begins, step by step, and as it ends.
use Rattle.std.proofs.Common.{◌≡◌, ◌≤◌, ℕ, List, [], ◌∷◌, ◌++◌, append-nil, append_assoc, refl, ap, sym}
use Rattle.std.proofs.Common.{subst, ◌∙◌}
use Rattle.std.specs.List.{AllByRecursion}
use Rattle.bearer.specs.Bearer.{flow_of}
use Rattle.bearer.specs.declared.flow.Flow.{Flow}
use Rattle.bearer.specs.declared.flow.Flow.TheVariants.{Am}
use Rattle.bearer.specs.Lives.{stopping}
use Rattle.bearer.specs.Acknowledged.State.{State, fresh as fresh_am}
use Rattle.law_bearer.specs.AnyBearer.Calls.{Step as BearerStep, Restart, goes as bearer_goes}
use Rattle.law_bearer.specs.AnyBearer.Queue.{all_submitted}
use Rattle.law_bearer.proofs.AnyBearer.Between.{IsBetween}
use Rattle.bearer_types.specs.declared.config.BearerConfig.{BearerConfig}
use Rattle.eps_sec.specs.declared.Keys.{Keys}
use Rattle.l2_node.specs.End.{End}
use Rattle.l2_types.specs.declared.Kind.{Kind}
use Rattle.l2_types.specs.declared.Kind.TheVariants as kinds
use Rattle.l2_types.specs.declared.side.Side.{Side}
use Rattle.l2_types.specs.declared.side.Side.TheVariants.{Nb, Ue}
use Rattle.law_node.specs.Calls.{Call, Move, after}
use Rattle.law_node.specs.Holding.{flow}
use Rattle.law_node.specs.Telling.{told_of, told_over}
use Rattle.pdcp_pdu.specs.declared.PdcpKind.TheVariants.{Srb}
use Rattle.law_bearer.specs.AmBearer.Calls.{ups_among}
use Rattle.law_words.specs.Lists.{AreFirstSdus}
use Rattle.law_deliver.specs.AmChannel.Delivery.{HasBegun, steps_over, went_up, was_submitted}
use Rattle.law_deliver.specs.AmChannel.Drained.{has_failed, IsDrained}
use Rattle.law_deliver.specs.AmChannel.Lives.{AirStep, InLife, lives_on, lives, IsLiving, end_at, calls_at, all_calls}
use Rattle.law_deliver.proofs.AmChannel.Bearers.{end_ups}
use Rattle.law_deliver.proofs.AmChannel.Delivery.{stands_so}
use Rattle.law_deliver.proofs.AmChannel.Ends.{IsCall, all_go, all_ups, goes_by_calls, steps_more}
use Rattle.law_deliver.proofs.AmChannel.Submitted.{submitted_is}
use Rattle.law_deliver.specs.AmDelivery.Drained.{IsDrained as IsDrainedBearer}
use Rattle.bearer.specs.Sums.{is_drained}
use Rattle.law_deliver.specs.AmFlow.Air.{Air, Step as LinkStep, outset, Begins}
use Rattle.law_deliver.specs.AmFlow.Pair.{Pair, Step, happens, goes, am_pair_outset}
use Rattle.law_deliver.specs.AmFlow.Ups.{ups_on}
use Rattle.promises.specs.Events.{told_on, losses}
use Rattle.law_deliver.proofs.AmFlow.Air.{begins_so}
use Rattle.law_deliver.specs.AmFlow.Pair.{happens as pair_happens}
use Rattle.law_deliver.proofs.Steps.{walked_more}
use Rattle.law_deliver.proofs.AmFlow.Stations.{Matches}
use Rattle.law_deliver.proofs.AmFlow.Ups.{Stands, the_end, come_between, between_at}
use Rattle.bearer_types.specs.declared.event.Event.{Event}
use Rattle.law_deliver.specs.SrbDelivery.Losses.{near_losses, far_losses}
use Rattle.law_deliver.specs.SrbDelivery.Life.{BothBegin, AreLived, near_ups, far_ups, near_submits, far_submits, over}
use Rattle.law_deliver.specs.SrbDelivery.Lives.{renewed_bearer, BothBeginAnew}
use Rattle.law_deliver.proofs.SrbDelivery.Laws.{delivers_front, drained_delivers, nothing_is_lost, lived}
use Rattle.law_deliver.proofs.SrbDelivery.Renewing.{fresh_begin, next_life}
use Rattle.law_deliver.proofs.SrbChannel.Losing.{all_losses, end_losses, pair_losses}
use Rattle.law_deliver.proofs.SrbChannel.Queue.{stand_on, moved_stands}
use Rattle.law_deliver.proofs.SrbChannel.Sums.{does, does_more, sums}
use Rattle.law_deliver.proofs.SrbChannel.Walk.{Walks, Ready, SetsNone, walks}
use Rattle.law_deliver.specs.AmChannel.Arrival.{happens_in, happened}
use Rattle.law_deliver.proofs.AmChannel.Saying.{Speaks}
use Rattle.law_deliver.proofs.SrbDelivery.Passing.{passes_then}
use Rattle.law_deliver.proofs.SrbDelivery.Sequence.{delivers_in_sequence}
use Rattle.law_deliver.specs.SrbDelivery.Arrival.{passes_of, there_in, back_in}
use Rattle.law_words.specs.Arrivals.{AccountEntry}
use Rattle.law_words.specs.Passing.{Passing, nothing_told, with_passings}
use Rattle.pdcp_pdu.specs.Kinds.{bits_of}
use Rattle.promises.specs.Sequence.{AreInSequence}

-- ---- a life that began at two ends

pub record Start (l : ℕ) (nb ue : End) (near far : State) : Type 0 where
  pub both : BothBegin near far
  pub nb_begins : Begins Nb l nb near
  pub ue_begins : Begins Ue l ue far
  pub nb_stands : Stands Nb l nb
  pub ue_stands : Stands Ue l ue

abbrev pub pair : State → State → Pair
pair near far = am_pair_outset near far

-- and has come so far by some steps
pub record Runs (l : ℕ) (nb ue : End) (near far : State) (xs : List AirStep) : Type 0 where
  pub steps : List Step
  pub lived : AreLived (pair near far) steps
  pub nb_is : Matches Nb l (lives xs (outset nb ue)).nb (goes steps (pair near far)).near
  pub ue_is : Matches Ue l (lives xs (outset nb ue)).ue (goes steps (pair near far)).far
  pub nb_does : does Nb steps (pair near far) ≡ steps_over l (all_calls Nb xs (outset nb ue)) nb
  pub ue_does : does Ue steps (pair near far) ≡ steps_over l (all_calls Ue xs (outset nb ue)) ue
  pub down_is : over there_in steps (pair near far) ≡ passes_of (happened (bits_of Srb) l Nb xs (outset nb ue))
  pub up_is : over back_in steps (pair near far) ≡ passes_of (happened (bits_of Srb) l Ue xs (outset nb ue))

pub begins_run : (l : ℕ) (nb ue : End) (near far : State) → Start l nb ue near far → Runs l nb ue near far []
begins_run l nb ue near far s = record {
  steps = [];
  lived = tt;
  nb_is = begins_so Nb l nb near s.nb_begins;
  ue_is = begins_so Ue l ue far s.ue_begins;
  nb_does = refl;
  ue_does = refl;
  down_is = refl;
  up_is = refl;
}

lived_more : (xs ys : List Step) (p : Pair) → AreLived p xs → AreLived (goes xs p) ys → AreLived p (xs ++ ys)
lived_more [] ys p g h = h
lived_more (x ∷ xs) ys p g h = (g.0, lived_more xs ys (happens p x) g.1 h)

pub lives_more : (a : Air) (xs ys : List AirStep) → lives (xs ++ ys) a ≡ lives ys (lives xs a)
lives_more a [] ys = refl
lives_more a (x ∷ xs) ys = lives_more (lives_on a x) xs ys

pub calls_more : (side : Side) (a : Air) (xs ys : List AirStep)
    → all_calls side (xs ++ ys) a ≡ all_calls side xs a ++ all_calls side ys (lives xs a)
calls_more side a [] ys = refl
calls_more side a (x ∷ xs) ys =
    ap (λ (cs : List Call). calls_at side a x ++ cs) (calls_more side (lives_on a x) xs ys)
    ∙ sym (append_assoc (calls_at side a x) (all_calls side xs (lives_on a x))
    (all_calls side ys (lives xs (lives_on a x))))

does_then : (side : Side) (l : ℕ) (a : Air) (p : Pair) (xs : List AirStep) (x : LinkStep) (ss ts : List Step)
    → does side ss p ≡ steps_over l (all_calls side xs a) (end_at side a)
    → does side ts (goes ss p) ≡ steps_over l (calls_at side (lives xs a) (InLife x)) (end_at side (lives xs a))
    → does side (ss ++ ts) p ≡ steps_over l (all_calls side (xs ++ InLife x ∷ []) a) (end_at side a)
does_then side l a p xs x ss ts q r =
    let cs = all_calls side xs a in
    let b = lives xs a in
    let ds = calls_at side b (InLife x) in
    does_more side ss ts p ∙ ap (λ (ys : List BearerStep). ys ++ does side ts (goes ss p)) q
    ∙ ap (λ (ys : List BearerStep). steps_over l cs (end_at side a) ++ ys)
    (r ∙ ap (steps_over l ds) (goes_by_calls side xs a))
    ∙ sym (steps_more l cs ds (end_at side a))
    ∙ ap (λ (all : List Call). steps_over l all (end_at side a))
    (ap (λ (ys : List Call). cs ++ ys) (sym (append-nil ds)) ∙ sym (calls_more side a xs (InLife x ∷ [])))

over_more : (what : Pair → Step → List Passing) (xs ys : List Step) (p : Pair)
    → over what (xs ++ ys) p ≡ over what xs p ++ over what ys (goes xs p)
over_more what [] ys p = refl
over_more what (x ∷ xs) ys p =
    ap (λ (ps : List Passing). what p x ++ ps) (over_more what xs ys (happens p x))
    ∙ sym (append_assoc (what p x) (over what xs (happens p x)) (over what ys (goes xs (happens p x))))

happened_more : (bits l : ℕ) (from : Side) (xs ys : List AirStep) (a : Air)
    → happened bits l from (xs ++ ys) a ≡ happened bits l from xs a ++ happened bits l from ys (lives xs a)
happened_more bits l from [] ys a = refl
happened_more bits l from (x ∷ xs) ys a =
    ap (λ (hs : List AccountEntry). happens_in bits l from a x ++ hs) (happened_more bits l from xs ys (lives_on a x))
    ∙ sym (append_assoc (happens_in bits l from a x) (happened bits l from xs (lives_on a x))
    (happened bits l from ys (lives xs (lives_on a x))))

passes_more : (what : Pair → Step → List Passing) (l : ℕ) (from : Side) (a : Air) (p : Pair) (xs : List AirStep)
    (x : LinkStep) (ss ts : List Step) → over what ss p ≡ passes_of (happened (bits_of Srb) l from xs a)
    → over what ts (goes ss p) ≡ passes_of (happens_in (bits_of Srb) l from (lives xs a) (InLife x))
    → over what (ss ++ ts) p ≡ passes_of (happened (bits_of Srb) l from (xs ++ InLife x ∷ []) a)
passes_more what l from a p xs x ss ts q r =
    let before = happened (bits_of Srb) l from xs a in
    let now = happens_in (bits_of Srb) l from (lives xs a) (InLife x) in
    over_more what ss ts p ∙ ap (λ (ps : List Passing). ps ++ over what ts (goes ss p)) q
    ∙ ap (λ (ps : List Passing). passes_of before ++ ps) r ∙ sym (passes_then before now)
    ∙ ap (λ (hs : List AccountEntry). passes_of (before ++ hs)) (sym (append-nil now))
    ∙ ap passes_of (sym (happened_more (bits_of Srb) l from xs (InLife x ∷ []) a))

pub runs_on : (l : ℕ) (nb ue : End) (near far : State) (xs : List AirStep) (x : LinkStep)
    → IsLiving l (lives xs (outset nb ue)) (InLife x) → SetsNone l (lives xs (outset nb ue)) (InLife x)
    → (r : Runs l nb ue near far xs) → Ready l (lives xs (outset nb ue)) (goes r.steps (pair near far))
    → Runs l nb ue near far (xs ++ InLife x ∷ [])
runs_on l nb ue near far xs x g none r ready =
    let a = outset nb ue in
    let b = lives xs a in
    let p = pair near far in
    let w : Walks l b x (goes r.steps p) = walks l b x (goes r.steps p) g none r.nb_is r.ue_is
    ready in
    let same = sym (lives_more a xs (InLife x ∷ [])) in
    let pairs = sym (walked_more pair_happens p r.steps w.steps) in
    record {
      steps = r.steps ++ w.steps;
      lived = lived_more r.steps w.steps p r.lived w.lived;
      nb_is = subst (λ (c : Air). Matches Nb l c.nb (goes (r.steps ++ w.steps) p).near) same
          (subst (λ (q : Pair). Matches Nb l (lives_on b (InLife x)).nb q.near) pairs w.nb);
      ue_is = subst (λ (c : Air). Matches Ue l c.ue (goes (r.steps ++ w.steps) p).far) same
          (subst (λ (q : Pair). Matches Ue l (lives_on b (InLife x)).ue q.far) pairs w.ue);
      nb_does = does_then Nb l a p xs x r.steps w.steps r.nb_does w.nb_does;
      ue_does = does_then Ue l a p xs x r.steps w.steps r.ue_does w.ue_does;
      down_is = passes_more there_in l Nb a p xs x r.steps w.steps r.down_is w.down_is;
      up_is = passes_more back_in l Ue a p xs x r.steps w.steps r.up_is w.up_is;
    }

-- ---- what has gone up in it

-- the same in another form
pub came_as : {ss ts us vs : List (List ℕ)} {ps qs : List Passing} → ss ≡ ts → us ≡ vs → ps ≡ qs
    → AreInSequence ss us (with_passings ps nothing_told) → AreInSequence ts vs (with_passings qs nothing_told)
came_as {ss} {ts} {us} {vs} {ps} {qs} e f g h =
    subst (λ (l : List (List ℕ)). AreInSequence l vs (with_passings qs nothing_told)) e
    (subst (λ (l : List (List ℕ)). AreInSequence ss l (with_passings qs nothing_told)) f
    (subst (λ (l : List Passing). AreInSequence ss us (with_passings l nothing_told)) g h))

module _ (l : ℕ) (nb ue : End) (near far : State) (s : Start l nb ue near far) (xs : List AirStep)
    (r : Runs l nb ue near far xs)
    (calls : (side : Side) → AllByRecursion (IsCall l) (all_calls side xs (outset nb ue))) where
  abbrev a : Air
  a = outset nb ue

  abbrev last : Pair
  last = goes r.steps (pair near far)

  between_first : (side : Side) (e : End) (b : State) → Begins side l e b → IsBetween l (Am b)
  between_first side e b h =
      subst (IsBetween l) h.bearer_is (between_at l e.bearers h.there (come_between side e h.come))

  nb_ups : over near_ups r.steps (pair near far) ≡ went_up l (all_calls Nb xs a) nb
  nb_ups =
      (sums l Nb r.steps (pair near far) (between_first Nb nb near s.nb_begins)).ups_are
      ∙ ap (all_ups l (Am near)) r.nb_does
      ∙ ap (λ (f : Flow). all_ups l f (steps_over l (all_calls Nb xs a) nb)) (sym s.nb_begins.bearer_is)
      ∙ sym (all_go Nb l nb (all_calls Nb xs a) s.nb_stands (calls Nb)).ups_are

  ue_ups : over far_ups r.steps (pair near far) ≡ went_up l (all_calls Ue xs a) ue
  ue_ups =
      (sums l Ue r.steps (pair near far) (between_first Ue ue far s.ue_begins)).ups_are
      ∙ ap (all_ups l (Am far)) r.ue_does
      ∙ ap (λ (f : Flow). all_ups l f (steps_over l (all_calls Ue xs a) ue)) (sym s.ue_begins.bearer_is)
      ∙ sym (all_go Ue l ue (all_calls Ue xs a) s.ue_stands (calls Ue)).ups_are

  nb_submitted : over near_submits r.steps (pair near far) ≡ was_submitted l (all_calls Nb xs a) nb
  nb_submitted = (sums l Nb r.steps (pair near far) (between_first Nb nb near s.nb_begins)).submitted_are
      ∙ ap all_submitted r.nb_does ∙ sym (submitted_is l (all_calls Nb xs a) nb)

  ue_submitted : over far_submits r.steps (pair near far) ≡ was_submitted l (all_calls Ue xs a) ue
  ue_submitted = (sums l Ue r.steps (pair near far) (between_first Ue ue far s.ue_begins)).submitted_are
      ∙ ap all_submitted r.ue_does ∙ sym (submitted_is l (all_calls Ue xs a) ue)

  as_told : {us vs ss ts : List (List ℕ)} (P : List (List ℕ) → List (List ℕ) → Type 0) → us ≡ vs → ss ≡ ts → P us ss
      → P vs ts
  as_told {us} {vs} {ss} {ts} P e f p = subst (λ zs. P zs ts) e (subst (P us) f p)

  pub down : AreFirstSdus (went_up l (all_calls Ue xs a) ue) (was_submitted l (all_calls Nb xs a) nb)
  down = as_told AreFirstSdus ue_ups nb_submitted (delivers_front near far r.steps s.both r.lived).there

  pub up : AreFirstSdus (went_up l (all_calls Nb xs a) nb) (was_submitted l (all_calls Ue xs a) ue)
  up = as_told AreFirstSdus nb_ups ue_submitted (delivers_front near far r.steps s.both r.lived).back

  -- ---- which they are

  pub came_down : AreInSequence (was_submitted l (all_calls Nb xs a) nb) (went_up l (all_calls Ue xs a) ue)
      (with_passings (passes_of (happened (bits_of Srb) l Nb xs a)) nothing_told)
  came_down =
      came_as nb_submitted ue_ups r.down_is (delivers_in_sequence near far r.steps s.both r.lived).there

  pub came_up : AreInSequence (was_submitted l (all_calls Ue xs a) ue) (went_up l (all_calls Nb xs a) nb)
      (with_passings (passes_of (happened (bits_of Srb) l Ue xs a)) nothing_told)
  came_up = came_as ue_submitted nb_ups r.up_is (delivers_in_sequence near far r.steps s.both r.lived).back

  drained_so : (e : End) (b : State) → flow l e ≡ Am b → IsDrained l e → IsDrainedBearer b
  unfolding is_drained
  drained_so e b is h = record {
    drained = sym (ap is_drained is) ∙ h.drained;
    unfailed = sym (ap has_failed is) ∙ h.unfailed;
  }

  pub all_down : IsDrained l (lives xs a).nb.end
      → went_up l (all_calls Ue xs a) ue ≡ was_submitted l (all_calls Nb xs a) nb
  all_down d = sym ue_ups ∙ (drained_delivers near far r.steps s.both r.lived).there
      (drained_so (lives xs a).nb.end last.near.bearer r.nb_is.bearer_is d) ∙ nb_submitted

  pub all_up : IsDrained l (lives xs a).ue.end
      → went_up l (all_calls Nb xs a) nb ≡ was_submitted l (all_calls Ue xs a) ue
  all_up d = sym nb_ups ∙ (drained_delivers near far r.steps s.both r.lived).back
      (drained_so (lives xs a).ue.end last.far.bearer r.ue_is.bearer_is d) ∙ ue_submitted

  -- ---- nothing is lost

  lost_by : (side : Side) (e : End) (b : State) (cs : List Call) (found : List Event) → flow l e ≡ Am b
      → Stands side l e → AllByRecursion (IsCall l) cs
      → found ≡ all_losses l (Am b) (does side r.steps (pair near far))
      → does side r.steps (pair near far) ≡ steps_over l cs e → found ≡ [] → losses (told_on l (told_over cs e)) ≡ []
  lost_by side e b cs found is st g found_is does_is none =
      end_losses side l cs e st g ∙ ap (λ (f : Flow). all_losses l f (steps_over l cs e)) is
      ∙ ap (all_losses l (Am b)) (sym does_is) ∙ sym found_is ∙ none

  pub none_lost : (side : Side) → losses (told_on l (told_over (all_calls side xs a) (end_at side a))) ≡ []
  none_lost Nb =
      lost_by Nb nb near (all_calls Nb xs a) (over near_losses r.steps (pair near far)) s.nb_begins.bearer_is
      s.nb_stands (calls Nb)
      (pair_losses l Nb r.steps (pair near far) (between_first Nb nb near s.nb_begins)) r.nb_does
      (nothing_is_lost near far r.steps s.both r.lived).near_none
  none_lost Ue =
      lost_by Ue ue far (all_calls Ue xs a) (over far_losses r.steps (pair near far)) s.ue_begins.bearer_is
      s.ue_stands (calls Ue)
      (pair_losses l Ue r.steps (pair near far) (between_first Ue ue far s.ue_begins)) r.ue_does
      (nothing_is_lost near far r.steps s.both r.lived).far_none

  -- ---- as it ends

  pub stands_at : (side : Side) → Stands side l (end_at side (lives xs a))
  stands_at Nb =
      subst (Stands Nb l) (sym (goes_by_calls Nb xs a)) (stand_on Nb l nb (all_calls Nb xs a) s.nb_stands (calls Nb))
  stands_at Ue =
      subst (Stands Ue l) (sym (goes_by_calls Ue xs a)) (stand_on Ue l ue (all_calls Ue xs a) s.ue_stands (calls Ue))

  speaks_at : (side : Side) (e : End) (b : State) → Stands side l e → flow l e ≡ Am b → b.pdcp.kind ≡ Srb
      → Speaks (bits_of Srb) l b
  speaks_at side e b st is kind = record {
    own = (subst (IsBetween l) is (between_at l e.bearers st.there (come_between side e st.come))).own;
    kind = ap bits_of kind;
  }

  pub ready : Ready l (lives xs a) last
  ready =
      let ways = lived near far r.steps s.both r.lived in
      record {
        nb_stands = stands_at Nb;
        ue_stands = stands_at Ue;
        nb_speaks =
            speaks_at Nb (lives xs a).nb.end last.near.bearer (stands_at Nb) r.nb_is.bearer_is ways.near_is.kind;
        ue_speaks =
            speaks_at Ue (lives xs a).ue.end last.far.bearer (stands_at Ue) r.ue_is.bearer_is ways.far_is.kind;
      }

  anew : (keys : Keys) → BothBeginAnew last.near.bearer last.far.bearer keys
  anew keys = next_life near far r.steps keys s.both r.lived

  moved : (side : Side) (e : End) (b : State) (keys : Keys) → Stands side l e → flow l e ≡ Am b
      → bearer_goes (Am b) (Restart keys) ≡ Am (renewed_bearer b keys)
      → Begins side l (after e (Move keys)) (renewed_bearer b keys)
  moved side e b keys st is left =
      let h = the_end side l e keys st in
      record {
        come = (moved_stands side l e keys st).come;
        there = h.there;
        bearer_is = h.bearer_is ∙ ap (λ (f : Flow). bearer_goes f (Restart keys)) is ∙ left;
        life = record { sends = refl; hears = refl };
      }

  pub starts_anew : (keys : Keys)
      → Start l (after (lives xs a).nb.end (Move keys)) (after (lives xs a).ue.end (Move keys))
      (renewed_bearer last.near.bearer keys) (renewed_bearer last.far.bearer keys)
  starts_anew keys =
      let n = anew keys in
      record {
        both = n.both;
        nb_begins = moved Nb (lives xs a).nb.end last.near.bearer keys (stands_at Nb) r.nb_is.bearer_is
            n.near_anew.left;
        ue_begins = moved Ue (lives xs a).ue.end last.far.bearer keys (stands_at Ue) r.ue_is.bearer_is n.far_anew.left;
        nb_stands = moved_stands Nb l (lives xs a).nb.end keys (stands_at Nb);
        ue_stands = moved_stands Ue l (lives xs a).ue.end keys (stands_at Ue);
      }

  none_by : (side : Side) (e : End) (b : State) (keys : Keys) → Stands side l e → flow l e ≡ Am b
      → ups_among (stopping (Am b)) ≡ [] → ups_on l (told_of e (Move keys)) ≡ []
  none_by side e b keys st is none =
      (the_end side l e keys st).ups_are ∙ ap (λ (f : Flow). ups_on l (stopping f)) is
      ∙ sym (end_ups l b (subst (IsBetween l) is (between_at l e.bearers st.there (come_between side e st.come))))
      ∙ none

  pub none_between : (side : Side) (keys : Keys) → ups_on l (told_of (end_at side (lives xs a)) (Move keys)) ≡ []
  none_between Nb keys =
      none_by Nb (lives xs a).nb.end last.near.bearer keys (stands_at Nb) r.nb_is.bearer_is
      (anew keys).near_anew.none_up
  none_between Ue keys =
      none_by Ue (lives xs a).ue.end last.far.bearer keys (stands_at Ue) r.ue_is.bearer_is
      (anew keys).far_anew.none_up

  lost_at_the_end : (side : Side) (e : End) (b : State) (keys : Keys) → Stands side l e → flow l e ≡ Am b
      → losses (stopping (Am b)) ≡ [] → losses (told_on l (told_of e (Move keys))) ≡ []
  lost_at_the_end side e b keys st is none = ap losses (the_end side l e keys st).told_is
      ∙ ap (λ (f : Flow). losses (stopping f)) is ∙ none

  pub none_lost_between : (side : Side) (keys : Keys)
      → losses (told_on l (told_of (end_at side (lives xs a)) (Move keys))) ≡ []
  none_lost_between Nb keys =
      lost_at_the_end Nb (lives xs a).nb.end last.near.bearer keys (stands_at Nb) r.nb_is.bearer_is
      (anew keys).near_anew.none_lost
  none_lost_between Ue keys =
      lost_at_the_end Ue (lives xs a).ue.end last.far.bearer keys (stands_at Ue) r.ue_is.bearer_is
      (anew keys).far_anew.none_lost

-- ---- the first life

-- the bearer of signalling that begins at a side
abbrev pub first_of : BearerConfig → Keys → Side → State
first_of c keys side = fresh_am c Srb keys side

first_is : (c : BearerConfig) (keys : Keys) (side : Side) → c.kind ≡ kinds.Srb
    → flow_of c.kind c keys side ≡ Am (first_of c keys side)
first_is c keys side k = ap (λ (x : Kind). flow_of x c keys side) k

begins_first : (side : Side) (l : ℕ) (c : BearerConfig) (keys : Keys) (e : End) → c.kind ≡ kinds.Srb
    → HasBegun side l c keys e → Begins side l e (first_of c keys side)
unfolding fresh_am
begins_first side l c keys e k h =
    record {
      come = h.come;
      there = h.there;
      bearer_is = h.bearer_is ∙ first_is c keys side k;
      life = record { sends = refl; hears = refl };
    }

pub starts_first : (l : ℕ) (c : BearerConfig) (keys : Keys) (nb ue : End) → c.kind ≡ kinds.Srb → c.first ≤ 4294967296
    → HasBegun Nb l c keys nb → HasBegun Ue l c keys ue
    → Start l nb ue (first_of c keys Nb) (first_of c keys Ue)
starts_first l c keys nb ue k few x y = record {
  both = fresh_begin c keys few;
  nb_begins = begins_first Nb l c keys nb k x;
  ue_begins = begins_first Ue l c keys ue k y;
  nb_stands = stands_so Nb l c keys nb x;
  ue_stands = stands_so Ue l c keys ue y;
}
