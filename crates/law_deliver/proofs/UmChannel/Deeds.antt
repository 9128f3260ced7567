-- What an end of an unacknowledged bearer does in several deeds, one after the other.
use Rattle.std.proofs.Common.{◌≡◌, ℕ, ◌+◌, List, [], ◌∷◌, ◌++◌, map, length, Option, Some, slice_get, append_assoc}
use Rattle.std.proofs.Common.{length-append, refl, ap, sym, subst, ◌∙◌}
use Rattle.l2_types.specs.declared.side.Side.TheVariants.{Nb, Ue}
use Rattle.law_rlc.specs.AmPair.Flow.{Copy, except}
use Rattle.bearer.specs.declared.flow.Flow.{Flow}
use Rattle.bearer.specs.declared.flow.Flow.TheVariants.{Um}
use Rattle.bearer.specs.Unacknowledged.State.{State}
use Rattle.l2_types.specs.declared.side.Side.{Side}
use Rattle.bearer_types.specs.Sides.{other}
use Rattle.law_bearer.specs.AnyBearer.Calls.{Call, Arrive, after_all}
use Rattle.law_deliver.specs.Steps.{walked, AllGiven, end_at, with_end}
use Rattle.law_deliver.proofs.Steps.{steps_of, walked_at, all_given_at}
use Rattle.law_deliver.proofs.AmFlow.Runs.{octets_of, at_front, except_front}
use Rattle.law_deliver.specs.UmFlow.Calls.{arrives, calls_in, near_calls, far_calls}
use Rattle.law_deliver.specs.UmFlow.Pair.{BearerEnd, Pair, Deed, Comes, Goes, Step, Near, Far, called, comes, does}
use Rattle.law_deliver.specs.UmFlow.Pair.{happens, goes, IsDone, IsGiven, AreGiven}
use Rattle.law_deliver.proofs.UmFlow.Sending.{is_called}
use Rattle.law_deliver.specs.UmChannel.Pairs.{come_from, go_from}

-- ---- deeds at one end

abbrev pub does_all : BearerEnd → BearerEnd → List Deed → BearerEnd
does_all other e ds = walked (does other) ds e

abbrev pub AreDone : BearerEnd → BearerEnd → List Deed → Type 0
AreDone other e ds = AllGiven (does other) IsDone e ds

abbrev pub steps_at : Side → List Deed → List Step
steps_at s ds = steps_of (λ d. Near d) (λ d. Far d) s ds

pub goes_at : (s : Side) (p : Pair) (ds : List Deed)
    → goes (steps_at s ds) p ≡ with_end s p (does_all (end_at (other s) p) (end_at s p) ds)
goes_at s p ds = walked_at happens does (λ d. Near d) (λ d. Far d) (λ q d. refl) (λ q d. refl) s p ds

pub given_at : (s : Side) (p : Pair) (ds : List Deed) → AreDone (end_at (other s) p) (end_at s p) ds
    → AreGiven p (steps_at s ds)
given_at s p ds =
    all_given_at happens does (λ d. Near d) (λ d. Far d) (λ q d. refl) (λ q d. refl) IsDone IsGiven (λ q d g. g)
    (λ q d g. g) s p ds

-- the calls of its bearer that they are, by what the other end has under way
abbrev pub all_calls_in : BearerEnd → List Deed → List Call
all_calls_in other [] = []
all_calls_in other (d ∷ ds) = calls_in other d ++ all_calls_in other ds

pub near_own : (p : Pair) (ds : List Deed) → near_calls p (steps_at Nb ds) ≡ all_calls_in p.far ds
near_own p [] = refl
near_own p (d ∷ ds) = ap (λ (cs : List Call). calls_in p.far d ++ cs) (near_own (happens p (Near d)) ds)

pub far_own : (p : Pair) (ds : List Deed) → far_calls p (steps_at Ue ds) ≡ all_calls_in p.near ds
far_own p [] = refl
far_own p (d ∷ ds) = ap (λ (cs : List Call). calls_in p.near d ++ cs) (far_own (happens p (Far d)) ds)

-- the other end has none
pub far_none : (p : Pair) (ds : List Deed) → far_calls p (steps_at Nb ds) ≡ []
far_none p [] = refl
far_none p (d ∷ ds) = far_none (happens p (Near d)) ds

pub near_none : (p : Pair) (ds : List Deed) → near_calls p (steps_at Ue ds) ≡ []
near_none p [] = refl
near_none p (d ∷ ds) = near_none (happens p (Far d)) ds

-- ---- several PDUs come

-- an end to which they come is as it was but for its bearer
pub record Hears (other e : BearerEnd) (ds : List Deed) (pdus : List (List ℕ)) : Type 0 where
  pub done : AreDone other e ds
  pub bearer : State
  pub is : does_all other e ds ≡ record e { bearer = bearer }
  pub flow_is : after_all (Um e.bearer) (map (λ p. Arrive p) pdus) ≡ Um bearer
  pub calls_are : all_calls_in other ds ≡ map (λ p. Arrive p) pdus

next_place : (pre : List Copy) (c : Copy) → length (pre ++ c ∷ []) ≡ length pre + 1
next_place pre c = length-append pre (c ∷ [])

pub all_hears : (other e : BearerEnd) (pre cs post : List Copy) → other.copies ≡ pre ++ (cs ++ post)
    → Hears other e (come_from (length pre) (length cs)) (octets_of cs)
all_hears other e pre [] post q = record { done = tt; bearer = e.bearer; is = refl; flow_is = refl; calls_are = refl }
all_hears other e pre (c ∷ cs) post q =
    let place = length pre in
    let at : slice_get other.copies place ≡ Some c = ap (λ (l : List Copy). slice_get l place) q
    ∙ at_front pre c (cs ++ post) in
    let x : BearerEnd = record e { bearer = called e.bearer (Arrive c.octets) } in
    let first : does other e (Comes place) ≡ x = ap (λ (o : Option Copy). comes e o) at in
    let more : List Deed = come_from (place + 1) (length cs) in
    let h : Hears other x more (octets_of cs) =
    subst (λ (n : ℕ). Hears other x (come_from n (length cs)) (octets_of cs)) (next_place pre c)
    (all_hears other x (pre ++ c ∷ []) cs post (q ∙ sym (append_assoc pre (c ∷ []) (cs ++ post)))) in
    record {
      done = (tt, subst (λ (y : BearerEnd). AreDone other y more) (sym first) h.done);
      bearer = h.bearer;
      is = ap (λ (y : BearerEnd). does_all other y more) first ∙ h.is;
      flow_is = ap (λ (f : Flow). after_all f (map (λ p. Arrive p) (octets_of cs)))
          (is_called e.bearer (Arrive c.octets)) ∙ h.flow_is;
      calls_are = ap (λ (o : Option Copy). arrives o ++ all_calls_in other more) at
          ∙ ap (λ (ds : List Call). Arrive c.octets ∷ ds) h.calls_are;
    }

-- ---- several PDUs are let go

pub record Drops (other e : BearerEnd) (ds : List Deed) (copies : List Copy) : Type 0 where
  pub done : AreDone other e ds
  pub is : does_all other e ds ≡ record e { copies = copies }
  pub calls_none : all_calls_in other ds ≡ []

pub all_drops : (other e : BearerEnd) (before cs behind : List Copy) → e.copies ≡ before ++ (cs ++ behind)
    → Drops other e (go_from (length before) (length cs)) (before ++ behind)
all_drops other e before [] behind q =
    record { done = tt; is = ap (λ (l : List Copy). record e { copies = l }) q; calls_none = refl }
all_drops other e before (c ∷ cs) behind q =
    let place = length before in
    let x : BearerEnd = record e { copies = before ++ (cs ++ behind) } in
    let first : does other e (Goes place) ≡ x =
    ap (λ (l : List Copy). record e { copies = l }) (ap (except place) q ∙ except_front before c (cs ++ behind))
    in
    let h = all_drops other x before cs behind refl in
    record {
      done = (tt, subst (λ (y : BearerEnd). AreDone other y (go_from place (length cs))) (sym first) h.done);
      is = ap (λ (y : BearerEnd). does_all other y (go_from place (length cs))) first ∙ h.is;
      calls_none = h.calls_none;
    }
