-- What an end of a pair does in several deeds, one after the other.
use Rattle.std.proofs.Common.{◌≡◌, ℕ, List, [], ◌∷◌, ◌++◌, map, length, Option, Some, None, slice_get, append_assoc}
use Rattle.std.proofs.Common.{refl, ap, sym, subst, ◌∙◌}
use Rattle.law_rlc.specs.AmPair.Flow.{Copy, Report, except}
use Rattle.bearer.specs.declared.flow.Flow.{Flow}
use Rattle.bearer.specs.declared.flow.Flow.TheVariants.{Am}
use Rattle.bearer.specs.Acknowledged.State.{State}
use Rattle.l2_types.specs.declared.side.Side.{Side}
use Rattle.bearer_types.specs.Sides.{other}
use Rattle.law_bearer.specs.AnyBearer.Calls.{Call, Arrive, after_all}
use Rattle.law_deliver.specs.Steps.{walked, AllGiven, end_at, with_end}
use Rattle.law_deliver.proofs.Steps.{steps_of, walked_at, all_given_at}
use Rattle.law_deliver.specs.AmFlow.Pair.{BearerEnd, Pair, Deed, Calls, DataComes, StatusComes, DataGoes}
use Rattle.law_deliver.specs.AmFlow.Pair.{StatusGoes, Step, Near, Far, arrives, data_comes, status_comes, does, happens}
use Rattle.law_deliver.specs.AmFlow.Pair.{goes, IsDone, IsGiven, AreGiven}
use Rattle.law_deliver.proofs.AmFlow.Sending.{is_called}

-- ---- deeds at one end

abbrev pub does_all : BearerEnd → BearerEnd → List Deed → BearerEnd
does_all other e ds = walked (does other) ds e

abbrev pub AreDone : BearerEnd → BearerEnd → List Deed → Type 0
AreDone other e ds = AllGiven (does other) IsDone e ds

abbrev pub steps_at : Side → List Deed → List Step
steps_at s ds = steps_of (λ d. Near d) (λ d. Far d) s ds

pub goes_at : (s : Side) (p : Pair) (ds : List Deed)
    → goes (steps_at s ds) p ≡ with_end s p (does_all (end_at (other s) p) (end_at s p) ds)
goes_at s p ds = walked_at happens does (λ d. Near d) (λ d. Far d) (λ q d. refl) (λ q d. refl) s p ds

pub given_at : (s : Side) (p : Pair) (ds : List Deed) → AreDone (end_at (other s) p) (end_at s p) ds
    → AreGiven p (steps_at s ds)
given_at s p ds =
    all_given_at happens does (λ d. Near d) (λ d. Far d) (λ q d. refl) (λ q d. refl) IsDone IsGiven (λ q d g. g)
    (λ q d g. g) s p ds

-- ---- the calls of its bearer that they are, by what the other end has under way

abbrev pub data_call : Option Copy → List Call
data_call None = []
data_call (Some c) = Arrive c.octets ∷ []

abbrev pub status_call : Option Report → List Call
status_call None = []
status_call (Some s) = Arrive s.octets ∷ []

abbrev pub calls_in : BearerEnd → Deed → List Call
calls_in other (Calls c) = c ∷ []
calls_in other (DataComes k) = data_call (slice_get other.copies k)
calls_in other (StatusComes k) = status_call (slice_get other.reports k)
calls_in other (DataGoes k) = []
calls_in other (StatusGoes k) = []

abbrev pub all_calls_in : BearerEnd → List Deed → List Call
all_calls_in other [] = []
all_calls_in other (d ∷ ds) = calls_in other d ++ all_calls_in other ds

-- ---- several PDUs come

pub at_front : {A : Type 0} (pre : List A) (x : A) (post : List A) → slice_get (pre ++ x ∷ post) (length pre) ≡ Some x
at_front [] x post = refl
at_front (p ∷ pre) x post = at_front pre x post

-- an end to which PDUs come is as it was but for its bearer
pub record Hears (other e : BearerEnd) (pdus : List (List ℕ)) : Type 0 where
  pub deeds : List Deed
  pub done : AreDone other e deeds
  pub bearer : State
  pub is : does_all other e deeds ≡ record e { bearer = bearer }
  pub flow_is : after_all (Am e.bearer) (map (λ p. Arrive p) pdus) ≡ Am bearer
  pub calls_are : all_calls_in other deeds ≡ map (λ p. Arrive p) pdus

none_hears : (other e : BearerEnd) → Hears other e []
none_hears other e = record { deeds = []; done = tt; bearer = e.bearer; is = refl; flow_is = refl; calls_are = refl }

one_hears : (other e : BearerEnd) (d : Deed) (pdu : List ℕ) (pdus : List (List ℕ)) → IsDone e d
    → does other e d ≡ arrives e pdu → calls_in other d ≡ Arrive pdu ∷ [] → Hears other (arrives e pdu) pdus
    → Hears other e (pdu ∷ pdus)
one_hears other e d pdu pdus g q i h = record {
  deeds = d ∷ h.deeds;
  done = (g, subst (λ (x : BearerEnd). AreDone other x h.deeds) (sym q) h.done);
  bearer = h.bearer;
  is = ap (λ (x : BearerEnd). does_all other x h.deeds) q ∙ h.is;
  flow_is = ap (λ (f : Flow). after_all f (map (λ p. Arrive p) pdus)) (is_called e.bearer (Arrive pdu)) ∙ h.flow_is;
  calls_are = ap (λ (cs : List Call). cs ++ all_calls_in other h.deeds) i
      ∙ ap (λ (cs : List Call). Arrive pdu ∷ cs) h.calls_are;
}

abbrev pub octets_of : List Copy → List (List ℕ)
octets_of cs = map (λ (c : Copy). c.octets) cs

abbrev pub texts_of : List Report → List (List ℕ)
texts_of rs = map (λ (r : Report). r.octets) rs

pub data_hears : (other e : BearerEnd) (pre cs post : List Copy) → other.copies ≡ pre ++ (cs ++ post)
    → Hears other e (octets_of cs)
data_hears other e pre [] post q = none_hears other e
data_hears other e pre (c ∷ cs) post q =
    let at : slice_get other.copies (length pre) ≡ Some c =
    ap (λ (l : List Copy). slice_get l (length pre)) q ∙ at_front pre c (cs ++ post) in
    one_hears other e (DataComes (length pre)) c.octets (octets_of cs) tt
    (ap (λ (o : Option Copy). data_comes e o) at) (ap data_call at)
    (data_hears other (arrives e c.octets) (pre ++ c ∷ []) cs post (q ∙ sym (append_assoc pre (c ∷ []) (cs ++ post))))

pub all_hears : (other e : BearerEnd) (pre rs post : List Report) (before cs behind : List Copy)
    → other.reports ≡ pre ++ (rs ++ post) → other.copies ≡ before ++ (cs ++ behind)
    → Hears other e (texts_of rs ++ octets_of cs)
all_hears other e pre [] post before cs behind q p = data_hears other e before cs behind p
all_hears other e pre (r ∷ rs) post before cs behind q p =
    let at : slice_get other.reports (length pre) ≡ Some r =
    ap (λ (l : List Report). slice_get l (length pre)) q ∙ at_front pre r (rs ++ post) in
    one_hears other e (StatusComes (length pre)) r.octets (texts_of rs ++ octets_of cs) tt
    (ap (λ (o : Option Report). status_comes e o) at) (ap status_call at)
    (all_hears other (arrives e r.octets) (pre ++ r ∷ []) rs post before cs behind
    (q ∙ sym (append_assoc pre (r ∷ []) (rs ++ post))) p)

-- ---- several PDUs are let go

pub except_front : {A : Type 0} (pre : List A) (x : A) (post : List A)
    → except (length pre) (pre ++ x ∷ post) ≡ pre ++ post
except_front [] x post = refl
except_front (p ∷ pre) x post = ap (λ l. p ∷ l) (except_front pre x post)

pub record Drops (other e : BearerEnd) (copies : List Copy) (reports : List Report) : Type 0 where
  pub deeds : List Deed
  pub done : AreDone other e deeds
  pub is : does_all other e deeds ≡ record e { copies = copies; reports = reports }
  pub calls_none : all_calls_in other deeds ≡ []

one_drops : (other e : BearerEnd) (d : Deed) (x : BearerEnd) (copies : List Copy) (reports : List Report)
    → IsDone e d
    → calls_in other d ≡ [] → does other e d ≡ x
    → record x { copies = copies; reports = reports } ≡ record e { copies = copies; reports = reports }
    → Drops other x copies reports → Drops other e copies reports
one_drops other e d x copies reports g i q same h = record {
  deeds = d ∷ h.deeds;
  done = (g, subst (λ (y : BearerEnd). AreDone other y h.deeds) (sym q) h.done);
  is = ap (λ (y : BearerEnd). does_all other y h.deeds) q ∙ h.is ∙ same;
  calls_none = ap (λ (cs : List Call). cs ++ all_calls_in other h.deeds) i ∙ h.calls_none;
}

pub data_drops : (other e : BearerEnd) (before cs behind : List Copy) → e.copies ≡ before ++ (cs ++ behind)
    → Drops other e (before ++ behind) e.reports
data_drops other e before [] behind p =
    record { deeds = []; done = tt; is = ap (λ (l : List Copy). record e { copies = l }) p; calls_none = refl }
data_drops other e before (c ∷ cs) behind p =
    let x : BearerEnd = record e { copies = before ++ (cs ++ behind) } in
    one_drops other e (DataGoes (length before)) x (before ++ behind) e.reports tt refl
    (ap (λ (l : List Copy). record e { copies = l }) (ap (except (length before)) p
    ∙ except_front before c (cs ++ behind))) refl
    (data_drops other x before cs behind refl)

pub all_drops : (other e : BearerEnd) (pre rs post : List Report) (before cs behind : List Copy)
    → e.reports ≡ pre ++ (rs ++ post) → e.copies ≡ before ++ (cs ++ behind)
    → Drops other e (before ++ behind) (pre ++ post)
all_drops other e pre [] post before cs behind q p =
    subst (λ (l : List Report). Drops other e (before ++ behind) l) q (data_drops other e before cs behind p)
all_drops other e pre (r ∷ rs) post before cs behind q p =
    let x : BearerEnd = record e { reports = pre ++ (rs ++ post) } in
    one_drops other e (StatusGoes (length pre)) x (before ++ behind) (pre ++ post) tt refl
    (ap (λ (l : List Report). record e { reports = l }) (ap (except (length pre)) q
    ∙ except_front pre r (rs ++ post)))
    refl
    (all_drops other x pre rs post before cs behind refl p)
