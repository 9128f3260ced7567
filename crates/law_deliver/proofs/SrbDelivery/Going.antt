-- Steps that bring a flow of RLC on, with what they offer, what they bring up and the data PDUs that pass.
use Rattle.std.proofs.Common.{◌≡◌, ℕ, Bool, true, false, ◌||◌, List, [], ◌∷◌, ◌++◌, take, drop, append-nil}
use Rattle.std.proofs.Common.{append_assoc, refl, ap, sym, subst, ◌∙◌}
use Rattle.std.proofs.lemmas.List.{take-append-drop}
use Rattle.rlc_am_tx.specs.Machine.{State as Sender}
use Rattle.rlc_am_rx.specs.State.{State as Receiver}
use Rattle.law_rlc.specs.AmReceiver.Run.{Call as ReceiverCall, Arrive, Up, Write, ExpireReorder, ExpireProhibit}
use Rattle.law_rlc.specs.AmReceiver.Run.{TickReorder, TickProhibit}
use Rattle.law_rlc.specs.AmPair.Flow.{Copy, Report, Flow, Step, Receives, happens, goes}
use Rattle.law_rlc.specs.AmPair.Given.{IsGiven, AreGiven}
use Rattle.law_rlc.specs.AmPair.Sdus.{offered, handed_up, ready}
use Rattle.law_rlc.specs.AmPair.Arrives.{brings}
use Rattle.law_rlc.specs.AmPair.Steps.{takes_up, offers}
use Rattle.law_rlc.proofs.AmPair.Steps.{goes-up, step-offers}
use Rattle.law_words.specs.Passing.{Passing}
use Rattle.law_rlc.specs.AmArrival.Arrival.{passed_in, passed}
use Rattle.law_bearer.specs.AnyBearer.Acknowledged.{IsOfReceiver}
use Rattle.law_deliver.proofs.AmFlow.Standing.{Stands, given_more, goes_more}
use Rattle.law_deliver.proofs.AmDelivery.Accounts.{passed_more}

-- what the receiver has handed up, and what is ready to go up
abbrev pub total : Flow → List (List ℕ)
total f = handed_up f ++ ready f

pub record Goes (f : Flow) (tx : Sender) (rx : Receiver) (copies : List Copy) (reports : List Report) (busy : Bool)
    (sdus ups : List (List ℕ)) (ps : List Passing) : Type 0 where
  pub steps : List Step
  pub given : AreGiven f steps
  pub stands : Stands tx rx copies reports busy (goes steps f)
  pub offered_is : offered (goes steps f) ≡ offered f ++ sdus
  pub total_is : total (goes steps f) ≡ total f ++ ups
  pub passed_is : passed steps f ≡ ps

pub stays : (f : Flow) (tx : Sender) (rx : Receiver) (cs : List Copy) (rs : List Report) (b : Bool)
    → Stands tx rx cs rs b f → Goes f tx rx cs rs b [] [] []
stays f tx rx cs rs b h = record {
  steps = [];
  given = tt;
  stands = h;
  offered_is = sym (append-nil (offered f));
  total_is = sym (append-nil (total f));
  passed_is = refl;
}

-- ---- a step that neither brings a data PDU nor takes an SDU up

pub record IsCalm (s : Step) : Type 0 where
  pub stays : takes_up s ≡ false
  pub none : brings s ≡ false

calm_total : (f : Flow) (s : Step) → IsGiven f s → IsCalm s → total (happens f s) ≡ total f
calm_total f s g c =
    let h = goes-up f in
    ap (λ l. l ++ ready (happens f s)) (h.stays s g c.stays) ∙ ap (λ l. handed_up f ++ l) (h.same s g c.stays c.none)

pub calm_goes : (f : Flow) (s : Step) (tx : Sender) (rx : Receiver) (cs : List Copy) (rs : List Report) (b : Bool)
    (ps : List Passing) → passed_in f s ≡ ps → IsGiven f s → IsCalm s → Stands tx rx cs rs b (happens f s)
    → Goes f tx rx cs rs b (offers s) [] ps
calm_goes f s tx rx cs rs b ps e g c h = record {
  steps = s ∷ [];
  given = (g, tt);
  stands = h;
  offered_is = step-offers f s;
  total_is = calm_total f s g c ∙ sym (append-nil (total f));
  passed_is = append-nil (passed_in f s) ∙ e;
}

-- ---- an SDU goes up, of those that are ready

up_total : (f : Flow) → total (happens f (Receives Up)) ≡ total f
up_total f =
    let h = goes-up f in
    ap (λ l. l ++ ready (happens f (Receives Up))) h.gone ∙ ap (λ l. (handed_up f ++ take 1 (ready f)) ++ l) h.rest
    ∙ append_assoc (handed_up f) (take 1 (ready f)) (drop 1 (ready f))
    ∙ ap (λ l. handed_up f ++ l) (take-append-drop 1 (ready f))

pub own_total : (f : Flow) (c : ReceiverCall) → IsOfReceiver c → total (happens f (Receives c)) ≡ total f
own_total f (Arrive pdu) own = absurd own
own_total f Up own = up_total f
own_total f Write own = absurd own
own_total f ExpireReorder own = calm_total f (Receives ExpireReorder) tt (record { stays = refl; none = refl })
own_total f ExpireProhibit own = calm_total f (Receives ExpireProhibit) tt (record { stays = refl; none = refl })
own_total f TickReorder own = calm_total f (Receives TickReorder) tt (record { stays = refl; none = refl })
own_total f TickProhibit own = calm_total f (Receives TickProhibit) tt (record { stays = refl; none = refl })

-- ---- one behind the other

more_is : (xs ys zs a b : List (List ℕ)) → ys ≡ xs ++ a → zs ≡ ys ++ b → zs ≡ xs ++ (a ++ b)
more_is xs ys zs a b p q = q ∙ ap (λ (l : List (List ℕ)). l ++ b) p ∙ append_assoc xs a b

pub goes_then : (f : Flow) (tx ty : Sender) (rx ry : Receiver) (cs ds : List Copy) (rs ss : List Report)
    (b c : Bool) (sdus more ups later : List (List ℕ)) (ps qs : List Passing)
    → Goes f tx rx cs rs b sdus ups ps → ((g : Flow) → Stands tx rx cs rs b g → Goes g ty ry ds ss c more later qs)
    → Goes f ty ry ds ss c (sdus ++ more) (ups ++ later) (ps ++ qs)
goes_then f tx ty rx ry cs ds rs ss b c sdus more ups later ps qs m go =
    let g = goes m.steps f in
    let n : Goes g ty ry ds ss c more later qs = go g m.stands in
    let same = sym (goes_more f m.steps n.steps) in
    record {
      steps = m.steps ++ n.steps;
      given = given_more f m.steps n.steps m.given n.given;
      stands = subst (Stands ty ry ds ss c) same n.stands;
      offered_is = ap offered (sym same)
          ∙ more_is (offered f) (offered g) (offered (goes n.steps g)) sdus more m.offered_is n.offered_is;
      total_is = ap total (sym same)
          ∙ more_is (total f) (total g) (total (goes n.steps g)) ups later m.total_is n.total_is;
      passed_is = passed_more m.steps n.steps f ∙ ap (λ (l : List Passing). l ++ passed n.steps g) m.passed_is
          ∙ ap (λ (l : List Passing). ps ++ l) n.passed_is;
    }

-- the same in another form
pub goes_as : (f : Flow) (tx : Sender) (rx : Receiver) (cs : List Copy) (rs : List Report) (b : Bool)
    (sdus more ups later : List (List ℕ)) (ps qs : List Passing) → sdus ≡ more → ups ≡ later → ps ≡ qs
    → Goes f tx rx cs rs b sdus ups ps → Goes f tx rx cs rs b more later qs
goes_as f tx rx cs rs b sdus more ups later ps qs p q r m = record {
  steps = m.steps;
  given = m.given;
  stands = m.stands;
  offered_is = m.offered_is ∙ ap (λ l. offered f ++ l) p;
  total_is = m.total_is ∙ ap (λ l. total f ++ l) q;
  passed_is = m.passed_is ∙ r;
}

-- where nothing new was sent
pub not_busy : (b : Bool) → b || false ≡ b
not_busy true = refl
not_busy false = refl
