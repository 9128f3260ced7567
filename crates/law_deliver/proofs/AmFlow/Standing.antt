-- What a flow stands at, and steps that bring it on.
use Rattle.std.proofs.Common.{◌≡◌, ℕ, zero, suc, Bool, true, false, ◌||◌, List, [], ◌∷◌, ◌++◌, map, Some, None}
use Rattle.std.proofs.Common.{slice_get, refl, sym, subst}
use Rattle.rlc_am_tx.specs.Machine.{State as Sender}
use Rattle.rlc_am_rx.specs.State.{State as Receiver}
use Rattle.law_rlc.specs.AmPair.Flow.{Copy, Report, Flow, Step, sender, receiver, happens, goes}
use Rattle.law_rlc.specs.AmPair.Given.{IsGiven, AreGiven}

pub record Stands (tx : Sender) (rx : Receiver) (copies : List Copy) (reports : List Report) (busy : Bool)
    (f : Flow) :
    Type 0 where
  pub sender_is : (sender f).state ≡ tx
  pub receiver_is : (receiver f).state ≡ rx
  pub copies_are : f.copies ≡ copies
  pub reports_are : f.reports ≡ reports
  pub busy_is : f.busy ≡ busy

-- steps bring a flow there
pub record Goes (f : Flow) (tx : Sender) (rx : Receiver) (copies : List Copy) (reports : List Report)
    (busy : Bool) :
    Type 0 where
  pub steps : List Step
  pub given : AreGiven f steps
  pub stands : Stands tx rx copies reports busy (goes steps f)

pub goes_more : (f : Flow) (ss ts : List Step) → goes (ss ++ ts) f ≡ goes ts (goes ss f)
goes_more f [] ts = refl
goes_more f (s ∷ ss) ts = goes_more (happens f s) ss ts

pub given_more : (f : Flow) (ss ts : List Step) → AreGiven f ss → AreGiven (goes ss f) ts → AreGiven f (ss ++ ts)
given_more f [] ts g h = h
given_more f (s ∷ ss) ts g h = (g.0, given_more (happens f s) ss ts g.1 h)

pub stays : (f : Flow) (tx : Sender) (rx : Receiver) (cs : List Copy) (rs : List Report) (b : Bool)
    → Stands tx rx cs rs b f → Goes f tx rx cs rs b
stays f tx rx cs rs b h = record { steps = []; given = tt; stands = h }

pub steps_once : (f : Flow) (s : Step) (tx : Sender) (rx : Receiver) (cs : List Copy) (rs : List Report) (b : Bool)
    → IsGiven f s → Stands tx rx cs rs b (happens f s) → Goes f tx rx cs rs b
steps_once f s tx rx cs rs b g h = record { steps = s ∷ []; given = (g, tt); stands = h }

pub goes_on : (f : Flow) (tx ty : Sender) (rx ry : Receiver) (cs ds : List Copy) (rs ss : List Report) (b c : Bool)
    → Goes f tx rx cs rs b → ((g : Flow) → Stands tx rx cs rs b g → Goes g ty ry ds ss c) → Goes f ty ry ds ss c
goes_on f tx ty rx ry cs ds rs ss b c m more =
    let n : Goes (goes m.steps f) ty ry ds ss c = more (goes m.steps f) m.stands in
    record {
      steps = m.steps ++ n.steps;
      given = given_more f m.steps n.steps m.given n.given;
      stands = subst (Stands ty ry ds ss c) (sym (goes_more f m.steps n.steps)) n.stands;
    }

pub or_none : (b : Bool) → b ≡ b || false
or_none true = refl
or_none false = refl

-- nothing new was sent
pub none_new : (f : Flow) (tx : Sender) (rx : Receiver) (cs : List Copy) (rs : List Report) (b : Bool)
    → Goes f tx rx cs rs b → Goes f tx rx cs rs (b || false)
none_new f tx rx cs rs b h = subst (Goes f tx rx cs rs) (or_none b) h

-- ---- places of lists

pub at_place : {A : Type 0} {B : Type 0} (g : A → B) (xs : List A) (k : ℕ) (y : B) → slice_get (map g xs) k ≡ Some y
    → (x : A) × (slice_get xs k ≡ Some x) × (g x ≡ y)
at_place g [] k y e = let no : None ≡ Some y = e in absurd cc
at_place g (x ∷ xs) zero y e = let same : Some (g x) ≡ Some y = e in (x, refl, cc)
at_place g (x ∷ xs) (suc k) y e = at_place g xs k y e
