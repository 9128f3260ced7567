-- A direction goes on by events of PDCP and by steps of RLC.
use Rattle.std.proofs.Common.{◌≡◌, List, [], ◌∷◌, ◌++◌, refl}
use Rattle.law_rlc.specs.AmPair.Flow.{Step as RlcStep, goes as rlc_goes, am_rlc_outset}
use Rattle.law_rlc.specs.AmPair.Given.{AreGiven as AreGivenSteps}
use Rattle.law_pdcp.specs.AmPair.Flow.{Flow as Pdcp, Event, happens as pdcp_happens, run_am_pdcp}
use Rattle.law_pdcp.specs.AmPair.Flow.{am_pdcp_outset, AreGiven as AreGivenEvents}
use Rattle.law_deliver.proofs.AmFlow.Standing.{goes_more, given_more}
use Rattle.law_deliver.proofs.AmDelivery.Joined.{Way, IsWay, rlc, pdcp}

pub run_more : (g : Pdcp) (xs ys : List Event) → run_am_pdcp (xs ++ ys) g ≡ run_am_pdcp ys (run_am_pdcp xs g)
run_more g [] ys = refl
run_more g (x ∷ xs) ys = run_more (pdcp_happens g x) xs ys

pub given_events_more : (g : Pdcp) (xs ys : List Event) → AreGivenEvents g xs → AreGivenEvents (run_am_pdcp xs g) ys
    → AreGivenEvents g (xs ++ ys)
given_events_more g [] ys (given) more = more
given_events_more g (x ∷ xs) ys (given) more = (given.0, given_events_more (pdcp_happens g x) xs ys given.1 more)

-- ---- a direction with more of both

abbrev pub with_more : List Event → List RlcStep → Way → Way
with_more xs ss w = record w { events = w.events ++ xs; steps = w.steps ++ ss }

-- it has the same bits, protection, first COUNT and RLC entities
pub record IsMore (xs : List Event) (ss : List RlcStep) (w : Way) : Type 0 where
  pub is : IsWay (with_more xs ss w)
  pub pdcp_is : pdcp (with_more xs ss w) ≡ run_am_pdcp xs (pdcp w)
  pub rlc_is : rlc (with_more xs ss w) ≡ rlc_goes ss (rlc w)

pub goes_on : (xs : List Event) (ss : List RlcStep) (w : Way) → IsWay w → AreGivenEvents (pdcp w) xs
    → AreGivenSteps (rlc w) ss → IsMore xs ss w
goes_on xs ss w h events steps = record {
  is = record {
    kind = h.kind;
    first = h.first;
    events = given_events_more (am_pdcp_outset w.bits w.protection w.first) w.events xs h.events events;
    steps = given_more (am_rlc_outset w.sending w.receiving) w.steps ss h.steps steps;
  };
  pdcp_is = run_more (am_pdcp_outset w.bits w.protection w.first) w.events xs;
  rlc_is = goes_more (am_rlc_outset w.sending w.receiving) w.steps ss;
}
