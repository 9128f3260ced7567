-- What the flows of a way stand at, and how a way goes on where PDCP takes no new SDU and gives nothing to RLC.
use Rattle.std.proofs.Common.{◌≡◌, ℕ, Bool, List, [], ◌++◌, map, length, append-nil, refl, ap, sym, subst}
use Rattle.std.proofs.Common.{◌∙◌}
use Rattle.std.specs.List.{AllByRecursion}
use Rattle.pdcp_tx.specs.declared.sender.Next.{Next}
use Rattle.pdcp_tx.specs.State.{State as Sending}
use Rattle.pdcp_rx.specs.State.{State as Receiving}
use Rattle.rlc_am_tx.specs.Machine.{State as Sender}
use Rattle.rlc_am_rx.specs.State.{State as Receiver}
use Rattle.law_rlc.specs.AmPair.Flow.{Copy, Report, Flow as Rlc, Step as RlcStep, goes as rlc_goes}
use Rattle.law_rlc.specs.AmPair.Given.{AreGiven as AreGivenSteps}
use Rattle.law_rlc.specs.AmPair.Confirmed.{confirmed}
use Rattle.law_rlc.specs.AmPair.Sdus.{offered, handed_up}
use Rattle.law_rlc.specs.AmPair.Arrives.{arrives}
use Rattle.law_pdcp.specs.AmPair.Flow.{Flow as Pdcp, Event, run_am_pdcp, AreGiven as AreGivenEvents}
use Rattle.law_words.specs.Passing.{with_passings}
use Rattle.law_rlc.specs.AmArrival.Arrival.{passed}
use Rattle.law_words.specs.Arrivals.{AccountEntry, account}
use Rattle.law_deliver.specs.AmFlow.Pair.{BearerEnd}
use Rattle.law_deliver.proofs.AmFlow.Standing.{Stands}
use Rattle.law_deliver.proofs.AmFlow.Flows.{stands_as, is_flow}
use Rattle.law_deliver.proofs.AmDelivery.Joined.{Way, IsWay, rlc, pdcp, Joins, IsReportOf, Reports}
use Rattle.law_deliver.proofs.AmDelivery.Accounts.{told_of, told_more, TellsOn, agrees_at}
use Rattle.law_deliver.proofs.AmDelivery.Ways.{with_more, goes_on}
use Rattle.law_deliver.proofs.AmDelivery.Promises.{GoesOn}

-- where a way stands: the entities of both ends, and what is under way
pub record Standing : Type 0 where
  pub tx : Sender
  pub rx : Receiver
  pub sending : Sending
  pub receiving : Receiving
  pub copies : List Copy
  pub reports : List Report
  pub busy : Bool

abbrev pub standing : BearerEnd → BearerEnd → Standing
standing from to = record {
  tx = from.bearer.tx;
  rx = to.bearer.rx;
  sending = from.bearer.pdcp.tx;
  receiving = to.bearer.pdcp.rx;
  copies = from.copies;
  reports = to.reports;
  busy = from.busy;
}

pub record Meets (f : Rlc) (g : Pdcp) (a : Standing) : Type 0 where
  pub stands : Stands a.tx a.rx a.copies a.reports a.busy f
  pub sender_is : g.sender ≡ a.sending
  pub receiver_is : g.receiver ≡ a.receiving
  pub stream_is : map (λ (n : Next). n.octets) g.stream ≡ offered f
  pub passed_is : g.passed ≡ length (handed_up f)
  pub whole_is : (k : ℕ) → g.whole k ≡ arrives f k

abbrev pub MeetsNow : Way → Standing → Type 0
MeetsNow w a = Meets (rlc w) (pdcp w) a

pub meets_as : (w : Way) (from to : BearerEnd) → Joins w from to → MeetsNow w (standing from to)
meets_as w from to h = record {
  stands = stands_as from to (rlc w) h.rlc_is;
  sender_is = h.sender_is;
  receiver_is = h.receiver_is;
  stream_is = h.stream_is;
  passed_is = h.passed_is;
  whole_is = h.whole_is;
}

joins_as : (w : Way) (from to : BearerEnd) → MeetsNow w (standing from to) → Joins w from to
joins_as w from to h = record {
  rlc_is = is_flow from to (rlc w) h.stands;
  sender_is = h.sender_is;
  receiver_is = h.receiver_is;
  stream_is = h.stream_is;
  passed_is = h.passed_is;
  whole_is = h.whole_is;
}

-- ---- it goes on

-- what was taken, what RLC was given, the report of the last life's end and what is owed stay
pub record Stays (g h : Pdcp) : Type 0 where
  pub sdus : h.sdus ≡ g.sdus
  pub stream : h.stream ≡ g.stream
  pub report : h.report ≡ g.report
  pub owed : h.sender.owed ≡ g.sender.owed

pub none_changes : (g : Pdcp) → Stays g g
none_changes g = record { sdus = refl; stream = refl; report = refl; owed = refl }

-- by events and steps
pub record Extends (w : Way) (a : Standing) (ups : List (List ℕ)) (told : List AccountEntry)
    (raised : List (List ℕ)) (news : List ℕ) : Type 0 where
  pub events : List Event
  pub steps : List RlcStep
  pub events_given : AreGivenEvents (pdcp w) events
  pub steps_given : AreGivenSteps (rlc w) steps
  pub meets : Meets (rlc_goes steps (rlc w)) (run_am_pdcp events (pdcp w)) a
  pub stays : Stays (pdcp w) (run_am_pdcp events (pdcp w))
  pub ups_are : (run_am_pdcp events (pdcp w)).up ≡ (pdcp w).up ++ ups
  pub tells : TellsOn told (pdcp w) (told_of w) (run_am_pdcp events (pdcp w))
      (with_passings (passed steps (rlc w)) (told_of w))
  -- what RLC hands up, and what it newly confirms
  pub handed_is : handed_up (rlc_goes steps (rlc w)) ≡ handed_up (rlc w) ++ raised
  pub confirmed_is : confirmed (rlc_goes steps (rlc w)) ≡ confirmed (rlc w) ++ news

-- nothing happens
pub rests : (w : Way) (a : Standing) → MeetsNow w a → Extends w a [] [] [] []
rests w a h = record {
  events = [];
  steps = [];
  events_given = tt;
  steps_given = tt;
  meets = h;
  stays = none_changes (pdcp w);
  ups_are = sym (append-nil (pdcp w).up);
  tells = λ b k. k;
  handed_is = sym (append-nil (handed_up (rlc w)));
  confirmed_is = sym (append-nil (confirmed (rlc w)));
}

-- the way behind it
pub record Extended (w : Way) (from to : BearerEnd) (ups : List (List ℕ)) (told : List AccountEntry)
    (raised : List (List ℕ)) (news : List ℕ) : Type 0 where
  pub after : Way
  pub is : IsWay after
  pub bits : after.bits ≡ w.bits
  pub joins : Joins after from to
  pub stays : Stays (pdcp w) (pdcp after)
  pub goes : GoesOn w after [] ups told
  pub handed_is : handed_up (rlc after) ≡ handed_up (rlc w) ++ raised
  pub confirmed_is : confirmed (rlc after) ≡ confirmed (rlc w) ++ news

pub extended : (w : Way) (from to : BearerEnd) (ups : List (List ℕ)) (told : List AccountEntry)
    (raised : List (List ℕ)) (news : List ℕ) → IsWay w
    → Extends w (standing from to) ups told raised news → Extended w from to ups told raised news
extended w from to ups told raised news h x =
    let v : Way = with_more x.events x.steps w in
    let more = goes_on x.events x.steps w h x.events_given x.steps_given in
    let a : Standing = standing from to in
    let stays : Stays (pdcp w) (pdcp v) = subst (Stays (pdcp w)) (sym more.pdcp_is) x.stays in
    record {
      after = v;
      is = more.is;
      bits = refl;
      joins =
          joins_as v from to
          (subst (λ (f : Rlc). Meets f (pdcp v) a) (sym more.rlc_is)
          (subst (λ (q : Pdcp). Meets (rlc_goes x.steps (rlc w)) q a) (sym more.pdcp_is) x.meets));
      stays = stays;
      goes = record {
        bits = refl;
        protection = refl;
        first = refl;
        sdus_are = stays.sdus ∙ sym (append-nil (pdcp w).sdus);
        ups_are = ap (λ (q : Pdcp). q.up) more.pdcp_is ∙ x.ups_are;
        tells = λ b k. agrees_at (account told b) (run_am_pdcp x.events (pdcp w)) (pdcp v)
            (with_passings (passed x.steps (rlc w)) (told_of w)) (told_of v) more.pdcp_is (told_more w x.steps)
            (x.tells b k);
      };
      handed_is = ap handed_up more.rlc_is ∙ x.handed_is;
      confirmed_is = ap confirmed more.rlc_is ∙ x.confirmed_is;
    }

pub reports_stay : (w back v under : Way) → Stays (pdcp w) (pdcp v) → Stays (pdcp back) (pdcp under) → Reports w back
    → Reports v under
reports_stay w back v under s b h = record {
  owed = λ r e. s.report ∙ h.owed r (sym b.owed ∙ e);
  sent = subst (λ (l : List Next). AllByRecursion (IsReportOf (pdcp v).report) l) (sym b.stream)
      (subst (λ o. AllByRecursion (IsReportOf o) (pdcp back).stream) (sym s.report) h.sent);
}
