-- A bearer that turns quiet may send less, and behind an expiry of its poll timer none is quiet.
use Rattle.std.proofs.Common.{◌≡◌, ◌≤◌, ℕ, ◌+◌, ◌*◌, Bool, true, false, ◌||◌, ◌&&◌, if◌then◌else◌, List, []}
use Rattle.std.proofs.Common.{◌∷◌, ◌++◌, Option, Some, None, refl, ap, sym, subst, ◌∙◌}
use Rattle.std.proofs.Common.{arith}
use Rattle.std.specs.Prelude.{slice_get, is_some, option_map}
use Rattle.std.specs.List.{AllByRecursion}
use Rattle.pdcp_pdu.specs.declared.pdu.PdcpKind.{PdcpKind}
use Rattle.pdcp_sec.specs.Protection.{Protection}
use Rattle.pdcp_rx.specs.Heard.{Heard, Bad, Told, Data, heard}
use Rattle.pdcp_tx.specs.declared.sender.Next.{Next}
use Rattle.pdcp_tx.specs.Runs.{Call as PdcpCall, Take as TakePdcp, Confirm as ConfirmPdcp, Report as ReportPdcp}
use Rattle.pdcp_tx.specs.Runs.{after as after_pdcp}
use Rattle.pdcp_tx.specs.State.{State as Sending, Offer as PdcpOffer, offers, taking, written}
use Rattle.pdcp_tx.specs.State.{start as start_pdcp}
use Rattle.rlc_am_tx.specs.Machine.{State as Sender, is_empty, is_shut}
use Rattle.law_rlc.specs.AmSender.Run.{Call as SenderCall, after}
use Rattle.law_rlc.specs.AmSender.Namings.{Marks, unmarked, marks_after}
use Rattle.law_rlc.specs.AmSender.Octets.{HasOctets}
use Rattle.law_pdcp.specs.OneEnd.Lives.{Step, Calls, SetDiscard, goes, run_pdcp_sender}
use Rattle.bearer.specs.Acknowledged.State.{State, has_more}
use Rattle.law_bearer.specs.AnyBearer.Calls.{Call, SetDiscard}
use Rattle.law_bearer.specs.AmBearer.Calls.{deeds_of}
use Rattle.law_bearer.specs.AmBearer.Deeds.{Deed, Feeds, Sends, Confirms, Receives, HandsUp, Asks, Sets, does, does_all}
use Rattle.law_bearer.specs.AmBearer.Deeds.{offered_next, confirms_first, hands_first, after_heard}
use Rattle.law_bearer.specs.AmBearer.Sending.{sends_at, sends_in}
use Rattle.law_bearer.proofs.AmBearer.Sending.{in_then}
use Rattle.law_drain.specs.Bearer.{bearer_dues, marks_behind, bearer_quiet, IsOfDrain, BearerQuietEnds}
use Rattle.law_drain.specs.Done.{IsOfRlc}
use Rattle.law_drain.specs.Dues.{dues}
use Rattle.law_drain.specs.Offers.{has_offer, KeepsOffers}
use Rattle.law_drain.specs.Quiet.{is_waiting, quiet}
use Rattle.law_drain.specs.Unsent.{unsent}
use Rattle.law_drain.proofs.BearerCalls.{behind-along}
use Rattle.law_drain.proofs.BearerDues.{spread, grows, capped, call-config, call-failed, deed-falls, deeds-fall}
use Rattle.law_drain.proofs.BearerDues.{marks_at, marks_along, marks-then}
use Rattle.law_drain.proofs.Calm.{told-none, IsCalm, AreCalm, call-calm}
use Rattle.law_drain.proofs.Come.{HasCome, first-all, last-all, come-then}
use Rattle.law_drain.proofs.FlowRound.{turns-quiet}
use Rattle.law_drain.proofs.Offering.{offers_stay}
use Rattle.law_drain.proofs.Quiet.{parts-of, joined, quiet-most, not-quiet, offer-quiet}
use Rattle.law_drain.proofs.Unsent.{unsent_falls}

-- ---- PDCP's sender as it has come

pub record HasGiven (s : Sending) : Type 0 where
  pub kind : PdcpKind
  pub p : Protection
  pub first : ℕ
  pub steps : List Step
  pub is : run_pdcp_sender steps (start_pdcp kind p first) ≡ s

run-more : (xs : List Step) (x : Step) (s : Sending)
    → run_pdcp_sender (xs ++ x ∷ []) s ≡ goes (run_pdcp_sender xs s) x
run-more [] x s = refl
run-more (y ∷ ys) x s = run-more ys x (goes s y)

pub given-step : (s : Sending) (x : Step) → HasGiven s → HasGiven (goes s x)
given-step s x h = record {
  kind = h.kind;
  p = h.p;
  first = h.first;
  steps = h.steps ++ x ∷ [];
  is = run-more h.steps x (start_pdcp h.kind h.p h.first) ∙ ap (λ (t : Sending). goes t x) h.is;
}

given-next : (s : Sending) (c : PdcpCall) → HasGiven s → HasGiven (after_pdcp s c)
given-next s c h = given-step s (Calls c) h

keeps : (s : Sending) → HasGiven s → KeepsOffers s
keeps s h = subst KeepsOffers h.is (offers_stay h.kind h.p h.first h.steps)

-- ---- what more PDCP has to give, the less it is quiet

more-quiet : (s : Sender) (before more : Bool) → (before ≡ true → more ≡ true) → quiet s more ≤ quiet s before
more-quiet s true true h = omega arith
more-quiet s true false h = let no' : false ≡ true = h refl in cc
more-quiet s false false h = omega arith
more-quiet s false true h = by (is_waiting s true) refl
  where
    or-last : (a b : Bool) → ((a && false) || b) ≡ true → ((a && true) || b) ≡ true
    or-last true b e = refl
    or-last false b e = e

    by : (b : Bool) → is_waiting s true ≡ b → (if b then 1 else 0) ≤ quiet s false
    by true e =
        let w = parts-of s true e in
        let was = joined s false (record {
          failed = w.failed;
          some = w.some;
          still = w.still;
          rest = or-last (is_empty s) (is_shut s) w.rest;
        }) in
        rw was (omega arith)
    by false e = omega arith

-- ---- a deed of a drain

abbrev pub Calms : State → State → Marks → Marks → Type 0
Calms b d m n = bearer_dues d n + bearer_quiet d ≤ bearer_dues b m + bearer_quiet b

-- less may be sent, or it is no more quiet
calms : (b d : State) (m n : Marks) → bearer_dues d n ≤ bearer_dues b m → bearer_quiet d ≤ bearer_quiet b
    → Calms b d m n
calms b d m n one two = omega (arith, one, two)

fed-quiet : (o : Option Next) (b : State) (more : Bool) → (o ≡ None → has_more b.pdcp ≡ false)
    → quiet (offered_next o b.tx) more ≤ bearer_quiet b
fed-quiet None b more h =
    more-quiet b.tx (has_more b.pdcp) more (λ e. let no' : true ≡ false = sym e ∙ h refl in cc)
fed-quiet (Some next) b more h = offer-quiet b.tx next.octets more (has_more b.pdcp)

taking-none : (s : Sending) → taking s ≡ None → has_offer s ≡ false
unfolding taking
taking-none s e = by (slice_get (offers s) 0) e
  where
    by : (o : Option PdcpOffer) → option_map (λ x. written s.kind s.protection x.count x.text) o ≡ None
        → is_some o ≡ false
    by None e = refl
    by (Some x) e = ap (λ (q : Option Next). is_some q) e

confirmed-quiet : (places : List ℕ) (b : State) → KeepsOffers b.pdcp.tx
    → bearer_quiet (confirms_first places b) ≤ bearer_quiet b
confirmed-quiet [] b k = omega arith
confirmed-quiet (place ∷ places) b k =
    more-quiet b.tx (has_offer b.pdcp.tx) (has_offer (after_pdcp b.pdcp.tx (ConfirmPdcp place))) (k.confirmed place)

-- a report that leaves nothing pays for it
reported-calms : (b : State) (m : Marks) (fms : ℕ) (bitmap : List ℕ) → KeepsOffers b.pdcp.tx
    → dues b.tx m + (if b.tx.failed then 0
    else (b.tx.config.max_retx + 1) * unsent (after_pdcp b.pdcp.tx (ReportPdcp fms bitmap)))
    + quiet b.tx (has_offer (after_pdcp b.pdcp.tx (ReportPdcp fms bitmap)))
    ≤ bearer_dues b m + bearer_quiet b
reported-calms b m fms bitmap k = by b.tx.failed (has_offer s) (has_offer t) refl refl refl
  where
    s : Sending
    s = b.pdcp.tx

    t : Sending
    t = after_pdcp b.pdcp.tx (ReportPdcp fms bitmap)

    M : ℕ
    M = b.tx.config.max_retx

    falls : unsent t ≤ unsent s
    falls = let one = unsent_falls s (ReportPdcp fms bitmap) in omega (arith, one)

    -- no more of PDCP, and it is no more quiet
    same : (f : Bool) → quiet b.tx (has_offer t) ≤ quiet b.tx (has_offer s)
        → dues b.tx m + (if f then 0 else (M + 1) * unsent t) + quiet b.tx (has_offer t)
        ≤ dues b.tx m + (if f then 0 else (M + 1) * unsent s) + quiet b.tx (has_offer s)
    same true le = omega (arith, le)
    same false le = let all = grows M (unsent t) (unsent s) falls in omega (arith, le, all)

    by : (f before more : Bool) → b.tx.failed ≡ f → has_offer s ≡ before → has_offer t ≡ more
        → dues b.tx m + (if b.tx.failed then 0 else (M + 1) * unsent t) + quiet b.tx (has_offer t)
        ≤ dues b.tx m + (if b.tx.failed then 0 else (M + 1) * unsent s) + quiet b.tx (has_offer s)
    by f before true e q r = same b.tx.failed (more-quiet b.tx (has_offer s) (has_offer t) (λ x. r))
    by f false false e q r = same b.tx.failed
        (more-quiet b.tx (has_offer s) (has_offer t) (λ x. let no' : true ≡ false = sym x ∙ q in cc))
    by true true false e q r = same b.tx.failed
        (let none = not-quiet b.tx (has_offer t) (λ w. let f = (parts-of b.tx (has_offer t) w).failed in
        let no' : true ≡ false = sym e ∙ f in cc) in omega (arith, none))
    by false true false e q r =
        subst (λ (f : Bool). dues b.tx m + (if f then 0 else (M + 1) * unsent t) + quiet b.tx (has_offer t)
        ≤ dues b.tx m + (if f then 0 else (M + 1) * unsent s) + quiet b.tx (has_offer s)) (sym e)
        (let less = k.reported fms bitmap q r in
        let all = grows M (unsent t + 1) (unsent s) less in
        omega (arith, all, spread M (unsent t) 1, quiet-most b.tx (has_offer t)))

heard-calms : (h : Heard) (b : State) (m : Marks) → KeepsOffers b.pdcp.tx
    → dues b.tx m + (if b.tx.failed then 0 else (b.tx.config.max_retx + 1) * unsent (after_heard h b.pdcp.tx))
    + quiet b.tx (has_offer (after_heard h b.pdcp.tx)) ≤ bearer_dues b m + bearer_quiet b
heard-calms (Bad refusal) b m k = omega arith
heard-calms (Told fms bitmap) b m k = reported-calms b m fms bitmap k
heard-calms (Data sn body) b m k = omega arith

handed-calms : (sdus : List (List ℕ)) (b : State) (m : Marks) → KeepsOffers b.pdcp.tx → Calms b (hands_first sdus b) m m
handed-calms [] b m k = omega arith
handed-calms (sdu ∷ sdus) b m k = heard-calms (heard b.pdcp.rx.kind sdu) b m k

sends-calms : (b : State) (c : SenderCall) (m : Marks) → HasCome b.tx m → HasOctets c → IsOfRlc c
    → Calms b (does b (Sends c)) m (marks_after b.tx c m)
sends-calms b c m h one told =
    subst
    (λ (k : _). dues (after b.tx c) (marks_after b.tx c m)
    + (if (after b.tx c).failed then 0 else (k.max_retx + 1) * unsent b.pdcp.tx)
    + quiet (after b.tx c) (has_more b.pdcp) ≤ bearer_dues b m + bearer_quiet b) (sym (call-config b.tx c))
    (capped b.tx.failed (after b.tx c).failed (b.tx.config.max_retx + 1) (unsent b.pdcp.tx)
    (dues (after b.tx c) (marks_after b.tx c m)) (dues b.tx m) (quiet (after b.tx c) (has_more b.pdcp))
    (bearer_quiet b) (call-failed b.tx c)
    (let pays = (turns-quiet (record { state = b.tx; past = m }) (has_more b.pdcp) h).pays c one in
    omega (arith, pays, told-none b.tx c told)))

deed-calms : (deed : Deed) (b : State) (m : Marks) → HasCome b.tx m → HasGiven b.pdcp.tx
    → AllByRecursion HasOctets (sends_at b deed) → IsCalm deed → Calms b (does b deed) m (marks_at b deed m)
deed-calms Feeds b m h g some calm =
    let f = deed-falls Feeds b m h some in
    calms b (does b Feeds) m (marks_at b Feeds m) (omega (arith, f.falls))
    (fed-quiet (taking b.pdcp.tx) b (has_offer (after_pdcp b.pdcp.tx TakePdcp)) (taking-none b.pdcp.tx))
deed-calms (Sends c) b m h g some calm = sends-calms b c m h some.0 calm
deed-calms Confirms b m h g some calm =
    let f = deed-falls Confirms b m h some in
    calms b (does b Confirms) m (marks_at b Confirms m) (omega (arith, f.falls))
    (confirmed-quiet b.tx.accounts.news b (keeps b.pdcp.tx g))
deed-calms (Receives c) b m h g some calm = omega arith
deed-calms HandsUp b m h g some calm = handed-calms b.rx.out.ready b m (keeps b.pdcp.tx g)
deed-calms (Asks c) b m h g some calm = absurd calm
deed-calms (Sets ttis) b m h g some calm = absurd calm

confirmed-given : (places : List ℕ) (b : State) → HasGiven b.pdcp.tx → HasGiven (confirms_first places b).pdcp.tx
confirmed-given [] b g = g
confirmed-given (place ∷ places) b g = given-next b.pdcp.tx (ConfirmPdcp place) g

heard-given : (h : Heard) (s : Sending) → HasGiven s → HasGiven (after_heard h s)
heard-given (Bad refusal) s g = g
heard-given (Told fms bitmap) s g = given-next s (ReportPdcp fms bitmap) g
heard-given (Data sn body) s g = g

handed-given : (sdus : List (List ℕ)) (b : State) → HasGiven b.pdcp.tx → HasGiven (hands_first sdus b).pdcp.tx
handed-given [] b g = g
handed-given (sdu ∷ sdus) b g = heard-given (heard b.pdcp.rx.kind sdu) b.pdcp.tx g

deed-given : (deed : Deed) (b : State) → HasGiven b.pdcp.tx → HasGiven (does b deed).pdcp.tx
deed-given Feeds b g = given-next b.pdcp.tx TakePdcp g
deed-given (Sends c) b g = g
deed-given Confirms b g = confirmed-given b.tx.accounts.news b g
deed-given (Receives c) b g = g
deed-given HandsUp b g = handed-given b.rx.out.ready b g
deed-given (Asks c) b g = given-next b.pdcp.tx c g
deed-given (Sets ttis) b g = given-step b.pdcp.tx (SetDiscard ttis) g

pub deeds-given : (deeds : List Deed) (b : State) → HasGiven b.pdcp.tx → HasGiven (does_all deeds b).pdcp.tx
deeds-given [] b g = g
deeds-given (deed ∷ deeds) b g = deeds-given deeds (does b deed) (deed-given deed b g)

-- ---- any deeds of a drain

pub deeds-calm : (deeds : List Deed) (b : State) (m : Marks) → HasCome b.tx m → HasGiven b.pdcp.tx
    → AllByRecursion HasOctets (sends_in deeds b) → AreCalm deeds → Calms b (does_all deeds b) m (marks_along deeds b m)
deeds-calm [] b m h g some calm = omega arith
deeds-calm (deed ∷ deeds) b m h g some calm =
    let now = first-all (sends_at b deed) (sends_in deeds (does b deed)) some in
    let one = deed-calms deed b m h g now calm.0 in
    let run = (deed-falls deed b m h now).run in
    let come = come-then (sends_at b deed) b.tx (does b deed).tx m (marks_at b deed m) h now run in
    let rest = deeds-calm deeds (does b deed) (marks_at b deed m) come (deed-given deed b g)
    (last-all (sends_at b deed) (sends_in deeds (does b deed)) some) calm.1 in
    omega (arith, one, rest)

pub bearer_quiet_ends : BearerQuietEnds
bearer_quiet_ends b kind p first steps deeds given e before = record {
  pays = pays;
  ends = λ running. (turns-quiet (record { state = now.tx; past = m }) (has_more now.pdcp) come).ends running;
}
  where
    now : State
    now = does_all deeds b

    begins : HasCome b.tx unmarked
    begins = record {
      config = b.tx_config;
      calls = [];
      some = tt;
      is = ap (λ (s : Sender). record { state = s; past = unmarked }) (sym e);
    }

    m : Marks
    m = marks_along deeds b unmarked

    come : HasCome now.tx m
    come = come-then (sends_in deeds b) b.tx now.tx unmarked m begins before
        (deeds-fall deeds b unmarked begins before).run

    gives : HasGiven now.pdcp.tx
    gives = deeds-given deeds b (record { kind = kind; p = p; first = first; steps = steps; is = sym given })

    pays : (c : Call) → IsOfDrain c → AllByRecursion HasOctets (sends_in (deeds ++ deeds_of now c) b)
        → bearer_dues (does_all (deeds_of now c) now) (marks_behind b (deeds ++ deeds_of now c))
        + bearer_quiet (does_all (deeds_of now c) now)
        ≤ bearer_dues now (marks_behind b deeds) + bearer_quiet now
    pays c drains some =
        let parts : AllByRecursion HasOctets (sends_in deeds b ++ sends_in (deeds_of now c) now) =
        subst (λ (cs : List SenderCall). AllByRecursion HasOctets cs) (in_then deeds (deeds_of now c) b) some in
        let calm = deeds-calm (deeds_of now c) now m come gives
        (last-all (sends_in deeds b) (sends_in (deeds_of now c) now) parts) (call-calm now c drains) in
        let was : marks_behind b deeds ≡ m = behind-along b deeds e before begins in
        let is : marks_behind b (deeds ++ deeds_of now c) ≡ marks_along (deeds_of now c) now m =
        behind-along b (deeds ++ deeds_of now c) e some begins ∙ marks-then deeds (deeds_of now c) b unmarked in
        rw (was, is) calm
