-- What the bearer of a channel logs in a call of its end goes along calls of its RLC's sender.
use Rattle.std.proofs.Common.{◌++◌, append_assoc, ◌≡◌, ℕ, ◌-◌, ◌==◌, Bool, true, false, if◌then◌else◌, List, [], ◌∷◌}
use Rattle.std.proofs.Common.{refl, ap, sym, subst, ◌∙◌}
use Rattle.std.specs.List.{AllByRecursion}
use Rattle.bearer.specs.Acknowledged.State.{State}
use Rattle.bearer.specs.Acknowledged.Taking.{writes_status, status_pdu, status_pdus}
use Rattle.bearer.specs.declared.flow.Flow.{Flow}
use Rattle.bearer.specs.declared.flow.Flow.TheVariants.{Am}
use Rattle.bearer_types.specs.Sides.{heard_by}
use Rattle.harq.specs.declared.sender.Visit.{Visit}
use Rattle.harq.specs.declared.sender.Visit.TheVariants.{New, Resend, Silent}
use Rattle.l2_node.specs.Building.{visit, visited}
use Rattle.l2_node.specs.End.{End}
use Rattle.l2_node.specs.Finding.{find, bearer_at}
use Rattle.l2_node.specs.Submitting.{refusal}
use Rattle.prioritise.specs.Channels.{has as has_channel}
use Rattle.rlc_am_rx.specs.Status.{ack}
use Rattle.law_bearer.specs.AnyBearer.Calls.{Call as BearerCall, Submit as Submits, Take as Takes, Arrive as Arrives}
use Rattle.law_bearer.specs.AnyBearer.Calls.{Expire as Expires, Tick as Ticks, SetDiscard as SetsDiscard}
use Rattle.law_bearer.specs.AnyBearer.Calls.{after as bearer_after, after_all}
use Rattle.law_deliver.specs.AmFlow.Channels.{only, share_of, held_of, takes_of, calls_of}
use Rattle.law_deliver.specs.AmFlow.Pair.{called}
use Rattle.law_deliver.proofs.AmFlow.Channels.{calls_reach_bearers}
use Rattle.law_deliver.proofs.AmFlow.Sending.{is_called}
use Rattle.law_node.specs.Calls.{Turn, Call, SetVisits, SetReports, Add, Submit, SetDiscard, Tick, TickBuckets, Visits}
use Rattle.law_node.specs.Calls.{Grants, Granted, Assigned, Pass, Receive, Expire, Move, after, reached}
use Rattle.law_node.specs.Holding.{flow}
use Rattle.law_node.proofs.Keeping.{at_is, reached_are}
use Rattle.law_node.proofs.Reading.{report_reads}
use Rattle.law_node.proofs.Ready.{WritesWell, ready_kept}
use Rattle.promises.specs.Pdus.{carried}
use Rattle.law_deliver.specs.AmFlow.Channels.{GoesOnInLife}
use Rattle.law_deliver.specs.AmFlow.Ups.{calls_over}
use Rattle.law_deliver.proofs.AmFlow.Ups.{Stands, stands, ends_tell_over}
use Rattle.l2_types.specs.declared.side.Side.{Side}
use Rattle.law_node.specs.Calls.{AreGiven, run_end}
use Rattle.law_run.specs.TwoEnds.SenderLog.{BearerEntry, EndsGoAlongOver}
use Rattle.law_run.proofs.OwnPdus.Ends.{in_life_stands, reaches, well_at}
use Rattle.law_run.specs.TwoEnds.SenderLog.{ReadsAsStatus, GoesAlong, WritesStatuses, bearer_log, bearer_logs}
use Rattle.law_run.specs.TwoEnds.SenderLog.{EndsGoAlong}
use Rattle.law_run.proofs.OwnPdus.Bearers.{IsQuiet, quiet_only, quiet_submits, quiet_arrives}
use Rattle.law_run.proofs.SenderLog.{OfCalls, IsMet, call_along, GoesBy, AsksNoMore, goes_both, goes_not, goes_along}
use Rattle.law_run.proofs.SenderLog.{AnyCall, asks_none, written_met, along_deeds}

-- ---- calls of a bearer

abbrev pub AreMet : OfCalls → State → List BearerCall → Type 0
AreMet Q b [] = Unit {0}
AreMet Q b (c ∷ cs) = IsMet ReadsAsStatus Q b c × AreMet Q (called b c) cs

pub record GoesTo (Q : OfCalls) (l : ℕ) (b : State) (cs : List BearerCall) : Type 0 where
  pub bearer : State
  pub is : after_all (Am b) cs ≡ Am bearer
  pub along : GoesBy Q b.tx bearer.tx (bearer_logs l (Am b) cs)

module _ (Q : OfCalls) (few : AsksNoMore Q) where
  call_to : (l : ℕ) (b : State) (c : BearerCall) → IsMet ReadsAsStatus Q b c
      → GoesBy Q b.tx (called b c).tx (bearer_log l (Am b) c)
  call_to l b c m =
      let x = call_along ReadsAsStatus Q (λ s es t. GoesBy Q s t es) (goes_along Q few) l b c m in
      let same : Am x.bearer ≡ Am (called b c) = sym x.flow_is ∙ is_called b c in
      let bearer : x.bearer ≡ called b c = cc in
      subst (λ (y : State). GoesBy Q b.tx y.tx (bearer_log l (Am b) c)) bearer x.kept

  pub all_along : (l : ℕ) (cs : List BearerCall) (b : State) → AreMet Q b cs → GoesTo Q l b cs
  all_along l [] b m = record { bearer = b; is = refl; along = goes_not Q b.tx }
  all_along l (c ∷ cs) b m =
      let d = called b c in
      let q : bearer_after (Am b) c ≡ Am d = is_called b c in
      let rest = all_along l cs d m.1 in
      record {
        bearer = rest.bearer;
        is = ap (λ (f : Flow). after_all f cs) q ∙ rest.is;
        along = goes_both Q b.tx d.tx rest.bearer.tx (bearer_log l (Am b) c) (bearer_logs l (bearer_after (Am b) c) cs)
            (call_to l b c m.0)
            (subst (λ (f : Flow). GoesBy Q d.tx rest.bearer.tx (bearer_logs l f cs)) (sym q) rest.along);
      }

-- ---- the STATUS PDUs that they write

abbrev AreWritten : State → List BearerCall → Type 0
AreWritten b [] = Unit {0}
AreWritten b (c ∷ cs) = WritesStatuses b c × AreWritten (called b c) cs

all_met : (cs : List BearerCall) (b : State) → AreWritten b cs → AreMet AnyCall b cs
all_met [] b w = tt
all_met (c ∷ cs) b w = (written_met b c w.0, all_met cs (called b c) w.1)

quiet_one : (b : State) (c : BearerCall) → IsQuiet c → WritesStatuses b c
quiet_one b (Submits sdu) q = tt
quiet_one b (Takes share held) q = absurd q
quiet_one b (Arrives pdu) q = tt
quiet_one b (Expires clock) q = tt
quiet_one b Ticks q = tt
quiet_one b (SetsDiscard ttis) q = tt

quiet_written : (cs : List BearerCall) (b : State) → AllByRecursion IsQuiet cs → AreWritten b cs
quiet_written [] b q = tt
quiet_written (c ∷ cs) b q = (quiet_one b c q.0, quiet_written cs (called b c) q.1)

one_written : (due : Bool) (octets : List ℕ) → ReadsAsStatus octets
    → AllByRecursion ReadsAsStatus (if due then octets ∷ [] else [])
one_written true octets h = (h, tt)
one_written false octets h = tt

module _ (lcid : ℕ) (b : State) (w : WritesWell lcid (Am b)) where
  pub reports_written : (share : ℕ) → AllByRecursion ReadsAsStatus (status_pdus b.rx share)
  reports_written share =
      one_written (writes_status b.rx share) (status_pdu b.rx share)
      (_, (report_reads b.rx (share - 3) (ack b.rx (share - 3)) w.ready.cells).read)

  takes_written : (here : Bool) (share : ℕ) (held : _) → AreWritten b (only here (Takes share held))
  takes_written true share held = (reports_written share, tt)
  takes_written false share held = tt

  visit_written : (v : Visit) (t : Turn) (e : End) (l : ℕ) → AreWritten b (takes_of v t e l)
  visit_written New t e l =
      takes_written (has_channel l e.buckets.channels) (share_of e t.grant l) (held_of e l)
  visit_written (Resend rv) t e l = tt
  visit_written Silent t e l = tt

  call_written : (l : ℕ) (e : End) (c : Call) → AreWritten b (calls_of l e c)
  call_written l e (SetVisits maximum) = tt
  call_written l e (SetReports reports) = tt
  call_written l e (Add config keys) = tt
  call_written l e (Submit lcid octets) =
      quiet_written _ b (quiet_submits (refusal lcid octets e) (lcid == l) octets)
  call_written l e (SetDiscard lcid ttis) = quiet_written _ b (quiet_only (lcid == l) (SetsDiscard ttis) tt)
  call_written l e Tick = (tt, tt)
  call_written l e TickBuckets = tt
  call_written l e (Visits t) = visit_written (visit t.tti t.order e) t (visited t.tti t.order e) l
  call_written l e (Grants tti) = tt
  call_written l e (Granted tti good) = tt
  call_written l e (Assigned tti ndi good) = tt
  call_written l e (Pass tti) = tt
  call_written l e (Receive block) = quiet_written _ b (quiet_arrives (carried l (heard_by e.side) block))
  call_written l e (Expire lcid clock) = quiet_written _ b (quiet_only (lcid == l) (Expires clock) tt)
  call_written l e (Move keys) = tt

-- ---- a call of an end

pub ends_go_along : EndsGoAlong
ends_go_along side maximum reports past c l b d given g life there is now =
    let r = reached side maximum reports past in
    let at = find l r.bearers in
    let w = subst (WritesWell (bearer_at r.bearers at).channel.lcid) is
    (at_is WritesWell r.bearers at ready_kept
    (reached_are WritesWell ready_kept side maximum reports past given)) in
    let x = all_along AnyCall asks_none l (calls_of l r c) b
    (all_met (calls_of l r c) b (call_written (bearer_at r.bearers at).channel.lcid b w l r c)) in
    let goes : flow l (after r c) ≡ Am x.bearer =
    calls_reach_bearers side maximum reports past c l given g life there
    ∙ (ap (λ (f : Flow). after_all f (calls_of l r c)) is ∙ x.is) in
    let same : Am x.bearer ≡ Am d = sym goes ∙ now in
    let bearer : x.bearer ≡ d = cc in
    subst (λ (y : State). GoesAlong b.tx y.tx (bearer_logs l (Am b) (calls_of l r c))) bearer
    (along_deeds AnyCall b.tx x.bearer.tx (bearer_logs l (Am b) (calls_of l r c)) x.along)

-- ---- many calls of an end in a life

logs_then : (l : ℕ) (xs ys : List BearerCall) (f : Flow)
    → bearer_logs l f (xs ++ ys) ≡ bearer_logs l f xs ++ bearer_logs l (after_all f xs) ys
logs_then l [] ys f = refl
logs_then l (x ∷ xs) ys f =
    ap (λ (es : List BearerEntry). bearer_log l f x ++ es) (logs_then l xs ys (bearer_after f x))
    ∙ sym (append_assoc (bearer_log l f x) (bearer_logs l (bearer_after f x) xs)
    (bearer_logs l (after_all (bearer_after f x) xs) ys))

all_then : (xs ys : List BearerCall) (f : Flow) → after_all f (xs ++ ys) ≡ after_all (after_all f xs) ys
all_then [] ys f = refl
all_then (x ∷ xs) ys f = all_then xs ys (bearer_after f x)

goes_then : (l : ℕ) (b : State) (xs ys : List BearerCall) (x : GoesTo AnyCall l b xs) → GoesTo AnyCall l x.bearer ys
    → GoesTo AnyCall l b (xs ++ ys)
goes_then l b xs ys x y = record {
  bearer = y.bearer;
  is = all_then xs ys (Am b) ∙ (ap (λ (f : Flow). after_all f ys) x.is ∙ y.is);
  along = subst (λ (es : List BearerEntry). GoesBy AnyCall b.tx y.bearer.tx es)
      (sym (logs_then l xs ys (Am b)
      ∙ ap (λ (f : Flow). bearer_logs l (Am b) xs ++ bearer_logs l f ys) x.is))
      (goes_both AnyCall b.tx x.bearer.tx y.bearer.tx (bearer_logs l (Am b) xs) (bearer_logs l (Am x.bearer) ys) x.along
      y.along);
}

over : (side : Side) (l : ℕ) (cs : List Call) (e : End) (b : State) → Stands side l e → AreGiven cs
    → AllByRecursion (GoesOnInLife l) cs → flow l e ≡ Am b → GoesTo AnyCall l b (calls_over l cs e)
over side l [] e b s g life is = all_along AnyCall asks_none l [] b tt
over side l (c ∷ cs) e b s g life is =
    let w = well_at side l e b s is in
    let x = all_along AnyCall asks_none l (calls_of l e c) b
    (all_met (calls_of l e c) b (call_written w.0 b w.1 l e c)) in
    let now : flow l (after e c) ≡ Am x.bearer = reaches side l e c b s life.0 is ∙ x.is in
    goes_then l b (calls_of l e c) (calls_over l cs (after e c)) x
    (over side l cs (after e c) x.bearer (in_life_stands side l e c s g.0 life.0) g.1 life.1 now)

pub ends_go_along_over : EndsGoAlongOver
ends_go_along_over side maximum reports past cs l b d given new g life there is now =
    let r = reached side maximum reports past in
    let x = over side l cs r b (stands side maximum reports past l given new there) g life is in
    let goes : flow l (run_end cs r) ≡ Am x.bearer =
    (ends_tell_over side maximum reports past cs l given new g life there).bearer_is
    ∙ (ap (λ (f : Flow). after_all f (calls_over l cs r)) is ∙ x.is) in
    let same : Am x.bearer ≡ Am d = sym goes ∙ now in
    let bearer : x.bearer ≡ d = cc in
    subst (λ (y : State). GoesAlong b.tx y.tx (bearer_logs l (Am b) (calls_over l cs r))) bearer
    (along_deeds AnyCall b.tx x.bearer.tx (bearer_logs l (Am b) (calls_over l cs r)) x.along)
