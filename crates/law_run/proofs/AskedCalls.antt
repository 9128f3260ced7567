-- What an end's call makes its acknowledged bearer of a channel ask of RLC's sender, with what is logged of it.
use Rattle.std.proofs.Common.{◌≡◌, ◌≤◌, ℕ, zero, suc, ◌==◌, Bool, true, false, Option, Some, None, IfSome, List, []}
use Rattle.std.proofs.Common.{◌∷◌, map, Ok, slice_get, append-nil, inl, refl, ap, sym, subst, ◌∙◌, arith}
use Rattle.std.specs.List.{AllByRecursion}
use Rattle.bearer.specs.Acknowledged.State.{State, has_more}
use Rattle.bearer.specs.Acknowledged.Taking.{data_size}
use Rattle.bearer.specs.declared.flow.Flow.{Flow}
use Rattle.bearer.specs.declared.flow.Flow.TheVariants.{Am}
use Rattle.bearer_pdcp.specs.Ends.{Ends}
use Rattle.bearer_pdcp.specs.Taking.{taken, taking_told}
use Rattle.bearer_types.specs.Sides.{heard_by}
use Rattle.harq.specs.declared.sender.Visit.{Visit}
use Rattle.harq.specs.declared.sender.Visit.TheVariants.{New, Resend, Silent}
use Rattle.l2_bits.specs.declared.fault.SubmitRefusal.{SubmitRefusal}
use Rattle.l2_node.specs.Building.{visit, visited}
use Rattle.l2_node.specs.End.{End}
use Rattle.l2_node.specs.Finding.{has, find, bearer_at}
use Rattle.l2_node.specs.Submitting.{refusal}
use Rattle.l2_types.specs.declared.event.Clock.{Clock}
use Rattle.l2_types.specs.declared.side.Side.{Side}
use Rattle.l2_types.specs.declared.side.Side.TheVariants.{Nb}
use Rattle.pdcp_pdu.specs.declared.pdu.PdcpKind.{PdcpKind}
use Rattle.prioritise.specs.Channels.{has as has_channel}
use Rattle.promises.specs.Pdus.{carried}
use Rattle.rlc_am_tx.specs.Machine.{State as Sender}
use Rattle.rlc_pdu.specs.Pdus.{StatusPdu, Status}
use Rattle.rlc_pdu.specs.Reading.{am_at}
use Rattle.law_bearer.specs.AnyBearer.Calls.{Call as BearerCall, Take as Takes, Arrive as Arrives}
use Rattle.law_bearer.specs.AnyBearer.Calls.{Expire as Expires, SetDiscard as SetsDiscard, after_all}
use Rattle.law_deliver.specs.AmChannel.Lives.{InLife, calls_by, brought}
use Rattle.law_deliver.specs.AmFlow.Air.{Block, Station, Air, Act, Calls, Comes, Goes, AtNb, comes, does}
use Rattle.law_deliver.specs.AmFlow.Air.{IsDone, IsCalling, HasCome}
use Rattle.law_deliver.specs.AmFlow.Channels.{only, share_of, held_of, takes_of, submits_of, calls_of, GoesOnInLife}
use Rattle.law_deliver.specs.AmFlow.Pair.{called}
use Rattle.law_deliver.specs.AmFlow.Ups.{calls_over}
use Rattle.law_deliver.proofs.AmChannel.Ends.{step_end}
use Rattle.law_deliver.proofs.AmFlow.Channels.{calls_reach_bearers}
use Rattle.law_deliver.proofs.AmFlow.Loads.{each}
use Rattle.law_deliver.proofs.AmFlow.Stations.{come_side, come_sound}
use Rattle.law_node.specs.Calls.{Turn, Call, SetVisits, SetReports, Add, Submit, SetDiscard, Tick, TickBuckets, Visits}
use Rattle.law_node.specs.Calls.{Grants, Granted, Assigned, Pass, Receive, Expire, Move, IsGiven as IsGivenCall, after}
use Rattle.law_node.specs.Calls.{reached}
use Rattle.law_node.specs.Holding.{flow}
use Rattle.law_node.proofs.Keeping.{at_is, reached_are, share_most}
use Rattle.law_node.proofs.Ready.{WritesWell, ready_kept}
use Rattle.law_node.proofs.Senders.{size_most}
use Rattle.law_node.proofs.Sound.{visited_sound}
use Rattle.law_rlc.specs.AmSender.Run.{Offer as OffersSdu, Take as TakesPdu, Status as Hears}
use Rattle.law_rlc.specs.AmSender.Run.{Tick as TicksOn, Expire as ExpiresSo, Settle, Confirm}
use Rattle.law_run.specs.TwoEnds.SenderLog.{telling, bearer_logs, ReadsAsStatus}
use Rattle.law_run.proofs.EndLogs.{AreMet, GoesTo, all_along, reports_written}
use Rattle.law_run.proofs.OrderedLogs.{IsOrdered, calls_ordered}
use Rattle.law_run.proofs.OwnReports.{OwesReports, OwesSome, owes_kept, owes_passes, IsTakenOf, taken_of}
use Rattle.law_run.proofs.SenderLog.{OfCalls, given_before, IsTaking, AsksNoMore, GoesBy, goes_not}

-- an SDU of PDCP's kind by the one record that tells it, a data field of at most 32767 octets, a STATUS of which P
-- holds, and `more` as t-PollRetransmit expires
abbrev pub AsksOf : PdcpKind → Bool → (Sender → StatusPdu → Type 0) → OfCalls
AsksOf kind more P s (OffersSdu sdu) es = IsTakenOf kind sdu es
AsksOf kind more P s (TakesPdu size held m) es = size ≤ 32767
AsksOf kind more P s (Hears p) es = P s p
AsksOf kind more P s TicksOn es = Unit {0}
AsksOf kind more P s (ExpiresSo m) es = m ≡ more
AsksOf kind more P s (Settle m) es = Unit {0}
AsksOf kind more P s Confirm es = Unit {0}

abbrev pub AllP : (Sender → StatusPdu → Type 0) → Sender → List ℕ → Type 0
AllP P s octets = (p : StatusPdu) → am_at octets ≡ Ok (Status p) → P s p

-- ---- what PDCP gives, one behind the other

given_well : (kind : PdcpKind) (n : ℕ) (e : Ends) → OwesReports kind e → OwesReports kind (given_before n e)
given_well kind zero e h = h
given_well kind (suc n) e h = given_well kind n _ ((owes_passes kind h.known).taken e h)

module _ (P : Sender → StatusPdu → Type 0)
    (stays : (b : State) (octets : List ℕ) (p : StatusPdu) → P b.tx p → P (called b (Arrives octets)).tx p) where
  given_by : (kind : PdcpKind) (more : Bool) (s : Sender) (e : Ends) (t : Option (List ℕ)) → taken e ≡ t
      → OwesReports kind e
      → IfSome t (λ sdu. AsksOf kind more P s (OffersSdu sdu) (telling (taking_told e)))
  given_by kind more s e None q h = tt
  given_by kind more s e (Some sdu) q h = taken_of kind e sdu h q

  asks_few : (kind : PdcpKind) (more : Bool) → AsksNoMore (AsksOf kind more P)
  asks_few kind more = record { ticks = λ s. tt; settles = λ s m es. tt; confirms = λ s. tt }

  -- ---- calls of the bearer of an end

  module _ (b : State) (well : (lcid : ℕ) × WritesWell lcid (Am b)) (owes : OwesReports b.pdcp.kind b.pdcp) where
    abbrev Q : OfCalls
    Q = AsksOf b.pdcp.kind (has_more b.pdcp) P

    takes_met : (share : ℕ) (held : Option ℕ) → data_size b share ≤ 32767 → IsTaking ReadsAsStatus Q b share held
    takes_met share held few = record {
      reports = reports_written well.0 b well.1 share;
      given = λ n s.
          let e = given_before n b.pdcp in
          given_by b.pdcp.kind (has_more b.pdcp) s e (taken e) refl (given_well b.pdcp.kind n b.pdcp owes);
      takes = λ s more es. few;
    }

    takes_only : (here : Bool) (share : ℕ) (held : Option ℕ) → data_size b share ≤ 32767
        → AreMet Q b (only here (Takes share held))
    takes_only true share held few = (takes_met share held few, tt)
    takes_only false share held few = tt

    expires_only : (here : Bool) (clock : Clock) → AreMet Q b (only here (Expires clock))
    expires_only true clock = (λ s es. refl, tt)
    expires_only false clock = tt

    discards_only : (here : Bool) (ttis : ℕ) → AreMet Q b (only here (SetsDiscard ttis))
    discards_only true ttis = (tt, tt)
    discards_only false ttis = tt

    submits_met : (r : Option SubmitRefusal) (here : Bool) (octets : List ℕ) → AreMet Q b (submits_of r here octets)
    submits_met None true octets = (tt, tt)
    submits_met None false octets = tt
    submits_met (Some why) here octets = tt

    arrivals_met : (pdus : List (List ℕ)) (d : State) → AllByRecursion (AllP P d.tx) pdus
        → AreMet Q d (map (λ octets. Arrives octets) pdus)
    arrivals_met [] d all = tt
    arrivals_met (octets ∷ pdus) d all = (
      λ p e es. all.0 p e,
      arrivals_met pdus (called d (Arrives octets))
          (each (AllP P d.tx) (AllP P (called d (Arrives octets)).tx) (λ x h p e. stays d octets p (h p e)) pdus all.1),
    )

    visit_met : (v : Visit) (t : Turn) (e : End) (l : ℕ) → data_size b (share_of e t.grant l) ≤ 32767
        → AreMet Q b (takes_of v t e l)
    visit_met New t e l few = takes_only (has_channel l e.buckets.channels) (share_of e t.grant l) (held_of e l) few
    visit_met (Resend rv) t e l few = tt
    visit_met Silent t e l few = tt

    -- of an end that has come so far
    module _ (side : Side) (l : ℕ) (e : End) (come : HasCome side e) where
      visits_met : (t : Turn) → IsGivenCall (Visits t) → AreMet Q b (calls_of l e (Visits t))
      unfolding visited
      visits_met t g =
          let u = visited t.tti t.order e in
          let few = size_most b (share_of u t.grant l)
          (share_most u t.grant l (visited_sound t.tti t.order e (come_sound side e come)) g.0) in
          visit_met (visit t.tti t.order e) t u l (omega (arith, few))

      call_met : (c : Call) → IsGivenCall c
          → ((block : List ℕ) → c ≡ Receive block → AllByRecursion (AllP P b.tx) (carried l (heard_by e.side) block))
          → AreMet Q b (calls_of l e c)
      call_met (SetVisits maximum) g hears = tt
      call_met (SetReports reports) g hears = tt
      call_met (Add config keys) g hears = tt
      call_met (Submit lcid octets) g hears = submits_met (refusal lcid octets e) (lcid == l) octets
      call_met (SetDiscard lcid ttis) g hears = discards_only (lcid == l) ttis
      call_met Tick g hears = (λ s es. refl, tt)
      call_met TickBuckets g hears = tt
      call_met (Visits t) g hears = visits_met t g
      call_met (Grants tti) g hears = tt
      call_met (Granted tti good) g hears = tt
      call_met (Assigned tti ndi good) g hears = tt
      call_met (Pass tti) g hears = tt
      call_met (Receive block) g hears = arrivals_met (carried l (heard_by e.side) block) b (hears block refl)
      call_met (Expire lcid clock) g hears = expires_only (lcid == l) clock
      call_met (Move keys) g hears = tt

-- ---- an end that has come so far, with a bearer of the channel

record IsWell (b : State) : Type 0 where
  writes : (lcid : ℕ) × WritesWell lcid (Am b)
  owes : OwesReports b.pdcp.kind b.pdcp

well_at : (side : Side) (l : ℕ) (e : End) (b : State) → HasCome side e → flow l e ≡ Am b → IsWell b
well_at side l e b come is =
    let bs = (reached side come.maximum come.reports come.past).bearers in
    let at = find l bs in
    let lcid = (bearer_at bs at).channel.lcid in
    let q : (bearer_at bs at).state.flow ≡ Am b = ap (flow l) (sym come.end_is) ∙ is in
    let w = at_is WritesWell bs at ready_kept
    (reached_are WritesWell ready_kept side come.maximum come.reports come.past come.given) in
    let o = at_is OwesSome bs at owes_kept
    (reached_are OwesSome owes_kept side come.maximum come.reports come.past come.given) in
    let some : (kind : PdcpKind) × OwesReports kind b.pdcp = subst (OwesSome lcid) q o in
    record {
      writes = (lcid, subst (WritesWell lcid) q w);
      owes = subst (λ (k : PdcpKind). OwesReports k b.pdcp) (sym some.1.offers.kind_is) some.1;
    }

-- by calls of its bearer, which ask so and log in order, the end comes to the bearer that it has then
pub record SideGoes (Q : OfCalls) (l : ℕ) (f : End) (b : State) (cs : List BearerCall) : Type 0 where
  pub ordered : IsOrdered (bearer_logs l (Am b) cs)
  pub goes : GoesTo Q l b cs
  pub flow_is : flow l f ≡ Am goes.bearer

pub goes_to : (Q : OfCalls) (l : ℕ) (f : End) (b d : State) (cs : List BearerCall) → SideGoes Q l f b cs
    → flow l f ≡ Am d → GoesBy Q b.tx d.tx (bearer_logs l (Am b) cs)
goes_to Q l f b d cs x is =
    let same : Am x.goes.bearer ≡ Am d = sym x.flow_is ∙ is in
    let bearer : x.goes.bearer ≡ d = cc in
    subst (λ (y : State). GoesBy Q b.tx y.tx (bearer_logs l (Am b) cs)) bearer x.goes.along

module _ (P : Sender → StatusPdu → Type 0)
    (stays : (b : State) (octets : List ℕ) (p : StatusPdu) → P b.tx p → P (called b (Arrives octets)).tx p)
    (side : Side) (l : ℕ) (s : Station) (b : State) (come : HasCome side s.end) (there : has l s.end.bearers ≡ true)
    (is : flow l s.end ≡ Am b) where
  abbrev e : End
  e = s.end

  abbrev Asks : OfCalls
  Asks = AsksOf b.pdcp.kind (has_more b.pdcp) P

  pub goes_none : SideGoes Asks l e b []
  goes_none = record {
    ordered = inl refl;
    goes = record { bearer = b; is = refl; along = goes_not Asks b.tx };
    flow_is = is;
  }

  goes_one : (c : Call) → IsGivenCall c → GoesOnInLife l c
      → ((block : List ℕ) → c ≡ Receive block → AllByRecursion (AllP P b.tx) (carried l (heard_by side) block))
      → SideGoes Asks l (after e c) b (calls_over l (c ∷ []) e)
  goes_one c g life hears =
      let cs = calls_of l e c in
      let well = well_at side l e b come is in
      let met = call_met P stays b well.writes well.owes side l e come c g
      (λ block q. subst (λ (s : Side). AllByRecursion (AllP P b.tx) (carried l (heard_by s) block))
      (sym (come_side side e come)) (hears block q)) in
      let x = all_along Asks (asks_few P stays b.pdcp.kind (has_more b.pdcp)) l cs b met in
      let reach : flow l (after e c) ≡ after_all (flow l e) cs =
      subst (λ (z : End). flow l (after z c) ≡ after_all (flow l z) (calls_of l z c)) (sym come.end_is)
      (calls_reach_bearers side come.maximum come.reports come.past c l come.given g life
      (subst (λ (z : End). has l z.bearers ≡ true) come.end_is there)) in
      subst (λ (ds : List BearerCall). SideGoes Asks l (after e c) b ds) (sym (append-nil cs))
      (record {
        ordered = calls_ordered l b e c;
        goes = x;
        flow_is = reach ∙ (ap (λ (f : Flow). after_all f cs) is ∙ x.is);
      })

  -- ---- an act

  module _ (o : Station) (hears : (k : ℕ) (block : Block) → slice_get o.blocks k ≡ Some block
      → AllByRecursion (AllP P b.tx) (carried l (heard_by side) block.octets)) where
    came : (k : ℕ) (y : Option Block) → slice_get o.blocks k ≡ y
        → SideGoes Asks l (comes s y).end b (calls_over l (brought y) e)
    came k None q = goes_none
    came k (Some block) q =
        goes_one (Receive block.octets) tt (record { adds_none = refl; moves_none = refl })
        (λ octets r. let is' : block.octets ≡ octets = cc in
        subst (λ (xs : List ℕ). AllByRecursion (AllP P b.tx) (carried l (heard_by side) xs)) is' (hears k block q))

    pub act_goes : (x : Act) → IsDone l s x → SideGoes Asks l (does o s x).end b (calls_over l (calls_by o x) e)
    act_goes (Calls c) done =
        let a : Air = record { nb = s; ue = o } in
        subst (λ (f : End). SideGoes Asks l f b (calls_over l (c ∷ []) e))
        (sym (step_end Nb a (InLife (AtNb (Calls c)))))
        (goes_one c done.0 done.1 (λ block q. absurd (subst (IsCalling s) q done.2)))
    act_goes (Comes k) done = came k (slice_get o.blocks k) refl
    act_goes (Goes k) done = goes_none
