-- What a round of a drain costs the flow from one end of a bearer to the other.
use Rattle.std.proofs.Common.{◌≡◌, ◌≤◌, ◌+◌, ◌*◌, true, List, [], ◌∷◌, ◌++◌}
use Rattle.std.proofs.Common.{append_assoc, refl, ap, sym, subst, ◌∙◌, arith}
use Rattle.std.specs.List.{AllByRecursion}
use Rattle.l2_num.specs.Timers.{runs}
use Rattle.l2_types.specs.declared.Clock.TheVariants.{Poll}
use Rattle.rlc_am_rx.specs.State.{State as Receiver}
use Rattle.law_rlc.specs.AmReceiver.Run.{Call as ReceiverCall}
use Rattle.law_rlc.specs.AmSender.Run.{Call as SenderCall}
use Rattle.law_rlc.specs.AmSender.Namings.{Marks, unmarked}
use Rattle.law_rlc.specs.AmSender.Octets.{HasOctets}
use Rattle.bearer.specs.Acknowledged.State.{State, has_more}
use Rattle.law_bearer.specs.AnyBearer.Calls.{Call, Expire}
use Rattle.law_bearer.specs.AmBearer.Calls.{deeds_of}
use Rattle.law_bearer.specs.AmBearer.Deeds.{Deed, does, does_all}
use Rattle.law_bearer.specs.AmBearer.Sending.{sends_in}
use Rattle.law_bearer.proofs.AmBearer.Sending.{in_then}
use Rattle.law_drain.specs.Bearer.{bearer_dues, bearer_quiet, marks_behind, IsOfDrain}
use Rattle.law_drain.specs.Pending.{pending, data_in as data_heard, expired, round}
use Rattle.law_drain.specs.Round.{deeds_along, behind, written_along, data_coming, far_behind}
use Rattle.law_drain.specs.Round.{flow_measure, FlowsCost}
use Rattle.law_drain.proofs.BearerCalls.{behind-along, sent-in}
use Rattle.law_drain.proofs.BearerDues.{Falls, sent_along, brought_along, marks_along, deeds-fall, marks-then}
use Rattle.law_drain.proofs.BearerQuiet.{HasGiven, Calms, deeds-given, deeds-calm}
use Rattle.law_drain.proofs.Calm.{IsCalm, AreCalm, then-all, call-calm, calm-none}
use Rattle.law_drain.proofs.Come.{HasCome, first-all, last-all, come-then}
use Rattle.law_drain.proofs.FlowRound.{turns-quiet, pends, pends-less}
use Rattle.law_drain.proofs.Hearing.{hears_in, all-hear, behind-is, Brings, calls-bring, calls-tell}

-- ---- the near end

pub along-calm : (cs : List Call) (b : State) → AllByRecursion IsOfDrain cs → AreCalm (deeds_along cs b)
along-calm [] b h = tt
along-calm (c ∷ cs) b h =
    then-all IsCalm (deeds_of b c) (deeds_along cs (does_all (deeds_of b c) b)) (call-calm b c h.0)
    (along-calm cs (does_all (deeds_of b c) b) h.1)

sent-then : (xs ys : List Deed) (b : State) → sent_along (xs ++ ys) b ≡ sent_along xs b + sent_along ys (does_all xs b)
sent-then [] ys b = omega arith
sent-then (x ∷ xs) ys b = omega (arith, sent-then xs ys (does b x))

written-sent : (cs : List Call) (b : State) → written_along cs b ≤ sent_along (deeds_along cs b) b
written-sent [] b = omega arith
written-sent (c ∷ cs) b =
    let d = does_all (deeds_of b c) b in
    omega (arith, sent-in b c, written-sent cs d, sent-then (deeds_of b c) (deeds_along cs d) b)

pub along-then : (xs ys : List Call) (b : State)
    → deeds_along (xs ++ ys) b ≡ deeds_along xs b ++ deeds_along ys (behind xs b)
along-then [] ys b = refl
along-then (x ∷ xs) ys b =
    let d = does_all (deeds_of b x) b in
    ap (λ (l : List Deed). deeds_of b x ++ l) (along-then xs ys d)
    ∙ sym (append_assoc (deeds_of b x) (deeds_along xs d) (deeds_along ys (behind xs d)))

pub behind-then : (xs ys : List Call) (b : State) → behind (xs ++ ys) b ≡ behind ys (behind xs b)
behind-then [] ys b = refl
behind-then (x ∷ xs) ys b = behind-then xs ys (does_all (deeds_of b x) b)

-- ---- the far end

far-round : (ds : List Call) (far : State) → (far_behind ds far).rx ≡ round far.rx (hears_in (deeds_along ds far) far)
far-round ds far =
    ap expired (ap (λ (d : State). d.rx) (behind-is ds far) ∙ all-hear (deeds_along ds far) far)

-- ---- both

pub flows_cost : FlowsCost
flows_cost b kind p first steps deeds far cs ds given e some drains tti few sent = record {
  falls = omega (
    arith,
    after-is,
    before-is,
    falls.falls,
    calm,
    none,
    written-sent cs now,
    pends far.rx rs brings.tti one,
    brings.data-is,
    few,
    sent,
  );
  settles = λ quiet' top pend told. omega (
    arith,
    after-is,
    before-is,
    falls.falls,
    calm,
    none,
    pends-less far.rx rs brings.tti (brings.data-is ∙ quiet') top pend (λ e. calls-tell ds far (told e)),
  );
  recalls = λ front at running waiting.
      let still : bearer_quiet (does_all (deeds_along cs now) now) ≡ 0 =
      ap bearer_quiet (sym (behind-is cs now)) ∙ ends front at running in
      omega (
        arith,
        after-is,
        before-is,
        falls.falls,
        none,
        written-sent cs now,
        pends far.rx rs brings.tti one,
        brings.data-is,
        few,
        sent,
        still,
        waiting,
      );
}
  where
    now : State
    now = does_all deeds b

    N : List Deed
    N = deeds_along cs now

    begins : HasCome b.tx unmarked
    begins = record {
      config = b.tx_config;
      calls = [];
      some = tt;
      is = ap (λ (s : _). record { state = s; past = unmarked }) (sym e);
    }

    parts : AllByRecursion HasOctets (sends_in deeds b ++ sends_in (deeds_along cs now) now)
    parts = subst (λ (xs : List SenderCall). AllByRecursion HasOctets xs) (in_then deeds (deeds_along cs now) b) some

    before : AllByRecursion HasOctets (sends_in deeds b)
    before = first-all (sends_in deeds b) (sends_in (deeds_along cs now) now) parts

    later : AllByRecursion HasOctets (sends_in (deeds_along cs now) now)
    later = last-all (sends_in deeds b) (sends_in (deeds_along cs now) now) parts

    m : Marks
    m = marks_along deeds b unmarked

    come : HasCome now.tx m
    come = come-then (sends_in deeds b) b.tx now.tx unmarked m begins before
        (deeds-fall deeds b unmarked begins before).run

    gives : HasGiven now.pdcp.tx
    gives = deeds-given deeds b (record { kind = kind; p = p; first = first; steps = steps; is = sym given })

    falls : Falls now (does_all N now) m (marks_along N now m) (sends_in N now) (sent_along N now) (brought_along N now)
    falls = deeds-fall (deeds_along cs now) now m come later

    calm : Calms now (does_all N now) m (marks_along N now m)
    calm = deeds-calm (deeds_along cs now) now m come gives later (along-calm cs now drains)

    none : brought_along N now ≡ 0
    none = calm-none (deeds_along cs now) now (along-calm cs now drains)

    was : marks_behind b deeds ≡ m
    was = behind-along b deeds e before begins

    is : marks_behind b (deeds ++ deeds_along cs now) ≡ marks_along (deeds_along cs now) now m
    is = behind-along b (deeds ++ deeds_along cs now) e some begins ∙ marks-then deeds (deeds_along cs now) b unmarked

    rs : List ReceiverCall
    rs = hears_in (deeds_along ds far) far

    brings : Brings rs (data_coming ds)
    brings = calls-bring ds far tti

    one : data_heard rs ≤ 1
    one = omega (arith, brings.data-is, few)

    after-is : flow_measure (behind cs now) (marks_behind b (deeds ++ deeds_along cs now)) (far_behind ds far)
        ≡ 3 * bearer_dues (does_all N now) (marks_along N now m)
        + (pending (round far.rx rs) + bearer_quiet (does_all N now))
    after-is =
        ap (λ (d : State). flow_measure d (marks_behind b (deeds ++ deeds_along cs now)) (far_behind ds far))
        (behind-is cs now)
        ∙ ap (λ (x : Marks). flow_measure (does_all (deeds_along cs now) now) x (far_behind ds far)) is
        ∙ ap (λ (r : Receiver).
        3 * bearer_dues (does_all (deeds_along cs now) now) (marks_along (deeds_along cs now) now m)
        + (pending r + bearer_quiet (does_all (deeds_along cs now) now))) (far-round ds far)

    before-is : flow_measure now (marks_behind b deeds) far ≡ flow_measure now m far
    before-is = ap (λ (x : Marks). flow_measure now x far) was

    come-v : (front : List Call) → cs ≡ front ++ Expire Poll ∷ []
        → HasCome (behind front now).tx (marks_along (deeds_along front now) now m)
    come-v front at =
        let all : AllByRecursion HasOctets (sends_in (deeds_along front now ++ deeds_along (Expire Poll ∷ [])
        (behind front now)) now) =
        subst (λ (xs : List Deed). AllByRecursion HasOctets (sends_in xs now))
        (ap (λ (xs : List Call). deeds_along xs now) at ∙ along-then front (Expire Poll ∷ []) now) later in
        let these = first-all (sends_in (deeds_along front now) now)
        (sends_in (deeds_along (Expire Poll ∷ []) (behind front now)) (does_all (deeds_along front now) now))
        (subst (λ (xs : List SenderCall). AllByRecursion HasOctets xs)
        (in_then (deeds_along front now) (deeds_along (Expire Poll ∷ []) (behind front now)) now) all) in
        subst (λ (d : State). HasCome d.tx (marks_along (deeds_along front now) now m)) (sym (behind-is front now))
        (come-then (sends_in (deeds_along front now) now) now.tx (does_all (deeds_along front now) now).tx m
        (marks_along (deeds_along front now) now m) come these
        (deeds-fall (deeds_along front now) now m come these).run)

    ends : (front : List Call) → cs ≡ front ++ Expire Poll ∷ [] → runs (behind front now).tx.polls.timer ≡ true
        → bearer_quiet (behind cs now) ≡ 0
    ends front at running =
        let v = behind front now in
        let last : behind cs now ≡ does_all (deeds_of v (Expire Poll)) v =
        ap (λ (xs : List Call). behind xs now) at ∙ behind-then front (Expire Poll ∷ []) now in
        ap bearer_quiet last ∙ (turns-quiet _ (has_more v.pdcp) (come-v front at)).ends running
