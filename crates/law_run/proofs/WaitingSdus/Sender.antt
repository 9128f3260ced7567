-- A bearer takes no SDU ahead of its turn.
use Rattle.std.proofs.Common.{◌≡◌, ◌≤◌, ℕ, ◌+◌, ◌-◌, ◌==◌, Bool, true, false, if◌then◌else◌, Option, Some, None, List}
use Rattle.std.proofs.Common.{[], ◌∷◌, ◌++◌, map, length, take, refl, ap, sym, subst, ◌∙◌, arith, append_assoc}
use Rattle.std.proofs.lemmas.Bool.Decides.{nat_tests}
use Rattle.std.proofs.lemmas.Grind.{flat_map-append}
use Rattle.std.proofs.lemmas.List.{length-append}
use Rattle.bearer.specs.Acknowledged.State.{State as Bearer}
use Rattle.bearer.specs.declared.flow.Flow.{Flow}
use Rattle.bearer.specs.declared.flow.Flow.TheVariants.{Am}
use Rattle.bearer_pdcp.specs.Ends.{Ends}
use Rattle.l2_num.specs.Ascending.{AreBetween}
use Rattle.law_bearer.specs.AmBearer.Lives.{restarts}
use Rattle.law_bearer.specs.AnyBearer.Calls.{Call, Step as BearerStep, Calls as CallsIt, Restart as Restarts, after}
use Rattle.law_bearer.specs.AnyBearer.Calls.{goes as bearer_goes, ends, run_bearer}
use Rattle.law_bearer.specs.AnyBearer.Queue.{news, all_news}
use Rattle.law_bearer.specs.AnyBearer.Stream.{takes, all_taken}
use Rattle.law_bearer.proofs.AnyBearer.Flows.{called as call_goes}
use Rattle.law_bearer.proofs.AnyBearer.Sender.{Doings, doings, AreOfLife}
use Rattle.law_deliver.specs.AmFlow.Pair.{called}
use Rattle.law_deliver.proofs.AmChannel.Bearers.{IsSteady, called_steady, restarts_steady}
use Rattle.law_deliver.proofs.AmChannel.Choosing.{marks, WasReached, reached_more, takes_told}
use Rattle.law_deliver.proofs.AmChannel.Leaving.{life_leaves}
use Rattle.law_deliver.proofs.AmFlow.Sending.{is_called}
use Rattle.law_pdcp.specs.OneEnd.Lives.{Step, Calls, SetDiscard, Restart, goes, run_pdcp_sender}
use Rattle.law_pdcp.proofs.OneEnd.Lives.{lives_are_ordered}
use Rattle.pdcp_pdu.specs.declared.pdu.PdcpKind.{PdcpKind}
use Rattle.pdcp_sec.specs.Protection.{Protection}
use Rattle.pdcp_tx.specs.Runs.{Submit, Take, Confirm, Report, Owe, Tick, Late, IsOrdered}
use Rattle.pdcp_tx.specs.State.{State, Offer, offers, owed_offers, again_offer, new_offers, submitted, took, took_owed}
use Rattle.pdcp_tx.specs.State.{took_again, took_new, confirmed, reported, reported_from, fms_count, after_late}
use Rattle.pdcp_tx_store.specs.Waiting.{Waits}
use Rattle.pdcp_tx_store.specs.declared.given.Sent.{Sent}
use Rattle.law_run.proofs.WaitingSdus.Counting.{InTurn}

-- ---- PDCP's sender

-- what is taken, and then what has its turn behind it
abbrev pub Turns : State → List Offer → ℕ → Type 0
Turns s os n = (more : List (Option ℕ)) → InTurn n more → InTurn s.next (marks os ++ more)

new_turns : (ws : List Waits) (s : State) (os : List Offer) (n : ℕ) → Turns (took_new ws s) os n
    → Turns s (take 1 (new_offers s.next ws) ++ os) n
new_turns [] s os n h = h
new_turns (w ∷ ws) s os n h = λ more k.
    let same : (s.next == s.next) ≡ true = grind (arith, nat_tests) in
    let next : (if s.next == s.next then s.next + 1 else s.next) ≡ s.next + 1 =
    ap (λ (b : Bool). if b then s.next + 1 else s.next) same in
    (omega arith, subst (λ (m : ℕ). InTurn m (marks os ++ more)) (sym next) (h more k))

reaches : (low : ℕ) (ns : List ℕ) (end : ℕ) → AreBetween low ns end → low ≤ end
reaches low [] end h = h
reaches low (n ∷ ns) end h =
    let first = h.0 in
    let more = reaches (n + 1) ns end h.1 in
    omega (arith, first, more)

again_turns : (ss : List Sent) (s : State) (os : List Offer) (n : ℕ)
    → AreBetween 0 (map (λ x. x.count) ss) s.next → Turns (took_again ss s) os n
    → Turns s (take 1 (map again_offer ss ++ new_offers s.next (take (s.bound - s.next) s.waiting)) ++ os) n
again_turns [] s os n b h = new_turns (take (s.bound - s.next) s.waiting) s os n h
again_turns (x ∷ xs) s os n b h = λ more k.
    let below = reaches (x.count + 1) (map (λ x. x.count) xs) s.next b.1 in
    let apart : (x.count == s.next) ≡ false = grind (arith, nat_tests, below) in
    let next : (if x.count == s.next then s.next + 1 else s.next) ≡ s.next =
    ap (λ (c : Bool). if c then s.next + 1 else s.next) apart in
    (omega (arith, below), subst (λ (m : ℕ). InTurn m (marks os ++ more)) (sym next) (h more k))

owed_turns : (o : Option (List ℕ)) (s : State) (os : List Offer) (n : ℕ) → IsOrdered s → Turns (took_owed o s) os n
    → Turns s
    (take 1 (owed_offers o ++ map again_offer s.again ++ new_offers s.next (take (s.bound - s.next) s.waiting)) ++ os)
    n
owed_turns None s os n b h = again_turns s.again s os n b h
owed_turns (Some report) s os n b h = h

reported_next : (c : Option ℕ) (s : State) (bitmap : List ℕ) → (reported_from c s bitmap).next ≡ s.next
reported_next None s bitmap = refl
reported_next (Some c) s bitmap = refl

module _ (kind : PdcpKind) (p : Protection) (first : ℕ) where
  ordered : (s : State) → WasReached kind p first s → IsOrdered s
  ordered s r = subst IsOrdered (sym r.is) (lives_are_ordered kind p first r.steps)

  turns : (s : State) (xs : List Step) → AreOfLife xs → WasReached kind p first s
      → Turns s (doings s xs).taken (run_pdcp_sender xs s).next
  unfolding submitted took confirmed reported after_late offers
  turns s [] g r = λ more k. k
  turns s (Calls (Submit sdu) ∷ xs) g r =
      turns (submitted s sdu) xs g.1 (reached_more kind p first s (Calls (Submit sdu) ∷ []) r)
  turns s (Calls Take ∷ xs) g r =
      owed_turns s.owed s (doings (took s) xs).taken (run_pdcp_sender xs (took s)).next (ordered s r)
      (turns (took s) xs g.1 (reached_more kind p first s (Calls Take ∷ []) r))
  turns s (Calls (Confirm place) ∷ xs) g r =
      turns (confirmed s place) xs g.1 (reached_more kind p first s (Calls (Confirm place) ∷ []) r)
  turns s (Calls (Report fms bitmap) ∷ xs) g r = λ more k.
      let t = reported s fms bitmap in
      let h = turns t xs g.1 (reached_more kind p first s (Calls (Report fms bitmap) ∷ []) r) in
      let same = reported_next (fms_count s.kind s.base fms) s bitmap in
      subst (λ (n : ℕ). InTurn n (marks (doings t xs).taken ++ more)) same (h more k)
  turns s (Calls (Owe report) ∷ xs) g r = absurd g.0
  turns s (Calls Tick ∷ xs) g r =
      turns (goes s (Calls Tick)) xs g.1 (reached_more kind p first s (Calls Tick ∷ []) r)
  turns s (Calls Late ∷ xs) g r = turns (after_late s) xs g.1 (reached_more kind p first s (Calls Late ∷ []) r)
  turns s (SetDiscard ttis ∷ xs) g r =
      turns (goes s (SetDiscard ttis)) xs g.1 (reached_more kind p first s (SetDiscard ttis ∷ []) r)
  turns s (Restart keys ∷ xs) g r = absurd g.0

  -- ---- a bearer

  record CallTurns (b : Bearer) (c : Call) : Type 0 where
    reached : WasReached kind p first (called b c).pdcp.tx
    next : (called b c).pdcp.tx.next ≡ b.pdcp.tx.next + length (news (Am b) c)
    turn : Turns b.pdcp.tx (takes (Am b) c) (called b c).pdcp.tx.next

  call_turns : (b : Bearer) (c : Call) → WasReached kind p first b.pdcp.tx → CallTurns b c
  call_turns b c r =
      let x = call_goes (Am b) b.pdcp c refl in
      let some : Some x.next ≡ Some (called b c).pdcp = sym x.is ∙ ap ends (is_called b c) in
      let same : x.next ≡ (called b c).pdcp = cc in
      let m = x.passed.tx in
      let is : run_pdcp_sender m.steps b.pdcp.tx ≡ (called b c).pdcp.tx = sym m.left ∙ ap (λ (e : Ends). e.tx) same in
      let t = takes_told kind p first b.pdcp.tx m.steps m.life r in
      let u = turns b.pdcp.tx m.steps m.life r in
      let n = (run_pdcp_sender m.steps b.pdcp.tx).next in
      record {
        reached = subst (WasReached kind p first) is (reached_more kind p first b.pdcp.tx m.steps r);
        next =
            ap (λ (s : State). s.next) (sym is)
            ∙ (t.next
            ∙ ap (λ (d : Doings). b.pdcp.tx.next + length d.news) (sym m.did));
        turn = subst (λ (s : State). Turns b.pdcp.tx (takes (Am b) c) s.next) is
            (subst (λ (d : Doings). Turns b.pdcp.tx d.taken n) (sym m.did) u);
      }

  -- ---- through lives

  pub record Through (bits l : ℕ) (xs : List BearerStep) (b : Bearer) : Type 0 where
    pub bearer : Bearer
    pub is : run_bearer xs (Am b) ≡ Am bearer
    pub steady : IsSteady bits l bearer
    pub reached : WasReached kind p first bearer.pdcp.tx
    pub next : bearer.pdcp.tx.next ≡ b.pdcp.tx.next + length (all_news (Am b) xs)
    pub turn : Turns b.pdcp.tx (all_taken (Am b) xs) bearer.pdcp.tx.next

  pub through : (bits l : ℕ) (xs : List BearerStep) (b : Bearer) → IsSteady bits l b → WasReached kind p first b.pdcp.tx
      → Through bits l xs b
  through bits l [] b h r = record {
    bearer = b;
    is = refl;
    steady = h;
    reached = r;
    next = omega arith;
    turn = λ more k. k;
  }
  through bits l (CallsIt c ∷ xs) b h r =
      let is = is_called b c in
      let d = called b c in
      let one = call_turns b c r in
      let rest = through bits l xs d (called_steady bits l b c h) one.reached in
      let all = ap (λ (f : Flow). length (all_news f xs)) is in
      let parts = length-append (news (Am b) c) (all_news (after (Am b) c) xs) in
      let first = one.next in
      let more = rest.next in
      record {
        bearer = rest.bearer;
        is = ap (run_bearer xs) is ∙ rest.is;
        steady = rest.steady;
        reached = rest.reached;
        next = omega (arith, all, parts, first, more);
        turn = λ left k.
            let os = all_taken (after (Am b) c) xs in
            let yet = subst (λ (f : Flow). InTurn d.pdcp.tx.next (marks (all_taken f xs) ++ left)) (sym is)
            (rest.turn left k) in
            subst (InTurn b.pdcp.tx.next)
            (sym (append_assoc (marks (takes (Am b) c)) (marks os) left)
            ∙ ap (λ (ms : List (Option ℕ)). ms ++ left) (sym (flat_map-append _ (takes (Am b) c) os)))
            (one.turn (marks os ++ left) yet);
      }
  through bits l (Restarts keys ∷ xs) b h r =
      let s = restarts_steady bits l b keys h in
      let d = restarts b keys in
      let one = life_leaves kind p first bits l b keys h r in
      let rest = through bits l xs d s.steady one.reached in
      let all = ap (λ (f : Flow). length (all_news f xs)) s.left in
      let first = one.next in
      let more = rest.next in
      record {
        bearer = rest.bearer;
        is = ap (run_bearer xs) s.left ∙ rest.is;
        steady = rest.steady;
        reached = rest.reached;
        next = omega (arith, all, first, more);
        turn = λ left k.
            let yet = subst (λ (f : Flow). InTurn d.pdcp.tx.next (marks (all_taken f xs) ++ left)) (sym s.left)
            (rest.turn left k) in
            subst (λ (n : ℕ). InTurn n (marks (all_taken (bearer_goes (Am b) (Restarts keys)) xs) ++ left)) one.next
            yet;
      }
