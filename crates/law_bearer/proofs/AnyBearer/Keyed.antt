-- Each life has its keys.
use Rattle.std.proofs.Common.{◌≡◌, ◌⊎◌, inl, inr, ℕ, List, [], ◌∷◌, Option, Some, None, subst, refl, ap, sym, ◌∙◌}
use Rattle.bearer_types.specs.declared.BearerConfig.{BearerConfig}
use Rattle.eps_sec.specs.declared.Keys.{Keys}
use Rattle.l2_types.specs.declared.Side.{Side}
use Rattle.pdcp_pdu.specs.declared.PdcpKind.{PdcpKind}
use Rattle.pdcp_sec.specs.Protection.{Protection, protection_of}
use Rattle.pdcp_tx.specs.State.{State, start, restarted as restarted_sending}
use Rattle.bearer_pdcp.specs.Ends.{Ends, begun, bearer_of, sends}
use Rattle.bearer_pdcp.specs.Lives.{owing_report, report_of, restarted}
use Rattle.bearer.specs.declared.flow.Flow.{Flow}
use Rattle.bearer.specs.Bearer.{flow_of}
use Rattle.law_bearer.specs.AnyBearer.Calls.{Step, Calls, Restart, goes, run_bearer, reached, ends}
use Rattle.law_bearer.specs.AnyBearer.Texts.{keys_after, IsUnder}
use Rattle.law_bearer.proofs.AnyBearer.Sender.{AreSame, moved_same}
use Rattle.law_bearer.proofs.AnyBearer.Flows.{doing, called, restarts_as, none_steps}
use Rattle.law_bearer.proofs.AnyBearer.Streams.{Begun, begins, begun_tx}

-- a sender ciphers under these
abbrev Under : Keys → ℕ → Side → State → Type 0
Under keys lcid side s = s.protection ≡ protection_of s.kind keys (bearer_of lcid) (sends side)

same_under : (keys : Keys) (lcid : ℕ) (side : Side) (s t : State) → AreSame s t → Under keys lcid side s
    → Under keys lcid side t
same_under keys lcid side s t h u = h.protection ∙ u
    ∙ ap (λ k. protection_of k keys (bearer_of lcid) (sends side)) (sym h.kind)

owing_under : (o : Option (List ℕ)) (keys : Keys) (lcid : ℕ) (side : Side) (s : State) → Under keys lcid side s
    → Under keys lcid side (owing_report o s)
owing_under None keys lcid side s u = u
owing_under (Some report) keys lcid side s u = u

next_under : (keys next : Keys) (lcid : ℕ) (side : Side) (s : State) → Under keys lcid side s
    → Under next lcid side (restarted_sending s next)
unfolding restarted_sending
next_under keys next lcid side s u =
    ap (λ (p : Protection). protection_of s.kind next p.bearer p.direction) u

restart_under : (keys next : Keys) (lcid : ℕ) (side : Side) (e : Ends) → Under keys lcid side e.tx
    → Under next lcid side (restarted e next).tx
unfolding restarted
restart_under keys next lcid side e u =
    owing_under (report_of e.kind e.rx) next lcid side (restarted_sending e.tx next)
    (next_under keys next lcid side e.tx u)

run_under : (keys : Keys) (lcid : ℕ) (side : Side) (f : Flow) (e : Ends) (xs : List Step) → ends f ≡ Some e
    → Under keys lcid side e.tx → IsUnder (keys_after keys xs) lcid side (ends (run_bearer xs f))
run_under keys lcid side f e [] q u = subst (IsUnder keys lcid side) (sym q) u
run_under keys lcid side f e (Calls c ∷ xs) q u =
    let one = called f e c q in
    run_under keys lcid side (goes f (Calls c)) one.next xs one.is
    (same_under keys lcid side e.tx one.next.tx (moved_same e.tx one.next.tx (doing f c) one.passed.tx) u)
run_under keys lcid side f e (Restart next ∷ xs) q u =
    let one = restarts_as f e next q in
    let between : Under keys lcid side one.between.tx = subst (Under keys lcid side) (sym one.ended.tx) u in
    run_under next lcid side (goes f (Restart next)) (restarted one.between next) xs one.after
    (restart_under keys next lcid side one.between between)

start_under : (kind : PdcpKind) (keys : Keys) (lcid : ℕ) (side : Side) (first : ℕ)
    → Under keys lcid side (start kind (protection_of kind keys (bearer_of lcid) (sends side)) first)
unfolding start
start_under kind keys lcid side first = refl

pub under_its_keys : (c : BearerConfig) (keys : Keys) (side : Side) (xs : List Step)
    → IsUnder (keys_after keys xs) c.channel.lcid side (ends (reached c keys side xs))
under_its_keys c keys side xs = by (begins c.kind c keys side)
  where
    by : (ends (flow_of c.kind c keys side) ≡ None) ⊎ Begun c keys side (ends (flow_of c.kind c keys side))
        → IsUnder (keys_after keys xs) c.channel.lcid side (ends (reached c keys side xs))
    by (inl q) =
        subst (IsUnder (keys_after keys xs) c.channel.lcid side) (sym (none_steps (flow_of c.kind c keys side) xs q))
        tt
    by (inr b) =
        run_under keys c.channel.lcid side (flow_of c.kind c keys side)
        (begun c.channel.lcid b.kind c.first keys side) xs b.is
        (subst (Under keys c.channel.lcid side) (sym (begun_tx c.channel.lcid b.kind c.first keys side))
        (start_under b.kind keys c.channel.lcid side c.first))
