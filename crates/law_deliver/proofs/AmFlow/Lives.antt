-- A life begins with RLC entities that begin.
use Rattle.std.proofs.Common.{◌≡◌, ◌<◌, ℕ, nat_lt, Bool, true, List, length, refl, ap, sym, subst, ◌∙◌, arith}
use Rattle.std.proofs.lemmas.Bool.Decides.{nat_tests}
use Rattle.bearer.specs.Bearer.{Of, Life, flow_of}
use Rattle.bearer.specs.declared.flow.Flow.{Flow}
use Rattle.bearer.specs.declared.flow.Flow.TheVariants.{Tm, Um, Am}
use Rattle.bearer.specs.Lives.{stopped, restarted}
use Rattle.bearer.specs.Acknowledged.Lives.{stopped as am_stopped, restarted as am_restarted}
use Rattle.bearer.specs.Acknowledged.State.{State, fresh as fresh_am}
use Rattle.bearer_types.specs.Configs.{IsConfig}
use Rattle.bearer_types.specs.declared.config.BearerConfig.{BearerConfig}
use Rattle.eps_sec.specs.declared.Keys.{Keys}
use Rattle.l2_node.specs.End.{End}
use Rattle.l2_node.specs.Finding.{find, has, bearer_at}
use Rattle.l2_node.specs.Moving.{all_stopped, all_restarted, left_cell, joined}
use Rattle.l2_types.specs.declared.Kind.{Kind}
use Rattle.l2_types.specs.declared.Kind.TheVariants as kinds
use Rattle.l2_types.specs.declared.side.Side.{Side}
use Rattle.pdcp_pdu.specs.declared.pdu.PdcpKind.{PdcpKind}
use Rattle.pdcp_pdu.specs.declared.pdu.PdcpKind.TheVariants as pdcp
use Rattle.law_node.specs.Calls.{Call, Add, Move, AreGiven, after, reached}
use Rattle.law_node.specs.Holding.{flow}
use Rattle.law_node.proofs.Holding.{flow_at}
use Rattle.law_node.proofs.Living.{added}
use Rattle.law_node.proofs.Steps.{restarted_find, restarted_length, restarted_at}
use Rattle.law_deliver.specs.AmFlow.Air.{HasCome, Begins}
use Rattle.law_deliver.specs.AmFlow.Flows.{BeginsLife}
use Rattle.law_deliver.proofs.AmFlow.Stations.{come_more}

-- ---- a bearer

fresh_begins : (c : BearerConfig) (kind : PdcpKind) (keys : Keys) (side : Side) → BeginsLife (fresh_am c kind keys side)
unfolding fresh_am
fresh_begins c kind keys side = record { sends = refl; hears = refl }

begins_as : (b d : State) → Am b ≡ Am d → BeginsLife b → BeginsLife d
begins_as b d q h = let same : b ≡ d = cc in subst BeginsLife same h

added_begins : (k : Kind) (c : BearerConfig) (keys : Keys) (side : Side) (b : State) → flow_of k c keys side ≡ Am b
    → BeginsLife b
added_begins kinds.Tm c keys side b q = cc
added_begins kinds.Um c keys side b q = cc
added_begins kinds.Srb c keys side b q =
    begins_as (fresh_am c pdcp.Srb keys side) b q (fresh_begins c pdcp.Srb keys side)
added_begins kinds.Am c keys side b q =
    begins_as (fresh_am c (pdcp.Am c.pdcp_bits) keys side) b q (fresh_begins c (pdcp.Am c.pdcp_bits) keys side)

restart_begins : (b : State) (keys : Keys) → BeginsLife (am_restarted (am_stopped b) keys)
unfolding am_restarted am_stopped
restart_begins b keys = record { sends = refl; hears = refl }

restarted_begins : (f : Flow) (keys : Keys) (b : State) → restarted (stopped f) keys ≡ Am b → BeginsLife b
unfolding restarted stopped
restarted_begins (Tm x) keys b q = cc
restarted_begins (Um x) keys b q = cc
restarted_begins (Am x) keys b q = begins_as (am_restarted (am_stopped x) keys) b q (restart_begins x keys)

-- ---- an end

pub come_so : (side : Side) (maximum : ℕ) (reports : Bool) (past : List Call) → AreGiven past
    → HasCome side (reached side maximum reports past)
come_so side maximum reports past g =
    record { maximum = maximum; reports = reports; past = past; given = g; end_is = refl }

pub adds_begin : (side : Side) (maximum : ℕ) (reports : Bool) (past : List Call) (config : BearerConfig) (keys : Keys)
    (b : State) → AreGiven past → IsConfig config
    → flow config.channel.lcid (after (reached side maximum reports past) (Add config keys)) ≡ Am b
    → Begins side config.channel.lcid (after (reached side maximum reports past) (Add config keys)) b
adds_begin side maximum reports past config keys b g is q =
    let e = reached side maximum reports past in
    let a = added e config keys in
    record {
      come = come_more side e (Add config keys) (come_so side maximum reports past g) is;
      there = a.there;
      bearer_is = q;
      life = added_begins config.kind config keys e.side b (sym a.flow_is ∙ q);
    }

pub moved_has : (l : ℕ) (bs : List (Of Life)) (keys : Keys) → has l (all_restarted (all_stopped bs) keys) ≡ has l bs
moved_has l bs keys =
    let ds = all_restarted (all_stopped bs) keys in
    ap (λ (n : ℕ). nat_lt n (length ds)) (restarted_find l bs keys)
    ∙ ap (λ (n : ℕ). nat_lt (find l bs) n) (restarted_length bs keys)

pub moved_flow : (l : ℕ) (bs : List (Of Life)) (keys : Keys) → has l bs ≡ true
    → flow_at l (all_restarted (all_stopped bs) keys) ≡ restarted (stopped (flow_at l bs)) keys
moved_flow l bs keys h =
    let ds = all_restarted (all_stopped bs) keys in
    let lt : find l bs < length bs = grind (arith, nat_tests) in
    ap (λ (k : ℕ). (bearer_at ds k).state.flow) (restarted_find l bs keys) ∙ restarted_at bs keys (find l bs) lt

pub moved_bearers : (e : End) (keys : Keys) → (after e (Move keys)).bearers ≡ all_restarted (all_stopped e.bearers) keys
unfolding joined left_cell
moved_bearers e keys = refl

pub moves_begin : (side : Side) (maximum : ℕ) (reports : Bool) (past : List Call) (keys : Keys) (l : ℕ) (b : State)
    → AreGiven past → has l (reached side maximum reports past).bearers ≡ true
    → flow l (after (reached side maximum reports past) (Move keys)) ≡ Am b
    → Begins side l (after (reached side maximum reports past) (Move keys)) b
moves_begin side maximum reports past keys l b g there q =
    let e = reached side maximum reports past in
    let same = moved_bearers e keys in
    record {
      come = come_more side e (Move keys) (come_so side maximum reports past g) tt;
      there = ap (has l) same ∙ moved_has l e.bearers keys ∙ there;
      bearer_is = q;
      life =
          restarted_begins (flow_at l e.bearers) keys b (sym (ap (flow_at l) same ∙ moved_flow l e.bearers keys there)
          ∙ q);
    }

-- an acknowledged bearer begins another as its end moves
restarted_am : (b : State) (keys : Keys) → restarted (stopped (Am b)) keys ≡ Am (am_restarted (am_stopped b) keys)
unfolding restarted stopped
restarted_am b keys = refl

pub record BeginsAgain (side : Side) (l : ℕ) (e : End) (keys : Keys) : Type 0 where
  pub bearer : State
  pub begins : Begins side l (after e (Move keys)) bearer

pub begins_again : (side : Side) (l : ℕ) (e : End) (b : State) (keys : Keys) → HasCome side e → has l e.bearers ≡ true
    → flow l e ≡ Am b → BeginsAgain side l e keys
begins_again side l e b keys come there q =
    let d : State = am_restarted (am_stopped b) keys in
    let is : flow l (after e (Move keys)) ≡ Am d =
    ap (flow_at l) (moved_bearers e keys) ∙ (moved_flow l e.bearers keys there
    ∙ (ap (λ (f : Flow). restarted (stopped f) keys) q ∙ restarted_am b keys)) in
    record {
      bearer = d;
      begins = subst (λ (x : End). has l x.bearers ≡ true → flow l (after x (Move keys)) ≡ Am d
          → Begins side l (after x (Move keys)) d) (sym come.end_is)
          (moves_begin side come.maximum come.reports come.past keys l d come.given) there is;
    }
