-- The bearers of an end through any calls: their lives, and the COUNTs that they take.
use Rattle.std.proofs.Common.{◌≡◌, ◌⊎◌, ℕ, ◌==◌, Bool, true, false, List, [], ◌∷◌, ◌++◌, append_assoc, refl, ap, sym}
use Rattle.std.proofs.Common.{◌∙◌, subst, arith, inl, inr}
use Rattle.std.proofs.lemmas.Bool.{cases_Bool}
use Rattle.std.proofs.lemmas.Bool.Decides.{nat_tests}
use Rattle.std.specs.List.{AllByRecursion}
use Rattle.bearer.specs.Bearer.{of, alive, begun, flow_of}
use Rattle.bearer.specs.declared.flow.Flow.{Flow}
use Rattle.law_bearer.proofs.AnyBearer.Texts.{takes_once}
use Rattle.law_bearer.specs.AnyBearer.Calls.{Call as BearerCall, Step, Calls, Restart, after as called}
use Rattle.law_bearer.specs.AnyBearer.Calls.{reached as bearer_reached}
use Rattle.law_bearer.specs.AnyBearer.Stream.{takes, taken, all_taken, counts}
use Rattle.bearer_types.specs.declared.config.BearerConfig.{BearerConfig}
use Rattle.eps_sec.specs.declared.Keys.{Keys}
use Rattle.harq.specs.declared.sender.Visit.{Visit}
use Rattle.harq.specs.declared.sender.Visit.TheVariants.{New, Resend, Silent}
use Rattle.l2_node.specs.Building.{visited, loaded, built_by, built, visit}
use Rattle.l2_node.specs.End.{End, fresh, with_bearer, reset, with_visits}
use Rattle.l2_node.specs.Finding.{has}
use Rattle.l2_node.specs.Hearing.{expired}
use Rattle.l2_node.specs.Moving.{left_cell, joined}
use Rattle.l2_node.specs.Submitting.{discarding}
use Rattle.l2_num.specs.Ascending.{IsAscending}
use Rattle.l2_types.specs.declared.side.Side.{Side}
use Rattle.pdcp_tx.specs.State.{Offer}
use Rattle.law_node.specs.Bearers.{keys_in, moves, restarts, Comes, adds, AddNone, GoesOn, IsAdded}
use Rattle.promises.specs.Counts.{counts_on}
use Rattle.law_node.specs.Calls.{Turn, Call, SetVisits, SetReports, Add, Submit, SetDiscard, Tick, TickBuckets, Visits}
use Rattle.law_node.specs.Calls.{Grants, Granted, Assigned, Pass, Receive, Expire, Move, AreGiven, answered, after}
use Rattle.law_node.specs.Calls.{run_end}
use Rattle.law_node.specs.Calls.{reached}
use Rattle.law_node.specs.Counts.{begins}
use Rattle.law_node.specs.Telling.{told_over}
use Rattle.law_node.proofs.Going.{run_goes}
use Rattle.law_node.proofs.Holding.{flow_at}
use Rattle.law_node.proofs.Keeping.{AllAre, reached_are}
use Rattle.law_node.proofs.Owning.{IsOwn, own_kept}
use Rattle.law_node.proofs.Sound.{reached_channels_sound}
use Rattle.law_node.proofs.Steps.{Takes, Goes, Stands, insert_stands}

-- ---- a bearer goes on

comes_by : (f g : Flow) (cs : List Call) (told : List ℕ) → Takes f g (moves cs) told → Comes f g cs told
comes_by f g cs told t = record {
  steps = t.steps;
  flow_is = t.flow_is;
  lives_are = t.lives_are;
  counts_are = t.counts_are;
}

own_bearers : (side : Side) (maximum : ℕ) (reports : Bool) (calls : List Call) → AreGiven calls
    → AllAre IsOwn (reached side maximum reports calls).bearers
own_bearers side maximum reports calls g = reached_are IsOwn own_kept side maximum reports calls g

pub go_on : (side : Side) (maximum : ℕ) (reports : Bool) (past calls : List Call) (lcid : ℕ) → AreGiven past
    → AreGiven calls
    → has lcid (reached side maximum reports past).bearers ≡ true → AddNone lcid calls
    → GoesOn lcid calls (reached side maximum reports past)
go_on side maximum reports past calls lcid past_given given h free =
    let e = reached side maximum reports past in
    let g = run_goes lcid calls e given (reached_channels_sound side maximum reports past past_given)
    (own_bearers side maximum reports past past_given) free in
    record {
      there = g.has_is ∙ h;
      comes = comes_by (flow_at lcid e.bearers) (flow_at lcid (run_end calls e).bearers) calls
          (counts_on lcid (told_over calls e)) (g.goes h);
    }

-- ---- an end keeps its side

turn_side : (v : Visit) (t : Turn) (e : End) → (answered v t (built_by v t.tti t.grant e)).side ≡ e.side
unfolding loaded
turn_side New t e = refl
turn_side (Resend rv) t e = refl
turn_side Silent t e = refl

pub call_side : (e : End) (c : Call) → (after e c).side ≡ e.side
unfolding with_visits with_bearer discarding expired built visited joined left_cell reset
call_side e (SetVisits maximum) = refl
call_side e (SetReports reports) = refl
call_side e (Add c keys) = refl
call_side e (Submit lcid octets) = refl
call_side e (SetDiscard lcid ttis) = refl
call_side e Tick = refl
call_side e TickBuckets = refl
call_side e (Visits t) = turn_side (visit t.tti t.order e) t (visited t.tti t.order e)
call_side e (Grants tti) = refl
call_side e (Granted tti good) = refl
call_side e (Assigned tti ndi good) = refl
call_side e (Pass tti) = refl
call_side e (Receive block) = refl
call_side e (Expire lcid clock) = refl
call_side e (Move keys) = refl

run_side : (cs : List Call) (e : End) → (run_end cs e).side ≡ e.side
run_side [] e = refl
run_side (c ∷ cs) e = run_side cs (after e c) ∙ call_side e c

pub reached_side : (side : Side) (maximum : ℕ) (reports : Bool) (calls : List Call)
    → (reached side maximum reports calls).side ≡ side
unfolding fresh
reached_side side maximum reports calls = run_side calls (fresh side maximum reports)

-- ---- the last call that adds a bearer of a channel

record IsLast (lcid : ℕ) (calls : List Call) : Type 0 where
  before : List Call
  config : BearerConfig
  keys : Keys
  since : List Call
  calls_are : calls ≡ before ++ (Add config keys ∷ since)
  channel_is : config.channel.lcid ≡ lcid
  last : AddNone lcid since

run_on : (xs ys : List Call) (e : End) → run_end (xs ++ ys) e ≡ run_end ys (run_end xs e)
run_on [] ys e = refl
run_on (x ∷ xs) ys e = run_on xs ys (after e x)

pub given_parts : (xs ys : List Call) → AreGiven (xs ++ ys) → AreGiven xs × AreGiven ys
given_parts [] ys g = (tt, g)
given_parts (x ∷ xs) ys g = let more = given_parts xs ys g.1 in ((g.0, more.0), more.1)

first_last : (lcid : ℕ) (c : Call) (cs : List Call) → adds lcid c ≡ true → AddNone lcid cs → IsLast lcid (c ∷ cs)
first_last lcid (Add config keys) cs e free =
    record {
      before = [];
      config = config;
      keys = keys;
      since = cs;
      calls_are = refl;
      channel_is = same config.channel.lcid lcid e;
      last = free;
    }
  where
    same : (n l : ℕ) → (n == l) ≡ true → n ≡ l
    same n l e = grind (arith, nat_tests)
first_last lcid (SetVisits maximum) cs e free = absurd cc
first_last lcid (SetReports reports) cs e free = absurd cc
first_last lcid (Submit l octets) cs e free = absurd cc
first_last lcid (SetDiscard l ttis) cs e free = absurd cc
first_last lcid Tick cs e free = absurd cc
first_last lcid TickBuckets cs e free = absurd cc
first_last lcid (Visits t) cs e free = absurd cc
first_last lcid (Grants tti) cs e free = absurd cc
first_last lcid (Granted tti good) cs e free = absurd cc
first_last lcid (Assigned tti ndi good) cs e free = absurd cc
first_last lcid (Pass tti) cs e free = absurd cc
first_last lcid (Receive block) cs e free = absurd cc
first_last lcid (Expire l clock) cs e free = absurd cc
first_last lcid (Move keys) cs e free = absurd cc

find_last : (lcid : ℕ) (calls : List Call) → AddNone lcid calls ⊎ IsLast lcid calls
find_last lcid [] = inl tt
find_last lcid (c ∷ cs) = elim (find_last lcid cs) [
  | inl none ↦ elim (cases_Bool (adds lcid c)) [
    | inl e ↦ inr (first_last lcid c cs e none)
    | inr e ↦ inl (e, none)
  ]
  | inr k ↦ inr (record {
    before = c ∷ k.before;
    config = k.config;
    keys = k.keys;
    since = k.since;
    calls_are = ap (λ (xs : List Call). c ∷ xs) k.calls_are;
    channel_is = k.channel_is;
    last = k.last;
  })
]

-- ---- a bearer comes, and lives on

pub added : (e : End) (config : BearerConfig) (keys : Keys)
    → Stands config.channel.lcid (after e (Add config keys)).bearers (flow_of config.kind config keys e.side)
unfolding with_bearer begun
added e config keys = insert_stands (of config.channel (alive (flow_of config.kind config keys e.side))) e.bearers

lives_on : (side : Side) (maximum : ℕ) (reports : Bool) (calls : List Call) (lcid : ℕ) → AreGiven calls
    → IsLast lcid calls → IsAdded side maximum reports calls lcid
lives_on side maximum reports calls lcid g k =
    let begin = fresh side maximum reports in
    let e = reached side maximum reports k.before in
    let until = k.before ++ (Add k.config k.keys ∷ []) in
    let d = reached side maximum reports until in
    let given =
    given_parts until k.since
    (subst AreGiven (k.calls_are ∙ sym (append_assoc k.before (Add k.config k.keys ∷ []) k.since)) g) in
    let d_is : d ≡ after e (Add k.config k.keys) = run_on k.before (Add k.config k.keys ∷ []) begin in
    let stands : Stands k.config.channel.lcid d.bearers (flow_of k.config.kind k.config k.keys e.side) =
    subst (λ (x : End). Stands k.config.channel.lcid x.bearers (flow_of k.config.kind k.config k.keys e.side))
    (sym d_is) (added e k.config k.keys) in
    let begun_is : flow_at lcid d.bearers ≡ flow_of k.config.kind k.config k.keys side =
    ap (λ (l : ℕ). flow_at l d.bearers) (sym k.channel_is) ∙ stands.flow_is
    ∙ ap (λ (s : Side). flow_of k.config.kind k.config k.keys s) (reached_side side maximum reports k.before) in
    let there : has lcid d.bearers ≡ true = ap (λ (l : ℕ). has l d.bearers) (sym k.channel_is) ∙ stands.there in
    let end_is : run_end k.since d ≡ reached side maximum reports calls =
    ap (run_end k.since) d_is ∙ sym (run_on k.before (Add k.config k.keys ∷ k.since) begin)
    ∙ ap (λ (cs : List Call). run_end cs begin) (sym k.calls_are) in
    let told = counts_on lcid (told_over k.since d) in
    let one =
    (run_goes lcid k.since d given.1 (reached_channels_sound side maximum reports until given.0)
    (own_bearers side maximum reports until given.0) k.last).goes there in
    record {
      before = k.before;
      config = k.config;
      keys = k.keys;
      since = k.since;
      calls_are = k.calls_are;
      channel_is = k.channel_is;
      last = k.last;
      comes =
          subst (λ (f : Flow). Comes f (flow_at lcid (reached side maximum reports calls).bearers) k.since told)
          begun_is
          (subst (λ (x : End). Comes (flow_at lcid d.bearers) (flow_at lcid x.bearers) k.since told) end_is
          (comes_by (flow_at lcid d.bearers) (flow_at lcid (run_end k.since d).bearers) k.since told one));
    }

-- an end without bearers
none_at_first : (side : Side) (maximum : ℕ) (reports : Bool) (lcid : ℕ)
    → has lcid (fresh side maximum reports).bearers ≡ false
unfolding fresh
none_at_first side maximum reports lcid = refl

pub are_added : (side : Side) (maximum : ℕ) (reports : Bool) (calls : List Call) (lcid : ℕ) → AreGiven calls
    → has lcid (reached side maximum reports calls).bearers ≡ true → IsAdded side maximum reports calls lcid
are_added side maximum reports calls lcid given h = elim (find_last lcid calls) [
  | inl none ↦
      let g = run_goes lcid calls (fresh side maximum reports) given (reached_channels_sound side maximum reports [] tt)
      (own_bearers side maximum reports [] tt) none in
      let no : false ≡ true = sym (none_at_first side maximum reports lcid) ∙ sym g.has_is ∙ h in
      cc
  | inr k ↦ lives_on side maximum reports calls lcid given k
]

-- ---- calls of one life

record OneLife (f : Flow) (steps : List Step) : Type 0 where
  calls : List BearerCall
  taken_is : all_taken f steps ≡ taken f calls

one_life : (f : Flow) (steps : List Step) → restarts steps ≡ [] → OneLife f steps
one_life f [] e = record { calls = []; taken_is = refl }
one_life f (Calls c ∷ steps) e =
    let more = one_life (called f c) steps e in
    record { calls = c ∷ more.calls; taken_is = ap (λ (os : List Offer). takes f c ++ os) more.taken_is }
one_life f (Restart keys ∷ steps) e = absurd cc

-- no life begins, so none is added and the end doesn't move
record Neither (lcid : ℕ) (c : Call) : Type 0 where
  adds_none : adds lcid c ≡ false
  moves_none : keys_in c ≡ []

neither : (lcid : ℕ) (c : Call) → begins lcid c ≡ false → Neither lcid c
neither lcid (Add config keys) e = record { adds_none = e; moves_none = refl }
neither lcid (SetVisits maximum) e = record { adds_none = refl; moves_none = refl }
neither lcid (SetReports reports) e = record { adds_none = refl; moves_none = refl }
neither lcid (Submit l octets) e = record { adds_none = refl; moves_none = refl }
neither lcid (SetDiscard l ttis) e = record { adds_none = refl; moves_none = refl }
neither lcid Tick e = record { adds_none = refl; moves_none = refl }
neither lcid TickBuckets e = record { adds_none = refl; moves_none = refl }
neither lcid (Visits t) e = record { adds_none = refl; moves_none = refl }
neither lcid (Grants tti) e = record { adds_none = refl; moves_none = refl }
neither lcid (Granted tti good) e = record { adds_none = refl; moves_none = refl }
neither lcid (Assigned tti ndi good) e = record { adds_none = refl; moves_none = refl }
neither lcid (Pass tti) e = record { adds_none = refl; moves_none = refl }
neither lcid (Receive block) e = record { adds_none = refl; moves_none = refl }
neither lcid (Expire l clock) e = record { adds_none = refl; moves_none = refl }
neither lcid (Move keys) e = absurd cc

record AllNeither (lcid : ℕ) (cs : List Call) : Type 0 where
  add_none : AddNone lcid cs
  move_none : moves cs ≡ []

all_neither : (lcid : ℕ) (cs : List Call) → AllByRecursion (λ c. begins lcid c ≡ false) cs → AllNeither lcid cs
all_neither lcid [] b = record { add_none = tt; move_none = refl }
all_neither lcid (c ∷ cs) b =
    let one = neither lcid c b.0 in
    let more = all_neither lcid cs b.1 in
    record {
      add_none = (one.adds_none, more.add_none);
      move_none = ap (λ (ks : List Keys). ks ++ moves cs) one.moves_none ∙ more.move_none;
    }

-- through calls that begin none
neither_goes : (side : Side) (maximum : ℕ) (reports : Bool) (past calls : List Call) (lcid : ℕ) → AreGiven past
    → AreGiven calls → AllNeither lcid calls
    → Goes lcid (reached side maximum reports past).bearers (run_end calls (reached side maximum reports past)).bearers
    (moves calls) (counts_on lcid (told_over calls (reached side maximum reports past)))
neither_goes side maximum reports past calls lcid past_given given k =
    run_goes lcid calls (reached side maximum reports past) given
    (reached_channels_sound side maximum reports past past_given)
    (own_bearers side maximum reports past past_given) k.add_none

pub counts_ascend : (side : Side) (maximum : ℕ) (reports : Bool) (past calls : List Call) (lcid : ℕ) → AreGiven past
    → AreGiven calls
    → AllByRecursion (λ c. begins lcid c ≡ false) calls
    → IsAscending 0 (counts_on lcid (told_over calls (reached side maximum reports past)))
counts_ascend side maximum reports past calls lcid past_given given b =
    let e = reached side maximum reports past in
    let k = all_neither lcid calls b in
    let g = neither_goes side maximum reports past calls lcid past_given given k in
    elim (cases_Bool (has lcid e.bearers)) [
      | inl there ↦
          let born = are_added side maximum reports past lcid past_given there in
          let t = g.goes there in
          let life = one_life (flow_at lcid e.bearers) t.steps (t.lives_are ∙ k.move_none) in
          let flow_is : flow_at lcid e.bearers ≡ bearer_reached born.config born.keys side born.comes.steps =
          born.comes.flow_is in
          subst (λ (ns : List ℕ). IsAscending 0 ns) (ap counts (sym (ap (λ (f : Flow). taken f life.calls) flow_is))
          ∙ ap counts (sym life.taken_is) ∙ t.counts_are)
          (takes_once born.config born.keys side born.comes.steps life.calls)
      | inr none ↦ subst (λ (ns : List ℕ). IsAscending 0 ns) (sym (g.none none)) tt
    ]

-- where there is no bearer of the channel, none was taken
pub none_taken : (side : Side) (maximum : ℕ) (reports : Bool) (past calls : List Call) (lcid : ℕ) → AreGiven past
    → AreGiven calls
    → AllByRecursion (λ c. begins lcid c ≡ false) calls
    → has lcid (run_end calls (reached side maximum reports past)).bearers ≡ false
    → counts_on lcid (told_over calls (reached side maximum reports past)) ≡ []
none_taken side maximum reports past calls lcid past_given given b absent =
    let g = neither_goes side maximum reports past calls lcid past_given given (all_neither lcid calls b) in
    g.none (sym g.has_is ∙ absent)
