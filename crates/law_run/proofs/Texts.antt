-- Each bearer goes on through the groups of a journal in lives under the keys that lines gave, and no text of any meets
-- another.
use Rattle.std.proofs.Common.{◌≡◌, ℕ, Bool, true, false, cond, ◌&&◌, if◌then◌else◌, Option}
use Rattle.std.proofs.Common.{Some, None, is_none, is_some, List, [], ◌∷◌, ◌++◌, append-nil, refl, ap, sym, ◌∙◌}
use Rattle.std.proofs.Common.{subst}
use Rattle.std.specs.List.{filter}
use Rattle.air_link.specs.Link.{Link, end_of}
use Rattle.air_record.specs.declared.line.Line.{Line}
use Rattle.air_record.specs.declared.line.Line.TheVariants as lines
use Rattle.air_record.specs.declared.record.Record.{Record}
use Rattle.air_record.specs.declared.record.Record.TheVariants as records
use Rattle.air_run.specs.declared.refusal.RunRefusal.TheVariants.{ConfiguredLate, SetTwice, BearerTwice, NoKeys}
use Rattle.air_run.specs.Playing.{keys_or_none}
use Rattle.air_run.specs.Rules.{Rules, no_rules, wants_keys, is_taken, late, late_or_twice, refused_if, rule_broken}
use Rattle.air_run.specs.Rules.{refusal, accepted}
use Rattle.air_run.specs.Run.{fresh}
use Rattle.air_text.specs.Groups.{Group, history}
use Rattle.bearer.specs.Bearer.{flow_of}
use Rattle.bearer.specs.declared.flow.Flow.{Flow}
use Rattle.law_bearer.specs.AnyBearer.Calls.{Step, run_bearer, reached as bearer_reached}
use Rattle.law_bearer.specs.AnyBearer.Ciphering.{restarts}
use Rattle.law_bearer.specs.AnyBearer.Stream.{all_taken, counts}
use Rattle.bearer_types.specs.Configs.{IsConfig}
use Rattle.bearer_types.specs.declared.config.BearerConfig.{BearerConfig}
use Rattle.eps_sec.specs.declared.Keys.{Keys}
use Rattle.l2_node.specs.End.{End, fresh as fresh_end}
use Rattle.l2_node.specs.Finding.{has}
use Rattle.l2_types.specs.declared.side.Side.{Side}
use Rattle.law_run.specs.AnyCalls.Ends.{begins_life}
use Rattle.promises.specs.Records.{events_of, is_of_building}
use Rattle.law_run.proofs.AnyCalls.Going.{run_on, given_on, over_on, told_both}
use Rattle.law_node.specs.Bearers.{keys_in, moves, adds, AddNone}
use Rattle.promises.specs.Counts.{counts_on, counts_taken}
use Rattle.law_node.specs.Calls.{Call, Add, Move, AreGiven, after, run_end, reached}
use Rattle.law_node.specs.Holding.{flow}
use Rattle.law_node.specs.Telling.{told_over}
use Rattle.law_node.proofs.Counted.{counts_then}
use Rattle.law_node.proofs.Living.{go_on, added, reached_side, given_parts}
use Rattle.law_node.proofs.Steps.{Takes, then_takes}
use Rattle.promises.specs.Air.{ttis}
use Rattle.promises.specs.Blocks.{kinds, AreTold}
use Rattle.law_run.specs.Order.{state_behind, IsRight, KeepsOrder}
use Rattle.promises.specs.Parts.{part_of_line}
use Rattle.promises.specs.Keys.{keys_in_force_by, keys_in_force, gives_keys, keys_given}
use Rattle.promises.specs.Configs.{config_of}
use Rattle.law_run.proofs.BearerWalk.{adds_one, behind_all}
use Rattle.law_run.proofs.Counts.{come, goes, none_taken}
use Rattle.law_run.proofs.Keys.{not_first, not_second, no_cause}
use Rattle.law_run.proofs.Past.{link_behind}
use Rattle.law_run.proofs.Reaching.{lives_by}

-- ---- what a line leaves of the rules

abbrev keys_list : Option Keys → List Keys
keys_list None = []
keys_list (Some keys) = keys ∷ []

-- a line behind which nothing has begun configures, and tells of no new block
record Configures (line : Line) (r : Rules) (past : List Group) : Type 0 where
  early : r.begun ≡ false
  given_is : keys_given past ≡ keys_list r.keys
      → keys_given past ++ (if gives_keys line then keys_in_force_by line (keys_in_force past) ∷ [] else [])
      ≡ keys_list (accepted line r).keys

stays_given : (past : List Group) (o : Option Keys) → keys_given past ≡ keys_list o
    → keys_given past ++ [] ≡ keys_list o
stays_given past o e = append-nil (keys_given past) ∙ e

none_twice : (o : Option Keys) → is_some o ≡ false → o ≡ None
none_twice None e = refl
none_twice (Some keys) e = absurd cc

first_given : (keys : Keys) (past : List Group) (o : Option Keys) → o ≡ None → keys_given past ≡ keys_list o
    → keys_given past ++ keys ∷ [] ≡ keys ∷ []
first_given keys past o none e = ap (λ (ks : List Keys). ks ++ keys ∷ []) (e ∙ ap keys_list none)

configures : (line : Line) (r : Rules) (l : Link) (past : List Group) → refusal line r l ≡ None
    → (accepted line r).begun ≡ false → Configures line r past
unfolding accepted rule_broken
configures (lines.Harq visits) r l past allowed early = record { early = early; given_is = stays_given past r.keys }
configures lines.Bsr r l past allowed early = record { early = early; given_is = stays_given past r.keys }
configures (lines.Keys keys) r l past allowed early =
    let twice = not_second (late r) (refused_if (is_some r.keys) SetTwice)
    (not_first (late_or_twice (is_some r.keys) r) _ (not_first (rule_broken (lines.Keys keys) r l) _ allowed)) in
    record {
      early = early;
      given_is = first_given keys past r.keys (none_twice r.keys (no_cause (is_some r.keys) SetTwice twice));
    }
configures (lines.Bearer config options) r l past allowed early =
    record { early = early; given_is = stays_given past r.keys }
configures (lines.Discard lcid ttis) r l past allowed early =
    record { early = early; given_is = stays_given past r.keys }
configures (lines.Drx config) r l past allowed early = record { early = early; given_is = stays_given past r.keys }
configures line r l past allowed early = absurd cc

unbuilt : (line : Line) (r : Rules) (t : ℕ) (kinds' : _) (told : List Record) → (accepted line r).begun ≡ false
    → AreTold t kinds' (part_of_line line) told → filter is_of_building told ≡ []
unfolding accepted
unbuilt (lines.Harq visits) r t ks told early none = none
unbuilt lines.Bsr r t ks told early none = none
unbuilt (lines.Keys keys) r t ks told early none = none
unbuilt (lines.Bearer config options) r t ks told early none = none
unbuilt (lines.Discard lcid ttis) r t ks told early none = none
unbuilt (lines.Drx config) r t ks told early none = none
unbuilt line r t ks told early none = absurd cc

-- ---- COUNTs over groups

over_groups : (side : Side) (lcid : ℕ) (g : Group) (past : List Group)
    → counts_taken side lcid (history (g ∷ past)) ≡ counts_taken side lcid (history past)
    ++ counts_taken side lcid g.events
over_groups side lcid g past =
    ap (counts_on lcid)
    (told_both side (history past) (records.Line g.number g.line ∷ g.events) (events_of side (history past))
    (events_of side g.events) refl refl)
    ∙ counts_then lcid (events_of side (history past)) (events_of side g.events)

-- as long as nothing has begun, nothing is taken, and at most one line gave keys
record Early (past : List Group) : Type 0 where
  none_taken : (side : Side) (lcid : ℕ) → counts_taken side lcid (history past) ≡ []
  given_is : keys_given past ≡ keys_list (state_behind past).rules.keys

nothing_begun : (past : List Group) → KeepsOrder past → (state_behind past).rules.begun ≡ false → Early past
unfolding fresh no_rules
nothing_begun [] order early = record { none_taken = λ side lcid. refl; given_is = refl }
nothing_begun (g ∷ past) (right, order) early =
    let r = (state_behind past).rules in
    let c = configures g.line r (link_behind past) past right.allowed early in
    let before = nothing_begun past order c.early in
    record {
      none_taken = λ side lcid.
          over_groups side lcid g past
          ∙ ap (λ (ns : List ℕ). ns ++ counts_taken side lcid g.events) (before.none_taken side lcid)
          ∙ none_taken side lcid g.events (unbuilt g.line r _ _ g.events early right.blocks);
      given_is = c.given_is before.given_is;
    }

-- ---- the cipher stays

cipher_by : (line : Line) (r : Rules) (before : Keys) → before.alg ≡ (keys_or_none r.keys).alg
    → (keys_in_force_by line before).alg ≡ (keys_or_none (accepted line r).keys).alg
unfolding accepted
cipher_by (lines.Keys keys) r before e = refl
cipher_by (lines.Handover user rrc integrity) r before e = e
cipher_by line r before e = e

cipher_stays : (past : List Group) → (keys_in_force past).alg ≡ (keys_or_none (state_behind past).rules.keys).alg
unfolding fresh no_rules
cipher_stays [] = refl
cipher_stays (g ∷ past) = cipher_by g.line (state_behind past).rules (keys_in_force past) (cipher_stays past)

-- ---- calls with which lives begin

quiet : (c : Call) → begins_life c ≡ false → (moves (c ∷ []) ≡ []) × ((lcid : ℕ) → adds lcid c ≡ false)
quiet (Add config keys) free = absurd cc
quiet (Move keys) free = absurd cc
quiet c free = (refl, λ lcid. refl)

moves_by : (b : Bool) (c : Call) (calls : List Call) → begins_life c ≡ b
    → moves calls ≡ moves (filter begins_life calls)
    → moves (c ∷ calls) ≡ moves (cond b (c ∷ filter begins_life calls) (filter begins_life calls))
moves_by true c calls is e = ap (λ (ks : List Keys). keys_in c ++ ks) e
moves_by false c calls is e = ap (λ (ks : List Keys). ks ++ moves calls) (sym (append-nil _) ∙ (quiet c is).0) ∙ e

pub moves_are : (calls : List Call) → moves calls ≡ moves (filter begins_life calls)
moves_are [] = refl
moves_are (c ∷ calls) = moves_by (begins_life c) c calls refl (moves_are calls)

adds_by : (b : Bool) (lcid : ℕ) (c : Call) (calls : List Call) → begins_life c ≡ b
    → AddNone lcid (cond b (c ∷ filter begins_life calls) (filter begins_life calls))
    → (AddNone lcid (filter begins_life calls) → AddNone lcid calls) → AddNone lcid (c ∷ calls)
adds_by true lcid c calls is none rest = (none.0, rest none.1)
adds_by false lcid c calls is none rest = ((quiet c is).1 lcid, rest none)

pub adds_are : (lcid : ℕ) (calls : List Call) → AddNone lcid (filter begins_life calls) → AddNone lcid calls
adds_are lcid [] none = tt
adds_are lcid (c ∷ calls) none = adds_by (begins_life c) lcid c calls refl none (adds_are lcid calls)

-- where one life begins, calls before and behind it begin none
record Split (x : Call) (calls : List Call) : Type 0 where
  before : List Call
  behind : List Call
  calls_are : calls ≡ before ++ x ∷ behind
  none_behind : filter begins_life behind ≡ []

split_by : (b : Bool) (x c : Call) (calls : List Call) → begins_life c ≡ b
    → cond b (c ∷ filter begins_life calls) (filter begins_life calls) ≡ x ∷ []
    → (filter begins_life calls ≡ x ∷ [] → Split x calls) → Split x (c ∷ calls)
split_by true x c calls is e rest =
    let first : c ≡ x = cc in
    let none : filter begins_life calls ≡ [] = cc in
    record { before = []; behind = calls; calls_are = ap (λ (d : Call). d ∷ calls) first; none_behind = none }
split_by false x c calls is e rest =
    let s = rest e in
    record {
      before = c ∷ s.before;
      behind = s.behind;
      calls_are = ap (λ (cs : List Call). c ∷ cs) s.calls_are;
      none_behind = s.none_behind;
    }

split : (x : Call) (calls : List Call) → filter begins_life calls ≡ x ∷ [] → Split x calls
split x [] e = absurd cc
split x (c ∷ calls) e = split_by (begins_life c) x c calls refl e (split x calls)

none_last : (xs ys : List ℕ) → xs ++ ys ≡ [] → ys ≡ []
none_last [] ys e = e
none_last (x ∷ xs) ys e = absurd cc

-- ---- a bearer through the groups

pub record IsThere (side : Side) (lcid : ℕ) (past : List Group) (config : BearerConfig) : Type 0 where
  pub keys : Keys
  pub steps : List Step
  pub there : has lcid (end_of side (link_behind past)).bearers ≡ true
  pub flow_is : flow lcid (end_of side (link_behind past)) ≡ bearer_reached config keys side steps
  pub keyed : is_some (state_behind past).rules.keys ≡ true
  pub lives_are : keys ∷ restarts steps ≡ keys_given past
  pub counts_are : counts (all_taken (flow_of config.kind config keys side) steps)
      ≡ counts_taken side lcid (history past)

still_keyed : (line : Line) (r : Rules) → is_some r.keys ≡ true → is_some (accepted line r).keys ≡ true
unfolding accepted
still_keyed (lines.Keys keys) r e = refl
still_keyed (lines.Handover user rrc integrity) r e = e
still_keyed line r e = e

-- the keys that a line gives begin lives, where there were keys before
moved_by : (line : Line) (r : Rules) (l : Link) (past : List Group) → refusal line r l ≡ None → is_some r.keys ≡ true
    → (keys_in_force past).alg ≡ (keys_or_none r.keys).alg
    → moves (lives_by line r.keys) ≡ (if gives_keys line then keys_in_force_by line (keys_in_force past) ∷ [] else [])
unfolding rule_broken
moved_by (lines.Keys keys) r l past allowed keyed e =
    let twice = not_second (late r) (refused_if (is_some r.keys) SetTwice)
    (not_first (late_or_twice (is_some r.keys) r) _ (not_first (rule_broken (lines.Keys keys) r l) _ allowed)) in
    let no : true ≡ false = sym keyed ∙ no_cause (is_some r.keys) SetTwice twice in
    cc
moved_by (lines.Handover user rrc integrity) r l past allowed keyed e =
    ap (λ alg. record { alg = alg; user = user; rrc = rrc; integrity = integrity } ∷ []) (sym e)
moved_by line r l past allowed keyed e = refl

pub adds_none : (lcid : ℕ) (line : Line) (keys : Option Keys) → adds_one lcid line ≡ false
    → AddNone lcid (lives_by line keys)
adds_none lcid (lines.Bearer config options) keys free = (free, tt)
adds_none lcid (lines.Handover user rrc integrity) keys free = (refl, tt)
adds_none lcid line keys free = tt

pub none_added : (side : Side) (lcid : ℕ) (past : List Group) (g : Group) (right : IsRight past g)
    (order : KeepsOrder past) → adds_one lcid g.line ≡ false → AddNone lcid (goes side past g right order).by.calls
none_added side lcid past g right order free =
    let k = goes side past g right order in
    adds_are lcid k.by.calls
    (subst (AddNone lcid) (sym k.lives_are) (adds_none lcid g.line (state_behind past).rules.keys free))

goes_there : (side : Side) (lcid : ℕ) (past : List Group) (g : Group) (config : BearerConfig) → IsRight past g
    → KeepsOrder past → adds_one lcid g.line ≡ false → IsThere side lcid past config
    → IsThere side lcid (g ∷ past) config
goes_there side lcid past g config right order free t =
    let r = (state_behind past).rules in
    let e = end_of side (link_behind past) in
    let m = end_of side (link_behind (g ∷ past)) in
    let p = come side past order in
    let k = goes side past g right order in
    let calls = k.by.calls in
    let f = flow_of config.kind config t.keys side in
    let none = none_added side lcid past g right order free in
    let on = go_on side 4 false p.calls calls lcid p.given k.by.given
    (ap (λ (x : End). has lcid x.bearers) (sym p.end_is) ∙ t.there) none in
    let here = reached side 4 false p.calls in
    let there : run_end calls here ≡ m = ap (run_end calls) (sym p.end_is) ∙ sym k.by.end_is in
    let told : counts_on lcid (told_over calls here) ≡ counts_taken side lcid g.events =
    ap (λ (x : End). counts_on lcid (told_over calls x)) (sym p.end_is)
    ∙ ap (counts_on lcid) (sym k.by.told_is) in
    let lives : moves calls ≡ (if gives_keys g.line then keys_in_force_by g.line (keys_in_force past) ∷ [] else []) =
    moves_are calls ∙ ap moves k.lives_are
    ∙ moved_by g.line r (link_behind past) past right.allowed t.keyed (cipher_stays past) in
    let before : Takes f (flow lcid e) (restarts t.steps) (counts_taken side lcid (history past)) =
    record { steps = t.steps; flow_is = t.flow_is; lives_are = refl; counts_are = t.counts_are } in
    let now : Takes (flow lcid e) (flow lcid m) (moves calls) (counts_taken side lcid g.events) = record {
      steps = on.comes.steps;
      flow_is = ap (flow lcid) (sym there) ∙ on.comes.flow_is
          ∙ ap (λ (x : End). run_bearer on.comes.steps (flow lcid x)) (sym p.end_is);
      lives_are = on.comes.lives_are;
      counts_are = ap (λ (x : End). counts (all_taken (flow lcid x) on.comes.steps)) p.end_is ∙ on.comes.counts_are
          ∙ told;
    } in
    let both = then_takes f (flow lcid e) (flow lcid m) (restarts t.steps) (moves calls)
    (counts_taken side lcid (history past)) (counts_taken side lcid g.events) before now in
    record {
      keys = t.keys;
      steps = both.steps;
      there = ap (λ (x : End). has lcid x.bearers) (sym there) ∙ on.there;
      flow_is = both.flow_is;
      keyed = still_keyed g.line r t.keyed;
      lives_are =
          ap (λ (ks : List Keys). t.keys ∷ ks) (both.lives_are
          ∙ ap (λ (ks : List Keys). restarts t.steps ++ ks) lives)
          ∙ ap (λ (ks : List Keys). ks ++ (if gives_keys g.line then keys_in_force_by g.line (keys_in_force past)
          ∷ [] else []))
          t.lives_are;
      counts_are = both.counts_are ∙ sym (over_groups side lcid g past);
    }

-- ---- a bearer begins

some_keys : (o : Option Keys) → is_none o ≡ false → o ≡ Some (keys_or_none o)
some_keys None e = absurd cc
some_keys (Some keys) e = refl

wanted : (b c : Bool) → b ≡ true → (b && c) ≡ false → c ≡ false
wanted true c e h = h
wanted false c e h = absurd cc

record MayBegin (config : BearerConfig) (r : Rules) : Type 0 where
  early : r.begun ≡ false
  keyed : r.keys ≡ Some (keys_or_none r.keys)

may_begin : (config : BearerConfig) (options : _) (r : Rules) (l : Link)
    → refusal (lines.Bearer config options) r l ≡ None → wants_keys config.kind ≡ true → MayBegin config r
unfolding rule_broken
may_begin config options r l allowed wants =
    let broken = not_first (rule_broken (lines.Bearer config options) r l) _ allowed in
    let rest = not_second (late r) _ broken in
    let keys = not_second (refused_if (is_taken config.channel.lcid l) BearerTwice) _ rest in
    record {
      early = no_cause r.begun ConfiguredLate (not_first (late r) _ broken);
      keyed =
          some_keys r.keys
          (wanted (wants_keys config.kind) (is_none r.keys) wants
          (no_cause (wants_keys config.kind && is_none r.keys) NoKeys keys));
    }

begin_there : (side : Side) (past : List Group) (g : Group) (config : BearerConfig) (options : _)
    → g.line ≡ lines.Bearer config options → IsRight past g → KeepsOrder past → wants_keys config.kind ≡ true
    → IsThere side config.channel.lcid (g ∷ past) config
begin_there side past g config options line_is right order wants =
    let lcid = config.channel.lcid in
    let r = (state_behind past).rules in
    let e = end_of side (link_behind past) in
    let m = end_of side (link_behind (g ∷ past)) in
    let may =
    may_begin config options r (link_behind past)
    (subst (λ (line : Line). refusal line r (link_behind past) ≡ None) line_is right.allowed) wants in
    let early = nothing_begun past order may.early in
    let ks = keys_or_none r.keys in
    let p = come side past order in
    let k = goes side past g right order in
    let s = split (Add config ks) k.by.calls (k.lives_are ∙ ap (λ (line : Line). lives_by line r.keys) line_is) in
    let all = given_parts s.before (Add config ks ∷ s.behind) (subst AreGiven s.calls_are k.by.given) in
    let until = (p.calls ++ s.before) ++ Add config ks ∷ [] in
    let here = reached side 4 false (p.calls ++ s.before) in
    let begun = reached side 4 false until in
    let begun_is : begun ≡ after here (Add config ks) =
    run_on (p.calls ++ s.before) (Add config ks ∷ []) (fresh_end side 4 false) in
    let stands = added here config ks in
    let has_it : has lcid begun.bearers ≡ true = ap (λ (x : End). has lcid x.bearers) begun_is ∙ stands.there in
    let flow_first : flow lcid begun ≡ flow_of config.kind config ks side =
    ap (flow lcid) begun_is ∙ stands.flow_is
    ∙ ap (λ (x : Side). flow_of config.kind config ks x) (reached_side side 4 false (p.calls ++ s.before)) in
    let given_until =
    given_on (p.calls ++ s.before) (Add config ks ∷ []) (given_on p.calls s.before p.given all.0) (all.1.0, tt) in
    let none = adds_are lcid s.behind (subst (AddNone lcid) (sym s.none_behind) tt) in
    let on = go_on side 4 false until s.behind lcid given_until all.1.1 has_it none in
    let come_here : run_end s.before e ≡ here = ap (run_end s.before) p.end_is
    ∙ sym (run_on p.calls s.before (fresh_end side 4 false)) in
    let there : run_end s.behind begun ≡ m =
    ap (run_end s.behind) (begun_is ∙ ap (λ (x : End). after x (Add config ks)) (sym come_here))
    ∙ sym (run_on s.before (Add config ks ∷ s.behind) e) ∙ ap (λ (cs : List Call). run_end cs e) (sym s.calls_are)
    ∙ sym k.by.end_is in
    let unbuilt_here : counts_taken side lcid g.events ≡ [] =
    none_taken side lcid g.events
    (subst (λ (line : Line). AreTold (ttis past) (kinds past) (part_of_line line) g.events) line_is right.blocks) in
    let told : counts_on lcid (told_over s.before e) ++ counts_on lcid (told_over s.behind begun) ≡ [] =
    ap (λ (x : End). counts_on lcid (told_over s.before e) ++ counts_on lcid (told_over s.behind x))
    (begun_is ∙ ap (λ (x : End). after x (Add config ks)) (sym come_here))
    ∙ sym (counts_then lcid (told_over s.before e) (told_over s.behind (after (run_end s.before e) (Add config ks))))
    ∙ ap (counts_on lcid) (sym (over_on s.before (Add config ks ∷ s.behind) e)
    ∙ ap (λ (cs : List Call). told_over cs e) (sym s.calls_are) ∙ sym k.by.told_is) ∙ unbuilt_here in
    record {
      keys = ks;
      steps = on.comes.steps;
      there = ap (λ (x : End). has lcid x.bearers) (sym there) ∙ on.there;
      flow_is = ap (flow lcid) (sym there) ∙ on.comes.flow_is ∙ ap (run_bearer on.comes.steps) flow_first;
      keyed = still_keyed g.line r (ap is_some may.keyed);
      lives_are =
          ap (λ (l : List Keys). ks ∷ l) (on.comes.lives_are ∙ moves_are s.behind ∙ ap moves s.none_behind)
          ∙ sym
          (ap (λ (line : Line). keys_given past ++ (if gives_keys line then keys_in_force_by line (keys_in_force past)
          ∷ [] else []))
          line_is ∙ append-nil (keys_given past) ∙ early.given_is ∙ ap keys_list may.keyed);
      counts_are =
          ap (λ (f : Flow). counts (all_taken f on.comes.steps)) (sym flow_first) ∙ on.comes.counts_are
          ∙ none_last (counts_on lcid (told_over s.before e)) (counts_on lcid (told_over s.behind begun)) told
          ∙ sym (over_groups side lcid g past
          ∙ ap (λ (ns : List ℕ). ns ++ counts_taken side lcid g.events) (early.none_taken side lcid) ∙ unbuilt_here);
    }

-- ---- each bearer that has keys

pub is_there : (side : Side) (lcid : ℕ) (past : List Group) (config : BearerConfig) → KeepsOrder past
    → wants_keys config.kind ≡ true → config_of lcid past ≡ Some config → IsThere side lcid past config
is_there side lcid past config order wants e =
    behind_all (λ l c groups. IsThere side l groups c) (λ c. wants_keys c.kind ≡ true)
    (λ groups g c options right keeps want.
    begin_there side groups (record g { line = lines.Bearer c options }) c options refl right keeps want)
    (λ l c groups g right keeps free before t. goes_there side l groups g c right keeps free t) lcid past config order
    wants e

-- ---- configurations

pub record IsConfigured (lcid : ℕ) (config : BearerConfig) : Type 0 where
  pub lcid_is : config.channel.lcid ≡ lcid
  pub in_range : IsConfig config

pub configured : (lcid : ℕ) (past : List Group) (config : BearerConfig) → KeepsOrder past
    → config_of lcid past ≡ Some config → IsConfigured lcid config
configured lcid past config order e =
    behind_all (λ l c groups. IsConfigured l c) (λ c. Unit {0})
    (λ groups g c options right keeps any. record { lcid_is = refl; in_range = right.in_range })
    (λ l c groups g right keeps free before h. h) lcid past config order tt e
