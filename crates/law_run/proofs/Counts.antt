-- From one handover to the next an end is called on by calls with which no life of a channel's bearer begins but its
-- first, before which nothing is taken: so the COUNTs that it tells of as taken ascend.
use Rattle.std.proofs.Common.{◌≡◌, ℕ, ◌==◌, Bool, true, false, cond, ◌&&◌, not, if◌then◌else◌, Option, None, List, []}
use Rattle.std.proofs.Common.{◌∷◌, ◌++◌, arith, refl, ap, sym, ◌∙◌, subst}
use Rattle.std.proofs.lemmas.Bool.Decides.{nat_tests}
use Rattle.std.specs.List.{AllByRecursion, filter}
use Rattle.air_link.specs.Link.{Link, end_of}
use Rattle.air_record.specs.declared.line.Line.{Line}
use Rattle.air_record.specs.declared.line.Line.TheVariants as lines
use Rattle.air_record.specs.declared.record.Record.{Record}
use Rattle.air_record.specs.declared.record.Record.TheVariants as records
use Rattle.air_run.specs.Rules.{Rules, is_taken, refused_if, late, rule_broken, refusal}
use Rattle.air_run.specs.Run.{behind_line}
use Rattle.air_run.specs.declared.refusal.RunRefusal.TheVariants.{BearerTwice}
use Rattle.air_text.specs.Groups.{Group, history}
use Rattle.bearer_types.specs.declared.event.Event.{Event}
use Rattle.bearer_types.specs.declared.event.Event.TheVariants as events
use Rattle.eps_sec.specs.declared.Keys.{Keys}
use Rattle.l2_node.specs.End.{End, fresh as fresh_end}
use Rattle.bearer_types.specs.declared.config.BearerConfig.{BearerConfig}
use Rattle.l2_node.specs.Finding.{has}
use Rattle.l2_num.specs.Ascending.{IsAscending}
use Rattle.l2_types.specs.declared.side.Side.{Side}
use Rattle.l2_types.specs.declared.side.Side.TheVariants.{Nb, Ue}
use Rattle.bearer_types.specs.Sides.{is_same}
use Rattle.law_run.specs.AnyCalls.Ends.{ByCalls, begins_life, LivesOn}
use Rattle.promises.specs.Records.{event_of, events_of, is_of_building}
use Rattle.law_run.proofs.AnyCalls.Going.{run_on, given_on, over_on}
use Rattle.promises.specs.Counts.{counts_on, counts_taken, counts_since, CountsAscend}
use Rattle.law_node.specs.Calls.{Call, Add, Move, AreGiven, run_end, reached}
use Rattle.law_node.specs.Counts.{begins as call_begins}
use Rattle.promises.specs.Events.{is_of_loop, is_of_writing}
use Rattle.law_node.specs.Telling.{told_over}
use Rattle.law_node.proofs.Counted.{counts_then}
use Rattle.law_node.proofs.Living.{counts_ascend, none_taken as none_without}
use Rattle.pdu_show.specs.declared.kinds.Layout.{Layout}
use Rattle.promises.specs.Blocks.{AreTold}
use Rattle.promises.specs.Parts.{is_handover, part_of_line}
use Rattle.law_run.specs.Order.{state_behind, IsRight, KeepsOrder}
use Rattle.law_run.proofs.Keys.{not_first, not_second, no_cause}
use Rattle.law_run.proofs.Past.{link_behind}
use Rattle.prioritise.proofs.ChannelLemmas.{both_false}
use Rattle.law_run.proofs.Reaching.{lives_by, group_goes, come_by_calls}

-- ---- where no block is built, none is told of

event_none : (b : Bool) (lcid : ℕ) (e : Event) → is_of_writing e ≡ false
    → counts_on lcid (if b then e ∷ [] else []) ≡ []
event_none true lcid (events.Take l count len) free = absurd cc
event_none true lcid e free = refl
event_none false lcid e free = refl

one_none : (side : Side) (lcid : ℕ) (one : Record) → is_of_building one ≡ false
    → counts_on lcid (event_of side one) ≡ []
one_none side lcid (records.Of s e) free = event_none (is_same side s && not (is_of_loop e)) lcid e free
one_none side lcid one free = refl

none_by : (b : Bool) (side : Side) (lcid : ℕ) (one : Record) (told : List Record) → is_of_building one ≡ b
    → cond b (one ∷ filter is_of_building told) (filter is_of_building told) ≡ []
    → (filter is_of_building told ≡ [] → counts_taken side lcid told ≡ [])
    → counts_taken side lcid (one ∷ told) ≡ []
none_by true side lcid one told is none rest = absurd cc
none_by false side lcid one told is none rest =
    counts_then lcid (event_of side one) (events_of side told)
    ∙ ap (λ (ns : List ℕ). ns ++ counts_taken side lcid told) (one_none side lcid one is) ∙ rest none

pub none_taken : (side : Side) (lcid : ℕ) (told : List Record) → filter is_of_building told ≡ []
    → counts_taken side lcid told ≡ []
none_taken side lcid [] none = refl
none_taken side lcid (one ∷ told) none =
    none_by (is_of_building one) side lcid one told refl none (none_taken side lcid told)

-- ---- a line with which a life of a channel's bearer begins

abbrev begins : ℕ → Line → Bool
begins lcid (lines.Bearer config options) = config.channel.lcid == lcid
begins lcid (lines.Handover user rrc integrity) = true
begins lcid line = false

stays : (lcid : ℕ) (line : Line) → begins lcid line ≡ false → is_handover line ≡ false
stays lcid (lines.Handover user rrc integrity) free = absurd cc
stays lcid line free = refl

-- it builds none
begins_unbuilt : (lcid : ℕ) (line : Line) (t : ℕ) (kinds : List (Option Layout)) (told : List Record)
    → begins lcid line ≡ true → AreTold t kinds (part_of_line line) told → filter is_of_building told ≡ []
begins_unbuilt lcid (lines.Bearer config options) t kinds told e none = none
begins_unbuilt lcid (lines.Handover user rrc integrity) t kinds told e none = none
begins_unbuilt lcid line t kinds told e none = absurd cc

pub same_lcid : (a b : ℕ) → (a == b) ≡ true → a ≡ b
same_lcid a b e = grind (arith, nat_tests)

absent_at : (side : Side) (lcid : ℕ) (l : Link) → is_taken lcid l ≡ false → has lcid (end_of side l).bearers ≡ false
absent_at Nb lcid l e = (both_false (has lcid l.nb.bearers) (has lcid l.ue.bearers) e).0
absent_at Ue lcid l e = (both_false (has lcid l.nb.bearers) (has lcid l.ue.bearers) e).1

-- a bearer is added only where none was
pub was_absent : (side : Side) (config : BearerConfig) (options : _) (r : Rules) (l : Link)
    → refusal (lines.Bearer config options) r l ≡ None → has config.channel.lcid (end_of side l).bearers ≡ false
unfolding rule_broken
was_absent side config options r l allowed =
    let n = config.channel.lcid in
    let taken = refused_if (is_taken n l) BearerTwice in
    let first =
    not_first taken _
    (not_second (late r) _ (not_first (rule_broken (lines.Bearer config options) r l) _ allowed)) in
    absent_at side n l (no_cause (is_taken n l) BearerTwice first)

-- so that nothing was taken
none_before : (side : Side) (lcid : ℕ) (line : Line) (r : Rules) (l : Link) (ns : List ℕ) → begins lcid line ≡ true
    → refusal line r l ≡ None → (has lcid (end_of side l).bearers ≡ false → ns ≡ [])
    → (if is_handover line then [] else ns) ≡ []
none_before side lcid (lines.Bearer config options) r l ns e allowed none =
    none (subst (λ (m : ℕ). has m (end_of side l).bearers ≡ false) (same_lcid config.channel.lcid lcid e)
    (was_absent side config options r l allowed))
none_before side lcid (lines.Handover user rrc integrity) r l ns e allowed none = refl
none_before side lcid line r l ns e allowed none = absurd cc

-- ---- calls that begin no life of a channel's bearer

abbrev BeginNone : ℕ → List Call → Type 0
BeginNone lcid calls = AllByRecursion (λ c. call_begins lcid c ≡ false) calls

none_then : (lcid : ℕ) (xs ys : List Call) → BeginNone lcid xs → BeginNone lcid ys → BeginNone lcid (xs ++ ys)
none_then lcid [] ys p q = q
none_then lcid (x ∷ xs) ys p q = (p.0, none_then lcid xs ys p.1 q)

call_none : (lcid : ℕ) (c : Call) → begins_life c ≡ false → call_begins lcid c ≡ false
call_none lcid (Add config keys) free = absurd cc
call_none lcid (Move keys) free = absurd cc
call_none lcid c free = refl

-- of those that begin lives none begins one of this bearer
calls_by : (b : Bool) (lcid : ℕ) (c : Call) (calls : List Call) → begins_life c ≡ b
    → BeginNone lcid (cond b (c ∷ filter begins_life calls) (filter begins_life calls))
    → (BeginNone lcid (filter begins_life calls) → BeginNone lcid calls)
    → BeginNone lcid (c ∷ calls)
calls_by true lcid c calls is none rest = (none.0, rest none.1)
calls_by false lcid c calls is none rest = (call_none lcid c is, rest none)

calls_none : (lcid : ℕ) (calls : List Call) → BeginNone lcid (filter begins_life calls) → BeginNone lcid calls
calls_none lcid [] none = tt
calls_none lcid (c ∷ calls) none = calls_by (begins_life c) lcid c calls refl none (calls_none lcid calls)

line_none : (lcid : ℕ) (line : Line) (keys : Option Keys) → begins lcid line ≡ false
    → BeginNone lcid (lives_by line keys)
line_none lcid (lines.Bearer config options) keys free = (free, tt)
line_none lcid (lines.Handover user rrc integrity) keys free = absurd cc
line_none lcid line keys free = tt

-- ---- the life that lasts

record Life (side : Side) (lcid : ℕ) (past : List Group) : Type 0 where
  before : List Call
  since : List Call
  before_given : AreGiven before
  since_given : AreGiven since
  none_begins : BeginNone lcid since
  end_is : end_of side (link_behind past) ≡ run_end since (reached side 4 false before)
  counts_are : counts_on lcid (told_over since (reached side 4 false before)) ≡ counts_since side lcid past

pub come : (side : Side) (past : List Group) → KeepsOrder past
    → ByCalls side (history past) (fresh_end side 4 false) (end_of side (link_behind past))
come Nb past order = (come_by_calls past order).nb
come Ue past order = (come_by_calls past order).ue

life_begins : (side : Side) (lcid : ℕ) (past : List Group) → KeepsOrder past → counts_since side lcid past ≡ []
    → Life side lcid past
life_begins side lcid past order none =
    let by = come side past order in
    record {
      before = by.calls;
      since = [];
      before_given = by.given;
      since_given = tt;
      none_begins = tt;
      end_is = by.end_is;
      counts_are = sym none;
    }

-- how an end comes through a group
pub goes : (side : Side) (past : List Group) (g : Group) → IsRight past g → KeepsOrder past
    → LivesOn (lives_by g.line (state_behind past).rules.keys) side g.events (end_of side (link_behind past))
    (end_of side (link_behind (g ∷ past)))
goes Nb past g right order =
    let m = behind_line g.line (state_behind past) in
    subst (λ (x : List Record). LivesOn (lives_by g.line (state_behind past).rules.keys) Nb x (link_behind past).nb
    m.nb) (sym right.events_are) (group_goes past g order right.in_range).nb
goes Ue past g right order =
    let m = behind_line g.line (state_behind past) in
    subst (λ (x : List Record). LivesOn (lives_by g.line (state_behind past).rules.keys) Ue x (link_behind past).ue
    m.ue) (sym right.events_are) (group_goes past g order right.in_range).ue

life_goes : (side : Side) (lcid : ℕ) (past : List Group) (g : Group) → IsRight past g → KeepsOrder past
    → begins lcid g.line ≡ false → Life side lcid past → Life side lcid (g ∷ past)
life_goes side lcid past g right order free f =
    let keys = (state_behind past).rules.keys in
    let k = goes side past g right order in
    let e = reached side 4 false f.before in
    let calls = k.by.calls in
    let told : counts_on lcid (told_over calls (run_end f.since e)) ≡ counts_taken side lcid g.events =
    ap (λ (x : End). counts_on lcid (told_over calls x)) (sym f.end_is) ∙ ap (counts_on lcid) (sym k.by.told_is) in
    record {
      before = f.before;
      since = f.since ++ calls;
      before_given = f.before_given;
      since_given = given_on f.since calls f.since_given k.by.given;
      none_begins =
          none_then lcid f.since calls f.none_begins
          (calls_none lcid calls
          (subst (λ (x : List Call). BeginNone lcid x) (sym k.lives_are) (line_none lcid g.line keys free)));
      end_is = k.by.end_is ∙ ap (run_end calls) f.end_is ∙ sym (run_on f.since calls e);
      counts_are =
          ap (counts_on lcid) (over_on f.since calls e)
          ∙ counts_then lcid (told_over f.since e) (told_over calls (run_end f.since e))
          ∙ ap (λ (ns : List ℕ). ns ++ counts_on lcid (told_over calls (run_end f.since e))) f.counts_are
          ∙ ap (λ (ns : List ℕ). counts_since side lcid past ++ ns) told
          ∙ sym (ap (λ (b : Bool). (if b then [] else counts_since side lcid past) ++ counts_taken side lcid g.events)
          (stays lcid g.line free));
    }

life_none : (side : Side) (lcid : ℕ) (past : List Group) → Life side lcid past
    → has lcid (end_of side (link_behind past)).bearers ≡ false → counts_since side lcid past ≡ []
life_none side lcid past f absent =
    sym f.counts_are ∙ none_without side 4 false f.before f.since lcid f.before_given f.since_given f.none_begins
    (ap (λ (e : End). has lcid e.bearers) (sym f.end_is) ∙ absent)

life_by : (b : Bool) (side : Side) (lcid : ℕ) (past : List Group) (g : Group) → IsRight past g → KeepsOrder past
    → begins lcid g.line ≡ b → Life side lcid past → Life side lcid (g ∷ past)
life_by true side lcid past g right order is f =
    life_begins side lcid (g ∷ past) (right, order)
    (ap (λ (ns : List ℕ). ns ++ counts_taken side lcid g.events)
    (none_before side lcid g.line (state_behind past).rules (link_behind past) (counts_since side lcid past) is
    right.allowed (life_none side lcid past f))
    ∙ none_taken side lcid g.events (begins_unbuilt lcid g.line _ _ g.events is right.blocks))
life_by false side lcid past g right order is f = life_goes side lcid past g right order is f

life_behind : (side : Side) (lcid : ℕ) (past : List Group) → KeepsOrder past → Life side lcid past
life_behind side lcid [] order = life_begins side lcid [] order refl
life_behind side lcid (g ∷ past) (right, order) =
    life_by (begins lcid g.line) side lcid past g right order refl (life_behind side lcid past order)

life_ascends : (side : Side) (lcid : ℕ) (past : List Group) → Life side lcid past
    → IsAscending 0 (counts_since side lcid past)
life_ascends side lcid past f =
    subst (λ (ns : List ℕ). IsAscending 0 ns) f.counts_are
    (counts_ascend side 4 false f.before f.since lcid f.before_given f.since_given f.none_begins)

pub counts_behind : (past : List Group) → KeepsOrder past → CountsAscend past
counts_behind [] order = tt
counts_behind (g ∷ past) (right, order) = (
  λ side lcid. life_ascends side lcid (g ∷ past) (life_behind side lcid (g ∷ past) (right, order)),
  counts_behind past order,
)
