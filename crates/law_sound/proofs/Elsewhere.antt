-- The `fail` records of a journal, and the `drop` records of a STATUS that is ignored, stand only on channels with an
-- acknowledged bearer.
use Rattle.std.proofs.Common.{◌≡◌, ◌≤◌, ◌<◌, ℕ, ◌==◌, Bool, true, false, cond, ◌&&◌, if◌then◌else◌, Option, Some, None}
use Rattle.std.proofs.Common.{List, [], ◌∷◌, ◌++◌, length, arith, refl, ap, sym, subst, ◌∙◌}
use Rattle.std.proofs.lemmas.Bool.Decides.{nat_tests}
use Rattle.std.specs.List.{AllByRecursion, filter}
use Rattle.air_link.specs.Link.{Link, end_of, fresh as fresh_link}
use Rattle.air_record.specs.declared.line.Line.{Line}
use Rattle.air_record.specs.declared.line.Line.TheVariants as lines
use Rattle.air_record.specs.declared.record.Record.{Record}
use Rattle.air_record.specs.declared.record.Record.TheVariants as records
use Rattle.air_run.specs.Rules.{Rules, refusal}
use Rattle.air_run.specs.Run.{fresh}
use Rattle.air_text.specs.Groups.{Group}
use Rattle.air_text.specs.Ranges.{IsInRange}
use Rattle.bearer_types.specs.Configs.{IsChannelOf}
use Rattle.bearer_types.specs.Sides.{is_same}
use Rattle.bearer_types.specs.declared.config.BearerConfig.{BearerConfig}
use Rattle.bearer_types.specs.declared.event.Event.{Event}
use Rattle.bearer_types.specs.declared.event.Event.TheVariants as events
use Rattle.eps_sec.specs.declared.Keys.{Keys}
use Rattle.l2_node.specs.End.{End, fresh as fresh_end}
use Rattle.l2_node.specs.Finding.{has}
use Rattle.l2_types.specs.declared.channel.Kind.{Kind}
use Rattle.l2_types.specs.declared.channel.Kind.TheVariants as kinds
use Rattle.l2_types.specs.declared.event.Lost.TheVariants as lost
use Rattle.l2_types.specs.declared.side.Side.{Side}
use Rattle.l2_types.specs.declared.side.Side.TheVariants.{Nb, Ue}
use Rattle.journal_flows.specs.Laws.{bearer_by, bearer_on}
use Rattle.journal_status.specs.RightStatus.{tells_ignored, ignored_told}
use Rattle.promises.specs.Events.{fails_in, fails_on}
use Rattle.promises.specs.Records.{event_of, events_of}
use Rattle.law_bearer.proofs.AnyBearer.Between.{IsBetween}
use Rattle.law_node.specs.Calls.{Call, Add}
use Rattle.law_node.proofs.Keeping.{AllAre, reached_are}
use Rattle.law_node.proofs.Ordered.{between_kept}
use Rattle.law_run.specs.AnyCalls.Ends.{begins_life}
use Rattle.law_run.specs.Order.{state_behind, IsRight, KeepsOrder}
use Rattle.law_run.proofs.Counts.{come, goes, same_lcid, was_absent}
use Rattle.law_run.proofs.Past.{link_behind}
use Rattle.law_run.proofs.Reaching.{lives_by}
use Rattle.law_sound.specs.ElsewhereLaws.{NoneStandsAbove, IsUnacked, TellsNone, OthersTellNone}
use Rattle.law_sound.proofs.UnackedBearers.{is_acked_event, AreUnacked}
use Rattle.law_sound.proofs.UnackedEnds.{AreStill, AddsUnacked, absent_still, calls_still, calls_unacked}

-- ---- logical channels are 0 to 10

greatest : (kind : Kind) (lcid : ℕ) → IsChannelOf kind lcid → lcid ≤ 10
greatest kinds.Tm lcid is = omega (arith, is)
greatest kinds.Srb lcid is = omega (arith, is.1)
greatest kinds.Um lcid is = is.1
greatest kinds.Am lcid is = is.1

differs : (n lcid : ℕ) → n ≤ 10 → 10 < lcid → (n == lcid) ≡ false
differs n lcid low high = grind (arith, nat_tests)

none_by : (line : Line) (lcid : ℕ) (before : Option BearerConfig) → IsInRange line → 10 < lcid → before ≡ None
    → bearer_by line lcid before ≡ None
none_by (lines.Bearer config options) lcid before range high none =
    let low = greatest config.kind config.channel.lcid range.lcid in
    ap (λ (here : Bool). if here then Some config else before) (differs config.channel.lcid lcid low high) ∙ none
none_by line lcid before range high none = none

pub none_stands_above : NoneStandsAbove
none_stands_above [] lcid order high = refl
none_stands_above (g ∷ past) lcid (right, order) high =
    none_by g.line lcid (bearer_on lcid past) right.in_range high (none_stands_above past lcid order high)

module _ (l : ℕ) where
  -- ---- the bearers that a line adds

  rests : (c : Call) → begins_life c ≡ false → AddsUnacked l c
  rests (Add config keys) free = absurd cc
  rests c free = tt

  adds_by : (b : Bool) (c : Call) (cs : List Call) → begins_life c ≡ b
      → AllByRecursion (AddsUnacked l) (cond b (c ∷ filter begins_life cs) (filter begins_life cs))
      → (AllByRecursion (AddsUnacked l) (filter begins_life cs) → AllByRecursion (AddsUnacked l) cs)
      → AllByRecursion (AddsUnacked l) (c ∷ cs)
  adds_by true c cs is h rest = (h.0, rest h.1)
  adds_by false c cs is h rest = (rests c is, rest h)

  all_add : (cs : List Call) → AllByRecursion (AddsUnacked l) (filter begins_life cs)
      → AllByRecursion (AddsUnacked l) cs
  all_add [] h = tt
  all_add (c ∷ cs) h = adds_by (begins_life c) c cs refl h (all_add cs)

  line_adds : (line : Line) (keys : Option Keys) (before : Option BearerConfig)
      → IsUnacked (bearer_by line l before) → AllByRecursion (AddsUnacked l) (lives_by line keys)
  line_adds (lines.Bearer config options) keys before h =
      (λ here. subst (λ (b : Bool). IsUnacked (if b then Some config else before)) here h, tt)
  line_adds (lines.Handover user rrc integrity) keys before h = (tt, tt)
  line_adds line keys before h = tt

  -- ---- the bearers of an end, behind groups

  here_by : (here : Bool) (side : Side) (config : BearerConfig) (options : _) (r : Rules) (k : Link)
      (before : Option BearerConfig) → (config.channel.lcid == l) ≡ here
      → refusal (lines.Bearer config options) r k ≡ None
      → IsUnacked (if config.channel.lcid == l then Some config else before)
      → AllAre IsBetween (end_of side k).bearers → (IsUnacked before → AreStill l (end_of side k).bearers)
      → AreStill l (end_of side k).bearers
  here_by true side config options r k before e allowed h a rest =
      absent_still l (end_of side k).bearers
      (subst (λ (m : ℕ). has m (end_of side k).bearers ≡ false) (same_lcid config.channel.lcid l e)
      (was_absent side config options r k allowed)) a
  here_by false side config options r k before e allowed h a rest =
      rest (subst (λ (b : Bool). IsUnacked (if b then Some config else before)) e h)

  -- a line that adds one of the channel finds none there before
  before_line : (side : Side) (line : Line) (r : Rules) (k : Link) (before : Option BearerConfig)
      → refusal line r k ≡ None → IsUnacked (bearer_by line l before) → AllAre IsBetween (end_of side k).bearers
      → (IsUnacked before → AreStill l (end_of side k).bearers) → AreStill l (end_of side k).bearers
  before_line side (lines.Bearer config options) r k before allowed h a rest =
      here_by (config.channel.lcid == l) side config options r k before refl allowed h a rest
  before_line side line r k before allowed h a rest = rest h

  between_behind : (side : Side) (past : List Group) → KeepsOrder past
      → AllAre IsBetween (end_of side (link_behind past)).bearers
  between_behind side past order =
      let by = come side past order in
      subst (λ (e : End). AllAre IsBetween e.bearers) (sym by.end_is)
      (reached_are IsBetween between_kept side 4 false by.calls by.given)

  first_still : (side : Side) → AreStill l (end_of side (link_behind [])).bearers
  unfolding fresh fresh_link fresh_end
  first_still Nb = tt
  first_still Ue = tt

  still_before : (side : Side) (past : List Group) (g : Group) → IsRight past g → KeepsOrder past
      → IsUnacked (bearer_on l (g ∷ past))
      → (IsUnacked (bearer_on l past) → AreStill l (end_of side (link_behind past)).bearers)
      → AreStill l (end_of side (link_behind past)).bearers
  still_before side past g right order h rest =
      before_line side g.line (state_behind past).rules (link_behind past) (bearer_on l past) right.allowed h
      (between_behind side past order) rest

  group_adds : (side : Side) (past : List Group) (g : Group) (right : IsRight past g) (order : KeepsOrder past)
      → IsUnacked (bearer_on l (g ∷ past)) → AllByRecursion (AddsUnacked l) (goes side past g right order).by.calls
  group_adds side past g right order h =
      let k = goes side past g right order in
      all_add k.by.calls
      (subst (λ (cs : List Call). AllByRecursion (AddsUnacked l) cs) (sym k.lives_are)
      (line_adds g.line (state_behind past).rules.keys (bearer_on l past) h))

  still_behind : (side : Side) (past : List Group) → KeepsOrder past → IsUnacked (bearer_on l past)
      → AreStill l (end_of side (link_behind past)).bearers
  still_behind side [] order h = first_still side
  still_behind side (g ∷ past) (right, order) h =
      let k = goes side past g right order in
      subst (λ (e : End). AreStill l e.bearers) (sym k.by.end_is)
      (calls_still l k.by.calls (end_of side (link_behind past)) (group_adds side past g right order h)
      (still_before side past g right order h (still_behind side past order)))

  -- ---- what a group tells

  group_unacked : (side : Side) (past : List Group) (g : Group) → IsRight past g → KeepsOrder past
      → IsUnacked (bearer_on l (g ∷ past)) → AreUnacked l (events_of side g.events)
  group_unacked side past g right order h =
      let k = goes side past g right order in
      subst (AreUnacked l) (sym k.by.told_is)
      (calls_unacked l k.by.calls (end_of side (link_behind past)) (group_adds side past g right order h)
      (still_before side past g right order h (still_behind side past order)))

  one_fails : (event : Event) → is_acked_event l event ≡ false → fails_in l event ≡ []
  one_fails (events.Fail lcid sn) none = ap (λ (here : Bool). if here then sn ∷ [] else []) none
  one_fails event none = refl

  none_fails : (es : List Event) → AreUnacked l es → fails_on l es ≡ []
  none_fails [] none = refl
  none_fails (event ∷ es) none =
      ap (λ (sns : List ℕ). sns ++ fails_on l es) (one_fails event none.0) ∙ none_fails es none.1

  unacked_parts : (a b : List Event) → AreUnacked l (a ++ b) → AreUnacked l a × AreUnacked l b
  unacked_parts [] b none = (tt, none)
  unacked_parts (event ∷ a) b none = let rest = unacked_parts a b none.1 in ((none.0, rest.0), rest.1)

  side_ignores : (same : Bool) (lcid : ℕ)
      → AreUnacked l (if same && true then events.Drop lcid lost.Ignored ∷ [] else []) → same && (lcid == l) ≡ false
  side_ignores true lcid none = none.0
  side_ignores false lcid none = refl

  one_ignores : (side : Side) (one : Record) → AreUnacked l (event_of side one) → tells_ignored side l one ≡ false
  one_ignores side (records.Of s (events.Drop lcid lost.Ignored)) none = side_ignores (is_same side s) lcid none
  one_ignores side one none = refl

  none_ignored : (side : Side) (told : List Record) → AreUnacked l (events_of side told)
      → ignored_told side l told ≡ 0
  none_ignored side [] none = refl
  none_ignored side (one ∷ told) none =
      let parts = unacked_parts (event_of side one) (events_of side told) none in
      let rest = filter (tells_ignored side l) told in
      ap (λ (here : Bool). length (cond here (one ∷ rest) rest)) (one_ignores side one parts.0)
      ∙ none_ignored side told parts.1

  tells_none : (side : Side) (past : List Group) (g : Group) → IsRight past g → KeepsOrder past
      → IsUnacked (bearer_on l (g ∷ past)) → TellsNone g side l
  tells_none side past g right order h =
      let none = group_unacked side past g right order h in
      record { fails = none_fails (events_of side g.events) none; ignored = none_ignored side g.events none }

-- ---- the law

pub others_tell_none : OthersTellNone
others_tell_none [] order = tt
others_tell_none (g ∷ past) (right, order) = (
  record {
    on_channels = λ side lcid h. tells_none lcid side past g right order h;
    elsewhere = λ side lcid high.
        tells_none lcid side past g right order
        (subst IsUnacked (sym (none_stands_above (g ∷ past) lcid (right, order) high)) tt);
  },
  others_tell_none past order,
)
