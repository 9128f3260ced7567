-- Each line of a journal keeps the rules of scripts, since the state of a run tells of the lines so far.
use Rattle.std.proofs.Common.{◌≡◌, ◌≢◌, ◌<◌, ℕ, ◌==◌, nat_lt, nat_le, Bool, true, false, not, ◌&&◌, ◌||◌}
use Rattle.std.proofs.Common.{if◌then◌else◌, Option, Some, None, is_some, is_none, List, [], ◌∷◌, ◌++◌, length}
use Rattle.std.proofs.Common.{slice_set, refl, ap, sym, subst, ◌∙◌, arith}
use Rattle.std.proofs.lemmas.Bool.{and_parts, not-false}
use Rattle.std.proofs.lemmas.Bool.Decides.{nat_tests}
use Rattle.std.proofs.lemmas.List.{get_or-replicate, get_or-set_same, get_or-set_other, length-set}
use Rattle.std.proofs.lemmas.Slice.Eq.{bytes_eq-Decides}
use Rattle.std.specs.Bool.{Decides}
use Rattle.std.specs.List.{AllByRecursion, list_any}
use Rattle.std.specs.Prelude.{slice_index_or}
use Rattle.std.specs.Str.{bytes_eq}
use Rattle.air_link.specs.Link.{Link}
use Rattle.air_record.specs.declared.line.Line.{Line}
use Rattle.air_record.specs.declared.line.Line.TheVariants as lines
use Rattle.air_run.specs.declared.refusal.RunRefusal.{RunRefusal}
use Rattle.air_run.specs.declared.refusal.RunRefusal.TheVariants.{UnknownBearer, BearerTwice, ConfiguredLate}
use Rattle.air_run.specs.declared.refusal.RunRefusal.TheVariants.{SmallDrain, NoKeys, SetTwice, LoopOn, NoDiscard}
use Rattle.air_run.specs.declared.refusal.RunRefusal.TheVariants.{Forged, DrxFields}
use Rattle.air_run.specs.Rules.{Rules, no_rules, is_known, is_taken, wants_keys, refused_if, or_else, late_or_twice}
use Rattle.air_run.specs.Rules.{unknown, rule_broken, accepted}
use Rattle.air_run.specs.Run.{fresh}
use Rattle.air_text.specs.Groups.{Group}
use Rattle.air_text.specs.Ranges.{IsInRange}
use Rattle.bearer_types.specs.declared.config.BearerConfig.{BearerConfig}
use Rattle.l2_node.specs.Finding.{has}
use Rattle.l2_types.specs.declared.channel.Kind.{Kind}
use Rattle.l2_types.specs.declared.channel.Kind.TheVariants as kinds
use Rattle.l2_types.specs.declared.side.Side.TheVariants.{Nb}
use Rattle.law_words.specs.Lists.{AreDistinct}
use Rattle.prioritise.proofs.ChannelLemmas.{both_false}
use Rattle.promises.specs.Configs.{config_by}
use Rattle.promises.specs.Delivery.{is_forged, sets_timer, is_timed}
use Rattle.promises.specs.Keys.{keys_of, all_keys}
use Rattle.promises.specs.LineRules.{is_configuring, is_early, is_harq, is_bsr, is_keys, has_line, has_bearer, is_tm}
use Rattle.promises.specs.LineRules.{are_new, keeps_rules, LinesKeepRules}
use Rattle.promises.specs.Loops.{mode_in_force}
use Rattle.promises.specs.Sleeps.{sets_drx, is_drx_set}
use Rattle.test_loop.specs.Loops.{is_on}
use Rattle.law_run.specs.Order.{state_behind, IsRight, KeepsOrder}
use Rattle.law_run.proofs.Counts.{same_lcid}
use Rattle.law_run.proofs.DrainBegins.{forged_is}
use Rattle.law_run.proofs.DrainChannels.{bearers_are}
use Rattle.law_run.proofs.Keys.{not_first, not_second, no_cause, keys_behind}
use Rattle.law_run.proofs.Knowing.{has_place}
use Rattle.law_run.proofs.Looping.{mode_behind}
use Rattle.law_run.proofs.Marks.{AreMarks}
use Rattle.law_run.proofs.Past.{link_behind}

-- ---- of tests

both : {x y : Bool} → x ≡ true → y ≡ true → (x && y) ≡ true
both e f = rw (e, f) refl

unset : {a b : Bool} → a ≡ b → b ≡ false → not a ≡ true
unset same e = ap not (same ∙ e)

at_least : (low n : ℕ) → nat_lt n low ≡ false → nat_le low n ≡ true
at_least low n e = grind (arith, nat_tests)

below : (n top : ℕ) → nat_le top n ≡ false → nat_lt n top ≡ true
below n top e = grind (arith, nat_tests)

-- ---- a refusal that doesn't come

-- its first cause isn't there, nor are the others
none_of : (cause : Bool) (why : RunRefusal) (more : Option RunRefusal) → or_else (refused_if cause why) more ≡ None
    → (cause ≡ false) × (more ≡ None)
none_of true why more e = absurd cc
none_of false why more e = (refl, e)

unbroken : (past : List Group) (g : Group) → IsRight past g
    → rule_broken g.line (state_behind past).rules (link_behind past) ≡ None
unbroken past g right = not_first (rule_broken g.line (state_behind past).rules (link_behind past)) _ right.allowed

-- ---- the bearer of a channel

-- which is 10 at most
low_line : (lcid : ℕ) (line : Line) (before : Option BearerConfig) → IsInRange line
    → (is_some before ≡ true → lcid < 11) → is_some (config_by lcid line before) ≡ true → lcid < 11
low_line lcid (lines.Bearer config options) before fits low e = by (config.channel.lcid == lcid) refl e
  where
    by : (b : Bool) → (config.channel.lcid == lcid) ≡ b → is_some (if b then Some config else before) ≡ true
        → lcid < 11
    by true is e =
        subst (λ (n : ℕ). n < 11) (same_lcid config.channel.lcid lcid is)
        (has_place config.kind config.channel.lcid fits.lcid)
    by false is e = low e
low_line lcid line before fits low e = low e

low_bearer : (lcid : ℕ) (past : List Group) → KeepsOrder past → has_bearer lcid past ≡ true → lcid < 11
low_bearer lcid [] order e = absurd cc
low_bearer lcid (g ∷ past) (right, order) e =
    low_line lcid g.line _ right.in_range (λ before. low_bearer lcid past order before) e

-- where none is unknown, one came
came_known : (lcid : ℕ) (past : List Group) (l : Link) → has_bearer lcid past ≡ has lcid l.nb.bearers
    → unknown lcid l ≡ None → has_bearer lcid past ≡ true
came_known lcid past l same e =
    let here = not-false (is_known lcid l) (no_cause (not (is_known lcid l)) UnknownBearer e) in
    same ∙ (and_parts (has lcid l.nb.bearers) (has lcid l.ue.bearers) here).0

-- ---- discard timers

abbrev HasPlace : Line → Type 0
HasPlace (lines.Discard lcid ttis) = lcid < 11
HasPlace line = Unit {0}

timer_place : (past : List Group) (line : Line) (r : Rules) → KeepsOrder past
    → rule_broken line r (link_behind past) ≡ None → HasPlace line
unfolding rule_broken
timer_place past (lines.Discard lcid ttis) r order e =
    let l = link_behind past in
    let late = none_of r.begun ConfiguredLate _ e in
    low_bearer lcid past order
    (came_known lcid past l (bearers_are Nb lcid past order) (not_first (unknown lcid l) _ late.1))
timer_place past line r order e = tt

place_set : (places : List Bool) (at lcid : ℕ) → at < length places
    → slice_index_or (slice_set places at true) lcid false ≡ (at == lcid || slice_index_or places lcid false)
place_set places at lcid inside = by (at == lcid) refl
  where
    by : (b : Bool) → (at == lcid) ≡ b
        → slice_index_or (slice_set places at true) lcid false ≡ (b || slice_index_or places lcid false)
    by true e =
        ap (λ (i : ℕ). slice_index_or (slice_set places at true) i false) (sym (same_lcid at lcid e))
        ∙ get_or-set_same places at true false inside
    by false e =
        let other : lcid ≢ at = grind (arith, nat_tests) in
        get_or-set_other places at lcid true false other

timers_then : (timed : ℕ → Bool) (line : Line) (r : Rules) → HasPlace line → AreMarks timed r.discards
    → AreMarks (λ lcid. sets_timer lcid line || timed lcid) (accepted line r).discards
unfolding accepted
timers_then timed (lines.Discard at ttis) r place m = record {
  size = length-set r.discards at true ∙ m.size;
  each = λ lcid lt. let size = m.size in
      place_set r.discards at lcid (omega (arith, place, size)) ∙ ap (λ b. at == lcid || b) (m.each lcid lt);
}
timers_then timed line r place m = record { size = m.size; each = m.each }

-- ---- what a line leaves of the rules

early_then : (line : Line) (r : Rules) → not (accepted line r).begun ≡ (is_configuring line && not r.begun)
unfolding accepted
early_then (lines.Harq visits) r = refl
early_then line r = refl

abbrev Then : (Rules → Bool) → (Line → Bool) → Type 0
Then kept kind = (line : Line) (r : Rules) → kept (accepted line r) ≡ (kind line || kept r)

visits_then : Then (λ r. r.visits) is_harq
unfolding accepted
visits_then (lines.Harq visits) r = refl
visits_then line r = refl

reports_then : Then (λ r. r.reports) is_bsr
unfolding accepted
reports_then lines.Bsr r = refl
reports_then line r = refl

keyed_then : Then (λ r. is_some r.keys) is_keys
unfolding accepted
keyed_then (lines.Keys keys) r = refl
keyed_then line r = refl

listens_then : Then (λ r. r.listens) sets_drx
unfolding accepted
listens_then (lines.Drx config) r = refl
listens_then line r = refl

-- so they tell of the lines so far
record IsNoted (past : List Group) (r : Rules) : Type 0 where
  early : is_early past ≡ not r.begun
  visits : has_line is_harq past ≡ r.visits
  reports : has_line is_bsr past ≡ r.reports
  keyed : has_line is_keys past ≡ is_some r.keys
  listens : is_drx_set past ≡ r.listens
  timers : AreMarks (λ lcid. is_timed lcid past) r.discards

none_noted : IsNoted [] no_rules
unfolding no_rules
none_noted = record {
  early = refl;
  visits = refl;
  reports = refl;
  keyed = refl;
  listens = refl;
  timers = record { size = refl; each = λ lcid lt. get_or-replicate 11 lcid false false lt };
}

noted : (past : List Group) → KeepsOrder past → IsNoted past (state_behind past).rules
unfolding fresh
noted [] order = none_noted
noted (g ∷ past) (right, order) =
    let r = (state_behind past).rules in
    let n = noted past order in
    record {
      early = ap (λ b. is_configuring g.line && b) n.early ∙ sym (early_then g.line r);
      visits = ap (λ b. is_harq g.line || b) n.visits ∙ sym (visits_then g.line r);
      reports = ap (λ b. is_bsr g.line || b) n.reports ∙ sym (reports_then g.line r);
      keyed = ap (λ b. is_keys g.line || b) n.keyed ∙ sym (keyed_then g.line r);
      listens = ap (λ b. sets_drx g.line || b) n.listens ∙ sym (listens_then g.line r);
      timers =
          timers_then (λ lcid. is_timed lcid past) g.line r
          (timer_place past g.line r order (unbroken past g right)) n.timers;
    }

-- ---- keys

-- those that differ are new
none_equal : (key : List ℕ) (keys : List (List ℕ)) → AllByRecursion (λ other. key ≡ other → ⊥) keys
    → list_any (bytes_eq key) keys ≡ false
none_equal key [] a = refl
none_equal key (other ∷ keys) a =
    ap (λ b. b || list_any (bytes_eq key) keys) (by (bytes_eq key other) (bytes_eq-Decides key other))
    ∙ none_equal key keys a.1
  where
    by : (b : Bool) → Decides b (key ≡ other) → b ≡ false
    by true d = absurd (a.0 (d.0 refl))
    by false d = refl

new_of : (keys others : List (List ℕ)) → AreDistinct (keys ++ others) → are_new keys others ≡ true
new_of [] others d = refl
new_of (key ∷ keys) others d = both (ap not (none_equal key (keys ++ others) d.0)) (new_of keys others d.1)

-- keys are there where a bearer's kind wants them
keys_there : (kind : Kind) (there keyed : Bool) → keyed ≡ there → (wants_keys kind && not there) ≡ false
    → (is_tm kind || keyed) ≡ true
keys_there kinds.Tm there keyed same e = refl
keys_there kind there keyed same e = same ∙ not-false there e

-- ---- a line that isn't refused keeps the rules

-- the state of a run behind lines
record Follows (past : List Group) (r : Rules) (l : Link) : Type 0 where
  notes : IsNoted past r
  bearer : (lcid : ℕ) → has_bearer lcid past ≡ has lcid l.nb.bearers
  low : (lcid : ℕ) → has_bearer lcid past ≡ true → lcid < 11
  looping : is_on (mode_in_force past) ≡ is_on l.looping.mode
  forged : is_forged past ≡ r.forged

follows : (past : List Group) → KeepsOrder past → Follows past (state_behind past).rules (link_behind past)
follows past order = record {
  notes = noted past order;
  bearer = λ lcid. bearers_are Nb lcid past order;
  low = λ lcid here. low_bearer lcid past order here;
  looping = ap is_on (sym (mode_behind past order));
  forged = forged_is past;
}

module _ (past : List Group) (r : Rules) (l : Link) (f : Follows past r l) where
  first : r.begun ≡ false → is_early past ≡ true
  first e = f.notes.early ∙ ap not e

  once : (came before : Bool) → before ≡ came → late_or_twice came r ≡ None
      → (is_early past ≡ true) × (not before ≡ true)
  once came before same e =
      let late = none_of r.begun ConfiguredLate (refused_if came SetTwice) e in
      (first late.0, unset same (no_cause came SetTwice late.1))

  kept : (line : Line) → AreDistinct (keys_of line ++ all_keys past) → rule_broken line r l ≡ None
      → keeps_rules past line ≡ true
  unfolding rule_broken
  kept (lines.Harq visits) new e =
      let o = once r.visits (has_line is_harq past) f.notes.visits e in both o.0 o.1
  kept lines.Bsr new e = let o = once r.reports (has_line is_bsr past) f.notes.reports e in both o.0 o.1
  kept (lines.Keys keys) new e =
      let keyed = is_some r.keys in
      let o = once keyed (has_line is_keys past) f.notes.keyed (not_first (late_or_twice keyed r) _ e) in
      both o.0 (both o.1 (new_of (keys_of (lines.Keys keys)) (all_keys past) new))
  kept (lines.Bearer config options) new e =
      let lcid = config.channel.lcid in
      let late = none_of r.begun ConfiguredLate _ e in
      let twice = none_of (is_taken lcid l) BearerTwice _ late.1 in
      let free = both_false (has lcid l.nb.bearers) (has lcid l.ue.bearers) twice.0 in
      let there = no_cause (wants_keys config.kind && is_none r.keys) NoKeys twice.1 in
      both (first late.0)
      (both (unset (f.bearer lcid) free.0)
      (keys_there config.kind (is_some r.keys) (has_line is_keys past) f.notes.keyed there))
  kept (lines.Discard lcid ttis) new e =
      let late = none_of r.begun ConfiguredLate _ e in
      let here = came_known lcid past l (f.bearer lcid) (not_first (unknown lcid l) _ late.1) in
      let low = none_of (nat_lt lcid 3) NoDiscard _ (none_of (not (is_known lcid l)) UnknownBearer _ late.1).1 in
      let set = no_cause (slice_index_or r.discards lcid false) SetTwice low.1 in
      both (first late.0)
      (both here
      (both (at_least 3 lcid low.0) (unset (sym (f.notes.timers.each lcid (f.low lcid here))) set)))
  kept (lines.Drx config) new e =
      let o = once r.listens (is_drx_set past) f.notes.listens (not_first (late_or_twice r.listens r) _ e) in
      let fits = both_false (nat_lt config.cycle config.on) (nat_le config.cycle config.offset)
      (no_cause (nat_lt config.cycle config.on || nat_le config.cycle config.offset) DrxFields
      (not_second (late_or_twice r.listens r) _ e)) in
      both o.0 (both o.1 (both (at_least config.on config.cycle fits.0) (below config.offset config.cycle fits.1)))
  kept (lines.Submit side lcid octets) new e = came_known lcid past l (f.bearer lcid) e
  kept (lines.Expire side lcid clock) new e = came_known lcid past l (f.bearer lcid) e
  kept (lines.Handover user rrc integrity) new e =
      let there = none_of (is_none r.keys) NoKeys _ e in
      both (f.notes.keyed ∙ not-false (is_some r.keys) there.0)
      (new_of (keys_of (lines.Handover user rrc integrity)) (all_keys past) new)
  kept (lines.Drain grant) new e =
      let small = none_of (nat_lt grant 200) SmallDrain _ e in
      let loop = none_of (is_on l.looping.mode) LoopOn _ small.1 in
      both (at_least 200 grant small.0)
      (both (unset f.looping loop.0) (unset f.forged (no_cause r.forged Forged loop.1)))
  kept line new e = refl

pub lines_keep_rules : (past : List Group) → KeepsOrder past → LinesKeepRules past
lines_keep_rules [] order = tt
lines_keep_rules (g ∷ past) (right, order) = (
  kept past (state_behind past).rules (link_behind past) (follows past order) g.line
      (keys_behind (g ∷ past) (right, order)).distinct (unbroken past g right),
  lines_keep_rules past order,
)
