-- The rules of a run (docs/formats/REFUSALS.md): which lines of the grammar are refused, and why.
use Rattle.std.specs.Prelude.{ℕ, Bool, true, false, not, ◌||◌, ◌&&◌, nat_lt, nat_le, if◌then◌else◌}
use Rattle.std.specs.Prelude.{List, [], slice_index_or, slice_set, replicate, Option, None, Some}
use Rattle.std.specs.Prelude.{is_some, is_none}
use Rattle.std.specs.BTreeMap.{is_at}
use Rattle.std.specs.BTreeSet.{insert_key}
use Rattle.std.specs.Cmp.Lexicographic.{slice_cmp}
use Rattle.std.specs.List.{list_any}
use Rattle.std.specs.Ordering.{nat_cmp}
use Rattle.std.specs.Str.{bytes_eq}
use Rattle.air_link.specs.Lines.{expiring}
use Rattle.air_link.specs.Link.{Link}
use Rattle.air_record.specs.declared.line.Line.{Line}
use Rattle.air_record.specs.declared.line.Line.TheVariants as lines
use Rattle.air_run.specs.declared.refusal.RunRefusal.{RunRefusal}
use Rattle.air_run.specs.declared.refusal.RunRefusal.TheVariants.{UnknownBearer, BearerTwice}
use Rattle.air_run.specs.declared.refusal.RunRefusal.TheVariants.{ConfiguredLate, KeyUsed}
use Rattle.air_run.specs.declared.refusal.RunRefusal.TheVariants.{TimerIdle, SmallDrain, NoKeys}
use Rattle.air_run.specs.declared.refusal.RunRefusal.TheVariants.{SetTwice, LoopOn, NoDiscard}
use Rattle.air_run.specs.declared.refusal.RunRefusal.TheVariants.{Forged, DrxFields}
use Rattle.eps_sec.specs.declared.Key.{Key}
use Rattle.eps_sec.specs.declared.Keys.{Keys}
use Rattle.l2_node.specs.Finding.{has}
use Rattle.l2_types.specs.declared.config.DrxConfig.{DrxConfig}
use Rattle.l2_types.specs.declared.channel.Kind.{Kind}
use Rattle.l2_types.specs.declared.channel.Kind.TheVariants.{Tm}
use Rattle.test_loop.specs.Loops.{is_on}

-- what the lines so far rule out
pub record Rules : Type 0 where
  -- a line came that configures nothing
  pub begun : Bool
  -- there was a line of this kind
  pub visits : Bool
  pub reports : Bool
  pub listens : Bool
  -- by LCID, whether the discard timers are set
  pub discards : List Bool
  -- the keys in force, and all keys so far, in ascending order
  pub keys : Option Keys
  pub used : List (List ℕ)
  -- a block was forged
  pub forged : Bool

unfoldable pub no_rules : Rules
no_rules = record {
  begun = false;
  visits = false;
  reports = false;
  listens = false;
  discards = replicate 11 false;
  keys = None;
  used = [];
  forged = false;
}

-- ---- keys

abbrev pub is_used : List ℕ → List (List ℕ) → Bool
is_used key used = list_any (is_at (slice_cmp nat_cmp key)) used

abbrev pub with_key : List ℕ → List (List ℕ) → List (List ℕ)
with_key key used = insert_key (slice_cmp nat_cmp) used key

abbrev pub with_keys : Key → Key → Key → List (List ℕ) → List (List ℕ)
with_keys user rrc integrity used =
    with_key integrity.octets (with_key rrc.octets (with_key user.octets used))

abbrev pub are_equal : Key → Key → Bool
are_equal a b = bytes_eq a.octets b.octets

-- one of three keys was used before, or stands twice among them
abbrev pub is_any_used : Key → Key → Key → List (List ℕ) → Bool
is_any_used user rrc integrity used =
    (is_used user.octets used || (is_used rrc.octets used || is_used integrity.octets used))
    || (are_equal user rrc || (are_equal user integrity || are_equal rrc integrity))

-- ---- bearers

-- both ends have a bearer
abbrev pub is_known : ℕ → Link → Bool
is_known lcid l = has lcid l.nb.bearers && has lcid l.ue.bearers

abbrev pub is_taken : ℕ → Link → Bool
is_taken lcid l = has lcid l.nb.bearers || has lcid l.ue.bearers

abbrev pub wants_keys : Kind → Bool
wants_keys Tm = false
wants_keys kind = true

-- ---- the refusals of each line, of which the first that is true counts

abbrev pub refused_if : Bool → RunRefusal → Option RunRefusal
refused_if cause why = if cause then Some why else None

abbrev pub or_else : Option RunRefusal → Option RunRefusal → Option RunRefusal
or_else (Some why) other = Some why
or_else None other = other

-- a line that configures stands before all others
abbrev pub late : Rules → Option RunRefusal
late r = refused_if r.begun ConfiguredLate

-- and once
abbrev pub late_or_twice : Bool → Rules → Option RunRefusal
late_or_twice came r = or_else (late r) (refused_if came SetTwice)

abbrev pub unknown : ℕ → Link → Option RunRefusal
unknown lcid l = refused_if (not (is_known lcid l)) UnknownBearer

abbrev pub keys_refused : Key → Key → Key → Rules → Option RunRefusal
keys_refused user rrc integrity r = refused_if (is_any_used user rrc integrity r.used) KeyUsed

abbrev pub bearer_refused : Kind → ℕ → Rules → Link → Option RunRefusal
bearer_refused kind lcid r l =
    or_else (late r)
    (or_else (refused_if (is_taken lcid l) BearerTwice)
    (refused_if (wants_keys kind && is_none r.keys) NoKeys))

abbrev pub handover_refused : Key → Key → Key → Rules → Option RunRefusal
handover_refused user rrc integrity r =
    or_else (refused_if (is_none r.keys) NoKeys) (keys_refused user rrc integrity r)

abbrev pub discard_refused : ℕ → Rules → Link → Option RunRefusal
discard_refused lcid r l =
    or_else (late r)
    (or_else (unknown lcid l)
    (or_else (refused_if (nat_lt lcid 3) NoDiscard)
    (refused_if (slice_index_or r.discards lcid false) SetTwice)))

abbrev pub drain_refused : ℕ → Rules → Link → Option RunRefusal
drain_refused grant r l =
    or_else (refused_if (nat_lt grant 200) SmallDrain)
    (or_else (refused_if (is_on l.looping.mode) LoopOn) (refused_if r.forged Forged))

-- an on duration or an offset that doesn't fit into the cycle
abbrev pub misfit : DrxConfig → Option RunRefusal
misfit c = refused_if (nat_lt c.cycle c.on || nat_le c.cycle c.offset) DrxFields

-- what can be told before a line is run
unfoldable pub rule_broken : Line → Rules → Link → Option RunRefusal
rule_broken (lines.Harq maximum) r l = late_or_twice r.visits r
rule_broken lines.Bsr r l = late_or_twice r.reports r
rule_broken (lines.Keys keys) r l =
    or_else (late_or_twice (is_some r.keys) r) (keys_refused keys.user keys.rrc keys.integrity r)
rule_broken (lines.Bearer config options) r l = bearer_refused config.kind config.channel.lcid r l
rule_broken (lines.Submit side lcid octets) r l = unknown lcid l
rule_broken (lines.Expire side lcid clock) r l = unknown lcid l
rule_broken (lines.Handover user rrc integrity) r l = handover_refused user rrc integrity r
rule_broken (lines.Drain grant) r l = drain_refused grant r l
rule_broken (lines.Discard lcid ttis) r l = discard_refused lcid r l
rule_broken (lines.Drx config) r l = or_else (late_or_twice r.listens r) (misfit config)
rule_broken line r l = None

-- a timer that doesn't run
abbrev pub is_idle : Line → Link → Bool
is_idle (lines.Expire side lcid clock) l = is_none (expiring side lcid clock l)
is_idle line l = false

-- why a line of the grammar is refused
abbrev pub refusal : Line → Rules → Link → Option RunRefusal
refusal line r l = or_else (rule_broken line r l) (refused_if (is_idle line l) TimerIdle)

-- ---- what a line leaves of the rules

abbrev pub begins : Rules → Rules
begins r = record r { begun = true }

abbrev pub discard_set : ℕ → Rules → Rules
discard_set lcid r = record r { discards = slice_set r.discards lcid true }

unfoldable pub accepted : Line → Rules → Rules
accepted (lines.Harq visits) r = record r { visits = true }
accepted lines.Bsr r = record r { reports = true }
accepted (lines.Keys keys) r =
    record r { keys = Some keys; used = with_keys keys.user keys.rrc keys.integrity r.used }
accepted (lines.Bearer config options) r = r
accepted (lines.Handover user rrc integrity) r =
    record r { begun = true; used = with_keys user rrc integrity r.used }
accepted (lines.Forge side octets) r = record r { begun = true; forged = true }
accepted (lines.Discard lcid ttis) r = discard_set lcid r
accepted (lines.Drx config) r = record r { listens = true }
accepted line r = begins r
