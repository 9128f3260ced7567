-- The rules that the lines of a journal keep (docs/formats/SCRIPT.md, docs/formats/REFUSALS.md):
-- those of a run, but that a timer runs. Before a line stand groups, of which the newest stands
-- first.
use Rattle.std.specs.Prelude.{ℕ, Bool, true, false, not, ◌||◌, ◌&&◌, nat_lt, nat_le, is_some}
use Rattle.std.specs.Prelude.{List, [], ◌∷◌, ◌++◌, IsTrue}
use Rattle.std.specs.List.{list_all, list_any}
use Rattle.std.specs.Str.{bytes_eq}
use Rattle.air_record.specs.declared.line.Line.{Line}
use Rattle.air_record.specs.declared.line.Line.TheVariants as lines
use Rattle.air_text.specs.Groups.{Group}
use Rattle.l2_types.specs.declared.channel.Kind.{Kind}
use Rattle.l2_types.specs.declared.channel.Kind.TheVariants.{Tm}
use Rattle.l2_types.specs.declared.config.DrxConfig.{DrxConfig}
use Rattle.promises.specs.Configs.{config_of}
use Rattle.promises.specs.Delivery.{is_forged, is_timed}
use Rattle.promises.specs.Keys.{keys_of, all_keys}
use Rattle.promises.specs.Loops.{mode_in_force}
use Rattle.promises.specs.Sleeps.{is_drx_set}
use Rattle.test_loop.specs.Loops.{is_on}

-- a line that configures
abbrev pub is_configuring : Line → Bool
is_configuring (lines.Harq visits) = true
is_configuring lines.Bsr = true
is_configuring (lines.Keys keys) = true
is_configuring (lines.Bearer config options) = true
is_configuring (lines.Discard lcid ttis) = true
is_configuring (lines.Drx config) = true
is_configuring line = false

-- every line so far configures
abbrev pub is_early : List Group → Bool
is_early past = list_all (λ g. is_configuring g.line) past

abbrev pub is_harq : Line → Bool
is_harq (lines.Harq visits) = true
is_harq line = false

abbrev pub is_bsr : Line → Bool
is_bsr lines.Bsr = true
is_bsr line = false

abbrev pub is_keys : Line → Bool
is_keys (lines.Keys keys) = true
is_keys line = false

-- a line of a kind came
abbrev pub has_line : (Line → Bool) → List Group → Bool
has_line kind past = list_any (λ g. kind g.line) past

-- a bearer came on the LCID
abbrev pub has_bearer : ℕ → List Group → Bool
has_bearer lcid past = is_some (config_of lcid past)

abbrev pub is_tm : Kind → Bool
is_tm Tm = true
is_tm kind = false

-- each of some keys is none of those behind it, and none of others
abbrev pub are_new : List (List ℕ) → List (List ℕ) → Bool
are_new [] others = true
are_new (key ∷ keys) others = not (list_any (bytes_eq key) (keys ++ others)) && are_new keys others

-- the keys that a line gives differ from one another, and from all that lines gave before it
abbrev pub gives_new : List Group → Line → Bool
gives_new past line = are_new (keys_of line) (all_keys past)

-- the on duration and the offset fit into the cycle
abbrev pub is_fitting : DrxConfig → Bool
is_fitting c = nat_le c.on c.cycle && nat_lt c.offset c.cycle

-- a line keeps the rules
abbrev pub keeps_rules : List Group → Line → Bool
keeps_rules past (lines.Harq visits) = is_early past && not (has_line is_harq past)
keeps_rules past lines.Bsr = is_early past && not (has_line is_bsr past)
keeps_rules past (lines.Keys keys) =
    is_early past && (not (has_line is_keys past) && gives_new past (lines.Keys keys))
keeps_rules past (lines.Bearer config options) =
    is_early past && (not (has_bearer config.channel.lcid past)
    && (is_tm config.kind || has_line is_keys past))
keeps_rules past (lines.Discard lcid ttis) =
    is_early past && (has_bearer lcid past && (nat_le 3 lcid && not (is_timed lcid past)))
keeps_rules past (lines.Drx config) =
    is_early past && (not (is_drx_set past) && is_fitting config)
keeps_rules past (lines.Submit side lcid octets) = has_bearer lcid past
keeps_rules past (lines.Expire side lcid clock) = has_bearer lcid past
keeps_rules past (lines.Handover user rrc integrity) =
    has_line is_keys past && gives_new past (lines.Handover user rrc integrity)
keeps_rules past (lines.Drain grant) =
    nat_le 200 grant && (not (is_on (mode_in_force past)) && not (is_forged past))
keeps_rules past line = true

-- each line keeps them
abbrev pub LinesKeepRules : List Group → Type 0
LinesKeepRules [] = Unit {0}
LinesKeepRules (now ∷ past) = IsTrue (keeps_rules past now.line) × LinesKeepRules past
