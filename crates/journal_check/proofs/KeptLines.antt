-- What is kept of lines tells which line may follow.
use Rattle.std.proofs.Common.{◌≡◌, ◌≢◌, ◌<◌, ◌≤◌, ℕ, Bool, true, false, not, ◌&&◌, ◌||◌, ◌==◌, nat_le, nat_lt, List}
use Rattle.std.proofs.Common.{[], ◌∷◌}
use Rattle.std.proofs.Common.{◌++◌, length, replicate, slice_set, if◌then◌else◌, Option, Some, is_some, refl, ap, sym}
use Rattle.std.proofs.Common.{arith}
use Rattle.std.proofs.Common.{◌∙◌}
use Rattle.std.proofs.Math.Bool.{and-true}
use Rattle.std.proofs.lemmas.Bool.Decides.{nat_tests}
use Rattle.std.proofs.lemmas.List.{get_or-set_same, get_or-set_other, get_or-replicate, get_or_past, length-set}
use Rattle.std.proofs.lemmas.List.{length-replicate}
use Rattle.std.specs.List.{list_any}
use Rattle.std.specs.Str.{bytes_eq}
use Rattle.air_record.specs.declared.line.Line.{Line}
use Rattle.air_record.specs.declared.line.Line.TheVariants as lines
use Rattle.air_text.specs.Groups.{Group}
use Rattle.bearer_types.specs.declared.config.BearerConfig.{BearerConfig}
use Rattle.promises.specs.Configs.{config_by, config_of}
use Rattle.promises.specs.Delivery.{forges, sets_timer, is_timed}
use Rattle.promises.specs.Keys.{keys_of, all_keys}
use Rattle.promises.specs.Loops.{mode_by, mode_in_force}
use Rattle.promises.specs.Sleeps.{sets_drx}
use Rattle.test_loop.specs.declared.Mode.{Mode}
use Rattle.test_loop.specs.Loops.{is_on}
use Rattle.journal_check.specs.Checks.{TellsLines}
use Rattle.promises.specs.LineRules.{is_configuring, is_harq, is_bsr, is_keys}
use Rattle.promises.specs.LineRules.{keeps_rules}
use Rattle.journal_check.specs.States.{LinesState, no_lines, is_set, is_given, admits, behind_line, HasPlace}
use Rattle.journal_check.proofs.Given.{keys_given, ungiven_new}

-- ---- a line may follow where the rules are kept

pub admits_kept : (past : List Group) (s : LinesState) (line : Line) → TellsLines past s
    → admits s line ≡ keeps_rules past line
unfolding admits
admits_kept past s (lines.Harq visits) t = rw (t.early, t.visits) refl
admits_kept past s lines.Bsr t = rw (t.early, t.reports) refl
admits_kept past s (lines.Keys keys) t =
    rw (t.early, t.keyed, ungiven_new keys.user keys.rrc keys.integrity s.given (all_keys past) t.given) refl
admits_kept past s (lines.Bearer config options) t =
    rw (t.early, t.bearers config.channel.lcid, t.keyed) refl
admits_kept past s (lines.Discard lcid ttis) t = rw (t.early, t.bearers lcid, t.timers lcid) refl
admits_kept past s (lines.Drx config) t = rw (t.early, t.listens) refl
admits_kept past s (lines.Submit side lcid octets) t = t.bearers lcid
admits_kept past s (lines.Expire side lcid clock) t = t.bearers lcid
admits_kept past s (lines.Handover user rrc integrity) t =
    rw (t.keyed, ungiven_new user rrc integrity s.given (all_keys past) t.given) refl
admits_kept past s (lines.Drain grant) t =
    rw (t.looping, t.unforged)
    (ap (λ b. nat_le 200 grant && b) (sym (and-true (not (is_on (mode_in_force past))))))
admits_kept past s line t = refl

-- ---- places by LCID

unset : (n i : ℕ) → is_set i (replicate n false) ≡ false
unset n i = by (nat_lt i n) refl
  where
    by : (b : Bool) → nat_lt i n ≡ b → is_set i (replicate n false) ≡ false
    by true e = get_or-replicate n i false false (grind (arith, nat_tests))
    by false e =
        let past : n ≤ i = grind (arith, nat_tests) in
        get_or_past (replicate n false) i false (omega (arith, length-replicate n false, past))

place_set : (places : List Bool) (at lcid : ℕ) → at < length places
    → is_set lcid (slice_set places at true) ≡ (at == lcid || is_set lcid places)
place_set places at lcid inside = by (at == lcid) refl
  where
    by : (b : Bool) → (at == lcid) ≡ b → is_set lcid (slice_set places at true) ≡ (b || is_set lcid places)
    by true e =
        let same : at ≡ lcid = grind (arith, nat_tests) in
        ap (λ (i : ℕ). is_set i (slice_set places at true)) (sym same)
        ∙ get_or-set_same places at true false inside
    by false e =
        let other : lcid ≢ at = grind (arith, nat_tests) in
        get_or-set_other places at lcid true false other

-- ---- what a line leaves

abbrev Behind : (LinesState → Bool) → (Line → Bool) → Type 0
Behind kept kind = (line : Line) (s : LinesState) → kept (behind_line line s) ≡ (kind line || kept s)

visits-behind : Behind (λ s. s.visits) is_harq
unfolding behind_line
visits-behind (lines.Harq visits) s = refl
visits-behind line s = refl

reports-behind : Behind (λ s. s.reports) is_bsr
unfolding behind_line
reports-behind lines.Bsr s = refl
reports-behind line s = refl

keyed-behind : Behind (λ s. s.keyed) is_keys
unfolding behind_line
keyed-behind (lines.Keys keys) s = refl
keyed-behind line s = refl

listens-behind : Behind (λ s. s.listens) sets_drx
unfolding behind_line
listens-behind (lines.Drx config) s = refl
listens-behind line s = refl

early-behind : (line : Line) (s : LinesState) → (behind_line line s).early ≡ (is_configuring line && s.early)
unfolding behind_line
early-behind (lines.Harq visits) s = refl
early-behind line s = refl

looping-behind : (line : Line) (s : LinesState) (m : Mode) → s.looping ≡ is_on m
    → (behind_line line s).looping ≡ is_on (mode_by line m)
unfolding behind_line
looping-behind lines.LoopOff s m h = refl
looping-behind (lines.LoopA size) s m h = refl
looping-behind (lines.LoopB delay) s m h = refl
looping-behind line s m h = h

is_some-if : (b : Bool) (config : BearerConfig) (before : Option BearerConfig)
    → is_some (if b then Some config else before) ≡ (b || is_some before)
is_some-if true config before = refl
is_some-if false config before = refl

bearers-behind : (lcid : ℕ) (line : Line) (s : LinesState) (before : Option BearerConfig) → HasPlace line
    → length s.bearers ≡ 256 → is_set lcid s.bearers ≡ is_some before
    → is_set lcid (behind_line line s).bearers ≡ is_some (config_by lcid line before)
unfolding behind_line
bearers-behind lcid (lines.Bearer config options) s before small places h =
    place_set s.bearers config.channel.lcid lcid (omega (arith, small, places))
    ∙ ap (λ b. config.channel.lcid == lcid || b) h
    ∙ sym (is_some-if (config.channel.lcid == lcid) config before)
bearers-behind lcid line s before small places h = h

timers-behind : (lcid : ℕ) (line : Line) (s : LinesState) (before : Bool) → HasPlace line
    → length s.timers ≡ 256 → is_set lcid s.timers ≡ before
    → is_set lcid (behind_line line s).timers ≡ (sets_timer lcid line || before)
unfolding behind_line
timers-behind lcid (lines.Discard at ttis) s before small places h =
    place_set s.timers at lcid (omega (arith, small, places)) ∙ ap (λ b. at == lcid || b) h
timers-behind lcid line s before small places h = h

bearer-places : (line : Line) (s : LinesState) → length s.bearers ≡ 256 → length (behind_line line s).bearers ≡ 256
unfolding behind_line
bearer-places (lines.Bearer config options) s h = length-set s.bearers config.channel.lcid true ∙ h
bearer-places line s h = h

timer-places : (line : Line) (s : LinesState) → length s.timers ≡ 256 → length (behind_line line s).timers ≡ 256
unfolding behind_line
timer-places (lines.Discard lcid ttis) s h = length-set s.timers lcid true ∙ h
timer-places line s h = h

given-behind : (key : List ℕ) (line : Line) (s : LinesState) (keys : List (List ℕ))
    → is_given key s.given ≡ list_any (bytes_eq key) keys
    → is_given key (behind_line line s).given ≡ list_any (bytes_eq key) (keys_of line ++ keys)
unfolding behind_line
given-behind key (lines.Keys keys) s before h = keys_given key keys.user keys.rrc keys.integrity s.given before h
given-behind key (lines.Handover user rrc integrity) s before h =
    keys_given key user rrc integrity s.given before h
given-behind key line s before h = h

-- ---- what is kept tells of the lines

pub tells_none : TellsLines [] no_lines
unfolding no_lines
tells_none = record {
  early = refl;
  visits = refl;
  reports = refl;
  keyed = refl;
  listens = refl;
  looping = refl;
  bearers = unset 256;
  timers = unset 256;
  places = (length-replicate 256 false, length-replicate 256 false);
  given = λ key. refl;
  unforged = refl;
}

pub tells_more : (g : Group) (past : List Group) (s : LinesState) → TellsLines past s → HasPlace g.line
    → forges g.line ≡ false → TellsLines (g ∷ past) (behind_line g.line s)
tells_more g past s t small unforged = record {
  early = early-behind g.line s ∙ ap (λ b. is_configuring g.line && b) t.early;
  visits = visits-behind g.line s ∙ ap (λ b. is_harq g.line || b) t.visits;
  reports = reports-behind g.line s ∙ ap (λ b. is_bsr g.line || b) t.reports;
  keyed = keyed-behind g.line s ∙ ap (λ b. is_keys g.line || b) t.keyed;
  listens = listens-behind g.line s ∙ ap (λ b. sets_drx g.line || b) t.listens;
  looping = looping-behind g.line s (mode_in_force past) t.looping;
  bearers = λ lcid. bearers-behind lcid g.line s (config_of lcid past) small t.places.0 (t.bearers lcid);
  timers = λ lcid. timers-behind lcid g.line s (is_timed lcid past) small t.places.1 (t.timers lcid);
  places = (bearer-places g.line s t.places.0, timer-places g.line s t.places.1);
  given = λ key. given-behind key g.line s (all_keys past) (t.given key);
  unforged = rw unforged t.unforged;
}

-- an event more changes no line
pub tells_still : (g : Group) (events : List _) (past : List Group) (s : LinesState) → TellsLines (g ∷ past) s
    → TellsLines (record g { events = events } ∷ past) s
tells_still g events past s t = record {
  early = t.early;
  visits = t.visits;
  reports = t.reports;
  keyed = t.keyed;
  listens = t.listens;
  looping = t.looping;
  bearers = t.bearers;
  timers = t.timers;
  places = t.places;
  given = t.given;
  unforged = t.unforged;
}
