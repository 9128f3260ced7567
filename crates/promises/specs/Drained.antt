-- What a drain leaves: nothing undelivered of acknowledged data, but where a sender gave up (TS
-- 36.322 5.2.1, 7.3).
use Rattle.std.specs.Prelude.{ℕ, ◌+◌, Bool, true, false, if◌then◌else◌, List, [], ◌∷◌, ◌++◌, ◌≡◌}
use Rattle.std.specs.Prelude.{Some, length, nat_lt}
use Rattle.std.specs.List.{filter}
use Rattle.promises.specs.Air.{is_tti}
use Rattle.promises.specs.Events.{fails_on}
use Rattle.promises.specs.Parts.{is_handover}
use Rattle.air_text.specs.Groups.{Group, history}
use Rattle.promises.specs.Taken.{kept_of}
use Rattle.l2_types.specs.declared.side.Side.{Side}
use Rattle.promises.specs.Records.{events_of}
use Rattle.air_record.specs.declared.line.Line.{Line}
use Rattle.air_record.specs.declared.record.Record.{Record}
use Rattle.bearer_types.specs.Sides.{other}
use Rattle.bearer_types.specs.declared.config.BearerConfig.{BearerConfig}
use Rattle.l2_types.specs.declared.channel.Kind.TheVariants.{Am}
use Rattle.promises.specs.Delivery.{discarded}
use Rattle.promises.specs.Flows.{submitted, delivered}
use Rattle.promises.specs.Configs.{config_of}
use Rattle.air_record.specs.declared.line.Line.TheVariants as lines
use Rattle.air_record.specs.declared.record.Record.TheVariants as records

-- ---- a sender gives up at its limit of retransmissions, for the sequence number that it tells

-- at which a side's sender on a channel gave up since the last handover, or the beginning
abbrev pub failed : Side → ℕ → List Group → List ℕ
failed side lcid [] = []
failed side lcid (g ∷ past) =
    (if is_handover g.line then [] else failed side lcid past)
    ++ fails_on lcid (events_of side g.events)

abbrev pub has_failed : Side → ℕ → List Group → Bool
has_failed side lcid past = nat_lt 0 (length (failed side lcid past))

-- ---- each drain ends

abbrev pub is_drain : Line → Bool
is_drain (lines.Drain grant) = true
is_drain line = false

-- its last record tells that it is drained, and of its rounds: its TTIs but for the first eight
pub record EndsDrained (g : Group) : Type 0 where
  pub rounds : ℕ
  pub before : List Record
  pub events_are : g.events ≡ before ++ records.Drained rounds ∷ []
  pub ttis_are : length (filter is_tti g.events) ≡ 8 + rounds

-- each such group, of which the newest stands first; no block was forged before, as a drain is
-- refused then
abbrev pub DrainsEnd : List Group → Type 0
DrainsEnd [] = Unit {0}
DrainsEnd (g ∷ past) = (is_drain g.line ≡ true → EndsDrained g) × DrainsEnd past

-- ---- what it leaves

-- of the SDUs that a side submitted, those that it didn't discard, as its `take` and `discard`
-- records tell (TS 36.323 5.4)
abbrev pub kept : BearerConfig → ℕ → Side → List Group → List (List ℕ)
kept config lcid from past =
    kept_of lcid config.first (events_of from (history past)) (submitted from lcid past)

-- what the other end has handed up is then all that this end submitted and didn't discard, in its
-- order, each once and unchanged; where it discarded none, all that it submitted
pub record HasLeftNothing (config : BearerConfig) (from : Side) (lcid : ℕ)
    (past : List Group) : Type 0 where
  pub kept_are_up : delivered (other from) lcid past ≡ kept config lcid from past
  pub all_are_up : discarded from lcid past ≡ []
      → delivered (other from) lcid past ≡ submitted from lcid past

-- on each channel with an acknowledged data bearer on which it gave up none
abbrev pub LeavesNothing : List Group → Type 0
LeavesNothing past =
    (from : Side) (lcid : ℕ) (config : BearerConfig) → config_of lcid past ≡ Some config
    → config.kind ≡ Am → failed from lcid past ≡ [] → HasLeftNothing config from lcid past

-- behind each drain
abbrev pub DrainsLeaveNothing : List Group → Type 0
DrainsLeaveNothing [] = Unit {0}
DrainsLeaveNothing (g ∷ past) =
    (is_drain g.line ≡ true → LeavesNothing (g ∷ past)) × DrainsLeaveNothing past
