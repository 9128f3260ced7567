-- What signalling bearers deliver from one handover to the next (TS 36.322 5.1.3, TS 36.323
-- 5.1.2.2, 5.2).
use Rattle.std.specs.Prelude.{ℕ, if◌then◌else◌, List, [], ◌∷◌, ◌++◌, ◌≡◌, false, Some, true}
use Rattle.air_text.specs.Groups.{Group, history}
use Rattle.l2_types.specs.declared.side.Side.{Side}
use Rattle.promises.specs.Parts.{is_handover, part_of_line}
use Rattle.promises.specs.Flows.{handed_in, looped_at}
use Rattle.promises.specs.Records.{ups_in, events_of}
use Rattle.bearer_types.specs.declared.Event.{Event}
use Rattle.promises.specs.Events.{told_on, losses}
use Rattle.bearer_types.specs.Sides.{other}
use Rattle.law_words.specs.Lists.{AreFirstSdus}
use Rattle.bearer_types.specs.declared.config.BearerConfig.{BearerConfig}
use Rattle.l2_types.specs.declared.channel.Kind.TheVariants.{Srb}
use Rattle.promises.specs.Delivery.{is_forged}
use Rattle.promises.specs.Configs.{config_of}
use Rattle.promises.specs.Drained.{failed, is_drain}

-- ---- since the last handover, or the beginning: the SDUs that a side submitted on a channel, and
-- those that were handed up there

abbrev pub submitted_since : Side → ℕ → List Group → List (List ℕ)
submitted_since side lcid [] = []
submitted_since side lcid (g ∷ past) =
    (if is_handover g.line then [] else submitted_since side lcid past)
    ++ (handed_in side lcid (part_of_line g.line) g.events ++ looped_at side lcid g.events)

abbrev pub delivered_since : Side → ℕ → List Group → List (List ℕ)
delivered_since side lcid [] = []
delivered_since side lcid (g ∷ past) =
    (if is_handover g.line then [] else delivered_since side lcid past) ++ ups_in side lcid g.events

-- ---- what a side lost there as it came: PDUs of RLC that it couldn't read or that clash, PDUs of
-- PDCP that it couldn't read, whose COUNT it had before, or whose MAC-I differs (TS 36.322 5.1.3.2,
-- TS 36.323 5.1.2.2, 5.7)

abbrev pub losses_since : Side → ℕ → List Group → List Event
losses_since side lcid past = losses (told_on lcid (events_of side (history past)))

-- ---- on a channel

-- what the other end has handed up are the SDUs that this end submitted first: in their order, each
-- once and unchanged, with none left out
pub record DeliversSignals (from : Side) (lcid : ℕ) (past : List Group) : Type 0 where
  pub front : AreFirstSdus (delivered_since (other from) lcid past) (submitted_since from lcid past)
  -- and it has lost nothing
  pub none_lost : losses_since (other from) lcid past ≡ []

-- on each channel with a signalling bearer, where no block was forged
abbrev pub SignalAll : List Group → Type 0
SignalAll past =
    (from : Side) (lcid : ℕ) (config : BearerConfig) → config_of lcid past ≡ Some config
    → config.kind ≡ Srb → is_forged past ≡ false → DeliversSignals from lcid past

-- behind each group, of which the newest stands first
abbrev pub DeliversEachLife : List Group → Type 0
DeliversEachLife [] = Unit {0}
DeliversEachLife (g ∷ past) = SignalAll (g ∷ past) × DeliversEachLife past

-- ---- behind a drain

-- they are all that it submitted, but where its sender gave up since
abbrev pub LeavesNoSignal : List Group → Type 0
LeavesNoSignal past =
    (from : Side) (lcid : ℕ) (config : BearerConfig) → config_of lcid past ≡ Some config
    → config.kind ≡ Srb
    → failed from lcid past ≡ [] → delivered_since (other from) lcid past
    ≡ submitted_since from lcid past

-- behind each drain
abbrev pub DrainsLeaveNoSignal : List Group → Type 0
DrainsLeaveNoSignal [] = Unit {0}
DrainsLeaveNoSignal (g ∷ past) =
    (is_drain g.line ≡ true → LeavesNoSignal (g ∷ past)) × DrainsLeaveNoSignal past

-- ---- in a handover

-- nothing goes up: what RLC can still put together PDCP drops (TS 36.323 5.2.1.3, 5.2.2.3)
abbrev pub BringsNoSignal : List Group → Group → Type 0
BringsNoSignal past g =
    (side : Side) (lcid : ℕ) (config : BearerConfig) → config_of lcid past ≡ Some config
    → config.kind ≡ Srb → is_forged past ≡ false → ups_in side lcid g.events ≡ []

abbrev pub HandoversBringNoSignal : List Group → Type 0
HandoversBringNoSignal [] = Unit {0}
HandoversBringNoSignal (g ∷ past) =
    (is_handover g.line ≡ true → BringsNoSignal past g) × HandoversBringNoSignal past
