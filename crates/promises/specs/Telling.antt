-- In which order the records of a line stand, by what the line does (docs/formats/JOURNAL.md).
use Rattle.std.specs.Prelude.{Bool, true, false, ◌≡◌, ℕ, Option, List, ◌++◌, ◌+◌, [], ◌∷◌}
use Rattle.std.specs.List.{list_any}
use Rattle.law_words.specs.Sequences.{nothing, ◌then◌, just}
use Rattle.promises.specs.Order.{OfRecords, SendersTell, Channels, DrainTtiTells, ReceiversTell}
use Rattle.promises.specs.Order.{LoopTells, TtiTells, ExpiryTells, ForgeTells, HandoverTells}
use Rattle.promises.specs.Order.{SubmitTells, with_channel}
use Rattle.pdu_show.specs.Carried.{is_carried}
use Rattle.air_record.specs.declared.record.Record.{Record}
use Rattle.l2_types.specs.declared.side.Side.{Side}
use Rattle.pdu_show.specs.declared.kinds.Layout.{Layout}
use Rattle.air_record.specs.declared.record.Record.TheVariants as records
use Rattle.promises.specs.Air.{InTurn, ttis}
use Rattle.air_record.specs.declared.line.Line.{Line}
use Rattle.air_text.specs.Groups.{Group}
use Rattle.promises.specs.Blocks.{kinds}
use Rattle.air_record.specs.declared.line.Line.TheVariants as lines

-- ---- a drain

-- t-PollRetransmit expires only where the TTI carried nothing of an acknowledged bearer (TS 36.322
-- 7.3)
abbrev pub SendersTellUnless : Bool → OfRecords
SendersTellUnless true = nothing
SendersTellUnless false = SendersTell

-- a round: a TTI, then timers expire
pub record RoundTells (t : ℕ) (kinds' : List (Option Layout)) (c : Side → Channels)
    (told : List Record) : Type 0 where
  pub tti : List Record
  pub timers : List Record
  pub told_is : told ≡ tti ++ timers
  pub tti_is : DrainTtiTells t kinds' c tti
  pub timers_are : (ReceiversTell then SendersTellUnless (list_any (is_carried kinds') tti)) timers

-- eight TTIs, rounds, and how it ends
pub record DrainTells (t : ℕ) (kinds' : List (Option Layout)) (c : Side → Channels)
    (told : List Record) : Type 0 where
  pub rounds : ℕ
  pub in_turn : (InTurn (λ n. DrainTtiTells n kinds' c) t 8
      then InTurn (λ n. RoundTells n kinds' c) (t + 8) rounds
      then just (records.Drained rounds)) told

-- ---- every line

-- at a count of TTIs, with PDUs that are shown so and with these channels of both ends
abbrev pub LineTells : ℕ → List (Option Layout) → (Side → Channels) → Line → OfRecords
LineTells t kinds' c (lines.Submit side lcid octets) = SubmitTells side lcid
LineTells t kinds' c (lines.Tti up_grant up down_grant down) = TtiTells t kinds' c
LineTells t kinds' c (lines.Drain grant) = DrainTells t kinds' c
LineTells t kinds' c (lines.Expire side lcid clock) = ExpiryTells side lcid clock
LineTells t kinds' c (lines.Forge side octets) = ForgeTells side (c side) octets
LineTells t kinds' c (lines.Handover user rrc integrity) = HandoverTells c
LineTells t kinds' c lines.LoopOff = LoopTells
LineTells t kinds' c (lines.LoopA size) = LoopTells
LineTells t kinds' c (lines.LoopB delay) = LoopTells
LineTells t kinds' c line = nothing

-- the channels behind groups, of which the newest stands first: those of their bearers
abbrev pub channels_by : Line → Channels → Channels
channels_by (lines.Bearer config options) c = with_channel config.channel c
channels_by line c = c

abbrev pub channels : List Group → Channels
channels [] = record { by_priority = []; by_lcid = [] }
channels (g ∷ past) = channels_by g.line (channels past)

abbrev pub LinesTell : List Group → Type 0
LinesTell [] = Unit {0}
LinesTell (g ∷ past) =
    LineTells (ttis past) (kinds past) (λ side. channels past) g.line g.events × LinesTell past
