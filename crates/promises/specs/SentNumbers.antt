-- The numbers that the `send` records of a journal name on acknowledged data bearers: in each life
-- new PDUs have the numbers 0, 1, 2, .., and a PDU that is sent again has one of the last 512 that
-- were written (TS 36.322 5.1.3.1.1, 5.2.1, 7.1).
use Rattle.std.specs.Prelude.{ℕ, ◌≡◌, ◌+◌, ◌<◌, ◌≤◌, ◌%◌, ◌==◌, if◌then◌else◌, List, [], ◌∷◌, ◌++◌}
use Rattle.std.specs.Prelude.{Some}
use Rattle.l2_types.specs.declared.channel.Kind.TheVariants.{Am}
use Rattle.l2_types.specs.declared.event.How.{How}
use Rattle.l2_types.specs.declared.event.How.TheVariants as hows
use Rattle.l2_types.specs.declared.side.Side.{Side}
use Rattle.rlc_pdu.specs.declared.constants.TheConstants.{AM_MODULUS, AM_WINDOW_SIZE}
use Rattle.bearer_types.specs.declared.config.BearerConfig.{BearerConfig}
use Rattle.air_record.specs.declared.record.Record.{Record}
use Rattle.air_text.specs.Groups.{Group}
use Rattle.promises.specs.Configs.{config_of}
use Rattle.promises.specs.Names.{SentPdu, sent_pdus}
use Rattle.promises.specs.Parts.{is_handover}
use Rattle.promises.specs.Records.{events_of}

-- a number below the next one that has an SN, within the window
pub record IsWritten (next sn : ℕ) : Type 0 where
  pub number : ℕ
  pub below : number < next
  pub near : next ≤ number + AM_WINDOW_SIZE
  pub sn_is : sn ≡ number % AM_MODULUS

abbrev pub IsNumber : How → ℕ → ℕ → Type 0
IsNumber hows.New next sn = sn ≡ next % AM_MODULUS
IsNumber hows.Re next sn = IsWritten next sn
IsNumber how next sn = Unit {0}

-- the number that is written next behind a PDU
abbrev pub next_by : How → ℕ → ℕ
next_by hows.New next = next + 1
next_by how next = next

abbrev pub next_behind : ℕ → SentPdu → ℕ → ℕ
next_behind lcid s next = if s.lcid == lcid then next_by s.how next else next

-- PDUs that are sent one behind the other, by the number that is written next
abbrev pub AreNumbers : ℕ → ℕ → List SentPdu → Type 0
AreNumbers lcid next [] = Unit {0}
AreNumbers lcid next (s ∷ sent) =
    (s.lcid ≡ lcid → IsNumber s.how next s.sn) × AreNumbers lcid (next_behind lcid s next) sent

-- ---- of a journal

-- what a side tells of as sent
abbrev pub sent_in : Side → List Record → List SentPdu
sent_in side told = sent_pdus (events_of side told)

-- since the last handover, or since the beginning, of groups of which the newest stands first
abbrev pub sent_since : Side → List Group → List SentPdu
sent_since side [] = []
sent_since side (g ∷ past) =
    (if is_handover g.line then [] else sent_since side past) ++ sent_in side g.events

-- behind each group, on each channel with an acknowledged data bearer
abbrev pub NumbersAreSent : List Group → Type 0
NumbersAreSent [] = Unit {0}
NumbersAreSent (g ∷ past) =
    ((side : Side) (lcid : ℕ) (config : BearerConfig) → config_of lcid (g ∷ past) ≡ Some config
    → config.kind ≡ Am → AreNumbers lcid 0 (sent_since side (g ∷ past)))
    × NumbersAreSent past
