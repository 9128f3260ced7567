-- The lines that some text says (docs/formats/SCRIPT.md).
use Rattle.std.specs.Prelude.{ℕ, ◌==◌, Bool, true, false, if◌then◌else◌, List, [], ◌∷◌, ◌≡◌, length}
use Rattle.std.specs.Prelude.{◌<◌, ◌≤◌, Ok, codes}
use Rattle.std.specs.Fmt.{decimal}
use Rattle.hex.specs.Hex.{IsBytes}
use Rattle.eps_sec.specs.declared.keys.Key.{Key}
use Rattle.bearer_types.specs.declared.config.BearerConfig.{BearerConfig}
use Rattle.air_text.specs.Words.{is_twice, joined}
use Rattle.air_text.specs.Options.{goes, config_of, options_of}
use Rattle.l2_types.specs.declared.config.DrxConfig.{DrxConfig}
use Rattle.air_record.specs.declared.line.Line.{Line}
use Rattle.air_record.specs.Text.{kind_text, line_words}
use Rattle.air_record.specs.declared.line.Line.TheVariants as lines
use Rattle.l2_types.specs.declared.limits.TheConstants.{GREATEST_GRANT, GREATEST_SDU}

-- neither a space nor a line feed
abbrev pub is_clear : List ℕ → Bool
is_clear [] = true
is_clear (x ∷ xs) = if x == 10 then false else if x == 32 then false else is_clear xs

abbrev pub are_clear : List (List ℕ) → Bool
are_clear [] = true
are_clear (w ∷ ws) = if is_clear w then are_clear ws else false

abbrev pub IsGoodKey : Key → Type 0
IsGoodKey key = IsBytes key.octets × (length key.octets ≡ 16)

-- no word is empty
abbrev pub AreSome : List (List ℕ) → Type 0
AreSome [] = Unit {0}
AreSome (w ∷ ws) = (0 < length w) × AreSome ws

-- a bearer whose options are words that say its configuration
pub record IsGoodBearer (config : BearerConfig) (options : List ℕ) : Type 0 where
  pub words : List (List ℕ)
  pub joined_is : options ≡ joined words
  pub clear : are_clear words ≡ true
  pub some : AreSome words
  pub once : is_twice words ≡ false
  pub lcid : config.channel.lcid ≤ 10
  pub fits : goes config.kind config.channel.lcid ≡ true
  pub read : options_of (config_of config.channel.lcid config.kind) words ≡ Ok config

pub record IsGoodDrx (c : DrxConfig) : Type 0 where
  pub on : (1 ≤ c.on) × (c.on ≤ 200)
  pub inactivity : c.inactivity ≤ 2560
  pub retransmit : c.retransmit ≤ 33
  pub cycle : (1 ≤ c.cycle) × (c.cycle ≤ 2560)
  pub offset : c.offset ≤ 2559

-- a line that some text says: its fields are in their ranges, and a bearer's configuration is what
-- its options say
abbrev pub IsGoodLine : Line → Type 0
IsGoodLine (lines.Harq visits) = (1 ≤ visits) × (visits ≤ 28)
IsGoodLine lines.Bsr = Unit {0}
IsGoodLine (lines.Keys keys) = IsGoodKey keys.user × IsGoodKey keys.rrc × IsGoodKey keys.integrity
IsGoodLine (lines.Bearer config options) = IsGoodBearer config options
IsGoodLine (lines.Submit side lcid octets) = (lcid ≤ 10) × IsBytes octets × (0 < length octets)
    × (length octets ≤ GREATEST_SDU)
IsGoodLine (lines.Tti up_grant up down_grant down) =
    (up_grant ≤ GREATEST_GRANT) × (down_grant ≤ GREATEST_GRANT)
IsGoodLine (lines.Expire side lcid clock) = lcid ≤ 10
IsGoodLine (lines.Handover user rrc integrity) = IsGoodKey user × IsGoodKey rrc
    × IsGoodKey integrity
IsGoodLine lines.LoopOff = Unit {0}
IsGoodLine (lines.LoopA size) = size ≤ GREATEST_SDU
IsGoodLine (lines.LoopB delay) = delay ≤ 65535
IsGoodLine (lines.Drain grant) = grant ≤ GREATEST_GRANT
IsGoodLine (lines.Forge side octets) = IsBytes octets × (0 < length octets)
    × (length octets ≤ GREATEST_GRANT)
IsGoodLine lines.End = Unit {0}
IsGoodLine (lines.Discard lcid ttis) = (lcid ≤ 10) × (2 ≤ ttis) × (ttis ≤ 65535)
IsGoodLine (lines.Drx config) = IsGoodDrx config

-- the words of a line's text: those that it is printed from, but that a bearer's options are words
-- of their own
abbrev pub spoken : (line : Line) → IsGoodLine line → List (List ℕ)
spoken (lines.Bearer config options) h =
    codes "bearer" ∷ decimal config.channel.lcid ∷ kind_text config.kind ∷ h.words
spoken line h = line_words line
