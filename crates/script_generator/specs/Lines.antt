-- The script of a number, line by line (docs/formats/SCRIPT.md): the lines that its text says, with
-- the same draws.
use Rattle.std.specs.Prelude.{◌≡◌, ℕ, zero, suc, ◌+◌, ◌*◌, ◌/◌, ◌%◌, ◌==◌, ◌&&◌, nat_lt, true}
use Rattle.std.specs.Prelude.{false, List, [], ◌∷◌, ◌++◌, replicate, codes, Some, Ok, if◌then◌else◌}
use Rattle.std.specs.Int.{w128, to_be_bytes}
use Rattle.l2_io.specs.Feeds.{until_feed, without_return}
use Rattle.l2_types.specs.declared.side.Side.TheVariants.{Ue, Nb}
use Rattle.l2_types.specs.declared.channel.Kind.TheVariants.{Um, Am}
use Rattle.eps_sec.specs.declared.keys.Key.{Key}
use Rattle.eps_sec.specs.declared.keys.Cipher.TheVariants.{Eea2}
use Rattle.bearer_types.specs.declared.config.BearerConfig.{BearerConfig}
use Rattle.air_record.specs.declared.line.Fate.TheVariants as fates
use Rattle.air_record.specs.declared.line.Outcome.{Outcome}
use Rattle.air_record.specs.declared.line.Line.{Line}
use Rattle.air_record.specs.declared.line.Line.TheVariants.{Harq, Keys, Bearer, Submit, Tti}
use Rattle.air_record.specs.declared.line.Line.TheVariants.{Handover, Drain, End}
use Rattle.air_text.specs.Fields.{outcome}
use Rattle.air_text.specs.Options.{config_of}
use Rattle.air_text.specs.Reading.{read_of}
use Rattle.script_generator.specs.Draws.{seeded, next, drawn}
use Rattle.script_generator.specs.Script.{at_tti, after_step}

-- a number as a key of 128 bits
abbrev pub key_at : ℕ → Key
key_at number = record { octets = to_be_bytes w128 number }

abbrev pub harq_line : Line
harq_line = Harq 4

abbrev pub keys_line : Line
keys_line = Keys (record { alg = Eea2; user = key_at 1; rrc = key_at 2; integrity = key_at 3 })

-- the bearer with acknowledgement
unfoldable pub with_retx : BearerConfig → BearerConfig
with_retx config = record config { tx = record config.tx { max_retx = 32 } }

abbrev pub am_line : Line
am_line = Bearer (with_retx (config_of 3 Am)) (codes "maxretx=32")

-- the bearer without
abbrev pub um_line : Line
um_line = Bearer (config_of 4 Um) []

-- the handover before step i, with the three keys behind so many
abbrev pub handover_by : ℕ → Line
handover_by before = Handover (key_at (before + 1)) (key_at (before + 2)) (key_at (before + 3))

abbrev pub handover_lines : ℕ → List Line
handover_lines i = if nat_lt 0 i && i % 500 == 0 then handover_by (3 * i / 500) ∷ [] else []

-- the SDU of step i: 1 to 1400 octets of one value
abbrev pub sdu_octets : ℕ → ℕ → List ℕ
sdu_octets i x = replicate (1 + drawn 1400 (next x)) (i % 256)

-- where it is handed over, by a draw among 8: to the bearer with acknowledgement each way, or to
-- the other one down
abbrev pub sdu_lines : ℕ → ℕ → ℕ → List Line
sdu_lines kind i x =
    if nat_lt kind 2 then Submit Nb 3 (sdu_octets i x) ∷ []
    else if kind == 2 then Submit Ue 3 (sdu_octets i x) ∷ []
    else if kind == 3 then Submit Nb 4 (sdu_octets i x) ∷ []
    else []

-- how a block comes over the air, by a draw among 10
abbrev pub outcome_by : ℕ → Outcome
outcome_by kind = if kind == 0 then outcome fates.Bad false else if kind == 1
    then outcome fates.Ok true else outcome fates.Ok false

abbrev pub tti_line : ℕ → Line
tti_line x = Tti 1500 (outcome_by (drawn 10 (next x))) 1500 (outcome_by (drawn 10 (next (next x))))

-- step i
abbrev pub step_lines : ℕ → ℕ → List Line
step_lines i x = handover_lines i ++ sdu_lines (drawn 8 (next x)) i (next x)
    ++ tti_line (at_tti x) ∷ []

-- so many steps, the first of them step i
unfoldable pub steps_lines : ℕ → ℕ → ℕ → List Line
steps_lines zero i x = []
steps_lines (suc n) i x = step_lines i x ++ steps_lines n (i + 1) (after_step x)

abbrev pub ending_lines : List Line
ending_lines = Drain 1500 ∷ End ∷ []

-- the lines of the script of a number
unfoldable pub lines : ℕ → List Line
lines number = harq_line ∷ keys_line ∷ am_line ∷ um_line
    ∷ (steps_lines 2000 0 (seeded number) ++ ending_lines)

-- a text of one line, without its line feed, that is read as a line
pub record Says (text : List ℕ) (line : Line) : Type 0 where
  pub one : until_feed text ≡ text
  pub whole : without_return text ≡ text
  pub read : read_of text ≡ Ok (Some line)

-- octets that are texts of these lines, each with its line feed
abbrev pub SayAll : List ℕ → List Line → Type 0
SayAll octets [] = octets ≡ []
SayAll octets (line ∷ lines) = (text : List ℕ) × (rest : List ℕ) × (octets ≡ text ++ 10 ∷ rest)
    × Says text line × SayAll rest lines
