-- Exactly which SDUs of signalling go up from one handover to the next, as the journal tells: those
-- before the first that hasn't come (TS 36.322 5.1.3.2, TS 36.323 5.1.2.2, 6.2.2).
use Rattle.std.specs.Prelude.{ℕ, ◌+◌, Bool, if◌then◌else◌, ◌&&◌, ◌≡◌, false, Some, List, [], ◌∷◌}
use Rattle.std.specs.Prelude.{◌++◌, length, map, take}
use Rattle.air_record.specs.declared.record.Record.{Record}
use Rattle.air_record.specs.declared.record.Record.TheVariants as records
use Rattle.air_text.specs.Groups.{Group}
use Rattle.bearer_types.specs.Sides.{sender_of, is_same, other}
use Rattle.bearer_types.specs.declared.config.BearerConfig.{BearerConfig}
use Rattle.l2_num.specs.Least.{IsLeast}
use Rattle.l2_types.specs.declared.channel.Kind.TheVariants.{Srb}
use Rattle.l2_types.specs.declared.side.Side.{Side}
use Rattle.law_words.specs.Passing.{Passing, Writes, Comes, Told, nothing_told, with_passings}
use Rattle.law_words.specs.Stretches.{has_arrived}
use Rattle.promises.specs.Configs.{config_of}
use Rattle.promises.specs.Delivery.{is_forged}
use Rattle.promises.specs.Parts.{is_handover}
use Rattle.promises.specs.Pdus.{carried}
use Rattle.promises.specs.Records.{is_got, sent_last}
use Rattle.promises.specs.Signalling.{submitted_since, delivered_since}

-- ---- the PDUs of a channel that go from a side: those in new blocks, and those in blocks that are
-- got

-- a record, behind the block that was sent last
abbrev pub passes_at : ℕ → Side → List ℕ → Record → List Passing
passes_at l from sent (records.Block direction process fresh version octets) =
    if fresh && is_same (sender_of direction) from
    then map (λ pdu. Writes pdu) (carried l direction octets) else []
passes_at l from sent (records.Air direction what heard) =
    if is_got what && is_same (sender_of direction) from
    then map (λ pdu. Comes pdu) (carried l direction sent) else []
passes_at l from sent one = []

abbrev pub passes_in : ℕ → Side → List ℕ → List Record → List Passing
passes_in l from sent [] = []
passes_in l from sent (one ∷ told) =
    passes_at l from sent one ++ passes_in l from (sent_last one sent) told

-- since the last handover, or the beginning
abbrev pub passed_since : ℕ → Side → List Group → List Passing
passed_since l from [] = []
passed_since l from (g ∷ past) =
    (if is_handover g.line then [] else passed_since l from past) ++ passes_in l from [] g.events

-- ---- what has come

-- an SDU of signalling has a header of an octet and a MAC-I of 4
abbrev pub pdu_size : List ℕ → ℕ
pdu_size sdu = length sdu + 5

-- of SDUs in their order all octets of the PDU of one, by its place
abbrev pub sdu_has_come : List (List ℕ) → Told → ℕ → Bool
sdu_has_come sdus told place = has_arrived (map pdu_size sdus) told.fields told.came place

-- those that went up are the SDUs before the first that hasn't come
pub record AreInSequence (sdus ups : List (List ℕ)) (told : Told) : Type 0 where
  pub next : ℕ
  pub least : IsLeast (sdu_has_come sdus told) 0 next
  pub which : ups ≡ take next sdus

-- ---- the promise

-- on each channel with a signalling bearer, where no block was forged, of what was submitted, went
-- up and passed since the last handover
abbrev pub AllHandUpInSequence : List Group → Type 0
AllHandUpInSequence past =
    (from : Side) (lcid : ℕ) (config : BearerConfig) → config_of lcid past ≡ Some config
    → config.kind ≡ Srb → is_forged past ≡ false
    → AreInSequence (submitted_since from lcid past) (delivered_since (other from) lcid past)
    (with_passings (passed_since lcid from past) nothing_told)

-- behind each group, of which the newest stands first
abbrev pub HandUpInSequence : List Group → Type 0
HandUpInSequence [] = Unit {0}
HandUpInSequence (g ∷ past) = AllHandUpInSequence (g ∷ past) × HandUpInSequence past
