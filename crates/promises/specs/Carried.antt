-- What the HARQ processes did, as the journal tells it, and when that is right (TS 36.321 5.3.2,
-- 5.4.2).
use Rattle.std.specs.Prelude.{◌≡◌, ℕ, None, List, [], ◌∷◌, Bool, true, false, Option, Some, ◌<◌}
use Rattle.harq.specs.SendHistory.{Deed, Waited, Built, Resent, held_by, blocks, is_odd}
use Rattle.harq.specs.SendHistory.{IsRight as AreResent}
use Rattle.air_record.specs.declared.record.Arrived.{Arrived}
use Rattle.harq.specs.ReceiveHistory.{Heard as Seen, AreAnsweredRight}
use Rattle.promises.specs.Heard.{Flight, deeds_of, flights, deeds, visits}
use Rattle.air_text.specs.Groups.{Group}
use Rattle.mac_pdu.specs.declared.item.Direction.TheVariants.{Down, Up}
use Rattle.promises.specs.Awards.{AreVisits}
use Rattle.air_record.specs.declared.record.Arrived.TheVariants as arriveds
use Rattle.harq.specs.declared.receiver.Answer.TheVariants as answers

-- ---- right deeds

-- on the downlink a new block is built only where none is held: up to a good feedback or the last
-- of its visits it is sent again
abbrev pub AreBuilt : ℕ → List Deed → Type 0
AreBuilt maximum [] = Unit {0}
AreBuilt maximum (Waited ∷ past) = AreBuilt maximum past
AreBuilt maximum (Built octets good ∷ past) = (held_by maximum past ≡ None) × AreBuilt maximum past
AreBuilt maximum (Resent version octets good ∷ past) = AreBuilt maximum past

-- ---- right answers

-- what the terminal saw: a block with this NDI, with its answer; one that it missed it didn't see
abbrev pub seen_as : Option Arrived → Bool → List Seen → List Seen
seen_as (Some arriveds.Got) ndi past = record { ndi = ndi; good = true; answer = answers.Up } ∷ past
seen_as (Some arriveds.Dup) ndi past =
    record { ndi = ndi; good = true; answer = answers.Again } ∷ past
seen_as (Some arriveds.Bad) ndi past =
    record { ndi = ndi; good = false; answer = answers.Damaged } ∷ past
seen_as (Some arriveds.Nothing) ndi past = past
seen_as None ndi past = past

-- the NDI of a block is the parity of the new blocks up to it
abbrev pub seen : List Flight → List Seen
seen [] = []
seen (f ∷ past) = seen_as f.came (is_odd (blocks (f.deed ∷ deeds_of past))) (seen past)

-- what is sent again has the octets of the last new block, and the versions 0, 2, 3 and 1 in turn;
-- an intact downlink block is a `dup` exactly where one with its NDI was `got` and the terminal saw
-- none with the other NDI since; on the uplink the terminal builds or sends again exactly where it
-- should
pub record IsCarried (past : List Group) : Type 0 where
  pub down_resent : (p : ℕ) → p < 8 → AreResent (visits past) (deeds Down p past)
  pub down_built : (p : ℕ) → p < 8 → AreBuilt (visits past) (deeds Down p past)
  pub down_answered : (p : ℕ) → p < 8 → AreAnsweredRight (seen (flights Down p past))
  pub up_resent : (p : ℕ) → p < 8 → AreResent (visits past) (deeds Up p past)
  pub up_visits : (p : ℕ) → p < 8 → AreVisits (visits past) (flights Up p past)

-- behind each group, of which the newest stands first, so in every life
abbrev pub AreCarried : List Group → Type 0
AreCarried [] = Unit {0}
AreCarried (g ∷ past) = IsCarried (g ∷ past) × AreCarried past
