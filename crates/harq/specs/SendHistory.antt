-- What a sender's processes do over any list of visits and resets, told by what they sent
-- (TS 36.321 5.3.2, 5.4.2).
use Rattle.std.specs.Prelude.{◌≡◌, ℕ, zero, suc, ◌+◌, ◌%◌, ◌<◌, nat_le, ◌==◌, Bool, true, false}
use Rattle.std.specs.Prelude.{not, ◌||◌, if◌then◌else◌, Option, Some, None, unwrap_or, List, []}
use Rattle.std.specs.Prelude.{◌∷◌}
use Rattle.harq.specs.declared.sender.Order.{Order}
use Rattle.harq.specs.declared.sender.Order.TheVariants.{Silent, Unseen, Free, Grant}
use Rattle.harq.specs.declared.sender.Visit.{Visit}
use Rattle.harq.specs.declared.sender.Visit.TheVariants.{New, Resend, Silent as Nothing}
use Rattle.harq.specs.Sending.{Sending, fresh, after_visit, visit_answer, after_load}
use Rattle.harq.specs.Sending.{after_feedback, held_of, ndi_of, version_of}

-- a visit with what follows it: the block that is loaded where a new one is wanted, and the
-- feedback on what is sent
pub record Turn : Type 0 where
  pub tti : ℕ
  pub order : Order
  pub octets : List ℕ
  pub good : Bool

pub data Step : Type 0 where
  Visited : (turn : Turn) → Step
  Cleared : Step

-- what a process did at a visit, with the feedback that it read
pub data Deed : Type 0 where
  Waited : Deed
  Built : (octets : List ℕ) → (good : Bool) → Deed
  Resent : (version : ℕ) → (octets : List ℕ) → (good : Bool) → Deed

-- a sender, and for each process its deeds since the last reset, the latest first
pub record World : Type 0 where
  pub sender : Sending
  pub past : ℕ → List Deed

-- ---- the calls of a turn

-- those that follow a visit with this answer
abbrev pub closed : Visit → Turn → Sending → Sending
closed New t s = after_feedback (after_load s t.tti t.octets) t.tti t.good
closed (Resend version) t s = after_feedback s t.tti t.good
closed Nothing t s = s

abbrev pub turned : Turn → Sending → Sending
turned t s = closed (visit_answer s t.tti t.order) t (after_visit s t.tti t.order)

-- the deed: what is sent again is what the process holds
abbrev pub deed_by : Visit → Turn → Option (List ℕ) → Deed
deed_by New t held = Built t.octets t.good
deed_by (Resend version) t held = Resent version (unwrap_or held []) t.good
deed_by Nothing t held = Waited

abbrev pub deed : Turn → Sending → Deed
deed t s =
    deed_by (visit_answer s t.tti t.order) t (held_of (after_visit s t.tti t.order) (t.tti % 8))

abbrev pub stepped : World → Step → World
stepped w (Visited t) = record {
  sender = turned t w.sender;
  past = λ p. if p == t.tti % 8 then deed t w.sender ∷ w.past p else w.past p;
}
stepped w Cleared = record { sender = fresh w.sender.maximum; past = λ p. [] }

abbrev pub world_after : List Step → World → World
world_after [] w = w
world_after (s ∷ ss) w = world_after ss (stepped w s)

abbrev pub start : ℕ → World
start maximum = record { sender = fresh maximum; past = λ p. [] }

-- ---- what the deeds of a process tell

-- its last new block
abbrev pub last_block : List Deed → Option (List ℕ)
last_block [] = None
last_block (Waited ∷ past) = last_block past
last_block (Built octets good ∷ past) = Some octets
last_block (Resent version octets good ∷ past) = last_block past

-- how often that block was sent
abbrev pub sendings : List Deed → ℕ
sendings [] = 0
sendings (Waited ∷ past) = sendings past
sendings (Built octets good ∷ past) = 1
sendings (Resent version octets good ∷ past) = sendings past + 1

-- its visits, that of its building counted
abbrev pub visits : List Deed → ℕ
visits [] = 0
visits (Waited ∷ past) = visits past + 1
visits (Built octets good ∷ past) = 1
visits (Resent version octets good ∷ past) = visits past + 1

-- whether a feedback on it was good
abbrev pub is_acked : List Deed → Bool
is_acked [] = false
is_acked (Waited ∷ past) = is_acked past
is_acked (Built octets good ∷ past) = good
is_acked (Resent version octets good ∷ past) = good || is_acked past

-- the number of new blocks
abbrev pub blocks : List Deed → ℕ
blocks [] = 0
blocks (Waited ∷ past) = blocks past
blocks (Built octets good ∷ past) = suc (blocks past)
blocks (Resent version octets good ∷ past) = blocks past

-- a process holds its last new block until it is acknowledged or its visits have ended
abbrev pub held_by : ℕ → List Deed → Option (List ℕ)
held_by maximum past = if is_acked past || nat_le maximum (visits past) then None
    else last_block past

-- a sending is right after this past: it is a further one of the block, with the next version and
-- the same octets, while visits are left
pub record IsResending (maximum version : ℕ) (octets : List ℕ) (past : List Deed) : Type 0 where
  pub version_is : version ≡ version_of (sendings past % 4)
  pub same_octets : last_block past ≡ Some octets
  pub has_visit : visits past < maximum
  pub is_unacked : is_acked past ≡ false

-- each sending of the past was right
abbrev pub IsRight : ℕ → List Deed → Type 0
IsRight maximum [] = Unit {0}
IsRight maximum (Waited ∷ past) = IsRight maximum past
IsRight maximum (Built octets good ∷ past) = IsRight maximum past
IsRight maximum (Resent version octets good ∷ past) =
    IsResending maximum version octets past × IsRight maximum past

pub record KeepsBlocks (w : World) : Type 0 where
  pub holds : (p : ℕ) → p < 8 → held_of w.sender p ≡ held_by w.sender.maximum (w.past p)
  pub is_right : (p : ℕ) → p < 8 → IsRight w.sender.maximum (w.past p)

-- ---- the NDI of the downlink

abbrev pub is_odd : ℕ → Bool
is_odd zero = false
is_odd (suc n) = not (is_odd n)

-- the orders of the downlink
abbrev pub is_down : Order → Bool
is_down Silent = true
is_down Unseen = false
is_down Free = true
is_down (Grant ndi) = false

abbrev pub are_down : List Step → Bool
are_down [] = true
are_down (Visited t ∷ ss) = if is_down t.order then are_down ss else false
are_down (Cleared ∷ ss) = are_down ss

-- the NDI of each process is the parity of its new blocks
abbrev pub CountsBlocks : World → Type 0
CountsBlocks w = (p : ℕ) → p < 8 → ndi_of w.sender p ≡ is_odd (blocks (w.past p))
