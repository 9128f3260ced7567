-- What a receiver's processes answer over any list of calls, told by what came (TS 36.321 5.3.2,
-- 5.4.2).
use Rattle.std.specs.Prelude.{◌≡◌, ℕ, suc, ◌+◌, ◌%◌, ◌<◌, ◌≤◌, nat_lt, ◌==◌, Bool, false, not, ◌||◌}
use Rattle.std.specs.Prelude.{◌&&◌, if◌then◌else◌, Option, Some, None, List, [], ◌∷◌}
use Rattle.harq.specs.declared.receiver.Answer.{Answer}
use Rattle.harq.specs.declared.receiver.Answer.TheVariants.{Up, Again, Damaged}
use Rattle.harq.specs.Sending.{same}
use Rattle.harq.specs.SendHistory.{is_odd}
use Rattle.harq.specs.Receiving.{Receiving, fresh, after_assigned, assigned_answer, after_grant}
use Rattle.harq.specs.Receiving.{grant_ndi, after_granted, after_pass}

-- ---- the downlink

-- a block that is seen
pub record Block : Type 0 where
  pub tti : ℕ
  pub ndi : Bool
  pub good : Bool

pub data DownStep : Type 0 where
  Came : (block : Block) → DownStep
  Cleared : DownStep

-- a block that was seen, with the answer
pub record Heard : Type 0 where
  pub ndi : Bool
  pub good : Bool
  pub answer : Answer

-- a receiver, and for each process what it heard since the last reset, the latest first
pub record DownWorld : Type 0 where
  pub receiver : Receiving
  pub past : ℕ → List Heard

abbrev pub heard : Block → Receiving → Heard
heard b r = record { ndi = b.ndi; good = b.good; answer = assigned_answer r b.tti b.ndi b.good }

abbrev pub down_stepped : DownWorld → DownStep → DownWorld
down_stepped w (Came b) =
    record {
      receiver = after_assigned w.receiver b.tti b.ndi b.good;
      past = λ p. if p == b.tti % 8 then heard b w.receiver ∷ w.past p else w.past p;
    }
down_stepped w Cleared = record { receiver = fresh w.receiver.maximum; past = λ p. [] }

abbrev pub down_run : List DownStep → DownWorld → DownWorld
down_run [] w = w
down_run (s ∷ ss) w = down_run ss (down_stepped w s)

abbrev pub down_start : ℕ → DownWorld
down_start maximum = record { receiver = fresh maximum; past = λ p. [] }

-- whether a block with this NDI came intact, and no other NDI was seen since
abbrev pub has_decoded : Bool → List Heard → Bool
has_decoded ndi [] = false
has_decoded ndi (h ∷ past) = if same ndi h.ndi then h.good || has_decoded ndi past else false

-- the answer to a block: an intact one is handed up, unless one was with its NDI and no other NDI
-- seen since
abbrev pub right_answer : Bool → Bool → List Heard → Answer
right_answer ndi good past = if good then (if has_decoded ndi past then Again else Up) else Damaged

abbrev pub AreAnsweredRight : List Heard → Type 0
AreAnsweredRight [] = Unit {0}
AreAnsweredRight (h ∷ past) = (h.answer ≡ right_answer h.ndi h.good past) × AreAnsweredRight past

abbrev pub AnswersRight : DownWorld → Type 0
AnswersRight w = (p : ℕ) → p < 8 → AreAnsweredRight (w.past p)

-- ---- the uplink

-- a visit that is granted, with what it brought, or one that isn't
pub data UpStep : Type 0 where
  Granted : (tti : ℕ) → (good : Option Bool) → UpStep
  Passed : (tti : ℕ) → UpStep
  Reset : UpStep

-- what was told at a visit: the grant's NDI and what it brought, or no grant
pub data Told : Type 0 where
  Asked : (ndi : Bool) → (good : Option Bool) → Told
  Skipped : Told

pub record UpWorld : Type 0 where
  pub receiver : Receiving
  pub past : ℕ → List Told

abbrev pub with_told : ℕ → Told → (ℕ → List Told) → ℕ → List Told
with_told tti told past p = if p == tti % 8 then told ∷ past p else past p

abbrev pub up_stepped : UpWorld → UpStep → UpWorld
up_stepped w (Granted tti good) =
    record {
      receiver = after_granted (after_grant w.receiver tti) tti good;
      past = with_told tti (Asked (grant_ndi w.receiver tti) good) w.past;
    }
up_stepped w (Passed tti) =
    record { receiver = after_pass w.receiver tti; past = with_told tti Skipped w.past }
up_stepped w Reset = record { receiver = fresh w.receiver.maximum; past = λ p. [] }

abbrev pub up_run : List UpStep → UpWorld → UpWorld
up_run [] w = w
up_run (s ∷ ss) w = up_run ss (up_stepped w s)

abbrev pub up_start : ℕ → UpWorld
up_start maximum = record { receiver = fresh maximum; past = λ p. [] }

abbrev pub is_intact : Option Bool → Bool
is_intact None = false
is_intact (Some good) = good

-- the visits since the last award, its own counted, 0 where its block came or its visits have
-- ended: a grant after none is awaited is an award
abbrev pub since_award : ℕ → List Told → ℕ
since_award maximum [] = 0
since_award maximum (Asked ndi good ∷ past) =
    if is_intact good || not (nat_lt (since_award maximum past + 1) maximum) then 0
    else since_award maximum past + 1
since_award maximum (Skipped ∷ past) =
    if since_award maximum past == 0 || not (nat_lt (since_award maximum past + 1) maximum) then 0
    else since_award maximum past + 1

-- the number of awards
abbrev pub awards : ℕ → List Told → ℕ
awards maximum [] = 0
awards maximum (Asked ndi good ∷ past) =
    if since_award maximum past == 0 then suc (awards maximum past) else awards maximum past
awards maximum (Skipped ∷ past) = awards maximum past

-- each grant's NDI is the parity of the awards with it
abbrev pub AreGrantedRight : ℕ → List Told → Type 0
AreGrantedRight maximum [] = Unit {0}
AreGrantedRight maximum (Asked ndi good ∷ past) =
    (ndi ≡ is_odd (awards maximum (Asked ndi good ∷ past))) × AreGrantedRight maximum past
AreGrantedRight maximum (Skipped ∷ past) = AreGrantedRight maximum past

abbrev pub GrantsRight : UpWorld → Type 0
GrantsRight w = (p : ℕ) → p < 8 → AreGrantedRight w.receiver.maximum (w.past p)

-- ---- blocks with numbers of their own

-- an arrival of the block with this number, whose NDI is the number's parity
pub record Arrival : Type 0 where
  pub number : ℕ
  pub good : Bool

-- what a process that answers right heard of arrivals, the latest first
abbrev pub heard_of : List Arrival → List Heard
heard_of [] = []
heard_of (a ∷ past) = record {
  ndi = is_odd a.number;
  good = a.good;
  answer = right_answer (is_odd a.number) a.good (heard_of past);
} ∷ heard_of past

-- numbers never fall, and no block is wholly unseen between the last arrival and one with this
-- number
abbrev pub Follows : ℕ → List Arrival → Type 0
Follows number [] = Unit {0}
Follows number (a ∷ past) = (a.number ≤ number) × (number ≤ a.number + 1) × Follows a.number past

-- an arrival of this number was intact
abbrev pub came_intact : ℕ → List Arrival → Bool
came_intact number [] = false
came_intact number (a ∷ past) = ((a.number == number) && a.good) || came_intact number past

-- a block is handed up at its first intact arrival, and told apart at each further one
abbrev pub once_answer : ℕ → Bool → List Arrival → Answer
once_answer number good past = if good then (if came_intact number past then Again else Up)
    else Damaged
