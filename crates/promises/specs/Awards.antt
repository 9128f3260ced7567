-- The grants of the uplink, as the journal tells them, and when the terminal's visits are right by
-- them (TS 36.321 5.4.2).
use Rattle.std.specs.Prelude.{Bool, true, false, Option, Some, None, ℕ, List, ◌∷◌, []}
use Rattle.std.specs.Prelude.{if◌then◌else◌, ◌&&◌, not, ◌≡◌, is_some}
use Rattle.air_record.specs.declared.record.Arrived.{Arrived}
use Rattle.harq.specs.ReceiveHistory.{Told, Asked, awards, Skipped}
use Rattle.harq.specs.SendHistory.{is_odd, Deed, Waited, Built, Resent, held_by}
use Rattle.promises.specs.Heard.{Flight, deeds_of}
use Rattle.harq.specs.declared.sender.Order.{Order}
use Rattle.harq.specs.declared.sender.Order.TheVariants.{Silent, Unseen, Grant, Free}
use Rattle.harq.specs.Sending.{same}
use Rattle.air_record.specs.declared.record.Arrived.TheVariants as arriveds

-- ---- what came of it, at the receivers

-- what a grant brought: an intact block, a damaged one or nothing
abbrev pub grant_brought : Arrived → Option Bool
grant_brought arriveds.Got = Some true
grant_brought arriveds.Dup = Some true
grant_brought arriveds.Bad = Some false
grant_brought arriveds.Nothing = None

-- ---- grants

-- the NDI of a grant behind these visits: the parity of the awards with it
abbrev pub next_ndi : ℕ → List Told → Bool
next_ndi maximum past = is_odd (awards maximum (Asked false None ∷ past))

-- a visit had a grant exactly where something is told to have come of it
abbrev pub told_of_grant : ℕ → Option Arrived → List Told → Told
told_of_grant maximum None past = Skipped
told_of_grant maximum (Some what) past = Asked (next_ndi maximum past) (grant_brought what)

-- the visits of a process as the base station has them, the latest first
abbrev pub grants : ℕ → List Flight → List Told
grants maximum [] = []
grants maximum (f ∷ past) = told_of_grant maximum f.came (grants maximum past) ∷ grants maximum past

-- ---- the orders that the terminal sees

-- none, one that it misses, or one with its NDI
abbrev pub order_by : Option Arrived → Bool → Bool → Order
order_by None missed ndi = Silent
order_by (Some what) missed ndi = if missed then Unseen else Grant ndi

-- that of a visit behind others
abbrev pub order : ℕ → Flight → List Flight → Order
order maximum f past = order_by f.came f.missed (next_ndi maximum (grants maximum past))

-- the NDI of the last grant that it saw, 0 where it saw none
abbrev pub seen_by : Order → Bool → Bool
seen_by Silent before = before
seen_by Unseen before = before
seen_by Free before = before
seen_by (Grant ndi) before = ndi

abbrev pub last_seen : ℕ → List Flight → Bool
last_seen maximum [] = false
last_seen maximum (f ∷ past) = seen_by (order maximum f past) (last_seen maximum past)

-- ---- right visits

-- a block that is held is sent again, but by a grant with another NDI than the last one seen
abbrev pub resends : Order → Bool → Bool → Bool
resends Silent held last = false
resends Unseen held last = held
resends Free held last = held
resends (Grant ndi) held last = held && same ndi last

-- by a grant that is seen a new block is built where none is sent again
abbrev pub builds : Order → Bool → Bool → Bool
builds Silent held last = false
builds Unseen held last = false
builds Free held last = not held
builds (Grant ndi) held last = not (held && same ndi last)

abbrev pub is_resent : Deed → Bool
is_resent Waited = false
is_resent (Built octets good) = false
is_resent (Resent version octets good) = true

abbrev pub is_built : Deed → Bool
is_built Waited = false
is_built (Built octets good) = true
is_built (Resent version octets good) = false

-- so much is done at a visit, and nothing more
pub record IsVisit (order' : Order) (held last : Bool) (deed : Deed) : Type 0 where
  pub resent : is_resent deed ≡ resends order' held last
  pub built : is_built deed ≡ builds order' held last

-- each visit was right by those before it
abbrev pub AreVisits : ℕ → List Flight → Type 0
AreVisits maximum [] = Unit {0}
AreVisits maximum (f ∷ past) =
    IsVisit (order maximum f past) (is_some (held_by maximum (deeds_of past)))
    (last_seen maximum past) f.deed × AreVisits maximum past
