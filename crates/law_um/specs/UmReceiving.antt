-- An unacknowledged receiver beside the account of its flow (docs/laws/ACCOUNT.md; TS 36.322
-- 5.1.2.2, 5.4, 7.1). The receiver counts its numbers from twice UM_Window_Size up, so that none is
-- below 0.
use Rattle.std.specs.Prelude.{◌≡◌, ℕ, ◌+◌, ◌*◌, ◌%◌, Bool, true, ◌||◌, nat_lt}
use Rattle.std.specs.Prelude.{if◌then◌else◌, List, [], ◌∷◌, length, map, Option, Some, None}
use Rattle.rlc_pdu.specs.Pdus.{UmdPdu}
use Rattle.rlc_pdu.specs.declared.outcome.Expired.{Expired}
use Rattle.rlc_pdu.specs.declared.outcome.Expired.TheVariants.{Done, NotRunning}
use Rattle.rlc_um.specs.Joined.{Parts, parts_of}
use Rattle.rlc_um.specs.Window.{Window}
use Rattle.rlc_um.specs.Receiver.{State, start, arrival, turning, expired, expiring, counted}
use Rattle.rlc_um.specs.Receiver.{handed, all_joined}
use Rattle.journal_um.specs.declared.pieces.JoinedSdu.{JoinedSdu}
use Rattle.journal_um.specs.declared.pieces.Piece.{Piece}
use Rattle.journal_um.specs.UmEvents.{PduArrived, ReorderStarted, ReorderExpired}
use Rattle.journal_um.specs.UmJoiner.{UmJoiner}
use Rattle.journal_um.specs.UmWindow.{UmWindow}
use Rattle.journal_um.specs.UmFlow.{UmFlow, empty_flow, living, ended, sdu_taken}

-- ---- what is kept of a number

-- what a receiver keeps in the place of the octets of an SDU with a place
abbrev pub Likeness : Type 1
Likeness = List ℕ → List ℕ → ℕ → Type 0

-- these octets themselves
abbrev pub SameOctets : Likeness
SameOctets kept octets place = kept ≡ octets

-- An element is a piece: the first of a PDU begins an SDU or goes on with one, and each behind it
-- begins one; the last ends its SDU or doesn't, and each before it ends its own.
pub record IsPiece (like : Likeness) (begins ends : Bool) (kept : List ℕ) (p : Piece) : Type 0 where
  pub octets : like kept p.octets p.place
  pub begins_is : p.begins ≡ begins
  pub ends_is : p.ends ≡ ends

abbrev pub ArePieces : Likeness → Bool → Bool → List (List ℕ) → List Piece → Type 0
ArePieces like begins ends [] [] = Unit {0}
ArePieces like begins ends [] (p ∷ ps) = ⊥
ArePieces like begins ends (x ∷ xs) [] = ⊥
ArePieces like begins ends (x ∷ xs) (p ∷ ps) =
    IsPiece like begins (ends || nat_lt 0 (length xs)) x p × ArePieces like true ends xs ps

abbrev pub CarryAlike : Likeness → Parts → List Piece → Type 0
CarryAlike like p pieces = ArePieces like p.begins p.ends p.elements pieces

abbrev pub IsAlike : Likeness → Option Parts → Option (List Piece) → Type 0
IsAlike like None None = Unit {0}
IsAlike like None (Some pieces) = ⊥
IsAlike like (Some p) None = ⊥
IsAlike like (Some p) (Some pieces) = CarryAlike like p pieces

-- number by number
abbrev pub AreAlike : Likeness → List (Option Parts) → List (Option (List Piece)) → Type 0
AreAlike like [] [] = Unit {0}
AreAlike like [] (pdu ∷ pdus) = ⊥
AreAlike like (slot ∷ slots) [] = ⊥
AreAlike like (slot ∷ slots) (pdu ∷ pdus) = IsAlike like slot pdu × AreAlike like slots pdus

-- ---- the account

-- VR(UR), and what is kept from there on
pub record KeepsAlike (like : Likeness) (w : Window) (u : UmWindow) : Type 0 where
  pub width : w.width ≡ u.width
  pub edge : w.edge ≡ u.edge + 2 * u.width
  pub numbers : AreAlike like w.slots u.pdus

-- the SDU that is open, if one is
abbrev pub IsOpen : Likeness → Option (List ℕ) → Option (List ℕ) → Type 0
IsOpen like None None = Unit {0}
IsOpen like None (Some octets) = ⊥
IsOpen like (Some kept) None = ⊥
IsOpen like (Some kept) (Some octets) = (place : ℕ) × like kept octets place

-- the SDUs that a receiver has ready to go up, and what the account says of them
abbrev pub Handing : Type 1
Handing = List (List ℕ) → UmJoiner → Type 0

-- they are those of the account, in order
abbrev pub SameSdus : Handing
SameSdus ready u = ready ≡ map (λ (sdu : JoinedSdu). sdu.octets) u.ready

-- VR(UX), while t-Reordering runs
abbrev pub IsMark : Option ℕ → ℕ → ℕ → Type 0
IsMark None mark width = Unit {0}
IsMark (Some x) mark width = x ≡ mark + 2 * width

pub record IsBeside (like : Likeness) (hands : Handing) (s : State) (f : UmFlow) : Type 0 where
  pub window : KeepsAlike like s.window f.window
  pub part : IsOpen like s.joined.part f.joiner.part
  pub ready : hands s.joined.ready f.joiner
  pub mark : IsMark s.mark f.mark f.window.width

-- octet by octet
abbrev pub IsUmAccounted : State → UmFlow → Type 0
IsUmAccounted s f = IsBeside SameOctets SameSdus s f

-- ---- the laws

abbrev pub UmOutsetIsAccounted : Type 0
UmOutsetIsAccounted =
    (width reorder many : ℕ) → IsUmAccounted (start width reorder) (empty_flow width many)

-- t-Reordering starts
abbrev pub started : Bool → UmFlow → UmFlow
started starts f = if starts then living ReorderStarted f else f

-- a PDU comes with the SN of its number
abbrev pub UmArrivalsAreAccounted : Type 0
UmArrivalsAreAccounted =
    (s : State) (f : UmFlow) (pdu : UmdPdu) (number : ℕ) (pieces : List Piece)
    → pdu.sn ≡ number % (2 * f.window.width) → CarryAlike SameOctets (parts_of pdu) pieces
    → IsUmAccounted s f
    → IsUmAccounted (arrival pdu s)
    (started (turning pdu s).started (living (PduArrived number pieces) f))

-- t-Reordering expires, and starts again or not
abbrev pub expired_as : Expired → UmFlow → UmFlow
expired_as NotRunning f = f
expired_as (Done again) f = started again (living ReorderExpired f)

abbrev pub UmExpiriesAreAccounted : Type 0
UmExpiriesAreAccounted =
    (s : State) (f : UmFlow) → IsUmAccounted s f
    → IsUmAccounted (expired s) (expired_as (expiring s) f)

pub record HandsAlike (s : State) (f : UmFlow) : Type 0 where
  pub ticks : IsUmAccounted (counted s) f
  pub hands : IsUmAccounted (handed s) (sdu_taken f)

abbrev pub UmHandingIsAccounted : Type 0
UmHandingIsAccounted = (s : State) (f : UmFlow) → IsUmAccounted s f → HandsAlike s f

-- all that goes up has been taken
abbrev pub all_taken : UmFlow → UmFlow
all_taken f = record f { joiner = record f.joiner { ready = [] } }

pub record EndsAlike (s : State) (f : UmFlow) : Type 0 where
  pub up : SameSdus (all_joined s) (ended f).joiner
  pub begins : (reorder : ℕ) → IsUmAccounted (start f.window.width reorder) (all_taken (ended f))

abbrev pub UmLivesAreAccounted : Type 0
UmLivesAreAccounted = (s : State) (f : UmFlow) → IsUmAccounted s f → EndsAlike s f
