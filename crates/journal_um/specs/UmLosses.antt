-- Whether losses of an unacknowledged flow were long, by its history: an SN no longer tells the
-- true number of a PDU (TS 36.322 5.1.2.2, 7.1), or the COUNT of an SDU (TS 36.323 5.1.2.1.3).
use Rattle.std.specs.Prelude.{ℕ, ◌+◌, ◌≤◌, Bool, false, ◌||◌, nat_le, max, List, [], ◌∷◌}
use Rattle.journal_um.specs.declared.pieces.JoinedSdu.{JoinedSdu}
use Rattle.journal_um.specs.UmEvents.{UmEvent, PduArrived, ReorderStarted, ReorderExpired}
use Rattle.journal_um.specs.UmEvents.{UmLifeEvent, InLife, LifeEnded, running}
use Rattle.journal_um.specs.UmNumbers.{top_in}
use Rattle.journal_um.specs.UmSdus.{joined_in, all_joined_in}

-- an event's number stands W or more above VR(UH): it isn't read truly
abbrev pub is_far : ℕ → ℕ → UmEvent → Bool
is_far width top (PduArrived number pieces) = nat_le (top + width) number
is_far width top other = false

-- one came so in the life
abbrev pub far_came : ℕ → List UmEvent → Bool
far_came width [] = false
far_came width (e ∷ es) = far_came width es || is_far width (top_in width es) e

-- so many places or more are left out before one of these SDUs, from `next` on or behind the one
-- before it
abbrev pub leaves_out : ℕ → ℕ → List JoinedSdu → Bool
leaves_out many next [] = false
leaves_out many next (sdu ∷ sdus) =
    nat_le (next + many) sdu.place || leaves_out many (sdu.place + 1) sdus

-- losses were long in the lives that have ended, where PDCP has so many SNs
abbrev pub was_long : ℕ → ℕ → List UmLifeEvent → Bool
was_long width many [] = false
was_long width many (InLife e ∷ es) = was_long width many es
was_long width many (LifeEnded ∷ es) = was_long width many es
    || (far_came width (running es) || leaves_out many 0 (all_joined_in width (running es)))

-- or in the one that runs
abbrev pub is_long_in : ℕ → ℕ → List UmLifeEvent → Bool
is_long_in width many es = was_long width many es
    || (far_came width (running es) || leaves_out many 0 (joined_in width (running es)))

-- ---- PDUs that don't come late

-- one above the greatest true number that has come, or 0
abbrev pub number_behind : UmEvent → ℕ
number_behind (PduArrived number pieces) = number + 1
number_behind other = 0

abbrev pub highest_in : List UmEvent → ℕ
highest_in [] = 0
highest_in (e ∷ es) = max (highest_in es) (number_behind e)

-- no PDU comes behind one whose number is W or more above its own: a sender sees to it that writes
-- no such number while one is still under way
abbrev pub IsInTime : ℕ → UmEvent → List UmEvent → Type 0
IsInTime width (PduArrived number pieces) es = highest_in es ≤ number + width
IsInTime width ReorderStarted es = Unit {0}
IsInTime width ReorderExpired es = Unit {0}

abbrev pub ComeInTime : ℕ → List UmEvent → Type 0
ComeInTime width [] = Unit {0}
ComeInTime width (e ∷ es) = IsInTime width e es × ComeInTime width es
