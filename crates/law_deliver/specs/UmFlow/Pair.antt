-- Both ends of an unacknowledged bearer in one life, and what is under way between them (TS 36.322
-- 4.2.1.2). HARQ may lose what is under way, bring it late, in another order, and more than once;
-- nothing else comes.
use Rattle.std.specs.Prelude.{ℕ, ◌+◌, ◌*◌, ◌<◌, List, [], ◌∷◌, map, length, Option, Some, None}
use Rattle.std.specs.Prelude.{slice_get}
use Rattle.std.specs.List.{AllByRecursion}
use Rattle.rlc_pdu.specs.declared.outcome.Taken.{Taken}
use Rattle.rlc_pdu.specs.declared.outcome.Taken.TheVariants as taken
use Rattle.rlc_um.specs.Window.{top_of}
use Rattle.rlc_um.specs.Receiver.{State as Receiver}
use Rattle.bearer.specs.declared.flow.Flow.{Flow}
use Rattle.bearer.specs.declared.flow.Flow.TheVariants.{Tm, Um, Am}
use Rattle.bearer.specs.Unacknowledged.State.{State}
use Rattle.bearer.specs.Unacknowledged.Taking.{answer}
use Rattle.law_bearer.specs.AnyBearer.Calls.{Call, Submit, Take, Arrive, Expire, Tick, SetDiscard}
use Rattle.law_bearer.specs.AnyBearer.Calls.{after}
use Rattle.law_bearer.specs.AnyBearer.Stream.{takes, pdu_of}
use Rattle.law_rlc.specs.AmPair.Flow.{Copy, copies_with, except}
use Rattle.law_rlc.specs.AmPair.Given.{IsHeld}
use Rattle.law_deliver.specs.Steps.{Ends, walked, AllGiven}

-- the bearer at an end, and the PDUs that it wrote and that may still come to the other end
pub record BearerEnd : Type 0 where
  pub bearer : State
  pub copies : List Copy

abbrev pub Pair : Type 0
Pair = Ends BearerEnd

-- ---- what may happen

-- at an end
pub data Deed : Type 0 where
  -- a call that brings no PDU
  Calls : Call → Deed
  -- what stands at a place of what the other end has under way comes, and is still under way
  Comes : ℕ → Deed
  -- of what this end has under way something is let go
  Goes : ℕ → Deed

pub data Step : Type 0 where
  Near : Deed → Step
  Far : Deed → Step

-- ---- a call

-- an unacknowledged bearer stays one
abbrev pub unacknowledged : State → Flow → State
unacknowledged b (Um d) = d
unacknowledged b (Tm d) = b
unacknowledged b (Am d) = b

abbrev pub called : State → Call → State
called b c = unacknowledged b (after (Um b) c)

-- the PDU that it writes
abbrev pub written_by : State → Call → Taken
written_by b (Submit sdu) = taken.Idle
written_by b (Take share held) = answer b share held
written_by b (Arrive pdu) = taken.Idle
written_by b (Expire clock) = taken.Idle
written_by b Tick = taken.Idle
written_by b (SetDiscard ttis) = taken.Idle

abbrev pub calls : BearerEnd → Call → BearerEnd
calls e c = record {
  bearer = called e.bearer c;
  copies = copies_with (written_by e.bearer c) e.copies;
}

-- ---- any steps

abbrev pub comes : BearerEnd → Option Copy → BearerEnd
comes e None = e
comes e (Some c) = record e { bearer = called e.bearer (Arrive c.octets) }

-- at an end, by what the other has under way
abbrev pub does : BearerEnd → BearerEnd → Deed → BearerEnd
does other e (Calls c) = calls e c
does other e (Comes k) = comes e (slice_get other.copies k)
does other e (Goes k) = record e { copies = except k e.copies }

abbrev pub happens : Pair → Step → Pair
happens p (Near d) = record p { near = does p.far p.near d }
happens p (Far d) = record p { far = does p.near p.far d }

abbrev pub goes : List Step → Pair → Pair
goes ss p = walked happens ss p

abbrev pub begins : State → BearerEnd
begins b = record { bearer = b; copies = [] }

abbrev pub um_pair_outset : State → State → Pair
um_pair_outset near far = record { near = begins near; far = begins far }

-- ---- what is asked of them

abbrev pub HasOctet : List ℕ → Type 0
HasOctet pdu = 0 < length pdu

-- a PDU of PDCP has an octet; and `take` is told the lowest number under way, or a lower one
pub record IsTaking (e : BearerEnd) (share : ℕ) (held : Option ℕ) : Type 0 where
  pub some : AllByRecursion HasOctet
      (map (pdu_of e.bearer.pdcp.tx) (takes (Um e.bearer) (Take share held)))
  pub lowest : AllByRecursion (IsHeld held) e.copies

abbrev pub IsCalling : BearerEnd → Call → Type 0
IsCalling e (Submit sdu) = Unit {0}
IsCalling e (Take share held) = IsTaking e share held
IsCalling e (Arrive pdu) = ⊥
IsCalling e (Expire clock) = Unit {0}
IsCalling e Tick = Unit {0}
IsCalling e (SetDiscard ttis) = Unit {0}

abbrev pub IsDone : BearerEnd → Deed → Type 0
IsDone e (Calls c) = IsCalling e c
IsDone e (Comes k) = Unit {0}
IsDone e (Goes k) = Unit {0}

abbrev pub IsGiven : Pair → Step → Type 0
IsGiven p (Near d) = IsDone p.near d
IsGiven p (Far d) = IsDone p.far d

abbrev pub AreGiven : Pair → List Step → Type 0
AreGiven p ss = AllGiven happens IsGiven p ss

-- ---- losses are short

-- the number of a PDU that comes lies below VR(UH) and a window; the numbers of a receiver are
-- counted from twice the window up
abbrev pub IsNear : Receiver → Option Copy → Type 0
IsNear r None = Unit {0}
IsNear r (Some c) = 2 * r.window.width + c.number < top_of r.window + r.window.width

abbrev pub IsShort : BearerEnd → BearerEnd → Deed → Type 0
IsShort other e (Calls c) = Unit {0}
IsShort other e (Comes k) = IsNear e.bearer.rx (slice_get other.copies k)
IsShort other e (Goes k) = Unit {0}

-- from the near end to the far one
abbrev pub AreShortThere : Pair → List Step → Type 0
AreShortThere p [] = Unit {0}
AreShortThere p (Near d ∷ ss) = AreShortThere (happens p (Near d)) ss
AreShortThere p (Far d ∷ ss) = IsShort p.near p.far d × AreShortThere (happens p (Far d)) ss

-- and back
abbrev pub AreShortBack : Pair → List Step → Type 0
AreShortBack p [] = Unit {0}
AreShortBack p (Near d ∷ ss) = IsShort p.far p.near d × AreShortBack (happens p (Near d)) ss
AreShortBack p (Far d ∷ ss) = AreShortBack (happens p (Far d)) ss
