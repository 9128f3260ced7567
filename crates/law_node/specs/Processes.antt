-- The HARQ processes of an end as they send (TS 36.321 5.3.2, 5.4.2).
use Rattle.std.specs.Prelude.{ℕ, ◌≤◌, ◌%◌, ◌==◌, if◌then◌else◌, Bool, List, [], ◌∷◌}
use Rattle.harq.specs.SendHistory.{Turn as SenderTurn, Deed, World, deed, KeepsBlocks}
use Rattle.l2_types.specs.declared.side.Side.{Side}
use Rattle.l2_node.specs.Building.{visited}
use Rattle.l2_node.specs.End.{End}
use Rattle.l2_node.specs.Writing.{new_block}
use Rattle.law_node.specs.Calls.{Turn, Call, AreGiven}
use Rattle.law_node.specs.Watching.{Doing, Turns, Empties, Rests, Watched, watched}

-- a visit at HARQ's sender: a new block is what the bearers write by the grant
abbrev pub sender_turn : End → Turn → SenderTurn
sender_turn e t = record {
  tti = t.tti;
  order = t.order;
  octets = new_block (visited t.tti t.order e) t.grant;
  good = t.good;
}

-- for each process, what it did at its visits since the processes were last emptied, the latest
-- first
abbrev pub Deeds : Type 0
Deeds = ℕ → List Deed

abbrev pub no_deeds : Deeds
no_deeds = λ p. []

abbrev pub with_deed : ℕ → Deed → Deeds → Deeds
with_deed process d past = λ p. if p == process then d ∷ past p else past p

abbrev pub deeds_after : End → Doing → Deeds → Deeds
deeds_after e (Turns t) past = with_deed (t.tti % 8) (deed (sender_turn e t) e.sender) past
deeds_after e Empties past = no_deeds
deeds_after e Rests past = past

-- HARQ's sender with that past
abbrev pub sending : Watched Deeds → World
sending w = record { sender = w.end.sender; past = w.past }

-- A process holds its last new block until a good feedback or its last visit; each sending of it
-- has the same octets, and the versions are 0, 2, 3, 1 in turn.
abbrev pub ResendsWhatWasBuilt : Type 0
ResendsWhatWasBuilt = (side : Side) (maximum : ℕ) (reports : Bool) (calls : List Call)
    → 1 ≤ maximum → AreGiven calls
    → KeepsBlocks (sending (watched deeds_after no_deeds side maximum reports calls))
