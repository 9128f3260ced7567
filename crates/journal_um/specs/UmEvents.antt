-- What happens to an unacknowledged flow at its receiver, as a journal tells it
-- (docs/laws/ACCOUNT.md; TS 36.322 5.1.2.2, 5.4).
use Rattle.std.specs.Prelude.{ℕ, List, [], ◌∷◌}
use Rattle.journal_um.specs.declared.pieces.Piece.{Piece}

-- Numbers are true numbers, counted from 0 in a life. A PDU has only their last bits, its SN.
pub data UmEvent : Type 0 where
  -- a UMD PDU comes, with its number and its pieces, one behind the other (5.1.2.2.2)
  PduArrived : ℕ → List Piece → UmEvent
  -- t-Reordering starts, and expires (5.1.2.2.3, 5.1.2.2.4)
  ReorderStarted : UmEvent
  ReorderExpired : UmEvent

pub data UmLifeEvent : Type 0 where
  InLife : UmEvent → UmLifeEvent
  -- the life ends, and the next one begins (5.4)
  LifeEnded : UmLifeEvent

-- A history lists the events so far, the latest first: of a life, or of all lives.

-- the history of the life that runs
abbrev pub running : List UmLifeEvent → List UmEvent
running [] = []
running (InLife e ∷ es) = e ∷ running es
running (LifeEnded ∷ es) = []
