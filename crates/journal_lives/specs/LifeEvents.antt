-- What happens to acknowledged data in one direction through its lives, and which COUNTs have come
-- (TS 36.322 5.1.3.2, 5.4, TS 36.323 5.1.2.1.2, 5.2).
use Rattle.std.specs.Prelude.{ℕ, ◌+◌, ◌<◌, ◌^◌, ◌==◌, Bool, false, ◌||◌, ◌&&◌, List, [], ◌∷◌, ◌++◌}
use Rattle.std.specs.Prelude.{Option, Some, None}
use Rattle.journal_account.specs.FlowEvents.{FlowEvent, SduTaken, IsPossible}
use Rattle.journal_account.specs.Stream.{is_in_sequence, is_whole_sdu}

pub data LifeEvent : Type 0 where
  -- RLC takes a PDU of PDCP of so many octets: an SDU's, with its COUNT, or a status report
  PduGiven : Option ℕ → ℕ → LifeEvent
  -- another event of the flow in the life that runs
  InLife : FlowEvent → LifeEvent
  -- the life ends, and the next one begins
  LifeEnded : LifeEvent

-- A history lists the events of all lives so far, the latest first.

-- the history of the life that runs
abbrev pub running : List LifeEvent → List FlowEvent
running [] = []
running (PduGiven count size ∷ es) = SduTaken size ∷ running es
running (InLife e ∷ es) = e ∷ running es
running (LifeEnded ∷ es) = []

-- the COUNTs of the PDUs that it was given, the first one first
abbrev pub counts_in : List LifeEvent → List (Option ℕ)
counts_in [] = []
counts_in (PduGiven count size ∷ es) = counts_in es ++ count ∷ []
counts_in (InLife e ∷ es) = counts_in es
counts_in (LifeEnded ∷ es) = []

abbrev pub is_count : Option ℕ → ℕ → Bool
is_count None count = false
is_count (Some own) count = own == count

-- of PDUs from number k on, one that passes has the COUNT
abbrev pub passes_with : (ℕ → Bool) → ℕ → List (Option ℕ) → ℕ → Bool
passes_with p k [] count = false
passes_with p k (own ∷ owns) count =
    (p k && is_count own count) || passes_with p (k + 1) owns count

-- whole as an earlier life ended
abbrev pub came_before : List LifeEvent → ℕ → Bool
came_before [] count = false
came_before (PduGiven own size ∷ es) count = came_before es count
came_before (InLife e ∷ es) count = came_before es count
came_before (LifeEnded ∷ es) count =
    came_before es count || passes_with (is_whole_sdu (running es)) 0 (counts_in es) count

-- a COUNT has come: its PDU was whole as an earlier life ended, or is in sequence in the one that
-- runs
abbrev pub count_came : List LifeEvent → ℕ → Bool
count_came es count =
    came_before es count || passes_with (is_in_sequence (running es)) 0 (counts_in es) count

-- COUNTs have 32 bits, and each life is a history of its flow
abbrev pub IsCountOf : Option ℕ → Type 0
IsCountOf None = Unit {0}
IsCountOf (Some count) = count < 2 ^ 32

abbrev pub IsGiven : FlowEvent → Type 0
IsGiven (SduTaken size) = ⊥
IsGiven e = Unit {0}

abbrev pub IsPossibleLife : LifeEvent → List LifeEvent → Type 0
IsPossibleLife (PduGiven count size) es = IsCountOf count
IsPossibleLife (InLife e) es = IsGiven e × IsPossible e (running es)
IsPossibleLife LifeEnded es = Unit {0}

abbrev pub AreLives : List LifeEvent → Type 0
AreLives [] = Unit {0}
AreLives (e ∷ es) = IsPossibleLife e es × AreLives es
