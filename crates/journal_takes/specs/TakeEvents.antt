-- What happens to acknowledged data in one direction at its PDCP sender, through its lives, and
-- what that says of its SDUs and COUNTs (docs/laws/ACCOUNT.md; TS 36.323 5.1.1, 5.2.1.1, 5.3, 5.4).
use Rattle.std.specs.Prelude.{ℕ, ◌+◌, ◌-◌, ◌==◌, Bool, false, ◌||◌, ◌&&◌, nat_lt, List, [], ◌∷◌}
use Rattle.std.specs.Prelude.{◌++◌, take, drop, max, Option, slice_get}
use Rattle.std.specs.List.{list_any}

-- COUNTs are whole numbers, HFN and SN together (6.3.5).
pub data TakeEvent : Type 0 where
  -- upper layers submit an SDU of these octets, and the first that waits is discarded (5.1.1, 5.4)
  SduSubmitted : List ℕ → TakeEvent
  SduDiscarded : TakeEvent
  -- RLC takes the PDU of a COUNT, and the status report (5.1.1, 5.2.1.1, 5.3.1)
  PduTaken : ℕ → TakeEvent
  ReportTaken : TakeEvent
  -- RLC confirms that the PDU of a COUNT has come, and that the report has (TS 36.322 5.1.3.1.1)
  PduConfirmed : ℕ → TakeEvent
  ReportConfirmed : TakeEvent
  -- a status report of the other end comes: the COUNT of its FMS, and those above it that its
  -- bitmap marks (5.3.2, 6.2.6)
  ReportHeard : ℕ → List ℕ → TakeEvent
  -- lower layers are re-established, and the next life begins with a status report or without one
  -- (5.2.1.1, 5.3.1)
  LifeEnded : Bool → TakeEvent

-- A history lists the events of all lives so far, the latest first.

-- the next new COUNT: one above the greatest that was taken, or the first
abbrev pub next_new : ℕ → List TakeEvent → ℕ
next_new first [] = first
next_new first (PduTaken count ∷ es) = max (next_new first es) (count + 1)
next_new first (e ∷ es) = next_new first es

-- ---- SDUs

abbrev pub without : ℕ → List (List ℕ) → List (List ℕ)
without at sdus = take at sdus ++ drop (at + 1) sdus

-- the SDUs that were submitted and not discarded, the first one first: one for each COUNT from the
-- first on below the next new one, and behind these those that wait
abbrev pub kept : ℕ → List TakeEvent → List (List ℕ)
kept first [] = []
kept first (SduSubmitted octets ∷ es) = kept first es ++ octets ∷ []
kept first (SduDiscarded ∷ es) = without (next_new first es - first) (kept first es)
kept first (e ∷ es) = kept first es

-- the SDU of a COUNT from the first on
abbrev pub sdu_of : ℕ → List TakeEvent → ℕ → Option (List ℕ)
sdu_of first es count = slice_get (kept first es) (count - first)

-- ---- COUNTs

abbrev pub has_count : List ℕ → ℕ → Bool
has_count counts count = list_any (λ (own : ℕ). own == count) counts

-- a status report reports the COUNTs below its FMS, and those that it marks, of those taken (5.3.2)
abbrev pub reports : ℕ → TakeEvent → List TakeEvent → ℕ → Bool
reports first (ReportHeard fms marks) es count =
    nat_lt count (next_new first es) && (nat_lt count fms || has_count marks count)
reports first e es count = false

abbrev pub is_reported : ℕ → List TakeEvent → ℕ → Bool
is_reported first [] count = false
is_reported first (e ∷ es) count = reports first e es count || is_reported first es count

abbrev pub delivers : TakeEvent → ℕ → Bool
delivers (PduConfirmed own) count = own == count
delivers e count = false

-- RLC confirmed it, in whichever life
abbrev pub is_delivered : List TakeEvent → ℕ → Bool
is_delivered [] count = false
is_delivered (e ∷ es) count = delivers e count || is_delivered es count

-- a COUNT is confirmed: it was reported, or RLC confirmed it (5.2.1.1, 5.3.2, 5.4)
abbrev pub is_confirmed : ℕ → List TakeEvent → ℕ → Bool
is_confirmed first es count = is_reported first es count || is_delivered es count

-- ---- the life that runs

-- the history as it began
abbrev pub outset_of : List TakeEvent → List TakeEvent
outset_of [] = []
outset_of (LifeEnded report ∷ es) = LifeEnded report ∷ es
outset_of (e ∷ es) = outset_of es

-- RLC took the PDU of a COUNT in it
abbrev pub is_taken : List TakeEvent → ℕ → Bool
is_taken [] count = false
is_taken (PduTaken own ∷ es) count = (own == count) || is_taken es count
is_taken (LifeEnded report ∷ es) count = false
is_taken (e ∷ es) count = is_taken es count

-- it began with a status report, which RLC hasn't taken
abbrev pub is_report_due : List TakeEvent → Bool
is_report_due [] = false
is_report_due (ReportTaken ∷ es) = false
is_report_due (LifeEnded report ∷ es) = report
is_report_due (e ∷ es) = is_report_due es

-- and which RLC hasn't confirmed
abbrev pub is_reporting : List TakeEvent → Bool
is_reporting [] = false
is_reporting (ReportConfirmed ∷ es) = false
is_reporting (LifeEnded report ∷ es) = report
is_reporting (e ∷ es) = is_reporting es
