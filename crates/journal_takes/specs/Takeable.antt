-- What RLC may take of PDCP next, by the history of acknowledged data (TS 36.323 5.1.1, 5.2.1.1,
-- 5.3).
use Rattle.std.specs.Prelude.{◌≡◌, ℕ, ◌+◌, ◌-◌, ◌^◌, ◌<◌, Bool, ◌||◌, ◌&&◌, nat_lt, if◌then◌else◌}
use Rattle.std.specs.Prelude.{List, [], ◌∷◌, length, Option, Some, None}
use Rattle.l2_num.specs.Least.{IsLeast}
use Rattle.journal_takes.specs.declared.take.Take.{Take}
use Rattle.journal_takes.specs.declared.take.Take.TheVariants.{Report, Pdu}
use Rattle.journal_takes.specs.TakeEvents.{TakeEvent, PduTaken, ReportTaken, PduConfirmed, next_new}
use Rattle.journal_takes.specs.TakeEvents.{kept, is_reported, is_confirmed, outset_of, is_taken}
use Rattle.journal_takes.specs.TakeEvents.{is_report_due, is_reporting}

-- a COUNT isn't to be taken in this life, or not again: it was reported or taken
abbrev pub is_passed : ℕ → List TakeEvent → ℕ → Bool
is_passed first es count = is_reported first es count || is_taken es count

-- half of the sequence numbers of so many bits
abbrev pub half : ℕ → ℕ
half bits = 2 ^ (bits - 1)

-- the report first; then a COUNT that has an SDU and lies below the bound
abbrev pub offer : Bool → Bool → ℕ → Option Take
offer due free count =
    if due then Some Report else (if free then Some (Pdu count) else None)

-- What is to be taken next, if anything: the report where it's due; else the first COUNT from U0 on
-- that was neither reported nor taken in this life, if it has an SDU and lies less than half of the
-- sequence numbers above U, or above U0 while the report isn't confirmed.
pub record IsTakeable (first bits : ℕ) (es : List TakeEvent) (next : Option Take) : Type 0 where
  -- U: the first COUNT that isn't confirmed
  pub low : ℕ
  pub low_is : IsLeast (is_confirmed first es) first low
  -- U0: U as the life began
  pub begun : ℕ
  pub begun_is : IsLeast (is_confirmed first (outset_of es)) first begun
  pub count : ℕ
  pub count_is : IsLeast (is_passed first es) begun count
  pub next_is : next ≡ offer (is_report_due es) (nat_lt count (first + length (kept first es))
      && nat_lt count ((if is_reporting es then begun else low) + half bits)) count

-- RLC takes what is takeable, and confirms what was taken
abbrev pub IsPossible : ℕ → ℕ → TakeEvent → List TakeEvent → Type 0
IsPossible first bits (PduTaken count) es = IsTakeable first bits es (Some (Pdu count))
IsPossible first bits ReportTaken es = IsTakeable first bits es (Some Report)
IsPossible first bits (PduConfirmed count) es = count < next_new first es
IsPossible first bits e es = Unit {0}

abbrev pub AreTakes : ℕ → ℕ → List TakeEvent → Type 0
AreTakes first bits [] = Unit {0}
AreTakes first bits (e ∷ es) = IsPossible first bits e es × AreTakes first bits es
