-- What is sent again (TS 36.322 5.2.1).
use Rattle.std.specs.Prelude.{◌≡◌, ℕ, ◌<◌, ◌≤◌, Bool, true, false, List, length, Option}
use Rattle.l2_types.specs.declared.config.AmTxConfig.{AmTxConfig}
use Rattle.rlc_am_tx_window.specs.Sent.{next_stretch}
use Rattle.rlc_am_tx.specs.declared.turn.Turn.{Turn}
use Rattle.rlc_am_tx.specs.declared.turn.Turn.TheVariants as turns
use Rattle.rlc_am_tx.specs.Machine.{State, turn, again, number_again}
use Rattle.law_rlc.specs.AmSender.Run.{Call, run_am_sender, begun}
use Rattle.law_rlc.specs.AmSender.Namings.{Marks, unmarked, marks_after, size_at}

-- no octet of a lower number waits
abbrev pub IsLowest : State → Marks → Type 0
IsLowest s m = (n i : ℕ) → s.window.base ≤ n → n < number_again s → i < size_at s.window n
    → m.waits n i ≡ false

-- a PDU is sent again: all its octets wait
pub record IsWhole (s : State) (m : Marks) : Type 0 where
  pub lowest : IsLowest s m
  pub waits : (i : ℕ) → i < length (again s).field → m.waits (number_again s) i ≡ true

-- a segment of it is: the first octets that wait, one or more
pub record IsSegment (s : State) (size : ℕ) (m : Marks) : Type 0 where
  pub lowest : IsLowest s m
  pub some : (next_stretch (again s) size).from < (next_stretch (again s) size).to
  pub within : (next_stretch (again s) size).to ≤ length (again s).field
  pub waits : (i : ℕ) → (next_stretch (again s) size).from ≤ i
      → i < (next_stretch (again s) size).to → m.waits (number_again s) i ≡ true
  pub first : (i : ℕ) → i < (next_stretch (again s) size).from → m.waits (number_again s) i ≡ false

abbrev pub IsResent : Turn → State → ℕ → Marks → Type 0
IsResent turns.Whole s size m = IsWhole s m
IsResent turns.Part s size m = IsSegment s size m
IsResent turns.New s size m = Unit {0}
IsResent turns.Idle s size m = Unit {0}
IsResent turns.Stopped s size m = Unit {0}
IsResent turns.Small s size m = Unit {0}
IsResent turns.Shut s size m = Unit {0}
IsResent turns.Held s size m = Unit {0}

-- what is sent again is what waits first, of the lowest number that waits
abbrev pub ResendsTheFirst : Type 0
ResendsTheFirst =
    (config : AmTxConfig) (calls : List Call) (size : ℕ) (held : Option ℕ) (more : Bool)
    → IsResent (turn (run_am_sender marks_after calls (begun config unmarked)).state size held more)
    (run_am_sender marks_after calls (begun config unmarked)).state size
    (run_am_sender marks_after calls (begun config unmarked)).past
