-- A journal has one answer, however much of it was read before that was known (docs/CHECKING.md).
use Rattle.std.specs.Prelude.{◌≡◌, ℕ, true, false, List, ◌++◌}
use Rattle.journal_check.specs.declared.fault.CheckWhy.{CheckWhy}
use Rattle.check_command.specs.Checking.{IsSound, IsUnsound}

-- it is sound, with one number of lines, or it isn't, at one line and for one reason
pub record HasOneAnswer (octets : List ℕ) : Type 0 where
  pub sound : (m n : ℕ) → IsSound true octets m → IsSound true octets n → m ≡ n
  pub unsound : (at at' : ℕ) (why why' : CheckWhy) → IsUnsound true octets at why
      → IsUnsound true octets at' why' → (at ≡ at') × (why ≡ why')
  pub either : (lines at : ℕ) (why : CheckWhy) → IsSound true octets lines
      → IsUnsound true octets at why → ⊥

abbrev pub AnswersAreOne : Type 0
AnswersAreOne = (octets : List ℕ) → HasOneAnswer octets

-- what is refused of the first octets is refused of all
abbrev pub RefusalsAreFinal : Type 0
RefusalsAreFinal = (octets more : List ℕ) (at : ℕ) (why : CheckWhy)
    → IsUnsound false octets at why → IsUnsound true (octets ++ more) at why
