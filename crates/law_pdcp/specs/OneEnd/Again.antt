-- What a life takes again, and what a status report leaves out of it (TS 36.323 5.2.1.1, 5.3.2).
use Rattle.std.specs.Prelude.{◌≡◌, ◌⊎◌, ℕ, Bool, true, false, ◌||◌, List, [], ◌∷◌, ◌++◌, Option}
use Rattle.std.specs.Prelude.{Some, None, take, All, Contains}
use Rattle.pdcp_tx_store.specs.declared.given.Sent.{Sent}
use Rattle.pdcp_tx_store.specs.Given.{tells}
use Rattle.pdcp_tx.specs.State.{State, fms_count, reported}
use Rattle.pdcp_tx.specs.Runs.{Call, Submit, Take, Confirm, Report, Owe, Tick, Late, after}
use Rattle.law_words.specs.Lists.{IsSubsequence}

abbrev pub again_behind : Option (List ℕ) → List Sent → List Sent
again_behind None xs = take 1 xs
again_behind (Some report) xs = []

-- the SDU that a call takes again
abbrev pub takes_again : State → Call → List Sent
takes_again s (Submit sdu) = []
takes_again s Take = again_behind s.owed s.again
takes_again s (Confirm place) = []
takes_again s (Report fms bitmap) = []
takes_again s (Owe report) = []
takes_again s Tick = []
takes_again s Late = []

abbrev pub taken_again : State → List Call → List Sent
taken_again s [] = []
taken_again s (c ∷ cs) = takes_again s c ++ taken_again (after s c) cs

abbrev pub after_all : State → List Call → State
after_all s [] = s
after_all s (c ∷ cs) = after_all (after s c) cs

-- those that calls take again, and then those that are still to be taken again
abbrev pub all_again : State → List Call → List Sent
all_again s cs = taken_again s cs ++ (after_all s cs).again

-- a report tells that an SDU was received
abbrev pub is_told_from : Option ℕ → List ℕ → Sent → Bool
is_told_from None bitmap x = false
is_told_from (Some from) bitmap x = tells from bitmap x.count

abbrev pub is_told_by : State → Call → Sent → Bool
is_told_by s (Submit sdu) x = false
is_told_by s Take x = false
is_told_by s (Confirm place) x = false
is_told_by s (Report fms bitmap) x = is_told_from (fms_count s.kind s.base fms) bitmap x
is_told_by s (Owe report) x = false
is_told_by s Tick x = false
is_told_by s Late x = false

abbrev pub is_told_in : State → List Call → Sent → Bool
is_told_in s [] x = false
is_told_in s (c ∷ cs) x = is_told_by s c x || is_told_in (after s c) cs x

-- of the SDUs that were to be taken again, in order and each once, only those are left out that a
-- report told
pub record LeavesOutWhatIsTold (s : State) (cs : List Call) : Type 0 where
  pub order : IsSubsequence (all_again s cs) s.again
  pub others : (x : Sent) → Contains s.again x → Contains (all_again s cs) x
      ⊎ (is_told_in s cs x ≡ true)

-- a report doesn't tell that an SDU was received
abbrev pub IsUntold : Option ℕ → List ℕ → Sent → Type 0
IsUntold from bitmap x = is_told_from from bitmap x ≡ false

-- what a report told before it was reached isn't taken again
abbrev pub LeavesOutTheTold : State → ℕ → List ℕ → List Call → Type 0
LeavesOutTheTold s fms bitmap cs =
    All (IsUntold (fms_count s.kind s.base fms) bitmap) (all_again (reported s fms bitmap) cs)
