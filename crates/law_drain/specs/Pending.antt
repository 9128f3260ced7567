-- What an acknowledged receiver has still to bring about (TS 36.322 5.1.3.2.4, 5.2.3): where
-- t-Reordering runs its expiry and then a STATUS, else a STATUS where one is due.
use Rattle.std.specs.Prelude.{◌≡◌, ◌≤◌, ℕ, ◌+◌, max, ◌⊎◌, Bool, true, false, if◌then◌else◌, List}
use Rattle.std.specs.Prelude.{[]}
use Rattle.std.specs.Prelude.{◌∷◌, Some, None, is_some}
use Rattle.std.specs.List.{AllByRecursion}
use Rattle.rlc_am_rx_window.specs.Window.{top}
use Rattle.rlc_am_rx.specs.State.{State}
use Rattle.rlc_am_rx.specs.Machine.{after_reorder, after_prohibit}
use Rattle.law_rlc.specs.AmReceiver.Run.{Call, Arrive, Up, Write, ExpireReorder, ExpireProhibit}
use Rattle.law_rlc.specs.AmReceiver.Run.{TickReorder, TickProhibit, state_after}

abbrev pub pending : State → ℕ
pending s = if is_some s.mark then 2 else if s.due then 1 else 0

-- ---- a round: the calls of a TTI, in which at most one data PDU comes; then both timers expire

abbrev pub IsOfTti : Call → Type 0
IsOfTti (Arrive pdu) = Unit {0}
IsOfTti Up = Unit {0}
IsOfTti Write = Unit {0}
IsOfTti ExpireReorder = ⊥
IsOfTti ExpireProhibit = ⊥
IsOfTti TickReorder = ⊥
IsOfTti TickProhibit = ⊥

abbrev pub data_in : List Call → ℕ
data_in [] = 0
data_in (Arrive pdu ∷ cs) = 1 + data_in cs
data_in (Up ∷ cs) = data_in cs
data_in (Write ∷ cs) = data_in cs
data_in (ExpireReorder ∷ cs) = data_in cs
data_in (ExpireProhibit ∷ cs) = data_in cs
data_in (TickReorder ∷ cs) = data_in cs
data_in (TickProhibit ∷ cs) = data_in cs

abbrev pub writes_status : List Call → Bool
writes_status [] = false
writes_status (Arrive pdu ∷ cs) = writes_status cs
writes_status (Up ∷ cs) = writes_status cs
writes_status (Write ∷ cs) = true
writes_status (ExpireReorder ∷ cs) = writes_status cs
writes_status (ExpireProhibit ∷ cs) = writes_status cs
writes_status (TickReorder ∷ cs) = writes_status cs
writes_status (TickProhibit ∷ cs) = writes_status cs

abbrev pub after_calls : State → List Call → State
after_calls s [] = s
after_calls s (c ∷ cs) = after_calls (state_after s c) cs

abbrev pub expired : State → State
expired s = after_prohibit (after_reorder s.mark s)

abbrev pub round : State → List Call → State
round s cs = expired (after_calls s cs)

-- ---- what a round leaves

-- VR(X), where the timer runs, is VR(H)
abbrev pub IsAtTop : State → Type 0
IsAtTop s = (s.mark ≡ None) ⊎ (s.mark ≡ Some (top s.window))

pub record Settles (s : State) (cs : List Call) : Type 0 where
  -- data lets less than two things come to be pending
  pub rises : pending (round s cs) ≤ max (pending s) 1
  pub at_top : IsAtTop (round s cs)
  -- without data no more comes to be pending
  pub calm : data_in cs ≡ 0 → pending (round s cs) ≤ pending s
  -- where no data comes, the timer that the round before left running doesn't run on
  pub stops : data_in cs ≡ 0 → IsAtTop s → pending (round s cs) ≤ 1
  -- and a STATUS leaves nothing
  pub told : data_in cs ≡ 0 → writes_status cs ≡ true → s.mark ≡ None → pending (round s cs) ≡ 0

abbrev pub RoundsSettle : Type 0
RoundsSettle = (s : State) (cs : List Call) → AllByRecursion IsOfTti cs → data_in cs ≤ 1
    → Settles s cs
