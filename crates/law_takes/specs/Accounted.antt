-- PDCP's sender of an acknowledged data bearer beside the account of what RLC takes of it
-- (docs/laws/ACCOUNT.md; TS 36.323 5.1.1, 5.2.1.1, 5.3, 5.4).
use Rattle.std.specs.Prelude.{◌≡◌, ℕ, ◌+◌, ◌≤◌, Bool, true, false, ◌||◌, nat_lt, if◌then◌else◌}
use Rattle.std.specs.Prelude.{List, [], ◌∷◌, length, map, is_some}
use Rattle.l2_num.specs.Ascending.{AreBetween}
use Rattle.pdcp_pdu.specs.Kinds.{is_am}
use Rattle.pdcp_tx_store.specs.declared.given.Sent.{Sent}
use Rattle.pdcp_tx_store.specs.Given.{data_of}
use Rattle.pdcp_tx.specs.Pdus.{width}
use Rattle.pdcp_tx.specs.State.{State, kept_again}
use Rattle.journal_takes.specs.TakeEvents.{has_count}
use Rattle.journal_takes.specs.FlowTakes.{FlowTakes, bound_of}

-- ---- SDUs with their COUNTs, by the account

-- a COUNT is confirmed, by RLC or by a status report
abbrev pub is_confirmed : FlowTakes → ℕ → Bool
is_confirmed t count = nat_lt count t.low || has_count t.confirmed count

-- SDUs of the COUNTs from one on, but for the COUNTs that are left out, each with whether it is
-- confirmed
abbrev pub numbered : (ℕ → Bool) → (ℕ → Bool) → ℕ → List (List ℕ) → List Sent
numbered leaves_out confirms count [] = []
numbered leaves_out confirms count (sdu ∷ sdus) =
    if leaves_out count then numbered leaves_out confirms (count + 1) sdus
    else record { count = count; octets = sdu; acked = confirms count }
    ∷ numbered leaves_out confirms (count + 1) sdus

-- a COUNT lies below one, or a report confirmed it
abbrev pub is_left_out : ℕ → FlowTakes → ℕ → Bool
is_left_out low t count = nat_lt count low || has_count t.reported count

-- the SDUs that were taken, of the COUNTs from one on that no report confirmed
abbrev pub unreported : ℕ → FlowTakes → List Sent
unreported low t = numbered (is_left_out low t) (is_confirmed t) t.from t.sdus

-- ---- both sides

-- how the parts of an account stand to each other
pub record IsInOrder (t : FlowTakes) : Type 0 where
  pub from_low : t.from ≤ t.low
  pub from_at : t.from ≤ t.at
  pub begun : t.begun ≤ t.low
  pub low : t.low ≤ t.next
  pub at : t.at ≤ t.next
  pub within : t.next ≤ bound_of t
  pub sdus : t.from + length t.sdus ≡ t.next
  -- only COUNTs that were taken are confirmed, and those that a report confirmed are
  pub taken : (count : ℕ) → t.next ≤ count → has_count t.confirmed count ≡ false
  pub reported : (count : ℕ) → t.low ≤ count → has_count t.reported count ≡ true
      → has_count t.confirmed count ≡ true

-- and U isn't confirmed, nor the COUNT that is taken next reported
pub record IsSettled (t : FlowTakes) : Type 0 where
  pub order : IsInOrder t
  pub low_open : has_count t.confirmed t.low ≡ false
  pub at_open : has_count t.reported t.at ≡ false

pub record IsAccounted (s : State) (t : FlowTakes) : Type 0 where
  pub am : is_am s.kind ≡ true
  pub width : width s.kind ≡ t.width
  -- the next new COUNT, U0, the bound, the SDUs that wait, and the own report
  pub next : s.next ≡ t.next
  pub base : s.base ≡ t.begun
  pub bound : s.bound ≡ bound_of t
  pub waiting : map (λ w. w.sdu) s.waiting ≡ t.waiting
  pub due : is_some s.owed ≡ t.due
  pub reporting : s.reporting ≡ t.reporting
  -- what is to be taken again in this life, and what the next life would take again
  pub again : s.again ≡ unreported t.at t
  pub kept : kept_again s ≡ unreported t.low t
  -- RLC was given COUNTs in ascending order
  pub given : AreBetween 0 (map (λ x. x.count) (data_of s.given.entries)) t.at
  pub account : IsSettled t
