-- The STATUS that a receiver writes, by what has arrived (TS 36.322 5.2.3, 6.2.1.6).
use Rattle.std.specs.Prelude.{◌≡◌, ◌⊎◌, ℕ, suc, zero, ◌+◌, ◌-◌, ◌==◌, ◌<◌, ◌≤◌, Bool, true, false}
use Rattle.std.specs.Prelude.{List, [], ◌∷◌, ◌++◌, length, map, Option, Some, None}
use Rattle.std.specs.List.{list_any}
use Rattle.rlc_pdu.specs.declared.Part.{Part}
use Rattle.rlc_pdu.specs.Pdus.{AmdPdu}
use Rattle.rlc_pdu.specs.Grammar.{IsAmdPdu}
use Rattle.rlc_am_rx_window.specs.declared.Missing.{Missing}
use Rattle.rlc_am_rx_window.specs.Piece.{piece_of}
use Rattle.rlc_am_rx_window.specs.Missing.{whole, of_part, entry_bits, entries_bits}
use Rattle.rlc_am_rx.specs.Status.{listed, chosen, room_in, ack}
use Rattle.law_rlc.specs.AmReceiver.Run.{Call, Arrive, Up, Write, ExpireReorder, ExpireProhibit}
use Rattle.law_rlc.specs.AmReceiver.Run.{TickReorder, TickProhibit, World, Came, place_has_come}
use Rattle.law_rlc.specs.AmReceiver.Run.{told}
use Rattle.law_rlc.specs.AmReceiver.Run.{IsComplete}

-- each PDU brings an octet
abbrev pub BringsSome : Call → Type 0
BringsSome (Arrive p) = 1 ≤ length (piece_of p).cells
BringsSome Up = Unit {0}
BringsSome Write = Unit {0}
BringsSome ExpireReorder = Unit {0}
BringsSome ExpireProhibit = Unit {0}
BringsSome TickReorder = Unit {0}
BringsSome TickProhibit = Unit {0}

abbrev pub BringSome : List Call → Type 0
BringSome [] = Unit {0}
BringSome (c ∷ cs) = BringsSome c × BringSome cs

-- as each one does that was read
abbrev pub ReadBringSome : Type 0
ReadBringSome = (pdu : AmdPdu) (octets : List ℕ) → IsAmdPdu pdu octets → BringsSome (Arrive pdu)

-- ---- what is missing of a number

-- a place lies in the field, as far as its length is told
abbrev pub InField : Option ℕ → ℕ → Type 0
InField None i = Unit {0}
InField (Some size) i = i < size

-- the first largest run of missing places at or above a place, and an octet behind it has arrived
pub record IsInner (come : ℕ → Bool) (from : ℕ) (p : Part) : Type 0 where
  pub above : from ≤ p.start
  pub some : p.start ≤ p.end
  pub before : (i : ℕ) → from ≤ i → i < p.start → come i ≡ true
  pub missing : (i : ℕ) → p.start ≤ i → i ≤ p.end → come i ≡ false
  pub behind : come (p.end + 1) ≡ true

-- the same where it reaches the field's end; its end is then written as 32767
pub record IsTail (come : ℕ → Bool) (size : Option ℕ) (from : ℕ) (p : Part) : Type 0 where
  pub above : from ≤ p.start
  pub here : InField size p.start
  pub before : (i : ℕ) → from ≤ i → i < p.start → come i ≡ true
  pub missing : (i : ℕ) → p.start ≤ i → InField size i → come i ≡ false
  pub end_is : p.end ≡ 32767

-- all largest runs of missing places at or above a place
abbrev pub AreGaps : (ℕ → Bool) → Option ℕ → ℕ → List Part → Type 0
AreGaps come size from [] = (i : ℕ) → from ≤ i → InField size i → come i ≡ true
AreGaps come size from (p ∷ ps) = (IsInner come from p × AreGaps come size (p.end + 1) ps)
    ⊎ (IsTail come size from p × (ps ≡ []))

-- of a number nothing is said if it is complete; else that all of it is missing if nothing has
-- arrived, or each largest run that is
pub data IsSaid (ps : List Came) (n : ℕ) (ms : List Missing) : Type 0 where
  Complete : IsComplete ps n → ms ≡ [] → IsSaid ps n ms
  Nothing : (IsComplete ps n → ⊥) → ((i : ℕ) → place_has_come ps n i ≡ false) → ms ≡ whole n ∷ []
      → IsSaid ps n ms
  Ranges : (IsComplete ps n → ⊥) → (i : ℕ) → place_has_come ps n i ≡ true → (parts : List Part)
      → ms ≡ map (of_part n) parts → AreGaps (place_has_come ps n) (told ps n) 0 parts
      → IsSaid ps n ms

-- what is said of so many numbers from n on
abbrev pub AreSaid : List Came → ℕ → ℕ → List Missing → Type 0
AreSaid ps n zero ms = ms ≡ []
AreSaid ps n (suc k) ms = (here : List Missing) × (rest : List Missing) × (ms ≡ here ++ rest)
    × IsSaid ps n here × AreSaid ps (n + 1) k rest

-- ---- the STATUS

-- a number has an entry
abbrev pub has_entry : List Missing → ℕ → Bool
has_entry ms n = list_any (λ (m : Missing). m.number == n) ms

-- Its entries are the longest beginning that fits of all that is missing from VR(R) on below
-- VR(MS). Its ACK is the least number from VR(R) on that isn't complete and has no entry, and lies
-- above each that has one.
pub record IsTrueStatus (w : World) (size : ℕ) : Type 0 where
  pub all : AreSaid w.kept w.state.window.front (w.state.bound - w.state.window.front)
      (listed w.state)
  pub rest : List Missing
  pub begins : listed w.state ≡ chosen w.state size ++ rest
  pub fits : entries_bits (chosen w.state size) ≤ room_in size
  pub longest : (m : Missing) (ms : List Missing) → rest ≡ m ∷ ms
      → room_in size < entries_bits (chosen w.state size) + entry_bits m
  pub ack_above : w.state.window.front ≤ ack w.state size
  pub ack_missing : IsComplete w.kept (ack w.state size) → ⊥
  pub ack_left : has_entry (chosen w.state size) (ack w.state size) ≡ false
  pub ack_over : (n : ℕ) → has_entry (chosen w.state size) n ≡ true → n < ack w.state size
  pub ack_least : (n : ℕ) → w.state.window.front ≤ n → n < ack w.state size
      → has_entry (chosen w.state size) n ≡ false → IsComplete w.kept n
