-- What comes out of a receiver to which the pieces of a list of fields come (TS 36.322 5.1.3.2.3).
use Rattle.std.specs.Prelude.{◌≡◌, ℕ, suc, zero, ◌+◌, ◌%◌, ◌<◌, ◌≤◌, true, false, List, [], ◌∷◌}
use Rattle.std.specs.Prelude.{◌++◌, length, map, take, Option, Some, None, slice_get}
use Rattle.l2_types.specs.declared.AmRxConfig.{AmRxConfig}
use Rattle.rlc_pdu.specs.declared.Landed.TheVariants.{Clash}
use Rattle.rlc_pdu.specs.Pdus.{AmdPdu}
use Rattle.rlc_am_rx_window.specs.Cells.{Cell, cell_at}
use Rattle.rlc_am_rx_window.specs.Piece.{Piece, piece_of, end_of}
use Rattle.rlc_am_rx_window.specs.Joined.{empty, joined}
use Rattle.rlc_am_rx_window.specs.Window.{slot_at}
use Rattle.rlc_am_rx.specs.State.{State, fresh}
use Rattle.rlc_am_rx.specs.Machine.{landed}
use Rattle.law_rlc.specs.AmReceiver.Run.{Call, Arrive, Up, Write, ExpireReorder, ExpireProhibit}
use Rattle.law_rlc.specs.AmReceiver.Run.{TickReorder, TickProhibit, state_after}
use Rattle.rlc_pdu.specs.declared.constants.TheConstants.{AM_MODULUS, AM_WINDOW_SIZE}

-- a field has 1 to 32767 octets, and where an SDU ends inside it the next begins
pub record IsField (cells : List Cell) : Type 0 where
  pub some : 1 ≤ length cells
  pub few : length cells ≤ 32767
  pub edges : (i : ℕ) (c d : Cell) → slice_get cells i ≡ Some c → slice_get cells (i + 1) ≡ Some d
      → c.ends ≡ d.begins

-- a piece is a part of a field, and tells of it what is so
pub record IsPart (cells : List Cell) (p : Piece) : Type 0 where
  pub some : 1 ≤ length p.cells
  pub part : (j : ℕ) (c : Cell) → slice_get p.cells j ≡ Some c → slice_get cells (p.so + j) ≡ Some c
  pub begins : (c : Cell) → slice_get p.cells 0 ≡ Some c → p.begins ≡ c.begins
  pub last : p.last ≡ true → end_of p ≡ length cells
  pub on : p.last ≡ false → end_of p < length cells

-- a PDU carries a part of the field of a number that is less than 512 away from VR(R)
pub record IsSent (field : ℕ → List Cell) (s : State) (p : AmdPdu) (n : ℕ) : Type 0 where
  pub sn : p.sn ≡ n % AM_MODULUS
  pub from : s.window.front ≤ n + AM_WINDOW_SIZE
  pub below : n < s.window.front + AM_WINDOW_SIZE
  pub part : IsPart (field n) (piece_of p)

abbrev pub IsHonest : (ℕ → List Cell) → State → Call → Type 0
IsHonest field s (Arrive p) = (n : ℕ) × IsSent field s p n
IsHonest field s Up = Unit {0}
IsHonest field s Write = Unit {0}
IsHonest field s ExpireReorder = Unit {0}
IsHonest field s ExpireProhibit = Unit {0}
IsHonest field s TickReorder = Unit {0}
IsHonest field s TickProhibit = Unit {0}

-- each PDU that comes is such
abbrev pub AreHonest : (ℕ → List Cell) → State → List Call → Type 0
AreHonest field s [] = Unit {0}
AreHonest field s (c ∷ cs) = IsHonest field s c × AreHonest field (state_after s c) cs

-- a receiver, and the SDUs that went up
pub record Flow : Type 0 where
  pub state : State
  pub gone : List (List ℕ)

abbrev pub gone_after : State → Call → List (List ℕ) → List (List ℕ)
gone_after s (Arrive p) gone = gone
gone_after s Up gone = gone ++ take 1 s.out.ready
gone_after s Write gone = gone
gone_after s ExpireReorder gone = gone
gone_after s ExpireProhibit gone = gone
gone_after s TickReorder gone = gone
gone_after s TickProhibit gone = gone

abbrev pub flows : Flow → Call → Flow
flows f c = record { state = state_after f.state c; gone = gone_after f.state c f.gone }

abbrev pub flow : List Call → Flow → Flow
flow [] f = f
flow (c ∷ cs) f = flow cs (flows f c)

abbrev pub initial : AmRxConfig → Flow
initial config = record { state = fresh config; gone = [] }

-- the fields of the first n numbers, one after the other
abbrev pub stream : (ℕ → List Cell) → ℕ → List Cell
stream field zero = []
stream field (suc n) = stream field n ++ field n

-- the stream up to a place of a number
abbrev pub stream_to : (ℕ → List Cell) → ℕ → ℕ → List Cell
stream_to field n i = stream field n ++ take i (field n)

abbrev pub somes : List Cell → List (Option Cell)
somes cells = map (λ c. Some c) cells

-- The SDUs that went up and those that may go up are the SDUs of the stream up to the first place
-- that hasn't arrived: in their order, each once and unchanged. What is put together of the next is
-- the rest of it up to there.
pub record IsInSequence (field : ℕ → List Cell) (f : Flow) : Type 0 where
  pub sdus : f.gone ++ f.state.out.ready
      ≡ (joined empty (somes (stream_to field f.state.window.front f.state.window.given))).ready
  pub part : f.state.out.part
      ≡ (joined empty (somes (stream_to field f.state.window.front f.state.window.given))).part
  pub missing : cell_at (slot_at f.state.window.slots 0).cells f.state.window.given ≡ None

-- no PDU clashes
abbrev pub NoneClashes : State → List Call → Type 0
NoneClashes s [] = Unit {0}
NoneClashes s (Arrive p ∷ cs) = (landed s p ≡ Clash → ⊥) × NoneClashes (state_after s (Arrive p)) cs
NoneClashes s (c ∷ cs) = NoneClashes (state_after s c) cs
