-- What went up with what comes up as the receiver ends (TS 36.322 5.4).
use Rattle.std.specs.Prelude.{◌≡◌, ℕ, suc, zero, ◌+◌, ◌-◌, ◌||◌, Bool, true, List, [], ◌∷◌, ◌++◌}
use Rattle.std.specs.Prelude.{length, map, Some, nat_lt, if◌then◌else◌, slice_get}
use Rattle.std.specs.List.{list_all}
use Rattle.rlc_am_rx_window.specs.Cells.{Cell}
use Rattle.rlc_am_rx_window.specs.Window.{top}
use Rattle.rlc_am_rx.specs.Machine.{finished}
use Rattle.law_rlc.specs.AmReceiver.Run.{World, place_has_come}
use Rattle.law_rlc.specs.AmReceiver.Stream.{IsField}

-- fields one behind the other: place 0 of number 0 begins an SDU, and where a field ends an SDU the
-- next begins one
pub record IsStream (field : ℕ → List Cell) : Type 0 where
  pub fields : (n : ℕ) → IsField (field n)
  pub begins : (c : Cell) → slice_get (field 0) 0 ≡ Some c → c.begins ≡ true
  pub edges : (n : ℕ) (c d : Cell) → slice_get (field n) (length (field n) - 1) ≡ Some c
      → slice_get (field (n + 1)) 0 ≡ Some d → c.ends ≡ d.begins

-- a place of the stream, and whether it has arrived
pub record Place : Type 0 where
  pub cell : Cell
  pub come : Bool

abbrev pub marked : List Cell → (ℕ → Bool) → ℕ → List Place
marked [] come i = []
marked (c ∷ cs) come i = record { cell = c; come = come i } ∷ marked cs come (i + 1)

-- the places of the first n numbers
abbrev pub places : (ℕ → List Cell) → (ℕ → ℕ → Bool) → ℕ → List Place
places field come zero = []
places field come (suc n) = places field come n ++ marked (field n) (come n) 0

-- the SDUs that end among places, behind what is known of the first
abbrev pub cut : List Place → List Place → List (List Place)
cut current [] = []
cut current (p ∷ ps) = if p.cell.ends then (current ++ p ∷ []) ∷ cut [] ps
    else cut (current ++ p ∷ []) ps

-- those of which all octets have arrived
abbrev pub all_come : List Place → Bool
all_come ps = list_all (λ (p : Place). p.come) ps

abbrev pub octets_of : List Place → List ℕ
octets_of ps = map (λ (p : Place). p.cell.octet) ps

abbrev pub whole_of : List (List Place) → List (List ℕ)
whole_of [] = []
whole_of (s ∷ ss) = if all_come s then octets_of s ∷ whole_of ss else whole_of ss

-- all places of a number below VR(R) have arrived, and of another those that a piece covers
abbrev pub arrived_in : World → ℕ → ℕ → Bool
arrived_in w n i = nat_lt n w.state.window.front || place_has_come w.kept n i

-- What went up and what comes up now are the SDUs all of whose octets have arrived: in their order,
-- each once and unchanged.
pub record IsFinished (field : ℕ → List Cell) (w : World) (gone : List (List ℕ)) : Type 0 where
  pub sdus : gone ++ finished w.state
      ≡ whole_of (cut [] (places field (arrived_in w) (top w.state.window)))
