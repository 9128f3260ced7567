-- What a STATUS may say of the numbers of a window (TS 36.322 5.2.3, 6.2.2.12 to 6.2.2.18).
use Rattle.std.specs.Prelude.{ℕ, ◌+◌, ◌-◌, Bool, true, false, if◌then◌else◌, List, [], ◌∷◌, ◌++◌}
use Rattle.std.specs.Prelude.{map, length, Option, Some, None, nat_lt, is_some, ◌==◌}
use Rattle.rlc_pdu.specs.declared.Part.{Part}
use Rattle.rlc_pdu.specs.Pdus.{IsPart}
use Rattle.rlc_am_rx_window.specs.declared.missing.Missing.{Missing}
use Rattle.rlc_am_rx_window.specs.Cells.{Cell}
use Rattle.rlc_am_rx_window.specs.Held.{Held, is_complete, has_end}
use Rattle.rlc_am_rx_window.specs.Window.{RxWindow}

-- the places at or above one and below another; a range that reaches the field's end has the end
-- 32767
abbrev pub range : ℕ → ℕ → Part
range from to = record { start = from; end = to - 1 }

abbrev pub tail : ℕ → Part
tail from = record { start = from; end = 32767 }

-- the run of missing places that ends where an octet has arrived
abbrev pub run_ended : Bool → ℕ → Option ℕ → List Part
run_ended false at gap = []
run_ended true at None = []
run_ended true at (Some from) = range from at ∷ []

-- where the run that is open began, behind a place
abbrev pub run_open : Bool → ℕ → Option ℕ → Option ℕ
run_open true at gap = None
run_open false at (Some from) = Some from
run_open false at None = Some at

-- the run that reaches the field's end; none where the field is known to end here
abbrev pub run_last : ℕ → Option ℕ → Bool → List Part
run_last at (Some from) ended = tail from ∷ []
run_last at None true = []
run_last at None false = tail at ∷ []

-- the largest runs of places that haven't arrived
abbrev pub runs : List (Option Cell) → ℕ → Option ℕ → Bool → List Part
runs [] at gap ended = run_last at gap ended
runs (c ∷ cs) at gap ended = run_ended (is_some c) at gap
    ++ runs cs (at + 1) (run_open (is_some c) at gap) ended

abbrev pub whole : ℕ → Missing
whole n = record { number = n; part = None }

abbrev pub of_part : ℕ → Part → Missing
of_part n p = record { number = n; part = Some p }

abbrev pub some_part : Option Part → List Part
some_part None = []
some_part (Some p) = p ∷ []

-- what is said of one number: nothing of a complete one, no range where nothing has arrived
abbrev pub missing_of : ℕ → Held → List Missing
missing_of n h =
    if is_complete h then []
    else if length h.cells == 0 then whole n ∷ []
    else map (of_part n) (runs h.cells 0 None (has_end h))

-- what is said of the numbers from n on below a bound
abbrev pub missing_below : List Held → ℕ → ℕ → List Missing
missing_below [] n bound = []
missing_below (h ∷ hs) n bound = if nat_lt n bound
    then missing_of n h ++ missing_below hs (n + 1) bound else []

abbrev pub missing : RxWindow → ℕ → List Missing
missing w bound = missing_below w.slots w.front bound

-- the ranges have places that a STATUS can say
abbrev pub AreRanges : List Missing → Type 0
AreRanges [] = Unit {0}
AreRanges (m ∷ ms) = IsPart m.part × AreRanges ms

-- ---- sizes

-- an entry has 12 bits, and 30 more with a range (TS 36.322 6.2.1.6)
abbrev pub entry_bits : Missing → ℕ
entry_bits m = if is_some m.part then 42 else 12

abbrev pub entries_bits : List Missing → ℕ
entries_bits [] = 0
entries_bits (m ∷ ms) = entry_bits m + entries_bits ms
