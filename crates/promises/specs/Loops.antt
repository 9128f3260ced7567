-- What the test loop returned went up at the terminal before, as the journal tells it, and the
-- others were dropped (TS 36.509 5.4).
use Rattle.std.specs.Prelude.{◌≡◌, ◌⊎◌, List, [], ◌∷◌, ℕ, ◌&&◌, nat_le, if◌then◌else◌, length, ◌==◌}
use Rattle.std.specs.Prelude.{Bool, false, ◌++◌, ◌+◌, ◌≤◌, take}
use Rattle.std.specs.List.{flat_map, filter}
use Rattle.test_loop.specs.Items.{Item, item, cut}
use Rattle.test_loop.specs.declared.Mode.{Mode}
use Rattle.test_loop.specs.declared.Mode.TheVariants.{Off, A, B}
use Rattle.air_record.specs.declared.record.Record.{Record}
use Rattle.bearer_types.specs.declared.event.Event.TheVariants.{Up, Drop}
use Rattle.l2_types.specs.declared.side.Side.TheVariants.{Ue}
use Rattle.test_loop.specs.Loops.{is_on, is_keeping}
use Rattle.air_record.specs.declared.line.Line.{Line}
use Rattle.air_text.specs.Groups.{Group, history}
use Rattle.air_record.specs.declared.record.Record.TheVariants as records
use Rattle.l2_types.specs.declared.event.Lost.TheVariants as losts
use Rattle.air_record.specs.declared.line.Line.TheVariants as lines

-- some SDUs of a list, in its order and each once
abbrev pub ArePart : List Item → List Item → Type 0
ArePart [] all = Unit {0}
ArePart (one ∷ more) [] = ⊥
ArePart (one ∷ more) (first ∷ rest) =
    ((one ≡ first) × ArePart more rest) ⊎ ArePart (one ∷ more) rest

-- ---- what records tell of the loop

-- the size to which a mode cuts SDUs; 0 is their own
abbrev pub size_in : Mode → ℕ
size_in Off = 0
size_in (A size) = size
size_in (B delay) = 0

-- an SDU as it comes back in a mode
abbrev pub item_back : Mode → Item → Item
item_back mode_in_force i = item i.lcid (cut i.octets (size_in mode_in_force))

-- with a loop on, an SDU that goes up at the terminal on a data bearer may come back, if it has an
-- octet
abbrev pub items_due : Mode → Record → List Item
items_due mode_in_force (records.Of Ue (Up lcid octets)) =
    if (is_on mode_in_force && nat_le 3 lcid) && nat_le 1 (length octets)
    then item_back mode_in_force (item lcid octets) ∷ []
    else []
items_due mode_in_force one = []

abbrev pub looped : Record → List Item
looped (records.Looped lcid octets) = item lcid octets ∷ []
looped one = []

-- the SDUs that may come back, as they do, and those that came back
abbrev pub gone_up : Mode → List Record → List Item
gone_up mode_in_force told = flat_map (items_due mode_in_force) told

abbrev pub returned : List Record → List Item
returned told = flat_map looped told

-- SDUs of a channel, and the records that one of them finds no place
abbrev pub item_count : ℕ → List Item → ℕ
item_count lcid items = length (filter (λ i. i.lcid == lcid) items)

abbrev pub is_dropped : ℕ → Record → Bool
is_dropped lcid (records.Of Ue (Drop l losts.Loop)) = l == lcid
is_dropped lcid one = false

abbrev pub drop_count : ℕ → List Record → ℕ
drop_count lcid told = length (filter (is_dropped lcid) told)

-- the loop's mode behind groups, of which the newest stands first: that of the last `loop` line
abbrev pub mode_by : Line → Mode → Mode
mode_by lines.LoopOff before = Off
mode_by (lines.LoopA size) before = A size
mode_by (lines.LoopB delay) before = B delay
mode_by line before = before

abbrev pub mode_in_force : List Group → Mode
mode_in_force [] = Off
mode_in_force (g ∷ past) = mode_by g.line (mode_in_force past)

-- the SDUs that went up with a loop on, as its mode returns them, and those that it returned
abbrev pub all_gone_up : List Group → List Item
all_gone_up [] = []
all_gone_up (g ∷ past) = all_gone_up past ++ gone_up (mode_in_force (g ∷ past)) g.events

abbrev pub all_returned : List Group → List Item
all_returned [] = []
all_returned (g ∷ past) = all_returned past ++ returned g.events

pub record AreReturned (past : List Group) (g : Group) : Type 0 where
  -- at each record of a line those that have come back are some of those that have gone up, in
  -- their order and each once
  pub in_order : (n : ℕ)
      → ArePart (all_returned past ++ returned (take n g.events))
      (all_gone_up past ++ gone_up (mode_in_force (g ∷ past)) (take n g.events))
  -- behind it, in a mode without a delay, of each of the others it has been told that it finds no
  -- place
  pub others : is_keeping (mode_in_force (g ∷ past)) ≡ false → (lcid : ℕ)
      → item_count lcid (all_gone_up (g ∷ past))
      ≤ item_count lcid (all_returned (g ∷ past)) + drop_count lcid (history (g ∷ past))

abbrev pub ReturnInOrder : List Group → Type 0
ReturnInOrder [] = Unit {0}
ReturnInOrder (g ∷ past) = AreReturned past g × ReturnInOrder past
