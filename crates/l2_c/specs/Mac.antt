-- Items of MAC PDUs as C sees them (TS 36.321 6.1.2, 6.1.3), what is meant by them, and what calls
-- answer.
use Rattle.std.specs.Prelude.{◌≡◌, ◌⊎◌, ◌<◌, ◌≤◌, ◌++◌, ℕ, ◌+◌, ◌*◌, ◌==◌, ◌&&◌, ◌||◌, nat_lt}
use Rattle.std.specs.Prelude.{nat_le, not, Bool, true, false, List, [], ◌∷◌, map, Result, Ok, Err}
use Rattle.std.specs.Prelude.{if◌then◌else◌, take, slice_index, length, Option, None, Some}
use Rattle.mac_pdu.specs.declared.item.Direction.{Direction}
use Rattle.mac_pdu.specs.declared.item.Direction.TheVariants.{Down, Up}
use Rattle.mac_pdu.specs.declared.item.Bsr.TheVariants as bsr
use Rattle.mac_pdu.specs.declared.item.Control.{Control}
use Rattle.mac_pdu.specs.declared.item.Control.TheVariants as control
use Rattle.mac_pdu.specs.declared.fault.MacRefusal.{MacRefusal}
use Rattle.mac_pdu.specs.declared.fault.MacWhy.{MacWhy}
use Rattle.mac_pdu.specs.declared.fault.MacWhy.TheVariants as why
use Rattle.mac_pdu.specs.Items.{MacItem, front, element, sdu, padding}
use Rattle.mac_pdu.specs.Reading.{reading}
use Rattle.mac_pdu.specs.Writing.{Parts, writing, items_of}
use Rattle.l2_bits.specs.declared.limits.TheConstants.{OCTETS_LIMIT}
use Rattle.l2_c.specs.Answers.{in_range, room_answer}
use Rattle.c_answers.specs.declared.TheConstants.{RANGE, REFUSED, NO_MEMORY}
use Rattle.l2_c.specs.declared.mac.PlainItem.{PlainItem}
use Rattle.l2_c.specs.declared.mac.PlainRefusal.{PlainRefusal}
use Rattle.l2_c.specs.declared.mac.TheConstants.{FRONT, SDU, PADDING, CONTENTION, ADVANCE, DRX}
use Rattle.l2_c.specs.declared.mac.TheConstants.{HEADROOM, CRNTI, TRUNCATED_REPORT, SHORT_REPORT}
use Rattle.l2_c.specs.declared.mac.TheConstants.{LONG_REPORT, MOST_ITEMS}

-- the direction of a number, where it is one
abbrev pub way_of : ℕ → Option Direction
way_of n = if n == 0 then Some Up else if n == 1 then Some Down else None

-- the direction of a number that is one
abbrev pub way : ℕ → Direction
way n = if n == 0 then Up else Down

-- the control element of a kind and its fields
abbrev pub control_seen : ℕ → List ℕ → Control
control_seen kind fields =
    if kind == CONTENTION then control.Contention (take 6 fields)
    else if kind == ADVANCE then control.Advance (slice_index fields 0)
    else if kind == DRX then control.Drx
    else if kind == HEADROOM then control.Phr (slice_index fields 0)
    else if kind == CRNTI then control.Crnti (256 * slice_index fields 0 + slice_index fields 1)
    else if kind == TRUNCATED_REPORT
    then control.Report (bsr.Truncated (slice_index fields 0) (slice_index fields 1))
    else if kind == SHORT_REPORT
    then control.Report (bsr.Short (slice_index fields 0) (slice_index fields 1))
    else control.Report (bsr.Long (take 4 fields))

-- the item that is seen
abbrev pub item_seen : PlainItem → MacItem
item_seen item =
    if item.kind == FRONT then front
    else if item.kind == SDU then sdu item.lcid item.octets.now
    else if item.kind == PADDING then padding item.padding
    else element (control_seen item.kind item.fields)

-- the reason of a number
abbrev pub why_seen : ℕ → MacWhy
why_seen n =
    if n == 1 then why.Short
    else if n == 2 then why.ReservedLcid
    else if n == 3 then why.LengthPast
    else if n == 4 then why.ControlAfterSdu
    else why.PaddingPlace

abbrev pub refusal_seen : PlainRefusal → MacRefusal
refusal_seen refusal = record { at = refusal.at; why = why_seen refusal.why }

-- ---- what may be written

-- the fields of a control element of the direction are in range (TS 36.321 6.1.3)
abbrev pub element_fits : Direction → ℕ → List ℕ → Bool
element_fits Down kind fields =
    (kind == CONTENTION)
    || (((kind == ADVANCE) && nat_lt (slice_index fields 0) 64) || (kind == DRX))
element_fits Up kind fields =
    let first = slice_index fields 0 in
    let second = slice_index fields 1 in
    if kind == HEADROOM then nat_lt first 64
    else if kind == CRNTI then true
    else if kind == TRUNCATED_REPORT then nat_lt first 4 && nat_lt second 64
    else if kind == SHORT_REPORT then nat_lt first 4 && nat_lt second 64
    else if kind == LONG_REPORT
    then nat_lt first 64
    && (nat_lt second 64
    && (nat_lt (slice_index fields 2) 64 && nat_lt (slice_index fields 3) 64))
    else false

abbrev pub control_found : Direction → ℕ → List ℕ → Option Control
control_found direction kind fields =
    if element_fits direction kind fields then Some (control_seen kind fields) else None

-- an SDU has 1 to 32,767 octets, on a channel up to 10
abbrev pub sdu_fits : PlainItem → Bool
sdu_fits item = nat_lt item.lcid 11
    && (not (length item.octets.now == 0) && nat_lt (length item.octets.now) 32768)

-- the item may be written, behind an SDU or before all
abbrev pub item_fits : Direction → Bool → PlainItem → Bool
item_fits direction behind item = if item.kind == SDU then sdu_fits item
    else not behind && element_fits direction item.kind item.fields

-- control elements, then SDUs, all of which may be written
abbrev pub are_fit : Direction → Bool → List PlainItem → Bool
are_fit direction behind [] = true
are_fit direction behind (item ∷ items) = item_fits direction behind item
    && are_fit direction (behind || (item.kind == SDU)) items

-- a builder has an item more, for which a block needs at most 32,770 octets more
pub record Adds (item : PlainItem) (old new : Parts) : Type 0 where
  pub direction : new.direction ≡ old.direction
  pub items : items_of new ≡ items_of old ++ item_seen item ∷ []
  pub grown : length (writing (items_of new)) ≤ length (writing (items_of old)) + 32770

-- a builder of the items, or what is answered in its place
abbrev pub Collects : Direction → List PlainItem → Result Parts ℕ → Type 0
Collects direction items (Ok parts) = (are_fit direction false items ≡ true)
    × (parts.direction ≡ direction)
    × (items_of parts ≡ map item_seen items)
    × (length (writing (map item_seen items)) < OCTETS_LIMIT)
Collects direction items (Err answer) =
    (answer ≡ NO_MEMORY) ⊎ ((answer ≡ RANGE) × (are_fit direction false items ≡ false))

-- ---- answers

abbrev pub items_answer : Result (List MacItem) MacRefusal → ℕ → ℕ
items_answer (Err refused) room = REFUSED
items_answer (Ok items) room = room_answer (length items) room

abbrev pub block_read_answer : Option Direction → List ℕ → ℕ → ℕ
block_read_answer None block room = RANGE
block_read_answer (Some direction) block room =
    in_range (nat_lt (length block) OCTETS_LIMIT) (items_answer (reading direction block) room)

abbrev pub mac_read_answer : ℕ → List ℕ → ℕ → ℕ
mac_read_answer direction block room = block_read_answer (way_of direction) block room

-- at most so many items, all of which may be written, and a block of so many octets
abbrev pub block_write_answer : Option Direction → List PlainItem → ℕ → ℕ
block_write_answer None items size = RANGE
block_write_answer (Some direction) items size =
    in_range (nat_le (length items) MOST_ITEMS
    && ((nat_lt 0 size && nat_lt size OCTETS_LIMIT) && are_fit direction false items))
    (room_answer (length (writing (map item_seen items))) size)

abbrev pub mac_write_answer : ℕ → List PlainItem → ℕ → ℕ
mac_write_answer direction items size = block_write_answer (way_of direction) items size
