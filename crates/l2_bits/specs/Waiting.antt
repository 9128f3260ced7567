-- What waits in a ring, of which there is none until the first item comes
-- (docs/laws/PROGRAM.md).
use Rattle.std.specs.Prelude.{◌<◌, List, [], length, Option, Some, None}
use Rattle.circular_buffer.specs.Buffer.{Buffer}

abbrev pub items_of : {X : Type 0} → Option (Buffer X) → List X
items_of None = []
items_of (Some ring) = ring.items

-- one more item fits
abbrev pub HasRoom : {X : Type 0} → Option (Buffer X) → Type 0
HasRoom None = 0 < 0
HasRoom (Some ring) = length ring.items < ring.capacity
