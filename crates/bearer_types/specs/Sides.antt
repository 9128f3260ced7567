-- Both sides of a link, and the directions between them (TS 36.321 4.2).
use Rattle.std.specs.Prelude.{Bool, true, false}
use Rattle.l2_types.specs.declared.side.Side.{Side}
use Rattle.l2_types.specs.declared.side.Side.TheVariants.{Nb, Ue}
use Rattle.mac_pdu.specs.declared.item.Direction.{Direction}
use Rattle.mac_pdu.specs.declared.item.Direction.TheVariants.{Down, Up}
use Rattle.mac_pdu.specs.declared.item.Direction.TheVariants as directions

abbrev pub other : Side → Side
other Nb = Ue
other Ue = Nb

abbrev pub is_same : Side → Side → Bool
is_same Nb Nb = true
is_same Nb Ue = false
is_same Ue Nb = false
is_same Ue Ue = true

-- the direction in which an end sends, and that in which it hears
abbrev pub sent_by : Side → Direction
sent_by Nb = Down
sent_by Ue = Up

abbrev pub heard_by : Side → Direction
heard_by Nb = Up
heard_by Ue = Down

-- who sends in a direction
abbrev pub sender_of : Direction → Side
sender_of directions.Down = Nb
sender_of directions.Up = Ue

-- ---- the blocks that arrive

abbrev pub heard_at : Direction → Side
heard_at directions.Down = Ue
heard_at directions.Up = Nb

abbrev pub is_same_way : Direction → Direction → Bool
is_same_way Down Down = true
is_same_way Down Up = false
is_same_way Up Down = false
is_same_way Up Up = true
