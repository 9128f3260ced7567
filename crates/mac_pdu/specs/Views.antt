-- What an item is, apart from where its octets lie (TS 36.321 6.1.2, 6.1.3).
use Rattle.std.specs.Prelude.{◌<◌, length}
use Rattle.mac_pdu.specs.declared.item.Item.{Item}
use Rattle.mac_pdu.specs.declared.item.Item.TheVariants.{Front, Element, Sdu, Padding}
use Rattle.mac_pdu.specs.Items.{MacItem, front, element, sdu, padding}
use Rattle.l2_bits.specs.declared.limits.TheConstants.{OCTETS_LIMIT}

abbrev pub item_in : Item → MacItem
item_in Front = front
item_in (Element c) = element c
item_in (Sdu lcid octets) = sdu lcid octets.now
item_in (Padding n) = padding n

-- an SDU of a block is no longer than a block may be
abbrev pub IsShort : MacItem → Type 0
IsShort (sdu lcid octets) = length octets < OCTETS_LIMIT
IsShort item = Unit {0}
