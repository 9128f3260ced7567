-- The canonical writing of a MAC PDU (TS 36.321 6.1.2, 6.2.1): R bits and padding are 0, each
-- length has its shorter form, and one or two octets of padding stand in front.
use Rattle.std.specs.Prelude.{ℕ, ◌+◌, ◌-◌, ◌/◌, ◌%◌, ◌<◌, ◌≤◌, ◌^◌, nat_lt, nat_le, List, [], ◌∷◌}
use Rattle.std.specs.Prelude.{◌++◌, length, map, replicate, All, sum_by, if◌then◌else◌}
use Rattle.std.specs.List.{flat_map}
use Rattle.mac_pdu.specs.declared.item.Direction.{Direction}
use Rattle.mac_pdu.specs.declared.item.Bsr.{Bsr}
use Rattle.mac_pdu.specs.declared.item.Bsr.TheVariants as bsr
use Rattle.mac_pdu.specs.declared.item.Control.{Control}
use Rattle.mac_pdu.specs.declared.item.Control.TheVariants as control
use Rattle.mac_pdu.specs.declared.builder.Sdu.{Sdu}
use Rattle.mac_pdu.specs.Items.{MacItem, front, element, sdu, padding, control_lcid, control_octets}
use Rattle.mac_pdu.specs.Items.{IsControl, sdu_item}
use Rattle.l2_bits.specs.declared.limits.TheConstants.{OCTETS_LIMIT}

-- how many octets a control element has
abbrev pub report_size : Bsr → ℕ
report_size (bsr.Long levels) = 3
report_size _ = 1

abbrev pub control_size : Control → ℕ
control_size (control.Contention id) = 6
control_size (control.Advance value) = 1
control_size control.Drx = 0
control_size (control.Phr level) = 1
control_size (control.Crnti value) = 2
control_size (control.Report report) = report_size report

-- the LCID in the subheader of an item
abbrev pub lcid_of : MacItem → ℕ
lcid_of front = 31
lcid_of (element c) = control_lcid c
lcid_of (sdu lcid octets) = lcid
lcid_of (padding n) = 31

-- F and L: 7 bits where they hold the length
abbrev pub length_field : ℕ → List ℕ
length_field n = if nat_lt n 128 then n ∷ [] else (128 + n / 256) ∷ (n % 256) ∷ []

-- a subheader that another follows
abbrev pub inner : MacItem → List ℕ
inner (sdu lcid octets) = (32 + lcid) ∷ length_field (length octets)
inner front = 63 ∷ []
inner (element c) = (32 + control_lcid c) ∷ []
inner (padding n) = 63 ∷ []

-- the subheaders of items
abbrev pub headers : List MacItem → List ℕ
headers [] = []
headers (p ∷ []) = lcid_of p ∷ []
headers (p ∷ q ∷ ps) = inner p ++ headers (q ∷ ps)

-- the octets of an item
abbrev pub payload : MacItem → List ℕ
payload front = []
payload (element c) = control_octets c
payload (sdu lcid octets) = octets
payload (padding n) = replicate n 0

-- the octets of items: all subheaders, then all payloads
abbrev pub writing : List MacItem → List ℕ
writing ps = headers ps ++ flat_map payload ps

-- how many octets an item takes where another follows
abbrev pub item_size : MacItem → ℕ
item_size front = 1
item_size (element c) = 1 + control_size c
item_size (sdu lcid octets) = 1 + length (length_field (length octets)) + length octets
item_size (padding n) = 1 + n

abbrev pub full_size : List MacItem → ℕ
full_size ps = sum_by item_size ps

-- the items with the padding that fills a block of so many octets: one or two octets of it stand in
-- front of the others, more stand at the end
abbrev pub padded : List MacItem → ℕ → List MacItem
padded [] size = padding (size - 1) ∷ []
padded (p ∷ ps) size =
    let spare = size - length (writing (p ∷ ps)) in
    if nat_le spare 2 then replicate spare front ++ (p ∷ ps)
    else (p ∷ ps) ++ padding (size - 1 - full_size (p ∷ ps)) ∷ []

-- the block of so many octets that is canonical for items without padding
abbrev pub canonical : List MacItem → ℕ → List ℕ
canonical items size = writing (padded items size)

-- how many octets the last SDU needs less where none follows
abbrev pub saved : List Sdu → ℕ
saved [] = 0
saved (s ∷ []) = length (length_field (length s.octets))
saved (s ∷ t ∷ ss) = saved (t ∷ ss)

-- what an SDU of a block may be
pub record IsSdu (s : Sdu) : Type 0 where
  pub lcid : s.lcid ≤ 10
  pub octets : 1 ≤ length s.octets
  pub short : length s.octets < 2 ^ 15

-- what a builder was given
pub record Parts : Type 0 where
  pub direction : Direction
  pub controls : List Control
  pub sdus : List Sdu

-- the items that a builder was given
abbrev pub items_of : Parts → List MacItem
items_of b = map element b.controls ++ map sdu_item b.sdus

-- a control element more
abbrev pub with_control : Control → Parts → Parts
with_control c b = record b { controls = b.controls ++ c ∷ [] }

-- what a builder holds may stand in a block
pub record IsBuilder (b : Parts) : Type 0 where
  pub controls : All (IsControl b.direction) b.controls
  pub sdus : All IsSdu b.sdus
  pub short : length (writing (items_of b)) < OCTETS_LIMIT
