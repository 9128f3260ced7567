-- The accepting grammar of a MAC PDU (TS 36.321 6.1.2, 6.1.3 and 6.2.1): R bits and the octets of
-- padding are free, and a length has either form.
use Rattle.std.specs.Prelude.{◌≡◌, ℕ, ◌+◌, ◌*◌, ◌/◌, ◌%◌, ◌<◌, ◌≤◌, ◌^◌, ◌⊎◌, Bool, true, false}
use Rattle.std.specs.Prelude.{List, [], ◌∷◌, ◌++◌, length}
use Rattle.mac_pdu.specs.declared.item.Direction.{Direction}
use Rattle.mac_pdu.specs.declared.item.Control.{Control}
use Rattle.mac_pdu.specs.declared.item.Control.TheVariants as control
use Rattle.mac_pdu.specs.Items.{MacItem, front, element, sdu, padding, control_lcid, report_octets}
use Rattle.mac_pdu.specs.Items.{IsControl, IsOrdered}

-- the E bit
abbrev pub bit : Bool → ℕ
bit true = 1
bit false = 0

-- F and L: 0 and 7 bits, or 1 and 15 bits
abbrev pub IsLength : ℕ → List ℕ → Type 0
IsLength n octets =
    ((n < 128) × (octets ≡ n ∷ [])) ⊎ ((n < 2 ^ 15) × (octets ≡ (128 + n / 256) ∷ (n % 256) ∷ []))

-- a subheader: R R E LCID(5), and what follows these
pub record BeginsWith (more : Bool) (lcid : ℕ) (tail octets : List ℕ) : Type 0 where
  pub free : ℕ
  pub two_bits : free < 4
  pub octets_are : octets ≡ (64 * free + 32 * bit more + lcid) ∷ tail

-- the subheader of an item that another follows
abbrev pub IsInner : Direction → MacItem → List ℕ → Type 0
IsInner direction front octets = BeginsWith true 31 [] octets
IsInner direction (element c) octets = IsControl direction c
    × BeginsWith true (control_lcid c) [] octets
IsInner direction (sdu lcid payload) octets =
    (tail : List ℕ) × (lcid ≤ 10) × IsLength (length payload) tail
    × BeginsWith true lcid tail octets
IsInner direction (padding n) octets = ⊥

-- the subheader of the last item
abbrev pub IsLast : Direction → MacItem → List ℕ → Type 0
IsLast direction front octets = ⊥
IsLast direction (element c) octets = IsControl direction c
    × BeginsWith false (control_lcid c) [] octets
IsLast direction (sdu lcid payload) octets = (lcid ≤ 10) × BeginsWith false lcid [] octets
IsLast direction (padding n) octets = BeginsWith false 31 [] octets

-- the subheaders of items, in their order
abbrev pub IsHeader : Direction → List MacItem → List ℕ → Type 0
IsHeader direction [] octets = ⊥
IsHeader direction (p ∷ []) octets = IsLast direction p octets
IsHeader direction (p ∷ q ∷ ps) octets =
    (first : List ℕ) × (rest : List ℕ) × (octets ≡ first ++ rest)
    × IsInner direction p first × IsHeader direction (q ∷ ps) rest

-- R R and a value of six bits
abbrev pub IsSixBits : ℕ → List ℕ → Type 0
IsSixBits value octets = (free : ℕ) × (free < 4) × (octets ≡ (64 * free + value) ∷ [])

-- the octets of a control element (TS 36.321 6.1.3)
abbrev pub IsElement : Control → List ℕ → Type 0
IsElement (control.Contention id) octets = octets ≡ id
IsElement (control.Advance value) octets = IsSixBits value octets
IsElement control.Drx octets = octets ≡ []
IsElement (control.Phr level) octets = IsSixBits level octets
IsElement (control.Crnti value) octets = octets ≡ (value / 256) ∷ (value % 256) ∷ []
IsElement (control.Report report) octets = octets ≡ report_octets report

-- the octets of an item; those of padding are free
abbrev pub IsPayload : MacItem → List ℕ → Type 0
IsPayload front octets = octets ≡ []
IsPayload (element c) octets = IsElement c octets
IsPayload (sdu lcid payload) octets = octets ≡ payload
IsPayload (padding n) octets = length octets ≡ n

-- the octets from the last item's on: behind a last control element may stand more, which belong to
-- no item
abbrev pub IsEnd : MacItem → List ℕ → Type 0
IsEnd front octets = octets ≡ []
IsEnd (element c) octets = (first : List ℕ) × (rest : List ℕ) × (octets ≡ first ++ rest)
    × IsElement c first
IsEnd (sdu lcid payload) octets = octets ≡ payload
IsEnd (padding n) octets = length octets ≡ n

-- the octets of items, in their order
abbrev pub IsBody : List MacItem → List ℕ → Type 0
IsBody [] octets = ⊥
IsBody (p ∷ []) octets = IsEnd p octets
IsBody (p ∷ q ∷ ps) octets =
    (first : List ℕ) × (rest : List ℕ) × (octets ≡ first ++ rest) × IsPayload p first
    × IsBody (q ∷ ps) rest

-- a MAC PDU and its items
pub record MacPdu (direction : Direction) (items : List MacItem) (octets : List ℕ) : Type 0 where
  pub header : List ℕ
  pub body : List ℕ
  pub block : octets ≡ header ++ body
  pub ordered : IsOrdered items
  pub subheaders : IsHeader direction items header
  pub payloads : IsBody items body
