-- Laws over the grammar, the refusals and the canonical writing alone (TS 36.321 6.1.2).
use Rattle.std.specs.Prelude.{◌≡◌, ℕ, ◌<◌, ◌≤◌, ◌^◌, Bool, true, false, List, [], ◌∷◌, ◌++◌, ◌+◌}
use Rattle.std.specs.Prelude.{length, Ok}
use Rattle.mac_pdu.specs.declared.item.Direction.{Direction}
use Rattle.mac_pdu.specs.declared.fault.MacRefusal.{MacRefusal}
use Rattle.mac_pdu.specs.Items.{MacItem, front, element, sdu, padding, IsControl, IsOrdered}
use Rattle.mac_pdu.specs.Grammar.{MacPdu}
use Rattle.mac_pdu.specs.Refusals.{MacRefused}
use Rattle.mac_pdu.specs.Writing.{Parts, IsBuilder, items_of, payload, writing, padded, canonical}
use Rattle.mac_pdu.specs.Reading.{reading}

-- the fields of an item that another follows (true), or that none follows
abbrev pub IsItem : Direction → Bool → MacItem → Type 0
IsItem direction true front = Unit {0}
IsItem direction false front = ⊥
IsItem direction more (element c) = IsControl direction c
IsItem direction true (sdu lcid octets) = (lcid ≤ 10) × (length octets < 2 ^ 15)
IsItem direction false (sdu lcid octets) = lcid ≤ 10
IsItem direction true (padding n) = ⊥
IsItem direction false (padding n) = Unit {0}

-- the fields of all items of a block
abbrev pub AreItems : Direction → List MacItem → Type 0
AreItems direction [] = ⊥
AreItems direction (p ∷ []) = IsItem direction false p
AreItems direction (p ∷ q ∷ ps) = IsItem direction true p × AreItems direction (q ∷ ps)

-- items that are written are the items that are read
abbrev pub ReadsWhatWasWritten : Type 0
ReadsWhatWasWritten = (direction : Direction) (items : List MacItem) → AreItems direction items
    → IsOrdered items → MacPdu direction items (writing items)

-- a block has one list of items
abbrev pub ReadsOneList : Type 0
ReadsOneList = (direction : Direction) (items others : List MacItem) (octets : List ℕ)
    → MacPdu direction items octets → MacPdu direction others octets → items ≡ others

-- a block that has items isn't refused
abbrev pub NeverBoth : Type 0
NeverBoth = (direction : Direction) (items : List MacItem) (octets : List ℕ) (refusal : MacRefusal)
    → MacPdu direction items octets → MacRefused direction octets refusal → ⊥

-- what may stand in a block of so many octets
pub record Fits (parts : Parts) (size : ℕ) : Type 0 where
  pub held : IsBuilder parts
  pub room : length (writing (items_of parts)) ≤ size
  pub some : 1 ≤ size

-- a canonical block has its size, and its items are read from it
pub record IsCanonical (parts : Parts) (size : ℕ) : Type 0 where
  pub size_is : length (canonical (items_of parts) size) ≡ size
  pub read : MacPdu parts.direction (padded (items_of parts) size) (canonical (items_of parts) size)
  pub again : reading parts.direction (canonical (items_of parts) size)
      ≡ Ok (padded (items_of parts) size)

abbrev pub CanonicalFits : Type 0
CanonicalFits = (parts : Parts) (size : ℕ) → Fits parts size → IsCanonical parts size

-- no two lists of items have one canonical block of one size
abbrev pub CanonicalDiffers : Type 0
CanonicalDiffers = (parts others : Parts) (size : ℕ) → parts.direction ≡ others.direction
    → Fits parts size → Fits others size
    → canonical (items_of parts) size ≡ canonical (items_of others) size → parts ≡ others

-- an item more needs at most its octets and three more
abbrev pub WritingGrows : Type 0
WritingGrows = (items : List MacItem) (one : MacItem)
    → length (writing (items ++ one ∷ [])) ≤ length (writing items) + 3 + length (payload one)
