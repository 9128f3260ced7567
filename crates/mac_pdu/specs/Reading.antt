-- The items of a block that is not refused, as subheaders and payloads give them (TS 36.321 6.1.2).
-- `MacPdu` says the same by cases.
use Rattle.std.specs.Prelude.{ℕ, Bool, List, [], ◌∷◌, Option, Some, None, Result, Ok, Err}
use Rattle.std.specs.Prelude.{if◌then◌else◌, length, take, drop}
use Rattle.mac_pdu.specs.declared.item.Direction.{Direction}
use Rattle.mac_pdu.specs.declared.fault.MacRefusal.{MacRefusal}
use Rattle.mac_pdu.specs.declared.subheader.Subheader.{Subheader}
use Rattle.mac_pdu.specs.declared.subheader.Kind.{Kind}
use Rattle.mac_pdu.specs.declared.subheader.Kind.TheVariants as kind
use Rattle.mac_pdu.specs.Items.{MacItem, front, element, sdu, padding}
use Rattle.mac_pdu.specs.Subheaders.{payload_len, control_of}
use Rattle.mac_pdu.specs.Refusals.{subheaders, header_size, refusal_of}

-- the item of a kind of subheader, with its E bit, its LCID and its payload
abbrev pub kind_item : Kind → Bool → ℕ → List ℕ → MacItem
kind_item kind.Sdu more lcid payload = sdu lcid payload
kind_item (kind.Control e) more lcid payload = element (control_of e payload)
kind_item kind.Padding more lcid payload = if more then front else padding (length payload)
kind_item kind.Reserved more lcid payload = padding (length payload)

-- the item that a subheader and its payload give
unfoldable pub item_of : Subheader → List ℕ → MacItem
item_of s payload = kind_item s.kind s.more s.lcid payload

-- the items that subheaders and the octets behind them give
unfoldable pub items : List Subheader → List ℕ → List MacItem
items [] body = []
items (s ∷ ss) body =
    let n = payload_len s (length body) in
    item_of s (take n body) ∷ items ss (drop n body)

-- the octets of the subheaders after one
abbrev pub behind : Subheader → List ℕ → List ℕ
behind s headers = if s.more then drop s.size headers else []

-- the refusal, or the items where there is none
abbrev pub or_refused : Option MacRefusal → List MacItem → Result (List MacItem) MacRefusal
or_refused (Some refusal) found = Err refusal
or_refused None found = Ok found

-- the items of a block, or why it is refused
unfoldable pub reading : Direction → List ℕ → Result (List MacItem) MacRefusal
reading direction octets =
    let ss = subheaders direction 0 octets in
    or_refused (refusal_of direction octets) (items ss (drop (header_size ss) octets))
