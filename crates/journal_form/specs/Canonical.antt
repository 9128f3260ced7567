-- How a block that is read is tested without writing it again: what the grammar leaves free in its
-- octets is as in the canonical writing (TS 36.321 6.1.2, 6.2.1).
use Rattle.std.specs.Prelude.{ℕ, ◌==◌, nat_lt, nat_le, Bool, true, false, ◌&&◌, ◌||◌, not, List}
use Rattle.std.specs.Prelude.{[], ◌∷◌, length, take, drop, Option, Some, None, if◌then◌else◌}
use Rattle.std.specs.Prelude.{slice_index}
use Rattle.std.specs.Str.{bytes_eq}
use Rattle.mac_pdu.specs.declared.item.Control.{Control}
use Rattle.mac_pdu.specs.declared.item.Control.TheVariants as control
use Rattle.mac_pdu.specs.Items.{MacItem, front, element, sdu, padding}
use Rattle.mac_pdu.specs.Writing.{control_size}

-- ---- subheaders

-- whether an item is no SDU for which there is no length
abbrev pub is_short : MacItem → Bool
is_short (sdu lcid octets) = nat_lt (length octets) 32768
is_short front = true
is_short (element c) = true
is_short (padding n) = true

abbrev pub are_short : List MacItem → Bool
are_short [] = true
are_short (p ∷ ps) = is_short p && are_short ps

-- what stands behind F and L, where a length below 128 has 7 bits
abbrev pub behind_length : ℕ → List ℕ → Option (List ℕ)
behind_length n [] = None
behind_length n (f ∷ []) = if nat_lt n 128 && nat_lt f 128 then Some [] else None
behind_length n (f ∷ l ∷ os) =
    if nat_lt n 128 then (if nat_lt f 128 then Some (l ∷ os) else None) else Some os

abbrev pub behind_inner : MacItem → List ℕ → Option (List ℕ)
behind_inner (sdu lcid octets) os = behind_length (length octets) os
behind_inner front os = Some os
behind_inner (element c) os = Some os
behind_inner (padding n) os = Some os

-- what stands behind the subheader of an item, where its R bits are 0
abbrev pub behind_subheader : MacItem → Option (List ℕ) → Option (List ℕ)
behind_subheader p None = None
behind_subheader p (Some []) = None
behind_subheader p (Some (o ∷ os)) =
    if nat_lt o 32 then Some os else if nat_lt o 64 then behind_inner p os else None

abbrev pub behind_subheaders : List MacItem → Option (List ℕ) → Option (List ℕ)
behind_subheaders [] rest = rest
behind_subheaders (p ∷ ps) rest = behind_subheaders ps (behind_subheader p rest)

-- ---- what stands behind them

abbrev pub payload_size : MacItem → ℕ
payload_size front = 0
payload_size (element c) = control_size c
payload_size (sdu lcid octets) = length octets
payload_size (padding n) = n

-- each octet is as the one before it, and the first is 0
abbrev pub are_zero : List ℕ → Bool
are_zero [] = true
are_zero (o ∷ os) = (o == 0) && bytes_eq os (take (length os) (o ∷ os))

abbrev pub is_clear_element : Control → List ℕ → Bool
is_clear_element (control.Advance value) octets = nat_lt (slice_index octets 0) 64
is_clear_element (control.Phr level) octets = nat_lt (slice_index octets 0) 64
is_clear_element (control.Contention id) octets = true
is_clear_element control.Drx octets = true
is_clear_element (control.Crnti value) octets = true
is_clear_element (control.Report report) octets = true

-- R bits and the octets of padding are 0, and an SDU has octets
abbrev pub is_clear : MacItem → List ℕ → Bool
is_clear front octets = true
is_clear (element c) octets = is_clear_element c octets
is_clear (sdu lcid payload) octets = nat_lt 0 (length payload)
is_clear (padding n) octets = are_zero octets

abbrev pub behind_payload : MacItem → Option (List ℕ) → Option (List ℕ)
behind_payload p None = None
behind_payload p (Some os) =
    if nat_le (payload_size p) (length os) && is_clear p (take (payload_size p) os)
    then Some (drop (payload_size p) os) else None

abbrev pub behind_payloads : List MacItem → Option (List ℕ) → Option (List ℕ)
behind_payloads [] rest = rest
behind_payloads (p ∷ ps) rest = behind_payloads ps (behind_payload p rest)

-- nothing stands behind the last item
abbrev pub are_all : Option (List ℕ) → Bool
are_all None = false
are_all (Some os) = length os == 0

-- ---- padding

-- how many octets padding at the end has at least behind an item: less of it stands in front
abbrev pub least_behind : ℕ → MacItem → ℕ
least_behind least front = least
least_behind least (element c) = 2
least_behind least (sdu lcid octets) = if nat_lt (length octets) 128 then 1 else 0
least_behind least (padding n) = least

abbrev pub is_front : MacItem → Bool
is_front front = true
is_front (element c) = false
is_front (sdu lcid octets) = false
is_front (padding n) = false

-- `fronted`: padding stands in front
abbrev pub may_stand : Bool → ℕ → MacItem → Bool
may_stand fronted least (padding n) = not fronted && nat_le least n
may_stand fronted least front = true
may_stand fronted least (element c) = true
may_stand fronted least (sdu lcid octets) = true

abbrev pub are_placed : Bool → ℕ → List MacItem → Bool
are_placed fronted least [] = true
are_placed fronted least (p ∷ ps) =
    may_stand fronted least p && are_placed (fronted || is_front p) (least_behind least p) ps
