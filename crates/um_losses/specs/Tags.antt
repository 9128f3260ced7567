-- Tags in the place of octets (TS 36.322 5.1.2.2). A receiver that hears the same PDUs with a tag
-- for each element hands up the same SDUs at the same moments, and what it hands up ends with the
-- tag of the element that ends the SDU. A tag is one above the COUNT of its element's SDU, or 0
-- where the element is forged.
use Rattle.std.specs.Prelude.{ℕ, zero, suc, ◌+◌, ◌-◌, nat_lt, if◌then◌else◌, List, [], ◌∷◌, length}
use Rattle.std.specs.Prelude.{drop, Option, Some, None}
use Rattle.std.specs.Int.{to_be_bytes, from_be_bytes, w64}
use Rattle.rlc_pdu.specs.Pdus.{UmdPdu}
use Rattle.um_losses.specs.declared.pdu.Pdu.{Pdu}

unfoldable pub octets_of : ℕ → List ℕ
octets_of tag = to_be_bytes w64 tag

-- the tag that ends an SDU
unfoldable pub last_tag : List ℕ → ℕ
last_tag sdu = if nat_lt (length sdu) 8 then 0 else from_be_bytes w64 (drop (length sdu - 8) sdu)

-- so many tags, each above the one before by a step
abbrev pub tags : ℕ → ℕ → ℕ → List (List ℕ)
tags tag step zero = []
tags tag step (suc n) = octets_of tag ∷ tags (tag + step) step n

-- the elements of a PDU as tags: of SDUs with COUNTs from a first one on, or forged
abbrev pub elements : Option ℕ → ℕ → List (List ℕ)
elements (Some first) n = tags (first + 1) 1 n
elements None n = tags 0 0 n

abbrev pub tagged : Option ℕ → Pdu → UmdPdu
tagged first p = record { sn = p.sn; fi = p.fi; elements = elements first p.elements }
