-- What a PDU holds once it is deciphered and its MAC-I is checked (TS 36.323 5.6, 5.7).
use Rattle.std.specs.Prelude.{ℕ, ◌-◌, ◌≤◌, if◌then◌else◌, List, ◌++◌, length, take, drop, bytes_eq}
use Rattle.pdcp_pdu.specs.declared.PdcpKind.{PdcpKind}
use Rattle.pdcp_pdu.specs.declared.PdcpKind.TheVariants.{Srb, Um, Am}
use Rattle.pdcp_sec.specs.Protection.{Protection, ciphered_with, tag_of}
use Rattle.pdcp_rx.specs.declared.security.Opened.{Opened}
use Rattle.pdcp_rx.specs.declared.security.Opened.TheVariants.{Sdu, Differs}

-- of a signalling bearer, all behind the first octet is ciphered
unfoldable pub plain_srb : Protection → ℕ → List ℕ → List ℕ
plain_srb p count pdu = take 1 pdu ++ ciphered_with p count (drop 1 pdu)

-- the last four octets are the MAC-I of all before them, the header among it
unfoldable pub checked : Protection → ℕ → List ℕ → Opened
checked p count plain =
    if bytes_eq (drop (length plain - 4) plain) (tag_of p count (take (length plain - 4) plain))
    then Sdu (drop 1 (take (length plain - 4) plain))
    else Differs (drop (length plain - 4) plain) (tag_of p count (take (length plain - 4) plain))

-- the data part of a data bearer's PDU, or a whole PDU of a signalling bearer
unfoldable pub opened : PdcpKind → Protection → ℕ → List ℕ → Opened
opened Srb p count pdu = checked p count (plain_srb p count pdu)
opened (Um bits) p count text = Sdu (ciphered_with p count text)
opened (Am bits) p count text = Sdu (ciphered_with p count text)

-- a PDU of a signalling bearer has a header, data and a MAC-I
abbrev pub IsLong : PdcpKind → List ℕ → Type 0
IsLong Srb pdu = 6 ≤ length pdu
IsLong (Um bits) text = Unit {0}
IsLong (Am bits) text = Unit {0}
