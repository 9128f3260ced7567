-- The PDUs of a sender: what its kind settles, and how an SDU is ciphered and protected (TS 36.323
-- 5.6, 5.7).
use Rattle.std.specs.Prelude.{ℕ, ◌-◌, ◌%◌, ◌^◌, ◌==◌, if◌then◌else◌, List, ◌++◌}
use Rattle.pdcp_pdu.specs.declared.pdu.PdcpKind.{PdcpKind}
use Rattle.pdcp_pdu.specs.declared.pdu.PdcpKind.TheVariants.{Srb, Um, Am}
use Rattle.pdcp_pdu.specs.Pdus.{Sdu}
use Rattle.pdcp_pdu.specs.Grammar.{user_spelling, srb_header}
use Rattle.pdcp_pdu.specs.Kinds.{bits_of}
use Rattle.pdcp_sec.specs.Protection.{Protection, ciphered_with, tag_of}

-- how many sequence numbers there are
abbrev pub modulus : PdcpKind → ℕ
modulus kind = 2 ^ bits_of kind

-- the octets of a PDU beside those of its SDU: its header, and the MAC-I (TS 36.323 6.2.2 to 6.2.4)
abbrev pub extra : PdcpKind → ℕ
extra Srb = 5
extra (Um bits) = if bits == 7 then 1 else 2
extra (Am bits) = 2

-- how far above the first unconfirmed COUNT an SDU is taken: half the sequence numbers (TS 36.323
-- 5.9)
abbrev pub width : PdcpKind → ℕ
width Srb = 2 ^ 32
width (Um bits) = 2 ^ 32
width (Am bits) = 2 ^ (bits - 1)

-- the MAC-I, over the header and the plain SDU (TS 36.323 5.7)
unfoldable pub mac_i : Protection → ℕ → List ℕ → List ℕ
mac_i p count sdu = tag_of p count (srb_header 0 (count % 32) ++ sdu)

-- the PDU of an SDU: the SN is the COUNT's low bits, the header is plain, what follows is ciphered
-- (TS 36.323 6.2.2 to 6.2.4)
unfoldable pub pdu : PdcpKind → Protection → ℕ → List ℕ → List ℕ
pdu Srb p count sdu = srb_header 0 (count % 32) ++ ciphered_with p count (sdu ++ mac_i p count sdu)
pdu (Um bits) p count sdu = user_spelling bits (Sdu (count % 2 ^ bits) (ciphered_with p count sdu))
pdu (Am bits) p count sdu = user_spelling bits (Sdu (count % 2 ^ bits) (ciphered_with p count sdu))
