-- What ciphers and protects the PDUs of a bearer in one direction, in one life (TS 36.323 5.6,
-- 5.7).
use Rattle.std.specs.Prelude.{ℕ, List}
use Rattle.eps_sec.specs.declared.Cipher.{Cipher}
use Rattle.eps_sec.specs.declared.Key.{Key}
use Rattle.eps_sec.specs.declared.Keys.{Keys}
use Rattle.eps_sec.specs.Modes.{ciphered, eia2}
use Rattle.pdcp_pdu.specs.declared.PdcpKind.{PdcpKind}
use Rattle.pdcp_pdu.specs.declared.PdcpKind.TheVariants.{Srb, Um, Am}

-- the cipher and its key, the key of integrity, and BEARER and DIRECTION (TS 33.401 B.1.1, B.2.1)
pub record Protection : Type 0 where
  pub cipher : Cipher
  pub key : List ℕ
  pub integrity : List ℕ
  pub bearer : ℕ
  pub direction : ℕ

-- signalling is ciphered under a key of its own (TS 33.401 6.2.3)
abbrev pub key_of : PdcpKind → Keys → Key
key_of Srb keys = keys.rrc
key_of (Um bits) keys = keys.user
key_of (Am bits) keys = keys.user

abbrev pub protection_of : PdcpKind → Keys → ℕ → ℕ → Protection
protection_of kind keys bearer direction = record {
  cipher = keys.alg;
  key = (key_of kind keys).octets;
  integrity = keys.integrity.octets;
  bearer = bearer;
  direction = direction;
}

-- a text ciphered under a COUNT, or deciphered, which is the same (TS 36.323 5.6)
unfoldable pub ciphered_with : Protection → ℕ → List ℕ → List ℕ
ciphered_with p count text = ciphered p.cipher p.key count p.bearer p.direction text

-- the MAC-I of a message (TS 36.323 5.7)
unfoldable pub tag_of : Protection → ℕ → List ℕ → List ℕ
tag_of p count message = eia2 p.integrity count p.bearer p.direction message
