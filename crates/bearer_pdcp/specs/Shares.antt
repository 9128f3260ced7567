-- What a bearer writes within its share of a grant (TS 36.321 5.4.3.1).
use Rattle.std.specs.Prelude.{ℕ, ◌+◌, ◌≤◌, List, length, All, sum_by}

-- the octets of PDUs in a block, with 3 for the subheader of each
abbrev pub in_block : List (List ℕ) → ℕ
in_block pdus = sum_by (λ pdu. length pdu + 3) pdus

-- each PDU has an octet or more, and with their subheaders they are within a share
pub record FitsShare (share : ℕ) (pdus : List (List ℕ)) : Type 0 where
  pub some : All (λ pdu. 1 ≤ length pdu) pdus
  pub within : in_block pdus ≤ share
