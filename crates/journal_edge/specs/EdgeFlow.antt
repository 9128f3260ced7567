-- What is kept of an unacknowledged flow while what goes up on it is checked, and how what is read
-- and what goes up change it.
use Rattle.std.specs.Prelude.{ℕ, Bool, List, [], ◌∷◌, Option, Some, None}
use Rattle.eps_sec.specs.declared.Keys.{Keys}
use Rattle.pdcp_sec.specs.Protection.{Protection}
use Rattle.journal_edge.specs.UmReading.{ReadSdu, Reader, as_begun, renewed, read_by, behind}
use Rattle.journal_edge.specs.Pairing.{Pairing, nothing_paired, with_read, with_up, is_even}

pub record EdgeFlow : Type 0 where
  pub reader : Reader
  pub pairs : Pairing

-- a bearer begins, with PDCP's SNs of so many bits
abbrev pub flow_begun : ℕ → Protection → EdgeFlow
flow_begun bits p = record { reader = as_begun bits p; pairs = nothing_paired }

abbrev pub pairs_with : Option ReadSdu → Pairing → Pairing
pairs_with None pairs = pairs
pairs_with (Some one) pairs = with_read one.octets pairs

-- RLC hands up an SDU, and PDCP reads it
abbrev pub flow_read : List ℕ → EdgeFlow → EdgeFlow
flow_read sdu f = record {
  reader = behind (read_by f.reader sdu) f.reader;
  pairs = pairs_with (read_by f.reader sdu) f.pairs;
}

abbrev pub flow_all_read : List (List ℕ) → EdgeFlow → EdgeFlow
flow_all_read [] f = f
flow_all_read (sdu ∷ sdus) f = flow_all_read sdus (flow_read sdu f)

-- an SDU goes up
abbrev pub flow_up : List ℕ → EdgeFlow → EdgeFlow
flow_up sdu f = record f { pairs = with_up sdu f.pairs }

-- the group ends: each SDU that was read went up, and nothing else did
abbrev pub flow_right : EdgeFlow → Bool
flow_right f = is_even f.pairs

abbrev pub flow_ended : EdgeFlow → EdgeFlow
flow_ended f = record f { pairs = nothing_paired }

-- a life ends with it, and the next one has other keys
abbrev pub flow_renewed : Keys → EdgeFlow → EdgeFlow
flow_renewed keys f = record f { reader = renewed keys f.reader }
