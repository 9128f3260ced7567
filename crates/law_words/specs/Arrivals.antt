-- Which COUNTs have come, told through the lives of an acknowledged data bearer in one direction:
-- by the PDUs that PDCP gave RLC, by those that RLC wrote, and by those that came (TS 36.322
-- 5.1.3.2, 5.4, TS 36.323 5.1.2.1.2, 5.2).
use Rattle.std.specs.Prelude.{ℕ, Option, Bool, List, false, [], map, ◌==◌, Some, None, ◌+◌, ◌&&◌}
use Rattle.std.specs.Prelude.{◌||◌, ◌∷◌, ◌++◌}
use Rattle.law_words.specs.Passing.{Passing, Told, nothing_told, with_passing}
use Rattle.law_words.specs.Stretches.{has_arrived}

-- a PDU of PDCP: its COUNT, which a status report doesn't have, and how many octets it has
pub record Given : Type 0 where
  pub count : Option ℕ
  pub size : ℕ

pub data AccountEntry : Type 0 where
  -- PDCP gives RLC a PDU
  Gives : Given → AccountEntry
  -- RLC writes a PDU, or one comes to it
  Passes : Passing → AccountEntry
  -- the life ends, and the next one begins
  Renews : AccountEntry

-- in the life that runs: what RLC was given, and what its PDUs tell; and the COUNTs whose PDUs
-- arrived whole in a life that ended
pub record Account : Type 0 where
  pub given : List Given
  pub rlc : Told
  pub ended : ℕ → Bool

abbrev pub no_account : Account
no_account = record { given = []; rlc = nothing_told; ended = λ count. false }

-- all octets of what RLC was given at a place have come
abbrev pub has_place : Account → ℕ → Bool
has_place a place = has_arrived (map (λ (g : Given). g.size) a.given) a.rlc.fields a.rlc.came place

abbrev pub is_count : Option ℕ → ℕ → Bool
is_count None count = false
is_count (Some own) count = own == count

-- of PDUs at places from one on, one with the COUNT has arrived
abbrev pub whole_in : (ℕ → Bool) → ℕ → List Given → ℕ → Bool
whole_in arrived place [] count = false
whole_in arrived place (g ∷ given) count =
    (arrived place && is_count g.count count) || whole_in arrived (place + 1) given count

-- and so have all before it
abbrev pub sequence_in : (ℕ → Bool) → ℕ → List Given → ℕ → Bool
sequence_in arrived place [] count = false
sequence_in arrived place (g ∷ given) count =
    arrived place && (is_count g.count count || sequence_in arrived (place + 1) given count)

-- the PDU of a COUNT arrived whole in a life that ended, or with all before it in the one that runs
abbrev pub has_come : Account → ℕ → Bool
has_come a count = a.ended count || sequence_in (has_place a) 0 a.given count

abbrev pub renewed : Account → Account
renewed a =
    record {
      given = [];
      rlc = nothing_told;
      ended = λ count. a.ended count || whole_in (has_place a) 0 a.given count;
    }

abbrev pub accounted : AccountEntry → Account → Account
accounted (Gives g) a = record a { given = a.given ++ g ∷ [] }
accounted (Passes p) a = record a { rlc = with_passing p a.rlc }
accounted Renews a = renewed a

abbrev pub account : List AccountEntry → Account → Account
account [] a = a
account (h ∷ hs) a = account hs (accounted h a)
