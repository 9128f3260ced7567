-- What PDCP gives RLC, what RLC writes and what comes, as events and blocks tell it (TS 36.323
-- 6.2.3, 6.2.6).
use Rattle.std.specs.Prelude.{ℕ, ◌+◌, Option, Some, None, List, [], ◌∷◌, ◌==◌, if◌then◌else◌}
use Rattle.std.specs.Prelude.{length, map}
use Rattle.std.specs.List.{flat_map}
use Rattle.law_words.specs.Arrivals.{Given, AccountEntry, Gives, Passes}
use Rattle.bearer_types.specs.declared.Event.{Event}
use Rattle.bearer_types.specs.declared.Event.TheVariants.{Take as TakeTold, Report}
use Rattle.law_words.specs.Passing.{Passing, Writes, Comes}

-- ---- what a call of an end's bearer tells: of what it sends, the PDUs that PDCP gives, and those
-- that RLC writes; of what it hears, the PDU that comes

-- a data PDU of acknowledged data has a header of 2 octets, a status report one of 2, or of 3 where
-- numbers have 15 bits (TS 36.323 6.2.3, 6.2.6)
abbrev pub sdu_given : Option ℕ → ℕ → List Given
sdu_given None len = []
sdu_given (Some count) len = record { count = Some count; size = len + 2 } ∷ []

abbrev pub given_in : ℕ → Event → List Given
given_in bits (TakeTold lcid count len) = sdu_given count len
given_in bits (Report lcid fms bitmap) =
    record { count = None; size = (if bits == 12 then 2 else 3) + length bitmap } ∷ []
given_in bits event = []

abbrev pub entries_of : List Given → List AccountEntry
entries_of gs = map (λ g. Gives g) gs

-- what PDCP gives, as events tell it
abbrev pub entries_given : ℕ → List Event → List AccountEntry
entries_given bits events = entries_of (flat_map (given_in bits) events)

abbrev pub entries_passed : List Passing → List AccountEntry
entries_passed ps = map (λ p. Passes p) ps

abbrev pub entries_written : List (List ℕ) → List AccountEntry
entries_written ps = entries_passed (map (λ pdu. Writes pdu) ps)

abbrev pub entries_come : List (List ℕ) → List AccountEntry
entries_come ps = entries_passed (map (λ pdu. Comes pdu) ps)
