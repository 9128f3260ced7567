-- SDUs that are put together from places in their order (TS 36.322 5.1.3.2.3, 6.2.2.6).
use Rattle.std.specs.Prelude.{ℕ, Bool, true, false, List, [], ◌∷◌, ◌++◌, Option, Some, None}
use Rattle.std.specs.Prelude.{if◌then◌else◌}
use Rattle.rlc_am_rx_window.specs.Cells.{Cell}

-- SDUs that are whole and haven't gone up, and the octets so far of the next; nothing is known of
-- its beginning behind a gap
pub record Joined : Type 0 where
  pub ready : List (List ℕ)
  pub part : Option (List ℕ)

-- at first an SDU begins
abbrev pub empty : Joined
empty = record { ready = []; part = Some [] }

-- behind a gap an SDU begins where an octet says so
abbrev pub opened : Option (List ℕ) → Bool → Option (List ℕ)
opened (Some os) begins = Some os
opened None begins = if begins then Some [] else None

abbrev pub extended : Option (List ℕ) → List ℕ → Option (List ℕ)
extended None more = None
extended (Some os) more = Some (os ++ more)

abbrev pub some_sdu : Option (List ℕ) → List (List ℕ)
some_sdu None = []
some_sdu (Some os) = os ∷ []

-- where an SDU ends the next begins
abbrev pub closed : Bool → List (List ℕ) → Option (List ℕ) → Joined
closed true ready part = record { ready = ready ++ some_sdu part; part = Some [] }
closed false ready part = record { ready = ready; part = part }

-- the next place
abbrev pub with_place : Joined → Option Cell → Joined
with_place j None = record { ready = j.ready; part = None }
with_place j (Some c) = closed c.ends j.ready (extended (opened j.part c.begins) (c.octet ∷ []))

abbrev pub joined : Joined → List (Option Cell) → Joined
joined j [] = j
joined j (c ∷ cs) = joined (with_place j c) cs

-- a gap
abbrev pub broken : Joined → Joined
broken j = record { ready = j.ready; part = None }

-- octets that are known to go on with what is put together
abbrev pub pending : Joined → List ℕ → Joined
pending j octets = record { ready = j.ready; part = extended j.part octets }
