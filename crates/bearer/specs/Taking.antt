-- A bearer writes within its share of a grant (TS 36.322 5.1, TS 36.323 5.1.1).
use Rattle.std.specs.Prelude.{ℕ, ◌-◌, List, Option, None}
use Rattle.bearer_types.specs.declared.Event.{Event}
use Rattle.rlc_um.specs.Transparent.{taken as tm_taken, after_take as tm_after}
use Rattle.bearer_pdcp.specs.Telling.{pdus_of, number_of}
use Rattle.bearer.specs.Unacknowledged.Taking.{answer as um_answer, taking as um_taking}
use Rattle.bearer.specs.Unacknowledged.Taking.{after_taking as um_after}
use Rattle.bearer.specs.Acknowledged.Taking.{answer as am_answer, pdus as am_pdus}
use Rattle.bearer.specs.Acknowledged.Taking.{taking as am_taking, after_taking as am_after}
use Rattle.bearer.specs.declared.flow.Flow.{Flow}
use Rattle.bearer.specs.declared.flow.Flow.TheVariants.{Tm, Um, Am}
use Rattle.bearer.specs.Transparent.{data_told}

unfoldable pub pdus : Flow → ℕ → Option ℕ → List (List ℕ)
pdus (Tm b) share held = pdus_of (tm_taken b (share - 3))
pdus (Um b) share held = pdus_of (um_answer b share held)
pdus (Am b) share held = am_pdus b share held

-- the number of the data PDU; a transparent PDU has none
unfoldable pub number : Flow → ℕ → Option ℕ → Option ℕ
number (Tm b) share held = None
number (Um b) share held = number_of (um_answer b share held)
number (Am b) share held = number_of (am_answer b share held)

unfoldable pub told : ℕ → Flow → ℕ → Option ℕ → List Event
told lcid (Tm b) share held = data_told lcid (tm_taken b (share - 3))
told lcid (Um b) share held = um_taking b share held
told lcid (Am b) share held = am_taking b share held

unfoldable pub after : Flow → ℕ → Option ℕ → Flow
after (Tm b) share held = Tm (tm_after b (share - 3))
after (Um b) share held = Um (um_after b share held)
after (Am b) share held = Am (am_after b share held)
