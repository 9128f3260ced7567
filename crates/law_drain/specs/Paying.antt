-- A bearer that writes in a round of a drain pays for it, with a data PDU or a STATUS (TS 36.322
-- 5.1.3, 5.2).
use Rattle.std.specs.Prelude.{◌⊎◌, ◌+◌, ◌<◌, ◌≤◌, length}
use Rattle.bearer.specs.Acknowledged.State.{State}
use Rattle.bearer.specs.declared.flow.Flow.TheVariants.{Am}
use Rattle.law_bearer.specs.AnyBearer.Calls.{after_all}
use Rattle.law_bearer.specs.AnyBearer.Rounds.{Round, writes_in, arrivals}
use Rattle.law_drain.specs.Ends.{Stands, CostsBoth, measure_from}
use Rattle.law_drain.specs.Pending.{IsAtTop}

-- the bearer of the base station writes, or that of the terminal behind what came to it
abbrev pub OneWrites : Round → State → State → Type 0
OneWrites r nb ue = (0 < length (writes_in r.down (Am nb)))
    ⊎ (0 < length (writes_in r.up (after_all (Am ue) (arrivals (writes_in r.down (Am nb))))))

-- then both flows together fall, where a round has been before
abbrev pub WritersPay : Type 0
WritersPay = (r : Round) (nb ue : State) (n : Stands nb) (u : Stands ue)
    → (c : CostsBoth r nb ue n u) → IsAtTop nb.rx → IsAtTop ue.rx → OneWrites r nb ue
    → measure_from c.nb' c.nb_stands.lived c.ue' + measure_from c.ue' c.ue_stands.lived c.nb' + 1
    ≤ measure_from nb n.lived ue + measure_from ue u.lived nb
