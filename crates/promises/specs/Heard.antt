-- What the journal tells of a HARQ process, visit by visit (TS 36.321 5.3.2, 5.4.2).
use Rattle.std.specs.Prelude.{Bool, Option, List, false, [], ◌∷◌, None, true, ℕ, Some, ◌%◌, ◌==◌}
use Rattle.std.specs.Prelude.{◌&&◌, if◌then◌else◌}
use Rattle.air_record.specs.declared.record.Arrived.{Arrived}
use Rattle.harq.specs.SendHistory.{Deed, Waited, Built, Resent}
use Rattle.air_record.specs.declared.line.Line.{Line}
use Rattle.air_record.specs.declared.line.Fate.{Fate}
use Rattle.air_record.specs.declared.line.Fate.TheVariants.{Ok, Bad, Miss}
use Rattle.mac_pdu.specs.declared.item.Direction.{Direction}
use Rattle.mac_pdu.specs.declared.item.Direction.TheVariants.{Down, Up}
use Rattle.air_record.specs.declared.record.Record.{Record}
use Rattle.bearer_types.specs.Sides.{is_same_way}
use Rattle.air_text.specs.Groups.{Group, history}
use Rattle.air_record.specs.declared.line.Line.TheVariants as lines
use Rattle.air_record.specs.declared.record.Record.TheVariants as records

-- a visit: what the process did, what came of it at the other end where a block was due, and
-- whether the terminal missed what was sent to it, a block or a grant
pub record Flight : Type 0 where
  pub deed : Deed
  pub came : Option Arrived
  pub missed : Bool

-- of a process: whether the outcome of the running line is a miss, whether the running TTI is its
-- own, and its visits since it was last emptied, the latest first
pub record Heard : Type 0 where
  pub lost : Bool
  pub here : Bool
  pub flights : List Flight

abbrev pub nothing_heard : Heard
nothing_heard = record { lost = false; here = false; flights = [] }

-- ---- what a record tells of the latest visit

abbrev pub at_last : (Flight → Flight) → List Flight → List Flight
at_last tells [] = []
at_last tells (last ∷ past) = tells last ∷ past

-- nothing is told of it yet
abbrev pub idle : Bool → Flight
idle missed = record { deed = Waited; came = None; missed = missed }

-- a terminal that sleeps misses all
abbrev pub sleeps : Flight → Flight
sleeps f = record f { missed = true }

-- a block goes out, new or again
abbrev pub sent : Bool → ℕ → List ℕ → Flight → Flight
sent true version octets f = record f { deed = Built octets false }
sent false version octets f = record f { deed = Resent version octets false }

-- the feedback that the sender reads
abbrev pub answered : Option Bool → Deed → Deed
answered None d = d
answered (Some good) Waited = Waited
answered (Some good) (Built octets before) = Built octets good
answered (Some good) (Resent version octets before) = Resent version octets good

-- what comes of it
abbrev pub lands : Arrived → Option Bool → Flight → Flight
lands what good f = record { deed = answered good f.deed; came = Some what; missed = f.missed }

-- ---- what a line tells

-- it empties all processes
abbrev pub empties : Line → Bool
empties (lines.Handover user rrc integrity) = true
empties (lines.Harq visits) = true
empties line = false

abbrev pub is_miss : Fate → Bool
is_miss Ok = false
is_miss Bad = false
is_miss Miss = true

-- its outcome in a direction is a miss
abbrev pub loses : Direction → Line → Bool
loses Down (lines.Tti up_grant up down_grant down) = is_miss down.fate
loses Up (lines.Tti up_grant up down_grant down) = is_miss up.fate
loses way line = false

-- ---- the history

-- a record, to a process of a direction
abbrev pub hears : Direction → ℕ → Record → Heard → Heard
hears way p (records.Line number line) h =
    record { lost = loses way line; here = false; flights = if empties line then [] else h.flights }
hears way p (records.Tti tti) h =
    if p == tti % 8
    then record { lost = h.lost; here = true; flights = idle h.lost ∷ h.flights }
    else record { lost = h.lost; here = false; flights = h.flights }
hears way p records.Sleep h = if h.here then record h { flights = at_last sleeps h.flights } else h
hears way p (records.Block d process fresh version octets) h =
    if h.here && is_same_way way d
    then record h { flights = at_last (sent fresh version octets) h.flights }
    else h
hears way p (records.Air d what good) h =
    if h.here && is_same_way way d
    then record h { flights = at_last (lands what good) h.flights }
    else h
hears way p one h = h

abbrev pub heard : Direction → ℕ → List Record → Heard → Heard
heard way p [] h = h
heard way p (one ∷ told) h = heard way p told (hears way p one h)

abbrev pub flights : Direction → ℕ → List Group → List Flight
flights way p past = (heard way p (history past) nothing_heard).flights

abbrev pub deeds_of : List Flight → List Deed
deeds_of [] = []
deeds_of (f ∷ past) = f.deed ∷ deeds_of past

abbrev pub deeds : Direction → ℕ → List Group → List Deed
deeds way p past = deeds_of (flights way p past)

-- ---- the most visits of a block: 4, or those of the `harq` line

abbrev pub visits_by : Line → ℕ → ℕ
visits_by (lines.Harq visits) before = visits
visits_by line before = before

abbrev pub visits : List Group → ℕ
visits [] = 4
visits (g ∷ past) = visits_by g.line (visits past)
