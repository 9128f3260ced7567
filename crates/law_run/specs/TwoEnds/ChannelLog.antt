-- What an end logs of a channel in a call is what its bearer logs in calls of its own
-- (docs/formats/JOURNAL.md; TS 36.321 5.4.3).
use Rattle.std.specs.Prelude.{◌≡◌, ℕ, ◌≤◌, Bool, true, ◌&&◌, if◌then◌else◌, List, [], ◌∷◌, ◌++◌}
use Rattle.std.specs.Prelude.{map}
use Rattle.bearer_types.specs.declared.event.Event.{Event}
use Rattle.bearer_types.specs.Sides.{heard_by, is_same, sent_by}
use Rattle.harq.specs.declared.sender.Visit.TheVariants.{New}
use Rattle.l2_node.specs.Building.{visit}
use Rattle.l2_node.specs.End.{End, fresh}
use Rattle.l2_node.specs.Finding.{has}
use Rattle.l2_types.specs.declared.side.Side.{Side}
use Rattle.law_deliver.specs.AmChannel.Lives.{AirStep, all_calls, end_at}
use Rattle.law_deliver.specs.AmFlow.Air.{Air}
use Rattle.law_deliver.specs.AmFlow.Channels.{calls_of, GoesOnInLife}
use Rattle.law_deliver.specs.AmFlow.Ups.{AreNew}
use Rattle.law_node.specs.Calls.{Call, Visits, IsGiven, AreGiven, reached}
use Rattle.law_node.specs.Holding.{flow}
use Rattle.promises.specs.Events.{is_on}
use Rattle.promises.specs.Pdus.{carried}
use Rattle.law_run.specs.TwoEnds.Logs.{LogEntry, log_in, Tells as EndTells, Builds, Hears, log_of}
use Rattle.law_run.specs.TwoEnds.Logs.{log_over}
use Rattle.law_run.specs.TwoEnds.SenderLog.{BearerEntry, Tells, Writes, Comes, telling, writing}
use Rattle.law_run.specs.TwoEnds.SenderLog.{bearer_logs}

abbrev pub coming : List (List ℕ) → List BearerEntry
coming pdus = map (λ (octets : List ℕ). Comes octets) pdus

-- ---- of what ends log, what a side logs of a channel

abbrev pub on_channel_at : ℕ → Side → LogEntry → List BearerEntry
on_channel_at l side (EndTells s e) = if is_same s side && is_on l e then Tells e ∷ [] else []
on_channel_at l side (Builds s process octets) =
    if is_same s side then writing (carried l (sent_by s) octets) else []
on_channel_at l side (Hears s process octets) =
    if is_same s side then coming (carried l (heard_by s) octets) else []

abbrev pub on_channel : ℕ → Side → List LogEntry → List BearerEntry
on_channel l side [] = []
on_channel l side (x ∷ xs) = on_channel_at l side x ++ on_channel l side xs

-- ---- of what a bearer logs, first what comes, then what is told, and then what is written

abbrev pub come_in : List BearerEntry → List (List ℕ)
come_in [] = []
come_in (Tells e ∷ es) = come_in es
come_in (Writes octets ∷ es) = come_in es
come_in (Comes octets ∷ es) = octets ∷ come_in es

abbrev pub told_in : List BearerEntry → List Event
told_in [] = []
told_in (Tells e ∷ es) = e ∷ told_in es
told_in (Writes octets ∷ es) = told_in es
told_in (Comes octets ∷ es) = told_in es

abbrev pub written_in : List BearerEntry → List (List ℕ)
written_in [] = []
written_in (Tells e ∷ es) = written_in es
written_in (Writes octets ∷ es) = octets ∷ written_in es
written_in (Comes octets ∷ es) = written_in es

abbrev pub parted : List BearerEntry → List BearerEntry
parted es = coming (come_in es) ++ (telling (told_in es) ++ writing (written_in es))

-- ---- the law

-- a new block has room
abbrev pub HasRoom : End → Call → Type 0
HasRoom e (Visits t) = visit t.tti t.order e ≡ New → 1 ≤ t.grant
HasRoom e c = Unit {0}

abbrev pub EndsLogOnChannels : Type 0
EndsLogOnChannels = (side : Side) (maximum : ℕ) (reports : Bool) (past : List Call) (c : Call)
    (l process : ℕ) → AreGiven past → AreNew l past (fresh side maximum reports) → IsGiven c
    → GoesOnInLife l c → has l (reached side maximum reports past).bearers ≡ true
    → HasRoom (reached side maximum reports past) c
    → on_channel l side (log_in side process (reached side maximum reports past) c)
    ≡ parted (bearer_logs l (flow l (reached side maximum reports past))
    (calls_of l (reached side maximum reports past) c))

-- ---- in steps of both ends: of what they log in one order a side logs what its own calls do

abbrev pub SidesLogTheirCalls : Type 0
SidesLogTheirCalls = (l process : ℕ) (side : Side) (steps : List AirStep) (a : Air)
    → on_channel l side (log_of steps a)
    ≡ on_channel l side (log_over side process (all_calls side steps a) (end_at side a))
