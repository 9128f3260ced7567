-- What both ends tell, build and hear, in one order, and how records tell it
-- (docs/formats/JOURNAL.md).
use Rattle.std.specs.Prelude.{◌≡◌, true, false, ℕ, ◌%◌, if◌then◌else◌, List, [], ◌∷◌, ◌++◌, map}
use Rattle.std.specs.Prelude.{Option, Some, None, slice_get}
use Rattle.air_record.specs.declared.record.Record.{Record}
use Rattle.air_record.specs.declared.record.Record.TheVariants as records
use Rattle.bearer_types.specs.declared.event.Event.{Event}
use Rattle.bearer_types.specs.Sides.{other, is_same, sender_of}
use Rattle.l2_node.specs.End.{End}
use Rattle.l2_types.specs.declared.side.Side.{Side}
use Rattle.l2_types.specs.declared.side.Side.TheVariants.{Nb, Ue}
use Rattle.law_deliver.specs.AmChannel.Arrival.{built_in}
use Rattle.law_deliver.specs.AmChannel.Lives.{AirStep, InLife, Moves, lives_on}
use Rattle.law_deliver.specs.AmFlow.Air.{Block, Station, Air, Act, Calls, Comes, Goes, AtNb, AtUe}
use Rattle.law_deliver.specs.AmFlow.Air.{Passes}
use Rattle.law_node.specs.Calls.{Call, Visits, Receive, Move, after}
use Rattle.law_node.specs.Telling.{told_of}
use Rattle.promises.specs.Events.{is_of_loop}
use Rattle.promises.specs.Records.{is_got, sent_last}

-- an end tells an event, builds a new block for a HARQ process, or hears a block of one that comes
-- (TS 36.321 5.3.2, 5.4.2)
pub data LogEntry : Type 0 where
  Tells : Side → Event → LogEntry
  Builds : Side → ℕ → List ℕ → LogEntry
  Hears : Side → ℕ → List ℕ → LogEntry

-- ---- of calls, and of steps of both ends

abbrev pub all_tell : Side → List Event → List LogEntry
all_tell side es = map (λ (e : Event). Tells side e) es

-- a new block stands behind what is told as it is built, and one that comes, of a process, before
-- what its end tells of it
abbrev pub log_in : Side → ℕ → End → Call → List LogEntry
log_in side process e (Visits t) = all_tell side (told_of e (Visits t))
    ++ map (λ (octets : List ℕ). Builds side (t.tti % 8) octets) (built_in e (Visits t))
log_in side process e (Receive block) =
    Hears side process block ∷ all_tell side (told_of e (Receive block))
log_in side process e c = all_tell side (told_of e c)

abbrev pub log_over : Side → ℕ → List Call → End → List LogEntry
log_over side process [] e = []
log_over side process (c ∷ cs) e =
    log_in side process e c ++ log_over side process cs (after e c)

-- the block of what the other has under way comes with its process
abbrev pub log_come : Side → End → Option Block → List LogEntry
log_come side e None = []
log_come side e (Some b) = log_in side b.process e (Receive b.octets)

-- by what the other has under way; a call brings no block
abbrev pub log_by : Side → Station → End → Act → List LogEntry
log_by side other e (Calls c) = log_in side 0 e c
log_by side other e (Comes k) = log_come side e (slice_get other.blocks k)
log_by side other e (Goes k) = []

abbrev pub log_at : Air → AirStep → List LogEntry
log_at a (InLife (AtNb x)) = log_by Nb a.ue a.nb.end x
log_at a (InLife (AtUe x)) = log_by Ue a.nb a.ue.end x
log_at a (InLife Passes) = []
log_at a (Moves keys) =
    all_tell Nb (told_of a.nb.end (Move keys)) ++ all_tell Ue (told_of a.ue.end (Move keys))

abbrev pub log_of : List AirStep → Air → List LogEntry
log_of [] a = []
log_of (x ∷ xs) a = log_at a x ++ log_of xs (lives_on a x)

-- ---- of records, behind blocks that were sent

-- of each side the process of the block that it sent last, anew or again, and the octets of the
-- last block of both
pub record Flight : Type 0 where
  pub nb : ℕ
  pub ue : ℕ
  pub octets : List ℕ

abbrev pub process_of : Side → Flight → ℕ
process_of Nb sent = sent.nb
process_of Ue sent = sent.ue

abbrev pub process_last : Side → Record → ℕ → ℕ
process_last side (records.Block direction process fresh version octets) before =
    if is_same side (sender_of direction) then process else before
process_last side one before = before

abbrev pub flight_behind : Record → Flight → Flight
flight_behind one sent = record {
  nb = process_last Nb one sent.nb;
  ue = process_last Ue one sent.ue;
  octets = sent_last one sent.octets;
}

abbrev pub no_flight : Flight
no_flight = record { nb = 0; ue = 0; octets = [] }

-- the block that was sent last behind records
abbrev pub last_in : List Record → List ℕ → List ℕ
last_in [] sent = sent
last_in (one ∷ told) sent = last_in told (sent_last one sent)

-- with the process of each side
abbrev pub process_in : Side → List Record → ℕ → ℕ
process_in side [] before = before
process_in side (one ∷ told) before = process_in side told (process_last side one before)

abbrev pub flight_in : List Record → Flight → Flight
flight_in told sent = record {
  nb = process_in Nb told sent.nb;
  ue = process_in Ue told sent.ue;
  octets = last_in told sent.octets;
}

abbrev pub logged_at : Flight → Record → List LogEntry
logged_at sent (records.Of side event) = if is_of_loop event then [] else Tells side event ∷ []
logged_at sent (records.Block direction process true version octets) =
    Builds (sender_of direction) process octets ∷ []
logged_at sent (records.Block direction process false version octets) = []
logged_at sent (records.Air direction what heard) = if is_got what
    then Hears (other (sender_of direction)) (process_of (sender_of direction) sent) sent.octets
    ∷ [] else []
logged_at sent one = []

abbrev pub logged : Flight → List Record → List LogEntry
logged sent [] = []
logged sent (one ∷ told) = logged_at sent one ++ logged (flight_behind one sent) told

-- records that tell the same, whichever block was sent before them
abbrev pub LogAlone : List Record → Type 0
LogAlone told = (sent : Flight) → logged sent told ≡ logged no_flight told
