-- What is kept of a journal while the SDUs that leave its queues are checked, and how each line and
-- record changes it.
use Rattle.std.specs.Prelude.{ℕ, Bool, true, false, ◌&&◌, ◌||◌, if◌then◌else◌, List, [], ◌∷◌}
use Rattle.std.specs.Prelude.{length, map, Option, Some, None, replicate, slice_index_or, slice_set}
use Rattle.l2_types.specs.declared.side.Side.{Side}
use Rattle.l2_types.specs.declared.side.Side.TheVariants.{Nb, Ue}
use Rattle.bearer_types.specs.declared.event.Event.{Event}
use Rattle.bearer_types.specs.declared.event.Event.TheVariants.{Take, Discard}
use Rattle.air_record.specs.declared.line.Line.{Line}
use Rattle.air_record.specs.declared.line.Line.TheVariants as lines
use Rattle.air_record.specs.declared.record.Record.{Record}
use Rattle.air_record.specs.declared.record.Record.TheVariants as records
use Rattle.air_record.specs.Submissions.{refuses}
use Rattle.air_text.specs.Groups.{Group}
use Rattle.promises.specs.Delivery.{forges}
use Rattle.journal_queues.specs.declared.checker.Submitted.{Submitted}
use Rattle.journal_queues.specs.Leaving.{Queue, no_bearer, queue_told, queue_given, handed_over}
use Rattle.journal_queues.specs.Leaving.{begun_as, is_queue_right}

-- ---- those of a side, by channel

abbrev pub no_channels : List Queue
no_channels = replicate 11 no_bearer

abbrev pub changed_on : ℕ → (Queue → Queue) → List Queue → List Queue
changed_on lcid f queues = slice_set queues lcid (f (slice_index_or queues lcid no_bearer))

abbrev pub all_right : List Queue → Bool
all_right [] = true
all_right (q ∷ queues) = is_queue_right q && all_right queues

-- ---- both sides

pub record Checking : Type 0 where
  pub nb : List Queue
  pub ue : List Queue
  pub right : Bool
  -- a block came that neither end built
  pub forged : Bool
  -- the SDU of the group's line, until it is submitted or refused
  pub submitted : Option Submitted

abbrev pub nothing_checked : Checking
nothing_checked = record {
  nb = no_channels;
  ue = no_channels;
  right = true;
  forged = false;
  submitted = None;
}

abbrev pub changed : Side → ℕ → (Queue → Queue) → Checking → Checking
changed Nb lcid f c = record c { nb = changed_on lcid f c.nb }
changed Ue lcid f c = record c { ue = changed_on lcid f c.ue }

-- ---- an SDU is submitted

abbrev pub given : Submitted → Checking → Checking
given s c = changed s.side s.lcid (queue_given s.len) c

-- The SDU of a `submit` line is submitted with its line, before the records of its group, unless a
-- `refused` record of its side and channel stands directly behind the line; a `refused` record
-- elsewhere says nothing. So what becomes of it is told by the first record of the group, or by its
-- end where it has none.

-- what is left to be submitted by the record directly behind the line
abbrev pub unrefused : Record → Option Submitted → Option Submitted
unrefused one None = None
unrefused one (Some s) = if refuses s.side s.lcid one then None else Some s

abbrev pub submits_own : Option Submitted → Checking → Checking
submits_own None c = c
submits_own (Some s) c = given s c

abbrev pub released : Option Submitted → Checking → Checking
released sdu c = submits_own sdu (record c { submitted = None })

-- ---- a record

abbrev pub after_event : Side → Event → Checking → Checking
after_event side (Take lcid count len) c = changed side lcid (queue_told len) c
after_event side (Discard lcid len) c = changed side lcid (queue_told len) c
after_event side event c = c

-- the test loop stands at the terminal
abbrev pub record_told : Record → Checking → Checking
record_told (records.Of side event) c = after_event side event c
record_told (records.Looped lcid octets) c = changed Ue lcid (queue_given (length octets)) c
record_told one c = c

abbrev pub after_record : Record → Checking → Checking
after_record one c = record_told one (released (unrefused one c.submitted) c)

-- ---- a line

abbrev pub submitted_by : Line → Option Submitted
submitted_by (lines.Submit side lcid octets) =
    Some (record { side = side; lcid = lcid; len = length octets })
submitted_by line = None

abbrev pub queues_by : Line → Checking → Checking
queues_by (lines.Bearer config options) c =
    changed Ue config.channel.lcid (begun_as config.kind)
    (changed Nb config.channel.lcid (begun_as config.kind) c)
queues_by (lines.Handover user rrc integrity) c =
    record c { nb = map handed_over c.nb; ue = map handed_over c.ue }
queues_by line c = c

abbrev pub begun_with : Line → Checking → Checking
begun_with line c = record c { submitted = submitted_by line; forged = forges line || c.forged }

abbrev pub after_line : Line → Checking → Checking
after_line line c = begun_with line (queues_by line c)

-- ---- the end of its group

abbrev pub judged : Checking → Checking
judged c =
    record c { right = c.right && (c.forged || (all_right c.nb && all_right c.ue)) }

abbrev pub after_group : Checking → Checking
after_group c = judged (released c.submitted c)

-- ---- a journal, group by group

abbrev pub checked : List Record → Checking → Checking
checked [] c = c
checked (one ∷ told) c = checked told (after_record one c)

-- of groups of which the newest stands first
abbrev pub all_checked : List Group → Checking
all_checked [] = nothing_checked
all_checked (now ∷ past) =
    after_group (checked now.events (after_line now.line (all_checked past)))
