-- What is kept of a journal while the form of it is checked, and how each line and record changes
-- it. Of a journal of right form nothing of it grows with the journal.
use Rattle.std.specs.Prelude.{ℕ, Bool, true, false, ◌&&◌, List, [], ◌∷◌, ◌++◌, Option}
use Rattle.std.specs.Prelude.{if◌then◌else◌}
use Rattle.l2_types.specs.declared.side.Side.{Side}
use Rattle.l2_types.specs.declared.side.Side.TheVariants.{Nb, Ue}
use Rattle.mac_pdu.specs.declared.item.Direction.{Direction}
use Rattle.mac_pdu.specs.declared.item.Direction.TheVariants.{Down, Up}
use Rattle.bearer_types.specs.declared.event.Event.TheVariants.{Send}
use Rattle.air_record.specs.declared.line.Line.{Line}
use Rattle.air_record.specs.declared.record.Record.{Record}
use Rattle.air_record.specs.declared.record.Record.TheVariants as records
use Rattle.air_text.specs.Groups.{Group}
use Rattle.pdu_show.specs.declared.kinds.Layout.{Layout}
use Rattle.pdu_show.specs.Kinds.{none_known}
use Rattle.pdu_show.specs.Show.{block_shown}
use Rattle.promises.specs.Blocks.{kinds_by}
use Rattle.promises.specs.Names.{SentPdu}
use Rattle.promises.specs.Records.{is_shown}
use Rattle.journal_form.specs.SameRecords.{same_shown}
use Rattle.journal_form.specs.Tests.{carries}

-- of a direction: what its sender names behind the last new block, and whether all was right
pub record Building : Type 0 where
  pub sent : List SentPdu
  pub right : Bool

-- the records that have still to show the last block, and whether all was right
pub record Showing : Type 0 where
  pub awaited : List Record
  pub right : Bool

pub record Checking : Type 0 where
  pub kinds : List (Option Layout)
  pub down : Building
  pub up : Building
  pub showing : Showing

abbrev pub nothing_checked : Checking
nothing_checked = record {
  kinds = none_known;
  down = record { sent = []; right = true };
  up = record { sent = []; right = true };
  showing = record { awaited = []; right = true };
}

-- ---- a record

abbrev pub none_sent : List SentPdu → Bool
none_sent [] = true
none_sent (s ∷ sent) = false

abbrev pub none_awaited : List Record → Bool
none_awaited [] = true
none_awaited (one ∷ more) = false

abbrev pub sends : SentPdu → Building → Building
sends s b = record { sent = b.sent ++ s ∷ []; right = b.right }

abbrev pub builds : Direction → List (Option Layout) → List ℕ → Building → Building
builds direction kinds octets b =
    record { sent = []; right = b.right && carries direction kinds b.sent octets }

-- what is awaited stands at once
abbrev pub goes_on : Showing → Showing
goes_on s = record { awaited = []; right = s.right && none_awaited s.awaited }

abbrev pub awaits : Direction → List (Option Layout) → List ℕ → Showing → Showing
awaits direction kinds octets s =
    record {
      awaited = block_shown direction kinds octets;
      right =
          s.right && none_awaited s.awaited;
    }

abbrev pub shows_by : Record → List Record → Bool → Showing
shows_by one [] right = record { awaited = []; right = false }
shows_by one (other ∷ more) right =
    record { awaited = more; right = right && same_shown other one }

abbrev pub shows : Record → Showing → Showing
shows one s = shows_by one s.awaited s.right

abbrev pub after_send : Side → SentPdu → Checking → Checking
after_send Nb s c = record {
  kinds = c.kinds;
  down = sends s c.down;
  up = c.up;
  showing = goes_on c.showing;
}
after_send Ue s c = record {
  kinds = c.kinds;
  down = c.down;
  up = sends s c.up;
  showing = goes_on c.showing;
}

abbrev pub after_block : Direction → List ℕ → Checking → Checking
after_block Down octets c = record {
  kinds = c.kinds;
  down = builds Down c.kinds octets c.down;
  up = c.up;
  showing = awaits Down c.kinds octets c.showing;
}
after_block Up octets c = record {
  kinds = c.kinds;
  down = c.down;
  up = builds Up c.kinds octets c.up;
  showing = awaits Up c.kinds octets c.showing;
}

abbrev pub with_showing : Showing → Checking → Checking
with_showing s c = record { kinds = c.kinds; down = c.down; up = c.up; showing = s }

abbrev pub after_other : Record → Checking → Checking
after_other one c =
    with_showing (if is_shown one then shows one c.showing else goes_on c.showing) c

abbrev pub after_record : Record → Checking → Checking
after_record (records.Of side (Send lcid how sn)) c =
    after_send side (record { lcid = lcid; how = how; sn = sn }) c
after_record (records.Block direction process true version octets) c =
    after_block direction octets c
after_record one c = after_other one c

-- ---- a line, and the end of its group

abbrev pub after_line : Line → Checking → Checking
after_line line c = record {
  kinds = kinds_by line c.kinds;
  down = c.down;
  up = c.up;
  showing = c.showing;
}

-- nothing is left
abbrev pub ends : Building → Building
ends b = record { sent = []; right = b.right && none_sent b.sent }

abbrev pub after_group : Checking → Checking
after_group c = record {
  kinds = c.kinds;
  down = ends c.down;
  up = ends c.up;
  showing = goes_on c.showing;
}

abbrev pub is_right : Checking → Bool
is_right c = c.down.right && c.up.right && c.showing.right

-- ---- a journal, group by group

abbrev pub checked : List Record → Checking → Checking
checked [] c = c
checked (one ∷ told) c = checked told (after_record one c)

-- of groups of which the newest stands first
abbrev pub all_checked : List Group → Checking
all_checked [] = nothing_checked
all_checked (g ∷ past) = after_group (checked g.events (after_line g.line (all_checked past)))
