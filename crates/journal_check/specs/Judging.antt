-- What is kept of a journal while it is judged: the state of each checker, and how each line, each
-- other record and the end of a group change it (docs/CHECKING.md).
use Rattle.std.specs.Prelude.{Bool, not, ◌&&◌, if◌then◌else◌, List, [], ◌∷◌, Option, None}
use Rattle.std.specs.Prelude.{Some}
use Rattle.air_record.specs.declared.line.Line.{Line}
use Rattle.air_record.specs.declared.record.Record.{Record}
use Rattle.air_text.specs.Groups.{Group}
use Rattle.journal_flows.specs.Accounts.{Keeping}
use Rattle.journal_takes.specs.FlowTakes.{FlowTakes}
use Rattle.journal_stream.specs.SentOctets.{SentOctets}
use Rattle.journal_air.specs.Checking as air
use Rattle.journal_form.specs.Checking as form
use Rattle.journal_given.specs.Supplies as supplies
use Rattle.journal_given.specs.Giving as given
use Rattle.journal_sent.specs.SentPdus as pdus
use Rattle.journal_sent.specs.Sending as sent
use Rattle.journal_queues.specs.QueueChecking as queues
use Rattle.journal_failure.specs.Checking as failure
use Rattle.journal_status.specs.StatusChecking as status
use Rattle.journal_delivered.specs.DeliveryChecking as delivered
use Rattle.journal_edge.specs.EdgeChecking as edge
use Rattle.journal_check.specs.declared.fault.CheckWhy.{CheckWhy}
use Rattle.journal_check.specs.declared.fault.CheckWhy.TheVariants as words

-- ---- the air, and the form of blocks

pub record Blocks : Type 0 where
  pub air : air.Checking
  pub form : form.Checking

abbrev pub no_blocks : Blocks
no_blocks = record { air = air.nothing_checked; form = form.nothing_checked }

abbrev pub blocks_line : Line → Blocks → Blocks
blocks_line line b =
    record { air = air.after_line line b.air; form = form.after_line line b.form }

abbrev pub blocks_record : Record → Blocks → Blocks
blocks_record one b =
    record { air = air.after_record one b.air; form = form.after_record one b.form }

abbrev pub blocks_end : Blocks → Blocks
blocks_end b = record { air = air.after_group b.air; form = form.after_group b.form }

-- ---- what PDCP gives RLC, and what RLC sends of it

pub record Sends : Type 0 where
  pub given : given.Giving FlowTakes
  pub sent : sent.Sending SentOctets
  pub queues : queues.Checking

abbrev pub no_sends : Sends
no_sends = record {
  given = given.nothing_given;
  sent = sent.nothing_sending;
  queues = queues.nothing_checked;
}

abbrev pub sends_line : Line → Sends → Sends
sends_line line s = record {
  given = given.after_line supplies.accounts line s.given;
  sent = sent.after_line pdus.accounts line s.sent;
  queues = queues.after_line line s.queues;
}

-- what is sent by what is given before the record
abbrev pub sends_record : Record → Sends → Sends
sends_record one s = let g = given.settled supplies.accounts one s.given in record {
  given = given.after_record supplies.accounts one s.given;
  sent = sent.after_record pdus.accounts supplies.accounts one g s.sent;
  queues = queues.after_record one s.queues;
}

abbrev pub sends_end : Sends → Sends
sends_end s = let g = given.after_group supplies.accounts s.given in record {
  given = g;
  sent = sent.after_group pdus.accounts g s.sent;
  queues = queues.after_group s.queues;
}

-- of the accounts of flows SDUs were taken
abbrev pub with_kept : Keeping → Sends → Sends
with_kept k s = record s { given = given.with_kept k s.given }

-- ---- what acknowledged flows tell and hand up, by their accounts

pub record Flows : Type 0 where
  pub failure : failure.Checking
  pub status : status.Checking
  pub delivered : delivered.Checking

abbrev pub no_flows : Flows
no_flows = record {
  failure = failure.nothing_checked;
  status = status.nothing_checked;
  delivered = delivered.nothing_checked;
}

abbrev pub flows_line : Line → Flows → Flows
flows_line line f = record {
  failure = failure.after_line line f.failure;
  status = status.after_line line f.status;
  delivered = delivered.after_line line f.delivered;
}

-- with the accounts behind the record
abbrev pub flows_record : Keeping → Record → Flows → Flows
flows_record k one f = record {
  failure = failure.after_record one f.failure;
  status = status.after_record k one f.status;
  delivered = delivered.after_record one f.delivered;
}

-- with the accounts before the group ends
abbrev pub flows_ending : Keeping → Flows → Flows
flows_ending k f = record {
  failure = failure.after_group k f.failure;
  status = status.after_group k f.status;
  delivered = f.delivered;
}

-- and behind that
abbrev pub flows_ended : Keeping → Flows → Flows
flows_ended k f = record {
  failure = f.failure;
  status = f.status;
  delivered = delivered.after_group k f.delivered;
}

abbrev pub flows_end : Keeping → Keeping → Flows → Flows
flows_end k k' f = flows_ended k' (flows_ending k f)

-- ---- all, beside the accounts of flows, of which the SDUs are taken that unacknowledged ones hand
-- up

pub record Judging : Type 0 where
  pub blocks : Blocks
  pub sends : Sends
  pub flows : Flows
  pub edge : edge.EdgeChecking

abbrev pub nothing_judged : Judging
nothing_judged = record {
  blocks = no_blocks;
  sends = no_sends;
  flows = no_flows;
  edge = edge.nothing_checked;
}

abbrev pub judging_line : Line → Judging → Judging
judging_line line j = record {
  blocks = blocks_line line j.blocks;
  sends = sends_line line j.sends;
  flows = flows_line line j.flows;
  edge = edge.after_line line j.edge;
}

abbrev pub judging_record : Record → Judging → Judging
judging_record one j = let s = sends_record one j.sends in record {
  blocks = blocks_record one j.blocks;
  sends = with_kept (edge.leaves one s.given.kept j.edge) s;
  flows = flows_record s.given.kept one j.flows;
  edge = edge.after_record one s.given.kept j.edge;
}

abbrev pub judging_end : Judging → Judging
judging_end j = let s = sends_end j.sends in record {
  blocks = blocks_end j.blocks;
  sends = with_kept (edge.group_leaves s.given.kept j.edge) s;
  flows = flows_end j.sends.given.kept s.given.kept j.flows;
  edge = edge.after_group s.given.kept j.edge;
}

-- ---- a journal, group by group, of which the newest stands first

abbrev pub judging_records : List Record → Judging → Judging
judging_records [] j = j
judging_records (one ∷ told) j = judging_records told (judging_record one j)

-- behind the records of the newest group, and behind its end
abbrev pub judging_within : Group → Judging → Judging
judging_within now j = judging_records now.events (judging_line now.line j)

abbrev pub all_judging : List Group → Judging
all_judging [] = nothing_judged
all_judging (now ∷ past) = judging_end (judging_within now (all_judging past))

-- ---- what isn't right behind a group: the first word that isn't true

abbrev pub is_sent : Sends → Bool
is_sent s = s.given.right && (s.queues.right && s.sent.sent)

abbrev pub is_formed : Judging → Bool
is_formed j = form.is_right j.blocks.form && j.sends.sent.shaped

-- what acknowledged flows tell
abbrev pub flows_word : Judging → Option CheckWhy
flows_word j = if not j.flows.failure.right then Some words.Failure
    else if not j.flows.status.right then Some words.Status
    else if not (is_formed j) then Some words.Form
    else None

abbrev pub word_of : Judging → Option CheckWhy
word_of j = if not (is_sent j.sends) then Some words.Sent
    else if not j.blocks.air.right then Some words.Carried
    else if not j.flows.delivered.right then Some words.Delivered
    else if not j.edge.right then Some words.Edge
    else flows_word j
