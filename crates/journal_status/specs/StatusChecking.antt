-- What is kept of a journal while its STATUS PDUs are checked, and how each line and record changes
-- it. Nothing of it grows with the journal.
use Rattle.std.specs.Prelude.{ℕ, ◌+◌, ◌==◌, nat_lt, nat_le, Bool, true, false, ◌&&◌}
use Rattle.std.specs.Prelude.{if◌then◌else◌, List, [], ◌∷◌, Option, Some, None}
use Rattle.std.specs.Prelude.{replicate, slice_index_or, slice_set}
use Rattle.l2_types.specs.declared.event.Lost.TheVariants.{Ignored}
use Rattle.l2_types.specs.declared.side.Side.{Side}
use Rattle.l2_types.specs.declared.side.Side.TheVariants.{Nb, Ue}
use Rattle.bearer_types.specs.declared.event.Event.{Event}
use Rattle.bearer_types.specs.declared.event.Event.TheVariants.{Drop}
use Rattle.bearer_types.specs.Sides.{other, sender_of}
use Rattle.air_record.specs.declared.line.Line.{Line}
use Rattle.air_record.specs.declared.line.Line.TheVariants as lines
use Rattle.air_record.specs.declared.record.Record.{Record}
use Rattle.air_record.specs.declared.record.Record.TheVariants as records
use Rattle.air_text.specs.Groups.{Group}
use Rattle.journal_account.specs.declared.entry.StatusEntry.{StatusEntry}
use Rattle.journal_account.specs.FlowStatus.{is_true_status}
use Rattle.journal_lives.specs.FlowLives.{FlowLives}
use Rattle.journal_flows.specs.declared.parcels.Parcel.{Parcel}
use Rattle.journal_flows.specs.declared.parcels.Parcel.TheVariants.{Octets, Pieces, Report}
use Rattle.journal_flows.specs.Gathering.{MayTake, is_handover, sending_of, sent_last}
use Rattle.journal_flows.specs.Accounts.{Accounts, Keeping, account_at, kept_within, all_kept}
use Rattle.journal_flows.specs.Accounts.{after_line as kept_at, after_record as kept_behind}

-- ---- the STATUS that a new block carries

-- without an account nothing is true
abbrev pub is_true_for : Option FlowLives → ℕ → List StatusEntry → Bool
is_true_for None ack entries = false
is_true_for (Some l) ack entries = is_true_status ack entries l.account.arrivals

abbrev pub is_true_report : Accounts → Side → Parcel → Bool
is_true_report flows from (Octets lcid n start end) = true
is_true_report flows from (Pieces lcid n size pieces) = true
is_true_report flows from (Report lcid ack entries) =
    is_true_for (account_at (other from) lcid flows) ack entries

abbrev pub all_true : Accounts → Side → List Parcel → Bool
all_true flows from [] = true
all_true flows from (p ∷ ps) = is_true_report flows from p && all_true flows from ps

abbrev pub are_true : Keeping → Side → Bool
are_true k from = all_true k.journal.flows from (sent_last (sending_of from k.journal))

-- ---- the ignored ones that are told of: of each channel in the life that runs, 0 to 10

abbrev pub none_told : List ℕ
none_told = replicate 11 0

-- a record more is right while fewer are told of than were ignored
abbrev pub may_tell : ℕ → ℕ → List ℕ → Bool
may_tell lcid ignored tolds = nat_le lcid 10 && nat_lt (slice_index_or tolds lcid 0) ignored

abbrev pub with_told : ℕ → ℕ → List ℕ → List ℕ
with_told lcid ignored tolds =
    if nat_lt (slice_index_or tolds lcid 0) ignored
    then slice_set tolds lcid (slice_index_or tolds lcid 0 + 1)
    else tolds

abbrev pub ignored_kept : Option FlowLives → ℕ
ignored_kept None = 0
ignored_kept (Some l) = l.account.ignored

abbrev pub ignored_at : Side → Keeping → ℕ → ℕ
ignored_at side k lcid = ignored_kept (account_at side lcid k.journal.flows)

abbrev pub all_told : (ℕ → ℕ) → ℕ → List ℕ → Bool
all_told ignored lcid [] = true
all_told ignored lcid (told ∷ tolds) = (told == ignored lcid) && all_told ignored (lcid + 1) tolds

-- ---- both sides

pub record Checking : Type 0 where
  pub nb : List ℕ
  pub ue : List ℕ
  pub right : Bool
  -- the group that runs is of a handover
  pub hands_over : Bool

abbrev pub nothing_checked : Checking
nothing_checked = record { nb = none_told; ue = none_told; right = true; hands_over = false }

abbrev pub tolds_of : Side → Checking → List ℕ
tolds_of Nb c = c.nb
tolds_of Ue c = c.ue

abbrev pub with_tolds : Side → List ℕ → Checking → Checking
with_tolds Nb tolds c =
    record { nb = tolds; ue = c.ue; right = c.right; hands_over = c.hands_over }
with_tolds Ue tolds c =
    record { nb = c.nb; ue = tolds; right = c.right; hands_over = c.hands_over }

abbrev pub and_right : Bool → Checking → Checking
and_right b c =
    record { nb = c.nb; ue = c.ue; right = c.right && b; hands_over = c.hands_over }

-- ---- a record, with what is kept of flows behind it

abbrev pub after_told : Side → ℕ → ℕ → Checking → Checking
after_told side lcid ignored c = and_right (may_tell lcid ignored (tolds_of side c))
    (with_tolds side (with_told lcid ignored (tolds_of side c)) c)

abbrev pub after_event : Keeping → Side → Event → Checking → Checking
after_event k side (Drop lcid Ignored) c = after_told side lcid (ignored_at side k lcid) c
after_event k side event c = c

abbrev pub after_record : Keeping → Record → Checking → Checking
after_record k (records.Of side event) c = after_event k side event c
after_record k (records.Block direction process true version octets) c =
    and_right (are_true k (sender_of direction)) c
after_record k one c = c

-- ---- a line, and the end of its group

-- a bearer's flows begin
abbrev pub after_bearer : Line → Checking → Checking
after_bearer (lines.Bearer config options) c = record {
  nb = slice_set c.nb config.channel.lcid 0;
  ue = slice_set c.ue config.channel.lcid 0;
  right = c.right;
  hands_over = c.hands_over;
}
after_bearer line c = c

abbrev pub begun : Bool → Checking → Checking
begun hands_over c =
    record { nb = c.nb; ue = c.ue; right = c.right; hands_over = hands_over }

abbrev pub after_line : Line → Checking → Checking
after_line line c = begun (is_handover line) (after_bearer line c)

-- a handover ends the lives
abbrev pub tolds_behind : Bool → List ℕ → List ℕ
tolds_behind true tolds = none_told
tolds_behind false tolds = tolds

-- with what is kept of flows behind the group's records
abbrev pub after_group : Keeping → Checking → Checking
after_group k c = record {
  nb = tolds_behind c.hands_over c.nb;
  ue = tolds_behind c.hands_over c.ue;
  right = c.right && all_told (ignored_at Nb k) 0 c.nb && all_told (ignored_at Ue k) 0 c.ue;
  hands_over = false;
}

-- ---- a journal, group by group

-- behind records of a group, beside what is kept of flows behind each
abbrev pub checked : MayTake → List Group → List Record → List Record → Keeping → Checking
    → Checking
checked may_take past before [] k c = c
checked may_take past before (one ∷ told) k c =
    let after = kept_behind (may_take past before one) one k in
    checked may_take past (one ∷ before) told after (after_record after one c)

-- of groups of which the newest stands first
abbrev pub all_checked : MayTake → List Group → Checking
all_checked may_take [] = nothing_checked
all_checked may_take (now ∷ past) =
    after_group (kept_within may_take now past (all_kept may_take past))
    (checked may_take past [] now.events (kept_at now.line (all_kept may_take past))
    (after_line now.line (all_checked may_take past)))
