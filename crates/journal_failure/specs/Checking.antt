-- What is kept of a journal while its `fail` records are checked, and how each line and record
-- changes it. Nothing of it grows with the journal.
use Rattle.std.specs.Prelude.{ℕ, ◌+◌, ◌%◌, ◌==◌, nat_le, Bool, true, false, not, ◌&&◌, ◌||◌}
use Rattle.std.specs.Prelude.{if◌then◌else◌, List, [], ◌∷◌, Option, Some, None, is_some, is_none}
use Rattle.std.specs.Prelude.{replicate, slice_index_or, slice_set}
use Rattle.l2_types.specs.declared.side.Side.{Side}
use Rattle.l2_types.specs.declared.side.Side.TheVariants.{Nb, Ue}
use Rattle.rlc_pdu.specs.declared.constants.TheConstants.{AM_MODULUS}
use Rattle.bearer_types.specs.declared.event.Event.{Event}
use Rattle.bearer_types.specs.declared.event.Event.TheVariants.{Send, Fail}
use Rattle.air_record.specs.declared.line.Line.{Line}
use Rattle.air_record.specs.declared.line.Line.TheVariants as lines
use Rattle.air_record.specs.declared.record.Record.{Record}
use Rattle.air_record.specs.declared.record.Record.TheVariants as records
use Rattle.air_text.specs.Groups.{Group}
use Rattle.promises.specs.Parts.{is_handover}
use Rattle.promises.specs.Silent.{is_data}
use Rattle.journal_lives.specs.FlowLives.{FlowLives}
use Rattle.journal_flows.specs.Gathering.{MayTake}
use Rattle.journal_flows.specs.Accounts.{Keeping, account_at, kept_within, all_kept}
use Rattle.journal_failure.specs.declared.sender.Sender.{Sender}

-- ---- one sender

abbrev pub nothing_told : Sender
nothing_told = record {
  failed = false;
  told = None;
  twice = false;
  gave_up = false;
  spoke = false;
  known = false;
  begins = false;
}

-- a `fail` record
abbrev pub with_fail : ℕ → Sender → Sender
with_fail sn s = record {
  failed = s.failed;
  told = Some sn;
  twice = s.twice || is_some s.told;
  gave_up = true;
  spoke = s.spoke || s.gave_up;
  known = s.known;
  begins = s.begins;
}

-- a data PDU is told of as sent
abbrev pub with_data : Sender → Sender
with_data s = record {
  failed = s.failed;
  told = s.told;
  twice = s.twice;
  gave_up = s.gave_up;
  spoke = s.spoke || s.gave_up;
  known = s.known;
  begins = s.begins;
}

-- a bearer begins on its channel
abbrev pub with_bearer : Sender → Sender
with_bearer s = record {
  failed = false;
  told = s.told;
  twice = s.twice;
  gave_up = s.gave_up;
  spoke = s.spoke;
  known = s.known;
  begins = true;
}

-- the group ends; its flow stands at this limit
abbrev pub with_end : Bool → Option ℕ → Sender → Sender
with_end hands_over limit s = record {
  failed = not hands_over && is_some limit;
  told = None;
  twice = false;
  gave_up = not hands_over && s.gave_up;
  spoke = not hands_over && s.spoke;
  known = s.known || s.begins;
  begins = false;
}

-- the SN that is to be told
abbrev pub sn_due : Bool → Option ℕ → Option ℕ
sn_due true limit = None
sn_due false None = None
sn_due false (Some n) = Some (n % AM_MODULUS)

abbrev pub same_sn : Option ℕ → Option ℕ → Bool
same_sn None None = true
same_sn (Some a) (Some b) = a == b
same_sn a b = false

abbrev pub is_sender_right : Option ℕ → Sender → Bool
is_sender_right limit s =
    not s.twice && same_sn s.told (sn_due s.failed limit) && not (s.known && s.spoke)

-- it has told nothing that a group's end looks at
abbrev pub is_at_rest : Sender → Bool
is_at_rest s = not s.failed && (is_none s.told && (not s.twice && (not s.gave_up
    && (not s.spoke && not s.begins))))

-- ---- those of a side, by channel

abbrev pub all_right : (ℕ → Option ℕ) → ℕ → List Sender → Bool
all_right limits lcid [] = true
all_right limits lcid (s ∷ ss) =
    is_sender_right (limits lcid) s && all_right limits (lcid + 1) ss

abbrev pub all_ended : Bool → (ℕ → Option ℕ) → ℕ → List Sender → List Sender
all_ended hands_over limits lcid [] = []
all_ended hands_over limits lcid (s ∷ ss) =
    with_end hands_over (limits lcid) s ∷ all_ended hands_over limits (lcid + 1) ss

abbrev pub changed_on : ℕ → (Sender → Sender) → List Sender → List Sender
changed_on lcid f ss = slice_set ss lcid (f (slice_index_or ss lcid nothing_told))

-- ---- both sides

pub record Checking : Type 0 where
  pub nb : List Sender
  pub ue : List Sender
  pub right : Bool
  -- the group that runs is of a handover
  pub hands_over : Bool

abbrev pub no_senders : List Sender
no_senders = replicate 11 nothing_told

abbrev pub nothing_checked : Checking
nothing_checked = record { nb = no_senders; ue = no_senders; right = true; hands_over = false }

abbrev pub changed : Side → ℕ → (Sender → Sender) → Checking → Checking
changed Nb lcid f c = record {
  nb = changed_on lcid f c.nb;
  ue = c.ue;
  right = c.right;
  hands_over = c.hands_over;
}
changed Ue lcid f c = record {
  nb = c.nb;
  ue = changed_on lcid f c.ue;
  right = c.right;
  hands_over = c.hands_over;
}

abbrev pub and_right : Bool → Checking → Checking
and_right b c =
    record { nb = c.nb; ue = c.ue; right = c.right && b; hands_over = c.hands_over }

-- ---- an event of an end, and a record

-- logical channels are 0 to 10
abbrev pub after_event : Side → Event → Checking → Checking
after_event side (Fail lcid sn) c =
    and_right (nat_le lcid 10) (changed side lcid (with_fail sn) c)
after_event side (Send lcid how sn) c = if is_data how then changed side lcid with_data c else c
after_event side event c = c

abbrev pub after_record : Record → Checking → Checking
after_record (records.Of side event) c = after_event side event c
after_record one c = c

-- ---- a line, and the end of its group

abbrev pub begun : Bool → Checking → Checking
begun hands_over c =
    record { nb = c.nb; ue = c.ue; right = c.right; hands_over = hands_over }

abbrev pub after_bearer : Line → Checking → Checking
after_bearer (lines.Bearer config options) c =
    changed Ue config.channel.lcid with_bearer (changed Nb config.channel.lcid with_bearer c)
after_bearer line c = c

abbrev pub after_line : Line → Checking → Checking
after_line line c = begun (is_handover line) (after_bearer line c)

-- the number at which a flow failed, once it has
abbrev pub limit_of : Option FlowLives → Option ℕ
limit_of None = None
limit_of (Some l) = l.account.sending.limit

abbrev pub limit_at : Side → Keeping → ℕ → Option ℕ
limit_at side k lcid = limit_of (account_at side lcid k.journal.flows)

-- with the accounts of flows as they are behind its records
abbrev pub after_group : Keeping → Checking → Checking
after_group k c = record {
  nb = all_ended c.hands_over (limit_at Nb k) 0 c.nb;
  ue = all_ended c.hands_over (limit_at Ue k) 0 c.ue;
  right = c.right && all_right (limit_at Nb k) 0 c.nb && all_right (limit_at Ue k) 0 c.ue;
  hands_over = false;
}

-- ---- a journal, group by group

abbrev pub checked : List Record → Checking → Checking
checked [] c = c
checked (one ∷ told) c = checked told (after_record one c)

-- of groups of which the newest stands first, beside the accounts that are kept
abbrev pub all_checked : MayTake → List Group → Checking
all_checked may_take [] = nothing_checked
all_checked may_take (now ∷ past) =
    after_group (kept_within may_take now past (all_kept may_take past))
    (checked now.events (after_line now.line (all_checked may_take past)))
