-- What PDCP gives RLC of acknowledged data, gathered record by record beside the accounts of flows
-- (docs/laws/ACCOUNT.md; docs/formats/JOURNAL.md). Both stand on each other: flows say what RLC
-- confirms and what comes, and what may be taken says whether t-PollRetransmit recalls a number.
-- So they go through the records together, each record by what those before it told.
use Rattle.std.specs.Prelude.{ℕ, ◌+◌, ◌-◌, ◌==◌, Bool, true, false, ◌&&◌, nat_lt, is_some}
use Rattle.std.specs.Prelude.{if◌then◌else◌, List, [], ◌∷◌, length, replicate, slice_index_or}
use Rattle.std.specs.Prelude.{slice_set, Option, Some, None, option_map}
use Rattle.l2_types.specs.declared.channel.Kind.{Kind}
use Rattle.l2_types.specs.declared.channel.Kind.TheVariants as bearers
use Rattle.l2_types.specs.declared.event.Clock.TheVariants.{Poll}
use Rattle.l2_types.specs.declared.side.Side.{Side}
use Rattle.l2_types.specs.declared.side.Side.TheVariants.{Nb, Ue}
use Rattle.bearer_types.specs.declared.event.Event.{Event}
use Rattle.bearer_types.specs.declared.event.Event.TheVariants as events
use Rattle.bearer_types.specs.Sides.{other, sender_of}
use Rattle.air_record.specs.declared.line.Line.{Line}
use Rattle.air_record.specs.declared.line.Line.TheVariants as lines
use Rattle.air_record.specs.declared.record.Record.{Record}
use Rattle.air_record.specs.declared.record.Record.TheVariants as records
use Rattle.air_record.specs.declared.submission.Submission.{Submission}
use Rattle.air_record.specs.Submissions.{submitted_by, unrefused}
use Rattle.air_text.specs.Groups.{Group}
use Rattle.promises.specs.Parts.{is_handover}
use Rattle.promises.specs.Records.{is_got}
use Rattle.journal_lives.specs.FlowLives.{FlowLives}
use Rattle.journal_takes.specs.TakeEvents.{SduSubmitted, SduDiscarded}
use Rattle.journal_flows.specs.NumberedPdus.{carries_status}
use Rattle.journal_flows.specs.Gathering.{MayTake, sending_of, sent_last}
use Rattle.journal_flows.specs.Accounts.{Keeping, nothing_kept, account_at}
use Rattle.journal_flows.specs.Accounts.{after_line as line_kept, after_record as record_kept}
use Rattle.journal_flows.specs.Accounts.{after_group as group_kept}
use Rattle.journal_given.specs.Supplies.{Keeper, Supply, Bearer, begun, told, is_take, takes_pdu}
use Rattle.journal_given.specs.Supplies.{is_right_report, takes_report, report_gone, hears}
use Rattle.journal_given.specs.Supplies.{confirms_if, come_by, life_ended}

-- ---- a bearer

abbrev pub side_of : {T : Type 0} → Side → Bearer T → Supply T
side_of Nb b = b.nb
side_of Ue b = b.ue

abbrev pub on_side : {T : Type 0} → Side → (Supply T → Supply T) → Bearer T → Bearer T
on_side Nb f b = record { nb = f b.nb; ue = b.ue }
on_side Ue f b = record { nb = b.nb; ue = f b.ue }

-- where it is of acknowledged data
abbrev pub bearer_begun : {T : Type 0} → Keeper T → Kind → ℕ → ℕ → Option (Bearer T)
bearer_begun k bearers.Am first bits =
    Some (record { nb = begun k first bits; ue = begun k first bits })
bearer_begun k kind first bits = None

-- a block of a side is got, by the flow of that side and the one that goes the other way; `status`:
-- it carries a STATUS of the channel
abbrev pub landed : {T : Type 0} → Keeper T → Side → Bool → Option FlowLives → Option FlowLives
    → Bearer T → Bearer T
landed k Nb status own back b = record {
  nb = report_gone own b.nb;
  ue = hears k own b.nb (confirms_if k status back b.ue);
}
landed k Ue status own back b = record {
  nb = hears k own b.ue (confirms_if k status back b.nb);
  ue = report_gone own b.ue;
}

-- by the flows behind the handover: a side's report is of the flow that the other side sends
abbrev pub lives_ended : {T : Type 0} → Keeper T → Option FlowLives → Option FlowLives → Bearer T
    → Bearer T
lives_ended k of_nb of_ue b = record {
  nb = life_ended k (come_by of_ue) b.nb;
  ue = life_ended k (come_by of_nb) b.ue;
}

-- ---- bearers by channel, 0 to 10

abbrev pub Bearers : Type 0 → Type 0
Bearers T = List (Option (Bearer T))

abbrev pub no_bearers : {T : Type 0} → Bearers T
no_bearers = replicate 11 None

abbrev pub bearer_at : {T : Type 0} → ℕ → Bearers T → Option (Bearer T)
bearer_at lcid bs = slice_index_or bs lcid None

abbrev pub changed_on : {T : Type 0} → Side → ℕ → (Supply T → Supply T) → Bearers T → Bearers T
changed_on side lcid f bs = slice_set bs lcid (option_map (on_side side f) (bearer_at lcid bs))

-- each by its channel, which is so much for the first of them
abbrev pub each_from : {A : Type 0} → (ℕ → A → A) → ℕ → List A → List A
each_from f lcid [] = []
each_from f lcid (x ∷ xs) = f lcid x ∷ each_from f (lcid + 1) xs

abbrev pub landed_on : {T : Type 0} → Keeper T → Side → Keeping → ℕ → Option (Bearer T)
    → Option (Bearer T)
landed_on k from j lcid b =
    option_map (landed k from (carries_status lcid (sent_last (sending_of from j.journal)))
    (account_at from lcid j.journal.flows) (account_at (other from) lcid j.journal.flows)) b

abbrev pub ended_on : {T : Type 0} → Keeper T → Keeping → ℕ → Option (Bearer T)
    → Option (Bearer T)
ended_on k j lcid b = option_map (lives_ended k (account_at Nb lcid j.journal.flows)
    (account_at Ue lcid j.journal.flows)) b

-- ---- SDUs of channels without acknowledged data: how many wait, which is what RLC may take of a
-- signalling bearer

pub record Waits : Type 0 where
  pub nb : List ℕ
  pub ue : List ℕ

abbrev pub no_waits : Waits
no_waits = record { nb = replicate 11 0; ue = replicate 11 0 }

abbrev pub waits_at : Side → ℕ → Waits → ℕ
waits_at Nb lcid w = slice_index_or w.nb lcid 0
waits_at Ue lcid w = slice_index_or w.ue lcid 0

abbrev pub with_waits : Side → ℕ → ℕ → Waits → Waits
with_waits Nb lcid n w = record { nb = slice_set w.nb lcid n; ue = w.ue }
with_waits Ue lcid n w = record { nb = w.nb; ue = slice_set w.ue lcid n }

abbrev pub one_more : Side → ℕ → Waits → Waits
one_more side lcid w = with_waits side lcid (waits_at side lcid w + 1) w

abbrev pub one_less : Side → ℕ → Waits → Waits
one_less side lcid w = with_waits side lcid (waits_at side lcid w - 1) w

-- ---- what is gathered

pub record Giving (T : Type 0) : Type 0 where
  -- the accounts of flows
  pub kept : Keeping
  pub bearers : Bearers T
  pub waits : Waits
  -- the SDU of the group's line, until it is submitted or refused
  pub submitted : Option Submission
  pub hands_over : Bool
  -- each `take` and each `report` of acknowledged data was right
  pub right : Bool

abbrev pub nothing_given : {T : Type 0} → Giving T
nothing_given = record {
  kept = nothing_kept;
  bearers = no_bearers;
  waits = no_waits;
  submitted = None;
  hands_over = false;
  right = true;
}

-- ---- what RLC may take

abbrev pub offers : {T : Type 0} → Keeper T → Side → Option (Bearer T) → ℕ → Bool
offers k side None waiting = nat_lt 0 waiting
offers k side (Some b) waiting = is_some (k.next (side_of side b).takes)

-- of the flow that t-PollRetransmit is of
abbrev pub may_take : {T : Type 0} → Keeper T → Record → Giving T → Bool
may_take k (records.Of side (events.Expired lcid Poll)) g =
    offers k side (bearer_at lcid g.bearers) (waits_at side lcid g.waits)
may_take k one g = false

-- ---- an SDU is submitted

abbrev pub submits : {T : Type 0} → Keeper T → Side → ℕ → List ℕ → Giving T → Giving T
submits k side lcid octets g = record g {
  bearers = changed_on side lcid (told k (SduSubmitted octets)) g.bearers;
  waits = one_more side lcid g.waits;
}

-- The SDU of a `submit` line is submitted with its line, before the records of its group, unless a
-- `refused` record of its side and channel stands directly behind the line; a `refused` record
-- elsewhere says nothing. So what becomes of it is told by the first record of the group, or by its
-- end where it has none.

abbrev pub submits_own : {T : Type 0} → Keeper T → Option Submission → Giving T → Giving T
submits_own k None g = g
submits_own k (Some s) g = submits k s.side s.lcid s.octets g

abbrev pub with_submitted : {T : Type 0} → Option Submission → Giving T → Giving T
with_submitted sdu g = record g { submitted = sdu }

-- the SDU of the line is submitted, where one is left
abbrev pub line_submitted : {T : Type 0} → Keeper T → Giving T → Giving T
line_submitted k g = with_submitted None (submits_own k g.submitted g)

-- before a record, which may refuse it
abbrev pub settled : {T : Type 0} → Keeper T → Record → Giving T → Giving T
settled k one g = line_submitted k (with_submitted (unrefused one g.submitted) g)

-- ---- a record

abbrev pub take_right : {T : Type 0} → Keeper T → Side → Option ℕ → ℕ → Option (Bearer T) → Bool
take_right k side count len None = true
take_right k side count len (Some b) = is_take k count len (side_of side b)

abbrev pub report_right : {T : Type 0} → Keeper T → Side → ℕ → List ℕ → Option (Bearer T) → Bool
report_right k side fms bitmap None = true
report_right k side fms bitmap (Some b) = is_right_report k fms bitmap (side_of side b)

abbrev pub discard_right : {T : Type 0} → Keeper T → Side → Option (Bearer T) → Bool
discard_right k side None = true
discard_right k side (Some b) = k.waits (side_of side b).takes

abbrev pub happens : {T : Type 0} → Keeper T → Side → Event → Giving T → Giving T
happens k side (events.Take lcid count len) g = record g {
  bearers = changed_on side lcid (takes_pdu k count len) g.bearers;
  waits = one_less side lcid g.waits;
  right = g.right && take_right k side count len (bearer_at lcid g.bearers);
}
happens k side (events.Report lcid fms bitmap) g = record g {
  bearers = changed_on side lcid (takes_report k fms bitmap) g.bearers;
  right = g.right && report_right k side fms bitmap (bearer_at lcid g.bearers);
}
happens k side (events.Discard lcid len) g = record g {
  bearers = changed_on side lcid (told k SduDiscarded) g.bearers;
  waits = one_less side lcid g.waits;
  right = g.right && discard_right k side (bearer_at lcid g.bearers);
}
happens k side event g = g

-- by the accounts of flows behind the record
abbrev pub tells : {T : Type 0} → Keeper T → Record → Giving T → Giving T
tells k (records.Of side event) g = happens k side event g
tells k (records.Looped lcid octets) g = submits k Ue lcid octets g
tells k (records.Air direction what heard) g = if is_got what
    then record g {
      bearers = each_from (landed_on k (sender_of direction) g.kept) 0 g.bearers;
    } else g
tells k one g = g

abbrev pub with_kept : {T : Type 0} → Keeping → Giving T → Giving T
with_kept kept g = record g { kept = kept }

abbrev pub record_told : {T : Type 0} → Keeper T → Record → Giving T → Giving T
record_told k one g =
    tells k one (with_kept (record_kept (may_take k one g) one g.kept) g)

abbrev pub after_record : {T : Type 0} → Keeper T → Record → Giving T → Giving T
after_record k one g = record_told k one (settled k one g)

-- ---- a line, and the end of its group

abbrev pub bearers_by : {T : Type 0} → Keeper T → Line → Bearers T → Bearers T
bearers_by k (lines.Bearer config options) bs = slice_set bs config.channel.lcid
    (bearer_begun k config.kind config.first config.pdcp_bits)
bearers_by k line bs = bs

abbrev pub waits_by : Line → Waits → Waits
waits_by (lines.Bearer config options) w =
    with_waits Ue config.channel.lcid 0 (with_waits Nb config.channel.lcid 0 w)
waits_by line w = w

abbrev pub after_line : {T : Type 0} → Keeper T → Line → Giving T → Giving T
after_line k line g = record {
  kept = line_kept line g.kept;
  bearers = bearers_by k line g.bearers;
  waits = waits_by line g.waits;
  submitted = submitted_by line;
  hands_over = is_handover line;
  right = g.right;
}

-- a handover ends a life of each flow, and SDUs that wait on signalling bearers are dropped
abbrev pub hands_on : {T : Type 0} → Keeper T → Bool → Giving T → Giving T
hands_on k true g = record g {
  bearers = each_from (ended_on k g.kept) 0 g.bearers;
  waits = no_waits;
}
hands_on k false g = g

abbrev pub at_rest : {T : Type 0} → Giving T → Giving T
at_rest g = record g { hands_over = false }

abbrev pub after_group : {T : Type 0} → Keeper T → Giving T → Giving T
after_group k g =
    at_rest (hands_on k g.hands_over (line_submitted k (with_kept (group_kept g.kept) g)))

-- ---- a journal, group by group; the newest stands first

abbrev pub after_records : {T : Type 0} → Keeper T → List Record → Giving T → Giving T
after_records k [] g = g
after_records k (one ∷ records') g = after_records k records' (after_record k one g)

-- behind the records of the newest group, and behind its end
abbrev pub given_within : {T : Type 0} → Keeper T → Group → Giving T → Giving T
given_within k now g = after_records k now.events (after_line k now.line g)

abbrev pub all_given : {T : Type 0} → Keeper T → List Group → Giving T
all_given k [] = nothing_given
all_given k (now ∷ past) = after_group k (given_within k now (all_given k past))

-- ---- whether RLC may take anything as t-PollRetransmit expires, at each record of a journal

-- the group that has so many groups behind it
abbrev pub group_at : ℕ → List Group → Option Group
group_at n [] = None
group_at n (now ∷ past) = if length past == n then Some now else group_at n past

-- behind records of which the latest stands first, and before the next one
abbrev pub behind_records : {T : Type 0} → Keeper T → List Record → Giving T → Giving T
behind_records k [] g = g
behind_records k (one ∷ before) g = after_record k one (behind_records k before g)

abbrev pub before_record : {T : Type 0} → Keeper T → Record → List Record → Giving T → Giving T
before_record k one before g = settled k one (behind_records k before g)

abbrev pub may_take_in : {T : Type 0} → Keeper T → Option Group → List Group → List Record → Record
    → Bool
may_take_in k None past before one = false
may_take_in k (Some now) past before one =
    may_take k one (before_record k one before (after_line k now.line (all_given k past)))

-- by a whole journal, which has the lines of its groups
abbrev pub may_take_by : {T : Type 0} → Keeper T → List Group → MayTake
may_take_by k journal past before one =
    may_take_in k (group_at (length past) journal) past before one
