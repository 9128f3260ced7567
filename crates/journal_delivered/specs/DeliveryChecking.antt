-- What is kept of a journal while what it hands up is checked, and how each line and record changes
-- it: SDUs from the first that wasn't handed up on, and within a group the SDUs that went up before
-- they could be compared. Nothing of it grows with the journal.
use Rattle.std.specs.Prelude.{ℕ, ◌+◌, ◌-◌, ◌==◌, nat_lt, max, Bool, true, false, ◌&&◌, ◌||◌}
use Rattle.std.specs.Prelude.{if◌then◌else◌, List, [], ◌∷◌, ◌++◌, length, take, drop, Option, Some}
use Rattle.std.specs.Prelude.{None, option_map, replicate, slice_index_or, slice_set}
use Rattle.std.specs.Str.{bytes_eq}
use Rattle.l2_types.specs.declared.side.Side.{Side}
use Rattle.l2_types.specs.declared.side.Side.TheVariants.{Nb, Ue}
use Rattle.bearer_types.specs.declared.config.BearerConfig.{BearerConfig}
use Rattle.bearer_types.specs.declared.event.Event.{Event}
use Rattle.bearer_types.specs.declared.event.Event.TheVariants.{Take, Discard, Up}
use Rattle.bearer_types.specs.Sides.{other}
use Rattle.air_record.specs.declared.line.Line.{Line}
use Rattle.air_record.specs.declared.line.Line.TheVariants as lines
use Rattle.air_record.specs.declared.record.Record.{Record}
use Rattle.air_record.specs.declared.record.Record.TheVariants as records
use Rattle.air_record.specs.declared.submission.Submission.{Submission}
use Rattle.air_record.specs.Submissions.{submitted_by, unrefused}
use Rattle.air_text.specs.Groups.{Group}
use Rattle.journal_lives.specs.FlowLives.{FlowLives}
use Rattle.journal_flows.specs.Gathering.{MayTake}
use Rattle.journal_flows.specs.Accounts.{Keeping, account_at, all_kept}
use Rattle.journal_delivered.specs.declared.awaited_sdus.SduTold.{SduTold}
use Rattle.journal_delivered.specs.declared.awaited_sdus.SduTold.TheVariants as sdus
use Rattle.journal_delivered.specs.RightDelivery.{is_acked_data}

-- ---- the SDUs of one direction of a bearer

pub record AwaitedSdus : Type 0 where
  -- the COUNT of the first SDU that wasn't handed up, and the next new one
  pub low : ℕ
  pub next : ℕ
  -- the SDUs of the COUNTs between, as far as there are so many, and those that wait
  pub taken : List (List ℕ)
  pub waiting : List (List ℕ)
  -- the SDUs that went up in the group and couldn't be compared yet
  pub early : List (List ℕ)
  -- each SDU that was compared is the one that was due
  pub right : Bool

-- as a bearer begins, with its first COUNT
abbrev pub none_awaited : ℕ → AwaitedSdus
none_awaited first = record {
  low = first;
  next = first;
  taken = [];
  waiting = [];
  early = [];
  right = true;
}

-- an SDU is submitted: it has a COUNT already where more were taken than there were
abbrev pub with_sdu : List ℕ → AwaitedSdus → AwaitedSdus
with_sdu sdu a = if nat_lt (length a.taken) (a.next - a.low)
    then record a { taken = a.taken ++ sdu ∷ [] } else record a { waiting = a.waiting ++ sdu ∷ [] }

-- SDUs that wait have COUNTs now, as many as there are
abbrev pub filled : AwaitedSdus → AwaitedSdus
filled a = record a {
  taken = a.taken ++ take (a.next - a.low - length a.taken) a.waiting;
  waiting = drop (a.next - a.low - length a.taken) a.waiting;
}

abbrev pub with_taken : ℕ → AwaitedSdus → AwaitedSdus
with_taken count a = filled (record a { next = max a.next (count + 1) })

abbrev pub with_discarded : AwaitedSdus → AwaitedSdus
with_discarded a = record a { waiting = drop 1 a.waiting }

-- ---- an SDU goes up

abbrev pub compared_by : List ℕ → List (List ℕ) → AwaitedSdus → AwaitedSdus
compared_by octets [] a = record a { right = false }
compared_by octets (sdu ∷ sdus) a = record a {
  low = a.low + 1;
  taken = sdus;
  right = a.right && bytes_eq sdu octets;
}

abbrev pub with_compared : List ℕ → AwaitedSdus → AwaitedSdus
with_compared octets a = compared_by octets a.taken a

-- only an SDU that was taken stays that of its COUNT
abbrev pub is_due : AwaitedSdus → Bool
is_due a = (length a.early == 0) && nat_lt 0 (length a.taken)

abbrev pub with_up : List ℕ → AwaitedSdus → AwaitedSdus
with_up octets a =
    if is_due a then with_compared octets a else record a { early = a.early ++ octets ∷ [] }

-- ---- what is told of an SDU

abbrev pub with_told : SduTold → AwaitedSdus → AwaitedSdus
with_told (sdus.Submitted octets) a = with_sdu octets a
with_told (sdus.Taken count) a = with_taken count a
with_told sdus.Discarded a = with_discarded a
with_told (sdus.HandedUp octets) a = with_up octets.now a

-- ---- the group ends

abbrev pub all_compared : List (List ℕ) → AwaitedSdus → AwaitedSdus
all_compared [] a = a
all_compared (octets ∷ more) a = all_compared more (with_compared octets a)

abbrev pub settled : AwaitedSdus → AwaitedSdus
settled a = all_compared a.early (record a { early = [] })

-- where this is the first COUNT that hasn't come: all before it went up that there are, and no more
abbrev pub judged : ℕ → AwaitedSdus → AwaitedSdus
judged came a = record a {
  right = a.right && ((a.low == came) || (nat_lt a.low came && (length a.taken == 0)));
}

abbrev pub with_end : ℕ → AwaitedSdus → AwaitedSdus
with_end came a = judged came (settled a)

-- ---- those of a side that sends, by channel

abbrev pub no_channels : List (Option AwaitedSdus)
no_channels = replicate 11 None

abbrev pub changed_on : ℕ → (AwaitedSdus → AwaitedSdus) → List (Option AwaitedSdus)
    → List (Option AwaitedSdus)
changed_on lcid f channels =
    slice_set channels lcid (option_map f (slice_index_or channels lcid None))

abbrev pub all_ended : (ℕ → ℕ) → ℕ → List (Option AwaitedSdus) → List (Option AwaitedSdus)
all_ended came lcid [] = []
all_ended came lcid (a ∷ channels) =
    option_map (with_end (came lcid)) a ∷ all_ended came (lcid + 1) channels

abbrev pub is_right_on : Option AwaitedSdus → Bool
is_right_on None = true
is_right_on (Some a) = a.right

abbrev pub all_right : List (Option AwaitedSdus) → Bool
all_right [] = true
all_right (a ∷ channels) = is_right_on a && all_right channels

-- ---- both sides

pub record Checking : Type 0 where
  pub nb : List (Option AwaitedSdus)
  pub ue : List (Option AwaitedSdus)
  pub right : Bool
  -- the SDU of the group's line, until it is submitted or refused
  pub submitted : Option Submission

abbrev pub nothing_checked : Checking
nothing_checked = record { nb = no_channels; ue = no_channels; right = true; submitted = None }

abbrev pub changed : Side → ℕ → (AwaitedSdus → AwaitedSdus) → Checking → Checking
changed Nb lcid f c = record c { nb = changed_on lcid f c.nb }
changed Ue lcid f c = record c { ue = changed_on lcid f c.ue }

-- ---- an SDU is submitted

-- The SDU of a `submit` line is submitted with its line, before the records of its group, unless a
-- `refused` record of its side and channel stands directly behind the line; a `refused` record
-- elsewhere says nothing. So what becomes of it is told by the first record of the group, or by its
-- end where it has none.

abbrev pub submits_own : Option Submission → Checking → Checking
submits_own None c = c
submits_own (Some s) c = changed s.side s.lcid (with_sdu s.octets) c

abbrev pub released : Option Submission → Checking → Checking
released sdu c = submits_own sdu (record c { submitted = None })

-- ---- a record

abbrev pub after_event : Side → Event → Checking → Checking
after_event side (Take lcid (Some count) len) c = changed side lcid (with_taken count) c
after_event side (Discard lcid len) c = changed side lcid with_discarded c
after_event side (Up lcid octets) c = changed (other side) lcid (with_up octets) c
after_event side event c = c

abbrev pub record_told : Record → Checking → Checking
record_told (records.Of side event) c = after_event side event c
record_told (records.Looped lcid octets) c = changed Ue lcid (with_sdu octets) c
record_told one c = c

abbrev pub after_record : Record → Checking → Checking
after_record one c = record_told one (released (unrefused one c.submitted) c)

-- ---- a line, and the end of its group

abbrev pub begun : BearerConfig → Option AwaitedSdus
begun config = if is_acked_data config.kind then Some (none_awaited config.first) else None

abbrev pub after_bearer : BearerConfig → Checking → Checking
after_bearer config c = record c {
  nb = slice_set c.nb config.channel.lcid (begun config);
  ue = slice_set c.ue config.channel.lcid (begun config);
}

abbrev pub bearers_by : Line → Checking → Checking
bearers_by (lines.Bearer config options) c = after_bearer config c
bearers_by line c = c

abbrev pub after_line : Line → Checking → Checking
after_line line c = record (bearers_by line c) { submitted = submitted_by line }

-- the first COUNT of a flow that hasn't come
abbrev pub next_of : Option FlowLives → ℕ
next_of None = 0
next_of (Some l) = l.come.next

abbrev pub came_at : Side → Keeping → ℕ → ℕ
came_at side k lcid = next_of (account_at side lcid k.journal.flows)

abbrev pub ended_on : Side → Keeping → List (Option AwaitedSdus) → List (Option AwaitedSdus)
ended_on side k channels = all_ended (came_at side k) 0 channels

abbrev pub ended : Keeping → Checking → Checking
ended k c = record c {
  nb = ended_on Nb k c.nb;
  ue = ended_on Ue k c.ue;
  right = c.right && all_right (ended_on Nb k c.nb) && all_right (ended_on Ue k c.ue);
}

-- with the accounts of flows as they are behind the group's end
abbrev pub after_group : Keeping → Checking → Checking
after_group k c = ended k (released c.submitted c)

-- ---- a journal, group by group

abbrev pub checked : List Record → Checking → Checking
checked [] c = c
checked (one ∷ told) c = checked told (after_record one c)

-- of groups of which the newest stands first, beside the accounts that are kept
abbrev pub all_checked : MayTake → List Group → Checking
all_checked may_take [] = nothing_checked
all_checked may_take (now ∷ past) =
    after_group (all_kept may_take (now ∷ past))
    (checked now.events (after_line now.line (all_checked may_take past)))
