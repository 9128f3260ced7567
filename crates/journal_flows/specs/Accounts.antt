-- The accounts of flows that are kept while a journal is read (docs/laws/ACCOUNT.md). They don't
-- grow with the journal.
use Rattle.std.specs.Prelude.{ℕ, ◌^◌, Bool, true, false, List, [], ◌∷◌}
use Rattle.std.specs.Prelude.{replicate, map, Option, Some, None, slice_index_or, slice_set}
use Rattle.std.specs.Prelude.{slice_get}
use Rattle.l2_types.specs.declared.channel.Kind.{Kind}
use Rattle.l2_types.specs.declared.channel.Kind.TheVariants as bearers
use Rattle.l2_types.specs.declared.side.Side.{Side}
use Rattle.l2_types.specs.declared.side.Side.TheVariants.{Nb, Ue}
use Rattle.bearer_types.specs.declared.config.BearerConfig.{BearerConfig}
use Rattle.air_record.specs.declared.line.Line.{Line}
use Rattle.air_record.specs.declared.record.Record.{Record}
use Rattle.air_text.specs.Groups.{Group}
use Rattle.pdu_show.specs.declared.kinds.Layout.{Layout}
use Rattle.pdu_show.specs.Kinds.{none_known}
use Rattle.promises.specs.Blocks.{kinds_by}
use Rattle.journal_account.specs.FlowArrivals.{next_in}
use Rattle.journal_lives.specs.FlowLives.{FlowLives, no_lives}
use Rattle.journal_lives.specs.LifeEvents.{LifeEnded}
use Rattle.journal_um.specs.declared.pieces.JoinedSdu.{JoinedSdu}
use Rattle.journal_um.specs.UmFlow.{UmFlow, sdu_taken}
use Rattle.journal_um.specs.UmWindow.{width_of}
use Rattle.journal_flows.specs.declared.account.Account.{Account}
use Rattle.journal_flows.specs.declared.account.Account.TheVariants.{Am, Um}
use Rattle.journal_flows.specs.UmPdus as um
use Rattle.journal_flows.specs.FlowKept.{kept_with}
use Rattle.journal_flows.specs.UmKept.{nothing_come, ends_with}
use Rattle.journal_flows.specs.NumberedPdus.{AnyEvent, Acked, Unacked}
use Rattle.journal_flows.specs.Gathering.{Gatherer, Journal, nothing_sent, with_flows, behind_line}
use Rattle.journal_flows.specs.Gathering.{behind_end, behind_record, is_handover, MayTake}

-- ---- one flow

-- of either kind: an event of the other kind, or of no flow, changes nothing
abbrev pub slot_with : AnyEvent → Option Account → Option Account
slot_with (Acked e) (Some (Am l)) = Some (Am (kept_with e l))
slot_with (Unacked e) (Some (Um u)) = Some (Um (ends_with e u))
slot_with e slot = slot

abbrev pub slot_ended : Option Account → Option Account
slot_ended None = None
slot_ended (Some (Am l)) = Some (Am (kept_with LifeEnded l))
slot_ended (Some (Um u)) = Some (Um (ends_with um.LifeEnded u))

-- ---- what is told of one

abbrev pub acked_in : Option Account → Option FlowLives
acked_in (Some (Am l)) = Some l
acked_in slot = None

abbrev pub unacked_in : Option Account → Option UmFlow
unacked_in (Some (Um u)) = Some u.flow
unacked_in slot = None

abbrev pub next_kept : Option Account → ℕ
next_kept (Some (Am l)) = next_in l.account.arrivals
next_kept slot = 0

abbrev pub front_kept : Option Account → ℕ
front_kept (Some (Am l)) = l.account.arrivals.front
front_kept slot = 0

abbrev pub um_next_kept : Option Account → ℕ
um_next_kept (Some (Um u)) = u.sender.next
um_next_kept slot = 0

abbrev pub um_place_kept : Option Account → ℕ
um_place_kept (Some (Um u)) = u.sender.ended
um_place_kept slot = 0

-- ---- all flows: by the side that sends, and by channel, 0 to 10

pub record Accounts : Type 0 where
  pub nb : List (Option Account)
  pub ue : List (Option Account)

abbrev pub no_channels : List (Option Account)
no_channels = replicate 11 None

abbrev pub no_accounts : Accounts
no_accounts = record { nb = no_channels; ue = no_channels }

abbrev pub channels_of : Side → Accounts → List (Option Account)
channels_of Nb a = a.nb
channels_of Ue a = a.ue

abbrev pub slot_at : Side → ℕ → Accounts → Option Account
slot_at side lcid a = slice_index_or (channels_of side a) lcid None

abbrev pub account_at : Side → ℕ → Accounts → Option FlowLives
account_at side lcid a = acked_in (slot_at side lcid a)

abbrev pub um_flow_at : Side → ℕ → Accounts → Option UmFlow
um_flow_at side lcid a = unacked_in (slot_at side lcid a)

abbrev pub channel_with : ℕ → AnyEvent → List (Option Account) → List (Option Account)
channel_with lcid e channels =
    slice_set channels lcid (slot_with e (slice_index_or channels lcid None))

abbrev pub account_with : Side → ℕ → AnyEvent → Accounts → Accounts
account_with Nb lcid e a = record { nb = channel_with lcid e a.nb; ue = a.ue }
account_with Ue lcid e a = record { nb = a.nb; ue = channel_with lcid e a.ue }

-- with maxRetxThreshold and the first COUNT, where the bearer is acknowledged
abbrev pub is_acked_kind : Kind → Bool
is_acked_kind bearers.Tm = false
is_acked_kind bearers.Srb = true
is_acked_kind bearers.Um = false
is_acked_kind bearers.Am = true

abbrev pub begun_as : Kind → BearerConfig → Option Account
begun_as bearers.Tm config = None
begun_as bearers.Um config =
    Some (Um (nothing_come (width_of config.rlc_bits) (2 ^ config.pdcp_bits)))
begun_as kind config = Some (Am (no_lives config.tx.max_retx config.first))

abbrev pub begun : BearerConfig → Option Account
begun config = begun_as config.kind config

abbrev pub account_begun : BearerConfig → Accounts → Accounts
account_begun config a = record {
  nb = slice_set a.nb config.channel.lcid (begun config);
  ue = slice_set a.ue config.channel.lcid (begun config);
}

abbrev pub channels_ended : List (Option Account) → List (Option Account)
channels_ended channels = map slot_ended channels

abbrev pub accounts_ended : Accounts → Accounts
accounts_ended a = record { nb = channels_ended a.nb; ue = channels_ended a.ue }

abbrev pub accounts : Gatherer Accounts
accounts = record {
  next = λ side lcid a. next_kept (slot_at side lcid a);
  front = λ side lcid a. front_kept (slot_at side lcid a);
  um_next = λ side lcid a. um_next_kept (slot_at side lcid a);
  um_place = λ side lcid a. um_place_kept (slot_at side lcid a);
  tells = λ t a. account_with t.side t.lcid t.event a;
  begins = account_begun;
  ends = accounts_ended;
}

-- ---- the next SDU that goes up of an unacknowledged flow is taken

abbrev pub first_joined : Option UmFlow → Option JoinedSdu
first_joined None = None
first_joined (Some f) = slice_get f.joiner.ready 0

abbrev pub slot_taken : Option Account → Option Account
slot_taken (Some (Um u)) = Some (Um (record { sender = u.sender; flow = sdu_taken u.flow }))
slot_taken slot = slot

abbrev pub channel_taken : ℕ → List (Option Account) → List (Option Account)
channel_taken lcid channels =
    slice_set channels lcid (slot_taken (slice_index_or channels lcid None))

abbrev pub account_taken : Side → ℕ → Accounts → Accounts
account_taken Nb lcid a = record { nb = channel_taken lcid a.nb; ue = a.ue }
account_taken Ue lcid a = record { nb = a.nb; ue = channel_taken lcid a.ue }

-- ---- what is kept, and how lines and records change it

pub record Keeping : Type 0 where
  pub kinds : List (Option Layout)
  pub journal : Journal Accounts
  -- the group that runs is of a handover
  pub hands_over : Bool

abbrev pub nothing_kept : Keeping
nothing_kept = record {
  kinds = none_known;
  journal = record { flows = no_accounts; nb = nothing_sent; ue = nothing_sent };
  hands_over = false;
}

abbrev pub after_line : Line → Keeping → Keeping
after_line line k = record {
  kinds = kinds_by line k.kinds;
  journal = behind_line accounts line k.journal;
  hands_over = is_handover line;
}

abbrev pub with_journal : Journal Accounts → Keeping → Keeping
with_journal j k = record { kinds = k.kinds; journal = j; hands_over = k.hands_over }

abbrev pub after_record : Bool → Record → Keeping → Keeping
after_record more one k =
    with_journal (behind_record accounts k.kinds more one k.journal) k

abbrev pub after_group : Keeping → Keeping
after_group k = record {
  kinds = k.kinds;
  journal = behind_end accounts k.hands_over k.journal;
  hands_over = false;
}

abbrev pub after_taking : Side → ℕ → Keeping → Keeping
after_taking side lcid k =
    with_journal (with_flows (account_taken side lcid k.journal.flows) k.journal) k

-- ---- a journal, group by group

abbrev pub after_records : MayTake → List Group → List Record → List Record → Keeping → Keeping
after_records may_take past before [] k = k
after_records may_take past before (one ∷ told) k =
    after_records may_take past (one ∷ before) told
    (after_record (may_take past before one) one k)

-- behind the records of the newest group, and behind its end
abbrev pub kept_within : MayTake → Group → List Group → Keeping → Keeping
kept_within may_take now past k =
    after_records may_take past [] now.events (after_line now.line k)

abbrev pub all_kept : MayTake → List Group → Keeping
all_kept may_take [] = nothing_kept
all_kept may_take (now ∷ past) =
    after_group (kept_within may_take now past (all_kept may_take past))
