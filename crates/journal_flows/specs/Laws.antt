-- What is gathered of a journal's flows: each history is one, the account that is kept of a flow is
-- that of its history, and the numbers by which PDUs are read are those that they should be
-- (docs/laws/ACCOUNT.md; TS 36.322 7.1).
use Rattle.std.specs.Prelude.{ℕ, ◌≡◌, ◌+◌, ◌<◌, ◌≤◌, ◌%◌, ◌^◌, ◌==◌, Bool, false, if◌then◌else◌}
use Rattle.std.specs.Prelude.{List, [], ◌∷◌, ◌++◌, Option, Some, None, option_map, option_to_list}
use Rattle.l2_num.specs.Least.{IsLeast}
use Rattle.l2_types.specs.declared.channel.Kind.{Kind}
use Rattle.l2_types.specs.declared.channel.Kind.TheVariants as bearers
use Rattle.l2_types.specs.declared.side.Side.{Side}
use Rattle.rlc_pdu.specs.declared.constants.TheConstants.{AM_MODULUS}
use Rattle.bearer_types.specs.declared.config.BearerConfig.{BearerConfig}
use Rattle.air_record.specs.declared.line.Line.{Line}
use Rattle.air_record.specs.declared.line.Line.TheVariants as lines
use Rattle.air_record.specs.declared.record.Record.{Record}
use Rattle.air_text.specs.Groups.{Group}
use Rattle.journal_account.specs.FlowEvents.{FlowEvent}
use Rattle.journal_account.specs.Arrived.{is_complete_in}
use Rattle.journal_lives.specs.FlowLives.{FlowLives, lives_of}
use Rattle.journal_lives.specs.LifeEvents.{LifeEvent, AreLives}
use Rattle.journal_um.specs.declared.pieces.JoinedSdu.{JoinedSdu}
use Rattle.journal_um.specs.Laws.{HasMore}
use Rattle.journal_um.specs.UmFlow.{UmFlow, flow_of}
use Rattle.journal_um.specs.UmSdus.{handed_in}
use Rattle.journal_um.specs.UmWindow.{width_of}
use Rattle.journal_flows.specs.NumberedPdus.{front_in, with_sn_from}
use Rattle.journal_flows.specs.Gathering.{MayTake}
use Rattle.journal_flows.specs.FlowsTold.{flows_told, flows_within, um_flows_told, um_flows_within}
use Rattle.journal_flows.specs.FlowsTold.{is_at}
use Rattle.journal_flows.specs.UmPdus.{UmFlowEvent, come_in}
use Rattle.journal_flows.specs.Accounts.{Keeping, is_acked_kind, account_at, um_flow_at}
use Rattle.journal_flows.specs.Accounts.{first_joined, nothing_kept, after_line, after_record}
use Rattle.journal_flows.specs.Accounts.{after_group, after_taking, kept_within, all_kept}

-- VR(R) is the least number that isn't complete
abbrev pub FrontsAreLeast : Type 0
FrontsAreLeast = (es : List FlowEvent) → IsLeast (is_complete_in es) 0 (front_in es)

-- a number less than a modulus above another is the one that its SN gives from there on
abbrev pub NumbersAreOwn : Type 0
NumbersAreOwn = (low n : ℕ) → low ≤ n → n < low + AM_MODULUS → with_sn_from low (n % AM_MODULUS) ≡ n

-- each history that a journal tells is one
abbrev pub HistoriesAreLives : Type 0
HistoriesAreLives =
    (may_take : MayTake) (past : List Group) (side : Side) (lcid : ℕ)
    → AreLives (flows_told may_take past side lcid)

-- the bearer on a channel: that of the latest line
abbrev pub bearer_by : Line → ℕ → Option BearerConfig → Option BearerConfig
bearer_by (lines.Bearer config options) lcid before =
    if config.channel.lcid == lcid then Some config else before
bearer_by line lcid before = before

abbrev pub bearer_on : ℕ → List Group → Option BearerConfig
bearer_on lcid [] = None
bearer_on lcid (g ∷ past) = bearer_by g.line lcid (bearer_on lcid past)

-- the account of a history, with the bearer's maxRetxThreshold and first COUNT
abbrev pub account_by : Option BearerConfig → List LifeEvent → Option FlowLives
account_by None es = None
account_by (Some config) es =
    if is_acked_kind config.kind then Some (lives_of config.tx.max_retx config.first es) else None

-- the account that is kept of each channel is that of its history: behind groups, and behind the
-- records of a group that runs
pub record AreKept (may_take : MayTake) (past : List Group) (side : Side) (lcid : ℕ) : Type 0 where
  pub behind : account_at side lcid (all_kept may_take past).journal.flows
      ≡ account_by (bearer_on lcid past) (flows_told may_take past side lcid)
  pub within : (now : Group)
      → account_at side lcid
      (kept_within may_take now past (all_kept may_take past)).journal.flows
      ≡ account_by (bearer_on lcid (now ∷ past)) (flows_within may_take now past side lcid)

abbrev pub FlowsAreTold : Type 0
FlowsAreTold =
    (may_take : MayTake) (past : List Group) (side : Side) (lcid : ℕ) → lcid ≤ 10
    → AreKept may_take past side lcid

-- ---- unacknowledged flows

abbrev pub um_flow_as : Kind → BearerConfig → List UmFlowEvent → Option UmFlow
um_flow_as bearers.Um config es =
    Some (flow_of (width_of config.rlc_bits) (2 ^ config.pdcp_bits) (come_in es))
um_flow_as kind config es = None

-- the account of a history of which no SDU was taken, with UM_Window_Size and how many SNs PDCP has
abbrev pub um_flow_by : Option BearerConfig → List UmFlowEvent → Option UmFlow
um_flow_by None es = None
um_flow_by (Some config) es = um_flow_as config.kind config es

pub record AreUmKept (may_take : MayTake) (past : List Group) (side : Side) (lcid : ℕ)
    : Type 0 where
  pub behind : um_flow_at side lcid (all_kept may_take past).journal.flows
      ≡ um_flow_by (bearer_on lcid past) (um_flows_told may_take past side lcid)
  pub within : (now : Group)
      → um_flow_at side lcid
      (kept_within may_take now past (all_kept may_take past)).journal.flows
      ≡ um_flow_by (bearer_on lcid (now ∷ past)) (um_flows_within may_take now past side lcid)

abbrev pub UmFlowsAreTold : Type 0
UmFlowsAreTold =
    (may_take : MayTake) (past : List Group) (side : Side) (lcid : ℕ) → lcid ≤ 10
    → AreUmKept may_take past side lcid

-- ---- SDUs may be taken at any time

-- what is done with the accounts: a line, a record and the end of a group go in, and the next SDU
-- of the flow of a side on a channel is taken
pub data Deed : Type 0 where
  GoesLine : Line → Deed
  GoesRecord : Bool → Record → Deed
  GoesEnd : Deed
  IsTaken : Side → ℕ → Deed

-- Deeds, of which the latest stands first.

abbrev pub kept_by : List Deed → Keeping
kept_by [] = nothing_kept
kept_by (GoesLine line ∷ deeds) = after_line line (kept_by deeds)
kept_by (GoesRecord more one ∷ deeds) = after_record more one (kept_by deeds)
kept_by (GoesEnd ∷ deeds) = after_group (kept_by deeds)
kept_by (IsTaken side lcid ∷ deeds) = after_taking side lcid (kept_by deeds)

-- without the SDUs that are taken
abbrev pub untaken : List Deed → List Deed
untaken [] = []
untaken (IsTaken side lcid ∷ deeds) = untaken deeds
untaken (deed ∷ deeds) = deed ∷ untaken deeds

abbrev pub begins_on : Line → ℕ → Bool
begins_on (lines.Bearer config options) lcid = config.channel.lcid == lcid
begins_on line lcid = false

-- what was taken of a flow since its bearer began, in order
abbrev pub taken_of : Side → ℕ → List Deed → List JoinedSdu
taken_of side lcid [] = []
taken_of side lcid (GoesLine line ∷ deeds) =
    if begins_on line lcid then [] else taken_of side lcid deeds
taken_of side lcid (IsTaken own channel ∷ deeds) = taken_of side lcid deeds
    ++ (if is_at own channel side lcid
    then option_to_list (first_joined (um_flow_at side lcid (kept_by deeds).journal.flows)) else [])
taken_of side lcid (deed ∷ deeds) = taken_of side lcid deeds

-- a flow of which SDUs were taken: the others are left, and nothing else has changed
abbrev pub before_taking : List JoinedSdu → UmFlow → UmFlow
before_taking taken f = record f {
  joiner = record f.joiner { ready = taken ++ f.joiner.ready };
}

pub record AreTaken (deeds : List Deed) (side : Side) (lcid : ℕ) : Type 0 where
  pub acked : account_at side lcid (kept_by deeds).journal.flows
      ≡ account_at side lcid (kept_by (untaken deeds)).journal.flows
  pub unacked : option_map (before_taking (taken_of side lcid deeds))
      (um_flow_at side lcid (kept_by deeds).journal.flows)
      ≡ um_flow_at side lcid (kept_by (untaken deeds)).journal.flows

abbrev pub TakingIsFree : Type 0
TakingIsFree = (deeds : List Deed) (side : Side) (lcid : ℕ) → lcid ≤ 10 → AreTaken deeds side lcid

-- ---- of a journal, group by group

abbrev pub records_read : MayTake → List Group → List Record → List Record → List Deed → List Deed
records_read may_take past before [] deeds = deeds
records_read may_take past before (one ∷ told) deeds =
    records_read may_take past (one ∷ before) told
    (GoesRecord (may_take past before one) one ∷ deeds)

-- behind the records of the newest group, and behind its end
abbrev pub read_within : MayTake → Group → List Group → List Deed → List Deed
read_within may_take now past deeds =
    records_read may_take past [] now.events (GoesLine now.line ∷ deeds)

abbrev pub all_read : MayTake → List Group → List Deed
all_read may_take [] = []
all_read may_take (now ∷ past) =
    GoesEnd ∷ read_within may_take now past (all_read may_take past)

-- what goes up of a flow by its history
abbrev pub goes_up : BearerConfig → List UmFlowEvent → List JoinedSdu
goes_up config es = handed_in (width_of config.rlc_bits) (come_in es)

-- while a journal is read, what was taken of a flow is a beginning of what goes up of it
pub record IsBeginning (may_take : MayTake) (past : List Group) (side : Side) (lcid : ℕ)
    (deeds : List Deed) : Type 0 where
  pub behind : (config : BearerConfig) → bearer_on lcid past ≡ Some config
      → config.kind ≡ bearers.Um → untaken deeds ≡ all_read may_take past
      → HasMore (taken_of side lcid deeds) (goes_up config (um_flows_told may_take past side lcid))
  pub within : (now : Group) (config : BearerConfig) → bearer_on lcid (now ∷ past) ≡ Some config
      → config.kind ≡ bearers.Um
      → untaken deeds ≡ read_within may_take now past (all_read may_take past)
      → HasMore (taken_of side lcid deeds)
      (goes_up config (um_flows_within may_take now past side lcid))

abbrev pub TakenGoesUp : Type 0
TakenGoesUp =
    (may_take : MayTake) (past : List Group) (side : Side) (lcid : ℕ) (deeds : List Deed)
    → lcid ≤ 10 → IsBeginning may_take past side lcid deeds
