-- What is gathered of a journal is what it tells (docs/laws/ACCOUNT.md).
use Rattle.std.specs.Prelude.{ℕ, ◌≡◌, ◌+◌, ◌≤◌, ◌==◌, ◌↔◌, true, IsTrue, List, [], ◌∷◌, Option}
use Rattle.std.specs.Prelude.{None, Some, option_map}
use Rattle.std.specs.List.{list_any}
use Rattle.l2_num.specs.Ascending.{IsAscending}
use Rattle.l2_num.specs.Least.{IsLeast}
use Rattle.l2_types.specs.declared.side.Side.{Side}
use Rattle.bearer_types.specs.declared.config.BearerConfig.{BearerConfig}
use Rattle.air_record.specs.declared.line.Line.{Line}
use Rattle.air_record.specs.declared.record.Record.{Record}
use Rattle.air_text.specs.Groups.{Group}
use Rattle.journal_account.specs.Confirmed.{is_confirmed_sdu}
use Rattle.journal_account.specs.Stream.{is_in_sequence}
use Rattle.journal_lives.specs.FlowLives.{FlowLives}
use Rattle.journal_lives.specs.LifeEvents.{LifeEvent, running, count_came}
use Rattle.journal_takes.specs.FlowTakes.{FlowTakes}
use Rattle.journal_takes.specs.Takeable.{AreTakes}
use Rattle.journal_flows.specs.FlowsTold.{flows_told, flows_within}
use Rattle.journal_flows.specs.Accounts.{is_acked_kind, account_at, after_taking, kept_within}
use Rattle.journal_flows.specs.Accounts.{all_kept}
use Rattle.journal_flows.specs.Laws.{bearer_on}
use Rattle.journal_flows.specs.Laws as flows
use Rattle.journal_given.specs.Supplies.{Bearer, History, account, histories, accounts}
use Rattle.journal_given.specs.Supplies.{is_confirmed_by, is_sequenced_by, come_by}
use Rattle.journal_given.specs.Giving.{Giving, side_of, bearer_at, nothing_given, may_take}
use Rattle.journal_given.specs.Giving.{settled, with_kept, after_line, after_record, after_group}
use Rattle.journal_given.specs.Giving.{given_within, all_given, may_take_by}
use Rattle.journal_given.specs.RightTakes.{TakesAreRight}

-- ---- the flows

-- Behind groups, and behind the records of the one that runs, the accounts of flows are those that
-- `JournalFlows` keeps where t-PollRetransmit is told whether anything may be taken, by the
-- histories of what PDCP gives.
pub record AreFlowsKept (past : List Group) : Type 0 where
  pub behind : (all_given accounts past).kept ≡ all_kept (may_take_by histories past) past
  pub within : (now : Group)
      → (given_within accounts now (all_given accounts past)).kept
      ≡ kept_within (may_take_by histories (now ∷ past)) now past
      (all_kept (may_take_by histories (now ∷ past)) past)

abbrev pub FlowsAreTied : Type 0
FlowsAreTied = (past : List Group) → AreFlowsKept past

-- ---- what flows say of what RLC confirms, and of what comes

-- it is what their histories say
pub record SaysSo (first : ℕ) (es : List LifeEvent) (flow : Option FlowLives) : Type 0 where
  pub confirmed : (k : ℕ) → is_confirmed_by flow k ≡ is_confirmed_sdu (running es) k
  pub sequenced : (k : ℕ) → is_sequenced_by flow k ≡ is_in_sequence (running es) k
  -- the COUNTs that have come: the first that hasn't, and those beyond it that have, ascending
  pub next : IsLeast (count_came es) first (come_by flow).next
  pub ascend : IsAscending ((come_by flow).next + 1) (come_by flow).beyond
  pub beyond : (count : ℕ) → (come_by flow).next ≤ count
      → count_came es count ≡ list_any (λ (own : ℕ). own == count) (come_by flow).beyond

-- where the bearer is acknowledged
abbrev pub SaysBy : Option BearerConfig → List LifeEvent → Option FlowLives → Type 0
SaysBy None es flow = Unit {0}
SaysBy (Some config) es flow = is_acked_kind config.kind ≡ true → SaysSo config.first es flow

pub record FlowSays (past : List Group) (side : Side) (lcid : ℕ) : Type 0 where
  pub behind : SaysBy (bearer_on lcid past)
      (flows_told (may_take_by histories past) past side lcid)
      (account_at side lcid (all_given accounts past).kept.journal.flows)
  pub within : (now : Group) → SaysBy (bearer_on lcid (now ∷ past))
      (flows_within (may_take_by histories (now ∷ past)) now past side lcid)
      (account_at side lcid
      (given_within accounts now (all_given accounts past)).kept.journal.flows)

abbrev pub FlowsSaySo : Type 0
FlowsSaySo = (past : List Group) (side : Side) (lcid : ℕ) → lcid ≤ 10 → FlowSays past side lcid

-- ---- takes

abbrev pub takes_by : {T : Type 0} → Side → Option (Bearer T) → Option T
takes_by side None = None
takes_by side (Some b) = Some (side_of side b).takes

-- of a side and a channel
abbrev pub takes_at : {T : Type 0} → Side → ℕ → Giving T → Option T
takes_at side lcid g = takes_by side (bearer_at lcid g.bearers)

abbrev pub AreTakesOf : Option History → Type 0
AreTakesOf None = Unit {0}
AreTakesOf (Some h) = AreTakes h.first h.bits h.events

-- what is kept is the account of the history that is told, and that is one
pub record IsTold (side : Side) (lcid : ℕ) (g : Giving FlowTakes) (told : Giving History)
    : Type 0 where
  pub account_is : takes_at side lcid g ≡ option_map account (takes_at side lcid told)
  pub takes : AreTakesOf (takes_at side lcid told)

pub record AreTakesTold (past : List Group) (side : Side) (lcid : ℕ) : Type 0 where
  pub behind : IsTold side lcid (all_given accounts past) (all_given histories past)
  pub within : (now : Group)
      → IsTold side lcid (given_within accounts now (all_given accounts past))
      (given_within histories now (all_given histories past))

abbrev pub TakesAreTold : Type 0
TakesAreTold = (past : List Group) (side : Side) (lcid : ℕ) → AreTakesTold past side lcid

-- ---- SDUs that unacknowledged flows hand up may be taken at any time

-- what is done: a line, a record and the end of a group go in, and the next SDU of the
-- unacknowledged flow of a side on a channel is taken
pub data Deed : Type 0 where
  GoesLine : Line → Deed
  GoesRecord : Record → Deed
  GoesEnd : Deed
  IsTaken : Side → ℕ → Deed

-- Deeds, of which the latest stands first.

abbrev pub given_by : List Deed → Giving FlowTakes
given_by [] = nothing_given
given_by (GoesLine line ∷ deeds) = after_line accounts line (given_by deeds)
given_by (GoesRecord one ∷ deeds) = after_record accounts one (given_by deeds)
given_by (GoesEnd ∷ deeds) = after_group accounts (given_by deeds)
given_by (IsTaken side lcid ∷ deeds) =
    with_kept (after_taking side lcid (given_by deeds).kept) (given_by deeds)

-- without the SDUs that are taken
abbrev pub untaken : List Deed → List Deed
untaken [] = []
untaken (IsTaken side lcid ∷ deeds) = untaken deeds
untaken (deed ∷ deeds) = deed ∷ untaken deeds

-- the same as what is done with the accounts of flows
abbrev pub flows_done : List Deed → List flows.Deed
flows_done [] = []
flows_done (GoesLine line ∷ deeds) = flows.GoesLine line ∷ flows_done deeds
flows_done (GoesRecord one ∷ deeds) =
    flows.GoesRecord (may_take accounts one (settled accounts one (given_by deeds))) one
    ∷ flows_done deeds
flows_done (GoesEnd ∷ deeds) = flows.GoesEnd ∷ flows_done deeds
flows_done (IsTaken side lcid ∷ deeds) = flows.IsTaken side lcid ∷ flows_done deeds

-- what is given is as if nothing were taken, but for the accounts of flows, of which `TakingIsFree`
-- of `journal_flows` says so
pub record AreTaken (deeds : List Deed) : Type 0 where
  pub given : given_by deeds
      ≡ with_kept (flows.kept_by (flows_done deeds)) (given_by (untaken deeds))
  pub kept : (given_by (untaken deeds)).kept ≡ flows.kept_by (flows.untaken (flows_done deeds))

abbrev pub TakingIsFree : Type 0
TakingIsFree = (deeds : List Deed) → AreTaken deeds

-- ---- the verdict

abbrev pub VerdictIsExact : Type 0
VerdictIsExact =
    (past : List Group) → IsTrue (all_given accounts past).right ↔ TakesAreRight past
