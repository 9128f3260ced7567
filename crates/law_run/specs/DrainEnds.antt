-- The rounds of a drain end it (docs/laws/DRAIN.md; TS 36.322 5.1, 5.2): behind its eight TTIs as
-- many as the measure of the link has, and one more, leave both ends drained. So no `drain` line
-- spends its budget.
use Rattle.std.specs.Prelude.{◌≡◌, ℕ, ◌+◌, ◌<◌, ◌≤◌, true, false, List, [], ◌∷◌, length}
use Rattle.std.specs.List.{filter, AllByRecursion}
use Rattle.air_link.specs.Draining.{is_drained}
use Rattle.air_link.specs.Link.{Link, end_of}
use Rattle.air_run.specs.Draining.{ttis, rounds, budget}
use Rattle.air_text.specs.Groups.{Group}
use Rattle.bearer.specs.Acknowledged.State.{State}
use Rattle.bearer.specs.declared.flow.Flow.TheVariants.{Am}
use Rattle.l2_node.specs.Finding.{has}
use Rattle.l2_types.specs.declared.side.Side.{Side}
use Rattle.law_run.specs.DrainRounds.{MayDrain}
use Rattle.law_bearer.specs.AmBearer.Calls.{IsOfSignalling}
use Rattle.law_drain.specs.Signalling.{KeepsNone}
use Rattle.law_node.specs.Holding.{flow}
use Rattle.law_run.specs.DrainBudget.{HaveCounts}
use Rattle.law_run.specs.DrainLinks.{AllMeasured, link_measure}
use Rattle.law_run.specs.Order.{state_behind, KeepsOrder}
use Rattle.l2_types.specs.declared.limits.TheConstants.{GREATEST_GRANT}
use Rattle.promises.specs.Air.{is_tti}
use Rattle.promises.specs.Delivery.{is_forged}
use Rattle.promises.specs.Drained.{is_drain}
use Rattle.promises.specs.Telling.{channels}

-- ---- what a signalling bearer's PDCP keeps

abbrev pub LinksKeepNoSignalling : Type 0
LinksKeepNoSignalling = (past : List Group) (side : Side) (l : ℕ) (b : State) → KeepsOrder past
    → has l (end_of side (state_behind past).link).bearers ≡ true
    → flow l (end_of side (state_behind past).link) ≡ Am b → IsOfSignalling b
    → KeepsNone b.pdcp.tx

-- ---- any rounds

-- the link behind the eight TTIs of a drain that comes next
abbrev pub behind_eight : ℕ → List Group → Link
behind_eight grant past = (ttis 8 grant (state_behind past).link).link

-- the channels of the lines' bearers
abbrev pub lcids : List Group → List ℕ
lcids past = (channels past).by_lcid

abbrev pub RoundsEnd : Type 0
RoundsEnd = (past : List Group) (grant n : ℕ) → KeepsOrder past → is_forged past ≡ false
    → MayDrain (state_behind past).link → 200 ≤ grant → grant ≤ GREATEST_GRANT
    → (h : AllMeasured (lcids past) (behind_eight grant past))
    → link_measure (lcids past) (behind_eight grant past) h < n
    → is_drained (rounds n grant (behind_eight grant past)).link ≡ true

-- ---- a `drain` line behind others

-- where it is accepted the link may drain: no loop is on then
abbrev pub LinksMayDrain : Type 0
LinksMayDrain = (past : List Group) (g : Group) → KeepsOrder (g ∷ past) → is_drain g.line ≡ true
    → MayDrain (state_behind past).link

-- and COUNTs have 32 bits (TS 36.323 7.1)
abbrev pub LinksHaveCounts : Type 0
LinksHaveCounts = (past : List Group) → KeepsOrder past
    → AllByRecursion (HaveCounts (state_behind past).link) (lcids past)

-- behind it both ends are drained, and it has at most as many rounds as its budget
pub record IsDone (past : List Group) (g : Group) : Type 0 where
  pub drained : is_drained (state_behind (g ∷ past)).link ≡ true
  pub within : length (filter is_tti g.events) ≤ 8 + budget (state_behind past).link

-- each one, of groups of which the newest stands first
abbrev pub NoneSpendsItsBudget : List Group → Type 0
NoneSpendsItsBudget [] = Unit {0}
NoneSpendsItsBudget (g ∷ past) =
    (is_drain g.line ≡ true → IsDone past g) × NoneSpendsItsBudget past

abbrev pub DrainsAreDone : Type 0
DrainsAreDone = (past : List Group) → KeepsOrder past → NoneSpendsItsBudget past
