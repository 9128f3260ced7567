-- The measure of a link behind the first TTIs of a drain lies below the rounds that the drain may
-- take (docs/formats/SCRIPT.md, docs/laws/DRAIN.md; TS 36.322 5.2.1, TS 36.323 5.4).
use Rattle.std.specs.Prelude.{ℕ, ◌+◌, ◌*◌, ◌^◌, ◌≤◌, List, [], ◌∷◌}
use Rattle.std.specs.List.{AllByRecursion}
use Rattle.air_link.specs.Draining.{count}
use Rattle.air_link.specs.Link.{Link}
use Rattle.air_run.specs.Draining.{ttis, budget}
use Rattle.bearer.specs.Bearer.{Of, Life}
use Rattle.bearer.specs.declared.flow.Flow.{Flow}
use Rattle.bearer.specs.declared.flow.Flow.TheVariants.{Tm, Um, Am}
use Rattle.l2_num.specs.Ascending.{IsAscending}
use Rattle.law_node.specs.Holding.{flow}
use Rattle.law_drain.specs.Left.{uncut_left}
use Rattle.law_run.specs.DrainTtis.{Step, Tti, ReceiversExpire, SendersExpire, goes}
use Rattle.law_run.specs.DrainRounds.{IsOfDrain, MayDrain}
use Rattle.law_run.specs.DrainLinks.{AllMeasured, link_measure, IsChannelOn}

-- TTIs alone, as a drain begins with eight
abbrev pub IsTtiOfDrain : Step → Type 0
IsTtiOfDrain (Tti grant) = IsOfDrain (Tti grant)
IsTtiOfDrain ReceiversExpire = ⊥
IsTtiOfDrain SendersExpire = ⊥

-- what is left at all bearers of both ends, however much it is
abbrev pub all_uncut : List (Of Life) → ℕ
all_uncut [] = 0
all_uncut (b ∷ bs) = uncut_left b.state.flow + all_uncut bs

abbrev pub link_uncut : Link → ℕ
link_uncut k = all_uncut k.nb.bearers + all_uncut k.ue.bearers

-- of any channels that both ends have, each once: by what is left as the first TTI begins
pub record IsMeasuredWithin (ls : List ℕ) (most : ℕ) (m : Link) : Type 0 where
  pub measured : AllMeasured ls m
  pub within : link_measure ls m measured + 1 ≤ most

abbrev pub MeasuresAreLeft : Type 0
MeasuresAreLeft = (steps : List Step) (k : Link) (ls : List ℕ) → AllByRecursion IsTtiOfDrain steps
    → MayDrain k → IsAscending 0 ls → AllByRecursion (IsChannelOn k) ls
    → IsMeasuredWithin ls (1024 * (link_uncut k + (512 * count k + 64))) (goes steps k)

-- COUNTs have 32 bits, as with each configuration that is read (TS 36.323 7.1)
abbrev pub CountsEnd : Flow → Type 0
CountsEnd (Tm b) = Unit {0}
CountsEnd (Um b) = b.pdcp.tx.next ≤ 2 ^ 32
CountsEnd (Am b) = b.pdcp.tx.next ≤ 2 ^ 32

abbrev pub HaveCounts : Link → ℕ → Type 0
HaveCounts k l = CountsEnd (flow l k.nb) × CountsEnd (flow l k.ue)

-- so it lies below the budget: no sum of 64 bits is cut
abbrev pub BudgetsSuffice : Type 0
BudgetsSuffice = (steps : List Step) (k : Link) (ls : List ℕ) → AllByRecursion IsTtiOfDrain steps
    → MayDrain k → IsAscending 0 ls → AllByRecursion (IsChannelOn k) ls
    → AllByRecursion (HaveCounts k) ls → IsMeasuredWithin ls (budget k) (goes steps k)

-- as the line plays them
abbrev pub LinesHaveBudgets : Type 0
LinesHaveBudgets = (n grant : ℕ) (k : Link) (ls : List ℕ) → IsOfDrain (Tti grant) → MayDrain k
    → IsAscending 0 ls → AllByRecursion (IsChannelOn k) ls → AllByRecursion (HaveCounts k) ls
    → IsMeasuredWithin ls (budget k) (ttis n grant k).link
