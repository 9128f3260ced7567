-- The SDU of a COUNT, by what is told of the data of its side and channel.
use Rattle.std.proofs.Common.{◌≡◌, ℕ, Option, Some, None, refl, ap}
use Rattle.l2_types.specs.declared.side.Side.{Side}
use Rattle.journal_takes.specs.FlowTakes.{FlowTakes, sdu_kept}
use Rattle.journal_given.specs.Supplies.{Bearer, accounts}
use Rattle.journal_given.specs.Giving.{side_of}
use Rattle.journal_given.specs.Laws.{takes_by}
use Rattle.journal_sent.specs.Sending.{sdu_in}

pub by_takes : (side : Side) (count : ℕ) (o : Option (Bearer FlowTakes)) (t : FlowTakes)
    → takes_by side o ≡ Some t → sdu_in accounts side count o ≡ sdu_kept count t
by_takes side count None t e = absurd cc
by_takes side count (Some b) t e =
    let is : (side_of side b).takes ≡ t = cc in ap (λ (u : FlowTakes). sdu_kept count u) is

pub by_none : (side : Side) (count : ℕ) (o : Option (Bearer FlowTakes)) → takes_by side o ≡ None
    → sdu_in accounts side count o ≡ None
by_none side count None e = refl
by_none side count (Some b) e = absurd cc

pub ruleset finds = (by_takes, by_none)
