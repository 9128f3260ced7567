use Rattle.std.proofs.Common.{◌≡◌, length}
use Rattle.rlc_um.specs.Joined.{with_elements}
use Rattle.rlc_um.proofs.joiner.Joiner.join_all.Given as goal

abbrev pub invariant-elements : goal.invariant-elements
invariant-elements l = with_elements l.begins l.ends l.elements l.self
    ≡ with_elements l.fn.begins l.ends l.fn.elements l.fn.self

abbrev pub decreases-elements : goal.decreases-elements
decreases-elements l = length l.elements
