use Rattle.std.proofs.Common.{arith}
use Rattle.l2_num.proofs.LeastLemmas.{past_least}
use Rattle.l2_num.proofs.laws.least_number.Goals as goal

pub returns-clause-found : goal.returns-clause-found
returns-clause-found c =
    λ passes p fuel e. past_least passes p p fuel (omega arith) (λ n from lt. absurd (omega arith)) e
