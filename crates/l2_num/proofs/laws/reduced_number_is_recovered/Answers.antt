use Rattle.std.proofs.Common.{◌^◌, ◌%◌, refl}
use Rattle.l2_num.proofs.NumberLemmas.{recovered-reduced}
use Rattle.l2_num.proofs.laws.reduced_number_is_recovered.Goals as goal

pub returns : goal.returns
returns c = λ next n bits width from below w.
    recovered-reduced next (n % 2 ^ bits) bits width n w (record { from = from; below = below; sn_is = refl })
