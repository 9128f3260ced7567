use Rattle.std.proofs.Common.{◌++◌, length, ap, ℕ, List}
use Rattle.std.proofs.lemmas.List.{drop-replicate}
use Rattle.text_digits.proofs.hexadecimal.filled.Goals as goal

pub returns : goal.returns
returns c =
    rw c.copy_from_slice.ensures.after
    (ap (λ (rest : List ℕ). c.args.few.now ++ rest) (drop-replicate (length c.args.few.now) 16 0))
