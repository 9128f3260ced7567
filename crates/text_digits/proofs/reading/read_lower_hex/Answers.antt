use Rattle.std.proofs.lemmas.Result.{IfOk-weaker}
use Rattle.text_digits.proofs.DecodeLaws.{lower-decoded, capital-refused}
use Rattle.text_digits.proofs.reading.read_lower_hex.Goals as goal

pub returns-clause-lower : goal.returns-clause-lower
returns-clause-lower c =
    IfOk-weaker c.read.result _ _ (λ good. lower-decoded c.args.text.now good _) c.read.ensures

pub returns-clause-capital : goal.returns-clause-capital
returns-clause-capital c =
    IfOk-weaker c.read.result _ _ (λ good. capital-refused c.args.text.now good _) c.read.ensures
