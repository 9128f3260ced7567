use Rattle.std.proofs.lemmas.Result.{IfOk-weaker}
use Rattle.text_digits.proofs.DecodeLaws.{decoded}
use Rattle.text_digits.proofs.reading.read_hex.Goals as goal

pub returns : goal.returns
returns c = IfOk-weaker c.read.result _ _ (λ good. decoded c.args.text.now good _) c.read.ensures
