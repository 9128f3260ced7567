use Rattle.std.proofs.Common.{◌-◌, length, arith}
use Rattle.text_digits.proofs.DecodeLaws.{few-good, few-bad, few-odd}
use Rattle.text_digits.proofs.reading.append_few.Goals as goal

pub returns-then-digits-ne0 : goal.returns-then-digits-ne0
returns-then-digits-ne0 c = few-odd c.args.letters c.args.digits.now _ _ (omega (arith, c.if-digits-ne0.true))

pub returns-in_default : goal.returns-in_default
returns-in_default c =
    few-bad c.args.letters c.args.digits.now _ _ _ (64 - length c.args.digits.now)
    (omega (arith, c.if-digits-ne0.false))
    (omega (arith, c.requires, c.if-digits-ne0.false)) c.filled.ensures c.in_default.ensures

pub returns : goal.returns
returns c =
    few-good c.args.letters c.args.digits.now _ _ _ _ (64 - length c.args.digits.now)
    (omega (arith, c.if-digits-ne0.false))
    c.filled.ensures c.in-Some.ensures c.in_ok-append.ensures.ok
