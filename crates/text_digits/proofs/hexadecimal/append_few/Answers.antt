use Rattle.std.proofs.Common.{length, ◌-◌, replicate}
use Rattle.text_digits.proofs.Blocks.{encode-front, none-written}
use Rattle.text_digits.proofs.hexadecimal.append_few.Goals as goal

pub returns : goal.returns
returns c = rw (
  c.piece_digits-digits.ensures,
  c.filled.ensures,
  encode-front c.args.few.now (replicate (16 - length c.args.few.now) 0),
) at c.append.ensures.ok

pub returns-in_default : goal.returns-in_default
returns-in_default c = none-written c.args.text.now c.args.few.now c.in_default.len_below
