use Rattle.std.proofs.Common.{rules}
use Rattle.l2_commands.proofs.summing.pass_line.Goals as goal

pub returns-in-Ok : goal.returns-in-Ok
returns-in-Ok c number = let steps = c.in-Ok.ensures number in search rules

pub returns-in-Ok-2 : goal.returns-in-Ok-2
returns-in-Ok-2 c number = let steps = c.in-Ok-2.ensures number in search rules

pub returns-in-Err-Refused : goal.returns-in-Err-Refused
returns-in-Err-Refused c number = let steps = c.in-Err-Refused.ensures number in search rules

pub returns-in-Err-WriteFault : goal.returns-in-Err-WriteFault
returns-in-Err-WriteFault c number = let steps = c.in-Err-WriteFault.ensures number in search rules
