use Rattle.l2_commands.proofs.Finishing.{finish-plays}
use Rattle.l2_commands.proofs.script.finish.Goals as goal

pub returns-in-Ok-clause-over : goal.returns-in-Ok-clause-over
returns-in-Ok-clause-over g c = finish-plays c.args.run _ _ _ _ c.in-Ok.ensures.finish

pub returns-in-Err-WriteFault-clause-over : goal.returns-in-Err-WriteFault-clause-over
returns-in-Err-WriteFault-clause-over g c =
    finish-plays c.args.run _ _ _ _ (rw c.in-Err-WriteFault.field-0-is at c.in-Err-WriteFault.ensures.finish)

pub returns-in-Err-NoMemory-clause-over : goal.returns-in-Err-NoMemory-clause-over
returns-in-Err-NoMemory-clause-over g c =
    finish-plays c.args.run _ _ _ _ (rw c.in-Err-NoMemory.field-0-is at c.in-Err-NoMemory.ensures.finish)
