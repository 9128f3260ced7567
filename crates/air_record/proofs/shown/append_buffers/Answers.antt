use Rattle.air_record.proofs.shown.append_buffers.Goals as goal

pub returns-in-Truncated : goal.returns-in-Truncated
returns-in-Truncated c = rw c.in-Truncated.is c.append_group.ensures
