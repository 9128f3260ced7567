use Rattle.rlc_pdu.proofs.Bodies.{are_lis}
use Rattle.rlc_pdu.proofs.writing.behind.Goals as goal

pub put_units-requires : goal.put_units-requires
put_units-requires c = rw c.but_last-lis.ensures (are_lis c.args.lens.now c.requires.lens)
