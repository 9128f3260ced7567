use Rattle.std.proofs.Common.{arith, ◌∙◌}
use Rattle.mac_pdu.proofs.Accepted.{accepted}
use Rattle.mac_pdu.proofs.Found.{found_in, refused_in, refused}
use Rattle.mac_pdu.proofs.reader.MacReader.parse.Goals as goal

pub returns-clause-items : goal.returns-clause-items
returns-clause-items c =
    found_in c.args.direction c.args.block.now c.read.result (λ i. omega (arith, c.type_inv.block i)) c.read.ensures

pub returns-clause-refused : goal.returns-clause-refused
returns-clause-refused c = refused_in c.args.direction c.args.block.now c.read.result c.read.ensures

pub returns-clause-ok : goal.returns-clause-ok
returns-clause-ok c = λ ps h. c.read.ensures ∙ accepted c.args.direction ps c.args.block.now h

pub returns-clause-err : goal.returns-clause-err
returns-clause-err c = λ e h. c.read.ensures ∙ refused c.args.direction c.args.block.now e h
