use Rattle.pdcp_tx_store.specs.Given.{data_of}
use Rattle.pdcp_tx_store.proofs.AgainSteps.{data_heard, octets_less, length_less}
use Rattle.pdcp_tx_store.proofs.again.hear_data.Goals as goal

pub returns-clause-octets : goal.returns-clause-octets
returns-clause-octets c =
    rw (c.hear_all.ensures, data_heard c.args.from c.args.bitmap.now c.args.ring.now.items)
    (octets_less c.args.from c.args.bitmap.now (data_of c.args.ring.now.items))

pub returns-clause-count : goal.returns-clause-count
returns-clause-count c =
    rw (c.hear_all.ensures, data_heard c.args.from c.args.bitmap.now c.args.ring.now.items)
    (length_less c.args.from c.args.bitmap.now (data_of c.args.ring.now.items))
