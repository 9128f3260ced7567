use Rattle.pdcp_tx_store.proofs.GivenSteps.{open_less}
use Rattle.pdcp_tx_store.proofs.given.hear_open.Goals as goal

pub returns-clause-octets : goal.returns-clause-octets
returns-clause-octets c = rw c.hear_all.ensures (open_less c.args.from c.args.bitmap.now c.args.entries.now.items)
