use Rattle.std.proofs.Common.{sym}
use Rattle.air_record.proofs.Gets.{drop-get}
use Rattle.air_record.proofs.word.item_at.Goals as goal

pub returns : goal.returns
returns g c = drop-get c.args.items.now c.args.at c.in-Some.item.now (sym c.in-Some.ensures)
