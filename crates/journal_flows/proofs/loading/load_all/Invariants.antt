use Rattle.std.proofs.Common.{◌≡◌, [], length}
use Rattle.promises.specs.RightForm.{sdus_in}
use Rattle.journal_flows.specs.Gathering.{loads}
use Rattle.journal_flows.specs.Accounts.{accounts}
use Rattle.journal_flows.proofs.loading.load_all.Given as goal

abbrev pub invariant-loop-item : goal.invariant-loop-item
invariant-loop-item l =
    loads accounts l.kinds l.from l.named (sdus_in l.reader) (record { flows = l.flows; parcels = l.parcels })
    ≡ loads accounts l.fn.kinds l.fn.from l.fn.named (sdus_in l.fn.reader)
    (record { flows = l.fn.flows; parcels = [] })

abbrev pub decreases-loop-item : goal.decreases-loop-item
decreases-loop-item l = length l.reader
