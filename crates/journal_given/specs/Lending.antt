-- What is given, where the accounts of flows are lent.
use Rattle.std.specs.Borrow.{Lends, MutBor, Fml}
use Rattle.journal_takes.specs.FlowTakes.{FlowTakes}
use Rattle.journal_flows.specs.Accounts.{Keeping}
use Rattle.journal_flows.specs.contracts.flows.JournalFlows as flows
use Rattle.journal_given.specs.Giving.{Giving, with_kept}
use Rattle.journal_given.specs.contracts.given.JournalGiven as given

-- once the borrow ends, the accounts are those that were lent, as they are then
abbrev pub lends_flows : MutBor (Giving FlowTakes) → MutBor Keeping → Fml
lends_flows g k = Lends given.the_row flows.the_row g k (λ kept. with_kept kept g.now)
