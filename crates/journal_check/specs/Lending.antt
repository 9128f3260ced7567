-- What PDCP gives RLC, and what RLC sends of it, where the accounts of flows are lent.
use Rattle.std.specs.Borrow.{Lends, MutBor, Fml}
use Rattle.journal_flows.specs.Accounts.{Keeping}
use Rattle.journal_flows.specs.contracts.flows.JournalFlows as flows
use Rattle.journal_check.specs.Judging.{Sends, with_kept}
use Rattle.journal_check.specs.contracts.sends.Sends as sends

-- once the borrow ends, the accounts are those that were lent, as they are then
abbrev pub lends_flows : MutBor Sends → MutBor Keeping → Fml
lends_flows s k = Lends sends.the_row flows.the_row s k (λ kept. with_kept kept s.now)
