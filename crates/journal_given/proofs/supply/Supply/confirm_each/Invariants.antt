use Rattle.std.proofs.Common.{◌≡◌, length}
use Rattle.journal_account.specs.FlowConfirmed.{is_among}
use Rattle.journal_given.specs.Supplies.{accounts, confirms_all}
use Rattle.journal_given.proofs.supply.Supply.confirm_each.Given as goal

abbrev pub invariant-loop-pdu : goal.invariant-loop-pdu
invariant-loop-pdu l =
    confirms_all accounts (λ k. is_among k l.fn.confirmed) l.pdus l.self
    ≡ confirms_all accounts (λ k. is_among k l.fn.confirmed) l.fn.pdus l.fn.self

abbrev pub decreases-loop-pdu : goal.decreases-loop-pdu
decreases-loop-pdu l = length l.pdus
