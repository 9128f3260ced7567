use Rattle.std.proofs.Common.{◌∙◌, ap}
use Rattle.journal_account.specs.FlowAccount.{FlowAccount}
use Rattle.journal_account.specs.FlowConfirmed.{confirmed_sdus}
use Rattle.journal_given.proofs.Confirming.{by_walk}
use Rattle.journal_given.proofs.supply.Supply.confirm_by.Goals as goal

pub returns : goal.returns
returns c =
    let same = c.in_ok-confirmed.ensures ∙ ap (λ (a : FlowAccount). confirmed_sdus a) c.account.ensures in
    by_walk c.args.flow.now _ c.args.self.now _ _ _ same c.take_unconfirmed-pdus.ensures.given
    c.take_unconfirmed-pdus.ensures.rest c.in_ok-confirm_each.ensures
