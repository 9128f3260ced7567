use Rattle.std.proofs.Common.{◌≡◌, length}
use Rattle.bearer.specs.Acknowledged.Hearing.{confirms}
use Rattle.bearer.proofs.acknowledged.hearing.confirm_all.Given as goal

abbrev pub invariant-loop-place : goal.invariant-loop-place
invariant-loop-place l = record {
  confirms' : confirms l.tx.state.accounts.news l.pdcp ≡ confirms l.fn.tx.state.accounts.news l.fn.pdcp;
  same : l.tx.state ≡ record l.fn.tx.state {
    accounts =
        record l.fn.tx.state.accounts { news = l.tx.state.accounts.news };
  };
}

abbrev pub decreases-loop-place : goal.decreases-loop-place
decreases-loop-place l = length l.tx.state.accounts.news
