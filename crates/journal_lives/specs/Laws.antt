-- What the account of acknowledged data through its lives tells is what its history says
-- (docs/laws/ACCOUNT.md; TS 36.323 5.1.2.1.2).
use Rattle.std.specs.Prelude.{◌≡◌, ℕ, ◌+◌, ◌≤◌, ◌==◌, nat_lt, List}
use Rattle.std.specs.List.{list_any}
use Rattle.l2_num.specs.Ascending.{IsAscending}
use Rattle.l2_num.specs.Least.{IsLeast}
use Rattle.journal_account.specs.FlowAccount.{account_of}
use Rattle.journal_account.specs.Stream.{is_in_sequence}
use Rattle.journal_lives.specs.LifeEvents.{LifeEvent, running, count_came, AreLives}
use Rattle.journal_lives.specs.FlowLives.{FlowLives, lives_of}

-- the account of the life that runs is that of its history, whose PDUs in sequence stand first; the
-- next COUNT is the first that hasn't come, and those beyond it that have are kept, ascending
pub record AreLivesTold (most first : ℕ) (es : List LifeEvent) (l : FlowLives) : Type 0 where
  pub account : l.account ≡ account_of most (running es)
  pub sequenced : (k : ℕ) → is_in_sequence (running es) k ≡ nat_lt k l.account.sdus.sequenced
  pub next : IsLeast (count_came es) first l.come.next
  pub ascend : IsAscending (l.come.next + 1) l.come.beyond
  pub beyond : (count : ℕ) → l.come.next ≤ count
      → count_came es count ≡ list_any (λ (own : ℕ). own == count) l.come.beyond

abbrev pub LivesAreTrue : Type 0
LivesAreTrue = (most first : ℕ) (es : List LifeEvent) → AreLives es
    → AreLivesTold most first es (lives_of most first es)
