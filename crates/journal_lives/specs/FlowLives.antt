-- The account of acknowledged data through its lives, event by event (docs/laws/ACCOUNT.md; TS
-- 36.323 5.1.2.1.2, 5.2).
use Rattle.std.specs.Prelude.{ℕ, ◌+◌, ◌-◌, if◌then◌else◌, List, [], ◌∷◌, ◌++◌, take, drop, Option}
use Rattle.journal_lives.specs.CountsCome.{CountsCome, none_come, with_counts}
use Rattle.journal_account.specs.FlowEvents.{FlowEvent, SduTaken}
use Rattle.journal_account.specs.FlowAccount.{FlowAccount, empty_account, account_with}
use Rattle.journal_account.specs.FlowWholes.{is_whole_kept}
use Rattle.journal_lives.specs.LifeEvents.{LifeEvent, PduGiven, InLife, LifeEnded}

-- maxRetxThreshold, the account of the life that runs, the COUNTs of its PDUs that aren't in
-- sequence, and those that have come
pub record FlowLives : Type 0 where
  pub most : ℕ
  pub account : FlowAccount
  pub counts : List (Option ℕ)
  pub come : CountsCome

abbrev pub no_lives : ℕ → ℕ → FlowLives
no_lives most first = record {
  most = most;
  account = empty_account most;
  counts = [];
  come = none_come first;
}

-- so many more are in sequence
abbrev pub settled_by : ℕ → FlowLives → FlowLives
settled_by n l = record l { counts = drop n l.counts; come = with_counts (take n l.counts) l.come }

-- an event of the life that runs
abbrev pub living : FlowEvent → FlowLives → FlowLives
living e l = settled_by ((account_with e l.account).sdus.sequenced - l.account.sdus.sequenced)
    (record l { account = account_with e l.account })

-- of PDUs from number k on, the COUNTs of those that are whole
abbrev pub whole_counts : FlowAccount → ℕ → List (Option ℕ) → List (Option ℕ)
whole_counts a k [] = []
whole_counts a k (count ∷ counts) =
    if is_whole_kept k a then count ∷ whole_counts a (k + 1) counts
    else whole_counts a (k + 1) counts

abbrev pub ended : FlowLives → FlowLives
ended l = record l {
  account = empty_account l.most;
  counts = [];
  come = with_counts (whole_counts l.account l.account.sdus.sequenced l.counts) l.come;
}

abbrev pub lives_with : LifeEvent → FlowLives → FlowLives
lives_with (PduGiven count size) l =
    living (SduTaken size) (record l { counts = l.counts ++ count ∷ [] })
lives_with (InLife e) l = living e l
lives_with LifeEnded l = ended l

-- the account of a history
abbrev pub lives_of : ℕ → ℕ → List LifeEvent → FlowLives
lives_of most first [] = no_lives most first
lives_of most first (e ∷ es) = lives_with e (lives_of most first es)
