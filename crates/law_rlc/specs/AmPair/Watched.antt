-- Where the poll timer of a flow's sender runs, whichever STATUS comes and however late (TS 36.322
-- 5.2.2).
use Rattle.law_rlc.specs.AmSender.Watched.{IsWatched}
use Rattle.law_rlc.specs.AmPair.Flow.{sender}
use Rattle.law_rlc.specs.AmPair.Arrives.{Always}

abbrev pub PollTimerRuns : Type 0
PollTimerRuns = Always (λ f. IsWatched (sender f).state)
