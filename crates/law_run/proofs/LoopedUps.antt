-- Each SDU that the test loop returns or drops went up before: of each channel they are no more than those that did.
use Rattle.std.proofs.Common.{◌≤◌, ℕ, ◌+◌, List, arith}
use Rattle.air_text.specs.Groups.{Group, history}
use Rattle.promises.specs.Loops.{item_count, drop_count, all_gone_up, all_returned}
use Rattle.law_run.specs.Order.{KeepsOrder}
use Rattle.law_run.proofs.Looping.{all_come_back}

-- those that came back, and the records that one of them finds no place
pub looped_went_up : (past : List Group) → KeepsOrder past → (lcid : ℕ)
    → item_count lcid (all_returned past) + drop_count lcid (history past) ≤ item_count lcid (all_gone_up past)
looped_went_up past order lcid = omega (arith, all_come_back past order lcid)

-- the records alone
pub dropped_went_up : (past : List Group) → KeepsOrder past → (lcid : ℕ)
    → drop_count lcid (history past) ≤ item_count lcid (all_gone_up past)
dropped_went_up past order lcid = omega (arith, looped_went_up past order lcid)
