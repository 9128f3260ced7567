-- What the checker's verdict says of a journal (TS 36.322 5.1.3, TS 36.323 5.1.2.1.2, 5.4).
use Rattle.std.specs.Prelude.{ℕ, ◌≡◌, ◌≤◌, List, [], Some, IsTrue, ◌↔◌}
use Rattle.l2_types.specs.declared.side.Side.{Side}
use Rattle.bearer_types.specs.Sides.{other}
use Rattle.air_text.specs.Groups.{Group}
use Rattle.law_words.specs.Lists.{AreFirstSdus, IsSubsequence}
use Rattle.promises.specs.Delivery.{discarded}
use Rattle.promises.specs.Flows.{submitted, delivered}
use Rattle.journal_flows.specs.Gathering.{MayTake}
use Rattle.journal_flows.specs.Laws.{bearer_on}
use Rattle.journal_delivered.specs.RightDelivery.{first_by, since_bearer, DeliveredIsRight}
use Rattle.journal_delivered.specs.DeliveryChecking.{all_checked}

-- the checker's verdict is exactly that
abbrev pub VerdictIsExact : Type 0
VerdictIsExact =
    (may_take : MayTake) (past : List Group)
    → IsTrue (all_checked may_take past).right ↔ DeliveredIsRight may_take past

-- what went up at the other side are SDUs that a side submitted, in order, each once and unchanged;
-- where it discarded none they are the first of these
pub record ComeInOrder (from : Side) (lcid : ℕ) (past : List Group) : Type 0 where
  pub in_order : IsSubsequence (delivered (other from) lcid past) (submitted from lcid past)
  pub none_left_out : discarded from lcid past ≡ []
      → AreFirstSdus (delivered (other from) lcid past) (submitted from lcid past)

-- so it is where a journal is right, since the line of each bearer of acknowledged data
abbrev pub RightComeInOrder : Type 0
RightComeInOrder =
    (may_take : MayTake) (past : List Group) → DeliveredIsRight may_take past
    → (from : Side) (lcid first : ℕ) → lcid ≤ 10 → first_by (bearer_on lcid past) ≡ Some first
    → ComeInOrder from lcid (since_bearer lcid past)
