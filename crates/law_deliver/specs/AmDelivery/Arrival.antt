-- Which SDUs have gone up at an end, told by what the PDUs of both ends tell: those up to the first
-- whose COUNT hasn't come (TS 36.322 5.1.3.2, 5.4, TS 36.323 5.1.2.1.2, 5.2).
use Rattle.std.specs.Prelude.{◌≡◌, ℕ, ◌+◌, ◌-◌, ◌≤◌, List, [], ◌∷◌, ◌++◌, length, take}
use Rattle.l2_num.specs.Least.{IsLeast}
use Rattle.bearer.specs.declared.flow.Flow.TheVariants.{Am}
use Rattle.bearer.specs.Acknowledged.State.{State}
use Rattle.law_bearer.specs.AnyBearer.Calls.{Call, Submit, Take, Arrive, Expire, Tick, SetDiscard}
use Rattle.bearer.specs.Taking.{pdus, told}
use Rattle.bearer_types.specs.declared.BearerConfig.{BearerConfig}
use Rattle.eps_sec.specs.declared.Keys.{Keys}
use Rattle.pdcp_pdu.specs.Kinds.{bits_of}
use Rattle.law_words.specs.Arrivals.{AccountEntry, Renews, Account, no_account, has_come, account}
use Rattle.law_deliver.specs.AmFlow.Pair.{Pair, Near, Far, Passes as Ends, am_pair_outset}
use Rattle.law_deliver.specs.AmDelivery.Delivery.{AreBothEnds}
use Rattle.law_deliver.specs.AmDelivery.Lives.{LifeStep, InLife, Restarts, AreLiving, calls_in}
use Rattle.law_deliver.specs.AmDelivery.Lives.{far_ups_in, near_ups_in, near_news_in, far_news_in}
use Rattle.law_deliver.specs.AmDelivery.Lives.{over}
use Rattle.promises.specs.Given.{entries_given, entries_written, entries_come}

-- ---- what a call of an end's bearer tells: of what it sends, the PDUs that PDCP gives, and those
-- that RLC writes; of what it hears, the PDU that comes

abbrev pub said_in : State → Call → List AccountEntry
said_in b (Submit sdu) = []
said_in b (Take share held) =
    entries_given (bits_of b.pdcp.kind) (told b.pdcp.lcid (Am b) share held)
    ++ entries_written (pdus (Am b) share held)
said_in b (Arrive pdu) = []
said_in b (Expire clock) = []
said_in b Tick = []
said_in b (SetDiscard ttis) = []

abbrev pub heard_in : Call → List AccountEntry
heard_in (Submit sdu) = []
heard_in (Take share held) = []
heard_in (Arrive pdu) = entries_come (pdu ∷ [])
heard_in (Expire clock) = []
heard_in Tick = []
heard_in (SetDiscard ttis) = []

abbrev pub said_by : State → List Call → List AccountEntry
said_by b [] = []
said_by b (c ∷ cs) = said_in b c

abbrev pub heard_by : List Call → List AccountEntry
heard_by [] = []
heard_by (c ∷ cs) = heard_in c

-- of each direction
abbrev pub down_in : Pair → LifeStep → List AccountEntry
down_in p (InLife (Near d)) = said_by p.near.bearer (calls_in p.far d)
down_in p (InLife (Far d)) = heard_by (calls_in p.near d)
down_in p (InLife Ends) = []
down_in p (Restarts keys) = Renews ∷ []

abbrev pub up_in : Pair → LifeStep → List AccountEntry
up_in p (InLife (Near d)) = heard_by (calls_in p.far d)
up_in p (InLife (Far d)) = said_by p.far.bearer (calls_in p.near d)
up_in p (InLife Ends) = []
up_in p (Restarts keys) = Renews ∷ []

-- ---- the law

-- what went up are the SDUs that were taken first, up to the first whose COUNT hasn't come; none of
-- which it has is held back
pub record IsWhatCame (first : ℕ) (a : Account) (news ups : List (List ℕ)) : Type 0 where
  pub next : ℕ
  pub least : IsLeast (has_come a) first next
  pub taken : next ≤ first + length news
  pub ups_are : ups ≡ take (next - first) news

abbrev pub told_down : List LifeStep → Pair → Account
told_down steps p = account (over down_in steps p) no_account

abbrev pub told_up : List LifeStep → Pair → Account
told_up steps p = account (over up_in steps p) no_account

pub record DeliverWhatCame (first : ℕ) (nb ue : State) (steps : List LifeStep) : Type 0 where
  pub down : IsWhatCame first (told_down steps (am_pair_outset nb ue))
      (over near_news_in steps (am_pair_outset nb ue))
      (over far_ups_in steps (am_pair_outset nb ue))
  pub up : IsWhatCame first (told_up steps (am_pair_outset nb ue))
      (over far_news_in steps (am_pair_outset nb ue))
      (over near_ups_in steps (am_pair_outset nb ue))

abbrev pub DeliversWhatCame : Type 0
DeliversWhatCame = (c : BearerConfig) (keys : Keys) (nb ue : State) (steps : List LifeStep)
    → AreBothEnds c keys nb ue → AreLiving (am_pair_outset nb ue) steps
    → DeliverWhatCame c.first nb ue steps
