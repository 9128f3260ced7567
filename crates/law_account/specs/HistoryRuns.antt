-- A sender over any calls, and what happens at the flow's receiver between them: so over the
-- records of a group (TS 36.322 5.2.1).
use Rattle.std.specs.Prelude.{◌≡◌, ℕ, ◌%◌, ◌⊎◌, List, [], ◌∷◌, ◌++◌, Option, None, option_to_list}
use Rattle.rlc_pdu.specs.declared.constants.TheConstants.{AM_MODULUS}
use Rattle.rlc_am_tx.specs.Machine.{State}
use Rattle.journal_account.specs.FlowEvents.{FlowEvent, IsPossible}
use Rattle.journal_account.specs.Waiting.{IsWithin, FailsAt}
use Rattle.law_rlc.specs.AmSender.Run.{Call, after}
use Rattle.law_account.specs.History.{IsTold, with_told, IsOfReceiver, Follows, limit_told}

-- a call with the event that tells it, or what happens at the receiver
pub data Deed : Type 0 where
  Calls : Call → Option FlowEvent → Deed
  Hears : FlowEvent → Deed

abbrev pub behind_deed : State → Deed → State
behind_deed s (Calls c o) = after s c
behind_deed s (Hears e) = s

abbrev pub with_deed : Deed → List FlowEvent → List FlowEvent
with_deed (Calls c o) es = with_told o es
with_deed (Hears e) es = e ∷ es

abbrev pub limit_by : State → Deed → Option ℕ
limit_by s (Calls c o) = limit_told s c
limit_by s (Hears e) = None

abbrev pub IsTrue : List FlowEvent → State → Deed → Type 0
IsTrue es s (Calls c o) = IsTold s c o
IsTrue es s (Hears e) = IsOfReceiver e × IsPossible e es

-- ---- any deeds, in their order

abbrev pub behind_deeds : List Deed → State → State
behind_deeds [] s = s
behind_deeds (d ∷ ds) s = behind_deeds ds (behind_deed s d)

abbrev pub with_deeds : List Deed → List FlowEvent → List FlowEvent
with_deeds [] es = es
with_deeds (d ∷ ds) es = with_deeds ds (with_deed d es)

abbrev pub limits_by : List Deed → State → List ℕ
limits_by [] s = []
limits_by (d ∷ ds) s = option_to_list (limit_by s d) ++ limits_by ds (behind_deed s d)

abbrev pub AreTrue : List Deed → List FlowEvent → State → Type 0
AreTrue [] es s = Unit {0}
AreTrue (d ∷ ds) es s = IsTrue es s d × AreTrue ds (with_deed d es) (behind_deed s d)

-- ---- the law

-- one SN is told, of the number at which the flow fails in them; else no number was named too
-- often, or the flow had failed before
abbrev pub AreLimitsOf : ℕ → List FlowEvent → List FlowEvent → List ℕ → Type 0
AreLimitsOf most es now [] = IsWithin most now ⊎ ((n : ℕ) × FailsAt most es n)
AreLimitsOf most es now (sn ∷ []) = IsWithin most es
    × ((n : ℕ) × FailsAt most now n × (sn ≡ n % AM_MODULUS))
AreLimitsOf most es now (sn ∷ tn ∷ sns) = ⊥

pub record GoOn (most : ℕ) (ds : List Deed) (es : List FlowEvent) (s : State) : Type 0 where
  pub follows : Follows most (with_deeds ds es) (behind_deeds ds s)
  pub limits : AreLimitsOf most es (with_deeds ds es) (limits_by ds s)

abbrev pub DeedsAreTold : Type 0
DeedsAreTold = (most : ℕ) (ds : List Deed) (es : List FlowEvent) (s : State) → AreTrue ds es s
    → Follows most es s → GoOn most ds es s
