-- All lives of a channel's acknowledged bearers through a run, from the line on in which they came
-- at both ends (TS 36.322 5.4, TS 36.323 5.2.1.1).
use Rattle.std.specs.Prelude.{◌≡◌, ℕ, Bool, true, false, ◌||◌, List, [], ◌∷◌, ◌++◌}
use Rattle.air_link.specs.Lines.{bears}
use Rattle.air_link.specs.Link.{Link, end_of}
use Rattle.air_record.specs.declared.record.Record.{Record}
use Rattle.bearer.specs.declared.flow.Flow.TheVariants.{Am}
use Rattle.bearer.specs.Acknowledged.State.{State}
use Rattle.bearer_types.specs.Configs.{IsConfig}
use Rattle.bearer_types.specs.declared.config.BearerConfig.{BearerConfig}
use Rattle.eps_sec.specs.declared.Keys.{Keys}
use Rattle.l2_node.specs.End.{End}
use Rattle.l2_node.specs.Finding.{has}
use Rattle.l2_types.specs.declared.Kind.{Kind}
use Rattle.l2_types.specs.declared.Kind.TheVariants as kinds
use Rattle.l2_types.specs.declared.side.Side.{Side}
use Rattle.law_node.specs.Calls.{Add, after as after_call}
use Rattle.law_node.specs.Holding.{flow}
use Rattle.law_run.specs.AnyCalls.Runs.{Step, Run, step, goes, goes_on}
use Rattle.law_deliver.specs.AmFlow.Air.{outset}
use Rattle.law_words.specs.Arrivals.{AccountEntry}
use Rattle.law_run.specs.TwoEnds.Arrival.{told_by_step}
use Rattle.law_run.specs.TwoEnds.Coming.{none_yet}
use Rattle.law_run.specs.TwoEnds.Going.{handed_in, sets, TellAlone, GoesByAir, IsStepSince}
use Rattle.promises.specs.Flows.{looped_at}
use Rattle.law_run.specs.TwoEnds.Lives.{IsAtRest}

-- an end has an acknowledged bearer of the channel
pub record HasBearer (l : ℕ) (e : End) : Type 0 where
  pub there : has l e.bearers ≡ true
  pub bearer : State
  pub bearer_is : flow l e ≡ Am bearer

-- since both ends were these a link has come by air, through lives, to what it is, and has the
-- bearers still
pub record Lived (l : ℕ) (nb ue : End) (told : List Record) (submitted : Side → ℕ
    → List (List ℕ)) (said : ℕ → Side → List AccountEntry) (set : Bool) (k : Link) : Type 0 where
  pub by : GoesByAir l told submitted said set k (outset nb ue)
  pub bearers : (side : Side) → HasBearer l (end_of side k)

-- nothing else of a link matters
abbrev pub EndsLive : Type 0
EndsLive = (l : ℕ) (nb ue : End) (told : List Record) (submitted : Side → ℕ
    → List (List ℕ)) (said : ℕ → Side → List AccountEntry) (set : Bool) (k m : Link)
    → m.nb ≡ k.nb → m.ue ≡ k.ue → m.ttis ≡ k.ttis → Lived l nb ue told submitted said set k
    → Lived l nb ue told submitted said set m

-- ---- the bearers come

-- signalling, and acknowledged data
abbrev pub IsAcknowledged : Kind → Type 0
IsAcknowledged kinds.Tm = ⊥
IsAcknowledged kinds.Srb = Unit {0}
IsAcknowledged kinds.Um = ⊥
IsAcknowledged kinds.Am = Unit {0}

-- nothing is told, nothing is submitted, and no discard timer is set yet
pub record BearersCome (config : BearerConfig) (keys : Keys) (k : Link) : Type 0 where
  pub out_is : (bears config keys k).out ≡ k.out
  pub lived : Lived config.channel.lcid (after_call k.nb (Add config keys))
      (after_call k.ue (Add config keys)) [] none_yet (λ bits from. []) false
      (bears config keys k)

abbrev pub BearersLive : Type 0
BearersLive = (config : BearerConfig) (keys : Keys) (k : Link) → IsConfig config
    → IsAcknowledged config.kind → IsAtRest k → BearersCome config keys k

-- ---- a step since

pub record LivesOn (l : ℕ) (nb ue : End) (told : List Record) (submitted : Side → ℕ
    → List (List ℕ)) (said : ℕ → Side → List AccountEntry) (set : Bool) (s : Step) (k : Link) : Type
    0 where
  pub more : List Record
  pub out_is : (step s k).out ≡ k.out ++ more
  pub alone : TellAlone l more
  pub lived : Lived l nb ue (told ++ more)
      (λ side n. submitted side n ++ (handed_in side n s k ++ looped_at side n more))
      (λ bits from. said bits from ++ told_by_step bits l from s more) (set || sets l s)
      (step s k)

abbrev pub StepsLive : Type 0
StepsLive = (l : ℕ) (nb ue : End) (told : List Record) (submitted : Side → ℕ
    → List (List ℕ)) (said : ℕ → Side → List AccountEntry) (set : Bool) (s : Step) (k : Link)
    → IsStepSince l s → Lived l nb ue told submitted said set k
    → LivesOn l nb ue told submitted said set s k

-- ---- any steps since, the records of each taken before the next

abbrev pub AreStepsSince : ℕ → List Step → Type 0
AreStepsSince l [] = Unit {0}
AreStepsSince l (s ∷ ss) = IsStepSince l s × AreStepsSince l ss

abbrev pub submitted_in : Side → ℕ → List Step → Run → List (List ℕ)
submitted_in side n [] r = []
submitted_in side n (s ∷ ss) r =
    (handed_in side n s r.link ++ looped_at side n (step s r.link).out)
    ++ submitted_in side n ss (goes s r)

abbrev pub said_in : ℕ → ℕ → Side → List Step → Run → List AccountEntry
said_in bits l from [] r = []
said_in bits l from (s ∷ ss) r =
    told_by_step bits l from s (step s r.link).out ++ said_in bits l from ss (goes s r)

-- one of them sets a discard timer on the channel
abbrev pub sets_in : ℕ → List Step → Bool
sets_in l [] = false
sets_in l (s ∷ ss) = sets l s || sets_in l ss

pub record RunsOn (l : ℕ) (nb ue : End) (told : List Record) (submitted : Side → ℕ
    → List (List ℕ)) (said : ℕ → Side → List AccountEntry) (set : Bool) (ss : List Step) (r : Run) :
    Type 0 where
  pub more : List Record
  pub journal_is : (goes_on ss r).journal ≡ r.journal ++ more
  pub lived : Lived l nb ue (told ++ more)
      (λ side n. submitted side n ++ submitted_in side n ss r)
      (λ bits from. said bits from ++ said_in bits l from ss r) (set || sets_in l ss)
      (goes_on ss r).link

abbrev pub RunsLive : Type 0
RunsLive = (l : ℕ) (nb ue : End) (told : List Record) (submitted : Side → ℕ
    → List (List ℕ)) (said : ℕ → Side → List AccountEntry) (set : Bool) (ss : List Step) (r : Run)
    → AreStepsSince l ss → r.link.out ≡ [] → Lived l nb ue told submitted said set r.link
    → RunsOn l nb ue told submitted said set ss r
