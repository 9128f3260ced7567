-- Two ends of a link, and the blocks that are under way between them (TS 36.321 5.3.2, 5.4.2). HARQ
-- may lose a block, bring it late, and more than once; no other block comes.
use Rattle.std.specs.Prelude.{◌≡◌, ℕ, ◌+◌, ◌%◌, ◌<◌, ◌≤◌, Bool, true, false, ◌||◌, List, [], ◌∷◌}
use Rattle.std.specs.Prelude.{◌++◌, map, Option, Some, None, slice_get}
use Rattle.std.specs.List.{AllByRecursion}
use Rattle.law_rlc.specs.AmPair.Flow.{except}
use Rattle.bearer.specs.declared.flow.Flow.TheVariants.{Am}
use Rattle.bearer.specs.Acknowledged.State.{State}
use Rattle.harq.specs.declared.sender.Visit.{Visit}
use Rattle.harq.specs.declared.sender.Visit.TheVariants.{New, Resend, Silent}
use Rattle.harq.specs.Sending.{Sending, held_of}
use Rattle.l2_node.specs.Building.{visit, visited}
use Rattle.l2_node.specs.End.{End}
use Rattle.l2_node.specs.Finding.{has}
use Rattle.l2_node.specs.Writing.{new_block}
use Rattle.l2_types.specs.declared.side.Side.{Side}
use Rattle.l2_types.specs.declared.side.Side.TheVariants.{Nb, Ue}
use Rattle.law_node.specs.Calls.{Turn, Call, Visits, Receive, IsGiven as IsGivenCall}
use Rattle.law_node.specs.Calls.{AreGiven as AreGivenCalls, after, reached}
use Rattle.law_node.specs.Holding.{flow}
use Rattle.law_deliver.specs.AmFlow.Channels.{GoesOnInLife}
use Rattle.law_deliver.specs.AmFlow.Flows.{BeginsLife}
use Rattle.law_deliver.specs.AmFlow.Pair.{Step as PairStep, goes as pair_goes}
use Rattle.law_deliver.specs.AmFlow.Pair.{am_pair_outset, AreGiven as AreGivenPair}
use Rattle.law_rlc.specs.AmPair.Given.{age_end}

-- a block that may still come to the other end: the process that it was built for, its octets, and
-- the TTIs since
pub record Block : Type 0 where
  pub process : ℕ
  pub octets : List ℕ
  pub age : ℕ

-- an end, the blocks that it built and that may still come to the other, and whether it built one
-- in this TTI
pub record Station : Type 0 where
  pub end : End
  pub blocks : List Block
  pub busy : Bool

pub record Air : Type 0 where
  pub nb : Station
  pub ue : Station

-- ---- what may happen

-- at an end: a call that brings no block; the block at a place of what the other has under way
-- comes; one of its own is let go
pub data Act : Type 0 where
  Calls : Call → Act
  Comes : ℕ → Act
  Goes : ℕ → Act

pub data Step : Type 0 where
  AtNb : Act → Step
  AtUe : Act → Step
  -- a TTI ends
  Passes : Step

abbrev pub built_at : Visit → Turn → End → List Block
built_at New t e = record { process = t.tti % 8; octets = new_block e t.grant; age = 0 } ∷ []
built_at (Resend rv) t e = []
built_at Silent t e = []

abbrev pub is_new : Visit → Bool
is_new New = true
is_new (Resend rv) = false
is_new Silent = false

abbrev pub calls : Station → Call → Station
calls s (Visits t) = record {
  end = after s.end (Visits t);
  blocks = built_at (visit t.tti t.order s.end) t (visited t.tti t.order s.end) ++ s.blocks;
  busy = s.busy || is_new (visit t.tti t.order s.end);
}
calls s c = record s { end = after s.end c }

abbrev pub comes : Station → Option Block → Station
comes s None = s
comes s (Some b) = record s { end = after s.end (Receive b.octets) }

abbrev pub does : Station → Station → Act → Station
does other s (Calls c) = calls s c
does other s (Comes k) = comes s (slice_get other.blocks k)
does other s (Goes k) = record s { blocks = except k s.blocks }

abbrev pub older : Block → Block
older b = record b { age = b.age + 1 }

abbrev pub passed : Station → Station
passed s = record s { blocks = map older s.blocks; busy = false }

abbrev pub happens : Air → Step → Air
happens a (AtNb x) = record a { nb = does a.ue a.nb x }
happens a (AtUe x) = record a { ue = does a.nb a.ue x }
happens a Passes = record { nb = passed a.nb; ue = passed a.ue }

abbrev pub goes : List Step → Air → Air
goes [] a = a
goes (s ∷ ss) a = goes ss (happens a s)

abbrev pub begins : End → Station
begins e = record { end = e; blocks = []; busy = false }

abbrev pub outset : End → End → Air
outset nb ue = record { nb = begins nb; ue = begins ue }

-- ---- what is asked of them

-- a block under way is held by its process still
abbrev pub IsHeld : Sending → Block → Type 0
IsHeld s b = held_of s b.process ≡ None → ⊥

-- as a new block is built the blocks under way are those that processes hold, and it is the only
-- one in its TTI
pub record IsBuilding (s : Station) (t : Turn) : Type 0 where
  pub some : 1 ≤ t.grant
  pub one : s.busy ≡ false
  pub held : AllByRecursion (IsHeld (visited t.tti t.order s.end).sender) s.blocks

abbrev pub IsVisiting : Visit → Station → Turn → Type 0
IsVisiting New s t = IsBuilding s t
IsVisiting (Resend rv) s t = Unit {0}
IsVisiting Silent s t = Unit {0}

abbrev pub IsCalling : Station → Call → Type 0
IsCalling s (Visits t) = IsVisiting (visit t.tti t.order s.end) s t
IsCalling s (Receive block) = ⊥
IsCalling s c = Unit {0}

-- in a life of the bearers of a channel
abbrev pub IsDone : ℕ → Station → Act → Type 0
IsDone l s (Calls c) = IsGivenCall c × GoesOnInLife l c × IsCalling s c
IsDone l s (Comes k) = Unit {0}
IsDone l s (Goes k) = Unit {0}

-- as old as a block may be that HARQ still sends
abbrev pub IsYoung : Block → Type 0
IsYoung b = b.age < age_end

abbrev pub IsGiven : ℕ → Air → Step → Type 0
IsGiven l a (AtNb x) = IsDone l a.nb x
IsGiven l a (AtUe x) = IsDone l a.ue x
IsGiven l a Passes = AllByRecursion IsYoung a.nb.blocks × AllByRecursion IsYoung a.ue.blocks

abbrev pub AreGiven : ℕ → Air → List Step → Type 0
AreGiven l a [] = Unit {0}
AreGiven l a (s ∷ ss) = IsGiven l a s × AreGiven l (happens a s) ss

-- ---- the law

-- an end that has come so far by any calls
pub record HasCome (side : Side) (e : End) : Type 0 where
  pub maximum : ℕ
  pub reports : Bool
  pub past : List Call
  pub given : AreGivenCalls past
  pub end_is : e ≡ reached side maximum reports past

-- and has an acknowledged bearer of the channel, of which a life begins
pub record Begins (side : Side) (l : ℕ) (e : End) (b : State) : Type 0 where
  pub come : HasCome side e
  pub there : has l e.bearers ≡ true
  pub bearer_is : flow l e ≡ Am b
  pub life : BeginsLife b

-- the bearers at both ends have come by steps of a pair
pub record IsPair (l : ℕ) (nb ue : State) (a : Air) : Type 0 where
  pub steps : List PairStep
  pub given : AreGivenPair (am_pair_outset nb ue) steps
  pub nb_is : flow l a.nb.end ≡ Am (pair_goes steps (am_pair_outset nb ue)).near.bearer
  pub ue_is : flow l a.ue.end ≡ Am (pair_goes steps (am_pair_outset nb ue)).far.bearer

abbrev pub ChannelsArePairs : Type 0
ChannelsArePairs = (l : ℕ) (nb ue : End) (b d : State) (steps : List Step) → Begins Nb l nb b
    → Begins Ue l ue d → AreGiven l (outset nb ue) steps
    → IsPair l b d (goes steps (outset nb ue))
