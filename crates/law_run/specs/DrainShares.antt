-- The shares of a round of a drain, on all its channels (TS 36.321 5.4.3.1): each end builds one
-- block in it, while its HARQ processes hold none.
use Rattle.std.specs.Prelude.{◌≡◌, ℕ, ◌+◌, ◌≤◌, Bool, true, false, List, [], ◌∷◌, None}
use Rattle.air_link.specs.Draining.{drain_tti, carried}
use Rattle.air_link.specs.Link.{Link}
use Rattle.air_record.specs.declared.record.Record.{Record}
use Rattle.harq.specs.declared.sender.Order.{Order}
use Rattle.l2_node.specs.Building.{visited}
use Rattle.l2_node.specs.End.{End}
use Rattle.l2_node.specs.Finding.{has}
use Rattle.l2_types.specs.declared.side.Side.{Side}
use Rattle.l2_types.specs.declared.side.Side.TheVariants.{Nb, Ue}
use Rattle.law_bearer.specs.AnyBearer.Calls.{after_all}
use Rattle.law_bearer.specs.AnyBearer.Rounds.{Share, IsRound, arrivals, writes_in}
use Rattle.law_deliver.specs.AmFlow.Channels.{share_of, held_of}
use Rattle.law_node.specs.Holding.{flow}
use Rattle.law_run.specs.AnyCalls.Ends.{LivesOn}
use Rattle.law_run.specs.DrainTtis.{Step, Tti, happens, goes, ttis, AreClear, HaveChannel}
use Rattle.law_run.specs.DrainRounds.{IsOfDrain, MayDrain, round_of}
use Rattle.prioritise.specs.Channels.{has as has_channel}

-- ---- behind so many TTIs of a drain, or more

pub record HaveGone (count : ℕ) (m : Link) : Type 0 where
  pub may : MayDrain m
  pub since : count ≤ m.ttis
  pub clear : AreClear count m

abbrev pub DrainsBegin : Type 0
DrainsBegin = (m : Link) → MayDrain m → HaveGone 0 m

abbrev pub StepsGoSo : Type 0
StepsGoSo = (s : Step) (count : ℕ) (m : Link) → IsOfDrain s → HaveGone count m
    → HaveGone (ttis (s ∷ []) + count) (happens m s)

-- what is told doesn't matter
abbrev pub RecordsGoSo : Type 0
RecordsGoSo = (count : ℕ) (m : Link) → HaveGone count m → HaveGone count (record m { out = [] })

-- ---- a round

-- an end as it builds a block, without a life that begins since, while HARQ holds none of its
-- numbers
pub record BuildsFrom (side : Side) (before e : End) : Type 0 where
  pub first : End
  pub told : List Record
  pub goes : LivesOn [] side told before first
  pub tti : ℕ
  pub order : Order
  pub is : e ≡ visited tti order first
  pub none_held : (l : ℕ) → held_of e l ≡ None

-- the share of a grant that a channel gets
abbrev pub dealt : End → ℕ → ℕ → Share
dealt e grant l = record {
  here = has_channel l e.buckets.channels;
  octets = share_of e grant l;
  held = held_of e l;
}

-- no bearer of the end writes by this grant
abbrev pub WritesNone : ℕ → End → Type 0
WritesNone grant e = (l : ℕ) → has l e.bearers ≡ true
    → writes_in (dealt e grant l) (flow l e) ≡ []

-- the base station builds, and then the terminal behind what it heard; their shares are those of
-- the round on each channel that both have
pub record DealsRound (grant : ℕ) (polls : Bool) (m n : Link) : Type 0 where
  pub nb : End
  pub ue : End
  pub nb_builds : BuildsFrom Nb m.nb nb
  pub ue_builds : BuildsFrom Ue m.ue ue
  pub nb_is : (l : ℕ) → flow l nb ≡ flow l m.nb
  pub ue_is : (l : ℕ) → l ≤ 10 → HaveChannel l m → flow l ue
      ≡ after_all (flow l m.ue) (arrivals (writes_in (dealt nb grant l) (flow l m.nb)))
  pub silent : m.out ≡ [] → WritesNone grant nb → WritesNone grant ue
      → carried (drain_tti grant m) ≡ false
  pub rounds : (l : ℕ) → l ≤ 10 → HaveChannel l m → IsRound
      (record { down = dealt nb grant l; up = dealt ue grant l; polls = polls }) (flow l m.nb)
      (flow l m.ue) (flow l n.nb) (flow l n.ue)

-- behind eight TTIs
abbrev pub RoundsAreDealt : Type 0
RoundsAreDealt = (grant : ℕ) (polls : Bool) (m : Link) → IsOfDrain (Tti grant) → HaveGone 8 m
    → DealsRound grant polls m (goes (round_of grant polls) m)
