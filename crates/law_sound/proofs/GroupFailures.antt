-- The `fail` records in the journal of any script that forges no block are right: on data channels by what is gathered
-- of
-- what PDCP gives RLC, on signalling ones by the SDUs that wait, and elsewhere there are none.
use Rattle.std.proofs.Common.{◌≡◌, ◌≤◌, ℕ, Bool, true, false, if◌then◌else◌, List, [], ◌∷◌, ◌++◌, append_assoc}
use Rattle.std.proofs.Common.{Option, Some, None, refl, ap, sym, subst, ◌∙◌}
use Rattle.std.specs.Prelude.{MatchOption}
use Rattle.air_text.specs.Groups.{Group}
use Rattle.bearer_types.specs.declared.config.BearerConfig.{BearerConfig}
use Rattle.l2_types.specs.declared.channel.Kind.{Kind}
use Rattle.l2_types.specs.declared.channel.Kind.TheVariants as bearers
use Rattle.l2_types.specs.declared.side.Side.{Side}
use Rattle.prioritise.proofs.ChannelLemmas.{both_false}
use Rattle.promises.specs.Delivery.{forges, is_forged}
use Rattle.journal_failure.specs.RightFailure.{AreFails, AreFailsOf, FailsAreRight, GroupFailsRight}
use Rattle.journal_failure.specs.RightFailure.{most_by, only_line, life_of, sns_told}
use Rattle.journal_flows.specs.Accounts.{is_acked_kind}
use Rattle.journal_flows.specs.Gathering.{MayTake}
use Rattle.journal_flows.specs.Laws.{bearer_on}
use Rattle.law_run.specs.Order.{KeepsOrder}
use Rattle.law_sound.specs.ComingLaws.{TellsFlows}
use Rattle.law_sound.specs.ElsewhereLaws.{IsUnacked, TellsNoneElsewhere, TellNoneElsewhere}
use Rattle.law_sound.specs.RunLaws.{RunsFailRightly}
use Rattle.law_sound.proofs.Delivering.{bearer_is}
use Rattle.law_sound.proofs.Elsewhere.{others_tell_none}
use Rattle.law_sound.proofs.ElsewhereRight.{others_are_right}
use Rattle.law_sound.proofs.GatheredFails.{FailsSaid}
use Rattle.law_sound.proofs.GivenBetween.{may}
use Rattle.law_sound.proofs.Groups.{tells_before}
use Rattle.law_sound.proofs.GroupTakes.{journals_go}
use Rattle.law_sound.proofs.Running.{runs_tell_flows}
use Rattle.law_sound.proofs.WaitingJournals.{journals_wait}

-- on an acknowledged channel
acked_fails : (may_take : MayTake) (now : Group) (past : List Group) (side : Side) (lcid : ℕ) (c : BearerConfig)
    → bearer_on lcid (now ∷ past) ≡ Some c → is_acked_kind c.kind ≡ true → FailsSaid may_take c lcid (now ∷ past)
    → AreFails may_take now past side lcid
acked_fails may_take now past side lcid c is acked said =
    let most : most_by (bearer_on lcid (now ∷ past)) ≡ Some c.tx.max_retx =
    ap most_by is ∙ ap (λ (here : Bool). if here then Some c.tx.max_retx else None) acked in
    subst (λ (o : Option ℕ). MatchOption o (sns_told side lcid now ≡ [])
    (λ m. AreFailsOf m (life_of may_take (only_line now) past side lcid) (life_of may_take now past side lcid)
    (sns_told side lcid now))) (sym most) (said side)

-- ---- a group

module _ (newer : List Group) (now : Group) (past : List Group) (order : KeepsOrder (now ∷ past))
    (own : is_forged (now ∷ past) ≡ false) (told : TellsFlows (now ∷ past)) (none : TellsNoneElsewhere now past) where
  abbrev all : List Group
  all = newer ++ now ∷ past

  unacked : (side : Side) (lcid : ℕ) → IsUnacked (bearer_on lcid (now ∷ past)) → AreFails (may all) now past side lcid
  unacked side lcid h = (others_are_right (may all) now past side lcid h (none.on_channels side lcid h)).fails

  fails_by : (side : Side) (lcid : ℕ) → lcid ≤ 10 → (c : BearerConfig) → bearer_on lcid (now ∷ past) ≡ Some c
      → (kind : Kind) → c.kind ≡ kind → AreFails (may all) now past side lcid
  fails_by side lcid low c is bearers.Am kind =
      acked_fails (may all) now past side lcid c is (ap is_acked_kind kind)
      (journals_go newer lcid (now ∷ past) c order kind (sym (bearer_is lcid (now ∷ past)) ∙ is) own told).fails
  fails_by side lcid low c is bearers.Srb kind =
      acked_fails (may all) now past side lcid c is (ap is_acked_kind kind)
      (journals_wait newer lcid (now ∷ past) c order kind (sym (bearer_is lcid (now ∷ past)) ∙ is) own).fails
  fails_by side lcid low c is other kind =
      unacked side lcid (subst IsUnacked (sym is) (ap is_acked_kind kind))

  by_bearer : (side : Side) (lcid : ℕ) → lcid ≤ 10 → (o : Option BearerConfig) → bearer_on lcid (now ∷ past) ≡ o
      → AreFails (may all) now past side lcid
  by_bearer side lcid low None is = unacked side lcid (subst IsUnacked (sym is) tt)
  by_bearer side lcid low (Some c) is = fails_by side lcid low c is c.kind refl

  group_fails : GroupFailsRight (may all) now past
  group_fails = record {
    on_channels = λ side lcid low. by_bearer side lcid low (bearer_on lcid (now ∷ past)) refl;
    elsewhere = λ side lcid high. (none.elsewhere side lcid high).fails;
  }

-- ---- of all groups

all_fail : (newer past : List Group) → KeepsOrder past → is_forged past ≡ false → TellsFlows past
    → TellNoneElsewhere past → FailsAreRight (may (newer ++ past)) past
all_fail newer [] order own told none = tt
all_fail newer (g ∷ past) (right, order) own told none = (
  group_fails newer g past (right, order) own told none.0,
  subst (λ (all : List Group). FailsAreRight (may all) past) (append_assoc newer (g ∷ []) past)
      (all_fail (newer ++ g ∷ []) past order (both_false (forges g.line) (is_forged past) own).1
      (tells_before g past told)
      none.1),
)

pub runs_fail_rightly : RunsFailRightly
runs_fail_rightly whole octets played p own = (
  all_fail [] p.past p.order own (runs_tell_flows whole octets played p) (others_tell_none p.past p.order),
  p.silent,
)
