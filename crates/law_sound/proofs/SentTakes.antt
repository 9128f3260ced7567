-- An SDU that RLC takes of acknowledged data has as many octets as one may have, as a checker of journals gathers it.
use Rattle.std.proofs.Common.{◌≡◌, ◌≤◌, ℕ, false, List, [], ◌∷◌, ◌++◌, Option, Some, None, ap, sym}
use Rattle.std.proofs.Common.{subst, ◌∙◌, refl}
use Rattle.std.specs.List.{AllByRecursion}
use Rattle.std.specs.Prelude.{IfSome}
use Rattle.air_record.specs.declared.record.Record.{Record}
use Rattle.air_record.specs.Submissions.{submitted_by}
use Rattle.air_link.specs.Link.{end_of}
use Rattle.air_text.specs.Groups.{Group}
use Rattle.air_run.specs.Run.{behind_line}
use Rattle.bearer_types.specs.declared.config.BearerConfig.{BearerConfig}
use Rattle.l2_types.specs.declared.side.Side.{Side}
use Rattle.l2_types.specs.declared.side.Side.TheVariants.{Nb, Ue}
use Rattle.promises.specs.Flows.{handed_in, loops_in}
use Rattle.promises.specs.Parts.{part_of_line}
use Rattle.journal_given.specs.Giving.{bearer_at, all_given}
use Rattle.journal_given.specs.Supplies.{Bearer, History}
use Rattle.journal_given.specs.Supplies as given
use Rattle.journal_sent.specs.RightSent.{IsSdu}
use Rattle.journal_sent.specs.Sending.{sdu_in, sdu_of}
use Rattle.law_deliver.proofs.AmFlow.Carrying.{front, rest}
use Rattle.law_given.specs.BearerRecords.{bearer_first}
use Rattle.law_given.proofs.BearerRecordsHistories.{one_bearer_by_histories}
use Rattle.law_given.proofs.GivenRecords.{before_is}
use Rattle.law_given.proofs.SupplyPdusKept.{kept_hold}
use Rattle.law_run.specs.Order.{IsRight, KeepsOrder, state_behind}
use Rattle.law_run.proofs.AnyAir.{line_plays}
use Rattle.law_run.proofs.BearerWalk.{adds_one}
use Rattle.law_run.proofs.Flowing.{looped_then}
use Rattle.law_run.proofs.Past.{behind, link_behind}
use Rattle.law_sound.proofs.GivenStays.{kept_by_line}
use Rattle.law_sound.proofs.SentEnds.{GoesSending}
use Rattle.law_sound.proofs.SentRecords.{bearer_is, giving_before}
use Rattle.law_sound.proofs.SentSizes.{AreSized, sized_over}
use Rattle.law_sound.proofs.SentSubmitted.{all_sized}

module _ (newer : List Group) (now : Group) (past : List Group) (right : IsRight past now) (order : KeepsOrder past)
    (none : submitted_by now.line ≡ None) (c : BearerConfig) (l : ℕ) (low : l ≤ 10)
    (other : adds_one l now.line ≡ false)
    (h : GoesSending (newer ++ now ∷ past) c l past) where
  -- so have those that come back through the test loop
  loops_sized : AllByRecursion IsSdu (loops_in l now.events)
  loops_sized =
      let k = link_behind past in
      let m = behind_line now.line (state_behind past) in
      let x = line_plays l h.goes.read.air now.line (state_behind past).rules.keys k (behind past order).nothing
      right.in_range other h.goes.read.on in
      let by = x.comes Ue in
      let handed = handed_in Ue l (part_of_line now.line) m.out in
      subst (λ (out : List Record). AllByRecursion IsSdu (loops_in l out)) (sym right.events_are)
      (rest IsSdu handed (loops_in l m.out)
      (subst (AllByRecursion IsSdu) by.submitted_is (all_sized l by.calls (end_of Ue k))))

  -- those that are gathered, behind records of the group
  first_sized : (told others : List Record) → now.events ≡ told ++ others
      → AreSized (bearer_first l now past told)
  first_sized told others are =
      let first = bearer_at l (all_given given.histories past).bearers in
      let begins : bearer_first l now past [] ≡ Some h.goes.given.bearer =
      (one_bearer_by_histories l newer now past low).begins
      ∙ kept_by_line l now.line first other ∙ h.goes.given.is in
      sized_over l low newer now past none told []
      (front IsSdu (loops_in l told) (loops_in l others)
      (subst (AllByRecursion IsSdu) (ap (loops_in l) are ∙ loops_both told others) loops_sized))
      (subst AreSized (sym begins) h.sends.sent.beside.sizes)
    where
      loops_both : (xs ys : List Record) → loops_in l (xs ++ ys) ≡ loops_in l xs ++ loops_in l ys
      loops_both xs ys = looped_then Ue l xs ys

  taken_sized : (side : Side) (count : ℕ) (o : Option (Bearer History)) → AreSized o
      → IfSome (sdu_in given.histories side count o) IsSdu
  taken_sized side count None sized = tt
  taken_sized Nb count (Some b) sized = by (given.histories.sdu count b.nb.takes) refl
    where
      by : (o : Option (List ℕ)) → given.histories.sdu count b.nb.takes ≡ o → IfSome o IsSdu
      by None e = tt
      by (Some sdu) e = kept_hold IsSdu b.nb.takes.first b.nb.takes.bits b.nb.takes.events count sdu sized.nb e
  taken_sized Ue count (Some b) sized = by (given.histories.sdu count b.ue.takes) refl
    where
      by : (o : Option (List ℕ)) → given.histories.sdu count b.ue.takes ≡ o → IfSome o IsSdu
      by None e = tt
      by (Some sdu) e = kept_hold IsSdu b.ue.takes.first b.ue.takes.bits b.ue.takes.events count sdu sized.ue e

  pub takes_sized : (told others : List Record) (one : Record) → now.events ≡ told ++ one ∷ others → (side : Side)
      (count : Option ℕ)
      → IfSome (sdu_of given.histories side l count (giving_before now past told one)) IsSdu
  takes_sized told others one are side None = tt
  takes_sized told others one are side (Some count) =
      taken_sized side count (bearer_at l (giving_before now past told one).bearers)
      (subst AreSized
      (sym (bearer_is l low now past told one ∙ before_is l low newer now past none told one))
      (first_sized told (one ∷ others) are))
