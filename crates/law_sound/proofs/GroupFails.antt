-- The SNs of the `fail` records of a group, step by step, by the histories of both flows of a channel.
use Rattle.std.proofs.Common.{◌≡◌, ℕ, Bool, true, false, if◌then◌else◌, List, [], ◌∷◌, ◌++◌, refl, ap, sym, subst, ◌∙◌}
use Rattle.std.specs.Prelude.{not}
use Rattle.std.proofs.lemmas.List.Concat.{flat_map-append}
use Rattle.air_record.specs.declared.record.Record.{Record}
use Rattle.air_record.specs.declared.record.Record.TheVariants as records
use Rattle.bearer_types.specs.declared.event.Event.{Event}
use Rattle.bearer_types.specs.declared.event.Event.TheVariants as events
use Rattle.l2_types.specs.declared.side.Side.{Side}
use Rattle.l2_types.specs.declared.side.Side.TheVariants.{Nb, Ue}
use Rattle.journal_account.specs.FlowEvents.{FlowEvent}
use Rattle.journal_failure.specs.RightFailure.{AreFailsOf}
use Rattle.journal_flows.specs.FlowsTold.{Histories}
use Rattle.journal_flows.specs.Gathering.{Journal}
use Rattle.journal_lives.specs.LifeEvents.{running}
use Rattle.promises.specs.Events.{fails_in, fails_on, is_of_loop}
use Rattle.promises.specs.Records.{events_of}
use Rattle.law_deliver.specs.AmFlow.Air.{Air}
use Rattle.law_run.specs.TwoEnds.Going.{GoesByAir}
use Rattle.law_run.specs.TwoEnds.Staying.{AreInLife}
use Rattle.law_run.proofs.Flowing.{EndsDrain}
use Rattle.law_sound.specs.BesideLaws.{IsGatheredBeside}
use Rattle.law_sound.specs.LivedFails.{HaveComeNew}
use Rattle.law_sound.specs.LivedHistories.{AreLived, Moment, GoOver}
use Rattle.law_sound.specs.LivedLimits.{AreLimits}
use Rattle.law_sound.proofs.LivedFails.{Stretch, none_told, both_told, other_limit, lives_told}
use Rattle.law_sound.proofs.Still.{IsGoneEvent, IsGone, AreGone}
use Rattle.law_sound.proofs.Submitting.{events_both}

-- records, from a moment to another
pub record Stretches (most l : ℕ) (told : List Record) (m last : Moment) : Type 0 where
  pub down : Stretch most m.down last.down (fails_on l (events_of Nb told))
  pub up : Stretch most m.up last.up (fails_on l (events_of Ue told))

pub steps_stretch : (most l : ℕ) (told : List Record) (submitted : _) (said : _) (set : _) (k : _) (a : Air)
    (m last : Moment) (by : GoesByAir l told submitted said set k a) → HaveComeNew l a → AreInLife by.steps
    → (h : AreLived l a m.pdus m.down m.up) → GoOver l by.steps a m last → AreLimits most h.nb_bearer h.ue_bearer
    → Stretches most l told m last
steps_stretch most l told submitted said set k a m last by new life h over limits =
    let are = lives_told l by.steps a m last new by.living life h over in
    record {
      down = subst (Stretch most m.down last.down) (ap (fails_on l) (sym (by.told_is Nb)))
          (other_limit _ _ m.down last.down _ limits.nb_is are.down);
      up = subst (Stretch most m.up last.up) (ap (fails_on l) (sym (by.told_is Ue)))
          (other_limit _ _ m.up last.up _ limits.ue_is are.up);
    }

fails_both : (l : ℕ) (side : Side) (told more : List Record)
    → fails_on l (events_of side (told ++ more)) ≡ fails_on l (events_of side told) ++ fails_on l (events_of side more)
fails_both l side told more =
    ap (fails_on l) (events_both side told more)
    ∙ flat_map-append (fails_in l) (events_of side told) (events_of side more)

pub stretch_then : (most l : ℕ) (told more : List Record) (m mid last : Moment) → Stretches most l told m mid
    → Stretches most l more mid last → Stretches most l (told ++ more) m last
stretch_then most l told more m mid last h k = record {
  down = subst (Stretch most m.down last.down) (sym (fails_both l Nb told more))
      (both_told most m.down mid.down last.down _ _ h.down k.down);
  up = subst (Stretch most m.up last.up) (sym (fails_both l Ue told more))
      (both_told most m.up mid.up last.up _ _ h.up k.up);
}

-- records without a `fail`
abbrev pub FailNone : ℕ → List Record → Type 0
FailNone l told = (side : Side) → fails_on l (events_of side told) ≡ []

pub still_stretch : (most l : ℕ) (told : List Record) (a : Air) (m : Moment) → AreLived l a m.pdus m.down m.up
    → FailNone l told → Stretches most l told m m
still_stretch most l told a m h none = record {
  down = subst (Stretch most m.down m.down) (sym (none Nb)) (none_told most m.down h.beside.by_nb.follows.history);
  up = subst (Stretch most m.up m.up) (sym (none Ue)) (none_told most m.up h.beside.by_ue.follows.history);
}

pub drained_fail_none : (l : ℕ) (told : List Record) → EndsDrain told → FailNone l told
drained_fail_none l [] h side = refl
drained_fail_none l (records.Drained done ∷ []) h side = refl
drained_fail_none l told h side = absurd h

pub gone_fail_none : (l : ℕ) (told : List Record) → AreGone told → FailNone l told
gone_fail_none l [] h side = refl
gone_fail_none l (one ∷ told) h side =
    fails_both l side (one ∷ []) told
    ∙ (ap (λ (sns : List ℕ). sns ++ fails_on l (events_of side told)) (by side one h.0)
    ∙ gone_fail_none l told h.1 side)
  where
    kept : (b : Bool) (e : Event) → IsGoneEvent e → fails_on l ((if b then e ∷ [] else []) ++ []) ≡ []
    kept true (events.Fail lcid sn) g = absurd g
    kept true e g = refl
    kept false e g = refl

    by : (side : Side) (one : Record) → IsGone one → fails_on l (events_of side (one ∷ [])) ≡ []
    by Nb (records.Of Nb e) g = kept (not (is_of_loop e)) e g
    by Nb (records.Of Ue e) g = refl
    by Ue (records.Of Nb e) g = refl
    by Ue (records.Of Ue e) g = kept (not (is_of_loop e)) e g
    by side one g = refl

-- so it is by what is gathered
pub gathered_fails : (most l : ℕ) (told : List Record) (a b : Air) (m last : Moment) (first now : Journal Histories)
    → IsGatheredBeside l a m.pdus m.down m.up first → IsGatheredBeside l b last.pdus last.down last.up now
    → Stretches most l told m last → (side : Side)
    → AreFailsOf most (running (first.flows.acked side l)) (running (now.flows.acked side l))
    (fails_on l (events_of side told))
gathered_fails most l told a b m last first now g h s side = at side
  where
    by : (sns : List ℕ) (es fs xs ys : List FlowEvent) → xs ≡ es → ys ≡ fs → AreFailsOf most es fs sns
        → AreFailsOf most xs ys sns
    by sns es fs xs ys p q are =
        subst (λ (zs : List FlowEvent). AreFailsOf most zs ys sns) (sym p)
        (subst (λ (zs : List FlowEvent). AreFailsOf most es zs sns) (sym q) are)

    at : (side : Side) → AreFailsOf most (running (first.flows.acked side l)) (running (now.flows.acked side l))
        (fails_on l (events_of side told))
    at Nb = by _ m.down last.down _ _ g.down_is h.down_is s.down.fails
    at Ue = by _ m.up last.up _ _ g.up_is h.up_is s.up.fails
