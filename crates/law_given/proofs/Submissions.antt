-- SDUs that are submitted as a life begins are gathered as well where they are gathered before the last one ends.
use Rattle.std.proofs.Common.{◌≡◌, ℕ, true, Option, List, [], ◌∷◌, ◌++◌, refl, ap, subst, ◌∙◌}
use Rattle.bearer.specs.Acknowledged.State.{State}
use Rattle.bearer_types.specs.declared.config.BearerConfig.{BearerConfig}
use Rattle.pdcp_tx.specs.State.{State as Sending}
use Rattle.journal_account.specs.FlowEvents.{FlowEvent}
use Rattle.journal_given.specs.Giving.{lives_ended, on_side}
use Rattle.journal_given.specs.Supplies.{Supply, Bearer, History, histories, life_ended}
use Rattle.journal_lives.specs.CountsCome.{CountsCome}
use Rattle.journal_lives.specs.FlowLives.{FlowLives}
use Rattle.journal_takes.specs.FlowTakes.{FlowTakes, takes_of}
use Rattle.journal_takes.specs.TakeEvents.{TakeEvent, SduSubmitted, LifeEnded}
use Rattle.journal_takes.specs.Takeable.{AreTakes}
use Rattle.l2_types.specs.declared.side.Side.TheVariants.{Ue}
use Rattle.law_takes.specs.Accounted.{IsAccounted}
use Rattle.law_takes.specs.Histories.{AreGiven}
use Rattle.law_given.specs.Beside.{AreGivenBy}
use Rattle.law_given.specs.Joined.{Direction}
use Rattle.law_given.specs.Supplied.{Progress, IsSupplied}

-- ---- one behind the other

abbrev pub submissions : List (List ℕ) → List TakeEvent → List TakeEvent
submissions [] es = es
submissions (sdu ∷ sdus) es = submissions sdus (SduSubmitted sdu ∷ es)

abbrev pub all_submitted : List (List ℕ) → Supply History → Supply History
all_submitted sdus s = record s { takes = record s.takes { events = submissions sdus s.takes.events } }

pub submissions_then : (xs ys : List (List ℕ)) (es : List TakeEvent)
    → submissions (xs ++ ys) es ≡ submissions ys (submissions xs es)
submissions_then [] ys es = refl
submissions_then (sdu ∷ xs) ys es = submissions_then xs ys (SduSubmitted sdu ∷ es)

-- ---- the end of a life before them and behind them comes to the same

same_behind : (first bits : ℕ) (sdus : List (List ℕ)) (es gs : List TakeEvent)
    → takes_of first bits es ≡ takes_of first bits gs
    → takes_of first bits (submissions sdus es) ≡ takes_of first bits (submissions sdus gs)
same_behind first bits [] es gs same = same
same_behind first bits (sdu ∷ sdus) es gs same =
    same_behind first bits sdus (SduSubmitted sdu ∷ es) (SduSubmitted sdu ∷ gs)
    (ap (λ (t : FlowTakes). record t { waiting = t.waiting ++ sdu ∷ [] }) same)

end_commutes : (first bits : ℕ) (sdus : List (List ℕ)) (es : List TakeEvent)
    → takes_of first bits (submissions sdus (LifeEnded true ∷ es))
    ≡ takes_of first bits (LifeEnded true ∷ submissions sdus es)
end_commutes first bits [] es = refl
end_commutes first bits (sdu ∷ sdus) es =
    same_behind first bits sdus (SduSubmitted sdu ∷ LifeEnded true ∷ es) (LifeEnded true ∷ SduSubmitted sdu ∷ es) refl
    ∙ end_commutes first bits sdus (SduSubmitted sdu ∷ es)

takes_before : (first bits : ℕ) (sdus : List (List ℕ)) (es : List TakeEvent) → AreTakes first bits (submissions sdus es)
    → AreTakes first bits es
takes_before first bits [] es h = h
takes_before first bits (sdu ∷ sdus) es h = (takes_before first bits sdus (SduSubmitted sdu ∷ es) h).1

takes_behind : (first bits : ℕ) (sdus : List (List ℕ)) (es : List TakeEvent) → AreTakes first bits es
    → AreTakes first bits (submissions sdus es)
takes_behind first bits [] es h = h
takes_behind first bits (sdu ∷ sdus) es h = takes_behind first bits sdus (SduSubmitted sdu ∷ es) (tt, h)

pub submissions_commute : (p : Progress) (x : Sending) (sdus : List (List ℕ)) (said : CountsCome) (s : Supply History)
    → IsSupplied p x (all_submitted sdus (life_ended histories said s))
    → IsSupplied p x (life_ended histories said (all_submitted sdus s))
submissions_commute p x sdus said s h =
    let first = s.takes.first in
    let bits = s.takes.bits in
    let es = s.takes.events in
    let same = end_commutes first bits sdus es in
    record {
      bits = h.bits;
      given = h.given;
      told = record {
        history = (
          tt,
          takes_behind first bits sdus es (takes_before first bits sdus (LifeEnded true ∷ es)
              h.told.history).1,
        );
        accounted = subst (IsAccounted x) same h.told.accounted;
        given = subst (λ (t : FlowTakes). AreGiven t x.given h.given) same h.told.given;
      };
      many = h.many;
      pdus = h.pdus;
      unconfirmed = h.unconfirmed;
      only_given = h.only_given;
      owed = h.owed;
      report = h.report;
      came = h.came;
    }

-- ---- both sides, where the terminal submits them

pub lives_ended_before : (c : BearerConfig) (there back : Direction) (one two : State) (down up : List FlowEvent)
    (of_nb of_ue : Option FlowLives) (sdus : List (List ℕ)) (b : Bearer History)
    → (let a = on_side Ue (all_submitted sdus) (lives_ended histories of_nb of_ue b) in
    AreGivenBy c there back one two down up a.nb a.ue)
    → (let a = lives_ended histories of_nb of_ue (on_side Ue (all_submitted sdus) b) in
    AreGivenBy c there back one two down up a.nb a.ue)
lives_ended_before c there back one two down up of_nb of_ue sdus b h = record {
  own_is = h.own_is;
  far_is = record {
    bits = h.far_is.bits;
    sizes = h.far_is.sizes;
    supplied = submissions_commute _ two.pdcp.tx sdus _ b.ue h.far_is.supplied;
    window = h.far_is.window;
  };
}
