-- What went up is what is due: the COUNTs that have come are the same, and so are the SDUs.
use Rattle.std.proofs.Common.{◌≡◌, ◌≤◌, ℕ, zero, suc, ◌-◌, ◌==◌, Bool, true, false, ◌||◌, List, [], ◌∷◌, ◌++◌}
use Rattle.std.proofs.Common.{length, take, drop}
use Rattle.std.proofs.Common.{Option, Some, None, refl, ap, sym, ◌∙◌, arith, subst, if◌then◌else◌}
use Rattle.std.specs.Prelude.{MatchOption}
use Rattle.l2_num.specs.Least.{IsLeast}
use Rattle.l2_types.specs.declared.channel.Kind.{Kind}
use Rattle.l2_types.specs.declared.channel.Kind.TheVariants as bearers
use Rattle.l2_types.specs.declared.side.Side.{Side}
use Rattle.bearer_types.specs.declared.config.BearerConfig.{BearerConfig}
use Rattle.bearer_types.specs.Sides.{other}
use Rattle.air_record.specs.declared.line.Line.{Line}
use Rattle.air_record.specs.declared.line.Line.TheVariants as lines
use Rattle.air_text.specs.Groups.{Group}
use Rattle.promises.specs.Arrival.{HandsUpWhatCame, taken}
use Rattle.promises.specs.Configs.{config_by, config_of}
use Rattle.promises.specs.Delivery.{is_forged, forges}
use Rattle.promises.specs.Flows.{submitted, delivered}
use Rattle.promises.specs.Taken.{were_taken}
use Rattle.journal_lives.specs.LifeEvents.{count_came}
use Rattle.journal_flows.specs.FlowsTold.{flows_told}
use Rattle.journal_flows.specs.Gathering.{MayTake}
use Rattle.journal_flows.specs.Laws.{bearer_by, bearer_on}
use Rattle.journal_delivered.specs.RightDelivery.{IsDelivered, sdus_told, since_bearer, first_by, is_acked_data}
use Rattle.law_sound.specs.ComingLaws.{TellsFlows}
use Rattle.law_sound.specs.DeliveryLaw.{DeliveredFollows}
use Rattle.promises.specs.WaitingSdus.{SdusWait}
use Rattle.law_sound.proofs.Coming.{same_counts_come}
use Rattle.law_sound.proofs.Groups.{tells_before}
use Rattle.law_sound.proofs.Submitting.{sdus_are_told, left_by}

-- ---- lists

abbrev Sdus : Type 0
Sdus = List (List ℕ)

take_front : (n : ℕ) (xs ys : Sdus) → n ≤ length xs → take n (xs ++ ys) ≡ take n xs
take_front zero xs ys le = refl
take_front (suc n) [] ys le = absurd (omega (arith, le))
take_front (suc n) (x ∷ xs) ys le = ap (λ (zs : Sdus). x ∷ zs) (take_front n xs ys (omega (arith, le)))

take_short : (n : ℕ) (xs : Sdus) → length (take n xs) ≤ length xs
take_short zero xs = omega arith
take_short (suc n) [] = omega arith
take_short (suc n) (x ∷ xs) = let ih = take_short n xs in omega (arith, ih)

-- ---- a channel

-- the first that hasn't come, by both
same_least : (p q : ℕ → Bool) (first next : ℕ) → ((count : ℕ) → p count ≡ q count) → IsLeast p first next
    → IsLeast q first next
same_least p q first next same h = record {
  from = h.from;
  refused = sym (same next) ∙ h.refused;
  before = λ n low lt. sym (same n) ∙ h.before n low lt;
}

channel_delivered : (may_take : MayTake) (past : List Group) (from : Side) (lcid : ℕ) (config : BearerConfig)
    → lcid ≤ 10 → TellsFlows past → SdusWait past → HandsUpWhatCame config from lcid past
    → config_of lcid past ≡ Some config → config.kind ≡ bearers.Am
    → IsDelivered config.first (flows_told may_take past from lcid) (sdus_told from lcid (since_bearer lcid past))
    (delivered (other from) lcid (since_bearer lcid past))
channel_delivered may_take past from lcid config low h waits hand is kind =
    let t = sdus_are_told lcid from past h.bearers waits config is kind in
    let long : hand.next - config.first ≤ length (taken config lcid from past) =
    omega (
      arith,
      hand.many,
      ap (length {A = List ℕ}) hand.which,
      take_short (hand.next - config.first) (taken config lcid from past),
    ) in
    record {
      next = hand.next;
      next_is = same_least _ (count_came (flows_told may_take past from lcid)) config.first hand.next
          (same_counts_come may_take past h from lcid config low is kind) hand.least;
      is =
          t.ups ∙ hand.which
          ∙ sym (take_front (hand.next - config.first) (taken config lcid from past)
          (drop (length (were_taken config.first (left_by from lcid past))) (submitted from lcid past)) long)
          ∙ ap (take (hand.next - config.first)) (sym t.agree.kept_are);
    }

-- ---- any channel

pub bearer_is : (lcid : ℕ) (past : List Group) → bearer_on lcid past ≡ config_of lcid past
bearer_is lcid [] = refl
bearer_is lcid (g ∷ past) = by g.line (bearer_is lcid past)
  where
    by : (line : Line) → bearer_on lcid past ≡ config_of lcid past
        → bearer_by line lcid (bearer_on lcid past)
        ≡ config_by lcid line (config_of lcid past)
    by (lines.Bearer config options) e =
        ap (λ (before : Option BearerConfig). if config.channel.lcid == lcid then Some config else before) e
    by line e = e

abbrev Due : MayTake → List Group → Side → ℕ → Option BearerConfig → Type 0
Due may_take past from lcid bearer =
    MatchOption (first_by bearer) (Unit {0})
    (λ first. IsDelivered first (flows_told may_take past from lcid) (sdus_told from lcid (since_bearer lcid past))
    (delivered (other from) lcid (since_bearer lcid past)))

kind_due : (may_take : MayTake) (past : List Group) (from : Side) (lcid : ℕ) (config : BearerConfig) (kind : Kind)
    → config.kind ≡ kind
    → (config.kind ≡ bearers.Am
    → IsDelivered config.first (flows_told may_take past from lcid) (sdus_told from lcid (since_bearer lcid past))
    (delivered (other from) lcid (since_bearer lcid past)))
    → MatchOption (if is_acked_data kind then Some config.first else None) (Unit {0})
    (λ first. IsDelivered first (flows_told may_take past from lcid) (sdus_told from lcid (since_bearer lcid past))
    (delivered (other from) lcid (since_bearer lcid past)))
kind_due may_take past from lcid config bearers.Tm is h = tt
kind_due may_take past from lcid config bearers.Srb is h = tt
kind_due may_take past from lcid config bearers.Um is h = tt
kind_due may_take past from lcid config bearers.Am is h = h is

bearer_due : (may_take : MayTake) (past : List Group) (from : Side) (lcid : ℕ) (bearer : Option BearerConfig)
    → config_of lcid past ≡ bearer
    → ((config : BearerConfig) → config_of lcid past ≡ Some config → config.kind ≡ bearers.Am
    → IsDelivered config.first (flows_told may_take past from lcid) (sdus_told from lcid (since_bearer lcid past))
    (delivered (other from) lcid (since_bearer lcid past)))
    → Due may_take past from lcid bearer
bearer_due may_take past from lcid None is h = tt
bearer_due may_take past from lcid (Some config) is h =
    kind_due may_take past from lcid config config.kind refl (h config is)

forged_before : (g : Group) (past : List Group) → is_forged (g ∷ past) ≡ false → is_forged past ≡ false
forged_before g past e = by (forges g.line) e
  where
    by : (b : Bool) → (b || is_forged past) ≡ false → is_forged past ≡ false
    by true e = absurd (let bad = e in cc)
    by false e = e

pub delivered_follows : DeliveredFollows
delivered_follows may_take [] h waits came unforged = tt
delivered_follows may_take (g ∷ past) h waits came unforged = (
  λ from lcid low. subst (λ (bearer : Option BearerConfig). Due may_take (g ∷ past) from lcid bearer)
      (sym (bearer_is lcid (g ∷ past)))
      (bearer_due may_take (g ∷ past) from lcid (config_of lcid (g ∷ past)) refl
      (λ config is kind. channel_delivered may_take (g ∷ past) from lcid config low h waits
      (came.0 from lcid config is kind unforged) is kind)),
  delivered_follows may_take past (tells_before g past h) waits.1 came.1 (forged_before g past unforged),
)
