-- What flies in the order of a run flies in any order.
use Rattle.std.proofs.Common.{◌≡◌, ℕ, Bool, true, false, List, [], ◌∷◌, ◌++◌, inl, inr, refl, ap, sym, subst, ◌∙◌}
use Rattle.std.proofs.Common.{arith, append-nil}
use Rattle.std.proofs.lemmas.Bool.{cases_eq, and_parts, and_from}
use Rattle.std.proofs.lemmas.List.Elements.{filter-append}
use Rattle.std.specs.List.{filter, list_all}
use Rattle.air_record.specs.declared.line.Outcome.{Outcome}
use Rattle.air_record.specs.declared.record.Record.{Record}
use Rattle.air_record.specs.Outcomes.{missed}
use Rattle.mac_pdu.specs.declared.item.Direction.TheVariants.{Down, Up}
use Rattle.promises.specs.Air.{sleeping, Flies}
use Rattle.promises.specs.Flights.{IsDown, IsUp}
use Rattle.promises.specs.Records.{is_of_air}
use Rattle.promises.specs.RightAir.{is_toward, FliesInAnyOrder}
use Rattle.promises.specs.Sleeps.{is_sleep}

-- records of the air: their sleep, and what they tell of either direction
record Kinds (told sleeps down up : List Record) : Type 0 where
  of_air : list_all is_of_air told ≡ true
  sleeps_is : filter is_sleep told ≡ sleeps
  down_is : filter (is_toward Down) told ≡ down
  up_is : filter (is_toward Up) told ≡ up

all_append : (a b : List Record) → list_all is_of_air a ≡ true → list_all is_of_air b ≡ true
    → list_all is_of_air (a ++ b) ≡ true
all_append [] b p q = q
all_append (one ∷ a) b p q =
    let both = and_parts (is_of_air one) (list_all is_of_air a) p in
    and_from (is_of_air one) (list_all is_of_air (a ++ b)) both.0 (all_append a b both.1 q)

of_both : (kind : Record → Bool) (a b x y : List Record) → filter kind a ≡ x → filter kind b ≡ y
    → filter kind (a ++ b) ≡ x ++ y
of_both kind a b x y p q =
    filter-append kind a b ∙ ap (λ (l : List Record). l ++ filter kind b) p ∙ ap (λ (l : List Record). x ++ l) q

kinds_append : (a b s d u s' d' u' : List Record) → Kinds a s d u → Kinds b s' d' u'
    → Kinds (a ++ b) (s ++ s') (d ++ d') (u ++ u')
kinds_append a b s d u s' d' u' p q = record {
  of_air = all_append a b p.of_air q.of_air;
  sleeps_is = of_both is_sleep a b s s' p.sleeps_is q.sleeps_is;
  down_is = of_both (is_toward Down) a b d d' p.down_is q.down_is;
  up_is = of_both (is_toward Up) a b u u' p.up_is q.up_is;
}

none_kinds : Kinds [] [] [] []
none_kinds = record { of_air = refl; sleeps_is = refl; down_is = refl; up_is = refl }

sleeping_kinds : (asleep : Bool) → Kinds (sleeping asleep) (sleeping asleep) [] []
sleeping_kinds true = record { of_air = refl; sleeps_is = refl; down_is = refl; up_is = refl }
sleeping_kinds false = none_kinds

abbrev DownKinds : List Record → Type 0
DownKinds l = Kinds l [] l []

abbrev UpKinds : List Record → Type 0
UpKinds l = Kinds l [] [] l

down_kinds : (t grant : ℕ) (o : Outcome) (l : List Record) → IsDown t grant o l → DownKinds l
down_kinds t grant o l h = elim (cases_eq grant 0) [
  | inl none ↦ subst DownKinds (sym (h.none none)) none_kinds
  | inr other ↦ subst DownKinds (sym (h.one (omega arith)).flown_is)
      (record { of_air = refl; sleeps_is = refl; down_is = refl; up_is = refl })
]

up_kinds : (t grant : ℕ) (o : Outcome) (l : List Record) → IsUp t grant o l → UpKinds l
up_kinds t grant o l h = elim (cases_eq grant 0) [
  | inl none ↦ subst UpKinds (sym (h.none none)) none_kinds
  | inr other ↦ elim (h.one (omega arith)) [
    | inl f ↦ subst UpKinds (sym f.flown_is)
        (record { of_air = refl; sleeps_is = refl; down_is = refl; up_is = refl })
    | inr u ↦ subst UpKinds (sym u.flown_is)
        (record { of_air = refl; sleeps_is = refl; down_is = refl; up_is = refl })
  ]
]

pub in_any_order : (asleep : Bool) (t up_grant : ℕ) (up : Outcome) (down_grant : ℕ) (down : Outcome)
    (told : List Record) → Flies asleep t up_grant up down_grant down told
    → FliesInAnyOrder asleep t up_grant up down_grant down told
in_any_order asleep t up_grant up down_grant down told h =
    let s = sleeping asleep in
    let d = h.downward in
    let u = h.upward in
    let ways = kinds_append d u [] d [] [] [] u (down_kinds t down_grant (missed asleep down) d h.down_is)
    (up_kinds t up_grant (missed asleep up) u h.up_is) in
    let k = kinds_append s (d ++ u) s [] [] [] (d ++ []) u (sleeping_kinds asleep) ways in
    subst (λ (l : List Record). FliesInAnyOrder asleep t up_grant up down_grant down l) (sym h.told_is)
    (record {
      of_air = k.of_air;
      sleeps = k.sleeps_is ∙ append-nil s;
      down_is = subst (λ (l : List Record). IsDown t down_grant (missed asleep down) l)
          (sym (k.down_is ∙ append-nil d)) h.down_is;
      up_is = subst (λ (l : List Record). IsUp t up_grant (missed asleep up) l) (sym k.up_is) h.up_is;
    })
