-- What the checker finds right is told as is promised of every journal.
use Rattle.std.proofs.Common.{◌≡◌, ℕ, zero, suc, ◌+◌, Bool, true, false, not, ◌||◌, List, [], ◌∷◌, ◌++◌, length}
use Rattle.std.proofs.Common.{refl, ap, sym}
use Rattle.std.proofs.Common.{subst, ◌∙◌}
use Rattle.std.proofs.lemmas.List.Elements.{filter-append}
use Rattle.std.specs.List.{filter}
use Rattle.air_record.specs.declared.line.Outcome.{Outcome}
use Rattle.air_record.specs.declared.record.Record.{Record}
use Rattle.air_record.specs.declared.record.Record.TheVariants as records
use Rattle.air_record.specs.Outcomes.{intact}
use Rattle.air_text.specs.Groups.{Group}
use Rattle.mac_pdu.specs.declared.item.Direction.TheVariants.{Down, Up}
use Rattle.promises.specs.Air.{is_tti, ttis, numbered, Flies, MayFly, FliesIntact, InTurn}
use Rattle.promises.specs.Carried.{AreCarried}
use Rattle.promises.specs.Parts.{Part, Submits, Passes, Drains, Rests, part_of_line}
use Rattle.promises.specs.Records.{is_of_air}
use Rattle.journal_air.specs.declared.granted.Granted.{Granted}
use Rattle.journal_air.specs.Checking.{granted_often}
use Rattle.promises.specs.RightAir.{is_toward, FliesInAnyOrder, is_of_time, HasItsTtis, GroupIsRight, AirIsRight}
use Rattle.journal_air.specs.Laws.{HasCount, put_in_order, AreFlownInAnyOrder, FliesAsPromised}
use Rattle.journal_air.specs.Laws.{AllFly}
use Rattle.journal_air.proofs.Tellings.{AllAir}
use Rattle.journal_air.proofs.Ttis.{FlownRight, flown_air}
use Rattle.journal_air.proofs.Lines.{Drained, drained_right}

-- ---- records of the air, and numbers, among those of time

air_of_time : (l : List Record) → filter is_of_air (filter is_of_time l) ≡ filter is_of_air l
air_of_time [] = refl
air_of_time (records.Line number line ∷ l) = air_of_time l
air_of_time (records.Tti t ∷ l) = air_of_time l
air_of_time (records.Sleep ∷ l) = ap (λ (x : List Record). records.Sleep ∷ x) (air_of_time l)
air_of_time (records.Block d process fresh version octets ∷ l) =
    ap (λ (x : List Record). records.Block d process fresh version octets ∷ x) (air_of_time l)
air_of_time (records.Air d what heard ∷ l) =
    ap (λ (x : List Record). records.Air d what heard ∷ x) (air_of_time l)
air_of_time (one ∷ l) = air_of_time l

ttis_of_time : (l : List Record) → filter is_tti (filter is_of_time l) ≡ filter is_tti l
ttis_of_time [] = refl
ttis_of_time (records.Line number line ∷ l) = ttis_of_time l
ttis_of_time (records.Tti t ∷ l) = ap (λ (x : List Record). records.Tti t ∷ x) (ttis_of_time l)
ttis_of_time (records.Sleep ∷ l) = ttis_of_time l
ttis_of_time (records.Block d process fresh version octets ∷ l) = ttis_of_time l
ttis_of_time (records.Air d what heard ∷ l) = ttis_of_time l
ttis_of_time (one ∷ l) = ttis_of_time l

all_air : (l : List Record) → AllAir l → filter is_of_air l ≡ l
all_air [] air = refl
all_air (one ∷ l) air = rw air.0 (ap (λ (x : List Record). one ∷ x) (all_air l air.1))

no_number : (one : Record) → is_of_air one ≡ true → is_tti one ≡ false
no_number (records.Tti t) e = absurd cc
no_number one e = refl

no_numbers : (l : List Record) → AllAir l → filter is_tti l ≡ []
no_numbers [] air = refl
no_numbers (one ∷ l) air = rw (no_number one air.0) (no_numbers l air.1)

-- ---- the TTIs of a line

in_order : (asleep : Bool) (t up_grant : ℕ) (up : Outcome) (down_grant : ℕ) (down : Outcome) (told : List Record)
    → FliesInAnyOrder asleep t up_grant up down_grant down told
    → Flies asleep t up_grant up down_grant down (put_in_order told)
in_order asleep t up_grant up down_grant down told h = record {
  downward = filter (is_toward Down) told;
  upward = filter (is_toward Up) told;
  told_is = ap (λ (l : List Record). l ++ (filter (is_toward Down) told ++ filter (is_toward Up) told)) h.sleeps;
  down_is = h.down_is;
  up_is = h.up_is;
}

record Told (t : ℕ) (p : Part) (told : List Record) : Type 0 where
  count : ℕ
  count_is : HasCount p count
  numbers_are : filter is_tti told ≡ numbered t count
  are_flown : AreFlownInAnyOrder t p told

rests_told : (t : ℕ) (p : Part) (told : List Record) → told ≡ [] → HasCount p 0 → AreFlownInAnyOrder t p []
    → Told t p told
rests_told t p told e count flown =
    subst (λ (l : List Record). Told t p l) (sym e)
    (record { count = 0; count_is = count; numbers_are = refl; are_flown = flown })

passes_told : (t up_grant : ℕ) (up : Outcome) (down_grant : ℕ) (down : Outcome) (told : List Record)
    → HasItsTtis t (Passes up_grant up down_grant down) told → Told t (Passes up_grant up down_grant down) told
passes_told t up_grant up down_grant down told h =
    let g : Granted =
    record { up_grant = up_grant; up = up; down_grant = down_grant; down = down; may_sleep = true } in
    let right : FlownRight t g h.second = record {
      asleep = h.is_second.0;
      may = may_sleep h.is_second.0;
      flies = h.is_second.1;
    } in
    let air = flown_air t g h.second right in
    let is : told ≡ records.Tti t ∷ h.second = h.told_are ∙ ap (λ (l : List Record). l ++ h.second) h.is_first in
    record {
      count = 1;
      count_is = refl;
      numbers_are = ap (filter is_tti) is ∙ ap (λ (l : List Record). records.Tti t ∷ l) (no_numbers h.second air);
      are_flown = subst (λ (l : List Record). MayFly t up_grant up down_grant down (put_in_order l))
          (sym (ap (filter is_of_air) is ∙ all_air h.second air))
          (record {
            asleep = h.is_second.0;
            flies = in_order h.is_second.0 t up_grant up down_grant down h.second h.is_second.1;
          });
    }
  where
    may_sleep : (asleep : Bool) → (not asleep || true) ≡ true
    may_sleep true = refl
    may_sleep false = refl

abbrev DrainedInOrder : ℕ → ℕ → List Record → Type 0
DrainedInOrder grant n told = FliesIntact n grant (put_in_order told)

record DrainTold (t grant count : ℕ) (told : List Record) : Type 0 where
  numbers_are : filter is_tti told ≡ numbered t count
  length_is : length (filter is_tti told) ≡ count
  are_flown : InTurn (DrainedInOrder grant) t count (filter is_of_air told)

drain_told : (grant n t : ℕ) (told : List Record) → InTurn (Drained grant) t n told → DrainTold t grant n told
drain_told grant zero t told h = subst (λ (l : List Record). DrainTold t grant zero l) (sym h)
    (record { numbers_are = refl; length_is = refl; are_flown = refl })
drain_told grant (suc n) t told h =
    let flown = h.is_first.second in
    let air = flown_air t (granted_often grant) flown (drained_right t grant flown h.is_first.is_second) in
    let is : told ≡ records.Tti t ∷ (flown ++ h.second) = h.told_are
    ∙ ap (λ (l : List Record). l ++ h.second)
    (h.is_first.told_are ∙ ap (λ (l : List Record). l ++ flown) h.is_first.is_first) in
    let rest = drain_told grant n (t + 1) h.second h.is_second in
    let numbers : filter is_tti told ≡ records.Tti t ∷ filter is_tti h.second = ap (filter is_tti) is
    ∙ ap (λ (l : List Record). records.Tti t ∷ l)
    (filter-append is_tti flown h.second
    ∙ ap (λ (l : List Record). l ++ filter is_tti h.second) (no_numbers flown air)) in
    record {
      numbers_are = numbers ∙ ap (λ (l : List Record). records.Tti t ∷ l) rest.numbers_are;
      length_is = ap (λ (l : List Record). length l) numbers ∙ ap suc rest.length_is;
      are_flown = record {
        first = flown;
        second = filter is_of_air h.second;
        told_are = ap (filter is_of_air) is ∙ filter-append is_of_air flown h.second
            ∙ ap (λ (l : List Record). l ++ filter is_of_air h.second) (all_air flown air);
        is_first = in_order false t grant intact grant intact flown h.is_first.is_second;
        is_second = rest.are_flown;
      };
    }

line_told : (p : Part) (t : ℕ) (told : List Record) → HasItsTtis t p told → Told t p told
line_told (Submits side lcid octets) t told h = rests_told t (Submits side lcid octets) told h refl refl
line_told (Passes up_grant up down_grant down) t told h = passes_told t up_grant up down_grant down told h
line_told (Drains grant) t told h =
    let d = drain_told grant h.0 t told h.1 in
    record {
      count = h.0;
      count_is = tt;
      numbers_are = d.numbers_are;
      are_flown = subst (λ (n : ℕ). InTurn (DrainedInOrder grant) t n (filter is_of_air told)) (sym d.length_is)
          d.are_flown;
    }
line_told Rests t told h = rests_told t Rests told h refl refl

-- what is flown hangs on the records of the air, and on how many numbers there are
flown_same : (p : Part) (t : ℕ) (told events : List Record) → filter is_of_air told ≡ filter is_of_air events
    → filter is_tti told ≡ filter is_tti events → AreFlownInAnyOrder t p told → AreFlownInAnyOrder t p events
flown_same (Submits side lcid octets) t told events e f h = sym e ∙ h
flown_same (Passes up_grant up down_grant down) t told events e f h =
    subst (λ (l : List Record). MayFly t up_grant up down_grant down (put_in_order l)) e h
flown_same (Drains grant) t told events e f h =
    subst (λ (l : List Record). InTurn (DrainedInOrder grant) t (length (filter is_tti events)) l) e
    (subst (λ (l : List Record). InTurn (DrainedInOrder grant) t (length l) (filter is_of_air told)) f h)
flown_same Rests t told events e f h = sym e ∙ h

group_flies : (g : Group) (past : List Group) → GroupIsRight g past → FliesAsPromised g past
group_flies g past h =
    let told = filter is_of_time g.events in
    let l = line_told (part_of_line g.line) (ttis past) told h.ttis_are in
    record {
      count = l.count;
      count_is = l.count_is;
      numbers_are = sym (ttis_of_time g.events) ∙ l.numbers_are;
      are_flown = flown_same (part_of_line g.line) (ttis past) told g.events (air_of_time g.events)
          (ttis_of_time g.events) l.are_flown;
    }

pub as_promised : (past : List Group) → AirIsRight past → AllFly past × AreCarried past
as_promised [] h = (tt, tt)
as_promised (g ∷ past) h =
    let before = as_promised past h.1 in
    ((group_flies g past h.0, before.0), (h.0.is_carried, before.1))
