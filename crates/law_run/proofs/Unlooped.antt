-- The test loop returns nothing on a signalling channel, since it takes SDUs of data bearers only.
use Rattle.std.proofs.Common.{◌≡◌, ◌<◌, ◌≤◌, arith, ℕ, ◌==◌, nat_le, Bool, true, false, ◌&&◌, if◌then◌else◌, inl, inr}
use Rattle.std.proofs.Common.{List, [], ◌∷◌, ◌++◌, length, take, refl, sym, subst}
use Rattle.std.specs.List.{AllByRecursion}
use Rattle.std.proofs.lemmas.Bool.Decides.{nat_tests}
use Rattle.std.proofs.lemmas.List.{take_all}
use Rattle.air_record.specs.declared.record.Record.{Record}
use Rattle.air_record.specs.declared.record.Record.TheVariants as records
use Rattle.air_text.specs.Groups.{Group}
use Rattle.bearer_types.specs.declared.event.Event.TheVariants.{Up}
use Rattle.l2_types.specs.declared.side.Side.{Side}
use Rattle.l2_types.specs.declared.side.Side.TheVariants.{Nb, Ue}
use Rattle.promises.specs.Loops.{ArePart, item_back, items_due, gone_up, returned, mode_in_force, all_gone_up}
use Rattle.promises.specs.Loops.{all_returned}
use Rattle.test_loop.specs.declared.Mode.{Mode}
use Rattle.test_loop.specs.Items.{Item, item}
use Rattle.test_loop.specs.Loops.{is_on}
use Rattle.law_deliver.proofs.AmChannel.Ends.{all_more}
use Rattle.law_run.proofs.TwoEnds.Stages.{unlooped_by}
use Rattle.promises.specs.Flows.{loops_in, looped_at}
use Rattle.law_run.specs.Order.{KeepsOrder}
use Rattle.law_run.proofs.Looping.{return_in_order}

-- of a data bearer
abbrev IsHigh : Item → Type 0
IsHigh i = 3 ≤ i.lcid

-- ---- what may come back

second : (a b c : Bool) → ((a && b) && c) ≡ true → b ≡ true
second true true c e = refl
second true false c e = absurd cc
second false b c e = absurd cc

least : (n m : ℕ) → nat_le n m ≡ true → n ≤ m
least n m e = grind (arith, nat_tests)

due_by : (b : Bool) (i : Item) → (b ≡ true → IsHigh i) → AllByRecursion IsHigh (if b then i ∷ [] else [])
due_by true i h = (h refl, tt)
due_by false i h = tt

due_high : (by : Mode) (one : Record) → AllByRecursion IsHigh (items_due by one)
due_high by (records.Of Ue (Up lcid octets)) =
    due_by ((is_on by && nat_le 3 lcid) && nat_le 1 (length octets)) (item_back by (item lcid octets))
    (λ e. least 3 lcid (second (is_on by) (nat_le 3 lcid) (nat_le 1 (length octets)) e))
due_high by one = tt

gone_high : (by : Mode) (told : List Record) → AllByRecursion IsHigh (gone_up by told)
gone_high by [] = tt
gone_high by (one ∷ told) = all_more IsHigh (items_due by one) (gone_up by told) (due_high by one) (gone_high by told)

all_high : (past : List Group) → AllByRecursion IsHigh (all_gone_up past)
all_high [] = tt
all_high (g ∷ past) =
    all_more IsHigh (all_gone_up past) (gone_up (mode_in_force (g ∷ past)) g.events) (all_high past)
    (gone_high (mode_in_force (g ∷ past)) g.events)

-- ---- what comes back

part_high : (xs ys : List Item) → ArePart xs ys → AllByRecursion IsHigh ys → AllByRecursion IsHigh xs
part_high [] ys p h = tt
part_high (x ∷ xs) [] p h = absurd p
part_high (x ∷ xs) (y ∷ ys) (inl (e, p)) h = (subst IsHigh (sym e) h.0, part_high xs ys p h.1)
part_high (x ∷ xs) (y ∷ ys) (inr p) h = part_high (x ∷ xs) ys p h.1

last_high : (xs ys : List Item) → AllByRecursion IsHigh (xs ++ ys) → AllByRecursion IsHigh ys
last_high [] ys h = h
last_high (x ∷ xs) ys h = last_high xs ys h.1

apart_low : (lcid l : ℕ) → 3 ≤ lcid → l < 3 → (lcid == l) ≡ false
apart_low lcid l high low = grind (arith, nat_tests)

none_by : (l : ℕ) (told : List Record) → l < 3 → AllByRecursion IsHigh (returned told) → loops_in l told ≡ []
none_by l [] low h = refl
none_by l (records.Looped lcid octets ∷ told) low h =
    unlooped_by l (records.Looped lcid octets) told (apart_low lcid l h.0 low) (none_by l told low h.1)
none_by l (one ∷ told) low h = unlooped_by l one told refl (none_by l told low h)

returned_high : (past : List Group) (g : Group) → KeepsOrder (g ∷ past) → AllByRecursion IsHigh (returned g.events)
returned_high past g order =
    let n = length g.events in
    let whole : take n g.events ≡ g.events = take_all n g.events (omega arith) in
    let went = all_more IsHigh (all_gone_up past) (gone_up (mode_in_force (g ∷ past)) (take n g.events)) (all_high past)
    (gone_high (mode_in_force (g ∷ past)) (take n g.events)) in
    let came = part_high (all_returned past ++ returned (take n g.events))
    (all_gone_up past ++ gone_up (mode_in_force (g ∷ past)) (take n g.events))
    ((return_in_order (g ∷ past) order).0.in_order n) went in
    subst (λ (told : List Record). AllByRecursion IsHigh (returned told)) whole
    (last_high (all_returned past) (returned (take n g.events)) came)

pub none_looped : (side : Side) (l : ℕ) (past : List Group) (g : Group) → l < 3 → KeepsOrder (g ∷ past)
    → looped_at side l g.events ≡ []
none_looped Nb l past g low order = refl
none_looped Ue l past g low order = none_by l g.events low (returned_high past g order)
