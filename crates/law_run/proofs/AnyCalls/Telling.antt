-- What an end tells is added, and SDUs are counted as it is told.
use Rattle.std.proofs.Common.{◌≡◌, ◌≤◌, ℕ, Bool, true, false, ◌&&◌, nat_le, if◌then◌else◌, List, [], ◌∷◌, ◌++◌, length}
use Rattle.std.proofs.Common.{◌==◌, refl, arith}
use Rattle.std.proofs.lemmas.Bool.Decides.{nat_tests}
use Rattle.air_record.specs.declared.record.Record.{Record}
use Rattle.air_record.specs.declared.record.Record.TheVariants as records
use Rattle.bearer_types.specs.declared.event.Event.{Event}
use Rattle.bearer_types.specs.declared.event.Event.TheVariants as events
use Rattle.l2_node.specs.End.{End}
use Rattle.l2_types.specs.declared.side.Side.{Side}
use Rattle.l2_types.specs.declared.side.Side.TheVariants.{Nb, Ue}
use Rattle.test_loop.specs.Items.{Item, item}
use Rattle.test_loop.specs.Loops.{is_on}
use Rattle.air_link.specs.Link.{Link, says, with_end}
use Rattle.air_link.specs.Telling.{delivers, fails, tells, tells_all}
use Rattle.law_run.specs.AnyCalls.Counts.{ups, loopeds, is_fail, gives_up}
use Rattle.promises.specs.Records.{is_up}
use Rattle.law_run.specs.AnyCalls.Told.{Adds}
use Rattle.law_run.proofs.AnyCalls.Adding.{books, stays, adds_then, IsPlain, says_plain, same_grows, one_grows}
use Rattle.law_run.proofs.AnyCalls.Adding.{kept_one, kept_none, any_one, any_none, same_marked, one_marked}

-- ---- numbers

pub is_eq : (a : ℕ) → (a == a) ≡ true
is_eq a = grind (arith, nat_tests)

pub is_apart : (a b : ℕ) → (a ≡ b → ⊥) → (a == b) ≡ false
is_apart a b apart = grind (arith, nat_tests, apart)

pub none_is : (n : ℕ) → n ≡ 0 → (n == 0) ≡ true
none_is n e = grind (arith, nat_tests)

pub some_is : (n : ℕ) → 1 ≤ n → (n == 0) ≡ false
some_is n h = grind (arith, nat_tests)

pub none_from : (n : ℕ) → (n == 0) ≡ true → n ≡ 0
none_from n e = grind (arith, nat_tests)

pub some_from : (n : ℕ) → (n == 0) ≡ false → 1 ≤ n
some_from n e = grind (arith, nat_tests)

-- ---- an end is another, or is nothing to the records

pub end_books : (side : Side) (e : End) (l : Link) → books (with_end side e l) ≡ books l
end_books Nb e l = refl
end_books Ue e l = refl

pub end_stays : (side : Side) (e : End) (l : Link) → Adds [] l (with_end side e l)
end_stays side e l = stays l (with_end side e l) (end_books side e l)

-- ---- one event

-- an event that is no delivery and no failure
still_tells : (side : Side) (e : Event) (l m : Link) → books m ≡ books l
    → ((s : Side) (k : ℕ) → is_up s k (records.Of side e) ≡ false)
    → ((s : Side) (k : ℕ) → is_fail s k (records.Of side e) ≡ false) → Adds [] l (says (records.Of side e) m)
still_tells side e l m same none no_fail =
    let p : IsPlain (records.Of side e) =
    record { no_up = none; no_loop = λ k. refl; no_fail = no_fail; no_run = refl } in
    adds_then [] [] l m (says (records.Of side e) m) (stays l m same) (says_plain (records.Of side e) m p)

-- a delivery
abbrev gathers_if : Bool → Item → Link → Link
gathers_if b i l = if b then record l { ups = l.ups ++ i ∷ [] } else l

gathers_books : (b : Bool) (i : Item) (one : Record) (l : Link)
    → books (says one (gathers_if b i l)) ≡ books (says one l)
gathers_books true i one l = refl
gathers_books false i one l = refl

nb_up : (lcid : ℕ) (octets : List ℕ) (l : Link)
    → Adds [] l (says (records.Of Nb (events.Up lcid octets)) (delivers Nb lcid l))
nb_up lcid octets l =
    let one = records.Of Nb (events.Up lcid octets) in
    record {
      more = one ∷ [];
      out_is = refl;
      ttis_is = refl;
      told = record {
        nb_delivered =
            one_grows (λ k. ups Nb k (one ∷ [])) l.up.delivered lcid (kept_one (lcid == lcid) one (is_eq lcid))
            (λ k apart. kept_none (lcid == k) one (is_apart lcid k apart));
        ue_delivered = same_grows (λ k. ups Ue k (one ∷ [])) l.down.delivered l.down.delivered refl (λ k. refl);
        nb_submitted = refl;
        ue_submitted = same_grows (λ k. loopeds k (one ∷ [])) l.up.submitted l.up.submitted refl (λ k. refl);
        nb_failed = same_marked (λ k. gives_up Nb k (one ∷ [])) l.down.failed l.down.failed refl (λ k. refl);
        ue_failed = same_marked (λ k. gives_up Ue k (one ∷ [])) l.up.failed l.up.failed refl (λ k. refl);
        flown_is = refl;
        none_of_run = refl;
      };
    }

ue_up : (lcid : ℕ) (octets : List ℕ) (l : Link)
    → Adds [] l (says (records.Of Ue (events.Up lcid octets)) (delivers Ue lcid l))
ue_up lcid octets l =
    let one = records.Of Ue (events.Up lcid octets) in
    record {
      more = one ∷ [];
      out_is = refl;
      ttis_is = refl;
      told = record {
        nb_delivered = same_grows (λ k. ups Nb k (one ∷ [])) l.up.delivered l.up.delivered refl (λ k. refl);
        ue_delivered =
            one_grows (λ k. ups Ue k (one ∷ [])) l.down.delivered lcid (kept_one (lcid == lcid) one (is_eq lcid))
            (λ k apart. kept_none (lcid == k) one (is_apart lcid k apart));
        nb_submitted = refl;
        ue_submitted = same_grows (λ k. loopeds k (one ∷ [])) l.up.submitted l.up.submitted refl (λ k. refl);
        nb_failed = same_marked (λ k. gives_up Nb k (one ∷ [])) l.down.failed l.down.failed refl (λ k. refl);
        ue_failed = same_marked (λ k. gives_up Ue k (one ∷ [])) l.up.failed l.up.failed refl (λ k. refl);
        flown_is = refl;
        none_of_run = refl;
      };
    }

gathered : (b : Bool) (i : Item) (lcid : ℕ) (octets : List ℕ) (l : Link)
    → Adds [] l (says (records.Of Ue (events.Up lcid octets)) (gathers_if b i (delivers Ue lcid l)))
gathered b i lcid octets l =
    let one = records.Of Ue (events.Up lcid octets) in
    let d = delivers Ue lcid l in
    adds_then [] [] l (says one d) (says one (gathers_if b i d)) (ue_up lcid octets l)
    (stays (says one d) (says one (gathers_if b i d)) (gathers_books b i one d))

up_adds : (side : Side) (lcid : ℕ) (octets : List ℕ) (l : Link) → Adds [] l (tells side (events.Up lcid octets) l)
up_adds Nb lcid octets l = nb_up lcid octets l
up_adds Ue lcid octets l =
    gathered ((is_on l.looping.mode && nat_le 3 lcid) && nat_le 1 (length octets)) (item lcid octets) lcid octets l

-- a failure
nb_fail : (lcid sn : ℕ) (l : Link) → Adds [] l (says (records.Of Nb (events.Fail lcid sn)) (fails Nb lcid l))
nb_fail lcid sn l =
    let one = records.Of Nb (events.Fail lcid sn) in
    record {
      more = one ∷ [];
      out_is = refl;
      ttis_is = refl;
      told = record {
        nb_delivered = same_grows (λ k. ups Nb k (one ∷ [])) l.up.delivered l.up.delivered refl (λ k. refl);
        ue_delivered = same_grows (λ k. ups Ue k (one ∷ [])) l.down.delivered l.down.delivered refl (λ k. refl);
        nb_submitted = refl;
        ue_submitted = same_grows (λ k. loopeds k (one ∷ [])) l.up.submitted l.up.submitted refl (λ k. refl);
        nb_failed =
            one_marked (λ k. gives_up Nb k (one ∷ [])) l.down.failed lcid (any_one (lcid == lcid) (is_eq lcid))
            (λ k apart. any_none (lcid == k) (is_apart lcid k apart));
        ue_failed = same_marked (λ k. gives_up Ue k (one ∷ [])) l.up.failed l.up.failed refl (λ k. refl);
        flown_is = refl;
        none_of_run = refl;
      };
    }

ue_fail : (lcid sn : ℕ) (l : Link) → Adds [] l (says (records.Of Ue (events.Fail lcid sn)) (fails Ue lcid l))
ue_fail lcid sn l =
    let one = records.Of Ue (events.Fail lcid sn) in
    record {
      more = one ∷ [];
      out_is = refl;
      ttis_is = refl;
      told = record {
        nb_delivered = same_grows (λ k. ups Nb k (one ∷ [])) l.up.delivered l.up.delivered refl (λ k. refl);
        ue_delivered = same_grows (λ k. ups Ue k (one ∷ [])) l.down.delivered l.down.delivered refl (λ k. refl);
        nb_submitted = refl;
        ue_submitted = same_grows (λ k. loopeds k (one ∷ [])) l.up.submitted l.up.submitted refl (λ k. refl);
        nb_failed = same_marked (λ k. gives_up Nb k (one ∷ [])) l.down.failed l.down.failed refl (λ k. refl);
        ue_failed =
            one_marked (λ k. gives_up Ue k (one ∷ [])) l.up.failed lcid (any_one (lcid == lcid) (is_eq lcid))
            (λ k apart. any_none (lcid == k) (is_apart lcid k apart));
        flown_is = refl;
        none_of_run = refl;
      };
    }

fail_adds : (side : Side) (lcid sn : ℕ) (l : Link) → Adds [] l (tells side (events.Fail lcid sn) l)
fail_adds Nb lcid sn l = nb_fail lcid sn l
fail_adds Ue lcid sn l = ue_fail lcid sn l

tells_adds : (side : Side) (e : Event) (l : Link) → Adds [] l (tells side e l)
tells_adds side (events.Up lcid octets) l = up_adds side lcid octets l
tells_adds side (events.Fail lcid sn) l = fail_adds side lcid sn l
tells_adds side (events.Take lcid count len) l =
    still_tells side (events.Take lcid count len) l l refl (λ s k. refl) (λ s k. refl)
tells_adds side (events.Report lcid fms bitmap) l =
    still_tells side (events.Report lcid fms bitmap) l l refl (λ s k. refl) (λ s k. refl)
tells_adds side (events.Send lcid how sn) l =
    still_tells side (events.Send lcid how sn) l l refl (λ s k. refl) (λ s k. refl)
tells_adds side (events.Wait lcid why) l = still_tells side (events.Wait lcid why) l l refl (λ s k. refl) (λ s k. refl)
tells_adds side (events.Start lcid clock) l =
    still_tells side (events.Start lcid clock) l l refl (λ s k. refl) (λ s k. refl)
tells_adds side (events.Stop lcid clock) l =
    still_tells side (events.Stop lcid clock) l l refl (λ s k. refl) (λ s k. refl)
tells_adds side (events.Expired lcid clock) l =
    still_tells side (events.Expired lcid clock) l l refl (λ s k. refl) (λ s k. refl)
tells_adds side (events.Drop lcid why) l = still_tells side (events.Drop lcid why) l l refl (λ s k. refl) (λ s k. refl)
tells_adds side (events.Integrity lcid found wanted) l =
    still_tells side (events.Integrity lcid found wanted) l l refl (λ s k. refl) (λ s k. refl)
tells_adds side (events.BadMac fault) l = still_tells side (events.BadMac fault) l l refl (λ s k. refl) (λ s k. refl)
tells_adds side (events.BadRlc lcid fault) l =
    still_tells side (events.BadRlc lcid fault) l l refl (λ s k. refl) (λ s k. refl)
tells_adds side (events.BadPdcp lcid fault) l =
    still_tells side (events.BadPdcp lcid fault) l l refl (λ s k. refl) (λ s k. refl)
tells_adds side (events.Discard lcid len) l =
    still_tells side (events.Discard lcid len) l l refl (λ s k. refl) (λ s k. refl)

-- ---- all events

pub tells_all_adds : (side : Side) (es : List Event) (l : Link) → Adds [] l (tells_all side es l)
tells_all_adds side [] l = stays l l refl
tells_all_adds side (e ∷ es) l =
    adds_then [] [] l (tells side e l) (tells_all side es (tells side e l)) (tells_adds side e l)
    (tells_all_adds side es (tells side e l))

-- those of an end that went on
pub end_tells : (side : Side) (e : End) (es : List Event) (l : Link) → Adds [] l (tells_all side es (with_end side e l))
end_tells side e es l =
    adds_then [] [] l (with_end side e l) (tells_all side es (with_end side e l)) (end_stays side e l)
    (tells_all_adds side es (with_end side e l))
