-- Record by record, the verdict is exact.
use Rattle.std.proofs.Common.{◌≡◌, ℕ, ◌+◌, ◌-◌, ◌*◌, ◌^◌, ◌%◌, ◌==◌, Bool, true, false, List, []}
use Rattle.std.proofs.Common.{◌∷◌, length, Option, Some, None, inl, inr, ◌↔◌, refl, ap, sym, ◌∙◌, arith, subst}
use Rattle.std.proofs.Common.{if◌then◌else◌}
use Rattle.std.specs.Prelude.{MatchOption, not, ◌||◌, ◌&&◌, slice_index, option_map}
use Rattle.std.proofs.lemmas.Bool.{and_parts, and_from, eqb-true, eq-eqb, ne_eqb, ltb-true, lt-ltb}
use Rattle.std.proofs.lemmas.List.{length-drop}
use Rattle.pdcp_pdu.specs.Grammar.{IsBitmap}
use Rattle.l2_types.specs.declared.side.Side.{Side}
use Rattle.l2_types.specs.declared.side.Side.TheVariants.{Nb, Ue}
use Rattle.bearer_types.specs.declared.event.Event.{Event}
use Rattle.bearer_types.specs.declared.event.Event.TheVariants as events
use Rattle.bearer_types.specs.Sides.{sender_of}
use Rattle.air_record.specs.declared.line.Line.{Line}
use Rattle.air_record.specs.declared.record.Record.{Record}
use Rattle.air_record.specs.declared.record.Record.TheVariants as records
use Rattle.air_text.specs.Groups.{Group}
use Rattle.promises.specs.Records.{is_got}
use Rattle.journal_lives.specs.CountsCome.{CountsCome}
use Rattle.journal_flows.specs.Accounts.{after_record as record_kept, after_group as group_kept}
use Rattle.journal_takes.specs.declared.take.Take.TheVariants.{Report, Pdu}
use Rattle.journal_takes.specs.TakeEvents.{next_new, kept, sdu_of}
use Rattle.journal_takes.specs.FlowTakes.{next_take, sdu_kept}
use Rattle.journal_takes.proofs.Offers.{next_at}
use Rattle.journal_takes.proofs.TakesTold.{takes_are_true}
use Rattle.air_record.specs.declared.submission.Submission.{Submission}
use Rattle.air_record.specs.Submissions.{unrefused}
use Rattle.journal_given.specs.Supplies.{Supply, Bearer, History, account, histories, accounts, is_pdu, has_length}
use Rattle.journal_given.specs.Supplies.{is_take, is_report, marked_from, is_same_list, is_short, says}
use Rattle.journal_given.specs.Supplies.{is_right_report, has_waiting}
use Rattle.journal_given.specs.Giving.{Giving, side_of, bearer_at, each_from, landed_on, may_take, take_right}
use Rattle.journal_given.specs.Giving.{discard_right}
use Rattle.journal_given.specs.Giving.{report_right, submits_own, with_submitted, line_submitted, settled}
use Rattle.journal_given.specs.Giving.{happens, with_kept, record_told, after_record, after_line, hands_on}
use Rattle.journal_given.specs.Giving.{after_group, after_records, given_within, all_given}
use Rattle.journal_given.specs.RightTakes.{TakeIsRight, IsSaid, ReportIsRight, DiscardIsRight, OnBearer, IsRightEvent}
use Rattle.journal_given.specs.RightTakes.{IsRightRecord}
use Rattle.journal_given.specs.RightTakes.{AreRightRecords, TakesAreRight}
use Rattle.journal_given.specs.Laws.{takes_by, takes_at, AreTakesOf, TakesAreTold, VerdictIsExact}
use Rattle.journal_given.proofs.Images.{giving_image, slot_image, at_image, within_image, given_image}
use Rattle.journal_given.proofs.Sounds.{IsSound, AreSound, AllSound, pdu_is, report_is, takeable, at_sound}
use Rattle.journal_given.proofs.Sounds.{settled_sound, record_sound}
use Rattle.journal_given.proofs.Sounds.{line_sound, records_sound, given_sound}

-- ---- a take

length_is : (len : ℕ) (o : Option (List ℕ)) → has_length len o ≡ true
    → MatchOption o ⊥ (λ sdu. length sdu ≡ len)
length_is len None e = absurd cc
length_is len (Some sdu) e = eqb-true (length sdu) len e

has_so : (len : ℕ) (o : Option (List ℕ)) → MatchOption o ⊥ (λ sdu. length sdu ≡ len) → has_length len o ≡ true
has_so len None h = absurd h
has_so len (Some sdu) h = eq-eqb (length sdu) len h

-- the SDU of the COUNT that is next is kept
sdu_same : (s : Supply History) → IsSound s → (count : ℕ) → next_take (account s.takes) ≡ Some (Pdu count)
    → sdu_kept count (account s.takes) ≡ sdu_of s.takes.first s.takes.events count
sdu_same s h count is =
    let told = takes_are_true s.takes.first s.takes.bits s.takes.events h.is_one in
    told.sdus count (omega (arith, told.from_at, next_at (account s.takes) count is))

take_sound : (count : Option ℕ) (len : ℕ) (s : Supply History) → IsSound s → is_take histories count len s ≡ true
    → TakeIsRight count len s
take_sound None len s h e = absurd cc
take_sound (Some count) len s h e =
    let both = and_parts (is_pdu count (next_take (account s.takes)))
    (has_length len (sdu_kept count (account s.takes))) e in
    let is = pdu_is count (next_take (account s.takes)) both.0 in
    record {
      own = count;
      count_is = refl;
      next = takeable s.takes h.is_one (Some (Pdu count)) is;
      len_is = length_is len (sdu_of s.takes.first s.takes.events count)
          (ap (has_length len) (sym (sdu_same s h count is)) ∙ both.1);
    }

is_pdu_so : (count : ℕ) → is_pdu count (Some (Pdu count)) ≡ true
is_pdu_so count = eq-eqb count count refl

take_complete : (count : Option ℕ) (len : ℕ) (s : Supply History) → IsSound s → TakeIsRight count len s
    → is_take histories count len s ≡ true
take_complete count len s h r =
    let told = takes_are_true s.takes.first s.takes.bits s.takes.events h.is_one in
    let is : Some (Pdu r.own) ≡ next_take (account s.takes) = told.only (Some (Pdu r.own)) r.next in
    ap (λ (c : Option ℕ). is_take histories c len s) r.count_is
    ∙ and_from (is_pdu r.own (next_take (account s.takes))) (has_length len (sdu_kept r.own (account s.takes)))
    (ap (is_pdu r.own) (sym is) ∙ is_pdu_so r.own)
    (ap (has_length len) (sdu_same s h r.own (sym is))
    ∙ has_so len (sdu_of s.takes.first s.takes.events r.own) r.len_is)

-- ---- a report

same_sound : (xs ys : List ℕ) → is_same_list xs ys ≡ true → xs ≡ ys
same_sound [] [] e = refl
same_sound [] (y ∷ ys) e = absurd (omega (arith, eqb-true (length (y ∷ ys)) 0 e))
same_sound (x ∷ xs) [] e = absurd cc
same_sound (x ∷ xs) (y ∷ ys) e =
    let both = and_parts (y == x) (is_same_list xs ys) e in
    ap (λ (n : ℕ). n ∷ xs) (sym (eqb-true y x both.0)) ∙ ap (λ (zs : List ℕ). y ∷ zs) (same_sound xs ys both.1)

same_refl : (xs : List ℕ) → is_same_list xs xs ≡ true
same_refl [] = refl
same_refl (x ∷ xs) = and_from (x == x) (is_same_list xs xs) (eq-eqb x x refl) (same_refl xs)

not_both : (b : Bool) → not b ≡ true → b ≡ true → ⊥
not_both true h k = absurd cc
not_both false h k = absurd cc

some_first : (octet : ℕ) (octets : List ℕ) → (length (octet ∷ octets) == 0) ≡ false
some_first octet octets = ne_eqb (length (octet ∷ octets)) 0 (λ e. omega (arith, e))

short_sound : (bitmap : List ℕ) → is_short bitmap ≡ true → IsBitmap bitmap
short_sound [] e = inl refl
short_sound (octet ∷ octets) e =
    let rest : not (slice_index (octet ∷ octets) (length (octet ∷ octets) - 1) == 0) ≡ true =
    ap (λ (b : Bool). b || not (slice_index (octet ∷ octets) (length (octet ∷ octets) - 1) == 0))
    (sym (some_first octet octets)) ∙ e in
    inr (λ is. not_both (slice_index (octet ∷ octets) (length (octet ∷ octets) - 1) == 0) rest
    (eq-eqb (slice_index (octet ∷ octets) (length (octet ∷ octets) - 1)) 0 is))

short_complete : (bitmap : List ℕ) → IsBitmap bitmap → is_short bitmap ≡ true
short_complete [] h = refl
short_complete (octet ∷ octets) (inl e) = absurd cc
short_complete (octet ∷ octets) (inr h) =
    ap (λ (b : Bool). b || not (slice_index (octet ∷ octets) (length (octet ∷ octets) - 1) == 0))
    (some_first octet octets)
    ∙ ap (λ (b : Bool). not b) (ne_eqb (slice_index (octet ∷ octets) (length (octet ∷ octets) - 1)) 0 h)

said_sound : (fms : ℕ) (bitmap : List ℕ) (bits : ℕ) (come : CountsCome) → says fms bitmap bits come ≡ true
    → IsSaid fms bitmap bits come
said_sound fms bitmap bits come e =
    let first = and_parts (fms == come.next % 2 ^ bits)
    (is_same_list (marked_from bitmap (come.next + 1) 0 (8 * length bitmap)) come.beyond && is_short bitmap) e in
    let rest = and_parts (is_same_list (marked_from bitmap (come.next + 1) 0 (8 * length bitmap)) come.beyond)
    (is_short bitmap) first.1 in
    record {
      fms_is = eqb-true fms (come.next % 2 ^ bits) first.0;
      marks_are = same_sound (marked_from bitmap (come.next + 1) 0 (8 * length bitmap)) come.beyond rest.0;
      short = short_sound bitmap rest.1;
    }

said_complete : (fms : ℕ) (bitmap : List ℕ) (bits : ℕ) (come : CountsCome) → IsSaid fms bitmap bits come
    → says fms bitmap bits come ≡ true
said_complete fms bitmap bits come h =
    and_from (fms == come.next % 2 ^ bits)
    (is_same_list (marked_from bitmap (come.next + 1) 0 (8 * length bitmap)) come.beyond && is_short bitmap)
    (eq-eqb fms (come.next % 2 ^ bits) h.fms_is)
    (and_from (is_same_list (marked_from bitmap (come.next + 1) 0 (8 * length bitmap)) come.beyond) (is_short bitmap)
    (ap (λ (xs : List ℕ). is_same_list xs come.beyond) h.marks_are ∙ same_refl come.beyond)
    (short_complete bitmap h.short))

report_sound : (fms : ℕ) (bitmap : List ℕ) (s : Supply History) → IsSound s
    → is_right_report histories fms bitmap s ≡ true → ReportIsRight fms bitmap s
report_sound fms bitmap s h e =
    let both = and_parts (is_report (next_take (account s.takes))) (says fms bitmap s.bits s.said) e in
    record {
      next = takeable s.takes h.is_one (Some Report) (report_is (next_take (account s.takes)) both.0);
      said = said_sound fms bitmap s.bits s.said both.1;
    }

report_complete : (fms : ℕ) (bitmap : List ℕ) (s : Supply History) → IsSound s → ReportIsRight fms bitmap s
    → is_right_report histories fms bitmap s ≡ true
report_complete fms bitmap s h r =
    let told = takes_are_true s.takes.first s.takes.bits s.takes.events h.is_one in
    let is : Some Report ≡ next_take (account s.takes) = told.only (Some Report) r.next in
    and_from (is_report (next_take (account s.takes))) (says fms bitmap s.bits s.said) (ap is_report (sym is))
    (said_complete fms bitmap s.bits s.said r.said)

-- ---- a discard

waiting_size : (s : Supply History) → IsSound s
    → length (account s.takes).waiting
    ≡ length (kept s.takes.first s.takes.events)
    - (next_new s.takes.first s.takes.events - s.takes.first)
waiting_size s h =
    let told = takes_are_true s.takes.first s.takes.bits s.takes.events h.is_one in
    ap (λ (l : List (List ℕ)). length l) told.waiting
    ∙ length-drop ((account s.takes).next - s.takes.first) (kept s.takes.first s.takes.events)
    ∙ ap (λ (n : ℕ). length (kept s.takes.first s.takes.events) - (n - s.takes.first)) told.next

discard_sound : (s : Supply History) → IsSound s → has_waiting (account s.takes) ≡ true → DiscardIsRight s
discard_sound s h e =
    record { waits = omega (arith, waiting_size s h, ltb-true 0 (length (account s.takes).waiting) e) }

discard_complete : (s : Supply History) → IsSound s → DiscardIsRight s → has_waiting (account s.takes) ≡ true
discard_complete s h r = lt-ltb 0 (length (account s.takes).waiting) (omega (arith, waiting_size s h, r.waits))

-- ---- on a bearer

side_sound : (side : Side) (b : Bearer History) → AreSound (Some b) → IsSound (side_of side b)
side_sound Nb b h = h.0
side_sound Ue b h = h.1

take_on : (side : Side) (count : Option ℕ) (len : ℕ) (o : Option (Bearer History)) → AreSound o
    → take_right histories side count len o ≡ true ↔ OnBearer o side (TakeIsRight count len)
take_on side count len None h = (λ e. tt, λ e. refl)
take_on side count len (Some b) h = (
  take_sound count len (side_of side b) (side_sound side b h),
  take_complete count len (side_of side b) (side_sound side b h),
)

report_on : (side : Side) (fms : ℕ) (bitmap : List ℕ) (o : Option (Bearer History)) → AreSound o
    → report_right histories side fms bitmap o ≡ true ↔ OnBearer o side (ReportIsRight fms bitmap)
report_on side fms bitmap None h = (λ e. tt, λ e. refl)
report_on side fms bitmap (Some b) h = (
  report_sound fms bitmap (side_of side b) (side_sound side b h),
  report_complete fms bitmap (side_of side b) (side_sound side b h),
)

discard_on : (side : Side) (o : Option (Bearer History)) → AreSound o
    → discard_right histories side o ≡ true ↔ OnBearer o side DiscardIsRight
discard_on side None h = (λ e. tt, λ e. refl)
discard_on side (Some b) h = (
  discard_sound (side_of side b) (side_sound side b h),
  discard_complete (side_of side b) (side_sound side b h),
)

-- ---- a record

abbrev Judges : Bool → Bool → Type 0 → Type 0
Judges after before right = after ≡ true ↔ ((before ≡ true) × right)

with_test : (before test : Bool) (right : Type 0) → test ≡ true ↔ right → Judges (before && test) before right
with_test before test right t =
    (λ e. let both = and_parts before test e in (both.0, t.0 both.1), λ h. and_from before test h.0 (t.1 h.1))

with_none : (before : Bool) → Judges before before (Unit {0})
with_none before = (λ e. (e, tt), λ h. h.0)

event_exact : (side : Side) (event : Event) (g : Giving History) → AllSound g.bearers
    → Judges (happens histories side event g).right g.right (IsRightEvent side event g)
event_exact side (events.Take lcid count len) g h =
    with_test g.right (take_right histories side count len (bearer_at lcid g.bearers))
    (OnBearer (bearer_at lcid g.bearers) side (TakeIsRight count len))
    (take_on side count len (bearer_at lcid g.bearers) (at_sound lcid g.bearers h))
event_exact side (events.Report lcid fms bitmap) g h =
    with_test g.right (report_right histories side fms bitmap (bearer_at lcid g.bearers))
    (OnBearer (bearer_at lcid g.bearers) side (ReportIsRight fms bitmap))
    (report_on side fms bitmap (bearer_at lcid g.bearers) (at_sound lcid g.bearers h))
event_exact side (events.Discard lcid len) g h =
    with_test g.right (discard_right histories side (bearer_at lcid g.bearers))
    (OnBearer (bearer_at lcid g.bearers) side DiscardIsRight)
    (discard_on side (bearer_at lcid g.bearers) (at_sound lcid g.bearers h))
event_exact side event g h = with_none g.right

-- the accounts of flows aren't looked at
same_event : (side : Side) (event : Event) (g h : Giving History) → g.bearers ≡ h.bearers
    → IsRightEvent side event g → IsRightEvent side event h
same_event side (events.Take lcid count len) g h is r =
    subst (λ bs. OnBearer (bearer_at lcid bs) side (TakeIsRight count len)) is r
same_event side (events.Report lcid fms bitmap) g h is r =
    subst (λ bs. OnBearer (bearer_at lcid bs) side (ReportIsRight fms bitmap)) is r
same_event side (events.Discard lcid len) g h is r =
    subst (λ bs. OnBearer (bearer_at lcid bs) side DiscardIsRight) is r
same_event side event g h is r = tt

told_right : (one : Record) (g : Giving History) → AllSound g.bearers
    → Judges (record_told histories one g).right g.right (IsRightRecord one g)
told_right (records.Of side event) g h =
    let seen = with_kept (record_kept (may_take histories (records.Of side event) g) (records.Of side event) g.kept)
    g in
    let e = event_exact side event seen h in (
      λ a. ((e.0 a).0, same_event side event seen g refl (e.0 a).1),
      λ b. e.1 (b.0, same_event side event g seen refl b.1),
    )
told_right (records.Looped lcid octets) g h = with_none g.right
told_right (records.Air direction what heard) g h = by (is_got what)
    (with_kept (record_kept (may_take histories (records.Air direction what heard) g)
    (records.Air direction what heard) g.kept) g)
  where
    by : (b : Bool) (g : Giving History)
        → Judges (if b then record g {
          bearers = each_from (landed_on histories (sender_of direction) g.kept) 0 g.bearers;
        } else g).right g.right (Unit {0})
    by true g = with_none g.right
    by false g = with_none g.right
told_right one g h = with_none g.right

own_right : (o : Option Submission) (g : Giving History) → (submits_own histories o g).right ≡ g.right
own_right None g = refl
own_right (Some s) g = refl

settled_right : (one : Record) (g : Giving History) → (settled histories one g).right ≡ g.right
settled_right one g = own_right (unrefused one g.submitted) (with_submitted (unrefused one g.submitted) g)

record_exact : (one : Record) (g : Giving History) → AllSound g.bearers
    → Judges (after_record histories one g).right g.right (IsRightRecord one (settled histories one g))
record_exact one g h =
    let same = settled_right one g in
    let e = told_right one (settled histories one g) (settled_sound one g h) in
    (λ a. (sym same ∙ (e.0 a).0, (e.0 a).1), λ b. e.1 (same ∙ b.0, b.1))

records_exact : (told : List Record) (g : Giving History) → AllSound g.bearers
    → Judges (after_records histories told g).right g.right (AreRightRecords told g)
records_exact [] g h = with_none g.right
records_exact (one ∷ told) g h =
    let first = record_exact one g h in
    let rest = records_exact told (after_record histories one g) (record_sound one g h) in (
      λ e. let both = rest.0 e in let before = first.0 both.0 in (before.0, (before.1, both.1)),
      λ b. rest.1 (first.1 (b.0, b.1.0), b.1.1),
    )

-- ---- groups

line_right : (line : Line) (g : Giving History) → (after_line histories line g).right ≡ g.right
line_right line g = refl

hand_right : (b : Bool) (g : Giving History) → (hands_on histories b g).right ≡ g.right
hand_right true g = refl
hand_right false g = refl

group_right : (g : Giving History) → (after_group histories g).right ≡ g.right
group_right g =
    hand_right g.hands_over (line_submitted histories (with_kept (group_kept g.kept) g))
    ∙ own_right g.submitted (with_kept (group_kept g.kept) g)

told_exact : (past : List Group) → (all_given histories past).right ≡ true ↔ TakesAreRight past
told_exact [] = (λ e. tt, λ h. refl)
told_exact (now ∷ past) =
    let g = all_given histories past in
    let begun = after_line histories now.line (all_given histories past) in
    let rest = told_exact past in
    let here = records_exact now.events (after_line histories now.line (all_given histories past))
    (line_sound now.line (all_given histories past) (given_sound past)) in
    let same = group_right (given_within histories now (all_given histories past)) in (
      λ e. let both = here.0 (sym same ∙ e) in (both.1, rest.0 both.0),
      λ h. same ∙ here.1 (rest.1 h.1, h.0),
    )

pub verdict_is_exact : VerdictIsExact
verdict_is_exact past =
    let same : (all_given accounts past).right ≡ (all_given histories past).right =
    ap (λ (g : Giving _). g.right) (sym (given_image past)) in
    let told = told_exact past in
    (λ e. told.0 (sym same ∙ e), λ h. same ∙ told.1 h)

-- ---- takes

takes_image : (side : Side) (o : Option (Bearer History))
    → takes_by side (slot_image o) ≡ option_map account (takes_by side o)
takes_image side None = refl
takes_image Nb (Some b) = refl
takes_image Ue (Some b) = refl

kept_image : (side : Side) (lcid : ℕ) (g : Giving History)
    → takes_at side lcid (giving_image g) ≡ option_map account (takes_at side lcid g)
kept_image side lcid g = ap (takes_by side) (at_image lcid g.bearers) ∙ takes_image side (bearer_at lcid g.bearers)

takes_one : (side : Side) (o : Option (Bearer History)) → AreSound o → AreTakesOf (takes_by side o)
takes_one side None h = tt
takes_one Nb (Some b) h = h.0.is_one
takes_one Ue (Some b) h = h.1.is_one

pub takes_are_told : TakesAreTold
takes_are_told past side lcid = record {
  behind = record {
    account_is =
        ap (takes_at side lcid) (sym (given_image past)) ∙ kept_image side lcid (all_given histories past);
    takes = takes_one side (bearer_at lcid (all_given histories past).bearers)
        (at_sound lcid (all_given histories past).bearers (given_sound past));
  };
  within = λ now.
      let g = given_within histories now (all_given histories past) in
      record {
        account_is =
            ap (λ (x : Giving _). takes_at side lcid (given_within accounts now x)) (sym (given_image past))
            ∙ ap (takes_at side lcid) (sym (within_image now (all_given histories past)))
            ∙ kept_image side lcid (given_within histories now (all_given histories past));
        takes = takes_one side (bearer_at lcid (given_within histories now (all_given histories past)).bearers)
            (at_sound lcid (given_within histories now (all_given histories past)).bearers
            (records_sound now.events (after_line histories now.line (all_given histories past))
            (line_sound now.line (all_given histories past) (given_sound past))));
      };
}
