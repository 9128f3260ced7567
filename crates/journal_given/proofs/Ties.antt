-- The accounts of flows are those that are kept where it is told whether anything may be taken.
use Rattle.std.proofs.Common.{◌≡◌, ◌==◌, Bool, true, false, List, [], ◌∷◌, ◌++◌, length, Option, Some}
use Rattle.std.proofs.Common.{None, refl, ap, sym, ◌∙◌, arith, if◌then◌else◌}
use Rattle.std.proofs.lemmas.Bool.{eq-eqb, ne_eqb}
use Rattle.std.proofs.lemmas.List.{append_assoc, length-append}
use Rattle.l2_types.specs.declared.side.Side.{Side}
use Rattle.bearer_types.specs.declared.event.Event.{Event}
use Rattle.bearer_types.specs.declared.event.Event.TheVariants as events
use Rattle.air_record.specs.declared.record.Record.{Record}
use Rattle.air_record.specs.declared.record.Record.TheVariants as records
use Rattle.air_text.specs.Groups.{Group}
use Rattle.promises.specs.Records.{is_got}
use Rattle.bearer_types.specs.Sides.{sender_of}
use Rattle.journal_flows.specs.Gathering.{MayTake}
use Rattle.journal_flows.specs.Accounts.{Keeping, after_line as line_kept, after_record as record_kept}
use Rattle.journal_flows.specs.Accounts.{after_group as group_kept, after_records as records_kept}
use Rattle.journal_flows.specs.Accounts.{kept_within, all_kept}
use Rattle.air_record.specs.declared.submission.Submission.{Submission}
use Rattle.air_record.specs.Submissions.{unrefused}
use Rattle.journal_given.specs.Supplies.{Keeper, histories, accounts}
use Rattle.journal_given.specs.Giving.{Giving, each_from, landed_on, may_take, submits_own}
use Rattle.journal_given.specs.Giving.{with_submitted, line_submitted, settled, happens, tells, with_kept, after_record}
use Rattle.journal_given.specs.Giving.{after_line, hands_on, after_group, after_records, given_within, all_given}
use Rattle.journal_given.specs.Giving.{group_at, behind_records, before_record, may_take_in, may_take_by}
use Rattle.journal_given.specs.Laws.{FlowsAreTied}
use Rattle.journal_given.proofs.Images.{within_image, given_image}

-- ---- a step changes no account

happens_keeps : {T : Type 0} (k : Keeper T) (side : Side) (event : Event) (g : Giving T)
    → (happens k side event g).kept ≡ g.kept
happens_keeps k side (events.Take lcid count len) g = refl
happens_keeps k side (events.Report lcid fms bitmap) g = refl
happens_keeps k side (events.Discard lcid len) g = refl
happens_keeps k side event g = refl

tells_keeps : {T : Type 0} (k : Keeper T) (one : Record) (g : Giving T) → (tells k one g).kept ≡ g.kept
tells_keeps k (records.Of side event) g = happens_keeps k side event g
tells_keeps k (records.Looped lcid octets) g = refl
tells_keeps k (records.Air direction what heard) g = by (is_got what)
  where
    by : (b : Bool) → (if b then record g {
      bearers = each_from (landed_on k (sender_of direction) g.kept) 0 g.bearers;
    } else g).kept ≡ g.kept
    by true = refl
    by false = refl
tells_keeps k one g = refl

pub own_keeps : {T : Type 0} (k : Keeper T) (o : Option Submission) (g : Giving T)
    → (submits_own k o g).kept ≡ g.kept
own_keeps k None g = refl
own_keeps k (Some s) g = refl

pub settled_keeps : {T : Type 0} (k : Keeper T) (one : Record) (g : Giving T) → (settled k one g).kept ≡ g.kept
settled_keeps k one g =
    own_keeps k (unrefused one g.submitted) (with_submitted (unrefused one g.submitted) g)

pub record_keeps : {T : Type 0} (k : Keeper T) (one : Record) (g : Giving T)
    → (after_record k one g).kept ≡ record_kept (may_take k one (settled k one g)) one g.kept
record_keeps k one g =
    let s = settled k one g in
    tells_keeps k one (with_kept (record_kept (may_take k one (settled k one g)) one (settled k one g).kept) s)
    ∙ ap (λ (j : Keeping). record_kept (may_take k one (settled k one g)) one j) (settled_keeps k one g)

hand_keeps : {T : Type 0} (k : Keeper T) (b : Bool) (g : Giving T) → (hands_on k b g).kept ≡ g.kept
hand_keeps k true g = refl
hand_keeps k false g = refl

pub group_keeps : {T : Type 0} (k : Keeper T) (g : Giving T) → (after_group k g).kept ≡ group_kept g.kept
group_keeps k g =
    hand_keeps k g.hands_over (line_submitted k (with_kept (group_kept g.kept) g))
    ∙ own_keeps k g.submitted (with_kept (group_kept g.kept) g)

-- ---- where it is told so at each record of a group, and of a journal

abbrev SaysWithin : {T : Type 0} → Keeper T → MayTake → Group → List Group → Type 0
SaysWithin k may now past = (before : List Record) (one : Record)
    → may past before one ≡ may_take k one (before_record k one before (after_line k now.line (all_given k past)))

abbrev Says : {T : Type 0} → Keeper T → MayTake → List Group → Type 0
Says k may [] = Unit {0}
Says k may (now ∷ past) = SaysWithin k may now past × Says k may past

records_tied : {T : Type 0} (k : Keeper T) (may : MayTake) (now : Group) (past : List Group) → SaysWithin k may now past
    → (before told : List Record) (g : Giving T)
    → g ≡ behind_records k before (after_line k now.line (all_given k past))
    → (after_records k told g).kept ≡ records_kept may past before told g.kept
records_tied k may now past says before [] g is = refl
records_tied k may now past says before (one ∷ told) g is =
    records_tied k may now past says (one ∷ before) told (after_record k one g) (ap (after_record k one) is)
    ∙ ap (records_kept may past (one ∷ before) told) (record_keeps k one g
    ∙ ap (λ (more : Bool). record_kept more one g.kept)
    (ap (λ (x : Giving _). may_take k one (settled k one x)) is ∙ sym (says before one)))

within_tied : {T : Type 0} (k : Keeper T) (may : MayTake) (now : Group) (past : List Group) → SaysWithin k may now past
    → (all_given k past).kept ≡ all_kept may past
    → (given_within k now (all_given k past)).kept ≡ kept_within may now past (all_kept may past)
within_tied k may now past says same =
    records_tied k may now past says [] now.events (after_line k now.line (all_given k past)) refl
    ∙ ap (λ (j : Keeping). records_kept may past [] now.events (line_kept now.line j)) same

all_tied : {T : Type 0} (k : Keeper T) (may : MayTake) (past : List Group) → Says k may past
    → (all_given k past).kept ≡ all_kept may past
all_tied k may [] says = refl
all_tied k may (now ∷ past) says =
    group_keeps k (given_within k now (all_given k past))
    ∙ ap (λ (j : Keeping). group_kept j) (within_tied k may now past says.0 (all_tied k may past says.1))

-- ---- by a journal it is

group_there : (newer : List Group) (now : Group) (past : List Group)
    → group_at (length past) (newer ++ now ∷ past) ≡ Some now
group_there [] now past =
    let same : (length past == length past) ≡ true = eq-eqb (length past) (length past) refl in
    ap (λ (b : Bool). if b then Some now else group_at (length past) past) same
group_there (g ∷ newer) now past =
    let more = length-append newer (now ∷ past) in
    let other : (length (newer ++ now ∷ past) == length past) ≡ false =
    ne_eqb (length (newer ++ now ∷ past)) (length past) (λ e. omega (arith, e, more)) in
    ap (λ (b : Bool). if b then Some g else group_at (length past) (newer ++ now ∷ past)) other
    ∙ group_there newer now past

says_behind : {T : Type 0} (k : Keeper T) (journal newer past : List Group) → journal ≡ newer ++ past
    → Says k (may_take_by k journal) past
says_behind k journal newer [] is = tt
says_behind k journal newer (now ∷ past) is = (
  λ before one. ap (λ (o : Option Group). may_take_in k o past before one)
      (ap (group_at (length past)) is ∙ group_there newer now past),
  says_behind k journal (newer ++ now ∷ []) past (is ∙ sym (append_assoc newer (now ∷ []) past)),
)

by_journal : {T : Type 0} (k : Keeper T) (past : List Group) → Says k (may_take_by k past) past
by_journal k past = says_behind k past [] past refl

pub flows_are_tied : FlowsAreTied
flows_are_tied past = record {
  behind =
      ap (λ (g : Giving _). g.kept) (sym (given_image past))
      ∙ all_tied histories (may_take_by histories past) past (by_journal histories past);
  within = λ now.
      let says = by_journal histories (now ∷ past) in
      let may = may_take_by histories (now ∷ past) in
      ap (λ (g : Giving _). (given_within accounts now g).kept) (sym (given_image past))
      ∙ ap (λ (g : Giving _). g.kept) (sym (within_image now (all_given histories past)))
      ∙ within_tied histories (may_take_by histories (now ∷ past)) now past says.0
      (all_tied histories (may_take_by histories (now ∷ past)) past says.1);
}
