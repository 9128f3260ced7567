-- Whether RLC may take anything as t-PollRetransmit expires is told by a journal as it is gathered,
-- and so the accounts beside what PDCP gives RLC are those of the journal.
use Rattle.std.proofs.Common.{◌≡◌, ◌==◌, Bool, true, false, List, [], ◌∷◌, ◌++◌, length, Option, Some, refl}
use Rattle.std.proofs.Common.{ap, sym, ◌∙◌, arith, if◌then◌else◌}
use Rattle.std.proofs.lemmas.Bool.{eq-eqb, ne_eqb}
use Rattle.std.proofs.lemmas.List.{append_assoc, length-append}
use Rattle.air_record.specs.declared.record.Record.{Record}
use Rattle.air_text.specs.Groups.{Group}
use Rattle.journal_takes.specs.FlowTakes.{FlowTakes}
use Rattle.journal_flows.specs.Gathering.{MayTake}
use Rattle.journal_flows.specs.Accounts.{Keeping, after_line as line_kept, after_record as record_kept}
use Rattle.journal_flows.specs.Accounts.{after_group as group_kept, after_records as records_kept}
use Rattle.journal_flows.specs.Accounts.{kept_within, all_kept}
use Rattle.journal_given.specs.Supplies.{Keeper, histories, accounts}
use Rattle.journal_given.specs.Giving.{Giving, may_take, settled, after_record, after_line, after_records}
use Rattle.journal_given.specs.Giving.{given_within, all_given, group_at, behind_records, before_record, may_take_in}
use Rattle.journal_given.specs.Giving.{may_take_by}
use Rattle.journal_given.proofs.Images.{giving_image, settled_image, may_image, within_image, given_image}
use Rattle.journal_given.proofs.Ties.{record_keeps, group_keeps}
use Rattle.journal_check.specs.Soundness.{may_take as by_journal}

-- ---- what is gathered behind records, of which the latest stands first

abbrev turned : List Record → List Record
turned [] = []
turned (one ∷ before) = turned before ++ one ∷ []

last_after : {T : Type 0} (k : Keeper T) (told : List Record) (one : Record) (g : Giving T)
    → after_records k (told ++ one ∷ []) g ≡ after_record k one (after_records k told g)
last_after k [] one g = refl
last_after k (t ∷ told) one g = last_after k told one (after_record k t g)

behind_turned : {T : Type 0} (k : Keeper T) (before : List Record) (g : Giving T)
    → behind_records k before g ≡ after_records k (turned before) g
behind_turned k [] g = refl
behind_turned k (one ∷ before) g =
    ap (after_record k one) (behind_turned k before g) ∙ sym (last_after k (turned before) one g)

-- behind records of the group that runs
abbrev pub begun : Group → List Group → Giving FlowTakes
begun now past = after_line accounts now.line (all_given accounts past)

abbrev with_events : List Record → Group → Group
with_events told now = record now { events = told }

begun_image : (before : List Record) (now : Group) (past : List Group)
    → giving_image (behind_records histories before (after_line histories now.line (all_given histories past)))
    ≡ behind_records accounts before (begun now past)
begun_image before now past =
    ap (λ (g : Giving _). giving_image g)
    (behind_turned histories before (after_line histories now.line (all_given histories past)))
    ∙ within_image (with_events (turned before) now) (all_given histories past)
    ∙ ap (λ (g : Giving FlowTakes). given_within accounts (with_events (turned before) now) g) (given_image past)
    ∙ sym (behind_turned accounts before (begun now past))

-- ---- where it is told so at each record of a group, and of a journal

abbrev pub SaysIn : MayTake → Group → List Group → Type 0
SaysIn may now past = (before : List Record) (one : Record)
    → may past before one ≡ may_take accounts one (before_record accounts one before (begun now past))

abbrev pub Says : MayTake → List Group → Type 0
Says may [] = Unit {0}
Says may (now ∷ past) = SaysIn may now past × Says may past

-- by a journal it is

group_there : (newer : List Group) (now : Group) (past : List Group)
    → group_at (length past) (newer ++ now ∷ past) ≡ Some now
group_there [] now past =
    let same : (length past == length past) ≡ true = eq-eqb (length past) (length past) refl in
    ap (λ (b : Bool). if b then Some now else group_at (length past) past) same
group_there (g ∷ newer) now past =
    let more = length-append newer (now ∷ past) in
    let other : (length (newer ++ now ∷ past) == length past) ≡ false =
    ne_eqb (length (newer ++ now ∷ past)) (length past) (λ e. omega (arith, e, more)) in
    ap (λ (b : Bool). if b then Some g else group_at (length past) (newer ++ now ∷ past)) other
    ∙ group_there newer now past

says_behind : (journal newer past : List Group) → journal ≡ newer ++ past → Says (may_take_by histories journal) past
says_behind journal newer [] is = tt
says_behind journal newer (now ∷ past) is = (
  λ before one. ap (λ (o : Option Group). may_take_in histories o past before one)
      (ap (group_at (length past)) is ∙ group_there newer now past)
      ∙ may_image one (before_record histories one before (after_line histories now.line (all_given histories past)))
      ∙ ap (may_take accounts one)
      (settled_image one (behind_records histories before (after_line histories now.line (all_given histories past)))
      ∙ ap (settled accounts one) (begun_image before now past)),
  says_behind journal (newer ++ now ∷ []) past (is ∙ sym (append_assoc newer (now ∷ []) past)),
)

pub says : (past : List Group) → Says (by_journal past) past
says past = says_behind past [] past refl

-- ---- the accounts

-- a record behind others
pub kept_more : (may : MayTake) (now : Group) (past : List Group) (before : List Record) (one : Record)
    (g : Giving FlowTakes) → SaysIn may now past → g ≡ behind_records accounts before (begun now past)
    → (after_record accounts one g).kept ≡ record_kept (may past before one) one g.kept
kept_more may now past before one g says is =
    record_keeps accounts one g
    ∙ ap (λ (more : Bool). record_kept more one g.kept)
    (ap (λ (x : Giving FlowTakes). may_take accounts one (settled accounts one x)) is ∙ sym (says before one))

records_kept_so : (may : MayTake) (now : Group) (past : List Group) → SaysIn may now past → (before told : List Record)
    (g : Giving FlowTakes) → g ≡ behind_records accounts before (begun now past)
    → (after_records accounts told g).kept ≡ records_kept may past before told g.kept
records_kept_so may now past says before [] g is = refl
records_kept_so may now past says before (one ∷ told) g is =
    records_kept_so may now past says (one ∷ before) told (after_record accounts one g)
    (ap (after_record accounts one) is)
    ∙ ap (λ (k : Keeping). records_kept may past (one ∷ before) told k) (kept_more may now past before one g says is)

inside_by : (may : MayTake) (now : Group) (past : List Group) → SaysIn may now past
    → (all_given accounts past).kept ≡ all_kept may past
    → (given_within accounts now (all_given accounts past)).kept ≡ kept_within may now past (all_kept may past)
inside_by may now past says same =
    records_kept_so may now past says [] now.events (begun now past) refl
    ∙ ap (λ (k : Keeping). records_kept may past [] now.events (line_kept now.line k)) same

pub kept_behind : (may : MayTake) (past : List Group) → Says may past
    → (all_given accounts past).kept ≡ all_kept may past
kept_behind may [] says = refl
kept_behind may (now ∷ past) says =
    group_keeps accounts (given_within accounts now (all_given accounts past))
    ∙ ap (λ (k : Keeping). group_kept k) (inside_by may now past says.0 (kept_behind may past says.1))

pub kept_inside : (may : MayTake) (now : Group) (past : List Group) → Says may (now ∷ past)
    → (given_within accounts now (all_given accounts past)).kept ≡ kept_within may now past (all_kept may past)
kept_inside may now past says = inside_by may now past says.0 (kept_behind may past says.1)
