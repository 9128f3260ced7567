-- So it does behind the groups of a journal.
use Rattle.std.proofs.Common.{◌≡◌, ℕ, ◌≤◌, ◌==◌, Bool, true, false, List, [], ◌∷◌, ◌++◌, length, Option, Some}
use Rattle.std.proofs.Common.{None, refl, ap, sym, ◌∙◌, arith, if◌then◌else◌}
use Rattle.std.proofs.lemmas.Bool.{eq-eqb, ne_eqb}
use Rattle.std.proofs.lemmas.List.{append_assoc, length-append}
use Rattle.l2_types.specs.declared.side.Side.{Side}
use Rattle.l2_types.specs.declared.side.Side.TheVariants.{Nb, Ue}
use Rattle.bearer_types.specs.declared.event.Event.{Event}
use Rattle.bearer_types.specs.declared.event.Event.TheVariants as events
use Rattle.air_record.specs.declared.line.Line.{Line}
use Rattle.air_record.specs.declared.line.Line.TheVariants as lines
use Rattle.air_record.specs.declared.record.Arrived.TheVariants.{Got}
use Rattle.air_record.specs.declared.record.Record.{Record}
use Rattle.air_record.specs.declared.record.Record.TheVariants as records
use Rattle.air_record.specs.declared.submission.Submission.{Submission}
use Rattle.air_record.specs.Submissions.{unrefused}
use Rattle.air_text.specs.Groups.{Group}
use Rattle.journal_flows.specs.Accounts.{nothing_kept, after_record as record_kept}
use Rattle.journal_flows.specs.Gathering.{is_handover}
use Rattle.journal_given.specs.Supplies.{Keeper}
use Rattle.journal_given.specs.Giving.{Giving, submits_own, with_submitted, with_kept, may_take, settled, happens}
use Rattle.journal_given.specs.Giving.{tells, after_record, after_line, after_records, given_within, all_given}
use Rattle.journal_given.specs.Giving.{group_at, behind_records, before_record, may_take_in, may_take_by, no_bearers}
use Rattle.journal_given.specs.Giving.{bearer_at, waits_at, no_waits}
use Rattle.law_given.specs.OneBearer.{channel_in, one_record, one_line, one_group, one_records}
use Rattle.law_given.specs.OneBearer.{one_behind, one_within, one_given, HasChannels, first_of}
use Rattle.law_given.specs.OneBearer.{OneChannelByGroups}
use Rattle.law_given.proofs.OneBearer.{none_at, same_channel, one_channel_by_steps}

-- ---- what a journal tells of whether something may be taken

group_there : (newer : List Group) (now : Group) (past : List Group)
    → group_at (length past) (newer ++ now ∷ past) ≡ Some now
group_there [] now past =
    let same : (length past == length past) ≡ true = eq-eqb (length past) (length past) refl in
    ap (λ (b : Bool). if b then Some now else group_at (length past) past) same
group_there (g ∷ newer) now past =
    let more = length-append newer (now ∷ past) in
    let other : (length (newer ++ now ∷ past) == length past) ≡ false =
    ne_eqb (length (newer ++ now ∷ past)) (length past) (λ e. omega (arith, e, more)) in
    ap (λ (b : Bool). if b then Some g else group_at (length past) (newer ++ now ∷ past)) other
    ∙ group_there newer now past

pub may_there : {T : Type 0} (k : Keeper T) (journal newer : List Group) (now : Group) (past : List Group)
    → journal ≡ newer ++ now ∷ past → (before : List Record) (one : Record)
    → may_take_by k journal past before one
    ≡ may_take k one (before_record k one before (after_line k now.line (all_given k past)))
may_there k journal newer now past is before one =
    ap (λ (o : Option Group). may_take_in k o past before one)
    (ap (group_at (length past)) is ∙ group_there newer now past)

-- ---- a group hands over with its line

happens_hand : {T : Type 0} (k : Keeper T) (side : Side) (event : Event) (g : Giving T)
    → (happens k side event g).hands_over ≡ g.hands_over
happens_hand k side (events.Take lcid count len) g = refl
happens_hand k side (events.Report lcid fms bitmap) g = refl
happens_hand k side (events.Discard lcid len) g = refl
happens_hand k side event g = refl

tells_hand : {T : Type 0} (k : Keeper T) (one : Record) (g : Giving T) → (tells k one g).hands_over ≡ g.hands_over
tells_hand k (records.Of side event) g = happens_hand k side event g
tells_hand k (records.Looped lcid octets) g = refl
tells_hand k (records.Air direction Got heard) g = refl
tells_hand k (records.Air direction what heard) g = refl
tells_hand k one g = refl

own_hand : {T : Type 0} (k : Keeper T) (o : Option Submission) (g : Giving T)
    → (submits_own k o g).hands_over ≡ g.hands_over
own_hand k None g = refl
own_hand k (Some s) g = refl

record_hand : {T : Type 0} (k : Keeper T) (one : Record) (g : Giving T)
    → (after_record k one g).hands_over ≡ g.hands_over
record_hand k one g =
    let s = settled k one g in
    tells_hand k one (with_kept (record_kept (may_take k one (settled k one g)) one s.kept) (settled k one g))
    ∙ own_hand k (unrefused one g.submitted) (with_submitted (unrefused one g.submitted) g)

records_hand : {T : Type 0} (k : Keeper T) (rest : List Record) (g : Giving T)
    → (after_records k rest g).hands_over ≡ g.hands_over
records_hand k [] g = refl
records_hand k (one ∷ rest) g = records_hand k rest (after_record k one g) ∙ record_hand k one g

line_hand : {T : Type 0} (k : Keeper T) (line : Line) (g : Giving T)
    → (after_line k line g).hands_over ≡ is_handover line
line_hand k (lines.Handover user rrc integrity) g = refl
line_hand k line g = refl

pub within_hand : {T : Type 0} (k : Keeper T) (now : Group) (g : Giving T)
    → (given_within k now g).hands_over ≡ is_handover now.line
within_hand k now g = records_hand k now.events (after_line k now.line g) ∙ line_hand k now.line g

-- ---- there are as many channels

records_have : {T : Type 0} (k : Keeper T) (rest : List Record) (g : Giving T) → HasChannels T g
    → HasChannels T (after_records k rest g)
records_have k [] g h = h
records_have k (one ∷ rest) g h =
    records_have k rest (after_record k one g) (((one_channel_by_steps _ k).stay g h).behind one)

pub line_have : {T : Type 0} (k : Keeper T) (line : Line) (g : Giving T) → HasChannels T g
    → HasChannels T (after_line k line g)
line_have k line g h = ((one_channel_by_steps _ k).stay g h).line line

pub within_has : {T : Type 0} (k : Keeper T) (now : Group) (g : Giving T) → HasChannels T g
    → HasChannels T (given_within k now g)
within_has k now g h = records_have k now.events (after_line k now.line g) (line_have k now.line g h)

pub given_has : {T : Type 0} (k : Keeper T) (past : List Group) → HasChannels T (all_given k past)
given_has k [] = (one_channel_by_steps _ k).begin
given_has k (now ∷ past) =
    ((one_channel_by_steps _ k).stay (given_within k now (all_given k past))
    (within_has k now (all_given k past) (given_has k past))).group

pub behind_have : {T : Type 0} (k : Keeper T) (before : List Record) (g : Giving T) → HasChannels T g
    → HasChannels T (behind_records k before g)
behind_have k [] g h = h
behind_have k (one ∷ before) g h =
    ((one_channel_by_steps _ k).stay (behind_records k before g) (behind_have k before g h)).behind one

-- ---- records, groups

-- a record, where it is told of it whether something may be taken
pub step_alone : {T : Type 0} (k : Keeper T) (l : ℕ) (one : Record) (g : Giving T) → HasChannels T g → l ≤ 10
    → (more : Bool) → more ≡ may_take k one (settled k one g)
    → channel_in l (after_record k one g) ≡ one_record k l more one (channel_in l g)
step_alone k l one g h low more is =
    ((one_channel_by_steps _ k).alone l g low h).behind one
    ∙ ap (λ (b : Bool). one_record k l b one (channel_in l g)) (sym is)

records_alone : {T : Type 0} (k : Keeper T) (l : ℕ) → l ≤ 10 → (journal newer : List Group) (now : Group)
    (past : List Group) → journal ≡ newer ++ now ∷ past → (before rest : List Record) (g : Giving T)
    → HasChannels T g → g ≡ behind_records k before (after_line k now.line (all_given k past))
    → channel_in l (after_records k rest g)
    ≡ one_records k l (may_take_by k journal) past before rest (channel_in l g)
records_alone k l low journal newer now past is before [] g h so = refl
records_alone k l low journal newer now past is before (one ∷ rest) g h so =
    records_alone k l low journal newer now past is (one ∷ before) rest (after_record k one g)
    (((one_channel_by_steps _ k).stay g h).behind one) (ap (after_record k one) so)
    ∙ ap (one_records k l (may_take_by k journal) past (one ∷ before) rest)
    (step_alone k l one g h low (may_take_by k journal past before one)
    (may_there k journal newer now past is before one
    ∙ ap (λ (x : Giving _). may_take k one (settled k one x)) (sym so)))

pub behind_alone : {T : Type 0} (k : Keeper T) (l : ℕ) → l ≤ 10 → (journal newer : List Group) (now : Group)
    (past : List Group) → journal ≡ newer ++ now ∷ past → (before : List Record)
    → channel_in l (behind_records k before (after_line k now.line (all_given k past)))
    ≡ one_behind k l (may_take_by k journal) past before
    (channel_in l (after_line k now.line (all_given k past)))
behind_alone k l low journal newer now past is [] = refl
behind_alone k l low journal newer now past is (one ∷ before) =
    let g = after_line k now.line (all_given k past) in
    step_alone k l one (behind_records k before (after_line k now.line (all_given k past)))
    (behind_have k before (after_line k now.line (all_given k past))
    (line_have k now.line (all_given k past) (given_has k past))) low
    (may_take_by k journal past before one) (may_there k journal newer now past is before one)
    ∙ ap (one_record k l (may_take_by k journal past before one) one)
    (behind_alone k l low journal newer now past is before)

pub begun_alone : {T : Type 0} (k : Keeper T) (l : ℕ) → l ≤ 10 → (now : Group) (past : List Group)
    → channel_in l (after_line k now.line (all_given k past))
    ≡ one_line k l now.line (channel_in l (all_given k past))
begun_alone k l low now past =
    ((one_channel_by_steps _ k).alone l (all_given k past) low (given_has k past)).line now.line

within_alone : {T : Type 0} (k : Keeper T) (l : ℕ) → l ≤ 10 → (journal newer : List Group) (now : Group)
    (past : List Group) → journal ≡ newer ++ now ∷ past
    → channel_in l (given_within k now (all_given k past))
    ≡ one_within k l (may_take_by k journal) now past (channel_in l (all_given k past))
within_alone k l low journal newer now past is =
    let g = after_line k now.line (all_given k past) in
    records_alone k l low journal newer now past is [] now.events (after_line k now.line (all_given k past))
    (line_have k now.line (all_given k past) (given_has k past)) refl
    ∙ ap (one_records k l (may_take_by k journal) past [] now.events) (begun_alone k l low now past)

none_given : {T : Type 0} (k : Keeper T) (l : ℕ) → channel_in l (all_given k []) ≡ one_given k l (may_take_by k []) []
none_given k l =
    same_channel nothing_kept nothing_kept (bearer_at l no_bearers) None
    (waits_at Nb l no_waits) 0 (waits_at Ue l no_waits) 0 None None
    refl (none_at 11 l None) (none_at 11 l 0) (none_at 11 l 0) refl

pub given_alone : {T : Type 0} (k : Keeper T) (l : ℕ) → l ≤ 10 → (journal newer past : List Group)
    → journal ≡ newer ++ past → channel_in l (all_given k past) ≡ one_given k l (may_take_by k journal) past
given_alone k l low journal newer [] is = none_given k l
given_alone k l low journal newer (now ∷ past) is =
    let may = may_take_by k journal in
    let inside = given_within k now (all_given k past) in
    ((one_channel_by_steps _ k).alone l (given_within k now (all_given k past)) low
    (within_has k now (all_given k past) (given_has k past))).group
    ∙ ap (λ (b : Bool). one_group k l b (channel_in l (given_within k now (all_given k past))))
    (within_hand k now (all_given k past))
    ∙ ap (one_group k l (is_handover now.line)) (within_alone k l low journal newer now past is
    ∙ ap (one_within k l (may_take_by k journal) now past) (given_alone k l low journal (newer ++ now ∷ []) past
    (is ∙ sym (append_assoc newer (now ∷ []) past))))

pub one_channel_by_groups : (T : Type 0) (k : Keeper T) → OneChannelByGroups T k
one_channel_by_groups T k l newer now past low =
    let journal = newer ++ now ∷ past in
    let begins = given_alone k l low (newer ++ now ∷ past) (newer ++ now ∷ []) past
    (sym (append_assoc newer (now ∷ []) past)) in
    record {
      has = λ told. within_has k (first_of now told) (all_given k past) (given_has k past);
      begins = begins;
      within = λ told.
          records_alone k l low (newer ++ now ∷ past) newer now past refl [] told
          (after_line k now.line (all_given k past)) (line_have k now.line (all_given k past) (given_has k past)) refl
          ∙ ap (one_records k l (may_take_by k (newer ++ now ∷ past)) past [] told)
          (begun_alone k l low now past ∙ ap (one_line k l now.line) begins);
      before = λ before.
          behind_alone k l low (newer ++ now ∷ past) newer now past refl before
          ∙ ap (one_behind k l (may_take_by k (newer ++ now ∷ past)) past before)
          (begun_alone k l low now past ∙ ap (one_line k l now.line) begins);
      behind = given_alone k l low (newer ++ now ∷ past) newer (now ∷ past) refl;
    }
