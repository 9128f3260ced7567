-- The bearer of acknowledged data of a channel goes on by the histories of its flows.
use Rattle.std.proofs.Common.{◌≡◌, ℕ, ◌≤◌, Bool, true, false, List, [], ◌∷◌, ◌++◌, Option, Some, None, refl, ap}
use Rattle.std.proofs.Common.{sym, ◌∙◌, subst}
use Rattle.std.specs.Prelude.{is_some, option_map}
use Rattle.std.proofs.lemmas.List.{append_assoc}
use Rattle.l2_types.specs.declared.channel.Kind.{Kind}
use Rattle.l2_types.specs.declared.channel.Kind.TheVariants as bearers
use Rattle.l2_types.specs.declared.side.Side.{Side}
use Rattle.l2_types.specs.declared.side.Side.TheVariants.{Nb, Ue}
use Rattle.bearer_types.specs.declared.config.BearerConfig.{BearerConfig}
use Rattle.bearer_types.specs.Sides.{sender_of}
use Rattle.air_record.specs.declared.line.Line.{Line}
use Rattle.air_record.specs.declared.record.Arrived.TheVariants.{Got}
use Rattle.air_record.specs.declared.record.Record.{Record}
use Rattle.air_record.specs.declared.record.Record.TheVariants as records
use Rattle.air_record.specs.declared.submission.Submission.{Submission}
use Rattle.air_record.specs.Submissions.{unrefused}
use Rattle.air_text.specs.Groups.{Group}
use Rattle.journal_lives.specs.FlowLives.{FlowLives}
use Rattle.journal_flows.specs.Gathering.{is_handover}
use Rattle.journal_flows.specs.FlowsTold.{flows_told}
use Rattle.journal_flows.specs.Accounts.{Keeping, account_at, is_acked_kind}
use Rattle.journal_flows.specs.Accounts.{after_record as record_kept, after_group as group_kept}
use Rattle.journal_flows.specs.Laws.{bearer_on, account_by}
use Rattle.journal_given.specs.Supplies.{Keeper, Bearer, History, histories}
use Rattle.journal_given.specs.Giving.{Giving, bearer_at, landed_on, lives_ended, may_take, settled, with_kept}
use Rattle.journal_given.specs.Giving.{after_line, after_record, after_records, given_within, all_given}
use Rattle.journal_given.specs.Giving.{may_take_by}
use Rattle.journal_given.specs.RightTakes.{AreRightRecords}
use Rattle.journal_given.proofs.Ties.{group_keeps}
use Rattle.law_given.specs.OneBearer.{bearer_submits, bearer_told, OneChannel, channel_in, one_group, first_of}
use Rattle.law_given.specs.BearerRecords.{accounts_within, flows_in, landed_in, bearer_heard, bearer_over, left_by}
use Rattle.law_given.specs.BearerRecords.{is_data, has_data, IsRightOn, bearer_first, bearer_before}
use Rattle.law_given.specs.BearerRecords.{OneBearerByHistories, RightByRecords}
use Rattle.law_given.proofs.OneBearer.{one_bearer_by_records, one_channel_by_steps, tells_submitted}
use Rattle.law_given.proofs.OneBearerGroups.{given_has, within_has, within_hand, one_channel_by_groups}
use Rattle.law_given.proofs.BearerRecords.{record_right}
use Rattle.law_given.proofs.BearerRecordsStand.{submits_stay, bearers_stand}
use Rattle.law_given.proofs.BearerRecordsFlows.{account_behind, landed_by_histories}

-- ---- one record more

pub one_more : {T : Type 0} (k : Keeper T) (told : List Record) (one : Record) (g : Giving T)
    → after_records k (told ++ one ∷ []) g ≡ after_record k one (after_records k told g)
one_more k [] one g = refl
one_more k (first ∷ told) one g = one_more k told one (after_record k first g)

record_left : {T : Type 0} (k : Keeper T) (one : Record) (g : Giving T) → (after_record k one g).submitted ≡ None
record_left k one g =
    tells_submitted k one (with_kept (record_kept (may_take k one (settled k one g)) one (settled k one g).kept)
    (settled k one g))

records_left : {T : Type 0} (k : Keeper T) (told : List Record) (g : Giving T) → g.submitted ≡ None
    → (after_records k told g).submitted ≡ None
records_left k [] g h = h
records_left k (one ∷ told) g h = records_left k told (after_record k one g) (record_left k one g)

pub left_is : {T : Type 0} (k : Keeper T) (line : Line) (told : List Record) (g : Giving T)
    → (after_records k told (after_line k line g)).submitted ≡ left_by line told
left_is k line [] g = refl
left_is k line (one ∷ told) g =
    records_left k told (after_record k one (after_line k line g)) (record_left k one (after_line k line g))

-- ---- a block that comes

data_acked : (kind : Kind) → is_data kind ≡ true → is_acked_kind kind ≡ true
data_acked bearers.Am h = refl
data_acked kind h = absurd cc

lands : (l : ℕ) → l ≤ 10 → (newer : List Group) (now : Group) (past : List Group) (told : List Record) (from : Side)
    (b : Option (Bearer History)) → is_some b ≡ has_data (bearer_on l (now ∷ past))
    → landed_on histories from
    (accounts_within l (may_take_by histories (newer ++ now ∷ past)) (first_of now told) past) l b
    ≡ option_map (landed_in from l
    (flows_in (may_take_by histories (newer ++ now ∷ past)) (first_of now told) past)) b
lands l low newer now past told from None is = refl
lands l low newer now past told from (Some b) is = by (bearer_on l (now ∷ past)) refl is
  where
    by : (bearer : Option BearerConfig) → bearer_on l (now ∷ past) ≡ bearer → true ≡ has_data bearer
        → landed_on histories from
        (accounts_within l (may_take_by histories (newer ++ now ∷ past)) (first_of now told) past) l (Some b)
        ≡ Some (landed_in from l
        (flows_in (may_take_by histories (newer ++ now ∷ past)) (first_of now told) past) b)
    by None on data' = absurd cc
    by (Some config) on data' = landed_by_histories l newer now past told config from b low on
        (data_acked config.kind (sym data'))

heard_so : (l : ℕ) → l ≤ 10 → (newer : List Group) (now : Group) (past : List Group) (told : List Record)
    (one : Record) (b : Option (Bearer History)) → is_some b ≡ has_data (bearer_on l (now ∷ past))
    → bearer_told histories l one
    (accounts_within l (may_take_by histories (newer ++ now ∷ past)) (first_of now told) past) b
    ≡ bearer_heard l one (flows_in (may_take_by histories (newer ++ now ∷ past)) (first_of now told) past) b
heard_so l low newer now past told (records.Of side event) b is = refl
heard_so l low newer now past told (records.Looped lcid octets) b is = refl
heard_so l low newer now past told (records.Air direction Got heard) b is =
    lands l low newer now past told (sender_of direction) b is
heard_so l low newer now past told (records.Air direction what heard) b is = refl
heard_so l low newer now past told one b is = refl

-- ---- a record

pub first_stands : (l : ℕ) → l ≤ 10 → (now : Group) (past : List Group) (told : List Record)
    → is_some (bearer_first l now past told) ≡ has_data (bearer_on l (now ∷ past))
first_stands l low now past told = (bearers_stand History histories l past low).within (first_of now told)

goes : (l : ℕ) → l ≤ 10 → (newer : List Group) (now : Group) (past : List Group) (told : List Record) (one : Record)
    → bearer_first l now past (told ++ one ∷ [])
    ≡ bearer_heard l one
    (flows_in (may_take_by histories (newer ++ now ∷ past)) (first_of now (told ++ one ∷ [])) past)
    (bearer_before l now past told one)
goes l low newer now past told one =
    let g = given_within histories (first_of now told) (all_given histories past) in
    let b = bearer_before l now past told one in
    let more : given_within histories (first_of now (told ++ one ∷ [])) (all_given histories past)
    ≡ after_record histories one g =
    one_more histories told one (after_line histories now.line (all_given histories past)) in
    let kept : (after_record histories one g).kept ≡ accounts_within l
    (may_take_by histories (newer ++ now ∷ past)) (first_of now (told ++ one ∷ [])) past =
    ap (λ (x : Giving History). x.kept) (sym more)
    ∙ ap (λ (c : OneChannel History). c.kept)
    ((one_channel_by_groups History histories l newer now past low).within (told ++ one ∷ [])) in
    ap (λ (x : Giving History). bearer_at l x.bearers) more
    ∙ one_bearer_by_records History histories l one g
    ∙ ap (λ (sdu : Option Submission). bearer_told histories l one (after_record histories one g).kept
    (bearer_submits histories l (unrefused one sdu) (bearer_at l g.bearers)))
    (left_is histories now.line told (all_given histories past))
    ∙ ap (λ (j : Keeping). bearer_told histories l one j (bearer_before l now past told one)) kept
    ∙ heard_so l low newer now past (told ++ one ∷ []) one (bearer_before l now past told one)
    (submits_stay histories l (unrefused one (left_by now.line told)) (bearer_first l now past told)
    ∙ first_stands l low now past told)

-- ---- the end of a group

over : (l : ℕ) (b : Bool) (c : OneChannel History) (nb ue : Option FlowLives)
    → account_at Nb l (group_kept c.kept).journal.flows ≡ nb → account_at Ue l (group_kept c.kept).journal.flows ≡ ue
    → (one_group histories l b c).bearer ≡ bearer_over b nb ue (bearer_submits histories l c.submitted c.bearer)
over l true c nb ue of_nb of_ue =
    ap (λ (x : Option FlowLives). option_map
    (lives_ended histories x (account_at Ue l (group_kept c.kept).journal.flows))
    (bearer_submits histories l c.submitted c.bearer)) of_nb
    ∙ ap (λ (x : Option FlowLives). option_map (lives_ended histories nb x)
    (bearer_submits histories l c.submitted c.bearer)) of_ue
over l false c nb ue of_nb of_ue = refl

account_over : (l : ℕ) → l ≤ 10 → (newer : List Group) (now : Group) (past : List Group) (side : Side)
    → account_at side l (group_kept (given_within histories now (all_given histories past)).kept).journal.flows
    ≡ account_by (bearer_on l (now ∷ past))
    (flows_told (may_take_by histories (newer ++ now ∷ past)) (now ∷ past) side l)
account_over l low newer now past side =
    ap (λ (j : Keeping). account_at side l j.journal.flows)
    (sym (group_keeps histories (given_within histories now (all_given histories past)))
    ∙ ap (λ (c : OneChannel History). c.kept)
    ((one_channel_by_groups History histories l newer now past low).behind))
    ∙ account_behind l low (may_take_by histories (newer ++ now ∷ past)) (now ∷ past) side

ends : (l : ℕ) → l ≤ 10 → (newer : List Group) (now : Group) (past : List Group)
    → bearer_at l (all_given histories (now ∷ past)).bearers
    ≡ bearer_over (is_handover now.line)
    (account_by (bearer_on l (now ∷ past))
    (flows_told (may_take_by histories (newer ++ now ∷ past)) (now ∷ past) Nb l))
    (account_by (bearer_on l (now ∷ past))
    (flows_told (may_take_by histories (newer ++ now ∷ past)) (now ∷ past) Ue l))
    (bearer_submits histories l (left_by now.line now.events) (bearer_first l now past now.events))
ends l low newer now past =
    let g = given_within histories now (all_given histories past) in
    let nb = account_by (bearer_on l (now ∷ past))
    (flows_told (may_take_by histories (newer ++ now ∷ past)) (now ∷ past) Nb l) in
    let ue = account_by (bearer_on l (now ∷ past))
    (flows_told (may_take_by histories (newer ++ now ∷ past)) (now ∷ past) Ue l) in
    ap (λ (c : OneChannel History). c.bearer) (((one_channel_by_steps History histories).alone l g low
    (within_has histories now (all_given histories past) (given_has histories past))).group)
    ∙ over l g.hands_over (channel_in l g) nb ue (account_over l low newer now past Nb)
    (account_over l low newer now past Ue)
    ∙ ap (λ (b : Bool). bearer_over b nb ue (bearer_submits histories l g.submitted (bearer_at l g.bearers)))
    (within_hand histories now (all_given histories past))
    ∙ ap (λ (sdu : Option Submission). bearer_over (is_handover now.line) nb ue
    (bearer_submits histories l sdu (bearer_at l g.bearers)))
    (left_is histories now.line now.events (all_given histories past))

pub one_bearer_by_histories : OneBearerByHistories
one_bearer_by_histories l newer now past low = record {
  begins = ap (λ (c : OneChannel History). c.bearer)
      (((one_channel_by_steps History histories).alone l (all_given histories past) low
      (given_has histories past)).line now.line);
  goes = λ told one. goes l low newer now past told one;
  ends = ends l low newer now past;
}

-- ---- records are right

pub settled_so : (l : ℕ) → l ≤ 10 → (now : Group) (past : List Group) (told : List Record) (one : Record)
    → bearer_before l now past told one
    ≡ bearer_at l
    (settled histories one (given_within histories (first_of now told) (all_given histories past))).bearers
settled_so l low now past told one =
    let g = given_within histories (first_of now told) (all_given histories past) in
    sym (ap (λ (c : OneChannel History). c.bearer) (((one_channel_by_steps History histories).alone l g low
    (within_has histories (first_of now told) (all_given histories past) (given_has histories past))).settles one)
    ∙ ap (λ (sdu : Option Submission). bearer_submits histories l (unrefused one sdu) (bearer_at l g.bearers))
    (left_is histories now.line told (all_given histories past)))

right_from : (now : Group) (past : List Group) (told rest : List Record)
    → ((l : ℕ) (before : List Record) (one : Record) (after : List Record) → l ≤ 10
    → told ++ rest ≡ before ++ one ∷ after → IsRightOn l one (bearer_before l now past before one))
    → AreRightRecords rest (given_within histories (first_of now told) (all_given histories past))
right_from now past told [] all = tt
right_from now past told (one ∷ rest) all =
    let g = given_within histories (first_of now told) (all_given histories past) in
    let has = within_has histories (first_of now told) (all_given histories past) (given_has histories past) in (
      record_right one (settled histories one g) (((one_channel_by_steps History histories).stay g has).settles one)
          (λ l low. subst (IsRightOn l one) (settled_so l low now past told one) (all l told one rest low refl)),
      subst (AreRightRecords rest)
          (one_more histories told one (after_line histories now.line (all_given histories past)))
          (right_from now past (told ++ one ∷ []) rest (λ l before other after low is.
          all l before other after low (sym (append_assoc told (one ∷ []) rest) ∙ is))),
    )

pub right_by_records : RightByRecords
right_by_records now past all =
    right_from now past [] now.events (λ l before one after low is. all l before one after low is)
