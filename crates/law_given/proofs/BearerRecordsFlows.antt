-- What flows say on a channel, behind records of a group, is what their histories say.
use Rattle.std.proofs.Common.{◌≡◌, ℕ, ◌≤◌, Bool, true, false, List, [], ◌∷◌, ◌++◌, Option, Some, None, refl, ap, sym}
use Rattle.std.proofs.Common.{◌∙◌, subst, if◌then◌else◌}
use Rattle.std.proofs.lemmas.List.{append_assoc}
use Rattle.l2_types.specs.declared.side.Side.{Side}
use Rattle.l2_types.specs.declared.side.Side.TheVariants.{Nb, Ue}
use Rattle.bearer_types.specs.declared.config.BearerConfig.{BearerConfig}
use Rattle.bearer_types.specs.Sides.{other}
use Rattle.air_record.specs.declared.record.Record.{Record}
use Rattle.air_text.specs.Groups.{Group}
use Rattle.journal_account.specs.Confirmed.{is_confirmed_sdu}
use Rattle.journal_account.specs.Stream.{is_in_sequence}
use Rattle.journal_lives.specs.FlowLives.{FlowLives}
use Rattle.journal_lives.specs.LifeEvents.{LifeEvent, running}
use Rattle.journal_takes.specs.TakeEvents.{ReportHeard}
use Rattle.journal_flows.specs.NumberedPdus.{carries_status}
use Rattle.journal_flows.specs.Gathering.{Gatherer, Journal, Sending, MayTake, sending_of, sent_last, within, behind}
use Rattle.journal_flows.specs.Gathering.{behind_end, behind_record, behind_records, is_handover}
use Rattle.journal_flows.specs.FlowsTold.{Histories, no_events, histories as flows, flows_told, flows_within}
use Rattle.journal_flows.specs.Accounts.{Keeping, account_at, is_acked_kind}
use Rattle.journal_flows.specs.Accounts.{after_group as group_kept, after_records as kept_records}
use Rattle.journal_flows.specs.Accounts.{kept_within, all_kept}
use Rattle.journal_flows.specs.Laws.{bearer_on, account_by}
use Rattle.journal_flows.proofs.Groups.{flows_are_told, sending_told}
use Rattle.journal_given.specs.declared.supply.GivenPdu.{GivenPdu}
use Rattle.journal_given.specs.Supplies.{Keeper, Supply, Bearer, History, histories, accounts, told, confirmation}
use Rattle.journal_given.specs.Supplies.{confirms_one, confirms_all, confirms_if, is_confirmed_by}
use Rattle.journal_given.specs.Supplies.{is_sequenced_by, has_come, report_gone, hears}
use Rattle.journal_given.specs.Giving.{landed, may_take_by, given_within, all_given}
use Rattle.journal_given.specs.Laws.{SaysSo, SaysBy}
use Rattle.journal_given.proofs.Ties.{flows_are_tied}
use Rattle.journal_given.proofs.Saying.{flows_say_so}
use Rattle.law_given.specs.OneBearer.{OneChannel, one_record, one_line, one_ended, one_group, one_records}
use Rattle.law_given.specs.OneBearer.{one_within, one_given, first_of}
use Rattle.law_given.specs.BearerRecords.{accounts_within, flows_in, FlowsSayOnOneBearer}
use Rattle.law_given.specs.BearerRecords.{comes_by, gone_by, heard_by, confirms_by, landed_by}
use Rattle.law_given.specs.BearerRecords.{LandedByHistories}
use Rattle.law_given.proofs.OneBearerGroups.{may_there}

-- ---- the accounts of flows are those of `journal_flows`

records_kept : {T : Type 0} (k : Keeper T) (l : ℕ) (may : MayTake) (past : List Group) (before rest : List Record)
    (c : OneChannel T)
    → (one_records k l may past before rest c).kept ≡ kept_records may past before rest c.kept
records_kept k l may past before [] c = refl
records_kept k l may past before (one ∷ rest) c =
    records_kept k l may past (one ∷ before) rest (one_record k l (may past before one) one c)

within_kept : {T : Type 0} (k : Keeper T) (l : ℕ) (may : MayTake) (now : Group) (past : List Group) (c : OneChannel T)
    → (one_within k l may now past c).kept ≡ kept_within may now past c.kept
within_kept k l may now past c = records_kept k l may past [] now.events (one_line k l now.line c)

ended_kept : {T : Type 0} (k : Keeper T) (l : ℕ) (b : Bool) (c : OneChannel T) → (one_ended k l b c).kept ≡ c.kept
ended_kept k l true c = refl
ended_kept k l false c = refl

group_keeps : {T : Type 0} (k : Keeper T) (l : ℕ) (b : Bool) (c : OneChannel T)
    → (one_group k l b c).kept ≡ group_kept c.kept
group_keeps k l true c = refl
group_keeps k l false c = refl

pub given_kept : {T : Type 0} (k : Keeper T) (l : ℕ) (may : MayTake) (past : List Group)
    → (one_given k l may past).kept ≡ all_kept may past
given_kept k l may [] = refl
given_kept k l may (now ∷ past) =
    group_keeps k l (is_handover now.line) (one_within k l may now past (one_given k l may past))
    ∙ ap (λ (j : Keeping). group_kept j) (within_kept k l may now past (one_given k l may past)
    ∙ ap (kept_within may now past) (given_kept k l may past))

-- ---- what a journal tells of its groups doesn't hang on those that follow

records_same : {F : Type 0} (g : Gatherer F) (may also : MayTake) (past : List Group)
    → ((before : List Record) (one : Record) → may past before one ≡ also past before one)
    → (ks : List (Option _)) (before rest : List Record) (j : Journal F)
    → behind_records g may past ks before rest j ≡ behind_records g also past ks before rest j
records_same g may also past same ks before [] j = refl
records_same g may also past same ks before (one ∷ rest) j =
    records_same g may also past same ks (one ∷ before) rest (behind_record g ks (may past before one) one j)
    ∙ ap (λ (b : Bool). behind_records g also past ks (one ∷ before) rest (behind_record g ks b one j))
    (same before one)

same_there : (journal newer also newer' : List Group) (now : Group) (told : List Record) (past : List Group)
    → journal ≡ newer ++ now ∷ past → also ≡ newer' ++ first_of now told ∷ past → (before : List Record)
    (one : Record) → may_take_by histories journal past before one ≡ may_take_by histories also past before one
same_there journal newer also newer' now told past is so before one =
    may_there histories journal newer now past is before one
    ∙ sym (may_there histories also newer' (first_of now told) past so before one)

behind_same : {F : Type 0} (g : Gatherer F) (none : F) (journal newer also newer' past : List Group)
    → journal ≡ newer ++ past → also ≡ newer' ++ past
    → behind g none (may_take_by histories journal) past ≡ behind g none (may_take_by histories also) past
behind_same g none journal newer also newer' [] is so = refl
behind_same g none journal newer also newer' (now ∷ past) is so =
    ap (behind_end g (is_handover now.line))
    (records_same g (may_take_by histories journal) (may_take_by histories also) past
    (λ before one. may_there histories journal newer now past is before one
    ∙ sym (may_there histories also newer' now past so before one)) _ [] now.events _
    ∙ ap (λ (j : Journal _). within g (may_take_by histories also) now past j)
    (behind_same g none journal (newer ++ now ∷ []) also (newer' ++ now ∷ []) past
    (is ∙ sym (append_assoc newer (now ∷ []) past)) (so ∙ sym (append_assoc newer' (now ∷ []) past))))

first_same : (newer : List Group) (now : Group) (past : List Group) (told : List Record)
    → flows_in (may_take_by histories (newer ++ now ∷ past)) (first_of now told) past
    ≡ flows_in (may_take_by histories (first_of now told ∷ past)) (first_of now told) past
first_same newer now past told =
    let may = may_take_by histories (newer ++ now ∷ past) in
    let also = may_take_by histories (first_of now told ∷ past) in
    records_same flows (may_take_by histories (newer ++ now ∷ past))
    (may_take_by histories (first_of now told ∷ past)) past
    (same_there (newer ++ now ∷ past) newer (first_of now told ∷ past) [] now told past refl refl) _ [] told _
    ∙ ap (λ (j : Journal Histories). within flows (may_take_by histories (first_of now told ∷ past))
    (first_of now told) past j)
    (behind_same flows no_events (newer ++ now ∷ past) (newer ++ now ∷ []) (first_of now told ∷ past)
    (first_of now told ∷ []) past (sym (append_assoc newer (now ∷ []) past)) refl)

last_same : (newer : List Group) (now : Group) (past : List Group)
    → behind flows no_events (may_take_by histories (newer ++ now ∷ past)) (now ∷ past)
    ≡ behind flows no_events (may_take_by histories (now ∷ past)) (now ∷ past)
last_same newer now past =
    behind_same flows no_events (newer ++ now ∷ past) newer (now ∷ past) [] (now ∷ past) refl refl

-- ---- what flows say

account_within : (l : ℕ) → l ≤ 10 → (may : MayTake) (now : Group) (past : List Group) (side : Side)
    → account_at side l (accounts_within l may now past).journal.flows
    ≡ account_by (bearer_on l (now ∷ past)) (flows_within may now past side l)
account_within l low may now past side =
    ap (λ (j : Keeping). account_at side l j.journal.flows)
    (within_kept histories l may now past (one_given histories l may past)
    ∙ ap (kept_within may now past) (given_kept histories l may past))
    ∙ (flows_are_told may past side l low).within now

pub account_behind : (l : ℕ) → l ≤ 10 → (may : MayTake) (past : List Group) (side : Side)
    → account_at side l (one_given histories l may past).kept.journal.flows
    ≡ account_by (bearer_on l past) (flows_told may past side l)
account_behind l low may past side =
    ap (λ (j : Keeping). account_at side l j.journal.flows) (given_kept histories l may past)
    ∙ (flows_are_told may past side l low).behind

-- of the same history, by another account of it
says_also : (bearer : Option BearerConfig) (es fs : List LifeEvent) (flow also : Option FlowLives)
    → es ≡ fs → flow ≡ account_by bearer es → also ≡ account_by bearer fs → SaysBy bearer fs also
    → SaysBy bearer es flow
says_also bearer es fs flow also same is so says =
    subst (SaysBy bearer es) (so ∙ ap (account_by bearer) (sym same) ∙ sym is)
    (subst (λ (gs : List LifeEvent). SaysBy bearer gs also) (sym same) says)

says_first : (l : ℕ) → l ≤ 10 → (newer : List Group) (now : Group) (past : List Group) (side : Side)
    (told : List Record)
    → SaysBy (bearer_on l (now ∷ past))
    (flows_within (may_take_by histories (newer ++ now ∷ past)) (first_of now told) past side l)
    (account_at side l (accounts_within l (may_take_by histories (newer ++ now ∷ past))
    (first_of now told) past).journal.flows)
says_first l low newer now past side told =
    let first = first_of now told in
    let may = may_take_by histories (newer ++ now ∷ past) in
    let also = may_take_by histories (first_of now told ∷ past) in
    says_also (bearer_on l (now ∷ past)) (flows_within may (first_of now told) past side l)
    (flows_within also (first_of now told) past side l)
    (account_at side l (accounts_within l may (first_of now told) past).journal.flows)
    (account_at side l (given_within accounts first (all_given accounts past)).kept.journal.flows)
    (ap (λ (j : Journal Histories). j.flows.acked side l) (first_same newer now past told))
    (account_within l low may (first_of now told) past side)
    (ap (λ (j : Keeping). account_at side l j.journal.flows) ((flows_are_tied past).within (first_of now told))
    ∙ (flows_are_told also past side l low).within (first_of now told))
    ((flows_say_so past side l low).within (first_of now told))

says_last : (l : ℕ) → l ≤ 10 → (newer : List Group) (now : Group) (past : List Group) (side : Side)
    → SaysBy (bearer_on l (now ∷ past))
    (flows_told (may_take_by histories (newer ++ now ∷ past)) (now ∷ past) side l)
    (account_at side l (one_given histories l (may_take_by histories (newer ++ now ∷ past))
    (now ∷ past)).kept.journal.flows)
says_last l low newer now past side =
    let may = may_take_by histories (newer ++ now ∷ past) in
    let also = may_take_by histories (now ∷ past) in
    says_also (bearer_on l (now ∷ past)) (flows_told may (now ∷ past) side l) (flows_told also (now ∷ past) side l)
    (account_at side l (one_given histories l may (now ∷ past)).kept.journal.flows)
    (account_at side l (all_given accounts (now ∷ past)).kept.journal.flows)
    (ap (λ (j : Journal Histories). j.flows.acked side l) (last_same newer now past))
    (account_behind l low may (now ∷ past) side)
    (ap (λ (j : Keeping). account_at side l j.journal.flows) (flows_are_tied (now ∷ past)).behind
    ∙ (flows_are_told also (now ∷ past) side l low).behind)
    (flows_say_so (now ∷ past) side l low).behind

sending_first : (l : ℕ) (may : MayTake) (now : Group) (past : List Group) (side : Side)
    → sending_of side (accounts_within l may now past).journal ≡ sending_of side (flows_in may now past)
sending_first l may now past side =
    ap (λ (j : Keeping). sending_of side j.journal)
    (within_kept histories l may now past (one_given histories l may past)
    ∙ ap (kept_within may now past) (given_kept histories l may past))
    ∙ sending_told may now past side

pub flows_say_on_one_bearer : FlowsSayOnOneBearer
flows_say_on_one_bearer l newer now past side low = record {
  first = λ told. record {
    flow = says_first l low newer now past side told;
    account_is = account_within l low (may_take_by histories (newer ++ now ∷ past)) (first_of now told) past side;
    sending = sending_first l (may_take_by histories (newer ++ now ∷ past)) (first_of now told) past side;
  };
  last = says_last l low newer now past side;
  alone = λ told. ap (λ (j : Journal Histories). j.flows.acked side l) (first_same newer now past told);
}

-- ---- a block that comes

come_same : (own : Option FlowLives) (sequenced : ℕ → Bool) → ((n : ℕ) → is_sequenced_by own n ≡ sequenced n)
    → (report : Option ℕ) → has_come own report ≡ comes_by sequenced report
come_same own sequenced same None = refl
come_same own sequenced same (Some number) = same number

gone_same : {T : Type 0} (own : Option FlowLives) (sequenced : ℕ → Bool)
    → ((n : ℕ) → is_sequenced_by own n ≡ sequenced n) → (s : Supply T) → report_gone own s ≡ gone_by sequenced s
gone_same own sequenced same s =
    ap (λ (b : Bool). if b then record s { report = None } else s) (come_same own sequenced same s.report)

all_same : {T : Type 0} (k : Keeper T) (p q : ℕ → Bool) → ((n : ℕ) → p n ≡ q n) → (pdus : List GivenPdu) (s : Supply T)
    → confirms_all k p pdus s ≡ confirms_all k q pdus s
all_same k p q same [] s = refl
all_same k p q same (pdu ∷ pdus) s =
    ap (λ (b : Bool). confirms_all k p pdus (if b then told k (confirmation pdu.count) s
    else record s { unconfirmed = s.unconfirmed ++ pdu ∷ [] })) (same pdu.number)
    ∙ all_same k p q same pdus (confirms_one k q pdu s)

if_same : {T : Type 0} (k : Keeper T) (status : Bool) (back : Option FlowLives) (confirmed : ℕ → Bool)
    → ((n : ℕ) → is_confirmed_by back n ≡ confirmed n) → (s : Supply T)
    → confirms_if k status back s ≡ confirms_by k status confirmed s
if_same k true back confirmed same s =
    all_same k (is_confirmed_by back) confirmed same s.unconfirmed (record s { unconfirmed = [] })
if_same k false back confirmed same s = refl

hear_same : {T : Type 0} (k : Keeper T) (status : Bool) (own back : Option FlowLives) (sequenced confirmed : ℕ → Bool)
    → ((n : ℕ) → is_sequenced_by own n ≡ sequenced n) → ((n : ℕ) → is_confirmed_by back n ≡ confirmed n)
    → (sender s : Supply T) → hears k own sender (confirms_if k status back s)
    ≡ heard_by k sequenced sender (confirms_by k status confirmed s)
hear_same k status own back sequenced confirmed come same sender s =
    ap (λ (b : Bool). if b then told k (ReportHeard sender.said.next sender.said.beyond) (confirms_if k status back s)
    else confirms_if k status back s) (come_same own sequenced come sender.report)
    ∙ ap (heard_by k sequenced sender) (if_same k status back confirmed same s)

abbrev both : {T : Type 0} → Supply T → Supply T → Bearer T
both nb ue = record { nb = nb; ue = ue }

landed_same : {T : Type 0} (k : Keeper T) (from : Side) (status : Bool) (own back : Option FlowLives)
    (sequenced confirmed : ℕ → Bool)
    → ((n : ℕ) → is_sequenced_by own n ≡ sequenced n) → ((n : ℕ) → is_confirmed_by back n ≡ confirmed n)
    → (b : Bearer T) → landed k from status own back b ≡ landed_by k from status sequenced confirmed b
landed_same k Nb status own back sequenced confirmed come same b =
    ap (λ (s : Supply _). both s (hears k own b.nb (confirms_if k status back b.ue)))
    (gone_same own sequenced come b.nb)
    ∙ ap (both (gone_by sequenced b.nb)) (hear_same k status own back sequenced confirmed come same b.nb b.ue)
landed_same k Ue status own back sequenced confirmed come same b =
    ap (both (hears k own b.ue (confirms_if k status back b.nb))) (gone_same own sequenced come b.ue)
    ∙ ap (λ (s : Supply _). both s (gone_by sequenced b.ue))
    (hear_same k status own back sequenced confirmed come same b.ue b.nb)

pub says_there : (bearer : Option BearerConfig) (config : BearerConfig) (es : List LifeEvent) (flow : Option FlowLives)
    → bearer ≡ Some config → is_acked_kind config.kind ≡ true → SaysBy bearer es flow → SaysSo config.first es flow
says_there bearer config es flow is acked says =
    subst (λ (o : Option BearerConfig). SaysBy o es flow) is says acked

pub landed_by_histories : LandedByHistories
landed_by_histories l newer now past told config from b low is acked =
    let may = may_take_by histories (newer ++ now ∷ past) in
    let first = first_of now told in
    let j = accounts_within l may first past in
    let own = says_there (bearer_on l (now ∷ past)) config (flows_within may first past from l)
    (account_at from l j.journal.flows) is acked (says_first l low newer now past from told) in
    let back = says_there (bearer_on l (now ∷ past)) config (flows_within may first past (other from) l)
    (account_at (other from) l j.journal.flows) is acked (says_first l low newer now past (other from) told) in
    ap (λ (x : Bearer History). Some x)
    (ap (λ (x : Sending). landed histories from (carries_status l (sent_last x)) (account_at from l j.journal.flows)
    (account_at (other from) l j.journal.flows) b) (sending_first l may first past from)
    ∙ landed_same histories from (carries_status l (sent_last (sending_of from (flows_in may first past))))
    (account_at from l j.journal.flows) (account_at (other from) l j.journal.flows)
    (is_in_sequence (running ((flows_in may first past).flows.acked from l)))
    (is_confirmed_sdu (running ((flows_in may first past).flows.acked (other from) l)))
    own.sequenced back.confirmed b)
