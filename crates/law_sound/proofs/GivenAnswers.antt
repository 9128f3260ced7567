-- Whether an SDU may be taken as t-PollRetransmit expires is answered alike by what is gathered of a journal and by the
-- end that tells of it.
use Rattle.std.proofs.Common.{◌≡◌, ◌≤◌, ℕ, ◌==◌, Bool, true, false, if◌then◌else◌, List, [], ◌∷◌, ◌++◌, map, reverse}
use Rattle.std.proofs.Common.{Option, Some, None, append-nil, append_assoc, refl, ap, sym, subst, ◌∙◌, ◌⊎◌, inl, inr}
use Rattle.std.specs.List.{AllByRecursion, filter}
use Rattle.std.proofs.lemmas.Bool.{eq-eqb}
use Rattle.std.proofs.lemmas.List.{reverse-append}
use Rattle.air_record.specs.declared.record.Record.{Record}
use Rattle.air_record.specs.declared.record.Record.TheVariants as records
use Rattle.air_record.specs.Submissions.{submitted_by}
use Rattle.air_text.specs.Groups.{Group}
use Rattle.bearer.specs.Acknowledged.State.{State}
use Rattle.bearer.specs.declared.flow.Flow.TheVariants.{Am}
use Rattle.bearer_types.specs.Sides.{other}
use Rattle.bearer_types.specs.declared.event.Event.{Event}
use Rattle.bearer_types.specs.declared.event.Event.TheVariants as events
use Rattle.l2_node.specs.End.{End}
use Rattle.l2_types.specs.declared.event.Clock.TheVariants.{Poll}
use Rattle.l2_types.specs.declared.side.Side.{Side}
use Rattle.l2_types.specs.declared.side.Side.TheVariants.{Nb, Ue}
use Rattle.pdu_show.specs.declared.kinds.Layout.{Layout}
use Rattle.promises.specs.Blocks.{kinds}
use Rattle.promises.specs.Events.{told_on}
use Rattle.promises.specs.Flows.{loops_in}
use Rattle.promises.specs.Records.{event_of, events_of, is_looped, sdu_of}
use Rattle.journal_flows.specs.FlowsTold.{Histories, histories as flows, no_events}
use Rattle.journal_flows.specs.Gathering.{Journal, MayTake, behind, behind_line, behind_record, behind_records}
use Rattle.journal_given.specs.Giving.{side_of, may_take_by}
use Rattle.journal_given.specs.Supplies.{Bearer, History, histories}
use Rattle.law_bearer.specs.AnyBearer.Calls.{Call}
use Rattle.law_bearer.specs.AmBearer.Calls.{tells}
use Rattle.law_deliver.specs.AmChannel.Lives.{AirStep, end_at}
use Rattle.law_deliver.specs.AmFlow.Air.{Air}
use Rattle.law_deliver.proofs.AmChannel.Ends.{all_more}
use Rattle.law_deliver.proofs.AmFlow.Carrying.{front, rest}
use Rattle.law_deliver.proofs.AmFlow.Events.{told_then}
use Rattle.law_given.specs.BearerRecords.{bearer_first, expires}
use Rattle.law_given.specs.Supplied.{Progress, IsSupplied}
use Rattle.law_given.specs.SupplyLaws.{IsOwn}
use Rattle.law_given.proofs.BearerRecordsWaits.{may_take_by_records}
use Rattle.law_given.proofs.GivenRecords.{BringsNoBlock, before_is, journal_at, records_gather, same_side}
use Rattle.law_given.proofs.PollFirst.{IsNoExpiry, NoneExpires, OnlyFirst, call-first}
use Rattle.law_given.proofs.Supplied.{more_is_takeable}
use Rattle.law_node.specs.Holding.{flow}
use Rattle.law_run.specs.TwoEnds.Logs.{logged}
use Rattle.law_run.proofs.EmptyLists.{parts_empty}
use Rattle.law_sound.specs.AgreeLaws.{AnswersAlike, AnswerAlike, AgreeOn}
use Rattle.law_sound.specs.BesideLaws.{ReadRecord, behind_all, station_of}
use Rattle.law_sound.specs.LoggedRecords.{IsTold, records_of}
use Rattle.law_sound.specs.StepReading.{has_something, RecordIsAnswered, IsAnswered, AreStepsRead}
use Rattle.law_sound.proofs.AgreeJournals.{journals_agree}
use Rattle.law_sound.proofs.GivenBeside.{of_both}
use Rattle.law_sound.proofs.LoggedRecords.{own_records_tell}
use Rattle.law_sound.proofs.StepReads.{silent_answered}

-- ---- where none tells of an expiry on the channel, anything answers alike

abbrev pub IsUnexpired : ℕ → Event → Type 0
IsUnexpired l (events.Expired lcid Poll) = lcid ≡ l → ⊥
IsUnexpired l event = Unit {0}

abbrev pub TellsNoExpiry : ℕ → Record → Type 0
TellsNoExpiry l (records.Of side event) = IsUnexpired l event
TellsNoExpiry l one = Unit {0}

unexpired_alike : (l : ℕ) (more might : Bool) (one : Record) → TellsNoExpiry l one → AnswersAlike l more might one
unexpired_alike l more might (records.Of side (events.Expired lcid Poll)) none = λ same. absurd (none same)
unexpired_alike l more might (records.Of side event) none = tt
unexpired_alike l more might one none = tt

pub unexpired_answer : (l : ℕ) (may_take : MayTake) (past : List Group) (before : List Record) (xs : List ReadRecord)
    → AllByRecursion (TellsNoExpiry l) (records_of xs) → AnswerAlike l may_take past before xs
unexpired_answer l may_take past before [] none = tt
unexpired_answer l may_take past before (x ∷ xs) none = (
  unexpired_alike l (may_take past before x.one) x.more x.one none.0,
  unexpired_answer l may_take past (x.one ∷ before) xs none.1,
)

-- what a record tells of the channel, and then those behind it
told_parts : (l : ℕ) (side : Side) (one : Record) (xs : List Record)
    → told_on l (events_of side (one ∷ xs)) ≡ told_on l (event_of side one) ++ told_on l (events_of side xs)
told_parts l side one xs = told_then l (event_of side one) (events_of side xs)

expiry_told : (l : ℕ) (own : Side) (lcid : ℕ) → lcid ≡ l
    → told_on l (event_of own (records.Of own (events.Expired lcid Poll))) ≡ events.Expired lcid Poll ∷ []
expiry_told l Nb lcid same = ap (λ (b : Bool). if b then events.Expired lcid Poll ∷ [] else []) (eq-eqb lcid l same)
expiry_told l Ue lcid same = ap (λ (b : Bool). if b then events.Expired lcid Poll ∷ [] else []) (eq-eqb lcid l same)

-- by what they tell of both ends
pub none_expire : (l : ℕ) (xs : List Record) → ((side : Side) → NoneExpires (told_on l (events_of side xs)))
    → AllByRecursion (TellsNoExpiry l) xs
none_expire l [] none = tt
none_expire l (one ∷ xs) none =
    let parts : (side : Side) → NoneExpires (told_on l (event_of side one) ++ told_on l (events_of side xs)) =
    λ side. subst NoneExpires (told_parts l side one xs) (none side) in (
      by one
          (λ side. front IsNoExpiry (told_on l (event_of side one)) (told_on l (events_of side xs)) (parts side)),
      none_expire l xs
          (λ side. rest IsNoExpiry (told_on l (event_of side one)) (told_on l (events_of side xs)) (parts side)),
    )
  where
    by : (one : Record) → ((side : Side) → NoneExpires (told_on l (event_of side one))) → TellsNoExpiry l one
    by (records.Of own (events.Expired lcid Poll)) none =
        λ same. (subst NoneExpires (expiry_told l own lcid same) (none own)).0
    by (records.Of own event) none = tt
    by one none = tt

-- and where no event of the channel is told at all
pub none_answer : (l : ℕ) (may_take : MayTake) (past : List Group) (before : List Record) (xs : List ReadRecord)
    → ((side : Side) → told_on l (events_of side (records_of xs)) ≡ []) → AnswerAlike l may_take past before xs
none_answer l may_take past before xs none =
    unexpired_answer l may_take past before xs
    (none_expire l (records_of xs) (λ side. subst NoneExpires (sym (none side)) tt))

-- ---- the records of a step are answered: behind those of the step itself stand some that log nothing

pub step_answered : (l : ℕ) (a : Air) (s : AirStep) (xs : List ReadRecord) → AreStepsRead l (s ∷ []) a xs
    → AllByRecursion (IsAnswered l a) xs
step_answered l a s xs h =
    let none : logged h.others.0 (records_of h.later) ≡ [] = h.others.1 in
    subst (AllByRecursion (IsAnswered l a)) (sym h.are)
    (all_more (IsAnswered l a) h.now h.later h.first.answered
    (silent_answered l a h.later
    (own_records_tell l Nb h.others.0 h.later (subst (AllByRecursion (IsTold Nb)) (sym none) tt))
    (own_records_tell l Ue h.others.0 h.later (subst (AllByRecursion (IsTold Ue)) (sym none) tt))))

-- ---- what an own call of a side's bearer tells

-- an expiry on the channel that the other side doesn't tell is its own
own_expiry : (l : ℕ) (side own : Side) (lcid : ℕ) → lcid ≡ l
    → told_on l (event_of (other side) (records.Of own (events.Expired lcid Poll))) ≡ [] → own ≡ side
own_expiry l Nb Nb lcid same none = refl
own_expiry l Ue Ue lcid same none = refl
own_expiry l Nb Ue lcid same none =
    let no : events.Expired lcid Poll ∷ [] ≡ [] = sym (expiry_told l Ue lcid same) ∙ none in absurd cc
own_expiry l Ue Nb lcid same none =
    let no : events.Expired lcid Poll ∷ [] ≡ [] = sym (expiry_told l Nb lcid same) ∙ none in absurd cc

loops_parts : (l : ℕ) (one : Record) (xs : List Record) → loops_in l (one ∷ xs) ≡ []
    → (loops_in l (one ∷ []) ≡ []) × (loops_in l xs ≡ [])
loops_parts l (records.Looped lcid octets) xs none = by (lcid == l) none
  where
    by : (b : Bool)
        → map sdu_of (if b then records.Looped lcid octets ∷ filter (is_looped l) xs else filter (is_looped l) xs) ≡ []
        → (map sdu_of (if b then records.Looped lcid octets ∷ [] else []) ≡ []) × (loops_in l xs ≡ [])
    by true none = absurd cc
    by false none = (refl, none)
loops_parts l one xs none = (refl, none)

-- the end that acts
same_end : (side : Side) (a : Air) → (station_of side a).end ≡ end_at side a
same_end Nb a = refl
same_end Ue a = refl

one_behind : (told : List Record) (one : Record) → reverse (told ++ one ∷ []) ≡ one ∷ reverse told
one_behind told one = reverse-append told (one ∷ [])

module _ (l : ℕ) (low : l ≤ 10) (newer : List Group) (now : Group) (past : List Group)
    (none : submitted_by now.line ≡ None) where
  abbrev may : MayTake
  may = may_take_by histories (newer ++ now ∷ past)

  -- what a side's end answers is answered alike while something holds, which records that tell nothing of the channel
  -- leave
  module _ (side : Side) (a : Air) (Holds : List Record → Type 0) (IsFine : Record → Type 0)
      (alike : (told : List Record) → Holds told
      → may past (reverse told) (expires side l) ≡ has_something (flow l (end_at side a)))
      (stays : (told : List Record) (one : Record) → Holds told → told_on l (events_of side (one ∷ [])) ≡ []
      → told_on l (events_of (other side) (one ∷ [])) ≡ [] → loops_in l (one ∷ []) ≡ [] → IsFine one
      → Holds (told ++ one ∷ [])) where
    first_alike : (told : List Record) → Holds told → (one : Record) (more : Bool)
        → RecordIsAnswered l a one more → told_on l (event_of (other side) one) ≡ []
        → AnswersAlike l (may past (reverse told) one) more one
    first_alike told h (records.Of own (events.Expired lcid Poll)) more answered far = λ same.
        let mine : own ≡ side = own_expiry l side own lcid same far in
        let has : more ≡ has_something (flow l (station_of side a).end) =
        subst (λ (s : Side). more ≡ has_something (flow l (station_of s a).end)) mine (answered same) in
        ap (λ (s : Side). may past (reverse told) (records.Of s (events.Expired lcid Poll))) mine
        ∙ (ap (λ (n : ℕ). may past (reverse told) (expires side n)) same
        ∙ (alike told h ∙ sym (has ∙ ap (λ (e : End). has_something (flow l e)) (same_end side a))))
    first_alike told h (records.Of own event) more answered far = tt
    first_alike told h one more answered far = tt

    go_on : (xs : List ReadRecord) (told : List Record) (es : List Event) → OnlyFirst es
        → told_on l (events_of side (records_of xs)) ≡ es → told_on l (events_of (other side) (records_of xs)) ≡ []
        → loops_in l (records_of xs) ≡ [] → AllByRecursion IsFine (records_of xs)
        → AllByRecursion (IsAnswered l a) xs → Holds told → AnswerAlike l may past (reverse told) xs
    go_on [] told es first own far loops fine answered h = tt
    go_on (x ∷ xs) told es first own far loops fine answered h =
        let others = records_of xs in
        let far' = parts_empty (told_on l (event_of (other side) x.one)) (told_on l (events_of (other side) others))
        (sym (told_parts l (other side) x.one others) ∙ far) in
        let loops' = loops_parts l x.one others loops in (
          first_alike told h x.one x.more answered.0 far'.0,
          by (told_on l (event_of side x.one)) refl (sym (told_parts l side x.one others) ∙ own) far' loops'
              (λ now_holds own'. subst (λ (before : List Record). AnswerAlike l may past before xs)
              (one_behind told x.one)
              (go_on xs (told ++ x.one ∷ []) es first own' far'.1 loops'.1 fine.1 answered.1 now_holds)),
        )
      where
        by : (told_here : List Event) → told_on l (event_of side x.one) ≡ told_here
            → told_on l (event_of side x.one) ++ told_on l (events_of side (records_of xs)) ≡ es
            → (told_on l (event_of (other side) x.one) ≡ [])
            × (told_on l (events_of (other side) (records_of xs)) ≡ [])
            → (loops_in l (x.one ∷ []) ≡ []) × (loops_in l (records_of xs) ≡ [])
            → (Holds (told ++ x.one ∷ []) → told_on l (events_of side (records_of xs)) ≡ es
            → AnswerAlike l may past (x.one ∷ reverse told) xs)
            → AnswerAlike l may past (x.one ∷ reverse told) xs
        by [] here own far loops more =
            more
            (stays told x.one h (told_parts l side x.one [] ∙ ap (λ (zs : List Event). zs ++ []) here)
            (told_parts l (other side) x.one [] ∙ ap (λ (zs : List Event). zs ++ []) far.0) loops.0 fine.0)
            (ap (λ (zs : List Event). zs ++ told_on l (events_of side (records_of xs))) (sym here) ∙ own)
        by (e ∷ told_here) here own far loops more =
            let behind_first : NoneExpires (told_here ++ told_on l (events_of side (records_of xs))) =
            subst OnlyFirst
            (sym own ∙ ap (λ (zs : List Event). zs ++ told_on l (events_of side (records_of xs))) here) first in
            unexpired_answer l may past (x.one ∷ reverse told) xs
            (none_expire l (records_of xs)
            (of_both side (λ (s : Side). NoneExpires (told_on l (events_of s (records_of xs))))
            (rest IsNoExpiry told_here (told_on l (events_of side (records_of xs))) behind_first)
            (subst NoneExpires (sym far.1) tt)))

    -- the test loop submits nothing on the channel, where anything is told of it
    pub holds_answers : (told : List Record) (xs : List ReadRecord) (es : List Event) → OnlyFirst es
        → told_on l (events_of side (records_of xs)) ≡ es → told_on l (events_of (other side) (records_of xs)) ≡ []
        → (es ≡ []) ⊎ (loops_in l (records_of xs) ≡ []) → AllByRecursion IsFine (records_of xs)
        → AllByRecursion (IsAnswered l a) xs → Holds told → AnswerAlike l may past (reverse told) xs
    holds_answers told xs es first own far (inl silent) fine answered h =
        none_answer l may past (reverse told) xs
        (of_both side (λ (s : Side). told_on l (events_of s (records_of xs)) ≡ []) (own ∙ silent) far)
    holds_answers told xs es first own far (inr loops) fine answered h =
        go_on xs told es first own far loops fine answered h

  pub call_answers : (side : Side) (call : Call) (a : Air) (told : List Record) (xs : List ReadRecord)
      (b : Bearer History) (d : State) (rlc : Progress) → IsOwn call → flow l (end_at side a) ≡ Am d
      → IsSupplied rlc d.pdcp.tx (side_of side b) → bearer_first l now past told ≡ Some b
      → told_on l (events_of side (records_of xs)) ≡ tells d call
      → told_on l (events_of (other side) (records_of xs)) ≡ []
      → (tells d call ≡ []) ⊎ (loops_in l (records_of xs) ≡ [])
      → AllByRecursion BringsNoBlock (records_of xs) → AllByRecursion (IsAnswered l a) xs
      → AnswerAlike l may past (reverse told) xs
  call_answers side call a told xs b d rlc mine flow_is given is own far loops blocks answered =
      holds_answers side a (λ (zs : List Record). bearer_first l now past zs ≡ Some b) BringsNoBlock
      (λ zs zs_is.
      (may_take_by_records l newer now past zs side low).acked b
      (before_is l low newer now past none zs (expires side l) ∙ zs_is)
      ∙ (sym (more_is_takeable rlc d (side_of side b) given) ∙ ap has_something (sym flow_is)))
      (λ zs one zs_is told_none far_none loops_none block.
      (records_gather l low newer now past none side (one ∷ []) zs [] b told_none far_none loops_none (block, tt)
      zs_is tt).is
      ∙ ap (λ (s : Bearer History). Some s) (same_side side b))
      told xs (tells d call) (call-first d call mine) own far loops blocks answered is

  -- ---- so journals agree behind them, the latest record first

  records_behind : (ks : List (Option Layout)) (before told : List Record) (more : List Record) (j : Journal Histories)
      → behind_records flows may past ks before (told ++ more) j
      ≡ behind_records flows may past ks (reverse told ++ before) more (behind_records flows may past ks before told j)
  records_behind ks before [] more j = refl
  records_behind ks before (one ∷ told) more j =
      let i = behind_record flows ks (may past before one) one j in
      records_behind ks (one ∷ before) told more i
      ∙ ap (λ (zs : List Record). behind_records flows may past ks zs more
      (behind_records flows may past ks (one ∷ before) told i))
      (sym (append_assoc (reverse told) (one ∷ []) before)
      ∙ ap (λ (zs : List Record). zs ++ before) (sym (reverse-append (one ∷ []) told)))

  pub journal_more : (told more : List Record) → journal_at l low newer now past none (told ++ more)
      ≡ behind_records flows may past (kinds (now ∷ past)) (reverse told) more
      (journal_at l low newer now past none told)
  journal_more told more =
      let ks = kinds (now ∷ past) in
      records_behind ks [] told more (behind_line flows now.line (behind flows no_events may past))
      ∙ ap (λ (before : List Record). behind_records flows may past ks before more
      (journal_at l low newer now past none told)) (append-nil (reverse told))

  pub agree_more : (told : List Record) (xs : List ReadRecord) (j : Journal Histories)
      → AgreeOn l (journal_at l low newer now past none told) j → AnswerAlike l may past (reverse told) xs
      → AgreeOn l (journal_at l low newer now past none (told ++ records_of xs)) (behind_all (kinds (now ∷ past)) xs j)
  agree_more told xs j agree answers =
      let ks = kinds (now ∷ past) in
      subst (λ (i : Journal Histories). AgreeOn l i (behind_all ks xs j)) (sym (journal_more told (records_of xs)))
      ((journals_agree l (journal_at l low newer now past none told) j agree).all ks may past (reverse told) xs answers)
