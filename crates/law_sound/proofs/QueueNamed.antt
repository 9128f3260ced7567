-- Behind each group of a journal in order no PDU is named that isn't in a block: each block carries just the PDUs that
-- are named before it.
use Rattle.std.proofs.Common.{◌≡◌, ◌≤◌, ℕ, Bool, true, false, if◌then◌else◌, Option, None, List, [], ◌∷◌, ◌++◌, map}
use Rattle.std.proofs.Common.{append-nil, refl, ap, ◌∙◌}
use Rattle.std.specs.List.{All, filter}
use Rattle.std.proofs.lemmas.List.Elements.{All-head, All-tail}
use Rattle.air_record.specs.declared.record.Record.{Record}
use Rattle.air_record.specs.declared.record.Record.TheVariants as records
use Rattle.air_record.specs.Submissions.{submitted_by}
use Rattle.air_text.specs.Groups.{Group}
use Rattle.bearer_types.specs.Sides.{sent_by}
use Rattle.bearer_types.specs.declared.event.Event.{Event}
use Rattle.bearer_types.specs.declared.event.Event.TheVariants as events
use Rattle.l2_types.specs.declared.side.Side.{Side}
use Rattle.l2_types.specs.declared.side.Side.TheVariants.{Nb, Ue}
use Rattle.mac_pdu.specs.declared.item.Direction.TheVariants as directions
use Rattle.pdu_show.specs.declared.kinds.Layout.{Layout}
use Rattle.promises.specs.Blocks.{kinds}
use Rattle.promises.specs.Events.{is_of_loop}
use Rattle.promises.specs.Names.{SentPdu}
use Rattle.promises.specs.Records.{is_got}
use Rattle.promises.specs.RightForm.{IsBuilt, is_built, send_record}
use Rattle.journal_flows.specs.declared.sending.Named.{Named}
use Rattle.journal_flows.specs.FlowsTold.{Histories, histories, no_events}
use Rattle.journal_flows.specs.Gathering.{Journal, MayTake, Sending, sending_of, behind, behind_end, behind_line}
use Rattle.journal_flows.specs.Gathering.{behind_record, behind_records, is_handover, within}
use Rattle.law_given.proofs.GivenRecords.{journal_at}
use Rattle.law_run.specs.Order.{KeepsOrder}
use Rattle.law_run.specs.TwoEnds.Logs.{Hears, Tells, logged_at, no_flight}
use Rattle.law_words.specs.Sequences.{joined}
use Rattle.law_sound.specs.NamedLogs.{named_over}
use Rattle.law_sound.proofs.GroupBearers.{formed_at}
use Rattle.law_sound.proofs.Groups.{sending_line}
use Rattle.law_sound.proofs.NamedLogs.{record_names}

-- what `send` records and new blocks leave named on a side
abbrev built_over : Side → List Record → List Named → List Named
built_over side [] named = named
built_over side (one ∷ xs) named = built_over side xs (named_over side (logged_at no_flight one) named)

built_more : (side : Side) (xs ys : List Record) (named : List Named)
    → built_over side (xs ++ ys) named ≡ built_over side ys (built_over side xs named)
built_more side [] ys named = refl
built_more side (one ∷ xs) ys named = built_more side xs ys (named_over side (logged_at no_flight one) named)

-- ---- other records name none

event_leaves : (side own : Side) (e : Event) (loop : Bool) → is_of_loop e ≡ loop → (named : List Named)
    → is_built side (records.Of own e) ≡ false
    → named_over side (if loop then [] else Tells own e ∷ []) named ≡ named
event_leaves side own e true q named off = refl
event_leaves Nb Nb (events.Send lcid how sn) false q named off = absurd cc
event_leaves Ue Ue (events.Send lcid how sn) false q named off = absurd cc
event_leaves Nb Nb e false q named off = append-nil named
event_leaves Ue Ue e false q named off = append-nil named
event_leaves Nb Ue e false q named off = refl
event_leaves Ue Nb e false q named off = refl

got_leaves : (side : Side) (b : Bool) (own : Side) (process : ℕ) (octets : List ℕ) (named : List Named)
    → named_over side (if b then Hears own process octets ∷ [] else []) named ≡ named
got_leaves side true own process octets named = refl
got_leaves side false own process octets named = refl

leaves_named : (side : Side) (one : Record) (named : List Named) → is_built side one ≡ false
    → named_over side (logged_at no_flight one) named ≡ named
leaves_named side (records.Of own e) named off = event_leaves side own e (is_of_loop e) refl named off
leaves_named Nb (records.Block directions.Down process true version octets) named off = absurd cc
leaves_named Nb (records.Block directions.Up process true version octets) named off = refl
leaves_named Ue (records.Block directions.Down process true version octets) named off = refl
leaves_named Ue (records.Block directions.Up process true version octets) named off = absurd cc
leaves_named side (records.Air direction what heard) named off = got_leaves side (is_got what) _ _ [] named
leaves_named side one named off = refl

-- ---- records of a group

one_named : (side : Side) (b : Bool) (one : Record) (xs : List Record) (named : List Named) → is_built side one ≡ b
    → built_over side (filter (is_built side) xs) (named_over side (logged_at no_flight one) named)
    ≡ built_over side (if b then one ∷ filter (is_built side) xs else filter (is_built side) xs) named
one_named side true one xs named q = refl
one_named side false one xs named q = ap (built_over side (filter (is_built side) xs)) (leaves_named side one named q)

records_named : (may_take : MayTake) (past : List Group) (ks : List (Option Layout)) (before told : List Record)
    (side : Side) (j : Journal Histories)
    → (sending_of side (behind_records histories may_take past ks before told j)).named
    ≡ built_over side (filter (is_built side) told) (sending_of side j).named
records_named may_take past ks before [] side j = refl
records_named may_take past ks before (one ∷ told) side j =
    let more = may_take past before one in
    records_named may_take past ks (one ∷ before) told side (behind_record histories ks more one j)
    ∙ ap (built_over side (filter (is_built side) told)) (record_names ks more no_flight one side j)
    ∙ one_named side (is_built side one) one told (sending_of side j).named refl

-- ---- `send` records, and the block of the PDUs that they name

sends_named : (side : Side) (sent : List SentPdu) (process version : ℕ) (octets : List ℕ) (named : List Named)
    → built_over side
    (map (send_record side) sent ++ records.Block (sent_by side) process true version octets ∷ []) named ≡ []
sends_named Nb [] process version octets named = refl
sends_named Ue [] process version octets named = refl
sends_named side (s ∷ sent) process version octets named =
    sends_named side sent process version octets (named_over side (logged_at no_flight (send_record side s)) named)

parts_named : (side : Side) (ks : List (Option Layout)) (parts : List (List Record)) → All (IsBuilt side ks) parts
    → built_over side (joined parts) [] ≡ []
parts_named side ks [] h = refl
parts_named side ks (part ∷ parts) h =
    let x = All-head (IsBuilt side ks) part parts h in
    built_more side part (joined parts) []
    ∙ ap (built_over side (joined parts))
    (ap (λ (told : List Record). built_over side told []) x.told_is
    ∙ sends_named side x.sent x.process x.version x.octets [])
    ∙ parts_named side ks parts (All-tail (IsBuilt side ks) part parts h)

-- ---- behind groups

end_named : (side : Side) (over : Bool) (j : Journal Histories) → (sending_of side j).named ≡ []
    → (sending_of side (behind_end histories over j)).named ≡ []
end_named Nb true j none = refl
end_named Ue true j none = refl
end_named side false j none = none

pub none_named_behind : (may_take : MayTake) (past : List Group) (side : Side) → KeepsOrder past
    → (sending_of side (behind histories no_events may_take past)).named ≡ []
none_named_behind may_take [] Nb order = refl
none_named_behind may_take [] Ue order = refl
none_named_behind may_take (now ∷ past) side (right, order) =
    let ks = kinds (now ∷ past) in
    let before = behind histories no_events may_take past in
    let x = formed_at past now (right, order) side in
    let first : (sending_of side (behind_line histories now.line before)).named ≡ [] =
    ap (λ (s : Sending). s.named) (sending_line side now.line before) ∙ none_named_behind may_take past side order in
    end_named side (is_handover now.line) (within histories may_take now past before)
    (records_named may_take past ks [] now.events side (behind_line histories now.line before)
    ∙ ap (built_over side (filter (is_built side) now.events)) first
    ∙ ap (λ (told : List Record). built_over side told []) x.told_are
    ∙ parts_named side ks x.parts x.are_each)

-- nor as the records of the next one begin
pub none_named_first : (l : ℕ) (low : l ≤ 10) (newer : List Group) (now : Group) (past : List Group)
    (none : submitted_by now.line ≡ None) (side : Side) → KeepsOrder past
    → (sending_of side (journal_at l low newer now past none [])).named ≡ []
none_named_first l low newer now past none side order =
    ap (λ (s : Sending). s.named) (sending_line side now.line _) ∙ none_named_behind _ past side order
