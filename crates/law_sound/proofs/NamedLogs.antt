-- What records name is what their log names, and a step of both ends leaves none named.
use Rattle.std.proofs.Common.{◌≡◌, ℕ, ◌%◌, Bool, true, false, if◌then◌else◌, Option, Some, None, IfSome, List, []}
use Rattle.std.proofs.Common.{◌∷◌, ◌++◌, map, slice_get, append-nil, append_assoc, refl, ap, sym, ◌∙◌}
use Rattle.std.specs.Prelude.{unwrap_or}
use Rattle.std.proofs.lemmas.List.{map-append}
use Rattle.air_record.specs.declared.record.Record.{Record}
use Rattle.air_record.specs.declared.record.Record.TheVariants as records
use Rattle.bearer_types.specs.Sides.{is_same, other, sender_of}
use Rattle.bearer_types.specs.declared.event.Event.{Event}
use Rattle.bearer_types.specs.declared.event.Event.TheVariants as events
use Rattle.harq.specs.declared.sender.Visit.{Visit}
use Rattle.harq.specs.declared.sender.Visit.TheVariants.{New, Resend, Silent}
use Rattle.l2_node.specs.Building.{visit, visited, visit_events, building}
use Rattle.l2_node.specs.End.{End}
use Rattle.l2_node.specs.Hearing.{received, ticked, expiry}
use Rattle.l2_node.specs.Moving.{leaving}
use Rattle.l2_node.specs.Writing.{new_block}
use Rattle.l2_types.specs.declared.side.Side.{Side}
use Rattle.l2_types.specs.declared.side.Side.TheVariants.{Nb, Ue}
use Rattle.mac_pdu.specs.declared.item.Direction.TheVariants as directions
use Rattle.pdu_show.specs.declared.kinds.Layout.{Layout}
use Rattle.promises.specs.Events.{is_of_loop}
use Rattle.promises.specs.Names.{SentPdu, sent_pdus}
use Rattle.promises.specs.Records.{is_got}
use Rattle.journal_flows.specs.declared.sending.Named.{Named}
use Rattle.journal_flows.specs.FlowsTold.{Histories, histories}
use Rattle.journal_flows.specs.Gathering.{Journal, sending_of, behind_event, behind_landing, behind_record}
use Rattle.law_deliver.specs.AmChannel.Lives.{AirStep, InLife, Moves}
use Rattle.law_deliver.specs.AmFlow.Air.{Block, Station, Air, Act, Calls, Comes, Goes, AtNb, AtUe, Passes, built_at}
use Rattle.law_node.specs.Calls.{Turn, Call, Tick, Visits, Receive, Expire, Move}
use Rattle.law_node.specs.Telling.{told_of}
use Rattle.law_node.specs.Writing.{TellNone}
use Rattle.law_node.proofs.Silences.{writes_nothing}
use Rattle.law_run.specs.TwoEnds.Logs.{LogEntry, Tells, Builds, Hears, Flight, flight_behind, logged_at, logged}
use Rattle.law_run.specs.TwoEnds.Logs.{process_of, all_tell, log_in, log_come, log_by, log_at}
use Rattle.law_run.proofs.AnyCalls.Blocks.{sends_kept}
use Rattle.law_sound.specs.LoadLaws.{name_of}
use Rattle.law_sound.specs.LoggedRecords.{records_of}
use Rattle.law_sound.specs.NamedLogs.{named_at, named_over, RecordsNameTheLog, EventsName, EndsSendAsTheyBuild}
use Rattle.law_sound.specs.NamedLogs.{StepsLeaveNoneNamed}
use Rattle.law_sound.proofs.Records.{sent_both}

-- ---- a record

event_names : (kinds : List (Option Layout)) (more : Bool) (own : Side) (e : Event) (side : Side)
    (j : Journal Histories)
    → (sending_of side (behind_event histories kinds more own e j)).named
    ≡ named_at side (Tells own e) (sending_of side j).named
event_names kinds more Nb (events.Send lcid how sn) Nb j = refl
event_names kinds more Nb (events.Send lcid how sn) Ue j = refl
event_names kinds more Ue (events.Send lcid how sn) Nb j = refl
event_names kinds more Ue (events.Send lcid how sn) Ue j = refl
event_names kinds more Nb e Nb j = sym (append-nil j.nb.named)
event_names kinds more Nb e Ue j = refl
event_names kinds more Ue e Nb j = refl
event_names kinds more Ue e Ue j = sym (append-nil j.ue.named)

loop_sends : (e : Event) → is_of_loop e ≡ true → sent_pdus (e ∷ []) ≡ []
loop_sends (events.Send lcid how sn) q = let no : false ≡ true = q in absurd cc
loop_sends e q = refl

-- what names none
none_more : (side own : Side) (ss : List SentPdu) (named : List Named) → ss ≡ []
    → (if is_same side own then named ++ map name_of ss else named) ≡ named
none_more side own ss named none = by (is_same side own)
  where
    by : (b : Bool) → (if b then named ++ map name_of ss else named) ≡ named
    by true = ap (λ (xs : List SentPdu). named ++ map name_of xs) none ∙ append-nil named
    by false = refl

pub record_names : (kinds : List (Option Layout)) (more : Bool) (before : Flight) (one : Record) (side : Side)
    (j : Journal Histories)
    → (sending_of side (behind_record histories kinds more one j)).named
    ≡ named_over side (logged_at before one) (sending_of side j).named
record_names kinds more before (records.Of own e) side j = by (is_of_loop e) refl
  where
    by : (b : Bool) → is_of_loop e ≡ b
        → (sending_of side (behind_event histories kinds more own e j)).named
        ≡ named_over side (if b then [] else Tells own e ∷ []) (sending_of side j).named
    by true q =
        event_names kinds more own e side j
        ∙ none_more side own (sent_pdus (e ∷ [])) (sending_of side j).named (loop_sends e q)
    by false q = event_names kinds more own e side j
record_names kinds more before (records.Block directions.Down process true version octets) Nb j = refl
record_names kinds more before (records.Block directions.Down process true version octets) Ue j = refl
record_names kinds more before (records.Block directions.Up process true version octets) Nb j = refl
record_names kinds more before (records.Block directions.Up process true version octets) Ue j = refl
record_names kinds more before (records.Block directions.Down process false version octets) Nb j = refl
record_names kinds more before (records.Block directions.Down process false version octets) Ue j = refl
record_names kinds more before (records.Block directions.Up process false version octets) Nb j = refl
record_names kinds more before (records.Block directions.Up process false version octets) Ue j = refl
record_names kinds more before (records.Air direction what heard) side j = by (is_got what) side
  where
    by : (b : Bool) (s : Side) → (sending_of s (if b then behind_landing histories direction j else j)).named
        ≡ named_over s (if b then Hears (other (sender_of direction)) (process_of (sender_of direction) before)
        before.octets ∷ [] else []) (sending_of s j).named
    by true Nb = refl
    by true Ue = refl
    by false s = refl
record_names kinds more before one side j = refl

-- ---- all records

over_then : (side : Side) (xs ys : List LogEntry) (named : List Named)
    → named_over side (xs ++ ys) named ≡ named_over side ys (named_over side xs named)
over_then side [] ys named = refl
over_then side (x ∷ xs) ys named = over_then side xs ys (named_at side x named)

pub records_name : RecordsNameTheLog
records_name kinds side before [] j = refl
records_name kinds side before (x ∷ xs) j =
    let log = logged (flight_behind x.one before) (records_of xs) in
    records_name kinds side (flight_behind x.one before) xs (behind_record histories kinds x.more x.one j)
    ∙ (ap (named_over side log) (record_names kinds x.more before x.one side j)
    ∙ sym (over_then side (logged_at before x.one) log (sending_of side j).named))

pub events_name : EventsName
events_name side own [] named = sym (none_more side own [] named refl)
events_name side own (e ∷ told) named =
    events_name side own told (named_at side (Tells own e) named) ∙ by (is_same side own)
  where
    by : (b : Bool)
        → (if b then (if b then named ++ map name_of (sent_pdus (e ∷ [])) else named) ++ map name_of (sent_pdus told)
        else (if b then named ++ map name_of (sent_pdus (e ∷ [])) else named))
        ≡ (if b then named ++ map name_of (sent_pdus (e ∷ told)) else named)
    by true =
        append_assoc named (map name_of (sent_pdus (e ∷ []))) (map name_of (sent_pdus told))
        ∙ ap (λ (ns : List Named). named ++ ns)
        (sym (ap (λ (ss : List SentPdu). map name_of ss) (sent_both (e ∷ []) told)
        ∙ map-append name_of (sent_pdus (e ∷ [])) (sent_pdus told)))
    by false = refl

events_name_none : (side own : Side) (told : List Event) (named : List Named) → sent_pdus told ≡ []
    → named_over side (all_tell own told) named ≡ named
events_name_none side own told named none =
    events_name side own told named ∙ none_more side own (sent_pdus told) named none

-- ---- a call

none_sent : (told : List Event) → TellNone told → sent_pdus told ≡ []
none_sent told none = sym (sends_kept told) ∙ ap sent_pdus none

none_sent_if : (r : Option (List Event)) → IfSome r TellNone → sent_pdus (unwrap_or r []) ≡ []
none_sent_if None none = refl
none_sent_if (Some told) none = none_sent told none

visit_sends : (v : Visit) (t : Turn) (e : End) → map (λ (b : Block). b.octets) (built_at v t e) ≡ []
    → sent_pdus (visit_events v t.grant e) ≡ []
visit_sends New t e none = let no : new_block e t.grant ∷ [] ≡ [] = none in absurd cc
visit_sends (Resend rv) t e none = refl
visit_sends Silent t e none = refl

pub ends_send_as_they_build : EndsSendAsTheyBuild
unfolding building
ends_send_as_they_build e (Visits t) none =
    visit_sends (visit t.tti t.order e) t (visited t.tti t.order e) none
ends_send_as_they_build e (Receive block) none =
    none_sent (received e block).events ((writes_nothing e).receiving block)
ends_send_as_they_build e Tick none = none_sent (ticked e).events (writes_nothing e).ticking
ends_send_as_they_build e (Expire lcid clock) none =
    none_sent_if (expiry lcid clock e) ((writes_nothing e).expiring lcid clock)
ends_send_as_they_build e (Move keys) none = none_sent (leaving e) (writes_nothing e).moving
ends_send_as_they_build e c none = refl

-- ---- a step: what is told of a new block is in it

visit_leaves : (v : Visit) (side own : Side) (t : Turn) (e : End) (told : List Event)
    → (map (λ (b : Block). b.octets) (built_at v t e) ≡ [] → sent_pdus told ≡ [])
    → named_over side (all_tell own told
    ++ map (λ (octets : List ℕ). Builds own (t.tti % 8) octets) (map (λ (b : Block). b.octets) (built_at v t e))) []
    ≡ []
visit_leaves New side own t e told none =
    over_then side (all_tell own told) (Builds own (t.tti % 8) (new_block e t.grant) ∷ []) []
    ∙ (ap (λ (ns : List Named). if is_same side own then [] else ns) (events_name side own told [])
    ∙ by (is_same side own))
  where
    by : (b : Bool) → (if b then [] else (if b then [] ++ map name_of (sent_pdus told) else [])) ≡ []
    by true = refl
    by false = refl
visit_leaves (Resend rv) side own t e told none =
    over_then side (all_tell own told) [] [] ∙ events_name_none side own told [] (none refl)
visit_leaves Silent side own t e told none =
    over_then side (all_tell own told) [] [] ∙ events_name_none side own told [] (none refl)

call_leaves : (side own : Side) (process : ℕ) (e : End) (c : Call) → named_over side (log_in own process e c) [] ≡ []
call_leaves side own process e (Visits t) =
    visit_leaves (visit t.tti t.order e) side own t (visited t.tti t.order e) (told_of e (Visits t))
    (ends_send_as_they_build e (Visits t))
call_leaves side own process e c =
    events_name_none side own (told_of e c) [] (ends_send_as_they_build e c refl)

come_leaves : (side own : Side) (e : End) (o : Option Block) → named_over side (log_come own e o) [] ≡ []
come_leaves side own e None = refl
come_leaves side own e (Some b) = call_leaves side own b.process e (Receive b.octets)

act_leaves : (side own : Side) (o : Station) (e : End) (x : Act) → named_over side (log_by own o e x) [] ≡ []
act_leaves side own o e (Calls c) = call_leaves side own 0 e c
act_leaves side own o e (Comes k) = come_leaves side own e (slice_get o.blocks k)
act_leaves side own o e (Goes k) = refl

step_leaves : (side : Side) (a : Air) (s : AirStep) → named_over side (log_at a s) [] ≡ []
step_leaves side a (InLife (AtNb x)) = act_leaves side Nb a.ue a.nb.end x
step_leaves side a (InLife (AtUe x)) = act_leaves side Ue a.nb a.ue.end x
step_leaves side a (InLife Passes) = refl
step_leaves side a (Moves keys) =
    let nb = told_of a.nb.end (Move keys) in
    let ue = told_of a.ue.end (Move keys) in
    over_then side (all_tell Nb nb) (all_tell Ue ue) []
    ∙ (ap (named_over side (all_tell Ue ue))
    (events_name_none side Nb nb [] (ends_send_as_they_build a.nb.end (Move keys) refl))
    ∙ events_name_none side Ue ue [] (ends_send_as_they_build a.ue.end (Move keys) refl))

pub steps_leave_none_named : StepsLeaveNoneNamed
steps_leave_none_named kinds side a s before xs j is none =
    records_name kinds side before xs j
    ∙ (ap (λ (log : List LogEntry). named_over side log (sending_of side j).named) is
    ∙ (ap (named_over side (log_at a s)) none ∙ step_leaves side a s))
