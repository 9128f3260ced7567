-- The records of an act of a side, of a block that comes to it, and of a new one that it builds.
use Rattle.std.proofs.Common.{◌≡◌, ℕ, ◌%◌, Bool, true, false, if◌then◌else◌, List, [], ◌∷◌, ◌++◌, map}
use Rattle.std.proofs.Common.{Option, Some, None, slice_get, slice_index_or}
use Rattle.std.proofs.Common.{refl, ap, sym, subst, ◌∙◌, arith}
use Rattle.std.specs.List.{AllByRecursion}
use Rattle.air_record.specs.declared.record.Arrived.TheVariants.{Got}
use Rattle.air_record.specs.declared.record.Record.{Record}
use Rattle.air_record.specs.declared.record.Record.TheVariants as records
use Rattle.bearer.specs.Acknowledged.State.{State, has_more}
use Rattle.bearer.specs.declared.flow.Flow.TheVariants.{Am}
use Rattle.bearer_types.specs.declared.event.Event.{Event}
use Rattle.bearer_types.specs.Sides.{is_same, other, sent_by, heard_by}
use Rattle.l2_node.specs.Finding.{has}
use Rattle.l2_types.specs.declared.side.Side.{Side}
use Rattle.l2_types.specs.declared.side.Side.TheVariants.{Nb, Ue}
use Rattle.law_deliver.specs.AmChannel.Lives.{end_at}
use Rattle.law_deliver.specs.AmChannel.Lives.{brought, calls_by}
use Rattle.law_deliver.specs.AmFlow.Air.{Block, Station, Air, Act, Calls, Comes}
use Rattle.law_deliver.specs.AmFlow.Air.{happens, IsDone}
use Rattle.law_deliver.specs.AmFlow.Carrying.{Builds}
use Rattle.law_deliver.specs.AmFlow.Ups.{calls_over}
use Rattle.law_node.specs.Calls.{Call, Visits, Receive}
use Rattle.law_node.specs.Holding.{flow}
use Rattle.law_node.specs.Names.{mode}
use Rattle.law_node.specs.Telling.{told_of}
use Rattle.pdcp_pdu.specs.declared.pdu.PdcpKind.{PdcpKind}
use Rattle.pdu_show.specs.declared.kinds.Layout.{Layout}
use Rattle.pdu_show.specs.declared.kinds.Layout.TheVariants as layouts
use Rattle.promises.specs.Names.{Acknowledged, SentPdu, sent_pdus}
use Rattle.promises.specs.Pdus.{carried}
use Rattle.promises.specs.SentNumbers.{AreNumbers}
use Rattle.journal_form.specs.Tests.{carries}
use Rattle.journal_form.specs.Checking.{Building, ends}
use Rattle.journal_form.proofs.NewBlocks.{carries_is}
use Rattle.journal_form.proofs.Units.{told_to, all_told, was_right}
use Rattle.journal_flows.specs.FlowsTold.{Histories, histories}
use Rattle.journal_flows.specs.Gathering.{Journal, sending_of, behind_record}
use Rattle.journal_status.specs.RightStatus.{ignored_told}
use Rattle.law_run.specs.TwoEnds.Along.{at_side}
use Rattle.law_run.specs.TwoEnds.Logs.{LogEntry, Hears, Flight, flight_behind, logged, logged_at, flight_in}
use Rattle.law_run.specs.TwoEnds.Logs.{all_tell, log_by, log_come}
use Rattle.law_run.specs.TwoEnds.Logs.{Builds as EndBuilds}
use Rattle.law_run.specs.TwoEnds.SenderLog.{BearerEntry, bearer_logs}
use Rattle.law_sound.specs.BesideLaws.{ReadRecord, behind_all, IsGatheredBehind, IsSentLast, IsNamed}
use Rattle.law_sound.specs.BesideLaws.{station_of, bearer_at, RecordsOfAct, AreRecordsOf, octets_of}
use Rattle.law_sound.specs.BesideSteps.{OfAct, OfComing, OfBuilding}
use Rattle.law_sound.specs.LoadLaws.{name_of}
use Rattle.law_sound.specs.LivedHistories.{Moment, coming_in}
use Rattle.law_sound.specs.LoggedRecords.{records_of, IsOwn, IsTold}
use Rattle.law_sound.specs.NamedLogs.{named_over}
use Rattle.law_sound.specs.StepReading.{read_as, HasCountOn, ignored_so_far, TellTruly, IsRead}
use Rattle.law_sound.proofs.BesideSteps.{behind_last}
use Rattle.law_sound.proofs.LoggedRecords.{own_records_tell}
use Rattle.law_sound.proofs.NamedLogs.{records_name, events_name, ends_send_as_they_build}
use Rattle.law_sound.proofs.NamedNumbers.{calls_are_numbered, other_records_write_none}
use Rattle.law_sound.proofs.NamedSteps.{telling_sends_none}
use Rattle.law_sound.proofs.StepLogs.{records_then, none_named, has_room, builds_none, flows_at, new_at}
use Rattle.law_sound.proofs.StepLogs.{there_at, given_at, log_at_side, logged_at_side, kind_at, call_comes}
use Rattle.law_sound.proofs.StepLogs.{block_carries, block_closes, next}
use Rattle.law_sound.proofs.StepReads.{said_at, Counts, Reads, plain_all, own_answered, there, step_read, block_true}
use Rattle.law_sound.specs.StepReading.{has_something, IsAnswered}
use Rattle.law_bearer.proofs.AnyBearer.SenderCalls.{all_then as each_then}
use Rattle.law_sound.proofs.StepNames.{told_more, with_sent, sent_of, names_told}
use Rattle.law_sound.proofs.StepRecords.{records_read, plain_logs, building_log, plain_records}
use Rattle.law_sound.proofs.StepRecords.{coming_records, building_records, all_told_by, are_records}
use Rattle.law_sound.proofs.StepStatuses.{ignored_next, ignored_both, record_quiet, IsPlain, plain_truly, then_truly}
use Rattle.law_sound.proofs.StepStatuses.{plain_same}
use Rattle.law_run.proofs.TwoEnds.Along.{logged_more}

module _ (kinds : List (Option Layout)) (kind : PdcpKind) (l : ℕ)
    (known : slice_index_or kinds l None ≡ Some (layouts.Am kind)) (a : Air) (m : Moment) (sent : Flight)
    (j : Journal Histories) (r : IsRead kind l a m j) where
  module _ (side : Side) where
    abbrev pub s : Station
    s = station_of side a

    abbrev pub b : State
    b = bearer_at side l r.lived.nb_bearer r.lived.ue_bearer a r.lived.air.by_air.flows

    is : flow l s.end ≡ Am b
    is = flows_at l side a m.pdus m.down m.up r.lived

    kind_is : b.pdcp.kind ≡ kind
    kind_is = kind_at (flow l s.end) b kind is (modes_at side r.modes)
      where
        modes_at : (side : Side) → ((side : Side) → mode (flow l (end_at side a)) ≡ Acknowledged kind)
            → mode (flow l (station_of side a).end) ≡ Acknowledged kind
        modes_at Nb modes = modes Nb
        modes_at Ue modes = modes Ue

    knows : slice_index_or kinds l None ≡ Some (layouts.Am b.pdcp.kind)
    knows = known ∙ ap (λ (k : PdcpKind). Some (layouts.Am k)) (sym kind_is)

    counted : (told : List Record) → AllByRecursion (HasCountOn kind l) told
        → AllByRecursion (HasCountOn b.pdcp.kind l) told
    counted told h = subst (λ (k : PdcpKind). AllByRecursion (HasCountOn k l) told) (sym kind_is) h

    -- what is logged of the act is what its bearer does
    of_side : (x : Act) (log : List BearerEntry) (rs : List ReadRecord) (written : List (List ℕ))
        → log ≡ bearer_logs l (Am b) (calls_over l (calls_by (station_of (other side) a) x) s.end)
        → AreRecordsOf kinds l side b log rs written
        → RecordsOfAct kinds l side a x m.pdus m.down m.up r.lived rs written
    of_side x log rs written same h =
        subst (λ (own : List BearerEntry). AreRecordsOf kinds l side b own rs written)
        (same ∙ sym (logged_at_side l side a x b)) h

    own_told : (told : List Record) (said : List Event) (flag : Bool) → logged sent told ≡ all_tell side said
        → AllByRecursion (λ (x : ReadRecord). IsOwn l side x.one) (read_as flag told)
    own_told told said flag logs =
        own_records_tell l side sent (read_as flag told)
        (subst (AllByRecursion (IsTold side))
        (sym (ap (logged sent) (records_read flag told) ∙ logs)) (all_told_by l side said))

    own_answers : (told : List Record)
        → AllByRecursion (λ (x : ReadRecord). IsOwn l side x.one) (read_as (has_more b.pdcp) told)
        → AllByRecursion (IsAnswered l a) (read_as (has_more b.pdcp) told)
    own_answers told own =
        own_answered kinds kind l side a (has_more b.pdcp) told (ap has_something (sym is)) own

    plain_told : (told : List Record) (said : List Event) (flag : Bool) → logged sent told ≡ all_tell side said
        → AllByRecursion (λ (x : ReadRecord). IsPlain x.one) (read_as flag told)
    plain_told told said flag logs = plain_all kinds kind l side (read_as flag told) (own_told told said flag logs)

    plain_each : (rs : List ReadRecord) → AllByRecursion (λ (x : ReadRecord). IsPlain x.one) rs → Counts kinds l j rs
        → TellTruly kinds l (said_at l j) j rs
    plain_each rs plain count =
        plain_truly kinds l rs (said_at l j) j plain
        (λ own.
        let now = count own in
        let same = plain_same kinds l rs own j plain in
        omega (arith, now, same))

    none_sent_by : (told : List Record) (said : List Event) → logged sent told ≡ all_tell side said
        → sent_pdus said ≡ [] → (own : Side) → all_told own kinds told none_named ≡ none_named
    none_sent_by told said logs none own =
        names_told own side kinds said told sent none_named logs
        ∙ ap (λ (pdus : List SentPdu). with_sent pdus none_named) (by (is_same own side))
      where
        by : (c : Bool) → (if c then sent_pdus said else []) ≡ []
        by true = none
        by false = refl

    -- an act in which no block is built or comes
    act_read : (x : Act) (told : List Record) (said : List Event) → IsDone l s x → (Builds s.end x → ⊥)
        → coming_in (other side) (at_side side x) m.pdus ≡ []
        → RecordsOfAct kinds l side a x m.pdus m.down m.up r.lived (read_as (has_more b.pdcp) told) []
        → logged sent told ≡ log_by side (station_of (other side) a) s.end x → logged sent told ≡ all_tell side said
        → sent_pdus said ≡ []
        → Reads a kinds kind l j (happens a (at_side side x)) (next l a m (at_side side x) r.lived) told
    act_read x told said done none quiet of logs tells none_sent' =
        let flag = has_more b.pdcp in
        let rs = read_as flag told in
        step_read kinds kind l a m sent j r (at_side side x) told rs (given_at l side a x done) (records_read flag told)
        (logs ∙ sym (log_at_side side a x)) (OfAct side x refl done none quiet of)
        (λ now count. plain_each rs (plain_told told said flag tells) count) (none_sent_by told said tells none_sent')
        (own_answers told (own_told told said flag tells))

    pub call_read : (c : Call) (told : List Record) → IsDone l s (Calls c) → (Builds s.end (Calls c) → ⊥)
        → AllByRecursion (HasCountOn kind l) told
        → logged sent told ≡ log_by side (station_of (other side) a) s.end (Calls c)
        → Reads a kinds kind l j (happens a (at_side side (Calls c))) (next l a m (at_side side (Calls c)) r.lived) told
    call_read c told done none has logs =
        let plain = plain_logs side 0 s c none done.2 in
        act_read (Calls c) told (told_of s.end c) done none (call_comes side c m.pdus)
        (of_side (Calls c) _ (read_as (has_more b.pdcp) told) [] refl
        (plain_records kinds l side b knows s (new_at l side a r.new)
        (there_at l side a (there kinds kind l a m sent j r)) is c sent told done.0
        done.1 (has_room s c done.2) none done.2 logs (counted told has))) logs (logs ∙ plain)
        (ends_send_as_they_build s.end c (builds_none s.end c none))

    -- one without records
    pub rest_read : (x : Act) (told : List Record) → IsDone l s x → (Builds s.end x → ⊥)
        → coming_in (other side) (at_side side x) m.pdus ≡ [] → calls_by (station_of (other side) a) x ≡ []
        → log_by side (station_of (other side) a) s.end x ≡ [] → AllByRecursion (HasCountOn kind l) told
        → logged sent told ≡ log_by side (station_of (other side) a) s.end x
        → Reads a kinds kind l j (happens a (at_side side x)) (next l a m (at_side side x) r.lived) told
    rest_read x told done none quiet no_calls no_log has logs =
        act_read x told [] done none quiet
        (of_side x [] (read_as (has_more b.pdcp) told) []
        (ap (λ (cs : List Call). bearer_logs l (Am b) (calls_over l cs s.end)) (sym no_calls))
        (are_records l side kinds b [] [] sent told [] knows (logs ∙ no_log) refl refl (counted told has))) logs
        (logs ∙ no_log) refl

    -- ---- a block comes: it is got, and then stands what its side tells

    -- it is the one that was sent last
    sent_last_is : (k : ℕ) (block : Block) → slice_get (station_of (other side) a).blocks k ≡ Some block
        → (sending_of (other side) j).process ≡ block.process
        → IsSentLast (sending_of (other side) j) (station_of (other side) a).blocks block
    sent_last_is k block at is' = record { last = block; place = k; there = at; process = is'; octets = refl }

    pub got_read : (k : ℕ) (block : Block) (heard : Option Bool) (told : List Record)
        → slice_get (station_of (other side) a).blocks k ≡ Some block
        → (sending_of (other side) j).process ≡ block.process → AllByRecursion (HasCountOn kind l) told
        → logged_at sent (records.Air (heard_by side) Got heard) ≡ Hears side block.process block.octets ∷ []
        → logged (flight_behind (records.Air (heard_by side) Got heard) sent) told
        ≡ all_tell side (told_of s.end (Receive block.octets))
        → Reads a kinds kind l j (happens a (at_side side (Comes k))) (next l a m (at_side side (Comes k)) r.lived)
        (records.Air (heard_by side) Got heard ∷ told)
    got_read k block heard told at is' has first logs =
        let flag = has_more b.pdcp in
        let got = records.Air (heard_by side) Got heard in
        let air : ReadRecord = record { more = flag; one = got } in
        let ys = read_as flag told in
        let x = Comes k in
        let said = told_of s.end (Receive block.octets) in
        let o = station_of (other side) a in
        let log : logged sent (got ∷ told) ≡ log_by side o s.end x =
        ap (λ (hs : List LogEntry). hs ++ logged (flight_behind got sent) told) first
        ∙ (ap (λ (hs : List LogEntry). Hears side block.process block.octets ∷ hs) logs
        ∙ ap (log_come side s.end) (sym at)) in
        let of = of_side x _ ys []
        (ap (λ (bs : Option Block). bearer_logs l (Am b) (calls_over l (brought bs) s.end)) (sym at))
        (coming_records kinds l side b knows s (new_at l side a r.new)
        (there_at l side a (there kinds kind l a m sent j r)) is block.process
        block.octets (flight_behind got sent) told logs (counted told has)) in
        let own = own_records_tell l side (flight_behind got sent) ys
        (subst (AllByRecursion (IsTold side))
        (sym (ap (logged (flight_behind got sent)) (records_read flag told) ∙ logs)) (all_told_by l side said)) in
        step_read kinds kind l a m sent j r (at_side side x) (got ∷ told) (air ∷ ys) (given_at l side a x tt)
        (ap (λ (rs : List Record). got ∷ rs) (records_read flag told)) (log ∙ sym (log_at_side side a x))
        (OfComing side k block flag Got heard ys refl refl refl at (sent_last_is k block at is') of)
        (λ now count. got_truly air ys (plain_all kinds kind l side ys own) refl count)
        (λ own'. names_behind own' heard told said logs (ends_send_as_they_build s.end (Receive block.octets) refl))
        (tt, own_answers told own)
      where
        -- behind it not more are told of than were ignored as it came
        got_truly : (air : ReadRecord) (ys : List ReadRecord) → AllByRecursion (λ (x : ReadRecord). IsPlain x.one) ys
            → air.one ≡ records.Air (heard_by side) Got heard → Counts kinds l j (air ∷ ys)
            → TellTruly kinds l (said_at l j) j (air ∷ ys)
        got_truly air ys plain same count =
            subst (λ (one : Record).
            Counts kinds l j (record { more = air.more; one = one } ∷ ys)
            → TellTruly kinds l (said_at l j) j (record { more = air.more; one = one } ∷ ys)) (sym same)
            (λ count'.
            let i = behind_record histories kinds air.more (records.Air (heard_by side) Got heard) j in (
              tt,
              λ own q. let no : false ≡ true = q in absurd cc,
              plain_truly kinds l ys _ i plain
                  (λ own.
                  let all = count' own in
                  let still = plain_same kinds l ys own i plain in
                  let parts = ignored_next own l (records.Air (heard_by side) Got heard) (records_of ys) in
                  omega (arith, all, still, parts)),
            )) count

        names_behind : (own : Side) (heard : Option Bool) (told : List Record) (said : List Event)
            → logged (flight_behind (records.Air (heard_by side) Got heard) sent) told ≡ all_tell side said
            → sent_pdus said ≡ []
            → all_told own kinds (records.Air (heard_by side) Got heard ∷ told) none_named ≡ none_named
        names_behind own heard told said logs none =
            names_told own side kinds said told (flight_behind (records.Air (heard_by side) Got heard) sent) none_named
            logs
            ∙ ap (λ (pdus : List SentPdu). with_sent pdus none_named) (by (is_same own side))
          where
            by : (c : Bool) → (if c then sent_pdus said else []) ≡ []
            by true = none
            by false = refl

    -- ---- a new block is built, behind what its side tells

    -- it carries what was named, as the form of the records says
    formed_so : (xs others : List Record) (said : List Event) (process version : ℕ) (octets : List ℕ)
        → logged sent xs ≡ all_tell side said
        → (ends (all_told side kinds
        (xs ++ records.Block (sent_by side) process true version octets ∷ others) none_named)).right
        ≡ true
        → carries (sent_by side) kinds (sent_pdus said) octets ≡ true
    formed_so xs others said process version octets logs right =
        let block = records.Block (sent_by side) process true version octets in
        let named = names_told side side kinds said xs sent none_named logs in
        block_carries kinds side (sent_pdus said) process version octets
        (ap (λ (b' : Building). (told_to side kinds block b').right)
        (sym (named ∙ ap (λ (pdus : List SentPdu). with_sent pdus none_named) (own_sent side)))
        ∙ was_right side kinds others (told_to side kinds block (all_told side kinds xs none_named))
        (ap (λ (b' : Building). (ends b').right) (sym (told_more side kinds xs (block ∷ others) none_named)) ∙ right))
      where
        own_sent : (side : Side) → sent_of side side said ≡ sent_pdus said
        own_sent Nb = refl
        own_sent Ue = refl

    names_it : (x : Act) (bs : Builds s.end x) (xs : List Record)
        → logged sent xs ≡ all_tell side (told_of s.end (Visits bs.turn)) → IsDone l s x
        → carries (sent_by side) kinds (sent_pdus (told_of s.end (Visits bs.turn))) (octets_of s x bs) ≡ true
        → IsNamed kinds l side (octets_of s x bs) (behind_all kinds (read_as (has_more b.pdcp) xs) j)
    names_it x bs xs logs done form =
        let said = told_of s.end (Visits bs.turn) in
        let flag = has_more b.pdcp in
        let rs = read_as flag xs in
        let log : logged sent (records_of rs) ≡ all_tell side said =
        ap (logged sent) (records_read flag xs) ∙ logs in
        let acts = subst (λ (y : Act). IsDone l s y) bs.is done in
        record {
          sent = sent_pdus said;
          named = records_name kinds side sent rs j
              ∙ (ap (λ (hs : List LogEntry). named_over side hs (sending_of side j).named) log
              ∙ (ap (named_over side (all_tell side said)) (r.named side)
              ∙ (events_name side side said [] ∙ own_named side said)));
          form = carries_is (sent_by side) kinds (sent_pdus said) (octets_of s x bs) form;
          numbers = subst (λ (n : ℕ). AreNumbers l n (sent_pdus said))
              (sym (other_records_write_none kinds side l rs j (telling_sends_none l side sent rs said log)))
              (calls_are_numbered l side a m.pdus m.down m.up (Visits bs.turn) j r.lived r.new acts.1 r.gathered);
        }
      where
        own_named : (side : Side) (said : List Event)
            → (if is_same side side then [] ++ map name_of (sent_pdus said) else []) ≡ map name_of (sent_pdus said)
        own_named Nb said = refl
        own_named Ue said = refl

    abbrev new_read : (x : Act) → Builds s.end x → ℕ → ReadRecord
    new_read x bs version = record {
      more = has_more b.pdcp;
      one = records.Block (sent_by side) (bs.turn.tti % 8) true version (octets_of s x bs);
    }

    built_truly : (x : Act) (bs : Builds s.end x) (version : ℕ) (rs : List ReadRecord) → IsDone l s x
        → IsGatheredBehind l a (at_side side x) m.pdus m.down m.up r.lived
        (behind_all kinds (rs ++ new_read x bs version ∷ []) j)
        → AllByRecursion (λ (x : ReadRecord). IsPlain x.one) rs → Counts kinds l j (rs ++ new_read x bs version ∷ [])
        → TellTruly kinds l (said_at l j) j (rs ++ new_read x bs version ∷ [])
    built_truly x bs version rs done now plain count =
        let new = new_read x bs version in
        let i = behind_all kinds rs j in
        let last = behind_last kinds rs new j in
        then_truly kinds l rs (new ∷ []) (said_at l j) j
        (plain_truly kinds l rs (said_at l j) j plain
        (λ own.
        let all = count own in
        let end' = ap (ignored_so_far own l) last in
        let quiet = record_quiet kinds new.more new.one own l i tt in
        let still = plain_same kinds l rs own j plain in
        let told = ap (ignored_told own l) (records_then rs (new ∷ [])) in
        let parts = ignored_both own l (records_of rs) (new.one ∷ []) in
        omega (arith, all, end', quiet, still, told, parts))) (
          block_true kinds kind l a m sent j r side x bs done version new.more i
              (subst (IsGatheredBehind l a (at_side side x) m.pdus m.down m.up r.lived) last now),
          λ own q. let no : false ≡ true = q in absurd cc,
          tt,
        )

    pub built_read : (x : Act) (bs : Builds s.end x) (xs others : List Record) (version : ℕ) → IsDone l s x
        → AllByRecursion (HasCountOn kind l) xs → logged sent xs ≡ all_tell side (told_of s.end (Visits bs.turn))
        → (ends (all_told side kinds (xs ++ records.Block (sent_by side) (bs.turn.tti % 8) true version
        (octets_of s x bs) ∷ others) none_named)).right
        ≡ true
        → logged_at (flight_in xs sent)
        (records.Block (sent_by side) (bs.turn.tti % 8) true version (octets_of s x bs))
        ≡ EndBuilds side (bs.turn.tti % 8) (octets_of s x bs) ∷ []
        → Reads a kinds kind l j (happens a (at_side side x)) (next l a m (at_side side x) r.lived)
        (xs ++ records.Block (sent_by side) (bs.turn.tti % 8) true version (octets_of s x bs) ∷ [])
    built_read x bs xs others version done has logs right last =
        let flag = has_more b.pdcp in
        let octets = octets_of s x bs in
        let process = bs.turn.tti % 8 in
        let block = records.Block (sent_by side) process true version octets in
        let new : ReadRecord = record { more = flag; one = block } in
        let rs = read_as flag xs in
        let said = told_of s.end (Visits bs.turn) in
        let o = station_of (other side) a in
        let acts = subst (λ (y : Act). IsDone l s y) bs.is done in
        let form = formed_so xs others said process version octets logs right in
        let log : logged sent (xs ++ block ∷ []) ≡ log_by side o s.end x =
        logged_more sent xs (block ∷ [])
        ∙ (ap (λ (hs : List LogEntry). hs ++ logged (flight_in xs sent) (block ∷ [])) logs
        ∙ (ap (λ (hs : List LogEntry). all_tell side said ++ (hs ++ [])) last
        ∙ (sym (building_log side 0 s.end bs.turn bs.new) ∙ ap (log_by side o s.end) (sym bs.is)))) in
        let of = of_side x _ rs (carried l (sent_by side) octets)
        (ap (λ (y : Act). bearer_logs l (Am b) (calls_over l (calls_by o y) s.end)) (sym bs.is))
        (building_records kinds l side b knows s (new_at l side a r.new)
        (there_at l side a (there kinds kind l a m sent j r)) is bs.turn sent xs
        acts.0 acts.1 (has_room s (Visits bs.turn) acts.2) bs.new logs (counted xs has)) in
        step_read kinds kind l a m sent j r (at_side side x) (xs ++ block ∷ []) (rs ++ new ∷ [])
        (given_at l side a x done)
        (records_then rs (new ∷ []) ∙ ap (λ (zs : List Record). zs ++ block ∷ []) (records_read flag xs))
        (log ∙ sym (log_at_side side a x))
        (OfBuilding side x bs flag version rs refl done refl of (names_it x bs xs logs done form))
        (λ now count. built_truly x bs version rs done now (plain_told xs said flag logs) count)
        (λ own. told_more own kinds xs (block ∷ []) none_named
        ∙ (ap (told_to own kinds block) (names_told own side kinds said xs sent none_named logs)
        ∙ block_closes kinds own side said process version octets form))
        (each_then (IsAnswered l a) rs (new ∷ []) (own_answers xs (own_told xs said flag logs)) (tt, tt))
