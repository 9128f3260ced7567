-- What records of a side tell of a channel's flows is what its bearer logs of them.
use Rattle.std.proofs.Common.{◌≡◌, ℕ, Bool, true, false, ◌&&◌, if◌then◌else◌, List, [], ◌∷◌, ◌++◌, append_assoc}
use Rattle.std.proofs.Common.{refl, ap, sym, ◌∙◌}
use Rattle.std.proofs.lemmas.List.Elements.{filter-append}
use Rattle.std.specs.List.{AllByRecursion, filter}
use Rattle.air_record.specs.declared.record.Record.{Record}
use Rattle.air_record.specs.declared.record.Record.TheVariants as records
use Rattle.bearer_types.specs.Sides.{is_same, sender_of, other, sent_by, heard_by}
use Rattle.bearer_types.specs.declared.event.Event.{Event}
use Rattle.bearer_types.specs.declared.event.Event.TheVariants as events
use Rattle.l2_types.specs.declared.side.Side.{Side}
use Rattle.l2_types.specs.declared.side.Side.TheVariants.{Nb, Ue}
use Rattle.promises.specs.Events.{is_of_loop, is_on}
use Rattle.promises.specs.Pdus.{carried}
use Rattle.promises.specs.Records.{is_got}
use Rattle.law_deliver.proofs.AmFlow.Carrying.{front, rest}
use Rattle.law_run.specs.TwoEnds.ChannelLog.{on_channel, on_channel_at, parted, told_in, come_in, written_in, coming}
use Rattle.law_run.specs.TwoEnds.Logs.{LogEntry, Flight, flight_behind, logged, logged_at, process_of}
use Rattle.law_run.specs.TwoEnds.Logs.{Tells as EndTells, Hears}
use Rattle.law_run.specs.TwoEnds.SenderLog.{BearerEntry, Tells, telling, writing}
use Rattle.law_run.proofs.KeptByCalls.{said_all, said_both, said_writing}
use Rattle.law_sound.specs.BesideLaws.{ReadRecord, flow_event, flow_events, tells, tells_flow}
use Rattle.law_sound.specs.LoggedRecords.{records_of, IsOfSide, RecordsTellTheLog, IsTold, IsOwn, OwnRecordsTell}

-- ---- what is told in a log

pub said_coming : (pdus : List (List ℕ)) → told_in (coming pdus) ≡ []
said_coming [] = refl
said_coming (pdu ∷ pdus) = said_coming pdus

pub said_parted : (log : List BearerEntry) → told_in (parted log) ≡ told_in log
said_parted log =
    said_both (coming (come_in log)) (telling (told_in log) ++ writing (written_in log))
    ∙ (ap (λ (es : List Event). es ++ told_in (telling (told_in log) ++ writing (written_in log)))
    (said_coming (come_in log))
    ∙ said_all (told_in log) (written_in log))

module _ (l : ℕ) (side : Side) where
  abbrev pub said_on : List LogEntry → List Event
  said_on hs = told_in (on_channel l side hs)

  pub on_more : (hs gs : List LogEntry) → said_on (hs ++ gs) ≡ said_on hs ++ said_on gs
  on_more [] gs = refl
  on_more (h ∷ hs) gs =
      let now = on_channel_at l side h in
      said_both now (on_channel l side (hs ++ gs))
      ∙ (ap (λ (es : List Event). told_in now ++ es) (on_more hs gs)
      ∙ (sym (append_assoc (told_in now) (said_on hs) (said_on gs))
      ∙ ap (λ (es : List Event). es ++ said_on gs) (sym (said_both now (on_channel l side hs)))))

-- ---- a record

loop_is_silent : (e : Event) → is_of_loop e ≡ true → tells e ≡ false
loop_is_silent (events.Drop lcid why) q = refl
loop_is_silent e q = let no : false ≡ true = q in absurd cc

kept : (o : Bool) (e : Event) → (if tells e && o then e ∷ [] else [])
    ≡ filter tells (told_in ((if o then Tells e ∷ [] else []) ++ []))
kept true e = by (tells e)
  where
    by : (t : Bool) → (if t && true then e ∷ [] else []) ≡ (if t then e ∷ [] else [])
    by true = refl
    by false = refl
kept false e = by (tells e)
  where
    by : (t : Bool) → (if t && false then e ∷ [] else []) ≡ []
    by true = refl
    by false = refl

-- what is written, or comes, tells nothing
none_told : (b : Bool) (log : List BearerEntry) → told_in log ≡ []
    → [] ≡ filter tells (told_in ((if b then log else []) ++ []))
none_told true log q =
    sym (ap (filter tells) (said_both log [] ∙ ap (λ (es : List Event). es ++ []) q))
none_told false log q = refl

module _ (l : ℕ) (side : Side) where
  abbrev pub IsSaid : List Event → List LogEntry → Type 0
  IsSaid es hs = es ≡ filter tells (said_on l side hs)

  event_said : (own : Side) (e : Event) (b : Bool) → is_of_loop e ≡ b
      → AllByRecursion (IsOfSide side) (if b then [] else EndTells own e ∷ [])
      → IsSaid (if tells_flow l e then e ∷ [] else []) (if b then [] else EndTells own e ∷ [])
  event_said own e true q of_side =
      ap (λ (t : Bool). if t && is_on l e then e ∷ [] else []) (loop_is_silent e q)
  event_said own e false q of_side = by own side of_side.0
    where
      by : (s z : Side) → s ≡ z → (if tells_flow l e then e ∷ [] else [])
          ≡ filter tells (told_in ((if is_same s z && is_on l e then Tells e ∷ [] else []) ++ []))
      by Nb Nb same = kept (is_on l e) e
      by Ue Ue same = kept (is_on l e) e
      by Nb Ue same = absurd cc
      by Ue Nb same = absurd cc

  air_said : (b : Bool) (own : Side) (process : ℕ) (octets : List ℕ)
      → IsSaid [] (if b then Hears own process octets ∷ [] else [])
  air_said false own process octets = refl
  air_said true own process octets =
      let pdus = carried l (heard_by own) octets in
      none_told (is_same own side) (coming pdus) (said_coming pdus)

  record_said : (sent : Flight) (one : Record) → AllByRecursion (IsOfSide side) (logged_at sent one)
      → IsSaid (flow_event l one) (logged_at sent one)
  record_said sent (records.Of own e) of_side = event_said own e (is_of_loop e) refl of_side
  record_said sent (records.Block direction process true version octets) of_side =
      let own = sender_of direction in
      let pdus = carried l (sent_by own) octets in
      none_told (is_same own side) (writing pdus) (said_writing pdus)
  record_said sent (records.Block direction process false version octets) of_side = refl
  record_said sent (records.Air direction what heard) of_side =
      air_said (is_got what) (other (sender_of direction)) (process_of (sender_of direction) sent) sent.octets
  record_said sent one of_side = refl

  -- ---- all records

  pub records_said : (sent : Flight) (xs : List ReadRecord)
      → AllByRecursion (IsOfSide side) (logged sent (records_of xs))
      → IsSaid (flow_events l xs) (logged sent (records_of xs))
  records_said sent [] of_side = refl
  records_said sent (x ∷ xs) of_side =
      let now = logged_at sent x.one in
      let behind = flight_behind x.one sent in
      let more = logged behind (records_of xs) in
      let first = record_said sent x.one (front (IsOfSide side) now more of_side) in
      let others = records_said behind xs (rest (IsOfSide side) now more of_side) in
      ap (λ (es : List Event). es ++ flow_events l xs) first
      ∙ (ap (λ (es : List Event). filter tells (said_on l side now) ++ es) others
      ∙ (sym (filter-append tells (said_on l side now) (said_on l side more))
      ∙ ap (filter tells) (sym (on_more l side now more))))

pub records_tell_the_log : RecordsTellTheLog
records_tell_the_log l side sent xs log of_side same =
    records_said l side sent xs of_side
    ∙ ap (filter tells) (ap told_in same ∙ said_parted log)

-- ---- each record is an own one, or tells nothing

module _ (l : ℕ) (side : Side) where
  event_own : (own : Side) (e : Event) (b : Bool) → is_of_loop e ≡ b
      → AllByRecursion (IsTold side) (if b then [] else EndTells own e ∷ []) → tells_flow l e ≡ true → own ≡ side
  event_own own e true q told tells_it =
      let no : false ≡ true = ap (λ (t : Bool). t && is_on l e) (sym (loop_is_silent e q)) ∙ tells_it in
      absurd cc
  event_own own e false q told tells_it = told.0

  air_own : (b : Bool) (own : Side) (process : ℕ) (octets : List ℕ)
      → AllByRecursion (IsTold side) (if b then Hears own process octets ∷ [] else []) → b ≡ false
  air_own true own process octets told = absurd told.0
  air_own false own process octets told = refl

  record_own : (sent : Flight) (one : Record) → AllByRecursion (IsTold side) (logged_at sent one) → IsOwn l side one
  record_own sent (records.Of own e) told = event_own own e (is_of_loop e) refl told
  record_own sent (records.Block direction process true version octets) told = absurd told.0
  record_own sent (records.Block direction process false version octets) told = tt
  record_own sent (records.Air direction what heard) told =
      air_own (is_got what) (other (sender_of direction)) (process_of (sender_of direction) sent) sent.octets told
  record_own sent one told = tt

pub own_records_tell : OwnRecordsTell
own_records_tell l side sent [] told = tt
own_records_tell l side sent (x ∷ xs) told =
    let now = logged_at sent x.one in
    let behind = flight_behind x.one sent in
    let more = logged behind (records_of xs) in (
      record_own l side sent x.one (front (IsTold side) now more told),
      own_records_tell l side behind xs (rest (IsTold side) now more told),
    )
