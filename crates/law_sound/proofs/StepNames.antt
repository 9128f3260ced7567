-- Behind records a gatherer knows the process of the block that each side sent last as their log does; and what a side
-- tells names the PDUs of its `send` events for its next new block, as the form of blocks is checked.
use Rattle.std.proofs.Common.{◌≡◌, Bool, true, false, if◌then◌else◌, Option, List, [], ◌∷◌, ◌++◌, refl}
use Rattle.std.proofs.Common.{append-nil, append_assoc, ap, sym, ◌∙◌}
use Rattle.air_record.specs.declared.record.Record.{Record}
use Rattle.air_record.specs.declared.record.Record.TheVariants as records
use Rattle.bearer_types.specs.declared.event.Event.{Event}
use Rattle.bearer_types.specs.declared.event.Event.TheVariants as events
use Rattle.bearer_types.specs.Sides.{is_same}
use Rattle.l2_types.specs.declared.side.Side.{Side}
use Rattle.l2_types.specs.declared.side.Side.TheVariants.{Nb, Ue}
use Rattle.pdu_show.specs.declared.kinds.Layout.{Layout}
use Rattle.promises.specs.Events.{is_of_loop}
use Rattle.promises.specs.Names.{SentPdu, sent_pdus}
use Rattle.journal_flows.specs.FlowsTold.{Histories, histories}
use Rattle.journal_flows.specs.Gathering.{Journal, sending_of, behind_record}
use Rattle.journal_form.specs.Checking.{Building, sends}
use Rattle.journal_form.proofs.Units.{told_to, all_told}
use Rattle.law_run.specs.TwoEnds.Logs.{Tells, Flight, process_of, flight_behind, logged_at, flight_in}
use Rattle.law_run.specs.TwoEnds.Logs.{logged, all_tell, process_last}
use Rattle.law_run.proofs.EmptyLists.{parts_empty}
use Rattle.law_sound.specs.BesideLaws.{ReadRecord, behind_all}
use Rattle.law_sound.specs.LoggedRecords.{records_of}
use Rattle.law_sound.proofs.LogEntries.{first_entry, entry_is}
use Rattle.law_sound.proofs.SentProcesses.{record_process}

-- ---- the process of the block that was sent last

pub processes_known : (kinds : List (Option Layout)) (xs : List ReadRecord) (side : Side) (j : Journal Histories)
    (sent : Flight) → (sending_of side j).process ≡ process_of side sent
    → (sending_of side (behind_all kinds xs j)).process ≡ process_of side (flight_in (records_of xs) sent)
processes_known kinds [] Nb j sent is = is
processes_known kinds [] Ue j sent is = is
processes_known kinds (x ∷ xs) Nb j sent is =
    processes_known kinds xs Nb (behind_record histories kinds x.more x.one j) (flight_behind x.one sent)
    (record_process histories kinds x.more x.one Nb j ∙ ap (process_last Nb x.one) is)
processes_known kinds (x ∷ xs) Ue j sent is =
    processes_known kinds xs Ue (behind_record histories kinds x.more x.one j) (flight_behind x.one sent)
    (record_process histories kinds x.more x.one Ue j ∙ ap (process_last Ue x.one) is)

-- ---- what a side tells names its `send` events, and another side's nothing

pub told_more : (side : Side) (kinds : List (Option Layout)) (xs ys : List Record) (b : Building)
    → all_told side kinds (xs ++ ys) b ≡ all_told side kinds ys (all_told side kinds xs b)
told_more side kinds [] ys b = refl
told_more side kinds (x ∷ xs) ys b = told_more side kinds xs ys (told_to side kinds x b)

-- `send` events name PDUs behind those that are named
abbrev pub with_sent : List SentPdu → Building → Building
with_sent sent b = record { sent = b.sent ++ sent; right = b.right }

none_sent_more : (b : Building) → b ≡ with_sent [] b
none_sent_more b =
    ap (λ (sent : List SentPdu). record { sent = sent; right = b.right }) (sym (append-nil b.sent))

sent_then : (xs ys : List SentPdu) (b : Building) → with_sent ys (with_sent xs b) ≡ with_sent (xs ++ ys) b
sent_then xs ys b =
    ap (λ (sent : List SentPdu). record { sent = sent; right = b.right }) (append_assoc b.sent xs ys)

one_sent : (e : Event) (told : List Event) → sent_pdus (e ∷ []) ++ sent_pdus told ≡ sent_pdus (e ∷ told)
one_sent (events.Send lcid how sn) told = refl
one_sent e told = refl

-- by a side, of what it tells itself
abbrev pub sent_of : Side → Side → List Event → List SentPdu
sent_of side own told = if is_same side own then sent_pdus told else []

module _ (side own : Side) (kinds : List (Option Layout)) where
  own_told : (e : Event) (b : Building)
      → told_to side kinds (records.Of own e) b ≡ with_sent (sent_of side own (e ∷ [])) b
  own_told (events.Send lcid how sn) b = by (is_same side own)
    where
      s : SentPdu
      s = record { lcid = lcid; how = how; sn = sn }

      by : (c : Bool) → (if c then sends s b else b) ≡ with_sent (if c then s ∷ [] else []) b
      by true = refl
      by false = none_sent_more b
  own_told e b = by (is_same side own)
    where
      by : (c : Bool) → b ≡ with_sent (if c then [] else []) b
      by true = none_sent_more b
      by false = none_sent_more b

  sent_both : (e : Event) (told : List Event)
      → sent_of side own (e ∷ []) ++ sent_of side own told ≡ sent_of side own (e ∷ told)
  sent_both e told = by (is_same side own)
    where
      by : (c : Bool) → (if c then sent_pdus (e ∷ []) else []) ++ (if c then sent_pdus told else [])
          ≡ (if c then sent_pdus (e ∷ told) else [])
      by true = one_sent e told
      by false = refl

  -- a record that logs nothing names nothing
  silent_told : (sent : Flight) (one : Record) (b : Building) → logged_at sent one ≡ []
      → told_to side kinds one b ≡ b
  silent_told sent (records.Of by e) b none = at (is_of_loop e) refl none
    where
      at : (c : Bool) → is_of_loop e ≡ c → (if c then [] else Tells by e ∷ []) ≡ []
          → told_to side kinds (records.Of by e) b ≡ b
      at false q none = absurd cc
      at true q none = loop e q
        where
          loop : (x : Event) → is_of_loop x ≡ true → told_to side kinds (records.Of by x) b ≡ b
          loop (events.Send lcid how sn) q = let no : false ≡ true = q in absurd cc
          loop x q = refl
  silent_told sent (records.Block direction process true version octets) b none = absurd cc
  silent_told sent (records.Block direction process false version octets) b none = refl
  silent_told sent one b none = refl

  pub silent_all : (told : List Record) (sent : Flight) (b : Building) → logged sent told ≡ []
      → all_told side kinds told b ≡ b
  silent_all [] sent b none = refl
  silent_all (one ∷ told) sent b none =
      let parts = parts_empty (logged_at sent one) (logged (flight_behind one sent) told) none in
      silent_all told (flight_behind one sent) (told_to side kinds one b) parts.1 ∙ silent_told sent one b parts.0

  none_of : (b : Building) → b ≡ with_sent (sent_of side own []) b
  none_of b = by (is_same side own)
    where
      by : (c : Bool) → b ≡ with_sent (if c then [] else []) b
      by true = none_sent_more b
      by false = none_sent_more b

  pub names_told : (said : List Event) (told : List Record) (sent : Flight) (b : Building)
      → logged sent told ≡ all_tell own said → all_told side kinds told b ≡ with_sent (sent_of side own said) b
  names_told [] told sent b logs = silent_all told sent b logs ∙ none_of b
  names_told (e ∷ said) told sent b logs =
      let f = first_entry told sent (Tells own e) (all_tell own said) logs in
      let one = entry_is (flight_in f.silent sent) f.one (Tells own e) f.one_logs in
      let now = with_sent (sent_of side own (e ∷ [])) b in
      ap (λ (all : List Record). all_told side kinds all b) f.told_is
      ∙ (told_more side kinds f.silent (f.one ∷ f.behind) b
      ∙ (ap (λ (x : Building). all_told side kinds f.behind (told_to side kinds f.one x))
      (silent_all f.silent sent b f.silent_logs)
      ∙ (ap (λ (x : Record). all_told side kinds f.behind (told_to side kinds x b)) one.is
      ∙ (ap (all_told side kinds f.behind) (own_told e b)
      ∙ (names_told said f.behind (flight_behind f.one (flight_in f.silent sent)) now f.behind_logs
      ∙ (sent_then (sent_of side own (e ∷ [])) (sent_of side own said) b
      ∙ ap (λ (sent' : List SentPdu). with_sent sent' b) (sent_both e said)))))))
