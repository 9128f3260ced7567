-- All records of steps of a life take what is gathered to the moment behind them.
use Rattle.std.proofs.Common.{◌≡◌, ℕ, ◌%◌, true, List, [], ◌∷◌, ◌++◌}
use Rattle.std.proofs.Common.{Option, Some, None, slice_get, slice_index_or, append-nil, append_assoc}
use Rattle.std.proofs.Common.{refl, ap, sym, subst, ◌∙◌}
use Rattle.std.specs.List.{AllByRecursion}
use Rattle.air_record.specs.declared.record.Arrived.TheVariants.{Got}
use Rattle.air_record.specs.declared.record.Record.{Record}
use Rattle.air_record.specs.declared.record.Record.TheVariants as records
use Rattle.bearer_types.specs.Sides.{other, sent_by, heard_by}
use Rattle.harq.specs.declared.sender.Visit.{Visit}
use Rattle.harq.specs.declared.sender.Visit.TheVariants.{New, Resend, Silent}
use Rattle.l2_node.specs.Building.{visit}
use Rattle.l2_node.specs.Finding.{has}
use Rattle.l2_types.specs.declared.side.Side.{Side}
use Rattle.l2_types.specs.declared.side.Side.TheVariants.{Nb, Ue}
use Rattle.law_deliver.specs.AmChannel.Lives.{AirStep, InLife, Moves, AreLiving, lives}
use Rattle.law_deliver.specs.AmChannel.Lives.{brought}
use Rattle.law_deliver.specs.AmFlow.Air.{Block, Air, Act, Calls, Comes, Goes, Step, AtNb, AtUe, Passes}
use Rattle.law_deliver.specs.AmFlow.Air.{happens, IsDone, IsGiven}
use Rattle.law_deliver.specs.AmFlow.Carrying.{Builds}
use Rattle.law_deliver.proofs.AmFlow.Carrying.{front, rest}
use Rattle.law_node.specs.Calls.{Visits, Receive}
use Rattle.law_node.specs.Telling.{told_of}
use Rattle.pdcp_pdu.specs.declared.pdu.PdcpKind.{PdcpKind}
use Rattle.pdu_show.specs.declared.kinds.Layout.{Layout}
use Rattle.pdu_show.specs.declared.kinds.Layout.TheVariants as layouts
use Rattle.journal_form.specs.Checking.{Building, ends}
use Rattle.journal_form.proofs.Units.{all_told, complete, sound}
use Rattle.journal_flows.specs.FlowsTold.{Histories}
use Rattle.journal_flows.specs.Gathering.{Journal, sending_of}
use Rattle.law_run.specs.TwoEnds.Along.{at_side}
use Rattle.law_run.specs.TwoEnds.Logs.{Hears, Flight, process_of, flight_behind, logged, logged_at, flight_in}
use Rattle.law_run.specs.TwoEnds.Logs.{all_tell, log_by, log_at, log_of, log_come}
use Rattle.law_run.specs.TwoEnds.Logs.{Builds as EndBuilds}
use Rattle.law_run.specs.TwoEnds.Staying.{AreInLife}
use Rattle.law_sound.specs.BesideLaws.{behind_all}
use Rattle.law_sound.specs.BesideLaws.{station_of, octets_of}
use Rattle.law_sound.specs.BesideSteps.{OfTti}
use Rattle.law_sound.specs.LivedHistories.{AreLived, Moment, GoOver}
use Rattle.law_sound.specs.StepReading.{HasCountOn, IsRead}
use Rattle.law_sound.specs.StepReading.{IsFlightOf, StepsAreRead}
use Rattle.law_sound.proofs.LogEntries.{block_in, logs_split, first_entry, entry_is}
use Rattle.law_sound.proofs.StepLogs.{none_named, going_comes, none_comes, resends_none, silent_none}
use Rattle.law_sound.proofs.StepLogs.{next}
use Rattle.law_sound.proofs.StepReads.{Reads, both_truly, both_read, silent_read, step_read}
use Rattle.law_sound.proofs.StepLogs.{all_then, records_then}
use Rattle.law_sound.specs.LoggedRecords.{records_of}
use Rattle.law_sound.specs.StepReading.{AreTruly, AreStepsRead}
use Rattle.law_sound.specs.BesideLaws.{ReadRecord}
use Rattle.law_sound.proofs.StepActs.{call_read, rest_read, got_read, built_read}
use Rattle.law_sound.proofs.StepNames.{processes_known, told_more}
use Rattle.law_sound.proofs.StepRecords.{building_log}

-- ---- any records of a step

module _ (kinds : List (Option Layout)) (kind : PdcpKind) (l : ℕ)
    (known : slice_index_or kinds l None ≡ Some (layouts.Am kind)) (a : Air) (m : Moment) (sent : Flight)
    (j : Journal Histories) (r : IsRead kind l a m j) (flight : IsFlightOf j sent) where
  flight_is : (side : Side) → (sending_of side j).process ≡ process_of side sent
  flight_is Nb = flight.nb_is
  flight_is Ue = flight.ue_is

  abbrev Right : List Record → Type 0
  Right told = (side : Side) → (ends (all_told side kinds told none_named)).right ≡ true

  -- behind some that log nothing, which stand first
  behind_silent : (silent told : List Record) → logged sent silent ≡ [] → (s : Step)
      → ((i : Journal Histories) → (q : IsRead kind l a m i)
      → ((side : Side) → (sending_of side i).process ≡ process_of side (flight_in silent sent))
      → Reads a kinds kind l i (happens a s) (next l a m s q.lived) told)
      → Reads a kinds kind l j (happens a s) (next l a m s r.lived) (silent ++ told)
  behind_silent silent told none s more =
      let p = silent_read kinds kind l a a m sent j silent r none in
      let i = behind_all kinds p.all.reads j in
      both_read kinds kind l a j a (happens a s) m (next l a m s r.lived) silent told p.all
      (subst (λ (h : AreLived l a m.pdus m.down m.up). Reads a kinds kind l i (happens a s)
      (next l a m s h) told) p.same
      (more i p.all.read
      (λ side. processes_known kinds p.all.reads side j sent (flight_is side)
      ∙ ap (λ (zs : List Record). process_of side (flight_in zs sent)) p.all.are)))

  -- and before some
  before_silent : (told silent : List Record) (b : Air) (n : Moment) → Reads a kinds kind l j b n told
      → logged (flight_in told sent) silent ≡ [] → Reads a kinds kind l j b n (told ++ silent)
  before_silent told silent b n p none =
      both_read kinds kind l a j b b n n told silent p
      (silent_read kinds kind l a b n (flight_in told sent) (behind_all kinds p.reads j) silent p.read none).all

  coming_read : (side : Side) (k : ℕ) (block : Block) (told : List Record)
      → slice_get (station_of (other side) a).blocks k ≡ Some block → AllByRecursion (HasCountOn kind l) told
      → logged sent told ≡ Hears side block.process block.octets
      ∷ all_tell side (told_of (station_of side a).end (Receive block.octets))
      → Reads a kinds kind l j (happens a (at_side side (Comes k))) (next l a m (at_side side (Comes k)) r.lived) told
  coming_read side k block told at has logs =
      let said = told_of (station_of side a).end (Receive block.octets) in
      let f = first_entry told sent (Hears side block.process block.octets) (all_tell side said) logs in
      let before = flight_in f.silent sent in
      let e = entry_is before f.one (Hears side block.process block.octets) f.one_logs in
      let counts = rest (HasCountOn kind l) f.silent (f.one ∷ f.behind)
      (subst (AllByRecursion (HasCountOn kind l)) f.told_is has) in
      subst (Reads a kinds kind l j (happens a (at_side side (Comes k))) (next l a m (at_side side (Comes k)) r.lived))
      (sym (f.told_is ∙ ap (λ (one : Record). f.silent ++ one ∷ f.behind) e.is))
      (behind_silent f.silent (records.Air (heard_by side) Got e.heard ∷ f.behind) f.silent_logs
      (at_side side (Comes k))
      (λ i q process.
      got_read kinds kind l known a m before i q side k block e.heard f.behind at (process (other side)
      ∙ e.process_is) counts.1
      (ap (logged_at before) (sym e.is) ∙ f.one_logs)
      (ap (λ (one : Record). logged (flight_behind one before) f.behind) (sym e.is) ∙ f.behind_logs)))

  building_read : (side : Side) (x : Act) (bs : Builds (station_of side a).end x) (told others : List Record)
      → IsDone l (station_of side a) x → AllByRecursion (HasCountOn kind l) told → Right (told ++ others)
      → logged sent told ≡ log_by side (station_of (other side) a) (station_of side a).end x
      → Reads a kinds kind l j (happens a (at_side side x)) (next l a m (at_side side x) r.lived) told
  building_read side x bs told others done has right logs =
      let e = (station_of side a).end in
      let o = station_of (other side) a in
      let said = told_of e (Visits bs.turn) in
      let process = bs.turn.tti % 8 in
      let octets = octets_of (station_of side a) x bs in
      let log : logged sent told ≡ all_tell side said ++ EndBuilds side process octets ∷ [] =
      logs ∙ (ap (log_by side o e) bs.is ∙ building_log side 0 e bs.turn bs.new) in
      let p = block_in side process octets said sent told log in
      let xs = p.first in
      let block = records.Block (sent_by side) process true p.version octets in
      let told_is : told ≡ (xs ++ block ∷ []) ++ p.behind = p.told_is ∙ sym (append_assoc xs (block ∷ []) p.behind) in
      let counts = front (HasCountOn kind l) xs (block ∷ [])
      (front (HasCountOn kind l) (xs ++ block ∷ []) p.behind
      (subst (AllByRecursion (HasCountOn kind l)) told_is has)) in
      let now : (ends (all_told side kinds (xs ++ block ∷ (p.behind ++ others)) none_named)).right ≡ true =
      ap (λ (zs : List Record). (ends (all_told side kinds zs none_named)).right)
      (sym (ap (λ (zs : List Record). zs ++ others) told_is
      ∙ (append_assoc (xs ++ block ∷ []) p.behind others ∙ append_assoc xs (block ∷ []) (p.behind ++ others))))
      ∙ right side in
      subst (Reads a kinds kind l j (happens a (at_side side x)) (next l a m (at_side side x) r.lived)) (sym told_is)
      (before_silent (xs ++ block ∷ []) p.behind _ _
      (built_read kinds kind l known a m sent j r side x bs xs
      (p.behind ++ others) p.version done counts p.first_logs now p.block_logs) p.behind_logs)

  -- an act of a side
  side_read : (side : Side) (x : Act) (told others : List Record) → IsDone l (station_of side a) x
      → AllByRecursion (HasCountOn kind l) told → Right (told ++ others)
      → logged sent told ≡ log_by side (station_of (other side) a) (station_of side a).end x
      → Reads a kinds kind l j (happens a (at_side side x)) (next l a m (at_side side x) r.lived) told
  side_read side (Calls (Visits t)) told others done has right logs = by
      (visit t.tti t.order (station_of side a).end) refl
    where
      by : (v : Visit) → visit t.tti t.order (station_of side a).end ≡ v
          → Reads a kinds kind l j (happens a (at_side side (Calls (Visits t))))
          (next l a m (at_side side (Calls (Visits t))) r.lived) told
      by New q =
          building_read side (Calls (Visits t))
          (record { turn = t; is = refl; new = q }) told others done has right logs
      by (Resend rv) q =
          call_read kinds kind l known a m sent j r side (Visits t) told done
          (λ bs. resends_none t rv (station_of side a).end q bs) has logs
      by Silent q =
          call_read kinds kind l known a m sent j r side (Visits t) told done
          (λ bs. silent_none t (station_of side a).end q bs) has logs
  side_read side (Calls c) told others done has right logs =
      call_read kinds kind l known a m sent j r side c told done (λ bs. let no = bs.is in absurd cc) has logs
  side_read side (Comes k) told others done has right logs = by (slice_get (station_of (other side) a).blocks k) refl
    where
      by : (o : Option Block) → slice_get (station_of (other side) a).blocks k ≡ o
          → Reads a kinds kind l j (happens a (at_side side (Comes k)))
          (next l a m (at_side side (Comes k)) r.lived) told
      by None q =
          rest_read kinds kind l known a m sent j r side (Comes k) told tt (λ bs. let no = bs.is in absurd cc)
          (none_comes l side k a m.pdus m.down m.up r.lived q) (ap brought q)
          (ap (log_come side (station_of side a).end) q) has logs
      by (Some block) q =
          coming_read side k block told q has (logs ∙ ap (log_come side (station_of side a).end) q)
  side_read side (Goes k) told others done has right logs =
      rest_read kinds kind l known a m sent j r side (Goes k) told tt (λ bs. let no = bs.is in absurd cc)
      (going_comes side k m.pdus) refl
      refl has logs

  any_read : (s : Step) (told others : List Record) → IsGiven l a s → AllByRecursion (HasCountOn kind l) told
      → Right (told ++ others) → logged sent told ≡ log_at a (InLife s)
      → Reads a kinds kind l j (happens a s) (next l a m s r.lived) told
  any_read (AtNb x) told others g has right logs = side_read Nb x told others g has right logs
  any_read (AtUe x) told others g has right logs = side_read Ue x told others g has right logs
  any_read Passes told others g has right logs =
      subst (Reads a kinds kind l j (happens a Passes) (next l a m Passes r.lived)) (append-nil told)
      (behind_silent told [] logs Passes
      (λ i q process. step_read kinds kind l a m (flight_in told sent) i q Passes [] [] g refl refl (OfTti refl refl)
      (λ now count. tt) (λ side. refl) tt))

-- ---- all steps

record Walked (kinds : List (Option Layout)) (kind : PdcpKind) (l : ℕ) (steps : List AirStep) (a : Air) (m : Moment)
    (j : Journal Histories) (told : List Record) : Type 0 where
  last : Moment
  over : GoOver l steps a m last
  reads : List ReadRecord
  are : records_of reads ≡ told
  each : AreStepsRead l steps a reads
  read : IsRead kind l (lives steps a) last (behind_all kinds reads j)
  statuses : AreTruly kinds l j reads
  none : (side : Side) → all_told side kinds told none_named ≡ none_named

steps_read : StepsAreRead
steps_read kinds kind l steps a m sent j told others known living life r flight logs has formed = record {
  reads = w.reads;
  are = w.are;
  last = w.last;
  over = w.over;
  each = w.each;
  read = w.read;
  statuses = w.statuses;
  formed = λ side. sound side kinds others none_named
      (ap (λ (b : Building). (ends (all_told side kinds others b)).right) (sym (w.none side))
      ∙ (ap (λ (b : Building). (ends b).right) (sym (told_more side kinds told others none_named)) ∙ right side));
}
  where
    right : (side : Side) → (ends (all_told side kinds (told ++ others) none_named)).right ≡ true
    right side = complete side kinds (told ++ others) none_named refl (formed side)

    walk : (steps : List AirStep) (a : Air) (m : Moment) (sent : Flight) (j : Journal Histories) (told : List Record)
        → AreLiving l a steps → AreInLife steps → IsRead kind l a m j → IsFlightOf j sent
        → logged sent told ≡ log_of steps a → AllByRecursion (HasCountOn kind l) told
        → ((side : Side) → (ends (all_told side kinds (told ++ others) none_named)).right ≡ true)
        → Walked kinds kind l steps a m j told
    walk [] a m sent j told living life r flight logs has right =
        let silent = (silent_read kinds kind l a a m sent j told r logs).all in
        record {
          last = m;
          over = refl;
          reads = silent.reads;
          are = silent.are;
          each = (sent, ap (logged sent) silent.are ∙ logs);
          read = silent.read;
          statuses = silent.statuses;
          none = silent.none;
        }
    walk (InLife s ∷ steps) a m sent j told living life r flight logs has right =
        let p = logs_split told sent (log_at a (InLife s)) (log_of steps (happens a s)) logs in
        let one = subst (AllByRecursion (HasCountOn kind l)) p.told_is has in
        let now : (side : Side)
        → (ends (all_told side kinds (p.first ++ (p.behind ++ others)) none_named)).right ≡ true =
        λ side. ap (λ (zs : List Record). (ends (all_told side kinds zs none_named)).right)
        (sym (ap (λ (zs : List Record). zs ++ others) p.told_is ∙ append_assoc p.first p.behind others))
        ∙ right side in
        let first = any_read kinds kind l known a m sent j r flight s p.first (p.behind ++ others) living.0
        (front (HasCountOn kind l) p.first p.behind one) now p.first_logged in
        let i = behind_all kinds first.reads j in
        let process = λ (side : Side) (is : (sending_of side j).process ≡ process_of side sent).
        processes_known kinds first.reads side j sent is
        ∙ ap (λ (zs : List Record). process_of side (flight_in zs sent)) first.are in
        let rest' = walk steps (happens a s) _ (flight_in p.first sent) i p.behind living.1 life first.read
        (record { nb_is = process Nb flight.nb_is; ue_is = process Ue flight.ue_is }) p.behind_logged
        (rest (HasCountOn kind l) p.first p.behind one)
        (λ side. ap (λ (b : Building). (ends (all_told side kinds (p.behind ++ others) b)).right)
        (sym (first.none side))
        ∙ (ap (λ (b : Building). (ends b).right) (sym (told_more side kinds p.first (p.behind ++ others) none_named))
        ∙ now side)) in
        record {
          last = rest'.last;
          over = (r.lived, rest'.over);
          reads = first.reads ++ rest'.reads;
          are = records_then first.reads rest'.reads
              ∙ (ap (λ (zs : List Record). zs ++ records_of rest'.reads) first.are
              ∙ (ap (λ (zs : List Record). p.first ++ zs) rest'.are ∙ sym p.told_is));
          each = record {
            now = first.reads;
            later = rest'.reads;
            are = refl;
            first = record {
              sent = sent;
              logs = ap (logged sent) first.are ∙ p.first_logged;
              answered = first.answered;
            };
            others = rest'.each;
          };
          read = subst (IsRead kind l (lives steps (happens a s)) rest'.last)
              (sym (all_then kinds first.reads rest'.reads j)) rest'.read;
          statuses = both_truly kinds kind l j first.reads rest'.reads first.statuses rest'.statuses;
          none = λ side. ap (λ (zs : List Record). all_told side kinds zs none_named) p.told_is
              ∙ (told_more side kinds p.first p.behind none_named
              ∙ (ap (all_told side kinds p.behind) (first.none side) ∙ rest'.none side));
        }
    walk (Moves keys ∷ steps) a m sent j told living life r flight logs has right = absurd life

    w : Walked kinds kind l steps a m j told
    w = walk steps a m sent j told living life r flight logs has right

pub steps_are_read : StepsAreRead
steps_are_read = steps_read
