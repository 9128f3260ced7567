-- What records tell of the PDUs of a channel is what their log tells of them. So, where they log a step of both ends
-- over the air, it is what happens there of what goes from a side.
use Rattle.std.proofs.Common.{◌≡◌, ℕ, ◌%◌, Bool, true, false, ◌&&◌, if◌then◌else◌, Option, Some, None, List, []}
use Rattle.std.proofs.Common.{◌∷◌, ◌++◌, map, append-nil, refl, ap, sym, ◌∙◌}
use Rattle.std.specs.Prelude.{slice_get}
use Rattle.std.specs.List.{flat_map}
use Rattle.std.proofs.lemmas.List.{map-append}
use Rattle.std.proofs.lemmas.List.Concat.{flat_map-append}
use Rattle.air_record.specs.declared.record.Record.{Record}
use Rattle.air_record.specs.declared.record.Record.TheVariants as records
use Rattle.bearer_types.specs.Sides.{is_same, other, sender_of, sent_by, heard_by}
use Rattle.bearer_types.specs.declared.event.Event.{Event}
use Rattle.bearer_types.specs.declared.event.Event.TheVariants as events
use Rattle.eps_sec.specs.declared.Keys.{Keys}
use Rattle.l2_node.specs.End.{End}
use Rattle.l2_node.specs.Hearing.{received, expiry}
use Rattle.l2_types.specs.declared.side.Side.{Side}
use Rattle.l2_types.specs.declared.side.Side.TheVariants.{Nb, Ue}
use Rattle.mac_pdu.specs.declared.item.Direction.{Direction}
use Rattle.mac_pdu.specs.declared.item.Direction.TheVariants as directions
use Rattle.law_words.specs.Arrivals.{AccountEntry, Passes}
use Rattle.law_words.specs.Passing.{Passing, Writes}
use Rattle.promises.specs.Arrival.{only_if, entries_at, entries_in}
use Rattle.promises.specs.Events.{is_of_loop, is_of_writing, told_on}
use Rattle.promises.specs.Given.{entries_given, entries_written, entries_come, entries_passed}
use Rattle.promises.specs.Pdus.{carried}
use Rattle.promises.specs.Records.{is_got, sent_last}
use Rattle.law_node.specs.Bearers.{keys_in}
use Rattle.law_node.specs.Calls.{Call, Tick, Visits, Receive, Expire, Move}
use Rattle.law_node.specs.Telling.{told_of}
use Rattle.law_node.specs.Writing.{TellNone}
use Rattle.law_node.proofs.Looping.{tells_no_loop}
use Rattle.law_node.proofs.Silences.{writes_nothing}
use Rattle.law_deliver.specs.AmChannel.Arrival.{built_in, said_in, heard_in, said_over, heard_over, happens_in}
use Rattle.law_deliver.specs.AmChannel.Lives.{InLife, Moves, end_at, brought, calls_by}
use Rattle.law_deliver.specs.AmFlow.Air.{Block, Station, Air, Act, Calls, Comes, Goes, Step, AtNb, AtUe}
use Rattle.law_deliver.specs.AmFlow.Air.{Passes as TtiPasses, IsDone, IsGiven}
use Rattle.law_run.specs.TwoEnds.Logs.{LogEntry, Tells, Builds, Hears, all_tell, log_in, log_come, log_by, log_at}
use Rattle.law_run.specs.TwoEnds.Logs.{Flight, process_of, flight_behind, no_flight, logged_at, logged}
use Rattle.law_run.proofs.AnyCalls.Advancing.{none_if as none_if_some}
use Rattle.law_run.proofs.TwoEnds.Stages.{own_logged}
use Rattle.law_run.proofs.TwoEnds.QuietEvents.{unwritten, none_if, quiet_events}
use Rattle.law_run.proofs.TwoEnds.Visits.{own_tell, others_tell}
use Rattle.law_sound.proofs.Gathering.{back}
use Rattle.law_sound.proofs.Telling.{same_side}

-- ---- sides and directions

sent_way : (d : Direction) → sent_by (sender_of d) ≡ d
sent_way directions.Down = refl
sent_way directions.Up = refl

heard_way : (d : Direction) → heard_by (other (sender_of d)) ≡ d
heard_way directions.Down = refl
heard_way directions.Up = refl

apart : (side : Side) → is_same (other side) side ≡ false
apart Nb = refl
apart Ue = refl

-- ---- an entry of a log

abbrev pub entries_of_log : ℕ → ℕ → Side → LogEntry → List AccountEntry
entries_of_log bits l from (Tells own event) = only_if (is_same own from) (entries_given bits (told_on l (event ∷ [])))
entries_of_log bits l from (Builds own process octets) =
    only_if (is_same own from) (entries_written (carried l (sent_by own) octets))
entries_of_log bits l from (Hears own process octets) =
    only_if (is_same (other own) from) (entries_come (carried l (heard_by own) octets))

-- what the loop drops is nothing that is written
loop_unwritten : (e : Event) → is_of_loop e ≡ true → is_of_writing e ≡ false
loop_unwritten (events.Drop lcid why) q = refl
loop_unwritten e q = absurd (let no : false ≡ true = q in cc)

written_both : (xs ys : List (List ℕ)) → entries_written (xs ++ ys) ≡ entries_written xs ++ entries_written ys
written_both xs ys =
    ap entries_passed (map-append (λ (pdu : List ℕ). Writes pdu) xs ys)
    ∙ map-append (λ (p : Passing). Passes p) (map (λ (pdu : List ℕ). Writes pdu) xs)
    (map (λ (pdu : List ℕ). Writes pdu) ys)

module _ (bits l : ℕ) (from : Side) where
  abbrev pub entries_of_all : List LogEntry → List AccountEntry
  entries_of_all hs = flat_map (entries_of_log bits l from) hs

  entries_both : (hs gs : List LogEntry) → entries_of_all (hs ++ gs) ≡ entries_of_all hs ++ entries_of_all gs
  entries_both hs gs = flat_map-append (entries_of_log bits l from) hs gs

  -- ---- of records

  event_tells : (side : Side) (event : Event) (b : Bool) → is_of_loop event ≡ b
      → only_if (is_same side from) (entries_given bits (told_on l (event ∷ [])))
      ≡ entries_of_all (if b then [] else Tells side event ∷ [])
  event_tells side event true q =
      none_if (is_same side from) (entries_given bits (told_on l (event ∷ [])))
      (unwritten bits l event (loop_unwritten event q))
  event_tells side event false q =
      sym (append-nil (only_if (is_same side from) (entries_given bits (told_on l (event ∷ [])))))

  block_tells : (d : Direction) (process : ℕ) (octets : List ℕ)
      → only_if (is_same (sender_of d) from) (entries_written (carried l d octets))
      ≡ entries_of_all (Builds (sender_of d) process octets ∷ [])
  block_tells d process octets =
      ap (λ (w : Direction). only_if (is_same (sender_of d) from) (entries_written (carried l w octets)))
      (sym (sent_way d))
      ∙ sym (append-nil (entries_of_log bits l from (Builds (sender_of d) process octets)))

  air_tells : (got : Bool) (d : Direction) (process : ℕ) (octets : List ℕ)
      → only_if (got && is_same (sender_of d) from) (entries_come (carried l d octets))
      ≡ entries_of_all (if got then Hears (other (sender_of d)) process octets ∷ [] else [])
  air_tells true d process octets =
      ap (λ (w : Direction). only_if (is_same (sender_of d) from) (entries_come (carried l w octets)))
      (sym (heard_way d))
      ∙ ap (λ (s : Side). only_if (is_same s from) (entries_come (carried l (heard_by (other (sender_of d))) octets)))
      (sym (back (sender_of d)))
      ∙ sym (append-nil (entries_of_log bits l from (Hears (other (sender_of d)) process octets)))
  air_tells false d process octets = refl

  record_tells : (sent : Flight) (one : Record)
      → entries_at bits l from sent.octets one ≡ entries_of_all (logged_at sent one)
  record_tells sent (records.Of side event) = event_tells side event (is_of_loop event) refl
  record_tells sent (records.Block direction process true version octets) = block_tells direction process octets
  record_tells sent (records.Block direction process false version octets) = refl
  record_tells sent (records.Air direction what heard) =
      air_tells (is_got what) direction (process_of (sender_of direction) sent) sent.octets
  record_tells sent one = refl

  pub records_tell : (sent : Flight) (told : List Record)
      → entries_in bits l from sent.octets told ≡ entries_of_all (logged sent told)
  records_tell sent [] = refl
  records_tell sent (one ∷ told) =
      ap (λ (hs : List AccountEntry). hs ++ entries_in bits l from (sent_last one sent.octets) told)
      (record_tells sent one)
      ∙ ap (λ (hs : List AccountEntry). entries_of_all (logged_at sent one) ++ hs)
      (records_tell (flight_behind one sent) told)
      ∙ sym (entries_both (logged_at sent one) (logged (flight_behind one sent) told))

  -- ---- of what an end tells, as its records tell it

  events_tell : (side : Side) (e : End) (c : Call)
      → entries_of_all (all_tell side (told_of e c)) ≡ entries_in bits l from [] (map (records.Of side) (told_of e c))
  events_tell side e c =
      let told = map (records.Of side) (told_of e c) in
      ap entries_of_all (sym (own_logged side (told_of e c) (tells_no_loop e c) no_flight))
      ∙ sym (records_tell no_flight told)

  pub quiet_tells : (side : Side) (e : End) (c : Call) → TellNone (told_of e c)
      → entries_of_all (all_tell side (told_of e c)) ≡ []
  quiet_tells side e c quiet = events_tell side e c ∙ quiet_events side (told_of e c) quiet bits l from []

  other_tells : (e : End) (c : Call) → entries_of_all (all_tell (other from) (told_of e c)) ≡ []
  other_tells e c =
      events_tell (other from) e c
      ∙ ap (λ (s : Side). entries_in bits l s [] (map (records.Of (other from)) (told_of e c))) (sym (back from))
      ∙ others_tell bits l (other from) (told_of e c) []

  -- ---- and of what it builds

  abbrev all_built : Side → ℕ → List (List ℕ) → List LogEntry
  all_built side process blocks = map (λ (octets : List ℕ). Builds side process octets) blocks

  own_builds : (process : ℕ) (blocks : List (List ℕ))
      → entries_of_all (all_built from process blocks) ≡ entries_written (flat_map (carried l (sent_by from)) blocks)
  own_builds process [] = refl
  own_builds process (b ∷ bs) =
      let now = entries_written (carried l (sent_by from) b) in
      ap (λ (own : Bool). only_if own now ++ entries_of_all (all_built from process bs)) (same_side from)
      ∙ ap (λ (hs : List AccountEntry). now ++ hs) (own_builds process bs)
      ∙ sym (written_both (carried l (sent_by from) b) (flat_map (carried l (sent_by from)) bs))

  other_builds : (process : ℕ) (blocks : List (List ℕ)) → entries_of_all (all_built (other from) process blocks) ≡ []
  other_builds process [] = refl
  other_builds process (b ∷ bs) =
      ap (λ (own : Bool). only_if own (entries_written (carried l (sent_by (other from)) b))
      ++ entries_of_all (all_built (other from) process bs)) (apart from)
      ∙ other_builds process bs

  -- ---- a call of the side's end, which doesn't move, and one of the other end

  call_says : (process : ℕ) (e : End) (c : Call) → e.side ≡ from → keys_in c ≡ []
      → entries_of_all (log_in from process e c) ≡ said_in bits l e c
  call_says process e (Visits t) side stays =
      let es = told_of e (Visits t) in
      let bs = built_in e (Visits t) in
      entries_both (all_tell from es) (all_built from (t.tti % 8) bs)
      ∙ ap (λ (hs : List AccountEntry). hs ++ entries_of_all (all_built from (t.tti % 8) bs))
      (events_tell from e (Visits t) ∙ own_tell bits l from es [])
      ∙ ap (λ (hs : List AccountEntry). entries_given bits (told_on l es) ++ hs)
      (own_builds (t.tti % 8) bs
      ∙ ap (λ (s : Side). entries_written (flat_map (carried l (sent_by s)) bs)) (sym side))
  call_says process e (Receive block) side stays =
      ap (λ (own : Bool). only_if own (entries_come (carried l (heard_by from) block))
      ++ entries_of_all (all_tell from (received e block).events)) (apart from)
      ∙ quiet_tells from e (Receive block) ((writes_nothing e).receiving block)
  call_says process e Tick side stays = quiet_tells from e Tick (writes_nothing e).ticking
  call_says process e (Expire lcid clock) side stays =
      quiet_tells from e (Expire lcid clock)
      (none_if_some (expiry lcid clock e) ((writes_nothing e).expiring lcid clock))
  call_says process e (Move keys) side stays = let no : keys ∷ [] ≡ [] = stays in cc
  call_says process e c side stays = refl

  call_hears : (process : ℕ) (e : End) (c : Call) → e.side ≡ other from
      → entries_of_all (log_in (other from) process e c) ≡ heard_in l e c
  call_hears process e (Visits t) side =
      let bs = built_in e (Visits t) in
      entries_both (all_tell (other from) (told_of e (Visits t))) (all_built (other from) (t.tti % 8) bs)
      ∙ ap (λ (hs : List AccountEntry). hs ++ entries_of_all (all_built (other from) (t.tti % 8) bs))
      (other_tells e (Visits t))
      ∙ other_builds (t.tti % 8) bs
  call_hears process e (Receive block) side =
      let come = entries_come (carried l (heard_by (other from)) block) in
      let more = entries_of_all (all_tell (other from) (received e block).events) in
      ap (λ (s : Side). only_if (is_same s from) come ++ more) (back from)
      ∙ ap (λ (own : Bool). only_if own come ++ more) (same_side from)
      ∙ ap (λ (hs : List AccountEntry). come ++ hs) (other_tells e (Receive block))
      ∙ append-nil come
      ∙ ap (λ (s : Side). entries_come (carried l (heard_by s) block)) (sym side)
  call_hears process e c side = other_tells e c

  -- ---- what happens at either end

  act_says : (there s : Station) (x : Act) → s.end.side ≡ from → IsDone l s x
      → entries_of_all (log_by from there s.end x) ≡ said_over bits l (calls_by there x) s.end
  act_says there s (Calls c) side g =
      call_says 0 s.end c side g.1.moves_none ∙ sym (append-nil (said_in bits l s.end c))
  act_says there s (Comes k) side g = by (slice_get there.blocks k)
    where
      by : (o : Option Block) → entries_of_all (log_come from s.end o) ≡ said_over bits l (brought o) s.end
      by None = refl
      by (Some b) = call_says b.process s.end (Receive b.octets) side refl
  act_says there s (Goes k) side g = refl

  act_hears : (there s : Station) (x : Act) → s.end.side ≡ other from
      → entries_of_all (log_by (other from) there s.end x) ≡ heard_over l (calls_by there x) s.end
  act_hears there s (Calls c) side = call_hears 0 s.end c side ∙ sym (append-nil (heard_in l s.end c))
  act_hears there s (Comes k) side = by (slice_get there.blocks k)
    where
      by : (o : Option Block) → entries_of_all (log_come (other from) s.end o) ≡ heard_over l (brought o) s.end
      by None = refl
      by (Some b) =
          call_hears b.process s.end (Receive b.octets) side ∙ sym (append-nil (heard_in l s.end (Receive b.octets)))
  act_hears there s (Goes k) side = refl

-- ---- a step of a life

step_tells : (bits l : ℕ) (from : Side) (a : Air) (s : Step) → (end_at Nb a).side ≡ Nb → (end_at Ue a).side ≡ Ue
    → IsGiven l a s → entries_of_all bits l from (log_at a (InLife s)) ≡ happens_in bits l from a (InLife s)
step_tells bits l Nb a (AtNb x) nb ue g =
    act_says bits l Nb a.ue a.nb x nb g ∙ sym (append-nil (said_over bits l (calls_by a.ue x) a.nb.end))
step_tells bits l Nb a (AtUe x) nb ue g = act_hears bits l Nb a.nb a.ue x ue
step_tells bits l Nb a TtiPasses nb ue g = refl
step_tells bits l Ue a (AtNb x) nb ue g = act_hears bits l Ue a.ue a.nb x nb
step_tells bits l Ue a (AtUe x) nb ue g =
    act_says bits l Ue a.nb a.ue x ue g ∙ sym (append-nil (said_over bits l (calls_by a.nb x) a.ue.end))
step_tells bits l Ue a TtiPasses nb ue g = refl

pub entries_by_log : (bits l : ℕ) (from : Side) (sent : Flight) (a : Air) (s : Step) (told : List Record)
    → (end_at Nb a).side ≡ Nb → (end_at Ue a).side ≡ Ue → IsGiven l a s → logged sent told ≡ log_at a (InLife s)
    → entries_in bits l from sent.octets told ≡ happens_in bits l from a (InLife s)
entries_by_log bits l from sent a s told nb ue g same =
    records_tell bits l from sent told
    ∙ ap (entries_of_all bits l from) same
    ∙ step_tells bits l from a s nb ue g

-- as both ends leave their cells they write nothing, and nothing comes
pub none_by_moves : (bits l : ℕ) (from : Side) (sent : Flight) (a : Air) (keys : Keys) (told : List Record)
    → logged sent told ≡ log_at a (Moves keys) → entries_in bits l from sent.octets told ≡ []
none_by_moves bits l from sent a keys told same =
    let there = all_tell Ue (told_of a.ue.end (Move keys)) in
    records_tell bits l from sent told
    ∙ ap (entries_of_all bits l from) same
    ∙ entries_both bits l from (all_tell Nb (told_of a.nb.end (Move keys))) there
    ∙ ap (λ (hs : List AccountEntry). hs ++ entries_of_all bits l from there)
    (quiet_tells bits l from Nb a.nb.end (Move keys) (writes_nothing a.nb.end).moving)
    ∙ quiet_tells bits l from Ue a.ue.end (Move keys) (writes_nothing a.ue.end).moving
