-- What the records of a visit tell, and of what goes by air.
use Rattle.std.proofs.Common.{◌≡◌, ℕ, ◌%◌, Bool, true, false, ◌&&◌, cond, Option}
use Rattle.std.proofs.Common.{List, [], ◌∷◌, ◌++◌, map, append-nil, refl, ap, sym, subst, ◌∙◌}
use Rattle.std.specs.Prelude.{slice_get}
use Rattle.std.specs.List.{AllByRecursion, flat_map}
use Rattle.std.proofs.lemmas.Grind.{flat_map-append}
use Rattle.std.proofs.lemmas.List.{map-append}
use Rattle.bearer_types.specs.declared.event.Event.{Event}
use Rattle.air_record.specs.declared.record.Record.{Record}
use Rattle.air_record.specs.declared.record.Record.TheVariants as records
use Rattle.harq.specs.declared.sender.Order.{Order}
use Rattle.harq.specs.declared.sender.Visit.{Visit}
use Rattle.harq.specs.declared.sender.Visit.TheVariants.{New, Resend, Silent as Quiet}
use Rattle.harq.specs.Sending.{after_feedback}
use Rattle.l2_node.specs.Building.{visit, visited, built, building}
use Rattle.l2_node.specs.End.{End}
use Rattle.bearer_types.specs.Sides.{sent_by, other, is_same, sender_of}
use Rattle.l2_types.specs.declared.side.Side.{Side}
use Rattle.l2_types.specs.declared.side.Side.TheVariants.{Nb, Ue}
use Rattle.law_node.specs.Calls.{Turn, Visits, answered, after as after_call}
use Rattle.law_node.proofs.Looping.{tells_no_loop}
use Rattle.pdu_show.specs.Show.{block_shown}
use Rattle.pdu_show.specs.declared.kinds.Layout.{Layout}
use Rattle.air_link.specs.Downlink.{block_at}
use Rattle.promises.specs.Records.{is_looped, events_of, is_shown, sent_last}
use Rattle.promises.specs.Loops.{looped}
use Rattle.law_run.proofs.AnyCalls.Blocks.{block_is}
use Rattle.law_run.proofs.AnyCalls.Going.{own_told, other_told, told_both}
use Rattle.law_run.proofs.AnyCalls.Returning.{IsSilent}
use Rattle.law_run.proofs.AnyCalls.Blocks.{block_is}
use Rattle.promises.proofs.ShownBlocks.{AllShown, block_shows}
use Rattle.law_run.proofs.AnyCalls.Showing.{shown_untold, block_is_silent}
use Rattle.law_run.proofs.AnyCalls.Visiting.{sent, visit_records}
use Rattle.law_deliver.specs.AmFlow.Air.{HasCome, Block, Station, built_at}
use Rattle.promises.specs.Flows.{loops_in}
use Rattle.law_words.specs.Arrivals.{Given, AccountEntry, Gives}
use Rattle.promises.specs.Given.{given_in, entries_of, entries_given, entries_written}
use Rattle.promises.specs.Pdus.{carried}
use Rattle.promises.specs.Events.{is_on, told_on}
use Rattle.law_deliver.proofs.AmFlow.Stations.{come_side}
use Rattle.law_deliver.specs.AmChannel.Arrival.{said_in}
use Rattle.mac_pdu.specs.Reading.{reading}
use Rattle.l2_node.specs.Writing.{new_block}
use Rattle.promises.specs.Arrival.{only_if, entries_at, entries_in}
use Rattle.law_run.specs.TwoEnds.Logs.{LogEntry, Builds, all_tell, log_in, Flight, flight_behind, logged_at, logged}
use Rattle.law_run.specs.TwoEnds.Logs.{last_in, flight_in}
use Rattle.law_run.proofs.TwoEnds.Along.{flight_more, logged_more, looped_more}
use Rattle.law_run.proofs.TwoEnds.Going.{Block', Fits, tells_more}
use Rattle.law_run.proofs.TwoEnds.Showing.{IsSending}
use Rattle.law_run.proofs.TwoEnds.Stages.{own_logged}
use Rattle.law_run.proofs.TwoEnds.Stages.{unlooped_by, events_unlooped}
use Rattle.law_run.proofs.TwoEnds.Blocks.{Flown, Visiting}
use Rattle.law_run.proofs.TwoEnds.Blocks.{answer_to}
use Rattle.law_run.proofs.TwoEnds.Stations.{come_eight, left_by, Sends, sends_new, sends_again}

-- ---- a visit, with the feedback on what is sent

abbrev pub turn_of : ℕ → ℕ → Order → Bool → Turn
turn_of t grant order good = record { tti = t; grant = grant; order = order; good = good }

abbrev pub fed : ℕ → Bool → End → End
fed t good e = record e { sender = after_feedback e.sender t good }

-- a visit in which something is sent
abbrev pub IsLoud : Visit → Type 0
IsLoud v = (t : Turn) (e : End) → answered v t e ≡ fed t.tti t.good e

-- the block that is sent is under way
abbrev pub IsSent : Visit → Side → Turn → End → Type 0
IsSent v side t e = (s : Station) → Visiting side t e s
    → Flown (block_at t.tti (built t.tti t.grant t.order e)) (t.tti % 8) s

flown_by : (v : Visit) (side : Side) (t : Turn) (e : End) (s : Station) (h : Visiting side t e s)
    → answer_to t h.was.end ≡ v → Sends side t h.was h.stands v
    → Flown (block_at t.tti (built t.tti t.grant t.order e)) (t.tti % 8) s
flown_by v side t e s h is x = record {
  place = x.place;
  block = x.block;
  process_is = x.process_is;
  there = ap (λ (y : Station). slice_get y.blocks x.place) h.is
      ∙ ap (λ (w : Visit). slice_get (built_at w t (visited t.tti t.order h.was.end) ++ left_by w t.tti h.was)
      x.place) is ∙ x.there;
  octets_are = x.octets_are ∙ ap (λ (y : End). block_at t.tti (built t.tti t.grant t.order y)) h.end_is;
}

pub flown_new : (side : Side) (t : Turn) (e : End) → visit t.tti t.order e ≡ New → IsSent New side t e
flown_new side t e is s h =
    let new = ap (answer_to t) h.end_is ∙ is in
    flown_by New side t e s h new (sends_new side t h.was h.stands new)

pub flown_again : (rv : ℕ) (side : Side) (t : Turn) (e : End) → visit t.tti t.order e ≡ Resend rv
    → IsSent (Resend rv) side t e
flown_again rv side t e is s h =
    let again = ap (answer_to t) h.end_is ∙ is in
    flown_by (Resend rv) side t e s h again (sends_again side t h.was h.stands rv again)

-- ---- what the records of a visit tell

pub building_own : (side : Side) (t : Turn) (e : End)
    → events_of side (map (records.Of side) (building t.tti t.grant t.order e)) ≡ building t.tti t.grant t.order e
building_own side t e = own_told side (building t.tti t.grant t.order e) (tells_no_loop e (Visits t))

sent_untold : (v : Visit) (side by : Side) (t : ℕ) (kinds : List (Option Layout)) (octets : List ℕ)
    → events_of side (sent v by t kinds octets) ≡ []
sent_untold New side by t kinds octets = shown_untold side (sent_by by) kinds octets
sent_untold (Resend rv) side by t kinds octets = refl
sent_untold Quiet side by t kinds octets = refl

pub visit_own : (v : Visit) (side : Side) (t : Turn) (kinds : List (Option Layout)) (octets : List ℕ) (e : End)
    → events_of side (visit_records v side t.tti t.grant t.order kinds octets e) ≡ building t.tti t.grant t.order e
visit_own v side t kinds octets e =
    let es = building t.tti t.grant t.order e in
    told_both side (map (records.Of side) es) (sent v side t.tti kinds octets) es [] (building_own side t e)
    (sent_untold v side side t.tti kinds octets) ∙ append-nil es

pub visit_other : (v : Visit) (side : Side) (t : Turn) (kinds : List (Option Layout)) (octets : List ℕ) (e : End)
    → events_of (other side) (visit_records v side t.tti t.grant t.order kinds octets e) ≡ []
visit_other v side t kinds octets e =
    let es = building t.tti t.grant t.order e in
    told_both (other side) (map (records.Of side) es) (sent v side t.tti kinds octets) [] [] (other_told side es)
    (sent_untold v (other side) side t.tti kinds octets)

-- ---- and of what goes by air

-- one event after the other
gives_then : (bits : ℕ) (xs ys : List Event) → entries_given bits (xs ++ ys)
    ≡ entries_given bits xs ++ entries_given bits ys
gives_then bits xs ys = ap entries_of (flat_map-append (given_in bits) xs ys)
    ∙ map-append (λ (g : Given). Gives g) (flat_map (given_in bits) xs) (flat_map (given_in bits) ys)

told_first : (l : ℕ) (e : Event) (es : List Event) → told_on l (e ∷ es) ≡ told_on l (e ∷ []) ++ told_on l es
told_first l e es = by (is_on l e)
  where
    by : (b : Bool) → cond b (e ∷ told_on l es) (told_on l es) ≡ cond b (e ∷ []) [] ++ told_on l es
    by true = refl
    by false = refl

pub own_tell : (bits l : ℕ) (side : Side) (es : List Event) (sent : List ℕ)
    → entries_in bits l side sent (map (records.Of side) es) ≡ entries_given bits (told_on l es)
own_tell bits l side [] sent = refl
own_tell bits l side (e ∷ es) sent =
    ap (λ (b : Bool). only_if b (entries_given bits (told_on l (e ∷ [])))
    ++ entries_in bits l side sent (map (records.Of side) es)) (itself side)
    ∙ (ap (λ (hs : List AccountEntry). entries_given bits (told_on l (e ∷ [])) ++ hs) (own_tell bits l side es sent)
    ∙ (sym (gives_then bits (told_on l (e ∷ [])) (told_on l es)) ∙ ap (entries_given bits) (sym (told_first l e es))))
  where
    itself : (s : Side) → is_same s s ≡ true
    itself Nb = refl
    itself Ue = refl

pub others_tell : (bits l : ℕ) (side : Side) (es : List Event) (sent : List ℕ)
    → entries_in bits l (other side) sent (map (records.Of side) es) ≡ []
others_tell bits l side [] sent = refl
others_tell bits l side (e ∷ es) sent =
    ap (λ (b : Bool). only_if b (entries_given bits (told_on l (e ∷ [])))
    ++ entries_in bits l (other side) sent (map (records.Of side) es)) (apart side)
    ∙ others_tell bits l side es sent
  where
    apart : (s : Side) → is_same s (other s) ≡ false
    apart Nb = refl
    apart Ue = refl

-- nor does what shows a block
shown_at : (bits l : ℕ) (from : Side) (sent : List ℕ) (one : Record) → is_shown one ≡ true
    → entries_at bits l from sent one ≡ []
shown_at bits l from sent (records.Of side event) e = cc
shown_at bits l from sent (records.Block direction process fresh version octets) e = cc
shown_at bits l from sent (records.Air direction what heard) e = cc
shown_at bits l from sent one e = refl

shown_last : (one : Record) (sent : Flight) → is_shown one ≡ true → flight_behind one sent ≡ sent
shown_last (records.Block direction process fresh version octets) sent e = cc
shown_last one sent e = refl

shown_tell : (told : List Record) → AllShown told → (bits l : ℕ) (from : Side) (sent : List ℕ)
    → entries_in bits l from sent told ≡ []
shown_tell [] a bits l from sent = refl
shown_tell (one ∷ told) a bits l from sent =
    ap (λ (hs : List AccountEntry). hs ++ entries_in bits l from (sent_last one sent) told)
    (shown_at bits l from sent one a.0) ∙ shown_tell told a.1 bits l from (sent_last one sent)

shown_leave : (told : List Record) → AllShown told → (sent : Flight) → flight_in told sent ≡ sent
shown_leave [] a sent = refl
shown_leave (one ∷ told) a sent = shown_leave told a.1 (flight_behind one sent) ∙ shown_last one sent a.0

-- behind the block its side's process and its octets are known
block_leaves : (side : Side) (p : ℕ) (fresh : Bool) (rv : ℕ) (octets : List ℕ) (sent' : Flight)
    → Fits (Block' side octets p) (flight_behind (records.Block (sent_by side) p fresh rv octets) sent')
block_leaves Nb p fresh rv octets sent' = (refl, refl)
block_leaves Ue p fresh rv octets sent' = (refl, refl)

sent_leave : (v : Visit) (side : Side) (t : ℕ) (kinds : List (Option Layout)) (octets : List ℕ) (sent' : Flight)
    → IsSending v → Fits (Block' side octets (t % 8)) (flight_in (sent v side t kinds octets) sent')
sent_leave New side t kinds octets sent' s =
    subst (Fits (Block' side octets (t % 8)))
    (sym (shown_leave (block_shown (sent_by side) kinds octets) (block_shows kinds (reading (sent_by side) octets))
    (flight_behind (records.Block (sent_by side) (t % 8) true 0 octets) sent')))
    (block_leaves side (t % 8) true 0 octets sent')
sent_leave (Resend rv) side t kinds octets sent' s = block_leaves side (t % 8) false rv octets sent'
sent_leave Quiet side t kinds octets sent' s = absurd s

pub visit_last : (v : Visit) (side : Side) (t : Turn) (kinds : List (Option Layout)) (octets : List ℕ) (e : End)
    (sent' : Flight) → IsSending v
    → Fits (Block' side octets (t.tti % 8))
    (flight_in (visit_records v side t.tti t.grant t.order kinds octets e) sent')
visit_last v side t kinds octets e sent' s =
    let told = map (records.Of side) (building t.tti t.grant t.order e) in
    subst (Fits (Block' side octets (t.tti % 8))) (flight_more told (sent v side t.tti kinds octets) sent')
    (sent_leave v side t.tti kinds octets (flight_in told sent') s)

-- the block, by its sender
sent_tells : (v : Visit) (bits l : ℕ) (side : Side) (t : Turn) (kinds : List (Option Layout)) (octets : List ℕ)
    (e : End) (sent' : List ℕ) → visit t.tti t.order e ≡ v → HasCome side e
    → octets ≡ block_at t.tti (built t.tti t.grant t.order e)
    → entries_in bits l side sent' (sent v side t.tti kinds octets)
    ≡ entries_written
    (flat_map (carried l (sent_by e.side)) (map (λ (x : Block). x.octets) (built_at v t (visited t.tti t.order e))))
sent_tells New bits l side t kinds octets e sent' is come are =
    let own : (new_block (visited t.tti t.order e) t.grant) ≡ octets =
    sym (block_is t.tti t.grant t.order e (come_eight side e come) is) ∙ sym are in
    ap (λ (b : Bool). only_if b (entries_written (carried l (sent_by side) octets))
    ++ entries_in bits l side octets (block_shown (sent_by side) kinds octets)) (itself side)
    ∙ (ap (λ (hs : List AccountEntry). entries_written (carried l (sent_by side) octets) ++ hs)
    (shown_tell (block_shown (sent_by side) kinds octets) (block_shows kinds (reading (sent_by side) octets)) bits l
    side octets)
    ∙ (append-nil (entries_written (carried l (sent_by side) octets))
    ∙ (ap (λ (o : List ℕ). entries_written (carried l (sent_by side) o)) (sym own)
    ∙ (ap (λ (s : Side). entries_written (carried l (sent_by s) (new_block (visited t.tti t.order e) t.grant)))
    (sym (come_side side e come))
    ∙ ap entries_written (sym (append-nil (carried l (sent_by e.side)
    (new_block (visited t.tti t.order e) t.grant))))))))
  where
    itself : (s : Side) → (true && is_same (sender_of (sent_by s)) s) ≡ true
    itself Nb = refl
    itself Ue = refl
sent_tells (Resend rv) bits l side t kinds octets e sent' is come are = refl
sent_tells Quiet bits l side t kinds octets e sent' is come are = refl

pub visit_says : (v : Visit) (bits l : ℕ) (side : Side) (t : Turn) (kinds : List (Option Layout)) (octets : List ℕ)
    (e : End) (sent' : List ℕ) → visit t.tti t.order e ≡ v → HasCome side e
    → octets ≡ block_at t.tti (built t.tti t.grant t.order e)
    → said_in bits l e (Visits t)
    ≡ entries_in bits l side sent' (visit_records v side t.tti t.grant t.order kinds octets e)
visit_says v bits l side t kinds octets e sent' is come are =
    let es = building t.tti t.grant t.order e in
    let xs = map (records.Of side) es in
    let ys = sent v side t.tti kinds octets in
    let f = visited t.tti t.order e in
    ap (λ (w : Visit). entries_given bits (told_on l es)
    ++ entries_written (flat_map (carried l (sent_by e.side)) (map (λ (x : Block). x.octets) (built_at w t f)))) is
    ∙ (ap (λ (hs : List AccountEntry). entries_given bits (told_on l es) ++ hs)
    (sym (sent_tells v bits l side t kinds octets e (last_in xs sent') is come are))
    ∙ (ap (λ (hs : List AccountEntry). hs ++ entries_in bits l side (last_in xs sent') ys)
    (sym (own_tell bits l side es sent')) ∙ sym (tells_more bits l side sent' xs ys)))

sent_hears : (v : Visit) (bits l : ℕ) (side : Side) (t : ℕ) (kinds : List (Option Layout)) (octets sent' : List ℕ)
    → entries_in bits l (other side) sent' (sent v side t kinds octets) ≡ []
sent_hears New bits l side t kinds octets sent' =
    ap (λ (b : Bool). only_if b (entries_written (carried l (sent_by side) octets))
    ++ entries_in bits l (other side) octets (block_shown (sent_by side) kinds octets)) (apart side)
    ∙ shown_tell (block_shown (sent_by side) kinds octets) (block_shows kinds (reading (sent_by side) octets)) bits l
    (other side) octets
  where
    apart : (s : Side) → (true && is_same (sender_of (sent_by s)) (other s)) ≡ false
    apart Nb = refl
    apart Ue = refl
sent_hears (Resend rv) bits l side t kinds octets sent' = refl
sent_hears Quiet bits l side t kinds octets sent' = refl

pub visit_hears : (v : Visit) (bits l : ℕ) (side : Side) (t : Turn) (kinds : List (Option Layout)) (octets : List ℕ)
    (e : End) (sent' : List ℕ)
    → entries_in bits l (other side) sent' (visit_records v side t.tti t.grant t.order kinds octets e) ≡ []
visit_hears v bits l side t kinds octets e sent' =
    let es = building t.tti t.grant t.order e in
    let xs = map (records.Of side) es in
    let ys = sent v side t.tti kinds octets in
    tells_more bits l (other side) sent' xs ys
    ∙ (ap (λ (hs : List AccountEntry). hs ++ entries_in bits l (other side) (last_in xs sent') ys)
    (others_tell bits l side es sent') ∙ sent_hears v bits l side t.tti kinds octets (last_in xs sent'))

pub quiet_says : (bits l : ℕ) (side : Side) (t : Turn) (e : End) (sent' : List ℕ) → visit t.tti t.order e ≡ Quiet
    → said_in bits l e (Visits t)
    ≡ entries_in bits l side sent' (map (records.Of side) (building t.tti t.grant t.order e))
quiet_says bits l side t e sent' is =
    let es = building t.tti t.grant t.order e in
    ap (λ (w : Visit). entries_given bits (told_on l es)
    ++ entries_written
    (flat_map (carried l (sent_by e.side))
    (map (λ (x : Block). x.octets) (built_at w t (visited t.tti t.order e))))) is
    ∙ (append-nil (entries_given bits (told_on l es)) ∙ sym (own_tell bits l side es sent'))

-- and in one order
shown_log_at : (sent : Flight) (one : Record) → is_shown one ≡ true → logged_at sent one ≡ []
shown_log_at sent (records.Of side event) e = cc
shown_log_at sent (records.Block direction process fresh version octets) e = cc
shown_log_at sent (records.Air direction what heard) e = cc
shown_log_at sent one e = refl

shown_log : (told : List Record) → AllShown told → (sent : Flight) → logged sent told ≡ []
shown_log [] a sent = refl
shown_log (one ∷ told) a sent =
    ap (λ (hs : List LogEntry). hs ++ logged (flight_behind one sent) told) (shown_log_at sent one a.0)
    ∙ shown_log told a.1 (flight_behind one sent)

abbrev all_built : Side → ℕ → List (List ℕ) → List LogEntry
all_built side t blocks = map (λ (octets : List ℕ). Builds side (t % 8) octets) blocks

sent_logs : (v : Visit) (side : Side) (t : Turn) (kinds : List (Option Layout)) (octets : List ℕ) (e : End)
    (sent' : Flight) → visit t.tti t.order e ≡ v → HasCome side e
    → octets ≡ block_at t.tti (built t.tti t.grant t.order e)
    → logged sent' (sent v side t.tti kinds octets)
    ≡ all_built side t.tti (map (λ (x : Block). x.octets) (built_at v t (visited t.tti t.order e)))
sent_logs New side t kinds octets e sent' is come are =
    let own : (new_block (visited t.tti t.order e) t.grant) ≡ octets =
    sym (block_is t.tti t.grant t.order e (come_eight side e come) is) ∙ sym are in
    ap (λ (hs : List LogEntry). Builds (sender_of (sent_by side)) (t.tti % 8) octets ∷ hs)
    (shown_log (block_shown (sent_by side) kinds octets) (block_shows kinds (reading (sent_by side) octets))
    (flight_behind (records.Block (sent_by side) (t.tti % 8) true 0 octets) sent'))
    ∙ (ap (λ (s : Side). Builds s (t.tti % 8) octets ∷ []) (itself side)
    ∙ ap (λ (o : List ℕ). Builds side (t.tti % 8) o ∷ []) (sym own))
  where
    itself : (s : Side) → sender_of (sent_by s) ≡ s
    itself Nb = refl
    itself Ue = refl
sent_logs (Resend rv) side t kinds octets e sent' is come are = refl
sent_logs Quiet side t kinds octets e sent' is come are = refl

pub visit_logs : (v : Visit) (side : Side) (t : Turn) (kinds : List (Option Layout)) (octets : List ℕ) (e : End)
    (sent' : Flight) → visit t.tti t.order e ≡ v → HasCome side e
    → octets ≡ block_at t.tti (built t.tti t.grant t.order e)
    → log_in side 0 e (Visits t) ≡ logged sent' (visit_records v side t.tti t.grant t.order kinds octets e)
visit_logs v side t kinds octets e sent' is come are =
    let es = building t.tti t.grant t.order e in
    let xs = map (records.Of side) es in
    let ys = sent v side t.tti kinds octets in
    let f = visited t.tti t.order e in
    ap (λ (w : Visit). all_tell side es ++ all_built side t.tti (map (λ (x : Block). x.octets) (built_at w t f))) is
    ∙ (ap (λ (hs : List LogEntry). all_tell side es ++ hs)
    (sym (sent_logs v side t kinds octets e (flight_in xs sent') is come are))
    ∙ (ap (λ (hs : List LogEntry). hs ++ logged (flight_in xs sent') ys)
    (sym (own_logged side es (tells_no_loop e (Visits t)) sent')) ∙ sym (logged_more sent' xs ys)))

pub quiet_logs : (side : Side) (t : Turn) (e : End) (sent' : Flight) → visit t.tti t.order e ≡ Quiet
    → log_in side 0 e (Visits t) ≡ logged sent' (map (records.Of side) (building t.tti t.grant t.order e))
quiet_logs side t e sent' is =
    let es = building t.tti t.grant t.order e in
    ap (λ (w : Visit). all_tell side es
    ++ all_built side t.tti (map (λ (x : Block). x.octets) (built_at w t (visited t.tti t.order e)))) is
    ∙ (append-nil (all_tell side es) ∙ sym (own_logged side es (tells_no_loop e (Visits t)) sent'))

-- and of no SDU of the test loop
not_looped : (n : ℕ) (one : Record) → looped one ≡ [] → is_looped n one ≡ false
not_looped n (records.Looped lcid octets) e = absurd cc
not_looped n one e = refl

pub silent_unlooped : (n : ℕ) (told : List Record) → AllByRecursion IsSilent told → loops_in n told ≡ []
silent_unlooped n [] a = refl
silent_unlooped n (one ∷ more) a = unlooped_by n one more (not_looped n one a.0.none_back) (silent_unlooped n more a.1)

sent_unlooped : (v : Visit) (side : Side) (t : ℕ) (kinds : List (Option Layout)) (octets : List ℕ) (n : ℕ)
    → loops_in n (sent v side t kinds octets) ≡ []
sent_unlooped New side t kinds octets n =
    silent_unlooped n (block_shown (sent_by side) kinds octets) (block_is_silent (sent_by side) kinds octets)
sent_unlooped (Resend rv) side t kinds octets n = refl
sent_unlooped Quiet side t kinds octets n = refl

pub visit_unlooped : (v : Visit) (side : Side) (t : Turn) (kinds : List (Option Layout)) (octets : List ℕ) (e : End)
    (n : ℕ) → loops_in n (visit_records v side t.tti t.grant t.order kinds octets e) ≡ []
visit_unlooped v side t kinds octets e n =
    let xs = map (records.Of side) (building t.tti t.grant t.order e) in
    let ys = sent v side t.tti kinds octets in
    sym (looped_more Ue n xs ys)
    ∙ ap (λ (x : List (List ℕ)). x ++ loops_in n ys) (events_unlooped n side (building t.tti t.grant t.order e))
    ∙ sent_unlooped v side t.tti kinds octets n

-- the end behind a visit and the feedback
pub fed_is : (v : Visit) (t : Turn) (e : End) → visit t.tti t.order e ≡ v → IsLoud v
    → fed t.tti t.good (built t.tti t.grant t.order e) ≡ after_call e (Visits t)
fed_is v t e is loud =
    let f = built t.tti t.grant t.order e in
    sym (ap (λ (w : Visit). answered w t f) is ∙ loud t f)

pub quiet_is : (t : Turn) (e : End) → visit t.tti t.order e ≡ Quiet
    → built t.tti t.grant t.order e ≡ after_call e (Visits t)
quiet_is t e is = sym (ap (λ (w : Visit). answered w t (built t.tti t.grant t.order e)) is)
